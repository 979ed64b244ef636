-- The rows of sections from number i on, whose instructions stand from word k on. Assumes nothing.
use mathlib.Core.Path.{◌≡◌, refl, sym, ap, ◌∙◌}
use mathlib.Core.List.{List, [], ◌∷◌, ◌++◌, map, append-nil}
use Prim.Native.Nat.{ℕ, suc, ◌+◌, ◌≤◌, ◌<◌}
use native.Mathlib.Numerals.{add-one}
use native.Mathlib.Omega.{arith}
use lib.ListN.{length, take, drop, get_or, length-map, length-drop}
use lib.Seq.{drop-cons, drop-length, length-take-le}
use Rattle.rules.specs.Word.{wordIns, wordRun}
use Rattle.rules.specs.Machine.{SectionCode}
use Rattle.rules.specs.Tables.{readSections}
use Rattle.rules.specs.Listing.{rowsI, rowsS}
use Rattle.tables.specs.Runs.{countOf, total, sectionOf}
use Rattle.tables.proofs.Read.{read-nil, read-cons, count-is, total-cons}
use Rattle.listing.specs.Rows.{sectionRow}
use Rattle.text.proofs.Writes.{Are}

pub rows-nil : (i : ℕ) → rowsS i [] ≡ []
unfolding rowsS
rows-nil i = refl

-- a section of word w, whose instructions are the first of the words is
rows-cons : (i w : ℕ) (is : List ℕ) (ss : List SectionCode) → countOf w ≤ length is → rowsS i (sectionOf w is ∷ ss) ≡ sectionRow i w ++ (rowsI (map wordIns (take (countOf w) is)) ++ rowsS (suc i) ss)
unfolding rowsS sectionRow countOf
rows-cons i w is ss h = let e : length (map wordIns (take (wordRun w).count is)) ≡ (wordRun w).count = simp length-map (length-take-le (wordRun w).count is h) in rw e

module _ (i : ℕ) (ss is : List ℕ) where
  pub sections-none : length ss ≤ i → i ≤ length ss → Are [] (rowsS i (readSections (drop i ss) is))
  sections-none a b = let z : i ≡ length ss = omega arith in record { flat-is = rw (z, drop-length, read-nil, rows-nil) }

  module _ (a : i < length ss) (l : total (drop i ss) ≡ length is) (m : ℕ) (m-is : m ≡ (wordRun (get_or ss i 0)).count) where
    counts : countOf (get_or ss i 0) ≡ m
    counts = sym (m-is ∙ count-is (get_or ss i 0))

    adds : m + total (drop (i + 1) ss) ≡ length is
    adds =
        let t : total (drop i ss) ≡ countOf (get_or ss i 0) + total (drop (suc i) ss) = ap total (drop-cons ss i 0 a) ∙ total-cons (get_or ss i 0) (drop (suc i) ss) in
        let q = counts in
        rw (add-one i) (omega arith)

    pub own-there : m ≤ length is
    own-there = omega (arith, adds)

    pub left-more : {behind : List ℕ} → behind ≡ drop m is → total (drop (i + 1) ss) ≡ length behind
    left-more e = rw (e, length-drop) (omega (arith, adds))

    pub sections-more : {own behind : List ℕ} → own ≡ take m is → behind ≡ drop m is → Are (sectionRow i (get_or ss i 0) ∷ rowsI (map wordIns own) ∷ rowsS (i + 1) (readSections (drop (i + 1) ss) behind) ∷ []) (rowsS i (readSections (drop i ss) is))
    sections-more x y =
        let w = get_or ss i 0 in
        let q = counts in
        let h : countOf w ≤ length is = omega (arith, own-there) in
        let r : rowsS i (readSections (drop i ss) is) ≡ sectionRow i w ++ (rowsI (map wordIns (take (countOf w) is)) ++ rowsS (suc i) (readSections (drop (suc i) ss) (drop (countOf w) is))) =
        ap (λ (x : List ℕ). rowsS i (readSections x is)) (drop-cons ss i 0 a) ∙ ap (rowsS i) (read-cons w (drop (suc i) ss) is) ∙ rows-cons i w is _ h in
        record { flat-is = sym (r ∙ rw (x, y, q, add-one, append-nil)) }
