-- The numbers that clean gives are those of `rank`; what it refuses, told of words. Assumes nothing.
use mathlib.Core.Path.{◌≡◌, refl, sym, ap, ◌∙◌}
use mathlib.Core.Bool.{Bool, true, false, cond}
use mathlib.Core.List.{List, [], ◌∷◌, ◌++◌, map, append-nil}
use Prim.Native.Nat.{ℕ, zero, suc, pred, ◌+◌, ◌<◌, ◌≤◌}
use native.Mathlib.Omega.{arith}
use native.Mathlib.Nat.{zero-add}
use lib.Dec.{ltb}
use lib.ListN.{length, take, drop, get_or, set, length-map, length-drop, length-take, take-append-drop}
use lib.Seq.{drop-set-lt, take_all}
use borrow.Author.Tests.{ltb-true, ltb-false}
use Rattle.rules.specs.Instr.{isJump}
use Rattle.rules.specs.Constants.{mark, mostCount}
use Rattle.rules.specs.Word.{wordRun, wordIns}
use Rattle.rules.specs.Machine.{SectionCode, isFixed, absent}
use Rattle.rules.specs.Tables.{successOf, readSections, allb}
use Rattle.rules.specs.Clean.{keep, rank}
use Rattle.rules.specs.Operations.{fixedHere, jumpFixed, jumpsFixed}
use Rattle.std.proofs.Math.ListN.{drop_of_length-le}
use Rattle.std.proofs.lemmas.List.{nil_from_length, drop_more}
use Rattle.laws.specs.Sections.{keep-length}
use Rattle.tables.specs.Runs.{fixedWord, countOf, total, sectionOf}
use Rattle.tables.proofs.Read.{read-nil, read-cons, read-length, all-nil, all-cons, fixed-is}
use Rattle.tables.proofs.InPlace.{store-more}
use Rattle.clean.specs.Pass.{firstOf, withFirst, bump, bumps, numbered, newNumber, jumpIn}
use Rattle.clean.proofs.Fields.{first-is}

-- ---- the loop that numbers

module _ (s : List ℕ) (i k : ℕ) where
  pub number-done : length s ≤ i → take i s ++ numbered k (drop i s) ≡ s
  unfolding numbered
  number-done h = rw (take_all i s h, drop_of_length-le s h, append-nil)

  pub bumps-done : length s ≤ i → k ≡ bumps k (drop i s)
  unfolding bumps
  bumps-done h = rw (drop_of_length-le s h)

  module _ (h : i < length s) (m v : ℕ) (m-is : m ≡ bump k (get_or s i 0)) (v-is : v ≡ withFirst m (get_or s i 0)) where
    pub number-more : take (i + 1) (set s i v) ++ numbered m (drop (i + 1) (set s i v)) ≡ take i s ++ numbered k (drop i s)
    unfolding numbered
    number-more = store-more s i v h (numbered k) (numbered m) (rw (drop_more s i 0 h, v-is, m-is))

    pub bumps-more : bumps m (drop (i + 1) (set s i v)) ≡ bumps k (drop i s)
    unfolding bumps
    bumps-more = let z : i < i + 1 = omega arith in rw (drop-set-lt (i + 1) s i v z, drop_more s i 0 h, m-is)

-- ---- new numbers

pub bump-le : (j w : ℕ) → bump j w ≤ j + 1
unfolding bump
bump-le j w = by (fixedWord w)
  where
    by : (b : Bool) → cond b (j + 1) j ≤ j + 1
    by true = omega arith
    by false = omega arith

bump-keep : (w : ℕ) (is : List ℕ) (ss : List SectionCode) (j : ℕ) → j + length (keep (sectionOf w is ∷ ss)) ≡ bump j w + length (keep ss)
unfolding bump fixedWord
bump-keep w is ss j = by (isFixed (successOf (wordRun w)))
  where
    by : (b : Bool) → j + length (cond b (sectionOf w is ∷ keep ss) (keep ss)) ≡ cond b (j + 1) j + length (keep ss)
    by true = omega arith
    by false = refl

number-at : (ws is : List ℕ) (j t : ℕ) → j + length ws ≤ mostCount → t < length ws → get_or (map firstOf (numbered j ws)) t 0 ≡ j + length (keep (take (suc t) (readSections ws is)))
unfolding numbered
number-at [] is j t h l = absurd (omega arith)
number-at (w ∷ ws) is j zero h l = rw (read-cons, bump-keep w is [] j) (first-is (bump j w) w (omega (arith, bump-le j w)) ∙ omega arith)
number-at (w ∷ ws) is j (suc t) h l =
    rw (read-cons, bump-keep w is (take (suc t) (readSections ws (drop (countOf w) is))) j) (number-at ws (drop (countOf w) is) (bump j w) t (omega (arith, bump-le j w)) (omega arith))

bumps-is : (ws is : List ℕ) (j : ℕ) → bumps j ws ≡ j + length (keep (readSections ws is))
unfolding bumps
bumps-is [] is j = rw read-nil (omega arith)
bumps-is (w ∷ ws) is j = rw (read-cons, bump-keep w is (readSections ws (drop (countOf w) is)) j) (bumps-is ws (drop (countOf w) is) (bump j w))

pub numbered-length : (ws : List ℕ) (j : ℕ) → length (numbered j ws) ≡ length ws
unfolding numbered
numbered-length [] j = refl
numbered-length (w ∷ ws) j = ap suc (numbered-length ws (bump j w))

ranks-by : (ws is : List ℕ) → length ws ≤ mostCount → (t : ℕ) (b : Bool) → ltb t (length ws) ≡ b → newNumber (map firstOf (numbered 0 ws)) (bumps 0 ws) t ≡ rank (readSections ws is) t
unfolding newNumber
ranks-by ws is h t true e =
    let l : t < length ws = ltb-true _ _ e in
    let z : 0 + length ws ≤ mostCount = omega arith in
    rw (length-map (numbered 0 ws) firstOf, numbered-length ws 0, e, number-at ws is 0 t z l, zero-add)
ranks-by ws is h t false e =
    let l : length ws ≤ t = ltb-false _ _ e in
    rw (length-map (numbered 0 ws) firstOf, numbered-length ws 0, e, bumps-is ws is 0, take_all (suc t) (readSections ws is) (rw read-length (omega arith)), zero-add)

pub ranks : (ws is : List ℕ) → length ws ≤ mostCount → (t : ℕ) → newNumber (map firstOf (numbered 0 ws)) (bumps 0 ws) t ≡ rank (readSections ws is) t
ranks ws is h t = ranks-by ws is h t _ refl

pub rank-small : (ss : List SectionCode) → length ss ≤ mostCount → (t : ℕ) → rank ss t < mark
rank-small ss h t = less (length (keep (take (suc t) ss))) (let k = keep-length (take (suc t) ss) in let m = length-take (suc t) ss in omega arith)
  where
    less : (m : ℕ) → m ≤ mostCount → pred m < mark
    less zero l = omega arith
    less (suc m) l = omega arith

-- ---- what is refused

pub lines-are : (n : ℕ) (ws is : List ℕ) → allb fixedHere (take n (readSections ws is)) ≡ allb fixedWord (take n ws)
lines-are zero ws is = rw (all-nil, all-nil)
lines-are (suc n) [] is = rw (read-nil, all-nil, all-nil)
lines-are (suc n) (w ∷ ws) is =
    rw (read-cons, all-cons fixedHere (sectionOf w is) (take n (readSections ws (drop (countOf w) is))) (fixedWord w) (fixed-is w is), all-cons fixedWord w (take n ws) (fixedWord w) refl, lines-are n ws (drop (countOf w) is))

allb-append : {A : Type 0} (p : A → Bool) (xs ys : List A) → allb p (xs ++ ys) ≡ cond (allb p xs) (allb p ys) false
allb-append p [] ys = rw all-nil
allb-append p (x ∷ xs) ys = by (p x) refl (allb-append p xs ys)
  where
    by : (b : Bool) → p x ≡ b → allb p (xs ++ ys) ≡ cond (allb p xs) (allb p ys) false → allb p (x ∷ (xs ++ ys)) ≡ cond (allb p (x ∷ xs)) (allb p ys) false
    by true e ih = rw (all-cons p x (xs ++ ys) true e, all-cons p x xs true e) ih
    by false e ih = rw (all-cons p x (xs ++ ys) false e, all-cons p x xs false e)

allb-map : {A B : Type 0} (p : B → Bool) (g : A → B) (xs : List A) → allb p (map g xs) ≡ allb (λ (x : A). p (g x)) xs
allb-map p g [] = rw (all-nil, all-nil)
allb-map {A} p g (x ∷ xs) = rw (all-cons p (g x) (map g xs) _ refl, all-cons (λ (y : A). p (g y)) x xs _ refl, allb-map p g xs)

code-is : (ss : List SectionCode) (w : ℕ) (is : List ℕ) → jumpsFixed ss (sectionOf w is) ≡ allb (λ (w : ℕ). jumpFixed ss (wordIns w)) (take (countOf w) is)
unfolding jumpsFixed countOf
code-is ss w is = allb-map (jumpFixed ss) wordIns (take (wordRun w).count is)

pub jumps-are : (ss : List SectionCode) (ws is : List ℕ) → total ws ≡ length is → allb (jumpsFixed ss) (readSections ws is) ≡ allb (λ (w : ℕ). jumpFixed ss (wordIns w)) is
unfolding total
jumps-are ss [] is h = rw (read-nil, nil_from_length is (sym h), all-nil, all-nil)
jumps-are ss (w ∷ ws) is h =
    rw (read-cons, all-cons (jumpsFixed ss) (sectionOf w is) (readSections ws (drop (countOf w) is)) _ refl, jumps-are ss ws (drop (countOf w) is) (simp length-drop (omega arith)))
    (ap (λ (b : Bool). cond b (allb (λ (w : ℕ). jumpFixed ss (wordIns w)) (drop (countOf w) is)) false) (code-is ss w is)
    ∙ sym (allb-append (λ (w : ℕ). jumpFixed ss (wordIns w)) (take (countOf w) is) (drop (countOf w) is))
    ∙ ap (allb (λ (w : ℕ). jumpFixed ss (wordIns w))) (take-append-drop (countOf w) is))

-- ---- targets

word-fixed : (w : ℕ) → isFixed (successOf (wordRun w)) ≡ fixedWord w
unfolding fixedWord
word-fixed w = refl

fixed-there : (ws is : List ℕ) (t : ℕ) → t < length ws → isFixed (get_or (readSections ws is) t absent).success ≡ fixedWord (get_or ws t 0)
fixed-there [] is t h = absurd (omega arith)
fixed-there (w ∷ ws) is zero h = rw read-cons (word-fixed w)
fixed-there (w ∷ ws) is (suc t) h = rw read-cons (fixed-there ws (drop (countOf w) is) t (omega arith))

fixed-past : (ws is : List ℕ) (t : ℕ) → length ws ≤ t → isFixed (get_or (readSections ws is) t absent).success ≡ false
fixed-past [] is t h = rw read-nil
fixed-past (w ∷ ws) is zero h = absurd (omega arith)
fixed-past (w ∷ ws) is (suc t) h = rw read-cons (fixed-past ws (drop (countOf w) is) t (omega arith))

module _ (ss is : List ℕ) where
  fixed-by : (t : ℕ) (b : Bool) → ltb t (length ss) ≡ b → isFixed (get_or (readSections ss is) t absent).success ≡ cond b (fixedWord (get_or ss t 0)) false
  fixed-by t true e = fixed-there ss is t (ltb-true _ _ e)
  fixed-by t false e = fixed-past ss is t (ltb-false _ _ e)

  jump-by : (w : ℕ) (b : Bool) → isJump (wordIns w) ≡ b → jumpFixed (readSections ss is) (wordIns w) ≡ jumpIn ss w
  unfolding jumpFixed jumpIn
  jump-by w true e = rw (e, jumpFixed) (fixed-by (wordIns w).fst _ refl)
  jump-by w false e = rw (e, jumpFixed)

  pub all-jumps : (xs : List ℕ) → allb (λ (w : ℕ). jumpFixed (readSections ss is) (wordIns w)) xs ≡ allb (jumpIn ss) xs
  all-jumps [] = rw (all-nil, all-nil)
  all-jumps (x ∷ xs) = rw (all-cons (λ (w : ℕ). jumpFixed (readSections ss is) (wordIns w)) x xs (jumpIn ss x) (jump-by x _ refl), all-cons (jumpIn ss) x xs (jumpIn ss x) refl, all-jumps xs)
