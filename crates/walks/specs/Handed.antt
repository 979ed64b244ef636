-- A machine that is handed in: where combine does not refuse it, every walk is kept and no pair is left.
use Rattle.std.specs.Prelude.{◌≡◌, Bool, true, false, ◌&&◌, List, [], ◌∷◌, ℕ, zero, suc, ◌+◌, ◌<◌, eqb, take, drop, get_or}
use Rattle.std.proofs.Math.Path.{refl}
use Rattle.std.proofs.Common.{sym, ap, ◌∙◌, arith, ltb-true, lt-ltb}
use Rattle.std.proofs.Math.Option.{none}
use Rattle.rules.specs.Bits.{Res, refused, ok, isOne}
use Rattle.rules.specs.Refusal as Refusal
use Rattle.rules.specs.Word.{Run, wordRun, runSpare}
use Rattle.rules.specs.Machine.{SectionCode, absent, Machine}
use Rattle.rules.specs.Tables.{Tables, Counts, allb, fits, countsFit, wordsFit, insFits, spanFits, nameFits, startFits, runsFit, successFits, successOf, readSections, decode, countsOf}
use Rattle.rules.specs.Combine.{pair, combineSections, combined}
use Rattle.rules.specs.Operations.{write, change, fixedHere, allAhead, combineIn, combine}
use Rattle.rules.specs.Walk.{walk, walkSections}
use Rattle.walks.specs.Claim.{Alike}
use Rattle.walks.specs.Walks.{same-walk}
use Rattle.bounds.specs.Parsed.{refused≢ok}
use Rattle.laws.specs.Lists.{not-both, both}
use Rattle.joins.specs.Along.{Fixed, Ready, combine-ends}
use Rattle.walks.specs.CombineWalk.{combine-keeps}

-- what combine leaves where it accepts a machine: the words of the combined one, which meets and asks what the one handed in does, and has no pair
pub record Combines (t : Tables) (u v : Counts) : Type 0 where
  pub machine : Machine
  pub decoded : decode t u ≡ ok machine
  pub accepted : combineIn t machine ≡ ok (combined machine)
  pub counts : v ≡ countsOf (combined machine)
  pub words : (combine t u).1 ≡ write u (combined machine) t
  pub same : (os : List ℕ) → Alike (walk (combined machine) os) (walk machine os)
  pub noPair : pair (combined machine).sections ≡ none

-- ---- what the rules grant

-- what is asked of a section's word, without and with its start
abbrev plainFits : Counts → ℕ → ℕ → Bool
plainFits u k w = eqb (runSpare w) 0 && eqb (wordRun w).first k && successFits u (successOf (wordRun w))

abbrev sectionFits : Counts → ℕ → ℕ → ℕ → Bool
sectionFits u i k w = plainFits u k w && startFits u i (wordRun w)

started : (u : Counts) (i : ℕ) (r : Run) → startFits u i r ≡ true → i < u.lines → isOne r.lineStart ≡ true
unfolding startFits
started u i r e h = rw (lt-ltb i u.lines h, startFits) at e

-- sections below L are line starts; so is what stands at a number that no section has
starts : (u : Counts) (i k : ℕ) (ws is : List ℕ) → runsFit u i k ws ≡ true → (t : ℕ) → i + t < u.lines → (get_or (readSections ws is) t absent).lineStart ≡ true
unfolding runsFit readSections
starts u i k [] is e t h = refl
starts u i k (w ∷ ws) is e t h = go (sectionFits u i k w) refl e t h (λ q. starts u (suc i) (k + (wordRun w).count) ws (drop (wordRun w).count is) q)
  where
    go : (b : Bool) → sectionFits u i k w ≡ b → elim b [ false ↦ false | true ↦ runsFit u (suc i) (k + (wordRun w).count) ws ] ≡ true → (t : ℕ) → i + t < u.lines → (runsFit u (suc i) (k + (wordRun w).count) ws ≡ true → (n : ℕ) → suc i + n < u.lines → (get_or (readSections ws (drop (wordRun w).count is)) n absent).lineStart ≡ true) → (get_or (readSections (w ∷ ws) is) t absent).lineStart ≡ true
    go false p q n l ih = absurd (not-both false q refl)
    go true p q zero l ih = started u i (wordRun w) (both (plainFits u k w) (startFits u i (wordRun w)) p).1 (omega arith)
    go true p q (suc n) l ih = ih q n (omega arith)

-- L is at least 1: the first of all tests of counts
first : (a b : Bool) → a && b ≡ true → a ≡ true
first a b e = (both a b e).0

some-line : (t : Tables) (u : Counts) → countsFit t u ≡ true → 0 < u.lines
unfolding countsFit
some-line t u e = ltb-true 0 u.lines (first _ _ (first _ _ (first _ _ (first _ _ (first _ _ (first _ _ (first _ _ (first _ _ (first _ _ e)))))))))

fixed-all : (m : List SectionCode) → allb fixedHere m ≡ true → Fixed m
unfolding allb fixedHere
fixed-all [] e = tt
fixed-all (s ∷ m) e = go (fixedHere s) refl e (fixed-all m)
  where
    go : (b : Bool) → fixedHere s ≡ b → elim b [ false ↦ false | true ↦ allb fixedHere m ] ≡ true → (allb fixedHere m ≡ true → Fixed m) → Fixed (s ∷ m)
    go false p q ih = absurd (not-both false q refl)
    go true p q ih = (p, ih q)

-- ---- the machine that the words hold, if they hold one

abbrev Begins : Res Machine → Type 0
Begins (refused n) = Unit {0}
Begins (ok m) = (0 < m.lines) × ((t : ℕ) → t < m.lines → (get_or m.sections t absent).lineStart ≡ true)

counts-fit : (t : Tables) (u : Counts) → fits t u ≡ true → (countsFit t u ≡ true) × (wordsFit t u ≡ true)
unfolding fits
counts-fit t u e = go (countsFit t u) refl e
  where
    go : (b : Bool) → countsFit t u ≡ b → elim b [ false ↦ false | true ↦ wordsFit t u ] ≡ true → (countsFit t u ≡ true) × (wordsFit t u ≡ true)
    go false p q = absurd (not-both false q refl)
    go true p q = (p, q)

runs-fit : (t : Tables) (u : Counts) → wordsFit t u ≡ true → runsFit u 0 0 (take u.sections t.sections) ≡ true
unfolding wordsFit
runs-fit t u e =
    let a = allb (insFits u) (take u.instrs t.instrs) in
    let b = runsFit u 0 0 (take u.sections t.sections) in
    let c = allb (spanFits u) (take u.strings t.strings) in
    (both a b (both (a && b) c (both (a && b && c) (allb (nameFits u) (take u.names t.names)) e).0).0).1

begins : (t : Tables) (u : Counts) → Begins (decode t u)
unfolding decode
begins t u = go (fits t u) refl
  where
    go : (b : Bool) → fits t u ≡ b → Begins (decode t u)
    go false e = rw (e, decode) tt
    go true e =
        let f = counts-fit t u e in
        rw (e, decode) (some-line t u f.0, λ n h. starts u 0 0 (take u.sections t.sections) (take u.instrs t.instrs) (runs-fit t u f.1) n (omega arith))

-- ---- the call

-- what 14 and 15 let through, and what is made of it
pub record Accepts (m r : Machine) : Type 0 where
  pub fixed : Fixed m.sections
  pub ahead : allAhead m.sections 0 m.sections ≡ true
  pub gives : combined m ≡ r

pub combine-accepted : (t : Tables) (m r : Machine) → combineIn t m ≡ ok r → Accepts m r
unfolding combineIn
combine-accepted t m r e = first (allb fixedHere m.sections) refl e
  where
    then : Fixed m.sections → (b : Bool) → allAhead m.sections 0 m.sections ≡ b → elim b [ false ↦ refused Refusal.linksBack | true ↦ ok (combined m) ] ≡ ok r → Accepts m r
    then f false p q = absurd (refused≢ok Refusal.linksBack r q)
    then f true p q = record { fixed = f; ahead = p; gives = cc }

    first : (b : Bool) → allb fixedHere m.sections ≡ b → elim b [ false ↦ refused Refusal.isUnfixed | true ↦ elim (allAhead m.sections 0 m.sections) [ false ↦ refused Refusal.linksBack | true ↦ ok (combined m) ] ] ≡ ok r → Accepts m r
    first false p q = absurd (refused≢ok Refusal.isUnfixed r q)
    first true p q = then (fixed-all m.sections p) (allAhead m.sections 0 m.sections) refl q

module _ (t : Tables) (u : Counts) where
  no-machine : (n : ℕ) → decode t u ≡ refused n → (combine t u).0 ≡ refused n
  unfolding combine change
  no-machine n e = rw (e, change) refl

  not-combined : (m : Machine) (n : ℕ) → decode t u ≡ ok m → combineIn t m ≡ refused n → (combine t u).0 ≡ refused n
  unfolding combine change
  not-combined m n e f = rw (e, f, change) refl

  written : (m r : Machine) → decode t u ≡ ok m → combineIn t m ≡ ok r → combine t u ≡ (ok (countsOf r), write u r t)
  unfolding combine change
  written m r e f = rw (e, f, change) refl

-- Combine, where it does not refuse.
pub combines : (t : Tables) (u v : Counts) → (combine t u).0 ≡ ok v → Combines t u v
unfolding walk combined
combines t u v e = from (decode t u) refl (begins t u)
  where
    kept : (m r : Machine) → decode t u ≡ ok m → Begins (ok m) → combineIn t m ≡ ok r → Combines t u v
    kept m r p b q =
        let f = combine-accepted t m r q in
        let w : combine t u ≡ (ok (countsOf (combined m)), write u (combined m) t) = rw f.gives (written t u m r p q) in
        let ready : Ready m.lines m.sections = record { fixed = f.fixed; starts = b.1 } in
        let k = combine-keeps m.lines b.0 m.sections ready in
        record {
          machine = m;
          decoded = p;
          accepted = q ∙ ap ok (sym f.gives);
          counts = let a : ok v ≡ ok (countsOf (combined m)) = sym e ∙ ap (λ (x : Res Counts × Tables). x.0) w in cc;
          words = ap (λ (x : Res Counts × Tables). x.1) w;
          same = λ os. same-walk (walkSections (combineSections m.sections) m.lines os) (walkSections m.sections m.lines os) (k.back os) (k.there os);
          noPair = combine-ends m.sections;
        }

    through : (m : Machine) → decode t u ≡ ok m → Begins (ok m) → (x : Res Machine) → combineIn t m ≡ x → Combines t u v
    through m p b (refused n) q = absurd (refused≢ok n v (sym (not-combined t u m n p q) ∙ e))
    through m p b (ok r) q = kept m r p b q

    from : (x : Res Machine) → decode t u ≡ x → Begins x → Combines t u v
    from (refused n) p b = absurd (refused≢ok n v (sym (no-machine t u n p) ∙ e))
    from (ok m) p b = through m p b (combineIn t m) refl
