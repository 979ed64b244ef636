-- How much code there is: renumbering keeps it, and so does a join of a pair, and so does combining. Assumes nothing.
use Rattle.std.specs.Prelude.{◌≡◌, refl, List, [], ◌∷◌, map, ℕ, zero, suc, ◌+◌, ◌<◌, length, get_or, set}
use Rattle.std.proofs.Common.{sym, ap, ◌∙◌, le_of_suc-le-suc, not-suc-le-zero, arith, length-append}
use Rattle.std.proofs.lemmas.List.{length-map}
use Rattle.std.proofs.Math.Option.{Option, none, some}
use Rattle.std.proofs.Math.Seq.{get_or-set_other}
use Rattle.rules.specs.Instr.{fall}
use Rattle.rules.specs.Machine.{SectionCode, absent}
use Rattle.rules.specs.Tables.{allCode}
use Rattle.rules.specs.Clean.{renIns, ren}
use Rattle.rules.specs.Combine.{pair, without, combineAt, combineFuel, combineSections}
use Rattle.joins.specs.Pairs.{Pair, pair-found}
use Rattle.joins.specs.Joins.{Joint, Taken, first-in}

pub ren-code : (f : ℕ → ℕ) (m : List SectionCode) → length (allCode (map (ren f) m)) ≡ length (allCode m)
unfolding allCode
ren-code f [] = refl
ren-code f (s ∷ m) = omega (arith, length-append (map (renIns f) s.instrs) (allCode (map (ren f) m)), length-append s.instrs (allCode m), length-map s.instrs (renIns f), ren-code f m)

set-code : (m : List SectionCode) (i : ℕ) (s : SectionCode) → i < length m → length (allCode (set m i s)) + length (get_or m i absent).instrs ≡ length (allCode m) + length s.instrs
unfolding allCode
set-code [] i s h = absurd (not-suc-le-zero h)
set-code (x ∷ m) zero s h = omega (arith, length-append s.instrs (allCode m), length-append x.instrs (allCode m))
set-code (x ∷ m) (suc i) s h = omega (arith, length-append x.instrs (allCode (set m i s)), length-append x.instrs (allCode m), set-code m i s (le_of_suc-le-suc h))

without-code : (m : List SectionCode) (j : ℕ) → length (allCode (without m j)) + length (get_or m j absent).instrs ≡ length (allCode m)
unfolding allCode
without-code [] j = refl
without-code (x ∷ m) zero = omega (arith, length-append x.instrs (allCode m))
without-code (x ∷ m) (suc j) = omega (arith, length-append x.instrs (allCode (without m j)), length-append x.instrs (allCode m), without-code m j)

pub join-code : (m : List SectionCode) (i j : ℕ) → Pair m i j → length (allCode (combineAt m i j)) ≡ length (allCode m)
unfolding combineAt
join-code m i j pr =
    let a = get_or m i absent in
    let b = get_or m j absent in
    let T = Taken m i j pr in
    let e : get_or T j absent ≡ b = get_or-set_other m i j (Joint m i j pr) absent (λ q. pr.apart (sym q)) in
    omega (arith, ren-code (fall j) (without T j), without-code T j, ap (λ (s : SectionCode). length s.instrs) e, set-code m i (Joint m i j pr) (first-in m i j pr), length-append a.instrs b.instrs)

fuel-code : (k : ℕ) (m : List SectionCode) → length (allCode (combineFuel k m)) ≡ length (allCode m)
fuel-code zero m = refl
fuel-code (suc k) m = go (pair m) refl (λ n. fuel-code k n)
  where
    go : (o : Option (ℕ × ℕ)) → pair m ≡ o → ((n : List SectionCode) → length (allCode (combineFuel k n)) ≡ length (allCode n)) → length (allCode (combineFuel (suc k) m)) ≡ length (allCode m)
    go none e ih = rw (e, combineFuel) refl
    go (some p) e ih = rw (e, combineFuel) (ih (combineAt m p.0 p.1) ∙ join-code m p.0 p.1 (pair-found m p e))

pub combine-code : (m : List SectionCode) → length (allCode (combineSections m)) ≡ length (allCode m)
unfolding combineSections
combine-code m = fuel-code (length m) m
