-- References to a section: of one section and of two, of code behind code, where a section is set or taken out, where numbers fall.
-- Assumes nothing.
use Rattle.std.specs.Prelude.{◌≡◌, refl, Bool, true, false, cond, List, [], ◌∷◌, ◌++◌, map, ℕ, zero, suc, ◌+◌, ◌≤◌, ◌<◌, length, get_or, set}
use Rattle.std.proofs.Common.{ap, ap₂, le_of_suc-le-suc, not-suc-le-zero, arith, eq-eqb, ne_eqb}
use Rattle.rules.specs.Instr.{Instruction, isJump, fall}
use Rattle.rules.specs.Machine.{SectionOrLine, unfixed, section, line, SectionCode, absent}
use Rattle.rules.specs.Clean.{renIns, renNext, ren}
use Rattle.rules.specs.Combine.{hit, refsNext, refsCode, refs, without}
use Rattle.joins.specs.Numbers.{fall-eqb}

-- of a section: its successor's and its code's
abbrev pub refsOf : ℕ → SectionCode → ℕ
refsOf u s = refsNext u s.success + refsCode u s.instrs

pub hit-self : (t : ℕ) → hit t t ≡ 1
hit-self t = rw (eq-eqb t t refl)

pub hit-other : (u t : ℕ) → (u ≡ t → ⊥) → hit u t ≡ 0
hit-other u t ne = rw (ne_eqb u t ne)

-- what does not hit is another
pub no-hit : (u t : ℕ) → hit u t ≡ 0 → u ≡ t → ⊥
no-hit u t e h = let p : ◌≡◌ {A = ℕ} 1 0 = rw (eq-eqb u t h) at e in omega arith

-- ---- one section and two have no more than all

pub refs-one : (u : ℕ) (m : List SectionCode) (t : ℕ) → refsOf u (get_or m t absent) ≤ refs u m
refs-one u [] t = omega arith
refs-one u (s ∷ m) zero = omega arith
refs-one u (s ∷ m) (suc t) = omega (arith, refs-one u m t)

pub refs-two : (u : ℕ) (m : List SectionCode) (t v : ℕ) → (t ≡ v → ⊥) → refsOf u (get_or m t absent) + refsOf u (get_or m v absent) ≤ refs u m
refs-two u [] t v h = omega arith
refs-two u (s ∷ m) zero zero h = absurd (h refl)
refs-two u (s ∷ m) zero (suc v) h = omega (arith, refs-one u m v)
refs-two u (s ∷ m) (suc t) zero h = omega (arith, refs-one u m t)
refs-two u (s ∷ m) (suc t) (suc v) h = omega (arith, refs-two u m t v (λ e. h (ap suc e)))

-- where nothing refers to j, no section goes on to it
pub clear : (j : ℕ) (l : List SectionCode) → refs j l ≡ 0 → (t : ℕ) → refsNext j (get_or l t absent).success ≡ 0
clear j l h t = omega (arith, refs-one j l t)

-- ---- code behind code, a section set, a section taken out

pub refs-append : (u : ℕ) (c d : List Instruction) → refsCode u (c ++ d) ≡ refsCode u c + refsCode u d
refs-append u [] d = omega arith
refs-append u (i ∷ c) d = omega (arith, refs-append u c d)

pub refs-set : (u : ℕ) (m : List SectionCode) (i : ℕ) (s : SectionCode) → i < length m → refs u (set m i s) + refsOf u (get_or m i absent) ≡ refs u m + refsOf u s
refs-set u [] i s h = absurd (not-suc-le-zero h)
refs-set u (x ∷ m) zero s h = omega arith
refs-set u (x ∷ m) (suc i) s h = omega (arith, refs-set u m i s (le_of_suc-le-suc h))

pub refs-without : (u : ℕ) (m : List SectionCode) (j : ℕ) → refs u (without m j) + refsOf u (get_or m j absent) ≡ refs u m
refs-without u [] j = omega arith
refs-without u (x ∷ m) zero = omega arith
refs-without u (x ∷ m) (suc j) = omega (arith, refs-without u m j)

-- ---- where numbers above j fall, and nothing refers to j

module _ (j u : ℕ) (ne : u ≡ j → ⊥) where
  next-fall : (x : SectionOrLine) → refsNext j x ≡ 0 → refsNext (fall j u) (renNext (fall j) x) ≡ refsNext u x
  next-fall unfixed h = refl
  next-fall (section v) h = ap (λ (b : Bool). cond b 1 0) (fall-eqb j v u (no-hit v j h) ne)
  next-fall (line r) h = refl

  ins-fall : (b : Bool) (v : ℕ) → cond b (hit v j) 0 ≡ 0 → cond b (hit (cond b (fall j v) v) (fall j u)) 0 ≡ cond b (hit v u) 0
  ins-fall true v h = ap (λ (b : Bool). cond b 1 0) (fall-eqb j v u (no-hit v j h) ne)
  ins-fall false v h = refl

  code-fall : (c : List Instruction) → refsCode j c ≡ 0 → refsCode (fall j u) (map (renIns (fall j)) c) ≡ refsCode u c
  code-fall [] h = refl
  code-fall (i ∷ c) h = ap₂ ◌+◌ (ins-fall (isJump i) i.fst (omega arith)) (code-fall c (omega arith))

  pub refs-fall : (l : List SectionCode) → refs j l ≡ 0 → refs (fall j u) (map (ren (fall j)) l) ≡ refs u l
  refs-fall [] h = refl
  refs-fall (s ∷ l) h = ap₂ ◌+◌ (ap₂ ◌+◌ (next-fall s.success (omega arith)) (code-fall s.instrs (omega arith))) (refs-fall l (omega arith))
