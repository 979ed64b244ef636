-- Replacement: what becomes of an instruction by the rule of its opcode. Assumes nothing.
use mathlib.Core.Path.{◌≡◌, refl}
use mathlib.Core.Bool.{Bool, true, false}
use Prim.Native.Nat.{ℕ, ◌<◌}
use native.Mathlib.Omega.{arith}
use lib.Dec.{eqb}
use lib.Pow.{pow_pos}
use Rattle.rules.specs.Instr.{Instruction, ins₁}
use Rattle.rules.specs.Replace.{Rule, stays, goes, turns, number, result, blank, ruleFor, ruleOf, Regs, replaceBy, replaceIns}
use Rattle.laws.specs.Table.{turns-lt}
use Rattle.laws.specs.Words.{InsSmall}
use Rattle.laws.proofs.Words.{ins-back}
use Rattle.words.specs.Told.{replacedOf, replacedBy}

-- an opcode that a rule turns to has 6 bits
pub ruleset turn_bits = (turns-lt)

-- ---- the answer against `replaceIns` of rules

-- any rule whose opcode has 6 bits
by-any : (p : ℕ) (r : Regs) (i : Instruction) → InsSmall i → (u : Rule) → ((t : ℕ) → turns t ≡ u → t < 64) → replacedBy p r i (replacedOf u i) ≡ replaceBy p u r i
by-any p r i h stays k = refl
by-any p r i h goes k = refl
by-any p r i h (turns t) k = rw (ins-back (ins₁ t i.fst) (k t refl, (h.1.0, (pow_pos 16, (pow_pos 16, tt)))))
by-any p r i h (number z) k = refl
by-any p r i h (result z) k = refl
by-any p r i h blank k = refl

turns-small : (b : Bool) (o t : ℕ) → turns t ≡ ruleFor b o → t < 64
turns-small true o t e = turns-lt o t e
turns-small false o t e = let z : ◌≡◌ {A = ℕ} 0 1 = cc in absurd (omega arith)

pub replaced-is : (p : ℕ) (r : Regs) (i : Instruction) → InsSmall i → replacedBy p r i (replacedOf (ruleOf i) i) ≡ replaceIns p r i
replaced-is p r i h = by-any p r i h (ruleOf i) (λ t e. turns-small (eqb i.fst i.snd) i.op t e)
