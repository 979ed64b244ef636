-- Jump targets set and left aside.
use Rattle.std.specs.Prelude.{◌≡◌, refl, Bool, true, false, cond, ℕ}
use Rattle.std.proofs.Common.{ap}
use Rattle.rules.specs.Instr.{Instruction, isJump, aimed, shown}

cond-twice : (b : Bool) (x y z : ℕ) → cond b x (cond b y z) ≡ cond b x z
cond-twice true x y z = refl
cond-twice false x y z = refl

withFst : Instruction → ℕ → Instruction
withFst i n = record { op = i.op; fst = n; snd = i.snd; thd = i.thd }

pub aimed-aimed : (u t : ℕ) (i : Instruction) → aimed u (aimed t i) ≡ aimed u i
unfolding withFst
aimed-aimed u t i = ap (withFst i) (cond-twice (isJump i) u t i.fst)

-- What is shown of a jump does not depend on its target.
pub shown-aimed : (t : ℕ) (i : Instruction) → shown (aimed t i) ≡ shown i
shown-aimed t i = aimed-aimed 0 t i

-- What is no jump stays.
pub aimed-other : (t : ℕ) (i : Instruction) → isJump i ≡ false → aimed t i ≡ i
unfolding withFst
aimed-other t i e = ap (λ (b : Bool). withFst i (cond b t i.fst)) e
