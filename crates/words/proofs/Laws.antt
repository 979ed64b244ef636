-- What the proofs of this crate share, over plain variables. Assumes nothing.
use Prim.Native.Nat.{ℕ, ◌<◌}
use Rattle.rules.specs.Word.{wordIns}
use Rattle.laws.specs.Table.{opcode-bits}
use Rattle.laws.proofs.Words.{ins-small}

-- an opcode that was read has 6 bits
pub op-lt : (w : ℕ) → (wordIns w).op < 64
op-lt w = (ins-small w).0

-- so has one whose kinds are known
pub ruleset opcodes = (op-lt, opcode-bits)
