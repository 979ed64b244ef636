-- Sections are at most four a statement.
use Prim.Native.Nat.{ℕ, ◌+◌, ◌*◌, ◌≤◌, ◌<◌}
use native.Mathlib.Omega.{arith}
use Rattle.rules.specs.Tree.{Block, goto, ite, assign, end, ofBlock, statement, node, both, emptyTally}
use Rattle.nodes.specs.Width.{width, orOne}

pub record OrOne (n : ℕ) : Type 0 where
  pub some : 1 ≤ orOne n
  pub most : orOne n ≤ n + 1
  pub least : n ≤ orOne n

pub or-one : (n : ℕ) → OrOne n
unfolding orOne
or-one n = record { some = omega arith; most = omega arith; least = omega arith }

pub or-one-lt : (n m : ℕ) → 1 < m → n < m → orOne n < m
unfolding orOne
or-one-lt n m h k = omega arith

pub four : (x : Block) → width x ≤ 4 * (ofBlock x).statements
unfolding width ofBlock statement node both emptyTally
four end = omega arith
four (goto e s) = let h = four s in omega arith
four (ite c t e s) = let h = four s in let k = four t in let l = four e in let p = or-one (width t) in let q = or-one (width e) in omega arith
four (Block.incdec i x s) = let h = four s in omega arith
four (assign x o e s) = let h = four s in omega arith
