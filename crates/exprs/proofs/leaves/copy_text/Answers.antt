-- A character fits a byte, and a turn moves one from what is left to what was copied.
use Rattle.std.proofs.Common.{◌+◌, ◌*◌, arith, refl, sym, ◌∙◌}
use Rattle.laws.specs.Texts.{spelled-lt}
use Rattle.nodes.proofs.Built.{chars-length}
use Rattle.exprs.proofs.Texts.{all-set, next-stored, no-char, same-chars}
use Rattle.exprs.proofs.leaves.copy_text.Goals as goal

pub loop-k-init : goal.loop-k-init
loop-k-init c = record { left = same-chars _ _ _ _ _ _ _ _ refl (omega arith) (omega arith) ∙ all-set _ _ (chars-length _ _ _) }

pub overflow_cast-place : goal.overflow_cast-place
overflow_cast-place c = omega (arith, c.peek.ensures, spelled-lt c.args.s.now 7 (c.args.p + 7 * c.loop-k.k))

pub loop-k-preserved : goal.loop-k-preserved
loop-k-preserved c = record { left = next-stored _ _ _ _ _ _ _ c.loop-k-test.true c.peek.ensures c.loop-k.invariant.left }

pub returns : goal.returns
returns c = sym (no-char _ _ _ _ _ (omega arith)) ∙ c.loop-k.invariant.left
