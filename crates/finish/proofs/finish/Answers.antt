-- A refusal of lowering is its own, and else the passes leave the finished machine.
use Rattle.std.proofs.lemmas.Result.{err_from_is_err_and}
use Rattle.finish.proofs.Calls.{refused-both, made, stands-lowered, finish-done}
use Rattle.finish.proofs.finish.Goals as goal

pub clean_and_combine-r-requires : goal.clean_and_combine-r-requires
clean_and_combine-r-requires c = stands-lowered _ _ _ _ _ (made _ _ _ _ _ c.in_ok-c.ensures)

pub returns-in_err-c : goal.returns-in_err-c
returns-in_err-c c = let p = err_from_is_err_and c.from_residual.result c.from_residual.ensures.1 in rw (p.1, p.2) (refused-both _ _ _ _ _ c.in_err-c.ensures)

pub returns : goal.returns
returns c = rw c.with_code.ensures (finish-done _ _ _ _ _ (made _ _ _ _ _ c.in_ok-c.ensures) _ _ _ _ c.clean_and_combine-r.ensures)
