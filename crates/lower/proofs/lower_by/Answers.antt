-- A lent table that is too short refuses the tree.
use Rattle.std.proofs.Common.{sym, ◌∙◌, arith}
use Rattle.lower.proofs.Steps.{tree_ok, given, lower-11}
use Rattle.lower.proofs.lower_by.Goals as goal

pub returns-then-not-holds : goal.returns-then-not-holds
returns-then-not-holds c =
    let h = tree_ok c.read_tree.ensures c.in_ok-size.was in
    lower-11 _ _ _ _ _ _ (given h _ c.estimate-room.ensures (omega arith) (omega arith)) (sym c.holds.ensures ∙ c.if-not-holds.true)
