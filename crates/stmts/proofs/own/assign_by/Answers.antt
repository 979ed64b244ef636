-- Each operator does what its row of the rules says.
use Rattle.rules.specs.Annotate.{assignBy}
use Rattle.stmts.proofs.own.assign_by.Goals as goal

pub returns-in-Plain-clause-does : goal.returns-in-Plain-clause-does
unfolding assignBy
returns-in-Plain-clause-does c = record { does = rw c.in-Plain.is (c.emit.ensures.does _ c.of_two.ensures).does }

pub returns-in-AddTo-clause-does : goal.returns-in-AddTo-clause-does
unfolding assignBy
returns-in-AddTo-clause-does c = record { does = rw c.in-AddTo.is (c.emit-in-AddTo.ensures.does _ c.of_two-in-AddTo.ensures).does }

pub returns-in-SubTo-clause-does : goal.returns-in-SubTo-clause-does
unfolding assignBy
returns-in-SubTo-clause-does c = record { does = rw c.in-SubTo.is (c.emit-in-SubTo.ensures.does _ c.of_two-in-SubTo.ensures).does }

pub returns-in-MulTo-clause-does : goal.returns-in-MulTo-clause-does
unfolding assignBy
returns-in-MulTo-clause-does c = rw c.in-MulTo.is c.store.ensures.does

pub returns-in-DivTo-clause-does : goal.returns-in-DivTo-clause-does
unfolding assignBy
returns-in-DivTo-clause-does c = rw c.in-DivTo.is c.store-in-DivTo.ensures.does

pub returns-in-ModTo-clause-does : goal.returns-in-ModTo-clause-does
unfolding assignBy
returns-in-ModTo-clause-does c = rw c.in-ModTo.is c.store-in-ModTo.ensures.does

pub returns-in-PowTo-clause-does : goal.returns-in-PowTo-clause-does
unfolding assignBy
returns-in-PowTo-clause-does c = rw c.in-PowTo.is c.store-in-PowTo.ensures.does
