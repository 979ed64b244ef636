-- The statement's nodes stand in the table, and their sum is what it emits.
use Rattle.std.proofs.Common.{arith, ◌∙◌}
use Rattle.exprs.proofs.Trees.{is-kind, no-kind}
use Rattle.stmts.proofs.Places.{ite-at}
use Rattle.stmts.proofs.Splits.{cut, first}
use Rattle.line.proofs.Sums.{own-ite, own-other}
use Rattle.line.proofs.heads.own_cost.Goals as goal

pub offset_bounds-nodes-i : goal.offset_bounds-nodes-i
offset_bounds-nodes-i c = let s = cut c.requires.at.list c.requires.some in omega arith

pub bounds-nodes-i : goal.bounds-nodes-i
bounds-nodes-i c = let s = cut c.requires.at.list c.requires.some in omega arith

pub bounds-nodes-i-then-is : goal.bounds-nodes-i-then-is
bounds-nodes-i-then-is c = let p = first c.requires.at.list c.requires.some in let t = ite-at p.short p.few p.held (is-kind c.is.ensures c.if-is.true) in omega arith

pub sum_costs-requires : goal.sum_costs-requires
sum_costs-requires c = let p = c.requires.at.list in let s = cut p c.requires.some in let t = ite-at p.short p.few s.head (is-kind c.is.ensures c.if-is.true) in omega (arith, c.last.ensures)

pub returns-then-is : goal.returns-then-is
returns-then-is c = λ s m n x z a b p h. rw c.last.ensures at c.sum_costs.ensures ∙ own-ite a b p h (is-kind c.is.ensures c.if-is.true)

pub sum_costs-requires-2 : goal.sum_costs-requires-2
sum_costs-requires-2 c = let s = cut c.requires.at.list c.requires.some in omega arith

pub returns : goal.returns
returns c = λ s m n x z a b p h. rw c.last-2.ensures at c.sum_costs-2.ensures ∙ own-other a b p h (no-kind c.is.ensures c.if-is.false)
