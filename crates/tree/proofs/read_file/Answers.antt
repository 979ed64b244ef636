-- The first refusal counts; with none, the tables hold the file.
use Rattle.rules.specs.Parse.{body}
use Rattle.bits.proofs.Gives.{passed, then, stop}
use Rattle.tree.proofs.Laws.{filed}
use Rattle.tree.proofs.read_file.Goals as goal

pub returns-in_err-head : goal.returns-in_err-head
returns-in_err-head c = let k = c.in_err-head.ensures in rw (passed c.from_residual.ensures.1) (record { here = k.here })

pub returns-in_err-c1 : goal.returns-in_err-c1
unfolding body
returns-in_err-c1 c =
    let h = c.in_ok-head.ensures in
    let k = c.in_err-c1.ensures in
    rw (passed c.from_residual-in_err-c1.ensures.1) (record { here = h.here.goes _ (stop _ k.here) })

pub returns-in_err-c2 : goal.returns-in_err-c2
unfolding body
returns-in_err-c2 c =
    let h = c.in_ok-head.ensures in
    let n = c.in_ok-c1.ensures in
    let k = c.in_err-c2.ensures in
    rw (passed c.from_residual-in_err-c2.ensures.1) (record { here = h.here.goes _ (then _ n.here.reads (stop _ k.here)) })

pub returns-in_err-c3 : goal.returns-in_err-c3
unfolding body
returns-in_err-c3 c =
    let h = c.in_ok-head.ensures in
    let n = c.in_ok-c1.ensures in
    let l = c.in_ok-c2.ensures in
    let k = c.in_err-c3.ensures in
    rw (passed c.from_residual-in_err-c3.ensures.1) (record { here = h.here.goes _ (then _ n.here.reads (then _ l.here.reads (stop _ k.here))) })

pub returns : goal.returns
returns c =
    let h = c.in_ok-head.ensures in
    let n = c.in_ok-c1.ensures in
    let l = c.in_ok-c2.ensures in
    let e = c.in_ok-c3.ensures in
    record { here = filed h.here n.here l.here e.here }
