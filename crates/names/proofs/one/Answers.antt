-- A flag, a length and characters are a name, and the first refusal counts.
use Rattle.rules.specs.Parse.{name}
use Rattle.bits.proofs.Gives.{passed, then, stop}
use Rattle.names.proofs.Laws.{one-built}
use Rattle.names.proofs.one.Goals as goal

pub returns-in_err-d : goal.returns-in_err-d
unfolding name
returns-in_err-d c =
    let k = c.in_err-d.ensures in
    rw (passed c.from_residual.ensures.1) (record { here = stop _ k.here })

pub returns-in_err-l : goal.returns-in_err-l
unfolding name
returns-in_err-l c =
    let j = c.in_ok-d.ensures in
    let k = c.in_err-l.ensures in
    rw (passed c.from_residual-in_err-l.ensures.1) (record { here = then _ j.here.reads (stop _ k.here) })

pub returns : goal.returns
returns c =
    let j = c.in_ok-d.ensures in
    let k = c.in_ok-l.ensures in
    one-built j.here k.here _ c.skip.ensures
