-- One name more, unless it is not there or is among those before it.
use mathlib.Core.Path.{sym}
use Rattle.bits.proofs.Gives.{passed}
use Rattle.names.proofs.Laws.{names-start, names-more, names-stop, names-old, names-done}
use Rattle.names.proofs.read_names.Goals as goal

pub loop-k-init : goal.loop-k-init
loop-k-init c = names-start _ _ _ c.requires

pub returns-in_err-e : goal.returns-in_err-e
returns-in_err-e c =
    let k = c.in_err-e.ensures in
    rw (passed c.from_residual.ensures.1) (record { here = names-stop c.loop-k.invariant c.loop-k-test.true k.here })

pub returns-then-known : goal.returns-then-known
returns-then-known c = let k = c.in_ok-e.ensures in record { here = names-old c.loop-k.invariant c.loop-k-test.true k.here (sym c.if-known.ensures) }

pub loop-k-preserved : goal.loop-k-preserved
loop-k-preserved c = let k = c.in_ok-e.ensures in names-more c.loop-k.invariant c.loop-k-test.true k.here (sym c.if-known.ensures)

pub returns : goal.returns
returns c = record { here = names-done c.loop-k.invariant c.loop-k-test.false c.loop-k.auto.k-end }
