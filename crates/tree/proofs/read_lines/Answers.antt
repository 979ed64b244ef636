-- One line more, unless it is refused.
use Rattle.std.proofs.Common.{arith, sym, drop, length-take-le, length-append, ◌<◌, length}
use Rattle.std.proofs.lemmas.List.{set-append_left}
use Rattle.tree.specs.Files.{lineWord}
use Rattle.bits.proofs.Gives.{passed}
use Rattle.tree.proofs.Laws.{lines-start, lines-more, lines-stop, lines-done}
use Rattle.tree.proofs.read_lines.Goals as goal

pub loop-line-init : goal.loop-line-init
loop-line-init c = lines-start _ _ _ _ _ _ c.requires.0.fine

pub read_line-requires : goal.read_line-requires
read_line-requires c = let m = c.loop-line.invariant in record { fine = m.fine; room = omega arith; names = c.requires.0.names }

pub returns-in_err-count : goal.returns-in_err-count
returns-in_err-count c =
    let k = c.in_err-count.ensures in
    let e = length-take-le c.args.lines c.args.ls.now c.requires.1 in
    rw (passed c.from_residual.ensures.1) (record { here = lines-stop c.loop-line.invariant (omega (arith, e)) k.here })

pub loop-line-preserved : goal.loop-line-preserved
unfolding lineWord
loop-line-preserved c =
    let l = c.loop-line in
    let k = c.in_ok-count.ensures in
    let e = length-take-le c.args.lines c.args.ls.now c.requires.1 in
    let h : l.line-index < length l.line-items = omega arith in
    let n = length-append l.line-items (drop c.args.lines c.args.ls.now) in
    lines-more l.invariant _ (omega (arith, e)) (omega (arith, n)) (sym (set-append_left _ _ _ _ h)) k.here

pub returns : goal.returns
returns c =
    let e = length-take-le c.args.lines c.args.ls.now c.requires.1 in
    record { here = lines-done c.loop-line.invariant (omega (arith, e)) (omega (arith, e)) }
