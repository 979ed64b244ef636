-- Line k is held, and what is left of the room is enough for it.
use Rattle.std.proofs.Common.{◌<◌, arith, length-take-le}
use Rattle.std.proofs.lemmas.List.{get_or-take}
use Rattle.program.proofs.Script.{lines-on, lines-end, line-held, same-counts}
use Rattle.program.proofs.lines.codegen_from_lines.Goals as goal

pub codegen_from_line-done-requires : goal.codegen_from_line-done-requires
codegen_from_line-done-requires c =
    let p = c.loop-k.invariant.mid.ready in
    let q = p.lines in
    let e = length-take-le c.args.count c.args.lines.now c.requires.lines.words in
    let h : c.loop-k.k < c.args.count = omega (arith, e) in
    let lh = line-held (λ e. omega (arith, e)) q.held in
    let sc = same-counts c.aimed_at-next.ensures in
    rw (c.first-at.ensures, c.count-statements.ensures, get_or-take c.args.count c.args.lines.now c.loop-k.k 0 h)
    (record {
      ready = record {
        list = record { known = q.known; block = lh.block; last = lh.last; held = lh.here; inside = omega (arith, q.inside, lh.ends); short = q.short; few = q.few; shallow = omega (arith, p.shallow, lh.sum.first-deep) };
        ample = omega (arith, p.ample, lh.sum, sc);
      };
      behind = omega (arith, p.behind, lh.sum, sc);
      slot = omega (arith, lh.more, p.first-lines, p.ample);
    })

pub loop-k-preserved : goal.loop-k-preserved
loop-k-preserved c =
    let i = c.loop-k.invariant in
    let a = c.codegen_from_line-done.auto in
    let e = length-take-le c.args.count c.args.lines.now c.requires.lines.words in
    let h : c.loop-k.k < c.args.count = omega (arith, e) in
    record {
      same = omega (arith, i.same, a);
      mid = lines-on i.mid _ h c.next_line.ensures c.aimed_at-next.ensures (omega (arith, a)) (rw (c.first-at.ensures, c.count-statements.ensures, get_or-take c.args.count c.args.lines.now c.loop-k.k 0 h) at c.codegen_from_line-done.ensures);
    }

pub returns : goal.returns
returns c = let e = length-take-le c.args.count c.args.lines.now c.requires.lines.words in λ m bs x z a h. lines-end c.loop-k.invariant.mid (omega (arith, e)) a h
