-- Line k is held, and no sum is above nine for each node.
use Rattle.std.proofs.Common.{◌<◌, arith, length-take-le}
use Rattle.std.proofs.lemmas.List.{get_or-take}
use Rattle.stmts.specs.Lists.{deep}
use Rattle.program.proofs.Script.{costs-on, costs-end, line-held, owns-most}
use Rattle.program.proofs.lines.head_costs.Goals as goal

pub head_cost-sum-requires : goal.head_cost-sum-requires
head_cost-sum-requires c =
    let p = c.requires.lines in
    let e = length-take-le c.args.count c.args.lines.now c.requires.lines.words in
    let h : c.loop-w.w-index < c.args.count = omega (arith, e) in
    let u = c.loop-w.invariant.sums _ _ _ _ _ p.short p.few p.held in
    let lh = line-held (λ e. omega (arith, e)) u.held in
    rw (get_or-take c.args.count c.args.lines.now c.loop-w.w-index 0 h)
    (record {
      file = c.requires.file;
      depth = deep lh.block;
      list = record { known = p.known; block = lh.block; last = lh.last; held = lh.here; inside = omega arith; short = p.short; few = p.few; shallow = omega arith };
      small = omega arith;
    })

pub overflow_add-sum : goal.overflow_add-sum
overflow_add-sum c =
    let p = c.requires.lines in
    let e = length-take-le c.args.count c.args.lines.now c.requires.lines.words in
    let h : c.loop-w.w-index < c.args.count = omega (arith, e) in
    let f = rw (get_or-take c.args.count c.args.lines.now c.loop-w.w-index 0 h) at c.head_cost-sum.ensures in
    let u = (costs-on c.loop-w.invariant h f).sums _ _ _ _ _ p.short p.few p.held in
    omega (arith, u.all, owns-most p.blocks)

pub loop-w-preserved : goal.loop-w-preserved
loop-w-preserved c =
    let e = length-take-le c.args.count c.args.lines.now c.requires.lines.words in
    let h : c.loop-w.w-index < c.args.count = omega (arith, e) in
    costs-on c.loop-w.invariant h (rw (get_or-take c.args.count c.args.lines.now c.loop-w.w-index 0 h) at c.head_cost-sum.ensures)

pub returns : goal.returns
returns c = let e = length-take-le c.args.count c.args.lines.now c.requires.lines.words in λ s m bs i z a b h. costs-end c.loop-w.invariant (omega (arith, e)) a b h
