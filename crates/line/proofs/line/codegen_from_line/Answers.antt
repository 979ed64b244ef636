-- The own section at the line's number, a placeholder, the lists inside and the other statements: together they are the line.
use Rattle.std.proofs.Common.{◌<◌, ◌+◌, ℕ, true, cond, refl, sym, ap, ◌∙◌, arith}
use Rattle.rules.specs.Tree.{ofBlock, emptyTally}
use Rattle.nodes.specs.Width.{width}
use Rattle.nodes.proofs.Blocks.{is-end}
use Rattle.stmts.specs.Lists.{only, rest, isEnd}
use Rattle.stmts.specs.Parts.{ownCost, insideTally}
use Rattle.stmts.proofs.Lists.{some-width, stored-empty}
use Rattle.stmts.proofs.Parts.{one-parts}
use Rattle.stmts.proofs.Places.{entry-same, not-end}
use Rattle.stmts.proofs.Splits.{split, parts, cut, first, others, moved, starts}
use Rattle.stmts.proofs.Steps.{ready-first}
use Rattle.line.specs.Lines.{innerNodes}
use Rattle.line.proofs.Parts.{inner-only, line-none, line-more}
use Rattle.line.proofs.Sums.{own-only}
use Rattle.line.proofs.line.codegen_from_line.Goals as goal

pub returns-then-count-eq0 : goal.returns-then-count-eq0
unfolding ownCost innerNodes insideTally rest ofBlock emptyTally width
returns-then-count-eq0 c = λ m x z h q.
    let e = is-end q c.if-count-eq0.true in
    rw e.is (record { does = line-none c.put_section.ensures; cost = omega arith; spent = omega arith; number-is = omega arith })

pub offset_bounds-nodes-i : goal.offset_bounds-nodes-i
offset_bounds-nodes-i c = let sp = cut c.requires.ready.list (omega arith) in omega arith

pub bounds-nodes-i : goal.bounds-nodes-i
bounds-nodes-i c = let sp = cut c.requires.ready.list (omega arith) in omega arith

pub first_link-first-requires : goal.first_link-first-requires
first_link-first-requires c = let p = c.requires.ready.list in let sp = cut p (omega arith) in omega (arith, parts p.block)

pub codegen_from_own-d-requires : goal.codegen_from_own-d-requires
codegen_from_own-d-requires c =
    rw c.with_cursor-own.ensures (record { depth = c.args.depth; ready = ready-first c.requires.ready (omega arith) c.first_link-first.ensures.number; placed = c.requires.slot })

pub put_section-requires-2 : goal.put_section-requires-2
put_section-requires-2 c =
    let p = c.requires.ready.list in
    let sp = cut p (omega arith) in
    let wd = some-width (only p.block) (not-end sp.head (λ z. omega arith)) in
    omega (arith, parts p.block)

pub codegen_from_inside-e-requires : goal.codegen_from_inside-e-requires
codegen_from_inside-e-requires c =
    let p = c.requires.ready.list in
    let sp = cut p (omega arith) in
    let pa = parts p.block in
    let op = one-parts p.block in
    let inn = inner-only p.block in
    let hs = rw c.with_cursor-own.ensures at (c.codegen_from_own-d.ensures _ _ _ p.few sp.head).spent in
    rw c.with_cursor-behind.ensures
    (record { list = first p (omega arith); ample = omega arith })

pub rest_link-others-requires : goal.rest_link-others-requires
rest_link-others-requires c = let p = c.requires.ready.list in let sp = cut p (omega arith) in omega (arith, parts p.block)

pub codegen_and_link_stmts-r-requires : goal.codegen_and_link_stmts-r-requires
codegen_and_link_stmts-r-requires c =
    let p = c.requires.ready.list in
    let sp = cut p (omega arith) in
    let pa = parts p.block in
    let op = one-parts p.block in
    let inn = inner-only p.block in
    let hs = rw c.with_cursor-own.ensures at (c.codegen_from_own-d.ensures _ _ _ p.few sp.head).spent in
    let is = rw c.with_cursor-behind.ensures at (c.codegen_from_inside-e.ensures _ _ _ p.few sp.head).spent in
    record { list = moved (others p (omega arith)) c.last-at.ensures; ample = omega arith }

pub returns : goal.returns
returns c = λ m x z h q.
    let pos : 0 < c.args.count = omega arith in
    let sp = split c.requires.ready.list.short h pos q in
    let pa = parts x in
    let op = one-parts x in
    let inn = inner-only x in
    let f = c.first_link-first.ensures in
    let g = c.rest_link-others.ensures in
    let hd = rw (f.linked, f.number, c.with_cursor-own.ensures) at (c.codegen_from_own-d.ensures m _ _ h sp.head) in
    let il = rw (f.linked, f.number, c.with_cursor-behind.ensures) at (c.codegen_from_inside-e.ensures m _ _ h sp.head) in
    let ls = c.codegen_and_link_stmts-r.ensures m _ _ h (starts (sym c.last-at.ensures) sp.tail) in
    let hs = hd.spent in
    let is = il.spent in
    let rs = ls.spent in
    record {
      does = line-more x sp.some (g.number ∙ ap (λ (k : ℕ). c.args.from.number.0 + k) sp.made) (g.linked ∙ sp.linked true)
          (f.next ∙ (entry-same _ _ _ pos sp.tail ∙ ap (λ (k : ℕ). cond (isEnd (rest x)) c.args.from.next.err.0 k) (sym g.number)))
          hd.does (stored-empty c.put_section-2.ensures refl) il.does (rw g.next at ls.does);
      cost = omega (arith, hd.cost, own-only x);
      spent = omega arith;
      number-is = omega (arith, ls.number-is, g.number, sp.made, pa.widths);
    }
