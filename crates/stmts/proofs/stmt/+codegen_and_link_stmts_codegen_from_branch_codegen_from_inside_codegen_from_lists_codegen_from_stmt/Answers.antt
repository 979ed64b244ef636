-- Each function hands what its tree's part needs down to the next, and the laws of lists put the parts together.
use Rattle.std.proofs.Common.{◌≡◌, ℕ, ◌+◌, ◌-◌, sym, ap, ◌∙◌, refl, add-one, arith, get_or}
use Rattle.rules.specs.Tree.{ofBlock, both, emptyTally}
use Rattle.nodes.specs.Width.{width}
use Rattle.nodes.specs.Words.{iteKind, widthIn}
use Rattle.nodes.proofs.Blocks.{is-end, tag, kind-held}
use Rattle.nodes.proofs.Width.{or-one}
use Rattle.exprs.proofs.Trees.{is-kind, no-kind}
use Rattle.stmts.specs.Parts.{insideTally}
use Rattle.stmts.proofs.Lists.{some-width, grew-both, branch-empty, branch-list, stored-empty}
use Rattle.stmts.proofs.Parts.{one-parts, none-inside, ite-inside, inside-none, inside-ite, lists-one}
use Rattle.stmts.proofs.Places.{not-end, ite-at}
use Rattle.stmts.proofs.Splits.{parts, cut, moved, counted, counts, starts, one-only}
use Rattle.stmts.proofs.Steps.{ready-first, list-on, list-end}
use Rattle.stmts.proofs.stmt.+codegen_and_link_stmts_codegen_from_branch_codegen_from_inside_codegen_from_lists_codegen_from_stmt.Goals as goal

-- ---- a list

pub codegen_and_link_stmts-offset_bounds-nodes-at : goal.codegen_and_link_stmts-offset_bounds-nodes-at
codegen_and_link_stmts-offset_bounds-nodes-at t c = let sp = cut c.loop-done.invariant.mid.ready.list (omega arith) in omega arith

pub codegen_and_link_stmts-bounds-nodes-at : goal.codegen_and_link_stmts-bounds-nodes-at
codegen_and_link_stmts-bounds-nodes-at t c = let sp = cut c.loop-done.invariant.mid.ready.list (omega arith) in omega arith

pub codegen_and_link_stmts-first_link-first-requires : goal.codegen_and_link_stmts-first_link-first-requires
codegen_and_link_stmts-first_link-first-requires t c = let p = c.loop-done.invariant.mid.ready in let sp = cut p.list (omega arith) in omega (arith, p.ample, parts p.list.block)

pub codegen_and_link_stmts-codegen_from_stmt-d-requires : goal.codegen_and_link_stmts-codegen_from_stmt-d-requires
codegen_and_link_stmts-codegen_from_stmt-d-requires t c = (omega arith, ready-first c.loop-done.invariant.mid.ready (omega arith) c.first_link-first.ensures.number)

pub codegen_and_link_stmts-rest_link-here-requires : goal.codegen_and_link_stmts-rest_link-here-requires
codegen_and_link_stmts-rest_link-here-requires t c = let p = c.loop-done.invariant.mid.ready in let sp = cut p.list (omega arith) in omega (arith, p.ample, parts p.list.block)

pub codegen_and_link_stmts-loop-done-init : goal.codegen_and_link_stmts-loop-done-init
codegen_and_link_stmts-loop-done-init t c =
    let e : c.args.count - 0 ≡ c.args.count = omega arith in
    record { left_to = refl; mid = rw e (record { ready = c.requires; going = λ m x z h q. record { others = x; held = q; goes = λ t2 se2 c2 node number r. r } }) }

pub codegen_and_link_stmts-loop-done-preserved : goal.codegen_and_link_stmts-loop-done-preserved
codegen_and_link_stmts-loop-done-preserved t c =
    let i = c.loop-done.invariant in
    let f = c.first_link-first.ensures in
    let r = c.rest_link-here.ensures in
    let st = c.codegen_from_stmt-d in
    let e : c.args.count - (c.loop-done.done + 1) ≡ c.args.count - c.loop-done.done - 1 = omega arith in
    record {
      left_to = r.next ∙ i.left_to;
      mid = rw (e, c.last-at.ensures) (list-on i.mid (omega arith) f.linked f.number f.next i.left_to r.linked r.number (omega (arith, st.auto)) st.ensures);
    }

pub codegen_and_link_stmts-returns : goal.codegen_and_link_stmts-returns
codegen_and_link_stmts-returns t c = λ m x z h q. list-end c.loop-done.invariant.mid (omega arith) h q

-- ---- an Ite's list

pub codegen_from_branch-put_section-requires : goal.codegen_from_branch-put_section-requires
codegen_from_branch-put_section-requires t c = let o = or-one (width c.requires.0.list.block) in omega arith

pub codegen_from_branch-overflow_add-result : goal.codegen_from_branch-overflow_add-result
codegen_from_branch-overflow_add-result t c = let o = or-one (width c.requires.0.list.block) in omega arith

pub codegen_from_branch-returns-then-count-eq0 : goal.codegen_from_branch-returns-then-count-eq0
unfolding ofBlock emptyTally
codegen_from_branch-returns-then-count-eq0 t c = λ m x z h q.
    let e = is-end q c.if-count-eq0.true in
    rw e.is (record { does = branch-empty (stored-empty c.put_section.ensures refl); spent = omega arith; node-is = e.here })

pub codegen_from_branch-codegen_and_link_stmts-requires : goal.codegen_from_branch-codegen_and_link_stmts-requires
codegen_from_branch-codegen_and_link_stmts-requires t c =
    let p = c.requires.0.list in
    let o = or-one (width p.block) in
    (omega arith, record { list = p; ample = omega arith })

pub codegen_from_branch-returns : goal.codegen_from_branch-returns
codegen_from_branch-returns t c = λ m x z h q.
    let r = c.codegen_and_link_stmts.ensures m x z h q in
    record { does = branch-list x (not-end q c.if-count-eq0.false) r.does; spent = r.spent; node-is = r.node-is }

-- ---- the lists of a statement

pub codegen_from_inside-offset_bounds-nodes-i : goal.codegen_from_inside-offset_bounds-nodes-i
codegen_from_inside-offset_bounds-nodes-i t c = let sp = cut c.requires.list (omega arith) in omega arith

pub codegen_from_inside-bounds-nodes-i : goal.codegen_from_inside-bounds-nodes-i
codegen_from_inside-bounds-nodes-i t c = let sp = cut c.requires.list (omega arith) in omega arith

pub codegen_from_inside-returns-then-not-is : goal.codegen_from_inside-returns-then-not-is
codegen_from_inside-returns-then-not-is t c = λ m x z h q.
    let n : tag x + 8 ≡ iteKind → ⊥ = λ y. (no-kind c.is.ensures c.if-not-is.true) (kind-held (omega arith) q ∙ y) in
    let k = none-inside x n in
    record { does = inside-none x n; spent = omega arith }

pub codegen_from_inside-overflow_add-inner : goal.codegen_from_inside-overflow_add-inner
codegen_from_inside-overflow_add-inner t c =
    let p = c.requires.list in
    let it = ite-at p.short p.few p.held (is-kind c.is.ensures c.if-not-is.false) in
    omega (arith, it.sum)

pub codegen_from_inside-bounds-nodes-i-2 : goal.codegen_from_inside-bounds-nodes-i-2
codegen_from_inside-bounds-nodes-i-2 t c =
    let p = c.requires.list in
    let it = ite-at p.short p.few p.held (is-kind c.is.ensures c.if-not-is.false) in
    omega arith

pub codegen_from_inside-codegen_from_lists-requires : goal.codegen_from_inside-codegen_from_lists-requires
unfolding both
codegen_from_inside-codegen_from_lists-requires t c =
    let p = c.requires.list in
    let it = ite-at p.short p.few p.held (is-kind c.is.ensures c.if-not-is.false) in
    let sm = it.sum in
    let tl = ite-inside it.e it.yes it.no _ it.is in (
      omega arith,
      record {
        nested = omega arith;
        yes = record { known = p.known; block = it.yes; last = it.mid; held = starts (sym c.last-first.ensures) it.then-held; inside = omega arith; short = p.short; few = p.few; shallow = omega arith };
        no = record { known = p.known; block = it.no; last = p.last; held = it.else-held; inside = p.inside; short = p.short; few = p.few; shallow = omega arith };
        few-then = it.few-then;
        few-else = it.few-else;
        width-then = it.width-then;
        width-else = it.width-else;
        same-known = refl;
        ample = omega arith;
      },
    )

pub codegen_from_inside-returns : goal.codegen_from_inside-returns
unfolding insideTally
codegen_from_inside-returns t c = λ m x z h q.
    let it = ite-at c.requires.list.short h q (is-kind c.is.ensures c.if-not-is.false) in
    let ls = c.codegen_from_lists.ensures m _ _ _ _ h (starts (sym c.last-first.ensures) it.then-held) it.else-held in
    rw it.is
    (record {
      does = inside-ite it.e it.yes it.no (add-one _) (ap (λ (k : ℕ). c.args.link.number.0 + 1 + k) it.width-then)
          (ap (λ (k : ℕ). c.args.link.number.0 + 1 + widthIn (get_or c.args.nodes.now c.args.i 0) + k) it.width-else) ls.yes ls.no ls.join;
      spent = ls.spent;
    })

-- ---- an Ite's two lists and the join

pub codegen_from_lists-codegen_from_branch-t-requires : goal.codegen_from_lists-codegen_from_branch-t-requires
unfolding both
codegen_from_lists-codegen_from_branch-t-requires t c =
    let p = c.requires in
    (omega arith, (record { list = counted p.yes c.name-a.ensures; ample = omega arith }, rw (sym c.name-a.ensures) at p.few-then))

pub codegen_from_lists-codegen_from_branch-e-requires : goal.codegen_from_lists-codegen_from_branch-e-requires
unfolding both
codegen_from_lists-codegen_from_branch-e-requires t c =
    let p = c.requires in
    let r = c.codegen_from_branch-t.ensures _ _ _ p.yes.few (counted p.yes c.name-a.ensures).held in
    (omega arith, (record { list = counted (moved p.no r.node-is) c.else_count-b.ensures; ample = omega (arith, r.spent, c.width.ensures) }, rw (sym c.else_count-b.ensures) at p.few-else))

pub codegen_from_lists-put_section-requires : goal.codegen_from_lists-put_section-requires
unfolding both
codegen_from_lists-put_section-requires t c =
    let p = c.requires in
    let r = c.codegen_from_branch-t.ensures _ _ _ p.yes.few (counted p.yes c.name-a.ensures).held in
    let u = (c.codegen_from_branch-e.ensures _ _ _ p.no.few (counted (moved p.no r.node-is) c.else_count-b.ensures).held).spent in
    omega (arith, r.spent, c.width.ensures, c.else_width.ensures)

pub codegen_from_lists-returns : goal.codegen_from_lists-returns
codegen_from_lists-returns t c = λ m x y j z h q1 q2.
    let r1 = c.codegen_from_branch-t.ensures m x j h (counts (sym c.name-a.ensures) q1) in
    let r2 = c.codegen_from_branch-e.ensures m y z h (starts (sym r1.node-is) (counts (sym c.else_count-b.ensures) q2)) in
    rw (sym c.width.ensures, sym c.else_width.ensures) (record {
      mid-counters = _;
      mid-tables = _;
      mid-sections = _;
      end-sections = _;
      yes = r1.does;
      no = r2.does;
      join = stored-empty c.put_section.ensures (rw c.successor.ensures);
      spent = grew-both _ _ r1.spent r2.spent;
    })

-- ---- a statement

pub codegen_from_stmt-codegen_from_own-d-requires : goal.codegen_from_stmt-codegen_from_own-d-requires
codegen_from_stmt-codegen_from_own-d-requires t c =
    let p = c.requires.list in
    let wd = some-width p.block (not-end p.held (λ z. omega arith)) in
    record { depth = _; ready = c.requires; placed = omega arith }

pub codegen_from_stmt-codegen_from_inside-requires : goal.codegen_from_stmt-codegen_from_inside-requires
codegen_from_stmt-codegen_from_inside-requires t c =
    let p = c.requires.list in
    let op = rw (one-only p.held) at (one-parts p.block) in
    let os = (c.codegen_from_own-d.ensures _ _ _ p.few p.held).spent in
    (omega arith, record { list = p; ample = omega arith })

pub codegen_from_stmt-returns : goal.codegen_from_stmt-returns
codegen_from_stmt-returns t c = λ m x z h q.
    let o = one-only q in
    let op = rw o at (one-parts x) in
    let ow = c.codegen_from_own-d.ensures m x z h q in
    let il = c.codegen_from_inside.ensures m x z h q in
    record { does = lists-one x o (not-end q (λ y. omega arith)) ow.does il.does; spent = omega (arith, ow.spent, il.spent); node-is = refl; number-is = refl }
