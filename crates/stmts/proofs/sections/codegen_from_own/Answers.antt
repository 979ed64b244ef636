-- By the kind of the node, one of four statements: its own section is that of the rules.
use Rattle.std.proofs.Common.{ℕ, Bool, ◌+◌, ap, sym, ◌∙◌, add-one, arith}
use Rattle.rules.specs.Bits.{isOne}
use Rattle.rules.specs.Tree.{ofBlock, statement, node, both, emptyTally}
use Rattle.exprs.proofs.Trees.{expr-most, is-kind}
use Rattle.stmts.specs.Told.{assignTold}
use Rattle.stmts.specs.Makes.{jumpCost}
use Rattle.stmts.specs.Lists.{isEnd}
use Rattle.stmts.specs.Parts.{ownCost, bare}
use Rattle.stmts.proofs.Makes.{assign-most, jump-cost-most}
use Rattle.stmts.proofs.Parts.{owns-goto, owns-step, owns-assign, owns-ite}
use Rattle.stmts.proofs.Places.{goto-at, step-at, assign-at, else-at, goto-sum, assign-sum, step-sum, empty-same}
use Rattle.stmts.proofs.Splits.{cut}
use Rattle.stmts.proofs.sections.codegen_from_own.Goals as goal

pub offset_bounds-nodes-i : goal.offset_bounds-nodes-i
offset_bounds-nodes-i c = let sp = cut c.requires.ready.list (omega arith) in omega arith

pub bounds-nodes-i : goal.bounds-nodes-i
bounds-nodes-i c = let sp = cut c.requires.ready.list (omega arith) in omega arith

pub overflow_add-h : goal.overflow_add-h
overflow_add-h c = let sp = cut c.requires.ready.list (omega arith) in omega arith

pub codegen_from_goto-requires : goal.codegen_from_goto-requires
codegen_from_goto-requires c =
    let p = c.requires.ready.list in
    let b = goto-at p.held (is-kind c.is.ensures c.if-is.true) in
    let y = goto-sum b.e _ b.is in
    (record { ready = record { names = p.known; tree = b.e; last = p.last; held = b.to; inside = p.inside; short = p.short; few = p.few; fits = omega arith }; room = omega arith }, c.requires.placed, c.requires.ready.ample.small)

pub returns-then-is : goal.returns-then-is
unfolding ownCost bare ofBlock statement node both emptyTally
returns-then-is c = λ m x z h q.
    let b = goto-at q (is-kind c.is.ensures c.if-is.true) in
    let r = c.codegen_from_goto.ensures m _ _ h b.to in
    let s = r.1 in
    let k = expr-most b.e in
    rw b.is (record { does = owns-goto b.e r.0; cost = s.exact; spent = omega arith })

pub codegen_from_step-requires : goal.codegen_from_step-requires
codegen_from_step-requires c =
    let p = c.requires.ready.list in
    let b = step-at p.few p.held (is-kind c.is-2.ensures c.if-is-2.true) in
    let y = step-sum _ _ _ b.is in
    omega (arith, c.name-x.ensures, b.known)

pub returns-then-is-2 : goal.returns-then-is-2
unfolding isOne ownCost bare ofBlock statement node both emptyTally
returns-then-is-2 c = λ m x z h q.
    let b = step-at h q (is-kind c.is-2.ensures c.if-is-2.true) in
    let r = c.codegen_from_step.ensures m _ _ _ (rw c.name-x.ensures b.known) in
    let s = r.1 in
    rw (b.is, sym c.flag.ensures, sym c.name-x.ensures) (record { does = owns-step _ _ r.0; cost = s.exact; spent = omega arith })

pub codegen_from_set-requires : goal.codegen_from_set-requires
codegen_from_set-requires c =
    let p = c.requires.ready.list in
    let b = assign-at p.few p.held (is-kind c.is-3.ensures c.if-is-3.true) in
    let y = assign-sum _ _ b.e _ b.is in (
      record {
        holding = record { ready = record { names = p.known; tree = b.e; last = p.last; held = b.value; inside = p.inside; short = p.short; few = p.few; fits = omega arith }; room = omega arith };
        known = rw c.name-x.ensures b.known;
      },
      c.requires.placed,
      c.requires.ready.ample.small,
    )

pub returns-then-is-3 : goal.returns-then-is-3
unfolding ownCost bare ofBlock statement node both emptyTally
returns-then-is-3 c = λ m x z h q.
    let b = assign-at h q (is-kind c.is-3.ensures c.if-is-3.true) in
    let r = c.codegen_from_set.ensures m _ _ h (rw c.name-x.ensures b.known) b.value in
    let s = r.1 in
    let k = expr-most b.e in
    let o = assign-most (assignTold c.of-op.result) in
    let p = rw c.op.ensures at c.of-op.ensures in
    rw (b.is, sym p, sym c.name-x.ensures) (record { does = owns-assign _ _ b.e r.0; cost = s.exact; spent = omega arith })

pub overflow_add-first : goal.overflow_add-first
overflow_add-first c =
    let p = c.requires.ready.list in
    let it = else-at p.short p.few p.held c.is.ensures c.if-is.false c.is-2.ensures c.if-is-2.false c.is-3.ensures c.if-is-3.false in
    omega (arith, it.sum)

pub overflow_add-other : goal.overflow_add-other
overflow_add-other c =
    let p = c.requires.ready.list in
    let it = else-at p.short p.few p.held c.is.ensures c.if-is.false c.is-2.ensures c.if-is-2.false c.is-3.ensures c.if-is-3.false in
    omega (arith, it.sum)

pub codegen_from_test-requires : goal.codegen_from_test-requires
codegen_from_test-requires c =
    let p = c.requires.ready.list in
    let it = else-at p.short p.few p.held c.is.ensures c.if-is.false c.is-2.ensures c.if-is-2.false c.is-3.ensures c.if-is-3.false in
    let sm = it.sum in
    (record { ready = record { names = p.known; tree = it.e; last = _; held = it.test; inside = omega arith; short = p.short; few = p.few; fits = omega arith }; room = omega arith }, c.requires.placed, c.requires.ready.ample.small)

pub returns : goal.returns
unfolding ownCost bare ofBlock statement node both emptyTally
returns c = λ m x z h q.
    let it = else-at c.requires.ready.list.short h q c.is.ensures c.if-is.false c.is-2.ensures c.if-is-2.false c.is-3.ensures c.if-is-3.false in
    let r = c.codegen_from_test.ensures m _ _ h it.test in
    let s = r.1 in
    let k = expr-most it.e in
    let e = rw (sym c.name-x.ensures) at (empty-same it.then-held) in
    let jc = ap (λ (v : Bool). jumpCost v) e in
    let jm = jump-cost-most (isEnd it.yes) in
    rw it.is
    (record {
      does = owns-ite it.e it.yes it.no (add-one _) e (ap (λ (k : ℕ). c.args.link.number.0 + 1 + k) (c.width.ensures ∙ it.width-then)) r.0;
      cost = omega arith;
      spent = omega arith;
    })
