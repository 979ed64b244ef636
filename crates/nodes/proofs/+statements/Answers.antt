-- A list is its count and the statements behind it, one by one; a statement is what its kind says, and each refusal on the way is that of `stmt`.
use Rattle.std.proofs.Common.{◌≡◌, ◌+◌, ◌-◌, arith, refl}
use Rattle.rules.specs.Parse.{iteOf}
use Rattle.nodes.specs.Builds.{listR}
use Rattle.bits.proofs.Gives.{passed, then, stop, done, not-deep}
use Rattle.nodes.proofs.Table.{agree-part, agree-trans, moved, moved-b}
use Rattle.nodes.proofs.Puts.{put-ite}
use Rattle.nodes.proofs.Ite.{ite-lists, ite-fine, ite-adds}
use Rattle.nodes.proofs.Built.{incdec-stmt, sealed, refuses, behind, numbered}
use Rattle.nodes.proofs.Arms.{stmt-stop, arm-goto, arm-ite, arm-incdec, arm-assign}
use Rattle.nodes.proofs.Lists.{list-then, list-stop, list-from, block-built, mid-start, mid-more, mid-stop}
use Rattle.nodes.proofs.+statements.Goals as goal

pub read_list-returns-in_err-count : goal.read_list-returns-in_err-count
unfolding listR
read_list-returns-in_err-count t c = let k = c.in_err-count.ensures in rw (passed c.from_residual.ensures.1) (record { here = stop _ k.here })

pub read_list-returns-in_err-e : goal.read_list-returns-in_err-e
unfolding listR
read_list-returns-in_err-e t c =
    let b = c.in_ok-count.ensures in
    let k = c.in_err-e.ensures in
    rw (passed c.from_residual-in_err-e.ensures.1) (record { here = then _ b.here.reads k.here })

pub read_list-returns : goal.read_list-returns
read_list-returns t c =
    let b = c.in_ok-count.ensures in
    let k = c.in_ok-e.ensures in
    record { here = list-from _ b.here k.here }

pub read_block-loop-init : goal.read_block-loop-init
read_block-loop-init t c =
    let n : c.args.count - 0 ≡ c.args.count = omega arith in
    rw n (mid-start _ _ _ _ _ _ c.requires.0.fine)

pub read_block-returns-in_err-d : goal.read_block-returns-in_err-d
read_block-returns-in_err-d t c =
    let k = c.in_err-d.ensures in
    refuses (passed c.from_residual.ensures.1) (mid-stop c.loop.invariant (omega arith) k.here)

pub read_block-loop-preserved : goal.read_block-loop-preserved
read_block-loop-preserved t c =
    let n : c.args.count - (c.loop.counter + 1) ≡ c.args.count - c.loop.counter - 1 = omega arith in
    let k = c.in_ok-d.ensures in
    rw n (mid-more c.loop.invariant (omega arith) k.here)

pub read_block-returns : goal.read_block-returns
read_block-returns t c = record { here = block-built c.requires.1 c.loop.invariant (omega arith) }

pub read_stmt-returns-in_err-k : goal.read_stmt-returns-in_err-k
read_stmt-returns-in_err-k t c = let k = c.in_err-k.ensures in refuses (passed c.from_residual.ensures.1) (stmt-stop _ _ k.here)

pub read_stmt-overflow_sub-d : goal.read_stmt-overflow_sub-d
read_stmt-overflow_sub-d t c =
    let b = c.in_ok-k.ensures in
    let h = not-deep _ _ b.here.reads in
    omega arith

-- ---- a Goto, an Incdec, an Assign

pub read_stmt-returns-in-Goto : goal.read_stmt-returns-in-Goto
read_stmt-returns-in-Goto t c =
    let b = c.in_ok-k.ensures in
    let m = b.here.moved in
    let e = numbered c.in_ok-try_from.ensures c.in-Goto.is in
    behind (λ res g. arm-goto _ _ (omega arith) b.here.reads g) refl (λ f d n. record { adds = λ xs e k. let z = n.adds xs e k in omega arith }) c.goto_rest.ensures

pub read_stmt-returns-in-Step : goal.read_stmt-returns-in-Step
read_stmt-returns-in-Step t c =
    let b = c.in_ok-k.ensures in
    let m = b.here.moved in
    let e = numbered c.in_ok-try_from.ensures c.in-Step.is in
    behind (λ res g. arm-incdec _ _ (omega arith) b.here.reads g) refl (λ f d n. n) (incdec-stmt _ _ refl m.statements m.sections m.strings m.chars c.flagged.ensures)

pub read_stmt-returns-in-Assign : goal.read_stmt-returns-in-Assign
read_stmt-returns-in-Assign t c =
    let b = c.in_ok-k.ensures in
    let m = b.here.moved in
    let e = numbered c.in_ok-try_from.ensures c.in-Assign.is in
    behind (λ res g. arm-assign _ _ (omega arith) b.here.reads g) refl (λ f d n. record { adds = λ xs e k. let z = n.adds xs e k in omega arith }) c.assign.ensures

-- ---- an Ite

pub read_stmt-returns-in_err-c2-in-Ite : goal.read_stmt-returns-in_err-c2-in-Ite
unfolding iteOf
read_stmt-returns-in_err-c2-in-Ite t c =
    let b = c.in_ok-k.ensures in
    let e = numbered c.in_ok-try_from.ensures c.in-Ite.is in
    let k = c.in_err-c2-in-Ite.ensures in
    refuses (passed c.from_residual-in_err-c2-in-Ite.ensures.1) (arm-ite _ _ (omega arith) b.here.reads (stop _ k.here))

pub read_stmt-read_list-requires : goal.read_stmt-read_list-requires
read_stmt-read_list-requires t c =
    let b = c.in_ok-k.ensures in
    let x = c.in_ok-c2-in-Ite.ensures in
    let h = not-deep _ _ b.here.reads in
    (omega arith, record { fine = x.here.fine; room = omega arith; names = c.requires.names })

pub read_stmt-returns-in_err-a-in-Ite : goal.read_stmt-returns-in_err-a-in-Ite
unfolding iteOf
read_stmt-returns-in_err-a-in-Ite t c =
    let b = c.in_ok-k.ensures in
    let e = numbered c.in_ok-try_from.ensures c.in-Ite.is in
    let x = c.in_ok-c2-in-Ite.ensures in
    let k = c.in_err-a-in-Ite.ensures in
    refuses (passed c.from_residual-in_err-a-in-Ite.ensures.1) (arm-ite _ _ (omega arith) b.here.reads (then _ x.here.reads (list-stop _ _ _ k.here)))

pub read_stmt-read_list-requires-in-Ite : goal.read_stmt-read_list-requires-in-Ite
read_stmt-read_list-requires-in-Ite t c =
    let b = c.in_ok-k.ensures in
    let y = c.in_ok-a-in-Ite.ensures in
    let h = not-deep _ _ b.here.reads in
    (omega arith, record { fine = y.here.fine; room = omega arith; names = c.requires.names })

pub read_stmt-returns-in_err-b-in-Ite : goal.read_stmt-returns-in_err-b-in-Ite
unfolding iteOf
read_stmt-returns-in_err-b-in-Ite t c =
    let b = c.in_ok-k.ensures in
    let e = numbered c.in_ok-try_from.ensures c.in-Ite.is in
    let x = c.in_ok-c2-in-Ite.ensures in
    let y = c.in_ok-a-in-Ite.ensures in
    let k = c.in_err-b-in-Ite.ensures in
    refuses (passed c.from_residual-in_err-b-in-Ite.ensures.1)
    (arm-ite _ _ (omega arith) b.here.reads (then _ x.here.reads (list-then _ _ _ y.here.reads (list-stop _ _ _ k.here))))

pub read_stmt-returns-in_ok-b-in-Ite : goal.read_stmt-returns-in_ok-b-in-Ite
unfolding iteOf
read_stmt-returns-in_ok-b-in-Ite t c =
    let bb = c.in_ok-k.ensures in
    let b = bb.here in
    let e = numbered c.in_ok-try_from.ensures c.in-Ite.is in
    let xx = c.in_ok-c2-in-Ite.ensures in
    let x = xx.here in
    let yy = c.in_ok-a-in-Ite.ensures in
    let y = yy.here in
    let zz = c.in_ok-b-in-Ite.ensures in
    let z = zz.here in
    let q = b.moved in
    let n = x.counts in
    let n2 = y.counts in
    let n3 = z.counts in
    rw c.close_ite.ensures.counted
    (sealed _ _ _ c.close_ite.ensures.table (omega arith)
    (arm-ite _ _ (omega arith) b.reads (then _ x.reads (list-then _ _ _ y.reads (list-then _ _ _ z.reads done))))
    (agree-trans (agree-part x.kept (omega arith) (omega arith)) (agree-trans (agree-part y.kept (omega arith) (omega arith)) (agree-part z.kept (omega arith) (omega arith))))
    (λ w a.
    put-ite _ _ _ _ w (ite-lists y.val z.val n2 n3 y.holds.few z.holds.few (omega arith) z.fine) b.moved.nodes
    (moved (agree-trans (agree-part y.kept (omega arith) (omega arith)) (agree-trans (agree-part z.kept (omega arith) (omega arith)) (agree-part a (omega arith) (omega arith)))) x.holds)
    (moved-b (agree-trans (agree-part z.kept (omega arith) (omega arith)) (agree-part a (omega arith) (omega arith))) y.holds.is)
    (moved-b (agree-part a (omega arith) (omega arith)) z.holds.is))
    (ite-adds y.val z.val n2 n3 q n) (ite-fine y.val z.val n2 n3 (omega arith) z.fine))
