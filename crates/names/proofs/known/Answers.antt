-- Names compared one by one.
use Rattle.std.proofs.Common.{◌≡◌, ◌-◌, ◌+◌, ◌<◌, refl, arith}
use mathlib.Core.Path.{◌∙◌}
use Rattle.names.proofs.Laws.{known-yes, known-no, known-end, next-in, next-gt, end-more}
use Rattle.names.proofs.known.Goals as goal

pub loop-init : goal.loop-init
loop-init c = let n : c.args.k - 0 ≡ c.args.k = omega arith in rw n (refl, omega arith)

pub same-requires : goal.same-requires
same-requires c = let g = next-in c.args.s.now (c.args.k - c.loop.counter) c.loop.q (omega arith) in omega arith

pub returns-then-same : goal.returns-then-same
returns-then-same c = known-yes _ _ _ _ (omega arith) c.if-same.ensures ∙ c.loop.invariant.0

pub after-q-requires : goal.after-q-requires
after-q-requires c =
    let g = next-in c.args.s.now (c.args.k - c.loop.counter) c.loop.q (omega arith) in
    let h = next-gt c.args.s.now c.loop.q in
    omega arith

pub loop-preserved : goal.loop-preserved
loop-preserved c =
    let n = c.args.k - c.loop.counter in
    let m : c.args.k - (c.loop.counter + 1) ≡ n - 1 = omega arith in
    let h : 0 < n = omega arith in
    rw (m, c.after-q.ensures) (known-no _ _ _ _ h c.if-same.ensures ∙ c.loop.invariant.0, rw (end-more c.args.s.now n c.loop.q h) c.loop.invariant.1)

pub returns : goal.returns
returns c = known-end _ _ _ _ (omega arith) ∙ c.loop.invariant.0
