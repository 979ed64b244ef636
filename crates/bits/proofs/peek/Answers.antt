-- The bits read so far, shifted by n, and n more: nothing is lost.
use Rattle.std.proofs.Common.{arith, refl, ◌≡◌, ◌+◌, ◌*◌, ◌-◌, ◌%◌}
use Rattle.rules.specs.Constants.{byteBits}
use Rattle.rules.specs.Bits.{spelled}
use Rattle.bits.proofs.Bytes.{shifted, fits}
use Rattle.bits.proofs.peek.Goals as goal

pub loop-k-init : goal.loop-k-init
unfolding spelled
loop-k-init c = refl

pub overflow_add-v : goal.overflow_add-v
overflow_add-v c =
    let e = shifted c.args.s.now (c.loop-k.k * byteBits) byteBits c.args.at (omega arith) c.loop-k.invariant c.window.ensures in
    omega (arith, fits c.args.s.now (c.loop-k.k * byteBits + byteBits) c.args.at (omega arith))

pub loop-k-preserved : goal.loop-k-preserved
loop-k-preserved c =
    let n : (c.loop-k.k + 1) * byteBits ≡ c.loop-k.k * byteBits + byteBits = omega arith in
    rw n (shifted c.args.s.now (c.loop-k.k * byteBits) byteBits c.args.at (omega arith) c.loop-k.invariant c.window.ensures)

pub overflow_add-result : goal.overflow_add-result
overflow_add-result c =
    let n = c.args.w % byteBits in
    let k = c.loop-k.k * byteBits in
    let whole : c.args.w - n ≡ k = omega arith in
    let e = shifted c.args.s.now k n c.args.at (omega arith) c.loop-k.invariant (rw whole at c.window-2.ensures) in
    omega (arith, fits c.args.s.now (k + n) c.args.at (omega arith))

pub returns : goal.returns
returns c =
    let n = c.args.w % byteBits in
    let k = c.loop-k.k * byteBits in
    let whole : c.args.w - n ≡ k = omega arith in
    let all : k + n ≡ c.args.w = omega arith in
    rw all at (shifted c.args.s.now k n c.args.at (omega arith) c.loop-k.invariant (rw whole at c.window-2.ensures))
