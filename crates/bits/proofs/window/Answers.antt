-- Two bytes, shifted and masked, spell the window.
use Rattle.std.proofs.Common.{arith, ◌≡◌, ◌+◌, ◌/◌, ◌%◌, ◌<◌}
use Rattle.rules.specs.Constants.{byteBits}
use Rattle.bits.proofs.Bytes.{masked}
use Rattle.bits.proofs.window.Goals as goal

pub returns : goal.returns
returns c =
    let x = c.type_inv.s (c.args.p / byteBits) in
    let y = c.type_inv.s c.min-j.result in
    let behind : byteBits < c.args.p % byteBits + c.args.n → c.min-j.result ≡ c.args.p / byteBits + 1 = λ h. omega arith in
    masked _ _ _ _ _ c.from.ensures (λ h. rw (behind h) at c.from-2.ensures) (omega arith) (omega arith) (omega arith)
