-- Flag and length decide together, then each character.
use Rattle.std.proofs.Common.{◌≡◌, ◌+◌, ◌-◌, ◌*◌, arith}
use mathlib.Core.Path.{sym, ◌∙◌}
use Rattle.rules.specs.Constants.{charBits}
use Rattle.rules.specs.Bits.{spelled}
use Rattle.names.specs.Names.{headerBits, nextName, charsOf}
use Rattle.laws.specs.Texts.{spelled-lt}
use Rattle.names.proofs.Laws.{same-length, same-first, differ-first, chars-step, chars-differ, chars-end}
use Rattle.names.proofs.same.Goals as goal

pub returns-then-peek : goal.returns-then-peek
returns-then-peek c = differ-first _ _ _ (λ e. c.if-peek.true (c.peek.ensures ∙ e ∙ sym c.peek-2.ensures))

pub overflow_add-length : goal.overflow_add-length
overflow_add-length c = omega (arith, spelled-lt)

pub loop-k-init : goal.loop-k-init
unfolding nextName charsOf
loop-k-init c =
    let e : spelled c.args.s.now headerBits c.args.p ≡ spelled c.args.s.now headerBits c.args.q = sym c.peek.ensures ∙ c.if-peek.false ∙ c.peek-2.ensures in
    let a : c.args.p + headerBits + charBits * 0 ≡ c.args.p + headerBits = omega arith in
    let b : c.args.q + headerBits + charBits * 0 ≡ c.args.q + headerBits = omega arith in
    let n : c.peek-3.result + 1 - 0 ≡ c.peek-3.result + 1 = omega arith in
    rw (n, a, b, c.peek-3.ensures) (same-first c.args.s.now c.args.p c.args.q e)

pub lowercase-requires : goal.lowercase-requires
unfolding nextName charsOf
lowercase-requires c = omega arith

pub lowercase-requires-in-loop-k : goal.lowercase-requires-in-loop-k
unfolding nextName charsOf
lowercase-requires-in-loop-k c =
    let f = same-length c.args.s.now c.args.p c.args.q (sym c.peek.ensures ∙ c.if-peek.false ∙ c.peek-2.ensures) in
    omega arith

pub returns-then-lowercase : goal.returns-then-lowercase
returns-then-lowercase c = chars-differ _ _ _ _ (omega arith) (λ e. c.if-lowercase.true (c.lowercase.ensures ∙ e ∙ sym c.lowercase-in-loop-k.ensures)) ∙ c.loop-k.invariant

pub loop-k-preserved : goal.loop-k-preserved
loop-k-preserved c = chars-step _ _ c.loop-k.k _ _ c.loop-k-test.true (sym c.lowercase.ensures ∙ c.if-lowercase.false ∙ c.lowercase-in-loop-k.ensures) ∙ c.loop-k.invariant

pub returns : goal.returns
returns c = chars-end _ _ _ _ (omega arith) ∙ c.loop-k.invariant
