-- One word more is copied, until all are.
use Rattle.std.proofs.Common.{◌≡◌, ◌∙◌, ◌≤◌, ◌<◌, refl, sym, length, arith}
use Prim.Native.Nat.{ℕ, zero}
use native.Mathlib.Numerals.{add-one}
use lib.Seq.{take-suc, take-suc-set, take_all}
use Rattle.combine.proofs.collect.copy_words.Goals as goal

pub loop-i-init : goal.loop-i-init
loop-i-init c = refl

pub loop-i-preserved : goal.loop-i-preserved
loop-i-preserved c =
    let l = c.loop-i in
    let ws = c.args.words.now in
    let x : l.i < length l.copy = omega (arith, l.auto.copy, c.requires, c.loop-i-test.true) in
    rw (add-one, take-suc-set l.copy l.i _ x, l.invariant, take-suc ws l.i 0 c.loop-i-test.true)

pub returns : goal.returns
returns c =
    let l = c.loop-i in
    let x : length l.copy ≤ l.i = omega (arith, l.auto.copy, c.requires, c.loop-i-test.false) in
    sym (take_all l.i l.copy x) ∙ (l.invariant ∙ take_all l.i c.args.words.now c.loop-i-test.false)
