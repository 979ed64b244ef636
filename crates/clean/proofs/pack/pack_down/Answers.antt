-- One more section is passed over or kept.
use Rattle.std.proofs.Common.{◌≤◌, ◌<◌, length, sym, ◌∙◌, arith}
use Rattle.tables.specs.Runs.{countOf, fixedWord}
use Rattle.clean.proofs.Single.{packed-word}
use Rattle.clean.proofs.Packing.{pack-ends, pack-left, pack-skip, pack-keep}
use Rattle.clean.proofs.pack.pack_down.Goals as goal

pub loop-i-preserved-then-not-is_fixed : goal.loop-i-preserved-then-not-is_fixed
unfolding countOf fixedWord
loop-i-preserved-then-not-is_fixed c =
    let l = c.loop-i in
    let h : l.i < length l.sections = omega arith in
    pack-skip _ _ _ _ _ _ _ _ l.invariant h _ (c.from-size.ensures ∙ c.count-count.ensures) (sym c.is_fixed.ensures ∙ c.if-not-is_fixed.true)

pub move_down-requires : goal.move_down-requires
unfolding countOf
move_down-requires c =
    let l = c.loop-i in
    let h : l.i < length l.sections = omega arith in
    let left = pack-left _ _ _ _ _ _ _ _ l.invariant h in
    (l.invariant.b-a, omega (arith, c.from-size.ensures, c.count-count.ensures, l.invariant.t-len))

pub loop-i-preserved : goal.loop-i-preserved
unfolding countOf fixedWord
loop-i-preserved c =
    let l = c.loop-i in
    let h : l.i < length l.sections = omega arith in
    let word = packed-word _ _ _ _ _ _ c.pack-v.ensures c.line_start.ensures c.success.ensures c.count-count.ensures in
    pack-keep _ _ _ _ _ _ _ _ l.invariant h _ (c.from-size.ensures ∙ c.count-count.ensures) _ word _ c.move_down.ensures c.move_down.auto.t (sym c.is_fixed.ensures ∙ c.if-not-is_fixed.false)

pub returns : goal.returns
returns c =
    let l = c.loop-i in
    let w : l.i ≤ length l.sections = omega arith in
    let h : length l.sections ≤ l.i = omega arith in
    pack-ends _ _ _ _ _ _ _ _ l.invariant w h
