-- A section that is taken in is passed; a head's word moves down.
use Rattle.std.proofs.Common.{refl, sym, ◌∙◌, arith}
use Rattle.combine.proofs.Picks.{keeping-same, keeping-more}
use Rattle.combine.proofs.write.keep_heads.Goals as goal

pub loop-t-preserved-then-not-is_head : goal.loop-t-preserved-then-not-is_head
loop-t-preserved-then-not-is_head c =
    let l = c.loop-t in
    keeping-same _ _ _ _ _ l.invariant (omega (arith, c.loop-t-test.true, l.auto.sections)) (sym c.is_head.ensures ∙ c.if-not-is_head.true)

pub loop-t-preserved : goal.loop-t-preserved
loop-t-preserved c =
    let l = c.loop-t in
    keeping-more _ _ _ _ _ l.invariant (omega (arith, c.loop-t-test.true, l.auto.sections)) (sym c.is_head.ensures ∙ c.if-not-is_head.false) _ refl
