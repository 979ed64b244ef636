-- One more instruction is replaced.
use Rattle.replace.proofs.Runs.{run-spare, run-more}
use Rattle.replace.proofs.run.replace_run.Goals as goal

pub replace_instruction-done-requires : goal.replace_instruction-done-requires
replace_instruction-done-requires c = run-spare _ _ _ _ _ _ _ _ _ c.requires _ _ _ _ _ _ _ c.loop-i.invariant c.loop-i-test.true

pub loop-i-preserved : goal.loop-i-preserved
loop-i-preserved c =
    let k = c.replace_instruction-done.auto in
    run-more _ _ _ _ _ _ _ _ _ c.requires _ _ _ _ _ _ _ c.loop-i.invariant c.loop-i-test.true _ _ _ _ _ _ c.replace_instruction-done.ensures k.instructions k.numbers k.strings
