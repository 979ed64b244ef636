-- One more word is retargeted; at the end, all of them.
use Rattle.std.proofs.Common.{◌<◌, ◌≤◌, ◌∙◌, length, sym, arith}
use Rattle.tables.proofs.InPlace.{map-more, map-done}
use Rattle.clean.proofs.retarget.retarget_instructions.Goals as goal

pub loop-w-preserved : goal.loop-w-preserved
loop-w-preserved c =
    let l = c.loop-w in
    let h : l.w-index < length l.instructions = omega arith in
    map-more l.instructions l.w-index _ h _ c.with_jump.ensures ∙ l.invariant

pub returns : goal.returns
returns c =
    let l = c.loop-w in
    let h : length l.instructions ≤ l.w-index = omega arith in
    sym (map-done _ l.instructions l.w-index h) ∙ l.invariant
