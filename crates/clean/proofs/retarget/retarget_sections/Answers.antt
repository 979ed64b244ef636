-- One more word is retargeted, and the numbers are as they were; at the end, all of them.
use Rattle.std.proofs.Common.{◌≡◌, ◌<◌, ◌≤◌, length, get_or, map, ap, sym, ◌∙◌, arith}
use Rattle.std.proofs.Math.Seq.{map-set_same}
use Rattle.clean.specs.Pass.{firstOf, newNumber, withTarget}
use Rattle.clean.proofs.Fields.{first-kept}
use Rattle.tables.proofs.InPlace.{map-more, map-done}
use Rattle.clean.proofs.Single.{number-small}
use Rattle.clean.proofs.retarget.retarget_sections.Goals as goal

pub loop-i-preserved : goal.loop-i-preserved
loop-i-preserved c =
    let l = c.loop-i in
    let a = c.args in
    let few : a.kept < 65536 = omega arith in
    let h : l.i < length l.sections = omega arith in
    let v : c.with_target-v.result.0 ≡ withTarget (newNumber (map firstOf a.sections.now) a.kept) (get_or l.sections l.i 0) = rw (← l.invariant.same-numbers) c.with_target-v.ensures in
    record {
      same-numbers = map-set_same firstOf l.sections l.i _ 0 (ap firstOf v ∙ first-kept _ (number-small a.sections.now a.kept few) _) ∙ l.invariant.same-numbers;
      rest = map-more l.sections l.i _ h _ v ∙ l.invariant.rest;
    }

pub returns : goal.returns
returns c =
    let l = c.loop-i in
    let h : length l.sections ≤ l.i = omega arith in
    sym (map-done _ l.sections l.i h) ∙ l.invariant.rest
