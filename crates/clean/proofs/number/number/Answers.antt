-- One more word is numbered; at the end, all of them.
use Rattle.std.proofs.Common.{◌<◌, ◌≤◌, length, sym, ◌∙◌, arith}
use Rattle.clean.specs.Pass.{withFirst}
use Rattle.clean.proofs.Numbers.{number-done, number-more, bumps-done, bumps-more}
use Rattle.clean.proofs.number.number.Goals as goal

pub loop-word-preserved : goal.loop-word-preserved
unfolding withFirst
loop-word-preserved c =
    let l = c.loop-word in
    let k = c.bump-k.ensures in
    let h : l.word-index < length l.sections = omega arith in
    record {
      few = omega arith;
      rest = number-more l.sections l.word-index l.k h _ _ k.0 c.with_first.ensures ∙ l.invariant.rest;
      count = bumps-more l.sections l.word-index l.k h _ _ k.0 c.with_first.ensures ∙ l.invariant.count;
    }

pub returns : goal.returns
returns c =
    let l = c.loop-word in
    let h : length l.sections ≤ l.word-index = omega arith in
    record {
      sections = sym (number-done l.sections l.word-index l.k h) ∙ l.invariant.rest;
      count = bumps-done l.sections l.word-index l.k h ∙ l.invariant.count;
    }
