-- Retargeting the words from this one on gives the wanted words.
use Rattle.std.proofs.Common.{◌≡◌, ◌++◌, map, take, drop}
use Rattle.clean.specs.Pass.{firstOf, newNumber, withJump}
use Rattle.clean.proofs.retarget.retarget_instructions.Given as goal

abbrev pub invariant-loop-w : goal.invariant-loop-w
invariant-loop-w l =
    let f = withJump (newNumber (map firstOf l.fn.numbers.sections.now) l.fn.numbers.kept) in
    take l.w-index l.instructions ++ map f (drop l.w-index l.instructions) ≡ map f l.fn.instructions
