-- The words so far are stored.
use Rattle.std.proofs.Common.{map, take}
use Rattle.clean.specs.Pass.{withJump}
use Rattle.combine.specs.Numbers.{numberBy}
use Rattle.combine.specs.Stores.{Stores}
use Rattle.combine.proofs.chains.Chains.store_code.Given as goal

abbrev pub invariant-loop-word : goal.invariant-loop-word
invariant-loop-word l = Stores l.fn.places l.places (map (withJump (numberBy l.self.numbers.numbers.now l.self.numbers.heads)) (take l.word-index l.word-items))
