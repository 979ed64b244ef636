-- The chain is stored up to section u, and links lead from there to fewer and fewer sections.
use Rattle.combine.proofs.Follows.{Following, linksLeft}
use Rattle.combine.proofs.chains.Chains.store_chain.Given as goal

abbrev pub invariant-loop-v : goal.invariant-loop-v
invariant-loop-v g l = Following g.m l.t l.fn.places l.places l.u

abbrev pub decreases-loop-v : goal.decreases-loop-v
decreases-loop-v g l = linksLeft g.m l.u
