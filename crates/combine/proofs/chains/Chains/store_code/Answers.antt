-- One more word is stored; at the end, all of the section's.
use Rattle.std.proofs.Common.{◌≡◌, ◌+◌, ◌-◌, arith}
use Rattle.combine.proofs.Stores.{map-room, map-more}
use Rattle.combine.proofs.chains.Chains.store_code.Goals as goal

pub store-requires : goal.store-requires
store-requires c =
    let z : c.from-first.result + c.from.result - c.from-first.result ≡ c.from.result = omega arith in
    map-room _ _ _ c.loop-word.invariant (rw (z, c.from-first.ensures, c.first.ensures, c.from.ensures, c.count.ensures) c.requires.1) c.loop-word-test.true

pub loop-word-preserved : goal.loop-word-preserved
loop-word-preserved c = map-more _ _ _ c.loop-word.invariant _ c.with_jump.ensures c.loop-word-test.true c.store.ensures
