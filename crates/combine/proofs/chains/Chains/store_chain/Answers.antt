-- The first section's code is stored, then that of each that links lead to; the last one's successor is the chain's.
use Rattle.std.proofs.Common.{◌≡◌, inl, refl}
use Rattle.std.proofs.Math.Option.{some}
use Rattle.gather.specs.Gather.{link}
use Rattle.combine.proofs.Follows.{in-words, code-inside, code-is, link-told, starts-room, following-starts, following-done, last-success, next-there, next-on, next-room, following-more, links-less}
use Rattle.combine.proofs.chains.Chains.store_chain.Goals as goal

pub store_code-requires : goal.store_code-requires
store_code-requires g c =
    let k = c.requires.0 in
    (code-inside g.m _ _ k _ k.there (inl refl), rw (code-is g.m _ _ k _ k.there (inl refl)) (starts-room g.m _ _ k c.args.places.now c.requires.1))

pub loop-v-init : goal.loop-v-init
loop-v-init g c =
    let k = c.requires.0 in
    following-starts g.m _ _ k (rw (code-is g.m _ _ k _ k.there (inl refl)) at c.store_code.ensures)

pub store_code-requires-in-Some : goal.store_code-requires-in-Some
store_code-requires-in-Some g c =
    let k = c.requires.0 in
    let i = c.loop-v.invariant in
    let e : link g.m c.loop-v.u ≡ some c.from-u.result = rw c.from-u.ensures (link-told g.m _ _ k _ i.there i.on-chain _ c.in-Some.ensures) in
    let t = next-there g.m _ _ k _ i _ e in
    let o = next-on g.m _ _ k _ i _ e in
    (code-inside g.m _ _ k _ t o, rw (code-is g.m _ _ k _ t o) (next-room g.m _ _ k _ i _ e c.requires.1))

pub loop-v-smaller : goal.loop-v-smaller
loop-v-smaller g c =
    let k = c.requires.0 in
    let i = c.loop-v.invariant in
    let e : link g.m c.loop-v.u ≡ some c.from-u.result = rw c.from-u.ensures (link-told g.m _ _ k _ i.there i.on-chain _ c.in-Some.ensures) in
    links-less g.m _ _ e

pub loop-v-preserved : goal.loop-v-preserved
loop-v-preserved g c =
    let k = c.requires.0 in
    let i = c.loop-v.invariant in
    let e : link g.m c.loop-v.u ≡ some c.from-u.result = rw c.from-u.ensures (link-told g.m _ _ k _ i.there i.on-chain _ c.in-Some.ensures) in
    following-more g.m _ _ k _ i _ e (rw (code-is g.m _ _ k _ (next-there g.m _ _ k _ i _ e) (next-on g.m _ _ k _ i _ e)) at c.store_code-in-Some.ensures)

pub returns : goal.returns
returns g c =
    let k = c.requires.0 in
    let i = c.loop-v.invariant in
    let e = link-told g.m _ _ k _ i.there i.on-chain _ c.in_default.ensures in
    (following-done g.m _ _ k _ i e, in-words g.m _ _ k _ i.there i.on-chain, last-success g.m _ _ k _ i e)
