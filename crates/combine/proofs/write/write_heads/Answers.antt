-- A section that is taken in is passed; a head's chain is stored, and its word written where it stands.
use Rattle.std.proofs.Common.{sym, ◌∙◌, ◌<◌, ◌≤◌, length, refl, arith}
use Rattle.combine.proofs.Writing.{writing-starts, writing-taken, chain-stands, chain-room, end-short, writing-head, writing-done}
use Rattle.combine.proofs.write.write_heads.Goals as goal

pub loop-t-init : goal.loop-t-init
loop-t-init g c = writing-starts g.m _ _ _ _ _ c.requires

pub loop-t-preserved-then-not-is_head : goal.loop-t-preserved-then-not-is_head
loop-t-preserved-then-not-is_head g c =
    let r = c.requires in
    let h : c.loop-t.t < length g.m = omega (arith, c.loop-t-test.true, r.size) in
    writing-taken g.m _ _ _ _ _ r _ _ _ c.loop-t.invariant h (sym c.is_head.ensures ∙ c.if-not-is_head.true)

pub store_chain-last-requires : goal.store_chain-last-requires
store_chain-last-requires g c =
    let r = c.requires in
    let h : c.loop-t.t < length g.m = omega (arith, c.loop-t-test.true, r.size) in
    let i = c.loop-t.invariant in
    (chain-stands g.m _ _ _ _ _ r _ _ _ i h (sym c.is_head.ensures ∙ c.if-not-is_head.false) _ refl refl refl refl c.loop-t.auto.sections, chain-room g.m _ _ _ _ _ r _ _ _ i h (sym c.is_head.ensures ∙ c.if-not-is_head.false))

pub head_word-w-requires : goal.head_word-w-requires
head_word-w-requires g c =
    let r = c.requires in
    let h : c.loop-t.t < length g.m = omega (arith, c.loop-t-test.true, r.size) in
    let e = end-short g.m _ _ _ _ _ r _ _ _ c.loop-t.invariant h (sym c.is_head.ensures ∙ c.if-not-is_head.false) _ c.store_chain-last.ensures.0 in
    (omega (arith, c.loop-t-test.true, c.loop-t.auto.sections), c.store_chain-last.ensures.1, rw (c.next-first.ensures, c.next.ensures) e.0, rw c.next.ensures e.1)

pub loop-t-preserved : goal.loop-t-preserved
loop-t-preserved g c =
    let r = c.requires in
    let h : c.loop-t.t < length g.m = omega (arith, c.loop-t-test.true, r.size) in
    let s = c.store_chain-last.ensures in
    writing-head g.m _ _ _ _ _ r _ _ _ c.loop-t.invariant h (sym c.is_head.ensures ∙ c.if-not-is_head.false) _ s.0 _ _ s.2 (rw (c.next-first.ensures, c.next.ensures) at c.head_word-w.ensures) c.loop-t.auto.sections

pub returns : goal.returns
returns g c =
    let r = c.requires in
    let h : length g.m ≤ c.loop-t.t = omega (arith, c.loop-t-test.false, r.size) in
    let k : c.loop-t.t ≤ length g.m = omega (arith, c.loop-t.auto.t-end, r.size) in
    writing-done g.m _ _ _ _ _ r _ _ _ c.loop-t.invariant h k
