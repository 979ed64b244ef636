-- The steps put together: what writing begins with is a machine with its heads and numbers; what moving down leaves is the gathered machine.
use Rattle.std.proofs.Common.{◌≡◌, ◌∙◌, sym, refl, arith}
use Rattle.combine.specs.Writes.{HeadsWritten}
use Rattle.combine.specs.Held.{allHeld}
use Rattle.combine.proofs.Collected.{counted-long, ready, collected}
use Rattle.combine.proofs.collect.gather.Goals as goal

pub write_heads-requires : goal.write_heads-requires
write_heads-requires c =
    let m = c.requires.machine in
    let t = c.requires.tables in
    let n = c.number_heads-heads.ensures in
    let e : c.copy_words.new.copy ≡ c.args.places.now.table.now = c.copy_words.ensures ∙ c.words.ensures in
    rw e (ready _ _ m.0 _ _ _ t.0 (c.number_heads-heads.auto.numbers ∙ t.1) n.0 n.2 _ refl m.1 _ refl _ refl refl)

pub returns : goal.returns
returns c =
    let m = c.requires.machine in
    let t = c.requires.tables in
    let n = c.number_heads-heads.ensures in
    let e : c.copy_words.new.copy ≡ c.args.places.now.table.now = c.copy_words.ensures ∙ c.words.ensures in
    let w : HeadsWritten (allHeld c.args.sections.now c.args.places.now.table.now) c.write_heads.new.sections c.args.places.now c.write_heads.new.places = rw e at c.write_heads.ensures in
    let r = c.keep_heads.ensures in
    record {
      combined = collected _ _ m.0 _ _ _ t.0 (c.number_heads-heads.auto.numbers ∙ t.1) n.0 n.2 _ refl m.1 _ _ w c.write_heads.auto.sections _ r.0 r.1 _ r.2;
      same_reference = w.code.same_reference;
    }

pub number_heads-heads-requires : goal.number_heads-heads-requires
number_heads-heads-requires c =
    let m = c.requires.machine.0 in
    let l = counted-long _ _ m _ c.requires.tables.0 in
    (c.requires.tables.1 ∙ sym l, rw l m.0.few)

pub invariant_of-write_heads : goal.invariant_of-write_heads
invariant_of-write_heads c =
    let l = counted-long _ _ c.requires.machine.0 _ c.requires.tables.0 in
    record { fewer = omega (arith, c.number_heads-heads.ensures.1, l, c.requires.tables.1, c.number_heads-heads.auto.numbers) }

pub keep_heads-requires : goal.keep_heads-requires
keep_heads-requires c = counted-long _ _ c.requires.machine.0 _ c.requires.tables.0 ∙ sym c.write_heads.auto.sections
