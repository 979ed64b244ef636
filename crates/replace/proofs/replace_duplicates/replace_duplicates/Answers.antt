-- One more section is replaced; at the end the freed words are zeroed.
use Rattle.std.proofs.Common.{◌<◌, ◌≤◌, ◌∙◌, length, drop, arith, refl, length-take-le}
use Rattle.std.proofs.Math.ListN.{take-append-drop}
use Rattle.std.proofs.lemmas.List.{set-append_left}
use Rattle.replace.proofs.Sections.{sections-begin, sections-end, sections-open, sections-more, inside, fits, rewrote}
use Rattle.replace.proofs.replace_duplicates.replace_duplicates.Goals as goal

pub loop-word-init : goal.loop-word-init
loop-word-init c = rw (take-append-drop c.args.c.sections c.args.sections.now) (sections-begin _ _ _ _ _ _ _ _ _ c.requires)

pub replace_run-done-requires : goal.replace_run-done-requires
replace_run-done-requires c =
    let l = c.loop-word in
    let w = inside _ _ _ _ c.requires.sections c.loop-word-test.true l.auto.word-items in
    sections-open _ _ _ _ _ _ _ _ _ c.requires _ _ _ _ _ _ _ _ _ l.invariant w.0 _ w.1 _ (c.from.ensures ∙ c.count.ensures)

pub overflow_cast-count : goal.overflow_cast-count
overflow_cast-count c =
    let l = c.loop-word in
    let w = inside _ _ _ _ c.requires.sections c.loop-word-test.true l.auto.word-items in
    let x = fits _ _ _ _ _ _ _ _ _ c.requires _ _ _ _ _ _ _ _ _ l.invariant w.0 _ w.1 _ (c.from.ensures ∙ c.count.ensures) in
    omega (arith, c.requires.instrs-few, c.replace_run-done.ensures.shorter)

pub loop-word-preserved : goal.loop-word-preserved
loop-word-preserved c =
    let l = c.loop-word in
    let w = inside _ _ _ _ c.requires.sections c.loop-word-test.true l.auto.word-items in
    let h : l.word-index < length l.word-items = omega arith in
    let k = c.replace_run-done.auto in
    rw (← set-append_left l.word-items (drop c.args.c.sections c.args.sections.now) l.word-index c.pack-v.result.0 h)
    (sections-more _ _ _ _ _ _ _ _ _ c.requires _ _ _ _ _ _ _ _ _ l.invariant w.0 _ w.1 _ (c.from.ensures ∙ c.count.ensures) _ _ _ _ _ _ c.replace_run-done.ensures k.instructions k.numbers k.strings _ _ _ _ c.pack-v.ensures c.line_start.ensures c.success.ensures refl)

pub returns : goal.returns
returns c =
    let l = c.loop-word.invariant in
    let o = c.requires in
    let e = length-take-le c.args.c.sections c.args.sections.now o.sections in
    let h : c.args.c.sections ≤ c.loop-word.word-index = omega arith in
    let w = sections-end _ _ _ _ _ _ _ _ _ o _ _ _ _ _ _ _ _ _ l h in
    rewrote _ _ _ _ _ _ _ _ _ o _ _ _ _ _ _ _ w (omega (arith, l.ss-len, o.sections)) (omega (arith, l.is-len, o.instrs)) (omega (arith, l.ns-len, o.numbers, l.number-left)) (omega (arith, l.ts-len, o.strings, l.string-left)) _ c.zero.ensures
