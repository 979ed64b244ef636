-- Name k stands where the cursor is; its word stays, or is the mark.
use Rattle.std.proofs.Common.{arith, ◌∙◌, ◌<◌, sym, ap, refl, drop, length-take-le, take-append-drop}
use Rattle.std.proofs.lemmas.List.{set-append_left, set-get_or}
use Rattle.names.specs.Names.{firstName, endAt, nextName}
use Rattle.program.proofs.Names.{no-word, word-kept, word-dropped, words-done, name-inside, name-next}
use Rattle.program.proofs.name_words.protect_names.Goals.{then-not-protected, else-not-protected}
use Rattle.program.proofs.name_words.protect_names.Goals as goal

pub loop-word-init : goal.loop-word-init
unfolding endAt
loop-word-init c = record { place = refl; words = rw take-append-drop (no-word _ _ _ _) }

pub is_global-requires : goal.is_global-requires
is_global-requires c =
    let e = length-take-le c.args.n c.args.names.now c.requires.words in
    let i = name-inside c.args.s.now c.args.n c.loop-word.word-index firstName (omega (arith, e)) in
    (c.requires.short, omega (arith, i, c.loop-word.invariant.place, c.requires.inside))

pub after-q-requires : goal.after-q-requires
after-q-requires c =
    let e = length-take-le c.args.n c.args.names.now c.requires.words in
    let i = name-inside c.args.s.now c.args.n c.loop-word.word-index firstName (omega (arith, e)) in
    (c.requires.short, omega (arith, i, c.loop-word.invariant.place, c.requires.inside))

pub loop-word-preserved : goal.loop-word-preserved
loop-word-preserved c =
    let v = c.loop-word.invariant in
    let e = length-take-le c.args.n c.args.names.now c.requires.words in
    let h : c.loop-word.word-index < c.args.n = omega (arith, e) in
    let g = rw (c.is_global.ensures, v.place) at c.protected.ensures in
    record {
      place = c.after-q.ensures ∙ (ap (nextName c.args.s.now) v.place ∙ name-next c.args.s.now c.loop-word.word-index firstName);
      words = elim c.if-not-protected.branch [
        | then-not-protected w ↦ rw w.word-items-is (rw (set-append_left c.loop-word.word-items (drop c.args.n c.args.names.now) c.loop-word.word-index _ (omega arith)) at (word-dropped v.words h (sym g ∙ w.if-not-protected.true)))
        | else-not-protected w ↦ rw (w.word-items-is, set-get_or) (word-kept v.words (sym g ∙ w.if-not-protected.false))
      ];
    }

pub returns : goal.returns
returns c =
    let e = length-take-le c.args.n c.args.names.now c.requires.words in
    words-done c.loop-word.invariant.words (omega (arith, e)) (omega (arith, e))
