-- The tables are long enough.
use Rattle.std.proofs.Common.{◌∙◌, ap, length, arith}
use Rattle.std.proofs.lemmas.List.{take-replicate, length-replicate}
use Rattle.combine.proofs.collect.gather_with.Goals as goal

pub whole_as_front-gather : goal.whole_as_front-gather
whole_as_front-gather g c = let r = c.requires.lengths in (r.0, omega (arith, r.2))

pub whole_as_front-gather-2 : goal.whole_as_front-gather-2
whole_as_front-gather-2 g c = let r = c.requires.lengths in (rw c.words.ensures r.1, omega (arith, r.3))

pub gather-requires-clause-tables : goal.gather-requires-clause-tables
gather-requires-clause-tables g c =
    let r = c.requires.lengths in
    (c.requires.counted, ap length (take-replicate _ _ 0 r.0) ∙ length-replicate _ 0, rw c.words.ensures (ap length (take-replicate _ _ 0 r.1) ∙ length-replicate _ 0))
