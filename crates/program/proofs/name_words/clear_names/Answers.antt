-- The first n words are the mark.
use Rattle.std.proofs.Common.{refl, rules, length-take-le}
use Rattle.program.proofs.Names.{marks}
use Rattle.program.proofs.name_words.clear_names.Goals as goal

pub returns : goal.returns
returns c = let f = c.fill.ensures.after (λ y e. search rules) in rw (f, length-take-le c.args.n c.args.names.now c.requires, marks) refl
