-- The chain's all is that of the rules.
use Rattle.std.proofs.Common.{◌∙◌, rules, take}
use borrow.Author.Tests.{tests}
use Rattle.rules.specs.Tables.{nameFits}
use Rattle.std.proofs.lemmas.Iterator.{YieldsList-from_slice}
use Rattle.std.proofs.lemmas.Iterator.Search.{all_from_yields_List}
use Rattle.tables.specs.Lent.{countsTold}
use Rattle.tables.proofs.Walks.{all_is}
use Rattle.tables.proofs.check.names_fit.Goals as goal

pub returns : goal.returns
returns c =
    all_from_yields_List (nameFits (countsTold c.args.c)) _ _ _ c.all.ensures.ran (YieldsList-from_slice (take c.args.c.names c.args.t.now) cc) (λ x b q k. search (rules, tests)) ∙ all_is _ _
