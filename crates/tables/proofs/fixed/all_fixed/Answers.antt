-- The chain's all is that of the rules.
use Rattle.std.proofs.Common.{◌∙◌, rules}
use borrow.Author.Tests.{tests}
use Rattle.std.proofs.lemmas.Iterator.{YieldsList-from_slice}
use Rattle.std.proofs.lemmas.Iterator.Search.{all_from_yields_List}
use Rattle.tables.specs.Runs.{fixedWord}
use Rattle.tables.proofs.Walks.{all_is}
use Rattle.tables.proofs.fixed.all_fixed.Goals as goal

pub returns : goal.returns
unfolding fixedWord
returns c =
    all_from_yields_List fixedWord _ _ _ c.all.ensures.ran (YieldsList-from_slice c.args.sections.now cc) (λ x b q k. search (rules, tests)) ∙ all_is _ _
