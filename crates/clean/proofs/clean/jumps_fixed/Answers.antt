-- The chain's all is that of the rules.
use Rattle.std.proofs.Common.{◌∙◌, rules}
use borrow.Author.Tests.{tests}
use Rattle.std.proofs.lemmas.Iterator.{YieldsList-from_slice}
use Rattle.std.proofs.lemmas.Iterator.Search.{all_from_yields_List}
use Rattle.tables.proofs.Walks.{all_is}
use Rattle.clean.specs.Pass.{jumpIn}
use Rattle.clean.proofs.clean.jumps_fixed.Goals as goal

pub returns : goal.returns
returns c =
    all_from_yields_List (jumpIn c.args.sections.now) _ _ _ c.all.ensures.ran (YieldsList-from_slice c.args.instructions.now cc) (λ x b q k. search (rules, tests)) ∙ all_is _ _
