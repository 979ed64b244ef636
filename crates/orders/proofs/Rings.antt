-- A join of a machine without a ring makes none.
use Rattle.std.specs.Prelude.{◌≡◌, List, ℕ}
use Rattle.std.proofs.Common.{sym, ap, ◌∙◌}
use Rattle.std.proofs.Math.Option.{some}
use Rattle.rules.specs.Combine.{next, combineAt}
use Rattle.rules.specs.Machine.{SectionCode}
use Rattle.laws.specs.Lists.{not-both}
use Rattle.joins.specs.Numbers.{rises}
use Rattle.gather.specs.Gather.{lowest, Ringless}
use Rattle.gather.proofs.JoinLinks.{lowest-stays, back-lowest}

pub join-ringless : (m : List SectionCode) → Ringless m → (i j : ℕ) → next m i ≡ some j → Ringless (combineAt m i j)
join-ringless m h i j e t =
    let r = rises j t in
    ap (lowest (combineAt m i j)) (sym r.falls) ∙ (lowest-stays m i j e (h j) r.from r.other (λ q z. not-both (lowest m i) (back-lowest m i j e (h j) q) (h i)) ∙ h r.from)
