-- Where numbers past the sections go, and how much code a gathered machine has. Assumes nothing.
use Rattle.std.specs.Prelude.{◌≡◌, ◌⊎◌, Bool, true, cond, List, ℕ, zero, suc, ◌+◌, ◌-◌, ◌≤◌, length}
use Rattle.std.proofs.Common.{sym, ap, ◌∙◌, inl, inr, arith}
use Rattle.std.proofs.lemmas.Bool.{cases_eq, false_from_ne_true, not_from_false}
use Rattle.rules.specs.Machine.{SectionCode}
use Rattle.rules.specs.Tables.{allCode}
use Rattle.joins.specs.Code.{combine-code}
use Rattle.joins.specs.Joins.{second-in}
use Rattle.joins.specs.Pairs.{to-pair}
use Rattle.gather.proofs.Contract.{linked-is}
use Rattle.gather.specs.Gather.{link, linked, head, newNumber, gather}
use Rattle.gather.proofs.Rings.{link-is}
use Rattle.gather.proofs.Theorems.{combine-gather}

-- as many instructions as before
pub gather-code : (m : List SectionCode) → length (allCode (gather m)) ≡ length (allCode m)
gather-code m = ap (λ (l : List SectionCode). length (allCode l)) (sym (combine-gather m)) ∙ combine-code m

-- ---- past the end

module _ (m : List SectionCode) where
  -- a number that no section has counts as a head
  pub head-past : (t : ℕ) → length m ≤ t → head m t ≡ true
  head-past t h = not_from_false (linked (link m) (length m) t) (false_from_ne_true (linked (link m) (length m) t) never)
    where
      never : linked (link m) (length m) t ≡ true → ⊥
      never e =
          let (x, a, b) = linked-is (link m) (length m) t e in
          let z = second-in m x t (to-pair m x t (link-is m x t b).0) in
          omega arith

  -- so new numbers go on from the number of sections that are left
  pub number-past : (t : ℕ) → length m ≤ t → newNumber m t ≡ newNumber m (length m) + (t - length m)
  number-past zero h = let z : length m ≡ 0 = omega arith in omega (arith, ap (newNumber m) z)
  number-past (suc t) h = go (cases_eq (length m) (suc t)) (λ p. number-past t p)
    where
      go : (length m ≡ suc t) ⊎ (length m ≡ suc t → ⊥) → (length m ≤ t → newNumber m t ≡ newNumber m (length m) + (t - length m)) → newNumber m (suc t) ≡ newNumber m (length m) + (suc t - length m)
      go (inl e) ih = omega (arith, ap (newNumber m) e)
      go (inr e) ih = let p : length m ≤ t = omega (arith, e) in omega (arith, ih p, ap (λ (b : Bool). cond b (suc (newNumber m t)) (newNumber m t)) (head-past t p))
