-- For a pass that follows links: a chain without a bound; links by the heads, and by `next` where there is no ring. That such a pass ends says link-ends
-- in Rings. Assumes nothing.
use Rattle.std.specs.Prelude.{◌≡◌, refl, Bool, true, false, cond, not, List, ℕ, zero, suc, length, get_or}
use Rattle.std.proofs.Common.{sym, ap, ◌∙◌}
use Rattle.std.proofs.Math.Option.{Option, none, some}
use Rattle.rules.specs.Combine.{mate, next, joined}
use Rattle.rules.specs.Machine.{SectionOrLine, SectionCode, absent, unfixed, section, line}
use Rattle.laws.specs.Lists.{not-both}
use Rattle.joins.specs.Pairs.{to-pair}
use Rattle.gather.proofs.Contract.{chain-none, chain-some, chain-more, linked-of, linked-is}
use Rattle.gather.specs.Gather.{Ringless, cut, link, linked, head, chainOf, takes}
use Rattle.gather.proofs.Join.{next-in, next-alone}
use Rattle.gather.proofs.Rings.{link-is, link-ends}

module _ (m : List SectionCode) where
  -- ---- a chain, link by link

  -- the section alone, where it takes none in,
  pub chain-last : (u : ℕ) → link m u ≡ none → chainOf m u ≡ get_or m u absent
  chain-last u e = chain-none (link m) (λ v. get_or m v absent) (length m) u e

  -- and else with all of the one that it takes in behind it
  pub chain-goes : (u v : ℕ) → link m u ≡ some v → chainOf m u ≡ joined (get_or m u absent) (chainOf m v)
  chain-goes u v e =
      sym (chain-more (link m) (λ v. get_or m v absent) (length m) u (link-ends m u)) ∙ chain-some (link m) (λ v. get_or m v absent) (length m) u v e

  -- ---- links by the heads

  link-section : (u v : ℕ) → (get_or m u absent).success ≡ section v → (b : Bool) → linked (link m) (length m) v ≡ b → link m u ≡ cond (not b) none (some v)
  link-section u v e true q = let (x, a, l) = linked-is (link m) (length m) v q in ap (link m) (next-alone m x u v (link-is m x v l).0 e) ∙ l
  link-section u v e false q = go (link m u) refl
    where
      go : (o : Option ℕ) → link m u ≡ o → link m u ≡ none
      go none p = p
      go (some w) p =
          let n = (link-is m u w p).0 in
          let s : section w ≡ section v = sym (to-pair m u w n).succ ∙ e in
          let z : w ≡ v = cc in
          absurd (not-both (linked (link m) (length m) v) (linked-of (link m) (length m) v u (next-in m u w n) (p ∙ ap some z)) q)

  -- A section takes its successor in exactly where that is no head.
  pub link-by-head : (u : ℕ) → link m u ≡ takes (head m) (get_or m u absent).success
  link-by-head u = go (get_or m u absent).success refl
    where
      go : (x : SectionOrLine) → (get_or m u absent).success ≡ x → link m u ≡ takes (head m) x
      go unfixed e = ap (λ (x : SectionOrLine). cut m (mate m u x)) e
      go (section v) e = link-section u v e (linked (link m) (length m) v) refl
      go (line r) e = ap (λ (x : SectionOrLine). cut m (mate m u x)) e

  -- ---- no ring

  module _ (h : Ringless m) where
    -- then each section takes in the one that it may
    pub ringless-link : (u : ℕ) → link m u ≡ next m u
    ringless-link u = go (next m u)
      where
        go : (o : Option ℕ) → cut m o ≡ o
        go none = refl
        go (some v) = ap (λ (b : Bool). cond b none (some v)) (h v)

    linked-same : (k t : ℕ) → linked (link m) k t ≡ linked (next m) k t
    linked-same zero t = refl
    linked-same (suc k) t = rw (ringless-link k, linked-same k t)

    -- and a head is what none may take in
    pub ringless-head : (t : ℕ) → head m t ≡ not (linked (next m) (length m) t)
    ringless-head t = ap not (linked-same (length m) t)
