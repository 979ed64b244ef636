-- The turns of the loop that stores a chain: what is stored, then what the links still lead to, is the whole chain. Assumes that the words of its
-- sections are a machine's.
use Rattle.std.specs.Prelude.{◌≡◌, refl, ◌⊎◌, false, not, List, [], ◌++◌, ℕ, zero, suc, ◌<◌, length, get_or}
use Rattle.std.proofs.Common.{sym, ap, ◌∙◌, subst, inl, inr, append_assoc, arith, length-append}
use Rattle.std.proofs.lemmas.List.{append-nil, map-append}
use Rattle.std.proofs.Math.Option.{Option, none, some}
use Rattle.rules.specs.Word.{wordRun}
use Rattle.rules.specs.Machine.{SectionCode, absent}
use Rattle.rules.specs.Tables.{successOf}
use Rattle.rules.specs.Combine.{joined}
use Rattle.joins.specs.Pairs.{to-pair}
use Rattle.joins.specs.Joins.{second-in}
use Rattle.gather.specs.Gather.{link, head, chainOf, takes}
use Rattle.gather.proofs.Contract.{Ends, linked-of}
use Rattle.gather.proofs.Follow.{chain-last, chain-goes, link-by-head}
use Rattle.gather.proofs.Rings.{link-is, link-ends}
use Rattle.clean.proofs.Cleaned.{jump-words}
use Rattle.combine.specs.declared.store.Places.{Places}
use Rattle.combine.specs.declared.chains.Chains.{Chains}
use Rattle.combine.specs.Counting.{headBy}
use Rattle.combine.specs.Numbers.{numberBy}
use Rattle.combine.specs.Stores.{HasRoom, Stores}
use Rattle.combine.specs.Chains.{codeAt, CodeInside, newCode, codeWords, Stands, ChainStands}
use Rattle.combine.proofs.Stores.{stores-seq, stores-as, stores-room}

-- ---- the words of code

words-joined : (m : List SectionCode) (a b : SectionCode) → codeWords m (joined a b) ≡ codeWords m a ++ codeWords m b
words-joined m a b = rw (map-append, map-append)

-- ---- how far links lead: the measure

abbrev far : (ℕ → Option ℕ) → ℕ → ℕ → ℕ
far l zero u = 0
far l (suc k) u = elim (l u) [ none ↦ 0 | some v ↦ suc (far l k v) ]

module _ (l : ℕ → Option ℕ) where
  far-none : (k u : ℕ) → l u ≡ none → far l k u ≡ 0
  far-none zero u e = refl
  far-none (suc k) u e = rw (e, far)

  far-some : (k u v : ℕ) → l u ≡ some v → far l (suc k) u ≡ suc (far l k v)
  far-some k u v e = rw (e, far)

  far-more : (k u : ℕ) → Ends l k u → far l (suc k) u ≡ far l k u
  far-more zero u e = far-none 1 u e
  far-more (suc k) u e = go (l u) refl (λ v q. far-more k v (e v q))
    where
      go : (o : Option ℕ) → l u ≡ o → ((v : ℕ) → l u ≡ some v → far l (suc k) v ≡ far l k v) → far l (suc (suc k)) u ≡ far l (suc k) u
      go none q ih = far-none (suc (suc k)) u q ∙ sym (far-none (suc k) u q)
      go (some v) q ih = far-some (suc k) u v q ∙ (ap suc (ih v q) ∙ sym (far-some k u v q))

-- how many sections the links of u lead to
unfoldable pub linksLeft : List SectionCode → ℕ → ℕ
linksLeft m u = far (link m) (length m) u

pub links-less : (m : List SectionCode) (u v : ℕ) → link m u ≡ some v → linksLeft m v < linksLeft m u
unfolding linksLeft
links-less m u v e = omega (arith, far-more (link m) (length m) u (link-ends m u), far-some (link m) (length m) u v e)

-- ---- a chain

-- the words of what u takes in
abbrev leftOf : List SectionCode → Option ℕ → List ℕ
leftOf m none = []
leftOf m (some v) = codeWords m (chainOf m v)

left-is : (m : List SectionCode) (u : ℕ) → codeWords m (chainOf m u) ≡ codeWords m (get_or m u absent) ++ leftOf m (link m u)
left-is m u = go (link m u) refl
  where
    go : (o : Option ℕ) → link m u ≡ o → codeWords m (chainOf m u) ≡ codeWords m (get_or m u absent) ++ leftOf m o
    go none e = ap (codeWords m) (chain-last m u e) ∙ sym (append-nil (codeWords m (get_or m u absent)))
    go (some v) e = ap (codeWords m) (chain-goes m u v e) ∙ words-joined m (get_or m u absent) (chainOf m v)

-- the chain of t is stored up to section u, which is on it
pub record Following (m : List SectionCode) (t : ℕ) (p p' : Places) (u : ℕ) : Type 0 where
  pub done : List ℕ
  pub stores : Stores p p' done
  pub rest : done ++ leftOf m (link m u) ≡ codeWords m (chainOf m t)
  pub there : u < length m
  pub on-chain : (u ≡ t) ⊎ (head m u ≡ false)
  pub success : (chainOf m u).success ≡ (chainOf m t).success

module _ (m : List SectionCode) (r : Chains) (t : ℕ) (k : ChainStands m r t) where
  module _ (u : ℕ) (h : u < length m) (o : (u ≡ t) ⊎ (head m u ≡ false)) where
    here : Stands m r.sections.now r.code.now u
    here = k.stands u h o

    pub in-words : u < length r.sections.now
    in-words = omega (arith, k.size)

    pub code-inside : CodeInside r u
    code-inside = record { there = in-words; inside = here.inside }

    -- the words of u's code as they are stored
    pub code-is : newCode r u ≡ codeWords m (get_or m u absent)
    code-is = jump-words (numberBy r.numbers.numbers.now r.numbers.heads) (codeAt r.sections.now r.code.now u) ∙ rw (here.code, k.prepared.numbers) refl

    -- what the word of u says of its link
    pub link-told : (x : Option ℕ) → x ≡ takes (headBy r.counts.now) (successOf (wordRun (get_or r.sections.now u 0))) → link m u ≡ x
    link-told x e = link-by-head m u ∙ sym (e ∙ rw (k.prepared.marks, here.success) refl)

  pub starts-room : (p : Places) → HasRoom p (codeWords m (chainOf m t)) → HasRoom p (codeWords m (get_or m t absent))
  starts-room p h = omega (arith, h, ap length (left-is m t), length-append (codeWords m (get_or m t absent)) (leftOf m (link m t)))

  pub following-starts : {p p' : Places} → Stores p p' (codeWords m (get_or m t absent)) → Following m t p p' t
  following-starts {p} {p'} s = record { done = codeWords m (get_or m t absent); stores = s; rest = sym (left-is m t); there = k.there; on-chain = inl refl; success = refl }

  module _ {p p' : Places} (u : ℕ) (g : Following m t p p' u) where
    pub following-done : link m u ≡ none → Stores p p' (codeWords m (chainOf m t))
    following-done e = stores-as g.stores (sym (append-nil g.done) ∙ rw e at g.rest)

    pub last-success : link m u ≡ none → successOf (wordRun (get_or r.sections.now u 0)) ≡ (chainOf m t).success
    last-success e = (here u g.there g.on-chain).success ∙ (sym (ap (λ (s : SectionCode). s.success) (chain-last m u e)) ∙ g.success)

    module _ (v : ℕ) (e : link m u ≡ some v) where
      pub next-there : v < length m
      next-there = second-in m u v (to-pair m u v (link-is m u v e).0)

      pub next-on : (v ≡ t) ⊎ (head m v ≡ false)
      next-on = inr (ap not (linked-of (link m) (length m) v u g.there e))

      rest-next : (g.done ++ codeWords m (get_or m v absent)) ++ leftOf m (link m v) ≡ codeWords m (chainOf m t)
      rest-next = append_assoc g.done (codeWords m (get_or m v absent)) (leftOf m (link m v)) ∙ (ap (λ (x : List ℕ). g.done ++ x) (sym (left-is m v)) ∙ rw e at g.rest)

      pub next-room : HasRoom p (codeWords m (chainOf m t)) → HasRoom p' (codeWords m (get_or m v absent))
      next-room h =
          let a = codeWords m (get_or m v absent) in
          let b = leftOf m (link m v) in
          let q : HasRoom p (g.done ++ (a ++ b)) = subst (HasRoom p) (sym rest-next ∙ append_assoc g.done a b) h in
          omega (arith, stores-room g.stores (a ++ b) q, length-append a b)

      pub following-more : {p'' : Places} → Stores p' p'' (codeWords m (get_or m v absent)) → Following m t p p'' v
      following-more {p''} s =
          record {
            done = g.done ++ codeWords m (get_or m v absent);
            stores = stores-seq g.stores s;
            rest = rest-next;
            there = next-there;
            on-chain = next-on;
            success = sym (ap (λ (s : SectionCode). s.success) (chain-goes m u v e)) ∙ g.success;
          }
