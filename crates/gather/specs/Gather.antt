-- Combining in one pass, `gather`: a section that none takes in, a head, takes in its whole chain of successors. Targets that are left are heads, and each
-- becomes the number of heads below it. Definitions only; that this is what combining gives is shown in proofs/Theorems, of every list of sections.
use Rattle.std.specs.Prelude.{◌≡◌, Bool, false, cond, not, ◌&&◌, ◌||◌, List, [], ◌∷◌, ℕ, zero, suc, ltb, eqb, length, get_or}
use Rattle.std.proofs.Math.Option.{Option, none, some}
use Rattle.rules.specs.Clean.{ren}
use Rattle.rules.specs.Combine.{next, joined}
use Rattle.rules.specs.Machine.{SectionOrLine, SectionCode, absent, unfixed, section, line}

-- ---- links: to each section the one that it takes in, if any

-- does `next` lead from u back to t, in at most k steps and on the way only through sections above t?
abbrev pub returns : List SectionCode → ℕ → ℕ → ℕ → Bool
returns m t zero u = false
returns m t (suc k) u = elim (next m u) [ none ↦ false | some v ↦ eqb v t || (ltb t v && returns m t k v) ]

-- is t the lowest section of a ring, that is of sections each of which may take the next one in, round to the first?
abbrev pub lowest : List SectionCode → ℕ → Bool
lowest m t = returns m t (length m) t

-- is there no ring?
abbrev pub Ringless : List SectionCode → Type 0
Ringless m = (t : ℕ) → lowest m t ≡ false

-- none in place of the lowest section of a ring: with it its ring begins, so there the ring is cut
abbrev pub cut : List SectionCode → Option ℕ → Option ℕ
cut m none = none
cut m (some v) = cond (lowest m v) none (some v)

-- the section that section u takes in
abbrev pub link : List SectionCode → ℕ → Option ℕ
link m u = cut m (next m u)

-- ---- chains: what links lead to

-- is it t?
abbrev pub isAt : ℕ → Option ℕ → Bool
isAt t none = false
isAt t (some v) = eqb v t

-- does the link of one of the sections below k lead to t?
abbrev pub linked : (ℕ → Option ℕ) → ℕ → ℕ → Bool
linked l zero t = false
linked l (suc k) t = isAt t (l k) || linked l k t

-- the sections from u on along the links, joined, at most k links
abbrev pub chain : (ℕ → Option ℕ) → (ℕ → SectionCode) → ℕ → ℕ → SectionCode
chain l s zero u = s u
chain l s (suc k) u = elim (l u) [ none ↦ s u | some v ↦ joined (s u) (chain l s k v) ]

-- how many numbers below t pass the test
abbrev pub rankBy : (ℕ → Bool) → ℕ → ℕ
rankBy h zero = 0
rankBy h (suc t) = cond (h t) (suc (rankBy h t)) (rankBy h t)

-- what f makes of those of the k numbers from i on that pass the test
abbrev pub pick : {A : Type 0} → (ℕ → Bool) → (ℕ → A) → ℕ → ℕ → List A
pick h f i zero = []
pick h f i (suc k) = cond (h i) (f i ∷ pick h f (suc i) k) (pick h f (suc i) k)

-- ---- a machine

-- is section t a head, taken in by none? (A number that no section has counts as a head.)
abbrev pub head : List SectionCode → ℕ → Bool
head m t = not (linked (link m) (length m) t)

-- t's new number: the heads below it
abbrev pub newNumber : List SectionCode → ℕ → ℕ
newNumber m t = rankBy (head m) t

-- section u with all that its links lead to
abbrev pub chainOf : List SectionCode → ℕ → SectionCode
chainOf m u = chain (link m) (λ v. get_or m v absent) (length m) u

-- head t with its chain, renumbered
abbrev pub whole : List SectionCode → ℕ → SectionCode
whole m t = ren (newNumber m) (chainOf m t)

-- all heads with their chains, ascending
unfoldable pub gather : List SectionCode → List SectionCode
gather m = pick (head m) (whole m) 0 (length m)

-- ---- the same links by the heads

-- what a section with this successor takes in, where h tells the heads: the successor, unless it is a head
abbrev pub takes : (ℕ → Bool) → SectionOrLine → Option ℕ
takes h unfixed = none
takes h (section v) = cond (h v) none (some v)
takes h (line r) = none
