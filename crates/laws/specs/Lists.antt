-- Laws of lists and of tests: what holds of all elements, of a list and one behind it, by number. Assumes nothing.
use Rattle.std.specs.Prelude.{◌≡◌, refl, Bool, true, false, ◌&&◌, List, [], ◌∷◌, ◌++◌, ℕ, zero, suc, ◌<◌, length, take, get_or, set}
use Rattle.std.proofs.Common.{sym, ◌∙◌, le_of_suc-le-suc, not-suc-le-zero, arith}
use Rattle.std.proofs.lemmas.Bool.{false≢true}
use Rattle.std.proofs.Math.ListN.{get_elem?}
use Rattle.std.proofs.Math.Option.{none, some}
use Rattle.rules.specs.Tables.{allb}
use Rattle.rules.specs.Preservation.{All}

-- two tests that both are passed
pub both : (a b : Bool) → (a && b) ≡ true → (a ≡ true) × (b ≡ true)
both true b e = (refl, e)
both false b e = absurd (false≢true e)

pub not-both : (b : Bool) → b ≡ true → b ≡ false → ⊥
not-both b p q = false≢true (sym q ∙ p)

module _ {A : Type 0} (P : A → Type 0) where
  pub all-append : (a b : List A) → All P a → All P b → All P (a ++ b)
  all-append [] b p q = q
  all-append (x ∷ a) b p q = (p.0, all-append a b p.1 q)

  pub all-left : (a b : List A) → All P (a ++ b) → All P a
  all-left [] b h = tt
  all-left (x ∷ a) b h = (h.0, all-left a b h.1)

  pub all-right : (a b : List A) → All P (a ++ b) → All P b
  all-right [] b h = h
  all-right (x ∷ a) b h = all-right a b h.1

  pub all-of : (d : A) (l : List A) → ((t : ℕ) → t < length l → P (get_or l t d)) → All P l
  all-of d [] h = tt
  all-of d (x ∷ l) h = (h 0 (omega arith), all-of d l (λ t p. h (suc t) (omega arith)))

  pub all-at : (d : A) (l : List A) → All P l → (t : ℕ) → t < length l → P (get_or l t d)
  all-at d [] h t p = absurd (not-suc-le-zero p)
  all-at d (x ∷ l) h zero p = h.0
  all-at d (x ∷ l) h (suc t) p = all-at d l h.1 t (le_of_suc-le-suc p)

  pub all-set : (l : List A) (n : ℕ) (a : A) → P a → All P l → All P (set l n a)
  all-set [] n a p q = q
  all-set (x ∷ l) zero a p q = (p, q.1)
  all-set (x ∷ l) (suc n) a p q = (q.0, all-set l n a p q.1)

-- what holds of each element where another thing holds of it
pub all-map : {A : Type 0} (P Q : A → Type 0) → ((a : A) → P a → Q a) → (l : List A) → All P l → All Q l
all-map P Q h [] p = tt
all-map P Q h (a ∷ l) p = (h a p.0, all-map P Q h l p.1)

-- a test that each element passes, all pass
pub all-true : {A : Type 0} (p : A → Bool) (l : List A) → All (λ a. p a ≡ true) l → allb p l ≡ true
unfolding allb
all-true p [] h = refl
all-true p (x ∷ l) h = rw (h.0, allb) (all-true p l h.1)

-- ---- by number

module _ {A : Type 0} where
  pub at-elem : (l : List A) (t : ℕ) (d a : A) → get_elem? l t ≡ some a → get_or l t d ≡ a
  at-elem [] t d a e = let z : ◌≡◌ {A = ℕ} 0 1 = cc in absurd (omega arith)
  at-elem (x ∷ l) zero d a e = cc
  at-elem (x ∷ l) (suc t) d a e = at-elem l t d a e

  pub at-past : (l : List A) (t : ℕ) (d : A) → get_elem? l t ≡ none → get_or l t d ≡ d
  at-past [] t d e = refl
  at-past (x ∷ l) zero d e = let z : ◌≡◌ {A = ℕ} 0 1 = cc in absurd (omega arith)
  at-past (x ∷ l) (suc t) d e = at-past l t d e

-- numbers below a bound, and the first of them; what is past the end is read as 0
pub take-below : (b n : ℕ) (t : List ℕ) → 0 < b → ((i : ℕ) → get_or t i 0 < b) → (i : ℕ) → get_or (take n t) i 0 < b
take-below b zero t p h i = p
take-below b (suc n) [] p h i = p
take-below b (suc n) (x ∷ t) p h zero = h 0
take-below b (suc n) (x ∷ t) p h (suc i) = take-below b n t p (λ j. h (suc j)) i
