-- A `match` on a number with keys and ranges, against a function of the number: the values at all the numbers of an arm are computed and compared
-- as one list. Assumes nothing.
use Rattle.std.specs.Prelude.{◌≡◌, Bool, true, false, ◌||◌, List, [], ◌∷◌, map, ℕ, zero, suc, ◌+◌, ◌<◌, ◌≤◌, T}
use Rattle.std.proofs.Common.{⊎_elim, arith, eq-or-lt_of_le}
use Rattle.std.proofs.Math.Facts.{or_yes}
use mir.Val.{has_key}
use types.Run.{OneOf, hit}

-- ---- an arm of keys

pub at-keys : {A : Type 0} (f : ℕ → A) (x : A) (ks : List ℕ) → map (λ k. x) ks ≡ map f ks → (n : ℕ) → OneOf ks n → x ≡ f n
at-keys f x [] h n e = absurd e
at-keys f x (k ∷ []) h n e = let q : x ≡ f k = cc in rw e q
at-keys f x (k ∷ (j ∷ ks)) h n e =
    let q : x ≡ f k = cc in
    let t : map (λ i. x) (j ∷ ks) ≡ map f (j ∷ ks) = cc in
    ⊎_elim (λ d. rw d q) (λ d. at-keys f x (j ∷ ks) t n d) e

-- ---- an arm of a range, of which earlier arms took some keys

-- what is known where no key was met
abbrev pub Rest : Type 0 → List (List ℕ) → ℕ → Type 0
Rest N [] n = N
Rest N (ks ∷ kss) n = Rest (N × (OneOf ks n → ⊥)) kss n

-- is n one of the keys?
abbrev pub has : List (List ℕ) → ℕ → Bool
has [] n = false
has (ks ∷ kss) n = has_key ks n || has kss n

first : (N : Type 0) (kss : List (List ℕ)) (n : ℕ) → Rest N kss n → N
first N [] n r = r
first N (ks ∷ kss) n r = (first (N × (OneOf ks n → ⊥)) kss n r).0

none : (N : Type 0) (kss : List (List ℕ)) (n : ℕ) → Rest N kss n → T (has kss n) → ⊥
none N [] n r h = h
none N (ks ∷ kss) n r h = ⊎_elim (λ d. (first (N × (OneOf ks n → ⊥)) kss n r).1 (hit ks n d)) (λ d. none (N × (OneOf ks n → ⊥)) kss n r d) (or_yes (has_key ks n) (has kss n) h)

-- an element, unless it is left out
abbrev pub unless : {A : Type 0} → Bool → A → List A → List A
unless true a l = l
unless false a l = a ∷ l

-- f at the n numbers from lo on, but at the keys
abbrev pub others : {A : Type 0} → (ℕ → A) → List (List ℕ) → ℕ → ℕ → List A
others f kss lo zero = []
others f kss lo (suc n) = unless (has kss lo) (f lo) (others f kss (suc lo) n)

head : {A : Type 0} (b : Bool) (x y : A) (l m : List A) → unless b x l ≡ unless b y m → (T b → ⊥) → x ≡ y
head true x y l m h k = absurd (k tt)
head false x y l m h k = cc

tail : {A : Type 0} (b : Bool) (x y : A) (l m : List A) → unless b x l ≡ unless b y m → l ≡ m
tail true x y l m h = h
tail false x y l m h = cc

-- two functions whose values at these numbers are the same list
pub agree : {A : Type 0} (f g : ℕ → A) (kss : List (List ℕ)) (lo n : ℕ) → others g kss lo n ≡ others f kss lo n → (k : ℕ) → Rest (Unit {0}) kss k → lo ≤ k → k < lo + n → g k ≡ f k
agree f g kss lo zero h k r a b = absurd (omega arith)
agree f g kss lo (suc n) h k r a b =
    ⊎_elim
    (λ e. let q : (T (has kss lo) → ⊥) → g lo ≡ f lo = head (has kss lo) (g lo) (f lo) _ _ h in rw (← e) (q (rw e (none Unit kss k r))))
    (λ l. agree f g kss (suc lo) n (tail (has kss lo) (g lo) (f lo) _ _ h) k r l (omega arith))
    (eq-or-lt_of_le a)

pub in-range : {A : Type 0} (f : ℕ → A) (x : A) (kss : List (List ℕ)) (lo n : ℕ) → others (λ k. x) kss lo n ≡ others f kss lo n → (k : ℕ) → Rest (Unit {0}) kss k → lo ≤ k → k < lo + n → x ≡ f k
in-range f x kss lo n = agree f (λ k. x) kss lo n
