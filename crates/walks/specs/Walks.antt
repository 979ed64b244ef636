-- Walks of any kind: what one walk says of another.
use Rattle.std.specs.Prelude.{◌≡◌, refl, ◌⊎◌, List, [], ◌++◌, ℕ, zero, suc, ◌+◌, ◌≤◌, length, take}
use Rattle.std.proofs.Common.{sym, ap, ◌∙◌, subst, inl, inr, append_assoc, le_of_suc-le-suc, not-suc-le-zero, zero-add, suc-add, arith, length-take}
use Rattle.std.proofs.lemmas.List.{take-append-le}
use Rattle.rules.specs.Instr.{Instruction}
use Rattle.rules.specs.Walk.{Ask, Halt, ask, lost, Step, to, done, more, over, Leg, Trace, pre, onto, run}
use Rattle.rules.specs.Preservation.{Walk, Meets, Stops}
use Rattle.walks.specs.Claim.{Safe, Alike}

-- ---- fuel, added so that it computes

abbrev pub up : ℕ → ℕ → ℕ
up zero k = k
up (suc j) k = suc (up j k)

pub up-is : (j k : ℕ) → up j k ≡ j + k
up-is zero k = sym (zero-add k)
up-is (suc j) k = ap suc (up-is j k) ∙ sym (suc-add j k)

pub up-assoc : (i j k : ℕ) → up (up i j) k ≡ up i (up j k)
up-assoc zero j k = refl
up-assoc (suc i) j k = ap suc (up-assoc i j k)

up-suc : (i k : ℕ) → up i (suc k) ≡ suc (up i k)
up-suc zero k = refl
up-suc (suc i) k = ap suc (up-suc i k)

-- ---- one trace is another's beginning

abbrev pub Below : Trace → Trace → Type 0
Below t u = (u ≡ t) ⊎ ((t.1 ≡ more) × ((x : List Instruction) × (u.0 ≡ t.0 ++ x)))

below-pre : (l : List Instruction) (t u : Trace) → Below t u → Below (pre l t) (pre l u)
below-pre l t u (inl e) = inl (ap (pre l) e)
below-pre l t u (inr (m, (x, e))) = inr (m, (x, rw (append_assoc, ← e) refl))

below-trans : (t u v : Trace) → Below t u → Below u v → Below t v
below-trans t u v (inl e) (inl f) = inl (f ∙ e)
below-trans t u v (inl e) (inr h) = inr (subst (λ (z : Trace). (z.1 ≡ more) × ((x : List Instruction) × (v.0 ≡ z.0 ++ x))) e h)
below-trans t u v (inr (m, (x, e))) (inl f) = inr (m, (x, ap (λ (z : Trace). z.0) f ∙ e))
below-trans t u v (inr (m, (x, e))) (inr (n, (y, f))) = inr (m, (x ++ y, f ∙ (rw (e, append_assoc))))

-- ---- more fuel, more of the same

module _ {S : Type 0} (st : S → Leg S) where
  below-onto : (F G : S → Trace) (l : List Instruction) (r : Step S) → ((s : S) → Below (F s) (G s)) → Below (onto F l r) (onto G l r)
  below-onto F G l (to s) h = below-pre l (F s) (G s) (h s)
  below-onto F G l (done f) h = inl refl

  pub run-more : (k k' : ℕ) → k ≤ k' → (s : S) → Below (run st k s) (run st k' s)
  run-more zero k' h s = inr (refl, ((run st k' s).0, refl))
  run-more (suc k) zero h s = absurd (not-suc-le-zero h)
  run-more (suc k) (suc k') h s =
      below-onto (λ z. run st k z) (λ z. run st k' z) (st s).0 (st s).1 (λ z. run-more k k' (le_of_suc-le-suc h) z)

-- From s, in at least lo steps, l is met and s' reached. From s, l is met and then the walk is over.
pub record Goes {S : Type 0} (st : S → Leg S) (lo : ℕ) (s : S) (l : List Instruction) (s' : S) : Type 0 where
  pub steps : ℕ
  pub enough : lo ≤ steps
  pub goes : (k : ℕ) → run st (up steps k) s ≡ pre l (run st k s')

pub record Halts {S : Type 0} (st : S → Leg S) (s : S) (l : List Instruction) (f : Halt) : Type 0 where
  pub steps : ℕ
  pub halts : (k : ℕ) → run st (suc (up steps k)) s ≡ (l, over f)

pub goes-here : {S : Type 0} (st : S → Leg S) (s : S) → Goes st 0 s [] s
goes-here st s = record { steps = 0; enough = omega arith; goes = λ k. refl }

module _ {S : Type 0} {st : S → Leg S} where
  pub goes-step : {s s' : S} {l : List Instruction} → st s ≡ (l, to s') → Goes st 1 s l s'
  goes-step e = record { steps = 1; enough = omega arith; goes = λ k. ap (λ (x : Leg S). onto (λ z. run st k z) x.0 x.1) e }

  pub halts-step : {s : S} {l : List Instruction} {f : Halt} → st s ≡ (l, done f) → Halts st s l f
  halts-step e = record { steps = 0; halts = λ k. ap (λ (x : Leg S). onto (λ z. run st k z) x.0 x.1) e }

  pub goes-goes : {lo lo' : ℕ} {a b c : S} {l l' : List Instruction} → Goes st lo a l b → Goes st lo' b l' c → Goes st lo a (l ++ l') c
  goes-goes {a = a} {c = c} {l = l} {l' = l'} g h =
      let i = g.steps in
      let j = h.steps in
      record {
        steps = up i j;
        enough = omega (arith, up-is i j, g.enough);
        goes =
            λ k.
            ap (λ n. run st n a) (up-assoc i j k)
            ∙ (g.goes (up j k) ∙ (ap (pre l) (h.goes k) ∙ ap (λ (z : List Instruction). (z, (run st k c).1)) (sym (append_assoc l l' (run st k c).0))));
      }

  pub goes-halts : {lo : ℕ} {a b : S} {l l' : List Instruction} {f : Halt} → Goes st lo a l b → Halts st b l' f → Halts st a (l ++ l') f
  goes-halts {a = a} {l = l} g h =
      let i = g.steps in
      let j = h.steps in
      record {
        steps = up i j;
        halts = λ k. ap (λ n. run st n a) (ap suc (up-assoc i j k) ∙ sym (up-suc i (up j k))) ∙ (g.goes (suc (up j k)) ∙ ap (pre l) (h.halts k));
      }

-- ---- A's walk is B's, where each step of A is one or more of B

pub data Match {SA SB : Type 0} (sa : SA → Leg SA) (sb : SB → Leg SB) (R : SA → SB → Type 0) (a : SA) (b : SB) : Type 0 where
  m-to : {l : List Instruction} {a' : SA} {b' : SB} → sa a ≡ (l, to a') → Goes sb 1 b l b' → R a' b' → Match sa sb R a b
  m-done : {l : List Instruction} {f : Halt} → sa a ≡ (l, done f) → Halts sb b l f → Match sa sb R a b

abbrev pub Covers : Walk → Walk → Type 0
Covers v w = (k : ℕ) → (k' : ℕ) × (k ≤ k') × (v k ≡ w k')

module _ {SA SB : Type 0} (sa : SA → Leg SA) (sb : SB → Leg SB) (R : SA → SB → Type 0) (sim : (a : SA) (b : SB) → R a b → Match sa sb R a b) where
  pub covers : (k : ℕ) (a : SA) (b : SB) → R a b → (k' : ℕ) × (k ≤ k') × (run sa k a ≡ run sb k' b)
  covers zero a b r = (zero, omega arith, refl)
  covers (suc k) a b r = go (sim a b r) (λ a' b' r'. covers k a' b' r')
    where
      go : Match sa sb R a b → ((a' : SA) (b' : SB) → R a' b' → (k' : ℕ) × (k ≤ k') × (run sa k a' ≡ run sb k' b')) → (k' : ℕ) × (suc k ≤ k') × (run sa (suc k) a ≡ run sb k' b)
      go (m-to {l = l} {a' = a'} {b' = b'} e g r') ih =
          let (k'', le, p) = ih a' b' r' in (
            up g.steps k'',
            omega (arith, up-is g.steps k'', g.enough),
            ap (λ (x : Leg SA). onto (λ z. run sa k z) x.0 x.1) e ∙ (ap (pre l) p ∙ sym (g.goes k'')),
          )
      go (m-done {l = l} e h) ih = (
        suc (up h.steps k),
        omega (arith, up-is h.steps k),
        ap (λ (x : Leg SA). onto (λ z. run sa k z) x.0 x.1) e ∙ sym (h.halts k),
      )

-- ---- one walk within another

abbrev pub Within : Walk → Walk → Type 0
Within v w = (k : ℕ) → (k' : ℕ) × Below (v k) (w k')

pub within-trans : (u v w : Walk) → Within u v → Within v w → Within u w
within-trans u v w g h k =
    let (i, p) = g k in
    let (j, q) = h i in
    (j, below-trans (u k) (v i) (w j) p q)

pub covers-within : (v w : Walk) → Covers v w → Within v w
covers-within v w c k = ((c k).0, inl (sym (c k).2))

pub covers-back : {S : Type 0} (st : S → Leg S) (s : S) (v : Walk) → Covers v (λ k. run st k s) → Within (λ k. run st k s) v
covers-back st s v c k = (k, rw (c k).2 (run-more st k (c k).0 (c k).1 s))

n-fits : (n : ℕ) (a l : List Instruction) → length l ≡ n → take n a ≡ l → n ≤ length a
n-fits n a l h e = omega (arith, length-take n a, ap length e)

over≢more : (f : Halt) → over f ≡ more → ⊥
over≢more f e = let z : ◌≡◌ {A = ℕ} 0 1 = cc in omega arith

within-meets : (v w : Walk) → Within v w → (n : ℕ) (l : List Instruction) → Meets v n l → Meets w n l
within-meets v w h n l (k, f, e) = go (h k).1
  where
    go : Below (v k) (w (h k).0) → Meets w n l
    go (inl p) = ((h k).0, f, ap (λ (z : Trace). take n z.0) p ∙ e)
    go (inr (m, (x, p))) = ((h k).0, f, ap (take n) p ∙ (take-append-le n (v k).0 x (n-fits n (v k).0 l f e) ∙ e))

within-stops : (v w : Walk) → Within v w → (l : List Instruction) (q : Ask) → Stops v l q → Stops w l q
within-stops v w h l q (k, e) = go (h k).1
  where
    go : Below (v k) (w (h k).0) → Stops w l q
    go (inl p) = ((h k).0, p ∙ e)
    go (inr (m, z)) = absurd (over≢more (ask q) (sym (ap (λ (t : Trace). t.1) e) ∙ m))

pub within-safe : (v w : Walk) → Within v w → Safe w → Safe v
within-safe v w h safe k e = go (h k).1
  where
    go : Below (v k) (w (h k).0) → ⊥
    go (inl p) = safe (h k).0 (ap (λ (t : Trace). t.1) p ∙ e)
    go (inr (m, z)) = over≢more lost (sym e ∙ m)

pub same-walk : (v w : Walk) → Within v w → Within w v → Alike v w
same-walk v w g h =
    record {
      meets = λ n l. (within-meets v w g n l, within-meets w v h n l);
      stops = λ l q. (within-stops v w g l q, within-stops w v h l q);
    }
