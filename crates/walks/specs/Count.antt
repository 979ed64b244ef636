-- Whether a reading meets n instructions can be told: a line that meets nothing and asks nothing is always so, and a reading that passes
-- only such lines goes round for ever. So 'both meet the same first n, or both fewer' needs no excluded middle.
use Rattle.std.specs.Prelude.{◌≡◌, refl, ◌⊎◌, Bool, true, false, List, [], ◌∷◌, ◌++◌, ℕ, zero, suc, ◌+◌, ◌-◌, ◌%◌, ◌≤◌, ◌<◌, length, get_or, take, eqb}
use Rattle.std.proofs.Common.{sym, ap, ◌∙◌, subst, inl, inr, mod-lt, arith, length-append, length-take, length-take-le, eqb-true}
use Rattle.rules.specs.Instr.{Instruction, isJump, shown}
use Rattle.rules.specs.Walk.{Halt, ask, to, done, Leg, onto, run, State}
use Rattle.rules.specs.Script.{Stmts, nil, plain, goto, ite, Script}
use Rattle.rules.specs.Assemble.{condJump, nextLine}
use Rattle.rules.specs.ReadScript.{Out, behind, erred, gone, stop, thenOn, andThen, readOwn, readGoto, readIf, readCond, read, onward, stepLine, readScript, readIns}
use Rattle.rules.specs.Preservation.{Walk, Meets, SameFirst}
use Rattle.walks.specs.Claim.{Alike}
use Rattle.joins.specs.Numbers.{lt-or-le}
use Rattle.bounds.specs.Lengths.{nextLine-lt}

-- ---- outcomes do not grow; a lively list uses one or meets an instruction

abbrev Tame : List ℕ → Out → Type 0
Tame os (behind os') = length os' ≤ length os
Tame os (erred os') = length os' ≤ length os
Tame os (gone n os') = length os' ≤ length os
Tame os (stop q) = Unit {0}

abbrev Lively : List ℕ → List Instruction → Out → Type 0
Lively os l (behind os') = length os' < length os + length l
Lively os l (erred os') = length os' < length os + length l
Lively os l (gone n os') = length os' < length os + length l
Lively os l (stop q) = Unit {0}

abbrev ReadScript : Type 0
ReadScript = List ℕ → List Instruction × Out

abbrev AllTame : ReadScript → Type 0
AllTame f = (os : List ℕ) → Tame os (f os).1

abbrev AllLively : ReadScript → Type 0
AllLively f = (os : List ℕ) → Lively os (f os).0 (f os).1

abbrev Silent : ReadScript → Type 0
Silent f = (os : List ℕ) → f os ≡ ([], behind os)

tame-on : (os os' : List ℕ) (o : Out) → length os' ≤ length os → Tame os' o → Tame os o
tame-on os os' (behind x) h g = omega arith
tame-on os os' (erred x) h g = omega arith
tame-on os os' (gone n x) h g = omega arith
tame-on os os' (stop q) h g = tt

tame-then : (f : ReadScript) → AllTame f → (os : List ℕ) (l : List Instruction) (o : Out) → Tame os o → Tame os (thenOn l o f).1
tame-then f h os l (behind x) g = tame-on os x (f x).1 g (h x)
tame-then f h os l (erred x) g = g
tame-then f h os l (gone n x) g = g
tame-then f h os l (stop q) g = tt

-- An instruction met in front makes it lively.
lively-pre : (os os' : List ℕ) (i : Instruction) (l : List Instruction) (o : Out) → length os' ≤ length os → Tame os' o → Lively os (i ∷ l) o
lively-pre os os' i l (behind x) h g = omega arith
lively-pre os os' i l (erred x) h g = omega arith
lively-pre os os' i l (gone n x) h g = omega arith
lively-pre os os' i l (stop q) h g = tt

lively-on : (os os' : List ℕ) (l l' : List Instruction) (o : Out) → length os' < length os + length l → Tame os' o → Lively os (l ++ l') o
lively-on os os' l l' (behind x) h g = omega (arith, length-append l l')
lively-on os os' l l' (erred x) h g = omega (arith, length-append l l')
lively-on os os' l l' (gone n x) h g = omega (arith, length-append l l')
lively-on os os' l l' (stop q) h g = tt

lively-then : (f : ReadScript) → AllTame f → (os : List ℕ) (l : List Instruction) (o : Out) → Lively os l o → Lively os (thenOn l o f).0 (thenOn l o f).1
lively-then f h os l (behind x) g = lively-on os x l (f x).0 (f x).1 g (h x)
lively-then f h os l (erred x) g = g
lively-then f h os l (gone n x) g = g
lively-then f h os l (stop q) g = tt

ins-tame : (b : Bool) (i : Instruction) (Y : ReadScript) → AllTame Y → AllTame (readIns b i Y)
ins-tame false i Y h os = h os
ins-tame true i Y h [] = tt
ins-tame true i Y h (zero ∷ os) = tame-on (zero ∷ os) os (Y os).1 (omega arith) (h os)
ins-tame true i Y h (suc a ∷ os) = omega arith

own-tame : (o : List Instruction) → AllTame (readOwn o)
own-tame [] os = omega arith
own-tame (i ∷ o) os = ins-tame (isJump i) (shown i) (readOwn o) (λ z. own-tame o z) os

ins-lively : (b : Bool) (i : Instruction) (Y : ReadScript) → AllTame Y → AllLively (readIns b i Y)
ins-lively false i Y h os = lively-pre os os i (Y os).0 (Y os).1 (omega arith) (h os)
ins-lively true i Y h [] = tt
ins-lively true i Y h (zero ∷ os) = lively-pre (zero ∷ os) os i (Y os).0 (Y os).1 (omega arith) (h os)
ins-lively true i Y h (suc a ∷ os) = omega arith

own-lively : (x : Instruction) (o : List Instruction) → AllLively (readOwn (x ∷ o))
own-lively x o os = ins-lively (isJump x) (shown x) (readOwn o) (own-tame o) os

goto-lively : (r : ℕ) → AllLively (readGoto r)
goto-lively r [] = tt
goto-lively r (o ∷ os) = omega arith

goto-tame : (r : ℕ) → AllTame (readGoto r)
goto-tame r [] = tt
goto-tame r (o ∷ os) = omega arith

if-lively : (c : ℕ) (f g : ReadScript) → AllTame f → AllTame g → AllLively (readIf c f g)
if-lively c f g hf hg [] = tt
if-lively c f g hf hg (zero ∷ os) = lively-pre (zero ∷ os) os (condJump 0 c) (g os).0 (g os).1 (omega arith) (hg os)
if-lively c f g hf hg (suc a ∷ os) = lively-pre (suc a ∷ os) os (condJump 0 c) (f os).0 (f os).1 (omega arith) (hf os)

if-tame : (c : ℕ) (f g : ReadScript) → AllTame f → AllTame g → AllTame (readIf c f g)
if-tame c f g hf hg [] = tt
if-tame c f g hf hg (zero ∷ os) = tame-on (zero ∷ os) os (g os).1 (omega arith) (hg os)
if-tame c f g hf hg (suc a ∷ os) = tame-on (suc a ∷ os) os (f os).1 (omega arith) (hf os)

cond-tame : (t : Stmts) (c : ℕ) (f g : ReadScript) → AllTame f → AllTame g → AllTame (readCond t c f g)
cond-tame nil c f g hf hg os = hg os
cond-tame (plain o s) c f g hf hg os = if-tame c f g hf hg os
cond-tame (goto o r s) c f g hf hg os = if-tame c f g hf hg os
cond-tame (ite o c' t u s) c f g hf hg os = if-tame c f g hf hg os

read-tame : (s : Stmts) → AllTame (read s)
read-tame nil os = omega arith
read-tame (plain o s) os = tame-then (read s) (read-tame s) os (readOwn o os).0 (readOwn o os).1 (own-tame o os)
read-tame (goto o r s) os = tame-then (readGoto r) (goto-tame r) os (readOwn o os).0 (readOwn o os).1 (own-tame o os)
read-tame (ite o c t u s) os =
    let R = readCond t c (read t) (read u) in
    let y = andThen (readOwn o os) R in
    tame-then (read s) (read-tame s) os y.0 y.1 (tame-then R (cond-tame t c (read t) (read u) (read-tame t) (read-tame u)) os (readOwn o os).0 (readOwn o os).1 (own-tame o os))

-- ---- a list is silent, or lively

abbrev Kind : ReadScript → Type 0
Kind f = Silent f ⊎ AllLively f

-- f, then g.
kind-then : (f g : ReadScript) → AllTame g → Kind f → Kind g → Kind (λ os. andThen (f os) g)
kind-then f g t (inr h) k = inr (λ os. lively-then g t os (f os).0 (f os).1 (h os))
kind-then f g t (inl h) (inl k) = inl (λ os. ap (λ (x : List Instruction × Out). andThen x g) (h os) ∙ k os)
kind-then f g t (inl h) (inr k) = inr (λ os. subst (λ (x : List Instruction × Out). Lively os (andThen x g).0 (andThen x g).1) (sym (h os)) (k os))

kind-own : (o : List Instruction) → Kind (readOwn o)
kind-own [] = inl (λ os. refl)
kind-own (x ∷ o) = inr (own-lively x o)

kind-cond : (t : Stmts) (c : ℕ) (f g : ReadScript) → AllTame f → AllTame g → Kind g → Kind (readCond t c f g)
kind-cond nil c f g hf hg k = k
kind-cond (plain o s) c f g hf hg k = inr (if-lively c f g hf hg)
kind-cond (goto o r s) c f g hf hg k = inr (if-lively c f g hf hg)
kind-cond (ite o c' t u s) c f g hf hg k = inr (if-lively c f g hf hg)

kind : (s : Stmts) → Kind (read s)
kind nil = inl (λ os. refl)
kind (plain o s) = kind-then (readOwn o) (read s) (read-tame s) (kind-own o) (kind s)
kind (goto o r s) = kind-then (readOwn o) (readGoto r) (goto-tame r) (kind-own o) (inr (goto-lively r))
kind (ite o c t u s) =
    let R = readCond t c (read t) (read u) in
    let hR = cond-tame t c (read t) (read u) (read-tame t) (read-tame u) in
    kind-then (λ os. andThen (readOwn o os) R) (read s) (read-tame s) (kind-then (readOwn o) R hR (kind-own o) (kind-cond t c (read t) (read u) (read-tame t) (read-tame u) (kind u))) (kind s)

not-both : (f : ReadScript) → Silent f → AllLively f → ⊥
not-both f h k = let z = subst (λ (x : List Instruction × Out). Lively [] x.0 x.1) (h []) (k []) in omega arith

-- All lines are silent, or one is lively.
lines : (t : Script) → ((i : ℕ) → Silent (read (get_or t i nil))) ⊎ ((j : ℕ) × (j < length t) × AllLively (read (get_or t j nil)))
lines [] = inl (λ i os. refl)
lines (s ∷ t) = go (kind s) (lines t)
  where
    go : Kind (read s) → ((i : ℕ) → Silent (read (get_or t i nil))) ⊎ ((j : ℕ) × (j < length t) × AllLively (read (get_or t j nil)))
        → ((i : ℕ) → Silent (read (get_or (s ∷ t) i nil))) ⊎ ((j : ℕ) × (j < suc (length t)) × AllLively (read (get_or (s ∷ t) j nil)))
    go (inr h) r = inr (0, omega arith, h)
    go (inl h) (inl r) = inl all
      where
        all : (i : ℕ) → Silent (read (get_or (s ∷ t) i nil))
        all zero = h
        all (suc i) = r i
    go (inl h) (inr (j, l, r)) = inr (suc j, omega arith, r)

-- ---- to tell whether n instructions are met from s

module _ (t : Script) where
  abbrev met : ℕ → State → ℕ
  met k s = length (run (stepLine t) k s).0

  abbrev Told : ℕ → State → Type 0
  Told n s = ((k : ℕ) × (n ≤ met k s)) ⊎ ((k : ℕ) → met k s < n)

  met-to : (k : ℕ) (s s' : State) (l : List Instruction) → stepLine t s ≡ (l, to s') → met (suc k) s ≡ length l + met k s'
  met-to k s s' l e =
      ap (λ (x : Leg State). length (onto (λ z. run (stepLine t) k z) x.0 x.1).0) e ∙ length-append l (run (stepLine t) k s').0

  met-done : (k : ℕ) (s : State) (l : List Instruction) (f : Halt) → stepLine t s ≡ (l, done f) → met (suc k) s ≡ length l
  met-done k s l f e = ap (λ (x : Leg State). length (onto (λ z. run (stepLine t) k z) x.0 x.1).0) e

  -- One step on.
  told-to : (n n' : ℕ) (s s' : State) (l : List Instruction) → 0 < n → stepLine t s ≡ (l, to s') → n ≡ n' + length l → Told n' s' → Told n s
  told-to n n' s s' l p e h (inl (k, g)) = inl (suc k, omega (arith, met-to k s s' l e))
  told-to n n' s s' l p e h (inr g) = inr few
    where
      few : (k : ℕ) → met k s < n
      few zero = p
      few (suc k) = omega (arith, met-to k s s' l e, g k)

  told-done : (n : ℕ) (s : State) (l : List Instruction) (f : Halt) → 0 < n → stepLine t s ≡ (l, done f) → Told n s
  told-done n s l f p e = go (lt-or-le (length l) n)
    where
      go : (length l < n) ⊎ (n ≤ length l) → Told n s
      go (inr h) = inl (1, omega (arith, met-done 0 s l f e))
      go (inl h) = inr few
        where
          few : (k : ℕ) → met k s < n
          few zero = p
          few (suc k) = omega (arith, met-done k s l f e)

  all-silent : ((i : ℕ) → Silent (read (get_or t i nil))) → (k : ℕ) (s : State) → met k s ≡ 0
  all-silent h zero s = refl
  all-silent h (suc k) s =
      let s' : State = (nextLine (length t) s.0, s.1) in
      met-to k s s' [] (ap (λ (x : List Instruction × Out). (x.0, onward (length t) s.0 x.1)) (h s.0 s.1)) ∙ (rw (all-silent h k s') (omega arith))

  module _ (pos : 0 < length t) (j : ℕ) (j< : j < length t) (live : AllLively (read (get_or t j nil))) where
    -- From line i, line j is at most d lines on.
    abbrev Near : ℕ → ℕ → Type 0
    Near i d = ((i ≤ j) × (j ≤ i + d)) ⊎ ((j < i) × (length t + j ≤ i + d))

    near-far : (i : ℕ) → Near i (length t + length t)
    near-far i = go (lt-or-le j i)
      where
        go : (j < i) ⊎ (i ≤ j) → Near i (length t + length t)
        go (inl h) = inr (h, omega arith)
        go (inr h) = inl (h, omega arith)

    near-next : (i d : ℕ) → i < length t → (i ≡ j → ⊥) → Near i (suc d) → Near (nextLine (length t) i) d
    near-next i d h ne n = go (eqb (suc i) (length t)) refl n
      where
        go : (b : Bool) → eqb (suc i) (length t) ≡ b → Near i (suc d) → Near (nextLine (length t) i) d
        go true q (inl (a, c)) = absurd (omega (arith, eqb-true (suc i) (length t) q, ne))
        go true q (inr (a, c)) = rw q (inl (omega arith, omega (arith, eqb-true (suc i) (length t) q)))
        go false q (inl (a, c)) = rw q (inl (omega (arith, ne), omega (arith, ne)))
        go false q (inr (a, c)) = rw q (inr (omega arith, omega arith))

    near-none : (i : ℕ) → i < length t → (i ≡ j → ⊥) → Near i 0 → ⊥
    near-none i h ne (inl (a, c)) = ne (omega arith)
    near-none i h ne (inr (a, c)) = omega arith

    abbrev Tells : ℕ → Type 0
    Tells B = (n : ℕ) (s : State) → s.0 < length t → n + length s.1 ≤ B → Told n s

    told-far : (B : ℕ) → Tells B → (n : ℕ) (s : State) → 0 < n → n + length s.1 ≤ suc B → (l : List Instruction) (s' : State) → s'.0 < length t
        → stepLine t s ≡ (l, to s') → length s'.1 < length s.1 + length l → Told n s
    told-far B ih n s p b l s' h e g = go (lt-or-le (length l) n)
      where
        go : (length l < n) ⊎ (n ≤ length l) → Told n s
        go (inl a) = told-to n (n - length l) s s' l p e (omega arith) (ih (n - length l) s' h (omega arith))
        go (inr a) = inl (1, omega (arith, met-to 0 s s' l e))

    -- The step at a lively line.
    lively-step : (B : ℕ) → Tells B → (n : ℕ) (s : State) → 0 < n → s.0 < length t → n + length s.1 ≤ suc B → (l : List Instruction) (o : Out)
        → stepLine t s ≡ (l, onward (length t) s.0 o) → Lively s.1 l o → Told n s
    lively-step B ih n s p h b l (stop q) e g = told-done n s l (ask q) p e
    lively-step B ih n s p h b l (behind os) e g = told-far B ih n s p b l (nextLine (length t) s.0, os) (nextLine-lt (length t) s.0 h) e g
    lively-step B ih n s p h b l (erred os) e g = told-far B ih n s p b l (nextLine (length t) s.0, os) (nextLine-lt (length t) s.0 h) e g
    lively-step B ih n s p h b l (gone a os) e g = told-far B ih n s p b l (a % length t, os) (mod-lt a pos) e g

    inner : (B : ℕ) → Tells B → (d n : ℕ) (s : State) → 0 < n → s.0 < length t → n + length s.1 ≤ suc B → Near s.0 d → Told n s
    inner B ih zero n s p h b w = go (kind (get_or t s.0 nil))
      where
        go : Kind (read (get_or t s.0 nil)) → Told n s
        go (inl k) = absurd (near-none s.0 h (λ e. not-both (read (get_or t s.0 nil)) k (subst (λ (i : ℕ). AllLively (read (get_or t i nil))) (sym e) live)) w)
        go (inr k) = let y = read (get_or t s.0 nil) s.1 in lively-step B ih n s p h b y.0 y.1 refl (k s.1)
    inner B ih (suc d) n s p h b w = go (kind (get_or t s.0 nil)) (λ z. inner B ih d n z)
      where
        go : Kind (read (get_or t s.0 nil)) → ((z : State) → 0 < n → z.0 < length t → n + length z.1 ≤ suc B → Near z.0 d → Told n z) → Told n s
        go (inl k) more_of =
            let s' : State = (nextLine (length t) s.0, s.1) in
            told-to
            n
            n
            s
            s'
            []
            p
            (ap (λ (x : List Instruction × Out). (x.0, onward (length t) s.0 x.1)) (k s.1))
            (omega arith)
            (
            more_of
            s'
            p
            (nextLine-lt (length t) s.0 h)
            b
            (near-next s.0 d h (λ e. not-both (read (get_or t s.0 nil)) k (subst (λ (i : ℕ). AllLively (read (get_or t i nil))) (sym e) live)) w)
            )
        go (inr k) more_of = let y = read (get_or t s.0 nil) s.1 in lively-step B ih n s p h b y.0 y.1 refl (k s.1)

    tells : (B : ℕ) → Tells B
    tells zero n s h b = inl (0, omega arith)
    tells (suc B) zero s h b = inl (0, omega arith)
    tells (suc B) (suc n) s h b = inner B (tells B) (length t + length t) (suc n) s (omega arith) h b (near-far s.0)

  pub told : 0 < length t → (n : ℕ) (os : List ℕ) → Told n (0, os)
  told pos zero os = inl (0, omega arith)
  told pos (suc n) os = go (lines t)
    where
      go : ((i : ℕ) → Silent (read (get_or t i nil))) ⊎ ((j : ℕ) × (j < length t) × AllLively (read (get_or t j nil))) → Told (suc n) (0, os)
      go (inl h) = inr (λ k. omega (arith, all-silent h k (0, os)))
      go (inr (j, l, h)) = tells pos j l h (suc n + length os) (suc n) (0, os) pos (omega arith)

-- ---- both meet the same first n, or both fewer

pub agree : (t : Script) → 0 < length t → (os : List ℕ) (v : Walk) → Alike v (readScript t os) → (n : ℕ) → SameFirst v (readScript t os) n
agree t pos os v same n = go (told t pos n os)
  where
    go : Told t n (0, os) → SameFirst v (readScript t os) n
    go (inl (k, h)) =
        let l = take n (readScript t os k).0 in
        let m : Meets (readScript t os) n l = (k, length-take-le n (readScript t os k).0 h, refl) in
        inl (l, (same.meets n l).1 m, m)
    go (inr h) = inr (few, h)
      where
        few : (k : ℕ) → length (v k).0 < n
        few k = by (lt-or-le (length (v k).0) n)
          where
            by : (length (v k).0 < n) ⊎ (n ≤ length (v k).0) → length (v k).0 < n
            by (inl a) = a
            by (inr a) =
                let l = take n (v k).0 in
                let (k', b, c) = (same.meets n l).0 (k, length-take-le n (v k).0 a, refl) in
                absurd (omega (arith, h k', b, ap length c, length-take n (readScript t os k').0))
