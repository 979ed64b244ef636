-- The other parts of preservation: the sections entered, the registers, and what stands behind a goto.
use Rattle.std.specs.Prelude.{◌≡◌, ◌⊎◌, Bool, true, false, get_or}
use Rattle.std.proofs.Math.Path.{refl}
use Rattle.std.proofs.Common.{sym, ap, ◌∙◌, subst, inl, inr}
use mathlib.Core.List.{List, [], ◌∷◌, map}
use Prim.Native.Nat.{ℕ, zero, suc, ◌%◌, ◌≤◌, ◌<◌}
use Rattle.std.proofs.Math.ListN.{length, get_or-map, get_or-eq_default}
use Rattle.std.proofs.lemmas.List.{length-map}
use Rattle.rules.specs.Instr.{Instruction, isJump, shown}
use Rattle.rules.specs.Machine.{SectionCode, absent}
use Rattle.rules.specs.Walk.{atJump, atGoto, lost, Step, to, done, over, Leg, pre, onto, run, State, Trace, enter, stepSection, enters, walkSections}
use Rattle.rules.specs.Script.{Stmts, nil, plain, goto, ite, Script, isNil}
use Rattle.rules.specs.Assemble.{condJump, nextLine}
use Rattle.rules.specs.ReadScript.{Out, behind, erred, gone, stop, thenOn, andThen, readOwn, readGoto, readIf, readCond, read, onward, stepLine, readScript, readIns}
use Rattle.rules.specs.Preservation.{Walk, All, prune}
use Rattle.walks.specs.Claim.{Safe, GoodEnd}
use Rattle.bounds.specs.Good.{CodeGood, Good, GoodTree}
use Rattle.walks.specs.Walks.{Below, Within}
use Rattle.joins.specs.Numbers.{lt-or-le}
use Rattle.laws.specs.Lists.{all-append, all-left}

-- ---- a safe walk enters sections of the machine only

module _ (m : List SectionCode) (L : ℕ) where
  SafeAt : State → Type 0
  SafeAt s = (k : ℕ) → (run (stepSection m L) k s).1 ≡ over lost → ⊥

  safe-in : (s : State) → SafeAt s → s.0 < length m
  unfolding SafeAt
  safe-in s safe = go (lt-or-le s.0 (length m))
    where
      go : (s.0 < length m) ⊎ (length m ≤ s.0) → s.0 < length m
      go (inl h) = h
      go (inr h) = absurd (safe 1 (ap (λ (z : SectionCode). (onto (λ x. run (stepSection m L) 0 x) (enter L z s.1).0 (enter L z s.1).1).1) (get_or-eq_default m absent h)))

  enters-in : (k : ℕ) (s : State) → SafeAt s → All (λ u. u < length m) (enters m L k s)
  unfolding SafeAt
  enters-in zero s safe = tt
  enters-in (suc k) s safe = (safe-in s safe, go (stepSection m L s).1 refl (λ z q. enters-in k z q))
    where
      go : (r : Step State) → (stepSection m L s).1 ≡ r → ((z : State) → SafeAt z → All (λ u. u < length m) (enters m L k z))
          → All (λ u. u < length m) (elim r [ to z ↦ enters m L k z | done f ↦ [] ])
      go (to z) e ih = ih z (λ j q. safe (suc j) (ap (λ (r : Step State). (onto (λ x. run (stepSection m L) j x) (stepSection m L s).0 r).1) e ∙ q))
      go (done f) e ih = tt

  pub safe-enters : (os : List ℕ) → Safe (walkSections m L os) → (k : ℕ) → All (λ u. u < length m) (enters m L k (0, os))
  unfolding SafeAt
  safe-enters os safe k = enters-in k (0, os) safe

-- ---- what stands behind a goto is not read

prune-nil : (s : Stmts) → isNil (prune s) ≡ isNil s
prune-nil nil = refl
prune-nil (plain o s) = refl
prune-nil (goto o r s) = refl
prune-nil (ite o c t u s) = refl

then-ext : (x : List Instruction × Out) (f g : List ℕ → List Instruction × Out) → ((os : List ℕ) → f os ≡ g os) → andThen x f ≡ andThen x g
then-ext x f g h = go x.1
  where
    go : (o : Out) → thenOn x.0 o f ≡ thenOn x.0 o g
    go (behind os) = ap (pre x.0) (h os)
    go (erred os) = refl
    go (gone n os) = refl
    go (stop q) = refl

if-ext : (c : ℕ) (f f' g g' : List ℕ → List Instruction × Out) → ((os : List ℕ) → f os ≡ f' os) → ((os : List ℕ) → g os ≡ g' os) → (os : List ℕ) → readIf c f g os ≡ readIf c f' g' os
if-ext c f f' g g' h k [] = refl
if-ext c f f' g g' h k (zero ∷ os) = ap (pre (condJump 0 c ∷ [])) (k os)
if-ext c f f' g g' h k (suc a ∷ os) = ap (pre (condJump 0 c ∷ [])) (h os)

cond-ext : (t : Stmts) (c : ℕ) (f f' g g' : List ℕ → List Instruction × Out) → ((os : List ℕ) → f os ≡ f' os) → ((os : List ℕ) → g os ≡ g' os) → (os : List ℕ)
    → readCond (prune t) c f g os ≡ readCond t c f' g' os
cond-ext nil c f f' g g' h k os = k os
cond-ext (plain o s) c f f' g g' h k os = if-ext c f f' g g' h k os
cond-ext (goto o r s) c f f' g g' h k os = if-ext c f f' g g' h k os
cond-ext (ite o c' t u s) c f f' g g' h k os = if-ext c f f' g g' h k os

pub read-prune : (s : Stmts) (os : List ℕ) → read (prune s) os ≡ read s os
read-prune nil os = refl
read-prune (plain o s) os = then-ext (readOwn o os) (read (prune s)) (read s) (read-prune s)
read-prune (goto o r s) os = refl
read-prune (ite o c t u s) os =
    ap (λ (x : List Instruction × Out). andThen x (read (prune s))) (then-ext (readOwn o os) (readCond (prune t) c (read (prune t)) (read (prune u))) (readCond t c (read t) (read u)) (cond-ext t c (read (prune t)) (read t) (read (prune u)) (read u) (read-prune t) (read-prune u)))
    ∙ then-ext (andThen (readOwn o os) (readCond t c (read t) (read u))) (read (prune s)) (read s) (read-prune s)

step-prune : (t : Script) (s : State) → stepLine (map prune t) s ≡ stepLine t s
step-prune t s =
    let a = get_or (map prune t) s.0 nil in
    let b = get_or t s.0 nil in
    ap (λ (z : Stmts). ((read z s.1).0, onward (length (map prune t)) s.0 (read z s.1).1)) (get_or-map prune t s.0 nil)
    ∙ (ap (λ (x : List Instruction × Out). (x.0, onward (length (map prune t)) s.0 x.1)) (read-prune b s.1)
    ∙ ap (λ (n : ℕ). ((read b s.1).0, onward n s.0 (read b s.1).1)) (length-map t prune))

pub run-prune : (t : Script) (k : ℕ) (s : State) → run (stepLine (map prune t)) k s ≡ run (stepLine t) k s
run-prune t zero s = refl
run-prune t (suc k) s =
    ap (λ (x : Leg State). onto (λ z. run (stepLine (map prune t)) k z) x.0 x.1) (step-prune t s) ∙ go (stepLine t s).1 (λ z. run-prune t k z)
  where
    go : (r : Step State) → ((z : State) → run (stepLine (map prune t)) k z ≡ run (stepLine t) k z)
        → onto (λ z. run (stepLine (map prune t)) k z) (stepLine t s).0 r ≡ onto (λ z. run (stepLine t) k z) (stepLine t s).0 r
    go (to z) ih = ap (pre (stepLine t s).0) (ih z)
    go (done f) ih = refl

-- ---- what is met comes from the tree

module _ (P : Instruction → Type 0) (G : ℕ → Type 0) where
  -- A reading's own part: what it met, and the register if it stopped at a goto.
  abbrev OkOut : Out → Type 0
  OkOut (behind os) = Unit {0}
  OkOut (erred os) = Unit {0}
  OkOut (gone n os) = Unit {0}
  OkOut (stop (atJump w)) = Unit {0}
  OkOut (stop (atGoto r)) = G r

  abbrev Ok : List Instruction × Out → Type 0
  Ok x = All P x.0 × OkOut x.1

  ok-then : (f : List ℕ → List Instruction × Out) → ((os : List ℕ) → Ok (f os)) → (l : List Instruction) (o : Out) → All P l → OkOut o → Ok (thenOn l o f)
  ok-then f h l (behind os) p q = (all-append P l (f os).0 p (h os).0, (h os).1)
  ok-then f h l (erred os) p q = (p, q)
  ok-then f h l (gone n os) p q = (p, q)
  ok-then f h l (stop a) p q = (p, q)

  ok-ins : (b : Bool) (i : Instruction) (Y : List ℕ → List Instruction × Out) → P i → ((os : List ℕ) → Ok (Y os)) → (os : List ℕ) → Ok (readIns b i Y os)
  ok-ins false i Y p h os = ((p, (h os).0), (h os).1)
  ok-ins true i Y p h [] = ((p, tt), tt)
  ok-ins true i Y p h (zero ∷ os) = ((p, (h os).0), (h os).1)
  ok-ins true i Y p h (suc a ∷ os) = ((p, tt), tt)

  ok-own : (o : List Instruction) → CodeGood P o → (os : List ℕ) → Ok (readOwn o os)
  ok-own [] g os = (tt, tt)
  ok-own (i ∷ o) g os = ok-ins (isJump i) (shown i) (readOwn o) g.0 (λ z. ok-own o g.1 z) os

  ok-goto : (r : ℕ) → G r → (os : List ℕ) → Ok (readGoto r os)
  ok-goto r g [] = (tt, g)
  ok-goto r g (o ∷ os) = (tt, tt)

  ok-if : (c : ℕ) (f g : List ℕ → List Instruction × Out) → P (condJump 0 c) → ((os : List ℕ) → Ok (f os)) → ((os : List ℕ) → Ok (g os)) → (os : List ℕ) → Ok (readIf c f g os)
  ok-if c f g p hf hg [] = ((p, tt), tt)
  ok-if c f g p hf hg (zero ∷ os) = ((p, (hg os).0), (hg os).1)
  ok-if c f g p hf hg (suc a ∷ os) = ((p, (hf os).0), (hf os).1)

  ok-cond : (t : Stmts) (c : ℕ) (f g : List ℕ → List Instruction × Out) → P (condJump 0 c) → ((os : List ℕ) → Ok (f os)) → ((os : List ℕ) → Ok (g os)) → (os : List ℕ) → Ok (readCond t c f g os)
  ok-cond nil c f g p hf hg os = hg os
  ok-cond (plain o s) c f g p hf hg os = ok-if c f g p hf hg os
  ok-cond (goto o r s) c f g p hf hg os = ok-if c f g p hf hg os
  ok-cond (ite o c' t u s) c f g p hf hg os = ok-if c f g p hf hg os

  ok-read : (s : Stmts) → Good P G s → (os : List ℕ) → Ok (read s os)
  ok-read nil g os = (tt, tt)
  ok-read (plain o s) g os = let x = ok-own o g.0 os in ok-then (read s) (ok-read s g.1) (readOwn o os).0 (readOwn o os).1 x.0 x.1
  ok-read (goto o r s) g os = let x = ok-own o g.0 os in ok-then (readGoto r) (ok-goto r g.1) (readOwn o os).0 (readOwn o os).1 x.0 x.1
  ok-read (ite o c t u s) g os =
      let x = ok-own o g.0 os in
      let R = readCond t c (read t) (read u) in
      let y = andThen (readOwn o os) R in
      let z = ok-then R (ok-cond t c (read t) (read u) g.1 (ok-read t g.2) (ok-read u g.3)) (readOwn o os).0 (readOwn o os).1 x.0 x.1 in
      ok-then (read s) (ok-read s g.4) y.0 y.1 z.0 z.1

  good-at : (t : Script) → GoodTree P G t → (i : ℕ) → Good P G (get_or t i nil)
  good-at [] g i = tt
  good-at (s ∷ t) g zero = g.0
  good-at (s ∷ t) g (suc i) = good-at t g.1 i

  abbrev OkTrace : Trace → Type 0
  OkTrace x = All P x.0 × GoodEnd G x.1

  module _ (t : Script) (good : GoodTree P G t) where
    ok-onto : (F : State → Trace) → ((s : State) → OkTrace (F s)) → (i : ℕ) (l : List Instruction) (o : Out) → All P l → OkOut o → OkTrace (onto F l (onward (length t) i o))
    ok-onto F h i l (behind os) p q = let s : State = (nextLine (length t) i, os) in (all-append P l (F s).0 p (h s).0, (h s).1)
    ok-onto F h i l (erred os) p q = let s : State = (nextLine (length t) i, os) in (all-append P l (F s).0 p (h s).0, (h s).1)
    ok-onto F h i l (gone n os) p q = let s : State = (n % length t, os) in (all-append P l (F s).0 p (h s).0, (h s).1)
    ok-onto F h i l (stop (atJump w)) p q = (p, tt)
    ok-onto F h i l (stop (atGoto r)) p q = (p, q)

    ok-run : (k : ℕ) (s : State) → OkTrace (run (stepLine t) k s)
    ok-run zero s = (tt, tt)
    ok-run (suc k) s =
        let y = read (get_or t s.0 nil) s.1 in
        let x = ok-read (get_or t s.0 nil) (good-at t good s.0) s.1 in
        ok-onto (λ z. run (stepLine t) k z) (λ z. ok-run k z) s.0 y.0 y.1 x.0 x.1

    -- Whatever is within the tree's walk meets only what the tree holds.
    pub within-good : (os : List ℕ) (w : Walk) → Within w (readScript t os) → (k : ℕ) → OkTrace (w k)
    within-good os w h k = go (h k).1
      where
        u : Trace
        u = readScript t os (h k).0

        go : Below (w k) (readScript t os (h k).0) → OkTrace (w k)
        go (inl e) = subst OkTrace e (ok-run (h k).0 (0, os))
        go (inr (m, (x, e))) =
            let q = ok-run (h k).0 (0, os) in
            (all-left P (w k).0 x (subst (All P) e q.0), subst (GoodEnd G) (sym m) tt)
