-- The lowered machine's walk is the tree's.
use Rattle.std.specs.Prelude.{◌≡◌, Bool, false, cond, ℕ, zero, suc, ◌+◌, ◌%◌, ◌<◌, length}
use Rattle.std.proofs.Math.Path.{refl, ap, ap₂, subst}
use Rattle.std.proofs.Common.{sym, ◌∙◌, arith}
use Rattle.std.proofs.Math.Bool.{true}
use mathlib.Core.List.{List, [], ◌∷◌, ◌++◌, append_assoc}
use Rattle.std.proofs.Math.Nat.{mod-lt}
use Rattle.std.proofs.Math.ListN.{get_or}
use Rattle.bounds.specs.Lengths.{length-low, length-orEmpty, nextLine-lt}
use Rattle.machines.specs.Lowered.{SameAs, Stands, fits-cast, fits-left, fits-right, base, line-fits, at-head, fits-tail}
use Rattle.rules.specs.Instr.{Instruction, isJump, shown, aimed}
use Rattle.rules.specs.Machine.{SectionOrLine, section, line, SectionCode, absent}
use Rattle.rules.specs.Walk.{Ask, atJump, atGoto, Halt, ask, lost, Step, to, done, more, over, Leg, pre, onto, run, State, Trace, follow, inside, through, enter, stepSection, walkSections, across}
use Rattle.rules.specs.Script.{Stmts, nil, plain, goto, ite, Script, isNil}
use Rattle.rules.specs.Assemble.{condJump, nextLine, orOne, sectionsMade, ownCode, entry, condCode, inner, orEmpty, stmtSections, headOf, tailOf, sectionsOf}
use Rattle.rules.specs.ReadScript.{Out, behind, erred, gone, stop, thenOn, andThen, readOwn, readGoto, readIf, readCond, read, onward, stepLine, readScript, readIns}
use Rattle.walks.specs.Claim.{Safe}
use Rattle.walks.specs.Walks.{Goes, Halts, goes-here, goes-step, halts-step, goes-goes, goes-halts, Match, m-to, m-done, covers, Covers}
use Rattle.walks.specs.Renumber.{inside-append}
use Rattle.bounds.specs.Jumps.{shown-aimed}

-- ---- a list's reading, followed by the machine

module _ (m : List SectionCode) (L e : ℕ) where
  st : State → Leg State
  st = stepSection m L

  -- From b, in at least lo steps, the machine meets l and does what o says; k is what follows the list.
  abbrev Follows : ℕ → State → ℕ → List Instruction → Out → Type 0
  Follows lo b k l (behind os) = Goes st lo b l (k, os)
  Follows lo b k l (erred os) = Goes st lo b l (e, os)
  Follows lo b k l (gone n os) = Goes st lo b l (n % L, os)
  Follows lo b k l (stop q) = Halts st b l (ask q)

  goes-weak : (lo : ℕ) (a b : State) (l : List Instruction) → Goes st lo a l b → Goes st 0 a l b
  goes-weak lo a b l g = record { steps = g.steps; enough = omega arith; goes = g.goes }

  weak : (lo : ℕ) (b : State) (k : ℕ) (l : List Instruction) (o : Out) → Follows lo b k l o → Follows 0 b k l o
  weak lo b k l (behind os) g = goes-weak lo b (k, os) l g
  weak lo b k l (erred os) g = goes-weak lo b (e, os) l g
  weak lo b k l (gone n os) g = goes-weak lo b (n % L, os) l g
  weak lo b k l (stop q) g = g

  after : (lo lo' : ℕ) (a b : State) (k : ℕ) (l l' : List Instruction) (o : Out) → Goes st lo a l b → Follows lo' b k l' o → Follows lo a k (l ++ l') o
  after lo lo' a b k l l' (behind os) g h = goes-goes g h
  after lo lo' a b k l l' (erred os) g h = goes-goes g h
  after lo lo' a b k l l' (gone n os) g h = goes-goes g h
  after lo lo' a b k l l' (stop q) g h = goes-halts g h

  follows-then : (lo lo' : ℕ) (b : State) (k₁ k : ℕ) (f : List ℕ → List Instruction × Out)
      → ((os : List ℕ) → Follows lo' (k₁, os) k (f os).0 (f os).1)
      → (l : List Instruction) (o : Out) → Follows lo b k₁ l o → Follows lo b k (thenOn l o f).0 (thenOn l o f).1
  follows-then lo lo' b k₁ k f h l (behind os) g = after lo lo' b (k₁, os) k l (f os).0 (f os).1 g (h os)
  follows-then lo lo' b k₁ k f h l (erred os) g = g
  follows-then lo lo' b k₁ k f h l (gone n os) g = g
  follows-then lo lo' b k₁ k f h l (stop q) g = g

  -- What is left of a section's step, l₁ and r, leads to what (l, o) says.
  abbrev Lead : ℕ → List Instruction → Step State → List Instruction → Out → Type 0
  Lead k l₁ (to s) l o = (l₂ : List Instruction) × (l ≡ l₁ ++ l₂) × Follows 0 s k l₂ o
  Lead k l₁ (done f) l o = (q : Ask) × (f ≡ ask q) × (l ≡ l₁) × (o ≡ stop q)

  lead-pre : (k : ℕ) (l₀ l₁ : List Instruction) (r : Step State) (l : List Instruction) (o : Out) → Lead k l₁ r l o → Lead k (l₀ ++ l₁) r (l₀ ++ l) o
  lead-pre k l₀ l₁ (to s) l o (l₂, p, f) = (l₂, ap (λ (z : List Instruction). l₀ ++ z) p ∙ sym (append_assoc l₀ l₁ l₂), f)
  lead-pre k l₀ l₁ (done f) l o (q, a, p, c) = (q, a, ap (λ (z : List Instruction). l₀ ++ z) p, c)

  lead-step : (b : State) (k : ℕ) (l₁ : List Instruction) (r : Step State) (l : List Instruction) (o : Out) → st b ≡ (l₁, r) → Lead k l₁ r l o → Follows 1 b k l o
  lead-step b k l₁ (to s) l o p (l₂, q, f) = subst (λ (z : List Instruction). Follows 1 b k z o) (sym q) (after 1 0 b s k l₁ l₂ o (goes-step p) f)
  lead-step b k l₁ (done f) l o p (q, a, c, d) = subst (λ (z : Out). Follows 1 b k l z) (sym d) (halts-step (p ∙ ap₂ (λ (x : List Instruction) (y : Halt). (x, done y)) (sym c) a))

  then-pre : (i : Instruction) (l : List Instruction) (o : Out) (g : List ℕ → List Instruction × Out) → thenOn (i ∷ l) o g ≡ pre (i ∷ []) (thenOn l o g)
  then-pre i l (behind os) g = refl
  then-pre i l (erred os) g = refl
  then-pre i l (gone n os) g = refl
  then-pre i l (stop q) g = refl

  module _ (k : ℕ) (K : List ℕ → Leg State) (g : List ℕ → List Instruction × Out) (h : (os : List ℕ) → Lead k (K os).0 (K os).1 (g os).0 (g os).1) where
    own-pre : (i : Instruction) (x : Leg State) (y : List Instruction × Out) → Lead k x.0 x.1 (andThen y g).0 (andThen y g).1
        → Lead k (i ∷ x.0) x.1 (andThen (pre (i ∷ []) y) g).0 (andThen (pre (i ∷ []) y) g).1
    own-pre i x y f =
        subst
        (λ (z : List Instruction × Out). Lead k (i ∷ x.0) x.1 z.0 z.1)
        (sym (then-pre i y.0 y.1 g))
        (lead-pre k (i ∷ []) x.0 x.1 (andThen y g).0 (andThen y g).1 f)

    lead-ins : (b : Bool) (i : Instruction) (t : ℕ) (X : List ℕ → Leg State) (Y : List ℕ → List Instruction × Out)
        → ((os : List ℕ) → Lead k (X os).0 (X os).1 (andThen (Y os) g).0 (andThen (Y os) g).1)
        → (os : List ℕ)
        → Lead k (across b i (cond b e t) X os).0 (across b i (cond b e t) X os).1 (andThen (readIns b i Y os) g).0 (andThen (readIns b i Y os) g).1
    lead-ins false i t X Y f os = own-pre i (X os) (Y os) (f os)
    lead-ins true i t X Y f [] = (atJump i, refl, refl, refl)
    lead-ins true i t X Y f (zero ∷ os) = own-pre i (X os) (Y os) (f os)
    lead-ins true i t X Y f (suc a ∷ os) = ([], refl, goes-here st (e, os))

    own-lead : (o : List Instruction) (os : List ℕ)
        → Lead k (inside (ownCode e o) K os).0 (inside (ownCode e o) K os).1 (andThen (readOwn o os) g).0 (andThen (readOwn o os) g).1
    own-lead [] os = h os
    own-lead (i ∷ o) os =
        let y = andThen (readOwn (i ∷ o) os) g in
        subst
        (
        λ (x : Instruction).
        let z = across (isJump i) x (aimed e i).fst (inside (ownCode e o) K) os in
        Lead k z.0 z.1 y.0 y.1
        )
        (sym (shown-aimed e i))
        (lead-ins (isJump i) (shown i) i.fst (inside (ownCode e o) K) (readOwn o) (λ z. own-lead o z) os)

  -- ---- one statement after another

  at-step : (p : ℕ) (c : List Instruction) (x : SectionOrLine) (os : List ℕ) → SameAs (get_or m p absent) (inner c x) → st (p, os) ≡ through L c x os
  unfolding st
  at-step p c x os (a, b) = ap₂ (λ (y : List Instruction) (z : SectionOrLine). through L y z os) a b

  abbrev lo : Stmts → ℕ
  lo s = cond (isNil s) 0 1

  -- What is to be shown of a list whose sections stand at p and from n + 1 on, and that is left to k.
  abbrev Simulates : Stmts → Type 0
  Simulates s = (p n k : ℕ) → Stands m p n (stmtSections true e n k s) → (os : List ℕ) → Follows (lo s) (entry s p k, os) k (read s os).0 (read s os).1

  lead-goto : (k r : ℕ) (os : List ℕ) → Lead k (follow L (line r) os).0 (follow L (line r) os).1 (readGoto r os).0 (readGoto r os).1
  lead-goto k r [] = (atGoto r, refl, refl, refl)
  lead-goto k r (o ∷ os) = ([], refl, goes-here st (o % L, os))

  -- A list of an Ite, entered at n; an empty one has a section of its own.
  branch : (s : Stmts) → Simulates s → (n k : ℕ) → Stands m n n (orEmpty s k (stmtSections true e n k s)) → (os : List ℕ) → Follows 0 (n, os) k (read s os).0 (read s os).1
  branch nil h n k f os = goes-weak 1 (n, os) (k, os) [] (goes-step (at-step n [] (section k) os f.0))
  branch (plain o s) h n k f os = weak 1 (n, os) k (read (plain o s) os).0 (read (plain o s) os).1 (h n n k f os)
  branch (goto o r s) h n k f os = weak 1 (n, os) k (read (goto o r s) os).0 (read (goto o r s) os).1 (h n n k f os)
  branch (ite o c t u s) h n k f os = weak 1 (n, os) k (read (ite o c t u s) os).0 (read (ite o c t u s) os).1 (h n n k f os)

  abbrev ReadScript : Type 0
  ReadScript = List ℕ → List Instruction × Out

  -- The condition's jump, or none.
  lead-if : (k c n nf : ℕ) (rt rf : ReadScript)
      → ((os : List ℕ) → Follows 0 (n, os) k (rt os).0 (rt os).1)
      → ((os : List ℕ) → Follows 0 (nf, os) k (rf os).0 (rf os).1)
      → (os : List ℕ)
      → Lead
      k
      (inside (condJump n c ∷ []) (follow L (section nf)) os).0
      (inside (condJump n c ∷ []) (follow L (section nf)) os).1
      (readIf c rt rf os).0
      (readIf c rt rf os).1
  lead-if k c n nf rt rf ht hf [] = (atJump (condJump 0 c), refl, refl, refl)
  lead-if k c n nf rt rf ht hf (zero ∷ os) = ((rf os).0, refl, hf os)
  lead-if k c n nf rt rf ht hf (suc o ∷ os) = ((rt os).0, refl, ht os)

  lead-cond : (k c n nf : ℕ) (t : Stmts) (rt rf : ReadScript)
      → ((os : List ℕ) → Follows 0 (n, os) k (rt os).0 (rt os).1)
      → ((os : List ℕ) → Follows 0 (nf, os) k (rf os).0 (rf os).1)
      → (os : List ℕ)
      → Lead
      k
      (inside (condCode t c n) (follow L (section nf)) os).0
      (inside (condCode t c n) (follow L (section nf)) os).1
      (readCond t c rt rf os).0
      (readCond t c rt rf os).1
  lead-cond k c n nf nil rt rf ht hf os = ((rf os).0, refl, hf os)
  lead-cond k c n nf (plain o s) rt rf ht hf os = lead-if k c n nf rt rf ht hf os
  lead-cond k c n nf (goto o r s) rt rf ht hf os = lead-if k c n nf rt rf ht hf os
  lead-cond k c n nf (ite o c' t u s) rt rf ht hf os = lead-if k c n nf rt rf ht hf os

  sim-plain : (o : List Instruction) (s : Stmts) → Simulates s → Simulates (plain o s)
  sim-plain o s h p n k f os =
      let t = entry s (suc n) k in
      let x = inside (ownCode e o) (follow L (section t)) os in
      let y = read (plain o s) os in
      lead-step
      (p, os)
      k
      x.0
      x.1
      y.0
      y.1
      (at-step p (ownCode e o) (section t) os f.0)
      (own-lead k (follow L (section t)) (read s) (λ os'. ((read s os').0, refl, weak (lo s) (t, os') k (read s os').0 (read s os').1 (h (suc n) (suc n) k f.1 os'))) o os)

  sim-goto : (o : List Instruction) (r : ℕ) (s : Stmts) → Simulates (goto o r s)
  sim-goto o r s p n k f os =
      let x = inside (ownCode e o) (follow L (line r)) os in
      let y = read (goto o r s) os in
      lead-step (p, os) k x.0 x.1 y.0 y.1 (at-step p (ownCode e o) (line r) os f.0) (own-lead k (follow L (line r)) (readGoto r) (lead-goto k r) o os)

  sim-ite : (o : List Instruction) (c : ℕ) (t u s : Stmts) → Simulates t → Simulates u → Simulates s → Simulates (ite o c t u s)
  sim-ite o c t u s ht hu hs p n k f os =
      let nf = suc n + orOne t (sectionsMade t) in
      let nj = nf + orOne u (sectionsMade u) in
      let A = orEmpty t nj (stmtSections true e (suc n) nj t) in
      let B = orEmpty u nj (stmtSections true e nf nj u) in
      let ns = entry s (suc nj) k in
      let C = inner [] (section ns) ∷ stmtSections true e (suc nj) k s in
      let lA : length A ≡ orOne t (sectionsMade t) = length-orEmpty t nj (stmtSections true e (suc n) nj t) (length-low true e (suc n) nj t) in
      let lB : length B ≡ orOne u (sectionsMade u) = length-orEmpty u nj (stmtSections true e nf nj u) (length-low true e nf nj u) in
      let fA : Stands m (suc n) (suc n) A = fits-left m (suc n) A (B ++ C) f.1 in
      let fBC : Stands m nf nf (B ++ C) = fits-cast m (suc n + length A) nf (B ++ C) (omega arith) (fits-right m (suc n) A (B ++ C) f.1) in
      let fB : Stands m nf nf B = fits-left m nf B C fBC in
      let fC : Stands m nj nj C = fits-cast m (nf + length B) nj C (omega arith) (fits-right m nf B C fBC) in
      let K = inside (condCode t c (suc n)) (follow L (section nf)) in
      let G = readCond t c (read t) (read u) in
      let x = inside (ownCode e o) K os in
      let y = andThen (readOwn o os) G in
      follows-then
      1
      0
      (p, os)
      nj
      k
      (read s)
      (
      λ os'.
      after
      0
      (lo s)
      (nj, os')
      (ns, os')
      k
      []
      (read s os').0
      (read s os').1
      (goes-weak 1 (nj, os') (ns, os') [] (goes-step (at-step nj [] (section ns) os' fC.0)))
      (hs (suc nj) (suc nj) k fC.1 os')
      )
      y.0
      y.1
      (
      lead-step
      (p, os)
      nj
      x.0
      x.1
      y.0
      y.1
      (at-step p (ownCode e o ++ condCode t c (suc n)) (section nf) os f.0 ∙ inside-append (ownCode e o) (condCode t c (suc n)) (follow L (section nf)) os)
      (own-lead nj K G (lead-cond nj c (suc n) nf t (read t) (read u) (branch t ht (suc n) nj fA) (branch u hu nf nj fB)) o os)
      )

  simulates : (s : Stmts) → Simulates s
  simulates nil = λ p n k f os. goes-here st (k, os)
  simulates (plain o s) = sim-plain o s (simulates s)
  simulates (goto o r s) = sim-goto o r s
  simulates (ite o c t u s) = sim-ite o c t u s (simulates t) (simulates u) (simulates s)

-- ---- the lines

module _ (m : List SectionCode) (L : ℕ) where
  line-follows : (s : Stmts) (e u b : ℕ) → get_or m u absent ≡ headOf e (stmtSections true e b e s) → Stands m b b (tailOf (stmtSections true e b e s)) → (os : List ℕ)
      → Follows m L e 1 (u, os) e (read s os).0 (read s os).1
  unfolding st
  line-follows nil e u b h f os = goes-step (ap (λ (z : SectionCode). enter L z os) h)
  line-follows (plain o s) e u b h f os = simulates m L e (plain o s) u b e (line-fits m L (stmtSections true e b e (plain o s)) e u b h f) os
  line-follows (goto o r s) e u b h f os = simulates m L e (goto o r s) u b e (line-fits m L (stmtSections true e b e (goto o r s)) e u b h f) os
  line-follows (ite o c t v s) e u b h f os = simulates m L e (ite o c t v s) u b e (line-fits m L (stmtSections true e b e (ite o c t v s)) e u b h f) os

module _ (t : Script) (pos : 0 < length t) where
  abbrev L : ℕ
  L = length t

  R : State → State → Type 0
  R a b = (a ≡ b) × (a.0 < length t)

  to-match : (a : State) → a.0 < length t → (l : List Instruction) (o : Out) → stepLine t a ≡ (l, onward (length t) a.0 o)
      → Follows (sectionsOf t) (length t) (nextLine (length t) a.0) 1 a (nextLine (length t) a.0) l o → Match (stepLine t) (stepSection (sectionsOf t) (length t)) R a a
  unfolding R st
  to-match a h l (behind os) e g = m-to e g (refl, nextLine-lt (length t) a.0 h)
  to-match a h l (erred os) e g = m-to e g (refl, nextLine-lt (length t) a.0 h)
  to-match a h l (gone n os) e g = m-to e g (refl, mod-lt n pos)
  to-match a h l (stop q) e g = m-done e g

  sim : (a b : State) → R a b → Match (stepLine t) (stepSection (sectionsOf t) (length t)) R a b
  unfolding R
  sim a b (e, h) =
      subst
      (λ (z : State). Match (stepLine t) (stepSection (sectionsOf t) (length t)) R a z)
      e
      (
      let u = a.0 in
      let s = get_or t u nil in
      let y = read s a.1 in
      to-match a h y.0 y.1 refl (line-follows (sectionsOf t) (length t) s (nextLine L u) u (base L t u) (at-head t pos u h) (fits-tail t pos u h) a.1)
      )

  -- The lowered machine's walk is the tree's.
  pub lower-covers : (os : List ℕ) → Covers (readScript t os) (walkSections (sectionsOf t) (length t) os)
  unfolding R
  lower-covers os k = covers (stepLine t) (stepSection (sectionsOf t) (length t)) R sim k (0, os) (0, os) (refl, pos)

-- ---- a reading is never lost

ask≢lost : (q : Ask) → over (ask q) ≡ over lost → ⊥
ask≢lost q e = let z : ◌≡◌ {A = ℕ} 0 1 = cc in omega arith

more≢lost : more ≡ over lost → ⊥
more≢lost e = let z : ◌≡◌ {A = ℕ} 0 1 = cc in omega arith

module _ (t : Script) where
  onto-safe : (F : State → Trace) → ((s : State) → (F s).1 ≡ over lost → ⊥) → (i : ℕ) (l : List Instruction) (o : Out) → (onto F l (onward (length t) i o)).1 ≡ over lost → ⊥
  onto-safe F h i l (behind os) e = h (nextLine (length t) i, os) e
  onto-safe F h i l (erred os) e = h (nextLine (length t) i, os) e
  onto-safe F h i l (gone n os) e = h (n % length t, os) e
  onto-safe F h i l (stop q) e = ask≢lost q e

  never-lost : (k : ℕ) (s : State) → (run (stepLine t) k s).1 ≡ over lost → ⊥
  never-lost zero s e = more≢lost e
  never-lost (suc k) s e = let y = read (get_or t s.0 nil) s.1 in onto-safe (λ z. run (stepLine t) k z) (λ z q. never-lost k z q) s.0 y.0 y.1 e

  pub tree-safe : (os : List ℕ) → Safe (readScript t os)
  tree-safe os k e = never-lost k (0, os) e
