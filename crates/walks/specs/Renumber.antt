-- What renumbering does to a step of the machine.
use Rattle.std.specs.Prelude.{◌≡◌, refl, Bool, true, false, cond, List, [], ◌∷◌, ◌++◌, map, ℕ, zero, suc, ◌%◌}
use Rattle.std.proofs.Common.{sym, ap, ◌∙◌}
use Rattle.rules.specs.Instr.{Instruction, isJump, shown}
use Rattle.rules.specs.Machine.{SectionOrLine, unfixed, section, line, SectionCode}
use Rattle.rules.specs.Walk.{Step, to, done, Leg, pre, State, follow, inside, enter, through, across}
use Rattle.rules.specs.Clean.{renIns, renNext, ren}
use Rattle.walks.specs.Walks.{Goes, Halts, goes-step, halts-step, goes-goes, goes-halts}
use Rattle.bounds.specs.Jumps.{shown-aimed}

abbrev pub mapRes : (ℕ → ℕ) → Step State → Step State
mapRes f (to s) = to (f s.0, s.1)
mapRes f (done x) = done x

abbrev pub mapLeg : (ℕ → ℕ) → Leg State → Leg State
mapLeg f x = (x.0, mapRes f x.1)

module _ (f : ℕ → ℕ) where
  across-ren : (b : Bool) (i : Instruction) (t : ℕ) (K K' : List ℕ → Leg State) → ((os : List ℕ) → K' os ≡ mapLeg f (K os)) → (os : List ℕ)
      → across b i (cond b (f t) t) K' os ≡ mapLeg f (across b i t K os)
  across-ren false i t K K' h os = ap (pre (i ∷ [])) (h os)
  across-ren true i t K K' h [] = refl
  across-ren true i t K K' h (zero ∷ os) = ap (pre (i ∷ [])) (h os)
  across-ren true i t K K' h (suc o ∷ os) = refl

  inside-ren : (K K' : List ℕ → Leg State) → ((os : List ℕ) → K' os ≡ mapLeg f (K os)) → (c : List Instruction) (os : List ℕ)
      → inside (map (renIns f) c) K' os ≡ mapLeg f (inside c K os)
  inside-ren K K' h [] os = h os
  inside-ren K K' h (i ∷ c) os =
      ap (λ (x : Instruction). across (isJump i) x (renIns f i).fst (inside (map (renIns f) c) K') os) (shown-aimed (f i.fst) i)
      ∙ across-ren (isJump i) (shown i) i.fst (inside c K) (inside (map (renIns f) c) K') (λ z. inside-ren K K' h c z) os

  module _ (L : ℕ) (stay : (o : ℕ) → f (o % L) ≡ o % L) where
    follow-ren : (x : SectionOrLine) (os : List ℕ) → follow L (renNext f x) os ≡ mapLeg f (follow L x os)
    follow-ren unfixed os = refl
    follow-ren (section t) os = refl
    follow-ren (line r) [] = refl
    follow-ren (line r) (o ∷ os) = ap (λ (n : ℕ). ([], to (n, os))) (sym (stay o))

    through-ren : (c : List Instruction) (x : SectionOrLine) (os : List ℕ) → through L (map (renIns f) c) (renNext f x) os ≡ mapLeg f (through L c x os)
    through-ren c unfixed os = refl
    through-ren c (section t) os = inside-ren (follow L (section t)) (follow L (section (f t))) (follow-ren (section t)) c os
    through-ren c (line r) os = inside-ren (follow L (line r)) (follow L (line r)) (follow-ren (line r)) c os

    pub enter-ren : (s : SectionCode) (os : List ℕ) → enter L (ren f s) os ≡ mapLeg f (enter L s os)
    enter-ren s os = through-ren s.instrs s.success os

across-ext : (b : Bool) (i : Instruction) (t : ℕ) (K K' : List ℕ → Leg State) → ((os : List ℕ) → K os ≡ K' os) → (os : List ℕ) → across b i t K os ≡ across b i t K' os
across-ext false i t K K' h os = ap (pre (i ∷ [])) (h os)
across-ext true i t K K' h [] = refl
across-ext true i t K K' h (zero ∷ os) = ap (pre (i ∷ [])) (h os)
across-ext true i t K K' h (suc o ∷ os) = refl

pub inside-append : (c d : List Instruction) (K : List ℕ → Leg State) (os : List ℕ) → inside (c ++ d) K os ≡ inside c (inside d K) os
inside-append [] d K os = refl
inside-append (i ∷ c) d K os = across-ext (isJump i) (shown i) i.fst (inside (c ++ d) K) (inside c (inside d K)) (λ z. inside-append c d K z) os

pub inside-ext : (c : List Instruction) (K K' : List ℕ → Leg State) → ((os : List ℕ) → K os ≡ K' os) → (os : List ℕ) → inside c K os ≡ inside c K' os
inside-ext [] K K' h os = h os
inside-ext (i ∷ c) K K' h os = across-ext (isJump i) (shown i) i.fst (inside c K) (inside c K') (λ z. inside-ext c K K' h z) os

-- ---- the leg Y, played by the walk `st` from b in one step or more

abbrev pub Plays : (State → Leg State) → State → List Instruction → Step State → Type 0
Plays st b l (to s) = Goes st 1 b l s
Plays st b l (done f) = Halts st b l f

plays-at : (st : State → Leg State) (b : State) (l : List Instruction) (r : Step State) → st b ≡ (l, r) → Plays st b l r
plays-at st b l (to s) e = goes-step e
plays-at st b l (done f) e = halts-step e

pub plays-step : (st : State → Leg State) (b : State) (x : Leg State) → st b ≡ x → Plays st b x.0 x.1
plays-step st b x e = plays-at st b x.0 x.1 e

pub plays-then : (st : State → Leg State) (a b : State) (l : List Instruction) → Goes st 1 a l b → (l' : List Instruction) (r : Step State) → Plays st b l' r → Plays st a (l ++ l') r
plays-then st a b l g l' (to s) h = goes-goes g h
plays-then st a b l g l' (done f) h = goes-halts g h

-- No way leads to section j.
abbrev pub Avoids : ℕ → Step State → Type 0
Avoids j (to s) = s.0 ≡ j → ⊥
Avoids j (done f) = Unit {0}
