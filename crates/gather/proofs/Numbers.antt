-- What falls stays in order; renumbering once and again, of one section and of two joined. Assumes nothing.
use Rattle.std.specs.Prelude.{◌≡◌, refl, ◌⊎◌, Bool, true, false, cond, List, [], ◌∷◌, map, ℕ, ◌<◌}
use Rattle.std.proofs.Common.{sym, ap, ap₂, inl, inr, arith}
use Rattle.std.proofs.Math.Path.{fun_ext}
use Rattle.std.proofs.lemmas.Bool.{cases_eq}
use Rattle.std.proofs.lemmas.List.{map-append, append_assoc}
use Rattle.rules.specs.Clean.{renIns, renNext, ren}
use Rattle.rules.specs.Combine.{joined}
use Rattle.rules.specs.Instr.{Instruction, isJump, fall}
use Rattle.rules.specs.Machine.{SectionOrLine, SectionCode, unfixed, section, line}
use Rattle.joins.specs.Numbers.{fall-grows, fall-same}

-- what is lower, stays lower
pub fall-lt : (j t u : ℕ) → (t ≡ j → ⊥) → (u ≡ j → ⊥) → t < u → fall j t < fall j u
fall-lt j t u p q h = go (cases_eq (fall j t) (fall j u))
  where
    go : (fall j t ≡ fall j u) ⊎ (fall j t ≡ fall j u → ⊥) → fall j t < fall j u
    go (inl e) = absurd (let z = fall-same j t u p q e in omega arith)
    go (inr e) = omega (arith, fall-grows j t u (omega arith), e)

-- two tests that each pass where the other does
pub same-test : (a b : Bool) → (a ≡ true → b ≡ true) → (b ≡ true → a ≡ true) → a ≡ b
same-test true true p q = refl
same-test true false p q = sym (p refl)
same-test false true p q = q refl
same-test false false p q = refl

-- ---- renumbering

module _ (f g : ℕ → ℕ) where
  again-ins : (i : Instruction) → renIns g (renIns f i) ≡ renIns (λ t. g (f t)) i
  again-ins i = ap (λ (x : ℕ). record { op = i.op; fst = x; snd = i.snd; thd = i.thd }) (go (isJump i) i.fst)
    where
      go : (b : Bool) (a : ℕ) → cond b (g (cond b (f a) a)) (cond b (f a) a) ≡ cond b (g (f a)) a
      go true a = refl
      go false a = refl

  again-code : (c : List Instruction) → map (renIns g) (map (renIns f) c) ≡ map (renIns (λ t. g (f t))) c
  again-code [] = refl
  again-code (i ∷ c) = ap₂ (λ (x : Instruction) (y : List Instruction). x ∷ y) (again-ins i) (again-code c)

  again-next : (x : SectionOrLine) → renNext g (renNext f x) ≡ renNext (λ t. g (f t)) x
  again-next unfixed = refl
  again-next (section t) = refl
  again-next (line r) = refl

  -- renumbered twice, and by two that agree
  pub ren-again : (s : SectionCode) → ren g (ren f s) ≡ ren (λ t. g (f t)) s
  ren-again s = ap₂ (λ (c : List Instruction) (x : SectionOrLine). record { lineStart = s.lineStart; instrs = c; success = x }) (again-code s.instrs) (again-next s.success)

  pub ren-alike : ((t : ℕ) → f t ≡ g t) → (s : SectionCode) → ren f s ≡ ren g s
  ren-alike h s = ap (λ (e : ℕ → ℕ). ren e s) (fun_ext h)

code-self : (f : ℕ → ℕ) → ((t : ℕ) → f t ≡ t) → (c : List Instruction) → map (renIns f) c ≡ c
code-self f h [] = refl
code-self f h (i ∷ c) = ap₂ (λ (x : Instruction) (y : List Instruction). x ∷ y) (ap (λ (x : ℕ). record { op = i.op; fst = x; snd = i.snd; thd = i.thd }) (go (isJump i) i.fst)) (code-self f h c)
  where
    go : (b : Bool) (a : ℕ) → cond b (f a) a ≡ a
    go true a = h a
    go false a = refl

next-self : (f : ℕ → ℕ) → ((t : ℕ) → f t ≡ t) → (x : SectionOrLine) → renNext f x ≡ x
next-self f h unfixed = refl
next-self f h (section t) = ap section (h t)
next-self f h (line r) = refl

-- by one that keeps every number
pub ren-self : (f : ℕ → ℕ) → ((t : ℕ) → f t ≡ t) → (s : SectionCode) → ren f s ≡ s
ren-self f h s = ap₂ (λ (c : List Instruction) (x : SectionOrLine). record { lineStart = s.lineStart; instrs = c; success = x }) (code-self f h s.instrs) (next-self f h s.success)

pub ren-joined : (f : ℕ → ℕ) (a b : SectionCode) → ren f (joined a b) ≡ joined (ren f a) (ren f b)
ren-joined f a b = ap (λ (c : List Instruction). record { lineStart = a.lineStart; instrs = c; success = renNext f b.success }) (map-append (renIns f) a.instrs b.instrs)

pub joined-assoc : (a b c : SectionCode) → joined (joined a b) c ≡ joined a (joined b c)
joined-assoc a b c = ap (λ (x : List Instruction). record { lineStart = a.lineStart; instrs = x; success = c.success }) (append_assoc a.instrs b.instrs c.instrs)
