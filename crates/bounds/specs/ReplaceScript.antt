-- Replacement over the sections is replacement over the script: to lower and then replace is to replace and then lower.
use Rattle.std.specs.Prelude.{◌≡◌, refl, Bool, true, false, cond, ℕ, zero, suc, ◌+◌, ◌≤◌, eqb, leb}
use Rattle.std.proofs.Common.{sym, ap₂, ◌∙◌, arith, leb-true}
use Rattle.std.proofs.Math.Path.{ap}
use mathlib.Core.List.{List, [], ◌∷◌, ◌++◌, map, map-append, append_assoc}
use Rattle.std.proofs.Math.ListN.{length}
use Rattle.rules.specs.Instr.{Instruction, isJump, aimed, ins₁}
use Rattle.rules.specs.Machine.{SectionOrLine, section, line, SectionCode, absent}
use Rattle.rules.specs.Script.{Stmts, nil, plain, goto, ite, Script, isNil}
use Rattle.rules.specs.Assemble.{nextLine, orOne, sectionsMade, ownCode, entry, link, condJump, condCode, inner, orEmpty, stmtSections, headOf, tailOf, heads, tails, sectionsOf}
use Rattle.rules.specs.Replace.{Rule, stays, goes, turns, number, result, blank, rules, lookup, ruleFor, ruleOf, Regs, replaceBy, replaceIns, replaceCode, withCode, replaceSections}
use Rattle.rules.specs.Reading.{repAll, repFirst, repRest, firsts, rests, repScript}
use Rattle.rules.specs.Preservation.{All}
use Rattle.bounds.specs.Jumps.{aimed-other}

-- ---- jumps stay

low-op : (o : ℕ) (b : Bool) → o ≤ 1 → ruleFor b o ≡ stays
unfolding rules lookup
low-op o false h = refl
low-op zero true h = refl
low-op (suc zero) true h = refl
low-op (suc (suc o)) true h = absurd (omega arith)

jump-stays : (p : ℕ) (σ : Regs) (i : Instruction) → isJump i ≡ true → replaceIns p σ i ≡ (i ∷ [], σ)
jump-stays p σ i q = ap (λ (r : Rule). replaceBy p r σ i) (low-op i.op (eqb i.fst i.snd) (leb-true i.op 1 q))

jump-alone : (p : ℕ) (σ : Regs) (i : Instruction) → isJump i ≡ true → replaceCode p σ (i ∷ []) ≡ (i ∷ [], σ)
jump-alone p σ i q = ap (λ (x : List Instruction × Regs). (x.0 ++ [], x.1)) (jump-stays p σ i q)

-- ---- no rule makes a jump

abbrev Tidy : Rule → Type 0
Tidy stays = Unit {0}
Tidy goes = Unit {0}
Tidy (turns o) = leb o 1 ≡ false
Tidy (number z) = Unit {0}
Tidy (result z) = Unit {0}
Tidy blank = Unit {0}

tidy-all : All (λ (r : ℕ × Rule). Tidy r.1) rules
unfolding rules
tidy-all = (tt, (tt, (tt, (refl, (refl, (refl, (tt, (tt, (refl, (refl, (refl, (refl, (refl, (tt, (tt, (tt, (refl, (refl, tt))))))))))))))))))

tidy-lookup : (rs : List (ℕ × Rule)) → All (λ (r : ℕ × Rule). Tidy r.1) rs → (o : ℕ) → Tidy (lookup o rs)
unfolding lookup
tidy-lookup [] h o = tt
tidy-lookup (r ∷ rs) h o = go (eqb o r.0) (tidy-lookup rs h.1 o)
  where
    go : (b : Bool) → Tidy (lookup o rs) → Tidy (elim b [ true ↦ r.1 | false ↦ lookup o rs ])
    go true q = h.0
    go false q = q

tidy : (b : Bool) (o : ℕ) → Tidy (ruleFor b o)
tidy true o = tidy-lookup rules tidy-all o
tidy false o = tt

by-aimed : (p e : ℕ) (σ : Regs) (i : Instruction) (r : Rule) → isJump i ≡ false → Tidy r → map (aimed e) (replaceBy p r σ i).0 ≡ (replaceBy p r σ i).0
by-aimed p e σ i stays q t = ap (λ (x : Instruction). x ∷ []) (aimed-other e i q)
by-aimed p e σ i goes q t = refl
by-aimed p e σ i (turns o) q t = ap (λ (x : Instruction). x ∷ []) (aimed-other e (ins₁ o i.fst) t)
by-aimed p e σ i (number z) q t = refl
by-aimed p e σ i (result z) q t = refl
by-aimed p e σ i blank q t = refl

module _ (pl : ℕ) where
  rep-append : (σ : Regs) (a b : List SectionCode) → replaceSections pl σ (a ++ b) ≡ ((replaceSections pl σ a).0 ++ (replaceSections pl (replaceSections pl σ a).1 b).0, (replaceSections pl (replaceSections pl σ a).1 b).1)
  rep-append σ [] b = refl
  rep-append σ (s ∷ a) b =
      let x = replaceCode pl σ s.instrs in
      ap (λ (r : List SectionCode × Regs). (withCode s x.0 ∷ r.0, r.1)) (rep-append x.1 a b)

  ins-rep : (e : ℕ) (σ : Regs) (i : Instruction) → replaceIns pl σ (aimed e i) ≡ (map (aimed e) (replaceIns pl σ i).0, (replaceIns pl σ i).1)
  ins-rep e σ i = go (isJump i) refl
    where
      go : (b : Bool) → isJump i ≡ b → replaceIns pl σ (aimed e i) ≡ (map (aimed e) (replaceIns pl σ i).0, (replaceIns pl σ i).1)
      go true q = jump-stays pl σ (aimed e i) q ∙ ap (λ (x : List Instruction × Regs). (map (aimed e) x.0, x.1)) (sym (jump-stays pl σ i q))
      go false q =
          ap (replaceIns pl σ) (aimed-other e i q) ∙ ap (λ (c : List Instruction). (c, (replaceIns pl σ i).1)) (sym (by-aimed pl e σ i (ruleOf i) q (tidy (eqb i.fst i.snd) i.op)))

  own-rep : (e : ℕ) (σ : Regs) (o : List Instruction) → replaceCode pl σ (ownCode e o) ≡ (ownCode e (replaceCode pl σ o).0, (replaceCode pl σ o).1)
  own-rep e σ [] = refl
  own-rep e σ (i ∷ o) =
      let x = replaceIns pl σ i in
      ap (λ (z : List Instruction × Regs). let y = replaceCode pl z.1 (ownCode e o) in (z.0 ++ y.0, y.1)) (ins-rep e σ i)
      ∙ (ap (λ (y : List Instruction × Regs). (map (aimed e) x.0 ++ y.0, y.1)) (own-rep e x.1 o)
      ∙ ap (λ (c : List Instruction). (c, (replaceCode pl x.1 o).1)) (sym (map-append (aimed e) x.0 (replaceCode pl x.1 o).0)))

  code-append : (σ : Regs) (c d : List Instruction) → replaceCode pl σ (c ++ d) ≡ ((replaceCode pl σ c).0 ++ (replaceCode pl (replaceCode pl σ c).1 d).0, (replaceCode pl (replaceCode pl σ c).1 d).1)
  code-append σ [] d = refl
  code-append σ (i ∷ c) d =
      let x = replaceIns pl σ i in
      let y = replaceCode pl x.1 c in
      let z = replaceCode pl y.1 d in
      ap (λ (r : List Instruction × Regs). (x.0 ++ r.0, r.1)) (code-append x.1 c d) ∙ ap (λ (l : List Instruction). (l, z.1)) (sym (append_assoc x.0 y.0 z.0))

  cond-stays : (σ : Regs) (t : Stmts) (k n : ℕ) → replaceCode pl σ (condCode t k n) ≡ (condCode t k n, σ)
  cond-stays σ nil k n = refl
  cond-stays σ (plain o s) k n = jump-alone pl σ (condJump n k) refl
  cond-stays σ (goto o r s) k n = jump-alone pl σ (condJump n k) refl
  cond-stays σ (ite o c t f s) k n = jump-alone pl σ (condJump n k) refl

  -- A conditional jump behind stays.
  code-jump : (σ : Regs) (c : List Instruction) (t : Stmts) (k n : ℕ) → replaceCode pl σ (c ++ condCode t k n) ≡ ((replaceCode pl σ c).0 ++ condCode t k n, (replaceCode pl σ c).1)
  code-jump σ c t k n =
      code-append σ c (condCode t k n) ∙ ap (λ (r : List Instruction × Regs). ((replaceCode pl σ c).0 ++ r.0, r.1)) (cond-stays (replaceCode pl σ c).1 t k n)

  isNil-rep : (σ : Regs) (s : Stmts) → isNil (repAll pl σ s).0 ≡ isNil s
  isNil-rep σ nil = refl
  isNil-rep σ (plain o s) = refl
  isNil-rep σ (goto o r s) = refl
  isNil-rep σ (ite o c t f s) = refl

  one-of : (s s' : Stmts) → isNil s' ≡ isNil s → sectionsMade s' ≡ sectionsMade s → orOne s' (sectionsMade s') ≡ orOne s (sectionsMade s)
  one-of s s' p q = ap₂ (λ (b : Bool) (n : ℕ). cond b 1 n) p q

  size-rep : (σ : Regs) (s : Stmts) → sectionsMade (repAll pl σ s).0 ≡ sectionsMade s
  size-rep σ nil = refl
  size-rep σ (plain o s) = ap suc (size-rep (replaceCode pl σ o).1 s)
  size-rep σ (goto o r s) = ap suc (size-rep (replaceCode pl σ o).1 s)
  size-rep σ (ite o c t f s) =
      let σ₁ = (replaceCode pl σ o).1 in
      let σ₂ = (repAll pl σ₁ t).1 in
      let σ₃ = (repAll pl σ₂ f).1 in
      ap₂
      (λ (x y : ℕ). suc (x + y))
      (one-of t (repAll pl σ₁ t).0 (isNil-rep σ₁ t) (size-rep σ₁ t))
      (ap₂ (λ (x y : ℕ). x + suc y) (one-of f (repAll pl σ₂ f).0 (isNil-rep σ₂ f) (size-rep σ₂ f)) (size-rep σ₃ s))

  one-rep : (σ : Regs) (s : Stmts) → orOne (repAll pl σ s).0 (sectionsMade (repAll pl σ s).0) ≡ orOne s (sectionsMade s)
  one-rep σ s = one-of s (repAll pl σ s).0 (isNil-rep σ s) (size-rep σ s)

  rep-two : (σ : Regs) (a b a' b' : List SectionCode) (σ₁ σ₂ : Regs) → replaceSections pl σ a ≡ (a', σ₁) → replaceSections pl σ₁ b ≡ (b', σ₂) → replaceSections pl σ (a ++ b) ≡ (a' ++ b', σ₂)
  rep-two σ a b a' b' σ₁ σ₂ p q =
      rep-append σ a b ∙ (ap (λ (x : List SectionCode × Regs). (x.0 ++ (replaceSections pl x.1 b).0, (replaceSections pl x.1 b).1)) p ∙ ap (λ (y : List SectionCode × Regs). (a' ++ y.0, y.1)) q)

  rep-cons : (σ : Regs) (s : SectionCode) (m : List SectionCode) (c : List Instruction) (m' : List SectionCode) (σ₁ σ₂ : Regs) → replaceCode pl σ s.instrs ≡ (c, σ₁) → replaceSections pl σ₁ m ≡ (m', σ₂)
      → replaceSections pl σ (s ∷ m) ≡ (withCode s c ∷ m', σ₂)
  rep-cons σ s m c m' σ₁ σ₂ p q =
      ap (λ (x : List Instruction × Regs). (withCode s x.0 ∷ (replaceSections pl x.1 m).0, (replaceSections pl x.1 m).1)) p ∙ ap (λ (r : List SectionCode × Regs). (withCode s c ∷ r.0, r.1)) q

  abbrev LowRep : Stmts → Type 0
  LowRep s = (b : Bool) (e n k : ℕ) (σ : Regs) → replaceSections pl σ (stmtSections b e n k s) ≡ (stmtSections b e n k (repAll pl σ s).0, (repAll pl σ s).1)

  empty-rep : (s : Stmts) → LowRep s → (e n k : ℕ) (σ : Regs) → replaceSections pl σ (orEmpty s k (stmtSections true e n k s)) ≡ (orEmpty (repAll pl σ s).0 k (stmtSections true e n k (repAll pl σ s).0), (repAll pl σ s).1)
  empty-rep nil h e n k σ = refl
  empty-rep (plain o s) h e n k σ = h true e n k σ
  empty-rep (goto o r s) h e n k σ = h true e n k σ
  empty-rep (ite o c t f s) h e n k σ = h true e n k σ

  link-rep : (b : Bool) (s s' : Stmts) (n k : ℕ) → isNil s' ≡ isNil s → link b (entry s n k) ≡ link b (entry s' n k)
  link-rep b s s' n k p = ap (λ (z : Bool). link b (cond z k n)) (sym p)

  -- The sections of an Ite but the first, and all of them, its lists' sizes given.
  abbrev iteTail : Bool → ℕ → ℕ → ℕ → Stmts → Stmts → Stmts → ℕ → ℕ → List SectionCode
  iteTail b e n k t f s zt zf =
      orEmpty t (suc n + zt + zf) (stmtSections true e (suc n) (suc n + zt + zf) t)
      ++ (orEmpty f (suc n + zt + zf) (stmtSections true e (suc n + zt) (suc n + zt + zf) f)
      ++ (inner [] (link b (entry s (suc (suc n + zt + zf)) k)) ∷ stmtSections b e (suc (suc n + zt + zf)) k s))

  abbrev iteHead : ℕ → ℕ → List Instruction → ℕ → Stmts → ℕ → SectionCode
  iteHead e n o c t zt = inner (ownCode e o ++ condCode t c (suc n)) (section (suc n + zt))

  module _ (t f s : Stmts) (ht : LowRep t) (hf : LowRep f) (hs : LowRep s) (b : Bool) (e n k : ℕ) (σ₁ : Regs) where
    ite-tail : let a = repAll pl σ₁ t in
        let g = repAll pl a.1 f in
        let r = repAll pl g.1 s in
        replaceSections pl σ₁ (iteTail b e n k t f s (orOne t (sectionsMade t)) (orOne f (sectionsMade f))) ≡ (iteTail b e n k a.0 g.0 r.0 (orOne a.0 (sectionsMade a.0)) (orOne g.0 (sectionsMade g.0)), r.1)
    ite-tail =
        let nf = suc n + orOne t (sectionsMade t) in
        let nj = nf + orOne f (sectionsMade f) in
        let t' = (repAll pl σ₁ t).0 in
        let σ₂ = (repAll pl σ₁ t).1 in
        let f' = (repAll pl σ₂ f).0 in
        let σ₃ = (repAll pl σ₂ f).1 in
        let s' = (repAll pl σ₃ s).0 in
        let σ₄ = (repAll pl σ₃ s).1 in
        let A = orEmpty t nj (stmtSections true e (suc n) nj t) in
        let A' = orEmpty t' nj (stmtSections true e (suc n) nj t') in
        let B = orEmpty f nj (stmtSections true e nf nj f) in
        let B' = orEmpty f' nj (stmtSections true e nf nj f') in
        let J = inner [] (link b (entry s (suc nj) k)) in
        let J' = inner [] (link b (entry s' (suc nj) k)) in
        let eC : replaceSections pl σ₃ (J ∷ stmtSections b e (suc nj) k s) ≡ (J' ∷ stmtSections b e (suc nj) k s', σ₄) =
        rep-cons σ₃ J (stmtSections b e (suc nj) k s) [] (stmtSections b e (suc nj) k s') σ₃ σ₄ refl (hs b e (suc nj) k σ₃)
        ∙ ap (λ (x : SectionOrLine). (inner [] x ∷ stmtSections b e (suc nj) k s', σ₄)) (link-rep b s s' (suc nj) k (isNil-rep σ₃ s))
        in
        rep-two
        σ₁
        A
        (B ++ (J ∷ stmtSections b e (suc nj) k s))
        A'
        (B' ++ (J' ∷ stmtSections b e (suc nj) k s'))
        σ₂
        σ₄
        (empty-rep t ht e (suc n) nj σ₁)
        (rep-two σ₂ B (J ∷ stmtSections b e (suc nj) k s) B' (J' ∷ stmtSections b e (suc nj) k s') σ₃ σ₄ (empty-rep f hf e nf nj σ₂) eC)
        ∙ ap₂ (λ (x y : ℕ). (iteTail b e n k t' f' s' x y, σ₄)) (sym (one-rep σ₁ t)) (sym (one-rep σ₂ f))

  ite-head : (e n : ℕ) (o : List Instruction) (c : ℕ) (t : Stmts) (σ : Regs) → replaceCode pl σ (ownCode e o ++ condCode t c (suc n)) ≡ (ownCode e (replaceCode pl σ o).0 ++ condCode t c (suc n), (replaceCode pl σ o).1)
  ite-head e n o c t σ = code-jump σ (ownCode e o) t c (suc n) ∙ ap (λ (x : List Instruction × Regs). (x.0 ++ condCode t c (suc n), x.1)) (own-rep e σ o)

  -- An Ite's first section, its then-list replaced.
  head-list : (e n : ℕ) (o : List Instruction) (c : ℕ) (t : Stmts) (σ : Regs)
      → iteHead e n o c t (orOne t (sectionsMade t)) ≡ iteHead e n o c (repAll pl σ t).0 (orOne (repAll pl σ t).0 (sectionsMade (repAll pl σ t).0))
  head-list e n o c t σ =
      ap₂ (λ (z : Bool) (x : ℕ). inner (ownCode e o ++ cond z [] (condJump (suc n) c ∷ [])) (section (suc n + x))) (sym (isNil-rep σ t)) (sym (one-rep σ t))

  ite-rep : (o : List Instruction) (c : ℕ) (t f s : Stmts) → LowRep t → LowRep f → LowRep s → LowRep (ite o c t f s)
  ite-rep o c t f s ht hf hs b e n k σ =
      let o' = (replaceCode pl σ o).0 in
      let σ₁ = (replaceCode pl σ o).1 in
      let t' = (repAll pl σ₁ t).0 in
      let σ₂ = (repAll pl σ₁ t).1 in
      let f' = (repAll pl σ₂ f).0 in
      let σ₃ = (repAll pl σ₂ f).1 in
      let s' = (repAll pl σ₃ s).0 in
      let σ₄ = (repAll pl σ₃ s).1 in
      let W' = iteTail b e n k t' f' s' (orOne t' (sectionsMade t')) (orOne f' (sectionsMade f')) in
      rep-cons
      σ
      (iteHead e n o c t (orOne t (sectionsMade t)))
      (iteTail b e n k t f s (orOne t (sectionsMade t)) (orOne f (sectionsMade f)))
      (ownCode e o' ++ condCode t c (suc n))
      W'
      σ₁
      σ₄
      (ite-head e n o c t σ)
      (ite-tail t f s ht hf hs b e n k σ₁)
      ∙ ap (λ (x : SectionCode). (x ∷ W', σ₄)) (head-list e n o' c t σ₁)

  low-rep : (s : Stmts) → LowRep s
  low-rep nil = λ b e n k σ. refl
  low-rep (plain o s) = λ b e n k σ.
      let o' = (replaceCode pl σ o).0 in
      let σ₁ = (replaceCode pl σ o).1 in
      let s' = (repAll pl σ₁ s).0 in
      let σ₂ = (repAll pl σ₁ s).1 in
      rep-cons σ (inner (ownCode e o) (link b (entry s (suc n) k))) (stmtSections b e (suc n) k s) (ownCode e o') (stmtSections b e (suc n) k s') σ₁ σ₂ (own-rep e σ o) (low-rep s b e (suc n) k σ₁)
      ∙ ap (λ (x : SectionOrLine). (inner (ownCode e o') x ∷ stmtSections b e (suc n) k s', σ₂)) (link-rep b s s' (suc n) k (isNil-rep σ₁ s))
  low-rep (goto o r s) = λ b e n k σ.
      let o' = (replaceCode pl σ o).0 in
      let σ₁ = (replaceCode pl σ o).1 in
      rep-cons σ (inner (ownCode e o) (line r)) (stmtSections false e (suc n) k s) (ownCode e o') (stmtSections false e (suc n) k (repAll pl σ₁ s).0) σ₁ (repAll pl σ₁ s).1 (own-rep e σ o) (low-rep s false e (suc n) k σ₁)
  low-rep (ite o c t f s) = ite-rep o c t f s (low-rep t) (low-rep f) (low-rep s)

  -- ---- the lines

  head-code : (e n : ℕ) (σ : Regs) (s : Stmts) → replaceCode pl σ (headOf e (stmtSections true e n e s)).instrs ≡ ((headOf e (stmtSections true e n e (repFirst pl σ s).0)).instrs, (repFirst pl σ s).1)
  head-code e n σ nil = refl
  head-code e n σ (plain o s) = own-rep e σ o
  head-code e n σ (goto o r s) = own-rep e σ o
  head-code e n σ (ite o c t f s) = ite-head e n o c t σ

  head-sect : (e n : ℕ) (σ : Regs) (s : Stmts)
      → withCode (headOf e (stmtSections true e n e s)) (headOf e (stmtSections true e n e (repFirst pl σ s).0)).instrs ≡ headOf e (stmtSections true e n e (repFirst pl σ s).0)
  head-sect e n σ nil = refl
  head-sect e n σ (plain o s) = refl
  head-sect e n σ (goto o r s) = refl
  head-sect e n σ (ite o c t f s) = refl

  size-first : (σ : Regs) (s : Stmts) → sectionsMade (repFirst pl σ s).0 ≡ sectionsMade s
  size-first σ nil = refl
  size-first σ (plain o s) = refl
  size-first σ (goto o r s) = refl
  size-first σ (ite o c t f s) = refl

  heads-rep : (L i n : ℕ) (σ : Regs) (t : Script) → replaceSections pl σ (heads L i n t) ≡ (heads L i n (firsts pl σ t).0, (firsts pl σ t).1)
  heads-rep L i n σ [] = refl
  heads-rep L i n σ (s ∷ t) =
      let e = nextLine L i in
      let h = headOf e (stmtSections true e n e s) in
      let s' = (repFirst pl σ s).0 in
      let h' = headOf e (stmtSections true e n e s') in
      let σ₁ = (repFirst pl σ s).1 in
      let t' = (firsts pl σ₁ t).0 in
      let σ₂ = (firsts pl σ₁ t).1 in
      rep-cons σ h (heads L (suc i) (n + sectionsMade s) t) h'.instrs (heads L (suc i) (n + sectionsMade s) t') σ₁ σ₂ (head-code e n σ s) (heads-rep L (suc i) (n + sectionsMade s) σ₁ t)
      ∙ ap₂ (λ (x : SectionCode) (k : ℕ). (x ∷ heads L (suc i) (n + k) t', σ₂)) (head-sect e n σ s) (sym (size-first σ s))

  tail-first : (e n : ℕ) (σ : Regs) (s : Stmts) → tailOf (stmtSections true e n e (repFirst pl σ s).0) ≡ tailOf (stmtSections true e n e s)
  tail-first e n σ nil = refl
  tail-first e n σ (plain o s) = refl
  tail-first e n σ (goto o r s) = refl
  tail-first e n σ (ite o c t f s) = refl

  tails-first : (L i n : ℕ) (σ : Regs) (t : Script) → tails L i n (firsts pl σ t).0 ≡ tails L i n t
  tails-first L i n σ [] = refl
  tails-first L i n σ (s ∷ t) =
      let e = nextLine L i in
      let σ₁ = (repFirst pl σ s).1 in
      ap₂ (λ (l : List SectionCode) (k : ℕ). l ++ tails L (suc i) (n + k) (firsts pl σ₁ t).0) (tail-first e n σ s) (size-first σ s)
      ∙ ap (λ (l : List SectionCode). tailOf (stmtSections true e n e s) ++ l) (tails-first L (suc i) (n + sectionsMade s) σ₁ t)

  size-rest : (σ : Regs) (s : Stmts) → sectionsMade (repRest pl σ s).0 ≡ sectionsMade s
  size-rest σ nil = refl
  size-rest σ (plain o s) = ap suc (size-rep σ s)
  size-rest σ (goto o r s) = ap suc (size-rep σ s)
  size-rest σ (ite o c t f s) =
      let σ₂ = (repAll pl σ t).1 in
      let σ₃ = (repAll pl σ₂ f).1 in
      ap₂ (λ (x y : ℕ). suc (x + y)) (one-rep σ t) (ap₂ (λ (x y : ℕ). x + suc y) (one-rep σ₂ f) (size-rep σ₃ s))

  head-rest : (e n : ℕ) (σ : Regs) (s : Stmts) → headOf e (stmtSections true e n e (repRest pl σ s).0) ≡ headOf e (stmtSections true e n e s)
  head-rest e n σ nil = refl
  head-rest e n σ (plain o s) = ap (λ (x : SectionOrLine). record { lineStart = true; instrs = ownCode e o; success = x }) (sym (link-rep true s (repAll pl σ s).0 (suc n) e (isNil-rep σ s)))
  head-rest e n σ (goto o r s) = refl
  head-rest e n σ (ite o c t f s) = ap (λ (x : SectionCode). record { lineStart = true; instrs = x.instrs; success = x.success }) (sym (head-list e n o c t σ))

  heads-rest : (L i n : ℕ) (σ : Regs) (t : Script) → heads L i n (rests pl σ t).0 ≡ heads L i n t
  heads-rest L i n σ [] = refl
  heads-rest L i n σ (s ∷ t) =
      let e = nextLine L i in
      let σ₁ = (repRest pl σ s).1 in
      ap₂ (λ (x : SectionCode) (k : ℕ). x ∷ heads L (suc i) (n + k) (rests pl σ₁ t).0) (head-rest e n σ s) (size-rest σ s)
      ∙ ap (λ (l : List SectionCode). headOf e (stmtSections true e n e s) ∷ l) (heads-rest L (suc i) (n + sectionsMade s) σ₁ t)

  tail-rep : (e n : ℕ) (σ : Regs) (s : Stmts) → replaceSections pl σ (tailOf (stmtSections true e n e s)) ≡ (tailOf (stmtSections true e n e (repRest pl σ s).0), (repRest pl σ s).1)
  tail-rep e n σ nil = refl
  tail-rep e n σ (plain o s) = rep-cons σ absent (stmtSections true e (suc n) e s) [] (stmtSections true e (suc n) e (repAll pl σ s).0) σ (repAll pl σ s).1 refl (low-rep s true e (suc n) e σ)
  tail-rep e n σ (goto o r s) = rep-cons σ absent (stmtSections false e (suc n) e s) [] (stmtSections false e (suc n) e (repAll pl σ s).0) σ (repAll pl σ s).1 refl (low-rep s false e (suc n) e σ)
  tail-rep e n σ (ite o c t f s) =
      let a = repAll pl σ t in
      let g = repAll pl a.1 f in
      let r = repAll pl g.1 s in
      rep-cons
      σ
      absent
      (iteTail true e n e t f s (orOne t (sectionsMade t)) (orOne f (sectionsMade f)))
      []
      (iteTail true e n e a.0 g.0 r.0 (orOne a.0 (sectionsMade a.0)) (orOne g.0 (sectionsMade g.0)))
      σ
      r.1
      refl
      (ite-tail t f s (low-rep t) (low-rep f) (low-rep s) true e n e σ)

  tails-rep : (L i n : ℕ) (σ : Regs) (t : Script) → replaceSections pl σ (tails L i n t) ≡ (tails L i n (rests pl σ t).0, (rests pl σ t).1)
  tails-rep L i n σ [] = refl
  tails-rep L i n σ (s ∷ t) =
      let e = nextLine L i in
      let s' = (repRest pl σ s).0 in
      let σ₁ = (repRest pl σ s).1 in
      let t' = (rests pl σ₁ t).0 in
      let σ₂ = (rests pl σ₁ t).1 in
      rep-two
      σ
      (tailOf (stmtSections true e n e s))
      (tails L (suc i) (n + sectionsMade s) t)
      (tailOf (stmtSections true e n e s'))
      (tails L (suc i) (n + sectionsMade s) t')
      σ₁
      σ₂
      (tail-rep e n σ s)
      (tails-rep L (suc i) (n + sectionsMade s) σ₁ t)
      ∙ ap (λ (k : ℕ). (tailOf (stmtSections true e n e s') ++ tails L (suc i) (n + k) t', σ₂)) (sym (size-rest σ s))

  length-firsts : (σ : Regs) (t : Script) → length (firsts pl σ t).0 ≡ length t
  length-firsts σ [] = refl
  length-firsts σ (s ∷ t) = ap suc (length-firsts (repFirst pl σ s).1 t)

  length-rests : (σ : Regs) (t : Script) → length (rests pl σ t).0 ≡ length t
  length-rests σ [] = refl
  length-rests σ (s ∷ t) = ap suc (length-rests (repRest pl σ s).1 t)

  pub length-rep : (σ : Regs) (t : Script) → length (repScript pl σ t).0 ≡ length t
  length-rep σ t = length-rests (firsts pl σ t).1 (firsts pl σ t).0 ∙ length-firsts σ t

  -- To sectionsOf and then replace is to replace in the tree and then sectionsOf.
  pub lower-rep : (σ : Regs) (t : Script) → replaceSections pl σ (sectionsOf t) ≡ (sectionsOf (repScript pl σ t).0, (repScript pl σ t).1)
  unfolding sectionsOf
  lower-rep σ t =
      let L = length t in
      let u = (firsts pl σ t).0 in
      let σ₁ = (firsts pl σ t).1 in
      let v = (rests pl σ₁ u).0 in
      let σ₂ = (rests pl σ₁ u).1 in
      rep-two
      σ
      (heads L 0 L t)
      (tails L 0 L t)
      (heads L 0 L v)
      (tails L 0 L v)
      σ₁
      σ₂
      (heads-rep L 0 L σ t ∙ ap (λ (l : List SectionCode). (l, σ₁)) (sym (heads-rest L 0 L σ₁ u)))
      (ap (replaceSections pl σ₁) (sym (tails-first L 0 L σ t)) ∙ tails-rep L 0 L σ₁ u)
      ∙ ap (λ (k : ℕ). (heads k 0 k v ++ tails k 0 k v, σ₂)) (sym (length-rep σ t))
