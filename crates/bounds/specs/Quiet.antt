-- Replacement adds no register to a tree's code, and what it leaves names registers that are there.
use Rattle.std.specs.Prelude.{◌≡◌, refl, Bool, true, false, List, [], ◌∷◌, ℕ, zero, suc, ◌≤◌, ◌<◌, eqb}
use Rattle.std.proofs.Common.{sym, ◌∙◌, subst, arith, leb-true, eqb-true}
use Rattle.std.proofs.Math.Option.{Option, none, some}
use Rattle.rules.specs.Instr.{Instruction, ins₁, isJump, shown, Kind, unused, kinds}
use Rattle.rules.specs.Tables.{Counts}
use Rattle.rules.specs.Script.{Stmts, nil, plain, goto, ite, Script}
use Rattle.rules.specs.Assemble.{condJump}
use Rattle.rules.specs.Replace.{Rule, stays, goes, turns, number, result, blank, rules, lookup, ruleFor, ruleOf, Regs, replaceBy, replaceIns, replaceCode}
use Rattle.rules.specs.Reading.{repAll, repFirst, repRest, firsts, rests, repScript}
use Rattle.rules.specs.Preservation.{All, FieldsBelow, RegistersBelow}
use Rattle.bounds.specs.Good.{CodeGood, Good, GoodTree, GoodWhole}
use Rattle.bounds.specs.Jumps.{aimed-other}
use Rattle.laws.specs.Lists.{not-both, all-append}
use Rattle.bounds.specs.Room.{adds, Ok}
use Rattle.bounds.specs.Own.{Whole}

-- ---- a jump's target aside

pub aside : (u : Counts) (o a b c d : ℕ) → o ≤ 1 → FieldsBelow u (kinds o) (record { op = o; fst = a; snd = c; thd = d }) → FieldsBelow u (kinds o) (record { op = o; fst = b; snd = c; thd = d })
unfolding kinds
aside u zero a b c d h f = (tt, f.1, f.2)
aside u (suc zero) a b c d h f = (tt, f.1, f.2)
aside u (suc (suc o)) a b c d h f = absurd (omega arith)

pub shown-regs : (u : Counts) (i : Instruction) → RegistersBelow u i → RegistersBelow u (shown i)
shown-regs u i h = go (isJump i) refl
  where
    go : (b : Bool) → isJump i ≡ b → RegistersBelow u (shown i)
    go true e = aside u i.op i.fst (shown i).fst i.snd i.thd (leb-true i.op 1 e) h
    go false e = subst (RegistersBelow u) (sym (aimed-other 0 i e)) h

-- an Ite's jump
pub cond-regs : (u : Counts) (c : ℕ) → c < u.numbers → RegistersBelow u (condJump 0 c)
unfolding kinds
cond-regs u c h = (tt, h, refl)

-- ---- the rules' opcodes take the same first register

abbrev first : Option (Kind × Kind × Kind) → Option (Kind × Kind × Kind)
first none = none
first (some k) = some (k.0, unused, unused)

abbrev Keeps : ℕ → Rule → Type 0
Keeps o stays = Unit {0}
Keeps o goes = Unit {0}
Keeps o (turns q) = kinds q ≡ first (kinds o)
Keeps o (number z) = Unit {0}
Keeps o (result z) = Unit {0}
Keeps o blank = Unit {0}

keeps-all : All (λ (r : ℕ × Rule). Keeps r.0 r.1) rules
unfolding rules kinds
keeps-all = (tt, (tt, (tt, (refl, (refl, (refl, (tt, (tt, (refl, (refl, (refl, (refl, (refl, (tt, (tt, (tt, (refl, (refl, tt))))))))))))))))))

keeps-lookup : (rs : List (ℕ × Rule)) → All (λ (r : ℕ × Rule). Keeps r.0 r.1) rs → (o : ℕ) → Keeps o (lookup o rs)
unfolding lookup
keeps-lookup [] h o = tt
keeps-lookup (r ∷ rs) h o = go (eqb o r.0) refl (keeps-lookup rs h.1 o)
  where
    go : (b : Bool) → eqb o r.0 ≡ b → Keeps o (lookup o rs) → Keeps o (elim b [ true ↦ r.1 | false ↦ lookup o rs ])
    go true e q = subst (λ (n : ℕ). Keeps n r.1) (sym (eqb-true o r.0 e)) h.0
    go false e q = q

keeps : (b : Bool) (o : ℕ) → Keeps o (ruleFor b o)
keeps true o = keeps-lookup rules keeps-all o
keeps false o = tt

first-regs : (u : Counts) (i : Instruction) (q : ℕ) (k : Option (Kind × Kind × Kind)) → FieldsBelow u k i → FieldsBelow u (first k) (ins₁ q i.fst)
first-regs u i q none h = h
first-regs u i q (some k) h = (h.0, refl, refl)

turned-regs : (u : Counts) (i : Instruction) (q : ℕ) → kinds q ≡ first (kinds i.op) → RegistersBelow u i → RegistersBelow u (ins₁ q i.fst)
turned-regs u i q e h = subst (λ (k : Option (Kind × Kind × Kind)). FieldsBelow u k (ins₁ q i.fst)) (sym e) (first-regs u i q (kinds i.op) h)

-- ---- instructions

module _ (u : Counts) (p : ℕ) where
  abbrev P : Instruction → Type 0
  P i = RegistersBelow u i

  abbrev G : ℕ → Type 0
  G r = r < u.numbers

  by-quiet : (r : Rule) → adds r ≡ false → (σ : Regs) (i : Instruction) → (replaceBy p r σ i).1 ≡ σ
  by-quiet stays e σ i = refl
  by-quiet goes e σ i = refl
  by-quiet (turns q) e σ i = refl
  by-quiet (number z) e σ i = absurd (not-both true refl e)
  by-quiet (result z) e σ i = absurd (not-both true refl e)
  by-quiet blank e σ i = absurd (not-both true refl e)

  by-good : (r : Rule) → adds r ≡ false → (σ : Regs) (i : Instruction) → Keeps i.op r → RegistersBelow u i → CodeGood P (replaceBy p r σ i).0
  by-good stays e σ i k h = (shown-regs u i h, tt)
  by-good goes e σ i k h = tt
  by-good (turns q) e σ i k h = (shown-regs u (ins₁ q i.fst) (turned-regs u i q k h), tt)
  by-good (number z) e σ i k h = absurd (not-both true refl e)
  by-good (result z) e σ i k h = absurd (not-both true refl e)
  by-good blank e σ i k h = absurd (not-both true refl e)

  code-quiet : (c : List Instruction) → All (Ok u) c → (σ : Regs) → (replaceCode p σ c).1 ≡ σ
  code-quiet [] h σ = refl
  code-quiet (i ∷ c) h σ = code-quiet c h.1 (replaceIns p σ i).1 ∙ by-quiet (ruleOf i) h.0.quiet σ i

  code-good : (c : List Instruction) → All (Ok u) c → (σ : Regs) → CodeGood P (replaceCode p σ c).0
  code-good [] h σ = tt
  code-good (i ∷ c) h σ =
      let x = replaceIns p σ i in
      all-append (λ i. P (shown i)) x.0 (replaceCode p x.1 c).0 (by-good (ruleOf i) h.0.quiet σ i (keeps (eqb i.fst i.snd) i.op) h.0.regs) (code-good c h.1 x.1)

  -- ---- lists

  all-quiet : (s : Stmts) → Whole u s → (σ : Regs) → (repAll p σ s).1 ≡ σ
  all-quiet nil h σ = refl
  all-quiet (plain o s) h σ = all-quiet s h.1 (replaceCode p σ o).1 ∙ code-quiet o h.0 σ
  all-quiet (goto o r s) h σ = all-quiet s h.2 (replaceCode p σ o).1 ∙ code-quiet o h.0 σ
  all-quiet (ite o c t f s) h σ =
      let x = replaceCode p σ o in
      let a = repAll p x.1 t in
      let b = repAll p a.1 f in
      all-quiet s h.4 b.1 ∙ (all-quiet f h.3 a.1 ∙ (all-quiet t h.2 x.1 ∙ code-quiet o h.0 σ))

  all-good : (s : Stmts) → Whole u s → (σ : Regs) → GoodWhole P G (repAll p σ s).0
  all-good nil h σ = tt
  all-good (plain o s) h σ = (code-good o h.0 σ, all-good s h.1 (replaceCode p σ o).1)
  all-good (goto o r s) h σ = (code-good o h.0 σ, h.1, all-good s h.2 (replaceCode p σ o).1)
  all-good (ite o c t f s) h σ =
      let x = replaceCode p σ o in
      let a = repAll p x.1 t in
      let b = repAll p a.1 f in
      (code-good o h.0 σ, cond-regs u c h.1, all-good t h.2 x.1, all-good f h.3 a.1, all-good s h.4 b.1)

  -- A list whose first statement's own instructions have been replaced.
  abbrev Half : Stmts → Type 0
  Half nil = Unit {0}
  Half (plain o s) = CodeGood P o × Whole u s
  Half (goto o r s) = CodeGood P o × G r × Whole u s
  Half (ite o c t f s) = CodeGood P o × G c × Whole u t × Whole u f × Whole u s

  first-quiet : (s : Stmts) → Whole u s → (σ : Regs) → (repFirst p σ s).1 ≡ σ
  first-quiet nil h σ = refl
  first-quiet (plain o s) h σ = code-quiet o h.0 σ
  first-quiet (goto o r s) h σ = code-quiet o h.0 σ
  first-quiet (ite o c t f s) h σ = code-quiet o h.0 σ

  first-half : (s : Stmts) → Whole u s → (σ : Regs) → Half (repFirst p σ s).0
  first-half nil h σ = tt
  first-half (plain o s) h σ = (code-good o h.0 σ, h.1)
  first-half (goto o r s) h σ = (code-good o h.0 σ, h.1, h.2)
  first-half (ite o c t f s) h σ = (code-good o h.0 σ, h.1, h.2, h.3, h.4)

  rest-quiet : (s : Stmts) → Half s → (σ : Regs) → (repRest p σ s).1 ≡ σ
  rest-quiet nil h σ = refl
  rest-quiet (plain o s) h σ = all-quiet s h.1 σ
  rest-quiet (goto o r s) h σ = all-quiet s h.2 σ
  rest-quiet (ite o c t f s) h σ =
      let a = repAll p σ t in
      let b = repAll p a.1 f in
      all-quiet s h.4 b.1 ∙ (all-quiet f h.3 a.1 ∙ all-quiet t h.2 σ)

  rest-good : (s : Stmts) → Half s → (σ : Regs) → GoodWhole P G (repRest p σ s).0
  rest-good nil h σ = tt
  rest-good (plain o s) h σ = (h.0, all-good s h.1 σ)
  rest-good (goto o r s) h σ = (h.0, h.1, all-good s h.2 σ)
  rest-good (ite o c t f s) h σ =
      let a = repAll p σ t in
      let b = repAll p a.1 f in
      (h.0, cond-regs u c h.1, all-good t h.2 σ, all-good f h.3 a.1, all-good s h.4 b.1)

  -- ---- lines

  firsts-quiet : (t : Script) → All (Whole u) t → (σ : Regs) → (firsts p σ t).1 ≡ σ
  firsts-quiet [] h σ = refl
  firsts-quiet (s ∷ t) h σ = firsts-quiet t h.1 (repFirst p σ s).1 ∙ first-quiet s h.0 σ

  firsts-half : (t : Script) → All (Whole u) t → (σ : Regs) → All Half (firsts p σ t).0
  firsts-half [] h σ = tt
  firsts-half (s ∷ t) h σ = (first-half s h.0 σ, firsts-half t h.1 (repFirst p σ s).1)

  rests-quiet : (t : Script) → All Half t → (σ : Regs) → (rests p σ t).1 ≡ σ
  rests-quiet [] h σ = refl
  rests-quiet (s ∷ t) h σ = rests-quiet t h.1 (repRest p σ s).1 ∙ rest-quiet s h.0 σ

  rests-good : (t : Script) → All Half t → (σ : Regs) → All (GoodWhole P G) (rests p σ t).0
  rests-good [] h σ = tt
  rests-good (s ∷ t) h σ = (rest-good s h.0 σ, rests-good t h.1 (repRest p σ s).1)

  -- Replacement leaves the registers as they are.
  pub script-quiet : (t : Script) → All (Whole u) t → (σ : Regs) → (repScript p σ t).1 ≡ σ
  script-quiet t h σ = let x = firsts p σ t in rests-quiet x.0 (firsts-half t h σ) x.1 ∙ firsts-quiet t h σ

  pub script-good : (t : Script) → All (Whole u) t → (σ : Regs) → All (GoodWhole P G) (repScript p σ t).0
  script-good t h σ = let x = firsts p σ t in rests-good x.0 (firsts-half t h σ) x.1

-- What is good of every statement is good of those that are read.
module _ (P : Instruction → Type 0) (G : ℕ → Type 0) where
  whole-good : (s : Stmts) → GoodWhole P G s → Good P G s
  whole-good nil g = tt
  whole-good (plain o s) g = (g.0, whole-good s g.1)
  whole-good (goto o r s) g = (g.0, g.1)
  whole-good (ite o c t f s) g = (g.0, g.1, whole-good t g.2, whole-good f g.3, whole-good s g.4)

  pub tree-good : (t : Script) → All (GoodWhole P G) t → GoodTree P G t
  tree-good [] g = tt
  tree-good (s ∷ t) g = (whole-good s g.0, tree-good t g.1)
