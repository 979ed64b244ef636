-- A line's sections, made of its first statement's own section, of the lists inside it and of the other statements. Assumes nothing.
use mathlib.Core.Path.{◌≡◌, refl, sym, ap, ◌∙◌}
use mathlib.Core.Bool.{Bool, true, false, cond}
use mathlib.Core.List.{List, [], ◌∷◌, ◌++◌, map}
use Prim.Native.Nat.{ℕ, suc, ◌+◌, ◌-◌, ◌*◌, ◌≤◌}
use native.Mathlib.Numerals.{add-one}
use native.Mathlib.Omega.{arith}
use lib.ListN.{length, set}
use lib.Seq.{sets}
use Rattle.rules.specs.Constants.{instrsANode}
use Rattle.rules.specs.Tree.{Block, end, ite, assign, ofBlock, statement, node, both, emptyTally}
use Rattle.rules.specs.Instr.{Instruction}
use Rattle.rules.specs.Word.{insWord, runWord}
use Rattle.rules.specs.Machine.{SectionCode, section, absent}
use Rattle.rules.specs.Tables.{runWords, allCode, runOf}
use Rattle.rules.specs.Assemble.{stmtSections, sectionsMade, entry, asStart}
use Rattle.rules.specs.CodegenData.{CodegenData}
use Rattle.rules.specs.Annotate.{annotateStmts}
use Rattle.bounds.specs.Lengths.{length-low}
use Rattle.nodes.specs.Width.{width}
use Rattle.codegen.specs.declared.state.Counters.{Counters}
use Rattle.codegen.specs.Does.{Lent}
use Rattle.exprs.proofs.Trees.{expr-most}
use Rattle.stmts.specs.Makes.{Regs, Stored, placed}
use Rattle.stmts.specs.Lists.{Wrote, only, rest, onward, onwardB, isEnd, Lists}
use Rattle.stmts.specs.Parts.{own, ownSection, inside, insideSections, insideTally, ownCost, Owns, Insides}
use Rattle.stmts.proofs.Makes.{assign-most, jump-cost-most, regs-moved}
use Rattle.stmts.proofs.Lists.{wrote-one, wrote-more, annotate-first, sections-first, single, onward-same, nil-same, made-width, wrote-none, stored-empty}
use Rattle.stmts.proofs.Parts.{own-sections, own-state}
use Rattle.line.specs.Lines.{innerNodes, Parted, LineWent}

-- ---- what parts count

pub inner-only : (x : Block) → innerNodes x ≡ (insideTally (only x)).nodes + (ofBlock (rest x)).nodes
unfolding only rest insideTally innerNodes
inner-only end = refl
inner-only (Block.goto e xs) = refl
inner-only (ite c t f xs) = refl
inner-only (Block.incdec i x xs) = refl
inner-only (assign x o e xs) = refl

-- own instructions are at most 9 a node of their own
pub own-most : (x : Block) → ownCost x + instrsANode * innerNodes x ≤ instrsANode * (ofBlock x).nodes
unfolding ownCost rest insideTally innerNodes ofBlock statement node both emptyTally
own-most end = omega arith
own-most (Block.goto e xs) = let h = expr-most e in omega arith
own-most (ite c t f xs) = let h = expr-most c in let j = jump-cost-most (isEnd t) in omega arith
own-most (Block.incdec i x xs) = omega arith
own-most (assign x o e xs) = let h = expr-most e in let j = assign-most o in omega arith

-- ---- a line

-- a run of sections in one place, then one in another
pub parted : {hs ts : List SectionCode} {line n head at head' at' : ℕ} {is is1 is2 se se1 se2 : List ℕ} → Wrote hs line head head' is is1 se se1 → Wrote ts n at at' is1 is2 se1 se2 → Parted hs ts line n head at head' at' is is2 se se2
parted {hs} {ts} {n = n} {at = at} x y =
    record {
      code = y.code ∙ ap (λ l. sets l at (map insWord (allCode ts))) x.code;
      heads-end = x.ends;
      tails-end = y.ends;
      words = y.words ∙ ap (λ l. sets l n (runWords at ts)) x.words;
    }

-- an empty line
pub line-none : {m line n head : ℕ} {c : Counters} {t : Lent} {se se' : List ℕ} → se' ≡ set se line (runWord (runOf true (section c.err.0) head (head - head)))
    → (e : ℕ) (b : Lent) (g : CodegenData) → Regs m e b c t g → LineWent m e line n head head b c t t se se' c (annotateStmts end g)
unfolding annotateStmts
line-none {line = line} {n} {head} {c} {t} {se} {se'} w e b g q =
    record {
      regs = q;
      parted = parted (wrote-one (stored-empty (rw q.err at w) refl)) wrote-none;
    }

-- a line's first section is the statement's own, as a line start
own-start : (l : Bool) (e n k : ℕ) (x : Block) (p : List Instruction × ℕ) → ownSection true l e n k x p ≡ asStart (ownSection false l e n k x p)
unfolding ownSection
own-start l e n k end p = refl
own-start l e n k (Block.goto v xs) p = refl
own-start l e n k (ite v x y xs) p = refl
own-start l e n k (Block.incdec i x xs) p = refl
own-start l e n k (assign x o v xs) p = refl

-- the sections of a line: the first statement's own, those inside it, and the others'
line-sections : (e n k h n' : ℕ) (l' : Bool) (x : Block) (g : CodegenData) → isEnd x ≡ false → n' ≡ n + width (only x) → l' ≡ onwardB true x → h ≡ cond (isEnd (rest x)) k n'
    → stmtSections true e n k (annotateStmts x g).0
    ≡ ownSection false true e n h (only x) (own (only x) g).0 ∷ (insideSections true e n h (only x) (inside (only x) (own (only x) g).1).0 ++ stmtSections l' e n' k (annotateStmts (rest x) (annotateStmts (only x) g).1).0)
line-sections e n k h n' l' x g s p q r =
    let a = (annotateStmts (only x) g).0 in
    let z = (annotateStmts (rest x) (annotateStmts (only x) g).1).0 in
    let w : n + sectionsMade a ≡ n' = ap (λ (i : ℕ). n + i) (made-width (only x) g) ∙ sym p in
    let o : onward true a ≡ l' = onward-same true x g ∙ sym q in
    let f : entry z n' k ≡ h = ap (λ (i : Bool). cond i k n') (nil-same (rest x) (annotateStmts (only x) g).1) ∙ sym r in
    ap (λ y. stmtSections true e n k y.0) (annotate-first x g)
    ∙ (sections-first true e n k a z (single x g s)
    ∙ rw (w, o, f) (ap (λ (y : List SectionCode). y ++ stmtSections l' e n' k z) (own-sections true e n h x g s)))

pub line-more : {m : ℕ} (x : Block) {line n n' h head : ℕ} {l' : Bool} {c d f r : Counters} {t t1 t2 t3 : Lent} {se se1 se2 se3 se4 : List ℕ}
    → isEnd x ≡ false → n' ≡ n + width (only x) → l' ≡ onwardB true x → h ≡ cond (isEnd (rest x)) c.err.0 n'
    → Owns m (only x) true true n h line (placed c head) t t1 se se1 d
    → Stored absent n c.at c.at t1.instrs t1.instrs se1 se2
    → Insides m (only x) true n h (placed d c.at) t1 t2 se2 se3 f
    → Lists m (rest x) l' n' c.err.0 f t2 t3 se3 se4 r
    → (e : ℕ) (b : Lent) (g : CodegenData) → Regs m e b c t g → LineWent m e line n head d.at b c t t3 se se4 r (annotateStmts x g)
line-more {m} x {line} {n} {n'} {h} {head} {l'} {c} {d} {f} {r} {t} {t1} {t2} {t3} {se} {se1} {se2} {se3} {se4} s p q o a pl i z e b g y =
    let u = a.from e b g (regs-moved head c.err y.err y) in
    let g1 = (own (only x) g).1 in
    let v = i.from e b g1 (regs-moved c.at d.err u.regs.err u.regs) in
    let g2 = (annotateStmts (only x) g).1 in
    let w = z.from e b g2 (rw (own-state x g) v.regs) in
    let own0 = (own (only x) g).0 in
    let ins = insideSections true e n h (only x) (inside (only x) g1).0 in
    let rs = stmtSections l' e n' c.err.0 (annotateStmts (rest x) g2).0 in
    let ss = line-sections e n c.err.0 h n' l' x g s p q o in
    let len : n' ≡ suc n + length ins =
    let k1 = length-low true e n h (annotateStmts (only x) g).0 in
    let k2 = made-width (only x) g in
    let k3 = ap (λ (k : List SectionCode). length k) (own-sections true e n h x g s) in
    omega (arith, k1, k2, k3, p) in
    let tw : Wrote ((absent ∷ []) ++ (ins ++ rs)) n c.at r.at t1.instrs t3.instrs se1 se4 =
    wrote-more (wrote-one pl) (sym (add-one n)) (wrote-more v.wrote len w.wrote) in
    let hw : Wrote (ownSection true true e n h (only x) own0 ∷ []) line head d.at t.instrs t1.instrs se se1 = wrote-one u.stored in
    let se : stmtSections true e n e (annotateStmts x g).0 ≡ ownSection false true e n h (only x) own0 ∷ (ins ++ rs) = ap (λ (k : ℕ). stmtSections true e n k (annotateStmts x g).0) (sym y.err) ∙ ss in
    record {
      regs = rw (annotate-first x g) w.regs;
      parted = rw se (rw (own-start true e n h (only x) own0) at (parted hw tw));
    }
