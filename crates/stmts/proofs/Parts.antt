-- The sections of a statement are its own and those of the lists that it holds. Assumes nothing.
use mathlib.Core.Path.{◌≡◌, refl, sym, ap, ◌∙◌}
use mathlib.Core.Bool.{Bool, true, false}
use mathlib.Core.List.{List, [], ◌∷◌, ◌++◌, append-nil}
use Prim.Native.Nat.{ℕ, suc, ◌+◌}
use native.Mathlib.Numerals.{add-one}
use native.Mathlib.Omega.{arith}
use Rattle.rules.specs.Tree.{Block, end, ite, assign, Expr, Assignop, ofBlock, statement, node, both, emptyTally}
use Rattle.rules.specs.Instr.{Instruction}
use Rattle.rules.specs.Machine.{section, line}
use Rattle.rules.specs.Script.{Stmts, nil, isNil}
use Rattle.rules.specs.Assemble.{stmtSections, ownCode, inner, link, orOne, sectionsMade, orEmpty}
use Rattle.rules.specs.CodegenData.{CodegenData, scoped}
use Rattle.rules.specs.Operators.{codegenIncdec}
use Rattle.rules.specs.Annotate.{annotateStmts, condition, lineNumber, codegenFromAssign}
use Rattle.bounds.specs.Lengths.{length-low, length-orEmpty}
use Rattle.nodes.specs.Width.{width, orOne as orOneN}
use Rattle.nodes.specs.Words.{iteKind}
use Rattle.nodes.proofs.Blocks.{tag}
use Rattle.codegen.specs.declared.state.Counters.{Counters}
use Rattle.codegen.specs.Does.{Lent}
use Rattle.stmts.specs.Makes.{Makes, Stored, made, nothing, jump}
use Rattle.stmts.specs.Lists.{only, isEnd, Lists, Branch}
use Rattle.stmts.specs.Parts.{own, ownSection, bare, inside, insideSections, insideTally, Owns, Insides}
use Rattle.stmts.proofs.Lists.{wrote-none, wrote-one, wrote-more, nil-same, or-width}

-- ---- what the parts count

pub record OneParts (x : Block) : Type 0 where
  pub nodes : (ofBlock x).nodes ≡ (ofBlock (bare x)).nodes + (insideTally x).nodes
  pub strings : (ofBlock x).strings ≡ (ofBlock (bare x)).strings + (insideTally x).strings
  pub characters : (ofBlock x).characters ≡ (ofBlock (bare x)).characters + (insideTally x).characters

pub one-parts : (x : Block) → OneParts (only x)
unfolding only bare insideTally ofBlock statement node both emptyTally
one-parts end = record { nodes = refl; strings = refl; characters = refl }
one-parts (Block.goto e xs) = record { nodes = omega arith; strings = omega arith; characters = omega arith }
one-parts (ite c t f xs) = record { nodes = omega arith; strings = omega arith; characters = omega arith }
one-parts (Block.incdec i x xs) = record { nodes = omega arith; strings = omega arith; characters = omega arith }
one-parts (assign x o e xs) = record { nodes = omega arith; strings = omega arith; characters = omega arith }

-- what is no Ite holds nothing
pub none-inside : (x : Block) → (tag x + 8 ≡ iteKind → ⊥) → ((insideTally x).strings ≡ 0) × ((insideTally x).characters ≡ 0)
unfolding insideTally tag emptyTally
none-inside end h = (refl, refl)
none-inside (Block.goto e xs) h = (refl, refl)
none-inside (ite v x y xs) h = absurd (h refl)
none-inside (Block.incdec i x xs) h = (refl, refl)
none-inside (assign x o e xs) h = (refl, refl)

pub record IteInside (x y b : Block) : Type 0 where
  pub nodes : (insideTally b).nodes ≡ (ofBlock x).nodes + (ofBlock y).nodes
  pub strings : (insideTally b).strings ≡ (ofBlock x).strings + (ofBlock y).strings
  pub characters : (insideTally b).characters ≡ (ofBlock x).characters + (ofBlock y).characters

pub ite-inside : (e : Expr) (x y b : Block) → b ≡ ite e x y end → IteInside x y b
unfolding insideTally both
ite-inside e x y b q = rw q (record { nodes = refl; strings = refl; characters = refl })

-- ---- own sections

pub owns-goto : {m : ℕ} (v : Expr) {s l : Bool} {n k slot : ℕ} {c c' : Counters} {t t' : Lent} {se se' : List ℕ} → Makes m (lineNumber v) s nothing line slot c t t' se se' c' → Owns m (Block.goto v end) s l n k slot c t t' se se' c'
unfolding own ownSection
owns-goto v a = record { from = λ e b g r. let u = a.from e b g r in record { regs = u.regs; stored = u.stored } }

pub owns-step : {m : ℕ} (i : Bool) (x : ℕ) {s l : Bool} {n k slot : ℕ} {c c' : Counters} {t t' : Lent} {se se' : List ℕ} → Makes m (codegenIncdec i x) s nothing (λ _. link l k) slot c t t' se se' c' → Owns m (Block.incdec i x end) s l n k slot c t t' se se' c'
unfolding own ownSection
owns-step i x a = record { from = λ e b g r. let u = a.from e b g r in record { regs = u.regs; stored = u.stored } }

pub owns-assign : {m : ℕ} (x : ℕ) (o : Assignop) (v : Expr) {s l : Bool} {n k slot : ℕ} {c c' : Counters} {t t' : Lent} {se se' : List ℕ} → Makes m (codegenFromAssign x o v) s nothing (λ _. link l k) slot c t t' se se' c'
    → Owns m (assign x o v end) s l n k slot c t t' se se' c'
unfolding own ownSection
owns-assign x o v a = record { from = λ e b g r. let u = a.from e b g r in record { regs = u.regs; stored = u.stored } }

pub owns-ite : {m : ℕ} (v : Expr) (x y : Block) {s l z : Bool} {n n1 nf k slot : ℕ} {c c' : Counters} {t t' : Lent} {se se' : List ℕ}
    → n1 ≡ suc n → z ≡ isEnd x → nf ≡ n1 + orOneN (width x) → Makes m (condition v) s (jump z n1) (λ _. section nf) slot c t t' se se' c' → Owns m (ite v x y end) s l n k slot c t t' se se' c'
unfolding own ownSection
owns-ite v x y p q r a = record { from = λ e b g s. let u = (rw (q, r, p) at a).from e b g s in record { regs = u.regs; stored = u.stored } }

-- ---- the lists inside

pub inside-none : {m : ℕ} (x : Block) {l : Bool} {n k : ℕ} {c : Counters} {t : Lent} {se : List ℕ} → (tag x + 8 ≡ iteKind → ⊥) → Insides m x l n k c t t se se c
unfolding inside insideSections tag
inside-none end h = record { from = λ e b g q. record { regs = q; wrote = wrote-none } }
inside-none (Block.goto v xs) h = record { from = λ e b g q. record { regs = q; wrote = wrote-none } }
inside-none (ite v x y xs) h = absurd (h refl)
inside-none (Block.incdec i x xs) h = record { from = λ e b g q. record { regs = q; wrote = wrote-none } }
inside-none (assign x o v xs) h = record { from = λ e b g q. record { regs = q; wrote = wrote-none } }

pub inside-ite : {m : ℕ} (v : Expr) (x y : Block) {l : Bool} {n n1 k nf nj : ℕ} {c c1 c2 : Counters} {t t1 t2 : Lent} {se se1 se2 se3 : List ℕ}
    → n1 ≡ suc n → nf ≡ n1 + orOneN (width x) → nj ≡ nf + orOneN (width y)
    → Branch m x n1 nj c t t1 se se1 c1 → Branch m y nf nj c1 t1 t2 se1 se2 c2
    → Stored (inner [] (link l k)) nj c2.at c2.at t2.instrs t2.instrs se2 se3 → Insides m (ite v x y end) l n k c t t2 se se3 c2
unfolding inside insideSections
inside-ite v x y {l} {n} {n1} {k} {nf} {nj} o p q u w s =
    record {
      from = λ e b g r.
          let u1 = u.from e b g r in
          let g2 = (annotateStmts x g).1 in
          let w1 = w.from e b g2 u1.regs in
          let s1 = (annotateStmts x g).0 in
          let s2 = (annotateStmts y g2).0 in
          let p1 : n1 + orOne s1 (sectionsMade s1) ≡ nf = ap (λ (i : ℕ). n1 + i) (or-width x g) ∙ sym p in
          let q1 : nf + orOne s2 (sectionsMade s2) ≡ nj = ap (λ (i : ℕ). nf + i) (or-width y g2) ∙ sym q in
          record {
            regs = w1.regs;
            wrote = rw (← o, ← p, ← q)
                (wrote-more u1.wrote (sym p1 ∙ ap (λ (i : ℕ). n1 + i) (sym (length-orEmpty s1 nj (stmtSections true e n1 nj s1) (length-low true e n1 nj s1))))
                (wrote-more w1.wrote (sym q1 ∙ ap (λ (i : ℕ). nf + i) (sym (length-orEmpty s2 nj (stmtSections true e nf nj s2) (length-low true e nf nj s2)))) (wrote-one s)));
          };
    }

-- ---- one statement is its own section and those inside

ite-sections : (l : Bool) (e n k nf nj : ℕ) (o : List Instruction) (r : ℕ) (x y : Stmts) (z : Bool) → isNil x ≡ z → suc n + orOne x (sectionsMade x) ≡ nf → nf + orOne y (sectionsMade y) ≡ nj
    → stmtSections l e n k (Stmts.ite o r x y nil) ≡ (made false (jump z (suc n)) (λ _. section nf) e (o, r) ∷ []) ++ (orEmpty x nj (stmtSections true e (suc n) nj x) ++ (orEmpty y nj (stmtSections true e nf nj y) ++ (inner [] (link l k) ∷ [])))
ite-sections l e n k nf nj o r x y z h p q = rw (← q, ← p, ← h)

pub own-sections : (l : Bool) (e n k : ℕ) (x : Block) (g : CodegenData) → isEnd x ≡ false
    → stmtSections l e n k (annotateStmts (only x) g).0 ≡ ownSection false l e n k (only x) (own (only x) g).0 ∷ insideSections l e n k (only x) (inside (only x) (own (only x) g).1).0
unfolding annotateStmts only own ownSection inside insideSections
own-sections l e n k end g h = absurd (let z : ◌≡◌ {A = ℕ} 0 1 = cc in omega arith)
own-sections l e n k (Block.goto v xs) g h = ap (λ (c : List Instruction). inner c (line (scoped (lineNumber v) g).0.1) ∷ []) (sym (append-nil (ownCode e (scoped (lineNumber v) g).0.0)))
own-sections l e n k (ite v x y xs) g h =
    let g1 = (scoped (condition v) g).1 in
    let g2 = (annotateStmts x g1).1 in
    ite-sections l e n k (suc n + orOneN (width x)) (suc n + orOneN (width x) + orOneN (width y)) (scoped (condition v) g).0.0 (scoped (condition v) g).0.1 (annotateStmts x g1).0 (annotateStmts y g2).0 (isEnd x) (nil-same x g1)
    (ap (λ (i : ℕ). suc n + i) (or-width x g1)) (ap (λ (i : ℕ). suc n + orOneN (width x) + i) (or-width y g2))
own-sections l e n k (Block.incdec i x xs) g h = ap (λ (c : List Instruction). inner c (link l k) ∷ []) (sym (append-nil (ownCode e (scoped (codegenIncdec i x) g).0.0)))
own-sections l e n k (assign x o v xs) g h = ap (λ (c : List Instruction). inner c (link l k) ∷ []) (sym (append-nil (ownCode e (scoped (codegenFromAssign x o v) g).0.0)))

-- and its state
pub own-state : (x : Block) (g : CodegenData) → (annotateStmts (only x) g).1 ≡ (inside (only x) (own (only x) g).1).1
unfolding annotateStmts only own inside
own-state end g = refl
own-state (Block.goto v xs) g = refl
own-state (ite v x y xs) g = refl
own-state (Block.incdec i x xs) g = refl
own-state (assign x o v xs) g = refl

pub lists-one : {m : ℕ} (x : Block) {l : Bool} {n k : ℕ} {c c1 c2 : Counters} {t t1 t2 : Lent} {se se1 se2 : List ℕ}
    → only x ≡ x → isEnd x ≡ false → Owns m x false l n k n c t t1 se se1 c1 → Insides m x l n k c1 t1 t2 se1 se2 c2 → Lists m x l n k c t t2 se se2 c2
lists-one x {l} {n} {k} h s a i =
    record {
      from = λ e b g r.
          let u = a.from e b g r in
          let v = i.from e b (own x g).1 u.regs in
          let ss : stmtSections l e n k (annotateStmts x g).0 ≡ (ownSection false l e n k x (own x g).0 ∷ []) ++ insideSections l e n k x (inside x (own x g).1).0 = rw h at (own-sections l e n k x g s) in
          let gs : (annotateStmts x g).1 ≡ (inside x (own x g).1).1 = rw h at (own-state x g) in
          record { regs = rw gs v.regs; wrote = rw ss (wrote-more (wrote-one u.stored) (sym (add-one n)) v.wrote) };
    }
