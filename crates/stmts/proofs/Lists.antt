-- Lists of statements: the first one, and the others. Assumes nothing.
use mathlib.Core.Path.{◌≡◌, refl, sym, ap, ◌∙◌}
use mathlib.Core.Bool.{Bool, true, false, cond}
use mathlib.Core.List.{List, [], ◌∷◌, ◌++◌, map, append_assoc, append-nil}
use Prim.Native.Nat.{ℕ, suc, ◌+◌, ◌-◌, ◌≤◌, max}
use native.Mathlib.Nat.{add-zero}
use native.Mathlib.Numerals.{add-one}
use native.Mathlib.Omega.{arith}
use lib.ListN.{length, set, length-append}
use Rattle.rules.specs.Word.{insWord, runWord}
use Rattle.rules.specs.Tree.{Block, end, ite, assign, Tally, both}
use Rattle.rules.specs.Machine.{SectionOrLine, section, SectionCode}
use Rattle.rules.specs.Tables.{runWords, allCode, runOf}
use Rattle.rules.specs.Script.{Stmts, nil, plain, isNil}
use Rattle.rules.specs.Assemble.{orOne, sectionsMade, entry, link, inner, orEmpty, stmtSections, ownCode, condCode}
use Rattle.rules.specs.CodegenData.{CodegenData, scoped}
use Rattle.rules.specs.Annotate.{annotateStmts, condition}
use Rattle.bounds.specs.Lengths.{length-low}
use Rattle.nodes.specs.Width.{width, orOne as orOneN}
use Rattle.codegen.specs.declared.state.Counters.{Counters}
use Rattle.codegen.specs.Does.{Lent}
use Rattle.laws.specs.Stores.{sets-sets}
use Rattle.laws.specs.Sections.{code-append, words-append, words-length}
use Rattle.std.proofs.lemmas.List.{map-append, length-map}
use Rattle.stmts.specs.Makes.{Stored}
use Rattle.stmts.specs.Lists.{Wrote, only, rest, before, onward, onwardB, isEnd, Single, Lists, Branch, GrewAll}

-- ---- sections in the tables

pub wrote-none : {n k : ℕ} {is se : List ℕ} → Wrote [] n k k is is se se
unfolding allCode runWords
wrote-none {k = k} = record { code = refl; ends = sym (add-zero k); words = refl }

pub wrote-one : {s : SectionCode} {n k k' : ℕ} {is is' se se' : List ℕ} → Stored s n k k' is is' se se' → Wrote (s ∷ []) n k k' is is' se se'
unfolding allCode runWords
wrote-one {s} r = record { code = rw append-nil r.code; ends = rw append-nil r.ends; words = r.word }

-- one run of sections behind another
pub wrote-more : {a b : List SectionCode} {n n1 k k1 k2 : ℕ} {is is1 is2 se se1 se2 : List ℕ} → Wrote a n k k1 is is1 se se1 → n1 ≡ n + length a → Wrote b n1 k1 k2 is1 is2 se1 se2 → Wrote (a ++ b) n k k2 is is2 se se2
wrote-more {a} {b} {n} {n1} {k} {k1} {k2} {is} {is1} {is2} {se} {se1} {se2} x e y =
    record {
      code = rw (y.code, x.code, x.ends, code-append, map-append, ← length-map (allCode a) insWord) (sets-sets (map insWord (allCode a)) is k (map insWord (allCode b)));
      ends = rw (code-append, length-append) (omega (arith, x.ends, y.ends));
      words = rw (y.words, x.words, e, x.ends, words-append, ← words-length k a) (sets-sets (runWords k a) se n (runWords (k + length (allCode a)) b));
    }

-- ---- how far the counters go: two parts of the tree, one after the other

pub grew-both : (k l : Tally) {c c1 c2 : Counters} → GrewAll k c c1 → GrewAll l c1 c2 → GrewAll (both k l) c c2
unfolding both
grew-both k l x y = omega arith

-- ---- the first statement and the others

pub annotate-first : (x : Block) (g : CodegenData)
    → annotateStmts x g ≡ (before (annotateStmts (only x) g).0 (annotateStmts (rest x) (annotateStmts (only x) g).1).0, (annotateStmts (rest x) (annotateStmts (only x) g).1).1)
unfolding annotateStmts only rest
annotate-first end g = refl
annotate-first (Block.goto e xs) g = refl
annotate-first (ite c t f xs) g = refl
annotate-first (Block.incdec i x xs) g = refl
annotate-first (assign x o e xs) g = refl

shape : {A : Type 0} (h : A) (t f : List A) (j : A) (r : List A) → h ∷ (t ++ (f ++ (j ∷ r))) ≡ (h ∷ (t ++ (f ++ (j ∷ [])))) ++ r
shape h t f j r = rw (append_assoc, append_assoc)

-- the sections of a statement before a list
pub sections-first : (l : Bool) (e n k : ℕ) (a s : Stmts) → Single a
    → stmtSections l e n k (before a s) ≡ stmtSections l e n (entry s (n + sectionsMade a) k) a ++ stmtSections (onward l a) e (n + sectionsMade a) k s
sections-first l e n k nil s h = absurd h
sections-first l e n k (plain c z) s h = rw (h, add-one)
sections-first l e n k (Stmts.goto c r z) s h = rw (h, add-one)
sections-first l e n k (Stmts.ite c r t f z) s h =
    let q : n + suc (orOne t (sectionsMade t) + (orOne f (sectionsMade f) + 1)) ≡ suc (suc n + orOne t (sectionsMade t) + orOne f (sectionsMade f)) = omega arith in
    let nf = suc n + orOne t (sectionsMade t) in
    let nj = nf + orOne f (sectionsMade f) in
    rw (h, q)
    (shape (inner (ownCode e c ++ condCode t r (suc n)) (section nf)) (orEmpty t nj (stmtSections true e (suc n) nj t)) (orEmpty f nj (stmtSections true e nf nj f))
    (inner [] (link l (entry s (suc nj) k))) (stmtSections l e (suc nj) k s))

pub single : (x : Block) (g : CodegenData) → isEnd x ≡ false → Single (annotateStmts (only x) g).0
unfolding annotateStmts only
single end g h = absurd (let z : ◌≡◌ {A = ℕ} 0 1 = cc in omega arith)
single (Block.goto e xs) g h = refl
single (ite c t f xs) g h = refl
single (Block.incdec i x xs) g h = refl
single (assign x o e xs) g h = refl

pub onward-same : (l : Bool) (x : Block) (g : CodegenData) → onward l (annotateStmts (only x) g).0 ≡ onwardB l x
unfolding annotateStmts only
onward-same l end g = refl
onward-same l (Block.goto e xs) g = refl
onward-same l (ite c t f xs) g = refl
onward-same l (Block.incdec i x xs) g = refl
onward-same l (assign x o e xs) g = refl

pub nil-same : (x : Block) (g : CodegenData) → isNil (annotateStmts x g).0 ≡ isEnd x
unfolding annotateStmts
nil-same end g = refl
nil-same (Block.goto e xs) g = refl
nil-same (ite c t f xs) g = refl
nil-same (Block.incdec i x xs) g = refl
nil-same (assign x o e xs) g = refl

-- ---- widths

pub some-width : (x : Block) → isEnd x ≡ false → 1 ≤ width x
unfolding width
some-width end h = absurd (let z : ◌≡◌ {A = ℕ} 0 1 = cc in omega arith)
some-width (Block.goto e xs) h = omega arith
some-width (ite c t f xs) h = omega arith
some-width (Block.incdec i x xs) h = omega arith
some-width (assign x o e xs) h = omega arith

one-or : (x : Block) (b : Bool) (n : ℕ) → b ≡ isEnd x → n ≡ width x → cond b 1 n ≡ orOneN (width x)
unfolding orOneN width
one-or x true n p q = go x (sym p)
  where
    go : (y : Block) → isEnd y ≡ true → 1 ≡ max 1 (width y)
    go end h = refl
    go (Block.goto e xs) h = absurd (let z : ◌≡◌ {A = ℕ} 0 1 = cc in omega arith)
    go (ite c t f xs) h = absurd (let z : ◌≡◌ {A = ℕ} 0 1 = cc in omega arith)
    go (Block.incdec i y xs) h = absurd (let z : ◌≡◌ {A = ℕ} 0 1 = cc in omega arith)
    go (assign y o e xs) h = absurd (let z : ◌≡◌ {A = ℕ} 0 1 = cc in omega arith)
one-or x false n p q = let z = some-width x (sym p) in omega arith

pub made-width : (x : Block) (g : CodegenData) → sectionsMade (annotateStmts x g).0 ≡ width x
unfolding annotateStmts width
made-width end g = refl
made-width (Block.goto e xs) g = ap suc (made-width xs _)
made-width (ite c t f xs) g =
    let g1 = (scoped (condition c) g).1 in
    let g2 = (annotateStmts t g1).1 in
    let g3 = (annotateStmts f g2).1 in
    rw (one-or t _ _ (nil-same t g1) (made-width t g1), one-or f _ _ (nil-same f g2) (made-width f g2), made-width xs g3)
made-width (Block.incdec i x xs) g = ap suc (made-width xs _)
made-width (assign x o e xs) g = ap suc (made-width xs _)

pub or-width : (x : Block) (g : CodegenData) → orOne (annotateStmts x g).0 (sectionsMade (annotateStmts x g).0) ≡ orOneN (width x)
or-width x g = one-or x _ _ (nil-same x g) (made-width x g)

-- ---- the laws of contracts

pub lists-none : {m : ℕ} {l : Bool} {n k : ℕ} {c : Counters} {t : Lent} {se : List ℕ} → Lists m end l n k c t t se se c
unfolding annotateStmts
lists-none = record { from = λ e b g q. record { regs = q; wrote = wrote-none } }

-- a statement, then the others: its last section goes on to them, or where the list is left to
pub lists-more : {m : ℕ} (x : Block) {l : Bool} {n n' h k : ℕ} {l' : Bool} {c c1 c2 : Counters} {t t1 t2 : Lent} {se se1 se2 : List ℕ}
    → isEnd x ≡ false → n' ≡ n + width (only x) → l' ≡ onwardB l x → h ≡ cond (isEnd (rest x)) k n'
    → Lists m (only x) l n h c t t1 se se1 c1 → Lists m (rest x) l' n' k c1 t1 t2 se1 se2 c2 → Lists m x l n k c t t2 se se2 c2
lists-more x {l} {n} {n'} {h} {k} {l'} s p q r a z =
    record {
      from = λ e b g y.
          let u = a.from e b g y in
          let v = z.from e b (annotateStmts (only x) g).1 u.regs in
          let w : n + sectionsMade (annotateStmts (only x) g).0 ≡ n' = ap (λ (i : ℕ). n + i) (made-width (only x) g) ∙ sym p in
          let o : onward l (annotateStmts (only x) g).0 ≡ l' = onward-same l x g ∙ sym q in
          let f : entry (annotateStmts (rest x) (annotateStmts (only x) g).1).0 n' k ≡ h = ap (λ (i : Bool). cond i k n') (nil-same (rest x) (annotateStmts (only x) g).1) ∙ sym r in
          rw (annotate-first x g)
          (record {
            regs = v.regs;
            wrote = rw (sections-first l e n k (annotateStmts (only x) g).0 (annotateStmts (rest x) (annotateStmts (only x) g).1).0 (single x g s), w, o, f)
                (wrote-more u.wrote (sym w ∙ ap (λ (i : ℕ). n + i) (sym (length-low l e n h (annotateStmts (only x) g).0))) v.wrote);
          });
    }

-- ---- an Ite

-- a section without instructions
pub stored-empty : {l : Bool} {s : SectionOrLine} {n k : ℕ} {is se se' : List ℕ} {w : ℕ} → se' ≡ set se n w → w ≡ runWord (runOf l s k (k - k)) → Stored (record { lineStart = l; instrs = []; success = s }) n k k is is se se'
stored-empty {n = n} {k = k} {se = se} p q =
    let z : k - k ≡ 0 = omega arith in
    record { code = refl; ends = sym (add-zero k); word = p ∙ ap (λ (v : ℕ). set se n v) (rw z at q) }

pub branch-empty : {m n j : ℕ} {c : Counters} {t : Lent} {se se' : List ℕ} → Stored (inner [] (section j)) n c.at c.at t.instrs t.instrs se se' → Branch m end n j c t t se se' c
unfolding annotateStmts
branch-empty s = record { from = λ e b g q. record { regs = q; wrote = wrote-one s } }

pub branch-list : {m : ℕ} (x : Block) {n j : ℕ} {c c' : Counters} {t t' : Lent} {se se' : List ℕ} → isEnd x ≡ false → Lists m x true n j c t t' se se' c' → Branch m x n j c t t' se se' c'
branch-list x {n} {j} {c} {c'} {t} {t'} {se} {se'} h d =
    record {
      from = λ e b g q.
          let u = d.from e b g q in
          let z : isNil (annotateStmts x g).0 ≡ false = nil-same x g ∙ h in
          record { regs = u.regs; wrote = chosen (isNil (annotateStmts x g).0) _ _ z u.wrote };
    }
  where
    chosen : (y : Bool) (a s : List SectionCode) → y ≡ false → Wrote s n c.at c'.at t.instrs t'.instrs se se' → Wrote (cond y a s) n c.at c'.at t.instrs t'.instrs se se'
    chosen y a s e w = rw e w
