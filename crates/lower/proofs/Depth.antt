-- A parsed tree is nested no deeper than the limit of depth: the lists that an Ite holds are read with less depth left. Assumes nothing.
use mathlib.Core.Path.{◌≡◌, subst}
use mathlib.Core.List.{List, [], ◌∷◌}
use Prim.Native.Nat.{ℕ, zero, suc, max, ◌≤◌}
use native.Mathlib.Omega.{arith}
use lib.Dec.{ltb, eqb}
use lib.ListN.{get_or}
use Rattle.rules.specs.Refusal as Refusal
use Rattle.rules.specs.Bits.{ok, isOne}
use Rattle.rules.specs.Constants.{mostDepth, headBits, nameBits, flagBits, listBits, stmtKindBits, form}
use Rattle.rules.specs.Tree.{Tree, Expr, Block, goto, ite, assign, end}
use Rattle.rules.specs.Parse.{Reader, At, succeed, refuse, ◌>>=◌, demand, bits, begin, many, block, operator, assignops, nameOf}
use Rattle.rules.specs.Parse.{gotoOf, iteOf, stepOf, assignOf, stmtKinds, expr, stmt, names, fill, lineBlock, body, file, parse}
use Rattle.bounds.specs.Parsed.{refused≢ok, passed, parsed}
use Rattle.bounds.specs.Limits.{succeed-is}
use Rattle.stmts.specs.Lists.{deep}
use Rattle.program.specs.Script.{deepest}

-- what puts a statement before a list makes it d deep, if it is not deeper
abbrev Within : ℕ → (Block → Block) × At → Type 0
Within d x = (b : Block) → deep (x.0 b) ≤ max d (deep b)

abbrev Shallow : ℕ → Reader (Block → Block) → List ℕ → Type 0
Shallow d q s = (a : At) (x : (Block → Block) × At) → q s a ≡ ok x → Within d x

block-deep : (d n : ℕ) (q : Reader (Block → Block)) (s : List ℕ) → Shallow d q s → (a : At) (x : Block × At) → block n q s a ≡ ok x → deep x.0 ≤ d
unfolding block deep
block-deep d zero q s h a x e = subst (λ (z : Block × At). deep z.0 ≤ d) (succeed-is end s a x e) (omega arith)
block-deep d (suc n) q s h a x e =
    let p = passed q (λ f. block n q >>= λ b. succeed (f b)) s a x e in
    let r = passed (block n q) (λ b. succeed (p.val b)) s p.at x p.follows in
    let i = h a (p.val, p.at) p.here r.val in
    let j = block-deep d n q s h p.at (r.val, r.at) r.here in
    subst (λ (z : Block × At). deep z.0 ≤ d) (succeed-is (p.val r.val) s r.at x r.follows) (omega (arith, i, j))

-- ---- kinds of statements

module _ (s : List ℕ) (n d : ℕ) (r : Reader Expr) (q : Reader (Block → Block)) (g : Shallow d q s) (a : At) (x : (Block → Block) × At) where
  goto-deep : gotoOf r s a ≡ ok x → Within (suc d) x
  unfolding gotoOf deep
  goto-deep e =
      let p = passed r (λ v. succeed (goto v)) s a x e in
      subst (Within (suc d)) (succeed-is (goto p.val) s p.at x p.follows) (λ b. omega arith)

  ite-deep : iteOf r q s a ≡ ok x → Within (suc d) x
  unfolding iteOf deep
  ite-deep e =
      let p₁ = passed r (λ c. bits listBits >>= λ i. block i q >>= λ t. bits listBits >>= λ j. block j q >>= λ u. succeed (ite c t u)) s a x e in
      let c = p₁.val in
      let p₂ = passed (bits listBits) (λ i. block i q >>= λ t. bits listBits >>= λ j. block j q >>= λ u. succeed (ite c t u)) s p₁.at x p₁.follows in
      let p₃ = passed (block p₂.val q) (λ t. bits listBits >>= λ j. block j q >>= λ u. succeed (ite c t u)) s p₂.at x p₂.follows in
      let t = p₃.val in
      let p₄ = passed (bits listBits) (λ j. block j q >>= λ u. succeed (ite c t u)) s p₃.at x p₃.follows in
      let p₅ = passed (block p₄.val q) (λ u. succeed (ite c t u)) s p₄.at x p₄.follows in
      let i = block-deep d p₂.val q s g p₂.at (t, p₃.at) p₃.here in
      let j = block-deep d p₄.val q s g p₄.at (p₅.val, p₅.at) p₅.here in
      subst (Within (suc d)) (succeed-is (ite c t p₅.val) s p₅.at x p₅.follows) (λ b. omega (arith, i, j))

  step-deep : stepOf n s a ≡ ok x → Within (suc d) x
  unfolding stepOf deep
  step-deep e =
      let p = passed (bits flagBits) (λ i. nameOf n >>= λ y. succeed (Block.incdec (isOne i) y)) s a x e in
      let w = passed (nameOf n) (λ y. succeed (Block.incdec (isOne p.val) y)) s p.at x p.follows in
      subst (Within (suc d)) (succeed-is (Block.incdec (isOne p.val) w.val) s w.at x w.follows) (λ b. omega arith)

  assign-deep : assignOf n r s a ≡ ok x → Within (suc d) x
  unfolding assignOf deep
  assign-deep e =
      let p₁ = passed (nameOf n) (λ y. operator 3 assignops >>= λ o. r >>= λ v. succeed (assign y o v)) s a x e in
      let p₂ = passed (operator 3 assignops) (λ o. r >>= λ v. succeed (assign p₁.val o v)) s p₁.at x p₁.follows in
      let p₃ = passed r (λ v. succeed (assign p₁.val p₂.val v)) s p₂.at x p₂.follows in
      subst (Within (suc d)) (succeed-is (assign p₁.val p₂.val p₃.val) s p₃.at x p₃.follows) (λ b. omega arith)

  kind-deep : (k : ℕ) → get_or (stmtKinds n r q) k (refuse Refusal.unassigned) s a ≡ ok x → Within (suc d) x
  unfolding stmtKinds refuse
  kind-deep zero e = goto-deep e
  kind-deep (suc zero) e = ite-deep e
  kind-deep (suc (suc zero)) e = step-deep e
  kind-deep (suc (suc (suc zero))) e = assign-deep e
  kind-deep (suc (suc (suc (suc k)))) e = absurd (refused≢ok Refusal.unassigned x e)

stmt-deep : (s : List ℕ) (n d : ℕ) → Shallow d (stmt n d) s
unfolding stmt refuse
stmt-deep s n zero a x e = absurd (refused≢ok 7 x e)
stmt-deep s n (suc d) a x e =
    let p = passed begin (λ z. bits stmtKindBits >>= λ k. get_or (stmtKinds n (expr n d) (stmt n d)) k (refuse Refusal.unassigned)) s a x e in
    let w = passed (bits stmtKindBits) (λ k. get_or (stmtKinds n (expr n d) (stmt n d)) k (refuse Refusal.unassigned)) s p.at x p.follows in
    kind-deep s n d (expr n d) (stmt n d) (stmt-deep s n d) w.at x w.val w.follows

-- ---- lines

line-deep : (s : List ℕ) (n : ℕ) (a : At) (x : Block × At) → lineBlock n s a ≡ ok x → deep x.0 ≤ mostDepth
unfolding lineBlock
line-deep s n a x e =
    let p = passed (bits listBits) (λ c. block c (stmt n mostDepth)) s a x e in
    block-deep mostDepth p.val (stmt n mostDepth) s (stmt-deep s n mostDepth) p.at x p.follows

lines-deep : (s : List ℕ) (n l : ℕ) (a : At) (x : List Block × At) → many l (lineBlock n) s a ≡ ok x → deepest x.0 ≤ mostDepth
unfolding many deepest
lines-deep s n zero a x e = subst (λ (z : List Block × At). deepest z.0 ≤ mostDepth) (succeed-is [] s a x e) (omega arith)
lines-deep s n (suc l) a x e =
    let p = passed (lineBlock n) (λ v. many l (lineBlock n) >>= λ vs. succeed (v ∷ vs)) s a x e in
    let q = passed (many l (lineBlock n)) (λ vs. succeed (p.val ∷ vs)) s p.at x p.follows in
    let i = line-deep s n a (p.val, p.at) p.here in
    let j = lines-deep s n l p.at (q.val, q.at) q.here in
    subst (λ (z : List Block × At). deepest z.0 ≤ mostDepth) (succeed-is (p.val ∷ q.val) s q.at x q.follows) (omega (arith, i, j))

-- ---- the file

body-deep : (l n : ℕ) (s : List ℕ) (a : At) (x : Tree × At) → body l n s a ≡ ok x → deepest x.0.lines ≤ mostDepth
unfolding body
body-deep l n s a x e =
    let p = passed (names n []) (λ t. many l (lineBlock n) >>= λ b. fill >>= λ z. succeed (record { names = t; lines = b })) s a x e in
    let q = passed (many l (lineBlock n)) (λ b. fill >>= λ z. succeed (record { names = p.val; lines = b })) s p.at x p.follows in
    let w = passed fill (λ z. succeed (record { names = p.val; lines = q.val })) s q.at x q.follows in
    subst (λ (z : Tree × At). deepest z.0.lines ≤ mostDepth) (succeed-is (record { names = p.val; lines = q.val }) s w.at x w.follows) (lines-deep s n l p.at (q.val, q.at) q.here)

file-deep : (s : List ℕ) (a : At) (x : Tree × At) → file s a ≡ ok x → deepest x.0.lines ≤ mostDepth
unfolding file
file-deep s a x e =
    let p₁ = passed (bits headBits) (λ f. demand (eqb f form) Refusal.otherForm >>= λ z. bits headBits >>= λ l. demand (ltb 0 l) Refusal.zeroLines >>= λ y. bits nameBits >>= λ n. body l n) s a x e in
    let p₂ = passed (demand (eqb p₁.val form) Refusal.otherForm) (λ z. bits headBits >>= λ l. demand (ltb 0 l) Refusal.zeroLines >>= λ y. bits nameBits >>= λ n. body l n) s p₁.at x p₁.follows in
    let p₃ = passed (bits headBits) (λ l. demand (ltb 0 l) Refusal.zeroLines >>= λ y. bits nameBits >>= λ n. body l n) s p₂.at x p₂.follows in
    let p₄ = passed (demand (ltb 0 p₃.val) Refusal.zeroLines) (λ y. bits nameBits >>= λ n. body p₃.val n) s p₃.at x p₃.follows in
    let p₅ = passed (bits nameBits) (λ n. body p₃.val n) s p₄.at x p₄.follows in
    body-deep p₃.val p₅.val s p₅.at x p₅.follows

pub deep-parsed : (s : List ℕ) (t : Tree) → parse s ≡ ok t → deepest t.lines ≤ mostDepth
deep-parsed s t e = let p = parsed s t e in file-deep s (record { pos = 0; nodes = 0 }) (t, p.at) p.is
