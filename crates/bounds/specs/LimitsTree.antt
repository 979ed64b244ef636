-- What a parsed tree keeps to: its nodes, its lines and names, its characters, and the length of each string.
use Rattle.std.specs.Prelude.{◌≡◌, refl, not, List, [], ◌∷◌, ◌++◌, ltb, eqb, length, get_or}
use Rattle.std.proofs.Common.{ap, arith, length-append}
use Rattle.std.proofs.Math.Path.{subst}
use Prim.Native.Nat.{ℕ, zero, suc, ◌+◌, ◌≤◌, ◌<◌}
use Rattle.rules.specs.Refusal as Refusal
use Rattle.rules.specs.Bits.{ok, isOne}
use Rattle.rules.specs.Tree.{Name, Tree, Expr, Block, Tally, both, node, statement, ofExpr, ofBlock, ofLines, goto, ite, assign, end}
use Rattle.rules.specs.Tree as Tree
use Rattle.rules.specs.Constants.{mostDepth, headBits, nameBits, nameLengthBits, charBits, flagBits, listBits, stmtKindBits, form, mostBytes, mostNodes, mostLines, mostNames}
use Rattle.rules.specs.Parse.{Reader, At, succeed, refuse, ◌>>=◌, demand, bits, begin, many, block, operator, assignops, nameOf}
use Rattle.rules.specs.Parse.{gotoOf, iteOf, stepOf, assignOf, stmtKinds, expr, stmt, known, name, names, fill, lineBlock, body, file, parse}
use Rattle.rules.specs.Preservation.{All}
use Rattle.bounds.specs.Parsed.{refused≢ok, passed, many-length, parsed, some-line}
use Rattle.bounds.specs.Limits.{Reads, reads-seq, reads-here, succeed-is, bits-read, bits-reads, demand-reads, one, begin-reads, operator-reads, name-reads, sum, many-reads, oneChar, char-reads, sum-chars, ShortExpr, Sound, none-left, expr-read}

abbrev pub ShortBlock : Block → Type 0
ShortBlock end = Unit {0}
ShortBlock (goto e s) = ShortExpr e × ShortBlock s
ShortBlock (ite c t e s) = ShortExpr c × ShortBlock t × ShortBlock e × ShortBlock s
ShortBlock (Block.incdec i x s) = ShortBlock s
ShortBlock (assign x o e s) = ShortExpr e × ShortBlock s

-- What puts a statement before a list counts k and n nodes more.
record ReadStmt (n : ℕ) (s : List ℕ) (a : At) (x : (Block → Block) × At) : Type 0 where
  counts : Tally
  reads : Reads s counts a x.1
  nodes : (b : Block) → (ofBlock (x.0 b)).nodes ≡ n + counts.nodes + (ofBlock b).nodes
  chars : (b : Block) → (ofBlock (x.0 b)).characters ≡ counts.characters + (ofBlock b).characters
  short : (b : Block) → ShortBlock b → ShortBlock (x.0 b)

abbrev SoundStmt : Reader (Block → Block) → List ℕ → Type 0
SoundStmt q s = (a : At) (x : (Block → Block) × At) → q s a ≡ ok x → ReadStmt 0 s a x

record ReadBlock (s : List ℕ) (a : At) (x : Block × At) : Type 0 where
  reads : Reads s (ofBlock x.0) a x.1
  short : ShortBlock x.0

block-read : (n : ℕ) (q : Reader (Block → Block)) (s : List ℕ) → SoundStmt q s → (a : At) (x : Block × At) → block n q s a ≡ ok x → ReadBlock s a x
unfolding block ofBlock
block-read zero q s h a x e = subst (ReadBlock s a) (succeed-is end s a x e) (record { reads = reads-here s a; short = tt })
block-read (suc n) q s h a x e =
    let p = passed q (λ f. block n q >>= λ b. succeed (f b)) s a x e in
    let r = passed (block n q) (λ b. succeed (p.val b)) s p.at x p.follows in
    let i = h a (p.val, p.at) p.here in
    let j = block-read n q s h p.at (r.val, r.at) r.here in
    let k = i.counts in
    let w = reads-seq s k (ofBlock r.val) a p.at r.at i.reads j.reads in
    subst (ReadBlock s a) (succeed-is (p.val r.val) s r.at x r.follows) (built (p.val r.val) k (ofBlock r.val) r.at (i.nodes r.val) (i.chars r.val) w (i.short r.val j.short))
  where
    built : (b : Block) (k l : Tally) (c : At) → (ofBlock b).nodes ≡ 0 + k.nodes + l.nodes → (ofBlock b).characters ≡ k.characters + l.characters → Reads s (both k l) a c → ShortBlock b → ReadBlock s a (b, c)
    built b k l c p q w z = record { reads = as-both b k l c p q w; short = z }
      where
        as-both : (b : Block) (k l : Tally) (c : At) → (ofBlock b).nodes ≡ 0 + k.nodes + l.nodes → (ofBlock b).characters ≡ k.characters + l.characters → Reads s (both k l) a c → Reads s (ofBlock b) a c
        as-both b k l c p q w = record { nodes = omega (arith, w.nodes); most = w.most; chars = omega (arith, w.chars); inside = w.inside }

-- ---- kinds of statements

module _ (s : List ℕ) (n : ℕ) (r : Reader Expr) (h : Sound r s) (q : Reader (Block → Block)) (g : SoundStmt q s) (a : At) (x : (Block → Block) × At) where
  goto-read : gotoOf r s a ≡ ok x → ReadStmt 1 s a x
  unfolding gotoOf ofBlock
  goto-read e =
      let p = passed r (λ v. succeed (goto v)) s a x e in
      let i = h a (p.val, p.at) p.here in
      subst
      (ReadStmt 1 s a)
      (succeed-is (goto p.val) s p.at x p.follows)
      (record { counts = ofExpr p.val; reads = i.reads; nodes = λ b. omega arith; chars = λ b. refl; short = λ b z. (i.short, z) })

  ite-read : iteOf r q s a ≡ ok x → ReadStmt 1 s a x
  unfolding iteOf ofBlock
  ite-read e =
      let p₁ = passed r (λ c. bits listBits >>= λ i. block i q >>= λ t. bits listBits >>= λ j. block j q >>= λ u. succeed (ite c t u)) s a x e in
      let c = p₁.val in
      let p₂ = passed (bits listBits) (λ i. block i q >>= λ t. bits listBits >>= λ j. block j q >>= λ u. succeed (ite c t u)) s p₁.at x p₁.follows in
      let p₃ = passed (block p₂.val q) (λ t. bits listBits >>= λ j. block j q >>= λ u. succeed (ite c t u)) s p₂.at x p₂.follows in
      let t = p₃.val in
      let p₄ = passed (bits listBits) (λ j. block j q >>= λ u. succeed (ite c t u)) s p₃.at x p₃.follows in
      let p₅ = passed (block p₄.val q) (λ u. succeed (ite c t u)) s p₄.at x p₄.follows in
      let u = p₅.val in
      let i = h a (c, p₁.at) p₁.here in
      let j = block-read p₂.val q s g p₂.at (t, p₃.at) p₃.here in
      let k = block-read p₄.val q s g p₄.at (u, p₅.at) p₅.here in
      let tu = reads-seq s (ofBlock t) (ofBlock u) p₁.at p₃.at p₅.at (none-left s (ofBlock t) p₁.at p₂.at p₃.at (bits-reads listBits s p₁.at (p₂.val, p₂.at) p₂.here) j.reads) (none-left s (ofBlock u) p₃.at p₄.at p₅.at (bits-reads listBits s p₃.at (p₄.val, p₄.at) p₄.here) k.reads) in
      subst
      (ReadStmt 1 s a)
      (succeed-is (ite c t u) s p₅.at x p₅.follows)
      (
      record {
        counts = both (ofExpr c) (both (ofBlock t) (ofBlock u));
        reads = reads-seq s (ofExpr c) (both (ofBlock t) (ofBlock u)) a p₁.at p₅.at i.reads tu;
        nodes = λ b. omega arith;
        chars = λ b. refl;
        short = λ b z. (i.short, j.short, k.short, z);
      }
      )

  step-read : stepOf n s a ≡ ok x → ReadStmt 1 s a x
  unfolding stepOf ofBlock
  step-read e =
      let p = passed (bits flagBits) (λ i. nameOf n >>= λ y. succeed (Block.incdec (isOne i) y)) s a x e in
      let w = passed (nameOf n) (λ y. succeed (Block.incdec (isOne p.val) y)) s p.at x p.follows in
      subst
      (ReadStmt 1 s a)
      (succeed-is (Block.incdec (isOne p.val) w.val) s w.at x w.follows)
      (
      record {
        counts = Tree.emptyTally;
        reads = none-left s Tree.emptyTally a p.at w.at (bits-reads flagBits s a (p.val, p.at) p.here) (name-reads n s p.at (w.val, w.at) w.here);
        nodes = λ b. omega arith;
        chars = λ b. refl;
        short = λ b z. z;
      }
      )

  assign-read : assignOf n r s a ≡ ok x → ReadStmt 1 s a x
  unfolding assignOf ofBlock
  assign-read e =
      let p₁ = passed (nameOf n) (λ y. operator 3 assignops >>= λ o. r >>= λ v. succeed (assign y o v)) s a x e in
      let p₂ = passed (operator 3 assignops) (λ o. r >>= λ v. succeed (assign p₁.val o v)) s p₁.at x p₁.follows in
      let p₃ = passed r (λ v. succeed (assign p₁.val p₂.val v)) s p₂.at x p₂.follows in
      let i = h p₂.at (p₃.val, p₃.at) p₃.here in
      subst
      (ReadStmt 1 s a)
      (succeed-is (assign p₁.val p₂.val p₃.val) s p₃.at x p₃.follows)
      (
      record {
        counts = ofExpr p₃.val;
        reads = none-left s (ofExpr p₃.val) a p₁.at p₃.at (name-reads n s a (p₁.val, p₁.at) p₁.here) (none-left s (ofExpr p₃.val) p₁.at p₂.at p₃.at (operator-reads 3 assignops s p₁.at (p₂.val, p₂.at) p₂.here) i.reads);
        nodes = λ b. omega arith;
        chars = λ b. refl;
        short = λ b z. (i.short, z);
      }
      )

  kind-read : (k : ℕ) → get_or (stmtKinds n r q) k (refuse Refusal.unassigned) s a ≡ ok x → ReadStmt 1 s a x
  unfolding stmtKinds refuse
  kind-read zero e = goto-read e
  kind-read (suc zero) e = ite-read e
  kind-read (suc (suc zero)) e = step-read e
  kind-read (suc (suc (suc zero))) e = assign-read e
  kind-read (suc (suc (suc (suc k)))) e = absurd (refused≢ok Refusal.unassigned x e)

stmt-read : (s : List ℕ) (n d : ℕ) → SoundStmt (stmt n d) s
unfolding stmt refuse one both
stmt-read s n zero a x e = absurd (refused≢ok 7 x e)
stmt-read s n (suc d) a x e =
    let p = passed begin (λ z. bits stmtKindBits >>= λ k. get_or (stmtKinds n (expr n d) (stmt n d)) k (refuse Refusal.unassigned)) s a x e in
    let w = passed (bits stmtKindBits) (λ k. get_or (stmtKinds n (expr n d) (stmt n d)) k (refuse Refusal.unassigned)) s p.at x p.follows in
    let i = kind-read s n (expr n d) (expr-read s n d) (stmt n d) (stmt-read s n d) w.at x w.val w.follows in
    let k = i.counts in
    record {
      counts = both one k;
      reads = reads-seq s one k a p.at x.1 (begin-reads s a (p.val, p.at) p.here) (none-left s k p.at w.at x.1 (bits-reads stmtKindBits s p.at (w.val, w.at) w.here) i.reads);
      nodes = λ b. omega (arith, i.nodes b);
      chars = λ b. omega (arith, i.chars b);
      short = i.short;
    }

-- ---- lines

line-read : (s : List ℕ) (n : ℕ) (a : At) (x : Block × At) → lineBlock n s a ≡ ok x → ReadBlock s a x
unfolding lineBlock
line-read s n a x e =
    let p = passed (bits listBits) (λ c. block c (stmt n mostDepth)) s a x e in
    let i = block-read p.val (stmt n mostDepth) s (stmt-read s n mostDepth) p.at x p.follows in
    record { reads = none-left s (ofBlock x.0) a p.at x.1 (bits-reads listBits s a (p.val, p.at) p.here) i.reads; short = i.short }

sum-lines : (bs : List Block) → sum ofBlock bs ≡ ofLines bs
unfolding sum ofLines
sum-lines [] = refl
sum-lines (b ∷ bs) = ap (both (ofBlock b)) (sum-lines bs)

lines-short : (s : List ℕ) (n l : ℕ) (a : At) (x : List Block × At) → many l (lineBlock n) s a ≡ ok x → All ShortBlock x.0
unfolding many
lines-short s n zero a x e = subst (λ (z : List Block × At). All ShortBlock z.0) (succeed-is [] s a x e) tt
lines-short s n (suc l) a x e =
    let p = passed (lineBlock n) (λ v. many l (lineBlock n) >>= λ vs. succeed (v ∷ vs)) s a x e in
    let q = passed (many l (lineBlock n)) (λ vs. succeed (p.val ∷ vs)) s p.at x p.follows in
    subst
    (λ (z : List Block × At). All ShortBlock z.0)
    (succeed-is (p.val ∷ q.val) s q.at x q.follows)
    ((line-read s n a (p.val, p.at) p.here).short, lines-short s n l p.at (q.val, q.at) q.here)

-- ---- names

nothing : (s : List ℕ) (k : Tally) (a b : At) → k.nodes ≡ 0 → Reads s k a b → Reads s Tree.emptyTally a b
unfolding Tree.emptyTally
nothing s k a b h r = record { nodes = omega (arith, r.nodes); most = r.most; chars = omega (arith, r.chars); inside = r.inside }

one-name : (s : List ℕ) (a : At) (x : Name × At) → name s a ≡ ok x → Reads s Tree.emptyTally a x.1
unfolding name
one-name s a x e =
    let p₁ = passed (bits flagBits) (λ g. bits nameLengthBits >>= λ l. many (suc l) (bits charBits) >>= λ t. succeed (record { isGlobal = isOne g; chars = t })) s a x e in
    let p₂ = passed (bits nameLengthBits) (λ l. many (suc l) (bits charBits) >>= λ t. succeed (record { isGlobal = isOne p₁.val; chars = t })) s p₁.at x p₁.follows in
    let p₃ = passed (many (suc p₂.val) (bits charBits)) (λ t. succeed (record { isGlobal = isOne p₁.val; chars = t })) s p₂.at x p₂.follows in
    let t = p₃.val in
    let m = nothing s (sum oneChar t) p₂.at p₃.at (sum-chars t).1 (many-reads oneChar (suc p₂.val) (bits charBits) s (char-reads s) p₂.at (t, p₃.at) p₃.here) in
    subst
    (λ (z : Name × At). Reads s Tree.emptyTally a z.1)
    (succeed-is (record { isGlobal = isOne p₁.val; chars = t }) s p₃.at x p₃.follows)
    (none-left s Tree.emptyTally a p₁.at p₃.at (bits-reads flagBits s a (p₁.val, p₁.at) p₁.here) (none-left s Tree.emptyTally p₁.at p₂.at p₃.at (bits-reads nameLengthBits s p₁.at (p₂.val, p₂.at) p₂.here) m))

record ReadNames (n : ℕ) (before : List Name) (s : List ℕ) (a : At) (x : List Name × At) : Type 0 where
  reads : Reads s Tree.emptyTally a x.1
  long : length x.0 ≡ length before + n

names-read : (n : ℕ) (before : List Name) (s : List ℕ) (a : At) (x : List Name × At) → names n before s a ≡ ok x → ReadNames n before s a x
unfolding names
names-read zero before s a x e = subst (ReadNames zero before s a) (succeed-is before s a x e) (record { reads = reads-here s a; long = omega arith })
names-read (suc n) before s a x e =
    let p = passed name (λ y. demand (not (known y before)) Refusal.equalNames >>= λ z. names n (before ++ (y ∷ []))) s a x e in
    let y = p.val in
    let q = passed (demand (not (known y before)) Refusal.equalNames) (λ z. names n (before ++ (y ∷ []))) s p.at x p.follows in
    let i = names-read n (before ++ (y ∷ [])) s q.at x q.follows in
    record {
      reads = none-left s Tree.emptyTally a p.at x.1 (one-name s a (y, p.at) p.here) (none-left s Tree.emptyTally p.at q.at x.1 (demand-reads (not (known y before)) Refusal.equalNames s p.at (q.val, q.at) q.here) i.reads);
      long = omega (arith, i.long, length-append before (y ∷ []));
    }

-- ---- the file

pub record Limits (t : Tree) : Type 0 where
  pub some-lines : 0 < length t.lines
  pub most-lines : length t.lines ≤ mostLines
  pub most-names : length t.names ≤ mostNames
  pub most-nodes : (ofLines t.lines).nodes ≤ mostNodes
  pub most-chars : (ofLines t.lines).characters ≤ 37449
  pub short : All ShortBlock t.lines

record ReadBody (l n : ℕ) (s : List ℕ) (a : At) (t : Tree) : Type 0 where
  lines : length t.lines ≡ l
  names : length t.names ≡ n
  at : At
  reads : Reads s (ofLines t.lines) a at
  short : All ShortBlock t.lines

body-read : (l n : ℕ) (s : List ℕ) (a : At) (x : Tree × At) → body l n s a ≡ ok x → ReadBody l n s a x.0
unfolding body
body-read l n s a x e =
    let p = passed (names n []) (λ t. many l (lineBlock n) >>= λ b. fill >>= λ z. succeed (record { names = t; lines = b })) s a x e in
    let q = passed (many l (lineBlock n)) (λ b. fill >>= λ z. succeed (record { names = p.val; lines = b })) s p.at x p.follows in
    let w = passed fill (λ z. succeed (record { names = p.val; lines = q.val })) s q.at x q.follows in
    let i = names-read n [] s a (p.val, p.at) p.here in
    let j = many-reads ofBlock l (lineBlock n) s (λ b y h. (line-read s n b y h).reads) p.at (q.val, q.at) q.here in
    subst
    (λ (z : Tree × At). ReadBody l n s a z.0)
    (succeed-is (record { names = p.val; lines = q.val }) s w.at x w.follows)
    (
    record {
      lines = many-length l (lineBlock n) s p.at (q.val, q.at) q.here;
      names = omega (arith, i.long);
      at = q.at;
      reads = none-left s (ofLines q.val) a p.at q.at i.reads (subst (λ (k : Tally). Reads s k p.at q.at) (sum-lines q.val) j);
      short = lines-short s n l p.at (q.val, q.at) q.here;
    }
    )

file-limits : (s : List ℕ) (t : Tree) (c : At) → length s ≤ mostBytes → file s (record { pos = 0; nodes = 0 }) ≡ ok (t, c) → 0 < length t.lines → Limits t
unfolding file
file-limits s t c hs e hl =
    let a : At = record { pos = 0; nodes = 0 } in
    let r : Tree × At = (t, c) in
    let p₁ = passed (bits headBits) (λ f. demand (eqb f form) Refusal.otherForm >>= λ z. bits headBits >>= λ l. demand (ltb 0 l) Refusal.zeroLines >>= λ y. bits nameBits >>= λ n. body l n) s a r e in
    let p₂ = passed (demand (eqb p₁.val form) Refusal.otherForm) (λ z. bits headBits >>= λ l. demand (ltb 0 l) Refusal.zeroLines >>= λ y. bits nameBits >>= λ n. body l n) s p₁.at r p₁.follows in
    let p₃ = passed (bits headBits) (λ l. demand (ltb 0 l) Refusal.zeroLines >>= λ y. bits nameBits >>= λ n. body l n) s p₂.at r p₂.follows in
    let l = p₃.val in
    let p₄ = passed (demand (ltb 0 l) Refusal.zeroLines) (λ y. bits nameBits >>= λ n. body l n) s p₃.at r p₃.follows in
    let p₅ = passed (bits nameBits) (λ n. body l n) s p₄.at r p₄.follows in
    let n = p₅.val in
    let b = body-read l n s p₅.at r p₅.follows in
    let none₁ = none-left s Tree.emptyTally a p₁.at p₂.at (bits-reads headBits s a (p₁.val, p₁.at) p₁.here) (demand-reads (eqb p₁.val form) Refusal.otherForm s p₁.at (p₂.val, p₂.at) p₂.here) in
    let none₂ = none-left s Tree.emptyTally a p₂.at p₃.at none₁ (bits-reads headBits s p₂.at (l, p₃.at) p₃.here) in
    let none₃ = none-left s Tree.emptyTally a p₃.at p₄.at none₂ (demand-reads (ltb 0 l) Refusal.zeroLines s p₃.at (p₄.val, p₄.at) p₄.here) in
    let none₄ = none-left s Tree.emptyTally a p₄.at p₅.at none₃ (bits-reads nameBits s p₄.at (n, p₅.at) p₅.here) in
    let all = none-left s (ofLines t.lines) a p₅.at b.at none₄ b.reads in
    record {
      some-lines = hl;
      most-lines = omega (arith, b.lines, (bits-read headBits s p₂.at (l, p₃.at) p₃.here).small);
      most-names = omega (arith, b.names, (bits-read nameBits s p₄.at (n, p₅.at) p₅.here).small);
      most-nodes = omega (arith, all.nodes, all.most (omega arith));
      most-chars = omega (arith, all.chars, all.inside (omega arith));
      short = b.short;
    }

pub limits : (s : List ℕ) (t : Tree) → parse s ≡ ok t → Limits t
limits s t e = let p = parsed s t e in file-limits s t p.at p.bytes p.is (some-line s t e)
