-- What a parsed expression keeps to: its nodes, its characters, and the length of each string.
use Rattle.std.specs.Prelude.{◌≡◌, refl, Bool, true, false, List, [], ◌∷◌, ltb, leb, get_or}
use Rattle.std.proofs.Common.{arith, ltb-true, leb-true}
use Rattle.std.proofs.Math.Path.{subst}
use Rattle.std.proofs.Math.Option.{Option, none, some}
use Prim.Native.Nat.{ℕ, zero, suc, ◌+◌, ◌*◌, ◌^◌, ◌≤◌, ◌<◌}
use Rattle.std.proofs.Math.ListN.{length, get_elem?}
use Rattle.rules.specs.Refusal as Refusal
use Rattle.rules.specs.Bits.{Res, refused, ok, spelled, field, isOne}
use Rattle.rules.specs.Tree.{Name, Tree, Expr, Block, Tally, both, node, statement, ofExpr, ofBlock, ofLines, binop, unop, ident, number, string, goto, ite, assign, end}
use Rattle.rules.specs.Tree as Tree
use Rattle.rules.specs.Constants.{mostNodes, nameBits, charBits, stringLengthBits, flagBits, exprKindBits, numberBits, byteBits, mostChars}
use Rattle.rules.specs.Parse.{Reader, At, succeed, refuse, ◌>>=◌, demand, bits, begin, many, operator, binops, unops, nameOf, signed}
use Rattle.rules.specs.Parse.{binopOf, unopOf, incdecOf, identOf, numberOf, stringOf, exprKinds, expr}
use Rattle.laws.specs.Texts.{spelled-lt}
use Rattle.bounds.specs.Parsed.{refused≢ok, passed, many-length}

-- ---- fields

-- What is read between a and b counts k.
pub record Reads (s : List ℕ) (k : Tally) (a b : At) : Type 0 where
  pub nodes : b.nodes ≡ a.nodes + k.nodes
  pub most : a.nodes ≤ mostNodes → b.nodes ≤ mostNodes
  pub chars : a.pos + charBits * k.characters ≤ b.pos
  pub inside : a.pos ≤ byteBits * length s → b.pos ≤ byteBits * length s

pub reads-seq : (s : List ℕ) (j k : Tally) (a b c : At) → Reads s j a b → Reads s k b c → Reads s (both j k) a c
unfolding both
reads-seq s j k a b c p q =
    record { nodes = omega arith; most = λ h. q.most (p.most h); chars = omega arith; inside = λ h. q.inside (p.inside h) }

-- The same count, said otherwise.
pub reads-as : (s : List ℕ) (j k : Tally) (a b : At) → j.nodes ≡ k.nodes → j.characters ≡ k.characters → Reads s j a b → Reads s k a b
reads-as s j k a b p q r = record { nodes = omega arith; most = r.most; chars = omega arith; inside = r.inside }

pub reads-here : (s : List ℕ) (a : At) → Reads s Tree.emptyTally a a
unfolding Tree.emptyTally
reads-here s a = record { nodes = omega arith; most = λ h. h; chars = omega arith; inside = λ h. h }

-- ---- single steps

pub succeed-is : {A : Type 0} (v : A) (s : List ℕ) (c : At) (x : A × At) → succeed v s c ≡ ok x → ◌≡◌ {A = A × At} (v, c) x
unfolding succeed
succeed-is v s c x e = cc

pub record BitsRead (w : ℕ) (s : List ℕ) (a : At) (x : ℕ × At) : Type 0 where
  pub small : x.0 < 2 ^ w
  pub fits : a.pos + w ≤ byteBits * length s
  pub pos : x.1.pos ≡ a.pos + w
  pub nodes : x.1.nodes ≡ a.nodes

pub bits-read : (w : ℕ) (s : List ℕ) (a : At) (x : ℕ × At) → bits w s a ≡ ok x → BitsRead w s a x
unfolding bits field
bits-read w s a x e = go (leb (a.pos + w) (byteBits * length s)) refl e
  where
    go : (b : Bool) → leb (a.pos + w) (byteBits * length s) ≡ b
        → (
        let f : Res (ℕ × ℕ) = elim b [ true ↦ ok (spelled s w a.pos, a.pos + w) | false ↦ refused Refusal.endsInField ] in
        let y : Res (ℕ × At) = elim f [ refused n ↦ refused n | ok r ↦ ok (r.0, record { pos = r.1; nodes = a.nodes }) ] in
        y ≡ ok x
        )
        → BitsRead w s a x
    go false p q = absurd (refused≢ok Refusal.endsInField x q)
    go true p q =
        let v : ℕ × At = (spelled s w a.pos, record { pos = a.pos + w; nodes = a.nodes }) in
        let z : v ≡ x = cc in
        subst
        (BitsRead w s a)
        z
        (record { small = spelled-lt s w a.pos; fits = leb-true (a.pos + w) (byteBits * length s) p; pos = refl; nodes = refl })

pub bits-reads : (w : ℕ) (s : List ℕ) (a : At) (x : ℕ × At) → bits w s a ≡ ok x → Reads s Tree.emptyTally a x.1
unfolding Tree.emptyTally
bits-reads w s a x e =
    let b = bits-read w s a x e in
    record { nodes = omega (arith, b.nodes); most = λ h. omega (arith, b.nodes); chars = omega (arith, b.pos); inside = λ h. omega (arith, b.pos, b.fits) }

pub demand-reads : (b : Bool) (n : ℕ) (s : List ℕ) (a : At) (x : Unit {0} × At) → demand b n s a ≡ ok x → Reads s Tree.emptyTally a x.1
unfolding demand succeed
demand-reads true n s a x e = subst (λ (z : Unit {0} × At). Reads s Tree.emptyTally a z.1) (succeed-is tt s a x e) (reads-here s a)
demand-reads false n s a x e = absurd (refused≢ok n x e)

-- One node more.
unfoldable pub one : Tally
one = record { statements = 0; nodes = 1; strings = 0; characters = 0 }

pub begin-reads : (s : List ℕ) (a : At) (x : Unit {0} × At) → begin s a ≡ ok x → Reads s one a x.1
unfolding begin one
begin-reads s a x e = go (ltb a.nodes mostNodes) refl e
  where
    go : (b : Bool) → ltb a.nodes mostNodes ≡ b → elim b [ false ↦ refused Refusal.tooManyNodes | true ↦ ok (tt, record { pos = a.pos; nodes = suc a.nodes }) ] ≡ ok x → Reads s one a x.1
    go false p q = absurd (refused≢ok Refusal.tooManyNodes x q)
    go true p q =
        let v : Unit {0} × At = (tt, record { pos = a.pos; nodes = suc a.nodes }) in
        let z : v ≡ x = cc in
        subst
        (λ (y : Unit {0} × At). Reads s one a y.1)
        z
        (record { nodes = omega arith; most = λ h. omega (arith, ltb-true a.nodes mostNodes p); chars = omega arith; inside = λ h. h })

-- m, then f: what both count.
seq-reads : {A B : Type 0} (m : Reader A) (f : A → Reader B) (s : List ℕ) (a : At) (x : B × At) (j k : Tally)
    → ((y : A × At) → m s a ≡ ok y → Reads s j a y.1)
    → ((v : A) (b : At) → m s a ≡ ok (v, b) → f v s b ≡ ok x → Reads s k b x.1)
    → (m >>= f) s a ≡ ok x → Reads s (both j k) a x.1
seq-reads m f s a x j k hm hf e =
    let p = passed m f s a x e in
    reads-seq s j k a p.at x.1 (hm (p.val, p.at) p.here) (hf p.val p.at p.here p.follows)

pub operator-reads : {A : Type 0} (w : ℕ) (ops : List A) (s : List ℕ) (a : At) (x : A × At) → operator w ops s a ≡ ok x → Reads s Tree.emptyTally a x.1
unfolding operator refuse
operator-reads {A} w ops s a x e =
    let f : ℕ → Reader A = λ k. elim (get_elem? ops k) [ none ↦ refuse Refusal.unassigned | some o ↦ succeed o ] in
    let p = passed (bits w) f s a x e in
    after (get_elem? ops p.val) p.at (bits-reads w s a (p.val, p.at) p.here) p.follows
  where
    after : (o : Option A) (b : At) → Reads s Tree.emptyTally a b → (let m : Reader A = elim o [ none ↦ refuse Refusal.unassigned | some v ↦ succeed v ] in m s b ≡ ok x) → Reads s Tree.emptyTally a x.1
    after none b r q = absurd (refused≢ok Refusal.unassigned x q)
    after (some v) b r q = subst (λ (z : A × At). Reads s Tree.emptyTally a z.1) (succeed-is v s b x q) r

pub name-reads : (n : ℕ) (s : List ℕ) (a : At) (x : ℕ × At) → nameOf n s a ≡ ok x → Reads s Tree.emptyTally a x.1
unfolding nameOf Tree.emptyTally both
name-reads n s a x e =
    let p = passed (bits nameBits) (λ y. demand (ltb y n) Refusal.unknownName >>= λ z. succeed y) s a x e in
    let q = passed (demand (ltb p.val n) Refusal.unknownName) (λ z. succeed p.val) s p.at x p.follows in
    let r = reads-seq s Tree.emptyTally Tree.emptyTally a p.at q.at (bits-reads nameBits s a (p.val, p.at) p.here) (demand-reads (ltb p.val n) Refusal.unknownName s p.at (q.val, q.at) q.here) in
    subst (λ (z : ℕ × At). Reads s Tree.emptyTally a z.1) (succeed-is p.val s q.at x q.follows) (reads-as s (both Tree.emptyTally Tree.emptyTally) Tree.emptyTally a q.at refl refl r)

-- ---- many

unfoldable pub sum : {A : Type 0} → (A → Tally) → List A → Tally
sum k [] = Tree.emptyTally
sum k (x ∷ l) = both (k x) (sum k l)

pub many-reads : {A : Type 0} (k : A → Tally) (n : ℕ) (m : Reader A) (s : List ℕ)
    → ((a : At) (x : A × At) → m s a ≡ ok x → Reads s (k x.0) a x.1)
    → (a : At) (x : List A × At) → many n m s a ≡ ok x → Reads s (sum k x.0) a x.1
unfolding many sum
many-reads {A} k zero m s h a x e = subst (λ (z : List A × At). Reads s (sum k z.0) a z.1) (succeed-is [] s a x e) (reads-here s a)
many-reads {A} k (suc n) m s h a x e =
    let p = passed m (λ v. many n m >>= λ vs. succeed (v ∷ vs)) s a x e in
    let q = passed (many n m) (λ vs. succeed (p.val ∷ vs)) s p.at x p.follows in
    let r = many-reads k n m s h p.at (q.val, q.at) q.here in
    subst
    (λ (z : List A × At). Reads s (sum k z.0) a z.1)
    (succeed-is (p.val ∷ q.val) s q.at x q.follows)
    (reads-seq s (k p.val) (sum k q.val) a p.at q.at (h a (p.val, p.at) p.here) r)

-- characters of 7 bits
unfoldable pub oneChar : ℕ → Tally
oneChar c = record { statements = 0; nodes = 0; strings = 0; characters = 1 }

pub char-reads : (s : List ℕ) (a : At) (x : ℕ × At) → bits charBits s a ≡ ok x → Reads s (oneChar x.0) a x.1
unfolding oneChar
char-reads s a x e =
    let b = bits-read charBits s a x e in
    record { nodes = omega (arith, b.nodes); most = λ h. omega (arith, b.nodes); chars = omega (arith, b.pos); inside = λ h. omega (arith, b.pos, b.fits) }

pub sum-chars : (t : List ℕ) → ((sum oneChar t).characters ≡ length t) × ((sum oneChar t).nodes ≡ 0)
unfolding sum oneChar both Tree.emptyTally
sum-chars [] = (refl, refl)
sum-chars (c ∷ t) = (omega (arith, (sum-chars t).0), omega (arith, (sum-chars t).1))

-- ---- expressions

-- Every string has at most as many characters as its length can count.
abbrev pub ShortExpr : Expr → Type 0
ShortExpr (binop o l r) = ShortExpr l × ShortExpr r
ShortExpr (unop o r) = ShortExpr r
ShortExpr (Expr.incdec b x) = Unit {0}
ShortExpr (ident x) = Unit {0}
ShortExpr (number z) = Unit {0}
ShortExpr (string t) = length t ≤ mostChars

-- What an expression counts but for itself.
abbrev under : Expr → Tally
under (binop o l r) = both (ofExpr l) (ofExpr r)
under (unop o r) = ofExpr r
under (Expr.incdec b x) = Tree.emptyTally
under (ident x) = Tree.emptyTally
under (number z) = Tree.emptyTally
under (string t) = record { statements = 0; nodes = 0; strings = 1; characters = length t }

over-under : (e : Expr) → ((ofExpr e).nodes ≡ suc (under e).nodes) × ((ofExpr e).characters ≡ (under e).characters)
unfolding ofExpr node both Tree.emptyTally
over-under (binop o l r) = (refl, refl)
over-under (unop o r) = (refl, refl)
over-under (Expr.incdec b x) = (refl, refl)
over-under (ident x) = (refl, refl)
over-under (number z) = (refl, refl)
over-under (string t) = (refl, refl)

pub record ReadExpr (k : Expr → Tally) (s : List ℕ) (a : At) (x : Expr × At) : Type 0 where
  pub reads : Reads s (k x.0) a x.1
  pub short : ShortExpr x.0

abbrev pub Sound : Reader Expr → List ℕ → Type 0
Sound r s = (a : At) (x : Expr × At) → r s a ≡ ok x → ReadExpr ofExpr s a x

pub none-left : (s : List ℕ) (k : Tally) (a b c : At) → Reads s Tree.emptyTally a b → Reads s k b c → Reads s k a c
unfolding Tree.emptyTally
none-left s k a b c p q = record { nodes = omega arith; most = λ h. q.most (p.most h); chars = omega arith; inside = λ h. q.inside (p.inside h) }

module _ (s : List ℕ) (n : ℕ) (r : Reader Expr) (h : Sound r s) (a : At) (x : Expr × At) where
  binop-read : binopOf r s a ≡ ok x → ReadExpr under s a x
  unfolding binopOf
  binop-read e =
      let p = passed (operator 4 binops) (λ o. r >>= λ u. r >>= λ v. succeed (binop o u v)) s a x e in
      let q = passed r (λ u. r >>= λ v. succeed (binop p.val u v)) s p.at x p.follows in
      let w = passed r (λ v. succeed (binop p.val q.val v)) s q.at x q.follows in
      let i = h p.at (q.val, q.at) q.here in
      let j = h q.at (w.val, w.at) w.here in
      subst
      (ReadExpr under s a)
      (succeed-is (binop p.val q.val w.val) s w.at x w.follows)
      (
      record {
        reads = none-left s (both (ofExpr q.val) (ofExpr w.val)) a p.at w.at (operator-reads 4 binops s a (p.val, p.at) p.here) (reads-seq s (ofExpr q.val) (ofExpr w.val) p.at q.at w.at i.reads j.reads);
        short = (i.short, j.short);
      }
      )

  unop-read : unopOf r s a ≡ ok x → ReadExpr under s a x
  unfolding unopOf
  unop-read e =
      let p = passed (operator 4 unops) (λ o. r >>= λ u. succeed (unop o u)) s a x e in
      let q = passed r (λ u. succeed (unop p.val u)) s p.at x p.follows in
      let i = h p.at (q.val, q.at) q.here in
      subst
      (ReadExpr under s a)
      (succeed-is (unop p.val q.val) s q.at x q.follows)
      (record { reads = none-left s (ofExpr q.val) a p.at q.at (operator-reads 4 unops s a (p.val, p.at) p.here) i.reads; short = i.short })

  incdec-read : incdecOf n s a ≡ ok x → ReadExpr under s a x
  unfolding incdecOf
  incdec-read e =
      let p = passed (bits flagBits) (λ i. nameOf n >>= λ y. succeed (Expr.incdec (isOne i) y)) s a x e in
      let q = passed (nameOf n) (λ y. succeed (Expr.incdec (isOne p.val) y)) s p.at x p.follows in
      subst
      (ReadExpr under s a)
      (succeed-is (Expr.incdec (isOne p.val) q.val) s q.at x q.follows)
      (record { reads = none-left s Tree.emptyTally a p.at q.at (bits-reads flagBits s a (p.val, p.at) p.here) (name-reads n s p.at (q.val, q.at) q.here); short = tt })

  ident-read : identOf n s a ≡ ok x → ReadExpr under s a x
  unfolding identOf
  ident-read e =
      let q = passed (nameOf n) (λ y. succeed (ident y)) s a x e in
      subst (ReadExpr under s a) (succeed-is (ident q.val) s q.at x q.follows) (record { reads = name-reads n s a (q.val, q.at) q.here; short = tt })

  number-read : numberOf s a ≡ ok x → ReadExpr under s a x
  unfolding numberOf
  number-read e =
      let q = passed (bits numberBits) (λ v. succeed (number (signed v))) s a x e in
      subst (ReadExpr under s a) (succeed-is (number (signed q.val)) s q.at x q.follows) (record { reads = bits-reads numberBits s a (q.val, q.at) q.here; short = tt })

  string-read : stringOf s a ≡ ok x → ReadExpr under s a x
  unfolding stringOf
  string-read e =
      let p = passed (bits stringLengthBits) (λ l. many l (bits charBits) >>= λ t. succeed (string t)) s a x e in
      let q = passed (many p.val (bits charBits)) (λ t. succeed (string t)) s p.at x p.follows in
      let b = bits-read stringLengthBits s a (p.val, p.at) p.here in
      let m = many-reads oneChar p.val (bits charBits) s (char-reads s) p.at (q.val, q.at) q.here in
      let l : length q.val ≡ p.val = many-length p.val (bits charBits) s p.at (q.val, q.at) q.here in
      let c = sum-chars q.val in
      subst
      (ReadExpr under s a)
      (succeed-is (string q.val) s q.at x q.follows)
      (
      record {
        reads = none-left s (under (string q.val)) a p.at q.at (bits-reads stringLengthBits s a (p.val, p.at) p.here) (reads-as s (sum oneChar q.val) (under (string q.val)) p.at q.at c.1 c.0 m);
        short = omega (arith, b.small);
      }
      )

  kind-read : (k : ℕ) → get_or (exprKinds n r) k (refuse Refusal.unassigned) s a ≡ ok x → ReadExpr under s a x
  unfolding exprKinds refuse
  kind-read zero e = binop-read e
  kind-read (suc zero) e = unop-read e
  kind-read (suc (suc zero)) e = incdec-read e
  kind-read (suc (suc (suc zero))) e = ident-read e
  kind-read (suc (suc (suc (suc zero)))) e = number-read e
  kind-read (suc (suc (suc (suc (suc zero))))) e = string-read e
  kind-read (suc (suc (suc (suc (suc (suc k)))))) e = absurd (refused≢ok Refusal.unassigned x e)

pub expr-read : (s : List ℕ) (n d : ℕ) → Sound (expr n d) s
unfolding expr refuse one both
expr-read s n zero a x e = absurd (refused≢ok 7 x e)
expr-read s n (suc d) a x e =
    let p = passed begin (λ z. bits exprKindBits >>= λ k. get_or (exprKinds n (expr n d)) k (refuse Refusal.unassigned)) s a x e in
    let q = passed (bits exprKindBits) (λ k. get_or (exprKinds n (expr n d)) k (refuse Refusal.unassigned)) s p.at x p.follows in
    let i = kind-read s n (expr n d) (expr-read s n d) q.at x q.val q.follows in
    let o = over-under x.0 in
    let j = reads-seq s one (under x.0) a p.at x.1 (begin-reads s a (p.val, p.at) p.here) (none-left s (under x.0) p.at q.at x.1 (bits-reads exprKindBits s p.at (q.val, q.at) q.here) i.reads) in
    record { reads = reads-as s (both one (under x.0)) (ofExpr x.0) a x.1 (omega (arith, o.0)) (omega (arith, o.1)) j; short = i.short }
