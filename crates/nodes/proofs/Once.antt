-- A table holds at most one expression at a node, and at most one list from a node. Assumes nothing.
use mathlib.Core.Path.{◌≡◌, sym, ◌∙◌, ap}
use mathlib.Core.Bool.{Bool}
use mathlib.Core.List.{List}
use mathlib.Core.Option.{some}
use Prim.Native.Nat.{ℕ, ◌+◌, ◌*◌, ◌≤◌, ◌<◌, ◌^◌}
use native.Mathlib.Omega.{arith}
use lib.IntN.{ℤ}
use lib.ListN.{length, get_elem?}
use Rattle.rules.specs.Constants.{mostBytes, nameBits, listBits, numberBits}
use Rattle.rules.specs.Bits.{spelled, isOne}
use Rattle.rules.specs.Tree.{Assignop, Expr, Block, ident, number, string, goto, ite, assign}
use Rattle.rules.specs.Parse.{binops, unops, assignops, signed}
use Rattle.bits.specs.Reads.{charsAt}
use Rattle.nodes.specs.Words.{wordOf, binopKind, unopKind, incdecKind, identKind, numberKind, stringKind, iteKind, gotoKind, stepKind, assignKind}
use Rattle.nodes.specs.Holds.{HoldsE, HoldsB, at-binop, at-unop, at-incdec, at-ident, at-number, at-string, at-end, at-goto, at-ite, at-step, at-assign}
use Rattle.nodes.proofs.Words.{Fits, unpacked, kind-of}
use Rattle.nodes.proofs.Exprs.{is-binop, is-unop, is-incdec, is-ident, is-number, is-string, op-small}
use Rattle.nodes.proofs.Blocks.{is-end, is-goto, is-ite, is-step, is-assign}

-- ---- one word, one node's fields

pub record Twice (o o' n n' p p' l l' v v' : ℕ) : Type 0 where
  pub op-same : o ≡ o'
  pub name-same : n ≡ n'
  pub pos-same : p ≡ p'
  pub last-same : l ≡ l'
  pub width-same : v ≡ v'

pub twice : (k o o' n n' p p' l l' v v' g : ℕ) → Fits k o n p v → Fits k o' n' p' v' → g ≡ wordOf k o n p l v → g ≡ wordOf k o' n' p' l' v' → Twice o o' n n' p p' l l' v v'
twice k o o' n n' p p' l l' v v' g a b e f =
    let u = unpacked k o n p l v g a e in
    let w = unpacked k o' n' p' l' v' g b f in
    record {
      op-same = sym u.op-is ∙ w.op-is;
      name-same = sym u.name-is ∙ w.name-is;
      pos-same = sym u.pos-is ∙ w.pos-is;
      last-same = sym u.last-is ∙ w.last-is;
      width-same = sym u.width-is ∙ w.width-is;
    }

-- ---- an expression

pub record Same {A : Type 0} (x y : A) (j j' : ℕ) : Type 0 where
  pub tree : x ≡ y
  pub last : j ≡ j'

pub start-at : {t s : List ℕ} {m i i' j : ℕ} {e : Expr} → i ≡ i' → HoldsE t s m i' e j → HoldsE t s m i e j
start-at p h = rw p h

pub pick-same : {A : Type 0} (ops : List A) (k k' : ℕ) {o o' : A} → k ≡ k' → get_elem? ops k ≡ some o → get_elem? ops k' ≡ some o' → o ≡ o'
pick-same ops k k' {o} {o'} e p q =
    let a : get_elem? ops k' ≡ some o = rw e at p in
    let b : some o ≡ some o' = sym a ∙ q in
    cc

incdec-same : (b b' y y' : ℕ) (f : Bool) → isOne b ≡ f → b ≡ b' → y ≡ y' → Expr.incdec f y ≡ Expr.incdec (isOne b') y'
incdec-same b b' y y' f p q r = rw (← p, q, r)

number-same : (s : List ℕ) (p p' : ℕ) (z : ℤ) → signed (spelled s numberBits p) ≡ z → p ≡ p' → number z ≡ number (signed (spelled s numberBits p'))
number-same s p p' z e q = rw (← e, q)

string-same : (s : List ℕ) (n n' p p' : ℕ) (x : List ℕ) → charsAt s n p ≡ x → n ≡ n' → p ≡ p' → string x ≡ string (charsAt s n' p')
string-same s n n' p p' x e q r = rw (← e, q, r)

pub one : {t s : List ℕ} {m i j j' : ℕ} {e e' : Expr} → length s ≤ mostBytes → m ≤ 2 ^ nameBits → HoldsE t s m i e j → HoldsE t s m i e' j' → Same e e' j j'
unfolding binops unops
one a c (at-binop op o p w q l r) h =
    let y = op-small binops op p in
    let b = is-binop h (kind-of _ _ _ _ _ _ _ (omega arith) w) in
    let z = op-small binops b.op b.pick in
    let x = twice binopKind op b.op 0 0 0 0 _ _ 0 0 _ (omega arith) (omega arith) w b.word in
    let f = one a c l (start-at (q ∙ sym b.next) b.left) in
    let g = one a c r (start-at f.last b.right) in
    record { tree = rw (pick-same binops op b.op x.op-same p b.pick, f.tree, g.tree) (sym b.is); last = x.last-same }
one a c (at-unop op o p w q r) h =
    let y = op-small unops op p in
    let b = is-unop h (kind-of _ _ _ _ _ _ _ (omega arith) w) in
    let z = op-small unops b.op b.pick in
    let x = twice unopKind op b.op 0 0 0 0 _ _ 0 0 _ (omega arith) (omega arith) w b.word in
    let g = one a c r (start-at (q ∙ sym b.next) b.operand) in
    record { tree = rw (pick-same unops op b.op x.op-same p b.pick, g.tree) (sym b.is); last = x.last-same }
one a c (at-incdec b f y p g) h =
    let d = is-incdec h (kind-of _ _ _ _ _ _ _ (omega arith) g.is) in
    let x = twice incdecKind b d.b y d.x 0 0 _ _ 0 0 _ (omega arith) (omega arith) g.is d.flag.is in
    record { tree = incdec-same b d.b y d.x f p x.op-same x.name-same ∙ sym d.is; last = x.last-same }
one a c (at-ident y l w k) h =
    let d = is-ident h (kind-of _ _ _ _ _ _ _ (omega arith) w) in
    let x = twice identKind 0 0 y d.x 0 0 _ _ 0 0 _ (omega arith) (omega arith) w d.word in
    record { tree = ap ident x.name-same ∙ sym d.is; last = x.last-same }
one a c (at-number p z l w k q) h =
    let d = is-number h (kind-of _ _ _ _ _ _ _ (omega arith) w) in
    let x = twice numberKind 0 0 0 0 p d.p _ _ 0 0 _ (omega arith) (omega arith) w d.word in
    record { tree = number-same _ p d.p z q x.pos-same ∙ sym d.is; last = x.last-same }
one a c (at-string n p y l w f k q) h =
    let d = is-string h (kind-of _ _ _ _ _ _ _ (omega arith) w) in
    let x = twice stringKind 0 0 n d.n p d.p _ _ 0 0 _ (omega arith) (omega arith) w d.word in
    record { tree = string-same _ n d.n p d.p y q x.name-same x.pos-same ∙ sym d.is; last = x.last-same }

-- ---- a list of statements

pub begin-at : {t s : List ℕ} {m n n' i i' z : ℕ} {x : Block} → n ≡ n' → i ≡ i' → HoldsB t s m n' i' x z → HoldsB t s m n i x z
begin-at p q h = rw (p, q) h

goto-same : (e e' : Expr) (x x' : Block) → e ≡ e' → x ≡ x' → goto e x ≡ goto e' x'
goto-same e e' x x' p q = rw (p, q)

step-same : (b b' y y' : ℕ) (f : Bool) (x x' : Block) → isOne b ≡ f → b ≡ b' → y ≡ y' → x ≡ x' → Block.incdec f y x ≡ Block.incdec (isOne b') y' x'
step-same b b' y y' f x x' p q r o = rw (← p, q, r, o)

assign-same : (y y' : ℕ) (o o' : Assignop) (e e' : Expr) (x x' : Block) → y ≡ y' → o ≡ o' → e ≡ e' → x ≡ x' → assign y o e x ≡ assign y' o' e' x'
assign-same y y' o o' e e' x x' p q r w = rw (p, q, r, w)

ite-same : (e e' : Expr) (x x' y y' z z' : Block) → e ≡ e' → x ≡ x' → y ≡ y' → z ≡ z' → ite e x y z ≡ ite e' x' y' z'
ite-same e e' x x' y y' z z' p q r w = rw (p, q, r, w)

count-same : (b b' w w' : ℕ) → b < 2 ^ listBits → b' < 2 ^ listBits → b + 2 ^ listBits * w ≡ b' + 2 ^ listBits * w' → b ≡ b'
count-same b b' w w' p q e = omega arith

pub one-b : {t s : List ℕ} {m n i z z' : ℕ} {x x' : Block} → length s ≤ mostBytes → m ≤ 2 ^ nameBits → HoldsB t s m n i x z → HoldsB t s m n i x' z' → Same x x' z z'
unfolding assignops
one-b a c (at-end p q) h = let d = is-end h p in record { tree = sym d.is; last = sym q ∙ d.here }
one-b a c (at-goto p w q e xs) h =
    let d = is-goto (omega arith) h (kind-of _ _ _ _ _ _ _ (omega arith) w) in
    let x = twice gotoKind 0 0 0 0 0 0 _ _ 0 0 _ (omega arith) (omega arith) w d.word in
    let f = one a c e (start-at (q ∙ sym d.next) d.to) in
    let l = d.count in
    let g = one-b a c xs (begin-at (omega arith) x.last-same d.others) in
    record { tree = goto-same _ _ _ _ f.tree g.tree ∙ sym d.is; last = g.last }
one-b a c (at-ite n k v u p w b q e y z xs) h =
    let d = is-ite (omega arith) h (kind-of _ _ _ _ _ _ _ (omega arith) w) in
    let r = d.lists in
    let x = twice iteKind 0 0 n d.a (k + 2 ^ listBits * u) (d.b + 2 ^ listBits * d.w) _ _ v d.v _ (omega arith) (omega arith) w d.word in
    let f = one a c e (start-at (q ∙ sym d.next) d.test) in
    let g = one-b a c y (begin-at x.name-same f.last d.then) in
    let l = one-b a c z (begin-at (count-same _ _ u d.w b.few-else r.few-else x.pos-same) g.last d.else) in
    let o = d.count in
    let j = one-b a c xs (begin-at (omega arith) x.last-same d.others) in
    record { tree = ite-same _ _ _ _ _ _ _ _ f.tree g.tree l.tree j.tree ∙ sym d.is; last = j.last }
one-b a c (at-step b f y p q g xs) h =
    let d = is-step (omega arith) h (kind-of _ _ _ _ _ _ _ (omega arith) g.is) in
    let r = d.flag in
    let x = twice stepKind b d.b y d.y 0 0 _ _ 0 0 _ (omega arith) (omega arith) g.is r.is in
    let l = d.count in
    let j = one-b a c xs (begin-at (omega arith) x.last-same d.others) in
    record { tree = step-same b d.b y d.y f _ _ q x.op-same x.name-same j.tree ∙ sym d.is; last = j.last }
one-b a c (at-assign y op o p b w k q e xs) h =
    let r = op-small assignops op b in
    let d = is-assign (omega arith) h (kind-of _ _ _ _ _ _ _ (omega arith) w) in
    let v = op-small assignops d.op d.pick in
    let u = d.known in
    let x = twice assignKind op d.op y d.y 0 0 _ _ 0 0 _ (omega arith) (omega arith) w d.word in
    let f = one a c e (start-at (q ∙ sym d.next) d.value) in
    let l = d.count in
    let g = one-b a c xs (begin-at (omega arith) x.last-same d.others) in
    record { tree = assign-same _ _ _ _ _ _ _ _ x.name-same (pick-same assignops op d.op x.op-same b d.pick) f.tree g.tree ∙ sym d.is; last = g.last }
