-- What a node's word says, field by field, of the expression that is held there; and costs. Assumes nothing.
use mathlib.Core.Path.{◌≡◌, refl, sym, ap, ◌∙◌}
use mathlib.Core.Bool.{Bool, true, false}
use mathlib.Core.List.{List}
use lib.Dec.{eqb}
use Rattle.std.proofs.lemmas.Bool.{eqb-true, eqb-false}
use Prim.Native.Nat.{ℕ, ◌+◌, ◌*◌, ◌≤◌, ◌<◌, ◌^◌}
use native.Mathlib.Omega.{arith}
use lib.ListN.{length, get_or}
use Rattle.rules.specs.Constants.{mostBytes, nameBits, numberBits, charBits, byteBits, instrsANode, mostChars}
use Rattle.rules.specs.Bits.{spelled, isOne}
use Rattle.rules.specs.Tree.{Binop, Unop, Expr, binop, unop, ident, number, string, ofExpr, node, both, emptyTally}
use Rattle.rules.specs.Tree.{And, Or, Add, Sub, Mul, Div, Mod, Pow, Eq, Ne, Le, Lt, Ge, Gt}
use Rattle.rules.specs.Tree.{Neg, Not, Abs, Sqrt, Fact, Sin, Cos, Tan, Asin, Acos, Atan}
use Rattle.rules.specs.Parse.{binops, unops, signed}
use Rattle.bits.specs.Reads.{charsAt}
use Rattle.nodes.specs.Words.{binopKind, unopKind, incdecKind, identKind, numberKind, stringKind, kindIn, lastIn, nameIn, opIn, posIn}
use Rattle.nodes.specs.Holds.{HoldsE, at-binop, at-unop, at-incdec, at-ident, at-number, at-string}
use Rattle.nodes.proofs.Words.{unpacked}
use Rattle.nodes.proofs.Table.{grows}
use Rattle.nodes.proofs.Exprs.{op-small, tag, kind-held, is-binop, is-unop, is-incdec, is-ident, is-number, is-string}
use Rattle.codegen.specs.Costs.{binopCost, unopCost}
use Rattle.laws.specs.Lists.{at-elem}
use Rattle.exprs.specs.Exprs.{exprCost}
use Rattle.nodes.proofs.Built.{chars-length}

-- ---- costs

pub binop-most : (o : Binop) → binopCost o ≤ 7
unfolding binopCost
binop-most And = omega arith
binop-most Or = omega arith
binop-most Add = omega arith
binop-most Sub = omega arith
binop-most Mul = omega arith
binop-most Div = omega arith
binop-most Mod = omega arith
binop-most Pow = omega arith
binop-most Eq = omega arith
binop-most Ne = omega arith
binop-most Le = omega arith
binop-most Lt = omega arith
binop-most Ge = omega arith
binop-most Gt = omega arith

pub unop-most : (o : Unop) → unopCost o ≤ 4
unfolding unopCost
unop-most Neg = omega arith
unop-most Not = omega arith
unop-most Abs = omega arith
unop-most Sqrt = omega arith
unop-most Fact = omega arith
unop-most Sin = omega arith
unop-most Cos = omega arith
unop-most Tan = omega arith
unop-most Asin = omega arith
unop-most Acos = omega arith
unop-most Atan = omega arith

-- at most nine instructions a node
pub expr-most : (e : Expr) → exprCost e ≤ instrsANode * (ofExpr e).nodes
unfolding exprCost ofExpr node both emptyTally
expr-most (binop o l r) = let a = expr-most l in let b = expr-most r in let c = binop-most o in omega arith
expr-most (unop o r) = let b = expr-most r in let c = unop-most o in omega arith
expr-most (Expr.incdec i x) = omega arith
expr-most (ident x) = omega arith
expr-most (number z) = omega arith
expr-most (string t) = omega arith

-- ---- what a test of a kind says

pub is-kind : {b : Bool} {a k : ℕ} → b ≡ eqb a k → b ≡ true → a ≡ k
is-kind e h = eqb-true _ _ (sym e ∙ h)

pub no-kind : {b : Bool} {a k : ℕ} → b ≡ eqb a k → b ≡ false → a ≡ k → ⊥
no-kind e h = eqb-false _ _ (sym e ∙ h)

-- ---- fields

-- where the expression ends
pub last-held : {t s : List ℕ} {m i j : ℕ} {e : Expr} → length s ≤ mostBytes → m ≤ 2 ^ nameBits → HoldsE t s m i e j → lastIn (get_or t i 0) ≡ j
unfolding binops unops
last-held a c (at-binop op o p w q l r) = let y = op-small binops op p in (unpacked _ _ _ _ _ _ _ (omega arith) w).last-is
last-held a c (at-unop op o p w q r) = let y = op-small unops op p in (unpacked _ _ _ _ _ _ _ (omega arith) w).last-is
last-held a c (at-incdec b f x p g) = (unpacked _ _ _ _ _ _ _ (omega arith) g.is).last-is
last-held a c (at-ident x l w k) = (unpacked _ _ _ _ _ _ _ (omega arith) w).last-is
last-held a c (at-number p z l w k q) = (unpacked _ _ _ _ _ _ _ (omega arith) w).last-is
last-held a c (at-string n p x l w y k q) = (unpacked _ _ _ _ _ _ _ (omega arith) w).last-is

-- ---- an operation's operands: what they count together, and the most that each costs

pub record Sum (l r e : Expr) : Type 0 where
  pub nodes : (ofExpr e).nodes ≡ 1 + (ofExpr l).nodes + (ofExpr r).nodes
  pub strings : (ofExpr e).strings ≡ (ofExpr l).strings + (ofExpr r).strings
  pub characters : (ofExpr e).characters ≡ (ofExpr l).characters + (ofExpr r).characters
  pub left-cost : exprCost l ≤ instrsANode * (ofExpr l).nodes
  pub right-cost : exprCost r ≤ instrsANode * (ofExpr r).nodes

pub binop-sum : {e l r : Expr} {o : Binop} → e ≡ binop o l r → Sum l r e
unfolding ofExpr node both
binop-sum {l = l} {r = r} h = rw h (record { nodes = omega arith; strings = refl; characters = refl; left-cost = expr-most l; right-cost = expr-most r })

pub record Over (r e : Expr) : Type 0 where
  pub nodes : (ofExpr e).nodes ≡ 1 + (ofExpr r).nodes
  pub strings : (ofExpr e).strings ≡ (ofExpr r).strings
  pub characters : (ofExpr e).characters ≡ (ofExpr r).characters
  pub cost : exprCost r ≤ instrsANode * (ofExpr r).nodes

pub unop-over : {e r : Expr} {o : Unop} → e ≡ unop o r → Over r e
unfolding ofExpr node
unop-over {r = r} h = rw h (record { nodes = omega arith; strings = refl; characters = refl; cost = expr-most r })

-- a Binop of the operator o, whose right operand begins at k
pub record BinopAt (t s : List ℕ) (m i : ℕ) (e : Expr) (j : ℕ) (o : Binop) (k : ℕ) : Type 0 where
  pub l : Expr
  pub r : Expr
  pub is : e ≡ binop o l r
  pub small : opIn (get_or t i 0) < 14
  pub left : HoldsE t s m (i + 1) l k
  pub right : HoldsE t s m k r j
  pub first : i + 1 < k
  pub second : k < j
  pub sum : Sum l r e

pub begins : {t s : List ℕ} {m i i' j : ℕ} {e : Expr} → i ≡ i' → HoldsE t s m i e j → HoldsE t s m i' e j
begins p h = rw p at h

pub ends : {t s : List ℕ} {m i j j' : ℕ} {e : Expr} → j ≡ j' → HoldsE t s m i e j → HoldsE t s m i e j'
ends p h = rw p at h

-- its word says which operator it is, and that of its left operand where the right one begins
pub binop-at : {t s : List ℕ} {m i j k : ℕ} {e : Expr} {o : Binop} → length s ≤ mostBytes → m ≤ 2 ^ nameBits → HoldsE t s m i e j → kindIn (get_or t i 0) ≡ binopKind → o ≡ get_or binops (opIn (get_or t i 0)) Gt → k ≡ lastIn (get_or t (i + 1) 0) → BinopAt t s m i e j o k
unfolding binops
binop-at {t} {i = i} a c h q u v =
    let b = is-binop h q in
    let y = op-small binops b.op b.pick in
    let f = unpacked binopKind b.op 0 0 _ 0 _ (omega arith) b.word in
    let l = begins b.next b.left in
    let z = sym (last-held a c l) ∙ sym v in
    let l' = ends z l in
    let r' = begins z b.right in
    let is = b.is ∙ ap (λ (o : Binop). binop o b.l b.r) (sym (at-elem binops b.op Gt b.o b.pick) ∙ ap (λ (k : ℕ). get_or binops k Gt) (sym f.op-is) ∙ sym u) in
    record {
      l = b.l;
      r = b.r;
      is = is;
      small = omega (arith, f.op-is);
      left = l';
      right = r';
      first = grows l';
      second = grows r';
      sum = binop-sum is;
    }

-- an Unop of the operator o
pub record UnopAt (t s : List ℕ) (m i : ℕ) (e : Expr) (j : ℕ) (o : Unop) : Type 0 where
  pub r : Expr
  pub is : e ≡ unop o r
  pub small : opIn (get_or t i 0) < 11
  pub operand : HoldsE t s m (i + 1) r j
  pub after : i + 1 < j
  pub over : Over r e

pub unop-at : {t s : List ℕ} {m i j : ℕ} {e : Expr} {o : Unop} → HoldsE t s m i e j → kindIn (get_or t i 0) ≡ unopKind → o ≡ get_or unops (opIn (get_or t i 0)) Atan → UnopAt t s m i e j o
unfolding unops
unop-at {t} {i = i} h q u =
    let b = is-unop h q in
    let y = op-small unops b.op b.pick in
    let f = unpacked unopKind b.op 0 0 _ 0 _ (omega arith) b.word in
    let r = begins b.next b.operand in
    let is = b.is ∙ ap (λ (o : Unop). unop o b.r) (sym (at-elem unops b.op Atan b.o b.pick) ∙ ap (λ (k : ℕ). get_or unops k Atan) (sym f.op-is) ∙ sym u) in
    record {
      r = b.r;
      is = is;
      small = omega (arith, f.op-is);
      operand = r;
      after = grows r;
      over = unop-over is;
    }

-- ---- the others, by their word w

pub record IncdecAt (w m : ℕ) (e : Expr) : Type 0 where
  pub is : e ≡ Expr.incdec (isOne (opIn w)) (nameIn w)
  pub known : nameIn w < m

pub incdec-at : {t s : List ℕ} {m i j w : ℕ} {e : Expr} → m ≤ 2 ^ nameBits → HoldsE t s m i e j → get_or t i 0 ≡ w → kindIn w ≡ incdecKind → IncdecAt w m e
incdec-at c h q k =
    let b = is-incdec h (rw q k) in
    let g = b.flag in
    let f = unpacked incdecKind b.b b.x 0 _ 0 _ (omega arith) (sym q ∙ g.is) in
    record { is = rw (f.op-is, f.name-is) b.is; known = rw f.name-is g.known }

pub record IdentAt (w m : ℕ) (e : Expr) : Type 0 where
  pub is : e ≡ ident (nameIn w)
  pub known : nameIn w < m

pub ident-at : {t s : List ℕ} {m i j w : ℕ} {e : Expr} → m ≤ 2 ^ nameBits → HoldsE t s m i e j → get_or t i 0 ≡ w → kindIn w ≡ identKind → IdentAt w m e
ident-at c h q k =
    let b = is-ident h (rw q k) in
    let g = b.known in
    let f = unpacked identKind 0 b.x 0 _ 0 _ (omega arith) (sym q ∙ b.word) in
    record { is = rw f.name-is b.is; known = rw f.name-is g }

pub record NumAt (s : List ℕ) (w : ℕ) (e : Expr) : Type 0 where
  pub is : e ≡ number (signed (spelled s numberBits (posIn w)))
  pub inside : posIn w + numberBits ≤ byteBits * length s

pub num-at : {t s : List ℕ} {m i j w : ℕ} {e : Expr} → length s ≤ mostBytes → HoldsE t s m i e j → get_or t i 0 ≡ w → kindIn w ≡ numberKind → NumAt s w e
num-at a h q k =
    let b = is-number h (rw q k) in
    let g = b.inside in
    let f = unpacked numberKind 0 0 b.p _ 0 _ (omega arith) (sym q ∙ b.word) in
    record { is = rw f.pos-is b.is; inside = rw f.pos-is g }

pub record StrAt (s : List ℕ) (w : ℕ) (e : Expr) : Type 0 where
  pub is : e ≡ string (charsAt s (nameIn w) (posIn w))
  pub few : nameIn w ≤ mostChars
  pub inside : posIn w + charBits * nameIn w ≤ byteBits * length s

pub str-at : {t s : List ℕ} {m i j w : ℕ} {e : Expr} → length s ≤ mostBytes → HoldsE t s m i e j → get_or t i 0 ≡ w → kindIn w ≡ stringKind → StrAt s w e
str-at a h q k =
    let b = is-string h (rw q k) in
    let g = b.inside in
    let y = b.few in
    let f = unpacked stringKind 0 b.n b.p _ 0 _ (omega arith) (sym q ∙ b.word) in
    record { is = rw (f.name-is, f.pos-is) b.is; few = omega (arith, f.name-is, y); inside = rw (f.name-is, f.pos-is) g }

-- what is none of the other kinds is a string
pub else-string : {t s : List ℕ} {m i j w : ℕ} {e : Expr} → HoldsE t s m i e j → get_or t i 0 ≡ w → (kindIn w ≡ binopKind → ⊥) → (kindIn w ≡ unopKind → ⊥) → (kindIn w ≡ incdecKind → ⊥) → (kindIn w ≡ identKind → ⊥) → (kindIn w ≡ numberKind → ⊥) → kindIn w ≡ stringKind
unfolding tag
else-string {t} {s} {m} {i} {j} {w} {e} h q a b c d f = by e (rw q at (kind-held h))
  where
    by : (x : Expr) → kindIn w ≡ tag x → kindIn w ≡ stringKind
    by (binop o l r) z = absurd (a z)
    by (unop o r) z = absurd (b z)
    by (Expr.incdec y x) z = absurd (c z)
    by (ident x) z = absurd (d z)
    by (number z) y = absurd (f y)
    by (string x) z = z

-- ---- counts

pub nodes-some : (e : Expr) → 1 ≤ (ofExpr e).nodes
unfolding ofExpr node both emptyTally
nodes-some (binop o l r) = omega arith
nodes-some (unop o r) = omega arith
nodes-some (Expr.incdec i x) = omega arith
nodes-some (ident x) = omega arith
nodes-some (number z) = omega arith
nodes-some (string t) = omega arith

pub record Text (n : ℕ) (e : Expr) : Type 0 where
  pub strings : (ofExpr e).strings ≡ 1
  pub characters : (ofExpr e).characters ≡ n

pub str-counts : {s : List ℕ} {w : ℕ} {e : Expr} → StrAt s w e → Text (nameIn w) e
unfolding ofExpr
str-counts {s} {w} b = rw b.is (record { strings = refl; characters = chars-length s (nameIn w) (posIn w) })
