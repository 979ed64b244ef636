-- What a statement's word says, field by field; entries of lists. Assumes nothing.
use mathlib.Core.Path.{◌≡◌, refl, sym, ap, ◌∙◌}
use mathlib.Core.Bool.{Bool, false, cond}
use mathlib.Core.List.{List}
use Prim.Native.Nat.{ℕ, ◌+◌, ◌*◌, ◌-◌, ◌/◌, ◌%◌, ◌<◌, ◌≤◌, ◌^◌}
use native.Mathlib.Omega.{arith}
use lib.Dec.{eqb}
use lib.ListN.{length, get_or}
use borrow.Author.Tests.{eq-eqb, ne_eqb}
use Rattle.rules.specs.Constants.{mostBytes, nameBits}
use Rattle.rules.specs.Bits.{isOne}
use Rattle.rules.specs.Tree.{Block, end, goto, ite, assign, Expr, Assignop, PowTo, ofBlock, ofExpr, statement, node, both, emptyTally}
use Rattle.rules.specs.Parse.{assignops}
use Rattle.nodes.specs.Words.{iteKind, gotoKind, stepKind, assignKind, elseCount, elseWidth, kindIn, lastIn, nameIn, opIn, widthIn}
use Rattle.nodes.specs.Width.{width, orOne}
use Rattle.nodes.specs.Holds.{HoldsE, HoldsB, at-end, at-goto, at-ite, at-step, at-assign}
use Rattle.nodes.proofs.Words.{unpacked}
use Rattle.nodes.proofs.Table.{grows, grows-b}
use Rattle.nodes.proofs.Exprs.{op-small}
use Rattle.nodes.proofs.Blocks.{is-end, is-goto, is-ite, is-step, is-assign, tag, kind-held}
use Rattle.laws.specs.Lists.{at-elem}
use Rattle.exprs.proofs.Trees.{last-held, begins, ends, no-kind}
use Rattle.stmts.specs.Lists.{isEnd, entryBy, deep}

-- ---- entries

pub entry-same : {t s : List ℕ} {m l z : ℕ} {y : Block} (n a k : ℕ) → 0 < n → HoldsB t s m (n - 1) l y z → entryBy n a k ≡ cond (isEnd y) k a
unfolding entryBy
entry-same n a k h (at-end p q) = rw (eq-eqb n 1 (omega arith))
entry-same n a k h (at-goto p w q e xs) = rw (ne_eqb n 1 (λ z. omega arith))
entry-same n a k h (at-ite c d v u p w f q e x y xs) = rw (ne_eqb n 1 (λ z. omega arith))
entry-same n a k h (at-step b f x p q g xs) = rw (ne_eqb n 1 (λ z. omega arith))
entry-same n a k h (at-assign x op o p f w q r e xs) = rw (ne_eqb n 1 (λ z. omega arith))

pub empty-same : {t s : List ℕ} {m n l z : ℕ} {y : Block} → HoldsB t s m n l y z → eqb n 0 ≡ isEnd y
empty-same {n = n} (at-end p q) = eq-eqb n 0 p
empty-same {n = n} (at-goto p w q e xs) = ne_eqb n 0 (λ z. omega arith)
empty-same {n = n} (at-ite c d v u p w f q e x y xs) = ne_eqb n 0 (λ z. omega arith)
empty-same {n = n} (at-step b f x p q g xs) = ne_eqb n 0 (λ z. omega arith)
empty-same {n = n} (at-assign x op o p f w q r e xs) = ne_eqb n 0 (λ z. omega arith)

pub not-end : {t s : List ℕ} {m n l z : ℕ} {y : Block} → HoldsB t s m n l y z → (n ≡ 0 → ⊥) → isEnd y ≡ false
not-end {n = n} q h = sym (empty-same q) ∙ ne_eqb n 0 h

-- ---- one statement, by its word

held : {t s : List ℕ} {m n n' i i' z z' : ℕ} {x : Block} → n ≡ n' → i ≡ i' → z ≡ z' → HoldsB t s m n i x z → HoldsB t s m n' i' x z'
held p q r h = rw (p, q, r) at h

pub record GotoAt (t s : List ℕ) (m i : ℕ) (x : Block) (z : ℕ) : Type 0 where
  pub e : Expr
  pub is : x ≡ goto e end
  pub to : HoldsE t s m (i + 1) e z

pub goto-at : {t s : List ℕ} {m i z : ℕ} {x : Block} → HoldsB t s m 1 i x z → kindIn (get_or t i 0) ≡ gotoKind → GotoAt t s m i x z
goto-at h k =
    let b = is-goto (omega arith) h k in
    let c = b.count in
    let f = is-end b.others (omega arith) in
    record { e = b.e; is = b.is ∙ ap (goto b.e) f.is; to = ends f.here (begins b.next b.to) }

pub record StepAt (t : List ℕ) (m i : ℕ) (x : Block) : Type 0 where
  pub is : x ≡ Block.incdec (isOne (opIn (get_or t i 0))) (nameIn (get_or t i 0)) end
  pub known : nameIn (get_or t i 0) < m

pub step-at : {t s : List ℕ} {m i z : ℕ} {x : Block} → m ≤ 2 ^ nameBits → HoldsB t s m 1 i x z → kindIn (get_or t i 0) ≡ stepKind → StepAt t m i x
step-at a h k =
    let b = is-step (omega arith) h k in
    let c = b.count in
    let g = b.flag in
    let f = is-end b.others (omega arith) in
    let u = unpacked stepKind b.b b.y 0 _ 0 _ (omega arith) g.is in
    record { is = rw (u.op-is, u.name-is) (b.is ∙ ap (Block.incdec (isOne b.b) b.y) f.is); known = rw u.name-is g.known }

pub record AssignAt (t s : List ℕ) (m i : ℕ) (x : Block) (z : ℕ) : Type 0 where
  pub e : Expr
  pub is : x ≡ assign (nameIn (get_or t i 0)) (get_or assignops (opIn (get_or t i 0)) PowTo) e end
  pub known : nameIn (get_or t i 0) < m
  pub small : opIn (get_or t i 0) < 7
  pub value : HoldsE t s m (i + 1) e z

pub assign-at : {t s : List ℕ} {m i z : ℕ} {x : Block} → m ≤ 2 ^ nameBits → HoldsB t s m 1 i x z → kindIn (get_or t i 0) ≡ assignKind → AssignAt t s m i x z
unfolding assignops
assign-at a h k =
    let b = is-assign (omega arith) h k in
    let c = b.count in
    let d = op-small assignops b.op b.pick in
    let g = b.known in
    let f = is-end b.others (omega arith) in
    let u = unpacked assignKind b.op b.y 0 _ 0 _ (omega arith) b.word in
    record {
      e = b.e;
      is = rw (u.op-is, u.name-is, at-elem assignops b.op PowTo b.o b.pick) (b.is ∙ ap (assign b.y b.o b.e) f.is);
      known = rw u.name-is g;
      small = omega (arith, u.op-is);
      value = ends f.here (begins b.next b.value);
    }

-- what an Ite counts
pub record Sum (e : Expr) (x y b : Block) : Type 0 where
  pub nodes : (ofBlock b).nodes ≡ 1 + (ofExpr e).nodes + (ofBlock x).nodes + (ofBlock y).nodes
  pub strings : (ofBlock b).strings ≡ (ofExpr e).strings + (ofBlock x).strings + (ofBlock y).strings
  pub characters : (ofBlock b).characters ≡ (ofExpr e).characters + (ofBlock x).characters + (ofBlock y).characters
  pub widths : width b ≡ 2 + orOne (width x) + orOne (width y)
  pub deep-then : deep x < deep b
  pub deep-else : deep y < deep b

pub ite-sum : (e : Expr) (x y b : Block) → b ≡ ite e x y end → Sum e x y b
unfolding ofBlock statement node both emptyTally width deep
ite-sum e x y b q = rw q (record { nodes = omega arith; strings = omega arith; characters = omega arith; widths = omega arith; deep-then = omega arith; deep-else = omega arith })

pub record IteAt (t s : List ℕ) (m i : ℕ) (x : Block) (z : ℕ) : Type 0 where
  pub e : Expr
  pub yes : Block
  pub no : Block
  pub mid : ℕ
  pub is : x ≡ ite e yes no end
  pub test : HoldsE t s m (i + 1) e (lastIn (get_or t (i + 1) 0))
  pub then-held : HoldsB t s m (nameIn (get_or t i 0)) (lastIn (get_or t (i + 1) 0)) yes mid
  pub else-held : HoldsB t s m (elseCount (get_or t i 0)) mid no z
  pub few-then : nameIn (get_or t i 0) < 64
  pub few-else : elseCount (get_or t i 0) < 64
  pub width-then : widthIn (get_or t i 0) ≡ orOne (width yes)
  pub width-else : elseWidth (get_or t i 0) ≡ orOne (width no)
  pub first : i + 1 < lastIn (get_or t (i + 1) 0)
  pub second : lastIn (get_or t (i + 1) 0) ≤ mid
  pub third : mid ≤ z
  pub sum : Sum e yes no x

pub ite-at : {t s : List ℕ} {m i z : ℕ} {x : Block} → length s ≤ mostBytes → m ≤ 2 ^ nameBits → HoldsB t s m 1 i x z → kindIn (get_or t i 0) ≡ iteKind → IteAt t s m i x z
ite-at a c h k =
    let b = is-ite (omega arith) h k in
    let n = b.count in
    let f = is-end b.others (omega arith) in
    let l = b.lists in
    let l1 = l.few-then in
    let l2 = l.few-else in
    let l3 = l.small-then in
    let l4 = l.small-else in
    let u = unpacked iteKind 0 b.a (b.b + 64 * b.w) _ b.v _ (omega arith) b.word in
    let e = begins b.next b.test in
    let q = sym (last-held a c e) in
    let p1 : (b.b + 64 * b.w) % 64 ≡ b.b = omega arith in
    let p2 : (b.b + 64 * b.w) / 64 ≡ b.w = omega arith in
    let e' = ends q e in
    let t' = held (sym u.name-is) q refl b.then in
    let f' = held (sym (ap (λ (j : ℕ). j % 64) u.pos-is ∙ p1)) refl f.here b.else in
    let o = b.is ∙ ap (ite b.e b.th b.el) f.is in
    record {
      e = b.e;
      yes = b.th;
      no = b.el;
      mid = b.third;
      is = o;
      test = e';
      then-held = t';
      else-held = f';
      few-then = rw u.name-is l1;
      few-else = rw (ap (λ (j : ℕ). j % 64) u.pos-is ∙ p1) l2;
      width-then = u.width-is ∙ l.width-then;
      width-else = ap (λ (j : ℕ). j / 64) u.pos-is ∙ (p2 ∙ l.width-else);
      first = grows e';
      second = grows-b t';
      third = grows-b f';
      sum = ite-sum b.e b.th b.el _ o;
    }

-- what is none of the other kinds is an Ite
pub else-ite : {t s : List ℕ} {m i z : ℕ} {x : Block} → HoldsB t s m 1 i x z → (kindIn (get_or t i 0) ≡ gotoKind → ⊥) → (kindIn (get_or t i 0) ≡ stepKind → ⊥) → (kindIn (get_or t i 0) ≡ assignKind → ⊥) → kindIn (get_or t i 0) ≡ iteKind
unfolding tag
else-ite {t} {i = i} {x = x} h a b c = by x (isEnd x) refl (not-end h (λ z. omega arith)) (kind-held (omega arith) h)
  where
    by : (y : Block) (v : Bool) → v ≡ isEnd y → isEnd y ≡ false → kindIn (get_or t i 0) ≡ tag y + 8 → kindIn (get_or t i 0) ≡ iteKind
    by end v o n z = absurd (let q : ◌≡◌ {A = ℕ} 0 1 = cc in omega arith)
    by (goto e xs) v o n z = absurd (a z)
    by (ite e y w xs) v o n z = z
    by (Block.incdec f y xs) v o n z = absurd (b z)
    by (assign y o1 e xs) v o n z = absurd (c z)

pub else-at : {t s : List ℕ} {m i z : ℕ} {x : Block} {a b c : Bool} → length s ≤ mostBytes → m ≤ 2 ^ nameBits → HoldsB t s m 1 i x z
    → a ≡ eqb (kindIn (get_or t i 0)) gotoKind → a ≡ false → b ≡ eqb (kindIn (get_or t i 0)) stepKind → b ≡ false → c ≡ eqb (kindIn (get_or t i 0)) assignKind → c ≡ false → IteAt t s m i x z
else-at l m h a p b q c r = ite-at l m h (else-ite h (no-kind a p) (no-kind b q) (no-kind c r))

-- ---- what the statement counts

-- a statement with an expression and no lists, and one without either
pub record One (n s h : ℕ) (b : Block) : Type 0 where
  pub nodes : (ofBlock b).nodes ≡ 1 + n
  pub strings : (ofBlock b).strings ≡ s
  pub characters : (ofBlock b).characters ≡ h
  pub widths : width b ≡ 1

pub goto-sum : (e : Expr) (b : Block) → b ≡ goto e end → One (ofExpr e).nodes (ofExpr e).strings (ofExpr e).characters b
unfolding ofBlock statement node both emptyTally width
goto-sum e b q = rw q (record { nodes = omega arith; strings = omega arith; characters = omega arith; widths = omega arith })

pub assign-sum : (x : ℕ) (o : Assignop) (e : Expr) (b : Block) → b ≡ assign x o e end → One (ofExpr e).nodes (ofExpr e).strings (ofExpr e).characters b
unfolding ofBlock statement node both emptyTally width
assign-sum x o e b q = rw q (record { nodes = omega arith; strings = omega arith; characters = omega arith; widths = omega arith })

pub step-sum : (f : Bool) (x : ℕ) (b : Block) → b ≡ Block.incdec f x end → One 0 0 0 b
unfolding ofBlock statement node both emptyTally width
step-sum f x b q = rw q (record { nodes = omega arith; strings = omega arith; characters = omega arith; widths = omega arith })
