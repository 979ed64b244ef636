-- A list in the node table: its first statement and the others. Assumes nothing.
use mathlib.Core.Path.{◌≡◌, refl, sym, ap, ◌∙◌}
use mathlib.Core.Bool.{Bool, false}
use mathlib.Core.List.{List}
use Prim.Native.Nat.{ℕ, ◌+◌, ◌*◌, ◌-◌, ◌/◌, ◌<◌, ◌≤◌, ◌^◌}
use native.Mathlib.Omega.{arith}
use lib.ListN.{length, get_or}
use borrow.Author.Tests.{eq-eqb, ne_eqb}
use Rattle.rules.specs.Constants.{mostBytes, nameBits}
use Rattle.rules.specs.Tree.{Block, end, ite, assign, ofBlock, statement, node, both, emptyTally}
use Rattle.rules.specs.Parse.{assignops}
use Rattle.nodes.specs.Words.{iteKind, gotoKind, stepKind, assignKind, elseWidth, kindIn, lastIn, widthIn}
use Rattle.nodes.specs.Width.{width}
use Rattle.nodes.specs.Holds.{HoldsB, at-end, at-goto, at-ite, at-step, at-assign}
use Rattle.nodes.proofs.Words.{unpacked}
use Rattle.nodes.proofs.Blocks.{is-end}
use Rattle.nodes.proofs.Table.{grows, grows-b}
use Rattle.nodes.proofs.Exprs.{op-small}
use Rattle.stmts.specs.Lists.{only, rest, onwardB, isEnd, deep, madeBy, linkedBy, Held}

-- what parts count, and how wide and deep they are
pub record Parts (x : Block) : Type 0 where
  pub nodes : (ofBlock x).nodes ≡ (ofBlock (only x)).nodes + (ofBlock (rest x)).nodes
  pub strings : (ofBlock x).strings ≡ (ofBlock (only x)).strings + (ofBlock (rest x)).strings
  pub characters : (ofBlock x).characters ≡ (ofBlock (only x)).characters + (ofBlock (rest x)).characters
  pub widths : width x ≡ width (only x) + width (rest x)
  pub first-deep : deep (only x) ≤ deep x
  pub rest-deep : deep (rest x) ≤ deep x

pub parts : (x : Block) → Parts x
unfolding ofBlock statement node both emptyTally width deep only rest
parts end = record { nodes = refl; strings = refl; characters = refl; widths = refl; first-deep = omega arith; rest-deep = omega arith }
parts (Block.goto e xs) = record { nodes = omega arith; strings = omega arith; characters = omega arith; widths = omega arith; first-deep = omega arith; rest-deep = omega arith }
parts (ite c t f xs) = record { nodes = omega arith; strings = omega arith; characters = omega arith; widths = omega arith; first-deep = omega arith; rest-deep = omega arith }
parts (Block.incdec i x xs) = record { nodes = omega arith; strings = omega arith; characters = omega arith; widths = omega arith; first-deep = omega arith; rest-deep = omega arith }
parts (assign x o e xs) = record { nodes = omega arith; strings = omega arith; characters = omega arith; widths = omega arith; first-deep = omega arith; rest-deep = omega arith }

-- the first statement ends where its word says
pub record Split (t s : List ℕ) (m n i : ℕ) (x : Block) (z : ℕ) : Type 0 where
  pub head : HoldsB t s m 1 i (only x) (lastIn (get_or t i 0))
  pub tail : HoldsB t s m (n - 1) (lastIn (get_or t i 0)) (rest x) z
  pub some : isEnd x ≡ false
  pub made : madeBy (get_or t i 0) ≡ width (only x)
  pub linked : (l : Bool) → linkedBy (get_or t i 0) l ≡ onwardB l x
  pub first : i < lastIn (get_or t i 0)
  pub second : lastIn (get_or t i 0) ≤ z

pub counts : {t s : List ℕ} {m n n' i z : ℕ} {x : Block} → n ≡ n' → HoldsB t s m n i x z → HoldsB t s m n' i x z
counts p h = rw p at h

pub starts : {t s : List ℕ} {m n i i' z : ℕ} {x : Block} → i ≡ i' → HoldsB t s m n i x z → HoldsB t s m n i' x z
starts p h = rw p at h

ends : {t s : List ℕ} {m n i z z' : ℕ} {x : Block} → z ≡ z' → HoldsB t s m n i x z → HoldsB t s m n i x z'
ends p h = rw p at h

made-other : (w k : ℕ) → kindIn w ≡ k → (k ≡ iteKind → ⊥) → madeBy w ≡ 1
unfolding madeBy
made-other w k e h = rw (ne_eqb (kindIn w) iteKind (λ q. h (sym e ∙ q)))

made-ite : (w v u : ℕ) → kindIn w ≡ iteKind → widthIn w ≡ v → elseWidth w ≡ u → madeBy w ≡ 2 + v + u
unfolding madeBy
made-ite w v u e p q = rw (eq-eqb (kindIn w) iteKind e, p, q)

linked-goto : (w : ℕ) → kindIn w ≡ gotoKind → (l : Bool) → linkedBy w l ≡ false
unfolding linkedBy
linked-goto w e l = rw (eq-eqb (kindIn w) gotoKind e)

linked-other : (w k : ℕ) → kindIn w ≡ k → (k ≡ gotoKind → ⊥) → (l : Bool) → linkedBy w l ≡ l
unfolding linkedBy
linked-other w k e h l = rw (ne_eqb (kindIn w) gotoKind (λ q. h (sym e ∙ q)))

pub split : {t s : List ℕ} {m n i z : ℕ} {x : Block} → length s ≤ mostBytes → m ≤ 2 ^ nameBits → 0 < n → HoldsB t s m n i x z → Split t s m n i x z
unfolding only rest width assignops
split a c h (at-end p q) = absurd (omega arith)
split a c h (at-goto {i = i} p w q e xs) =
    let u = unpacked gotoKind 0 0 0 _ 0 _ (omega arith) w in
    let l = sym u.last-is in
    let g = grows e in
    let y = grows-b xs in
    record {
      head = at-goto refl w q e (at-end refl l);
      tail = starts l (counts (omega arith) xs);
      some = refl;
      made = made-other _ _ u.kind-is (λ r. omega arith);
      linked = linked-goto _ u.kind-is;
      first = omega (arith, u.last-is);
      second = omega (arith, u.last-is);
    }
split a c h (at-ite n k v b p w f q e x y xs) =
    let r = f.few-then in
    let u = unpacked iteKind 0 n (k + 64 * b) _ v _ (omega arith) w in
    let l = sym u.last-is in
    let g = grows e in
    let g1 = grows-b x in
    let g2 = grows-b y in
    let g3 = grows-b xs in
    let d = f.few-else in
    let o : (k + 64 * b) / 64 ≡ b = omega arith in
    record {
      head = at-ite n k v b refl w f q e x (ends refl y) (at-end refl l);
      tail = starts l (counts (omega arith) xs);
      some = refl;
      made = made-ite _ v b u.kind-is u.width-is (ap (λ (j : ℕ). j / 64) u.pos-is ∙ o) ∙ omega (arith, f.width-then, f.width-else);
      linked = linked-other _ _ u.kind-is (λ z. omega arith);
      first = omega (arith, u.last-is);
      second = omega (arith, u.last-is);
    }
split a c h (at-step b f y p q g xs) =
    let u = unpacked stepKind b y 0 _ 0 _ (omega arith) g.is in
    let l = sym u.last-is in
    let g3 = grows-b xs in
    record {
      head = at-step b f y refl q g (at-end refl l);
      tail = starts l (counts (omega arith) xs);
      some = refl;
      made = made-other _ _ u.kind-is (λ r. omega arith);
      linked = linked-other _ _ u.kind-is (λ r. omega arith);
      first = omega (arith, u.last-is);
      second = omega (arith, u.last-is);
    }
split a c h (at-assign y op o p b w k q e xs) =
    let d = op-small assignops op b in
    let u = unpacked assignKind op y 0 _ 0 _ (omega arith) w in
    let l = sym u.last-is in
    let g = grows e in
    let g3 = grows-b xs in
    record {
      head = at-assign y op o refl b w k q e (at-end refl l);
      tail = starts l (counts (omega arith) xs);
      some = refl;
      made = made-other _ _ u.kind-is (λ r. omega arith);
      linked = linked-other _ _ u.kind-is (λ r. omega arith);
      first = omega (arith, u.last-is);
      second = omega (arith, u.last-is);
    }

-- ---- a held list: its first statement and the others are held, and it is held at any equal node and of any equal count

module _ {s t : List ℕ} {i n depth : ℕ} (p : Held s t i n depth) where
  pub cut : 0 < n → Split t s p.known n i p.block p.last
  cut h = split p.short p.few h p.held

  abbrev pub first : 0 < n → Held s t i 1 depth
  first h =
      let sp = cut h in
      record { known = p.known; block = only p.block; last = lastIn (get_or t i 0); held = sp.head; inside = omega (arith, p.inside, sp.second); short = p.short; few = p.few; shallow = omega (arith, p.shallow, (parts p.block).first-deep) }

  abbrev pub others : 0 < n → Held s t (lastIn (get_or t i 0)) (n - 1) depth
  others h = record { known = p.known; block = rest p.block; last = p.last; held = (cut h).tail; inside = p.inside; short = p.short; few = p.few; shallow = omega (arith, p.shallow, (parts p.block).rest-deep) }

  abbrev pub moved : {k : ℕ} → k ≡ i → Held s t k n depth
  moved e = record { known = p.known; block = p.block; last = p.last; held = starts (sym e) p.held; inside = p.inside; short = p.short; few = p.few; shallow = p.shallow }

  abbrev pub counted : {k : ℕ} → k ≡ n → Held s t i k depth
  counted e = record { known = p.known; block = p.block; last = p.last; held = counts (sym e) p.held; inside = p.inside; short = p.short; few = p.few; shallow = p.shallow }

-- a list of one statement is that statement
pub one-only : {t s : List ℕ} {m i z : ℕ} {x : Block} → HoldsB t s m 1 i x z → only x ≡ x
unfolding only
one-only (at-end p q) = refl
one-only (at-goto p w q e xs) = rw (is-end xs (omega arith)).is
one-only (at-ite n k v b p w f q e x y xs) = rw (is-end xs (omega arith)).is
one-only (at-step b f y p q g xs) = rw (is-end xs (omega arith)).is
one-only (at-assign y op o p b w k q e xs) = rw (is-end xs (omega arith)).is
