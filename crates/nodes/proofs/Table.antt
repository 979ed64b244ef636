-- The node table: where two agree, they hold the same. Assumes nothing.
use mathlib.Core.Path.{◌≡◌, refl, ◌∙◌}
use mathlib.Core.List.{List}
use Prim.Native.Nat.{ℕ, ◌+◌, ◌≤◌, ◌<◌}
use native.Mathlib.Omega.{arith}
use lib.ListN.{length, get_or, set}
use lib.Seq.{get_or-set_same, get_or-set_other}
use Rattle.rules.specs.Tree.{Expr, Block}
use Rattle.nodes.specs.Holds.{HoldsE, HoldsB, Flag, at-incdec, at-binop, at-unop, at-ident, at-number, at-string, at-end, at-goto, at-ite, at-step, at-assign}
use Rattle.nodes.specs.Builds.{Agree}

pub agree-refl : {i j : ℕ} {t : List ℕ} → Agree i j t t
agree-refl = record { same = λ k a b. refl }

pub agree-part : {i j i' j' : ℕ} {t t' : List ℕ} → Agree i j t t' → i ≤ i' → j' ≤ j → Agree i' j' t t'
agree-part a h l = record { same = λ k x y. a.same k (omega arith) (omega arith) }

pub agree-trans : {i j : ℕ} {t u v : List ℕ} → Agree i j t u → Agree i j u v → Agree i j t v
agree-trans a b = record { same = λ k x y. b.same k x y ∙ a.same k x y }

-- a store at i keeps what is below and what is above
pub set-below : (t u : List ℕ) (i w : ℕ) → u ≡ set t i w → Agree 0 i t u
set-below t u i w e = record { same = λ k x y. rw e (get_or-set_other t i k w 0 (λ z. omega arith)) }

pub set-above : (t u : List ℕ) (i j w : ℕ) → u ≡ set t i w → Agree (i + 1) j t u
set-above t u i j w e = record { same = λ k x y. rw e (get_or-set_other t i k w 0 (λ z. omega arith)) }

pub set-here : (t u : List ℕ) (i w : ℕ) → u ≡ set t i w → i < length t → get_or u i 0 ≡ w
set-here t u i w e h = rw e (get_or-set_same t i w 0 h)

-- a tree takes at least one node, a list none or more
pub grows : {t s : List ℕ} {m i j : ℕ} {e : Expr} → HoldsE t s m i e j → i < j
grows (at-binop op o p w q l r) = let a = grows l in let b = grows r in omega arith
grows (at-unop op o p w q r) = let b = grows r in omega arith
grows (at-incdec b f x p q) = omega arith
grows (at-ident x l w k) = omega arith
grows (at-number p z l w k q) = omega arith
grows (at-string n p x l w y k q) = omega arith

pub moved-flag : {t t' : List ℕ} {k m i b x j l : ℕ} → Agree i l t t' → Flag k m t i b x j → j ≤ l → Flag k m t' i b x j
moved-flag {i = i} a f h = record { last = f.last; is = a.same i (omega arith) (omega arith) ∙ f.is; flag = f.flag; known = f.known }

pub moved : {t t' s : List ℕ} {m i j : ℕ} {e : Expr} → Agree i j t t' → HoldsE t s m i e j → HoldsE t' s m i e j
moved a (at-binop {i = i} {h = h} {j = j} {k = k} op o p w q l r) =
    let x = grows l in
    let y = grows r in
    at-binop op o p (a.same i (omega arith) (omega arith) ∙ w) q (moved (agree-part a (omega arith) (omega arith)) l) (moved (agree-part a (omega arith) (omega arith)) r)
moved a (at-unop {i = i} {h = h} {j = j} op o p w q r) =
    let y = grows r in
    at-unop op o p (a.same i (omega arith) (omega arith) ∙ w) q (moved (agree-part a (omega arith) (omega arith)) r)
moved a (at-incdec b f x p q) = at-incdec b f x p (moved-flag a q (omega arith))
moved a (at-ident {i = i} x l w k) = at-ident x l (a.same i (omega arith) (omega arith) ∙ w) k
moved a (at-number {i = i} p z l w k q) = at-number p z l (a.same i (omega arith) (omega arith) ∙ w) k q
moved a (at-string {i = i} n p x l w y k q) = at-string n p x l (a.same i (omega arith) (omega arith) ∙ w) y k q

pub grows-b : {t s : List ℕ} {m n i j : ℕ} {x : Block} → HoldsB t s m n i x j → i ≤ j
grows-b (at-end z e) = omega arith
grows-b (at-goto p w q e xs) = let a = grows e in let b = grows-b xs in omega arith
grows-b (at-ite a b v w p g f q e x y xs) = let h = grows e in let k = grows-b x in let l = grows-b y in let r = grows-b xs in omega arith
grows-b (at-step b f x p q g xs) = let r = grows-b xs in omega arith
grows-b (at-assign x op o p q w k r e xs) = let a = grows e in let b = grows-b xs in omega arith

pub moved-b : {t t' s : List ℕ} {m n i j : ℕ} {x : Block} → Agree i j t t' → HoldsB t s m n i x j → HoldsB t' s m n i x j
moved-b a (at-end z e) = at-end z e
moved-b a (at-goto {i = i} {l = l} p w q e xs) =
    let y = grows e in
    let z = grows-b xs in
    at-goto p (a.same i (omega arith) (omega arith) ∙ w) q (moved (agree-part a (omega arith) (omega arith)) e) (moved-b (agree-part a (omega arith) (omega arith)) xs)
moved-b a (at-ite {i = i} {h = h} {j = j} {j' = j'} {l = l} c d v w p g f q e x y xs) =
    let b = grows e in
    let k = grows-b x in
    let r = grows-b y in
    let z = grows-b xs in
    at-ite c d v w p (a.same i (omega arith) (omega arith) ∙ g) f q (moved (agree-part a (omega arith) (omega arith)) e) (moved-b (agree-part a (omega arith) (omega arith)) x)
    (moved-b (agree-part a (omega arith) (omega arith)) y) (moved-b (agree-part a (omega arith) (omega arith)) xs)
moved-b a (at-step {l = l} b f x p q g xs) =
    let z = grows-b xs in
    at-step b f x p q (moved-flag a g (omega arith)) (moved-b (agree-part a (omega arith) (omega arith)) xs)
moved-b a (at-assign {i = i} {l = l} x op o p q w k r e xs) =
    let y = grows e in
    let z = grows-b xs in
    at-assign x op o p q (a.same i (omega arith) (omega arith) ∙ w) k r (moved (agree-part a (omega arith) (omega arith)) e) (moved-b (agree-part a (omega arith) (omega arith)) xs)
