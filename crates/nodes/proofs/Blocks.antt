-- What a node's word says of the statement that is held there. Assumes nothing.
use mathlib.Core.Path.{◌≡◌, refl, sym, ap}
use mathlib.Core.Bool.{Bool}
use mathlib.Core.List.{List}
use mathlib.Core.Option.{some}
use Prim.Native.Nat.{ℕ, zero, suc, ◌+◌, ◌<◌}
use native.Mathlib.Omega.{arith}
use lib.ListN.{get_or, get_elem?}
use Rattle.rules.specs.Bits.{isOne}
use Rattle.rules.specs.Tree.{Assignop, Expr, Block, goto, ite, assign, end}
use Rattle.rules.specs.Parse.{assignops}
use Rattle.nodes.specs.Words.{wordOf, iteWord, iteKind, gotoKind, stepKind, assignKind, kindIn}
use Rattle.nodes.specs.Holds.{HoldsE, HoldsB, Flag, Lists, at-end, at-goto, at-ite, at-step, at-assign}
use Rattle.nodes.proofs.Words.{kind-of}

-- ---- the kind of the first statement

-- as the file numbers it; a word's is 8 more
unfoldable pub tag : Block → ℕ
tag (goto e s) = 0
tag (ite e x y s) = 1
tag (Block.incdec f x s) = 2
tag (assign x o e s) = 3
tag end = 4

pub kind-held : {t s : List ℕ} {m n i z : ℕ} {x : Block} → 0 < n → HoldsB t s m n i x z → kindIn (get_or t i 0) ≡ tag x + 8
unfolding tag
kind-held h (at-end p q) = absurd (omega arith)
kind-held h (at-goto p w q e xs) = kind-of _ _ _ _ _ _ _ (omega arith) w
kind-held h (at-ite a b v u p w f q e x y xs) = kind-of _ _ _ _ _ _ _ (omega arith) w
kind-held h (at-step b f x p q g xs) = kind-of _ _ _ _ _ _ _ (omega arith) g.is
kind-held h (at-assign x op o p f w k q e xs) = kind-of _ _ _ _ _ _ _ (omega arith) w

-- ---- by the word: one record a kind

pub record IsEnd (x : Block) (i z : ℕ) : Type 0 where
  pub is : x ≡ end
  pub here : i ≡ z

pub is-end : {t s : List ℕ} {m n i z : ℕ} {x : Block} → HoldsB t s m n i x z → n ≡ 0 → IsEnd x i z
is-end (at-end p q) h = record { is = refl; here = q }
is-end (at-goto p w q e xs) h = absurd (omega arith)
is-end (at-ite a b v u p w f q e x y xs) h = absurd (omega arith)
is-end (at-step b f x p q g xs) h = absurd (omega arith)
is-end (at-assign x op o p f w k q e xs) h = absurd (omega arith)

pub record IsGoto (t s : List ℕ) (m n i : ℕ) (x : Block) (z : ℕ) : Type 0 where
  pub e : Expr
  pub rest : Block
  pub k : ℕ
  pub first : ℕ
  pub last : ℕ
  pub is : x ≡ goto e rest
  pub count : n ≡ k + 1
  pub word : get_or t i 0 ≡ wordOf gotoKind 0 0 0 last 0
  pub next : first ≡ i + 1
  pub to : HoldsE t s m first e last
  pub others : HoldsB t s m k last rest z

pub record IsIte (t s : List ℕ) (m n i : ℕ) (x : Block) (z : ℕ) : Type 0 where
  pub e : Expr
  pub th : Block
  pub el : Block
  pub rest : Block
  pub a : ℕ
  pub b : ℕ
  pub v : ℕ
  pub w : ℕ
  pub k : ℕ
  pub first : ℕ
  pub second : ℕ
  pub third : ℕ
  pub last : ℕ
  pub is : x ≡ ite e th el rest
  pub count : n ≡ k + 1
  pub word : get_or t i 0 ≡ iteWord a b v w last
  pub lists : Lists a b v w th el
  pub next : first ≡ i + 1
  pub test : HoldsE t s m first e second
  pub then : HoldsB t s m a second th third
  pub else : HoldsB t s m b third el last
  pub others : HoldsB t s m k last rest z

pub record IsStep (t s : List ℕ) (m n i : ℕ) (x : Block) (z : ℕ) : Type 0 where
  pub b : ℕ
  pub y : ℕ
  pub rest : Block
  pub k : ℕ
  pub last : ℕ
  pub is : x ≡ Block.incdec (isOne b) y rest
  pub count : n ≡ k + 1
  pub flag : Flag stepKind m t i b y last
  pub others : HoldsB t s m k last rest z

pub record IsAssign (t s : List ℕ) (m n i : ℕ) (x : Block) (z : ℕ) : Type 0 where
  pub y : ℕ
  pub op : ℕ
  pub o : Assignop
  pub e : Expr
  pub rest : Block
  pub k : ℕ
  pub first : ℕ
  pub last : ℕ
  pub is : x ≡ assign y o e rest
  pub count : n ≡ k + 1
  pub pick : get_elem? assignops op ≡ some o
  pub word : get_or t i 0 ≡ wordOf assignKind op y 0 last 0
  pub known : y < m
  pub next : first ≡ i + 1
  pub value : HoldsE t s m first e last
  pub others : HoldsB t s m k last rest z

-- what is held where the file's kind is k
abbrev AtKind : List ℕ → List ℕ → ℕ → ℕ → ℕ → Block → ℕ → ℕ → Type 0
AtKind t s m n i x z zero = IsGoto t s m n i x z
AtKind t s m n i x z (suc zero) = IsIte t s m n i x z
AtKind t s m n i x z (suc (suc zero)) = IsStep t s m n i x z
AtKind t s m n i x z (suc (suc (suc zero))) = IsAssign t s m n i x z
AtKind t s m n i x z (suc (suc (suc (suc k)))) = ⊥

seen : {t s : List ℕ} {m n i z : ℕ} {x : Block} → 0 < n → HoldsB t s m n i x z → AtKind t s m n i x z (tag x)
unfolding tag
seen h (at-end p q) = absurd (omega arith)
seen h (at-goto p w q e xs) = record { e = _; rest = _; k = _; first = _; last = _; is = refl; count = p; word = w; next = q; to = e; others = xs }
seen h (at-ite a b v u p w f q e x y xs) = record { e = _; th = _; el = _; rest = _; a = a; b = b; v = v; w = u; k = _; first = _; second = _; third = _; last = _; is = refl; count = p; word = w; lists = f; next = q; test = e; then = x; else = y; others = xs }
seen h (at-step {xs = r} b f x p q g xs) = record { b = b; y = x; rest = _; k = _; last = _; is = ap (λ (y : Bool). Block.incdec y x r) (sym q); count = p; flag = g; others = xs }
seen h (at-assign x op o p f w k q e xs) = record { y = x; op = op; o = o; e = _; rest = _; k = _; first = _; last = _; is = refl; count = p; pick = f; word = w; known = k; next = q; value = e; others = xs }

at-kind : {t s : List ℕ} {m n i z : ℕ} {x : Block} (k : ℕ) → 0 < n → HoldsB t s m n i x z → kindIn (get_or t i 0) ≡ k + 8 → AtKind t s m n i x z k
at-kind {x = x} k h b e =
    let f = kind-held h b in
    let g : tag x ≡ k = omega arith in
    rw g at (seen h b)

pub is-goto : {t s : List ℕ} {m n i z : ℕ} {x : Block} → 0 < n → HoldsB t s m n i x z → kindIn (get_or t i 0) ≡ gotoKind → IsGoto t s m n i x z
is-goto h b e = at-kind 0 h b e

pub is-ite : {t s : List ℕ} {m n i z : ℕ} {x : Block} → 0 < n → HoldsB t s m n i x z → kindIn (get_or t i 0) ≡ iteKind → IsIte t s m n i x z
is-ite h b e = at-kind 1 h b e

pub is-step : {t s : List ℕ} {m n i z : ℕ} {x : Block} → 0 < n → HoldsB t s m n i x z → kindIn (get_or t i 0) ≡ stepKind → IsStep t s m n i x z
is-step h b e = at-kind 2 h b e

pub is-assign : {t s : List ℕ} {m n i z : ℕ} {x : Block} → 0 < n → HoldsB t s m n i x z → kindIn (get_or t i 0) ≡ assignKind → IsAssign t s m n i x z
is-assign h b e = at-kind 3 h b e
