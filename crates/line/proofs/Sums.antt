-- The instructions of an expression are those of its nodes. Assumes nothing.
use mathlib.Core.Path.{◌≡◌, refl, sym, ap, ◌∙◌}
use mathlib.Core.Bool.{Bool, false}
use mathlib.Core.List.{List}
use Prim.Native.Nat.{ℕ, zero, suc, ◌+◌, ◌-◌, ◌≤◌, ◌<◌, ◌^◌}
use native.Mathlib.Omega.{arith}
use lib.ListN.{length, get_or, take, drop}
use Rattle.std.specs.List.{sum_by}
use Rattle.std.proofs.lemmas.List.{drop_more}
use Rattle.std.proofs.lemmas.List.Sums.{sum_by-cons}
use Rattle.rules.specs.Constants.{mostBytes, nameBits}
use Rattle.rules.specs.Tree.{Expr, Gt, Atan, Binop, Unop, Block, end, ite, assign}
use Rattle.rules.specs.Parse.{binops, unops}
use Rattle.nodes.specs.Words.{binopKind, unopKind, incdecKind, identKind, numberKind, stringKind, gotoKind, stepKind, assignKind, iteKind, kindIn, lastIn, nameIn, opIn}
use Rattle.nodes.proofs.Blocks.{is-end, is-step, tag, kind-held}
use Rattle.stmts.specs.Lists.{isEnd, only}
use Rattle.stmts.proofs.Splits.{split}
use Rattle.stmts.proofs.Places.{goto-at, step-at, assign-at, ite-at, empty-same, not-end}
use Rattle.nodes.specs.Holds.{HoldsE, HoldsB, at-binop, at-unop, at-incdec, at-ident, at-number, at-string}
use Rattle.nodes.proofs.Words.{unpacked}
use Rattle.nodes.proofs.Table.{grows}
use Rattle.nodes.proofs.Exprs.{op-small}
use Rattle.codegen.specs.Costs.{binopCost, unopCost}
use Rattle.laws.specs.Lists.{at-elem}
use Rattle.exprs.specs.Exprs.{exprCost}
use Rattle.stmts.specs.Makes.{jumpCost}
use Rattle.stmts.specs.Parts.{ownCost}
use Rattle.line.specs.Costs.{kindCost, nodeCost, costs}

-- ---- ranges

-- by the nodes themselves
pub costs_sum : (t : List ℕ) (i n : ℕ) → i + n ≤ length t → costs t i n ≡ sum_by nodeCost (take n (drop i t))
unfolding costs
costs_sum t i zero h = refl
costs_sum t i (suc n) h =
    let d = drop_more t i 0 (omega arith) in
    let e = costs_sum t (i + 1) n (omega arith) in
    rw (d, sum_by-cons nodeCost (get_or t i 0) (take n (drop (i + 1) t)), e) refl

pub costs-both : (t : List ℕ) (i a b : ℕ) → costs t i (a + b) ≡ costs t i a + costs t (i + a) b
unfolding costs
costs-both t i zero b =
    let e : 0 + b ≡ b = omega arith in
    let f : i + 0 ≡ i = omega arith in
    rw (e, f) (omega arith)
costs-both t i (suc a) b =
    let h = costs-both t (i + 1) a b in
    let e : suc a + b ≡ suc (a + b) = omega arith in
    let f : i + suc a ≡ i + 1 + a = omega arith in
    rw (e, f) (omega arith)

-- node i, then the nodes from i + 1 to j and from j to k
node-two : (t : List ℕ) (i j k : ℕ) → i + 1 ≤ j → j ≤ k → costs t i (k - i) ≡ nodeCost (get_or t i 0) + costs t (i + 1) (j - (i + 1)) + costs t j (k - j)
unfolding costs
node-two t i j k p q =
    let e : k - i ≡ suc (j - (i + 1) + (k - j)) = omega arith in
    let f : i + 1 + (j - (i + 1)) ≡ j = omega arith in
    let h = costs-both t (i + 1) (j - (i + 1)) (k - j) in
    rw e (omega (arith, h, ap (λ (x : ℕ). costs t x (k - j)) f))

node-one : (t : List ℕ) (i j : ℕ) → j ≡ i + 1 → costs t i (j - i) ≡ nodeCost (get_or t i 0)
unfolding costs
node-one t i j p = let e : j - i ≡ suc 0 = omega arith in rw e (omega arith)

pub nothing : (t : List ℕ) (j : ℕ) → costs t j (j - j) ≡ 0
unfolding costs
nothing t j = let e : j - j ≡ 0 = omega arith in rw e

-- ---- expressions

cost-of : (w k o a c : ℕ) → kindIn w ≡ k → opIn w ≡ o → nameIn w ≡ a → kindCost k o a ≡ c → nodeCost w ≡ c
unfolding nodeCost
cost-of w k o a c p q r e = rw (p, q, r) e

pub expr-costs : {t s : List ℕ} {m i j : ℕ} {e : Expr} → length s ≤ mostBytes → m ≤ 2 ^ nameBits → HoldsE t s m i e j → costs t i (j - i) ≡ exprCost e
unfolding binops unops exprCost kindCost
expr-costs {t} {i = i} a c (at-binop {h = h} {j = j} {k = k} op o p w q l r) =
    let y = op-small binops op p in
    let u = unpacked binopKind op 0 0 _ 0 _ (omega arith) w in
    let g1 = grows l in
    let g2 = grows r in
    let x1 = expr-costs a c l in
    let x2 = expr-costs a c r in
    let z = cost-of _ binopKind op 0 (2 + binopCost o) u.kind-is u.op-is u.name-is (ap (λ (b : Binop). 2 + binopCost b) (at-elem binops op Gt o p)) in
    omega (arith, node-two t i j k (omega arith) (omega arith), ap (λ (n : ℕ). costs t n (j - n)) q)
expr-costs {t} {i = i} a c (at-unop {h = h} {j = j} op o p w q r) =
    let y = op-small unops op p in
    let u = unpacked unopKind op 0 0 _ 0 _ (omega arith) w in
    let g2 = grows r in
    let x2 = expr-costs a c r in
    let z = cost-of _ unopKind op 0 (1 + unopCost o) u.kind-is u.op-is u.name-is (ap (λ (b : Unop). 1 + unopCost b) (at-elem unops op Atan o p)) in
    let n0 : costs t j (j - j) ≡ 0 = nothing t j in
    omega (arith, node-two t i j j (omega arith) (omega arith), ap (λ (n : ℕ). costs t n (j - n)) q)
expr-costs {t} {i = i} {j = j} a c (at-incdec b f x p g) =
    let u = unpacked incdecKind b x 0 _ 0 _ (omega arith) g.is in
    node-one t i j g.last ∙ cost-of _ incdecKind b x 2 u.kind-is u.op-is u.name-is refl
expr-costs {t} {i = i} {j = j} a c (at-ident x l w k) =
    let u = unpacked identKind 0 x 0 _ 0 _ (omega arith) w in
    node-one t i j l ∙ cost-of _ identKind 0 x 0 u.kind-is u.op-is u.name-is refl
expr-costs {t} {i = i} {j = j} a c (at-number p z l w k q) =
    let u = unpacked numberKind 0 0 p _ 0 _ (omega arith) w in
    node-one t i j l ∙ cost-of _ numberKind 0 0 1 u.kind-is u.op-is u.name-is refl
expr-costs {t} {i = i} {j = j} a c (at-string n p x l w y k q) =
    let u = unpacked stringKind 0 n p _ 0 _ (omega arith) w in
    node-one t i j l ∙ cost-of _ stringKind 0 n 1 u.kind-is u.op-is u.name-is refl

-- ---- statements

-- node i and the expression behind it
node-expr : (t : List ℕ) (i j c e : ℕ) → i + 1 ≤ j → nodeCost (get_or t i 0) ≡ c → costs t (i + 1) (j - (i + 1)) ≡ e → costs t i (j - i) ≡ e + c
node-expr t i j c e h p q = omega (arith, node-two t i j j h (omega arith), nothing t j)

pub own-only : (x : Block) → ownCost (only x) ≡ ownCost x
unfolding ownCost only
own-only end = refl
own-only (Block.goto e xs) = refl
own-only (ite e a b xs) = refl
own-only (Block.incdec i x xs) = refl
own-only (assign x o e xs) = refl

module _ {t s : List ℕ} {m i z : ℕ} {x : Block} (a : length s ≤ mostBytes) (c : m ≤ 2 ^ nameBits) (h : HoldsB t s m 1 i x z) where
  goto-cost : kindIn (get_or t i 0) ≡ gotoKind → costs t i (z - i) ≡ ownCost x
  unfolding ownCost kindCost
  goto-cost k =
      let b = goto-at h k in
      let g = grows b.to in
      rw b.is (node-expr t i z 2 _ (omega arith) (cost-of _ gotoKind _ _ 2 k refl refl refl) (expr-costs a c b.to))

  assign-cost : kindIn (get_or t i 0) ≡ assignKind → costs t i (z - i) ≡ ownCost x
  unfolding ownCost kindCost
  assign-cost k =
      let b = assign-at c h k in
      let g = grows b.value in
      rw b.is (node-expr t i z _ _ (omega arith) (cost-of _ assignKind _ _ _ k refl refl refl) (expr-costs a c b.value))

  step-cost : kindIn (get_or t i 0) ≡ stepKind → z ≡ i + 1 → costs t i (z - i) ≡ ownCost x
  unfolding ownCost kindCost
  step-cost k e =
      let b = step-at c h k in
      rw b.is (node-one t i z e ∙ cost-of _ stepKind _ _ 2 k refl refl refl)

  ite-cost : kindIn (get_or t i 0) ≡ iteKind → costs t i (lastIn (get_or t (i + 1) 0) - i) ≡ ownCost x
  unfolding ownCost kindCost
  ite-cost k =
      let b = ite-at a c h k in
      let g = b.first in
      let v = node-expr t i _ (1 + jumpCost (isEnd b.yes)) _ (omega arith) (cost-of _ iteKind _ _ _ k refl refl (ap (λ (y : Bool). 1 + jumpCost y) (empty-same b.then-held))) (expr-costs a c b.test) in
      rw b.is (omega arith)

  -- where a step ends
  step-end : kindIn (get_or t i 0) ≡ stepKind → z ≡ i + 1
  step-end k =
      let b = is-step (omega arith) h k in
      let n = b.count in
      let f = is-end b.others (omega arith) in
      let g = b.flag.last in
      sym f.here ∙ g

  by-kind : (kindIn (get_or t i 0) ≡ iteKind → ⊥) → kindIn (get_or t i 0) ≡ tag x + 8 → costs t i (z - i) ≡ ownCost x
  unfolding tag
  by-kind k q = go x (sym q) (not-end h (λ y. omega arith))
    where
      go : (y : Block) → tag y + 8 ≡ kindIn (get_or t i 0) → isEnd y ≡ false → costs t i (z - i) ≡ ownCost x
      go end e n = absurd (let w : ◌≡◌ {A = ℕ} 0 1 = cc in omega arith)
      go (Block.goto v xs) e n = goto-cost (sym e)
      go (ite v y w xs) e n = absurd (k (sym e))
      go (Block.incdec f y xs) e n = step-cost (sym e) (step-end (sym e))
      go (assign y o v xs) e n = assign-cost (sym e)

-- the whole list's first statement
pub own-other : {t s : List ℕ} {m n i z : ℕ} {x : Block} → length s ≤ mostBytes → m ≤ 2 ^ nameBits → 0 < n → HoldsB t s m n i x z → (kindIn (get_or t i 0) ≡ iteKind → ⊥) → costs t i (lastIn (get_or t i 0) - i) ≡ ownCost x
own-other {x = x} a c p h k = let s = split a c p h in by-kind a c s.head k (kind-held (omega arith) s.head) ∙ own-only x

pub own-ite : {t s : List ℕ} {m n i z : ℕ} {x : Block} → length s ≤ mostBytes → m ≤ 2 ^ nameBits → 0 < n → HoldsB t s m n i x z → kindIn (get_or t i 0) ≡ iteKind → costs t i (lastIn (get_or t (i + 1) 0) - i) ≡ ownCost x
own-ite {x = x} a c p h k = let s = split a c p h in ite-cost a c s.head k ∙ own-only x
