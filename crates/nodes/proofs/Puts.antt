-- A statement that stands in the table, as what it puts before a list. Assumes nothing.
use mathlib.Core.Path.{◌≡◌, refl, ◌∙◌}
use mathlib.Core.List.{List}
use mathlib.Core.Option.{some}
use Prim.Native.Nat.{ℕ, ◌+◌, ◌<◌}
use native.Mathlib.Omega.{arith}
use lib.ListN.{get_or, get_elem?}
use Rattle.rules.specs.Bits.{isOne}
use Rattle.rules.specs.Tree.{Assignop, Expr, Block, goto, ite, assign}
use Rattle.rules.specs.Parse.{assignops}
use Rattle.nodes.specs.Words.{wordOf, iteWord, gotoKind, stepKind, assignKind}
use Rattle.nodes.specs.Holds.{HoldsE, HoldsB, Flag, Lists, at-goto, at-ite, at-step, at-assign}
use Rattle.nodes.specs.Builds.{HeldS}
use Rattle.nodes.proofs.Table.{agree-part, grows, grows-b, moved, moved-b, moved-flag}

pub put-goto : {s t : List ℕ} {n i h l : ℕ} {e : Expr} → get_or t i 0 ≡ wordOf gotoKind 0 0 0 l 0 → h ≡ i + 1 → HoldsE t s n h e l → HeldS s n t i (goto e) l
put-goto {i = i} w q e =
    let g = grows e in
    record { puts = λ u m k xs z p a x. at-goto p (a.same i (omega arith) (omega arith) ∙ w) q (moved (agree-part a (omega arith) (omega arith)) e) x; grows = omega arith }

pub put-assign : {s t : List ℕ} {n i h l : ℕ} {e : Expr} (y op : ℕ) (o : Assignop) → get_elem? assignops op ≡ some o → get_or t i 0 ≡ wordOf assignKind op y 0 l 0 → y < n → h ≡ i + 1 → HoldsE t s n h e l → HeldS s n t i (assign y o e) l
put-assign {i = i} y op o f w r q e =
    let g = grows e in
    record { puts = λ u m k xs z p a x. at-assign y op o p f (a.same i (omega arith) (omega arith) ∙ w) r q (moved (agree-part a (omega arith) (omega arith)) e) x; grows = omega arith }

pub put-step : {s t : List ℕ} {n i l b y : ℕ} → Flag stepKind n t i b y l → HeldS s n t i (Block.incdec (isOne b) y) l
put-step f = record { puts = λ u m k xs z p a x. at-step _ _ _ p refl (moved-flag a f (omega arith)) x; grows = omega arith }

pub put-ite : {s t : List ℕ} {n i h j j' l : ℕ} {e : Expr} {x y : Block} (a b v w : ℕ) → get_or t i 0 ≡ iteWord a b v w l → Lists a b v w x y → h ≡ i + 1 → HoldsE t s n h e j → HoldsB t s n a j x j' → HoldsB t s n b j' y l → HeldS s n t i (ite e x y) l
put-ite {i = i} a b v w g f q e x y =
    let c = grows e in
    let d = grows-b x in
    let r = grows-b y in
    record {
      puts = λ u m k xs z p o t.
          at-ite a b v w p (o.same i (omega arith) (omega arith) ∙ g) f q (moved (agree-part o (omega arith) (omega arith)) e) (moved-b (agree-part o (omega arith) (omega arith)) x)
          (moved-b (agree-part o (omega arith) (omega arith)) y) t;
      grows = omega arith;
    }
