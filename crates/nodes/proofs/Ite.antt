-- What is counted of an Ite: its widths fit their fields, and its sections are those of `width`. Assumes nothing.
-- The condition is read from c1 to c2, the then-list x to c3, the else-list y to c4; c stands before the Ite.
use mathlib.Core.Path.{◌≡◌, ap}
use mathlib.Core.List.{List}
use Prim.Native.Nat.{ℕ, ◌+◌, ◌*◌, ◌-◌, ◌≤◌, ◌<◌, ◌^◌}
use native.Mathlib.Omega.{arith}
use Rattle.rules.specs.Constants.{listBits}
use Rattle.rules.specs.Tree.{Expr, Block, ite, ofBlock, statement, node, both}
use Rattle.bits.specs.Reads.{Fine, Moved}
use Rattle.bits.specs.declared.Cursor.{Cursor}
use Rattle.nodes.specs.Width.{mostSections, width, orOne}
use Rattle.nodes.specs.Holds.{Lists}
use Rattle.nodes.specs.Builds.{countE, countB, Adds, Spans, joined}
use Rattle.nodes.proofs.Width.{or-one, or-one-lt, four}

module _ (x y : Block) {c2 c3 c4 : Cursor} (k : countB x c2 c3) (l : countB y c3 c4) where
  width-then : c3.sections - c2.sections ≡ width x
  width-then = omega arith

  width-else : c4.sections - c3.sections ≡ width y
  width-else = omega arith

  pub ite-spans : {s : List ℕ} → 0 < c2.statements → Fine s c4 → Spans c2.sections c3.sections c4.sections
  ite-spans h f = let a = four x in let b = four y in omega arith

  pub ite-lists : {s : List ℕ} {a b : ℕ} → a < 2 ^ listBits → b < 2 ^ listBits → 0 < c2.statements → Fine s c4 → Lists a b (orOne (c3.sections - c2.sections)) (orOne (c4.sections - c3.sections)) x y
  ite-lists p q h f =
      let z = ite-spans h f in
      record {
        few-then = p;
        few-else = q;
        small-then = or-one-lt (c3.sections - c2.sections) mostSections (omega arith) (omega arith);
        small-else = or-one-lt (c4.sections - c3.sections) mostSections (omega arith) (omega arith);
        width-then = ap orOne width-then;
        width-else = ap orOne width-else;
      }

  pub ite-fine : {s : List ℕ} → c2.sections + 3 ≤ 4 * c2.statements → Fine s c4 → Fine s (joined c2.sections c3.sections c4)
  ite-fine h f =
      let a = four x in
      let b = four y in
      let p = or-one (c3.sections - c2.sections) in
      let q = or-one (c4.sections - c3.sections) in
      omega arith

  pub ite-adds : {e : Expr} {c c1 : Cursor} → Moved 1 1 c c1 → countE e c1 c2 → Adds (ite e x y) c (joined c2.sections c3.sections c4)
  unfolding ofBlock statement node both width
  ite-adds m n =
      let p = ap orOne width-then in
      let q = ap orOne width-else in
      record { adds = λ xs e r. omega arith }
