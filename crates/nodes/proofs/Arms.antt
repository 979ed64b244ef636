-- An expression and a statement by their kinds, in terms of `Gives`. Assumes nothing.
use mathlib.Core.Path.{◌≡◌, refl}
use mathlib.Core.List.{List}
use Prim.Native.Nat.{ℕ, zero, suc, ◌-◌}
use native.Mathlib.Omega.{arith}
use native.Mathlib.Numerals.{sub-one}
use Rattle.rules.specs.Constants.{exprKindBits, stmtKindBits}
use Rattle.rules.specs.Bits.{Res, refused, ok}
use Rattle.rules.specs.Tree.{Expr, Block}
use Rattle.rules.specs.Parse.{At, expr, stmt, bits, begin, refuse, exprKinds, stmtKinds, binopOf, unopOf, gotoOf, iteOf, stepOf, assignOf}
use Rattle.bits.specs.Reads.{Gives, beginR}
use Rattle.nodes.specs.Builds.{leafR, exprArm, stmtArm}
use Rattle.bits.proofs.Gives.{then, stop, assoc, inject-refused, not-deep}

pub expr-stop : (n d : ℕ) {s : List ℕ} {c : At} {x : ℕ} → Gives (beginR exprKindBits d) s c (refused x) → Gives (expr n d) s c (refused x)
unfolding expr refuse beginR exprArm
expr-stop n zero g = let e = inject-refused g.is in rw (← e) (record { is = refl })
expr-stop n (suc d) g = assoc begin (λ _. bits exprKindBits) (exprArm n d) (stop _ g)

expr-below : (n d k : ℕ) {s : List ℕ} {c : At} {res : Res (Expr × At)} → Gives (exprArm n (suc d - 1) k) s c res → Gives (exprArm n d k) s c res
expr-below n d k a = rw sub-one at a

pub expr-arm : (n d k : ℕ) {s : List ℕ} {c c1 : At} {res : Res (Expr × At)} → Gives (beginR exprKindBits d) s c (ok (k, c1)) → Gives (exprArm n (d - 1) k) s c1 res → Gives (expr n d) s c res
unfolding expr beginR exprArm
expr-arm n zero k g a = absurd (let h = not-deep exprKindBits 0 g in omega arith)
expr-arm n (suc d) k g a = assoc begin (λ _. bits exprKindBits) (exprArm n d) (then _ g (expr-below n d k a))

pub arm-binop : (n d : ℕ) {k : ℕ} {s : List ℕ} {c c1 : At} {res : Res (Expr × At)} → k ≡ 0 → Gives (beginR exprKindBits d) s c (ok (k, c1)) → Gives (binopOf (expr n (d - 1))) s c1 res → Gives (expr n d) s c res
unfolding exprArm exprKinds
arm-binop n d {k} e g a = expr-arm n d k g (rw e a)

pub arm-unop : (n d : ℕ) {k : ℕ} {s : List ℕ} {c c1 : At} {res : Res (Expr × At)} → k ≡ 1 → Gives (beginR exprKindBits d) s c (ok (k, c1)) → Gives (unopOf (expr n (d - 1))) s c1 res → Gives (expr n d) s c res
unfolding exprArm exprKinds
arm-unop n d {k} e g a = expr-arm n d k g (rw e a)

leaf-arm : (n d k : ℕ) {s : List ℕ} {c : At} {res : Res (Expr × At)} → (k ≡ 0 → ⊥) → (k ≡ 1 → ⊥) → Gives (leafR n k) s c res → Gives (exprArm n d k) s c res
unfolding exprArm leafR exprKinds
leaf-arm n d zero x y g = absurd (x refl)
leaf-arm n d (suc zero) x y g = absurd (y refl)
leaf-arm n d (suc (suc k)) x y g = g

pub arm-leaf : (n d : ℕ) {k : ℕ} {s : List ℕ} {c c1 : At} {res : Res (Expr × At)} → (k ≡ 0 → ⊥) → (k ≡ 1 → ⊥) → Gives (beginR exprKindBits d) s c (ok (k, c1)) → Gives (leafR n k) s c1 res → Gives (expr n d) s c res
arm-leaf n d {k} x y g a = expr-arm n d k g (leaf-arm n (d - 1) k x y a)

-- ---- statements

pub stmt-stop : (n d : ℕ) {s : List ℕ} {c : At} {x : ℕ} → Gives (beginR stmtKindBits d) s c (refused x) → Gives (stmt n d) s c (refused x)
unfolding stmt refuse beginR stmtArm
stmt-stop n zero g = let e = inject-refused g.is in rw (← e) (record { is = refl })
stmt-stop n (suc d) g = assoc begin (λ _. bits stmtKindBits) (stmtArm n d) (stop _ g)

stmt-below : (n d k : ℕ) {s : List ℕ} {c : At} {res : Res ((Block → Block) × At)} → Gives (stmtArm n (suc d - 1) k) s c res → Gives (stmtArm n d k) s c res
stmt-below n d k a = rw sub-one at a

pub stmt-arm : (n d k : ℕ) {s : List ℕ} {c c1 : At} {res : Res ((Block → Block) × At)} → Gives (beginR stmtKindBits d) s c (ok (k, c1)) → Gives (stmtArm n (d - 1) k) s c1 res → Gives (stmt n d) s c res
unfolding stmt beginR stmtArm
stmt-arm n zero k g a = absurd (let h = not-deep stmtKindBits 0 g in omega arith)
stmt-arm n (suc d) k g a = assoc begin (λ _. bits stmtKindBits) (stmtArm n d) (then _ g (stmt-below n d k a))

module _ (n d : ℕ) {k : ℕ} {s : List ℕ} {c c1 : At} {res : Res ((Block → Block) × At)} where
  pub arm-goto : k ≡ 0 → Gives (beginR stmtKindBits d) s c (ok (k, c1)) → Gives (gotoOf (expr n (d - 1))) s c1 res → Gives (stmt n d) s c res
  unfolding stmtArm stmtKinds
  arm-goto e g a = stmt-arm n d k g (rw e a)

  pub arm-ite : k ≡ 1 → Gives (beginR stmtKindBits d) s c (ok (k, c1)) → Gives (iteOf (expr n (d - 1)) (stmt n (d - 1))) s c1 res → Gives (stmt n d) s c res
  unfolding stmtArm stmtKinds
  arm-ite e g a = stmt-arm n d k g (rw e a)

  pub arm-incdec : k ≡ 2 → Gives (beginR stmtKindBits d) s c (ok (k, c1)) → Gives (stepOf n) s c1 res → Gives (stmt n d) s c res
  unfolding stmtArm stmtKinds
  arm-incdec e g a = stmt-arm n d k g (rw e a)

  pub arm-assign : k ≡ 3 → Gives (beginR stmtKindBits d) s c (ok (k, c1)) → Gives (assignOf n (expr n (d - 1))) s c1 res → Gives (stmt n d) s c res
  unfolding stmtArm stmtKinds
  arm-assign e g a = stmt-arm n d k g (rw e a)
