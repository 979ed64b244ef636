-- What a node's word says of the expression that is held there. Assumes nothing.
use mathlib.Core.Path.{◌≡◌, refl, sym, ◌∙◌, ap}
use mathlib.Core.Bool.{Bool}
use mathlib.Core.List.{List, [], ◌∷◌}
use mathlib.Core.Option.{some}
use Prim.Native.Nat.{ℕ, zero, suc, ◌+◌, ◌*◌, ◌≤◌, ◌<◌, ◌^◌}
use native.Mathlib.Omega.{arith}
use lib.ListN.{length, get_or, get_elem?}
use Rattle.rules.specs.Constants.{stringLengthBits, numberBits, charBits, byteBits}
use Rattle.rules.specs.Bits.{spelled, isOne}
use Rattle.rules.specs.Tree.{Binop, Unop, Expr, binop, unop, ident, number, string}
use Rattle.rules.specs.Parse.{binops, unops, signed}
use Rattle.bits.specs.Reads.{charsAt}
use Rattle.nodes.specs.Words.{wordOf, binopKind, unopKind, incdecKind, identKind, numberKind, stringKind, kindIn}
use Rattle.nodes.specs.Holds.{HoldsE, Flag, at-binop, at-unop, at-incdec, at-ident, at-number, at-string}
use Rattle.nodes.proofs.Words.{kind-of}

-- ---- the kind

unfoldable pub tag : Expr → ℕ
tag (binop o l r) = binopKind
tag (unop o r) = unopKind
tag (Expr.incdec f x) = incdecKind
tag (ident x) = identKind
tag (number z) = numberKind
tag (string x) = stringKind

pub kind-held : {t s : List ℕ} {m i j : ℕ} {e : Expr} → HoldsE t s m i e j → kindIn (get_or t i 0) ≡ tag e
unfolding tag
kind-held (at-binop op o p w q l r) = kind-of _ _ _ _ _ _ _ (omega arith) w
kind-held (at-unop op o p w q r) = kind-of _ _ _ _ _ _ _ (omega arith) w
kind-held (at-incdec b f x p g) = kind-of _ _ _ _ _ _ _ (omega arith) g.is
kind-held (at-ident x l w k) = kind-of _ _ _ _ _ _ _ (omega arith) w
kind-held (at-number p z l w k q) = kind-of _ _ _ _ _ _ _ (omega arith) w
kind-held (at-string n p x l w y k q) = kind-of _ _ _ _ _ _ _ (omega arith) w

-- ---- by the word: one record a kind

pub record IsBinop (t s : List ℕ) (m i : ℕ) (e : Expr) (j : ℕ) : Type 0 where
  pub op : ℕ
  pub o : Binop
  pub l : Expr
  pub r : Expr
  pub first : ℕ
  pub second : ℕ
  pub is : e ≡ binop o l r
  pub pick : get_elem? binops op ≡ some o
  pub word : get_or t i 0 ≡ wordOf binopKind op 0 0 j 0
  pub next : first ≡ i + 1
  pub left : HoldsE t s m first l second
  pub right : HoldsE t s m second r j

pub record IsUnop (t s : List ℕ) (m i : ℕ) (e : Expr) (j : ℕ) : Type 0 where
  pub op : ℕ
  pub o : Unop
  pub r : Expr
  pub first : ℕ
  pub is : e ≡ unop o r
  pub pick : get_elem? unops op ≡ some o
  pub word : get_or t i 0 ≡ wordOf unopKind op 0 0 j 0
  pub next : first ≡ i + 1
  pub operand : HoldsE t s m first r j

pub record IsIncdec (t s : List ℕ) (m i : ℕ) (e : Expr) (j : ℕ) : Type 0 where
  pub b : ℕ
  pub x : ℕ
  pub is : e ≡ Expr.incdec (isOne b) x
  pub flag : Flag incdecKind m t i b x j

pub record IsIdent (t s : List ℕ) (m i : ℕ) (e : Expr) (j : ℕ) : Type 0 where
  pub x : ℕ
  pub is : e ≡ ident x
  pub word : get_or t i 0 ≡ wordOf identKind 0 x 0 j 0
  pub known : x < m
  pub last : j ≡ i + 1

pub record IsNumber (t s : List ℕ) (m i : ℕ) (e : Expr) (j : ℕ) : Type 0 where
  pub p : ℕ
  pub is : e ≡ number (signed (spelled s numberBits p))
  pub word : get_or t i 0 ≡ wordOf numberKind 0 0 p j 0
  pub inside : p + numberBits ≤ byteBits * length s
  pub last : j ≡ i + 1

pub record IsString (t s : List ℕ) (m i : ℕ) (e : Expr) (j : ℕ) : Type 0 where
  pub n : ℕ
  pub p : ℕ
  pub is : e ≡ string (charsAt s n p)
  pub word : get_or t i 0 ≡ wordOf stringKind 0 n p j 0
  pub few : n < 2 ^ stringLengthBits
  pub inside : p + charBits * n ≤ byteBits * length s
  pub last : j ≡ i + 1

-- what is held where the kind is k
abbrev AtKind : List ℕ → List ℕ → ℕ → ℕ → Expr → ℕ → ℕ → Type 0
AtKind t s m i e j zero = IsBinop t s m i e j
AtKind t s m i e j (suc zero) = IsUnop t s m i e j
AtKind t s m i e j (suc (suc zero)) = IsIncdec t s m i e j
AtKind t s m i e j (suc (suc (suc zero))) = IsIdent t s m i e j
AtKind t s m i e j (suc (suc (suc (suc zero)))) = IsNumber t s m i e j
AtKind t s m i e j (suc (suc (suc (suc (suc zero))))) = IsString t s m i e j
AtKind t s m i e j (suc (suc (suc (suc (suc (suc k)))))) = ⊥

seen : {t s : List ℕ} {m i j : ℕ} {e : Expr} → HoldsE t s m i e j → AtKind t s m i e j (tag e)
unfolding tag
seen (at-binop op o p w q l r) = record { op = op; o = o; l = _; r = _; first = _; second = _; is = refl; pick = p; word = w; next = q; left = l; right = r }
seen (at-unop op o p w q r) = record { op = op; o = o; r = _; first = _; is = refl; pick = p; word = w; next = q; operand = r }
seen (at-incdec b f x p g) = record { b = b; x = x; is = ap (λ (y : Bool). Expr.incdec y x) (sym p); flag = g }
seen (at-ident x l w k) = record { x = x; is = refl; word = w; known = k; last = l }
seen (at-number p z l w k q) = record { p = p; is = ap number (sym q); word = w; inside = k; last = l }
seen (at-string n p x l w y k q) = record { n = n; p = p; is = ap string (sym q); word = w; few = y; inside = k; last = l }

at-kind : {t s : List ℕ} {m i j : ℕ} {e : Expr} (k : ℕ) → HoldsE t s m i e j → kindIn (get_or t i 0) ≡ k → AtKind t s m i e j k
at-kind k h e = rw (sym (kind-held h) ∙ e) at (seen h)

pub is-binop : {t s : List ℕ} {m i j : ℕ} {e : Expr} → HoldsE t s m i e j → kindIn (get_or t i 0) ≡ binopKind → IsBinop t s m i e j
is-binop h e = at-kind binopKind h e

pub is-unop : {t s : List ℕ} {m i j : ℕ} {e : Expr} → HoldsE t s m i e j → kindIn (get_or t i 0) ≡ unopKind → IsUnop t s m i e j
is-unop h e = at-kind unopKind h e

pub is-incdec : {t s : List ℕ} {m i j : ℕ} {e : Expr} → HoldsE t s m i e j → kindIn (get_or t i 0) ≡ incdecKind → IsIncdec t s m i e j
is-incdec h e = at-kind incdecKind h e

pub is-ident : {t s : List ℕ} {m i j : ℕ} {e : Expr} → HoldsE t s m i e j → kindIn (get_or t i 0) ≡ identKind → IsIdent t s m i e j
is-ident h e = at-kind identKind h e

pub is-number : {t s : List ℕ} {m i j : ℕ} {e : Expr} → HoldsE t s m i e j → kindIn (get_or t i 0) ≡ numberKind → IsNumber t s m i e j
is-number h e = at-kind numberKind h e

pub is-string : {t s : List ℕ} {m i j : ℕ} {e : Expr} → HoldsE t s m i e j → kindIn (get_or t i 0) ≡ stringKind → IsString t s m i e j
is-string h e = at-kind stringKind h e

-- an operator that is in its list
pub op-small : {A : Type 0} (ops : List A) (k : ℕ) {o : A} → get_elem? ops k ≡ some o → k < length ops
op-small [] k e = absurd (let z : ◌≡◌ {A = ℕ} 0 1 = cc in omega arith)
op-small (x ∷ ops) zero e = omega arith
op-small (x ∷ ops) (suc k) e = let h = op-small ops k e in omega arith
