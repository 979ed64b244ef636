-- Laws of `Builds`: a refusal passed on, a node closed, a step behind another. Assumes nothing.
use mathlib.Core.Path.{◌≡◌, refl, sym, ◌∙◌, ap}
use mathlib.Core.List.{List}
use Prim.Native.Nat.{ℕ, zero, suc, ◌+◌, ◌<◌}
use native.Mathlib.Omega.{arith}
use lib.ListN.{length, get_or, set}
use Rattle.rules.specs.Bits.{Res, refused, ok, isOne}
use Rattle.rules.specs.Constants.{flagBits, charBits, numberBits}
use Rattle.rules.specs.Refusal.{unassigned}
use Rattle.rules.specs.Tree.{Expr, Block, number, ofExpr, ofBlock, statement, node, both, emptyTally}
use Rattle.rules.specs.Parse.{Reader, At, bits, nameOf, succeed, refuse, ◌>>=◌, incdecOf, stepOf, numberOf, signed}
use Rattle.bits.specs.Reads.{Gives, Fine, at, charsAt}
use Rattle.bits.specs.declared.Cursor.{Cursor}
use Rattle.std.specs.Prelude.{Result, Ok, Err}
use Rattle.params.specs.Told.{numberOf as refusalNumber}
use Rattle.params.specs.declared.refusal.Refusal.{Refusal}
use Rattle.nodes.specs.Words.{incdecKind, stepKind}
use Rattle.nodes.specs.Kinds.{kindTold}
use Rattle.nodes.specs.declared.kinds.NodeKind.{NodeKind}
use Rattle.nodes.specs.declared.kinds.NodeKind.TheVariants.{Binop, Unop, Incdec, Ident, Number, String, Goto, Ite, Step, Assign}
use Rattle.nodes.specs.Width.{width}
use Rattle.nodes.specs.Builds.{Agree, Builds, leafR, flagR, heldF, countF, heldE, countE, heldS, countS, before}
use Rattle.nodes.specs.Holds.{at-incdec}
use Rattle.bits.proofs.Gives.{then, stop, done, Seen, said, see, unique, refuses as refuses-at}
use Rattle.nodes.proofs.Table.{agree-trans, set-below, set-above, set-here}
use Rattle.nodes.proofs.Puts.{put-step}

-- a refusal that is passed on
pub refuses : {A : Type 0} {r : Reader A} {H : List ℕ → ℕ → A → ℕ → Type 0} {Q : A → Cursor → Cursor → Type 0} {s t t' : List ℕ} {b c : Cursor} {st : Result Cursor Refusal} {e : Refusal}
    → st ≡ Err e → Gives r s (at c) (refused (refusalNumber e)) → Builds r H Q s t t' b c st
refuses h g = rw h (record { here = g })

-- a node whose word is written last, over what stands in u
pub sealed : {A : Type 0} {r : Reader A} {H : List ℕ → ℕ → A → ℕ → Type 0} {Q : A → Cursor → Cursor → Type 0} {s t t' : List ℕ} {b c : Cursor} (val : A) (u : List ℕ) (w : ℕ) {d : Cursor} → t' ≡ set u b.nodes w → b.nodes < length u
    → Gives r s (at c) (ok (val, at d)) → Agree 0 b.nodes t u → (get_or t' b.nodes 0 ≡ w → Agree (b.nodes + 1) d.nodes u t' → H t' b.nodes val d.nodes) → Q val b d → Fine s d
    → Builds r H Q s t t' b c (Ok d)
sealed {t' = t'} {b = b} val u w {d} e h g a f k n =
    let i = b.nodes in
    record {
      here = record {
        val = val;
        reads = g;
        holds = f (set-here u t' i w e h) (set-above u t' i d.nodes w e);
        kept = agree-trans a (set-below u t' i w e);
        counts = k;
        fine = n;
      };
    }

-- a step behind another: what the rest q gives from c1, r gives from c
pub behind : {A : Type 0} {H : List ℕ → ℕ → A → ℕ → Type 0} {Q : A → Cursor → Cursor → Type 0} {q r : Reader A} {s t t' : List ℕ} {b b1 c c1 : Cursor} {st : Result Cursor Refusal}
    → ((res : Res (A × At)) → Gives q s (at c1) res → Gives r s (at c) res) → b1.nodes ≡ b.nodes → ((x : A) (d : Cursor) → Q x b1 d → Q x b d) → Builds q H Q s t t' b1 c1 st → Builds r H Q s t t' b c st
behind {st = Ok d} f e z u =
    let h = u.here in
    record { here = record { val = h.val; reads = f _ h.reads; holds = rw (← e) h.holds; kept = rw (← e) h.kept; counts = z _ _ h.counts; fine = h.fine } }
behind {st = Err n} f e z u = record { here = f _ u.here }

-- ---- a flag and a name, put together in another way

abbrev mapRes : {A B : Type 0} → (A → B) → Res (A × At) → Res (B × At)
mapRes f (ok r) = ok (f r.0, r.1)
mapRes f (refused n) = refused n

repure : {B : Type 0} (m q : Reader ℕ) (f : ℕ → ℕ → B) {s : List ℕ} {c : At} {res : Res ((ℕ × ℕ) × At)} → Gives (m >>= λ b. q >>= λ x. succeed (b, x)) s c res
    → Gives (m >>= λ b. q >>= λ x. succeed (f b x)) s c (mapRes (λ p. f p.0 p.1) res)
repure {B} m q f {s} {c} {res} h = by (see m s c)
  where
    by : Seen m s c → Gives (m >>= λ b. q >>= λ x. succeed (f b x)) s c (mapRes (λ p. f p.0 p.1) res)
    by (refuses-at n r) = let y : res ≡ refused n = unique h (stop _ r) in rw y (stop _ r)
    by (said a d r) = next (see q s d)
      where
        next : Seen q s d → Gives (m >>= λ b. q >>= λ x. succeed (f b x)) s c (mapRes (λ p. f p.0 p.1) res)
        next (refuses-at n g) = let y : res ≡ refused n = unique h (then _ r (stop _ g)) in rw y (then _ r (stop _ g))
        next (said x e g) = let y : res ≡ ok ((a, x), e) = unique h (then _ r (then _ g done)) in rw y (then _ r (then _ g done))

pub incdec-leaf : (n i : ℕ) {s t t' : List ℕ} {c : Cursor} {st : Result Cursor Refusal} → Builds (flagR n) (heldF incdecKind n) countF s t t' (before i c) c st → Builds (incdecOf n) (heldE s n) countE s t t' (before i c) c st
unfolding flagR incdecOf ofExpr node emptyTally
incdec-leaf n i {st = Ok d} u =
    let h = u.here in
    let k = h.counts in
    record {
      here = record {
        val = Expr.incdec (isOne h.val.0) h.val.1;
        reads = repure (bits flagBits) (nameOf n) (λ b x. Expr.incdec (isOne b) x) h.reads;
        holds = at-incdec h.val.0 _ h.val.1 refl h.holds;
        kept = h.kept;
        counts = omega arith;
        fine = h.fine;
      };
    }
incdec-leaf n i {st = Err x} u = record { here = repure (bits flagBits) (nameOf n) (λ b x. Expr.incdec (isOne b) x) u.here }

pub incdec-stmt : (n i : ℕ) {s t t' : List ℕ} {b c : Cursor} {st : Result Cursor Refusal} → b.nodes ≡ i → c.statements ≡ b.statements + 1 → c.sections ≡ b.sections + 1 → c.strings ≡ b.strings → c.chars ≡ b.chars
    → Builds (flagR n) (heldF stepKind n) countF s t t' (before i c) c st → Builds (stepOf n) (heldS s n) countS s t t' b c st
unfolding flagR stepOf ofBlock statement node both emptyTally width
incdec-stmt n i {st = Ok d} p q r x y u =
    let h = u.here in
    let k = h.counts in
    record {
      here = record {
        val = Block.incdec (isOne h.val.0) h.val.1;
        reads = repure (bits flagBits) (nameOf n) (λ b x. Block.incdec (isOne b) x) h.reads;
        holds = rw p (put-step h.holds);
        kept = rw p h.kept;
        counts = record { adds = λ xs e k. omega arith };
        fine = h.fine;
      };
    }
incdec-stmt n i {st = Err x} p q r y z u = record { here = repure (bits flagBits) (nameOf n) (λ b x. Block.incdec (isOne b) x) u.here }

pub no-leaf : (n k : ℕ) {s : List ℕ} {c : At} → (k ≡ 2 → ⊥) → (k ≡ 3 → ⊥) → (k ≡ 4 → ⊥) → (k ≡ 5 → ⊥) → Gives (leafR n k) s c (refused unassigned)
unfolding leafR refuse
no-leaf n zero a b d e = record { is = refl }
no-leaf n (suc zero) a b d e = record { is = refl }
no-leaf n (suc (suc zero)) a b d e = absurd (a refl)
no-leaf n (suc (suc (suc zero))) a b d e = absurd (b refl)
no-leaf n (suc (suc (suc (suc zero)))) a b d e = absurd (d refl)
no-leaf n (suc (suc (suc (suc (suc zero))))) a b d e = absurd (e refl)
no-leaf n (suc (suc (suc (suc (suc (suc k)))))) a b d e = record { is = refl }

-- a kind with operands, and a statement's
pub leaf-other : (n : ℕ) (k : NodeKind) {s : List ℕ} {c : At} → (k ≡ Incdec → ⊥) → (k ≡ Ident → ⊥) → (k ≡ Number → ⊥) → (k ≡ String → ⊥) → Gives (leafR n (kindTold k)) s c (refused unassigned)
unfolding leafR refuse
leaf-other n Binop a b d e = record { is = refl }
leaf-other n Unop a b d e = record { is = refl }
leaf-other n Incdec a b d e = absurd (a refl)
leaf-other n Ident a b d e = absurd (b refl)
leaf-other n Number a b d e = absurd (d refl)
leaf-other n String a b d e = absurd (e refl)
leaf-other n Goto a b d e = record { is = refl }
leaf-other n Ite a b d e = record { is = refl }
leaf-other n Step a b d e = record { is = refl }
leaf-other n Assign a b d e = record { is = refl }

-- the number of a kind that is known
pub numbered : {k : ℕ} {x y : NodeKind} → kindTold x ≡ k → x ≡ y → k ≡ kindTold y
numbered e f = sym e ∙ ap kindTold f

-- a kind with no operands
pub operand-free : (x : NodeKind) → (x ≡ Binop → ⊥) → (x ≡ Unop → ⊥) → 1 < kindTold x
operand-free Binop a b = absurd (a refl)
operand-free Unop a b = absurd (b refl)
operand-free Incdec a b = omega arith
operand-free Ident a b = omega arith
operand-free Number a b = omega arith
operand-free String a b = omega arith
operand-free Goto a b = omega arith
operand-free Ite a b = omega arith
operand-free Step a b = omega arith
operand-free Assign a b = omega arith

-- a number's reader, written out: where it is opened, so is what 64 bits spell
pub number-from : {s : List ℕ} {c : At} {res : Res (Expr × At)} → Gives (bits numberBits >>= λ v. succeed (number (signed v))) s c res → Gives numberOf s c res
unfolding numberOf
number-from g = g

pub chars-length : (s : List ℕ) (n p : ℕ) → length (charsAt s n p) ≡ n
unfolding charsAt
chars-length s zero p = refl
chars-length s (suc n) p = ap suc (chars-length s n (p + charBits))
