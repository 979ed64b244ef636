-- A section's word by its fields, and back: what is written of a start, a successor, a first instruction and a count is read, and what is read
-- of a word, written again, is the word. Assumes nothing.
use Rattle.std.specs.Prelude.{◌≡◌, refl, Bool, true, false, ℕ, ◌^◌, ◌<◌, eqb}
use Rattle.std.proofs.Common.{sym, ap, ◌∙◌, arith, eqb-true, ne_eqb, eq-eqb}
use Rattle.std.proofs.lemmas.Bool.{eqb-false}
use Rattle.rules.specs.Bits.{isOne}
use Rattle.rules.specs.Constants.{mark}
use Rattle.rules.specs.Word.{Run, runWord, wordRun, runSpare}
use Rattle.rules.specs.Machine.{SectionOrLine, unfixed, section, line}
use Rattle.rules.specs.Tables.{flag, kindOf, targetOf, successOf, runOf}
use Rattle.laws.specs.Words.{RunSmall}
use Rattle.laws.proofs.Words.{run-back, run-zeros, wordRun-small, run-again}
use Rattle.laws.specs.SectionWord.{NextSmall}

-- ---- its fields are small

pub flag-lt : (b : Bool) → flag b < 2
unfolding flag
flag-lt true = omega arith
flag-lt false = omega arith

pub kind-lt : (x : SectionOrLine) → kindOf x < 2
unfolding kindOf
kind-lt unfixed = omega arith
kind-lt (section t) = omega arith
kind-lt (line r) = omega arith

pub target-lt : (x : SectionOrLine) → NextSmall x → targetOf x < 2 ^ 16
unfolding targetOf
target-lt unfixed h = omega arith
target-lt (section t) h = omega arith
target-lt (line r) h = h

-- ---- what is written is read

pub flag-back : (b : Bool) → isOne (flag b) ≡ b
unfolding isOne flag
flag-back true = refl
flag-back false = refl

-- whatever else the fields are
pub next-back : (x : SectionOrLine) (l f c : ℕ) → NextSmall x → successOf (record { lineStart = l; kind = kindOf x; target = targetOf x; first = f; count = c }) ≡ x
unfolding successOf isOne kindOf targetOf
next-back unfixed l f c h = refl
next-back (section t) l f c h = rw (ne_eqb t mark (λ e. omega arith), successOf)
next-back (line r) l f c h = refl

module _ (b : Bool) (x : SectionOrLine) (f c : ℕ) (h : NextSmall x) (p : f < 2 ^ 16) (q : c < 2 ^ 16) where
  run-small : RunSmall (runOf b x f c)
  run-small = (flag-lt b, (kind-lt x, (target-lt x h, (p, (q, tt)))))

  pub fields-back : wordRun (runWord (runOf b x f c)) ≡ runOf b x f c
  fields-back = run-back (runOf b x f c) run-small

  pub zeros-back : runSpare (runWord (runOf b x f c)) ≡ 0
  zeros-back = run-zeros (runOf b x f c) run-small

  pub start-is : isOne (wordRun (runWord (runOf b x f c))).lineStart ≡ b
  start-is = rw fields-back (flag-back b)

  pub next-is : successOf (wordRun (runWord (runOf b x f c))) ≡ x
  next-is = rw fields-back (next-back x (flag b) f c h)

  pub first-is : (wordRun (runWord (runOf b x f c))).first ≡ f
  first-is = rw fields-back

  pub count-is : (wordRun (runWord (runOf b x f c))).count ≡ c
  count-is = rw fields-back

-- ---- what is read, written again

pub flag-again : (n : ℕ) → n < 2 → flag (isOne n) ≡ n
unfolding flag isOne
flag-again n h = by (eqb n 1) refl
  where
    by : (b : Bool) → eqb n 1 ≡ b → flag (eqb n 1) ≡ n
    by true e = rw e (sym (eqb-true _ _ e))
    by false e = rw e (let z = eqb-false n 1 e in omega arith)

-- a successor by its kind and target, read in two steps
module _ (r : Run) (k t : ℕ) (k-is : k ≡ r.kind) (t-is : t ≡ r.target) where
  to-line : k ≡ 1 → line t ≡ successOf r
  unfolding successOf isOne
  to-line e = rw (← k-is, eq-eqb k 1 e, successOf, t-is)

  to-none : (k ≡ 1 → ⊥) → t ≡ mark → unfixed ≡ successOf r
  unfolding successOf isOne
  to-none e h = rw (← k-is, ne_eqb k 1 e, ← t-is, eq-eqb t mark h, successOf)

  to-section : (k ≡ 1 → ⊥) → (t ≡ mark → ⊥) → section t ≡ successOf r
  unfolding successOf isOne
  to-section e h = rw (← k-is, ne_eqb k 1 e, ← t-is, ne_eqb t mark h, successOf) (ap section t-is)

module _ (r : Run) where
  pub is-line : eqb r.kind 1 ≡ true → successOf r ≡ line r.target
  is-line e = sym (to-line r r.kind r.target refl refl (eqb-true _ _ e))

  pub is-none : eqb r.kind 1 ≡ false → eqb r.target mark ≡ true → successOf r ≡ unfixed
  is-none e d = sym (to-none r r.kind r.target refl refl (eqb-false _ _ e) (eqb-true _ _ d))

  pub is-section : eqb r.kind 1 ≡ false → eqb r.target mark ≡ false → successOf r ≡ section r.target
  is-section e d = sym (to-section r r.kind r.target refl refl (eqb-false _ _ e) (eqb-false _ _ d))

-- a word's successor is a line, none, or a section
data Reads (r : Run) : Type 0 where
  a-line : r.kind ≡ 1 → successOf r ≡ line r.target → Reads r
  nothing : (r.kind ≡ 1 → ⊥) → r.target ≡ mark → successOf r ≡ unfixed → Reads r
  a-section : (r.kind ≡ 1 → ⊥) → (r.target ≡ mark → ⊥) → successOf r ≡ section r.target → Reads r

reads : (r : Run) → Reads r
reads r = by (eqb r.kind 1) (eqb r.target mark) refl refl
  where
    by : (a b : Bool) → eqb r.kind 1 ≡ a → eqb r.target mark ≡ b → Reads r
    by true b e d = a-line (eqb-true _ _ e) (is-line r e)
    by false true e d = nothing (eqb-false _ _ e) (eqb-true _ _ d) (is-none r e d)
    by false false e d = a-section (eqb-false _ _ e) (eqb-false _ _ d) (is-section r e d)

pub target-again : (r : Run) → targetOf (successOf r) ≡ r.target
unfolding targetOf
target-again r = go (reads r)
  where
    go : Reads r → targetOf (successOf r) ≡ r.target
    go (a-line k e) = rw e
    go (nothing k t e) = rw e (sym t)
    go (a-section k t e) = rw e

pub kind-again : (r : Run) → r.kind < 2 → kindOf (successOf r) ≡ r.kind
unfolding kindOf
kind-again r h = go (reads r)
  where
    go : Reads r → kindOf (successOf r) ≡ r.kind
    go (a-line k e) = rw e (sym k)
    go (nothing k t e) = rw e (omega (arith, k))
    go (a-section k t e) = rw e (omega (arith, k))

pub next-small : (r : Run) → r.target < 2 ^ 16 → NextSmall (successOf r)
next-small r h = go (reads r)
  where
    go : Reads r → NextSmall (successOf r)
    go (a-line k e) = rw e h
    go (nothing k t e) = rw e tt
    go (a-section k t e) = rw e (omega (arith, t))

pub fields-again : (r : Run) → RunSmall r → runOf (isOne r.lineStart) (successOf r) r.first r.count ≡ r
fields-again r h = same (flag-again r.lineStart h.0) (kind-again r h.1.0) (target-again r)
  where
    same : {a k t a' k' t' : ℕ} → a ≡ a' → k ≡ k' → t ≡ t'
        → ◌≡◌ {A = Run} (record { lineStart = a; kind = k; target = t; first = r.first; count = r.count }) (record { lineStart = a'; kind = k'; target = t'; first = r.first; count = r.count })
    same p q s = cc

-- the word of what was read of a word
pub word-again : (w : ℕ) → w < 2 ^ 64 → runSpare w ≡ 0 → runWord (runOf (isOne (wordRun w).lineStart) (successOf (wordRun w)) (wordRun w).first (wordRun w).count) ≡ w
word-again w h z = ap runWord (fields-again (wordRun w) (wordRun-small w)) ∙ run-again w h z
