-- The lowering as codegen.rs does it, with sections pushed to a table, successors set afterwards, and a line's first section swapped with
-- its placeholder. It gives what `sectionsOf` gives.
use Rattle.std.specs.Prelude.{◌≡◌, Bool, cond, get_or, set, replicate}
use Rattle.std.proofs.Math.Path.{refl, sym, ap, ap₂}
use Rattle.std.proofs.Common.{◌∙◌, subst, arith}
use Rattle.std.proofs.Math.Bool.{true, false}
use Rattle.std.proofs.Math.Option.{Option, none, some}
use mathlib.Core.List.{List, [], ◌∷◌, ◌++◌, append_assoc, append-nil}
use Prim.Native.Nat.{ℕ, suc, ◌+◌}
use Rattle.std.proofs.Math.ListN.{length, length-append}
use Rattle.std.proofs.lemmas.List.{length-replicate, set_at, get_or_at}
use Rattle.rules.specs.Instr.{Instruction}
use Rattle.rules.specs.Machine.{SectionOrLine, unfixed, section, line, SectionCode, absent, isFixed}
use Rattle.rules.specs.Script.{Stmts, nil, plain, goto, ite, Script}
use Rattle.rules.specs.Assemble.{condJump, nextLine, orOne, sectionsMade, ownCode, entry, condCode, inner, orEmpty, stmtSections, asStart, headOf, tailOf, heads, tails, sectionsOf}
use Rattle.bounds.specs.Lengths.{length-low, length-orEmpty, length-tailOf}
use Rattle.walks.specs.Codegen.{Ends, push, withNext, withIns, setNext, addIns, setEnd, reduce, linkUp, thenDone, elseDone, thenPart, elsePart, join, gen, swap, lineDone, fixLine, genLines, codegen}

-- ---- the table, at a place

set-next : (p q : List SectionCode) (z : SectionCode) (n : ℕ) (x : SectionOrLine) → length p ≡ n → setNext (p ++ (z ∷ q)) n x ≡ p ++ (withNext z x ∷ q)
set-next p q z n x h = ap (λ (y : SectionCode). set (p ++ (z ∷ q)) n (withNext y x)) (get_or_at p z q absent n h) ∙ set_at p z q (withNext z x) n h

add-ins : (p q : List SectionCode) (z : SectionCode) (n : ℕ) (i : Instruction) → length p ≡ n → addIns (p ++ (z ∷ q)) n i ≡ p ++ (withIns z i ∷ q)
add-ins p q z n i h = ap (λ (y : SectionCode). set (p ++ (z ∷ q)) n (withIns y i)) (get_or_at p z q absent n h) ∙ set_at p z q (withIns z i) n h

-- ---- what is linked stands behind m, and can be closed whatever came before and after it

record Linked (m : List SectionCode) (a : ℕ) (red : List SectionCode × Ends) (F : ℕ → List SectionCode) (sz : ℕ) : Type 0 where
  Y : List SectionCode
  en : Option ℕ
  is : red ≡ (m ++ Y, (a, en))
  close : (M T : List SectionCode) (j : ℕ) → length M ≡ length m → setEnd (M ++ (Y ++ T)) en j ≡ M ++ (F j ++ T)
  len : length Y ≡ sz

record LinkedUp (m : List SectionCode) (a : ℕ) (red : List SectionCode × Option Ends) (F : ℕ → List SectionCode) (sz : ℕ) : Type 0 where
  Y : List SectionCode
  en : Option ℕ
  is : red ≡ (m ++ Y, some (a, en))
  close : (M T : List SectionCode) (j : ℕ) → length M ≡ length m → setEnd (M ++ (Y ++ T)) en j ≡ M ++ (F j ++ T)
  len : length Y ≡ sz

linked-up : (m : List SectionCode) (a : ℕ) (r : List SectionCode × Ends) (F : ℕ → List SectionCode) (z : ℕ) → Linked m a r F z → LinkedUp m a (r.0, some r.1) F z
linked-up m a r F z l = record { Y = l.Y; en = l.en; is = ap (λ (x : List SectionCode × Ends). (x.0, some x.1)) l.is; close = l.close; len = l.len }

-- A list whose first section is a line's first or not.
abbrev flag : Bool → List SectionCode → List SectionCode
flag b [] = []
flag b (s ∷ l) = record { lineStart = b; instrs = s.instrs; success = s.success } ∷ l

flag-false : (b : Bool) (e n k : ℕ) (s : Stmts) → flag false (stmtSections b e n k s) ≡ stmtSections b e n k s
flag-false b e n k nil = refl
flag-false b e n k (plain o s) = refl
flag-false b e n k (goto o r s) = refl
flag-false b e n k (ite o c t f s) = refl

-- Each statement's start and end, the first statement's first section being n.
ends : ℕ → Stmts → List Ends
ends n nil = []
ends n (plain o s) = (n, some n) ∷ ends (suc n) s
ends n (goto o r s) = (n, none) ∷ ends (suc n) s
ends n (ite o c t f s) =
    let nj = suc n + orOne t (sectionsMade t) + orOne f (sectionsMade f) in
    (n, some nj) ∷ ends (suc nj) s

reduce-none : (m : List SectionCode) (a : ℕ) (xs : List Ends) → reduce m a none xs ≡ (m, (a, none))
reduce-none m a [] = refl
reduce-none m a (x ∷ xs) = reduce-none m a xs

-- Behind a goto it does not matter what follows the list.
low-any : (e n k k' : ℕ) (s : Stmts) → stmtSections false e n k s ≡ stmtSections false e n k' s
low-any e n k k' nil = refl
low-any e n k k' (plain o s) = ap (λ (l : List SectionCode). inner (ownCode e o) unfixed ∷ l) (low-any e (suc n) k k' s)
low-any e n k k' (goto o r s) = ap (λ (l : List SectionCode). inner (ownCode e o) (line r) ∷ l) (low-any e (suc n) k k' s)
low-any e n k k' (ite o c t f s) =
    let nf = suc n + orOne t (sectionsMade t) in
    let nj = nf + orOne f (sectionsMade f) in
    ap
    (
    λ (l : List SectionCode).
    inner (ownCode e o ++ condCode t c (suc n)) (section nf)
    ∷ (orEmpty t nj (stmtSections true e (suc n) nj t) ++ (orEmpty f nj (stmtSections true e nf nj f) ++ (inner [] unfixed ∷ l)))
    )
    (low-any e (suc nj) k k' s)

module _ (e : ℕ) where
  abbrev Chained : Stmts → Type 0
  Chained s =
      (n a : ℕ) (m A : List SectionCode) (z : SectionCode)
      → length m + length A ≡ n
      → Linked
      m
      a
      (reduce (m ++ (A ++ (z ∷ stmtSections false e (suc n) 0 s))) a (some n) (ends (suc n) s))
      (λ j. A ++ (withNext z (section (entry s (suc n) j)) ∷ stmtSections true e (suc n) j s))
      (length A + suc (sectionsMade s))

  regroup : (M A T : List SectionCode) (z : SectionCode) → M ++ ((A ++ (z ∷ [])) ++ T) ≡ (M ++ A) ++ (z ∷ T)
  regroup M A T z = simp append_assoc

  link-step : (m A B : List SectionCode) (z : SectionCode) (n : ℕ) (x : SectionOrLine) → length m + length A ≡ n → setNext (m ++ (A ++ (z ∷ B))) n x ≡ m ++ (A ++ (withNext z x ∷ B))
  link-step m A B z n x h =
      ap (λ (l : List SectionCode). setNext l n x) (sym (append_assoc m A (z ∷ B)))
      ∙ (set-next (m ++ A) B z n x (omega (arith, length-append m A)) ∙ append_assoc m A (withNext z x ∷ B))

  linked-cast : (m : List SectionCode) (a : ℕ) (r r' : List SectionCode × Ends) (F F' : ℕ → List SectionCode) (z z' : ℕ) → r' ≡ r → ((j : ℕ) → F j ≡ F' j) → z ≡ z' → Linked m a r F z → Linked m a r' F' z'
  linked-cast m a r r' F F' z z' p q w l =
      record {
        Y = l.Y;
        en = l.en;
        is = p ∙ l.is;
        close = λ M T j h. l.close M T j h ∙ ap (λ (x : List SectionCode). M ++ (x ++ T)) (q j);
        len = l.len ∙ w;
      }

  -- The end z is linked to a statement whose sections are C and W, and W is its end.
  chain-on : (s : Stmts) → Chained s → (n a : ℕ) (m A : List SectionCode) (z : SectionCode) (C : List SectionCode) (W : SectionCode) (nj : ℕ)
      → length m + length A ≡ n
      → n + suc (length C) ≡ nj
      → Linked
      m
      a
      (reduce (setNext (m ++ (A ++ (z ∷ (C ++ (W ∷ stmtSections false e (suc nj) 0 s))))) n (section (suc n))) a (some nj) (ends (suc nj) s))
      (λ j. A ++ (withNext z (section (suc n)) ∷ (C ++ (withNext W (section (entry s (suc nj) j)) ∷ stmtSections true e (suc nj) j s))))
      (length A + suc (length C + suc (sectionsMade s)))
  chain-on s ih n a m A z C W nj h k =
      let z' = withNext z (section (suc n)) in
      let R = W ∷ stmtSections false e (suc nj) 0 s in
      let lA : length (A ++ (z' ∷ C)) ≡ length A + suc (length C) = length-append A (z' ∷ C) in
      linked-cast
      m
      a
      (reduce (m ++ ((A ++ (z' ∷ C)) ++ R)) a (some nj) (ends (suc nj) s))
      (reduce (setNext (m ++ (A ++ (z ∷ (C ++ R)))) n (section (suc n))) a (some nj) (ends (suc nj) s))
      (λ j. (A ++ (z' ∷ C)) ++ (withNext W (section (entry s (suc nj) j)) ∷ stmtSections true e (suc nj) j s))
      (λ j. A ++ (z' ∷ (C ++ (withNext W (section (entry s (suc nj) j)) ∷ stmtSections true e (suc nj) j s))))
      (length (A ++ (z' ∷ C)) + suc (sectionsMade s))
      (length A + suc (length C + suc (sectionsMade s)))
      (ap (λ (l : List SectionCode). reduce l a (some nj) (ends (suc nj) s)) (link-step m A (C ++ R) z n (section (suc n)) h ∙ ap (λ (l : List SectionCode). m ++ l) (sym (append_assoc A (z' ∷ C) R))))
      (λ j. append_assoc A (z' ∷ C) (withNext W (section (entry s (suc nj) j)) ∷ stmtSections true e (suc nj) j s))
      (omega arith)
      (ih nj a m (A ++ (z' ∷ C)) W (omega arith))

  -- The sections of an Ite's lists, closed.
  abbrev listT : ℕ → Stmts → Stmts → List SectionCode
  listT n t f = let nf = suc n + orOne t (sectionsMade t) in let nj = nf + orOne f (sectionsMade f) in orEmpty t nj (stmtSections true e (suc n) nj t)

  abbrev listF : ℕ → Stmts → Stmts → List SectionCode
  listF n t f = let nf = suc n + orOne t (sectionsMade t) in let nj = nf + orOne f (sectionsMade f) in orEmpty f nj (stmtSections true e nf nj f)

  abbrev headI : ℕ → List Instruction → ℕ → Stmts → SectionCode
  headI n o c t = inner (ownCode e o ++ condCode t c (suc n)) (section (suc n + orOne t (sectionsMade t)))

  abbrev blockI : ℕ → List Instruction → ℕ → Stmts → Stmts → List SectionCode
  blockI n o c t f = headI n o c t ∷ (listT n t f ++ listF n t f)

  length-T : (n : ℕ) (t f : Stmts) → length (listT n t f) ≡ orOne t (sectionsMade t)
  length-T n t f = let nj = suc n + orOne t (sectionsMade t) + orOne f (sectionsMade f) in length-orEmpty t nj (stmtSections true e (suc n) nj t) (length-low true e (suc n) nj t)

  length-F : (n : ℕ) (t f : Stmts) → length (listF n t f) ≡ orOne f (sectionsMade f)
  length-F n t f = let nf = suc n + orOne t (sectionsMade t) in let nj = nf + orOne f (sectionsMade f) in length-orEmpty f nj (stmtSections true e nf nj f) (length-low true e nf nj f)

  length-I : (n : ℕ) (o : List Instruction) (c : ℕ) (t f : Stmts) → length (blockI n o c t f) ≡ suc (orOne t (sectionsMade t) + orOne f (sectionsMade f))
  length-I n o c t f = omega (arith, length-append (listT n t f) (listF n t f), length-T n t f, length-F n t f)

  block-assoc : (n : ℕ) (o : List Instruction) (c : ℕ) (t f : Stmts) (R : List SectionCode) → headI n o c t ∷ (listT n t f ++ (listF n t f ++ R)) ≡ blockI n o c t f ++ R
  block-assoc n o c t f R = ap (λ (l : List SectionCode). headI n o c t ∷ l) (sym (append_assoc (listT n t f) (listF n t f) R))

  chain : (s : Stmts) → Chained s
  unfolding ends
  chain nil = λ n a m A z h.
      record {
        Y = A ++ (z ∷ []);
        en = some n;
        is = refl;
        close = λ M T j p.
            let q : length (M ++ A) ≡ n = omega (arith, length-append M A) in
            ap (λ (l : List SectionCode). setNext l n (section j)) (regroup M A T z) ∙ (set-next (M ++ A) T z n (section j) q ∙ sym (regroup M A T (withNext z (section j))));
        len = length-append A (z ∷ []);
      }
  chain (plain o s) = λ n a m A z h.
      linked-cast
      m
      a
      (reduce (setNext (m ++ (A ++ (z ∷ stmtSections false e (suc n) 0 (plain o s)))) n (section (suc n))) a (some (suc n)) (ends (suc (suc n)) s))
      (reduce (setNext (m ++ (A ++ (z ∷ stmtSections false e (suc n) 0 (plain o s)))) n (section (suc n))) a (some (suc n)) (ends (suc (suc n)) s))
      (λ j. A ++ (withNext z (section (suc n)) ∷ stmtSections true e (suc n) j (plain o s)))
      (λ j. A ++ (withNext z (section (suc n)) ∷ stmtSections true e (suc n) j (plain o s)))
      (length A + suc (0 + suc (sectionsMade s)))
      (length A + suc (suc (sectionsMade s)))
      refl
      (λ j. refl)
      (omega arith)
      (chain-on s (chain s) n a m A z [] (inner (ownCode e o) unfixed) (suc n) h (omega arith))
  chain (goto o r s) = λ n a m A z h.
      let X = inner (ownCode e o) (line r) in
      let R = stmtSections false e (suc (suc n)) 0 s in
      let z' = withNext z (section (suc n)) in
      record {
        Y = A ++ (z' ∷ X ∷ R);
        en = none;
        is = reduce-none (setNext (m ++ (A ++ (z ∷ X ∷ R))) n (section (suc n))) a (ends (suc (suc n)) s) ∙ ap (λ (l : List SectionCode). (l, (a, none))) (link-step m A (X ∷ R) z n (section (suc n)) h);
        close = λ M T j p. ap (λ (l : List SectionCode). M ++ ((A ++ (z' ∷ X ∷ l)) ++ T)) (low-any e (suc (suc n)) 0 j s);
        len = length-append A (z' ∷ X ∷ R) ∙ ap (λ (k : ℕ). length A + suc (suc k)) (length-low false e (suc (suc n)) 0 s);
      }
  chain (ite o c t f s) = λ n a m A z h.
      let nj = suc (suc n) + orOne t (sectionsMade t) + orOne f (sectionsMade f) in
      let C = blockI (suc n) o c t f in
      linked-cast
      m
      a
      (reduce (setNext (m ++ (A ++ (z ∷ (C ++ (inner [] unfixed ∷ stmtSections false e (suc nj) 0 s))))) n (section (suc n))) a (some nj) (ends (suc nj) s))
      (reduce (setNext (m ++ (A ++ (z ∷ stmtSections false e (suc n) 0 (ite o c t f s)))) n (section (suc n))) a (some nj) (ends (suc nj) s))
      (λ j. A ++ (withNext z (section (suc n)) ∷ (C ++ (inner [] (section (entry s (suc nj) j)) ∷ stmtSections true e (suc nj) j s))))
      (λ j. A ++ (withNext z (section (suc n)) ∷ stmtSections true e (suc n) j (ite o c t f s)))
      (length A + suc (length C + suc (sectionsMade s)))
      (length A + suc (sectionsMade (ite o c t f s)))
      (
      ap
      (λ (l : List SectionCode). reduce (setNext (m ++ (A ++ (z ∷ l))) n (section (suc n))) a (some nj) (ends (suc nj) s))
      (block-assoc (suc n) o c t f (inner [] unfixed ∷ stmtSections false e (suc nj) 0 s))
      )
      (λ j. ap (λ (l : List SectionCode). A ++ (withNext z (section (suc n)) ∷ l)) (sym (block-assoc (suc n) o c t f (inner [] (section (entry s (suc nj) j)) ∷ stmtSections true e (suc nj) j s))))
      (omega (arith, length-I (suc n) o c t f))
      (chain-on s (chain s) n a m A z C (inner [] unfixed) nj h (omega (arith, length-I (suc n) o c t f)))

  -- ---- a list that is not empty, linked

  abbrev sect : Bool → List Instruction → SectionOrLine → SectionCode
  sect b c x = record { lineStart = b; instrs = c; success = x }

  abbrev First : Stmts → Type 0
  First s = (b : Bool) (n : ℕ) (m : List SectionCode) → length m ≡ n → LinkedUp m n (linkUp (m ++ flag b (stmtSections false e n 0 s)) (ends n s)) (λ j. flag b (stmtSections true e n j s)) (sectionsMade s)

  first-plain : (o : List Instruction) (s : Stmts) → First (plain o s)
  unfolding ends
  first-plain o s b n m h =
      let X = sect b (ownCode e o) unfixed in
      linked-up
      m
      n
      (reduce (m ++ (X ∷ stmtSections false e (suc n) 0 s)) n (some n) (ends (suc n) s))
      (λ j. flag b (stmtSections true e n j (plain o s)))
      (suc (sectionsMade s))
      (
      linked-cast
      m
      n
      (reduce (m ++ (X ∷ stmtSections false e (suc n) 0 s)) n (some n) (ends (suc n) s))
      (reduce (m ++ (X ∷ stmtSections false e (suc n) 0 s)) n (some n) (ends (suc n) s))
      (λ j. flag b (stmtSections true e n j (plain o s)))
      (λ j. flag b (stmtSections true e n j (plain o s)))
      (0 + suc (sectionsMade s))
      (suc (sectionsMade s))
      refl
      (λ j. refl)
      (omega arith)
      (chain s n n m [] X (omega arith))
      )

  first-goto : (o : List Instruction) (r : ℕ) (s : Stmts) → First (goto o r s)
  unfolding ends
  first-goto o r s b n m h =
      let X = sect b (ownCode e o) (line r) in
      let R = stmtSections false e (suc n) 0 s in
      record {
        Y = X ∷ R;
        en = none;
        is = ap (λ (x : List SectionCode × Ends). (x.0, some x.1)) (reduce-none (m ++ (X ∷ R)) n (ends (suc n) s));
        close = λ M T j p. ap (λ (l : List SectionCode). M ++ ((X ∷ l) ++ T)) (low-any e (suc n) 0 j s);
        len = ap suc (length-low false e (suc n) 0 s);
      }

  first-ite : (o : List Instruction) (c : ℕ) (t f s : Stmts) → First (ite o c t f s)
  unfolding ends
  first-ite o c t f s b n m h =
      let nj = suc n + orOne t (sectionsMade t) + orOne f (sectionsMade f) in
      let H = sect b (ownCode e o ++ condCode t c (suc n)) (section (suc n + orOne t (sectionsMade t))) in
      let TF = listT n t f ++ listF n t f in
      let J = inner [] unfixed in
      let R = stmtSections false e (suc nj) 0 s in
      let lTF : length TF ≡ orOne t (sectionsMade t) + orOne f (sectionsMade f) = omega (arith, length-I n o c t f) in
      linked-up
      m
      n
      (reduce (m ++ (H ∷ (listT n t f ++ (listF n t f ++ (J ∷ R))))) n (some nj) (ends (suc nj) s))
      (λ j. flag b (stmtSections true e n j (ite o c t f s)))
      (sectionsMade (ite o c t f s))
      (
      linked-cast
      m
      n
      (reduce (m ++ ((H ∷ TF) ++ (J ∷ R))) n (some nj) (ends (suc nj) s))
      (reduce (m ++ (H ∷ (listT n t f ++ (listF n t f ++ (J ∷ R))))) n (some nj) (ends (suc nj) s))
      (λ j. (H ∷ TF) ++ (inner [] (section (entry s (suc nj) j)) ∷ stmtSections true e (suc nj) j s))
      (λ j. flag b (stmtSections true e n j (ite o c t f s)))
      (length (H ∷ TF) + suc (sectionsMade s))
      (sectionsMade (ite o c t f s))
      (ap (λ (l : List SectionCode). reduce (m ++ (H ∷ l)) n (some nj) (ends (suc nj) s)) (sym (append_assoc (listT n t f) (listF n t f) (J ∷ R))))
      (λ j. ap (λ (l : List SectionCode). H ∷ l) (append_assoc (listT n t f) (listF n t f) (inner [] (section (entry s (suc nj) j)) ∷ stmtSections true e (suc nj) j s)))
      (omega arith)
      (chain s nj n m (H ∷ TF) J (omega arith))
      )

  -- ---- an Ite's lists

  record Part (m : List SectionCode) (k : ℕ) (red : List SectionCode × Option ℕ) (X : SectionCode) (W : List SectionCode) (F : ℕ → List SectionCode) (sz : ℕ) : Type 0 where
    Y : List SectionCode
    en : Option ℕ
    is : red ≡ (m ++ (X ∷ (W ++ Y)), en)
    close : (M T : List SectionCode) (j : ℕ) → length M ≡ k → setEnd (M ++ (Y ++ T)) en j ≡ M ++ (F j ++ T)
    len : length Y ≡ sz

  module _ (b : Bool) (o : List Instruction) (c : ℕ) (m : List SectionCode) where
    abbrev X₀ : SectionCode
    X₀ = sect b (ownCode e o) unfixed

    abbrev m₁ : List SectionCode
    m₁ = m ++ (X₀ ∷ [])

    abbrev n : ℕ
    n = length m

    abbrev Then : Stmts → Type 0
    Then t =
        Part
        m
        (suc n)
        (thenPart n c (m₁ ++ stmtSections false e (suc n) 0 t, ends (suc n) t))
        (sect b (ownCode e o ++ condCode t c (suc n)) unfixed)
        []
        (λ j. orEmpty t j (stmtSections true e (suc n) j t))
        (orOne t (sectionsMade t))

    l₁ : length m₁ ≡ suc n
    l₁ = omega (arith, length-append m (X₀ ∷ []))

    then-nil : Then nil
    unfolding ends
    then-nil =
        let E = inner [] unfixed in
        record {
          Y = E ∷ [];
          en = some (suc n);
          is =
              ap₂
              (λ (l : List SectionCode) (x : ℕ). (l, some x))
              (
              ap (λ (l : List SectionCode). l ++ (E ∷ [])) (append-nil m₁)
              ∙ (append_assoc m (X₀ ∷ []) (E ∷ []) ∙ ap (λ (k : List Instruction). m ++ (sect b k unfixed ∷ E ∷ [])) (sym (append-nil (ownCode e o))))
              )
              (ap length (append-nil m₁) ∙ l₁);
          close = λ M T j p. set-next M T E (suc n) (section j) p;
          len = refl;
        }

    then-some : (t : Stmts) → First t
        → Part m (suc n) (thenPart n c (m₁ ++ stmtSections false e (suc n) 0 t, ends (suc n) t)) (sect b (ownCode e o ++ (condJump (suc n) c ∷ [])) unfixed) [] (λ j. stmtSections true e (suc n) j t) (sectionsMade t)
    then-some t h =
        let i = condJump (suc n) c in
        let u = h false (suc n) m₁ l₁ in
        record {
          Y = u.Y;
          en = u.en;
          is =
              ap (λ (l : List SectionCode). thenPart n c (m₁ ++ l, ends (suc n) t)) (sym (flag-false false e (suc n) 0 t))
              ∙ (ap (λ (l : List SectionCode × Option Ends). thenDone n c l.0 l.1) u.is
              ∙ ap (λ (l : List SectionCode). (l, u.en)) (ap (λ (l : List SectionCode). addIns l n i) (append_assoc m (X₀ ∷ []) u.Y) ∙ add-ins m u.Y X₀ n i refl));
          close = λ M T j p. u.close M T j (p ∙ sym l₁) ∙ ap (λ (l : List SectionCode). M ++ (l ++ T)) (flag-false true e (suc n) j t);
          len = u.len;
        }

    then-part : (t : Stmts) → Then t
    then-part nil = then-nil
    then-part (plain o' s) = then-some (plain o' s) (first-plain o' s)
    then-part (goto o' r s) = then-some (goto o' r s) (first-goto o' r s)
    then-part (ite o' c' t f s) = then-some (ite o' c' t f s) (first-ite o' c' t f s)

    module _ (X : SectionCode) (W : List SectionCode) (nf : ℕ) (hf : length (m ++ (X ∷ W)) ≡ nf) where
      abbrev m₂ : List SectionCode
      m₂ = m ++ (X ∷ W)

      abbrev Else : Stmts → Type 0
      Else f = Part m nf (elsePart n (m₂ ++ stmtSections false e nf 0 f, ends nf f)) (withNext X (section nf)) W (λ j. orEmpty f j (stmtSections true e nf j f)) (orOne f (sectionsMade f))

      into : (Z : List SectionCode) → setNext (m₂ ++ Z) n (section nf) ≡ m ++ (withNext X (section nf) ∷ (W ++ Z))
      into Z = ap (λ (l : List SectionCode). setNext l n (section nf)) (append_assoc m (X ∷ W) Z) ∙ set-next m (W ++ Z) X n (section nf) refl

      else-nil : Else nil
      unfolding ends
      else-nil =
          let E = inner [] unfixed in
          record {
            Y = E ∷ [];
            en = some nf;
            is =
                ap (λ (l : List SectionCode). (setNext (l ++ (E ∷ [])) n (section (length l)), some (length l))) (append-nil m₂)
                ∙ (ap (λ (k : ℕ). (setNext (m₂ ++ (E ∷ [])) n (section k), some k)) hf ∙ ap (λ (l : List SectionCode). (l, some nf)) (into (E ∷ [])));
            close = λ M T j p. set-next M T E nf (section j) p;
            len = refl;
          }

      else-some : (f : Stmts) → First f → Part m nf (elsePart n (m₂ ++ stmtSections false e nf 0 f, ends nf f)) (withNext X (section nf)) W (λ j. stmtSections true e nf j f) (sectionsMade f)
      else-some f h =
          let u = h false nf m₂ hf in
          record {
            Y = u.Y;
            en = u.en;
            is =
                ap (λ (l : List SectionCode). elsePart n (m₂ ++ l, ends nf f)) (sym (flag-false false e nf 0 f))
                ∙ (ap (λ (l : List SectionCode × Option Ends). elseDone n l.0 l.1) u.is ∙ ap (λ (l : List SectionCode). (l, u.en)) (into u.Y));
            close = λ M T j p. u.close M T j (p ∙ sym hf) ∙ ap (λ (l : List SectionCode). M ++ (l ++ T)) (flag-false true e nf j f);
            len = u.len;
          }

      else-part : (f : Stmts) → Else f
      else-part nil = else-nil
      else-part (plain o' s) = else-some (plain o' s) (first-plain o' s)
      else-part (goto o' r s) = else-some (goto o' r s) (first-goto o' r s)
      else-part (ite o' c' t f s) = else-some (ite o' c' t f s) (first-ite o' c' t f s)

  -- ---- the whole list

  abbrev CodegenData : Stmts → Bool → List SectionCode → ℕ → Type 0
  CodegenData s b m n = gen b e m s ≡ (m ++ flag b (stmtSections false e n 0 s), ends n s)

  gen-at : (s : Stmts) → ((b : Bool) (m : List SectionCode) → CodegenData s b m (length m)) → (m : List SectionCode) (n : ℕ) → length m ≡ n → gen false e m s ≡ (m ++ stmtSections false e n 0 s, ends n s)
  gen-at s h m n p =
      subst (λ (k : ℕ). CodegenData s false m k) p (h false m) ∙ ap (λ (l : List SectionCode). (m ++ l, ends n s)) (flag-false false e n 0 s)

  -- The two ends of an Ite are linked to the section behind it.
  join-is : (m Y Z : List SectionCode) (X : SectionCode) (te fe : Option ℕ) (FT FF : ℕ → List SectionCode) (nt nf nj : ℕ)
      → ((M T : List SectionCode) (j : ℕ) → length M ≡ nt → setEnd (M ++ (Y ++ T)) te j ≡ M ++ (FT j ++ T))
      → ((M T : List SectionCode) (j : ℕ) → length M ≡ nf → setEnd (M ++ (Z ++ T)) fe j ≡ M ++ (FF j ++ T))
      → suc (length m) ≡ nt
      → nt + length (FT nj) ≡ nf
      → length (m ++ (X ∷ (Y ++ Z))) ≡ nj
      → join (m ++ (X ∷ (Y ++ Z))) te fe ≡ m ++ (X ∷ (FT nj ++ (FF nj ++ (inner [] unfixed ∷ []))))
  join-is m Y Z X te fe FT FF nt nf nj ct cf ht hf hj =
      let J = inner [] unfixed in
      let q₁ : (m ++ (X ∷ (Y ++ Z))) ++ (J ∷ []) ≡ (m ++ (X ∷ [])) ++ (Y ++ (Z ++ (J ∷ []))) = simp append_assoc in
      let q₂ : (m ++ (X ∷ [])) ++ (FT nj ++ (Z ++ (J ∷ []))) ≡ (m ++ (X ∷ FT nj)) ++ (Z ++ (J ∷ [])) = simp append_assoc in
      let q₃ : (m ++ (X ∷ FT nj)) ++ (FF nj ++ (J ∷ [])) ≡ m ++ (X ∷ (FT nj ++ (FF nj ++ (J ∷ [])))) = simp append_assoc in
      ap (λ (j : ℕ). setEnd (setEnd ((m ++ (X ∷ (Y ++ Z))) ++ (J ∷ [])) te j) fe j) hj
      ∙ (ap (λ (l : List SectionCode). setEnd (setEnd l te nj) fe nj) q₁
      ∙ (ap (λ (l : List SectionCode). setEnd l fe nj) (ct (m ++ (X ∷ [])) (Z ++ (J ∷ [])) nj (omega (arith, length-append m (X ∷ []))) ∙ q₂)
      ∙ (cf (m ++ (X ∷ FT nj)) (J ∷ []) nj (omega (arith, length-append m (X ∷ FT nj))) ∙ q₃)))

  gen-end : (s : Stmts) → ((b : Bool) (m : List SectionCode) → CodegenData s b m (length m)) → (m Y Z : List SectionCode) (X : SectionCode) (te fe : Option ℕ) (FT FF : List SectionCode) (n nj : ℕ)
      → join (m ++ (X ∷ (Y ++ Z))) te fe ≡ m ++ (X ∷ (FT ++ (FF ++ (inner [] unfixed ∷ []))))
      → length (m ++ (X ∷ (Y ++ Z))) ≡ nj
      → length m + suc (length FT + length FF) ≡ nj
      → (r : Option ℕ) (q : List SectionCode × Option ℕ)
      → r ≡ te
      → q ≡ (m ++ (X ∷ (Y ++ Z)), fe)
      → ◌≡◌
      {A = List SectionCode × List Ends}
      ((gen false e (join q.0 r q.1) s).0, (n, some (length q.0)) ∷ (gen false e (join q.0 r q.1) s).1)
      (m ++ (X ∷ (FT ++ (FF ++ (inner [] unfixed ∷ stmtSections false e (suc nj) 0 s)))), (n, some nj) ∷ ends (suc nj) s)
  gen-end s hs m Y Z X te fe FT FF n nj hj hl hn r q er eq =
      let J = inner [] unfixed in
      let m₃ = m ++ (X ∷ (FT ++ (FF ++ (J ∷ [])))) in
      let l₃ : length m₃ ≡ suc nj = omega (arith, length-append m (X ∷ (FT ++ (FF ++ (J ∷ [])))), length-append FT (FF ++ (J ∷ [])), length-append FF (J ∷ [])) in
      let q₁ : m₃ ++ stmtSections false e (suc nj) 0 s ≡ m ++ (X ∷ (FT ++ (FF ++ (J ∷ stmtSections false e (suc nj) 0 s)))) = simp append_assoc in
      ap₂
      (λ (x : Option ℕ) (y : List SectionCode × Option ℕ). ((gen false e (join y.0 x y.1) s).0, (n, some (length y.0)) ∷ (gen false e (join y.0 x y.1) s).1))
      er
      eq
      ∙ (ap₂ (λ (g : List SectionCode × List Ends) (k : ℕ). (g.0, (n, some k) ∷ g.1)) (ap (λ (l : List SectionCode). gen false e l s) hj ∙ gen-at s hs m₃ (suc nj) l₃) hl
      ∙ ap (λ (l : List SectionCode). (l, (n, some nj) ∷ ends (suc nj) s)) q₁)

  gen-ite : (o : List Instruction) (c : ℕ) (t f s : Stmts)
      → ((b : Bool) (m : List SectionCode) → CodegenData t b m (length m))
      → ((b : Bool) (m : List SectionCode) → CodegenData f b m (length m))
      → ((b : Bool) (m : List SectionCode) → CodegenData s b m (length m))
      → (b : Bool) (m : List SectionCode)
      → CodegenData (ite o c t f s) b m (length m)
  unfolding ends
  gen-ite o c t f s ht hf hs b m =
      let n = length m in
      let nf = suc n + orOne t (sectionsMade t) in
      let nj = nf + orOne f (sectionsMade f) in
      let pt = then-part b o c m t in
      let X = sect b (ownCode e o ++ condCode t c (suc n)) unfixed in
      let Y = pt.Y in
      let lY : length (m ++ (X ∷ Y)) ≡ nf = omega (arith, length-append m (X ∷ Y), pt.len) in
      let pf = else-part b o c m X Y nf lY f in
      let X' = withNext X (section nf) in
      let Z = pf.Y in
      let FT : ℕ → List SectionCode = λ j. orEmpty t j (stmtSections true e (suc n) j t) in
      let FF : ℕ → List SectionCode = λ j. orEmpty f j (stmtSections true e nf j f) in
      let lT : length (FT nj) ≡ orOne t (sectionsMade t) = length-T n t f in
      let lF : length (FF nj) ≡ orOne f (sectionsMade f) = length-F n t f in
      let lZ : length (m ++ (X' ∷ (Y ++ Z))) ≡ nj = omega (arith, length-append m (X' ∷ (Y ++ Z)), length-append Y Z, pt.len, pf.len) in
      let gT = thenPart n c (gen false e (push m b (ownCode e o) unfixed) t) in
      let eT : gT ≡ (m ++ (X ∷ Y), pt.en) = ap (thenPart n c) (gen-at t ht (push m b (ownCode e o) unfixed) (suc n) (l₁ b o c m)) ∙ pt.is in
      let gF = elsePart n (gen false e gT.0 f) in
      let eF : gF ≡ (m ++ (X' ∷ (Y ++ Z)), pf.en) =
      ap (λ (d : List SectionCode × Option ℕ). elsePart n (gen false e d.0 f)) eT ∙ (ap (elsePart n) (gen-at f hf (m ++ (X ∷ Y)) nf lY) ∙ pf.is)
      in
      gen-end
      s
      hs
      m
      Y
      Z
      X'
      pt.en
      pf.en
      (FT nj)
      (FF nj)
      n
      nj
      (join-is m Y Z X' pt.en pf.en FT FF (suc n) nf nj pt.close pf.close refl (ap (λ (k : ℕ). suc n + k) lT) lZ)
      lZ
      (omega (arith, lT, lF))
      gT.1
      gF
      (ap (λ (d : List SectionCode × Option ℕ). d.1) eT)
      eF

  gen-is : (s : Stmts) (b : Bool) (m : List SectionCode) → CodegenData s b m (length m)
  unfolding ends
  gen-is nil = λ b m. ap (λ (l : List SectionCode). (l, [])) (sym (append-nil m))
  gen-is (plain o s) = λ b m.
      let X = sect b (ownCode e o) unfixed in
      let n = length m in
      ap (λ (r : List SectionCode × List Ends). (r.0, (n, some n) ∷ r.1)) (gen-at s (gen-is s) (m ++ (X ∷ [])) (suc n) (omega (arith, length-append m (X ∷ []))))
      ∙ ap (λ (l : List SectionCode). (l, (n, some n) ∷ ends (suc n) s)) (append_assoc m (X ∷ []) (stmtSections false e (suc n) 0 s))
  gen-is (goto o r s) = λ b m.
      let X = sect b (ownCode e o) (line r) in
      let n = length m in
      ap (λ (g : List SectionCode × List Ends). (g.0, (n, none) ∷ g.1)) (gen-at s (gen-is s) (m ++ (X ∷ [])) (suc n) (omega (arith, length-append m (X ∷ []))))
      ∙ ap (λ (l : List SectionCode). (l, (n, none) ∷ ends (suc n) s)) (append_assoc m (X ∷ []) (stmtSections false e (suc n) 0 s))
  gen-is (ite o c t f s) = gen-ite o c t f s (gen-is t) (gen-is f) (gen-is s)

-- ---- the lines

swap-is : (H R tl : List SectionCode) (x h : SectionCode) → swap ((H ++ (x ∷ R)) ++ (h ∷ tl)) (length H) (length (H ++ (x ∷ R))) ≡ H ++ (h ∷ (R ++ (x ∷ tl)))
swap-is H R tl x h =
    let i = length H in
    let n = length (H ++ (x ∷ R)) in
    let M = (H ++ (x ∷ R)) ++ (h ∷ tl) in
    let q₁ : M ≡ H ++ (x ∷ (R ++ (h ∷ tl))) = append_assoc H (x ∷ R) (h ∷ tl) in
    let q₂ : get_or M n absent ≡ h = get_or_at (H ++ (x ∷ R)) h tl absent n refl in
    let q₃ : get_or M i absent ≡ x = ap (λ (l : List SectionCode). get_or l i absent) q₁ ∙ get_or_at H x (R ++ (h ∷ tl)) absent i refl in
    let q₄ : set M i h ≡ (H ++ (h ∷ R)) ++ (h ∷ tl) = ap (λ (l : List SectionCode). set l i h) q₁ ∙ (set_at H x (R ++ (h ∷ tl)) h i refl ∙ sym (append_assoc H (h ∷ R) (h ∷ tl))) in
    ap₂ (λ (a b : SectionCode). set (set M i a) n b) q₂ q₃
    ∙ (ap (λ (l : List SectionCode). set l n x) q₄
    ∙ (set_at (H ++ (h ∷ R)) h tl x n (omega (arith, length-append H (h ∷ R), length-append H (x ∷ R))) ∙ append_assoc H (h ∷ R) (x ∷ tl)))

-- One line: H are the sections of the lines before, R the placeholders of the lines behind and the other sections made so far.
abbrev oneLine : ℕ → ℕ → List SectionCode → Stmts → List SectionCode
oneLine i e m s = let g = gen true e m s in let l = linkUp g.0 g.1 in fixLine (lineDone i e l.0 l.1) i e

module _ (e : ℕ) (H R : List SectionCode) where
  abbrev m₀ : List SectionCode
  m₀ = H ++ (absent ∷ R)

  abbrev OneLine : Stmts → Type 0
  OneLine s = oneLine (length H) e m₀ s ≡ H ++ (headOf e (stmtSections true e (length m₀) e s) ∷ (R ++ tailOf (stmtSections true e (length m₀) e s)))

  fix-none : (x : SectionCode) (l : List SectionCode) → isFixed x.success ≡ false → fixLine (H ++ (x ∷ l)) (length H) e ≡ H ++ (withNext x (section e) ∷ l)
  fix-none x l h =
      let i = length H in
      let m = H ++ (x ∷ l) in
      ap (λ (b : Bool). cond b m (setNext m i (section e))) (ap (λ (z : SectionCode). isFixed z.success) (get_or_at H x l absent i refl) ∙ h) ∙ set-next H l x i (section e) refl

  fix-some : (x : SectionCode) (l : List SectionCode) → isFixed x.success ≡ true → fixLine (H ++ (x ∷ l)) (length H) e ≡ H ++ (x ∷ l)
  fix-some x l h =
      let i = length H in
      let m = H ++ (x ∷ l) in
      ap (λ (b : Bool). cond b m (setNext m i (section e))) (ap (λ (z : SectionCode). isFixed z.success) (get_or_at H x l absent i refl) ∙ h)

  line-nil : OneLine nil
  line-nil = fix-none absent R refl ∙ ap (λ (l : List SectionCode). H ++ (headOf e [] ∷ l)) (sym (append-nil R))

  line-some : (s : Stmts) → First e s → (h : SectionCode) (tl : List SectionCode) → stmtSections true e (length m₀) e s ≡ h ∷ tl → isFixed h.success ≡ true
      → oneLine (length H) e m₀ s ≡ H ++ (asStart h ∷ (R ++ (absent ∷ tl)))
  line-some s f h tl q g =
      let i = length H in
      let n = length m₀ in
      let u = f true n m₀ refl in
      let closed : setEnd (m₀ ++ u.Y) u.en e ≡ m₀ ++ (asStart h ∷ tl) =
      ap (λ (l : List SectionCode). setEnd (m₀ ++ l) u.en e) (sym (append-nil u.Y))
      ∙ (u.close m₀ [] e refl ∙ (ap (λ (l : List SectionCode). m₀ ++ l) (append-nil (flag true (stmtSections true e n e s))) ∙ ap (λ (l : List SectionCode). m₀ ++ flag true l) q))
      in
      ap (λ (x : List SectionCode × List Ends). fixLine (lineDone i e (linkUp x.0 x.1).0 (linkUp x.0 x.1).1) i e) (gen-is e s true m₀)
      ∙ (ap (λ (x : List SectionCode × Option Ends). fixLine (lineDone i e x.0 x.1) i e) u.is
      ∙ (ap (λ (l : List SectionCode). fixLine (swap l i n) i e) closed
      ∙ (ap (λ (l : List SectionCode). fixLine l i e) (swap-is H R tl absent (asStart h)) ∙ fix-some (asStart h) (R ++ (absent ∷ tl)) g)))

  one-line : (s : Stmts) → OneLine s
  one-line nil = line-nil
  one-line (plain o s) =
      let n = length m₀ in
      line-some (plain o s) (first-plain e o s) (inner (ownCode e o) (section (entry s (suc n) e))) (stmtSections true e (suc n) e s) refl refl
  one-line (goto o r s) = let n = length m₀ in line-some (goto o r s) (first-goto e o r s) (inner (ownCode e o) (line r)) (stmtSections false e (suc n) e s) refl refl
  one-line (ite o c t f s) =
      let n = length m₀ in
      let nj = suc n + orOne t (sectionsMade t) + orOne f (sectionsMade f) in
      line-some
      (ite o c t f s)
      (first-ite e o c t f s)
      (headI e n o c t)
      (listT e n t f ++ (listF e n t f ++ (inner [] (section (entry s (suc nj) e)) ∷ stmtSections true e (suc nj) e s)))
      refl
      refl

lines-is : (L : ℕ) (ss : Script) (i n : ℕ) (H T : List SectionCode) → length H ≡ i → length (H ++ (replicate (length ss) absent ++ T)) ≡ n
    → genLines L i (H ++ (replicate (length ss) absent ++ T)) ss ≡ H ++ (heads L i n ss ++ (T ++ tails L i n ss))
lines-is L [] i n H T hi hn = ap (λ (l : List SectionCode). H ++ l) (sym (append-nil T))
lines-is L (s ∷ ss) i n H T hi hn =
    let e = nextLine L i in
    let R = replicate (length ss) absent ++ T in
    let M = H ++ (absent ∷ R) in
    let l = stmtSections true e n e s in
    let hd = headOf e l in
    let tl = tailOf l in
    let H' = H ++ (hd ∷ []) in
    let T' = T ++ tl in
    let n' = n + sectionsMade s in
    let lt : length tl ≡ sectionsMade s = length-tailOf l ∙ length-low true e n e s in
    let step : oneLine i e M s ≡ H' ++ (replicate (length ss) absent ++ T') =
    ap (λ (k : ℕ). oneLine k e M s) (sym hi)
    ∙ (one-line e H R s
    ∙ (ap (λ (k : ℕ). H ++ (headOf e (stmtSections true e k e s) ∷ (R ++ tailOf (stmtSections true e k e s)))) hn ∙ (simp append_assoc)))
    in
    ap (λ (m : List SectionCode). genLines L (suc i) m ss) step
    ∙ (lines-is
    L
    ss
    (suc i)
    n'
    H'
    T'
    (omega (arith, length-append H (hd ∷ [])))
    (
    omega (
      arith,
      lt,
      length-append H' (replicate (length ss) absent ++ T'),
      length-append (replicate (length ss) absent) T',
      length-append T tl,
      length-append H (hd ∷ []),
      length-append H (absent ∷ R),
      length-append (replicate (length ss) absent) T,
    )
    )
    ∙ (simp append_assoc))

-- The table that codegen.rs makes is `sectionsOf`'s.
pub codegen-is : (t : Script) → codegen t ≡ sectionsOf t
unfolding codegen sectionsOf
codegen-is t =
    let L = length t in
    ap (λ (l : List SectionCode). genLines L 0 l t) (sym (append-nil (replicate L absent)))
    ∙ lines-is L t 0 L [] [] refl (ap length (append-nil (replicate L absent)) ∙ length-replicate L absent)
