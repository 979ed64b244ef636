-- The opcode table: a test that is computed over all its rows holds of each row. Assumes nothing.
use Rattle.std.specs.Prelude.{◌≡◌, Bool, false, List, [], ◌∷◌, map, ℕ, zero, suc, ◌≤◌, ◌<◌, eqb, ltb, leb, length}
use Rattle.std.proofs.Math.Path.{refl}
use Rattle.std.proofs.Common.{sym, ap, ◌∙◌, zero-le, arith, ne_eqb, ltb-true, leb-false}
use Rattle.std.proofs.Math.Bool.{true}
use Rattle.std.proofs.Math.Option.{Option, none, some}
use Rattle.std.proofs.Math.ListN.{get_elem?}
use Rattle.rules.specs.Opcode.{JumpIfError}
use Rattle.rules.specs.Instr.{Instruction, Kind, unused, num, str, val, place, Row, table, kinds, register, reads, modifies, canRuntimeErr}
use Rattle.rules.specs.Tables.{allb}
use Rattle.laws.specs.Match.{agree}
use Rattle.rules.specs.Replace.{Rule, stays, goes, turns, number, result, blank, rules, lookup}

-- past the end there is nothing
pub past_end : {A : Type 0} (l : List A) (n : ℕ) → length l ≤ n → none ≡ get_elem? l n
past_end [] n h = refl
past_end (x ∷ l) zero h = absurd (omega arith)
past_end (x ∷ l) (suc n) h = past_end l n (omega arith)

-- what all pass, the first passes, and the others
split-all : {A : Type 0} (p : A → Bool) (x : A) (l : List A) → allb p (x ∷ l) ≡ true → (p x ≡ true) × (allb p l ≡ true)
unfolding allb
split-all p x l h = go (p x) h
  where
    go : (b : Bool) → elim b [ false ↦ false | true ↦ allb p l ] ≡ true → (b ≡ true) × (allb p l ≡ true)
    go false h = let z : ◌≡◌ {A = ℕ} 0 1 = cc in absurd (omega arith)
    go true h = (refl, h)

-- a test that all pass, each passes
pub all-at : {A : Type 0} (p : A → Bool) (l : List A) (n : ℕ) (a : A) → allb p l ≡ true → some a ≡ get_elem? l n → p a ≡ true
all-at p [] n a h e = let z : ◌≡◌ {A = ℕ} 0 1 = cc in absurd (omega arith)
all-at p (x ∷ l) zero a h e = let same : a ≡ x = cc in rw same (split-all p x l h).0
all-at p (x ∷ l) (suc n) a h e = all-at p l n a (split-all p x l h).1 e

-- ---- the rows

-- the kinds are those of the row
pub kinds-row : (o : ℕ) (r : Row) → some r ≡ get_elem? table o → kinds o ≡ some r.kinds
unfolding kinds
kinds-row o r e = rw (← e)

-- whoever knows the row knows the kinds
abbrev pub rowKinds : Option Row → Option (Kind × Kind × Kind)
rowKinds none = none
rowKinds (some r) = some r.kinds

pub told-both : (x : Option Row) (o : ℕ) → x ≡ get_elem? table o → (rowKinds x ≡ kinds o) × (x ≡ get_elem? table o)
unfolding kinds
told-both none o e = (rw (← e), e)
told-both (some r) o e = (rw (← e), e)

-- so are the registers that are read, and the one that is modified
module _ (i : Instruction) (r : Row) (e : some r ≡ get_elem? table i.op) where
  pub reads-row : reads i ≡ map (register r i) r.reads
  unfolding reads
  reads-row = rw (← e)

  pub modifies-row : modifies i ≡ elim r.modifies [ none ↦ none | some f ↦ some (register r i f) ]
  unfolding modifies
  modifies-row = rw (← e)

-- an opcode is below 53
pub opcode-lt : (o : ℕ) (k : Kind × Kind × Kind) → kinds o ≡ some k → o < 53
unfolding kinds table
opcode-lt o k e =
    let no : 53 ≤ o → ⊥ = λ h. let n : none ≡ get_elem? table o = past_end table o h in let z : ◌≡◌ {A = ℕ} 0 1 = cc (rw (← n) at e) in omega arith in
    omega arith

-- so it has 6 bits
pub opcode-bits : (o : ℕ) (k : Kind × Kind × Kind) → kinds o ≡ some k → o < 64
opcode-bits o k e = omega (arith, opcode-lt o k e)

-- the jumps are the opcodes whose first field is a section
abbrev pub isPlace : Option (Kind × Kind × Kind) → Bool
isPlace none = false
isPlace (some (unused, b, c)) = false
isPlace (some (num, b, c)) = false
isPlace (some (str, b, c)) = false
isPlace (some (val, b, c)) = false
isPlace (some (place, b, c)) = true

pub place-jumps : (o : ℕ) → o < 53 → isPlace (kinds o) ≡ leb o JumpIfError
unfolding kinds table
place-jumps o h = agree (λ o. leb o JumpIfError) (λ o. isPlace (kinds o)) [] 0 53 refl o tt zero-le h

-- so no other opcode jumps
pub past-jumps : (o : ℕ) (k : Kind × Kind × Kind) → kinds o ≡ some k → isPlace (some k) ≡ false → 2 ≤ o
past-jumps o k e h = leb-false o JumpIfError (sym (place-jumps o (opcode-lt o k e)) ∙ (ap isPlace e ∙ h))

-- is it the kind of a register?
abbrev pub isReg : Kind → Bool
isReg unused = false
isReg num = true
isReg str = true
isReg val = true
isReg place = false

-- the kind of a field by its place
abbrev pub kindAt : Row → ℕ → Kind
kindAt r zero = r.kinds.0
kindAt r (suc zero) = r.kinds.1
kindAt r (suc (suc n)) = r.kinds.2

-- are these fields of a row registers?
abbrev pub Regs : Row → List ℕ → Type 0
Regs r [] = Unit {0}
Regs r (f ∷ fs) = (isReg (kindAt r f) ≡ true) × Regs r fs

regs-of : (r : Row) (fs : List ℕ) → allb (λ f. isReg (kindAt r f)) fs ≡ true → Regs r fs
regs-of r [] t = tt
regs-of r (f ∷ fs) t = let s = split-all (λ g. isReg (kindAt r g)) f fs t in (s.0, regs-of r fs s.1)

-- what is read are registers, and so is what is modified
module _ (o : ℕ) (r : Row) (e : some r ≡ get_elem? table o) where
  pub read-regs : Regs r r.reads
  unfolding allb table
  read-regs = regs-of r r.reads (all-at (λ q. allb (λ f. isReg (kindAt q f)) q.reads) table o r refl e)

  pub modified-reg : (f : ℕ) → r.modifies ≡ some f → isReg (kindAt r f) ≡ true
  unfolding allb table
  modified-reg f m = rw m at (all-at (λ q. elim q.modifies [ none ↦ true | some f ↦ isReg (kindAt q f) ]) table o r refl e)

-- ---- numbers that no opcode has

above : (o k : ℕ) → k < o → eqb o k ≡ false
above o k h = ne_eqb o k (λ e. omega arith)

-- they cannot fail
pub past-err : (o : ℕ) → 41 ≤ o → false ≡ canRuntimeErr o
unfolding canRuntimeErr
past-err o h = simp (above o 7 (omega arith), above o 26 (omega arith), above o 28 (omega arith), above o 39 (omega arith), above o 40 (omega arith))

-- they have no rule
past-list : (o : ℕ) (rs : List (ℕ × Rule)) → allb (λ r. ltb r.0 53) rs ≡ true → 53 ≤ o → stays ≡ lookup o rs
unfolding lookup
past-list o [] t h = refl
past-list o (r ∷ rs) t h =
    let s = split-all (λ r. ltb r.0 53) r rs t in
    let below : r.0 < 53 = ltb-true _ _ s.0 in
    rw (above o r.0 (omega arith), lookup) (past-list o rs s.1 h)

pub past-rules : (o : ℕ) → 53 ≤ o → stays ≡ lookup o rules
unfolding allb rules
past-rules o h = past-list o rules refl h

-- ---- an opcode that a rule turns to has 6 bits

isSmall : Rule → Bool
isSmall stays = true
isSmall goes = true
isSmall (turns o) = ltb o 64
isSmall (number z) = true
isSmall (result z) = true
isSmall blank = true

small-list : (o : ℕ) (rs : List (ℕ × Rule)) → allb (λ r. isSmall r.1) rs ≡ true → isSmall (lookup o rs) ≡ true
unfolding lookup isSmall
small-list o [] t = refl
small-list o (r ∷ rs) t = let s = split-all (λ r. isSmall r.1) r rs t in go (eqb o r.0) s.0 (small-list o rs s.1)
  where
    go : (b : Bool) → isSmall r.1 ≡ true → isSmall (lookup o rs) ≡ true → isSmall (elim b [ true ↦ r.1 | false ↦ lookup o rs ]) ≡ true
    go true h k = h
    go false h k = k

pub turns-lt : (o t : ℕ) → turns t ≡ lookup o rules → t < 64
unfolding allb rules isSmall
turns-lt o t e = ltb-true t 64 (rw (← e) at (small-list o rules refl))
