-- An instruction against its opcode's row: what is read, what is modified, and the fields after a register's removal. Assumes nothing.
use Rattle.std.proofs.Common.{◌≡◌, true, List, [], ◌∷◌, map, ℕ, zero, suc, refl, sym}
use Rattle.std.proofs.Math.Option.{Option, none, some}
use Rattle.std.proofs.Math.ListN.{get_elem?}
use Rattle.rules.specs.Instr.{Instruction, ins₃, Kind, unused, num, str, val, place, Row, table, kinds, register, reads, modifies, fallOf, removeReg}
use Rattle.laws.specs.Table.{Regs, isReg, kindAt, read-regs, modified-reg}
use Rattle.words.specs.Told.{regKind}

-- a register's kind is taken for itself
reg-kind : (k : Kind) → isReg k ≡ true → regKind k ≡ k
reg-kind unused h = cc
reg-kind num h = refl
reg-kind str h = refl
reg-kind val h = refl
reg-kind place h = cc

-- a field, taken for a register
abbrev taken : Row → Instruction → ℕ → Kind × ℕ
taken r i zero = (regKind r.kinds.0, i.fst)
taken r i (suc zero) = (regKind r.kinds.1, i.snd)
taken r i (suc (suc n)) = (regKind r.kinds.2, i.thd)

taken-field : (r : Row) (i : Instruction) (f : ℕ) → isReg (kindAt r f) ≡ true → register r i f ≡ taken r i f
unfolding register
taken-field r i zero h = rw (reg-kind r.kinds.0 h)
taken-field r i (suc zero) h = rw (reg-kind r.kinds.1 h)
taken-field r i (suc (suc n)) h = rw (reg-kind r.kinds.2 h)

taken-fields : (r : Row) (i : Instruction) (fs : List ℕ) → Regs r fs → map (register r i) fs ≡ map (taken r i) fs
taken-fields r i [] h = refl
taken-fields r i (f ∷ fs) h = rw (taken-field r i f h.0, taken-fields r i fs h.1)

-- what an instruction reads and modifies, and what is left of it where register n of kind k is gone, by the row
abbrev reads-by : Option Row → Instruction → List (Kind × ℕ)
reads-by none i = []
reads-by (some r) i = map (taken r i) r.reads

abbrev modifies-by : Option Row → Instruction → Option (Kind × ℕ)
modifies-by none i = none
modifies-by (some r) i = elim r.modifies [ none ↦ none | some f ↦ some (taken r i f) ]

abbrev removed-by : Option Row → Kind → ℕ → Instruction → Instruction
removed-by none k n i = i
removed-by (some r) k n i = ins₃ i.op (fallOf k n r.kinds.0 i.fst) (fallOf k n r.kinds.1 i.snd) (fallOf k n r.kinds.2 i.thd)

pub reads_told : (i : Instruction) → reads i ≡ reads-by (get_elem? table i.op) i
unfolding reads
reads_told i = go (get_elem? table i.op) refl
  where
    go : (r : Option Row) → r ≡ get_elem? table i.op → reads i ≡ reads-by r i
    go none e = rw (← e)
    go (some r) e = rw (← e) (taken-fields r i r.reads (read-regs i.op r e))

pub modifies_told : (i : Instruction) → modifies i ≡ modifies-by (get_elem? table i.op) i
unfolding modifies
modifies_told i = go (get_elem? table i.op) refl
  where
    go : (r : Option Row) → r ≡ get_elem? table i.op → modifies i ≡ modifies-by r i
    go none e = rw (← e)
    go (some r) e = rw (← e) (of r.modifies refl)
      where
        of : (m : Option ℕ) → m ≡ r.modifies → ◌≡◌ {A = Option (Kind × ℕ)} (elim m [ none ↦ none | some f ↦ some (register r i f) ]) (elim m [ none ↦ none | some f ↦ some (taken r i f) ])
        of none q = refl
        of (some f) q = rw (taken-field r i f (modified-reg i.op r e f (sym q)))

pub removed_told : (k : Kind) (n : ℕ) (i : Instruction) → removeReg k n i ≡ removed-by (get_elem? table i.op) k n i
unfolding removeReg kinds
removed_told k n i = go (get_elem? table i.op) refl
  where
    go : (r : Option Row) → r ≡ get_elem? table i.op → removeReg k n i ≡ removed-by r k n i
    go none e = rw (← e)
    go (some r) e = rw (← e)
