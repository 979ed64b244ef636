-- The state of lowering, `CodegenData` of codegen.rs, and the changes of it. Sections are made later (Assemble), so here stand the
-- instructions of the statement at hand, and the registers so far.
use Rattle.std.specs.Prelude.{List, [], ◌∷◌, ◌++◌, ℕ, suc, ℤ, length, set}
use Rattle.std.proofs.Math.Option.{Option, some}
use Rattle.rules.specs.Instr.{Instruction}

-- instructions; number and string registers with what they start as; the count of value registers; of each name its value register, once it has one
pub record CodegenData : Type 0 where
  pub instrs : List Instruction
  pub numbers : List ℤ
  pub strings : List (List ℕ)
  pub values : ℕ
  pub names : List (Option ℕ)

-- ---- a step of lowering gives a value and the next state

abbrev pub Lower : Type 0 → Type 0
Lower A = CodegenData → A × CodegenData

abbrev pub pure : {A : Type 0} → A → Lower A
pure a g = (a, g)

infixl 10 ◌>>=◌
abbrev pub ◌>>=◌ : {A B : Type 0} → Lower A → (A → Lower B) → Lower B
◌>>=◌ m f g = let (a, h) = m g in f a h

abbrev pub ◌>>◌ : {A B : Type 0} → Lower A → Lower B → Lower B
◌>>◌ m n g = n (m g).1

-- ---- one change of the state each

-- an instruction behind the others
abbrev pub emit : Instruction → Lower ℕ
emit i g = (0, record { instrs = g.instrs ++ (i ∷ []); numbers = g.numbers; strings = g.strings; values = g.values; names = g.names })

-- a number register that starts as z
abbrev pub newNum : ℤ → Lower ℕ
newNum z g = (length g.numbers, record { instrs = g.instrs; numbers = g.numbers ++ (z ∷ []); strings = g.strings; values = g.values; names = g.names })

-- a string register that starts as t
abbrev pub newStr : List ℕ → Lower ℕ
newStr t g = (length g.strings, record { instrs = g.instrs; numbers = g.numbers; strings = g.strings ++ (t ∷ []); values = g.values; names = g.names })

-- a value register
abbrev pub newVal : Lower ℕ
newVal g = (g.values, record { instrs = g.instrs; numbers = g.numbers; strings = g.strings; values = suc g.values; names = g.names })

-- a value register for the name x
abbrev pub bindName : ℕ → Lower ℕ
bindName x g = (g.values, record { instrs = g.instrs; numbers = g.numbers; strings = g.strings; values = suc g.values; names = set g.names x (some g.values) })

-- what m emits, apart from what stood before
abbrev pub scoped : {A : Type 0} → Lower A → Lower (List Instruction × A)
scoped m g =
    let (a, h) = m (record { instrs = []; numbers = g.numbers; strings = g.strings; values = g.values; names = g.names }) in
    ((h.instrs, a), record { instrs = g.instrs; numbers = h.numbers; strings = h.strings; values = h.values; names = h.names })
