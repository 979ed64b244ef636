-- Bytes that are written into lent ones: what they leave, and that every other byte stays.
use Rattle.std.specs.Prelude.{◌≡◌, List, ◌++◌, ℕ, ◌+◌, ◌≤◌, length, drop}
use Rattle.std.proofs.lemmas.List.Edits.{sets}
use Rattle.text.specs.declared.Writer.{Writer}

-- room for bytes behind the first a
abbrev pub Room : List ℕ → ℕ → List ℕ → Type 0
Room o a bs = a + length bs ≤ length o

-- the bytes are as they were, but bs from a on, to e
pub record Wrote (o o' : List ℕ) (a e : ℕ) (bs : List ℕ) : Type 0 where
  pub text : o' ≡ sets o a bs
  pub stop : e ≡ a + length bs

-- the first r bytes are bs, all others as they were
pub record Prints (o o' : List ℕ) (r : ℕ) (bs : List ℕ) : Type 0 where
  pub text : o' ≡ bs ++ drop r o
  pub size : r ≡ length bs

-- the writer has room for bytes behind those that are written
abbrev pub HasRoom : Writer → List ℕ → Type 0
HasRoom w bs = Room w.out.now w.at bs

-- they are written there, in the same lent bytes
pub record Writes (w w' : Writer) (bs : List ℕ) : Type 0 where
  pub same_reference : w'.out.ghost_name ≡ w.out.ghost_name
  pub wrote : Wrote w.out.now w'.out.now w.at w'.at bs
