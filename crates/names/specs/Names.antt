-- The names of a file, where they stand, and what the steps that read them give. Nothing is assumed.
use Rattle.std.specs.Prelude.{Result, Ok, Err, ◌≡◌, List, [], ◌∷◌, ℕ, zero, suc, ◌+◌, ◌-◌, ◌*◌}
use Rattle.rules.specs.Constants.{headBits, nameBits, flagBits, nameLengthBits, charBits}
use Rattle.rules.specs.Bits.{Res, refused, ok, spelled, isOne}
use Rattle.rules.specs.Tree.{Name}
use Rattle.rules.specs.Parse.{At, name, names}
use Rattle.bits.specs.Reads.{Gives, Moved, Fine, at, charsAt}
use Rattle.bits.specs.declared.Cursor.{Cursor}
use Rattle.params.specs.Told.{numberOf}
use Rattle.params.specs.declared.refusal.Refusal.{Refusal}

-- where the names of a file begin: behind form, lines and their own count
abbrev pub firstName : ℕ
firstName = 2 * headBits + nameBits

-- a name's flag and length together
abbrev pub headerBits : ℕ
headerBits = flagBits + nameLengthBits

-- how many characters the name at p has
unfoldable pub charsOf : List ℕ → ℕ → ℕ
charsOf s p = suc (spelled s nameLengthBits (p + flagBits))

-- the name at p
unfoldable pub nameAt : List ℕ → ℕ → Name
nameAt s p = record { isGlobal = isOne (spelled s flagBits p); chars = charsAt s (charsOf s p) (p + headerBits) }

-- where the name at p ends
unfoldable pub nextName : List ℕ → ℕ → ℕ
nextName s p = p + headerBits + charBits * charsOf s p

-- the k names from p on, and where they end
unfoldable pub namesAt : List ℕ → ℕ → ℕ → List Name
namesAt s zero p = []
namesAt s (suc k) p = nameAt s p ∷ namesAt s k (nextName s p)

unfoldable pub endAt : List ℕ → ℕ → ℕ → ℕ
endAt s zero p = p
endAt s (suc k) p = endAt s k (nextName s p)

-- a name is read
pub record Named (s : List ℕ) (c c' : Cursor) : Type 0 where
  pub reads : Gives name s (at c) (ok (nameAt s c.pos, at c'))
  pub place : c'.pos ≡ nextName s c.pos
  pub moved : Moved 0 0 c c'
  pub fine : Fine s c'

abbrev pub NamesOneAt : List ℕ → Cursor → Result Cursor Refusal → Type 0
NamesOneAt s c (Ok c') = Named s c c'
NamesOneAt s c (Err k) = Gives name s (at c) (refused (numberOf k))

pub record NamesOne (s : List ℕ) (c : Cursor) (st : Result Cursor Refusal) : Type 0 where
  pub here : NamesOneAt s c st

-- n names are read
pub record NamedAll (n : ℕ) (s : List ℕ) (c c' : Cursor) : Type 0 where
  pub reads : Gives (names n []) s (at c) (ok (namesAt s n c.pos, at c'))
  pub place : c'.pos ≡ endAt s n c.pos
  pub moved : Moved 0 0 c c'
  pub fine : Fine s c'

abbrev pub NamesAllAt : ℕ → List ℕ → Cursor → Result Cursor Refusal → Type 0
NamesAllAt n s c (Ok c') = NamedAll n s c c'
NamesAllAt n s c (Err k) = Gives (names n []) s (at c) (refused (numberOf k))

pub record NamesAll (n : ℕ) (s : List ℕ) (c : Cursor) (st : Result Cursor Refusal) : Type 0 where
  pub here : NamesAllAt n s c st

-- midway: k of n names are read, and c' stands behind them
pub record NamesMid (n : ℕ) (s : List ℕ) (c c' : Cursor) (k : ℕ) : Type 0 where
  pub goes : (res : Res (List Name × At)) → Gives (names (n - k) (namesAt s k c.pos)) s (at c') res → Gives (names n []) s (at c) res
  pub place : c'.pos ≡ endAt s k c.pos
  pub moved : Moved 0 0 c c'
  pub fine : Fine s c'
