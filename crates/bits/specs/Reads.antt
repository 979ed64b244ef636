-- What a step of the reader gives, in terms of the readers of rules. Definitions and the parts of contracts; nothing is assumed.
use Rattle.std.specs.Prelude.{Option, Some, None, Result, Ok, Err, ◌≡◌, List, [], ◌∷◌, ℕ, zero, suc, ◌+◌, ◌*◌, ◌≤◌, ◌<◌, ltb, length}
use Rattle.rules.specs.Constants.{mostBytes, mostNodes, mostChars, byteBits, charBits}
use Rattle.rules.specs.Refusal.{endsInField, tooDeep}
use Rattle.rules.specs.Bits.{Res, refused, ok, spelled, field}
use Rattle.rules.specs.Parse.{Reader, At, succeed, refuse, demand, begin, bits, many, ◌>>=◌}
use Rattle.params.specs.Told.{numberOf}
use Rattle.params.specs.declared.refusal.Refusal.{Refusal}
use Rattle.bits.specs.declared.Cursor.{Cursor}

-- where the field of w bits at p ends, if it is there
unfoldable pub fieldEnd : List ℕ → ℕ → ℕ → Res ℕ
fieldEnd s w p = elim (field s w p) [ refused n ↦ refused n | ok r ↦ ok r.1 ]

-- that answer, and a field's, as rules gives them
abbrev pub endRes : Option ℕ → Res ℕ
endRes (Some p) = ok p
endRes None = refused endsInField

abbrev pub fieldRes : Option (ℕ × ℕ) → Res (ℕ × ℕ)
fieldRes (Some p) = ok (p.0, p.1)
fieldRes None = refused endsInField

-- the reader r gives res on the bytes s at c
pub record Gives {A : Type 0} (r : Reader A) (s : List ℕ) (c : At) (res : Res (A × At)) : Type 0 where
  pub is : r s c ≡ res

-- a cursor as rules has it
abbrev pub at : Cursor → At
at c = record { pos = c.pos; nodes = c.nodes }

-- a cursor within the file and the limits, so that no count overflows; a node takes two bits at least
pub record Fine (s : List ℕ) (c : Cursor) : Type 0 where
  pub short : length s ≤ mostBytes
  pub inside : c.pos ≤ byteBits * length s
  pub nodes : c.nodes ≤ mostNodes
  pub dense : 2 * c.nodes ≤ c.pos
  pub statements : c.statements ≤ c.nodes
  pub sections : c.sections ≤ 4 * c.statements
  pub strings : c.strings ≤ c.nodes
  pub chars : c.chars ≤ mostChars * c.strings

-- from c to c' the nodes grew by n, the statements and their sections by m
pub record Moved (n m : ℕ) (c c' : Cursor) : Type 0 where
  pub nodes : c'.nodes ≡ c.nodes + n
  pub statements : c'.statements ≡ c.statements + m
  pub sections : c'.sections ≡ c.sections + m
  pub strings : c'.strings ≡ c.strings
  pub chars : c'.chars ≡ c.chars

pub record Took (r : Reader ℕ) (s : List ℕ) (c : Cursor) (n m limit v : ℕ) (c' : Cursor) : Type 0 where
  pub reads : Gives r s (at c) (ok (v, at c'))
  pub small : v < limit
  pub moved : Moved n m c c'
  pub fine : Fine s c'

-- a step that reads a number below the limit, and nothing of a tree
abbrev pub TakesAt : Reader ℕ → List ℕ → Cursor → ℕ → ℕ → ℕ → Result (ℕ × Cursor) Refusal → Type 0
TakesAt r s c n m limit (Ok p) = Took r s c n m limit p.0 p.1
TakesAt r s c n m limit (Err k) = Gives r s (at c) (refused (numberOf k))

pub record Takes (r : Reader ℕ) (s : List ℕ) (c : Cursor) (n m limit : ℕ) (st : Result (ℕ × Cursor) Refusal) : Type 0 where
  pub here : TakesAt r s c n m limit st

-- w bits that are refused by k unless they are below the limit
unfoldable pub belowR : ℕ → ℕ → ℕ → Reader ℕ
belowR w limit k = do
  x ← bits w
  _ ← demand (ltb x limit) k
  succeed x

-- a node begins with d levels left, and its kind
unfoldable pub beginR : ℕ → ℕ → Reader ℕ
beginR w zero = refuse tooDeep
beginR w (suc d) = do
  _ ← begin
  bits w

-- the n characters at p
unfoldable pub charsAt : List ℕ → ℕ → ℕ → List ℕ
charsAt s zero p = []
charsAt s (suc n) p = spelled s charBits p ∷ charsAt s n (p + charBits)

-- w bits are there, and are passed over
pub record Passed (w : ℕ) (s : List ℕ) (c c' : Cursor) : Type 0 where
  pub inside : c.pos + w ≤ byteBits * length s
  pub place : c'.pos ≡ c.pos + w
  pub moved : Moved 0 0 c c'
  pub fine : Fine s c'

-- they are not there
pub record Ends (w : ℕ) (s : List ℕ) (c : Cursor) (k : ℕ) : Type 0 where
  pub is : k ≡ endsInField
  pub outside : byteBits * length s < c.pos + w

abbrev pub PassesAt : ℕ → List ℕ → Cursor → Result Cursor Refusal → Type 0
PassesAt w s c (Ok c') = Passed w s c c'
PassesAt w s c (Err k) = Ends w s c (numberOf k)

pub record Passes (w : ℕ) (s : List ℕ) (c : Cursor) (st : Result Cursor Refusal) : Type 0 where
  pub here : PassesAt w s c st

pub record Skipped (n : ℕ) (s : List ℕ) (c c' : Cursor) : Type 0 where
  pub reads : Gives (many n (bits charBits)) s (at c) (ok (charsAt s n c.pos, at c'))
  pub place : c'.pos ≡ c.pos + charBits * n
  pub moved : Moved 0 0 c c'
  pub fine : Fine s c'

abbrev pub SkipsAt : ℕ → List ℕ → Cursor → Result Cursor Refusal → Type 0
SkipsAt n s c (Ok c') = Skipped n s c c'
SkipsAt n s c (Err k) = Gives (many n (bits charBits)) s (at c) (refused (numberOf k))

pub record Skips (n : ℕ) (s : List ℕ) (c : Cursor) (st : Result Cursor Refusal) : Type 0 where
  pub here : SkipsAt n s c st
