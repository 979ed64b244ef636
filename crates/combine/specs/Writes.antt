-- Heads written out, and the pass as a whole: what each begins with, and what it leaves.
use Rattle.std.specs.Prelude.{◌≡◌, List, map, ℕ, ◌≤◌, ◌<◌, length, get_or}
use Rattle.rules.specs.Constants.{mostCount}
use Rattle.rules.specs.Word.{insWord}
use Rattle.rules.specs.Machine.{SectionCode}
use Rattle.rules.specs.Tables.{runWords, allCode}
use Rattle.gather.specs.Gather.{head, pick, gather}
use Rattle.combine.specs.Chains.{Stands, Prepared}
use Rattle.combine.specs.Stores.{Stores}
use Rattle.combine.specs.Combined.{Combinable, Combines}
use Rattle.combine.specs.declared.store.Places.{Places}
use Rattle.combine.specs.declared.numbers.NewNumbers.{NewNumbers}

-- the words are the machine's, and no place is stored yet
pub record HeadsReady (m : List SectionCode) (s : List ℕ) (p : Places) (code counts : List ℕ) (numbers : NewNumbers) : Type 0 where
  pub prepared : Prepared m counts numbers.numbers.now numbers.heads
  pub size : length m ≡ length s
  pub marked : length counts ≡ length s
  pub stands : (u : ℕ) → u < length m → Stands m s code u
  pub none-stored : p.next ≡ 0
  pub room : length (allCode (gather m)) ≡ length p.table.now
  pub short : length p.table.now ≤ mostCount

-- all heads are written: the code of their chains, and their words, which stand where they stood
pub record HeadsWritten (m : List SectionCode) (s : List ℕ) (p p' : Places) : Type 0 where
  pub code : Stores p p' (map insWord (allCode (gather m)))
  pub words : pick (head m) (λ t. get_or s t 0) 0 (length m) ≡ runWords 0 (gather m)

-- the words in use hold a machine without links back, of which no instruction is stored yet
abbrev pub Collectable : List ℕ → Places → Type 0
Collectable s p = Combinable s p.table.now × (p.next ≡ 0)

-- they are combined, in the same table of instructions, with r sections
pub record Collects (s s' : List ℕ) (p p' : Places) (r : ℕ) : Type 0 where
  pub combined : Combines s p.table.now s' p'.table.now r
  pub same_reference : p'.table.ghost_name ≡ p.table.ghost_name
