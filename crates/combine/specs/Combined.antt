-- What combining leaves in the tables.
use Rattle.std.specs.Prelude.{◌≡◌, true, List, map, ℕ, ◌≤◌, length}
use Rattle.rules.specs.Word.{insWord}
use Rattle.rules.specs.Machine.{SectionCode}
use Rattle.rules.specs.Tables.{runWords, allCode}
use Rattle.rules.specs.Operations.{put, allAhead}
use Rattle.rules.specs.Combine.{combineSections}
use Rattle.combine.specs.Held.{Full, allHeld, Changed}

-- the tables hold the sections ss, of which there are r, no more than before, with as many instructions
pub record Combined (s i s' i' : List ℕ) (n e : ℕ) (ss : List SectionCode) (r : ℕ) : Type 0 where
  pub tables : Changed s i s' i' n e ss
  pub count : r ≡ length ss
  pub code : e ≡ length (allCode ss)
  pub fewer : r ≤ n

-- the tables s and i were written over s₀ and i₀, with zeros up to n₀ and e₀; combined, they are as if written over them at once
pub record Written (s₀ i₀ s i : List ℕ) (n e : ℕ) (ss : List SectionCode) : Type 0 where
  pub sections : s ≡ put 0 n (runWords 0 ss) s₀
  pub instrs : i ≡ put 0 e (map insWord (allCode ss)) i₀

-- the words, all in use, hold a machine without links back
abbrev pub Combinable : List ℕ → List ℕ → Type 0
Combinable s i = Full s i × (allAhead (allHeld s i) 0 (allHeld s i) ≡ true)

-- combined, they are s' and i', with r sections
abbrev pub Combines : List ℕ → List ℕ → List ℕ → List ℕ → ℕ → Type 0
Combines s i s' i' r = Combined s i s' i' (length s) (length i) (combineSections (allHeld s i)) r
