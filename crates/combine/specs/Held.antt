-- Words that hold sections. `holds-held` (proofs/Back) says that these are the sections read from the words.
use Rattle.rules.specs.Constants.{mostCount}
use Rattle.std.specs.Prelude.{◌≡◌, List, ◌++◌, map, ℕ, ◌≤◌, length, take, drop}
use Rattle.rules.specs.Word.{insWord}
use Rattle.rules.specs.Machine.{SectionCode}
use Rattle.rules.specs.Tables.{runWords, allCode}
use Rattle.rules.specs.Operations.{put}
use Rattle.rules.specs.Preservation.{All}
use Rattle.laws.specs.Words.{InsSmall}
use Rattle.laws.specs.SectionWord.{NextSmall}
use Rattle.tables.specs.Runs.{held}

-- what fits the fields of words
abbrev pub SectSmall : SectionCode → Type 0
SectSmall s = NextSmall s.success × All InsSmall s.instrs

-- the first n section words and the first e instruction words are those of the sections ss, whose runs stand end to end
pub record Holds (s i : List ℕ) (n e : ℕ) (ss : List SectionCode) : Type 0 where
  pub sections : take n s ≡ runWords 0 ss
  pub instrs : take e i ≡ map insWord (allCode ss)
  pub count : length ss ≡ n
  pub code : length (allCode ss) ≡ e
  pub few : n ≤ mostCount
  pub short : e ≤ mostCount
  pub small : All SectSmall ss

-- the words hold what is read from them: each run begins where the one before it ends, and zero bits are zero
abbrev pub Sound : List ℕ → List ℕ → ℕ → ℕ → Type 0
Sound s i n e = Holds s i n e (held s i n e)

-- all the words are in use, and these are the sections that they hold
abbrev pub Full : List ℕ → List ℕ → Type 0
Full s i = Sound s i (length s) (length i)

abbrev pub allHeld : List ℕ → List ℕ → List SectionCode
allHeld s i = held s i (length s) (length i)

-- the tables s' and i' hold the sections ss, where s and i held n sections and as many instructions; freed words are zero, the rest is as it was
pub record Changed (s i s' i' : List ℕ) (n e : ℕ) (ss : List SectionCode) : Type 0 where
  pub sections : s' ≡ put 0 n (runWords 0 ss) s
  pub instrs : i' ≡ map insWord (allCode ss) ++ drop e i
