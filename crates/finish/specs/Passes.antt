-- What the two passes behind lowering ask of the words, and what they leave.
use Rattle.std.specs.Prelude.{◌≡◌, List, map, ℕ, ◌≤◌, length, take}
use Rattle.rules.specs.Bits.{ok}
use Rattle.rules.specs.Tree.{Tree}
use Rattle.rules.specs.Parse.{parse}
use Rattle.rules.specs.Word.{insWord}
use Rattle.rules.specs.Machine.{SectionCode}
use Rattle.rules.specs.Tables.{runWords, allCode}
use Rattle.rules.specs.Clean.{cleanSections}
use Rattle.rules.specs.Combine.{combineSections}
use Rattle.rules.specs.Lowered.{Options, lowered}
use Rattle.tables.specs.Runs.{held}
use Rattle.combine.specs.Combined.{Written}

-- the first n section words and the first e instruction words are those of the lowered machine of a tree that was accepted
pub record Lowered (s i : List ℕ) (n e : ℕ) : Type 0 where
  pub options : Options
  pub file : List ℕ
  pub tree : Tree
  pub parsed : parse file ≡ ok tree
  pub section-count : length (lowered options tree).sections ≡ n
  pub instr-count : length (allCode (lowered options tree).sections) ≡ e
  pub sections : take n s ≡ runWords 0 (lowered options tree).sections
  pub instrs : take e i ≡ map insWord (allCode (lowered options tree).sections)

-- sections cleaned, then combined
unfoldable pub finishSections : List SectionCode → List SectionCode
finishSections ss = combineSections (cleanSections ss)

-- the tables of the finished sections, with m sections and b instructions, zeros up to n and e
pub record Finished (s i s' i' : List ℕ) (n e m b : ℕ) : Type 0 where
  pub words : Written s i s' i' n e (finishSections (held s i n e))
  pub section-count : m ≡ length (finishSections (held s i n e))
  pub instr-count : b ≡ length (allCode (finishSections (held s i n e)))
  pub fewer : m ≤ n
  pub shorter : b ≤ e
