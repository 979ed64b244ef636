-- Chains in words: what a section's word says of its link and its code, and what is stored of a chain.
use Rattle.std.specs.Prelude.{◌≡◌, ◌⊎◌, false, List, map, ℕ, ◌+◌, ◌-◌, ◌≤◌, ◌<◌, length, take, drop, get_or}
use Rattle.rules.specs.Bits.{isOne}
use Rattle.rules.specs.Word.{wordIns, insWord, wordRun, runWord}
use Rattle.rules.specs.Machine.{SectionCode, absent}
use Rattle.rules.specs.Tables.{successOf, runOf}
use Rattle.rules.specs.Clean.{renIns, renNext}
use Rattle.gather.specs.Gather.{head, newNumber}
use Rattle.clean.specs.Pass.{withJump}
use Rattle.combine.specs.Counting.{headBy}
use Rattle.combine.specs.Numbers.{numberBy}
use Rattle.combine.specs.declared.chains.Chains.{Chains}

-- the instruction words of section u
abbrev pub codeAt : List ℕ → List ℕ → ℕ → List ℕ
codeAt s c u = take (wordRun (get_or s u 0)).count (drop (wordRun (get_or s u 0)).first c)

-- section u is there, and its code lies in the copy
pub record CodeInside (r : Chains) (u : ℕ) : Type 0 where
  pub there : u < length r.sections.now
  pub inside : (wordRun (get_or r.sections.now u 0)).first + (wordRun (get_or r.sections.now u 0)).count ≤ length r.code.now

-- its instruction words with new targets
abbrev pub newCode : Chains → ℕ → List ℕ
newCode r u = map (withJump (numberBy r.numbers.numbers.now r.numbers.heads)) (codeAt r.sections.now r.code.now u)

-- section u of the machine m is what the words say
pub record Stands (m : List SectionCode) (s c : List ℕ) (u : ℕ) : Type 0 where
  pub start : isOne (wordRun (get_or s u 0)).lineStart ≡ (get_or m u absent).lineStart
  pub success : successOf (wordRun (get_or s u 0)) ≡ (get_or m u absent).success
  pub code : map wordIns (codeAt s c u) ≡ (get_or m u absent).instrs
  pub inside : (wordRun (get_or s u 0)).first + (wordRun (get_or s u 0)).count ≤ length c

-- the counts and numbers are those of the machine
pub record Prepared (m : List SectionCode) (counts ns : List ℕ) (heads : ℕ) : Type 0 where
  pub marks : headBy counts ≡ head m
  pub numbers : numberBy ns heads ≡ newNumber m

-- and the words of head t and of all that is no head are its sections'
pub record ChainStands (m : List SectionCode) (r : Chains) (t : ℕ) : Type 0 where
  pub prepared : Prepared m r.counts.now r.numbers.numbers.now r.numbers.heads
  pub size : length m ≡ length r.sections.now
  pub there : t < length m
  pub stands : (u : ℕ) → u < length m → (u ≡ t) ⊎ (head m u ≡ false) → Stands m r.sections.now r.code.now u

-- the words of a section's instructions with new targets
abbrev pub codeWords : List SectionCode → SectionCode → List ℕ
codeWords m s = map insWord (map (renIns (newNumber m)) s.instrs)

-- a head's word from those of its chain's first and last section; the code stands at first..end
unfoldable pub headWord : (ℕ → ℕ) → ℕ → ℕ → ℕ → ℕ → ℕ
unfolding successOf isOne
headWord f w v first end = runWord (runOf (isOne (wordRun w).lineStart) (renNext f (successOf (wordRun v))) first (end - first))
