-- The passes of replace on words: what each asks, and what it leaves in the tables.
use Rattle.std.specs.Prelude.{◌≡◌, List, [], ◌∷◌, ◌++◌, map, ℕ, ◌+◌, ◌≤◌, ◌<◌, ℤ, pos, length, take, drop, set}
use Rattle.std.proofs.Math.Seq.{slice}
use Rattle.rules.specs.Constants.{mostCount}
use Rattle.rules.specs.Instr.{ins₂}
use Rattle.rules.specs.Opcode.{CopyNum, CopyStr}
use Rattle.rules.specs.Word.{wordIns, insWord, wordSpan, spanWord}
use Rattle.rules.specs.Machine.{SectionCode}
use Rattle.rules.specs.Tables.{runWords, allCode}
use Rattle.rules.specs.Replace.{Regs, ruleOf, replaceIns, replaceCode, replaceSections}
use Rattle.rules.specs.Operations.{put}
use Rattle.words.specs.Told.{replacedOf}
use Rattle.words.specs.declared.instr.Replaced.{Replaced}
use Rattle.words.specs.declared.instr.Replaced.TheVariants.{Stays, Goes, Turns, Number, Blank}
use Rattle.tables.specs.Runs.{total, held}

-- ---- what is added

abbrev pub numbersBy : Replaced → ℕ
numbersBy Stays = 0
numbersBy Goes = 0
numbersBy (Turns w) = 0
numbersBy (Number z r) = 1
numbersBy (Blank r) = 0

abbrev pub stringsBy : Replaced → ℕ
stringsBy Stays = 0
stringsBy Goes = 0
stringsBy (Turns w) = 0
stringsBy (Number z r) = 0
stringsBy (Blank r) = 1

-- what an instruction's word adds
unfoldable pub numberOf : ℕ → ℕ
numberOf w = numbersBy (replacedOf (ruleOf (wordIns w)) (wordIns w))

unfoldable pub stringOf : ℕ → ℕ
stringOf w = stringsBy (replacedOf (ruleOf (wordIns w)) (wordIns w))

pub record Adds (w n s : ℕ) : Type 0 where
  pub numbers : n ≡ numberOf w
  pub strings : s ≡ stringOf w
  pub numbers-one : n ≤ 1
  pub strings-one : s ≤ 1

unfoldable pub sums : (ℕ → ℕ) → List ℕ → ℕ
sums f [] = 0
sums f (w ∷ ws) = f w + sums f ws

-- what the first e of the words t add
pub record AddsAll (t : List ℕ) (e n s : ℕ) : Type 0 where
  pub numbers : n ≡ sums numberOf (take e t)
  pub strings : s ≡ sums stringOf (take e t)
  pub numbers-few : n ≤ e
  pub strings-few : s ≤ e

-- ---- one instruction

-- the registers of n counted numbers and s counted strings
abbrev pub regsOf : List ℤ → List ℕ → ℕ → ℕ → Regs
regsOf ns ts n s = record { numbers = take n ns; strings = map wordSpan (take s ts) }

-- the counted strings are written as they were
abbrev pub Plain : List ℕ → ℕ → Type 0
Plain ts s = map spanWord (map wordSpan (take s ts)) ≡ take s ts

-- room for an instruction that comes behind b others, and for what it adds
pub record Spare (is : List ℕ) (ns : List ℤ) (ts : List ℕ) (b n s w : ℕ) : Type 0 where
  pub instr : b < length is
  pub numbers : n + numberOf w ≤ length ns
  pub numbers-few : n + numberOf w ≤ mostCount
  pub strings : s + stringOf w ≤ length ts
  pub strings-few : s + stringOf w ≤ mostCount

-- a number added at n, an empty string at s, and its copy at b into register m
pub record NumberAdded (is : List ℕ) (ns : List ℤ) (is' : List ℕ) (ns' : List ℤ) (b n s b' n' s' : ℕ) (z : ℤ) (m : ℕ) : Type 0 where
  pub instr : is' ≡ set is b (insWord (ins₂ CopyNum n m))
  pub number : ns' ≡ set ns n z
  pub instr-count : b' ≡ b + 1
  pub number-count : n' ≡ n + 1
  pub string-count : s' ≡ s

pub record BlankAdded (is ts is' ts' : List ℕ) (b n s b' n' s' p m : ℕ) : Type 0 where
  pub instr : is' ≡ set is b (insWord (ins₂ CopyStr s m))
  pub string : ts' ≡ set ts s (spanWord (record { start = p; size = 0 }))
  pub instr-count : b' ≡ b + 1
  pub number-count : n' ≡ n
  pub string-count : s' ≡ s + 1

pub record Stepped (is : List ℕ) (ns : List ℤ) (ts is' : List ℕ) (ns' : List ℤ) (ts' : List ℕ) (p b n s b' n' s' w : ℕ) : Type 0 where
  pub code : take b' is' ≡ take b is ++ map insWord (replaceIns p (regsOf ns ts n s) (wordIns w)).0
  pub regs : regsOf ns' ts' n' s' ≡ (replaceIns p (regsOf ns ts n s) (wordIns w)).1
  pub rest : drop (b + 1) is' ≡ drop (b + 1) is
  pub number-rest : drop n' ns' ≡ drop n' ns
  pub string-rest : drop s' ts' ≡ drop s' ts
  pub plain : Plain ts s → Plain ts' s'
  pub number-count : n' ≡ n + numberOf w
  pub string-count : s' ≡ s + stringOf w
  pub shorter : b' ≤ b + 1

-- ---- a run

-- room for the run from..to behind b instructions, and for what it adds
pub record Open (is : List ℕ) (ns : List ℤ) (ts : List ℕ) (b n s from to : ℕ) : Type 0 where
  pub behind : b ≤ from
  pub ordered : from ≤ to
  pub within : to ≤ length is
  pub numbers : n + sums numberOf (slice from to is) ≤ length ns
  pub numbers-few : n + sums numberOf (slice from to is) ≤ mostCount
  pub strings : s + sums stringOf (slice from to is) ≤ length ts
  pub strings-few : s + sums stringOf (slice from to is) ≤ mostCount

pub record Ran (is : List ℕ) (ns : List ℤ) (ts is' : List ℕ) (ns' : List ℤ) (ts' : List ℕ) (p b n s b' n' s' from to : ℕ) : Type 0 where
  pub code : take b' is' ≡ take b is ++ map insWord (replaceCode p (regsOf ns ts n s) (map wordIns (slice from to is))).0
  pub regs : regsOf ns' ts' n' s' ≡ (replaceCode p (regsOf ns ts n s) (map wordIns (slice from to is))).1
  pub rest : drop to is' ≡ drop to is
  pub number-rest : drop n' ns' ≡ drop n' ns
  pub string-rest : drop s' ts' ≡ drop s' ts
  pub plain : Plain ts s → Plain ts' s'
  pub number-count : n' ≡ n + sums numberOf (slice from to is)
  pub string-count : s' ≡ s + sums stringOf (slice from to is)
  pub count : b' ≡ b + length (replaceCode p (regsOf ns ts n s) (map wordIns (slice from to is))).0
  pub shorter : b' ≤ to

-- ---- all sections

-- the sections that n section words and e instruction words hold, replaced, and the registers behind them; k numbers and s strings are
-- counted before, and the pool has p characters
abbrev pub wholeOf : List ℕ → List ℕ → List ℤ → List ℕ → ℕ → ℕ → ℕ → ℕ → ℕ → List SectionCode × Regs
wholeOf ss is ns ts n e k s p = replaceSections p (regsOf ns ts k s) (held ss is n e)

-- a machine's words with room for what is added
pub record Ready (ss is : List ℕ) (ns : List ℤ) (ts : List ℕ) (n e k s p : ℕ) : Type 0 where
  pub sections : n ≤ length ss
  pub instrs : e ≤ length is
  pub instrs-few : e ≤ mostCount
  pub covered : total (take n ss) ≡ e
  pub numbers : k + sums numberOf (take e is) ≤ length ns
  pub numbers-few : k + sums numberOf (take e is) ≤ mostCount
  pub strings : s + sums stringOf (take e is) ≤ length ts
  pub strings-few : s + sums stringOf (take e is) ≤ mostCount
  pub pool-few : p ≤ mostCount
  pub plain : Plain ts s

-- before the freed words are zeroed
pub record Rewritten (ss is : List ℕ) (ns : List ℤ) (ts ss' is' : List ℕ) (ns' : List ℤ) (ts' : List ℕ) (n e k s p b' k' s' : ℕ) : Type 0 where
  pub sections : take n ss' ≡ runWords 0 (wholeOf ss is ns ts n e k s p).0
  pub section-rest : drop n ss' ≡ drop n ss
  pub instrs : take b' is' ≡ map insWord (allCode (wholeOf ss is ns ts n e k s p).0)
  pub instr-rest : drop e is' ≡ drop e is
  pub regs : regsOf ns' ts' k' s' ≡ (wholeOf ss is ns ts n e k s p).1
  pub number-rest : drop k' ns' ≡ drop k' ns
  pub string-rest : drop s' ts' ≡ drop s' ts
  pub plain : Plain ts' s'
  pub shorter : b' ≤ e
  pub more-numbers : k ≤ k'
  pub more-strings : s ≤ s'

-- the tables of the replaced machine, with b' instructions, k' numbers and s' strings
pub record Rewrote (ss is : List ℕ) (ns : List ℤ) (ts ss' is' : List ℕ) (ns' : List ℤ) (ts' : List ℕ) (n e k s p b' k' s' : ℕ) : Type 0 where
  pub sections : ss' ≡ put 0 n (runWords 0 (wholeOf ss is ns ts n e k s p).0) ss
  pub instrs : is' ≡ put 0 e (map insWord (allCode (wholeOf ss is ns ts n e k s p).0)) is
  pub numbers : ns' ≡ put (pos 0) k (wholeOf ss is ns ts n e k s p).1.numbers ns
  pub strings : ts' ≡ put 0 s (map spanWord (wholeOf ss is ns ts n e k s p).1.strings) ts
  pub section-count : n ≡ length (wholeOf ss is ns ts n e k s p).0
  pub instr-count : b' ≡ length (allCode (wholeOf ss is ns ts n e k s p).0)
  pub number-count : k' ≡ length (wholeOf ss is ns ts n e k s p).1.numbers
  pub string-count : s' ≡ length (wholeOf ss is ns ts n e k s p).1.strings
