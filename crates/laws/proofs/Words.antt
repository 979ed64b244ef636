-- The words of an instruction, a section and a string: what is packed is unpacked, and the reverse. Each cites the one law of Pack.
-- Assumes nothing.
use Rattle.std.specs.Prelude.{◌≡◌, ℕ, ◌^◌, ◌<◌, get_or}
use Rattle.rules.specs.Constants.{instrLayout, sectionLayout, stringLayout}
use Rattle.rules.specs.Instr.{Instruction}
use Rattle.rules.specs.Word.{unpack, insWord, wordIns, insSpare, Run, runWord, wordRun, runSpare, Span, spanWord, wordSpan, spanSpare}
use Rattle.laws.specs.Pack.{fields}
use Rattle.laws.proofs.Pack.{pack-lt, unpack-pack, fields-small, small-take, pack-unpack}
use Rattle.laws.specs.Words.{insFields, InsSmall, runFields, RunSmall, spanFields, SpanSmall}

-- ---- an instruction: opcode below 64, fields below 65,536

module _ (i : Instruction) (h : InsSmall i) where
  ins-field : (k : ℕ) → unpack instrLayout k (insWord i) ≡ get_or (insFields i) k 0
  unfolding insWord
  ins-field k = unpack-pack instrLayout (insFields i) k h

  -- the word that is written is read back
  pub ins-back : wordIns (insWord i) ≡ i
  unfolding wordIns
  ins-back = rw (ins-field 0, ins-field 1, ins-field 2, ins-field 3)

  pub ins-zeros : insSpare (insWord i) ≡ 0
  unfolding insSpare
  ins-zeros = ins-field 4

  pub ins-lt : insWord i < 2 ^ 64
  unfolding insWord
  ins-lt = pack-lt instrLayout (insFields i) h

-- what is read is small, and written again it is the word
pub ins-small : (w : ℕ) → InsSmall (wordIns w)
unfolding wordIns
ins-small w = small-take instrLayout (fields instrLayout w) 4 (fields-small instrLayout w)

pub ins-again : (w : ℕ) → w < 2 ^ 64 → insSpare w ≡ 0 → insWord (wordIns w) ≡ w
unfolding insWord wordIns insSpare
ins-again w h e = rw e at (pack-unpack instrLayout w h)

-- ---- a section: two fields below 2, three below 65,536

module _ (r : Run) (h : RunSmall r) where
  run-field : (k : ℕ) → unpack sectionLayout k (runWord r) ≡ get_or (runFields r) k 0
  unfolding runWord
  run-field k = unpack-pack sectionLayout (runFields r) k h

  -- the word that is written is read back
  pub run-back : wordRun (runWord r) ≡ r
  unfolding wordRun
  run-back = rw (run-field 0, run-field 1, run-field 2, run-field 3, run-field 4)

  pub run-zeros : runSpare (runWord r) ≡ 0
  unfolding runSpare
  run-zeros = run-field 5

  pub run-lt : runWord r < 2 ^ 64
  unfolding runWord
  run-lt = pack-lt sectionLayout (runFields r) h

-- what is read is small, and written again it is the word
pub wordRun-small : (w : ℕ) → RunSmall (wordRun w)
unfolding wordRun
wordRun-small w = small-take sectionLayout (fields sectionLayout w) 5 (fields-small sectionLayout w)

pub run-again : (w : ℕ) → w < 2 ^ 64 → runSpare w ≡ 0 → runWord (wordRun w) ≡ w
unfolding runWord wordRun runSpare
run-again w h e = rw e at (pack-unpack sectionLayout w h)

-- ---- a string: start below 65,536, size below 128

module _ (s : Span) (h : SpanSmall s) where
  span-field : (k : ℕ) → unpack stringLayout k (spanWord s) ≡ get_or (spanFields s) k 0
  unfolding spanWord
  span-field k = unpack-pack stringLayout (spanFields s) k h

  -- the word that is written is read back
  pub span-back : wordSpan (spanWord s) ≡ s
  unfolding wordSpan
  span-back = rw (span-field 0, span-field 1)

  pub span-zeros : spanSpare (spanWord s) ≡ 0
  unfolding spanSpare
  span-zeros = span-field 2

  pub span-lt : spanWord s < 2 ^ 32
  unfolding spanWord
  span-lt = pack-lt stringLayout (spanFields s) h

-- what is read is small, and written again it is the word
pub span-small : (w : ℕ) → SpanSmall (wordSpan w)
unfolding wordSpan
span-small w = small-take stringLayout (fields stringLayout w) 2 (fields-small stringLayout w)

pub span-again : (w : ℕ) → w < 2 ^ 32 → spanSpare w ≡ 0 → spanWord (wordSpan w) ≡ w
unfolding spanWord wordSpan spanSpare
span-again w h e = rw e at (pack-unpack stringLayout w h)
