-- The words of a machine: fields by a layout, the first uppermost. 64 bits for an instruction or a section, 32 for a string.
use Rattle.std.specs.Prelude.{List, [], ◌∷◌, ℕ, zero, suc, ◌+◌, ◌*◌, ◌/◌, ◌%◌, ◌^◌}
use Rattle.rules.specs.Constants.{instrLayout, sectionLayout, stringLayout}
use Rattle.rules.specs.Instr.{Instruction}

-- ---- any layout

-- the bits of a layout
abbrev pub width : List ℕ → ℕ
width [] = 0
width (w ∷ ws) = w + width ws

-- fields packed by a layout; those that are not given are 0
abbrev pub pack : List ℕ → List ℕ → ℕ
pack [] vs = 0
pack (w ∷ ws) [] = 0
pack (w ∷ ws) (v ∷ vs) = v * 2 ^ width ws + pack ws vs

-- field i of the word n by a layout
abbrev pub unpack : List ℕ → ℕ → ℕ → ℕ
unpack [] i n = 0
unpack (w ∷ ws) zero n = n / 2 ^ width ws % 2 ^ w
unpack (w ∷ ws) (suc i) n = unpack ws i n

-- ---- an instruction's word

unfoldable pub insWord : Instruction → ℕ
insWord i = pack instrLayout (i.op ∷ i.fst ∷ i.snd ∷ i.thd ∷ [])

unfoldable pub wordIns : ℕ → Instruction
wordIns n = record { op = unpack instrLayout 0 n; fst = unpack instrLayout 1 n; snd = unpack instrLayout 2 n; thd = unpack instrLayout 3 n }

-- the bits that must be zero
unfoldable pub insSpare : ℕ → ℕ
insSpare n = unpack instrLayout 4 n

-- ---- a section's word

-- its fields; kind 0 is a section, 1 a line
pub record Run : Type 0 where
  pub lineStart : ℕ
  pub kind : ℕ
  pub target : ℕ
  pub first : ℕ
  pub count : ℕ

unfoldable pub runWord : Run → ℕ
runWord r = pack sectionLayout (r.lineStart ∷ r.kind ∷ r.target ∷ r.first ∷ r.count ∷ [])

unfoldable pub wordRun : ℕ → Run
wordRun n =
    record {
      lineStart = unpack sectionLayout 0 n;
      kind = unpack sectionLayout 1 n;
      target = unpack sectionLayout 2 n;
      first = unpack sectionLayout 3 n;
      count = unpack sectionLayout 4 n;
    }

unfoldable pub runSpare : ℕ → ℕ
runSpare n = unpack sectionLayout 5 n

-- ---- a string's word

-- its text's place in the pool
pub record Span : Type 0 where
  pub start : ℕ
  pub size : ℕ

unfoldable pub spanWord : Span → ℕ
spanWord t = pack stringLayout (t.start ∷ t.size ∷ [])

unfoldable pub wordSpan : ℕ → Span
wordSpan n = record { start = unpack stringLayout 0 n; size = unpack stringLayout 1 n }

unfoldable pub spanSpare : ℕ → ℕ
spanSpare n = unpack stringLayout 2 n
