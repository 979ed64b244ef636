-- The operations: the answer of each, and every lent word afterwards. A refused call leaves all as it was.
use Rattle.std.specs.Prelude.{Bool, true, false, ◌&&◌, ◌||◌, List, [], ◌∷◌, ◌++◌, ℕ, suc, ◌+◌, ◌*◌, ◌-◌, ◌^◌, min, max, leb, ltb, eqb, pos, length, take, drop, get_or, replicate}
use Rattle.std.proofs.Math.Option.{Option, none, some}
use Rattle.std.proofs.Math.ListN.{get_elem?}
use Rattle.rules.specs.Constants.{mostCount, sectionsAStatement, instrsANode, numbersANode, spotBits}
use Rattle.rules.specs.Refusal as Refusal
use Rattle.rules.specs.Bits.{Res, refused, ok}
use Rattle.rules.specs.Tree.{Tree, ofLines}
use Rattle.rules.specs.Parse.{parse}
use Rattle.rules.specs.Instr.{Instruction, isJump}
use Rattle.rules.specs.Word.{Span, wordSpan, spanSpare}
use Rattle.rules.specs.Machine.{SectionOrLine, unfixed, section, line, isFixed, SectionCode, absent, Machine}
use Rattle.rules.specs.Tables.{Tables, Counts, allb, decode, encode, countsOf}
use Rattle.rules.specs.Lowered.{Options, lowered, finished}
use Rattle.rules.specs.Replace.{replaced}
use Rattle.rules.specs.Clean.{cleaned}
use Rattle.rules.specs.Combine.{combined}

-- ---- size

pub record Size : Type 0 where
  pub lines : ℕ
  pub names : ℕ
  pub statements : ℕ
  pub nodes : ℕ
  pub strings : ℕ
  pub characters : ℕ

-- what is counted of a tree
unfoldable pub sizeOf : Tree → Size
unfolding ofLines
sizeOf t =
    let c = ofLines t.lines in
    record { lines = length t.lines; names = length t.names; statements = c.statements; nodes = c.nodes; strings = c.strings; characters = c.characters }

-- size of a file
unfoldable pub size : List ℕ → Res Size
unfolding parse sizeOf
size s = elim (parse s) [ refused n ↦ refused n | ok t ↦ ok (sizeOf t) ]

-- ---- tables afterwards

-- words at the start of a table, zeros up to n, the rest as it was
unfoldable pub put : {A : Type 0} → A → ℕ → List A → List A → List A
put z n ws t = ws ++ (replicate (n - length ws) z ++ drop (max n (length ws)) t)

-- a machine's words in the tables, zeros up to u
unfoldable pub write : Counts → Machine → Tables → Tables
unfolding encode put
write u m t =
    let w = encode m in
    record {
      sections = put 0 u.sections w.sections t.sections;
      instrs = put 0 u.instrs w.instrs t.instrs;
      numbers = put (pos 0) u.numbers w.numbers t.numbers;
      strings = put 0 u.strings w.strings t.strings;
      pool = put 0 u.pool w.pool t.pool;
      names = put 0 u.names w.names t.names;
    }

-- ---- lower and finish

-- the estimates: how much of each table a tree may need; value registers have no table
unfoldable pub estimate : Size → Counts
estimate z = record {
  lines = z.lines;
  sections = z.lines + sectionsAStatement * z.statements;
  instrs = instrsANode * z.nodes;
  numbers = numbersANode * z.nodes;
  strings = z.strings;
  pool = z.characters;
  values = 0;
  names = z.names;
}

-- does each lent table hold its estimate?
unfoldable pub holds : Tables → Counts → Bool
holds t u =
    leb u.sections (length t.sections) && leb u.instrs (length t.instrs) && leb u.numbers (length t.numbers)
    && leb u.strings (length t.strings) && leb u.pool (length t.pool) && leb u.names (length t.names)

-- a tree file made into a machine in the tables: refused as size does, then 11; zeros up to the estimates, nothing beyond
unfoldable pub build : (Tree → Machine) → List ℕ → Tables → Res Counts × Tables
unfolding parse sizeOf estimate holds countsOf write
build f s t = elim (parse s) [
  | refused n ↦ (refused n, t)
  | ok x ↦ elim (holds t (estimate (sizeOf x))) [
    | false ↦ (refused Refusal.noRoom, t)
    | true ↦ (let m = f x in (ok (countsOf m), write (estimate (sizeOf x)) m t))
  ]
]

unfoldable pub lower : Options → List ℕ → Tables → Res Counts × Tables
unfolding build lowered
lower o = build (lowered o)

unfoldable pub finish : Options → List ℕ → Tables → Res Counts × Tables
unfolding build finished
finish o = build (finished o)

-- ---- replace, clean, combine

-- a machine in the tables changed by f: 12 where they hold none, then what f refuses; freed words become 0
unfoldable pub change : (Tables → Machine → Res Machine) → Tables → Counts → Res Counts × Tables
unfolding decode countsOf write
change f t u = elim (decode t u) [
  | refused n ↦ (refused n, t)
  | ok m ↦ elim (f t m) [ refused n ↦ (refused n, t) | ok r ↦ (ok (countsOf r), write u r t) ]
]

-- is there a slot for each word, and does their count not pass 65,535?
unfoldable pub slots : {A B : Type 0} → List A → List B → Bool
slots words table = leb (length words) (length table) && leb (length words) mostCount

-- replace: 11 without a slot for an added number or string
unfoldable pub replaceIn : Tables → Machine → Res Machine
unfolding replaced slots
replaceIn t m = let r = replaced m in elim (slots r.numbers t.numbers && slots r.strings t.strings) [ true ↦ ok r | false ↦ refused Refusal.noRoom ]

-- is the section fixed?
unfoldable pub fixedHere : SectionCode → Bool
fixedHere s = isFixed s.success

-- is a jump's target fixed?
unfoldable pub jumpFixed : List SectionCode → Instruction → Bool
jumpFixed ss i = elim (isJump i) [ true ↦ isFixed (get_or ss i.fst absent).success | false ↦ true ]

-- are the targets of a section's jumps fixed?
unfoldable pub jumpsFixed : List SectionCode → SectionCode → Bool
unfolding allb jumpFixed
jumpsFixed ss s = allb (jumpFixed ss) s.instrs

-- clean: 13 where a section below L is unfixed or a jump targets an unfixed section
unfoldable pub cleanIn : Tables → Machine → Res Machine
unfolding allb fixedHere jumpsFixed cleaned
cleanIn t m = elim (allb fixedHere (take m.lines m.sections) && allb (jumpsFixed m.sections) m.sections) [ true ↦ ok (cleaned m) | false ↦ refused Refusal.needsUnfixed ]

-- section i's successor is a line start or does not lie below it
unfoldable pub nextAhead : List SectionCode → ℕ → SectionOrLine → Bool
nextAhead ss i (section t) = elim (get_elem? ss t) [ none ↦ true | some s ↦ s.lineStart || leb i t ]
nextAhead ss i (line n) = true
nextAhead ss i unfixed = true

-- and so for the sections from number i on
unfoldable pub allAhead : List SectionCode → ℕ → List SectionCode → Bool
unfolding nextAhead
allAhead ss i [] = true
allAhead ss i (x ∷ xs) = elim (nextAhead ss i x.success) [ false ↦ false | true ↦ allAhead ss (suc i) xs ]

-- combine: 14 where a section is unfixed, then 15 where a successor that is no line start lies below its section
unfoldable pub combineIn : Tables → Machine → Res Machine
unfolding allb fixedHere allAhead combined
combineIn t m = elim (allb fixedHere m.sections) [
  | false ↦ refused Refusal.isUnfixed
  | true ↦ elim (allAhead m.sections 0 m.sections) [ false ↦ refused Refusal.linksBack | true ↦ ok (combined m) ]
]

unfoldable pub replace : Tables → Counts → Res Counts × Tables
unfolding change replaceIn
replace = change replaceIn

unfoldable pub clean : Tables → Counts → Res Counts × Tables
unfolding change cleanIn
clean = change cleanIn

unfoldable pub combine : Tables → Counts → Res Counts × Tables
unfolding change combineIn
combine = change combineIn

-- ---- text

-- the word of string register r, if there is one: a table counts 65,535 words at most, so what stands behind those is no register's
unfoldable pub stringWord : List ℕ → ℕ → Option ℕ
stringWord strings r = elim (ltb r mostCount) [ false ↦ none | true ↦ get_elem? strings r ]

-- the place of register r's text in the pool; empty, at the pool's end, where register or word is bad
unfoldable pub textSpan : List ℕ → List ℕ → ℕ → Span
unfolding stringWord wordSpan spanSpare
textSpan strings pool r = elim (stringWord strings r) [
  | none ↦ record { start = length pool; size = 0 }
  | some w ↦ (let t = wordSpan w in elim (eqb (spanSpare w) 0 && leb (t.start + t.size) (length pool)) [ true ↦ t | false ↦ record { start = length pool; size = 0 } ])
]

-- the text of register r: that part of the pool
unfoldable pub text : List ℕ → List ℕ → ℕ → List ℕ
unfolding textSpan
text strings pool r = let t = textSpan strings pool r in take t.size (drop t.start pool)

-- the place as one number, for a caller to whom no part of the pool can be handed back: start × 2^32 + length; the end of a pool that is longer is said
-- as 2^32 - 1
abbrev pub spotOf : Span → ℕ
spotOf t = min t.start (2 ^ spotBits - 1) * 2 ^ spotBits + t.size

unfoldable pub textSpot : List ℕ → List ℕ → ℕ → ℕ
unfolding textSpan
textSpot strings pool r = spotOf (textSpan strings pool r)
