-- The operations, computed: each refusal that a small input shows, and every lent word afterwards. 9 stands in the words that must stay.
use Rattle.std.specs.Prelude.{◌≡◌, refl, List, [], ◌∷◌, ◌++◌, map, ℕ, suc, ℤ, pos, replicate}
use Rattle.rules.specs.Constants.{mostBytes, mostNodes, mostCount}
use Rattle.rules.specs.Bits.{Res, refused, ok}
use Rattle.rules.specs.Parse.{At, expr, stmt, toLowercase}
use Rattle.rules.specs.Lowered.{defaults}
use Rattle.rules.specs.Tables.{Tables, Counts}
use Rattle.rules.specs.Operations.{size, lower, finish, replace, clean, combine, text, textSpot}
use Rattle.rules.specs.Examples.{bytes}

-- ---- size

-- a file for each refusal but 8, whose smallest file has some 1,550 bytes
unfoldable pub refusedFiles : List (List ℕ)
unfolding bytes
refusedFiles =
    -- 1 another form; 2 zero lines; 3 the end inside the form, the lines, the names, a list's count
    bytes 1 0x02 ∷ bytes 2 0x0100 ∷ [] ∷ bytes 1 0x01 ∷ bytes 2 0x0101 ∷ bytes 3 0x010100
    -- 4 an expression of kind 6; a Binop with operator 14; an Unop with operator 11; an Assign with operator 7
    ∷ bytes 5 0x01010004C0 ∷ bytes 5 0x010100041C ∷ bytes 5 0x0101000436 ∷ bytes 8 0x01010101E01C0380
    -- 5 name 0 of none; 6 two names a; 7 depth 65, before its kind 6 is seen
    ∷ bytes 6 0x010100068000 ∷ bytes 7 0x01010201840610
    ∷ bytes 60 0x010100042040810204081020408102040810204081020408102040810204081020408102040810204081020408102040810204081020408102040860
    -- 9 a fill bit; a byte left over; 10 too long
    ∷ bytes 4 0x01010001 ∷ bytes 5 0x0101000000 ∷ replicate (suc mostBytes) 1 ∷ []

pub refusals : map size refusedFiles ≡ map refused (1 ∷ 2 ∷ 3 ∷ 3 ∷ 3 ∷ 3 ∷ 4 ∷ 4 ∷ 4 ∷ 4 ∷ 5 ∷ 6 ∷ 7 ∷ 9 ∷ 9 ∷ 10 ∷ [])
unfolding size refusedFiles
refusals = refl

-- :x="ab"
unfoldable pub stringFile : List ℕ
unfolding bytes
stringFile = bytes 11 0x01010181E01C0050587100

pub sized : size stringFile ≡ ok (record { lines = 1; names = 1; statements = 1; nodes = 2; strings = 1; characters = 2 })
unfolding size stringFile
sized = refl

-- behind 2,048 nodes
unfoldable pub full : At
full = record { pos = 0; nodes = mostNodes }

-- a node that is too deep and one too many: 7, before 8; one too many at the end of the file: 8, before its bits
pub node-order : (expr 0 0 [] full ≡ refused 7) × (stmt 0 0 [] full ≡ refused 7) × (expr 0 1 [] full ≡ refused 8) × (stmt 0 1 [] full ≡ refused 8)
unfolding expr stmt full
node-order = (refl, refl, refl, refl)

-- depth 64
pub deep : size (bytes 67 0x01010004204081020408102040810204081020408102040810204081020408102040810204081020408102040810204081020408102040810204200000000000000000) ≡ ok (record { lines = 1; names = 0; statements = 1; nodes = 64; strings = 0; characters = 0 })
unfolding size bytes
deep = refl

-- ---- which names are the same

-- the ends of A to Z and of a to z, and what stands next to them
pub in-lower-case : map toLowercase (64 ∷ 65 ∷ 90 ∷ 91 ∷ 96 ∷ 97 ∷ 122 ∷ 123 ∷ []) ≡ 64 ∷ 97 ∷ 122 ∷ 91 ∷ 96 ∷ 97 ∷ 122 ∷ 123 ∷ []
unfolding toLowercase
in-lower-case = refl

-- names and an empty line: a A; z Z; Ward wARD; :aZ :Az; x :x X
unfoldable pub sameNames : List (List ℕ)
unfolding bytes
sameNames =
    bytes 8 0x0101020184041000 ∷ bytes 8 0x01010201E805A000 ∷ bytes 13 0x010102075F0F2C80FBC1A51000
    ∷ bytes 9 0x0101028386D4183E80 ∷ bytes 9 0x01010301E207801600 ∷ []

-- a :A; @ `; [ {; A Ab
unfoldable pub otherNames : List (List ℕ)
unfolding bytes
otherNames = bytes 8 0x0101020186041000 ∷ bytes 8 0x0101020100060000 ∷ bytes 8 0x010102016C07B000 ∷ bytes 9 0x01010201040C1C4000 ∷ []

pub same-refused : map size sameNames ≡ replicate 5 (refused 6)
unfolding size sameNames
same-refused = refl

pub others-accepted : map size otherNames ≡ replicate 4 (ok (record { lines = 1; names = 2; statements = 0; nodes = 0; strings = 0; characters = 0 }))
unfolding size otherNames
others-accepted = refl

-- ---- lower and finish of :x="ab", with one word more than each estimate

unfoldable pub lent : Tables
lent = record { sections = replicate 6 9; instrs = replicate 19 9; numbers = replicate 5 (pos 9); strings = replicate 2 9; pool = replicate 3 9; names = replicate 2 9 }

-- the tables afterwards, by their sections; and the counts
unfoldable pub filled : List ℕ → Tables
filled ss = record {
  sections = ss ++ (9 ∷ []);
  instrs = 0x1800000000000000 ∷ 0x1000000004000000 ∷ replicate 16 0 ++ (9 ∷ []);
  numbers = replicate 4 (pos 0) ++ (pos 9 ∷ []);
  strings = 0x400 ∷ 9 ∷ [];
  pool = 97 ∷ 98 ∷ 9 ∷ [];
  names = 1 ∷ 9 ∷ [];
}

unfoldable pub filledCounts : ℕ → Counts
filledCounts n = record { lines = 1; sections = n; instrs = 2; numbers = 0; strings = 1; pool = 2; values = 2; names = 1 }

-- two sections, the line's and the placeholder
pub lowered-words : lower defaults stringFile lent ≡ (ok (filledCounts 2), filled (0x8000000000008000 ∷ 0xBFFFC00080000000 ∷ 0 ∷ 0 ∷ 0 ∷ []))
unfolding lower defaults stringFile lent filled filledCounts
lowered-words = refl

pub finished-words : finish defaults stringFile lent ≡ (ok (filledCounts 1), filled (0x8000000000008000 ∷ 0 ∷ 0 ∷ 0 ∷ 0 ∷ []))
unfolding finish defaults stringFile lent filled filledCounts
finished-words = refl

-- a table of 17 instructions is too short
unfoldable pub short : Tables
unfolding lent
short = record { sections = lent.sections; instrs = replicate 17 9; numbers = lent.numbers; strings = lent.strings; pool = lent.pool; names = lent.names }

pub no-room : lower defaults stringFile short ≡ (refused 11, short)
unfolding lower defaults stringFile short
no-room = refl

-- ---- machines of one line without strings

unfoldable pub machine : List ℕ → List ℕ → List ℤ → Tables
machine ss is ns = record { sections = ss; instrs = is; numbers = ns; strings = []; pool = []; names = [] }

-- their counts; one value register
unfoldable pub counted : ℕ → ℕ → ℕ → Counts
counted s i n = record { lines = 1; sections = s; instrs = i; numbers = n; strings = 0; pool = 0; values = 1; names = 0 }

-- SubNum 0 0, Lt 0 0 1, CopyNum 1 1 become CopyNum 2 0, CopyNum 3 1; two numbers are added
pub replaced-words : replace (machine (0x800000000000C000 ∷ 9 ∷ []) (0x5000000000000000 ∷ 0x8800000000000400 ∷ 0x0800040004000000 ∷ 9 ∷ []) (pos 5 ∷ pos 6 ∷ pos 9 ∷ pos 9 ∷ pos 9 ∷ [])) (counted 1 3 2) ≡ (
  ok (counted 1 2 4),
  machine (0x8000000000008000 ∷ 9 ∷ []) (0x0800080000000000 ∷ 0x08000C0004000000 ∷ 0 ∷ 9 ∷ []) (pos 5 ∷ pos 6 ∷ pos 0 ∷ pos 0 ∷ pos 9 ∷ []),
)
unfolding replace machine counted
replaced-words = refl

-- without a slot for the second
unfoldable pub tight : Tables
unfolding machine
tight = machine (0x800000000000C000 ∷ 9 ∷ []) (0x5000000000000000 ∷ 0x8800000000000400 ∷ 0x0800040004000000 ∷ 9 ∷ []) (pos 5 ∷ pos 6 ∷ pos 9 ∷ [])

pub no-slot : replace tight (counted 1 3 2) ≡ (refused 11, tight)
unfolding replace tight counted
no-slot = refl

-- IncNum, DecNum, NotNum of number 0
unfoldable pub incDecNot : List ℕ
incDecNot = 0x8C00000000000000 ∷ 0x9800000000000000 ∷ 0x3000000000000000 ∷ 9 ∷ []

-- section 1 is unfixed and goes; section 2, whose successor it was, becomes 1 and leads to section 0
pub cleaned-words : clean (machine (0x8000800000004000 ∷ 0x3FFFC00040004000 ∷ 0x0000400080004000 ∷ 9 ∷ []) incDecNot (pos 5 ∷ [])) (counted 3 3 1) ≡ (
  ok (counted 2 2 1),
  machine (0x8000400000004000 ∷ 0x0000000040004000 ∷ 0 ∷ 9 ∷ []) (0x8C00000000000000 ∷ 0x3000000000000000 ∷ 0 ∷ 9 ∷ []) (pos 5 ∷ []),
)
unfolding clean machine counted incDecNot
cleaned-words = refl

-- three sections in a row, the last a goto, are one
pub combined-words : combine (machine (0x8000400000004000 ∷ 0x0000800040004000 ∷ 0x4000000080004000 ∷ 9 ∷ []) incDecNot (pos 5 ∷ [])) (counted 3 3 1) ≡ (
  ok (counted 1 3 1),
  machine (0xC00000000000C000 ∷ 0 ∷ 0 ∷ 9 ∷ []) incDecNot (pos 5 ∷ []),
)
unfolding combine machine counted incDecNot
combined-words = refl

-- ---- machines that are refused

-- what a call answers
unfoldable pub answer : {A : Type 0} → Res A × Tables → ℕ
answer x = elim x.0 [ refused n ↦ n | ok a ↦ 0 ]

-- 12: the line is no line start; a field that is not used; a register outside its table; a jump outside the sections; 10 bits that are not zero;
-- opcode 53; a second line start; runs that do not cover the instructions; a count above its table's length
pub broken : map (λ (x : Tables × Counts). answer (clean x.0 x.1)) (
    (machine (0x4000 ∷ []) (0x8C00000000000000 ∷ []) (pos 5 ∷ []), counted 1 1 1)
    ∷ (machine (0x8000000000004000 ∷ []) (0x8C00000004000000 ∷ []) (pos 5 ∷ []), counted 1 1 1)
    ∷ (machine (0x8000000000004000 ∷ []) (0x8C00040000000000 ∷ []) (pos 5 ∷ []), counted 1 1 1)
    ∷ (machine (0x8000000000004000 ∷ []) (0x0400040000000000 ∷ []) (pos 5 ∷ []), counted 1 1 1)
    ∷ (machine (0x8000000000004000 ∷ []) (0x8C00000000000001 ∷ []) (pos 5 ∷ []), counted 1 1 1)
    ∷ (machine (0x8000000000004000 ∷ []) (0xD400000000000000 ∷ []) (pos 5 ∷ []), counted 1 1 1)
    ∷ (machine (0x8000000000004000 ∷ 0x8000000040000000 ∷ []) (0x8C00000000000000 ∷ []) (pos 5 ∷ []), counted 2 1 1)
    ∷ (machine (0x8000000000000000 ∷ []) (0x8C00000000000000 ∷ []) (pos 5 ∷ []), counted 1 1 1)
    ∷ (machine (0x8000000000004000 ∷ []) (0x8C00000000000000 ∷ []) (pos 5 ∷ []), counted 1 1 2)
    ∷ []
    ) ≡ replicate 9 12
unfolding clean machine counted answer
broken = refl

-- 13: the line is unfixed; a jump in an unfixed section to that section
pub not-cleaned : map (λ (x : Tables × Counts). answer (clean x.0 x.1)) (
    (machine (0xBFFFC00000000000 ∷ []) [] [], counted 1 0 0)
    ∷ (machine (0x8000000000000000 ∷ 0x3FFFC00000004000 ∷ []) (0x0400040000000000 ∷ []) [], counted 2 1 0)
    ∷ []
    ) ≡ 13 ∷ 13 ∷ []
unfolding clean machine counted answer
not-cleaned = refl

-- 14: an unfixed section; 15: section 2 leads back to section 1, which is no line start
pub not-combined : map (λ (x : Tables × Counts). answer (combine x.0 x.1)) (
    (machine (0x8000000000000000 ∷ 0x3FFFC00000000000 ∷ []) [] [], counted 2 0 0)
    ∷ (machine (0x8000400000000000 ∷ 0x4000000000000000 ∷ 0x0000400000000000 ∷ []) [] (pos 0 ∷ []), counted 3 0 1)
    ∷ []
    ) ≡ 14 ∷ 15 ∷ []
unfolding combine machine counted answer
not-combined = refl

-- ---- text: `b` of a pool `ab`; nothing for a register that is not there, a word past the pool, and a word with a bit too many

pub texts-shown : map (text (0x10200 ∷ 0x10400 ∷ 0x10201 ∷ []) (97 ∷ 98 ∷ [])) (0 ∷ 1 ∷ 2 ∷ 3 ∷ []) ≡ (98 ∷ []) ∷ [] ∷ [] ∷ [] ∷ []
unfolding text
texts-shown = refl

-- their places: start 1 and length 1; the pool's end
pub spots : map (textSpot (0x10200 ∷ 0x10400 ∷ 0x10201 ∷ []) (97 ∷ 98 ∷ [])) (0 ∷ 1 ∷ 2 ∷ 3 ∷ []) ≡ 0x100000001 ∷ 0x200000000 ∷ 0x200000000 ∷ 0x200000000 ∷ []
unfolding textSpot
spots = refl

-- of 65,536 words the last is no register's
pub last-text : map (text (replicate (suc mostCount) 0x10200) (97 ∷ 98 ∷ [])) (65534 ∷ 65535 ∷ []) ≡ (98 ∷ []) ∷ [] ∷ []
unfolding text
last-text = refl
