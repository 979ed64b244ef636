-- The numbers, each under one name: limits, widths in bits, and what is lent. The refusals stand in Refusal, the opcodes in Opcode.
use Rattle.std.specs.Prelude.{List, [], ◌∷◌, ℕ, ◌-◌, ◌^◌}

-- ---- limits

-- the bytes of a tree file
abbrev pub mostBytes : ℕ
mostBytes = 32768

-- the depth of a node; a line's statement has depth 1
abbrev pub mostDepth : ℕ
mostDepth = 64

-- the nodes of a tree: statements and expressions
abbrev pub mostNodes : ℕ
mostNodes = 2048

-- the lines of a machine
abbrev pub mostLines : ℕ
mostLines = 255

-- every count of a machine
abbrev pub mostCount : ℕ
mostCount = 65535

-- ---- the tree form: widths of its fields

-- the form's number, and the width that it and the lines are counted in
abbrev pub form : ℕ
form = 1

abbrev pub headBits : ℕ
headBits = 8

-- the count of names, and a name's number
abbrev pub nameBits : ℕ
nameBits = 8

-- the names that it can count
abbrev pub mostNames : ℕ
mostNames = 2 ^ nameBits - 1

-- a name's length minus one
abbrev pub nameLengthBits : ℕ
nameLengthBits = 6

-- a character, of a name or of a string
abbrev pub charBits : ℕ
charBits = 7

-- a string's length
abbrev pub stringLengthBits : ℕ
stringLengthBits = 7

-- the characters that it can count
abbrev pub mostChars : ℕ
mostChars = 2 ^ stringLengthBits - 1

-- a flag: global, or inc
abbrev pub flagBits : ℕ
flagBits = 1

-- the count of a list of statements
abbrev pub listBits : ℕ
listBits = 6

-- a statement's kind, and an expression's
abbrev pub stmtKindBits : ℕ
stmtKindBits = 2

abbrev pub exprKindBits : ℕ
exprKindBits = 3

-- the operator of a Binop or an Unop, and of an Assign
abbrev pub operatorBits : ℕ
operatorBits = 4

abbrev pub assignBits : ℕ
assignBits = 3

-- a number, in two's complement
abbrev pub numberBits : ℕ
numberBits = 64

-- a byte
abbrev pub byteBits : ℕ
byteBits = 8

-- ---- ASCII's upper case letters, the first and the last, and how far behind them the lower case ones stand

abbrev pub upperA : ℕ
upperA = 65

abbrev pub upperZ : ℕ
upperZ = 90

abbrev pub caseDistance : ℕ
caseDistance = 32

-- ---- the words of a machine: the widths of their fields, the first uppermost, the last the zero bits

-- opcode, three fields
abbrev pub instrLayout : List ℕ
instrLayout = 6 ∷ 16 ∷ 16 ∷ 16 ∷ 10 ∷ []

-- line start, kind, target, first instruction, count
abbrev pub sectionLayout : List ℕ
sectionLayout = 1 ∷ 1 ∷ 16 ∷ 16 ∷ 16 ∷ 14 ∷ []

-- start in the pool, length
abbrev pub stringLayout : List ℕ
stringLayout = 16 ∷ stringLengthBits ∷ 9 ∷ []

-- the target of an unfixed section, and the word of a name without a register: no count reaches above it, so it is neither's number
abbrev pub mark : ℕ
mark = mostCount

-- ---- numbers are thousandths

-- Number::ONE
abbrev pub one : ℕ
one = 1000

-- ---- the estimates: sections a statement, instructions a node, numbers a node

abbrev pub sectionsAStatement : ℕ
sectionsAStatement = 4

abbrev pub instrsANode : ℕ
instrsANode = 9

abbrev pub numbersANode : ℕ
numbersANode = 2

-- ---- a text's place in one number: the bits of its length, and of its start

abbrev pub spotBits : ℕ
spotBits = 32

-- ---- finlist: the bytes that it reads at most, and the words that it lends

abbrev pub finlistBytes : ℕ
finlistBytes = 8192

abbrev pub finlistSections : ℕ
finlistSections = 2048

abbrev pub finlistInstrs : ℕ
finlistInstrs = 4096

abbrev pub finlistNumbers : ℕ
finlistNumbers = 1024
