-- The numbers that calls refuse with.
use Rattle.std.specs.Prelude.{ℕ}

-- ---- size, and so lower and finish

-- the form is another
abbrev pub otherForm : ℕ
otherForm = 1

-- there are zero lines
abbrev pub zeroLines : ℕ
zeroLines = 2

-- the file ends inside a field
abbrev pub endsInField : ℕ
endsInField = 3

-- a kind or an operator is unassigned
abbrev pub unassigned : ℕ
unassigned = 4

-- a name is not in the table
abbrev pub unknownName : ℕ
unknownName = 5

-- a name is the second of two equal ones
abbrev pub equalNames : ℕ
equalNames = 6

-- a node has depth 65
abbrev pub tooDeep : ℕ
tooDeep = 7

-- a node is number 2,049
abbrev pub tooManyNodes : ℕ
tooManyNodes = 8

-- a fill bit is not zero, or a byte is left over
abbrev pub leftOver : ℕ
leftOver = 9

-- the file is longer than is read: 32,768 bytes, 8,192 by finlist
abbrev pub tooLong : ℕ
tooLong = 10

-- ---- lent tables and machines

-- a lent table is shorter than its estimate; for replace, no slot for an added number or string
abbrev pub noRoom : ℕ
noRoom = 11

-- words break the rules of a machine
abbrev pub breaksRules : ℕ
breaksRules = 12

-- clean: a section below L is unfixed, or a jump targets an unfixed section
abbrev pub needsUnfixed : ℕ
needsUnfixed = 13

-- combine: a section is unfixed
abbrev pub isUnfixed : ℕ
isUnfixed = 14

-- combine: a successor that is no line start lies below its section
abbrev pub linksBack : ℕ
linksBack = 15
