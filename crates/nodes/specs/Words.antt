-- A node's word: its fields and its kinds.
use Rattle.std.specs.Prelude.{ℕ, ◌+◌, ◌*◌, ◌/◌, ◌%◌, ◌^◌}
use Rattle.rules.specs.Constants.{nameBits, listBits, operatorBits}

-- ---- kinds: an expression's is that of the file, a statement's is 8 more

abbrev pub binopKind : ℕ
binopKind = 0

abbrev pub unopKind : ℕ
unopKind = 1

abbrev pub incdecKind : ℕ
incdecKind = 2

abbrev pub identKind : ℕ
identKind = 3

abbrev pub numberKind : ℕ
numberKind = 4

abbrev pub stringKind : ℕ
stringKind = 5

abbrev pub gotoKind : ℕ
gotoKind = 8

abbrev pub iteKind : ℕ
iteKind = 9

abbrev pub stepKind : ℕ
stepKind = 10

abbrev pub assignKind : ℕ
assignKind = 11

-- ---- its fields, the lowest first: kind, operator or flag, name or count, bit position of what is read again, a width, node behind the subtree

abbrev pub kindBits : ℕ
kindBits = 4

abbrev pub posBits : ℕ
posBits = 19

abbrev pub widthBits : ℕ
widthBits = 13

abbrev pub lastBits : ℕ
lastBits = 12

unfoldable pub wordOf : ℕ → ℕ → ℕ → ℕ → ℕ → ℕ → ℕ
wordOf kind op name pos last width = kind + 2 ^ kindBits * (op + 2 ^ operatorBits * (name + 2 ^ nameBits * (pos + 2 ^ posBits * (width + 2 ^ widthBits * last))))

abbrev pub kindIn : ℕ → ℕ
kindIn w = w % 2 ^ kindBits

abbrev pub opIn : ℕ → ℕ
opIn w = w / 2 ^ kindBits % 2 ^ operatorBits

abbrev pub nameIn : ℕ → ℕ
nameIn w = w / 2 ^ (kindBits + operatorBits) % 2 ^ nameBits

abbrev pub posIn : ℕ → ℕ
posIn w = w / 2 ^ (kindBits + operatorBits + nameBits) % 2 ^ posBits

abbrev pub widthIn : ℕ → ℕ
widthIn w = w / 2 ^ (kindBits + operatorBits + nameBits + posBits) % 2 ^ widthBits

abbrev pub lastIn : ℕ → ℕ
lastIn w = w / 2 ^ (kindBits + operatorBits + nameBits + posBits + widthBits)

-- an Ite: the counts a and b of its lists, their widths v and w; b and w share the field of a position
abbrev pub iteWord : ℕ → ℕ → ℕ → ℕ → ℕ → ℕ
iteWord a b v w last = wordOf iteKind 0 a (b + 2 ^ listBits * w) last v

-- of an Ite's word, the count of its else-list and the width of it
abbrev pub elseCount : ℕ → ℕ
elseCount w = posIn w % 2 ^ listBits

abbrev pub elseWidth : ℕ → ℕ
elseWidth w = posIn w / 2 ^ listBits
