-- The opcodes that make a value of a register: from a field of the register's kind into one of a value.
use Rattle.std.specs.Prelude.{refl}
use Rattle.rules.specs.Instr.{unused, num, str, val, kinds, table}
use Rattle.rules.specs.Opcode as Op
use Rattle.words.specs.Told.{Shape}

pub num-to-val : Shape Op.ValueifyNum num val unused
unfolding kinds table
num-to-val = refl

pub str-to-val : Shape Op.ValueifyStr str val unused
unfolding kinds table
str-to-val = refl

pub val-to-val : Shape Op.CopyVal val val unused
unfolding kinds table
val-to-val = refl
