-- The counts, the lent tables and an answer in the words of `rules`.
use Rattle.std.specs.Prelude.{List, ℕ, ℤ, Result}
use Rattle.rules.specs.Bits.{Res}
use Rattle.rules.specs.Tables.{Tables, Counts}
use Rattle.rules.specs.Word.{Span}
use Rattle.tables.specs.declared.text.Place.{Place}
use Rattle.tables.specs.declared.counts.Counts.{Counts as Lent}
use Rattle.params.specs.declared.refusal.Refusal.{Refusal}
use Rattle.params.specs.Told.{told}

abbrev pub countsTold : Lent → Counts
countsTold c = record {
  lines = c.lines;
  sections = c.sections;
  instrs = c.instructions;
  numbers = c.numbers;
  strings = c.strings;
  pool = c.characters;
  names = c.names;
  values = c.values;
}

abbrev pub tables : List ℕ → List ℕ → List ℤ → List ℕ → List ℕ → List ℕ → Tables
tables ss is ns ts p xs = record { sections = ss; instrs = is; numbers = ns; strings = ts; pool = p; names = xs }

abbrev pub answerTold : Result Lent Refusal → Res Counts
answerTold = told countsTold

-- a text's place
abbrev pub placeTold : Place → Span
placeTold p = record { start = p.start; size = p.length }
