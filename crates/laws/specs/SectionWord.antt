-- When a successor fits a section's word.
use Rattle.std.specs.Prelude.{◌^◌, ◌<◌}
use Rattle.rules.specs.Constants.{mark}
use Rattle.rules.specs.Machine.{SectionOrLine, unfixed, section, line}

-- a successor that a word can hold: the mark is no section
abbrev pub NextSmall : SectionOrLine → Type 0
NextSmall unfixed = Unit {0}
NextSmall (section t) = t < mark
NextSmall (line r) = r < 2 ^ 16
