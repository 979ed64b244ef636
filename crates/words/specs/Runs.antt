-- Section and string words: what their structs say in the words of `rules`.
use Rattle.std.specs.Prelude.{ℕ}
use Rattle.rules.specs.Word.{Run, Span}
use Rattle.rules.specs.Machine.{SectionOrLine, unfixed, section, line}
use Rattle.rules.specs.Tables.{kindOf, targetOf}
use Rattle.words.specs.declared.section.SectionOrLine.{SectionOrLine as Success}
use Rattle.words.specs.declared.section.SectionOrLine.TheVariants.{Unfixed, Section, Line}

abbrev pub successTold : Success → SectionOrLine
successTold Unfixed = unfixed
successTold (Section s) = section s.0
successTold (Line n) = line n.0

abbrev pub run : ℕ → ℕ → ℕ → ℕ → ℕ → Run
run l k t f c = record { lineStart = l; kind = k; target = t; first = f; count = c }

abbrev pub withSuccess : SectionOrLine → Run → Run
withSuccess s r = run r.lineStart (kindOf s) (targetOf s) r.first r.count

abbrev pub withFirst : ℕ → Run → Run
withFirst f r = run r.lineStart r.kind r.target f r.count

abbrev pub withCount : ℕ → Run → Run
withCount c r = run r.lineStart r.kind r.target r.first c

abbrev pub span : ℕ → ℕ → Span
span s n = record { start = s; size = n }
