-- The counts begin clear; where every count is a head's, no section is taken in.
use Rattle.std.proofs.Common.{◌≡◌, ap, sym, ◌∙◌, length, replicate, refl}
use Rattle.std.proofs.lemmas.List.{take-replicate}
use Rattle.std.specs.List.{list_all}
use Rattle.combine.specs.Counting.{isHead, countSections}
use Rattle.combine.proofs.Collected.{as-it-is}
use Rattle.combine.proofs.collect.collect_with.Goals as goal

pub returns-then-all_heads : goal.returns-then-all_heads
returns-then-all_heads g c =
    let s = c.args.sections.now in
    let e : c.count_sections.new.counts ≡ countSections 0 s (replicate (length s) 0) = c.count_sections.ensures ∙ ap (countSections 0 s) (take-replicate (length s) g.row.N 0 c.requires.lengths.0) in
    record { combined = as-it-is _ _ c.requires.machine.0 (sym (ap (list_all isHead) e) ∙ sym c.if-all_heads.ensures); same_reference = refl }
