-- The passes on a parsed tree's machine: none of them refuses, and finishing keeps within the estimates.
use Rattle.std.specs.Prelude.{◌≡◌, Bool, true, false, ◌&&◌, List, ℕ, length, take}
use Rattle.std.proofs.Common.{sym, ap, ap₂, ◌∙◌, subst, arith}
use Rattle.rules.specs.Refusal as Refusal
use Rattle.rules.specs.Bits.{Res, refused, ok}
use Rattle.rules.specs.Tree.{Tree}
use Rattle.rules.specs.Parse.{parse}
use Rattle.rules.specs.Machine.{SectionCode, Machine}
use Rattle.rules.specs.Tables.{Tables, countsOf, allb}
use Rattle.rules.specs.Assemble.{sectionsOf}
use Rattle.rules.specs.Reading.{script}
use Rattle.rules.specs.Clean.{cleanSections, cleaned}
use Rattle.rules.specs.Combine.{combineSections, combined}
use Rattle.rules.specs.Lowered.{Options, lowered, finished}
use Rattle.rules.specs.Operations.{sizeOf, estimate, fixedHere, jumpsFixed, cleanIn, allAhead, combineIn}
use Rattle.machines.specs.Ranks.{rank-low}
use Rattle.machines.specs.Lowered.{lower-fixed}
use Rattle.bounds.proofs.Stay.{lowered-sections}
use Rattle.bounds.specs.LimitsTree.{limits}
use Rattle.bounds.proofs.Estimate.{codeLen, code-length, WithinEstimate, estimated}
use Rattle.machines.specs.TreeFits.{Sizes, pos, ready, finish-counts, lines-are}
use Rattle.machines.specs.Accepts.{all-fixed, clean-test}
use Rattle.machines.specs.Ahead.{all-test, clean-ahead}

-- Cleaning accepts the lowered machine: 13 never occurs.
pub clean-accepts : (o : Options) (s : List ℕ) (t : Tree) → parse s ≡ ok t → (l : Tables) → cleanIn l (lowered o t) ≡ ok (cleaned (lowered o t))
unfolding cleanIn
clean-accepts o s t e l =
    let lim = limits s t e in
    let m = lowered o t in
    let test : (allb fixedHere (take m.lines m.sections) && allb (jumpsFixed m.sections) m.sections) ≡ true =
    ap₂ (λ (n : ℕ) (z : List SectionCode). allb fixedHere (take n z) && allb (jumpsFixed z) z) (lines-are o t lim) (lowered-sections o t) ∙ clean-test (script t) (pos o t lim)
    in
    ap (λ (b : Bool). elim b as (λ z. Res Machine) [ true ↦ ok (cleaned m) | false ↦ refused Refusal.needsUnfixed ]) test

-- Combining accepts the cleaned machine: neither 14 nor 15 occurs. It gives the finished one.
pub combine-accepts : (o : Options) (s : List ℕ) (t : Tree) → parse s ≡ ok t → (l : Tables) → combineIn l (cleaned (lowered o t)) ≡ ok (finished o t)
unfolding combineIn cleaned finished
combine-accepts o s t e l =
    let lim = limits s t e in
    let k = script t in
    let r = ready o t lim in
    let m = cleaned (lowered o t) in
    let c : cleanSections (lowered o t).sections ≡ cleanSections (sectionsOf k) = ap cleanSections (lowered-sections o t) in
    let fixed : allb fixedHere m.sections ≡ true = ap (allb fixedHere) c ∙ all-fixed (cleanSections (sectionsOf k)) r.fixed in
    let ahead : allAhead m.sections 0 m.sections ≡ true = ap (λ (z : List SectionCode). allAhead z 0 z) c ∙ all-test (cleanSections (sectionsOf k)) 0 (cleanSections (sectionsOf k)) (clean-ahead k (rank-low (length k) (pos o t lim) (sectionsOf k) (lower-fixed k (pos o t lim))) r.starts) in
    ap₂
    (λ (a b : Bool). let y : Res Machine = elim b [ false ↦ refused Refusal.linksBack | true ↦ ok (combined m) ] in elim a as (λ z. Res Machine) [ false ↦ refused Refusal.isUnfixed | true ↦ y ])
    fixed
    ahead

-- The finished machine keeps within the estimates too.
pub finished-estimated : (o : Options) (s : List ℕ) (t : Tree) → parse s ≡ ok t → WithinEstimate (countsOf (finished o t)) (estimate (sizeOf t))
unfolding countsOf finished cleaned combined
finished-estimated o s t e =
    let lim = limits s t e in
    let w = estimated o t in
    let m = (lowered o t).sections in
    let f = combineSections (cleanSections m) in
    let c : Sizes (length (script t)) (length m) (codeLen m) f = subst (λ (z : List SectionCode). Sizes (length (script t)) (length z) (codeLen z) (combineSections (cleanSections z))) (sym (lowered-sections o t)) (finish-counts o t lim) in
    record {
      lines = w.lines;
      sections = omega (arith, w.sections, c.sections);
      instrs = omega (arith, w.instrs, c.instrs, code-length m, code-length f);
      numbers = w.numbers;
      strings = w.strings;
      pool = w.pool;
      names = w.names;
    }
