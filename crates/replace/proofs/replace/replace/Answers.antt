-- The ways out of `replace`; the check gives the counts' bounds.
use Rattle.std.proofs.Common.{ℕ, ◌<◌, ◌^◌, get_or, sym, ◌∙◌, rules, arith, length-take-le}
use Rattle.tables.proofs.Sound.{counts_kept}
use Rattle.replace.proofs.Replaces.{replace-12, adds-counted, replace-11, ready, replace-done}
use Rattle.replace.proofs.replace.replace.Goals as goal

pub returns-then-not-check : goal.returns-then-not-check
returns-then-not-check c = replace-12 _ _ (sym c.check.ensures ∙ c.if-not-check.true)

pub slice_bounds-additions-end-2 : goal.slice_bounds-additions-end-2
slice_bounds-additions-end-2 c = sym (length-take-le _ _ (counts_kept _ _ (sym c.check.ensures ∙ c.if-not-check.false)).instrs)

pub overflow_add-c : goal.overflow_add-c
overflow_add-c c =
    let h = sym c.check.ensures ∙ c.if-not-check.false in
    let k = counts_kept _ _ h in
    let a = adds-counted _ _ h _ _ c.additions-added.ensures in
    omega (arith, a.numbers-few, k.numbers-few, k.instrs-few)

pub overflow_add-c-2 : goal.overflow_add-c-2
overflow_add-c-2 c =
    let h = sym c.check.ensures ∙ c.if-not-check.false in
    let k = counts_kept _ _ h in
    let a = adds-counted _ _ h _ _ c.additions-added.ensures in
    omega (arith, a.strings-few, k.strings-few, k.instrs-few)

pub returns-then-not-fits : goal.returns-then-not-fits
returns-then-not-fits c =
    let h = sym c.check.ensures ∙ c.if-not-check.false in
    replace-11 _ _ h _ _ (adds-counted _ _ h _ _ c.additions-added.ensures) _ _ c.slots.ensures c.slots-2.ensures c.if-not-fits.true

pub replace_duplicates-done-requires : goal.replace_duplicates-done-requires
replace_duplicates-done-requires c =
    let h = sym c.check.ensures ∙ c.if-not-check.false in
    let small : (i : ℕ) → get_or c.args.strings.now i 0 < 2 ^ 32 = λ i. search rules in
    ready _ _ h _ _ (adds-counted _ _ h _ _ c.additions-added.ensures) _ _ c.slots.ensures c.slots-2.ensures c.if-not-fits.false small

pub returns : goal.returns
returns c =
    let h = sym c.check.ensures ∙ c.if-not-check.false in
    let small : (i : ℕ) → get_or c.args.strings.now i 0 < 2 ^ 32 = λ i. search rules in
    replace-done _ _ h _ _ (adds-counted _ _ h _ _ c.additions-added.ensures) _ _ c.slots.ensures c.slots-2.ensures c.if-not-fits.false small _ _ _ _ _ _ _ c.replace_duplicates-done.ensures
