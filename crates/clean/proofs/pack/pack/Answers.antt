-- The freed words are zeroed.
use Rattle.std.proofs.Common.{◌≡◌, ◌-◌, length, replicate, rules}
use Rattle.clean.proofs.Whole.{packed-whole, zeros-behind}
use Rattle.clean.proofs.pack.pack.Goals as goal

pub returns : goal.returns
returns c =
    let r = c.pack_down-r in
    let s : c.fill.new.self ≡ replicate (length r.new.sections - r.result.sections) 0 = search rules in
    let t : c.fill-2.new.self ≡ replicate (length r.new.instructions - r.result.instructions) 0 = search rules in
    packed-whole _ _ _ _ _ _ r.ensures r.auto.sections r.auto.instructions _ _ (zeros-behind _ _ _ s) (zeros-behind _ _ _ t)
