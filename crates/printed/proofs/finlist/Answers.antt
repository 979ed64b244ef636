-- What is printed for a file that is too long, and at each answer that finishing another has.
use Rattle.std.proofs.Common.{rules}
use Rattle.rules.specs.Lowered.{defaults}
use Rattle.printed.proofs.Files.{too-long}
use Rattle.printed.proofs.Calls.{prints-as, refused-prints, lists, listed-prints}
use Rattle.printed.proofs.finlist.Goals as goal

pub returns-then-input-gt-FINLIST_BYTES : goal.returns-then-input-gt-FINLIST_BYTES
returns-then-input-gt-FINLIST_BYTES c = prints-as c.refuse.ensures (too-long _ c.if-input-gt-FINLIST_BYTES.true)

pub returns-in-Err : goal.returns-in-Err
unfolding defaults
returns-in-Err c = prints-as c.refuse-in-Err.ensures (refused-prints _ _ _ c.if-input-gt-FINLIST_BYTES.false (search rules) _ c.in-Err.ensures)

pub listing-requires : goal.listing-requires
listing-requires c =
    let k = c.finish-answer.auto in
    lists _ _ _ _ _ (c.in-Ok.ensures) _ c.told-out (search rules) (record { sections = k.sections; instrs = k.instructions; numbers = k.numbers; strings = k.strings; names = k.names })

pub returns-in-Ok : goal.returns-in-Ok
unfolding defaults
returns-in-Ok c = listed-prints _ _ _ _ c.if-input-gt-FINLIST_BYTES.false (search rules) c.in-Ok.ensures c.listing.ensures
