-- A law at each answer of dup_replace_with.
use Rattle.std.proofs.Common.{arith}
use Rattle.replace.proofs.Adding.{numbers-are, strings-are}
use Rattle.replace.proofs.Steps.{gone, kept, turned, number-added, blank-added}
use Rattle.replace.proofs.instruction.replace_instruction.Goals as goal

pub returns-in-Stays : goal.returns-in-Stays
returns-in-Stays c = kept _ _ _ _ _ _ _ c.args.w.0 c.requires.instr c.in-Stays.ensures _ c.plain.ensures

pub returns-in-Goes : goal.returns-in-Goes
returns-in-Goes c = gone _ _ _ _ _ _ _ c.args.w.0 c.in-Goes.ensures

pub returns-in-Turns : goal.returns-in-Turns
returns-in-Turns c = turned _ _ _ _ _ _ _ c.args.w.0 c.requires.instr _ c.in-Turns.ensures

pub returns-in-Number : goal.returns-in-Number
returns-in-Number c =
    let one = numbers-are c.args.w.0 _ c.in-Number.ensures in
    number-added _ _ _ _ _ _ _ c.args.w.0 c.requires.instr _ _ c.in-Number.ensures (omega arith) _ _ _ _ _ c.add_number.ensures

pub returns-in-Blank : goal.returns-in-Blank
returns-in-Blank c =
    let one = strings-are c.args.w.0 _ c.in-Blank.ensures in
    blank-added _ _ _ _ _ _ _ c.args.w.0 c.requires.instr _ c.in-Blank.ensures (omega arith) (omega arith) _ _ _ _ _ c.add_blank.ensures
