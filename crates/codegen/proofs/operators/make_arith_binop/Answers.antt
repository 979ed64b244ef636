-- Right, left, the operator and the value, one after another; an error jump takes at most one instruction.
use Rattle.std.proofs.Common.{arith}
use Rattle.codegen.proofs.Forms.{as-arith}
use Rattle.rules.specs.Instr.{canRuntimeErr}
use Rattle.codegen.proofs.Laws.{then, same, guard-most}
use Rattle.codegen.proofs.operators.make_arith_binop.Goals as goal

pub make_val-requires : goal.make_val-requires
make_val-requires c = let z = guard-most (canRuntimeErr c.args.op) in (omega arith, omega arith)

pub returns-clause-does : goal.returns-clause-does
returns-clause-does c = record { does = same (as-arith _ _ _) (then _ c.numberify-m.ensures.does.does (then _ c.numberify-n.ensures.does.does (then _ c.emit_guarded-c1.ensures.does.does c.make_val.ensures.does.does))) }
