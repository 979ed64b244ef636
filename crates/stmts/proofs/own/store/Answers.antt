-- The operator and then the copy into the variable.
use Rattle.std.proofs.Common.{arith}
use Rattle.rules.specs.Instr.{canRuntimeErr}
use Rattle.codegen.proofs.Laws.{then, same, guard-most}
use Rattle.stmts.proofs.Forms.{as-store}
use Rattle.stmts.proofs.own.store.Goals as goal

pub emit-requires : goal.emit-requires
emit-requires c = let z = guard-most (canRuntimeErr c.args.op) in omega arith

pub returns-clause-does : goal.returns-clause-does
returns-clause-does c = record { does = same (as-store _ _) (then _ c.make_arith_binop-o.ensures.does.does (c.emit.ensures.does _ c.of_two.ensures).does) }
