-- The test on the word is the test on the opcode, so the error jump is there exactly where the opcode may fail.
use Rattle.std.proofs.Common.{◌∙◌, refl, arith, rules}
use Rattle.codegen.specs.Costs.{guardCost}
use Rattle.codegen.proofs.Laws.{then, plain₂, err-is, guard-yes, guard-no}
use Rattle.codegen.proofs.operators.emit_guarded.Goals as goal

pub returns-then-can_runtime_err : goal.returns-then-can_runtime_err
unfolding guardCost
returns-then-can_runtime_err c =
    let e = err-is _ _ _ _ _ c.if-can_runtime_err.ensures c.of_two-w.ensures c.requires.1 (omega arith) (omega arith) in
    record {
      spent = rw e (search rules);
      does = record { does = then _ (c.emit-c1.ensures.does _ (c.of_two-w.ensures ∙ plain₂ _ _ c.requires.1 refl _ _)).does (guard-yes _ e c.add_jmperr.ensures.does.does) };
    }

pub returns : goal.returns
unfolding guardCost
returns c =
    let e = err-is _ _ _ _ _ c.if-can_runtime_err.ensures c.of_two-w.ensures c.requires.1 (omega arith) (omega arith) in
    record {
      spent = rw e (search rules);
      does = record { does = then _ (c.emit-c1.ensures.does _ (c.of_two-w.ensures ∙ plain₂ _ _ c.requires.1 refl _ _)).does (guard-no _ e) };
    }
