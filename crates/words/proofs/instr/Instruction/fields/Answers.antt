-- The arms of a range and the last arm: the kinds and the rows at all the numbers of an arm are computed and compared as one list.
use Rattle.std.proofs.Common.{◌<◌, ◌≤◌, [], ◌∷◌, refl, arith}
use Rattle.std.proofs.Math.ListN.{get_elem?}
use Rattle.laws.specs.Match.{in-range}
use Rattle.laws.specs.Table.{past_end, told-both}
use Rattle.rules.specs.Instr.{table, kinds}
use Rattle.words.proofs.instr.Instruction.fields.Goals as goal
use types.Run.{OneOf}

pub returns-in-32-to-34 : goal.returns-in-32-to-34
unfolding kinds table
returns-in-32-to-34 c =
    let o = c.args.op in
    let from : 32 ≤ o = grind arith in
    let to : o < 35 = omega arith in
    record { kinds = in-range kinds _ [] 32 3 refl o tt from to; row = in-range (get_elem? table) _ [] 32 3 refl o tt from to }

pub returns-in-14-2 : goal.returns-in-14-2
unfolding kinds table
returns-in-14-2 c =
    let o = c.args.op in
    let from : 51 ≤ o = omega arith in
    let to : o < 53 = omega arith in
    record { kinds = in-range kinds _ [] 51 2 refl o tt from to; row = in-range (get_elem? table) _ [] 51 2 refl o tt from to }

pub returns-in-10-to-50-2 : goal.returns-in-10-to-50-2
unfolding kinds table
returns-in-10-to-50-2 c =
    let o = c.args.op in
    let from : 35 ≤ o = omega arith in
    let to : o < 51 = omega arith in
    let not : OneOf (36 ∷ 37 ∷ 39 ∷ 40 ∷ []) o → ⊥ = λ h. grind arith in
    record {
      kinds = in-range kinds _ ((36 ∷ 37 ∷ 39 ∷ 40 ∷ []) ∷ []) 35 16 refl o (tt, not) from to;
      row = in-range (get_elem? table) _ ((36 ∷ 37 ∷ 39 ∷ 40 ∷ []) ∷ []) 35 16 refl o (tt, not) from to;
    }

pub returns-in_default : goal.returns-in_default
unfolding table
returns-in_default c =
    let o = c.args.op in
    let past : 53 ≤ o = omega arith in
    let none = past_end table o past in
    record { kinds = (told-both _ o none).0; row = none }
