-- The tree's lines are held and have room, and what is made of them is the whole machine's words.
use Rattle.std.proofs.Common.{arith, refl, ◌≤◌, length}
use Prim.Native.Nat.{◌^◌}
use Rattle.rules.specs.Constants.{nameBits}
use Rattle.program.proofs.Whole.{lines-nodes, laid}
use Rattle.program.proofs.Script.{owns-most}
use Rattle.program.proofs.program.codegen_from_program.Goals as goal

pub head_costs-requires : goal.head_costs-requires
head_costs-requires c =
    let p = c.requires in
    let n = lines-nodes p.held in
    record {
      file = _;
      lines = record { known = _; blocks = _; first = 0; last = p.last; held = rw p.lines at p.held; inside = p.inside; short = p.short; few = omega arith; words = p.line-words };
      small = omega arith;
      few-nodes = p.few-nodes;
    }

pub codegen_from_lines-r-requires : goal.codegen_from_lines-r-requires
codegen_from_lines-r-requires c =
    let p = c.requires in
    let h = rw p.lines at p.held in
    let f : length p.tree.names ≤ 2 ^ nameBits = omega arith in
    let o = owns-most p.tree.lines in
    let e = c.head_costs.ensures _ _ _ _ _ p.short f h in
    record {
      lines = record { known = _; blocks = _; first = 0; last = p.last; held = h; inside = p.inside; short = p.short; few = f; words = p.line-words };
      few-lines = p.few-lines;
      shallow = p.shallow;
      ample = omega arith;
      behind = omega arith;
      first-lines = omega arith;
    }

pub returns : goal.returns
returns c =
    λ x z h pl l n.
    let p = c.requires in
    let hx = rw l at h in
    let fx : length x.names ≤ 2 ^ nameBits = omega arith in
    let hp = rw p.lines at p.held in
    let fp : length p.tree.names ≤ 2 ^ nameBits = omega arith in
    let e = c.head_costs.ensures _ _ _ _ _ p.short fp hp in
    let d = c.codegen_from_lines-r.ensures _ _ _ _ fp hp in
    let o = owns-most p.tree.lines in
    rw (c.from.ensures, c.from-2.ensures, c.from-3.ensures, c.from-4.ensures, c.from-5.ensures) (laid _ x l n (c.head_costs.ensures _ _ _ _ _ p.short fx hx) refl refl refl refl (c.codegen_from_lines-r.ensures _ _ _ _ fx hx) c.clear_names.ensures (λ vs k q. c.protect_names.ensures x.names vs _ pl n k q) (omega arith))
