-- The register's word says where its characters begin, and they are copied to there.
use Rattle.std.proofs.Common.{arith, sym}
use Rattle.codegen.proofs.Laws.{str-does}
use Rattle.nodes.proofs.Built.{chars-length}
use Rattle.exprs.proofs.Texts.{part-length, part-set}
use Rattle.exprs.proofs.leaves.new_str.Goals as goal

pub copy_text-requires : goal.copy_text-requires
copy_text-requires c = rw (part-length c.args.pool.now c.from-start.result c.from-2.result (omega arith), c.from-2.ensures) c.requires.0

pub returns-clause-does : goal.returns-clause-does
returns-clause-does c =
    let r = c.new_strreg-t.ensures in
    let l = chars-length c.args.s.now c.args.n c.args.p in
    let t = rw (part-length c.args.pool.now c.from-start.result c.from-2.result (omega arith), c.from-2.ensures) at c.copy_text.ensures in
    record {
      does = str-does _ r.0 r.1 c.from.ensures (sym l) c.pack-w.ensures
          (part-set c.args.pool.now _ _ _ _ _ c.from-start.ensures (omega arith) t (omega arith));
    }
