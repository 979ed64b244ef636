-- Each number is a part that is left.
use Rattle.text.proofs.Writes.{whole, begin, part, write, room, done}
use Rattle.text.proofs.Parts.{nums-more, nums-none}
use Rattle.text.proofs.Writer.put_nums.Goals as goal

pub loop-v-init : goal.loop-v-init
loop-v-init c = begin c.args.self.now whole

pub put_num-requires : goal.put_num-requires
put_num-requires c = room (part (nums-more _ _ c.loop-v-test.true) c.loop-v.invariant) c.requires

pub loop-v-preserved : goal.loop-v-preserved
loop-v-preserved c = write (part (nums-more _ _ c.loop-v-test.true) c.loop-v.invariant) c.put_num.ensures

pub returns : goal.returns
returns c = done (part (nums-none _ _ c.loop-v-test.false c.loop-v.auto.v-index-end) c.loop-v.invariant)
