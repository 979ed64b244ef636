-- Heads are written by their chains in the machine that the words and the copy hold.
use Rattle.combine.specs.Held.{allHeld}
use Rattle.combine.proofs.collect.gather.Given as goal

abbrev pub ghost-write_heads : goal.ghost-write_heads
ghost-write_heads a = allHeld a.sections.now a.code.now
