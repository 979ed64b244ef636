-- The names that are left decide, and lie in the file.
use Rattle.std.proofs.Common.{◌≡◌, ◌≤◌, ◌-◌, ◌*◌, length}
use Rattle.rules.specs.Constants.{byteBits}
use Rattle.rules.specs.Parse.{known as knownS}
use Rattle.names.specs.Names.{nameAt, namesAt, endAt}
use Rattle.names.proofs.known.Given as goal

abbrev pub invariant-loop : goal.invariant-loop
invariant-loop l = (knownS (nameAt l.s l.p) (namesAt l.s (l.k - l.counter) l.q) ≡ knownS (nameAt l.s l.p) (namesAt l.s l.k l.start)) × (endAt l.s (l.k - l.counter) l.q ≤ byteBits * length l.s)
