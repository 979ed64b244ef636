-- The kind says which reader `leafR` is.
use Rattle.nodes.specs.Builds.{leafR}
use Rattle.nodes.proofs.Built.{incdec-leaf, leaf-other}
use Rattle.nodes.proofs.leaf.Goals as goal

pub returns-in-Incdec : goal.returns-in-Incdec
unfolding leafR
returns-in-Incdec c = rw c.in-Incdec.is (incdec-leaf _ _ c.flagged.ensures)

pub returns-in-Ident : goal.returns-in-Ident
unfolding leafR
returns-in-Ident c = rw c.in-Ident.is c.ident.ensures

pub returns-in-Number : goal.returns-in-Number
unfolding leafR
returns-in-Number c = rw c.in-Number.is c.number.ensures

pub returns-in-String : goal.returns-in-String
unfolding leafR
returns-in-String c = rw c.in-String.is c.string.ensures

pub returns-in_default : goal.returns-in_default
returns-in_default c = record { here = leaf-other _ _ c.in_default.not-Incdec c.in_default.not-Ident c.in_default.not-Number c.in_default.not-String }
