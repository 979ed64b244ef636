-- The number of each kind of node.
use Rattle.std.specs.Prelude.{Result, Ok, Err, ◌≡◌, ◌<◌, ◌⊎◌, ℕ}
use Rattle.params.specs.declared.refusal.Refusal.{Refusal}
use Rattle.params.specs.declared.refusal.Refusal.TheVariants.{Unassigned}
use Rattle.nodes.specs.Words.{binopKind, unopKind, incdecKind, identKind, numberKind, stringKind, gotoKind, iteKind, stepKind, assignKind}
use Rattle.nodes.specs.declared.kinds.NodeKind.{NodeKind}
use Rattle.nodes.specs.declared.kinds.NodeKind.TheVariants.{Binop, Unop, Incdec, Ident, Number, String, Goto, Ite, Step, Assign}

abbrev pub kindTold : NodeKind → ℕ
kindTold Binop = binopKind
kindTold Unop = unopKind
kindTold Incdec = incdecKind
kindTold Ident = identKind
kindTold Number = numberKind
kindTold String = stringKind
kindTold Goto = gotoKind
kindTold Ite = iteKind
kindTold Step = stepKind
kindTold Assign = assignKind

-- no kind has this number
pub record NoKind (k : ℕ) : Type 0 where
  pub expressions : stringKind < k
  pub statements : (k < gotoKind) ⊎ (assignKind < k)

-- what a number says: the kind whose number it is, or that it is unassigned
abbrev pub KindOf : ℕ → Result NodeKind Refusal → Type 0
KindOf k (Ok x) = kindTold x ≡ k
KindOf k (Err e) = (e ≡ Unassigned) × NoKind k
