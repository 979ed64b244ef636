-- Runs of stores: one behind another is one.
use Rattle.std.specs.Prelude.{◌≡◌, refl, List, [], ◌∷◌, ◌++◌, ℕ, suc, ◌+◌, length, set}
use Rattle.std.proofs.Common.{add-zero, add-suc, suc-add}
use Rattle.std.proofs.lemmas.List.Edits.{sets}

pub sets-sets : {A : Type 0} (vs : List A) (l : List A) (i : ℕ) (ws : List A) → sets (sets l i vs) (i + length vs) ws ≡ sets l i (vs ++ ws)
sets-sets [] l i ws = rw add-zero refl
sets-sets (v ∷ vs) l i ws = rw (add-suc, ← suc-add) (sets-sets vs (set l i v) (suc i) ws)
