-- Words stored at places that only rise.
use Rattle.std.specs.Prelude.{◌≡◌, List, ℕ, ◌+◌, ◌≤◌, length}
use Rattle.std.proofs.lemmas.List.Edits.{sets}
use Rattle.combine.specs.declared.store.Places.{Places}

-- room for words from the next place on
abbrev pub HasRoom : Places → List ℕ → Type 0
HasRoom p ws = p.next + length ws ≤ length p.table.now

-- they are stored there, one behind the other, in the same table; the next place is the one behind them
pub record Stores (p p' : Places) (ws : List ℕ) : Type 0 where
  pub same_reference : p'.table.ghost_name ≡ p.table.ghost_name
  pub words : p'.table.now ≡ sets p.table.now p.next ws
  pub next : p'.next ≡ p.next + length ws
