-- A walk over the counted words of a table: what the words from i on answer, by word i. Assumes nothing.
use mathlib.Core.Path.{◌≡◌, refl}
use mathlib.Core.Bool.{Bool, true, false, cond, ◌&&◌}
use mathlib.Core.List.{List, [], ◌∷◌}
use Prim.Native.Nat.{ℕ, suc, ◌+◌, ◌<◌, ◌≤◌}
use native.Mathlib.Numerals.{add-one}
use lib.Dec.{eqb}
use lib.ListN.{length, drop, get_or}
use Rattle.std.proofs.Math.ListN.{drop_of_length-le}
use Rattle.std.proofs.lemmas.List.{drop_more}
use Rattle.std.specs.List.{list_all}
use Rattle.rules.specs.Tables.{Counts, allb, runsFit}
use Rattle.tables.specs.Rules.{sectionFits}
use Rattle.tables.specs.Runs.{countOf}
use Rattle.tables.proofs.Read.{runs-nil, runs-cons}

-- all, as the library has it
pub all_is : {A : Type 0} (p : A → Bool) (xs : List A) → list_all p xs ≡ allb p xs
unfolding allb
all_is p [] = refl
all_is p (x ∷ xs) = by (p x) (all_is p xs)
  where
    by : (b : Bool) → list_all p xs ≡ allb p xs → (b && list_all p xs) ≡ elim b [ false ↦ false | true ↦ allb p xs ]
    by true e = e
    by false e = refl

-- sections, with the instruction k at which the next run begins
module _ (u : Counts) (ws : List ℕ) (i k : ℕ) where
  pub runs_done : length ws ≤ i → runsFit u i k (drop i ws) ≡ eqb k u.instrs
  runs_done h = rw (drop_of_length-le ws h) (runs-nil u i k)

  pub runs_at : i < length ws → runsFit u i k (drop i ws) ≡ cond (sectionFits u i k (get_or ws i 0)) (runsFit u (i + 1) (k + countOf (get_or ws i 0)) (drop (i + 1) ws)) false
  runs_at h = rw (drop_more ws i 0 h, add-one) (runs-cons u i k (get_or ws i 0) (drop (suc i) ws) _ refl)
