-- Values that fit a layout of fields, and the fields of a word. Packing is pack of Word; proofs/Pack shows it and unpacking inverse.
use Rattle.std.specs.Prelude.{List, [], ◌∷◌, ℕ, ◌/◌, ◌%◌, ◌^◌, ◌<◌}
use Rattle.rules.specs.Word.{width}

-- each value lies below 2 ^ its width, and there are no more values than widths
abbrev pub Small : List ℕ → List ℕ → Type 0
Small ws [] = Unit {0}
Small [] (v ∷ vs) = ⊥
Small (w ∷ ws) (v ∷ vs) = (v < 2 ^ w) × Small ws vs

-- all the fields of a word
abbrev pub fields : List ℕ → ℕ → List ℕ
fields [] n = []
fields (w ∷ ws) n = n / 2 ^ width ws % 2 ^ w ∷ fields ws n
