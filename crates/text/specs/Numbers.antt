-- Numbers as text.
use Rattle.std.specs.Prelude.{List, [], ◌∷◌, ◌++◌, ℕ}
use Rattle.rules.specs.Listing.{nat}

-- numbers, each with its blank
unfoldable pub nums : List ℕ → List ℕ
nums [] = []
nums (v ∷ vs) = nat v ++ nums vs
