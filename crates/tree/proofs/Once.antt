-- Lines that the tables hold from one line and node to the same line are the same: a table holds at most one tree. Assumes nothing.
use mathlib.Core.Path.{◌≡◌, refl, sym, ◌∙◌}
use mathlib.Core.List.{List, ◌∷◌}
use Prim.Native.Nat.{ℕ, ◌≤◌, ◌<◌, ◌^◌}
use native.Mathlib.Omega.{arith}
use lib.ListN.{length}
use Rattle.rules.specs.Constants.{mostBytes, nameBits, listBits}
use Rattle.rules.specs.Tree.{Block}
use Rattle.nodes.proofs.Once.{Same, begin-at, one-b}
use Rattle.tree.specs.Files.{lineWord, HoldsL, no-line, a-line}

lines-le : {t ls s : List ℕ} {m k i k' j : ℕ} {xs : List Block} → HoldsL t ls s m k i xs k' j → k ≤ k'
lines-le (no-line p q) = omega arith
lines-le (a-line n f w b p l) = let h = lines-le l in omega arith

line-same : (n n' i g : ℕ) → n < 2 ^ listBits → n' < 2 ^ listBits → g ≡ lineWord n i → g ≡ lineWord n' i → n ≡ n'
unfolding lineWord
line-same n n' i g a b e f = omega arith

lines-at : {t ls s : List ℕ} {m k h i i' k' j : ℕ} {xs : List Block} → k ≡ h → i ≡ i' → HoldsL t ls s m h i' xs k' j → HoldsL t ls s m k i xs k' j
lines-at p q l = rw (p, q) l

cons-same : (x x' : Block) (y y' : List Block) → x ≡ x' → y ≡ y' → (x ∷ y) ≡ (x' ∷ y')
cons-same x x' y y' p q = rw (p, q)

pub one-lines : {t ls s : List ℕ} {m k i k' j j' : ℕ} {xs ys : List Block} → length s ≤ mostBytes → m ≤ 2 ^ nameBits → HoldsL t ls s m k i xs k' j → HoldsL t ls s m k i ys k' j' → Same xs ys j j'
one-lines a c (no-line p q) (no-line p' q') = record { tree = refl; last = sym q ∙ q' }
one-lines a c (no-line p q) (a-line n f w b z l) = absurd (let h = lines-le l in omega arith)
one-lines a c (a-line n f w b z l) (no-line p q) = absurd (let h = lines-le l in omega arith)
one-lines a c (a-line n f w b z l) (a-line n' f' w' b' z' l') =
    let x = one-b a c b (begin-at (line-same n n' _ _ f f' w w') refl b') in
    let y = one-lines a c l (lines-at (z ∙ sym z') x.last l') in
    record { tree = cons-same _ _ _ _ x.tree y.tree; last = y.last }
