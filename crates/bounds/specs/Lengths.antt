-- How many sections lowering makes of a list and of lines, and how many strings there are. Assumes nothing.
use Rattle.std.specs.Prelude.{◌≡◌, Bool, false, ℕ, suc, ◌+◌, ◌<◌, length, eqb}
use Rattle.std.proofs.Math.Path.{refl, ap}
use Rattle.std.proofs.Common.{arith, length-append}
use Rattle.std.proofs.Math.Bool.{true}
use mathlib.Core.List.{List, [], ◌∷◌, ◌++◌}
use Rattle.std.proofs.lemmas.Bool.{eqb-false}
use Rattle.rules.specs.Machine.{SectionCode}
use Rattle.rules.specs.Script.{Stmts, nil, plain, goto, ite, Script}
use Rattle.rules.specs.Assemble.{nextLine, orOne, sectionsMade, entry, link, inner, orEmpty, stmtSections, tailOf, heads}

pub length-orEmpty : (s : Stmts) (k : ℕ) (l : List SectionCode) → length l ≡ sectionsMade s → length (orEmpty s k l) ≡ orOne s (sectionsMade s)
length-orEmpty nil k l h = refl
length-orEmpty (plain o s) k l h = h
length-orEmpty (goto o r s) k l h = h
length-orEmpty (ite o c t f s) k l h = h

pub length-low : (b : Bool) (e n k : ℕ) (s : Stmts) → length (stmtSections b e n k s) ≡ sectionsMade s
length-low b e n k nil = refl
length-low b e n k (plain o s) = ap suc (length-low b e (suc n) k s)
length-low b e n k (goto o r s) = ap suc (length-low false e (suc n) k s)
length-low b e n k (ite o c t f s) =
    let nf = suc n + orOne t (sectionsMade t) in
    let nj = nf + orOne f (sectionsMade f) in
    let lt = stmtSections true e (suc n) nj t in
    let lf = stmtSections true e nf nj f in
    let ls = stmtSections b e (suc nj) k s in
    let j = inner [] (link b (entry s (suc nj) k)) in
    omega (
      arith,
      length-append (orEmpty t nj lt) (orEmpty f nj lf ++ (j ∷ ls)),
      length-append (orEmpty f nj lf) (j ∷ ls),
      length-orEmpty t nj lt (length-low true e (suc n) nj t),
      length-orEmpty f nj lf (length-low true e nf nj f),
      length-low b e (suc nj) k s,
    )

pub heads-length : (L i n : ℕ) (ts : Script) → length (heads L i n ts) ≡ length ts
heads-length L i n [] = refl
heads-length L i n (s ∷ ts) = ap suc (heads-length L (suc i) (n + sectionsMade s) ts)

pub length-tailOf : (l : List SectionCode) → length (tailOf l) ≡ length l
length-tailOf [] = refl
length-tailOf (s ∷ l) = refl

pub nextLine-lt : (L i : ℕ) → i < L → nextLine L i < L
nextLine-lt L i h = go (eqb (suc i) L) refl
  where
    go : (b : Bool) → eqb (suc i) L ≡ b → nextLine L i < L
    go true q = rw q (omega arith)
    go false q = rw q (omega (arith, eqb-false (suc i) L q))
