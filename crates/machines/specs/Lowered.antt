-- Where the sections of a list and of a line stand in the lowered machine, and that the lines' first ones are fixed and start lines.
use Rattle.std.specs.Prelude.{◌≡◌, ℕ, zero, suc, ◌+◌, ◌<◌, length}
use Rattle.std.proofs.Math.Path.{refl, ap, subst}
use Rattle.std.proofs.Common.{sym, ◌∙◌, le_of_suc-le-suc, not-suc-le-zero, arith}
use Rattle.std.proofs.Math.Bool.{true}
use mathlib.Core.List.{List, [], ◌∷◌, ◌++◌}
use Rattle.std.proofs.Math.ListN.{get_or, get_or-append}
use Rattle.std.proofs.Math.Seq.{get_or-append-add}
use Rattle.bounds.specs.Lengths.{length-low, heads-length, length-tailOf}
use Rattle.rules.specs.Machine.{SectionCode, absent, isFixed}
use Rattle.rules.specs.Script.{Stmts, nil, plain, goto, ite, Script}
use Rattle.rules.specs.Assemble.{nextLine, sectionsMade, stmtSections, headOf, tailOf, lineSections, heads, tails, sectionsOf}

-- ---- sections found in a machine: the first at p, the others from n + 1 on

abbrev pub SameAs : SectionCode → SectionCode → Type 0
SameAs a b = (a.instrs ≡ b.instrs) × (a.success ≡ b.success)

abbrev pub Stands : List SectionCode → ℕ → ℕ → List SectionCode → Type 0
Stands m p n [] = Unit {0}
Stands m p n (s ∷ ss) = SameAs (get_or m p absent) s × Stands m (suc n) (suc n) ss

pub fits-cast : (m : List SectionCode) (n n' : ℕ) (l : List SectionCode) → n ≡ n' → Stands m n n l → Stands m n' n' l
fits-cast m n n' l e f = subst (λ (k : ℕ). Stands m k k l) e f

pub fits-left : (m : List SectionCode) (n : ℕ) (a b : List SectionCode) → Stands m n n (a ++ b) → Stands m n n a
fits-left m n [] b f = tt
fits-left m n (s ∷ a) b f = (f.0, fits-left m (suc n) a b f.1)

pub fits-right : (m : List SectionCode) (n : ℕ) (a b : List SectionCode) → Stands m n n (a ++ b) → Stands m (n + length a) (n + length a) b
fits-right m n [] b f = fits-cast m n (n + 0) b (omega arith) f
fits-right m n (s ∷ a) b f = fits-cast m (suc n + length a) (n + suc (length a)) b (omega arith) (fits-right m (suc n) a b f.1)

fits-at : (m : List SectionCode) (n : ℕ) (b : List SectionCode) → ((u : ℕ) → get_or m (n + u) absent ≡ get_or b u absent) → Stands m n n b
fits-at m n [] h = tt
fits-at m n (s ∷ b) h =
    let e : get_or m n absent ≡ s = ap (λ (k : ℕ). get_or m k absent) (omega arith) ∙ h 0 in
    ((ap (λ (z : SectionCode). z.instrs) e, ap (λ (z : SectionCode). z.success) e), fits-at m (suc n) b (λ u. ap (λ (k : ℕ). get_or m k absent) (omega arith) ∙ h (suc u)))

-- The number of the first section that is made for line u of ts, if the next to be made is n.
unfoldable pub base : ℕ → Script → ℕ → ℕ
base n [] u = n
base n (s ∷ ss) zero = n
base n (s ∷ ss) (suc u) = base (n + sectionsMade s) ss u

heads-at : (L i n : ℕ) (ts : Script) (u : ℕ) → u < length ts
    → get_or (heads L i n ts) u absent ≡ headOf (nextLine L (i + u)) (lineSections L (i + u) (base n ts u) (get_or ts u nil))
unfolding base
heads-at L i n [] u h = absurd (not-suc-le-zero h)
heads-at L i n (s ∷ ts) zero h = ap (λ (k : ℕ). headOf (nextLine L k) (lineSections L k n s)) (omega arith)
heads-at L i n (s ∷ ts) (suc u) h =
    heads-at L (suc i) (n + sectionsMade s) ts u (le_of_suc-le-suc h)
    ∙ ap (λ (k : ℕ). headOf (nextLine L k) (lineSections L k (base (n + sectionsMade s) ts u) (get_or ts u nil))) (omega arith)

tails-at : (m : List SectionCode) (L i n : ℕ) (ts : Script) → Stands m n n (tails L i n ts) → (u : ℕ) → u < length ts
    → Stands m (base n ts u) (base n ts u) (tailOf (lineSections L (i + u) (base n ts u) (get_or ts u nil)))
unfolding base
tails-at m L i n [] f u h = absurd (not-suc-le-zero h)
tails-at m L i n (s ∷ ts) f zero h =
    subst (λ (k : ℕ). Stands m n n (tailOf (lineSections L k n s))) (omega arith) (fits-left m n (tailOf (lineSections L i n s)) (tails L (suc i) (n + sectionsMade s) ts) f)
tails-at m L i n (s ∷ ts) f (suc u) h =
    let l = lineSections L i n s in
    let g = fits-right m n (tailOf l) (tails L (suc i) (n + sectionsMade s) ts) f in
    let g' = fits-cast m (n + length (tailOf l)) (n + sectionsMade s) (tails L (suc i) (n + sectionsMade s) ts) (omega (arith, length-tailOf l, length-low true (nextLine L i) n (nextLine L i) s)) g in
    subst
    (λ (k : ℕ). Stands m (base (n + sectionsMade s) ts u) (base (n + sectionsMade s) ts u) (tailOf (lineSections L k (base (n + sectionsMade s) ts u) (get_or ts u nil))))
    (omega arith)
    (tails-at m L (suc i) (n + sectionsMade s) ts g' u (le_of_suc-le-suc h))

module _ (m : List SectionCode) (L : ℕ) where
  pub line-fits : (l : List SectionCode) (e u b : ℕ) → get_or m u absent ≡ headOf e l → Stands m b b (tailOf l) → Stands m u b l
  line-fits [] e u b h f = tt
  line-fits (s ∷ l) e u b h f = ((ap (λ (z : SectionCode). z.instrs) h, ap (λ (z : SectionCode). z.success) h), f.1)

pub head-fixed : (e b : ℕ) (s : Stmts) → isFixed (headOf e (stmtSections true e b e s)).success ≡ true
head-fixed e b nil = refl
head-fixed e b (plain o s) = refl
head-fixed e b (goto o r s) = refl
head-fixed e b (ite o c u v s) = refl

module _ (t : Script) (pos : 0 < length t) where
  abbrev L : ℕ
  L = length t

  pub at-head : (u : ℕ) → u < length t → get_or (sectionsOf t) u absent ≡ headOf (nextLine L u) (lineSections L u (base L t u) (get_or t u nil))
  unfolding sectionsOf
  at-head u h =
      get_or-append (heads L 0 L t) (tails L 0 L t) absent u (rw (heads-length L 0 L t) h)
      ∙ (heads-at L 0 L t u h ∙ ap (λ (k : ℕ). headOf (nextLine L k) (lineSections L k (base L t u) (get_or t u nil))) (omega arith))

  fits-tails : Stands (sectionsOf t) L L (tails L 0 L t)
  unfolding sectionsOf
  fits-tails =
      fits-at
      (sectionsOf t)
      L
      (tails L 0 L t)
      (λ u. ap (λ (n : ℕ). get_or (sectionsOf t) (n + u) absent) (sym (heads-length L 0 L t)) ∙ get_or-append-add (heads L 0 L t) (tails L 0 L t) u absent)

  pub fits-tail : (u : ℕ) → u < length t → Stands (sectionsOf t) (base L t u) (base L t u) (tailOf (lineSections L u (base L t u) (get_or t u nil)))
  fits-tail u h =
      subst
      (λ (k : ℕ). Stands (sectionsOf t) (base L t u) (base L t u) (tailOf (lineSections L k (base L t u) (get_or t u nil))))
      (omega arith)
      (tails-at (sectionsOf t) L 0 L t fits-tails u h)

  head-start : (e : ℕ) (l : List SectionCode) → (headOf e l).lineStart ≡ true
  head-start e [] = refl
  head-start e (s ∷ l) = refl

  pub lower-fixed : (u : ℕ) → u < length t → isFixed (get_or (sectionsOf t) u absent).success ≡ true
  lower-fixed u h = ap (λ (z : SectionCode). isFixed z.success) (at-head u h) ∙ head-fixed (nextLine L u) (base L t u) (get_or t u nil)

  pub lower-starts : (u : ℕ) → u < length t → (get_or (sectionsOf t) u absent).lineStart ≡ true
  lower-starts u h = ap (λ (z : SectionCode). z.lineStart) (at-head u h) ∙ head-start (nextLine L u) (lineSections L u (base L t u) (get_or t u nil))
