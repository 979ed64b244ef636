-- A lowered machine passes cleaning's test (13 never occurs), a cleaned one combining's first (14).
use Rattle.std.specs.Prelude.{◌≡◌, refl, Bool, true, false, cond, ◌&&◌, ℕ, suc, ◌+◌, ◌<◌, get_or, take}
use Rattle.std.proofs.Common.{sym, ap, ap₂, ◌∙◌, arith, length-take, get_or-take}
use Rattle.std.proofs.Math.Path.{subst}
use mathlib.Core.List.{List, [], ◌∷◌, ◌++◌}
use Rattle.std.proofs.Math.ListN.{length}
use Rattle.rules.specs.Instr.{Instruction, isJump}
use Rattle.rules.specs.Machine.{SectionCode, absent, isFixed}
use Rattle.rules.specs.Script.{Stmts, nil, plain, goto, ite, Script}
use Rattle.rules.specs.Assemble.{nextLine, orOne, sectionsMade, ownCode, entry, link, condCode, inner, orEmpty, stmtSections, headOf, tailOf, lineSections, heads, tails, sectionsOf}
use Rattle.rules.specs.Tables.{allb}
use Rattle.rules.specs.Operations.{fixedHere, jumpFixed, jumpsFixed}
use Rattle.rules.specs.Preservation.{All}
use Rattle.bounds.specs.Lengths.{length-low, length-orEmpty, nextLine-lt}
use Rattle.machines.specs.Lowered.{Stands, fits-cast, fits-left, fits-right, base, line-fits, at-head, fits-tail, lower-fixed}
use Rattle.joins.specs.Along.{Fixed}
use Rattle.laws.specs.Lists.{all-append, all-true, all-of}

-- ---- 14: no section is unfixed

pub all-fixed : (m : List SectionCode) → Fixed m → allb fixedHere m ≡ true
unfolding allb fixedHere
all-fixed [] h = refl
all-fixed (s ∷ m) h = ap (λ (b : Bool). elim b as (λ z. Bool) [ false ↦ false | true ↦ allb fixedHere m ]) h.0 ∙ all-fixed m h.1

-- ---- 13: the lines' first sections are fixed, and so is what a jump leads to

abbrev pub FixedAt : List SectionCode → ℕ → Type 0
FixedAt m t = isFixed (get_or m t absent).success ≡ true

abbrev pub JumpFixed : List SectionCode → Instruction → Type 0
JumpFixed m i = isJump i ≡ true → FixedAt m i.fst

abbrev pub JumpsFixed : List SectionCode → SectionCode → Type 0
JumpsFixed m s = All (JumpFixed m) s.instrs

module _ (m : List SectionCode) (e : ℕ) (he : FixedAt m e) where
  own-fixed : (o : List Instruction) → All (JumpFixed m) (ownCode e o)
  own-fixed [] = tt
  own-fixed (i ∷ o) = (λ q. subst (λ (b : Bool). FixedAt m (cond b e i.fst)) (sym q) he, own-fixed o)

  -- The first section of a linked list that is not empty is fixed.
  cond-fixed : (t : Stmts) (c n k : ℕ) → Stands m n n (orEmpty t k (stmtSections true e n k t)) → All (JumpFixed m) (condCode t c n)
  cond-fixed nil c n k f = tt
  cond-fixed (plain o s) c n k f = (λ q. ap isFixed f.0.1, tt)
  cond-fixed (goto o r s) c n k f = (λ q. ap isFixed f.0.1, tt)
  cond-fixed (ite o d t u s) c n k f = (λ q. ap isFixed f.0.1, tt)

  abbrev J : SectionCode → Type 0
  J s = JumpsFixed m s

  abbrev LowJumps : Stmts → Type 0
  LowJumps s = (b : Bool) (p n k : ℕ) → Stands m p n (stmtSections b e n k s) → All J (stmtSections b e n k s)

  part-jumps : (s : Stmts) → LowJumps s → (n k : ℕ) → Stands m n n (orEmpty s k (stmtSections true e n k s)) → All J (orEmpty s k (stmtSections true e n k s))
  part-jumps nil h n k f = (tt, tt)
  part-jumps (plain o s) h n k f = h true n n k f
  part-jumps (goto o r s) h n k f = h true n n k f
  part-jumps (ite o c t u s) h n k f = h true n n k f

  ite-jumps : (o : List Instruction) (c : ℕ) (t u s : Stmts) → LowJumps t → LowJumps u → LowJumps s → LowJumps (ite o c t u s)
  ite-jumps o c t u s ht hu hs b p n k f =
      let nf = suc n + orOne t (sectionsMade t) in
      let nj = nf + orOne u (sectionsMade u) in
      let A = orEmpty t nj (stmtSections true e (suc n) nj t) in
      let B = orEmpty u nj (stmtSections true e nf nj u) in
      let C = inner [] (link b (entry s (suc nj) k)) ∷ stmtSections b e (suc nj) k s in
      let lA : length A ≡ orOne t (sectionsMade t) = length-orEmpty t nj (stmtSections true e (suc n) nj t) (length-low true e (suc n) nj t) in
      let lB : length B ≡ orOne u (sectionsMade u) = length-orEmpty u nj (stmtSections true e nf nj u) (length-low true e nf nj u) in
      let fA : Stands m (suc n) (suc n) A = fits-left m (suc n) A (B ++ C) f.1 in
      let fBC : Stands m nf nf (B ++ C) = fits-cast m (suc n + length A) nf (B ++ C) (omega arith) (fits-right m (suc n) A (B ++ C) f.1) in
      let fB : Stands m nf nf B = fits-left m nf B C fBC in
      let fC : Stands m nj nj C = fits-cast m (nf + length B) nj C (omega arith) (fits-right m nf B C fBC) in
      (all-append (JumpFixed m) (ownCode e o) (condCode t c (suc n)) (own-fixed o) (cond-fixed t c (suc n) nj fA), all-append J A (B ++ C) (part-jumps t ht (suc n) nj fA) (all-append J B C (part-jumps u hu nf nj fB) (tt, hs b (suc nj) (suc nj) k fC.1)))

  low-jumps : (s : Stmts) → LowJumps s
  low-jumps nil = λ b p n k f. tt
  low-jumps (plain o s) = λ b p n k f. (own-fixed o, low-jumps s b (suc n) (suc n) k f.1)
  low-jumps (goto o r s) = λ b p n k f. (own-fixed o, low-jumps s false (suc n) (suc n) k f.1)
  low-jumps (ite o c t u s) = ite-jumps o c t u s (low-jumps t) (low-jumps u) (low-jumps s)

module _ (m : List SectionCode) (L : ℕ) where
  abbrev Line : ℕ → ℕ → Stmts → Type 0
  Line i n s = All (JumpsFixed m) (lineSections L i n s)

  head-jumps : (e : ℕ) (l : List SectionCode) → All (JumpsFixed m) l → JumpsFixed m (headOf e l)
  head-jumps e [] h = tt
  head-jumps e (s ∷ l) h = h.0

  tail-jumps : (l : List SectionCode) → All (JumpsFixed m) l → All (JumpsFixed m) (tailOf l)
  tail-jumps [] h = tt
  tail-jumps (s ∷ l) h = (tt, h.1)

  heads-jumps : (i n : ℕ) (t : Script) → ((u : ℕ) → u < length t → Line (i + u) (base n t u) (get_or t u nil)) → All (JumpsFixed m) (heads L i n t)
  unfolding base
  heads-jumps i n [] h = tt
  heads-jumps i n (s ∷ t) h =
      (head-jumps (nextLine L i) (lineSections L i n s) (subst (λ (k : ℕ). Line k n s) (omega arith) (h 0 (omega arith))), heads-jumps (suc i) (n + sectionsMade s) t (λ u p. subst (λ (k : ℕ). Line k (base (n + sectionsMade s) t u) (get_or t u nil)) (omega arith) (h (suc u) (omega arith))))

  tails-jumps : (i n : ℕ) (t : Script) → ((u : ℕ) → u < length t → Line (i + u) (base n t u) (get_or t u nil)) → All (JumpsFixed m) (tails L i n t)
  unfolding base
  tails-jumps i n [] h = tt
  tails-jumps i n (s ∷ t) h =
      all-append (JumpsFixed m)
      (tailOf (lineSections L i n s))
      (tails L (suc i) (n + sectionsMade s) t)
      (tail-jumps (lineSections L i n s) (subst (λ (k : ℕ). Line k n s) (omega arith) (h 0 (omega arith))))
      (tails-jumps (suc i) (n + sectionsMade s) t (λ u p. subst (λ (k : ℕ). Line k (base (n + sectionsMade s) t u) (get_or t u nil)) (omega arith) (h (suc u) (omega arith))))

module _ (t : Script) (pos : 0 < length t) where
  line-jumps : (u : ℕ) → u < length t → Line (sectionsOf t) (length t) u (base (length t) t u) (get_or t u nil)
  line-jumps u h =
      let L = length t in
      let m = sectionsOf t in
      let e = nextLine L u in
      let n = base L t u in
      low-jumps m e (lower-fixed t pos e (nextLine-lt L u h)) (get_or t u nil) true u n e (line-fits m L (lineSections L u n (get_or t u nil)) e u n (at-head t pos u h) (fits-tail t pos u h))

  lower-jumps : All (JumpsFixed (sectionsOf t)) (sectionsOf t)
  unfolding sectionsOf
  lower-jumps =
      let L = length t in
      let m = sectionsOf t in
      let lines : (u : ℕ) → u < length t → Line m L (0 + u) (base L t u) (get_or t u nil) = λ u p. subst (λ (k : ℕ). Line m L k (base L t u) (get_or t u nil)) (omega arith) (line-jumps u p) in
      all-append (JumpsFixed m) (heads L 0 L t) (tails L 0 L t) (heads-jumps m L 0 L t lines) (tails-jumps m L 0 L t lines)

-- As tests.
jump-test : (m : List SectionCode) (i : Instruction) → JumpFixed m i → jumpFixed m i ≡ true
unfolding jumpFixed
jump-test m i h = go (isJump i) refl
  where
    go : (b : Bool) → isJump i ≡ b → elim b as (λ z. Bool) [ true ↦ isFixed (get_or m i.fst absent).success | false ↦ true ] ≡ true
    go true e = h e
    go false e = refl

code-test : (m : List SectionCode) (c : List Instruction) → All (JumpFixed m) c → All (λ i. jumpFixed m i ≡ true) c
code-test m [] h = tt
code-test m (i ∷ c) h = (jump-test m i h.0, code-test m c h.1)

pub sects-test : (m l : List SectionCode) → All (JumpsFixed m) l → All (λ s. jumpsFixed m s ≡ true) l
unfolding jumpsFixed
sects-test m [] h = tt
sects-test m (s ∷ l) h = (all-true (jumpFixed m) s.instrs (code-test m s.instrs h.0), sects-test m l h.1)

pub clean-test : (t : Script) → 0 < length t → (allb fixedHere (take (length t) (sectionsOf t)) && allb (jumpsFixed (sectionsOf t)) (sectionsOf t)) ≡ true
unfolding fixedHere
clean-test t pos =
    let m = sectionsOf t in
    let L = length t in
    ap₂
    (λ (a b : Bool). a && b)
    (all-true fixedHere (take L m) (all-of (λ s. fixedHere s ≡ true) absent (take L m) (λ u p. let q : u < L = omega (arith, length-take L m) in ap (λ (s : SectionCode). isFixed s.success) (get_or-take L m u absent q) ∙ lower-fixed t pos u q)))
    (all-true (jumpsFixed m) m (sects-test m m (lower-jumps t pos)))
