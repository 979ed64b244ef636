-- Every jump and successor of a script's machine leads to a section that is there; which sections start lines.
use Rattle.std.specs.Prelude.{◌≡◌, refl, Bool, true, false, cond, List, [], ◌∷◌, ◌++◌, map, ℕ, zero, suc, pred, ◌+◌, ◌≤◌, ◌<◌, length, take}
use Rattle.std.proofs.Common.{sym, subst, arith}
use Rattle.std.proofs.lemmas.List.{length-map}
use Rattle.rules.specs.Instr.{Instruction, isJump, aimed}
use Rattle.rules.specs.Machine.{SectionOrLine, unfixed, section, line, SectionCode, isFixed}
use Rattle.rules.specs.Script.{Stmts, nil, plain, goto, ite, Script}
use Rattle.rules.specs.Assemble.{nextLine, orOne, sectionsMade, ownCode, entry, link, condCode, inner, orEmpty, stmtSections, headOf, tailOf, lineSections, heads, tails, sectionsOf}
use Rattle.rules.specs.Clean.{renIns, renNext, ren, keep, rank, cleanSections}
use Rattle.rules.specs.Preservation.{All}
use Rattle.bounds.specs.Lengths.{nextLine-lt}
use Rattle.bounds.specs.Own.{sizes}
use Rattle.machines.specs.Fits.{loose}
use Rattle.laws.specs.Lists.{all-append}

abbrev pub JumpBelow : ℕ → Instruction → Type 0
JumpBelow n i = isJump i ≡ true → i.fst < n

abbrev pub NextBelow : ℕ → SectionOrLine → Type 0
NextBelow n unfixed = Unit {0}
NextBelow n (section t) = t < n
NextBelow n (line r) = Unit {0}

abbrev pub Aims : ℕ → SectionCode → Type 0
Aims n s = All (JumpBelow n) s.instrs × NextBelow n s.success

aimed-below : (n t : ℕ) (i : Instruction) → t < n → JumpBelow n (aimed t i)
aimed-below n t i h q = subst (λ (b : Bool). cond b t i.fst < n) (sym q) h

-- ---- lowered

module _ (N e : ℕ) (he : e < N) where
  own-aims : (o : List Instruction) → All (JumpBelow N) (ownCode e o)
  own-aims [] = tt
  own-aims (i ∷ o) = (aimed-below N e i he, own-aims o)

  link-aims : (b : Bool) (t : ℕ) → t < N → NextBelow N (link b t)
  link-aims true t h = h
  link-aims false t h = tt

  entry-below : (s : Stmts) (m k : ℕ) → k < N → m + sectionsMade s ≤ N → entry s m k < N
  entry-below nil m k p q = p
  entry-below (plain o s) m k p q = omega arith
  entry-below (goto o r s) m k p q = omega arith
  entry-below (ite o c t f s) m k p q = omega arith

  cond-aims : (t : Stmts) (c n : ℕ) → n < N → All (JumpBelow N) (condCode t c n)
  cond-aims nil c n h = tt
  cond-aims (plain o s) c n h = (λ q. h, tt)
  cond-aims (goto o r s) c n h = (λ q. h, tt)
  cond-aims (ite o k t f s) c n h = (λ q. h, tt)

  empty-aims : (s : Stmts) (k : ℕ) (l : List SectionCode) → k < N → All (Aims N) l → All (Aims N) (orEmpty s k l)
  empty-aims nil k l h p = ((tt, h), tt)
  empty-aims (plain o s) k l h p = p
  empty-aims (goto o r s) k l h p = p
  empty-aims (ite o c t f s) k l h p = p

  one-least : (s : Stmts) → sectionsMade s ≤ orOne s (sectionsMade s)
  one-least nil = omega arith
  one-least (plain o s) = omega arith
  one-least (goto o r s) = omega arith
  one-least (ite o c t f s) = omega arith

  low-aims : (b : Bool) (n k : ℕ) (s : Stmts) → k < N → n + sectionsMade s ≤ N → All (Aims N) (stmtSections b e n k s)
  low-aims b n k nil p q = tt
  low-aims b n k (plain o s) p q =
      ((own-aims o, link-aims b (entry s (suc n) k) (entry-below s (suc n) k p (omega arith))), low-aims b (suc n) k s p (omega arith))
  low-aims b n k (goto o r s) p q = ((own-aims o, tt), low-aims false (suc n) k s p (omega arith))
  low-aims b n k (ite o c t f s) p q =
      let nf = suc n + orOne t (sectionsMade t) in
      let nj = nf + orOne f (sectionsMade f) in
      let a = one-least t in
      let d = one-least f in
      let lt = stmtSections true e (suc n) nj t in
      let lf = stmtSections true e nf nj f in
      let r = inner [] (link b (entry s (suc nj) k)) ∷ stmtSections b e (suc nj) k s in (
        (all-append (JumpBelow N) (ownCode e o) (condCode t c (suc n)) (own-aims o) (cond-aims t c (suc n) (omega arith)), omega arith),
        all-append (Aims N)
            (orEmpty t nj lt)
            (orEmpty f nj lf ++ r)
            (empty-aims t nj lt (omega arith) (low-aims true (suc n) nj t (omega arith) (omega arith)))
            (
            all-append (Aims N)
            (orEmpty f nj lf)
            r
            (empty-aims f nj lf (omega arith) (low-aims true nf nj f (omega arith) (omega arith)))
            ((tt, link-aims b (entry s (suc nj) k) (entry-below s (suc nj) k p (omega arith))), low-aims b (suc nj) k s p (omega arith))
            ),
      )

  head-aims : (l : List SectionCode) → All (Aims N) l → Aims N (headOf e l)
  head-aims [] p = (tt, he)
  head-aims (s ∷ l) p = p.0

tail-aims : (N : ℕ) (l : List SectionCode) → All (Aims N) l → All (Aims N) (tailOf l)
tail-aims N [] p = tt
tail-aims N (s ∷ l) p = ((tt, tt), p.1)

module _ (N L : ℕ) (hL : L ≤ N) where
  heads-aim : (i n : ℕ) (t : Script) → i + length t ≤ L → n + sizes t ≤ N → All (Aims N) (heads L i n t)
  heads-aim i n [] h k = tt
  heads-aim i n (s ∷ t) h k =
      let e = nextLine L i in
      let he : e < N = omega (arith, nextLine-lt L i (omega arith)) in
      (head-aims N e he (lineSections L i n s) (low-aims N e he true n e s he (omega arith)), heads-aim (suc i) (n + sectionsMade s) t (omega arith) (omega arith))

  tails-aim : (i n : ℕ) (t : Script) → i + length t ≤ L → n + sizes t ≤ N → All (Aims N) (tails L i n t)
  tails-aim i n [] h k = tt
  tails-aim i n (s ∷ t) h k =
      let e = nextLine L i in
      let he : e < N = omega (arith, nextLine-lt L i (omega arith)) in
      all-append (Aims N)
      (tailOf (lineSections L i n s))
      (tails L (suc i) (n + sectionsMade s) t)
      (tail-aims N (lineSections L i n s) (low-aims N e he true n e s he (omega arith)))
      (tails-aim (suc i) (n + sectionsMade s) t (omega arith) (omega arith))

pub lower-aims : (t : Script) → All (Aims (length t + sizes t)) (sectionsOf t)
unfolding sectionsOf
lower-aims t =
    let L = length t in
    let N = L + sizes t in
    all-append (Aims N) (heads L 0 L t) (tails L 0 L t) (heads-aim N L (omega arith) 0 L t (omega arith) (omega arith)) (tails-aim N L (omega arith) 0 L t (omega arith) (omega arith))

-- ---- starts

abbrev pub Loose : SectionCode → Type 0
Loose s = loose s ≡ true

empty-loose : (s : Stmts) (k : ℕ) (l : List SectionCode) → All Loose l → All Loose (orEmpty s k l)
empty-loose nil k l p = (refl, tt)
empty-loose (plain o s) k l p = p
empty-loose (goto o r s) k l p = p
empty-loose (ite o c t f s) k l p = p

low-loose : (b : Bool) (e n k : ℕ) (s : Stmts) → All Loose (stmtSections b e n k s)
low-loose b e n k nil = tt
low-loose b e n k (plain o s) = (refl, low-loose b e (suc n) k s)
low-loose b e n k (goto o r s) = (refl, low-loose false e (suc n) k s)
low-loose b e n k (ite o c t f s) =
    let nf = suc n + orOne t (sectionsMade t) in
    let nj = nf + orOne f (sectionsMade f) in
    let lt = stmtSections true e (suc n) nj t in
    let lf = stmtSections true e nf nj f in
    let r = inner [] (link b (entry s (suc nj) k)) ∷ stmtSections b e (suc nj) k s in
    (refl, all-append Loose (orEmpty t nj lt) (orEmpty f nj lf ++ r) (empty-loose t nj lt (low-loose true e (suc n) nj t)) (all-append Loose (orEmpty f nj lf) r (empty-loose f nj lf (low-loose true e nf nj f)) (refl, low-loose b e (suc nj) k s)))

tail-loose : (l : List SectionCode) → All Loose l → All Loose (tailOf l)
tail-loose [] p = tt
tail-loose (s ∷ l) p = (refl, p.1)

pub tails-loose : (L i n : ℕ) (t : Script) → All Loose (tails L i n t)
tails-loose L i n [] = tt
tails-loose L i n (s ∷ t) =
    all-append Loose (tailOf (lineSections L i n s)) (tails L (suc i) (n + sectionsMade s) t) (tail-loose (lineSections L i n s) (low-loose true (nextLine L i) n (nextLine L i) s)) (tails-loose L (suc i) (n + sectionsMade s) t)

-- ---- cleaned

keep-take : (k : ℕ) (m : List SectionCode) → length (keep (take k m)) ≤ length (keep m)
keep-take zero m = omega arith
keep-take (suc k) [] = omega arith
keep-take (suc k) (s ∷ m) = go (isFixed s.success) (keep-take k m)
  where
    go : (b : Bool) → length (keep (take k m)) ≤ length (keep m) → length (cond b (s ∷ keep (take k m)) (keep (take k m))) ≤ length (cond b (s ∷ keep m) (keep m))
    go true h = omega arith
    go false h = h

pred-below : (a b : ℕ) → a ≤ b → 0 < b → pred a < b
pred-below a b h p = omega arith

pub rank-below : (m : List SectionCode) → 0 < length (keep m) → (t : ℕ) → rank m t < length (keep m)
rank-below m h t = pred-below (length (keep (take (suc t) m))) (length (keep m)) (keep-take (suc t) m) h

code-aims : (n : ℕ) (f : ℕ → ℕ) → ((t : ℕ) → f t < n) → (c : List Instruction) → All (JumpBelow n) (map (renIns f) c)
code-aims n f h [] = tt
code-aims n f h (i ∷ c) = (aimed-below n (f i.fst) i (h i.fst), code-aims n f h c)

next-aims : (n : ℕ) (f : ℕ → ℕ) → ((t : ℕ) → f t < n) → (x : SectionOrLine) → NextBelow n (renNext f x)
next-aims n f h unfixed = tt
next-aims n f h (section t) = h t
next-aims n f h (line r) = tt

ren-aims : (n : ℕ) (f : ℕ → ℕ) → ((t : ℕ) → f t < n) → (m : List SectionCode) → All (Aims n) (map (ren f) m)
ren-aims n f h [] = tt
ren-aims n f h (s ∷ m) = ((code-aims n f h s.instrs, next-aims n f h s.success), ren-aims n f h m)

pub clean-length : (m : List SectionCode) → length (cleanSections m) ≡ length (keep m)
unfolding cleanSections
clean-length m = length-map (keep m) (ren (rank m))

pub clean-aims : (m : List SectionCode) → 0 < length (keep m) → All (Aims (length (cleanSections m))) (cleanSections m)
unfolding cleanSections
clean-aims m h = ren-aims (length (cleanSections m)) (rank m) (λ t. omega (arith, rank-below m h t, clean-length m)) (keep m)
