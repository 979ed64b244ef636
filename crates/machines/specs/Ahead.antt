-- In a cleaned machine a successor that is no line start does not lie below its section (15 never occurs).
use Rattle.std.specs.Prelude.{◌≡◌, refl, ◌⊎◌, Bool, true, false, cond, ◌||◌, List, [], ◌∷◌, ◌++◌, map, ℕ, zero, suc, pred, ◌+◌, ◌≤◌, ◌<◌, leb, length, get_or, take}
use Rattle.std.proofs.Common.{sym, ap, ◌∙◌, subst, inl, inr, append_assoc, le_of_suc-le-suc, not-suc-le-zero, arith, length-append, le-leb}
use Rattle.std.proofs.Math.Option.{Option, none, some}
use Rattle.std.proofs.Math.ListN.{get_elem?}
use Rattle.rules.specs.Machine.{SectionOrLine, unfixed, section, line, SectionCode, absent, isFixed}
use Rattle.rules.specs.Script.{Stmts, nil, plain, goto, ite, Script}
use Rattle.rules.specs.Assemble.{nextLine, orOne, sectionsMade, entry, link, inner, orEmpty, stmtSections, headOf, tailOf, lineSections, heads, tails, sectionsOf}
use Rattle.rules.specs.Clean.{renNext, ren, keep, rank, cleanSections}
use Rattle.rules.specs.Operations.{nextAhead, allAhead}
use Rattle.bounds.specs.Lengths.{length-low, length-orEmpty, nextLine-lt, heads-length, length-tailOf}
use Rattle.laws.specs.Lists.{at-elem}
use Rattle.machines.specs.Fits.{AllAt}
use Rattle.std.proofs.Math.Nat.{pred-le-pred}
use Rattle.std.proofs.lemmas.Bool.{or_left, or_right}

-- Section p's successor is a line, or ahead.
abbrev Ahead : ℕ → ℕ → SectionOrLine → Type 0
Ahead L p unfixed = Unit {0}
Ahead L p (section u) = (u < L) ⊎ (p < u)
Ahead L p (line r) = Unit {0}

abbrev Fore : ℕ → ℕ → SectionCode → Type 0
Fore L p s = Ahead L p s.success

at-append : (P : ℕ → SectionCode → Type 0) (n : ℕ) (a b : List SectionCode) → AllAt P n a → AllAt P (n + length a) b → AllAt P n (a ++ b)
at-append P n [] b p q = subst (λ (k : ℕ). AllAt P k b) (omega arith) q
at-append P n (s ∷ a) b p q = (p.0, at-append P (suc n) a b p.1 (subst (λ (k : ℕ). AllAt P k b) (omega arith) q))

at-cast : (P : ℕ → SectionCode → Type 0) (n n' : ℕ) (l : List SectionCode) → n ≡ n' → AllAt P n l → AllAt P n' l
at-cast P n n' l e h = subst (λ (k : ℕ). AllAt P k l) e h

-- ---- lowered

module _ (L : ℕ) where
  abbrev P : ℕ → SectionCode → Type 0
  P p s = Fore L p s

  link-ahead : (b : Bool) (p t : ℕ) → (t < L) ⊎ (p < t) → Ahead L p (link b t)
  link-ahead true p t h = h
  link-ahead false p t h = tt

  further : (n n' k : ℕ) → n' ≤ n → (k < L) ⊎ (n ≤ k) → (k < L) ⊎ (n' ≤ k)
  further n n' k h (inl p) = inl p
  further n n' k h (inr p) = inr (omega arith)

  entry-ahead : (s : Stmts) (p m k : ℕ) → p < m → (k < L) ⊎ (m + sectionsMade s ≤ k) → (entry s m k < L) ⊎ (p < entry s m k)
  entry-ahead nil p m k h c = further (m + 0) (suc p) k (omega arith) c
  entry-ahead (plain o s) p m k h c = inr h
  entry-ahead (goto o r s) p m k h c = inr h
  entry-ahead (ite o d t f s) p m k h c = inr h

  empty-ahead : (s : Stmts) (n k : ℕ) (l : List SectionCode) → n < k → AllAt P n l → AllAt P n (orEmpty s k l)
  empty-ahead nil n k l h p = (inr h, tt)
  empty-ahead (plain o s) n k l h p = p
  empty-ahead (goto o r s) n k l h p = p
  empty-ahead (ite o c t f s) n k l h p = p

  one-pos : (s : Stmts) → (sectionsMade s ≤ orOne s (sectionsMade s)) × (0 < orOne s (sectionsMade s))
  one-pos nil = (omega arith, omega arith)
  one-pos (plain o s) = (omega arith, omega arith)
  one-pos (goto o r s) = (omega arith, omega arith)
  one-pos (ite o c t f s) = (omega arith, omega arith)

  low-ahead : (b : Bool) (e n k : ℕ) (s : Stmts) → (k < L) ⊎ (n + sectionsMade s ≤ k) → AllAt P n (stmtSections b e n k s)
  low-ahead b e n k nil c = tt
  low-ahead b e n k (plain o s) c =
      let c' = further (n + suc (sectionsMade s)) (suc n + sectionsMade s) k (omega arith) c in
      (link-ahead b n (entry s (suc n) k) (entry-ahead s n (suc n) k (omega arith) c'), low-ahead b e (suc n) k s c')
  low-ahead b e n k (goto o r s) c = (tt, low-ahead false e (suc n) k s (further (n + suc (sectionsMade s)) (suc n + sectionsMade s) k (omega arith) c))
  low-ahead b e n k (ite o d t f s) c =
      let nf = suc n + orOne t (sectionsMade t) in
      let nj = nf + orOne f (sectionsMade f) in
      let x = one-pos t in
      let y = one-pos f in
      let A = orEmpty t nj (stmtSections true e (suc n) nj t) in
      let B = orEmpty f nj (stmtSections true e nf nj f) in
      let C = inner [] (link b (entry s (suc nj) k)) ∷ stmtSections b e (suc nj) k s in
      let lA : length A ≡ orOne t (sectionsMade t) = length-orEmpty t nj (stmtSections true e (suc n) nj t) (length-low true e (suc n) nj t) in
      let lB : length B ≡ orOne f (sectionsMade f) = length-orEmpty f nj (stmtSections true e nf nj f) (length-low true e nf nj f) in
      let c' = further (n + suc (orOne t (sectionsMade t) + (orOne f (sectionsMade f) + suc (sectionsMade s)))) (suc nj + sectionsMade s) k (omega arith) c in
      let hC : AllAt P nj C = (link-ahead b nj (entry s (suc nj) k) (entry-ahead s nj (suc nj) k (omega arith) c'), low-ahead b e (suc nj) k s c') in
      let hB : AllAt P nf (B ++ C) = at-append P nf B C (empty-ahead f nf nj (stmtSections true e nf nj f) (omega arith) (low-ahead true e nf nj f (inr (omega arith)))) (at-cast P nj (nf + length B) C (omega arith) hC) in
      (inr (omega arith), at-append P (suc n) A (B ++ C) (empty-ahead t (suc n) nj (stmtSections true e (suc n) nj t) (omega arith) (low-ahead true e (suc n) nj t (inr (omega arith)))) (at-cast P nf (suc n + length A) (B ++ C) (omega arith) hB))

  ahead-lower : (p p' : ℕ) (x : SectionOrLine) → p' ≤ p → Ahead L p x → Ahead L p' x
  ahead-lower p p' unfixed h a = tt
  ahead-lower p p' (section u) h (inl a) = inl a
  ahead-lower p p' (section u) h (inr a) = inr (omega arith)
  ahead-lower p p' (line r) h a = tt

  head-ahead : (e i n : ℕ) (l : List SectionCode) → e < L → i ≤ n → AllAt P n l → P i (headOf e l)
  head-ahead e i n [] he h a = inl he
  head-ahead e i n (s ∷ l) he h a = ahead-lower n i s.success h a.0

  tail-ahead : (n : ℕ) (l : List SectionCode) → AllAt P n l → AllAt P n (tailOf l)
  tail-ahead n [] a = tt
  tail-ahead n (s ∷ l) a = (tt, a.1)

  heads-ahead : (i n : ℕ) (t : Script) → i + length t ≤ L → L ≤ n → AllAt P i (heads L i n t)
  heads-ahead i n [] h k = tt
  heads-ahead i n (s ∷ t) h k =
      let e = nextLine L i in
      let he = nextLine-lt L i (omega arith) in
      (head-ahead e i n (lineSections L i n s) he (omega arith) (low-ahead true e n e s (inl he)), heads-ahead (suc i) (n + sectionsMade s) t (omega arith) (omega arith))

  tails-ahead : (i n : ℕ) (t : Script) → i + length t ≤ L → AllAt P n (tails L i n t)
  tails-ahead i n [] h = tt
  tails-ahead i n (s ∷ t) h =
      let e = nextLine L i in
      let he = nextLine-lt L i (omega arith) in
      let l = lineSections L i n s in
      at-append P n (tailOf l) (tails L (suc i) (n + sectionsMade s) t) (tail-ahead n l (low-ahead true e n e s (inl he))) (at-cast P (n + sectionsMade s) (n + length (tailOf l)) (tails L (suc i) (n + sectionsMade s) t) (omega (arith, length-tailOf l, length-low true e n e s)) (tails-ahead (suc i) (n + sectionsMade s) t (omega arith)))

lower-ahead : (t : Script) → AllAt (Fore (length t)) 0 (sectionsOf t)
unfolding sectionsOf
lower-ahead t =
    let L = length t in
    at-append (Fore L) 0 (heads L 0 L t) (tails L 0 L t) (heads-ahead L 0 L t (omega arith) (omega arith)) (at-cast (Fore L) L (0 + length (heads L 0 L t)) (tails L 0 L t) (omega (arith, heads-length L 0 L t)) (tails-ahead L 0 L t (omega arith)))

-- ---- ranks grow

keep-cons : (s : SectionCode) (l : List SectionCode) → keep (s ∷ l) ≡ cond (isFixed s.success) (s ∷ keep l) (keep l)
keep-cons s l = refl

kept-grow : (m : List SectionCode) (v u : ℕ) → v ≤ u → length (keep (take v m)) ≤ length (keep (take u m))
kept-grow m zero u h = omega arith
kept-grow m (suc v) zero h = absurd (not-suc-le-zero h)
kept-grow [] (suc v) (suc u) h = omega arith
kept-grow (s ∷ m) (suc v) (suc u) h = go (isFixed s.success) (kept-grow m v u (le_of_suc-le-suc h))
  where
    go : (b : Bool) → length (keep (take v m)) ≤ length (keep (take u m)) → length (cond b (s ∷ keep (take v m)) (keep (take v m))) ≤ length (cond b (s ∷ keep (take u m)) (keep (take u m)))
    go true k = omega arith
    go false k = k

rank-grow : (m : List SectionCode) (v u : ℕ) → v ≤ u → rank m v ≤ rank m u
rank-grow m v u h = pred-le-pred (kept-grow m (suc v) (suc u) (omega arith))

kept-at : (a : List SectionCode) (s : SectionCode) (b : List SectionCode) → isFixed s.success ≡ true → length (keep (take (suc (length a)) (a ++ (s ∷ b)))) ≡ suc (length (keep a))
kept-at [] s b h = ap (λ (x : Bool). length (cond x (s ∷ []) [])) h
kept-at (x ∷ a) s b h = go (isFixed x.success) (kept-at a s b h)
  where
    go : (c : Bool) → length (keep (take (suc (length a)) (a ++ (s ∷ b)))) ≡ suc (length (keep a))
        → length (cond c (x ∷ keep (take (suc (length a)) (a ++ (s ∷ b)))) (keep (take (suc (length a)) (a ++ (s ∷ b))))) ≡ suc (length (cond c (x ∷ keep a) (keep a)))
    go true e = ap suc e
    go false e = e

keep-snoc : (a : List SectionCode) (s : SectionCode) → length (keep (a ++ (s ∷ []))) ≡ length (keep a) + length (cond (isFixed s.success) (s ∷ []) [])
keep-snoc [] s = omega arith
keep-snoc (x ∷ a) s = go (isFixed x.success) (keep-snoc a s)
  where
    go : (c : Bool) → length (keep (a ++ (s ∷ []))) ≡ length (keep a) + length (cond (isFixed s.success) (s ∷ []) [])
        → length (cond c (x ∷ keep (a ++ (s ∷ []))) (keep (a ++ (s ∷ [])))) ≡ length (cond c (x ∷ keep a) (keep a)) + length (cond (isFixed s.success) (s ∷ []) [])
    go true e = omega arith
    go false e = e

-- ---- cleaned

-- Section p's successor starts a line, or is not below.
abbrev pub Kept : List SectionCode → ℕ → SectionOrLine → Type 0
Kept ss p unfixed = Unit {0}
Kept ss p (section u) = ((get_or ss u absent).lineStart ≡ true) ⊎ (p ≤ u)
Kept ss p (line r) = Unit {0}

module _ (L : ℕ) (m : List SectionCode) (stmtSections : (t : ℕ) → t < L → rank m t ≡ t) (starts : (t : ℕ) → t < L → (get_or (cleanSections m) t absent).lineStart ≡ true) where
  abbrev Q : ℕ → SectionCode → Type 0
  Q p s = Kept (cleanSections m) p s.success

  next-kept : (v : ℕ) (x : SectionOrLine) → Ahead L v x → Kept (cleanSections m) (rank m v) (renNext (rank m) x)
  next-kept v unfixed h = tt
  next-kept v (section u) (inl h) = inl (ap (λ (k : ℕ). (get_or (cleanSections m) k absent).lineStart) (stmtSections u h) ∙ starts u h)
  next-kept v (section u) (inr h) = inr (rank-grow m v u (omega arith))
  next-kept v (line r) h = tt

  rest-kept : (a b : List SectionCode) → a ++ b ≡ m → AllAt (Fore L) (length a) b → AllAt Q (length (keep a)) (map (ren (rank m)) (keep b))
  rest-kept a [] e h = tt
  rest-kept a (s ∷ b) e h = go (isFixed s.success) refl (rest-kept (a ++ (s ∷ [])) b (append_assoc a (s ∷ []) b ∙ e) (subst (λ (k : ℕ). AllAt (Fore L) k b) (sym (omega (arith, length-append a (s ∷ [])))) h.1))
    where
      go : (c : Bool) → isFixed s.success ≡ c → AllAt Q (length (keep (a ++ (s ∷ [])))) (map (ren (rank m)) (keep b))
          → AllAt Q (length (keep a)) (map (ren (rank m)) (cond c (s ∷ keep b) (keep b)))
      go true q ih =
          let r : rank m (length a) ≡ length (keep a) = ap (λ (l : List SectionCode). pred (length (keep (take (suc (length a)) l)))) (sym e) ∙ ap pred (kept-at a s b q) in
          let k : length (keep (a ++ (s ∷ []))) ≡ suc (length (keep a)) = keep-snoc a s ∙ (ap (λ (x : Bool). length (keep a) + length (cond x (s ∷ []) [])) q ∙ omega arith) in
          (subst (λ (p : ℕ). Kept (cleanSections m) p (renNext (rank m) s.success)) r (next-kept (length a) s.success h.0), subst (λ (n : ℕ). AllAt Q n (map (ren (rank m)) (keep b))) k ih)
      go false q ih =
          let k : length (keep (a ++ (s ∷ []))) ≡ length (keep a) = keep-snoc a s ∙ (ap (λ (x : Bool). length (keep a) + length (cond x (s ∷ []) [])) q ∙ omega arith) in
          subst (λ (n : ℕ). AllAt Q n (map (ren (rank m)) (keep b))) k ih

-- ---- as a test

next-test : (ss : List SectionCode) (p : ℕ) (x : SectionOrLine) → Kept ss p x → nextAhead ss p x ≡ true
unfolding nextAhead
next-test ss p unfixed h = refl
next-test ss p (section u) h = go (get_elem? ss u) refl h
  where
    go : (o : Option SectionCode) → get_elem? ss u ≡ o → ((get_or ss u absent).lineStart ≡ true) ⊎ (p ≤ u) → elim o as (λ z. Bool) [ none ↦ true | some s ↦ s.lineStart || leb p u ] ≡ true
    go none e q = refl
    go (some s) e (inl q) = or_left s.lineStart (leb p u) (ap (λ (y : SectionCode). y.lineStart) (sym (at-elem ss u absent s e)) ∙ q)
    go (some s) e (inr q) = or_right s.lineStart (leb p u) (le-leb p u q)
next-test ss p (line r) h = refl

pub all-test : (ss : List SectionCode) (i : ℕ) (l : List SectionCode) → AllAt (λ p s. Kept ss p s.success) i l → allAhead ss i l ≡ true
unfolding allAhead
all-test ss i [] h = refl
all-test ss i (s ∷ l) h = ap (λ (b : Bool). elim b as (λ z. Bool) [ false ↦ false | true ↦ allAhead ss (suc i) l ]) (next-test ss i s.success h.0) ∙ all-test ss (suc i) l h.1

pub clean-ahead : (t : Script) → ((u : ℕ) → u < length t → rank (sectionsOf t) u ≡ u) → ((u : ℕ) → u < length t → (get_or (cleanSections (sectionsOf t)) u absent).lineStart ≡ true)
    → AllAt (λ p s. Kept (cleanSections (sectionsOf t)) p s.success) 0 (cleanSections (sectionsOf t))
unfolding cleanSections
clean-ahead t stmtSections starts = let m = sectionsOf t in rest-kept (length t) m stmtSections starts [] m refl (lower-ahead t)
