-- Every instruction of the finished machine is one of the tree's.
use Rattle.std.specs.Prelude.{Bool, true, false, cond, List, [], ◌∷◌, ◌++◌, map, ℕ, zero, suc, ◌+◌, length, get_or, set}
use Rattle.std.proofs.Common.{sym, subst}
use Rattle.std.proofs.Math.Option.{Option, none, some}
use Rattle.rules.specs.Instr.{fall, Instruction, shown}
use Rattle.rules.specs.Machine.{SectionOrLine, unfixed, section, line, SectionCode, absent, isFixed}
use Rattle.rules.specs.Clean.{renIns, renNext, ren, keep, rank, cleanSections}
use Rattle.rules.specs.Combine.{pair, without, joined, combineAt, combineFuel, combineSections}
use Rattle.rules.specs.Script.{Stmts, nil, plain, goto, ite, Script}
use Rattle.rules.specs.Assemble.{condJump, nextLine, orOne, sectionsMade, ownCode, entry, link, condCode, inner, orEmpty, stmtSections, headOf, tailOf, lineSections, heads, tails, sectionsOf}
use Rattle.rules.specs.Preservation.{All}
use Rattle.bounds.specs.Good.{GoodWhole, CodeGood, NextGood, SectGood}
use Rattle.bounds.specs.Jumps.{shown-aimed}
use Rattle.laws.specs.Lists.{all-append, all-set}

-- A script's sections, cleaned and combined.
unfoldable pub finish : Script → List SectionCode
finish t = combineSections (cleanSections (sectionsOf t))

module _ {A : Type 0} (P : A → Type 0) where
  pub everywhere : ((a : A) → P a) → (l : List A) → All P l
  everywhere h [] = tt
  everywhere h (a ∷ l) = (h a, everywhere h l)

  all-without : (l : List A) (n : ℕ) → All P l → All P (without l n)
  all-without [] n q = q
  all-without (x ∷ l) zero q = q.1
  all-without (x ∷ l) (suc n) q = (q.0, all-without l n q.1)

module _ (P : Instruction → Type 0) (G : ℕ → Type 0) where
  abbrev S : SectionCode → Type 0
  S s = SectGood P G s

  pub getD-good : (m : List SectionCode) → All S m → (u : ℕ) → S (get_or m u absent)
  getD-good [] q u = (tt, tt)
  getD-good (s ∷ m) q zero = q.0
  getD-good (s ∷ m) q (suc u) = getD-good m q.1 u

  code-ren : (f : ℕ → ℕ) (c : List Instruction) → CodeGood P c → CodeGood P (map (renIns f) c)
  code-ren f [] p = p
  code-ren f (i ∷ c) p = (subst P (sym (shown-aimed (f i.fst) i)) p.0, code-ren f c p.1)

  next-ren : (f : ℕ → ℕ) (x : SectionOrLine) → NextGood G x → NextGood G (renNext f x)
  next-ren f unfixed p = p
  next-ren f (section t) p = p
  next-ren f (line r) p = p

  all-ren : (f : ℕ → ℕ) (m : List SectionCode) → All S m → All S (map (ren f) m)
  all-ren f [] p = p
  all-ren f (s ∷ m) p = ((code-ren f s.instrs p.0.0, next-ren f s.success p.0.1), all-ren f m p.1)

  all-keep : (m : List SectionCode) → All S m → All S (keep m)
  all-keep [] p = p
  all-keep (s ∷ m) p = go (isFixed s.success) (all-keep m p.1)
    where
      go : (b : Bool) → All S (keep m) → All S (cond b (s ∷ keep m) (keep m))
      go true q = (p.0, q)
      go false q = q

  combine-good : (m : List SectionCode) (i j : ℕ) → All S m → All S (combineAt m i j)
  unfolding combineAt
  combine-good m i j p =
      let a = getD-good m p i in
      let b = getD-good m p j in
      let J = joined (get_or m i absent) (get_or m j absent) in
      all-ren (fall j) (without (set m i J) j) (all-without S (set m i J) j (all-set S m i J (all-append (λ i. P (shown i)) (get_or m i absent).instrs (get_or m j absent).instrs a.0 b.0, b.1) p))

  fuel-good : (k : ℕ) (m : List SectionCode) → All S m → All S (combineFuel k m)
  fuel-good zero m p = p
  fuel-good (suc k) m p = go (pair m) (λ n q. fuel-good k n q)
    where
      go : (o : Option (ℕ × ℕ)) → ((n : List SectionCode) → All S n → All S (combineFuel k n)) → All S (elim o [ none ↦ m | some q ↦ combineFuel k (combineAt m q.0 q.1) ])
      go none ih = p
      go (some q) ih = ih (combineAt m q.0 q.1) (combine-good m q.0 q.1 p)

  own-good : (e : ℕ) (o : List Instruction) → CodeGood P o → CodeGood P (ownCode e o)
  own-good e [] p = p
  own-good e (i ∷ o) p = (subst P (sym (shown-aimed e i)) p.0, own-good e o p.1)

  link-good : (b : Bool) (t : ℕ) → NextGood G (link b t)
  link-good true t = tt
  link-good false t = tt

  cond-good : (t : Stmts) (c n : ℕ) → P (condJump 0 c) → CodeGood P (condCode t c n)
  cond-good nil c n p = tt
  cond-good (plain o s) c n p = (p, tt)
  cond-good (goto o r s) c n p = (p, tt)
  cond-good (ite o c' t u s) c n p = (p, tt)

  orEmpty-good : (s : Stmts) (k : ℕ) (l : List SectionCode) → All S l → All S (orEmpty s k l)
  orEmpty-good nil k l p = ((tt, tt), tt)
  orEmpty-good (plain o s) k l p = p
  orEmpty-good (goto o r s) k l p = p
  orEmpty-good (ite o c' t u s) k l p = p

  low-good : (b : Bool) (e n k : ℕ) (s : Stmts) → GoodWhole P G s → All S (stmtSections b e n k s)
  low-good b e n k nil g = tt
  low-good b e n k (plain o s) g = ((own-good e o g.0, link-good b (entry s (suc n) k)), low-good b e (suc n) k s g.1)
  low-good b e n k (goto o r s) g = ((own-good e o g.0, g.1), low-good false e (suc n) k s g.2)
  low-good b e n k (ite o c t f s) g =
      let nf = suc n + orOne t (sectionsMade t) in
      let nj = nf + orOne f (sectionsMade f) in
      let lt = stmtSections true e (suc n) nj t in
      let lf = stmtSections true e nf nj f in
      let j = inner [] (link b (entry s (suc nj) k)) ∷ stmtSections b e (suc nj) k s in (
        (all-append (λ i. P (shown i)) (ownCode e o) (condCode t c (suc n)) (own-good e o g.0) (cond-good t c (suc n) g.1), tt),
        all-append S
            (orEmpty t nj lt)
            (orEmpty f nj lf ++ j)
            (orEmpty-good t nj lt (low-good true e (suc n) nj t g.2))
            (
            all-append S
            (orEmpty f nj lf)
            j
            (orEmpty-good f nj lf (low-good true e nf nj f g.3))
            ((tt, link-good b (entry s (suc nj) k)), low-good b e (suc nj) k s g.4)
            ),
      )

  head-good : (e : ℕ) (l : List SectionCode) → All S l → S (headOf e l)
  head-good e [] p = (tt, tt)
  head-good e (s ∷ l) p = p.0

  tail-good : (l : List SectionCode) → All S l → All S (tailOf l)
  tail-good [] p = p
  tail-good (s ∷ l) p = ((tt, tt), p.1)

  heads-good : (L i n : ℕ) (t : Script) → All (GoodWhole P G) t → All S (heads L i n t)
  heads-good L i n [] g = tt
  heads-good L i n (s ∷ t) g =
      (head-good (nextLine L i) (lineSections L i n s) (low-good true (nextLine L i) n (nextLine L i) s g.0), heads-good L (suc i) (n + sectionsMade s) t g.1)

  tails-good : (L i n : ℕ) (t : Script) → All (GoodWhole P G) t → All S (tails L i n t)
  tails-good L i n [] g = tt
  tails-good L i n (s ∷ t) g =
      all-append S
      (tailOf (lineSections L i n s))
      (tails L (suc i) (n + sectionsMade s) t)
      (tail-good (lineSections L i n s) (low-good true (nextLine L i) n (nextLine L i) s g.0))
      (tails-good L (suc i) (n + sectionsMade s) t g.1)

  pub lower-good : (t : Script) → All (GoodWhole P G) t → All S (sectionsOf t)
  unfolding sectionsOf
  lower-good t g = all-append S (heads (length t) 0 (length t) t) (tails (length t) 0 (length t) t) (heads-good (length t) 0 (length t) t g) (tails-good (length t) 0 (length t) t g)

  pub clean-good : (m : List SectionCode) → All S m → All S (cleanSections m)
  unfolding cleanSections
  clean-good m p = all-ren (rank m) (keep m) (all-keep m p)

  pub combined-good : (m : List SectionCode) → All S m → All S (combineSections m)
  unfolding combineSections
  combined-good m p = fuel-good (length m) m p

  pub finish-good : (t : Script) → All (GoodWhole P G) t → All S (finish t)
  unfolding finish
  finish-good t g = combined-good (cleanSections (sectionsOf t)) (clean-good (sectionsOf t) (lower-good t g))
