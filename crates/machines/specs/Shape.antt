-- Cleaned and combined machines: their targets are there, and only the lines' first sections start lines.
use Rattle.std.specs.Prelude.{◌≡◌, refl, Bool, true, false, cond, not, ◌&&◌, ◌||◌, List, [], ◌∷◌, ◌++◌, map, ℕ, zero, suc, ◌+◌, ◌-◌, ◌≤◌, ◌<◌, eqb, length, get_or, set}
use Rattle.std.proofs.Common.{sym, ap, ◌∙◌, subst, le_of_suc-le-suc, not-suc-le-zero, arith, length-append, get_or-append-add}
use Rattle.std.proofs.lemmas.List.{length-map, map-append}
use Rattle.rules.specs.Instr.{fall, Instruction, isJump}
use Rattle.rules.specs.Machine.{SectionOrLine, unfixed, section, line, SectionCode, absent, isFixed}
use Rattle.rules.specs.Script.{Script}
use Rattle.rules.specs.Assemble.{nextLine, sectionsMade, headOf, lineSections, heads, tails, sectionsOf}
use Rattle.rules.specs.Clean.{renIns, renNext, ren, keep, rank, cleanSections}
use Rattle.rules.specs.Combine.{hit, refsNext, refsIns, refsCode, joined, combineAt, combineSections}
use Rattle.rules.specs.Preservation.{All}
use Rattle.bounds.specs.Lengths.{heads-length}
use Rattle.joins.specs.References.{no-hit}
use Rattle.joins.specs.Numbers.{fall-below}
use Rattle.joins.specs.Along.{Ready, pair-below, combine-along}
use Rattle.joins.specs.Pairs.{Pair}
use Rattle.joins.specs.Joins.{came, Stands, joint, other, stands, clear-at, length-join}
use Rattle.machines.specs.Fits.{AllAt}
use Rattle.machines.specs.Targets.{JumpBelow, NextBelow, Aims, Loose, tails-loose}
use Rattle.laws.specs.Lists.{all-append, all-of, all-at}
use Rattle.machines.specs.Lowered.{head-fixed}

-- ---- lists by their elements

pub numbered : (P : ℕ → SectionCode → Type 0) (i : ℕ) (l : List SectionCode) → ((t : ℕ) → t < length l → P (i + t) (get_or l t absent)) → AllAt P i l
numbered P i [] h = tt
numbered P i (s ∷ l) h =
    (subst (λ (n : ℕ). P n s) (omega arith) (h 0 (omega arith)), numbered P (suc i) l (λ t p. subst (λ (n : ℕ). P n (get_or l t absent)) (omega arith) (h (suc t) (omega arith))))

pub at-of : (P : ℕ → SectionCode → Type 0) (i : ℕ) (l : List SectionCode) → AllAt P i l → (t : ℕ) → t < length l → P (i + t) (get_or l t absent)
at-of P i [] h t p = absurd (not-suc-le-zero p)
at-of P i (s ∷ l) h zero p = subst (λ (n : ℕ). P n s) (omega arith) h.0
at-of P i (s ∷ l) h (suc t) p = subst (λ (n : ℕ). P n (get_or l t absent)) (omega arith) (at-of P (suc i) l h.1 t (le_of_suc-le-suc p))

-- ---- targets, when j falls out

code-fall : (j n : ℕ) → j < suc n → (c : List Instruction) → refsCode j c ≡ 0 → All (JumpBelow (suc n)) c → All (JumpBelow n) (map (renIns (fall j)) c)
code-fall j n k [] e h = tt
code-fall j n k (i ∷ c) e h =
    (λ q. subst (λ (b : Bool). cond b (fall j i.fst) i.fst < n) (sym q) (fall-below j i.fst n (h.0 q) (no-hit i.fst j (subst (λ (b : Bool). cond b (hit i.fst j) 0 ≡ 0) q (first e))) k), code-fall j n k c (omega arith) h.1)
  where
    first : refsIns j i + refsCode j c ≡ 0 → cond (isJump i) (hit i.fst j) 0 ≡ 0
    first e = omega arith

next-fall : (j n : ℕ) → j < suc n → (x : SectionOrLine) → refsNext j x ≡ 0 → NextBelow (suc n) x → NextBelow n (renNext (fall j) x)
next-fall j n k unfixed e h = tt
next-fall j n k (section t) e h = fall-below j t n h (no-hit t j e) k
next-fall j n k (line r) e h = tt

-- Behind the L lines' first sections none starts a line.
abbrev pub Inner : ℕ → List SectionCode → Type 0
Inner L m = (t : ℕ) → L ≤ t → t < length m → (get_or m t absent).lineStart ≡ false

module _ (L : ℕ) (pos : 0 < L) where
  aims-step : (m : List SectionCode) → Ready L m → (i j : ℕ) → Pair m i j → All (Aims (length m)) m → All (Aims (length (combineAt m i j))) (combineAt m i j)
  aims-step m r i j pr h = all-of (Aims n) absent (combineAt m i j) at
    where
      n : ℕ
      n = length (combineAt m i j)

      is-n : suc (length (combineAt m i j)) ≡ length m
      is-n = length-join m i j pr

      b : (i < length m) × (j < length m) × (L ≤ j)
      b = pair-below L m r i j pr

      old : (v : ℕ) → v < length m → Aims (length m) (get_or m v absent)
      old v p = all-at (Aims (length m)) absent m h v p

      new : (v : ℕ) → v < length m → Stands m i j pr v → Aims (length m) (get_or (set m i (joined (get_or m i absent) (get_or m j absent))) v absent)
      new v p (joint e q) =
          subst (Aims (length m)) (sym q) (all-append (JumpBelow (length m)) (get_or m i absent).instrs (get_or m j absent).instrs (old i b.0).0 (old j b.1).0, (old j b.1).1)
      new v p (other e q) = subst (Aims (length m)) (sym q) (old v p)

      at : (t : ℕ) → t < length (combineAt m i j) → Aims (length (combineAt m i j)) (get_or (combineAt m i j) t absent)
      at t p =
          let c = came m i j pr t (omega (arith, is-n)) in
          let s = get_or (set m i (joined (get_or m i absent) (get_or m j absent))) c.from absent in
          let z = clear-at m i j pr c.from c.other in
          let a : Aims (suc (length (combineAt m i j))) s = subst (λ (k : ℕ). Aims k s) (sym is-n) (new c.from c.below (stands m i j pr c.from)) in
          subst (Aims (length (combineAt m i j))) (sym c.is) (code-fall j (length (combineAt m i j)) (omega (arith, is-n, b.1)) s.instrs (omega arith) a.0, next-fall j (length (combineAt m i j)) (omega (arith, is-n, b.1)) s.success (omega arith) a.1)

  pub combine-aims : (m : List SectionCode) → Ready L m → All (Aims (length m)) m → All (Aims (length (combineSections m))) (combineSections m)
  combine-aims m r h = combine-along L (λ z. All (Aims (length z)) z) aims-step m r h

  inner-step : (m : List SectionCode) → Ready L m → (i j : ℕ) → Pair m i j → Inner L m → Inner L (combineAt m i j)
  inner-step m r i j pr h t p q =
      let c = came m i j pr t (omega (arith, length-join m i j pr)) in
      ap (λ (s : SectionCode). s.lineStart) c.is ∙ go c.from (omega (arith, c.high)) c.below (stands m i j pr c.from)
    where
      go : (v : ℕ) → L ≤ v → v < length m → Stands m i j pr v → (get_or (set m i (joined (get_or m i absent) (get_or m j absent))) v absent).lineStart ≡ false
      go v a b (joint e k) = ap (λ (s : SectionCode). s.lineStart) k ∙ h i (omega arith) (omega arith)
      go v a b (other e k) = ap (λ (s : SectionCode). s.lineStart) k ∙ h v a b

  pub combine-inner : (m : List SectionCode) → Ready L m → Inner L m → Inner L (combineSections m)
  combine-inner m r h = combine-along L (Inner L) inner-step m r h

-- ---- lowered and cleaned

pub lower-later : (t : Script) (u : ℕ) → length t ≤ u → u < length (sectionsOf t) → Loose (get_or (sectionsOf t) u absent)
unfolding sectionsOf
lower-later t u h k =
    let L = length t in
    let A = heads L 0 L t in
    let B = tails L 0 L t in
    let la = heads-length L 0 L t in
    let e : get_or (A ++ B) u absent ≡ get_or B (u - L) absent = ap (λ (n : ℕ). get_or (A ++ B) n absent) (omega arith) ∙ get_or-append-add A B (u - L) absent in
    subst Loose (sym e) (all-at Loose absent B (tails-loose L 0 L t) (u - L) (omega (arith, length-append A B)))

keep-append : (a b : List SectionCode) → keep (a ++ b) ≡ keep a ++ keep b
keep-append [] b = refl
keep-append (s ∷ a) b = go (isFixed s.success) (keep-append a b)
  where
    go : (x : Bool) → keep (a ++ b) ≡ keep a ++ keep b → cond x (s ∷ keep (a ++ b)) (keep (a ++ b)) ≡ cond x (s ∷ keep a) (keep a) ++ keep b
    go true h = ap (λ (l : List SectionCode). s ∷ l) h
    go false h = h

keep-heads : (L i n : ℕ) (t : Script) → keep (heads L i n t) ≡ heads L i n t
keep-heads L i n [] = refl
keep-heads L i n (s ∷ t) =
    let h = headOf (nextLine L i) (lineSections L i n s) in
    let r = heads L (suc i) (n + sectionsMade s) t in
    ap (λ (x : Bool). cond x (h ∷ keep r) (keep r)) (head-fixed (nextLine L i) n s) ∙ ap (λ (l : List SectionCode). h ∷ l) (keep-heads L (suc i) (n + sectionsMade s) t)

loose-inner : (a b c : Bool) → (not a || not b && c) ≡ true → b ≡ true → a ≡ false
loose-inner true true c h k = absurd (let z : ◌≡◌ {A = ℕ} 0 1 = cc in omega arith)
loose-inner true false c h k = absurd (let z : ◌≡◌ {A = ℕ} 0 1 = cc in omega arith)
loose-inner false b c h k = refl

abbrev NoStart : SectionCode → Type 0
NoStart s = s.lineStart ≡ false

keep-inner : (m : List SectionCode) → All Loose m → All NoStart (keep m)
keep-inner [] h = tt
keep-inner (s ∷ m) h = go (isFixed s.success) refl (keep-inner m h.1)
  where
    go : (b : Bool) → isFixed s.success ≡ b → All NoStart (keep m) → All NoStart (cond b (s ∷ keep m) (keep m))
    go true e q = (loose-inner s.lineStart (isFixed s.success) (eqb (length s.instrs) 0) h.0 e, q)
    go false e q = q

ren-inner : (f : ℕ → ℕ) (m : List SectionCode) → All NoStart m → All NoStart (map (ren f) m)
ren-inner f [] h = tt
ren-inner f (s ∷ m) h = (h.0, ren-inner f m h.1)

pub clean-inner : (t : Script) → Inner (length t) (cleanSections (sectionsOf t))
unfolding sectionsOf cleanSections
clean-inner t u h k =
    let L = length t in
    let A = heads L 0 L t in
    let B = tails L 0 L t in
    let f = rank (A ++ B) in
    let A' = map (ren f) A in
    let B' = map (ren f) (keep B) in
    let split : map (ren f) (keep (A ++ B)) ≡ A' ++ B' = ap (map (ren f)) (keep-append A B ∙ ap (λ (l : List SectionCode). l ++ keep B) (keep-heads L 0 L t)) ∙ map-append (ren f) A (keep B) in
    let la : length A' ≡ L = length-map A (ren f) ∙ heads-length L 0 L t in
    let e : get_or (map (ren f) (keep (A ++ B))) u absent ≡ get_or B' (u - L) absent = ap (λ (l : List SectionCode). get_or l u absent) split ∙ (ap (λ (n : ℕ). get_or (A' ++ B') n absent) (omega arith) ∙ get_or-append-add A' B' (u - L) absent) in
    ap (λ (s : SectionCode). s.lineStart) e ∙ all-at NoStart absent B' (ren-inner f (keep B) (keep-inner B (tails-loose L 0 L t))) (u - L) (omega (arith, length-append A' B', ap length split))

pub keep-some : (t : Script) → length t ≤ length (keep (sectionsOf t))
unfolding sectionsOf
keep-some t =
    let L = length t in
    let A = heads L 0 L t in
    let B = tails L 0 L t in
    omega (arith, ap length (keep-append A B), ap length (keep-heads L 0 L t), length-append (keep A) (keep B), heads-length L 0 L t)
