-- One join of a pair: what stands where afterwards, how often another section is referred to, what it may take in. Assumes nothing but a pair.
use Rattle.std.specs.Prelude.{◌≡◌, refl, Bool, true, false, cond, List, [], ◌∷◌, ℕ, zero, suc, ◌+◌, ◌≤◌, ◌<◌, eqb, length, get_or, set}
use Rattle.std.proofs.Common.{sym, ap, ◌∙◌, ◌⊎◌, inl, inr, arith, eqb-true}
use Rattle.std.proofs.lemmas.Bool.{eqb-false, false≢true}
use Rattle.std.proofs.lemmas.List.{length-map}
use Rattle.std.proofs.Math.ListN.{length-set, get_or-map, get_or-eq_default}
use Rattle.std.proofs.Math.Option.{none, some, map as mapped}
use Rattle.std.proofs.Math.Seq.{get_or-set_same, get_or-set_other}
use Rattle.rules.specs.Instr.{fall}
use Rattle.rules.specs.Machine.{SectionOrLine, unfixed, section, line, SectionCode, absent}
use Rattle.rules.specs.Clean.{renNext, ren}
use Rattle.rules.specs.Combine.{refsNext, refsCode, refs, mayTake, mate, without, joined, combineAt}
use Rattle.joins.specs.Numbers.{lt-or-le, fall-eqb, rises, without-fall, length-without}
use Rattle.joins.specs.References.{refsOf, hit-self, hit-other, no-hit, refs-one, refs-two, refs-append, refs-set, refs-without, refs-fall}
use Rattle.joins.specs.Pairs.{Pair}

-- a section that takes another in starts a line where it did
pub start-set : (m : List SectionCode) (i t : ℕ) (b : SectionCode) → (get_or (set m i (joined (get_or m i absent) b)) t absent).lineStart ≡ (get_or m t absent).lineStart
start-set [] i t b = refl
start-set (s ∷ m) zero zero b = refl
start-set (s ∷ m) zero (suc t) b = refl
start-set (s ∷ m) (suc i) zero b = refl
start-set (s ∷ m) (suc i) (suc t) b = start-set m i t b

unfixed≢section : (t : ℕ) → unfixed ≡ section t → ⊥
unfixed≢section t e = let z : ◌≡◌ {A = ℕ} 0 1 = cc in omega arith

module _ (m : List SectionCode) (i j : ℕ) (pr : Pair m i j) where
  -- both are there
  pub second-in : j < length m
  second-in = go (lt-or-le j (length m))
    where
      go : (j < length m) ⊎ (length m ≤ j) → j < length m
      go (inl h) = h
      go (inr h) = absurd (false≢true (sym pr.inner ∙ ap (λ (s : SectionCode). s.lineStart) (get_or-eq_default m absent h)))

  pub first-in : i < length m
  first-in = go (lt-or-le i (length m))
    where
      go : (i < length m) ⊎ (length m ≤ i) → i < length m
      go (inl h) = h
      go (inr h) = absurd (unfixed≢section j (sym (ap (λ (s : SectionCode). s.success) (get_or-eq_default m absent h)) ∙ pr.succ))

  -- ---- who refers to j: S1 as its successor, and nothing else

  refs-first : refsNext j (get_or m i absent).success ≡ 1
  refs-first = rw pr.succ (hit-self j)

  pub code-first : refsCode j (get_or m i absent).instrs ≡ 0
  code-first = omega (arith, refs-one j m i, refs-first, pr.once)

  pub refs-other : (t : ℕ) → (t ≡ i → ⊥) → refsOf j (get_or m t absent) ≡ 0
  refs-other t ne = omega (arith, refs-two j m t i ne, refs-first, pr.once)

  -- ---- what stands where

  abbrev pub Joint : SectionCode
  Joint = joined (get_or m i absent) (get_or m j absent)

  -- the sections before numbers fall, S2 still there
  abbrev pub Taken : List SectionCode
  Taken = set m i Joint

  pub at-join : (t : ℕ) → (t ≡ j → ⊥) → get_or (combineAt m i j) (fall j t) absent ≡ ren (fall j) (get_or Taken t absent)
  unfolding combineAt
  at-join t ne = get_or-map (ren (fall j)) (without Taken j) (fall j t) absent ∙ ap (ren (fall j)) (without-fall Taken j t absent ne)

  -- what stands at v before numbers fall: S1 with S2's code, or what stood there
  pub data Stands (v : ℕ) : Type 0 where
    joint : v ≡ i → get_or Taken v absent ≡ Joint → Stands v
    other : (v ≡ i → ⊥) → get_or Taken v absent ≡ get_or m v absent → Stands v

  pub stands : (v : ℕ) → Stands v
  stands v = go (eqb v i) refl
    where
      go : (x : Bool) → eqb v i ≡ x → Stands v
      go true q = let e = eqb-true v i q in joint e (ap (λ (n : ℕ). get_or Taken n absent) e ∙ get_or-set_same m i Joint absent first-in)
      go false q = other (eqb-false v i q) (get_or-set_other m i v Joint absent (eqb-false v i q))

  pub length-join : suc (length (combineAt m i j)) ≡ length m
  unfolding combineAt
  length-join = ap suc (length-map (without Taken j) (ren (fall j))) ∙ (length-without Taken j (rw (length-set m i Joint) second-in) ∙ length-set m i Joint)

  -- what stands at t afterwards stood at v
  pub record Came (t : ℕ) : Type 0 where
    pub from : ℕ
    pub high : t ≤ from
    pub below : from < length m
    pub other : from ≡ j → ⊥
    pub falls : fall j from ≡ t
    pub is : get_or (combineAt m i j) t absent ≡ ren (fall j) (get_or Taken from absent)

  pub came : (t : ℕ) → suc t < length m → Came t
  came t h =
      let r = rises j t in
      record {
        from = r.from;
        high = r.high;
        below = omega (arith, r.low);
        other = r.other;
        falls = r.falls;
        is = ap (λ (n : ℕ). get_or (combineAt m i j) n absent) (sym r.falls) ∙ at-join r.from r.other;
      }

  -- no section but S1 refers to j, and S1 no more
  pub clear-at : (v : ℕ) → (v ≡ j → ⊥) → refsOf j (get_or Taken v absent) ≡ 0
  clear-at v ne = go (stands v)
    where
      go : Stands v → refsOf j (get_or Taken v absent) ≡ 0
      go (joint p q) = rw q (omega (arith, refs-append j (get_or m i absent).instrs (get_or m j absent).instrs, code-first, refs-other j (λ k. pr.apart (sym k))))
      go (other p q) = rw q (refs-other v p)

  pub next-not : (t v : ℕ) → (t ≡ j → ⊥) → (get_or Taken t absent).success ≡ section v → v ≡ j → ⊥
  next-not t v ne e = no-hit v j (let c = clear-at t ne in let s = ap (refsNext j) e in omega (arith, c, s))

  -- ---- what is kept: line starts, references, and what may be taken in

  pub start-join : (v : ℕ) → (v ≡ j → ⊥) → (get_or (combineAt m i j) (fall j v) absent).lineStart ≡ (get_or m v absent).lineStart
  start-join v ne = ap (λ (s : SectionCode). s.lineStart) (at-join v ne) ∙ start-set m i v (get_or m j absent)

  -- one reference less, that of S1 to j
  refs-left : (u : ℕ) → refs u (without Taken j) + refsNext u (get_or m i absent).success ≡ refs u m
  refs-left u =
      let a = get_or m i absent in
      let b = get_or m j absent in
      let e : get_or Taken j absent ≡ b = get_or-set_other m i j Joint absent (λ q. pr.apart (sym q)) in
      omega (arith, refs-without u Taken j, ap (refsOf u) e, refs-set u m i Joint first-in, refs-append u a.instrs b.instrs)

  refs-zero : refs j (without Taken j) ≡ 0
  refs-zero = omega (arith, refs-left j, refs-first, pr.once)

  pub refs-join : (u : ℕ) → (u ≡ j → ⊥) → refs (fall j u) (combineAt m i j) ≡ refs u m
  unfolding combineAt
  refs-join u ne = refs-fall j u ne (without Taken j) refs-zero ∙ (let z = ap (refsNext u) pr.succ in omega (arith, refs-left u, hit-other j u (λ e. ne (sym e))))

  pub take-join : (t u : ℕ) → (t ≡ j → ⊥) → (u ≡ j → ⊥) → mayTake (combineAt m i j) (fall j t) (fall j u) ≡ mayTake m t u
  take-join t u p q = rw (fall-eqb j t u p q, start-join u q, refs-join u q)

  -- what a section may take in falls with it
  pub mate-join : (t : ℕ) (x : SectionOrLine) → (t ≡ j → ⊥) → ((v : ℕ) → x ≡ section v → v ≡ j → ⊥) → mate (combineAt m i j) (fall j t) (renNext (fall j) x) ≡ mapped (fall j) (mate m t x)
  mate-join t unfixed p q = refl
  mate-join t (section v) p q = ap (λ (b : Bool). cond b (some (fall j v)) none) (take-join t v p (q v refl)) ∙ go (mayTake m t v)
    where
      go : (b : Bool) → cond b (some (fall j v)) none ≡ mapped (fall j) (cond b (some v) none)
      go true = refl
      go false = refl
  mate-join t (line r) p q = refl
