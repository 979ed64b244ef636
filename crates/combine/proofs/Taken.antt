-- The counts of references tell the heads: `marks-are`. Assumes that all the words are in use, and that 15 refuses none of what they hold.
use Rattle.std.specs.Prelude.{◌≡◌, refl, ◌⊎◌, Bool, true, false, cond, not, List, [], ◌∷◌, ℕ, zero, suc, ◌+◌, ◌<◌, ◌≤◌, min, eqb, length, get_or, set, replicate}
use Rattle.std.proofs.Common.{sym, ap, subst, ◌∙◌, inl, inr, arith, eqb-true, eq-eqb, ne_eqb}
use Rattle.std.proofs.Math.Option.{Option, none, some}
use Rattle.std.proofs.Math.Path.{fun_ext}
use Rattle.std.proofs.Math.Seq.{take-length}
use Rattle.std.proofs.lemmas.Bool.{eqb-false}
use Rattle.std.proofs.lemmas.Grind.{get_or-set_at}
use Rattle.std.proofs.lemmas.List.{get_or-set_other, length-set, get_or-replicate, length-replicate, get_or_past}
use Rattle.rules.specs.Bits.{isOne}
use Rattle.rules.specs.Combine.{hit, refsNext, refs, next}
use Rattle.rules.specs.Instr.{getSection}
use Rattle.rules.specs.Machine.{SectionOrLine, unfixed, section, line, SectionCode, absent}
use Rattle.rules.specs.Operations.{allAhead}
use Rattle.rules.specs.Tables.{successOf}
use Rattle.rules.specs.Word.{wordRun, wordIns}
use Rattle.joins.specs.Joins.{refs-other}
use Rattle.joins.specs.Numbers.{lt-or-le}
use Rattle.joins.specs.Pairs.{Pair, of-pair, to-pair}
use Rattle.joins.specs.References.{hit-self}
use Rattle.gather.specs.Gather.{head, linked}
use Rattle.gather.proofs.Contract.{linked-of, linked-is}
use Rattle.gather.proofs.Follow.{ringless-head}
use Rattle.gather.proofs.Numbers.{same-test}
use Rattle.gather.proofs.Past.{head-past}
use Rattle.gather.proofs.Theorems.{ahead-ringless}
use Rattle.tables.specs.Runs.{total, held}
use Rattle.combine.specs.Counting.{nextOf, once, more, countSuccess, countSection, countSections, countJump, countJumps, countsOf, headBy}
use Rattle.combine.specs.Held.{Full, allHeld}
use Rattle.combine.proofs.Back.{holds-tell}
use Rattle.combine.proofs.Counted.{hits, nexts-nil, nexts-cons, refsNexts, refsJumps, refs-are}
use Rattle.combine.proofs.Tells.{tell-total}
use Rattle.combine.proofs.Standing.{all-stand}

-- the successor of a section's word
abbrev wordNext : ℕ → SectionOrLine
wordNext w = successOf (wordRun w)

-- ---- the count of t's references, of n sections

module _ (n t : ℕ) where
  -- in c it is k, up to two
  record Counts (c : List ℕ) (k : ℕ) : Type 0 where
    long : length c ≡ n
    count : t < n → get_or c t 0 ≡ min k 2

  module _ (c : List ℕ) (k : ℕ) (h : Counts c k) where
    set-counts : (v a e : ℕ) → (v ≡ t → t < n → a ≡ min (suc e + k) 2) → Counts (set c v a) (cond (eqb v t) (suc e) 0 + k)
    set-counts v a e q = record { long = length-set c v a ∙ h.long; count = λ p. grind (arith, get_or-set_at, get_or-set_other, h.long, h.count p, q) }

    count-once : (v : ℕ) → Counts (once v c) (hit v t + k)
    count-once v = set-counts v _ 0 (λ e p. rw (e, h.count p) (grind arith))

    count-more : (v : ℕ) → Counts (more v c) (cond (eqb v t) 2 0 + k)
    count-more v = set-counts v 2 1 (λ e p. omega arith)

    -- section u's successor, the start of a line at u, and a jump
    count-next : (u : ℕ) (y : SectionOrLine) → Counts (countSuccess u (nextOf y) c) (refsNext t y + cond (eqb u t) (refsNext t y) 0 + k)
    count-next u unfixed = subst (Counts c) (grind arith) h
    count-next u (section v) = go (eqb v u) refl
      where
        go : (b : Bool) → eqb v u ≡ b → Counts (cond b (more v c) (once v c)) (hit v t + cond (eqb u t) (hit v t) 0 + k)
        go true e = rw (eqb-true v u e) (subst (Counts (more u c)) (grind arith) (count-more u))
        go false e = subst (Counts (once v c)) (grind (arith, eqb-false v u e)) (count-once v)
    count-next u (line r) = subst (Counts c) (grind arith) h

    count-start : (u : ℕ) (b : Bool) → Counts (cond b (more u c) c) (cond (eqb u t) (cond b 2 0) 0 + k)
    count-start u true = count-more u
    count-start u false = subst (Counts c) (grind arith) h

    count-jump : (o : Option ℕ) → Counts (countJump o c) (hits t o + hits t o + k)
    count-jump none = subst (Counts c) (omega arith) h
    count-jump (some v) = subst (Counts (more v c)) (grind arith) (count-more v)

  -- what counts beyond the references: t's own word once more, and two where a line starts there,
  abbrev own : ℕ → ℕ
  own w = cond (isOne (wordRun w).lineStart) 2 0 + refsNext t (wordNext w)

  -- among the words from section u on
  abbrev owns : ℕ → List ℕ → ℕ
  owns u [] = 0
  owns u (w ∷ ws) = cond (eqb u t) (own w) 0 + owns (suc u) ws

  owns-past : (u : ℕ) (ws : List ℕ) → t < u → owns u ws ≡ 0
  owns-past u [] h = refl
  owns-past u (w ∷ ws) h = rw (ne_eqb u t (λ e. omega arith), owns-past (suc u) ws (omega arith))

  owns-at : (u d : ℕ) (ws : List ℕ) → u + d ≡ t → d < length ws → owns u ws ≡ own (get_or ws d 0)
  owns-at u d [] e h = absurd (omega arith)
  owns-at u zero (w ∷ ws) e h = rw (eq-eqb u t (omega arith), owns-past (suc u) ws (omega arith)) (omega arith)
  owns-at u (suc d) (w ∷ ws) e h = rw (ne_eqb u t (λ z. omega arith)) (omega (arith, owns-at (suc u) d ws (omega arith) (omega arith)))

  count-section : (u w : ℕ) (c : List ℕ) (k : ℕ) → Counts c k → Counts (countSection u w c) (refsNext t (wordNext w) + cond (eqb u t) (own w) 0 + k)
  unfolding countSection
  count-section u w c k h =
      let l = isOne (wordRun w).lineStart in
      subst (Counts (countSection u w c)) (grind arith) (count-next (cond l (more u c) c) (cond (eqb u t) (cond l 2 0) 0 + k) (count-start c k h u l) u (wordNext w))

  count-sections : (u : ℕ) (ws c : List ℕ) (k : ℕ) → Counts c k → Counts (countSections u ws c) (owns u ws + refsNexts t ws + k)
  unfolding countSections
  count-sections u [] c k h = subst (Counts c) (omega (arith, nexts-nil t)) h
  count-sections u (w ∷ ws) c k h =
      subst (Counts (countSections u (w ∷ ws) c)) (omega (arith, nexts-cons t w ws)) (count-sections (suc u) ws (countSection u w c) _ (count-section u w c k h))

  count-jumps : (ws c : List ℕ) (k : ℕ) → Counts c k → Counts (countJumps ws c) (refsJumps t ws + refsJumps t ws + k)
  unfolding countJumps refsJumps
  count-jumps [] c k h = subst (Counts c) (omega arith) h
  count-jumps (w ∷ ws) c k h =
      let o = getSection (wordIns w) in
      subst (Counts (countJumps (w ∷ ws) c)) (omega arith) (count-jumps ws (countJump o c) _ (count-jump c k h o))

-- ---- words that go on to t

goes-to : (t : ℕ) (y : SectionOrLine) → 0 < refsNext t y → y ≡ section t
goes-to t unfixed h = absurd (omega arith)
goes-to t (section v) h = ap section (grind arith)
goes-to t (line r) h = absurd (omega arith)

-- each is counted
one-next : (t x : ℕ) (ws : List ℕ) → x < length ws → refsNext t (wordNext (get_or ws x 0)) ≤ refsNexts t ws
one-next t x [] h = absurd (omega arith)
one-next t zero (w ∷ ws) h = omega (arith, nexts-cons t w ws)
one-next t (suc x) (w ∷ ws) h = omega (arith, nexts-cons t w ws, one-next t x ws (omega arith))

-- and where any is, there is one
some-next : (t : ℕ) (ws : List ℕ) → 0 < refsNexts t ws → (x : ℕ) × (x < length ws) × (0 < refsNext t (wordNext (get_or ws x 0)))
some-next t [] h = absurd (omega (arith, nexts-nil t))
some-next t (w ∷ ws) h = go (lt-or-le 0 (refsNext t (wordNext w))) (some-next t ws)
  where
    go : (0 < refsNext t (wordNext w)) ⊎ (refsNext t (wordNext w) ≤ 0)
        → (0 < refsNexts t ws → (x : ℕ) × (x < length ws) × (0 < refsNext t (wordNext (get_or ws x 0))))
        → (x : ℕ) × (x < length (w ∷ ws)) × (0 < refsNext t (wordNext (get_or (w ∷ ws) x 0)))
    go (inl p) ih = (0, omega arith, p)
    go (inr p) ih = let (x, l, q) = ih (omega (arith, nexts-cons t w ws)) in (suc x, omega arith, q)

-- ---- the heads

-- a count of one: k of the successors and j jumps, r of t's own word and b where a line starts there
only-one : (b : Bool) (r k j : ℕ) → r ≤ k → min (j + j + (cond b 2 0 + r + k)) 2 ≡ 1 → (b ≡ false) × (r ≡ 0) × (k + j ≡ 1) × (0 < k)
only-one true r k j h e = absurd (omega arith)
only-one false r k j h e = (refl, omega arith, omega arith, omega arith)

module _ (s i : List ℕ) (h : Full s i) where
  abbrev n : ℕ
  n = length s

  abbrev marks : List ℕ
  marks = countsOf s i

  abbrev m : List SectionCode
  m = allHeld s i

  counts-are : (t : ℕ) → Counts n t marks (refsJumps t i + refsJumps t i + (owns n t 0 s + refsNexts t s + 0))
  counts-are t =
      count-jumps n t i (countSections 0 s (replicate n 0)) _ (count-sections n t 0 s (replicate n 0) 0 (record { long = length-replicate n 0; count = λ p. get_or-replicate n t 0 0 p }))

  pub counts-long : length (countsOf s i) ≡ length s
  counts-long = (counts-are 0).long

  -- the runs cover the instructions
  covered : total s ≡ length i
  covered = ap total (sym (take-length s) ∙ h.sections) ∙ (tell-total _ m (holds-tell s i n (length i) m h) ∙ h.code)

  all-refs : (t : ℕ) → refs t m ≡ refsNexts t s + refsJumps t i
  unfolding held
  all-refs t = rw (take-length s, take-length i) (refs-are t s i covered)

  next-is : (x : ℕ) → x < n → (get_or m x absent).success ≡ wordNext (get_or s x 0)
  next-is x p = sym (all-stand s i h x (omega (arith, h.count))).success

  module _ (t : ℕ) (p : t < n) where
    start-is : (get_or m t absent).lineStart ≡ isOne (wordRun (get_or s t 0)).lineStart
    start-is = sym (all-stand s i h t (omega (arith, h.count))).start

    count-is : get_or marks t 0 ≡ min (refsJumps t i + refsJumps t i + (own n t (get_or s t 0) + refsNexts t s)) 2
    count-is = omega (arith, (counts-are t).count p, owns-at n t 0 t s (omega arith) p)

    -- t's one reference is the successor of another section, which takes it in
    then-linked : eqb (get_or marks t 0) 1 ≡ true → linked (next m) (length m) t ≡ true
    then-linked e =
        let y = wordNext (get_or s t 0) in
        let (b, r, a, k) = only-one (isOne (wordRun (get_or s t 0)).lineStart) (refsNext t y) (refsNexts t s) (refsJumps t i) (one-next t t s p) (sym count-is ∙ eqb-true (get_or marks t 0) 1 e) in
        let (x, l, z) = some-next t s k in
        let pair : Pair m x t = record {
          succ = next-is x l ∙ goes-to t (wordNext (get_or s x 0)) z;
          apart = λ q. (let u = ap (λ (v : ℕ). refsNext t (wordNext (get_or s v 0))) q in omega arith);
          inner = start-is ∙ b;
          once = all-refs t ∙ a;
        } in
        linked-of (next m) (length m) t x (omega (arith, h.count)) (of-pair m x t pair)

    -- and one that takes it in is its one reference
    linked-once : linked (next m) (length m) t ≡ true → eqb (get_or marks t 0) 1 ≡ true
    linked-once e =
        let (x, l, z) = linked-is (next m) (length m) t e in
        let q = to-pair m x t z in
        let k : x < n = omega (arith, h.count) in
        let r : refsNext t (wordNext (get_or s t 0)) ≡ 0 = omega (arith, ap (refsNext t) (next-is t p), refs-other m x t q t (λ a. q.apart (sym a))) in
        let a : refsNexts t s + refsJumps t i ≡ 1 = sym (all-refs t) ∙ q.once in
        let o : 1 ≤ refsNexts t s = omega (arith, one-next t x s k, ap (refsNext t) (sym (next-is x k) ∙ q.succ), hit-self t) in
        let b : isOne (wordRun (get_or s t 0)).lineStart ≡ false = sym start-is ∙ q.inner in
        eq-eqb (get_or marks t 0) 1 (count-is ∙ rw b (omega arith))

  head-is : allAhead m 0 m ≡ true → (t : ℕ) → headBy marks t ≡ head m t
  head-is a t = go (lt-or-le t n)
    where
      go : (t < n) ⊎ (n ≤ t) → headBy marks t ≡ head m t
      go (inl p) = ap not (same-test (eqb (get_or marks t 0) 1) (linked (next m) (length m) t) (then-linked t p) (linked-once t p)) ∙ sym (ringless-head m (ahead-ringless m a) t)
      go (inr p) = rw (get_or_past marks t 0 (omega (arith, (counts-are t).long))) (sym (head-past m t (omega (arith, h.count))))

-- The counts of references tell the heads.
pub marks-are : (s i : List ℕ) → Full s i → allAhead (allHeld s i) 0 (allHeld s i) ≡ true → headBy (countsOf s i) ≡ head (allHeld s i)
marks-are s i h a = fun_ext (head-is s i h a)
