-- The turns of the loop that writes heads out. Assumes that the words are a machine's when it begins.
use Rattle.std.specs.Prelude.{◌≡◌, refl, ◌⊎◌, Bool, true, false, List, [], ◌∷◌, ◌++◌, map, ℕ, ◌+◌, ◌-◌, ◌≤◌, ◌<◌, length, get_or, set}
use Rattle.std.proofs.Common.{sym, ap, ap₂, ◌∙◌, inl, inr, zero-add, arith, length-append}
use Rattle.std.proofs.lemmas.Bool.{false≢true}
use Rattle.std.proofs.lemmas.List.{length-map, map-append, append-nil}
use Rattle.std.proofs.Math.Option.{Option, none, some}
use Rattle.std.proofs.Math.Seq.{get_or-set_same, get_or-set_other}
use Rattle.rules.specs.Constants.{mostCount}
use Rattle.rules.specs.Word.{insWord, wordRun, runWord}
use Rattle.rules.specs.Machine.{SectionCode, absent}
use Rattle.rules.specs.Tables.{successOf, runWords, allCode, sectionRun}
use Rattle.rules.specs.Clean.{renIns}
use Rattle.laws.specs.Sections.{words-nil, words-cons, words-append, code-nil, code-cons, code-append}
use Rattle.gather.specs.Gather.{link, head, newNumber, chainOf, whole, pick, gather}
use Rattle.gather.proofs.Follow.{chain-last, chain-goes}
use Rattle.combine.specs.declared.store.Places.{Places}
use Rattle.combine.specs.declared.chains.Chains.{Chains}
use Rattle.combine.specs.declared.numbers.NewNumbers.{NewNumbers}
use Rattle.combine.specs.Counting.{headBy}
use Rattle.combine.specs.Numbers.{numberBy}
use Rattle.combine.specs.Stores.{HasRoom, Stores}
use Rattle.combine.specs.Chains.{codeWords, headWord, Stands, ChainStands}
use Rattle.combine.specs.Writes.{HeadsReady, HeadsWritten}
use Rattle.combine.proofs.Picks.{pick-more, pick-same, pick-append, pick-alike}
use Rattle.combine.proofs.Stores.{stores-none, stores-seq, stores-as, stores-size}

-- ---- one section

-- a chain starts a line where its first section does
chain-start : (m : List SectionCode) (t : ℕ) → (chainOf m t).lineStart ≡ (get_or m t absent).lineStart
chain-start m t = go (link m t) refl
  where
    go : (o : Option ℕ) → link m t ≡ o → (chainOf m t).lineStart ≡ (get_or m t absent).lineStart
    go none e = ap (λ (s : SectionCode). s.lineStart) (chain-last m t e)
    go (some v) e = ap (λ (s : SectionCode). s.lineStart) (chain-goes m t v e)

-- where its word stays, a section stands as it did
stands-same : (m : List SectionCode) (s s' c : List ℕ) (u : ℕ) → get_or s' u 0 ≡ get_or s u 0 → Stands m s c u → Stands m s' c u
stands-same m s s' c u e h = record { start = rw e h.start; success = rw e h.success; code = rw e h.code; inside = rw e h.inside }

-- ---- the turns

-- the heads below t are written, and the sections that are still read stand as they did
pub record Writing (m : List SectionCode) (s : List ℕ) (p p' : Places) (code : List ℕ) (t : ℕ) : Type 0 where
  pub stored : Stores p p' (map insWord (allCode (pick (head m) (whole m) 0 t)))
  pub words : pick (head m) (λ u. get_or s u 0) 0 t ≡ runWords 0 (pick (head m) (whole m) 0 t)
  pub stands : (u : ℕ) → u < length m → (t ≤ u) ⊎ (head m u ≡ false) → Stands m s code u

module _ (m : List SectionCode) (s₀ : List ℕ) (p : Places) (code counts : List ℕ) (n : NewNumbers) (r : HeadsReady m s₀ p code counts n) where
  pub writing-starts : Writing m s₀ p p code 0
  writing-starts = record { stored = stores-as (stores-none p) (rw code-nil refl); words = rw words-nil refl; stands = λ u h o. r.stands u h }

  module _ (s : List ℕ) (p' : Places) (t : ℕ) (w : Writing m s p p' code t) where
    -- the heads so far, and what their code takes
    abbrev done : List SectionCode
    done = pick (head m) (whole m) 0 t

    next-is : p'.next ≡ length (allCode done)
    next-is = omega (arith, w.stored.next, r.none-stored, length-map (allCode done) insWord)

    module _ (h : t < length m) where
      pub writing-taken : headBy counts t ≡ false → Writing m s p p' code (t + 1)
      writing-taken e =
          let q : head m t ≡ false = ap (λ (f : ℕ → Bool). f t) (sym r.prepared.marks) ∙ e in
          let d = sym (pick-same (head m) (whole m) t q) in
          record {
            stored = stores-as w.stored (ap (λ (x : List SectionCode). map insWord (allCode x)) d);
            words = pick-same (head m) (λ u. get_or s u 0) t q ∙ (w.words ∙ ap (runWords 0) d);
            stands = λ u k o. w.stands u k (later u o);
          }
        where
          later : (u : ℕ) → (t + 1 ≤ u) ⊎ (head m u ≡ false) → (t ≤ u) ⊎ (head m u ≡ false)
          later u (inl a) = inl (omega arith)
          later u (inr a) = inr a

      module _ (e : headBy counts t ≡ true) where
        is-head : head m t ≡ true
        is-head = ap (λ (f : ℕ → Bool). f t) (sym r.prepared.marks) ∙ e

        more : pick (head m) (whole m) 0 (t + 1) ≡ done ++ (whole m t ∷ [])
        more = pick-more (head m) (whole m) t is-head

        code-more : allCode (pick (head m) (whole m) 0 (t + 1)) ≡ allCode done ++ (whole m t).instrs
        code-more = ap allCode more ∙ (code-append done (whole m t ∷ []) ∙ ap (λ (x : List _). allCode done ++ x) (code-cons (whole m t) [] ∙ rw code-nil (append-nil (whole m t).instrs)))

        -- what the chain is stored with
        pub chain-stands : (x : Chains) → x.sections.now ≡ s → x.code.now ≡ code → x.counts.now ≡ counts → x.numbers ≡ n → length s ≡ length s₀ → ChainStands m x t
        chain-stands x a b c d l =
            record {
              prepared = rw (c, d) r.prepared;
              size = rw a (r.size ∙ sym l);
              there = h;
              stands = λ u k o. rw (a, b) (w.stands u k (on u o));
            }
          where
            on : (u : ℕ) → (u ≡ t) ⊎ (head m u ≡ false) → (t ≤ u) ⊎ (head m u ≡ false)
            on u (inl z) = inl (omega arith)
            on u (inr z) = inr z

        -- all that is gathered begins with what is done, and the chain of t
        whole-begins : length (allCode done) + length (whole m t).instrs ≤ length (allCode (gather m))
        unfolding gather
        whole-begins =
            let k : length m ≡ (t + 1) + (length m - (t + 1)) = omega arith in
            let a = pick-append (head m) (whole m) 0 (t + 1) (length m - (t + 1)) in
            let b = ap (λ (x : ℕ). pick (head m) (whole m) 0 x) k ∙ a in
            omega (arith, ap (λ (x : List SectionCode). length (allCode x)) b, ap length (code-append (pick (head m) (whole m) 0 (t + 1)) (pick (head m) (whole m) (0 + (t + 1)) (length m - (t + 1)))), ap length code-more, length-append (allCode done) (whole m t).instrs, length-append (allCode (pick (head m) (whole m) 0 (t + 1))) (allCode (pick (head m) (whole m) (0 + (t + 1)) (length m - (t + 1)))))

        chain-length : length (codeWords m (chainOf m t)) ≡ length (whole m t).instrs
        chain-length = length-map (map (renIns (newNumber m)) (chainOf m t).instrs) insWord

        pub chain-room : HasRoom p' (codeWords m (chainOf m t))
        chain-room = omega (arith, whole-begins, chain-length, next-is, r.room, stores-size w.stored)

        module _ (p'' : Places) (x : Stores p' p'' (codeWords m (chainOf m t))) where
          pub end-short : (p'.next ≤ p''.next) × (p''.next ≤ mostCount)
          end-short = (omega (arith, x.next), omega (arith, x.next, whole-begins, chain-length, next-is, r.room, r.short))

          module _ (last v : ℕ) (a : successOf (wordRun (get_or s last 0)) ≡ (chainOf m t).success) (b : v ≡ headWord (numberBy n.numbers.now n.heads) (get_or s t 0) (get_or s last 0) p'.next p''.next) (l : length s ≡ length s₀) where
            word-is : v ≡ runWord (sectionRun (whole m t) (length (allCode done)))
            unfolding headWord
            word-is =
                let z : p''.next - p'.next ≡ length (whole m t).instrs = omega (arith, x.next, chain-length) in
                let y = (w.stands t h (inl (omega arith))).start ∙ sym (chain-start m t) in
                b ∙ rw (y, a, z, next-is, r.prepared.numbers) refl

            here : t < length s
            here = omega (arith, r.size)

            kept : (u : ℕ) → (u ≡ t → ⊥) → get_or (set s t v) u 0 ≡ get_or s u 0
            kept u ne = get_or-set_other s t u v 0 ne

            pub writing-head : Writing m (set s t v) p p'' code (t + 1)
            writing-head =
                record {
                  stored = stores-as (stores-seq w.stored x) (sym (ap (map insWord) code-more ∙ map-append insWord (allCode done) (whole m t).instrs));
                  words =
                      pick-more (head m) (λ u. get_or (set s t v) u 0) t is-head
                      ∙ ap₂ (λ (y : List ℕ) (z : ℕ). y ++ (z ∷ [])) (pick-alike (head m) (λ u. get_or (set s t v) u 0) (λ u. get_or s u 0) 0 t (λ u k. kept u (λ q. omega arith)) ∙ w.words) (get_or-set_same s t v 0 here ∙ word-is)
                      ∙ sym (ap (runWords 0) more ∙ (words-append 0 done (whole m t ∷ []) ∙ rw (words-cons, words-nil, zero-add) refl));
                  stands = λ u k o. stands-same m s (set s t v) code u (kept u (other u o)) (w.stands u k (later u o));
                }
              where
                later : (u : ℕ) → (t + 1 ≤ u) ⊎ (head m u ≡ false) → (t ≤ u) ⊎ (head m u ≡ false)
                later u (inl a) = inl (omega arith)
                later u (inr a) = inr a

                other : (u : ℕ) → (t + 1 ≤ u) ⊎ (head m u ≡ false) → u ≡ t → ⊥
                other u (inl a) z = omega arith
                other u (inr a) z = false≢true (sym a ∙ (ap (head m) z ∙ is-head))

    pub writing-done : length m ≤ t → t ≤ length m → HeadsWritten m s p p'
    unfolding gather
    writing-done h k = let z : length m ≡ t = omega arith in record { code = rw z w.stored; words = rw z w.words }
