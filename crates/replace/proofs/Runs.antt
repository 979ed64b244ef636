-- A run replaced, one turn after the other: what is done, then what is left to do, is all that was to do. Assumes nothing.
use mathlib.Core.Path.{◌≡◌, refl, sym, ap, ◌∙◌}
use mathlib.Core.List.{List, [], ◌∷◌, ◌++◌, map, append_assoc, append-nil}
use Prim.Native.Nat.{ℕ, ◌+◌, ◌≤◌, ◌<◌}
use native.Mathlib.Omega.{arith}
use native.Mathlib.Numerals.{add-one}
use lib.IntN.{ℤ}
use lib.ListN.{length, take, drop, get_or, length-append, length-map}
use lib.Seq.{slice, slice-cons, slice_empty, length-take-le}
use Rattle.rules.specs.Instr.{Instruction}
use Rattle.rules.specs.Word.{wordIns, insWord}
use Rattle.rules.specs.Replace.{Regs, replaceIns, replaceCode}
use Rattle.std.proofs.lemmas.List.{map-append}
use Rattle.tables.proofs.InPlace.{drop-later, head-same}
use Rattle.replace.specs.Pass.{numberOf, stringOf, sums, regsOf, Plain, Spare, Stepped, Open, Ran}
use Rattle.replace.proofs.Adding.{sums-nil, sums-cons}

-- words taken from two lists, by their counts
taken-count : (b b₀ : ℕ) (i is : List ℕ) (xs : List Instruction) → take b i ≡ take b₀ is ++ map insWord xs → b ≤ length i → b₀ ≤ length is → b ≡ b₀ + length xs
taken-count b b₀ i is xs e h k = sym (length-take-le b i h) ∙ ap length e ∙ simp (length-append, length-map) (ap (λ (n : ℕ). n + length xs) (length-take-le b₀ is k))

-- is, ns, ts are the tables at the start, i, k, t those now; j instructions are read, b done, n numbers and s strings
pub record Running (p : ℕ) (is : List ℕ) (ns : List ℤ) (ts : List ℕ) (b₀ n₀ s₀ from to : ℕ) (i : List ℕ) (k : List ℤ) (t : List ℕ) (j b n s : ℕ) : Type 0 where
  pub code : take b i ++ map insWord (replaceCode p (regsOf k t n s) (map wordIns (slice j to is))).0 ≡ take b₀ is ++ map insWord (replaceCode p (regsOf ns ts n₀ s₀) (map wordIns (slice from to is))).0
  pub regs : (replaceCode p (regsOf k t n s) (map wordIns (slice j to is))).1 ≡ (replaceCode p (regsOf ns ts n₀ s₀) (map wordIns (slice from to is))).1
  pub rest : drop j i ≡ drop j is
  pub number-rest : drop n k ≡ drop n ns
  pub string-rest : drop s t ≡ drop s ts
  pub plain : Plain ts s₀ → Plain t s
  pub number-left : n + sums numberOf (slice j to is) ≡ n₀ + sums numberOf (slice from to is)
  pub string-left : s + sums stringOf (slice j to is) ≡ s₀ + sums stringOf (slice from to is)
  pub b-j : b ≤ j
  pub j-to : j ≤ to
  pub i-len : length i ≡ length is
  pub k-len : length k ≡ length ns
  pub t-len : length t ≡ length ts

module _ (p : ℕ) (is : List ℕ) (ns : List ℤ) (ts : List ℕ) (b₀ n₀ s₀ from to : ℕ) (o : Open is ns ts b₀ n₀ s₀ from to) where
  pub run_begins : Running p is ns ts b₀ n₀ s₀ from to is ns ts from b₀ n₀ s₀
  run_begins = record {
    code = refl;
    regs = refl;
    rest = refl;
    number-rest = refl;
    string-rest = refl;
    plain = λ h. h;
    number-left = refl;
    string-left = refl;
    b-j = o.behind;
    j-to = o.ordered;
    i-len = refl;
    k-len = refl;
    t-len = refl;
  }

  module _ (i : List ℕ) (k : List ℤ) (t : List ℕ) (j b n s : ℕ) (r : Running p is ns ts b₀ n₀ s₀ from to i k t j b n s) where
    pub run_ends : to ≤ j → Ran is ns ts i k t p b₀ n₀ s₀ b n s from to
    run_ends h =
        let a = r.j-to in
        let c = r.b-j in
        let l = r.i-len in
        let q = o.within in
        let u = o.behind in
        let z : j ≡ to = omega arith in
        let e : slice j to is ≡ [] = rw z (slice_empty to is) in
        let x : n ≡ n₀ + sums numberOf (slice from to is) = let y = r.number-left in let v : sums numberOf (slice j to is) ≡ 0 = rw e (sums-nil numberOf) in omega arith in
        let w : s ≡ s₀ + sums stringOf (slice from to is) = let y = r.string-left in let v : sums stringOf (slice j to is) ≡ 0 = rw e (sums-nil stringOf) in omega arith in
        record {
          code = rw (e, append-nil) at r.code;
          regs = rw e at r.regs;
          rest = rw z at r.rest;
          number-rest = r.number-rest;
          string-rest = r.string-rest;
          plain = r.plain;
          number-count = x;
          string-count = w;
          count = let f : b ≤ length i = omega arith in let g : b₀ ≤ length is = omega arith in taken-count b b₀ i is (replaceCode p (regsOf ns ts n₀ s₀) (map wordIns (slice from to is))).0 (rw (e, append-nil) at r.code) f g;
          shorter = omega arith;
        }

    module _ (h : j < to) where
      j-len : to ≤ length is
      j-len = o.within

      same : get_or i j 0 ≡ get_or is j 0
      same = head-same j i is r.rest

      next : slice j to is ≡ get_or i j 0 ∷ slice (j + 1) to is
      next = rw (same, add-one) (slice-cons j to is 0 h j-len)

      left-numbers : n + (numberOf (get_or i j 0) + sums numberOf (slice (j + 1) to is)) ≡ n₀ + sums numberOf (slice from to is)
      left-numbers = rw (next, sums-cons) at r.number-left

      left-strings : s + (stringOf (get_or i j 0) + sums stringOf (slice (j + 1) to is)) ≡ s₀ + sums stringOf (slice from to is)
      left-strings = rw (next, sums-cons) at r.string-left

      pub run-spare : Spare i k t b n s (get_or i j 0)
      run-spare =
          let a = r.b-j in
          let x = r.i-len in
          let y = r.k-len in
          let z = r.t-len in
          let c = left-numbers in
          let d = left-strings in
          let e = o.within in
          let f = o.numbers in
          let g = o.numbers-few in
          let u = o.strings in
          let v = o.strings-few in
          record { instr = omega arith; numbers = omega arith; numbers-few = omega arith; strings = omega arith; strings-few = omega arith }

      module _ (i' : List ℕ) (k' : List ℤ) (t' : List ℕ) (b' n' s' : ℕ) (d : Stepped i k t i' k' t' p b n s b' n' s' (get_or i j 0)) (il : length i' ≡ length i) (kl : length k' ≡ length k) (tl : length t' ≡ length t) where
        -- what is left of the code, by the first of it
        abbrev first : List Instruction × Regs
        first = replaceIns p (regsOf k t n s) (wordIns (get_or i j 0))

        abbrev others : Regs → List Instruction × Regs
        others q = replaceCode p q (map wordIns (slice (j + 1) to is))

        code-is : take b i ++ map insWord (first.0 ++ (others first.1).0) ≡ take b₀ is ++ map insWord (replaceCode p (regsOf ns ts n₀ s₀) (map wordIns (slice from to is))).0
        code-is = rw next at r.code

        regs-are : (others first.1).1 ≡ (replaceCode p (regsOf ns ts n₀ s₀) (map wordIns (slice from to is))).1
        regs-are = rw next at r.regs

        pub run-more : Running p is ns ts b₀ n₀ s₀ from to i' k' t' (j + 1) b' n' s'
        run-more =
            let a = r.b-j in
            let x = left-numbers in
            let y = left-strings in
            let u = d.number-count in
            let v = d.string-count in
            let m = d.shorter in
            let c : b + 1 ≤ j + 1 = omega arith in
            let e : n ≤ n' = omega arith in
            let f : s ≤ s' = omega arith in
            let g : j ≤ j + 1 = omega arith in
            record {
              code =
                  ap (λ (l : List ℕ). l ++ map insWord (others (regsOf k' t' n' s')).0) d.code
                  ∙ ap (λ (q : Regs). (take b i ++ map insWord first.0) ++ map insWord (others q).0) d.regs
                  ∙ append_assoc (take b i) (map insWord first.0) (map insWord (others first.1).0)
                  ∙ ap (λ (l : List ℕ). take b i ++ l) (sym (map-append insWord first.0 (others first.1).0))
                  ∙ code-is;
              regs = ap (λ (q : Regs). (others q).1) d.regs ∙ regs-are;
              rest = drop-later (b + 1) (j + 1) i' i d.rest c ∙ drop-later j (j + 1) i is r.rest g;
              number-rest = d.number-rest ∙ drop-later n n' k ns r.number-rest e;
              string-rest = d.string-rest ∙ drop-later s s' t ts r.string-rest f;
              plain = λ h. d.plain (r.plain h);
              number-left = omega arith;
              string-left = omega arith;
              b-j = omega arith;
              j-to = omega arith;
              i-len = il ∙ r.i-len;
              k-len = kl ∙ r.k-len;
              t-len = tl ∙ r.t-len;
            }
