-- Sections replaced, one turn after the other: what is done, then what is left to do, is all that was to do. Assumes nothing.
use mathlib.Core.Path.{◌≡◌, refl, sym, ap, ◌∙◌}
use mathlib.Core.Bool.{Bool}
use mathlib.Core.List.{List, [], ◌∷◌, ◌++◌, map, append_assoc, append-nil}
use Prim.Native.Nat.{ℕ, ◌+◌, ◌-◌, ◌≤◌, ◌<◌}
use native.Mathlib.Omega.{arith}
use native.Mathlib.Numerals.{add-one}
use lib.IntN.{ℤ, pos}
use lib.ListN.{length, take, drop, get_or, set, replicate, length-map, length-set, get_or-append, take-append-drop}
use lib.Seq.{slice, slice-cons, slice_empty, append_snoc, drop-drop, drop-set-lt, take-take, length-take-le}
use Rattle.rules.specs.Bits.{isOne}
use Rattle.rules.specs.Instr.{Instruction}
use Rattle.rules.specs.Word.{wordRun, runWord, wordIns, insWord, spanWord, wordSpan}
use Rattle.rules.specs.Machine.{SectionOrLine, SectionCode}
use Rattle.rules.specs.Tables.{successOf, readSections, sectionRun, runWords, allCode, runOf}
use Rattle.rules.specs.Replace.{Regs, replaceCode, withCode, replaceSections}
use Rattle.laws.specs.Sections.{words-nil, words-cons, words-length, code-nil, code-cons, replaced-length}
use Rattle.std.proofs.lemmas.List.{map-append}
use Rattle.tables.specs.Runs.{countOf, total, sectionOf, held}
use Rattle.tables.proofs.InPlace.{set-taken, drop-take, drop-later, head-same}
use Rattle.tables.proofs.Read.{read-nil, read-cons, read-length, word-is, count-is, total-nil, total-cons}
use Rattle.tables.proofs.Change.{put-is, put-over}
use Rattle.replace.specs.Pass.{numberOf, stringOf, sums, regsOf, Plain, Open, Ran, wholeOf, Ready, Rewritten, Rewrote}
use Rattle.replace.proofs.Adding.{sums-append}

-- j sections read, a instructions; b instructions done, k numbers, s strings
pub record Replacing (ss is : List ℕ) (ns : List ℤ) (ts : List ℕ) (n e k₀ s₀ p : ℕ) (ss' is' : List ℕ) (ns' : List ℤ) (ts' : List ℕ) (j a b k s : ℕ) : Type 0 where
  pub sections : take j ss' ++ runWords b (replaceSections p (regsOf ns' ts' k s) (readSections (slice j n ss) (slice a e is))).0 ≡ runWords 0 (wholeOf ss is ns ts n e k₀ s₀ p).0
  pub code : take b is' ++ map insWord (allCode (replaceSections p (regsOf ns' ts' k s) (readSections (slice j n ss) (slice a e is))).0) ≡ map insWord (allCode (wholeOf ss is ns ts n e k₀ s₀ p).0)
  pub regs : (replaceSections p (regsOf ns' ts' k s) (readSections (slice j n ss) (slice a e is))).1 ≡ (wholeOf ss is ns ts n e k₀ s₀ p).1
  pub section-rest : drop j ss' ≡ drop j ss
  pub rest : drop a is' ≡ drop a is
  pub number-rest : drop k ns' ≡ drop k ns
  pub string-rest : drop s ts' ≡ drop s ts
  pub plain : Plain ts' s
  pub left : a + total (slice j n ss) ≡ e
  pub number-left : k + sums numberOf (slice a e is) ≡ k₀ + sums numberOf (take e is)
  pub string-left : s + sums stringOf (slice a e is) ≡ s₀ + sums stringOf (take e is)
  pub b-a : b ≤ a
  pub j-n : j ≤ n
  pub more-numbers : k₀ ≤ k
  pub more-strings : s₀ ≤ s
  pub ss-len : length ss' ≡ length ss
  pub is-len : length is' ≡ length is
  pub ns-len : length ns' ≡ length ns
  pub ts-len : length ts' ≡ length ts

module _ (ss is : List ℕ) (ns : List ℤ) (ts : List ℕ) (n e k₀ s₀ p : ℕ) (o : Ready ss is ns ts n e k₀ s₀ p) where
  pub sections-begin : Replacing ss is ns ts n e k₀ s₀ p ss is ns ts 0 0 0 k₀ s₀
  unfolding held
  sections-begin =
      let c = o.covered in
      record {
        sections = refl;
        code = refl;
        regs = refl;
        section-rest = refl;
        rest = refl;
        number-rest = refl;
        string-rest = refl;
        plain = o.plain;
        left = omega arith;
        number-left = refl;
        string-left = refl;
        b-a = omega arith;
        j-n = omega arith;
        more-numbers = omega arith;
        more-strings = omega arith;
        ss-len = refl;
        is-len = refl;
        ns-len = refl;
        ts-len = refl;
      }

  module _ (ss' is' : List ℕ) (ns' : List ℤ) (ts' : List ℕ) (j a b k s : ℕ) (r : Replacing ss is ns ts n e k₀ s₀ p ss' is' ns' ts' j a b k s) where
    pub sections-end : n ≤ j → Rewritten ss is ns ts ss' is' ns' ts' n e k₀ s₀ p b k s
    sections-end h =
        let x = r.j-n in
        let y = r.b-a in
        let z : j ≡ n = omega arith in
        let f : slice j n ss ≡ [] = rw z (slice_empty n ss) in
        let g : total (slice j n ss) ≡ 0 = rw f total-nil in
        let l = r.left in
        let d : a ≡ e = omega arith in
        record {
          sections = rw (f, read-nil, words-nil, append-nil, z) at r.sections;
          section-rest = rw z at r.section-rest;
          instrs = rw (f, read-nil, code-nil, append-nil) at r.code;
          instr-rest = rw d at r.rest;
          regs = rw (f, read-nil) at r.regs;
          number-rest = r.number-rest;
          string-rest = r.string-rest;
          plain = r.plain;
          shorter = omega arith;
          more-numbers = r.more-numbers;
          more-strings = r.more-strings;
        }

    module _ (h : j < n) (word : ℕ) (word-at : word ≡ get_or ss' j 0) (c : ℕ) (c-is : c ≡ (wordRun word).count) where
      same : word ≡ get_or ss j 0
      same = word-at ∙ head-same j ss' ss r.section-rest

      next : slice j n ss ≡ word ∷ slice (j + 1) n ss
      next = rw (same, add-one) (slice-cons j n ss 0 h o.sections)

      counted : countOf word ≡ c
      counted = sym (c-is ∙ count-is word)

      left-now : a + (c + total (slice (j + 1) n ss)) ≡ e
      left-now = rw (next, total-cons, counted) at r.left

      pub fits : a + c ≤ e
      fits = let x = left-now in omega arith

      fits-less : c ≤ e - a
      fits-less = let x = fits in omega arith

      -- the run, in the words at the start and in those now
      run-is : take c (slice a e is) ≡ slice a (a + c) is'
      run-is =
          let z : a + c - a ≡ c = omega arith in
          rw (drop-take a e is, take-take c (e - a) (drop a is) fits-less, drop-take a (a + c) is', z, r.rest)

      others-are : drop c (slice a e is) ≡ slice (a + c) e is
      others-are = drop-drop c a (take e is)

      split : slice a e is ≡ slice a (a + c) is' ++ slice (a + c) e is
      split = sym (take-append-drop c (slice a e is)) ∙ rw (run-is, others-are)

      numbers-now : k + (sums numberOf (slice a (a + c) is') + sums numberOf (slice (a + c) e is)) ≡ k₀ + sums numberOf (take e is)
      numbers-now = rw (split, sums-append) at r.number-left

      strings-now : s + (sums stringOf (slice a (a + c) is') + sums stringOf (slice (a + c) e is)) ≡ s₀ + sums stringOf (take e is)
      strings-now = rw (split, sums-append) at r.string-left

      pub sections-open : Open is' ns' ts' b k s a (a + c)
      sections-open =
          let x = numbers-now in
          let y = strings-now in
          let z = fits in
          let f = r.is-len in
          let g = r.ns-len in
          let m = r.ts-len in
          let q = o.instrs in
          let u = o.numbers in
          let v = o.numbers-few in
          let w = o.strings in
          let d = o.strings-few in
          record { behind = r.b-a; ordered = omega arith; within = omega arith; numbers = omega arith; numbers-few = omega arith; strings = omega arith; strings-few = omega arith }

      -- the section, by the words now
      abbrev here : SectionCode
      here = record { lineStart = isOne (wordRun word).lineStart; instrs = map wordIns (slice a (a + c) is'); success = successOf (wordRun word) }

      here-is : sectionOf word (slice a e is) ≡ here
      here-is = rw (← c-is, run-is)

      sections-are : readSections (slice j n ss) (slice a e is) ≡ here ∷ readSections (slice (j + 1) n ss) (slice (a + c) e is)
      sections-are = rw (next, read-cons, counted, others-are) (ap (λ (x : SectionCode). x ∷ readSections (slice (j + 1) n ss) (slice (a + c) e is)) here-is)

      abbrev ran : List Instruction × Regs
      ran = replaceCode p (regsOf ns' ts' k s) (map wordIns (slice a (a + c) is'))

      abbrev others : Regs → List SectionCode × Regs
      others q = replaceSections p q (readSections (slice (j + 1) n ss) (slice (a + c) e is))

      words-now : take j ss' ++ (runWord (sectionRun (withCode here ran.0) b) ∷ runWords (b + length ran.0) (others ran.1).0) ≡ runWords 0 (wholeOf ss is ns ts n e k₀ s₀ p).0
      words-now = rw (sections-are, words-cons) at r.sections

      code-now : take b is' ++ (map insWord ran.0 ++ map insWord (allCode (others ran.1).0)) ≡ map insWord (allCode (wholeOf ss is ns ts n e k₀ s₀ p).0)
      code-now = rw (sections-are, code-cons, map-append) at r.code

      regs-now : (others ran.1).1 ≡ (wholeOf ss is ns ts n e k₀ s₀ p).1
      regs-now = rw sections-are at r.regs

      module _ (is'' : List ℕ) (ns'' : List ℤ) (ts'' : List ℕ) (b'' k'' s'' : ℕ) (d : Ran is' ns' ts' is'' ns'' ts'' p b k s b'' k'' s'' a (a + c)) (il : length is'' ≡ length is') (nl : length ns'' ≡ length ns') (tl : length ts'' ≡ length ts')
          (l : Bool) (q : SectionOrLine) (m v : ℕ) (v-is : v ≡ runWord (runOf l q b m)) (l-is : l ≡ isOne (wordRun word).lineStart) (q-is : q ≡ successOf (wordRun word)) (m-is : m ≡ b'' - b) where
        m-count : m ≡ length ran.0
        m-count = let x = d.count in omega arith

        v-word : v ≡ runWord (sectionRun (withCode here ran.0) b)
        v-word = v-is ∙ word-is b (withCode here ran.0) l q m l-is q-is m-count

        j-len : n ≤ length ss'
        j-len = let x = r.ss-len in let y = o.sections in omega arith

        j-next : j < j + 1
        j-next = omega arith

        j-fits : j + 1 ≤ length ss'
        j-fits = let x = j-len in omega arith

        pub sections-more : Replacing ss is ns ts n e k₀ s₀ p (set ss' j v) is'' ns'' ts'' (j + 1) (a + c) b'' k'' s''
        sections-more =
            let x = numbers-now in
            let y = strings-now in
            let z = left-now in
            let f = d.number-count in
            let g = d.string-count in
            let t = d.shorter in
            let u : j ≤ j + 1 = omega arith in
            let w : a ≤ a + c = omega arith in
            let kk : k ≤ k'' = omega arith in
            let sk : s ≤ s'' = omega arith in
            let m1 = r.more-numbers in
            let m2 = r.more-strings in
            record {
              sections =
                  rw (set-taken ss' j (j + 1) v j-next j-fits, v-word, d.regs, d.count)
                  (append_snoc (take j ss') (runWord (sectionRun (withCode here ran.0) b)) (runWords (b + length ran.0) (others ran.1).0) ∙ words-now);
              code = rw (d.code, d.regs) (append_assoc (take b is') (map insWord ran.0) (map insWord (allCode (others ran.1).0)) ∙ code-now);
              regs = rw d.regs regs-now;
              section-rest = drop-set-lt (j + 1) ss' j v j-next ∙ drop-later j (j + 1) ss' ss r.section-rest u;
              rest = d.rest ∙ drop-later a (a + c) is' is r.rest w;
              number-rest = d.number-rest ∙ drop-later k k'' ns' ns r.number-rest kk;
              string-rest = d.string-rest ∙ drop-later s s'' ts' ts r.string-rest sk;
              plain = d.plain r.plain;
              left = omega arith;
              number-left = omega arith;
              string-left = omega arith;
              b-a = omega arith;
              j-n = omega arith;
              more-numbers = omega arith;
              more-strings = omega arith;
              ss-len = simp length-set r.ss-len;
              is-len = il ∙ r.is-len;
              ns-len = nl ∙ r.ns-len;
              ts-len = tl ∙ r.ts-len;
            }

-- a word of the counted ones, in the whole table
pub inside : (ss items : List ℕ) (n j : ℕ) → n ≤ length ss → j < length (take n ss) → length items ≡ length (take n ss) → (j < n) × (get_or items j 0 ≡ get_or (items ++ drop n ss) j 0)
inside ss items n j h k l = let e = length-take-le n ss h in let m : j < length items = omega arith in (omega arith, sym (get_or-append items (drop n ss) 0 j m))

-- ---- the whole, with the freed words zeroed

module _ (ss is : List ℕ) (ns : List ℤ) (ts : List ℕ) (n e k s p : ℕ) (o : Ready ss is ns ts n e k s p) (ss' is' : List ℕ) (ns' : List ℤ) (ts' : List ℕ) (b k' s' : ℕ) (w : Rewritten ss is ns ts ss' is' ns' ts' n e k s p b k' s') where
  abbrev whole : List SectionCode × Regs
  whole = wholeOf ss is ns ts n e k s p

  module _ (sl : n ≤ length ss') (il : e ≤ length is') (nl : k' ≤ length ns') (tl : s' ≤ length ts') where
    sections-count : length whole.0 ≡ n
    unfolding held
    sections-count = replaced-length p (regsOf ns ts k s) (held ss is n e) ∙ read-length (take n ss) (take e is) ∙ length-take-le n ss o.sections

    code-count : length (map insWord (allCode whole.0)) ≡ b
    code-count = let q = w.shorter in let z : b ≤ length is' = omega arith in rw (← w.instrs) (length-take-le b is' z)

    numbers-are : take k' ns' ≡ whole.1.numbers
    numbers-are = ap (λ (x : Regs). x.numbers) w.regs

    spans-are : map wordSpan (take s' ts') ≡ whole.1.strings
    spans-are = ap (λ (x : Regs). x.strings) w.regs

    strings-are : take s' ts' ≡ map spanWord whole.1.strings
    strings-are = sym w.plain ∙ ap (map spanWord) spans-are

    pub rewrote : (is'' : List ℕ) → is'' ≡ take b is' ++ (replicate (e - b) 0 ++ drop e is') → Rewrote ss is ns ts ss' is'' ns' ts' n e k s p b k' s'
    rewrote is'' z = record {
      sections = put-over 0 n n (runWords 0 whole.0) ss ss' w.sections (words-length 0 whole.0 ∙ sections-count) (omega arith) w.section-rest;
      instrs = z ∙ put-is e b (map insWord (allCode whole.0)) is is' w.instrs code-count w.shorter w.instr-rest;
      numbers = put-over (pos 0) k k' whole.1.numbers ns ns' numbers-are (sym (ap length numbers-are) ∙ length-take-le k' ns' nl) w.more-numbers w.number-rest;
      strings = put-over 0 s s' (map spanWord whole.1.strings) ts ts' strings-are (sym (ap length strings-are) ∙ length-take-le s' ts' tl) w.more-strings w.string-rest;
      section-count = sym sections-count;
      instr-count = sym code-count ∙ length-map (allCode whole.0) insWord;
      number-count = sym (length-take-le k' ns' nl) ∙ ap length numbers-are;
      string-count = sym (length-take-le s' ts' tl) ∙ sym (length-map (take s' ts') wordSpan) ∙ ap length spans-are;
    }
