-- One instruction replaced, at each answer of dup_replace_with. Assumes nothing.
use mathlib.Core.Path.{◌≡◌, refl, sym, ap, ◌∙◌}
use mathlib.Core.List.{List, [], ◌∷◌, ◌++◌, map, append-nil}
use Prim.Native.Nat.{ℕ, ◌+◌, ◌≤◌, ◌<◌}
use native.Mathlib.Omega.{arith}
use lib.IntN.{ℤ}
use lib.ListN.{length, take, set, length-map}
use lib.Pow.{pow_pos}
use lib.Seq.{length-take-le}
use Rattle.rules.specs.Instr.{Instruction, ins₁, ins₂}
use Rattle.rules.specs.Opcode.{CopyNum, CopyStr}
use Rattle.rules.specs.Word.{Span, wordIns, insWord, wordSpan, spanWord}
use Rattle.rules.specs.Replace.{Rule, stays, goes, turns, number, result, blank, ruleOf, Regs, replaceBy, replaceIns}
use Rattle.laws.proofs.Words.{ins-small, span-back}
use Rattle.std.proofs.lemmas.List.{map-append}
use Rattle.words.specs.Told.{replacedOf, replacedBy}
use Rattle.words.proofs.Rules.{replaced-is}
use Rattle.words.specs.declared.instr.Instruction as I
use Rattle.words.specs.declared.instr.NumReg as N
use Rattle.words.specs.declared.instr.StrReg as S
use Rattle.words.specs.declared.number.Number as Z
use Rattle.words.specs.declared.instr.Replaced.{Replaced}
use Rattle.words.specs.declared.instr.Replaced.TheVariants.{Stays, Goes, Turns, Number, Blank}
use Rattle.tables.proofs.InPlace.{set-taken, set-rest}
use Rattle.replace.specs.Pass.{regsOf, Plain, NumberAdded, BlankAdded, Stepped}
use Rattle.replace.proofs.Adding.{numbers-are, strings-are}

abbrev made : List ℤ → List Span → Regs
made ns ss = record { numbers = ns; strings = ss }

-- a rule that turns an instruction gives the answer's word
turned-code : (p : ℕ) (r : Regs) (i : Instruction) (u : Rule) (v : I.Instruction) → Turns v ≡ replacedOf u i → v.0 ∷ [] ≡ map insWord (replaceBy p u r i).0
turned-code p r i stays v e = let z : ◌≡◌ {A = ℕ} 0 1 = cc in absurd (omega arith)
turned-code p r i goes v e = let z : ◌≡◌ {A = ℕ} 0 1 = cc in absurd (omega arith)
turned-code p r i (turns o) v e = let q : v ≡ record { 0 = insWord (ins₁ o i.fst) } = cc in ap (λ (x : I.Instruction). x.0 ∷ []) q
turned-code p r i (number n) v e = let z : ◌≡◌ {A = ℕ} 0 1 = cc in absurd (omega arith)
turned-code p r i (result n) v e = let z : ◌≡◌ {A = ℕ} 0 1 = cc in absurd (omega arith)
turned-code p r i blank v e = let z : ◌≡◌ {A = ℕ} 0 1 = cc in absurd (omega arith)

module _ (is : List ℕ) (ns : List ℤ) (ts : List ℕ) (p b n s w : ℕ) where
  abbrev answer : Replaced
  answer = replacedOf (ruleOf (wordIns w)) (wordIns w)

  abbrev regs : Regs
  regs = regsOf ns ts n s

  abbrev result-of : List Instruction × Regs
  result-of = replaceIns p regs (wordIns w)

  by : (v : Replaced) → v ≡ answer → replacedBy p regs (wordIns w) v ≡ result-of
  by v e = ap (replacedBy p regs (wordIns w)) e ∙ replaced-is p regs (wordIns w) (ins-small w)

  abbrev Step : List ℕ → List ℤ → List ℕ → ℕ → ℕ → ℕ → Type 0
  Step is' ns' ts' b' n' s' = Stepped is ns ts is' ns' ts' p b n s b' n' s' w

  pub gone : Goes ≡ answer → Step is ns ts b n s
  gone e =
      let x = numbers-are w Goes e in
      let y = strings-are w Goes e in
      record {
        code = sym (append-nil (take b is)) ∙ ap (λ (x : List Instruction × Regs). take b is ++ map insWord x.0) (by Goes e);
        regs = ap (λ (x : List Instruction × Regs). x.1) (by Goes e);
        rest = refl;
        number-rest = refl;
        string-rest = refl;
        plain = λ h. h;
        number-count = omega arith;
        string-count = omega arith;
        shorter = omega arith;
      }

  module _ (h : b < length is) where
    b-next : b < b + 1
    b-next = omega arith

    b-len : b + 1 ≤ length is
    b-len = omega arith

    pub kept : Stays ≡ answer → (v : ℕ) → v ≡ insWord (wordIns w) → Step (set is b v) ns ts (b + 1) n s
    kept e v v-is =
        let x = numbers-are w Stays e in
        let y = strings-are w Stays e in
        record {
          code = set-taken is b (b + 1) v b-next b-len ∙ ap (λ (x : ℕ). take b is ++ (x ∷ [])) v-is ∙ ap (λ (x : List Instruction × Regs). take b is ++ map insWord x.0) (by Stays e);
          regs = ap (λ (x : List Instruction × Regs). x.1) (by Stays e);
          rest = set-rest is b (b + 1) v b-next b-len;
          number-rest = refl;
          string-rest = refl;
          plain = λ h. h;
          number-count = omega arith;
          string-count = omega arith;
          shorter = omega arith;
        }

    pub turned : (v : I.Instruction) → Turns v ≡ answer → Step (set is b v.0) ns ts (b + 1) n s
    turned v e =
        let x = numbers-are w (Turns v) e in
        let y = strings-are w (Turns v) e in
        record {
          code = set-taken is b (b + 1) v.0 b-next b-len ∙ ap (λ (x : List ℕ). take b is ++ x) (turned-code p regs (wordIns w) (ruleOf (wordIns w)) v e);
          regs = ap (λ (x : List Instruction × Regs). x.1) (by (Turns v) e);
          rest = set-rest is b (b + 1) v.0 b-next b-len;
          number-rest = refl;
          string-rest = refl;
          plain = λ h. h;
          number-count = omega arith;
          string-count = omega arith;
          shorter = omega arith;
        }

    module _ (z : Z.Number) (m : N.NumReg) (e : Number z m ≡ answer) (l : n < length ns) (is' : List ℕ) (ns' : List ℤ) (b' n' s' : ℕ) (a : NumberAdded is ns is' ns' b n s b' n' s' z.0 m.0) where
      n-next : n < n + 1
      n-next = omega arith

      n-len : n + 1 ≤ length ns
      n-len = omega arith

      n-is : length (take n ns) ≡ n
      n-is = let k : n ≤ length ns = omega arith in length-take-le n ns k

      number-code : take (b + 1) (set is b (insWord (ins₂ CopyNum n m.0))) ≡ take b is ++ map insWord result-of.0
      number-code =
          set-taken is b (b + 1) (insWord (ins₂ CopyNum n m.0)) b-next b-len
          ∙ ap (λ (x : ℕ). take b is ++ (insWord (ins₂ CopyNum x m.0) ∷ [])) (sym n-is)
          ∙ ap (λ (x : List Instruction × Regs). take b is ++ map insWord x.0) (by (Number z m) e)

      number-regs : regsOf (set ns n z.0) ts (n + 1) s ≡ result-of.1
      number-regs = ap (λ (x : List ℤ). made x (map wordSpan (take s ts))) (set-taken ns n (n + 1) z.0 n-next n-len) ∙ ap (λ (x : List Instruction × Regs). x.1) (by (Number z m) e)

      pub number-added : Step is' ns' ts b' n' s'
      number-added =
          let x = numbers-are w (Number z m) e in
          let y = strings-are w (Number z m) e in
          let i = a.instr-count in
          let j = a.number-count in
          let k = a.string-count in
          record {
            code = rw (a.instr-count, a.instr) number-code;
            regs = rw (a.number-count, a.string-count, a.number) number-regs;
            rest = rw a.instr (set-rest is b (b + 1) (insWord (ins₂ CopyNum n m.0)) b-next b-len);
            number-rest = rw (a.number-count, a.number) (set-rest ns n (n + 1) z.0 n-next n-len);
            string-rest = refl;
            plain = λ h. rw a.string-count h;
            number-count = omega arith;
            string-count = omega arith;
            shorter = omega arith;
          }

    module _ (m : S.StrReg) (e : Blank m ≡ answer) (l : s < length ts) (o : p < 65536) (is' ts' : List ℕ) (b' n' s' : ℕ) (a : BlankAdded is ts is' ts' b n s b' n' s' p m.0) where
      abbrev empty : Span
      empty = record { start = p; size = 0 }

      s-next : s < s + 1
      s-next = omega arith

      s-len : s + 1 ≤ length ts
      s-len = omega arith

      s-is : length (map wordSpan (take s ts)) ≡ s
      s-is = let k : s ≤ length ts = omega arith in simp length-map (length-take-le s ts k)

      empty-back : wordSpan (spanWord empty) ≡ empty
      empty-back = span-back empty (o, (pow_pos 7, tt))

      blank-code : take (b + 1) (set is b (insWord (ins₂ CopyStr s m.0))) ≡ take b is ++ map insWord result-of.0
      blank-code =
          set-taken is b (b + 1) (insWord (ins₂ CopyStr s m.0)) b-next b-len
          ∙ ap (λ (x : ℕ). take b is ++ (insWord (ins₂ CopyStr x m.0) ∷ [])) (sym s-is)
          ∙ ap (λ (x : List Instruction × Regs). take b is ++ map insWord x.0) (by (Blank m) e)

      spans : map wordSpan (take (s + 1) (set ts s (spanWord empty))) ≡ map wordSpan (take s ts) ++ (empty ∷ [])
      spans = rw (set-taken ts s (s + 1) (spanWord empty) s-next s-len, map-append, empty-back)

      blank-regs : regsOf ns (set ts s (spanWord empty)) n (s + 1) ≡ result-of.1
      blank-regs = ap (λ (x : List Span). made (take n ns) x) spans ∙ ap (λ (x : List Instruction × Regs). x.1) (by (Blank m) e)

      blank-plain : Plain ts s → Plain (set ts s (spanWord empty)) (s + 1)
      blank-plain h = ap (map spanWord) spans ∙ map-append spanWord (map wordSpan (take s ts)) (empty ∷ []) ∙ rw h (sym (set-taken ts s (s + 1) (spanWord empty) s-next s-len))

      pub blank-added : Step is' ns ts' b' n' s'
      blank-added =
          let x = numbers-are w (Blank m) e in
          let y = strings-are w (Blank m) e in
          let i = a.instr-count in
          let j = a.number-count in
          let k = a.string-count in
          record {
            code = rw (a.instr-count, a.instr) blank-code;
            regs = rw (a.number-count, a.string-count, a.string) blank-regs;
            rest = rw a.instr (set-rest is b (b + 1) (insWord (ins₂ CopyStr s m.0)) b-next b-len);
            number-rest = refl;
            string-rest = rw (a.string-count, a.string) (set-rest ts s (s + 1) (spanWord empty) s-next s-len);
            plain = λ h. rw (a.string-count, a.string) (blank-plain h);
            number-count = omega arith;
            string-count = omega arith;
            shorter = omega arith;
          }
