-- Words that keep the rules are the words of what they hold: `fits-sound`. Assumes that each word has 64 bits.
use Rattle.std.specs.Prelude.{◌≡◌, refl, Bool, ◌&&◌, List, [], ◌∷◌, map, ℕ, suc, ◌+◌, ◌^◌, ◌<◌, ◌≤◌, eqb, take, drop, get_or}
use Rattle.std.proofs.Math.Path.{sym, ap}
use Rattle.std.proofs.Common.{ap₂, ◌∙◌, arith, length-drop, take-append-drop}
use Rattle.std.proofs.Math.Bool.{true, false}
use Rattle.std.proofs.Math.Option.{Option, none, some}
use Rattle.std.proofs.lemmas.List.{map-append, length-map, nil_from_length}
use Rattle.std.proofs.Math.ListN.{length}
use Rattle.std.proofs.Math.Seq.{length-take-le}
use borrow.Author.Tests.{eqb-true}
use Rattle.rules.specs.Bits.{isOne}
use Rattle.rules.specs.Instr.{Kind, kinds}
use Rattle.rules.specs.Word.{insWord, wordIns, insSpare, runWord, wordRun, runSpare}
use Rattle.rules.specs.Tables.{Tables, Counts, allb, insFits, fieldFits, successFits, startFits, runsFit, successOf, readSections, runWords, allCode, runOf}
use Rattle.rules.specs.Preservation.{All}
use Rattle.laws.specs.Words.{InsSmall}
use Rattle.laws.proofs.Words.{ins-small, ins-again, wordRun-small}
use Rattle.laws.specs.Lists.{both, take-below}
use Rattle.laws.proofs.SectionWord.{next-small, word-again}
use Rattle.words.specs.Runs.{run}
use Rattle.laws.specs.Sections.{words-nil, words-cons, code-nil, code-cons}
use Rattle.tables.specs.Rules.{sectionFits}
use Rattle.tables.specs.Runs.{countOf, total, sectionOf, held}
use Rattle.std.proofs.lemmas.Bool.{false≢true}
use Rattle.tables.proofs.Sound.{Sound as Keeps}
use Rattle.tables.proofs.Read.{read-nil, read-cons, read-length, all-cons, whole-total, total-nil, total-cons}
use Rattle.combine.specs.Held.{SectSmall, Sound}
use Rattle.combine.proofs.Counted.{one-code}

-- each word of a list has 64 bits
abbrev pub Wide : List ℕ → Type 0
Wide ws = (i : ℕ) → get_or ws i 0 < 2 ^ 64

wide-take : (n : ℕ) (t : List ℕ) → Wide t → Wide (take n t)
wide-take n t h = take-below (2 ^ 64) n t (omega arith) h

-- ---- instructions

ins-zero : (u : Counts) (w : ℕ) → insFits u w ≡ true → insSpare w ≡ 0
unfolding insFits
ins-zero u w e = go (kinds (wordIns w).op) e
  where
    go : (k : Option (Kind × Kind × Kind)) → elim k as (λ z. Bool) [ none ↦ false | some l ↦ eqb (insSpare w) 0 && fieldFits u l.0 (wordIns w).fst && fieldFits u l.1 (wordIns w).snd && fieldFits u l.2 (wordIns w).thd ] ≡ true → insSpare w ≡ 0
    go none q = absurd (false≢true q)
    go (some l) q =
        let z = eqb (insSpare w) 0 in
        let a = fieldFits u l.0 (wordIns w).fst in
        let b = fieldFits u l.1 (wordIns w).snd in
        eqb-true (insSpare w) 0 (both z a (both (z && a) b (both (z && a && b) (fieldFits u l.2 (wordIns w).thd) q).0).0).0

code-again : (u : Counts) (is : List ℕ) → Wide is → allb (insFits u) is ≡ true → map insWord (map wordIns is) ≡ is
code-again u [] h e = refl
code-again u (w ∷ is) h e = by (insFits u w) refl (λ q. code-again u is (λ i. h (suc i)) q)
  where
    by : (b : Bool) → insFits u w ≡ b → (allb (insFits u) is ≡ true → map insWord (map wordIns is) ≡ is) → insWord (wordIns w) ∷ map insWord (map wordIns is) ≡ w ∷ is
    by true d ih = rw (ins-again w (h 0) (ins-zero u w d), ih (sym (all-cons (insFits u) w is true d) ∙ e))
    by false d ih = absurd (false≢true (sym (all-cons (insFits u) w is false d) ∙ e))

-- all the code of what words hold
code-all : (ws is : List ℕ) → total ws ≡ length is → allCode (readSections ws is) ≡ map wordIns is
code-all [] is h = rw (read-nil, code-nil, nil_from_length is (sym h ∙ total-nil))
code-all (w ∷ ws) is h =
    let c = countOf w in
    let l : total ws ≡ length (drop c is) = omega (arith, total-cons w ws, length-drop c is) in
    rw (read-cons, code-cons (sectionOf w is) (readSections ws (drop c is)), one-code w is, code-all ws (drop c is) l) (sym (map-append wordIns (take c is) (drop c is)) ∙ ap (map wordIns) (take-append-drop c is))

-- ---- sections

code-small : (is : List ℕ) → All InsSmall (map wordIns is)
code-small [] = tt
code-small (i ∷ is) = (ins-small i, code-small is)

-- what is read fits its fields
pub read-small : (ws is : List ℕ) → All SectSmall (readSections ws is)
read-small [] is = rw read-nil tt
read-small (w ∷ ws) is = rw read-cons ((next-small (wordRun w) (wordRun-small w).1.1.0, code-small (take (wordRun w).count is)), read-small ws (drop (countOf w) is))

same-run : {a b c d e a' b' c' d' e' : ℕ} → a ≡ a' → b ≡ b' → c ≡ c' → d ≡ d' → e ≡ e' → run a b c d e ≡ run a' b' c' d' e'
same-run p q r s t = cc

-- the word of what was read of a word
section-again : (w k : ℕ) (is : List ℕ) → w < 2 ^ 64 → runSpare w ≡ 0 → (wordRun w).first ≡ k → countOf w ≤ length is → runWord (runOf (isOne (wordRun w).lineStart) (successOf (wordRun w)) k (length (map wordIns (take (wordRun w).count is)))) ≡ w
unfolding countOf
section-again w k is h z f l =
    let n : length (map wordIns (take (wordRun w).count is)) ≡ (wordRun w).count = simp (length-map, length-take-le (wordRun w).count is l) in
    ap runWord (same-run refl refl refl (sym f) n) ∙ word-again w h z

runs-split : (u : Counts) (i k w : ℕ) (ws : List ℕ) → runsFit u i k (w ∷ ws) ≡ true → (sectionFits u i k w ≡ true) × (runsFit u (suc i) (k + countOf w) ws ≡ true)
unfolding runsFit sectionFits countOf
runs-split u i k w ws e = go (eqb (runSpare w) 0 && eqb (wordRun w).first k && successFits u (successOf (wordRun w)) && startFits u i (wordRun w)) refl e
  where
    go : (b : Bool) → (eqb (runSpare w) 0 && eqb (wordRun w).first k && successFits u (successOf (wordRun w)) && startFits u i (wordRun w)) ≡ b → elim b as (λ z. Bool) [ false ↦ false | true ↦ runsFit u (suc i) (k + (wordRun w).count) ws ] ≡ true
        → ((eqb (runSpare w) 0 && eqb (wordRun w).first k && successFits u (successOf (wordRun w)) && startFits u i (wordRun w)) ≡ true) × (runsFit u (suc i) (k + (wordRun w).count) ws ≡ true)
    go true p q = (p, q)
    go false p q = absurd (false≢true q)

word-says : (u : Counts) (i k w : ℕ) → sectionFits u i k w ≡ true → (runSpare w ≡ 0) × ((wordRun w).first ≡ k)
unfolding sectionFits
word-says u i k w e =
    let a = eqb (runSpare w) 0 in
    let b = eqb (wordRun w).first k in
    let c = successFits u (successOf (wordRun w)) in
    let p = both a b (both (a && b) c (both (a && b && c) (startFits u i (wordRun w)) e).0).0 in
    (eqb-true _ _ p.0, eqb-true _ _ p.1)

words-again : (u : Counts) (ws is : List ℕ) (i k : ℕ) → Wide ws → runsFit u i k ws ≡ true → total ws ≤ length is → runWords k (readSections ws is) ≡ ws
words-again u [] is i k h e l = rw (read-nil, words-nil)
words-again u (w ∷ ws) is i k h e l =
    let s = runs-split u i k w ws e in
    let d = word-says u i k w s.0 in
    let t = total-cons w ws in
    let c : countOf w ≤ length is = omega arith in
    let r : total ws ≤ length (drop (countOf w) is) = simp length-drop (omega arith) in
    let n : length (sectionOf w is).instrs ≡ countOf w = ap length (one-code w is) ∙ simp (length-map, length-take-le (countOf w) is c) in
    rw (read-cons, words-cons k (sectionOf w is) (readSections ws (drop (countOf w) is)), n)
    (ap₂ (λ (x : ℕ) (y : List ℕ). x ∷ y) (rw (← n) (section-again w k is (h 0) d.0 d.1 c)) (words-again u ws (drop (countOf w) is) (suc i) (k + countOf w) (λ j. h (suc j)) s.1 r))

-- ---- all

module _ (t : Tables) (u : Counts) (s : Keeps t u) (h : Wide t.sections) (g : Wide t.instrs) where
  abbrev ws : List ℕ
  ws = take u.sections t.sections

  abbrev is : List ℕ
  is = take u.instrs t.instrs

  long : length is ≡ u.instrs
  long = length-take-le u.instrs t.instrs s.counts.instrs

  covered : total ws ≡ length is
  covered = whole-total t u s ∙ sym long

  -- words that keep the rules hold a machine
  pub fits-sound : Sound t.sections t.instrs u.sections u.instrs
  unfolding held
  fits-sound =
      record {
        sections = sym (words-again u ws is 0 0 (wide-take u.sections t.sections h) s.runs (omega (arith, covered)));
        instrs = sym (ap (map insWord) (code-all ws is covered) ∙ code-again u is (wide-take u.instrs t.instrs g) s.instrs);
        count = read-length ws is ∙ length-take-le u.sections t.sections s.counts.sections;
        code = ap length (code-all ws is covered) ∙ (length-map is wordIns ∙ long);
        few = s.counts.sections-few;
        short = s.counts.instrs-few;
        small = read-small ws is;
      }
