-- Which machines, written as words, keep the rules of machine words.
use Rattle.std.specs.Prelude.{◌≡◌, refl, Bool, not, ◌&&◌, ◌||◌, ℕ, zero, suc, ◌+◌, ◌≤◌, ◌<◌, ltb, eqb, length, take}
use Rattle.std.proofs.Common.{ap₂, ◌∙◌, arith, length-take, take_all, ltb-true, ltb-false, lt-ltb, eq-eqb, le-leb}
use Rattle.std.proofs.Math.Path.{ap}
use Rattle.std.proofs.Math.Bool.{true, false}
use Rattle.std.proofs.Math.Option.{Option, none, some}
use mathlib.Core.List.{List, [], ◌∷◌, map}
use Rattle.std.proofs.Math.ListN.{get_elem?}
use Rattle.std.proofs.lemmas.List.{length-map}
use Rattle.rules.specs.Bits.{isOne}
use Rattle.rules.specs.Instr.{Row, Instruction, Kind, unused, num, str, val, place, table, kinds}
use Rattle.laws.specs.Table.{opcode-bits}
use Rattle.laws.specs.Words.{InsSmall}
use Rattle.laws.proofs.Words.{ins-back}
use Rattle.laws.specs.SectionWord.{NextSmall}
use Rattle.laws.proofs.SectionWord.{flag-back, next-back, fields-back}
use Rattle.rules.specs.Word.{unpack, insWord, insSpare, Run, runWord, wordRun, runSpare, Span, spanWord, wordSpan, spanSpare}
use Rattle.rules.specs.Constants.{stringLayout, mostCount, mostLines, mostChars}
use Rattle.rules.specs.Machine.{SectionOrLine, unfixed, section, line, SectionCode, isFixed, Machine}
use Rattle.rules.specs.Tables.{Tables, Counts, allb, fieldFits, insFits, successOf, successFits, startFits, runsFit, spanFits, nameFits, countFits, countsFit, wordsFit, fits, flag, sectionRun, runWords, allCode, encode, countsOf}
use Rattle.rules.specs.Preservation.{All, FieldBelow}
use Rattle.bounds.proofs.Estimate.{codeLen, code-length}
use Rattle.laws.specs.Lists.{all-true}
use Rattle.laws.specs.Sections.{words-length}
use Rattle.std.specs.Cmp.Derive.{both_true}

-- ---- tests

-- ---- instructions

abbrev pub isPlace : Kind → Bool
isPlace unused = false
isPlace num = false
isPlace str = false
isPlace val = false
isPlace place = true

-- What a field may hold: a register, or a section below the section count.
abbrev pub Holds : Counts → Kind → ℕ → Type 0
Holds u k n = FieldBelow u k n × (isPlace k ≡ true → n < u.sections)

-- The counts that fit into fields.
pub record Counted (u : Counts) : Type 0 where
  pub lines : u.lines ≤ mostLines
  pub some-lines : 0 < u.lines
  pub starts : u.lines ≤ u.sections
  pub sections : u.sections ≤ mostCount
  pub instrs : u.instrs ≤ mostCount
  pub numbers : u.numbers ≤ mostCount
  pub strings : u.strings ≤ mostCount
  pub pool : u.pool ≤ mostCount
  pub names : u.names ≤ mostCount
  pub values : u.values ≤ mostCount

field-fits : (u : Counts) (k : Kind) (n : ℕ) → Holds u k n → fieldFits u k n ≡ true
unfolding fieldFits
field-fits u unused n h = eq-eqb n 0 h.0
field-fits u num n h = lt-ltb n u.numbers h.0
field-fits u str n h = lt-ltb n u.strings h.0
field-fits u val n h = lt-ltb n u.values h.0
field-fits u place n h = lt-ltb n u.sections (h.1 refl)

pub field-small : (u : Counts) → Counted u → (k : Kind) (n : ℕ) → Holds u k n → n < 65536
field-small u c unused n h = omega (arith, h.0)
field-small u c num n h = omega (arith, h.0, c.numbers)
field-small u c str n h = omega (arith, h.0, c.strings)
field-small u c val n h = omega (arith, h.0, c.values)
field-small u c place n h = omega (arith, h.1 refl, c.sections)

at-lt : {A : Type 0} (l : List A) (o : ℕ) (k : A) → get_elem? l o ≡ some k → o < length l
at-lt [] o k e = absurd (let z : ◌≡◌ {A = ℕ} 0 1 = cc in omega arith)
at-lt (x ∷ l) zero k e = omega arith
at-lt (x ∷ l) (suc o) k e = omega (arith, at-lt l o k e)

-- An opcode's kinds stand in its row.
pub row-of : (o : ℕ) (k : Kind × Kind × Kind) → kinds o ≡ some k → (r : Row) × (get_elem? table o ≡ some r) × (r.kinds ≡ k)
unfolding kinds table
row-of o k e = go (get_elem? table o) refl e
  where
    go : (x : Option Row) → get_elem? table o ≡ x → ◌≡◌ {A = Option (Kind × Kind × Kind)} (elim x [ none ↦ none | some r ↦ some r.kinds ]) (some k) → (r : Row) × (get_elem? table o ≡ some r) × (r.kinds ≡ k)
    go none p q = absurd (let z : ◌≡◌ {A = ℕ} 0 1 = cc in omega arith)
    go (some r) p q = (r, p, cc)

-- Whatever the fields are, the bits that must be zero are.
low-zero : (i : Instruction) → insSpare (insWord i) ≡ 0
unfolding insWord insSpare
low-zero i = omega arith

-- What an instruction's three fields hold.
abbrev pub Held : Counts → Option (Kind × Kind × Kind) → Instruction → Type 0
Held u none i = ⊥
Held u (some k) i = Holds u k.0 i.fst × Holds u k.1 i.snd × Holds u k.2 i.thd

-- So it fits its word.
pub ins-small : (u : Counts) → Counted u → (i : Instruction) → Held u (kinds i.op) i → InsSmall i
ins-small u c i h = go (kinds i.op) refl h
  where
    go : (k : Option (Kind × Kind × Kind)) → kinds i.op ≡ k → Held u k i → InsSmall i
    go none e q = absurd q
    go (some k) e q = (opcode-bits i.op k e, (field-small u c k.0 i.fst q.0, (field-small u c k.1 i.snd q.1, (field-small u c k.2 i.thd q.2, tt))))

pub ins-fits : (u : Counts) → Counted u → (i : Instruction) → Held u (kinds i.op) i → insFits u (insWord i) ≡ true
unfolding insFits
ins-fits u c i h = go (kinds i.op) refl h
  where
    go : (k : Option (Kind × Kind × Kind)) → kinds i.op ≡ k → Held u k i → insFits u (insWord i) ≡ true
    go none e q = absurd q
    go (some k) e q =
        let z = eqb (insSpare (insWord i)) 0 in
        ap (λ (j : Instruction). elim (kinds j.op) [ none ↦ false | some l ↦ z && fieldFits u l.0 j.fst && fieldFits u l.1 j.snd && fieldFits u l.2 j.thd ]) (ins-back i (ins-small u c i h))
        ∙ (ap (λ (x : Option (Kind × Kind × Kind)). elim x [ none ↦ false | some l ↦ z && fieldFits u l.0 i.fst && fieldFits u l.1 i.snd && fieldFits u l.2 i.thd ]) e
        ∙ both_true (both_true (both_true (eq-eqb (insSpare (insWord i)) 0 (low-zero i)) (field-fits u k.0 i.fst q.0)) (field-fits u k.1 i.snd q.1)) (field-fits u k.2 i.thd q.2))

-- ---- sections

run-zero : (r : Run) → runSpare (runWord r) ≡ 0
unfolding runWord runSpare
run-zero r = omega arith

-- A successor that is there.
abbrev pub NextFit : Counts → SectionOrLine → Type 0
NextFit u unfixed = Unit {0}
NextFit u (section t) = t < u.sections
NextFit u (line r) = r < u.numbers

-- May the section stand behind the lines' first ones?
abbrev pub loose : SectionCode → Bool
loose s = not s.lineStart || not (isFixed s.success) && eqb (length s.instrs) 0

pub record SectFit (u : Counts) (i : ℕ) (s : SectionCode) : Type 0 where
  pub success : NextFit u s.success
  pub lineStart : i < u.lines → s.lineStart ≡ true
  pub later : u.lines ≤ i → loose s ≡ true

-- P of each section and its number.
abbrev pub AllAt : (ℕ → SectionCode → Type 0) → ℕ → List SectionCode → Type 0
AllAt P i [] = Unit {0}
AllAt P i (s ∷ ss) = P i s × AllAt P (suc i) ss

-- So it fits its word.
pub next-small : (u : Counts) → Counted u → (x : SectionOrLine) → NextFit u x → NextSmall x
next-small u c unfixed h = tt
next-small u c (section t) h = omega (arith, c.sections)
next-small u c (line r) h = omega (arith, c.numbers)

pub section-back : (u : Counts) → Counted u → (i : ℕ) (s : SectionCode) (k : ℕ) → SectFit u i s → k ≤ mostCount → length s.instrs ≤ mostCount → wordRun (runWord (sectionRun s k)) ≡ sectionRun s k
section-back u c i s k f p q = fields-back s.lineStart s.success k (length s.instrs) (next-small u c s.success f.success) (omega arith) (omega arith)

next-fits : (u : Counts) (x : SectionOrLine) → NextFit u x → successFits u x ≡ true
unfolding successFits
next-fits u unfixed h = refl
next-fits u (section t) h = lt-ltb t u.sections h
next-fits u (line r) h = lt-ltb r u.numbers h

start-fits : (u : Counts) → Counted u → (i : ℕ) (s : SectionCode) (k : ℕ) → SectFit u i s → startFits u i (sectionRun s k) ≡ true
unfolding startFits
start-fits u c i s k f = go (ltb i u.lines) refl
  where
    go : (b : Bool) → ltb i u.lines ≡ b
        → ◌≡◌ {A = Bool} (elim b [ true ↦ isOne (flag s.lineStart) | false ↦ not (isOne (flag s.lineStart)) || not (isFixed (successOf (sectionRun s k))) && eqb (length s.instrs) 0 ]) true
    go true e = flag-back s.lineStart ∙ f.lineStart (ltb-true i u.lines e)
    go false e =
        ap₂ (λ (a : Bool) (x : SectionOrLine). not a || not (isFixed x) && eqb (length s.instrs) 0) (flag-back s.lineStart) (next-back s.success (flag s.lineStart) k (length s.instrs) (next-small u c s.success f.success))
        ∙ f.later (ltb-false i u.lines e)

runs-fit : (u : Counts) → Counted u → (i k : ℕ) (ss : List SectionCode) → AllAt (SectFit u) i ss → k + codeLen ss ≡ u.instrs → runsFit u i k (runWords k ss) ≡ true
unfolding runsFit runWords
runs-fit u c i k [] h e = eq-eqb k u.instrs (omega arith)
runs-fit u c i k (s ∷ ss) h e =
    let r = sectionRun s k in
    let f = h.0 in
    let back : wordRun (runWord r) ≡ r = back-of in
    let z = eqb (runSpare (runWord r)) 0 in
    ap
    (λ (q : Run). elim (z && eqb q.first k && successFits u (successOf q) && startFits u i q) as (λ y. Bool) [ false ↦ false | true ↦ runsFit u (suc i) (k + q.count) (runWords (k + length s.instrs) ss) ])
    back
    ∙ (ap
    (λ (b : Bool). elim b as (λ y. Bool) [ false ↦ false | true ↦ runsFit u (suc i) (k + length s.instrs) (runWords (k + length s.instrs) ss) ])
    tested
    ∙ runs-fit u c (suc i) (k + length s.instrs) ss h.1 (omega arith))
  where
    back-of : wordRun (runWord (sectionRun s k)) ≡ sectionRun s k
    back-of = section-back u c i s k h.0 (omega (arith, c.instrs)) (omega (arith, c.instrs))

    tested : (eqb (runSpare (runWord (sectionRun s k))) 0 && eqb (sectionRun s k).first k && successFits u (successOf (sectionRun s k)) && startFits u i (sectionRun s k)) ≡ true
    tested =
        let r = sectionRun s k in
        both_true
        (both_true (both_true (eq-eqb (runSpare (runWord r)) 0 (run-zero r)) (eq-eqb k k refl)) (ap (successFits u) (next-back s.success (flag s.lineStart) k (length s.instrs) (next-small u c s.success h.0.success)) ∙ next-fits u s.success h.0.success))
        (start-fits u c i s k h.0)

-- ---- strings, counts, all

pub record SpanFit (p : ℕ) (t : Span) : Type 0 where
  pub inside : t.start + t.size ≤ p
  pub short : t.size ≤ mostChars

span-fits : (u : Counts) → Counted u → (t : Span) → SpanFit u.pool t → spanFits u (spanWord t) ≡ true
unfolding spanFits wordSpan spanWord
span-fits u c t f =
    let w = spanWord t in
    both_true
    (eq-eqb (spanSpare w) 0 (omega arith))
    (le-leb (unpack stringLayout 0 w + unpack stringLayout 1 w) u.pool (omega (arith, f.inside, f.short, c.pool)))

all-mapped : {A B : Type 0} (f : A → B) (P : A → Type 0) (Q : B → Type 0) → ((a : A) → P a → Q (f a)) → (l : List A) → All P l → All Q (map f l)
all-mapped f P Q h [] p = tt
all-mapped f P Q h (a ∷ l) p = (h a p.0, all-mapped f P Q h l p.1)

count-fits : {A : Type 0} (n : ℕ) (t : List A) → n ≤ mostCount → n ≤ length t → countFits n t ≡ true
unfolding countFits
count-fits n t p q = both_true (le-leb n mostCount p) (le-leb n (length t) q)

-- What a machine must be for its words to keep the rules.
pub record MachineFit (m : Machine) : Type 0 where
  pub counted : Counted (countsOf m)
  pub instrs : All (λ (i : Instruction). Held (countsOf m) (kinds i.op) i) (allCode m.sections)
  pub sects : AllAt (SectFit (countsOf m)) 0 m.sections
  pub spans : All (SpanFit (countsOf m).pool) m.strings
  pub names : All (λ n. nameFits (countsOf m) n ≡ true) m.names

-- The tables begin with m's words.
pub record InTables (l : Tables) (m : Machine) : Type 0 where
  pub sections : take (length m.sections) l.sections ≡ runWords 0 m.sections
  pub instrs : take (length (allCode m.sections)) l.instrs ≡ map insWord (allCode m.sections)
  pub numbers : take (length m.numbers) l.numbers ≡ m.numbers
  pub strings : take (length m.strings) l.strings ≡ map spanWord m.strings
  pub pool : take (length m.pool) l.pool ≡ m.pool
  pub names : take (length m.names) l.names ≡ m.names

long-enough : {A : Type 0} (n : ℕ) (l w : List A) → take n l ≡ w → length w ≡ n → n ≤ length l
long-enough n l w e h = omega (arith, ap length e, length-take n l)

module _ (m : Machine) (f : MachineFit m) (l : Tables) (h : InTables l m) where
  u : Counts
  u = countsOf m

  c : Counted u
  unfolding u
  c = f.counted

  counts-fit : countsFit l (countsOf m) ≡ true
  unfolding countsFit countsOf u
  counts-fit =
      let ss = m.sections in
      let a = both_true (both_true (both_true (lt-ltb 0 m.lines c.some-lines) (le-leb m.lines mostLines c.lines)) (le-leb m.lines (length ss) c.starts)) (le-leb m.values mostCount c.values) in
      let b = both_true a (count-fits (length ss) l.sections c.sections (long-enough (length ss) l.sections (runWords 0 ss) h.sections (words-length 0 ss))) in
      let d = both_true b (count-fits (length (allCode ss)) l.instrs c.instrs (long-enough (length (allCode ss)) l.instrs (map insWord (allCode ss)) h.instrs (length-map (allCode ss) insWord))) in
      let e = both_true d (count-fits (length m.numbers) l.numbers c.numbers (long-enough (length m.numbers) l.numbers m.numbers h.numbers refl)) in
      let g = both_true e (count-fits (length m.strings) l.strings c.strings (long-enough (length m.strings) l.strings (map spanWord m.strings) h.strings (length-map m.strings spanWord))) in
      let i = both_true g (count-fits (length m.pool) l.pool c.pool (long-enough (length m.pool) l.pool m.pool h.pool refl)) in
      both_true i (count-fits (length m.names) l.names c.names (long-enough (length m.names) l.names m.names h.names refl))

  words-fit : wordsFit l (countsOf m) ≡ true
  unfolding wordsFit countsOf u
  words-fit =
      let ss = m.sections in
      let i = map insWord (allCode ss) in
      let t = map spanWord m.strings in
      let a = ap (allb (insFits u)) h.instrs ∙ all-true (insFits u) i (all-mapped insWord (λ (x : Instruction). Held u (kinds x.op) x) (λ w. insFits u w ≡ true) (ins-fits u c) (allCode ss) f.instrs) in
      let b = ap (runsFit u 0 0) h.sections ∙ runs-fit u c 0 0 ss f.sects (omega (arith, code-length ss)) in
      let d = ap (allb (spanFits u)) h.strings ∙ all-true (spanFits u) t (all-mapped spanWord (SpanFit u.pool) (λ w. spanFits u w ≡ true) (span-fits u c) m.strings f.spans) in
      let e = ap (allb (nameFits u)) h.names ∙ all-true (nameFits u) m.names f.names in
      both_true (both_true (both_true a b) d) e

  -- Such tables keep the rules.
  pub tables-fit : fits l (countsOf m) ≡ true
  unfolding fits
  tables-fit = ap (λ (b : Bool). elim b as (λ z. Bool) [ false ↦ false | true ↦ wordsFit l (countsOf m) ]) counts-fit ∙ words-fit

pub in-encoded : (m : Machine) → InTables (encode m) m
unfolding encode
in-encoded m =
    record {
      sections = take_all (length m.sections) (runWords 0 m.sections) (omega (arith, words-length 0 m.sections));
      instrs = take_all (length (allCode m.sections)) (map insWord (allCode m.sections)) (omega (arith, length-map (allCode m.sections) insWord));
      numbers = take_all (length m.numbers) m.numbers (omega arith);
      strings = take_all (length m.strings) (map spanWord m.strings) (omega (arith, length-map m.strings spanWord));
      pool = take_all (length m.pool) m.pool (omega arith);
      names = take_all (length m.names) m.names (omega arith);
    }

pub encoded-fits : (m : Machine) → MachineFit m → fits (encode m) (countsOf m) ≡ true
encoded-fits m f = tables-fit m f (encode m) (in-encoded m)
