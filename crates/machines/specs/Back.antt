-- A machine's words read back as the machine, and so do the tables that a call has written it to.
use Rattle.rules.specs.Constants.{mostCount}
use Rattle.std.specs.Prelude.{◌≡◌, refl, Bool, true, false, List, [], ◌∷◌, ◌++◌, map, ℕ, suc, ◌+◌, ◌-◌, max, ◌≤◌, ℤ, pos, length, take, drop, replicate}
use Rattle.std.proofs.Common.{sym, ap, ap₂, ◌∙◌, arith, take_at, drop_at}
use Rattle.std.proofs.lemmas.List.{map-append, length-map}
use Rattle.rules.specs.Refusal as Refusal
use Rattle.rules.specs.Bits.{Res, refused, ok, isOne}
use Rattle.rules.specs.Tree.{Tree}
use Rattle.rules.specs.Parse.{parse}
use Rattle.rules.specs.Instr.{Instruction, kinds}
use Rattle.laws.specs.Lists.{all-left, all-right}
use Rattle.laws.proofs.SectionWord.{flag-back, next-back}
use Rattle.laws.proofs.Words as Words
use Rattle.rules.specs.Word.{insWord, wordIns, Run, Span, spanWord, wordSpan}
use Rattle.rules.specs.Machine.{SectionOrLine, SectionCode, Machine}
use Rattle.rules.specs.Tables.{Tables, Counts, readSections, decode, successOf, flag, sectionRun, runWords, allCode, encode, countsOf}
use Rattle.rules.specs.Operations.{sizeOf, estimate, holds, put, write, build}
use Rattle.rules.specs.Preservation.{All}
use Rattle.bounds.proofs.Estimate.{codeLen, code-length}
use Rattle.bounds.specs.Parsed.{refused≢ok}
use Rattle.machines.specs.Fits.{Held, Counted, SectFit, SpanFit, AllAt, MachineFit, InTables, tables-fit, ins-small, next-small, section-back}
use Rattle.laws.specs.Sections.{words-length}

-- ---- instructions, sections, strings

held-back : (u : Counts) → Counted u → (i : Instruction) → Held u (kinds i.op) i → wordIns (insWord i) ≡ i
held-back u c i h = Words.ins-back i (ins-small u c i h)

code-back : (u : Counts) → Counted u → (c : List Instruction) → All (λ (i : Instruction). Held u (kinds i.op) i) c → map wordIns (map insWord c) ≡ c
code-back u c [] h = refl
code-back u c (i ∷ l) h = rw (held-back u c i h.0, code-back u c l h.1)

abbrev sectOf : Bool → List Instruction → SectionOrLine → SectionCode
sectOf a c x = record { lineStart = a; instrs = c; success = x }

-- What one word and the instruction words behind it read as.
readOne : Run → List ℕ → SectionCode
readOne r is = record { lineStart = isOne r.lineStart; instrs = map wordIns (take r.count is); success = successOf r }

sections-back : (u : Counts) → Counted u → (i k : ℕ) (ss : List SectionCode) → AllAt (SectFit u) i ss → All (λ (x : Instruction). Held u (kinds x.op) x) (allCode ss) → k + codeLen ss ≤ mostCount
    → readSections (runWords k ss) (map insWord (allCode ss)) ≡ ss
unfolding readSections runWords allCode readOne
sections-back u c i k [] f h e = refl
sections-back u c i k (s ∷ ss) f h e =
    let H : Instruction → Type 0 = λ x. Held u (kinds x.op) x in
    let n = length s.instrs in
    let rest = allCode ss in
    let is = map insWord (s.instrs ++ rest) in
    let back = section-back u c i s k f.0 (omega arith) (omega arith) in
    let two : is ≡ map insWord s.instrs ++ map insWord rest = map-append insWord s.instrs rest in
    let l : length (map insWord s.instrs) ≡ n = length-map s.instrs insWord in
    let t : take n is ≡ map insWord s.instrs = ap (take n) two ∙ take_at (map insWord s.instrs) (map insWord rest) n l in
    let d : drop n is ≡ map insWord rest = ap (drop n) two ∙ drop_at (map insWord s.instrs) (map insWord rest) n l in
    ap (λ (r : Run). readOne r is ∷ readSections (runWords (k + n) ss) (drop r.count is)) back
    ∙ ap₂
    (λ (x : SectionCode) (y : List SectionCode). x ∷ y)
    (one u c i k s f.0 is (ap (map wordIns) t ∙ code-back u c s.instrs (all-left H s.instrs rest (h))))
    (ap (readSections (runWords (k + n) ss)) d ∙ sections-back u c (suc i) (k + n) ss f.1 (all-right H s.instrs rest h) (omega arith))
  where
    one : (u : Counts) → Counted u → (i k : ℕ) (s : SectionCode) → SectFit u i s → (is : List ℕ) → map wordIns (take (length s.instrs) is) ≡ s.instrs → readOne (sectionRun s k) is ≡ s
    one u c i k s f is e = parts (flag-back s.lineStart) e (next-back s.success (flag s.lineStart) k (length s.instrs) (next-small u c s.success f.success))
      where
        parts : {a : Bool} {d : List Instruction} {x : SectionOrLine} → a ≡ s.lineStart → d ≡ s.instrs → x ≡ s.success → sectOf a d x ≡ sectOf s.lineStart s.instrs s.success
        parts p q r = cc

spans-back : (P : ℕ) → P ≤ mostCount → (ts : List Span) → All (SpanFit P) ts → map wordSpan (map spanWord ts) ≡ ts
spans-back P p [] h = refl
spans-back P p (t ∷ ts) h = ap₂ (λ (x : Span) (y : List Span). x ∷ y) (one t h.0) (spans-back P p ts h.1)
  where
    one : (t : Span) → SpanFit P t → wordSpan (spanWord t) ≡ t
    one t f = Words.span-back t (omega (arith, f.inside), (omega (arith, f.short), tt))

-- ---- the machine

abbrev machineOf : ℕ → List SectionCode → List ℤ → List Span → List ℕ → ℕ → List ℕ → Machine
machineOf l ss ns ts p v ws = record { lines = l; sections = ss; numbers = ns; strings = ts; pool = p; values = v; names = ws }

-- Tables that begin with m's words read as m.
pub tables-back : (m : Machine) → MachineFit m → (l : Tables) → InTables l m → decode l (countsOf m) ≡ ok m
unfolding decode countsOf
tables-back m f l h =
    let u = countsOf m in
    let c = f.counted in
    let ss = m.sections in
    let a : readSections (take (length ss) l.sections) (take (length (allCode ss)) l.instrs) ≡ ss = ap₂ readSections h.sections h.instrs ∙ sections-back u c 0 0 ss f.sects f.instrs (omega (arith, code-length ss, c.instrs)) in
    let b : map wordSpan (take (length m.strings) l.strings) ≡ m.strings = ap (map wordSpan) h.strings ∙ spans-back (length m.pool) c.pool m.strings f.spans in
    ap
    (
    λ (z : Bool).
    elim z as (λ y. Res Machine) [
      | false ↦ refused Refusal.breaksRules
      | true ↦ ok (
          machineOf
          m.lines
          (readSections (take (length ss) l.sections) (take (length (allCode ss)) l.instrs))
          (take (length m.numbers) l.numbers)
          (map wordSpan (take (length m.strings) l.strings))
          (take (length m.pool) l.pool)
          m.values
          (take (length m.names) l.names)
          )
    ]
    )
    (tables-fit m f l h)
    ∙ ap ok (whole a h.numbers b h.pool h.names)
  where
    whole : {ss ss' : List SectionCode} {ns ns' : List ℤ} {ts ts' : List Span} {p p' ws ws' : List ℕ} → ss ≡ ss' → ns ≡ ns' → ts ≡ ts' → p ≡ p' → ws ≡ ws'
        → machineOf m.lines ss ns ts p m.values ws ≡ machineOf m.lines ss' ns' ts' p' m.values ws'
    whole e₁ e₂ e₃ e₄ e₅ = cc

-- ---- written by lower and finish

pub put-begins : {A : Type 0} (z : A) (n k : ℕ) (ws t : List A) → length ws ≡ k → take k (put z n ws t) ≡ ws
unfolding put
put-begins z n k ws t e = take_at ws (replicate (n - length ws) z ++ drop (max n (length ws)) t) k e

written : (u : Counts) (m : Machine) (l : Tables) → InTables (write u m l) m
unfolding write encode
written u m l =
    record {
      sections = put-begins 0 u.sections (length m.sections) (runWords 0 m.sections) l.sections (words-length 0 m.sections);
      instrs = put-begins 0 u.instrs (length (allCode m.sections)) (map insWord (allCode m.sections)) l.instrs (length-map (allCode m.sections) insWord);
      numbers = put-begins (pos 0) u.numbers (length m.numbers) m.numbers l.numbers refl;
      strings = put-begins 0 u.strings (length m.strings) (map spanWord m.strings) l.strings (length-map m.strings spanWord);
      pool = put-begins 0 u.pool (length m.pool) m.pool l.pool refl;
      names = put-begins 0 u.names (length m.names) m.names l.names refl;
    }

-- What a call that is not refused has made: a tree's machine, counted, and in the tables.
pub record Built (f : Tree → Machine) (s : List ℕ) (l : Tables) (u : Counts) : Type 0 where
  pub tree : Tree
  pub parsed : parse s ≡ ok tree
  pub counts : u ≡ countsOf (f tree)
  pub machine : decode (build f s l).1 u ≡ ok (f tree)
  pub left : build f s l ≡ (ok (countsOf (f tree)), write (estimate (sizeOf tree)) (f tree) l)

abbrev usedOf : Counts → Res Counts → Counts
usedOf d (refused n) = d
usedOf d (ok u) = u

pub built : (f : Tree → Machine) → ((s : List ℕ) (t : Tree) → parse s ≡ ok t → MachineFit (f t)) → (s : List ℕ) (l : Tables) (u : Counts) → (build f s l).0 ≡ ok u → Built f s l u
unfolding build
built f fit s l u e = outer (parse s) refl e refl
  where
    Ans : Type 0
    Ans = Res Counts × Tables

    made : Tree → Bool → Ans
    made x b = elim b [ false ↦ (refused Refusal.noRoom, l) | true ↦ (let m = f x in (ok (countsOf m), write (estimate (sizeOf x)) m l)) ]

    answer : Res Tree → Ans
    answer r = elim r [ refused n ↦ (refused n, l) | ok x ↦ made x (holds l (estimate (sizeOf x))) ]

    inner : (x : Tree) → parse s ≡ ok x → (b : Bool) → (made x b).0 ≡ ok u → build f s l ≡ made x b → Built f s l u
    inner x p false q r = absurd (refused≢ok Refusal.noRoom u q)
    inner x p true q r =
        let m = f x in
        let c : countsOf m ≡ u = ap (usedOf u) q in
        record {
          tree = x;
          parsed = p;
          counts = sym c;
          machine = ap (λ (k : Ans). decode k.1 u) r ∙ (ap (decode (write (estimate (sizeOf x)) m l)) (sym c) ∙ tables-back m (fit s x p) (write (estimate (sizeOf x)) m l) (written (estimate (sizeOf x)) m l));
          left = r;
        }

    outer : (r : Res Tree) → parse s ≡ r → (answer r).0 ≡ ok u → build f s l ≡ answer r → Built f s l u
    outer (refused n) p q w = absurd (refused≢ok n u q)
    outer (ok x) p q w = inner x p (holds l (estimate (sizeOf x))) q w
