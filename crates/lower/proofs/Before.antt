-- What the words of the machine before replacement hold, laid into lent tables, and that they have what replacement asks. Assumes nothing.
use mathlib.Core.Path.{◌≡◌, refl, sym, ap, ◌∙◌, subst}
use mathlib.Core.Bool.{Bool, true, false, ◌&&◌}
use mathlib.Core.List.{List, [], ◌∷◌, map}
use Prim.Native.Nat.{ℕ, ◌+◌, ◌≤◌}
use native.Mathlib.Omega.{arith}
use lib.Dec.{leb}
use lib.ListN.{length, take, drop, length-map, length-take}
use lib.Seq.{take_at, length-take-le}
use borrow.Author.Tests.{le-leb, leb-true}
use Rattle.rules.specs.Bits.{Res, ok, refused}
use Rattle.rules.specs.Constants.{mostCount}
use Rattle.rules.specs.Refusal as Refusal
use Rattle.rules.specs.Tree.{Tree}
use Rattle.rules.specs.Parse.{parse}
use Rattle.rules.specs.Word.{wordIns, insWord, wordSpan, spanWord}
use Rattle.rules.specs.Machine.{Machine}
use Rattle.rules.specs.Tables.{Tables, Counts, runWords, allCode, encode, countsOf, decode, fits}
use Rattle.rules.specs.Replace.{ruleOf, replaced}
use Rattle.rules.specs.Lowered.{Options, assemble, lowered}
use Rattle.rules.specs.Operations.{slots, replaceIn, replace}
use Rattle.words.specs.Told.{replacedOf}
use Rattle.words.specs.declared.instr.Replaced.{Replaced}
use Rattle.words.specs.declared.instr.Replaced.TheVariants.{Stays, Goes, Turns, Number, Blank}
use Rattle.tables.specs.Runs.{held}
use Rattle.tables.proofs.Read.{whole-total}
use Rattle.tables.proofs.Sound.{Counted, sound}
use Rattle.tables.proofs.Change.{machineOf, change-ok}
use Rattle.replace.specs.Pass.{numbersBy, stringsBy, numberOf, stringOf, sums, AddsAll, Plain, Ready}
use Rattle.replace.proofs.Adding.{sums-nil, sums-cons}
use Rattle.replace.proofs.Replaces.{replace-11}
use Rattle.bounds.proofs.Stay.{numbers-stay, strings-stay}
use Rattle.machines.specs.Fits.{MachineFit, InTables, tables-fit}
use Rattle.bounds.specs.Parsed.{refused≢ok}
use Rattle.machines.specs.Back.{tables-back}
use Rattle.laws.specs.Sections.{words-length}
use Rattle.laws.specs.Lists.{both}
use Rattle.program.specs.Program.{over, Laid}
use Rattle.lower.proofs.Assembled.{assembled-fit}

-- ---- the machine that laid words hold

begins : {A : Type 0} (ws t : List A) (n : ℕ) → length ws ≡ n → take n (over ws t) ≡ ws
begins ws t n e = take_at ws (drop (length ws) t) n e

laid-in : (m : Machine) (l l' : Tables) (u : Counts) → Laid m l l' u → InTables l' m
unfolding encode
laid-in m l l' u h =
    record {
      sections = ap (take (length m.sections)) h.sections ∙ begins (runWords 0 m.sections) l.sections (length m.sections) (words-length 0 m.sections);
      instrs = ap (take (length (allCode m.sections))) h.instrs ∙ begins (map insWord (allCode m.sections)) l.instrs (length (allCode m.sections)) (length-map (allCode m.sections) insWord);
      numbers = ap (take (length m.numbers)) h.numbers ∙ begins m.numbers l.numbers (length m.numbers) refl;
      strings = ap (take (length m.strings)) h.strings ∙ begins (map spanWord m.strings) l.strings (length m.strings) (length-map m.strings spanWord);
      pool = ap (take (length m.pool)) h.pool ∙ begins m.pool l.pool (length m.pool) refl;
      names = ap (take (length m.names)) h.names ∙ begins m.names l.names (length m.names) refl;
    }

abbrev unless : Machine → Res Machine → Machine
unless d (refused n) = d
unless d (ok m) = m

read-as : (l : Tables) (u : Counts) (m : Machine) → fits l u ≡ true → decode l u ≡ ok m → machineOf l u ≡ m
unfolding decode held
read-as l u m f d = ap (unless m) (rw (f, decode) at d)

-- ---- no instruction adds more than one register

few-sums : (f : ℕ → ℕ) → ((w : ℕ) → f w ≤ 1) → (ws : List ℕ) → sums f ws ≤ length ws
few-sums f h [] = rw sums-nil (omega arith)
few-sums f h (w ∷ ws) = rw sums-cons (let a = h w in let b = few-sums f h ws in omega arith)

one-number : (d : Replaced) → numbersBy d ≤ 1
one-number Stays = omega arith
one-number Goes = omega arith
one-number (Turns w) = omega arith
one-number (Number z r) = omega arith
one-number (Blank r) = omega arith

one-string : (d : Replaced) → stringsBy d ≤ 1
one-string Stays = omega arith
one-string Goes = omega arith
one-string (Turns w) = omega arith
one-string (Number z r) = omega arith
one-string (Blank r) = omega arith

added : (t : List ℕ) (e : ℕ) → AddsAll t e (sums numberOf (take e t)) (sums stringOf (take e t))
unfolding numberOf stringOf
added t e =
    let a = few-sums numberOf (λ w. one-number (replacedOf (ruleOf (wordIns w)) (wordIns w))) (take e t) in
    let b = few-sums stringOf (λ w. one-string (replacedOf (ruleOf (wordIns w)) (wordIns w))) (take e t) in
    let c = length-take e t in
    record { numbers = refl; strings = refl; numbers-few = omega arith; strings-few = omega arith }

-- ---- what replacement asks of laid words

fit-slots : {A B : Type 0} (ws : List A) (t : List B) → length ws ≤ length t → length ws ≤ mostCount → slots ws t ≡ true
unfolding slots
fit-slots ws t a b = rw (le-leb _ _ a, le-leb _ _ b)

module _ (o : Options) (s : List ℕ) (x : Tree) (parses : parse s ≡ ok x) (l l' : Tables) (c : Counts) (h : Laid (assemble o x) l l' c) (few : c.instrs ≤ mostCount) where
  fit : MachineFit (assemble o x)
  unfolding countsOf
  fit = assembled-fit o s x parses (let e = ap (λ (u : Counts). u.instrs) h.counts in omega arith)

  keeps : fits l' c ≡ true
  keeps = subst (λ (u : Counts). fits l' u ≡ true) (sym h.counts) (tables-fit (assemble o x) fit l' (laid-in (assemble o x) l l' c h))

  pub holds-machine : machineOf l' c ≡ assemble o x
  holds-machine = read-as l' c (assemble o x) keeps (subst (λ (u : Counts). decode l' u ≡ ok (assemble o x)) (sym h.counts) (tables-back (assemble o x) fit l' (laid-in (assemble o x) l l' c h)))

  pub holds-lowered : replaced (machineOf l' c) ≡ lowered o x
  unfolding lowered
  holds-lowered = ap replaced holds-machine

  pub counted : Counted l' c
  counted = (sound l' c keeps).counts

  -- no number and no string is added
  pub same-numbers : length (replaced (machineOf l' c)).numbers ≡ c.numbers
  same-numbers =
      ap (λ (m : Machine). length m.numbers) holds-lowered
      ∙ (ap length (numbers-stay o x) ∙ (ap (λ (m : Machine). length m.numbers) (sym holds-machine) ∙ length-take-le c.numbers l'.numbers counted.numbers))

  pub same-strings : length (replaced (machineOf l' c)).strings ≡ c.strings
  same-strings =
      ap (λ (m : Machine). length m.strings) holds-lowered
      ∙ (ap length (strings-stay o x) ∙ (ap (λ (m : Machine). length m.strings) (sym holds-machine) ∙ (length-map (take c.strings l'.strings) wordSpan ∙ length-take-le c.strings l'.strings counted.strings)))

  accepts : replaceIn l' (machineOf l' c) ≡ ok (replaced (machineOf l' c))
  unfolding replaceIn
  accepts =
      let k = counted in
      let r = replaced (machineOf l' c) in
      let a = fit-slots r.numbers l'.numbers (omega (arith, same-numbers, k.numbers)) (omega (arith, same-numbers, k.numbers-few)) in
      let b = fit-slots r.strings l'.strings (omega (arith, same-strings, k.strings)) (omega (arith, same-strings, k.strings-few)) in
      rw (a, b, replaceIn)

  abbrev more : (ℕ → ℕ) → ℕ
  more f = sums f (take c.instrs l'.instrs)

  abbrev slot : {A : Type 0} → ℕ → List A → Bool
  slot n t = leb n (length t) && leb n mostCount

  room : (slot (c.numbers + more numberOf) l'.numbers && slot (c.strings + more stringOf) l'.strings) ≡ true
  unfolding replace
  room = by _ refl
    where
      by : (b : Bool) → (slot (c.numbers + more numberOf) l'.numbers && slot (c.strings + more stringOf) l'.strings) ≡ b → (slot (c.numbers + more numberOf) l'.numbers && slot (c.strings + more stringOf) l'.strings) ≡ true
      by true e = e
      by false e =
          absurd (
          refused≢ok Refusal.noRoom (countsOf (replaced (machineOf l' c)))
          (ap (λ (r : Res Counts × Tables). r.0) (replace-11 l' c keeps (more numberOf) (more stringOf) (added l'.instrs c.instrs) _ _ refl refl e ∙ sym (change-ok l' c replaceIn keeps (replaced (machineOf l' c)) accepts)))
          )

  plain : Plain l'.strings c.strings
  unfolding countsOf
  plain =
      let e : take c.strings l'.strings ≡ map spanWord (assemble o x).strings = rw h.counts (laid-in (assemble o x) l l' c h).strings in
      ap (map spanWord) (ap (λ (m : Machine). m.strings) holds-machine) ∙ sym e

  pub ready : Ready l'.sections l'.instrs l'.numbers l'.strings c.sections c.instrs c.numbers c.strings c.pool
  ready =
      let k = counted in
      let r = both (slot (c.numbers + more numberOf) l'.numbers) (slot (c.strings + more stringOf) l'.strings) room in
      let p = both (leb (c.numbers + more numberOf) (length l'.numbers)) _ r.0 in
      let q = both (leb (c.strings + more stringOf) (length l'.strings)) _ r.1 in
      record {
        sections = k.sections;
        instrs = k.instrs;
        instrs-few = k.instrs-few;
        covered = whole-total l' c (sound l' c keeps);
        numbers = leb-true _ _ p.0;
        numbers-few = leb-true _ _ p.1;
        strings = leb-true _ _ q.0;
        strings-few = leb-true _ _ q.1;
        pool-few = k.pool-few;
        plain = plain;
      }
