-- A parsed tree's lowered, cleaned and finished machines keep the rules of machine words.
use Rattle.std.specs.Prelude.{◌≡◌, Bool, true, false, cond, not, ◌&&◌, ◌||◌, ℕ, ◌+◌, ◌≤◌, ◌<◌, eqb, get_or}
use Rattle.std.proofs.Math.Path.{refl, sym, ap, subst}
use Rattle.std.proofs.Common.{◌∙◌, arith}
use mathlib.Core.List.{List, [], ◌∷◌, map}
use Rattle.std.proofs.Math.ListN.{length}
use Rattle.rules.specs.Bits.{ok}
use Rattle.rules.specs.Tree.{Tree}
use Rattle.rules.specs.Parse.{parse}
use Rattle.rules.specs.Machine.{SectionCode, absent, isFixed, Machine}
use Rattle.rules.specs.Tables.{Counts, countsOf, nameFits, fits, encode}
use Rattle.rules.specs.Annotate.{annotate}
use Rattle.rules.specs.Assemble.{sectionsOf}
use Rattle.rules.specs.Reading.{script}
use Rattle.rules.specs.Clean.{ren, keep, rank, cleanSections, cleaned}
use Rattle.rules.specs.Combine.{combineAt, combineSections, combined}
use Rattle.rules.specs.Lowered.{Options, texts, lowered, finished}
use Rattle.rules.specs.Preservation.{All, RegistersBelow}
use Rattle.machines.specs.Ranks.{clean-ready}
use Rattle.joins.specs.Along.{Ready, pair-below, combine-along, combine-ready}
use Rattle.joins.specs.Pairs.{Pair}
use Rattle.joins.specs.Joins.{length-join}
use Rattle.joins.specs.Code.{ren-code, join-code}
use Rattle.machines.specs.Lowered.{lower-fixed, lower-starts}
use Rattle.machines.specs.FinishedCode.{lower-good, clean-good, combined-good}
use Rattle.bounds.specs.Room.{Room, roomOf, NameBelow}
use Rattle.bounds.proofs.Own.{annotate-made}
use Rattle.bounds.proofs.Stay.{strings-stay, numbers-stay, good-for, lowered-sections, script-lines}
use Rattle.laws.specs.Texts.{length-spans}
use Rattle.bounds.specs.LimitsTree.{Limits, limits}
use Rattle.bounds.proofs.Estimate.{codeLen, code-length, sections-length}
use Rattle.bounds.specs.Bounds.{Small}
use Rattle.bounds.proofs.Bounds.{small}
use Rattle.machines.specs.Fits.{Counted, SpanFit, MachineFit, encoded-fits}
use Rattle.machines.specs.Targets.{Aims, lower-aims, clean-aims, clean-length}
use Rattle.machines.specs.Shape.{combine-aims, combine-inner, lower-later, clean-inner, keep-some}
use Rattle.machines.specs.Texts.{annotate-short, spans-fit, names-fit}
use Rattle.machines.specs.Held.{SectsFit, machine-fit}
use Rattle.laws.specs.Sections.{keep-length}

-- ---- how much code is left

keep-len : (m : List SectionCode) → codeLen (keep m) ≤ codeLen m
keep-len [] = omega arith
keep-len (s ∷ m) = go (isFixed s.success) (keep-len m)
  where
    go : (b : Bool) → codeLen (keep m) ≤ codeLen m → codeLen (cond b (s ∷ keep m) (keep m)) ≤ length s.instrs + codeLen m
    go true h = omega arith
    go false h = omega arith

pub clean-len : (m : List SectionCode) → codeLen (cleanSections m) ≤ codeLen m
unfolding cleanSections
clean-len m = omega (arith, keep-len m, ren-code (rank m) (keep m), code-length (keep m), code-length (map (ren (rank m)) (keep m)))

-- ---- what combining keeps besides

pub record Sizes (L n c : ℕ) (m : List SectionCode) : Type 0 where
  pub starts : L ≤ length m
  pub sections : length m ≤ n
  pub instrs : codeLen m ≤ c

counts-step : (L : ℕ) (pos : 0 < L) (n c : ℕ) (m : List SectionCode) → Ready L m → (i j : ℕ) → Pair m i j → Sizes L n c m → Sizes L n c (combineAt m i j)
counts-step L pos n c m r i j pr k =
    let b = pair-below L m r i j pr in
    let l = length-join m i j pr in
    record {
      starts = omega (arith, b.1, b.2, l, k.starts);
      sections = omega (arith, l, k.sections);
      instrs = omega (arith, k.instrs, join-code m i j pr, code-length m, code-length (combineAt m i j));
    }

-- ---- the three machines

inner-loose : (a b c : Bool) → a ≡ false → (not a || not b && c) ≡ true
inner-loose true b c h = absurd (let z : ◌≡◌ {A = ℕ} 0 1 = cc in omega arith)
inner-loose false b c h = refl

-- The counts that all three share, and those that shrink.
record Shared (m w : Machine) : Type 0 where
  lines : w.lines ≡ m.lines
  numbers : length w.numbers ≡ length m.numbers
  strings : length w.strings ≡ length m.strings
  pool : length w.pool ≡ length m.pool
  names : length w.names ≡ length m.names
  values : w.values ≡ m.values

counted : (m w : Machine) → Small (countsOf m) → Shared m w → Sizes m.lines (length m.sections) (codeLen m.sections) w.sections → Counted (countsOf w)
unfolding countsOf
counted m w s h c =
    record {
      lines = omega (arith, s.lines, h.lines);
      some-lines = omega (arith, s.some-lines, h.lines);
      starts = omega (arith, c.starts, h.lines);
      sections = omega (arith, c.sections, s.sections);
      instrs = omega (arith, c.instrs, s.instrs, code-length m.sections, code-length w.sections);
      numbers = omega (arith, h.numbers, s.numbers);
      strings = omega (arith, h.strings, s.strings);
      pool = omega (arith, h.pool, s.pool);
      names = omega (arith, h.names, s.names);
      values = omega (arith, h.values, s.values);
    }

module _ (o : Options) (t : Tree) (lim : Limits t) where
  pub pos : 0 < length (script t)
  pos = omega (arith, script-lines o t, lim.some-lines)

  pub ready : Ready (length (script t)) (cleanSections (sectionsOf (script t)))
  ready = clean-ready (length (script t)) pos (sectionsOf (script t)) (lower-fixed (script t) pos) (lower-starts (script t) pos)

  some-kept : 0 < length (keep (sectionsOf (script t)))
  some-kept = omega (arith, keep-some (script t), pos)

  module _ (u : Counts) (r : Room (roomOf (annotate t).1) u) where
    lower-fit : SectsFit (length (script t)) u (sectionsOf (script t))
    lower-fit =
        record {
          good = lower-good (RegistersBelow u) (λ n. n < u.numbers) (script t) (good-for o t u r);
          aims = subst (λ (n : ℕ). All (Aims n) (sectionsOf (script t))) (sym (sections-length (script t))) (lower-aims (script t));
          starts = lower-starts (script t) pos;
          later = lower-later (script t);
        }

    clean-fit : SectsFit (length (script t)) u (cleanSections (sectionsOf (script t)))
    clean-fit =
        record {
          good = clean-good (RegistersBelow u) (λ n. n < u.numbers) (sectionsOf (script t)) lower-fit.good;
          aims = clean-aims (sectionsOf (script t)) some-kept;
          starts = ready.starts;
          later = λ n h p.
              let x = get_or (cleanSections (sectionsOf (script t))) n absent in
              inner-loose x.lineStart (isFixed x.success) (eqb (length x.instrs) 0) (clean-inner (script t) n h p);
        }

    finish-fit : SectsFit (length (script t)) u (combineSections (cleanSections (sectionsOf (script t))))
    finish-fit =
        let m = cleanSections (sectionsOf (script t)) in
        record {
          good = combined-good (RegistersBelow u) (λ n. n < u.numbers) m clean-fit.good;
          aims = combine-aims (length (script t)) pos m ready clean-fit.aims;
          starts = (combine-ready (length (script t)) m ready).starts;
          later = λ n h p.
              let x = get_or (combineSections m) n absent in
              inner-loose x.lineStart (isFixed x.success) (eqb (length x.instrs) 0) (combine-inner (length (script t)) pos m ready (clean-inner (script t)) n h p);
        }

  lower-counts : Sizes (length (script t)) (length (sectionsOf (script t))) (codeLen (sectionsOf (script t))) (sectionsOf (script t))
  lower-counts = record { starts = omega (arith, sections-length (script t)); sections = omega arith; instrs = omega arith }

  clean-counts : Sizes (length (script t)) (length (sectionsOf (script t))) (codeLen (sectionsOf (script t))) (cleanSections (sectionsOf (script t)))
  clean-counts =
      let m = sectionsOf (script t) in
      record { starts = omega (arith, keep-some (script t), clean-length m); sections = omega (arith, keep-length m, clean-length m); instrs = clean-len m }

  pub finish-counts : Sizes (length (script t)) (length (sectionsOf (script t))) (codeLen (sectionsOf (script t))) (combineSections (cleanSections (sectionsOf (script t))))
  finish-counts =
      let m = sectionsOf (script t) in
      combine-along (length (script t)) (Sizes (length (script t)) (length m) (codeLen m)) (counts-step (length (script t)) pos (length m) (codeLen m)) (cleanSections m) ready clean-counts

  pub lines-are : (lowered o t).lines ≡ length (script t)
  unfolding lowered
  lines-are = (annotate-made t).long ∙ sym (script-lines o t)

  -- A machine with the lowered one's registers, strings and names, and with sections that fit.
  record Same (w : Machine) : Type 0 where
    lines : w.lines ≡ (lowered o t).lines
    numbers : w.numbers ≡ (lowered o t).numbers
    strings : w.strings ≡ (lowered o t).strings
    pool : w.pool ≡ (lowered o t).pool
    values : w.values ≡ (lowered o t).values
    names : w.names ≡ (lowered o t).names

  the-room : (w : Machine) → Same w → Room (roomOf (annotate t).1) (countsOf w)
  unfolding countsOf lowered
  the-room w s =
      record {
        numbers = omega (arith, ap length s.numbers, ap length (numbers-stay o t));
        strings = omega (arith, ap length s.strings, ap length (strings-stay o t), length-spans 0 (annotate t).1.strings);
        values = omega (arith, s.values);
      }

  the-spans : All (SpanFit (length (lowered o t).pool)) (lowered o t).strings
  unfolding lowered
  the-spans = subst (All (SpanFit (length (texts (annotate t).1.strings)))) (sym (strings-stay o t)) (spans-fit (annotate t).1.strings (annotate-short t lim.short))

  the-names : (u : Counts) → u.values ≡ (lowered o t).values → All (λ n. nameFits u n ≡ true) (lowered o t).names
  unfolding lowered
  the-names u e = names-fit u o t.names (annotate t).1.names (subst (λ (v : ℕ). All (NameBelow v) (annotate t).1.names) (sym e) (annotate-made t).went.fine.names)

  all-fits : Small (countsOf (lowered o t)) → (w : Machine) → Same w → SectsFit (length (script t)) (countsOf w) w.sections
      → Sizes (length (script t)) (length (sectionsOf (script t))) (codeLen (sectionsOf (script t))) w.sections → MachineFit w
  unfolding countsOf
  all-fits sm w s f c =
      let c' : Sizes (lowered o t).lines (length (lowered o t).sections) (codeLen (lowered o t).sections) w.sections =
      subst (λ (l : List SectionCode). Sizes (lowered o t).lines (length l) (codeLen l) w.sections) (sym (lowered-sections o t)) (subst (λ (n : ℕ). Sizes n (length (sectionsOf (script t))) (codeLen (sectionsOf (script t))) w.sections) (sym lines-are) c)
      in
      let h : Shared (lowered o t) w = record { lines = s.lines; numbers = ap length s.numbers; strings = ap length s.strings; pool = ap length s.pool; names = ap length s.names; values = s.values } in
      machine-fit w (counted (lowered o t) w sm h c') (subst (λ (n : ℕ). SectsFit n (countsOf w) w.sections) (sym (s.lines ∙ lines-are)) f) (subst (λ (p : List ℕ). All (SpanFit (length p)) w.strings) (sym s.pool) (subst (All (SpanFit (length (lowered o t).pool))) (sym s.strings) the-spans)) (subst (All (λ n. nameFits (countsOf w) n ≡ true)) (sym s.names) (the-names (countsOf w) s.values))

  lowered-same : Same (lowered o t)
  lowered-same = record { lines = refl; numbers = refl; strings = refl; pool = refl; values = refl; names = refl }

  cleaned-same : Same (cleaned (lowered o t))
  unfolding cleaned
  cleaned-same = record { lines = refl; numbers = refl; strings = refl; pool = refl; values = refl; names = refl }

  finished-same : Same (finished o t)
  unfolding finished cleaned combined
  finished-same = record { lines = refl; numbers = refl; strings = refl; pool = refl; values = refl; names = refl }

-- ---- lowered, cleaned, finished

pub lowered-fit : (o : Options) (s : List ℕ) (t : Tree) → parse s ≡ ok t → MachineFit (lowered o t)
lowered-fit o s t e =
    let l = limits s t e in
    let m = lowered o t in
    let q = lowered-same o t l in
    let ls = sym (lowered-sections o t) in
    all-fits o t l (small o s t e) m q
    (subst (SectsFit (length (script t)) (countsOf m)) ls (lower-fit o t l (countsOf m) (the-room o t l m q)))
    (subst (Sizes (length (script t)) (length (sectionsOf (script t))) (codeLen (sectionsOf (script t)))) ls (lower-counts o t l))

pub cleaned-fit : (o : Options) (s : List ℕ) (t : Tree) → parse s ≡ ok t → MachineFit (cleaned (lowered o t))
unfolding cleaned
cleaned-fit o s t e =
    let l = limits s t e in
    let m = cleaned (lowered o t) in
    let q = cleaned-same o t l in
    let ls = ap cleanSections (sym (lowered-sections o t)) in
    all-fits o t l (small o s t e) m q
    (subst (SectsFit (length (script t)) (countsOf m)) ls (clean-fit o t l (countsOf m) (the-room o t l m q)))
    (subst (Sizes (length (script t)) (length (sectionsOf (script t))) (codeLen (sectionsOf (script t)))) ls (clean-counts o t l))

pub finished-fit : (o : Options) (s : List ℕ) (t : Tree) → parse s ≡ ok t → MachineFit (finished o t)
unfolding finished cleaned combined
finished-fit o s t e =
    let l = limits s t e in
    let m = finished o t in
    let q = finished-same o t l in
    let ls = ap (λ (x : List SectionCode). combineSections (cleanSections x)) (sym (lowered-sections o t)) in
    all-fits o t l (small o s t e) m q
    (subst (SectsFit (length (script t)) (countsOf m)) ls (finish-fit o t l (countsOf m) (the-room o t l m q)))
    (subst (Sizes (length (script t)) (length (sectionsOf (script t))) (codeLen (sectionsOf (script t)))) ls (finish-counts o t l))

-- Their words keep the rules.
pub lowered-fits : (o : Options) (s : List ℕ) (t : Tree) → parse s ≡ ok t → fits (encode (lowered o t)) (countsOf (lowered o t)) ≡ true
lowered-fits o s t e = encoded-fits (lowered o t) (lowered-fit o s t e)

pub cleaned-fits : (o : Options) (s : List ℕ) (t : Tree) → parse s ≡ ok t → fits (encode (cleaned (lowered o t))) (countsOf (cleaned (lowered o t))) ≡ true
cleaned-fits o s t e = encoded-fits (cleaned (lowered o t)) (cleaned-fit o s t e)

pub finished-fits : (o : Options) (s : List ℕ) (t : Tree) → parse s ≡ ok t → fits (encode (finished o t)) (countsOf (finished o t)) ≡ true
finished-fits o s t e = encoded-fits (finished o t) (finished-fit o s t e)
