-- Sections whose registers and targets are there make machine words that keep the rules.
use Rattle.std.specs.Prelude.{◌≡◌, refl, Bool, true, false, not, ◌&&◌, ℕ, zero, suc, ◌≤◌, ◌<◌, leb, length, get_or, drop}
use Rattle.std.proofs.Common.{sym, subst, arith, leb-true}
use Rattle.std.proofs.Math.Option.{Option, none, some}
use mathlib.Core.List.{List, [], ◌∷◌}
use Rattle.rules.specs.Instr.{Row, Instruction, isJump, shown, Kind, unused, num, str, val, place, table, kinds}
use Rattle.rules.specs.Machine.{SectionOrLine, unfixed, section, line, SectionCode, absent, Machine}
use Rattle.rules.specs.Tables.{Counts, countsOf, allb, allCode, nameFits}
use Rattle.rules.specs.Preservation.{All, FieldsBelow, RegistersBelow}
use Rattle.bounds.specs.Good.{CodeGood, NextGood, SectGood}
use Rattle.bounds.specs.Jumps.{aimed-other}
use Rattle.laws.specs.Lists.{not-both, all-append, all-at, both}
use Rattle.machines.specs.Fits.{row-of, isPlace, Held, Counted, SectFit, NextFit, SpanFit, MachineFit}
use Rattle.machines.specs.Targets.{JumpBelow, NextBelow, Aims, Loose}
use Rattle.machines.specs.Shape.{numbered}
use Rattle.laws.specs.Table.{all-at as all-rows}

-- ---- only jumps hold a section

abbrev noPlace : Kind × Kind × Kind → Bool
noPlace k = not (isPlace k.0) && not (isPlace k.1) && not (isPlace k.2)

rowPlain : Row → Bool
rowPlain r = noPlace r.kinds

rest-plain : allb rowPlain (drop 2 table) ≡ true
unfolding allb table rowPlain
rest-plain = refl

no-place : (o : ℕ) → leb o 1 ≡ false → (k : Kind × Kind × Kind) → kinds o ≡ some k → noPlace k ≡ true
unfolding table rowPlain
no-place zero h k e = absurd (not-both true refl h)
no-place (suc zero) h k e = absurd (not-both true refl h)
no-place (suc (suc o)) h k e =
    let r = row-of (suc (suc o)) k e in
    subst (λ (z : Kind × Kind × Kind). noPlace z ≡ true) r.2 (all-rows rowPlain (drop 2 table) o r.0 rest-plain (sym r.1))

-- ---- an instruction holds what it must

held-jump : (u : Counts) (o a b c d : ℕ) → o ≤ 1 → FieldsBelow u (kinds o) (record { op = o; fst = a; snd = c; thd = d }) → b < u.sections → Held u (kinds o) (record { op = o; fst = b; snd = c; thd = d })
unfolding kinds
held-jump u zero a b c d h f k = ((tt, λ q. k), (f.1, λ q. absurd (not-both true refl (sym q))), (f.2, λ q. absurd (not-both true refl (sym q))))
held-jump u (suc zero) a b c d h f k = ((tt, λ q. k), (f.1, λ q. absurd (not-both true refl (sym q))), (f.2, λ q. absurd (not-both true refl (sym q))))
held-jump u (suc (suc o)) a b c d h f k = absurd (omega arith)

not-place : (k : Kind) → not (isPlace k) ≡ true → isPlace k ≡ true → ⊥
not-place unused h q = not-both true refl (sym q)
not-place num h q = not-both true refl (sym q)
not-place str h q = not-both true refl (sym q)
not-place val h q = not-both true refl (sym q)
not-place place h q = not-both true refl (sym h)

three : (a b c : Bool) → (a && b && c) ≡ true → (a ≡ true) × (b ≡ true) × (c ≡ true)
three a b c e =
    let p = both (a && b) c e in
    let q = both a b p.0 in
    (q.0, q.1, p.1)

held-other : (u : Counts) (i : Instruction) (k : Option (Kind × Kind × Kind)) → ((l : Kind × Kind × Kind) → k ≡ some l → noPlace l ≡ true) → FieldsBelow u k i → Held u k i
held-other u i none n f = f
held-other u i (some k) n f =
    let t = three (not (isPlace k.0)) (not (isPlace k.1)) (not (isPlace k.2)) (n k refl) in
    ((f.0, λ r. absurd (not-place k.0 t.0 r)), (f.1, λ r. absurd (not-place k.1 t.1 r)), (f.2, λ r. absurd (not-place k.2 t.2 r)))

held : (u : Counts) (i : Instruction) → RegistersBelow u (shown i) → JumpBelow u.sections i → Held u (kinds i.op) i
held u i r j = go (isJump i) refl
  where
    go : (b : Bool) → isJump i ≡ b → Held u (kinds i.op) i
    go true e = held-jump u i.op (shown i).fst i.fst i.snd i.thd (leb-true i.op 1 e) r (j e)
    go false e = held-other u i (kinds i.op) (no-place i.op e) (subst (RegistersBelow u) (aimed-other 0 i e) r)

-- ---- sections

module _ (u : Counts) where
  abbrev H : Instruction → Type 0
  H i = Held u (kinds i.op) i

  abbrev Sound : SectionCode → Type 0
  Sound s = SectGood (RegistersBelow u) (λ r. r < u.numbers) s

  code-held : (c : List Instruction) → CodeGood (RegistersBelow u) c → All (JumpBelow u.sections) c → All H c
  code-held [] g a = tt
  code-held (i ∷ c) g a = (held u i g.0 a.0, code-held c g.1 a.1)

  all-held : (ss : List SectionCode) → All Sound ss → All (Aims u.sections) ss → All H (allCode ss)
  unfolding allCode
  all-held [] g a = tt
  all-held (s ∷ ss) g a = all-append H s.instrs (allCode ss) (code-held s.instrs g.0.0 a.0.0) (all-held ss g.1 a.1)

  next-fit : (x : SectionOrLine) → NextGood (λ r. r < u.numbers) x → NextBelow u.sections x → NextFit u x
  next-fit unfixed g a = tt
  next-fit (section t) g a = a
  next-fit (line r) g a = g

-- What is known of a machine's sections.
pub record SectsFit (L : ℕ) (u : Counts) (ss : List SectionCode) : Type 0 where
  pub good : All (SectGood (RegistersBelow u) (λ r. r < u.numbers)) ss
  pub aims : All (Aims (length ss)) ss
  pub starts : (t : ℕ) → t < L → (get_or ss t absent).lineStart ≡ true
  pub later : (t : ℕ) → L ≤ t → t < length ss → Loose (get_or ss t absent)

pub machine-fit : (m : Machine) → Counted (countsOf m) → SectsFit m.lines (countsOf m) m.sections → All (SpanFit (length m.pool)) m.strings → All (λ n. nameFits (countsOf m) n ≡ true) m.names → MachineFit m
unfolding countsOf
machine-fit m c f sp nm =
    let ss = m.sections in
    let u = countsOf m in
    record {
      counted = c;
      instrs = all-held u ss f.good f.aims;
      sects = numbered (SectFit u) 0 ss (λ t p.
          let g = all-at (SectGood (RegistersBelow u) (λ r. r < u.numbers)) absent ss f.good t p in
          let a = all-at (Aims (length ss)) absent ss f.aims t p in
          record {
            success = next-fit u (get_or ss t absent).success g.1 a.1;
            lineStart = λ h. f.starts t (omega arith);
            later = λ h. f.later t (omega arith) p;
          });
      spans = sp;
      names = nm;
    }
