-- What a machine's words say where they keep the rules. Assumes nothing.
use mathlib.Core.Path.{◌≡◌, refl}
use mathlib.Core.Bool.{Bool, true, false, ◌&&◌}
use mathlib.Core.List.{List, [], ◌∷◌}
use Prim.Native.Nat.{ℕ, ◌<◌, ◌≤◌}
use lib.Dec.{ltb, leb}
use lib.ListN.{length, take}
use borrow.Author.Tests.{leb-true, ltb-true}
use Rattle.std.proofs.lemmas.Bool.{false≢true}
use Rattle.rules.specs.Constants.{mostLines, mostCount}
use Rattle.rules.specs.Tables.{Tables, Counts, allb, insFits, runsFit, spanFits, nameFits, countFits, countsFit, wordsFit, fits}
use Rattle.laws.specs.Lists.{both}

-- ---- tests in a row that all hold

abbrev row : Bool → List Bool → Bool
row a [] = a
row a (b ∷ bs) = row (a && b) bs

abbrev Each : List Bool → Type 0
Each [] = Unit {0}
Each (b ∷ bs) = (b ≡ true) × Each bs

each : (a : Bool) (bs : List Bool) → row a bs ≡ true → (a ≡ true) × Each bs
each a [] e = (e, tt)
each a (b ∷ bs) e =
    let p = each (a && b) bs e in
    let q = both a b p.0 in
    (q.0, (q.1, p.1))

-- ---- the counts

module _ {A : Type 0} (n : ℕ) (t : List A) (e : countFits n t ≡ true) where
  few : n ≤ mostCount
  unfolding countFits
  few = leb-true _ _ (both (leb n mostCount) (leb n (length t)) e).0

  within : n ≤ length t
  unfolding countFits
  within = leb-true _ _ (both (leb n mostCount) (leb n (length t)) e).1

pub record Counted (t : Tables) (u : Counts) : Type 0 where
  pub some-line : 0 < u.lines
  pub lines : u.lines ≤ u.sections
  pub sections : u.sections ≤ length t.sections
  pub sections-few : u.sections ≤ mostCount
  pub instrs : u.instrs ≤ length t.instrs
  pub instrs-few : u.instrs ≤ mostCount
  pub numbers : u.numbers ≤ length t.numbers
  pub numbers-few : u.numbers ≤ mostCount
  pub strings : u.strings ≤ length t.strings
  pub strings-few : u.strings ≤ mostCount
  pub pool : u.pool ≤ length t.pool
  pub pool-few : u.pool ≤ mostCount
  pub names : u.names ≤ length t.names

pub counted : (t : Tables) (u : Counts) → countsFit t u ≡ true → Counted t u
unfolding countsFit
counted t u e =
    let s =
    each (ltb 0 u.lines)
    (leb u.lines mostLines
    ∷ leb u.lines u.sections
    ∷ leb u.values mostCount
    ∷ countFits u.sections t.sections
    ∷ countFits u.instrs t.instrs
    ∷ countFits u.numbers t.numbers
    ∷ countFits u.strings t.strings
    ∷ countFits u.pool t.pool
    ∷ countFits u.names t.names
    ∷ [])
    e
    in
    let a = s.1.1.1.1.0 in
    let b = s.1.1.1.1.1.0 in
    let c = s.1.1.1.1.1.1.0 in
    let d = s.1.1.1.1.1.1.1.0 in
    let f = s.1.1.1.1.1.1.1.1.0 in
    record {
      some-line = ltb-true _ _ s.0;
      lines = leb-true _ _ s.1.1.0;
      sections = within u.sections t.sections a;
      sections-few = few u.sections t.sections a;
      instrs = within u.instrs t.instrs b;
      instrs-few = few u.instrs t.instrs b;
      numbers = within u.numbers t.numbers c;
      numbers-few = few u.numbers t.numbers c;
      strings = within u.strings t.strings d;
      strings-few = few u.strings t.strings d;
      pool = within u.pool t.pool f;
      pool-few = few u.pool t.pool f;
      names = within u.names t.names s.1.1.1.1.1.1.1.1.1.0;
    }

-- ---- the words

pub record Sound (t : Tables) (u : Counts) : Type 0 where
  pub counts : Counted t u
  pub instrs : allb (insFits u) (take u.instrs t.instrs) ≡ true
  pub runs : runsFit u 0 0 (take u.sections t.sections) ≡ true
  pub spans : allb (spanFits u) (take u.strings t.strings) ≡ true
  pub names : allb (nameFits u) (take u.names t.names) ≡ true

module _ (t : Tables) (u : Counts) where
  by-counts : (b : Bool) → countsFit t u ≡ b → fits t u ≡ true → (b ≡ true) × (wordsFit t u ≡ true)
  unfolding fits
  by-counts true e h = (refl, rw (e, fits) at h)
  by-counts false e h = absurd (false≢true (rw (e, fits) at h))

  pub sound : fits t u ≡ true → Sound t u
  unfolding wordsFit
  sound h =
      let w = by-counts _ refl h in
      let s =
      each (allb (insFits u) (take u.instrs t.instrs))
      (runsFit u 0 0 (take u.sections t.sections) ∷ allb (spanFits u) (take u.strings t.strings) ∷ allb (nameFits u) (take u.names t.names) ∷ [])
      w.1
      in
      record { counts = counted t u w.0; instrs = s.0; runs = s.1.0; spans = s.1.1.0; names = s.1.1.1.0 }

  -- the counts alone
  pub counts_kept : fits t u ≡ true → Counted t u
  counts_kept h = (sound h).counts
