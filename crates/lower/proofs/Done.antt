-- The lowered machine in the tables, with zeros up to the estimates, is what lower of rules leaves. Assumes nothing.
use mathlib.Core.Path.{◌≡◌, refl, sym, ap, ◌∙◌}
use mathlib.Core.Bool.{true}
use mathlib.Core.List.{List, ◌++◌}
use Prim.Native.Nat.{ℕ, ◌-◌, ◌≤◌}
use native.Mathlib.Omega.{arith}
use lib.IntN.{ℤ, pos}
use lib.ListN.{length, take, drop, replicate, length-map}
use Rattle.rules.specs.Bits.{ok}
use Rattle.rules.specs.Constants.{mostCount}
use Rattle.rules.specs.Tree.{Tree}
use Rattle.rules.specs.Parse.{parse}
use Rattle.rules.specs.Word.{insWord, spanWord}
use Rattle.rules.specs.Machine.{Machine}
use Rattle.rules.specs.Tables.{Tables, Counts, allCode, encode, countsOf}
use Rattle.rules.specs.Replace.{Regs, replaceSections, replaced}
use Rattle.rules.specs.Lowered.{Options, assemble, lowered}
use Rattle.rules.specs.Operations.{put, write, sizeOf, estimate, holds, build, lower}
use Rattle.replace.specs.Pass.{Rewrote}
use Rattle.replace.proofs.Replaces.{replaced-counts, replaced-words}
use Rattle.bounds.proofs.Stay.{numbers-stay}
use Rattle.bounds.proofs.Estimate.{code-length, replaced-len, WithinEstimate, estimated}
use Rattle.laws.specs.Sections.{words-length, replaced-length}
use Rattle.program.specs.Program.{Laid}
use Rattle.lower.proofs.Words.{stays, then-zeros}
use Rattle.lower.proofs.Before.{holds-lowered, counted, same-numbers, same-strings}

-- ---- counts and lengths

-- as many words in each table as counted
record Long (t : Tables) (u : Counts) : Type 0 where
  sections : length t.sections ≡ u.sections
  instrs : length t.instrs ≡ u.instrs
  numbers : length t.numbers ≡ u.numbers
  strings : length t.strings ≡ u.strings
  pool : length t.pool ≡ u.pool
  names : length t.names ≡ u.names

long : (m : Machine) → Long (encode m) (countsOf m)
unfolding encode countsOf
long m = record { sections = words-length 0 m.sections; instrs = length-map (allCode m.sections) insWord; numbers = refl; strings = length-map m.strings spanWord; pool = refl; names = refl }

-- replacement leaves no more instructions,
fewer : (m : Machine) → (countsOf (replaced m)).instrs ≤ (countsOf m).instrs
unfolding countsOf replaced
fewer m =
    let p = length m.pool in
    let r : Regs = record { numbers = m.numbers; strings = m.strings } in
    omega (arith, code-length m.sections, code-length (replaceSections p r m.sections).0, replaced-len p r m.sections)

-- and as many sections
same-sections : (m : Machine) → (countsOf (replaced m)).sections ≡ (countsOf m).sections
unfolding countsOf replaced
same-sections m = replaced-length (length m.pool) (record { numbers = m.numbers; strings = m.strings }) m.sections

-- so the sections and numbers before it keep within the estimates
module _ (o : Options) (x : Tree) where
  pub sections-within : (countsOf (assemble o x)).sections ≤ (estimate (sizeOf x)).sections
  unfolding lowered
  sections-within = omega (arith, same-sections (assemble o x), (estimated o x).sections)

  pub numbers-within : (countsOf (assemble o x)).numbers ≤ (estimate (sizeOf x)).numbers
  unfolding countsOf
  numbers-within = omega (arith, ap length (numbers-stay o x), (estimated o x).numbers)

-- ---- the tables afterwards

lower-ok : (o : Options) (s : List ℕ) (x : Tree) (l : Tables) → parse s ≡ ok x → holds l (estimate (sizeOf x)) ≡ true → (ok (countsOf (lowered o x)), write (estimate (sizeOf x)) (lowered o x) l) ≡ lower o s l
unfolding lower build
lower-ok o s x l p h = rw (p, h, lower, build)

module _ (o : Options) (s : List ℕ) (x : Tree) (parses : parse s ≡ ok x) (l l' : Tables) (c : Counts) (h : Laid (assemble o x) l l' c) (few : c.instrs ≤ mostCount)
    (ss is : List ℕ) (ns : List ℤ) (ts : List ℕ) (b k r : ℕ) (w : Rewrote l'.sections l'.instrs l'.numbers l'.strings ss is ns ts c.sections c.instrs c.numbers c.strings c.pool b k r) where
  abbrev told : Counts
  told = record { lines = c.lines; sections = c.sections; instrs = b; numbers = k; strings = r; pool = c.pool; names = c.names; values = c.values }

  lowered-counts : countsOf (lowered o x) ≡ told
  lowered-counts =
      let n = counted o s x parses l l' c h few in
      ap countsOf (sym (holds-lowered o s x parses l l' c h few)) ∙ replaced-counts l' c n.pool n.names ss is ns ts b k r w

  lowered-words : write c (lowered o x) l' ≡ record { sections = ss; instrs = is; numbers = ns; strings = ts; pool = l'.pool; names = l'.names }
  lowered-words =
      let n = counted o s x parses l l' c h few in
      ap (λ (m : Machine). write c m l') (sym (holds-lowered o s x parses l l' c h few)) ∙ replaced-words l' c n.pool n.names ss is ns ts b k r w

  -- the words that were laid are as many as counted, those of the lowered machine no more
  laid-long : Long (encode (assemble o x)) c
  laid-long = rw h.counts (long (assemble o x))

  lowered-long : Long (encode (lowered o x)) told
  lowered-long = rw (← lowered-counts) (long (lowered o x))

  fewer-instrs : b ≤ c.instrs
  unfolding lowered
  fewer-instrs = omega (arith, fewer (assemble o x), ap (λ (u : Counts). u.instrs) h.counts, ap (λ (u : Counts). u.instrs) lowered-counts)

  same-k : k ≡ c.numbers
  unfolding countsOf
  same-k = sym (ap (λ (u : Counts). u.numbers) lowered-counts) ∙ (ap (λ (m : Machine). length m.numbers) (sym (holds-lowered o s x parses l l' c h few)) ∙ same-numbers o s x parses l l' c h few)

  same-r : r ≡ c.strings
  unfolding countsOf
  same-r = sym (ap (λ (u : Counts). u.strings) lowered-counts) ∙ (ap (λ (m : Machine). length m.strings) (sym (holds-lowered o s x parses l l' c h few)) ∙ same-strings o s x parses l l' c h few)

  module _ (u : Counts) (u-is : u ≡ estimate (sizeOf x)) (within : c.instrs ≤ u.instrs) where
    -- the lowered machine within the estimates
    kept : WithinEstimate told u
    kept = rw (← lowered-counts, u-is) (estimated o x)

    pub lower-done : holds l u ≡ true → (ss' is' : List ℕ) (ns' : List ℤ) →
        ss' ≡ take c.sections ss ++ (replicate (u.sections - c.sections) 0 ++ drop u.sections ss) →
        is' ≡ take c.instrs is ++ (replicate (u.instrs - c.instrs) 0 ++ drop u.instrs is) →
        ns' ≡ take c.numbers ns ++ (replicate (u.numbers - c.numbers) (pos 0) ++ drop u.numbers ns) →
        (ok told, record { sections = ss'; instrs = is'; numbers = ns'; strings = ts; pool = l'.pool; names = l'.names }) ≡ lower o s l
    unfolding write
    lower-done room ss' is' ns' p q v =
        let m = encode (assemble o x) in
        let y = encode (lowered o x) in
        let a = laid-long in
        let d = lowered-long in
        let e = kept in
        let sections : ss' ≡ put 0 u.sections y.sections l.sections =
        p ∙ then-zeros 0 c.sections y.sections m.sections l.sections l'.sections ss a.sections (omega (arith, d.sections)) h.sections (ap (λ (t : Tables). t.sections) lowered-words) u.sections e.sections
        in
        let instrs : is' ≡ put 0 u.instrs y.instrs l.instrs =
        q ∙ then-zeros 0 c.instrs y.instrs m.instrs l.instrs l'.instrs is a.instrs (omega (arith, d.instrs, fewer-instrs)) h.instrs (ap (λ (t : Tables). t.instrs) lowered-words) u.instrs within
        in
        let numbers : ns' ≡ put (pos 0) u.numbers y.numbers l.numbers =
        v ∙ then-zeros (pos 0) c.numbers y.numbers m.numbers l.numbers l'.numbers ns a.numbers (omega (arith, d.numbers, same-k)) h.numbers (ap (λ (t : Tables). t.numbers) lowered-words) u.numbers (omega (arith, e.numbers, same-k))
        in
        let strings : ts ≡ put 0 u.strings y.strings l.strings =
        stays 0 c.strings y.strings m.strings l.strings l'.strings ts a.strings (omega (arith, d.strings, same-r)) h.strings (ap (λ (t : Tables). t.strings) lowered-words) ∙ ap (λ (n : ℕ). put 0 n y.strings l.strings) (sym same-r ∙ e.strings)
        in
        let pool : l'.pool ≡ put 0 u.pool y.pool l.pool =
        stays 0 c.pool y.pool m.pool l.pool l'.pool l'.pool a.pool (omega (arith, d.pool)) h.pool (ap (λ (t : Tables). t.pool) lowered-words) ∙ ap (λ (n : ℕ). put 0 n y.pool l.pool) e.pool
        in
        let names : l'.names ≡ put 0 u.names y.names l.names =
        stays 0 c.names y.names m.names l.names l'.names l'.names a.names (omega (arith, d.names)) h.names (ap (λ (t : Tables). t.names) lowered-words) ∙ ap (λ (n : ℕ). put 0 n y.names l.names) e.names
        in
        rw (sections, instrs, numbers, strings, pool, names, ← lowered-counts, u-is) (lower-ok o s x l parses (rw (← u-is) room))
