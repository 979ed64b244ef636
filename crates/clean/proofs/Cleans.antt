-- `clean` of the rules at each way out of the code. Assumes nothing.
use mathlib.Core.Path.{◌≡◌, sym, ap, ◌∙◌}
use mathlib.Core.Bool.{true, false}
use mathlib.Core.List.{List, map}
use Prim.Native.Nat.{ℕ, ◌^◌, ◌<◌, ◌≤◌}
use lib.IntN.{pos}
use lib.ListN.{length, take, get_or, length-map}
use lib.Seq.{length-take-le, take-take}
use Rattle.rules.specs.Bits.{refused, ok}
use Rattle.rules.specs.Refusal as Refusal
use Rattle.rules.specs.Word.{wordSpan, spanWord}
use Rattle.rules.specs.Machine.{Machine}
use Rattle.rules.specs.Tables.{Tables, Counts, allb, fits, countsOf}
use Rattle.rules.specs.Clean.{cleaned}
use Rattle.rules.specs.Operations.{put, write, fixedHere, jumpsFixed, cleanIn, clean}
use Rattle.tables.specs.Runs.{fixedWord, held, total}
use Rattle.tables.proofs.Sound.{sound, counts_kept}
use Rattle.tables.proofs.Read.{whole-total}
use Rattle.tables.proofs.Change.{machineOf, change-12, change-no, change-ok, counts-of, written, put-back, strings-back}
use Rattle.clean.specs.Pass.{jumpIn, Cleaned}
use Rattle.clean.proofs.Numbers.{lines-are, jumps-are, all-jumps}

-- ---- the cleaned machine, its counts and its words

-- what `remove_unfixed_sections` leaves, for every caller of it: the other tables are as they were
pub record Others (t : Tables) (u : Counts) : Type 0 where
  pub numbers : u.numbers ≤ length t.numbers
  pub strings : u.strings ≤ length t.strings
  pub pool : u.pool ≤ length t.pool
  pub names : u.names ≤ length t.names
  pub plain : map spanWord (map wordSpan (take u.strings t.strings)) ≡ take u.strings t.strings

module _ (t : Tables) (u : Counts) (o : Others t u) (ss is : List ℕ) (m n : ℕ) (c : Cleaned t.sections t.instrs ss is u.sections u.instrs m n) where
  pub cleaned-counts : countsOf (cleaned (machineOf t u)) ≡ record { lines = u.lines; sections = m; instrs = n; numbers = u.numbers; strings = u.strings; pool = u.pool; names = u.names; values = u.values }
  unfolding cleaned
  cleaned-counts =
      counts-of _ _ _ _ _ _ _ _ _ _ _ _ _ (sym c.section-count) (sym c.instr-count) (length-take-le u.numbers t.numbers o.numbers) (simp length-map (length-take-le u.strings t.strings o.strings))
      (length-take-le u.pool t.pool o.pool) (length-take-le u.names t.names o.names)

  pub cleaned-words : write u (cleaned (machineOf t u)) t ≡ record { sections = ss; instrs = is; numbers = t.numbers; strings = t.strings; pool = t.pool; names = t.names }
  unfolding cleaned
  cleaned-words =
      written _ _ _ _ _ _ _ u t _ _ _ _ _ _ (sym c.sections) (sym c.instrs) (put-back (pos 0) u.numbers t.numbers o.numbers)
      (ap (λ (x : List ℕ). put 0 u.strings x t.strings) o.plain ∙ put-back 0 u.strings t.strings o.strings)
      (put-back 0 u.pool t.pool o.pool) (put-back 0 u.names t.names o.names)

-- ---- the ways out

module _ (t : Tables) (u : Counts) where
  pub clean-12 : fits t u ≡ false → (refused Refusal.breaksRules, t) ≡ clean t u
  unfolding clean
  clean-12 e = change-12 t u cleanIn e

  module _ (h : fits t u ≡ true) where
    pub covered : total (take u.sections t.sections) ≡ u.instrs
    covered = whole-total t u (sound t u h)

    lines-known : allb fixedHere (take u.lines (machineOf t u).sections) ≡ allb fixedWord (take u.lines t.sections)
    unfolding held
    lines-known =
        lines-are u.lines (take u.sections t.sections) (take u.instrs t.instrs)
        ∙ ap (allb fixedWord) (take-take u.lines u.sections t.sections (counts_kept t u h).lines)

    jumps-known : allb (jumpsFixed (machineOf t u).sections) (machineOf t u).sections ≡ allb (jumpIn (take u.sections t.sections)) (take u.instrs t.instrs)
    unfolding held
    jumps-known =
        let k = counts_kept t u h in
        jumps-are (machineOf t u).sections (take u.sections t.sections) (take u.instrs t.instrs) (covered ∙ sym (length-take-le u.instrs t.instrs k.instrs))
        ∙ all-jumps (take u.sections t.sections) (take u.instrs t.instrs) (take u.instrs t.instrs)

    clean-13 : cleanIn t (machineOf t u) ≡ refused Refusal.needsUnfixed → (refused Refusal.needsUnfixed, t) ≡ clean t u
    unfolding clean
    clean-13 e = change-no t u cleanIn h Refusal.needsUnfixed e

    clean-ok : (m : Machine) → cleanIn t (machineOf t u) ≡ ok m → (ok (countsOf m), write u m t) ≡ clean t u
    unfolding clean
    clean-ok m e = change-ok t u cleanIn h m e

    pub clean-lines : allb fixedWord (take u.lines t.sections) ≡ false → (refused Refusal.needsUnfixed, t) ≡ clean t u
    unfolding cleanIn
    clean-lines a = clean-13 (rw (lines-known, a, cleanIn))

    module _ (a : allb fixedWord (take u.lines t.sections) ≡ true) where
      pub clean-jumps : allb (jumpIn (take u.sections t.sections)) (take u.instrs t.instrs) ≡ false → (refused Refusal.needsUnfixed, t) ≡ clean t u
      unfolding cleanIn
      clean-jumps b = clean-13 (rw (lines-known, a, jumps-known, b, cleanIn))

      module _ (b : allb (jumpIn (take u.sections t.sections)) (take u.instrs t.instrs) ≡ true) where
        done : (ok (countsOf (cleaned (machineOf t u))), write u (cleaned (machineOf t u)) t) ≡ clean t u
        unfolding cleanIn
        done = clean-ok (cleaned (machineOf t u)) (rw (lines-known, a, jumps-known, b, cleanIn))

        module _ (small : (i : ℕ) → get_or t.strings i 0 < 2 ^ 32) (ss is : List ℕ) (m n : ℕ) (c : Cleaned t.sections t.instrs ss is u.sections u.instrs m n) where
          others : Others t u
          others =
              let s = sound t u h in
              let k = s.counts in
              record { numbers = k.numbers; strings = k.strings; pool = k.pool; names = k.names; plain = strings-back t u s small }

          pub clean-done : (ok (record { lines = u.lines; sections = m; instrs = n; numbers = u.numbers; strings = u.strings; pool = u.pool; names = u.names; values = u.values }), record { sections = ss; instrs = is; numbers = t.numbers; strings = t.strings; pool = t.pool; names = t.names }) ≡ clean t u
          clean-done = rw (← cleaned-counts t u others ss is m n c, ← cleaned-words t u others ss is m n c) done

pub ruleset ways = (clean-12, clean-lines, clean-jumps, clean-done, counts_kept)
