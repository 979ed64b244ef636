-- `combine` of the rules at each way out of the code. Assumes that words have their bits.
use mathlib.Core.Path.{◌≡◌, refl, sym, ap, ◌∙◌}
use mathlib.Core.Bool.{true, false}
use mathlib.Core.List.{List, ◌++◌, map}
use Prim.Native.Nat.{ℕ, ◌^◌, ◌<◌, ◌≤◌, max}
use native.Mathlib.Omega.{arith}
use native.Mathlib.Nat.{max-eq_left, sub_self}
use lib.IntN.{pos}
use lib.ListN.{length, take, drop, get_or, length-map}
use lib.Seq.{take-length, length-take-le}
use Rattle.rules.specs.Bits.{refused, ok}
use Rattle.rules.specs.Refusal as Refusal
use Rattle.rules.specs.Word.{insWord, wordSpan}
use Rattle.rules.specs.Machine.{Machine, withSections}
use Rattle.rules.specs.Tables.{Tables, Counts, allb, fits, allCode, countsOf}
use Rattle.rules.specs.Operations.{put, write, fixedHere, allAhead, combineIn, combine}
use Rattle.rules.specs.Combine.{combineSections, combined}
use Rattle.tables.specs.Runs.{fixedWord, held}
use Rattle.tables.proofs.Sound.{Sound as Keeps, sound}
use Rattle.tables.proofs.Change.{machineOf, change-12, change-no, change-ok, counts-of, written, put-back, strings-back}
use Rattle.combine.specs.Tests.{wordsAhead}
use Rattle.combine.proofs.Tests.{fixed-are, ahead-from}
use Rattle.combine.specs.Combined.{Combined}

-- as many words as there were
put-all : (n : ℕ) (ws t : List ℕ) → n ≡ length ws → ws ++ drop n t ≡ put 0 n ws t
unfolding put
put-all n ws t h =
    let m : max n n ≡ n = max-eq_left (omega arith) in
    rw (← h, m, sub_self)

module _ (t : Tables) (u : Counts) where
  pub combine-12 : fits t u ≡ false → (refused Refusal.breaksRules, t) ≡ combine t u
  unfolding combine
  combine-12 e = change-12 t u combineIn e

  module _ (h : fits t u ≡ true) where
    pub keeps : Keeps t u
    keeps = sound t u h

    pub few-sections : u.sections ≤ length t.sections
    few-sections = keeps.counts.sections

    fixed-is : allb fixedHere (machineOf t u).sections ≡ allb fixedWord (take u.sections t.sections)
    unfolding held
    fixed-is = fixed-are (take u.sections t.sections) (take u.instrs t.instrs)

    -- the section words that are in use
    abbrev used : List ℕ
    used = take u.sections t.sections

    ahead-is : allAhead (machineOf t u).sections 0 (machineOf t u).sections ≡ wordsAhead used (length used) 0 used
    unfolding held
    ahead-is =
        let all : length used ≤ length used = omega arith in
        rw (take-length used) at (ahead-from used (take u.instrs t.instrs) (length used) all 0 used (take u.instrs t.instrs))

    pub combine-14 : false ≡ allb fixedWord (take u.sections t.sections) → (refused Refusal.isUnfixed, t) ≡ combine t u
    unfolding combine combineIn
    combine-14 e = change-no t u combineIn h Refusal.isUnfixed (rw (fixed-is, ← e, combineIn))

    module _ (f : true ≡ allb fixedWord (take u.sections t.sections)) where
      pub combine-15 : false ≡ wordsAhead used (length used) 0 used → (refused Refusal.linksBack, t) ≡ combine t u
      unfolding combine combineIn
      combine-15 e = change-no t u combineIn h Refusal.linksBack (rw (fixed-is, ← f, ahead-is, ← e, combineIn))

      module _ (a : true ≡ wordsAhead used (length used) 0 used) where
        -- what the pass asks
        pub no-links-back : allAhead (held t.sections t.instrs u.sections u.instrs) 0 (held t.sections t.instrs u.sections u.instrs) ≡ true
        no-links-back = ahead-is ∙ sym a

        ends : (ok (countsOf (combined (machineOf t u))), write u (combined (machineOf t u)) t) ≡ combine t u
        unfolding combine combineIn
        ends = change-ok t u combineIn h (combined (machineOf t u)) (rw (fixed-is, ← f, ahead-is, ← a, combineIn))

        module _ (small : (i : ℕ) → get_or t.strings i 0 < 2 ^ 32) (s i : List ℕ) (r : ℕ) (c : Combined t.sections t.instrs s i u.sections u.instrs (combineSections (held t.sections t.instrs u.sections u.instrs)) r) where
          combined-is : combined (machineOf t u) ≡ withSections (machineOf t u) (combineSections (held t.sections t.instrs u.sections u.instrs))
          unfolding combined
          combined-is = refl

          counts-are : countsOf (combined (machineOf t u)) ≡ record { lines = u.lines; sections = r; instrs = u.instrs; numbers = u.numbers; strings = u.strings; pool = u.pool; names = u.names; values = u.values }
          counts-are =
              let k = keeps.counts in
              ap countsOf combined-is ∙ counts-of _ _ _ _ _ _ _ _ _ _ _ _ _ (sym c.count) (sym c.code) (length-take-le u.numbers t.numbers k.numbers) (length-map (take u.strings t.strings) wordSpan ∙ length-take-le u.strings t.strings k.strings)
              (length-take-le u.pool t.pool k.pool) (length-take-le u.names t.names k.names)

          words-are : write u (combined (machineOf t u)) t ≡ record { sections = s; instrs = i; numbers = t.numbers; strings = t.strings; pool = t.pool; names = t.names }
          words-are =
              let k = keeps.counts in
              let ss = combineSections (held t.sections t.instrs u.sections u.instrs) in
              let ws = map insWord (allCode ss) in
              ap (λ (m : Machine). write u m t) combined-is ∙ written _ _ _ _ _ _ _ u t _ _ _ _ _ _ (sym c.tables.sections) (sym (c.tables.instrs ∙ put-all u.instrs ws t.instrs (c.code ∙ sym (length-map (allCode ss) insWord))))
              (put-back (pos 0) u.numbers t.numbers k.numbers) (ap (λ (x : List ℕ). put 0 u.strings x t.strings) (strings-back t u keeps small) ∙ put-back 0 u.strings t.strings k.strings)
              (put-back 0 u.pool t.pool k.pool) (put-back 0 u.names t.names k.names)

          pub combine-done : (
            ok (record { lines = u.lines; sections = r; instrs = u.instrs; numbers = u.numbers; strings = u.strings; pool = u.pool; names = u.names; values = u.values }),
            record { sections = s; instrs = i; numbers = t.numbers; strings = t.strings; pool = t.pool; names = t.names },
          ) ≡ combine t u
          combine-done = rw (← counts-are, ← words-are) ends
