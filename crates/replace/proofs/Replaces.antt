-- `replace` of the rules at each way out of the code. Assumes nothing.
use mathlib.Core.Path.{◌≡◌, sym, ap, ◌∙◌}
use mathlib.Core.Bool.{Bool, true, false, cond, ◌&&◌}
use mathlib.Core.List.{List, [], ◌∷◌, map}
use Prim.Native.Nat.{ℕ, ◌+◌, ◌^◌, ◌<◌, ◌≤◌}
use native.Mathlib.Omega.{arith}
use lib.Dec.{leb}
use lib.IntN.{ℤ}
use lib.ListN.{length, take, drop, get_or, length-append, length-map, length-drop, take-append-drop}
use lib.Seq.{take-length, length-take-le}
use borrow.Author.Tests.{leb-true}
use Rattle.rules.specs.Bits.{Res, refused, ok}
use Rattle.rules.specs.Constants.{mostCount}
use Rattle.rules.specs.Refusal as Refusal
use Rattle.rules.specs.Instr.{Instruction}
use Rattle.rules.specs.Word.{wordRun, wordIns}
use Rattle.rules.specs.Machine.{SectionCode, Machine}
use Rattle.rules.specs.Tables.{Tables, Counts, readSections, fits, countsOf}
use Rattle.rules.specs.Replace.{ruleOf, Regs, replaceIns, replaceCode, replaceSections, replaced}
use Rattle.rules.specs.Operations.{write, slots, replaceIn, replace}
use Rattle.laws.proofs.Words.{ins-small}
use Rattle.laws.specs.Lists.{both}
use Rattle.words.specs.Told.{replacedOf, replacedBy}
use Rattle.words.proofs.Rules.{replaced-is}
use Rattle.words.specs.declared.instr.Replaced.{Replaced}
use Rattle.words.specs.declared.instr.Replaced.TheVariants.{Stays, Goes, Turns, Number, Blank}
use Rattle.tables.specs.Runs.{countOf, total, sectionOf, held}
use Rattle.tables.proofs.Sound.{sound}
use Rattle.tables.proofs.Read.{read-nil, read-cons, count-is, whole-total}
use Rattle.tables.proofs.Change.{machineOf, change-12, change-no, change-ok, counts-of, written, put-back, strings-back}
use Rattle.replace.specs.Pass.{numbersBy, stringsBy, numberOf, stringOf, sums, AddsAll, regsOf, wholeOf, Ready, Rewrote}
use Rattle.replace.proofs.Adding.{sums-nil, sums-cons, sums-append}

-- ---- how many registers there are afterwards

answer-numbers : (p : ℕ) (r : Regs) (i : Instruction) (d : Replaced) → length (replacedBy p r i d).1.numbers ≡ length r.numbers + numbersBy d
answer-numbers p r i Stays = omega arith
answer-numbers p r i Goes = omega arith
answer-numbers p r i (Turns w) = omega arith
answer-numbers p r i (Number z n) = simp length-append
answer-numbers p r i (Blank s) = omega arith

answer-strings : (p : ℕ) (r : Regs) (i : Instruction) (d : Replaced) → length (replacedBy p r i d).1.strings ≡ length r.strings + stringsBy d
answer-strings p r i Stays = omega arith
answer-strings p r i Goes = omega arith
answer-strings p r i (Turns w) = omega arith
answer-strings p r i (Number z n) = omega arith
answer-strings p r i (Blank s) = simp length-append

one-numbers : (p : ℕ) (r : Regs) (w : ℕ) → length (replaceIns p r (wordIns w)).1.numbers ≡ length r.numbers + numberOf w
unfolding numberOf
one-numbers p r w = ap (λ (x : List Instruction × Regs). length x.1.numbers) (sym (replaced-is p r (wordIns w) (ins-small w))) ∙ answer-numbers p r (wordIns w) (replacedOf (ruleOf (wordIns w)) (wordIns w))

one-strings : (p : ℕ) (r : Regs) (w : ℕ) → length (replaceIns p r (wordIns w)).1.strings ≡ length r.strings + stringOf w
unfolding stringOf
one-strings p r w = ap (λ (x : List Instruction × Regs). length x.1.strings) (sym (replaced-is p r (wordIns w) (ins-small w))) ∙ answer-strings p r (wordIns w) (replacedOf (ruleOf (wordIns w)) (wordIns w))

none-left : (f : ℕ → ℕ) (is : List ℕ) → 0 ≡ length is → sums f is ≡ 0
none-left f [] h = sums-nil f
none-left f (i ∷ is) h = absurd (omega arith)

parts : (f : ℕ → ℕ) (w : ℕ) (is : List ℕ) → sums f is ≡ sums f (take (wordRun w).count is) + sums f (drop (countOf w) is)
parts f w is = ap (sums f) (sym (take-append-drop (countOf w) is)) ∙ sums-append f (take (countOf w) is) (drop (countOf w) is) ∙ rw (count-is w)

-- a count g of registers that each word w raises by f w
module _ (p : ℕ) (g : Regs → ℕ) (f : ℕ → ℕ) (one : (r : Regs) (w : ℕ) → g (replaceIns p r (wordIns w)).1 ≡ g r + f w) where
  code-count : (r : Regs) (is : List ℕ) → g (replaceCode p r (map wordIns is)).1 ≡ g r + sums f is
  code-count r [] = rw sums-nil (omega arith)
  code-count r (w ∷ is) =
      let a = one r w in
      let b = code-count (replaceIns p r (wordIns w)).1 is in
      rw sums-cons (omega arith)

  -- the sections of words ws, whose runs cover the words is
  section-count : (r : Regs) (ws is : List ℕ) → total ws ≡ length is → g (replaceSections p r (readSections ws is)).1 ≡ g r + sums f is
  unfolding total
  section-count r [] is h = rw (read-nil, none-left f is h) (omega arith)
  section-count r (w ∷ ws) is h =
      let l : total ws ≡ length (drop (countOf w) is) = simp length-drop (omega arith) in
      let a = code-count r (take (wordRun w).count is) in
      let b = section-count (replaceCode p r (sectionOf w is).instrs).1 ws (drop (countOf w) is) l in
      let c = parts f w is in
      rw read-cons (omega arith)

-- ---- what is refused

replace-by : (t : Tables) (m : Machine) (b : Bool) → (slots (replaced m).numbers t.numbers && slots (replaced m).strings t.strings) ≡ b → replaceIn t m ≡ cond b (ok (replaced m)) (refused Refusal.noRoom)
unfolding replaceIn
replace-by t m true e = rw (e, replaceIn)
replace-by t m false e = rw (e, replaceIn)

slots-are : {A B : Type 0} (ws : List A) (t : List B) (n : ℕ) → length ws ≡ n → slots ws t ≡ (leb n (length t) && leb n mostCount)
unfolding slots
slots-are ws t n e = rw e

-- ---- the replaced machine, its counts and its words

module _ (t : Tables) (u : Counts) where
  abbrev whole : List SectionCode × Regs
  whole = wholeOf t.sections t.instrs t.numbers t.strings u.sections u.instrs u.numbers u.strings u.pool

  abbrev made : Machine
  made = record { lines = u.lines; sections = whole.0; numbers = whole.1.numbers; strings = whole.1.strings; pool = take u.pool t.pool; values = u.values; names = take u.names t.names }

  -- the answer and the tables that a machine leaves
  abbrev leftBy : Machine → Res Counts × Tables
  leftBy m = (ok (countsOf m), write u m t)

  module _ (pl : u.pool ≤ length t.pool) where
    pool-is : length (take u.pool t.pool) ≡ u.pool
    pool-is = length-take-le u.pool t.pool pl

    made-is : replaced (machineOf t u) ≡ made
    unfolding replaced
    made-is = rw pool-is

    -- what `replace_duplicates` leaves, for every caller of it
    module _ (nl : u.names ≤ length t.names) (ss is : List ℕ) (ns : List ℤ) (ts : List ℕ) (b k r : ℕ)
        (w : Rewrote t.sections t.instrs t.numbers t.strings ss is ns ts u.sections u.instrs u.numbers u.strings u.pool b k r) where
      pub replaced-counts : countsOf (replaced (machineOf t u)) ≡ record { lines = u.lines; sections = u.sections; instrs = b; numbers = k; strings = r; pool = u.pool; names = u.names; values = u.values }
      replaced-counts =
          ap countsOf made-is
          ∙ counts-of _ _ _ _ _ _ _ _ _ _ _ _ _ (sym w.section-count) (sym w.instr-count) (sym w.number-count) (sym w.string-count) pool-is (length-take-le u.names t.names nl)

      pub replaced-words : write u (replaced (machineOf t u)) t ≡ record { sections = ss; instrs = is; numbers = ns; strings = ts; pool = t.pool; names = t.names }
      replaced-words =
          ap (λ (m : Machine). write u m t) made-is
          ∙ written _ _ _ _ _ _ _ u t _ _ _ _ _ _ (sym w.sections) (sym w.instrs) (sym w.numbers) (sym w.strings) (put-back 0 u.pool t.pool pl) (put-back 0 u.names t.names nl)

-- ---- the ways out

module _ (t : Tables) (u : Counts) where
  pub replace-12 : fits t u ≡ false → (refused Refusal.breaksRules, t) ≡ replace t u
  unfolding replace
  replace-12 e = change-12 t u replaceIn e

  module _ (h : fits t u ≡ true) where
    pool-fits : u.pool ≤ length t.pool
    pool-fits = (sound t u h).counts.pool

    covers : total (take u.sections t.sections) ≡ length (take u.instrs t.instrs)
    covers = let s = sound t u h in whole-total t u s ∙ sym (length-take-le u.instrs t.instrs s.counts.instrs)

    -- what the counted instructions add, told of the table that begins with them
    pub adds-counted : (n s : ℕ) → AddsAll (take u.instrs t.instrs) (length (take u.instrs t.instrs)) n s → AddsAll t.instrs u.instrs n s
    adds-counted n s a =
        let l = length-take-le u.instrs t.instrs (sound t u h).counts.instrs in
        let k = take-length (take u.instrs t.instrs) in
        record { numbers = rw k at a.numbers; strings = rw k at a.strings; numbers-few = rw l at a.numbers-few; strings-few = rw l at a.strings-few }

    module _ (n s : ℕ) (a : AddsAll t.instrs u.instrs n s) where
      numbers-are : length (whole t u).1.numbers ≡ u.numbers + n
      unfolding held
      numbers-are =
          section-count u.pool (λ (r : Regs). length r.numbers) numberOf (one-numbers u.pool) (regsOf t.numbers t.strings u.numbers u.strings) (take u.sections t.sections) (take u.instrs t.instrs) covers
          ∙ rw (length-take-le u.numbers t.numbers (sound t u h).counts.numbers, a.numbers)

      strings-are : length (whole t u).1.strings ≡ u.strings + s
      unfolding held
      strings-are =
          section-count u.pool (λ (r : Regs). length r.strings) stringOf (one-strings u.pool) (regsOf t.numbers t.strings u.numbers u.strings) (take u.sections t.sections) (take u.instrs t.instrs) covers
          ∙ rw (length-map, length-take-le u.strings t.strings (sound t u h).counts.strings, a.strings)

      module _ (x y : Bool) (x-is : x ≡ (leb (u.numbers + n) (length t.numbers) && leb (u.numbers + n) mostCount)) (y-is : y ≡ (leb (u.strings + s) (length t.strings) && leb (u.strings + s) mostCount)) where
        room-is : (slots (replaced (machineOf t u)).numbers t.numbers && slots (replaced (machineOf t u)).strings t.strings) ≡ x && y
        room-is = rw (made-is t u pool-fits, slots-are (whole t u).1.numbers t.numbers (u.numbers + n) numbers-are, slots-are (whole t u).1.strings t.strings (u.strings + s) strings-are, x-is, y-is)

        pub replace-11 : x && y ≡ false → (refused Refusal.noRoom, t) ≡ replace t u
        unfolding replace
        replace-11 e = change-no t u replaceIn h Refusal.noRoom (replace-by t (machineOf t u) false (room-is ∙ e))

        module _ (e : x && y ≡ true) (small : (i : ℕ) → get_or t.strings i 0 < 2 ^ 32) where
          pub ready : Ready t.sections t.instrs t.numbers t.strings u.sections u.instrs u.numbers u.strings u.pool
          ready =
              let k = sound t u h in
              let c = k.counts in
              let q = both x y e in
              let v = both (leb (u.numbers + n) (length t.numbers)) _ (sym x-is ∙ q.0) in
              let w = both (leb (u.strings + s) (length t.strings)) _ (sym y-is ∙ q.1) in
              record {
                sections = c.sections;
                instrs = c.instrs;
                instrs-few = c.instrs-few;
                covered = whole-total t u k;
                numbers = rw (← a.numbers) (leb-true _ _ v.0);
                numbers-few = rw (← a.numbers) (leb-true _ _ v.1);
                strings = rw (← a.strings) (leb-true _ _ w.0);
                strings-few = rw (← a.strings) (leb-true _ _ w.1);
                pool-few = c.pool-few;
                plain = strings-back t u k small;
              }

          replaced-done : leftBy t u (replaced (machineOf t u)) ≡ replace t u
          unfolding replace
          replaced-done = change-ok t u replaceIn h (replaced (machineOf t u)) (replace-by t (machineOf t u) true (room-is ∙ e))

          module _ (ss is : List ℕ) (ns : List ℤ) (ts : List ℕ) (b k r : ℕ) (w : Rewrote t.sections t.instrs t.numbers t.strings ss is ns ts u.sections u.instrs u.numbers u.strings u.pool b k r) where
            names-fit : u.names ≤ length t.names
            names-fit = (sound t u h).counts.names

            pub replace-done : (ok (record { lines = u.lines; sections = u.sections; instrs = b; numbers = k; strings = r; pool = u.pool; names = u.names; values = u.values }), record { sections = ss; instrs = is; numbers = ns; strings = ts; pool = t.pool; names = t.names }) ≡ replace t u
            replace-done = rw (← replaced-counts t u pool-fits names-fit ss is ns ts b k r w, ← replaced-words t u pool-fits names-fit ss is ns ts b k r w) replaced-done
