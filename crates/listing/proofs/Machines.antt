-- The listing of the machine that words hold, table by table. Assumes nothing.
use mathlib.Core.Path.{◌≡◌, sym, ◌∙◌, subst}
use mathlib.Core.Bool.{true}
use mathlib.Core.List.{List, [], ◌∷◌, map, append-nil}
use Prim.Native.Nat.{ℕ, ◌+◌, ◌≤◌}
use native.Mathlib.Omega.{arith}
use lib.Dec.{eqb}
use lib.ListN.{length, take, length-map}
use lib.Seq.{length-take-le}
use borrow.Author.Tests.{leb-true}
use Rattle.rules.specs.Bits.{ok}
use Rattle.rules.specs.Word.{wordSpan, spanSpare}
use Rattle.rules.specs.Machine.{Machine}
use Rattle.rules.specs.Tables.{Tables, Counts, spanFits, fits, decode, readSections}
use Rattle.rules.specs.Listing.{rowsN, rowsT, rowsV, rowsS, listing}
use Rattle.laws.specs.Lists.{both}
use Rattle.laws.specs.Table.{all-at}
use Rattle.tables.proofs.Texts.{at_some}
use Rattle.tables.specs.Runs.{total, held}
use Rattle.tables.proofs.Sound.{Sound, sound}
use Rattle.tables.proofs.Read.{read-length, whole-total}
use Rattle.tables.proofs.Change.{machineOf}
use Rattle.text.specs.declared.Writer.{Writer}
use Rattle.text.specs.Wrote.{Room, Prints, HasRoom, Writes}
use Rattle.listing.specs.Rows.{countsRow, Inside}
use Rattle.listing.specs.Listed.{Lists, Listed}
use Rattle.text.proofs.Writes.{Left, begin, from-start}

span-inside : (u : Counts) (w : ℕ) → spanFits u w ≡ true → (wordSpan w).start + (wordSpan w).size ≤ u.pool
unfolding spanFits
span-inside u w e = leb-true _ _ (both (eqb (spanSpare w) 0) _ e).1

module _ (t : Tables) (u : Counts) (h : fits t u ≡ true) where
  decode-is : decode t u ≡ ok (machineOf t u)
  unfolding decode held
  decode-is = rw (h, decode)

  pub one-machine : (m : Machine) → decode t u ≡ ok m → machineOf t u ≡ m
  one-machine m d = let z : ok (machineOf t u) ≡ ok m = sym decode-is ∙ d in cc

module _ {t : Tables} {u : Counts} {o : List ℕ} (l : Lists t u o) (w : Writer) (bytes : w.out.now ≡ o) (none : w.at ≡ 0) where
  keeps : Sound t u
  keeps = sound t u l.machine

  pub inside : Inside (take u.strings t.strings) (take u.pool t.pool) (length (take u.strings t.strings))
  inside i h =
      let s = keeps in
      let n = length-take-le u.pool t.pool s.counts.pool in
      rw n (span-inside u _ (all-at (spanFits u) (take u.strings t.strings) i _ s.spans (at_some (take u.strings t.strings) i h)))

  pub covered : total (take u.sections t.sections) ≡ length (take u.instrs t.instrs)
  covered = whole-total t u keeps ∙ sym (length-take-le u.instrs t.instrs keeps.counts.instrs)

  sections-are : length (held t.sections t.instrs u.sections u.instrs) ≡ u.sections
  unfolding held
  sections-are = read-length (take u.sections t.sections) (take u.instrs t.instrs) ∙ length-take-le u.sections t.sections keeps.counts.sections

  -- the whole listing is left to write
  pub starts : Left w (listing (machineOf t u)) w (countsRow u ∷ rowsN 0 (take u.numbers t.numbers) ∷ rowsT (take u.pool t.pool) 0 (map wordSpan (take u.strings t.strings)) ∷ rowsV 0 (take u.names t.names) ∷ rowsS 0 (readSections (take u.sections t.sections) (take u.instrs t.instrs)) ∷ [])
  unfolding listing countsRow held
  starts =
      let s = keeps in
      let n = length-take-le u.numbers t.numbers s.counts.numbers in
      let k : length (map wordSpan (take u.strings t.strings)) ≡ u.strings = simp length-map (length-take-le u.strings t.strings s.counts.strings) in
      begin w (record { flat-is = rw (sections-are, n, k, append-nil) })

  room-there : Room o 0 (listing (machineOf t u))
  room-there = let h = l.room (machineOf t u) (decode-is t u l.machine) in omega arith

  pub room-for : HasRoom w (listing (machineOf t u))
  room-for = rw (bytes, none) room-there

  pub listed : {v : Writer} {o' : List ℕ} → o' ≡ v.out.now → Writes w v (listing (machineOf t u)) → Listed t u o o' v.at
  listed {v} {o'} e x =
      let p : Prints o o' v.at (listing (machineOf t u)) = from-start bytes none room-there e x in
      record { prints = λ m d. subst (λ (y : Machine). Prints o o' v.at (listing y)) (one-machine t u l.machine m d) p }
