-- The rows of single words.
use Rattle.std.specs.Prelude.{List, ◌++◌, ℕ, ◌+◌, ◌≤◌, ◌<◌, length, get_or}
use Rattle.rules.specs.Bits.{isOne}
use Rattle.rules.specs.Word.{wordIns, wordRun, wordSpan}
use Rattle.rules.specs.Tables.{Counts, flag, kindOf, targetOf, successOf}
use Rattle.rules.specs.Listing.{nat, hexText, row}

-- M of a machine's counts
unfoldable pub countsRow : Counts → List ℕ
countsRow u = row 77 (nat u.lines ++ nat u.sections ++ nat u.numbers ++ nat u.strings ++ nat u.values)

-- T of a text
unfoldable pub textRow : ℕ → List ℕ → List ℕ
textRow i s = row 84 (nat i ++ nat (length s) ++ hexText s)

-- I of an instruction's word
unfoldable pub instrRow : ℕ → List ℕ
instrRow w = let i = wordIns w in row 73 (nat i.op ++ nat i.fst ++ nat i.snd ++ nat i.thd)

-- S of a section's word
unfoldable pub sectionRow : ℕ → ℕ → List ℕ
sectionRow i w =
    let r = wordRun w in
    row 83 (nat i ++ nat (flag (isOne r.lineStart)) ++ nat (kindOf (successOf r)) ++ nat (targetOf (successOf r)) ++ nat r.count)

-- the first n string words lie inside the pool
abbrev pub Inside : List ℕ → List ℕ → ℕ → Type 0
Inside ts pool n = (i : ℕ) → i < n → (wordSpan (get_or ts i 0)).start + (wordSpan (get_or ts i 0)).size ≤ length pool
