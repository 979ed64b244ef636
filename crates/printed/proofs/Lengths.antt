-- How long rows are at most: a number takes 21 bytes, one below 65,536 takes 6, a text two for each character; and how long a listing is that
-- finlist prints. Assumes nothing.
use mathlib.Core.Path.{◌≡◌, refl, sym, ap, ◌∙◌, subst}
use mathlib.Core.Bool.{Bool, true, false}
use mathlib.Core.List.{List, [], ◌∷◌, map}
use Prim.Native.Nat.{ℕ, zero, suc, ◌+◌, ◌*◌, ◌/◌, ◌%◌, ◌≤◌, ◌<◌}
use native.Mathlib.Omega.{arith}
use lib.Dec.{ltb, eqb}
use lib.IntN.{ℤ, pos, negsuc}
use lib.ListN.{length, take, drop, length-append, length-map, length-take, take-append-drop}
use borrow.Author.Tests.{lt-ltb}
use lib.Seq.{length-take-le}
use Rattle.rules.specs.Constants.{mark, mostBytes, charBits, byteBits, mostNodes, finlistSections, finlistInstrs, finlistNumbers, mostNames, mostCount}
use Rattle.rules.specs.Bits.{isOne}
use Rattle.rules.specs.Word.{wordIns, wordRun}
use Rattle.rules.specs.Machine.{SectionCode}
use Rattle.rules.specs.Tables.{Tables, Counts, flag, kindOf, targetOf, successOf, readSections, fits}
use Rattle.rules.specs.Listing.{digits, nat, int, hex, hexText, row, rowsN, rowsT, rowsV, rowsI, rowsS, listing, refusal}
use Rattle.rules.specs.Lowered.{spans, texts}
use Rattle.laws.proofs.Words.{ins-small, wordRun-small}
use Rattle.laws.proofs.SectionWord.{flag-lt, kind-lt}
use Rattle.tables.specs.Runs.{countOf, sectionOf, held}
use Rattle.tables.proofs.Sound.{sound}
use Rattle.tables.proofs.Read.{read-nil, read-cons, count-is}
use Rattle.tables.proofs.Change.{machineOf}
use Rattle.listing.proofs.SectionRows.{rows-nil}

-- ---- fields

digits-length : (n v : ℕ) (t : List ℕ) → length (digits n v t) ≤ n + length t
unfolding digits
digits-length zero v t = omega arith
digits-length (suc n) v t = by (ltb v 10) refl (digits-length n (v / 10) ((48 + v % 10) ∷ t))
  where
    by : (b : Bool) → ltb v 10 ≡ b → length (digits n (v / 10) ((48 + v % 10) ∷ t)) ≤ n + suc (length t) → length (digits (suc n) v t) ≤ suc n + length t
    by true e h = rw (e, digits) (omega arith)
    by false e h = rw (e, digits) (omega arith)

num-length : (v : ℕ) → length (nat v) ≤ 21
unfolding nat
num-length v = let h = digits-length 20 v [] in omega arith

-- a digit more, for numbers up to ten times as large
one-digit : (n v : ℕ) (t : List ℕ) → v < 10 → length (digits (suc n) v t) ≤ 1 + length t
unfolding digits
one-digit n v t h = rw (lt-ltb v 10 h, digits) (omega arith)

more : (n k b : ℕ) → ((w : ℕ) (t : List ℕ) → w < b → length (digits n w t) ≤ k + length t) → (v : ℕ) (t : List ℕ) → v < 10 * b → length (digits (suc n) v t) ≤ suc k + length t
unfolding digits
more n k b h v t l = by (ltb v 10) refl (h (v / 10) ((48 + v % 10) ∷ t) (omega arith))
  where
    by : (c : Bool) → ltb v 10 ≡ c → length (digits n (v / 10) ((48 + v % 10) ∷ t)) ≤ k + suc (length t) → length (digits (suc n) v t) ≤ suc k + length t
    by true e g = rw (e, digits) (omega arith)
    by false e g = rw (e, digits) (omega arith)

five : (v : ℕ) (t : List ℕ) → v < 100000 → length (digits 20 v t) ≤ 5 + length t
five = more 19 4 10000 (more 18 3 1000 (more 17 2 100 (more 16 1 10 (one-digit 15))))

num-few : (v : ℕ) → v < 65536 → length (nat v) ≤ 6
unfolding nat
num-few v l = let h = five v [] (omega arith) in omega arith

int-length : (z : ℤ) → length (int z) ≤ 22
unfolding int
int-length (pos v) = let h = digits-length 20 v [] in omega arith
int-length (negsuc v) = let h = digits-length 20 (suc v) [] in omega arith

hex-length : (s : List ℕ) → length (hex s) ≡ 2 * length s
unfolding hex
hex-length [] = refl
hex-length (c ∷ s) = let h = hex-length s in omega arith

text-length : (s : List ℕ) → length (hexText s) ≤ 2 + 2 * length s
unfolding hexText
text-length [] = omega arith
text-length (c ∷ s) = let h = hex-length (c ∷ s) in omega arith

-- ---- rows

pub refusal_length : (n : ℕ) → length (refusal n) ≤ 23
unfolding refusal row
refusal_length n = let h = num-length n in simp length-append (omega arith)

-- from row i on; the last is below 65,536

numbers-length : (i : ℕ) (zs : List ℤ) → i + length zs ≤ 65536 → length (rowsN i zs) ≤ 30 * length zs
unfolding rowsN
numbers-length i [] l = omega arith
numbers-length i (z ∷ zs) l =
    let a = num-few i (omega arith) in
    let b = int-length z in
    let h = numbers-length (suc i) zs (omega arith) in
    simp length-append (omega arith)

-- texts that stand end to end
texts-length : (pool : List ℕ) (i p : ℕ) (ts : List (List ℕ)) → i + length ts ≤ 65536 → length (texts ts) ≤ mostCount → length (rowsT pool i (spans p ts)) ≤ 16 * length ts + 2 * length (texts ts)
unfolding rowsT spans texts
texts-length pool i p [] l m = omega arith
texts-length pool i p (t ∷ ts) l m =
    let n = length-append t (texts ts) in
    let s = take (length t) (drop p pool) in
    let a = num-few i (omega arith) in
    let b = num-few (length t) (omega arith) in
    let c = text-length s in
    let d : length s ≤ length t = omega (arith, length-take (length t) (drop p pool)) in
    let h = texts-length pool (suc i) (p + length t) ts (omega arith) (omega arith) in
    simp length-append (omega arith)

names-length : (i : ℕ) (vs : List ℕ) → i + length vs ≤ 65536 → length (rowsV i vs) ≤ 29 * length vs
unfolding rowsV
names-length i [] l = omega arith
names-length i (v ∷ vs) l = by (eqb v mark) refl (names-length (suc i) vs (omega arith))
  where
    by : (b : Bool) → eqb v mark ≡ b → length (rowsV (suc i) vs) ≤ 29 * length vs → length (rowsV i (v ∷ vs)) ≤ 29 * suc (length vs)
    by true e h = rw (e, rowsV) (omega arith)
    by false e h = let a = num-few i (omega arith) in let b = num-length v in rw (e, rowsV) (simp length-append (omega arith))

instrs-length : (ws : List ℕ) → length (rowsI (map wordIns ws)) ≤ 26 * length ws
unfolding rowsI
instrs-length [] = omega arith
instrs-length (w ∷ ws) =
    let i = wordIns w in
    let s = ins-small w in
    let a = num-few i.op (omega (arith, s.0)) in
    let b = num-few i.fst (omega (arith, s.1.0)) in
    let c = num-few i.snd (omega (arith, s.1.1.0)) in
    let d = num-few i.thd (omega (arith, s.1.1.1.0)) in
    let h = instrs-length ws in
    simp length-append (omega arith)

-- the section of word w, whose instructions are the first of the words is
section-length : (i w : ℕ) (is : List ℕ) (ss : List SectionCode) → i < 65536 → length (rowsS i (sectionOf w is ∷ ss)) ≤ 47 + 26 * length (take (wordRun w).count is) + length (rowsS (suc i) ss)
unfolding rowsS
section-length i w is ss l =
    let r = wordRun w in
    let t = take r.count is in
    let k : length (map wordIns t) ≡ length t = simp length-map in
    let m : length t ≤ r.count = omega (arith, length-take r.count is) in
    let n : r.count < 65536 = (wordRun-small w).1.1.1.1.0 in
    let a = num-few i l in
    let b = num-few (flag (isOne r.lineStart)) (omega (arith, flag-lt (isOne r.lineStart))) in
    let c = num-few (kindOf (successOf r)) (omega (arith, kind-lt (successOf r))) in
    let d = num-length (targetOf (successOf r)) in
    let e = num-few (length (map wordIns t)) (omega arith) in
    let h = instrs-length t in
    simp length-append (omega arith)

-- sections of the words ws, whose instructions are among the words is
sections-length : (i : ℕ) (ws is : List ℕ) → i + length ws ≤ 65536 → length (rowsS i (readSections ws is)) ≤ 47 * length ws + 26 * length is
sections-length i [] is l = rw (read-nil is, rows-nil i) (omega arith)
sections-length i (w ∷ ws) is l =
    let n = (wordRun w).count in
    let s = section-length i w is (readSections ws (drop (countOf w) is)) (omega arith) in
    let h = sections-length (suc i) ws (drop (countOf w) is) (omega arith) in
    let c : countOf w ≡ n = sym (count-is w) in
    let k : length (take n is) + length (drop n is) ≡ length is = sym (length-append (take n is) (drop n is)) ∙ ap length (take-append-drop n is) in
    rw (read-cons w ws is) (omega (arith, subst (λ (x : ℕ). length (drop x is) ≡ length (drop n is)) (sym c) refl))

-- ---- the listing

-- the characters of a file's strings at most: as many as the bits of the longest tree file hold
abbrev pub mostCharacters : ℕ
mostCharacters = mostBytes * byteBits / charBits

-- the longest that finlist prints: the row M, and those of numbers, texts, names, sections and instructions
abbrev pub mostPrinted : ℕ
mostPrinted = 107 + 30 * finlistNumbers + (16 * mostNodes + 2 * mostCharacters) + 29 * mostNames + 47 * finlistSections + 26 * finlistInstrs

-- of a machine whose texts are ts, one behind the other
module _ (t : Tables) (u : Counts) (h : fits t u ≡ true) (ts : List (List ℕ)) (are : (machineOf t u).strings ≡ spans 0 ts) (many : length (spans 0 ts) ≡ length ts) (few : length (texts ts) ≤ mostCount) (names-few : u.names ≤ mostCount) where
  pub listing-length : length (listing (machineOf t u)) ≤ 107 + 30 * u.numbers + (16 * u.strings + 2 * length (texts ts)) + 29 * u.names + 47 * u.sections + 26 * u.instrs
  unfolding listing held
  listing-length =
      let m = machineOf t u in
      let c = (sound t u h).counts in
      let nl = length-take-le u.numbers t.numbers c.numbers in
      let sl = length-take-le u.strings t.strings c.strings in
      let vl = length-take-le u.names t.names c.names in
      let wl = length-take-le u.sections t.sections c.sections in
      let il = length-take-le u.instrs t.instrs c.instrs in
      let tl : length ts ≡ u.strings = sym many ∙ (sym (ap length are) ∙ simp length-map sl) in
      let a = num-length m.lines in
      let b = num-length (length m.sections) in
      let d = num-length (length m.numbers) in
      let e = num-length (length m.strings) in
      let f = num-length m.values in
      let n = numbers-length 0 m.numbers (omega arith) in
      let s : length (rowsT m.pool 0 m.strings) ≤ 16 * length ts + 2 * length (texts ts) = rw are (texts-length m.pool 0 0 ts (omega arith) few) in
      let v = names-length 0 m.names (omega (arith, names-few)) in
      let w = sections-length 0 (take u.sections t.sections) (take u.instrs t.instrs) (omega arith) in
      simp length-append (omega arith)
