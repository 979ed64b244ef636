-- A pass over a machine at each way out: the machine that the words hold, and `change` of `rules`. Assumes nothing.
use mathlib.Core.Path.{◌≡◌, refl, sym, ◌∙◌}
use mathlib.Core.Bool.{Bool, true, false}
use mathlib.Core.List.{List, [], ◌∷◌, ◌++◌, map}
use Prim.Native.Nat.{ℕ, suc, ◌-◌, ◌^◌, ◌<◌, ◌≤◌, max}
use native.Mathlib.Omega.{arith}
use native.Mathlib.Nat.{max-eq_left, max-eq_right, sub_self}
use lib.IntN.{ℤ, pos}
use lib.Dec.{eqb}
use lib.ListN.{length, take, drop, get_or, replicate, take-append-drop}
use lib.Seq.{length-take-le}
use borrow.Author.Tests.{eqb-true}
use Rattle.rules.specs.Bits.{Res, refused, ok}
use Rattle.rules.specs.Refusal as Refusal
use Rattle.rules.specs.Word.{Span, insWord, wordSpan, spanWord, spanSpare}
use Rattle.rules.specs.Machine.{SectionCode, Machine}
use Rattle.rules.specs.Tables.{Tables, Counts, allb, spanFits, fits, decode, runWords, allCode, countsOf}
use Rattle.rules.specs.Operations.{put, write, change}
use Rattle.laws.specs.Lists.{take-below}
use Rattle.laws.proofs.Words.{span-again}
use Rattle.tables.specs.Runs.{held}
use Rattle.std.proofs.lemmas.Bool.{false≢true}
use Rattle.tables.proofs.Sound.{Sound}
use Rattle.tables.proofs.Read.{all-cons}

-- the machine that words hold
abbrev pub machineOf : Tables → Counts → Machine
machineOf t u = record {
  lines = u.lines;
  sections = held t.sections t.instrs u.sections u.instrs;
  numbers = take u.numbers t.numbers;
  strings = map wordSpan (take u.strings t.strings);
  pool = take u.pool t.pool;
  values = u.values;
  names = take u.names t.names;
}

module _ (t : Tables) (u : Counts) where
  decode-no : fits t u ≡ false → decode t u ≡ refused Refusal.breaksRules
  unfolding decode
  decode-no e = rw (e, decode)

  decode-ok : fits t u ≡ true → decode t u ≡ ok (machineOf t u)
  unfolding decode held
  decode-ok e = rw (e, decode)

  module _ (f : Tables → Machine → Res Machine) where
    pub change-12 : fits t u ≡ false → (refused Refusal.breaksRules, t) ≡ change f t u
    unfolding change
    change-12 e = rw (decode-no e, change)

    module _ (h : fits t u ≡ true) where
      pub change-no : (n : ℕ) → f t (machineOf t u) ≡ refused n → (refused n, t) ≡ change f t u
      unfolding change
      change-no n e = rw (decode-ok h, e, change)

      pub change-ok : (m : Machine) → f t (machineOf t u) ≡ ok m → (ok (countsOf m), write u m t) ≡ change f t u
      unfolding change
      change-ok m e = rw (decode-ok h, e, change)

-- ---- the counts and the words of a machine by its parts

module _ (l : ℕ) (ss : List SectionCode) (ns : List ℤ) (ts : List Span) (p : List ℕ) (v : ℕ) (xs : List ℕ) where
  abbrev made : Machine
  made = record { lines = l; sections = ss; numbers = ns; strings = ts; pool = p; values = v; names = xs }

  pub counts-of : (a b c d e f : ℕ) → length ss ≡ a → length (allCode ss) ≡ b → length ns ≡ c → length ts ≡ d → length p ≡ e → length xs ≡ f →
      countsOf made ≡ record { lines = l; sections = a; instrs = b; numbers = c; strings = d; pool = e; names = f; values = v }
  unfolding countsOf
  counts-of a b c d e f p q r s t x = rw (p, q, r, s, t, x)

  module _ (u : Counts) (t : Tables) where
    pub written : (a b d e f : List ℕ) (c : List ℤ) → put 0 u.sections (runWords 0 ss) t.sections ≡ a → put 0 u.instrs (map insWord (allCode ss)) t.instrs ≡ b → put (pos 0) u.numbers ns t.numbers ≡ c →
        put 0 u.strings (map spanWord ts) t.strings ≡ d → put 0 u.pool p t.pool ≡ e → put 0 u.names xs t.names ≡ f →
        write u made t ≡ record { sections = a; instrs = b; numbers = c; strings = d; pool = e; names = f }
    unfolding write
    written a b d e f c p q r s t x = rw (p, q, r, s, t, x)

-- ---- a table written back over itself

pub put-back : {A : Type 0} (z : A) (n : ℕ) (t : List A) → n ≤ length t → put z n (take n t) t ≡ t
unfolding put
put-back z n t h =
    let l = length-take-le n t h in
    let m : max n n ≡ n = max-eq_left (omega arith) in
    rw (l, m, sub_self) (take-append-drop n t)

-- words at the start of a table, zeros up to n
pub put-is : (n m : ℕ) (ws t t' : List ℕ) → take m t' ≡ ws → length ws ≡ m → m ≤ n → drop n t' ≡ drop n t → take m t' ++ (replicate (n - m) 0 ++ drop n t') ≡ put 0 n ws t
unfolding put
put-is n m ws t t' a b c d = let z : max n m ≡ n = max-eq_left c in rw (a, d, b, z)

-- m words that are no fewer than n
pub put-over : {A : Type 0} (z : A) (n m : ℕ) (ws t t' : List A) → take m t' ≡ ws → length ws ≡ m → n ≤ m → drop m t' ≡ drop m t → t' ≡ put z n ws t
unfolding put
put-over z n m ws t t' a b c d =
    let e : n - m ≡ 0 = omega arith in
    let f : max n m ≡ m = max-eq_right c in
    rw (b, e, f) (sym (take-append-drop m t') ∙ rw (a, d))

-- strings that keep the rules are written as they were
spare-zero : (u : Counts) (w : ℕ) → spanFits u w ≡ true → spanSpare w ≡ 0
unfolding spanFits
spare-zero u w e = go (eqb (spanSpare w) 0) refl e
  where
    go : (b : Bool) → eqb (spanSpare w) 0 ≡ b → spanFits u w ≡ true → spanSpare w ≡ 0
    go true d h = eqb-true _ _ d
    go false d h = absurd (false≢true (rw d at h))

spans-back : (u : Counts) (ws : List ℕ) → ((i : ℕ) → get_or ws i 0 < 2 ^ 32) → allb (spanFits u) ws ≡ true → map spanWord (map wordSpan ws) ≡ ws
spans-back u [] b e = refl
spans-back u (w ∷ ws) b e = by (spanFits u w) refl (λ d. spans-back u ws (λ i. b (suc i)) d)
  where
    by : (c : Bool) → spanFits u w ≡ c → (allb (spanFits u) ws ≡ true → map spanWord (map wordSpan ws) ≡ ws) → spanWord (wordSpan w) ∷ map spanWord (map wordSpan ws) ≡ w ∷ ws
    by true d ih = rw (span-again w (b 0) (spare-zero u w d), ih (sym (all-cons (spanFits u) w ws true d) ∙ e))
    by false d ih = absurd (false≢true (sym (all-cons (spanFits u) w ws false d) ∙ e))

pub strings-back : (t : Tables) (u : Counts) → Sound t u → ((i : ℕ) → get_or t.strings i 0 < 2 ^ 32) → map spanWord (map wordSpan (take u.strings t.strings)) ≡ take u.strings t.strings
strings-back t u s h = spans-back u (take u.strings t.strings) (take-below (2 ^ 32) u.strings t.strings (omega arith) h) s.spans
