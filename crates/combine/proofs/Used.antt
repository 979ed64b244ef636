-- Tables cut to the words that are in use: they hold what the whole tables hold, and what changes in them changes there. Assumes nothing.
use Rattle.std.specs.Prelude.{◌≡◌, List, [], ◌++◌, map, ℕ, ◌+◌, ◌-◌, ◌≤◌, max, length, take, drop, replicate}
use Rattle.std.proofs.Common.{sym, ap, ◌∙◌, append_assoc, arith, length-take, length-take-le, drop_at}
use Rattle.std.proofs.lemmas.List.{append-nil, length-map, replicate-append-replicate}
use Rattle.std.proofs.Math.Nat.{max-eq_left}
use Rattle.std.proofs.Math.ListN.{drop_of_length-le}
use Rattle.std.proofs.Math.Seq.{take-length}
use Rattle.rules.specs.Word.{insWord}
use Rattle.rules.specs.Machine.{SectionCode}
use Rattle.rules.specs.Tables.{runWords, allCode}
use Rattle.rules.specs.Operations.{put}
use Rattle.laws.specs.Sections.{words-length}
use Rattle.tables.specs.Runs.{held}
use Rattle.combine.specs.Held.{Holds, Sound, Full, allHeld, Changed}
use Rattle.combine.specs.Combined.{Combined}
use Rattle.combine.proofs.Back.{sound, holds-held}

pub put-twice : (n k : ℕ) (ws us t : List ℕ) → length us ≡ k → length ws ≤ k → k ≤ n → put 0 k ws (put 0 n us t) ≡ put 0 n ws t
unfolding put
put-twice n k ws us t h l m =
    let a : max k (length ws) ≡ k = max-eq_left l in
    let b : max n (length us) ≡ n = max-eq_left (omega arith) in
    let c : max n (length ws) ≡ n = max-eq_left (omega arith) in
    let d : (k - length ws) + (n - k) ≡ n - length ws = omega arith in
    rw (a, b, c, drop_at us (replicate (n - length us) 0 ++ drop n t) k h, h, ← append_assoc (replicate (k - length ws) 0) (replicate (n - k) 0) (drop n t), replicate-append-replicate {A = ℕ} (k - length ws) (n - k) 0, d)

-- what is written over the words in use is written over the table
pub put-used : (n : ℕ) (ws t : List ℕ) → n ≤ length t → length ws ≤ n → put 0 (length (take n t)) ws (take n t) ++ drop n t ≡ put 0 n ws t
unfolding put
put-used n ws t h k =
    let l : length (take n t) ≡ n = length-take-le n t h in
    let m : max n (length ws) ≡ n = max-eq_left k in
    let d : drop n (take n t) ≡ [] = drop_of_length-le (take n t) (omega (arith, l)) in
    rw (l, m, d, append-nil {A = ℕ} (replicate (n - length ws) 0)) (append_assoc ws (replicate (n - length ws) 0) (drop n t))

module _ (s i : List ℕ) (n e : ℕ) (ss : List SectionCode) (h : Holds s i n e ss) where
  pub enough : n ≤ length s
  enough = omega (arith, ap length h.sections, words-length 0 ss, h.count, length-take n s)

  pub enough-code : e ≤ length i
  enough-code = omega (arith, ap length h.instrs, length-map (allCode ss) insWord, h.code, length-take e i)

  all : length (take n s) ≡ n
  all = length-take-le n s enough

  all-code : length (take e i) ≡ e
  all-code = length-take-le e i enough-code

  pub holds-used : Holds (take n s) (take e i) (length (take n s)) (length (take e i)) ss
  holds-used =
      record {
        sections = take-length (take n s) ∙ h.sections;
        instrs = take-length (take e i) ∙ h.instrs;
        count = h.count ∙ sym all;
        code = h.code ∙ sym all-code;
        few = rw all h.few;
        short = rw all-code h.short;
        small = h.small;
      }

  pub changed-used : (s' i' : List ℕ) (ts : List SectionCode) → length ts ≤ n → Changed (take n s) (take e i) s' i' (length (take n s)) (length (take e i)) ts → Changed s i (s' ++ drop n s) (i' ++ drop e i) n e ts
  changed-used s' i' ts k c =
      let d : drop (length (take e i)) (take e i) ≡ [] = drop_of_length-le (take e i) (omega arith) in
      record {
        sections = rw c.sections (put-used n (runWords 0 ts) s enough (rw words-length k));
        instrs = rw (c.instrs, d, append-nil {A = ℕ} (map insWord (allCode ts)));
      }

-- ---- a machine in the words in use

module _ (s i : List ℕ) (n e : ℕ) (h : Sound s i n e) where
  used : Holds (take n s) (take e i) (length (take n s)) (length (take e i)) (held s i n e)
  used = holds-used s i n e (held s i n e) h

  pub full-used : Full (take n s) (take e i)
  full-used = sound (take n s) (take e i) (length (take n s)) (length (take e i)) (held s i n e) used

  pub held-used : allHeld (take n s) (take e i) ≡ held s i n e
  held-used = holds-held (take n s) (take e i) (length (take n s)) (length (take e i)) (held s i n e) used

  pub in-use : n ≤ length s
  in-use = enough s i n e (held s i n e) h

  pub combined-used : (s' i' : List ℕ) (ts : List SectionCode) (r : ℕ) → Combined (take n s) (take e i) s' i' (length (take n s)) (length (take e i)) ts r → Combined s i (s' ++ drop n s) (i' ++ drop e i) n e ts r
  combined-used s' i' ts r c =
      let l = length-take-le n s in-use in
      let k = length-take-le e i (enough-code s i n e (held s i n e) h) in
      record {
        tables = changed-used s i n e (held s i n e) h s' i' ts (omega (arith, c.count, c.fewer)) c.tables;
        count = c.count;
        code = sym k ∙ c.code;
        fewer = omega (arith, c.fewer, l);
      }
