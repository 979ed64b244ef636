-- Words at the start of one table: laid there, replaced there, with zeros behind them. Assumes nothing.
use mathlib.Core.Path.{◌≡◌, sym, ap, ◌∙◌}
use mathlib.Core.List.{List, ◌++◌, append_assoc}
use Prim.Native.Nat.{ℕ, ◌+◌, ◌-◌, ◌≤◌, max}
use native.Mathlib.Omega.{arith}
use native.Mathlib.Nat.{max-eq_left}
use lib.ListN.{length, take, drop, replicate, length-append, length-replicate, take-append-drop, replicate-append-replicate}
use lib.Seq.{take_at, drop_at, length-take-le, drop-append-le}
use Rattle.rules.specs.Operations.{put}
use Rattle.tables.proofs.InPlace.{drop-later}
use Rattle.program.specs.Program.{over}

-- n words us are laid over t; no more words ws come in their place
module _ {A : Type 0} (z : A) (n : ℕ) (ws us t : List A) (h : length us ≡ n) (l : length ws ≤ n) where
  under : put z n ws (over us t) ≡ put z n ws t
  unfolding put
  under = let a : max n (length ws) ≡ n = max-eq_left l in rw (a, drop_at us (drop (length us) t) n h, h)

-- and the words from n to e become zeros
module _ {A : Type 0} (z : A) (n e : ℕ) (ws t : List A) (l : length ws ≤ n) (m : n ≤ e) where
  abbrev front : List A
  front = ws ++ replicate (n - length ws) z

  front-length : length front ≡ n
  front-length = simp (length-append, length-replicate) (omega arith)

  put-front : put z n ws t ≡ front ++ drop n t
  unfolding put
  put-front = let a : max n (length ws) ≡ n = max-eq_left l in rw a (sym (append_assoc ws (replicate (n - length ws) z) (drop n t)))

  zeroed : take n (put z n ws t) ++ (replicate (e - n) z ++ drop e (put z n ws t)) ≡ put z e ws t
  unfolding put
  zeroed =
      let a : max e (length ws) ≡ e = max-eq_left (omega arith) in
      let b : (n - length ws) + (e - n) ≡ e - length ws = omega arith in
      let d : drop e (front ++ drop n t) ≡ drop e t = drop-later n e (front ++ drop n t) t (drop_at front (drop n t) n front-length) m in
      rw (put-front, take_at front (drop n t) n front-length, d, a, append_assoc ws (replicate (n - length ws) z) (replicate (e - n) z ++ drop e t))
      (ap (λ (r : List A). ws ++ r) (sym (append_assoc (replicate (n - length ws) z) (replicate (e - n) z) (drop e t)) ∙ ap (λ (r : List A). r ++ drop e t) (replicate-append-replicate (n - length ws) (e - n) z ∙ ap (λ (k : ℕ). replicate k z) b)))

-- n words us are laid into t, then ws are put in their place: the table afterwards, and with zeros up to e
module _ {A : Type 0} (z : A) (n : ℕ) (ws us t t' t'' : List A) (h : length us ≡ n) (l : length ws ≤ n) (laid : t' ≡ over us t) (over-it : put z n ws t' ≡ t'') where
  pub stays : t'' ≡ put z n ws t
  stays = sym over-it ∙ (ap (put z n ws) laid ∙ under z n ws us t h l)

  pub then-zeros : (e : ℕ) → n ≤ e → take n t'' ++ (replicate (e - n) z ++ drop e t'') ≡ put z e ws t
  then-zeros e q = rw stays (zeroed z n e ws t l q)

-- words laid into the first k of a table are laid into the table, and are no more than k
module _ {A : Type 0} (ws t : List A) (k : ℕ) (h : k ≤ length t) (l : length (over ws (take k t)) ≡ k) where
  pub part-fits : length ws ≤ k
  part-fits = omega (arith, l, length-append ws (drop (length ws) (take k t)))

  pub part-whole : over ws (take k t) ++ drop k t ≡ over ws t
  part-whole =
      let n : length ws ≤ length (take k t) = omega (arith, part-fits, length-take-le k t h) in
      append_assoc ws (drop (length ws) (take k t)) (drop k t)
      ∙ ap (λ (r : List A). ws ++ r) (sym (drop-append-le (length ws) (take k t) (drop k t) n) ∙ ap (drop (length ws)) (take-append-drop k t))
