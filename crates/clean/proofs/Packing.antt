-- The turns of the pass that packs: what is done, then what is left to do, is all that was to do. Assumes nothing.
use mathlib.Core.Path.{◌≡◌, ◌∙◌}
use mathlib.Core.Bool.{true, false}
use mathlib.Core.List.{List, [], ◌∷◌, ◌++◌, append_assoc, append-nil}
use Prim.Native.Nat.{ℕ, ◌+◌, ◌<◌, ◌≤◌}
use native.Mathlib.Omega.{arith}
use native.Mathlib.Numerals.{add-one}
use lib.ListN.{length, take, drop, get_or, set, length-set}
use lib.Seq.{take-suc-set, drop-set-lt, append_snoc, drop-drop}
use Rattle.std.proofs.Math.ListN.{drop_of_length-le}
use Rattle.std.proofs.lemmas.List.{drop_more}
use Rattle.tables.specs.Runs.{fixedWord, countOf, total, Down}
use Rattle.clean.specs.Pass.{packedWord, packed, moved, Kept}

-- i words read, m kept, a instructions passed, b kept
pub record Packing (ss is s t : List ℕ) (i m a b : ℕ) : Type 0 where
  pub done : take m s ++ packed b (drop i s) ≡ packed 0 ss
  pub code : take b t ++ moved (drop i s) (drop a t) ≡ moved ss is
  pub left : a + total (drop i s) ≡ length is
  pub m-i : m ≤ i
  pub b-a : b ≤ a
  pub s-len : length s ≡ length ss
  pub t-len : length t ≡ length is

module _ (ss is s t : List ℕ) (i m a b : ℕ) (p : Packing ss is s t i m a b) where
  pub pack-ends : i ≤ length s → length s ≤ i → Kept ss is s t m b
  unfolding packed moved
  pack-ends w h =
      let o : drop i s ≡ [] = drop_of_length-le s h in
      let l = p.left in
      let x = p.m-i in
      let y = p.b-a in
      let z = p.s-len in
      record { sections = rw (o, append-nil) at p.done; instrs = rw (o, append-nil) at p.code; fewer = omega arith; shorter = omega arith }

  module _ (h : i < length s) where
    pub pack-left : a + (countOf (get_or s i 0) + total (drop (i + 1) s)) ≡ length is
    unfolding total
    pack-left = rw (drop_more s i 0 h) at p.left

    module _ (c : ℕ) (c-is : c ≡ countOf (get_or s i 0)) where
      pub pack-skip : fixedWord (get_or s i 0) ≡ false → Packing ss is s t (i + 1) m (a + c) b
      unfolding packed moved
      pack-skip u =
          let w = p.m-i in
          let x = p.b-a in
          let y = pack-left in
          record {
            done = rw (drop_more s i 0 h, u) at p.done;
            code = rw c-is (rw (drop_more s i 0 h, u, drop-drop) at p.code);
            left = omega arith;
            m-i = omega arith;
            b-a = omega arith;
            s-len = p.s-len;
            t-len = p.t-len;
          }

      module _ (v : ℕ) (o : v ≡ packedWord b (get_or s i 0)) (t' : List ℕ) (d : Down t t' a b c) (tl : length t' ≡ length t) where
        pub pack-keep : fixedWord (get_or s i 0) ≡ true → Packing ss is (set s m v) t' (i + 1) (m + 1) (a + c) (b + c)
        unfolding packed moved
        pack-keep u =
            let w = p.m-i in
            let x = p.b-a in
            let y = pack-left in
            let g : m < length s = omega arith in
            let g' : m < i + 1 = omega arith in
            let r : drop (i + 1) (set s m v) ≡ drop (i + 1) s = drop-set-lt (i + 1) s m v g' in
            let f : take (m + 1) (set s m v) ≡ take m s ++ (v ∷ []) = rw add-one (take-suc-set s m v g) in
            record {
              done = rw (r, f, o) (append_snoc (take m s) (packedWord b (get_or s i 0)) (packed (b + c) (drop (i + 1) s)) ∙ rw (drop_more s i 0 h, u, ← c-is) at p.done);
              code = rw (r, d.front, append_assoc, d.back) (rw (drop_more s i 0 h, u, ← c-is, drop-drop) at p.code);
              left = rw r (omega arith);
              m-i = omega arith;
              b-a = omega arith;
              s-len = simp length-set p.s-len;
              t-len = tl ∙ p.t-len;
            }
