-- Words of a table changed in place, one turn after the other: what is done, then what is left to do, is all that was to do. Assumes nothing.
use mathlib.Core.Path.{◌≡◌, sym, ap, ◌∙◌}
use mathlib.Core.List.{List, [], ◌∷◌, ◌++◌, map, append-nil}
use Prim.Native.Nat.{ℕ, zero, suc, ◌+◌, ◌-◌, ◌<◌, ◌≤◌}
use native.Mathlib.Omega.{arith}
use native.Mathlib.Numerals.{add-one, unary_clauses}
use lib.ListN.{length, take, drop, get_or, set, replicate, length-drop}
use Rattle.std.proofs.Math.ListN.{drop_of_length-le}
use Rattle.std.proofs.lemmas.List.{drop_more}
use lib.Seq.{take_all, paste, take-suc-set, drop-set-lt, append_snoc, get_or-drop, drop-drop, take-nil}
use borrow.Rule.Slice.PartMut.{put_mid}
use Rattle.std.specs.List.{copy_within}
use Rattle.std.proofs.lemmas.List.Edits.{take-paste, drop-paste}
use Rattle.tables.specs.Runs.{Down}

-- a store at i below n
module _ {A : Type 0} (s : List A) (i n : ℕ) (v : A) (h : i < n) (l : n ≤ length s) where
  pub set-taken : take (i + 1) (set s i v) ≡ take i s ++ (v ∷ [])
  set-taken = let z : i < length s = omega arith in rw add-one (take-suc-set s i v z)

  pub set-rest : drop n (set s i v) ≡ drop n s
  set-rest = drop-set-lt n s i v h

-- ---- the words of a slice changed one after the other

module _ (s : List ℕ) (i v : ℕ) (h : i < length s) where
  -- a store at i, where v and what g leaves to do make what f left
  pub store-more : (f g : List ℕ → List ℕ) → v ∷ g (drop (i + 1) s) ≡ f (drop i s) → take (i + 1) (set s i v) ++ g (drop (i + 1) (set s i v)) ≡ take i s ++ f (drop i s)
  store-more f g e =
      let z : i < i + 1 = omega arith in
      let t : take (i + 1) (set s i v) ≡ take i s ++ (v ∷ []) = rw add-one (take-suc-set s i v h) in
      rw (t, drop-set-lt (i + 1) s i v z) (append_snoc (take i s) v (g (drop (i + 1) s)) ∙ ap (λ (x : List ℕ). take i s ++ x) e)

  -- each word by a function
  pub map-more : (g : ℕ → ℕ) → v ≡ g (get_or s i 0) → take (i + 1) (set s i v) ++ map g (drop (i + 1) (set s i v)) ≡ take i s ++ map g (drop i s)
  map-more g e = store-more (map g) (map g) (rw (drop_more s i 0 h, e))

-- and none left
pub map-done : (g : ℕ → ℕ) (s : List ℕ) (i : ℕ) → length s ≤ i → take i s ++ map g (drop i s) ≡ s
map-done g s i h = rw (take_all i s h, drop_of_length-le s h, append-nil)

-- ---- lists that agree from a place on

pub drop-take : {A : Type 0} (x y : ℕ) (l : List A) → drop x (take y l) ≡ take (y - x) (drop x l)
drop-take zero y l = simp unary_clauses
drop-take {A} (suc x) zero l = let z : 0 - suc x ≡ 0 = omega arith in rw z
drop-take (suc x) (suc y) [] = rw take-nil
drop-take (suc x) (suc y) (a ∷ l) = simp unary_clauses (drop-take x y l)

-- they agree from any later place on, and there
pub drop-later : {A : Type 0} (x y : ℕ) (l l' : List A) → drop x l ≡ drop x l' → x ≤ y → drop y l ≡ drop y l'
drop-later x y l l' e h =
    let z : y ≡ x + (y - x) = omega arith in
    rw z (sym (drop-drop (y - x) x l) ∙ ap (drop (y - x)) e ∙ drop-drop (y - x) x l')

head-is : (x : ℕ) (l : List ℕ) → get_or l x 0 ≡ get_or (drop x l) 0 0
head-is x l = let z : x ≡ x + 0 = omega arith in ap (λ (k : ℕ). get_or l k 0) z ∙ sym (get_or-drop x l 0 0)

pub head-same : (x : ℕ) (l l' : List ℕ) → drop x l ≡ drop x l' → get_or l x 0 ≡ get_or l' x 0
head-same x l l' e = head-is x l ∙ ap (λ (y : List ℕ). get_or y 0 0) e ∙ sym (head-is x l')

-- ---- words moved down, and the part i..n zeroed

module _ {A : Type 0} (l l' : List A) (a b c : ℕ) (h : b ≤ a) (k : a + c ≤ length l) (e : l' ≡ copy_within l a (a + c) b) where
  pub down_copied : Down l l' a b c
  down_copied =
      let n : a + c - a ≡ c = omega arith in
      let x : b ≤ length l = omega arith in
      let y : c ≤ length (drop a l) = simp length-drop (omega arith) in
      let z : b + c ≤ a + c = omega arith in
      record {
        front = rw (e, n) (take-paste l b (drop a l) c x y);
        back = rw (e, n) (drop-later (b + c) (a + c) (paste l b (drop a l) c) l (drop-paste l b (drop a l) c x y) z);
      }

pub zeroed : {A : Type 0} (z : A) (s ys : List A) (i n : ℕ) → i ≤ n → ys ≡ replicate (n - i) z → put_mid i (n - i) s ys ≡ take i s ++ (replicate (n - i) z ++ drop n s)
zeroed z s ys i n h e = let k : i + (n - i) ≡ n = omega arith in rw (e, drop-drop (n - i) i s, k)
