-- Words stored one behind the other: none, and then more. Assumes nothing.
use Rattle.std.specs.Prelude.{◌≡◌, refl, List, [], ◌∷◌, ◌++◌, map, ℕ, suc, ◌+◌, ◌<◌, length, take, get_or}
use Rattle.std.proofs.Common.{ap, ◌∙◌, subst, arith, length-append}
use Rattle.std.proofs.lemmas.List.{length-map, map-append}
use Rattle.std.proofs.Math.Seq.{length-sets, length-take-le, take-suc}
use Rattle.laws.specs.Stores.{sets-sets}
use Rattle.combine.specs.declared.store.Places.{Places}
use Rattle.combine.specs.Stores.{HasRoom, Stores}

pub stores-none : (p : Places) → Stores p p []
stores-none p = record { same_reference = refl; words = refl; next = omega arith }

module _ {p q : Places} {xs : List ℕ} (x : Stores p q xs) where
  pub stores-seq : {r : Places} {ys : List ℕ} → Stores q r ys → Stores p r (xs ++ ys)
  stores-seq {r} {ys} y =
      record {
        same_reference = y.same_reference ∙ x.same_reference;
        words = y.words ∙ rw (x.words, x.next) (sets-sets xs p.table.now p.next ys);
        next = simp length-append (omega (arith, x.next, y.next));
      }

  pub stores-as : {ys : List ℕ} → xs ≡ ys → Stores p q ys
  stores-as {ys} e = subst (Stores p q) e x

  pub stores-size : length q.table.now ≡ length p.table.now
  stores-size = ap length x.words ∙ length-sets p.table.now p.next xs

  pub stores-room : (ys : List ℕ) → HasRoom p (xs ++ ys) → HasRoom q ys
  stores-room ys h = omega (arith, h, x.next, stores-size, length-append xs ys)

-- the words of a list by a function, one after the other
module _ {p q : Places} (f : ℕ → ℕ) (ws : List ℕ) (k : ℕ) (x : Stores p q (map f (take k ws))) where
  pub map-room : HasRoom p (map f ws) → k < length ws → q.next < length q.table.now
  map-room h l = omega (arith, h, x.next, stores-size x, length-map (take k ws) f, length-map ws f, length-take-le k ws (omega arith))

  pub map-more : {r : Places} (w : ℕ) → w ≡ f (get_or ws k 0) → k < length ws → Stores q r (w ∷ []) → Stores p r (map f (take (k + 1) ws))
  map-more {r} w e l y =
      let z : k + 1 ≡ suc k = omega arith in
      let t : take (k + 1) ws ≡ take k ws ++ (get_or ws k 0 ∷ []) = rw z (take-suc ws k 0 l) in
      stores-as (stores-seq x y) (rw (t, map-append, e))
