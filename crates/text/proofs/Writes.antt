-- Bytes written one behind the other: parts that follow each other, and a loop that writes what is left. Assumes nothing.
use mathlib.Core.Path.{◌≡◌, refl, sym, ap, ◌∙◌, subst}
use mathlib.Core.List.{List, [], ◌∷◌, ◌++◌, append_assoc, append-nil}
use Prim.Native.Nat.{ℕ, ◌+◌}
use native.Mathlib.Nat.{zero-add}
use native.Mathlib.Omega.{arith}
use lib.ListN.{length, drop, length-append}
use borrow.Rule.Slice.PartMut.{put_mid}
use lib.Seq.{drop-drop, sets, sets-eq, length-sets}
use Rattle.laws.specs.Stores.{sets-sets}
use Rattle.text.specs.declared.Writer.{Writer}
use Rattle.text.specs.Wrote.{Room, Wrote, Prints, HasRoom, Writes}

pub seq : {u v w : Writer} {xs ys : List ℕ} → Writes u v xs → Writes v w ys → Writes u w (xs ++ ys)
seq {u} {v} {w} {xs} {ys} x y =
    record {
      same_reference = y.same_reference ∙ x.same_reference;
      wrote = record { text = y.wrote.text ∙ rw (x.wrote.text, x.wrote.stop) (sets-sets xs u.out.now u.at ys); stop = simp length-append (omega (arith, x.wrote.stop, y.wrote.stop)) };
    }

pub as-is : {u v : Writer} {xs ys : List ℕ} → Writes u v xs → xs ≡ ys → Writes u v ys
as-is {u} {v} w h = subst (Writes u v) h w

-- what is lent holds in the end what the writer has, if it is the writer's
pub at-end : {u v : Writer} {bs o : List ℕ} {g : ℕ} → u.out.ghost_name ≡ g → (g ≡ v.out.ghost_name → o ≡ v.out.now) → Writes u v bs → o ≡ v.out.now
at-end e f w = f (sym e ∙ sym w.same_reference)

-- written from the first byte on, in o, which holds o' in the end
pub from-start : {u v : Writer} {bs o o' : List ℕ} → u.out.now ≡ o → u.at ≡ 0 → Room o 0 bs → o' ≡ v.out.now → Writes u v bs → Prints o o' v.at bs
from-start {u} {v} {bs} {o} b z h f w =
    let e : v.at ≡ length bs = omega (arith, w.wrote.stop, z) in
    let t : sets u.out.now u.at bs ≡ bs ++ drop v.at o = rw (b, z, e) (rw zero-add at (sets-eq bs o 0 h)) in
    record { text = f ∙ (w.wrote.text ∙ t); size = e }

-- bytes copied in one go
pub copied : (o : List ℕ) (a : ℕ) {s b : List ℕ} {k : ℕ} → Room o a s → k ≡ length s → b ≡ s → Wrote o (put_mid a k o b) a (a + length s) s
copied o a {s} {b} {k} h n e = record { text = rw (n, e) (rw (drop-drop, ← append_assoc) (sym (sets-eq s o a h))); stop = refl }

-- ---- what is left to write, part by part

abbrev pub flat : List (List ℕ) → List ℕ
flat [] = []
flat (x ∷ xs) = x ++ flat xs

flat-append : (xs ys : List (List ℕ)) → flat (xs ++ ys) ≡ flat xs ++ flat ys
flat-append [] ys = refl
flat-append (x ∷ xs) ys = rw (flat-append xs ys, append_assoc)

-- what u had with `all` behind it is what v has with what is left behind it
pub record Left (u : Writer) (all : List ℕ) (v : Writer) (left : List (List ℕ)) : Type 0 where
  pub same_reference : v.out.ghost_name ≡ u.out.ghost_name
  pub text : sets v.out.now v.at (flat left) ≡ sets u.out.now u.at all
  pub stop : v.at + length (flat left) ≡ u.at + length all

-- the parts xs are x, one behind the other
pub record Are (xs : List (List ℕ)) (x : List ℕ) : Type 0 where
  pub flat-is : flat xs ≡ x

pub whole : {x : List ℕ} → Are (x ∷ []) x
whole {x} = record { flat-is = append-nil x }

pub begin : {all : List ℕ} {xs : List (List ℕ)} (u : Writer) → Are xs all → Left u all u xs
begin u h = record { same_reference = refl; text = rw h.flat-is; stop = rw h.flat-is }

module _ {u v : Writer} {all : List ℕ} where
  pub same : {xs : List (List ℕ)} → Left u all v xs → length v.out.now ≡ length u.out.now
  same {xs} r = sym (length-sets v.out.now v.at (flat xs)) ∙ (ap length r.text ∙ length-sets u.out.now u.at all)

  pub done : Left u all v [] → Writes u v all
  done r = record { same_reference = r.same_reference; wrote = record { text = r.text; stop = omega (arith, r.stop) } }

  module _ {x : List ℕ} {xs : List (List ℕ)} where
    -- a part in parts of its own
    pub part : {ys : List (List ℕ)} → Are ys x → Left u all v (x ∷ xs) → Left u all v (ys ++ xs)
    part {ys} h r = record { same_reference = r.same_reference; text = rw (flat-append ys xs, h.flat-is) r.text; stop = rw (flat-append ys xs, h.flat-is) r.stop }

    pub write : {w : Writer} → Left u all v (x ∷ xs) → Writes v w x → Left u all w xs
    write {w} r y =
        record {
          same_reference = y.same_reference ∙ r.same_reference;
          text = rw (y.wrote.text, y.wrote.stop) (sets-sets x v.out.now v.at (flat xs) ∙ r.text);
          stop = omega (arith, y.wrote.stop, simp length-append at r.stop);
        }

    pub room : Left u all v (x ∷ xs) → HasRoom u all → HasRoom v x
    room r h = omega (arith, same r, simp length-append at r.stop)
