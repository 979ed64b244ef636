-- Laws of names where they stand. Assumes nothing.
use mathlib.Core.Path.{◌≡◌, refl, sym, ◌∙◌, ap}
use mathlib.Core.Bool.{Bool, true, false, not, ◌&&◌, beq}
use mathlib.Core.List.{List, [], ◌∷◌, ◌++◌}
use Prim.Native.Nat.{ℕ, zero, suc, ◌+◌, ◌-◌, ◌*◌, ◌^◌, ◌<◌, ◌≤◌}
use native.Mathlib.Omega.{arith}
use native.Mathlib.Numerals.{add-one, sub-one}
use borrow.Author.Tests.{eq-eqb, ne_eqb, eqb-true, eqb-false, leb-true, leb-false}
use lib.Dec.{eqb, leb}
use Rattle.std.specs.Char.{to_ascii_lowercase}
use Rattle.std.proofs.lemmas.Str.Ascii.{lowercase_is}
use Rattle.rules.specs.Constants.{upperA, upperZ, flagBits, nameLengthBits, charBits}
use Rattle.rules.specs.Refusal.{equalNames}
use Rattle.rules.specs.Bits.{Res, refused, ok, spelled, isOne}
use Rattle.rules.specs.Tree.{Name}
use Rattle.rules.specs.Parse.{At, name, names, known, sameName, toLowercase, sameChars, bits}
use Rattle.bits.specs.Reads.{Gives, Fine, Took, Skips, at, charsAt}
use Rattle.std.specs.Prelude.{Result, Ok, Err}
use Rattle.params.specs.declared.refusal.Refusal.{Refusal}
use Rattle.bits.specs.declared.Cursor.{Cursor}
use Rattle.names.specs.Names.{headerBits, charsOf, nameAt, nextName, namesAt, endAt, Named, NamedAll, NamesMid, NamesOne}
use Rattle.laws.specs.Texts.{spelled-lt}
use Rattle.bits.proofs.Bytes.{spelled-append}
use Rattle.bits.proofs.Gives.{then, stop, done, passes, fails, spells, after}

-- its first bits together are a flag and a length
head : (s : List ℕ) (p : ℕ) → spelled s headerBits p ≡ spelled s flagBits p * 2 ^ nameLengthBits + spelled s nameLengthBits (p + flagBits)
head s p = spelled-append s flagBits nameLengthBits p

and-false : (b : Bool) → (b && false) ≡ false
and-false true = refl
and-false false = refl

beq-same : (b : Bool) → beq b b ≡ true
beq-same true = refl
beq-same false = refl

flags-differ : (f g : ℕ) → f < 2 → g < 2 → (f ≡ g → ⊥) → beq (isOne f) (isOne g) ≡ false
unfolding isOne
flags-differ zero zero a b h = absurd (h refl)
flags-differ zero (suc zero) a b h = refl
flags-differ zero (suc (suc g)) a b h = absurd (omega arith)
flags-differ (suc zero) zero a b h = refl
flags-differ (suc zero) (suc zero) a b h = absurd (h refl)
flags-differ (suc zero) (suc (suc g)) a b h = absurd (omega arith)
flags-differ (suc (suc f)) g a b h = absurd (omega arith)

lengths-differ : (s : List ℕ) (m n p q : ℕ) → (m ≡ n → ⊥) → sameChars (charsAt s m p) (charsAt s n q) ≡ false
unfolding charsAt sameChars
lengths-differ s zero zero p q h = absurd (h refl)
lengths-differ s zero (suc n) p q h = refl
lengths-differ s (suc m) zero p q h = refl
lengths-differ s (suc m) (suc n) p q h = rw (lengths-differ s m n (p + charBits) (q + charBits) (λ e. h (ap suc e))) (and-false (eqb (toLowercase (spelled s charBits p)) (toLowercase (spelled s charBits q))))

pub same-length : (s : List ℕ) (p q : ℕ) → spelled s headerBits p ≡ spelled s headerBits q → spelled s nameLengthBits (p + flagBits) ≡ spelled s nameLengthBits (q + flagBits)
same-length s p q e = omega (arith, head s p, head s q, spelled-lt s nameLengthBits (p + flagBits), spelled-lt s nameLengthBits (q + flagBits))

pub same-first : (s : List ℕ) (p q : ℕ) → spelled s headerBits p ≡ spelled s headerBits q → sameChars (charsAt s (spelled s nameLengthBits (p + flagBits) + 1) (p + headerBits)) (charsAt s (spelled s nameLengthBits (p + flagBits) + 1) (q + headerBits)) ≡ sameName (nameAt s p) (nameAt s q)
unfolding sameName nameAt charsOf
same-first s p q e =
    let a : spelled s flagBits p ≡ spelled s flagBits q = omega (arith, head s p, head s q, spelled-lt s nameLengthBits (p + flagBits), spelled-lt s nameLengthBits (q + flagBits)) in
    let b : spelled s nameLengthBits (p + flagBits) ≡ spelled s nameLengthBits (q + flagBits) = omega (arith, head s p, head s q, spelled-lt s nameLengthBits (p + flagBits), spelled-lt s nameLengthBits (q + flagBits)) in
    rw (a, ← b, add-one, beq-same (isOne (spelled s flagBits q)))

pub differ-first : (s : List ℕ) (p q : ℕ) → (spelled s headerBits p ≡ spelled s headerBits q → ⊥) → false ≡ sameName (nameAt s p) (nameAt s q)
unfolding sameName nameAt charsOf
differ-first s p q h = by (eqb (spelled s nameLengthBits (p + flagBits)) (spelled s nameLengthBits (q + flagBits))) refl
  where
    by : (b : Bool) → eqb (spelled s nameLengthBits (p + flagBits)) (spelled s nameLengthBits (q + flagBits)) ≡ b → false ≡ sameName (nameAt s p) (nameAt s q)
    by true e =
        let l : spelled s nameLengthBits (p + flagBits) ≡ spelled s nameLengthBits (q + flagBits) = eqb-true _ _ e in
        let f : (spelled s flagBits p ≡ spelled s flagBits q → ⊥) = λ g. h (head s p ∙ omega arith ∙ sym (head s q)) in
        rw (flags-differ (spelled s flagBits p) (spelled s flagBits q) (spelled-lt s flagBits p) (spelled-lt s flagBits q) f)
    by false e =
        let l : (spelled s nameLengthBits (p + flagBits) ≡ spelled s nameLengthBits (q + flagBits) → ⊥) = eqb-false _ _ e in
        rw (lengths-differ s (suc (spelled s nameLengthBits (p + flagBits))) (suc (spelled s nameLengthBits (q + flagBits))) (p + headerBits) (q + headerBits) (λ g. l (omega arith))) (sym (and-false (beq (isOne (spelled s flagBits p)) (isOne (spelled s flagBits q)))))

-- a character in lower case, as the library has it
pub lowered : (c : ℕ) → to_ascii_lowercase c ≡ toLowercase c
unfolding toLowercase
lowered c = by (leb upperA c) refl (leb c upperZ) refl
  where
    by : (a : Bool) → leb upperA c ≡ a → (z : Bool) → leb c upperZ ≡ z → to_ascii_lowercase c ≡ toLowercase c
    by true h true g = (lowercase_is c).0 (leb-true _ _ h, leb-true _ _ g) ∙ sym (rw (toLowercase, h, g))
    by true h false g = (lowercase_is c).2 (leb-false _ _ g) ∙ sym (rw (toLowercase, h, g))
    by false h z g = (lowercase_is c).1 (leb-false _ _ h) ∙ sym (rw (toLowercase, h))

-- characters compared one by one, in lower case
pub chars-more : (s : List ℕ) (n a b : ℕ) → 0 < n → toLowercase (spelled s charBits a) ≡ toLowercase (spelled s charBits b) → sameChars (charsAt s (n - 1) (a + charBits)) (charsAt s (n - 1) (b + charBits)) ≡ sameChars (charsAt s n a) (charsAt s n b)
unfolding charsAt sameChars
chars-more s zero a b h e = absurd (omega arith)
chars-more s (suc n) a b h e = rw (sub-one, eq-eqb (toLowercase (spelled s charBits a)) (toLowercase (spelled s charBits b)) e)

pub chars-differ : (s : List ℕ) (n a b : ℕ) → 0 < n → (toLowercase (spelled s charBits a) ≡ toLowercase (spelled s charBits b) → ⊥) → false ≡ sameChars (charsAt s n a) (charsAt s n b)
unfolding charsAt sameChars
chars-differ s zero a b h e = absurd (omega arith)
chars-differ s (suc n) a b h e = rw (ne_eqb (toLowercase (spelled s charBits a)) (toLowercase (spelled s charBits b)) e)

-- the same k characters in
pub chars-step : (s : List ℕ) (n k a b : ℕ) → k < n → toLowercase (spelled s charBits (a + charBits * k)) ≡ toLowercase (spelled s charBits (b + charBits * k))
    → sameChars (charsAt s (n - (k + 1)) (a + charBits * (k + 1))) (charsAt s (n - (k + 1)) (b + charBits * (k + 1))) ≡ sameChars (charsAt s (n - k) (a + charBits * k)) (charsAt s (n - k) (b + charBits * k))
chars-step s n k a b h e =
    let m : n - (k + 1) ≡ n - k - 1 = omega arith in
    let x : a + charBits * (k + 1) ≡ a + charBits * k + charBits = omega arith in
    let y : b + charBits * (k + 1) ≡ b + charBits * k + charBits = omega arith in
    rw (m, x, y) (chars-more s (n - k) (a + charBits * k) (b + charBits * k) (omega arith) e)

pub chars-end : (s : List ℕ) (n a b : ℕ) → n ≤ 0 → true ≡ sameChars (charsAt s n a) (charsAt s n b)
unfolding charsAt sameChars
chars-end s zero a b h = refl
chars-end s (suc n) a b h = absurd (omega arith)

-- names compared one by one
pub known-yes : (s : List ℕ) (p k q : ℕ) → 0 < k → true ≡ sameName (nameAt s p) (nameAt s q) → true ≡ known (nameAt s p) (namesAt s k q)
unfolding known namesAt
known-yes s p zero q h e = absurd (omega arith)
known-yes s p (suc k) q h e = rw (← e, known)

pub known-no : (s : List ℕ) (p k q : ℕ) → 0 < k → false ≡ sameName (nameAt s p) (nameAt s q) → known (nameAt s p) (namesAt s (k - 1) (nextName s q)) ≡ known (nameAt s p) (namesAt s k q)
unfolding known namesAt
known-no s p zero q h e = absurd (omega arith)
known-no s p (suc k) q h e = rw (sub-one, ← e, known)

pub known-end : (s : List ℕ) (p k q : ℕ) → k ≤ 0 → false ≡ known (nameAt s p) (namesAt s k q)
unfolding known namesAt
known-end s p zero q h = refl
known-end s p (suc k) q h = absurd (omega arith)

-- where names end
pub next-gt : (s : List ℕ) (p : ℕ) → p + headerBits + charBits ≤ nextName s p
unfolding nextName charsOf
next-gt s p = omega arith

pub end-ge : (s : List ℕ) (k p : ℕ) → p ≤ endAt s k p
unfolding endAt
end-ge s zero p = omega arith
end-ge s (suc k) p = let h = end-ge s k (nextName s p) in let g = next-gt s p in omega arith

pub end-more : (s : List ℕ) (k p : ℕ) → 0 < k → endAt s (k - 1) (nextName s p) ≡ endAt s k p
unfolding endAt
end-more s zero p h = absurd (omega arith)
end-more s (suc k) p h = rw sub-one

pub end-snoc : (s : List ℕ) (k p : ℕ) → endAt s (suc k) p ≡ nextName s (endAt s k p)
unfolding endAt
end-snoc s zero p = refl
end-snoc s (suc k) p = end-snoc s k (nextName s p)

names-snoc : (s : List ℕ) (k p : ℕ) → namesAt s (suc k) p ≡ namesAt s k p ++ (nameAt s (endAt s k p) ∷ [])
unfolding namesAt endAt
names-snoc s zero p = refl
names-snoc s (suc k) p = ap (λ (l : List Name). nameAt s p ∷ l) (names-snoc s k (nextName s p))

-- ---- a name and the names behind it

names-step : (l : ℕ) (ys : List Name) {x : Name} {s : List ℕ} {c c1 : At} {res : Res (List Name × At)} → 0 < l → Gives name s c (ok (x, c1)) → known x ys ≡ false → Gives (names (l - 1) (ys ++ (x ∷ []))) s c1 res → Gives (names l ys) s c res
unfolding names
names-step zero ys {x = x} h g e a = absurd (omega arith)
names-step (suc l) ys {x = x} h g e a = then _ g (then _ (passes _ (ap not e)) (rw sub-one at a))

names-short : (l : ℕ) (ys : List Name) {s : List ℕ} {c : At} {n : ℕ} → 0 < l → Gives name s c (refused n) → Gives (names l ys) s c (refused n)
unfolding names
names-short zero ys h g = absurd (omega arith)
names-short (suc l) ys h g = stop _ g

names-twice : (l : ℕ) (ys : List Name) {x : Name} {s : List ℕ} {c c1 : At} → 0 < l → Gives name s c (ok (x, c1)) → known x ys ≡ true → Gives (names l ys) s c (refused equalNames)
unfolding names
names-twice zero ys {x = x} h g e = absurd (omega arith)
names-twice (suc l) ys {x = x} h g e = then _ g (stop _ (fails (ap not e)))

names-end : (l : ℕ) (ys : List Name) {s : List ℕ} {c : At} → l ≤ 0 → Gives (names l ys) s c (ok (ys, c))
unfolding names
names-end zero ys h = done
names-end (suc l) ys h = absurd (omega arith)

module _ {n : ℕ} {s : List ℕ} {c d : Cursor} {k : ℕ} (m : NamesMid n s c d k) where
  pub names-more : {e : Cursor} → k < n → Named s d e → known (nameAt s d.pos) (namesAt s k c.pos) ≡ false → NamesMid n s c e (k + 1)
  names-more {e = e} h x z =
      let v = m.moved in
      let w = x.moved in
      let i : n - (k + 1) ≡ n - k - 1 = omega arith in
      let j : namesAt s (k + 1) c.pos ≡ namesAt s k c.pos ++ (nameAt s d.pos ∷ []) = rw (add-one, m.place) (names-snoc s k c.pos) in
      record {
        goes = λ res g. m.goes res (names-step (n - k) _ (omega arith) x.reads z (rw (i, j) at g));
        place = x.place ∙ rw (m.place, add-one) (sym (end-snoc s k c.pos));
        moved = omega arith;
        fine = x.fine;
      }

  pub names-stop : {x : ℕ} → k < n → Gives name s (at d) (refused x) → Gives (names n []) s (at c) (refused x)
  names-stop h g = m.goes _ (names-short (n - k) _ (omega arith) g)

  pub names-old : {e : Cursor} → k < n → Named s d e → known (nameAt s d.pos) (namesAt s k c.pos) ≡ true → Gives (names n []) s (at c) (refused equalNames)
  names-old h x z = m.goes _ (names-twice (n - k) _ (omega arith) x.reads z)

  pub names-done : n ≤ k → k ≤ n → NamedAll n s c d
  names-done h l =
      let e : n ≡ k = omega arith in
      let f : namesAt s n c.pos ≡ namesAt s k c.pos = ap (λ (x : ℕ). namesAt s x c.pos) e in
      record { reads = rw f (m.goes _ (names-end (n - k) (namesAt s k c.pos) (omega arith))); place = m.place ∙ ap (λ (x : ℕ). endAt s x c.pos) (sym e); moved = m.moved; fine = m.fine }

pub names-start : (n : ℕ) (s : List ℕ) (c : Cursor) → Fine s c → NamesMid n s c c 0
unfolding namesAt endAt
names-start n s c f = let e : n - 0 ≡ n = omega arith in record { goes = λ res g. rw e at g; place = refl; moved = omega arith; fine = f }

-- a flag, a length and characters are a name
pub one-built : {s : List ℕ} {c d e : Cursor} {f l : ℕ} → Took (bits flagBits) s c 0 0 (2 ^ flagBits) f d → Took (bits nameLengthBits) s d 0 0 (2 ^ nameLengthBits) l e → (st : Result Cursor Refusal) → Skips (l + 1) s e st → NamesOne s c st
unfolding name nameAt nextName charsOf
one-built {s = s} {c = c} {d = d} {e = e} {f = f} {l = l} b x (Ok g) u =
    let h = u.here in
    let p = spells b.reads in
    let q = spells x.reads in
    let m = b.moved in
    let n = x.moved in
    let o = h.moved in
    let i : d.pos ≡ c.pos + flagBits = after flagBits b.reads in
    let j : e.pos ≡ d.pos + nameLengthBits = after nameLengthBits x.reads in
    let k : e.pos ≡ c.pos + headerBits = omega arith in
    let y : l ≡ spelled s nameLengthBits (c.pos + flagBits) = rw i at q.is in
    record {
      here = record {
        reads = rw (← p.is, ← k, ← y) (then _ b.reads (then _ x.reads (then _ (rw add-one at h.reads) done)));
        place = rw (← y) (omega (arith, h.place));
        moved = omega arith;
        fine = h.fine;
      };
    }
one-built b x (Err k) u = record { here = then _ b.reads (then _ x.reads (stop _ (rw add-one at u.here))) }

pub next-in : (s : List ℕ) (k q : ℕ) → 0 < k → nextName s q ≤ endAt s k q
next-in s k q h = let e = end-more s k q h in let g = end-ge s (k - 1) (nextName s q) in omega arith
