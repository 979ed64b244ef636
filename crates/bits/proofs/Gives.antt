-- The laws of `Gives`: one step after another, refused or not. Assumes nothing.
use mathlib.Core.Path.{◌≡◌, refl, sym, ◌∙◌, ap}
use mathlib.Core.List.{List, [], ◌∷◌}
use mathlib.Core.Bool.{Bool, true, false}
use Prim.Native.Nat.{ℕ, zero, suc, ◌+◌, ◌*◌, ◌^◌, ◌<◌, ◌≤◌}
use native.Mathlib.Omega.{arith}
use borrow.Author.Tests.{lt-ltb, le-ltb, leb-true, leb-false, ltb-true, ltb-false}
use lib.Dec.{ltb, leb}
use lib.ListN.{length, get_elem?}
use mathlib.Core.Option.{Option, none, some}
use Rattle.rules.specs.Constants.{mostNodes, byteBits, charBits, nameBits}
use Rattle.rules.specs.Refusal.{endsInField, tooDeep, tooManyNodes, unassigned, unknownName}
use Rattle.rules.specs.Bits.{Res, refused, ok, field, spelled}
use Rattle.rules.specs.Parse.{Reader, At, succeed, refuse, demand, begin, bits, many, operator, nameOf, ◌>>=◌}
use Rattle.bits.specs.Reads.{Gives, Fine, Took, Passed, Passes, Ends, Skips, at, belowR, beginR, charsAt}
use Rattle.bits.specs.declared.Cursor.{Cursor}
use Rattle.std.specs.Prelude.{Result, Ok, Err}
use Rattle.std.specs.Int.{from_bool}
use Rattle.std.specs.Result.{IsErrAnd}
use Rattle.std.proofs.lemmas.Result.{err_from_is_err_and}
use Rattle.params.specs.declared.refusal.Refusal.{Refusal}
use Rattle.bits.proofs.Bits.{inside, field-in, field-out}

pub done : {A : Type 0} {a : A} {s : List ℕ} {c : At} → Gives (succeed a) s c (ok (a, c))
unfolding succeed
done = record { is = refl }

-- a step that goes on: what the rest gives, the whole gives
pub then : {A B : Type 0} {m : Reader A} (k : A → Reader B) {s : List ℕ} {c c1 : At} {a : A} {res : Res (B × At)} → Gives m s c (ok (a, c1)) → Gives (k a) s c1 res → Gives (m >>= k) s c res
unfolding ◌>>=◌
then k d e = record { is = rw (d.is, ◌>>=◌) e.is }

-- a step that refuses: the whole refuses
pub stop : {A B : Type 0} {m : Reader A} (k : A → Reader B) {s : List ℕ} {c : At} {n : ℕ} → Gives m s c (refused n) → Gives (m >>= k) s c (refused n)
unfolding ◌>>=◌
stop k d = record { is = rw (d.is, ◌>>=◌) }

-- a refusal that a `?` passes on
pub passed : {A : Type 0} {st : Result A Refusal} {e : Refusal} → IsErrAnd st (λ y. y ≡ e) → st ≡ Err e
passed {st = st} h = let p = err_from_is_err_and st h in p.1 ∙ ap Err p.2

-- ---- a reader gives one result

pub unique : {A : Type 0} {m : Reader A} {s : List ℕ} {c : At} {x y : Res (A × At)} → Gives m s c x → Gives m s c y → x ≡ y
unique d e = sym d.is ∙ e.is

pub inject : {A : Type 0} {x y : A} → ok x ≡ ok y → x ≡ y
inject {A} {x} {y} e = cc

pub inject-refused : {A : Type 0} {m n : ℕ} → ◌≡◌ {A = Res A} (refused m) (refused n) → m ≡ n
inject-refused {A} {m} {n} e = cc

pub never : {A : Type 0} {x : A} {n : ℕ} → ok x ≡ refused n → ⊥
never {A} {x} {n} e = let z : ◌≡◌ {A = ℕ} 0 1 = cc in omega arith

-- ---- steps

-- a test that passes, and one that does not
pub passes : (n : ℕ) {b : Bool} {s : List ℕ} {c : At} → b ≡ true → Gives (demand b n) s c (ok (tt, c))
unfolding demand succeed
passes n e = record { is = rw e }

pub fails : {b : Bool} {n : ℕ} {s : List ℕ} {c : At} → b ≡ false → Gives (demand b n) s c (refused n)
unfolding demand refuse
fails e = record { is = rw e }

-- a field that was there, and one that was not
pub bits-in : (s : List ℕ) (w : ℕ) (c : At) (v p : ℕ) → ok (v, p) ≡ field s w c.pos → Gives (bits w) s c (ok (v, record { pos = p; nodes = c.nodes }))
unfolding bits
bits-in s w c v p e = record { is = rw (← e, bits) }

pub bits-out : (s : List ℕ) (w : ℕ) (c : At) → refused endsInField ≡ field s w c.pos → Gives (bits w) s c (refused endsInField)
unfolding bits
bits-out s w c e = record { is = rw (← e, bits) }

pub taken : (s : List ℕ) (w : ℕ) (c : Cursor) (v p : ℕ) → Fine s c → ok (v, p) ≡ field s w c.pos
    → Took (bits w) s c 0 0 (2 ^ w) v (record { pos = p; nodes = c.nodes; statements = c.statements; sections = c.sections; strings = c.strings; chars = c.chars })
taken s w c v p f e =
    let i = inside s w c.pos v p e in
    record { reads = bits-in s w (at c) v p e; small = i.small; moved = omega arith; fine = omega arith }

-- a node that begins, and one too many
pub begins : (s : List ℕ) (c : At) → c.nodes < mostNodes → Gives begin s c (ok (tt, record { pos = c.pos; nodes = suc c.nodes }))
unfolding begin
begins s c h = record { is = rw (lt-ltb c.nodes mostNodes h, begin) }

pub too-many : (s : List ℕ) (c : At) → mostNodes ≤ c.nodes → Gives begin s c (refused tooManyNodes)
unfolding begin
too-many s c h = record { is = rw (le-ltb c.nodes mostNodes h, begin) }

pub begin-deep : (w d : ℕ) {s : List ℕ} {c : At} → d ≡ 0 → Gives (beginR w d) s c (refused tooDeep)
unfolding beginR refuse
begin-deep w d e = rw e (record { is = refl })

pub begin-many : (w d : ℕ) {s : List ℕ} {c : At} → (d ≡ 0 → ⊥) → mostNodes ≤ c.nodes → Gives (beginR w d) s c (refused tooManyNodes)
unfolding beginR
begin-many w zero h k = absurd (h refl)
begin-many w (suc d) h k = stop _ (too-many _ _ k)

begin-then : (w d : ℕ) {s : List ℕ} {c c1 : At} {res : Res (ℕ × At)} → (d ≡ 0 → ⊥) → Gives begin s c (ok (tt, c1)) → Gives (bits w) s c1 res → Gives (beginR w d) s c res
unfolding beginR
begin-then w zero h g k = absurd (h refl)
begin-then w (suc d) h g k = then _ g k

-- a node that began was not too deep
pub not-deep : (w d : ℕ) {s : List ℕ} {c c1 : At} {v : ℕ} → Gives (beginR w d) s c (ok (v, c1)) → 0 < d
not-deep w zero g = absurd (never (unique g (begin-deep w 0 refl)))
not-deep w (suc d) g = omega arith

-- characters that are there, and characters that are not
pub chars-in : (n : ℕ) (s : List ℕ) (p m : ℕ) → p + charBits * n ≤ byteBits * length s → Gives (many n (bits charBits)) s (record { pos = p; nodes = m }) (ok (charsAt s n p, record { pos = p + charBits * n; nodes = m }))
unfolding many charsAt
chars-in zero s p m h = let e : p + 0 ≡ p = omega arith in rw e done
chars-in (suc n) s p m h =
    let e : p + charBits * suc n ≡ p + charBits + charBits * n = omega arith in
    rw e (then _ (bits-in s charBits (record { pos = p; nodes = m }) _ _ (sym (field-in s charBits p (omega arith)))) (then _ (chars-in n s (p + charBits) m (omega arith)) done))

pub chars-out : (n : ℕ) (s : List ℕ) (p m : ℕ) → p ≤ byteBits * length s → byteBits * length s < p + charBits * n → Gives (many n (bits charBits)) s (record { pos = p; nodes = m }) (refused endsInField)
unfolding many
chars-out zero s p m i h = absurd (omega arith)
chars-out (suc n) s p m i h = by n s p m (λ j k. chars-out n s (p + charBits) m j k) h (leb (p + charBits) (byteBits * length s)) refl
  where
    by : (n : ℕ) (s : List ℕ) (p m : ℕ) → (p + charBits ≤ byteBits * length s → byteBits * length s < p + charBits + charBits * n → Gives (many n (bits charBits)) s (record { pos = p + charBits; nodes = m }) (refused endsInField))
        → byteBits * length s < p + charBits * suc n → (b : Bool) → leb (p + charBits) (byteBits * length s) ≡ b → Gives (many (suc n) (bits charBits)) s (record { pos = p; nodes = m }) (refused endsInField)
    by n s p m more h true e =
        let k : p + charBits ≤ byteBits * length s = leb-true _ _ e in
        then _ (bits-in s charBits (record { pos = p; nodes = m }) _ _ (sym (field-in s charBits p k))) (stop _ (more k (omega arith)))
    by n s p m more h false e = stop _ (bits-out s charBits (record { pos = p; nodes = m }) (sym (field-out s charBits p (leb-false _ _ e))))

pub data Seen {A : Type 0} (m : Reader A) (s : List ℕ) (c : At) : Type 0 where
  said : (a : A) (d : At) → Gives m s c (ok (a, d)) → Seen m s c
  refuses : (n : ℕ) → Gives m s c (refused n) → Seen m s c

pub see : {A : Type 0} (m : Reader A) (s : List ℕ) (c : At) → Seen m s c
see {A} m s c = by (m s c) refl
  where
    by : (x : Res (A × At)) → m s c ≡ x → Seen m s c
    by (ok r) e = said r.0 r.1 (record { is = e })
    by (refused n) e = refuses n (record { is = e })

-- what bits that were there spell
pub record Spelled (s : List ℕ) (w p v : ℕ) : Type 0 where
  pub is : v ≡ spelled s w p
  pub inside : p + w ≤ byteBits * length s

pub spells : {s : List ℕ} {w v : ℕ} {c d : At} → Gives (bits w) s c (ok (v, d)) → Spelled s w c.pos v
spells {s} {w} {v} {c} {d} g = by (leb (c.pos + w) (byteBits * length s)) refl
  where
    by : (b : Bool) → leb (c.pos + w) (byteBits * length s) ≡ b → Spelled s w c.pos v
    by true h =
        let k = leb-true _ _ h in
        let e = inject (unique g (bits-in s w c _ _ (sym (field-in s w c.pos k)))) in
        record { is = ap (λ (x : ℕ × At). x.0) e; inside = k }
    by false h = absurd (never (unique g (bits-out s w c (sym (field-out s w c.pos (leb-false _ _ h))))))

-- ---- operators: the list's length is the limit

pub record Picked {A : Type 0} (ops : List A) (k : ℕ) : Type 0 where
  pub val : A
  pub is : get_elem? ops k ≡ some val

pub picked : {A : Type 0} (ops : List A) (k : ℕ) → k < length ops → Picked ops k
picked [] k h = absurd (omega arith)
picked (x ∷ ops) zero h = record { val = x; is = refl }
picked (x ∷ ops) (suc k) h = let p = picked ops k (omega arith) in record { val = p.val; is = p.is }

no-more : {A : Type 0} (ops : List A) (k : ℕ) → length ops ≤ k → get_elem? ops k ≡ none
no-more [] k h = refl
no-more (x ∷ ops) zero h = absurd (omega arith)
no-more (x ∷ ops) (suc k) h = no-more ops k (omega arith)

pub op-in : {A : Type 0} (ops : List A) (w : ℕ) {v : ℕ} {o : A} {s : List ℕ} {c d : At} → Gives (bits w) s c (ok (v, d)) → get_elem? ops v ≡ some o → Gives (operator w ops) s c (ok (o, d))
unfolding operator
op-in {A = A} ops w {v = v} {o = o} {s = s} {d = d} g e = then _ g (chosen (get_elem? ops v) e)
  where
    chosen : (x : Option A) → x ≡ some o → Gives (elim x [ none ↦ refuse unassigned | some o ↦ succeed o ]) s d (ok (o, d))
    chosen x e = rw e done

pub op-out : {A : Type 0} (ops : List A) (w : ℕ) {v : ℕ} {s : List ℕ} {c d : At} → Gives (bits w) s c (ok (v, d)) → length ops ≤ v → Gives (operator w ops) s c (refused unassigned)
unfolding operator refuse
op-out {A = A} ops w {v = v} {s = s} {d = d} g h = then _ g (chosen (get_elem? ops v) (no-more ops v h))
  where
    chosen : (x : Option A) → x ≡ none → Gives {A = A} (elim x [ none ↦ refuse unassigned | some o ↦ succeed o ]) s d (refused unassigned)
    chosen x e = rw e (record { is = refl })

-- a limited field, from its bits
pub below-in : (w n k : ℕ) {a : ℕ} {s : List ℕ} {c d : At} → Gives (bits w) s c (ok (a, d)) → a < n → Gives (belowR w n k) s c (ok (a, d))
unfolding belowR
below-in w n k g h = then _ g (then _ (passes k (lt-ltb _ n h)) done)

pub below-out : (w n k : ℕ) {a : ℕ} {s : List ℕ} {c d : At} → Gives (bits w) s c (ok (a, d)) → n ≤ a → Gives (belowR w n k) s c (refused k)
unfolding belowR
below-out w n k g h = then _ g (stop _ (fails (le-ltb _ n h)))

pub below-short : (w n k : ℕ) {x : ℕ} {s : List ℕ} {c : At} → Gives (bits w) s c (refused x) → Gives (belowR w n k) s c (refused x)
unfolding belowR
below-short w n k g = stop _ g

-- and back
pub below-bits : (w n k : ℕ) {v : ℕ} {s : List ℕ} {c d : At} → Gives (belowR w n k) s c (ok (v, d)) → Gives (bits w) s c (ok (v, d))
below-bits w n k {v} {s} {c} {d} g = by (see (bits w) s c)
  where
    by : Seen (bits w) s c → Gives (bits w) s c (ok (v, d))
    by (refuses x r) = absurd (never (unique g (below-short w n k r)))
    by (said a e r) = tested (ltb a n) refl
      where
        tested : (b : Bool) → ltb a n ≡ b → Gives (bits w) s c (ok (v, d))
        tested true h = rw (unique g (below-in w n k r (ltb-true a n h))) r
        tested false h = absurd (never (unique g (below-out w n k r (ltb-false a n h))))

pub op-ok : {A : Type 0} (ops : List A) (w n : ℕ) {v : ℕ} {o : A} {s : List ℕ} {c d : At} → Gives (belowR w n unassigned) s c (ok (v, d)) → get_elem? ops v ≡ some o → Gives (operator w ops) s c (ok (o, d))
op-ok ops w n g e = op-in ops w (below-bits w n unassigned g) e

pub op-no : {A : Type 0} (ops : List A) (w n : ℕ) {x : ℕ} {s : List ℕ} {c : At} → length ops ≡ n → Gives (belowR w n unassigned) s c (refused x) → Gives (operator w ops) s c (refused x)
unfolding operator
op-no ops w n {x} {s} {c} l g = by (see (bits w) s c)
  where
    by : Seen (bits w) s c → Gives (operator w ops) s c (refused x)
    by (refuses y r) = let z : x ≡ y = inject-refused (unique g (below-short w n unassigned r)) in rw z (stop _ r)
    by (said a e r) = tested (ltb a n) refl
      where
        tested : (b : Bool) → ltb a n ≡ b → Gives (operator w ops) s c (refused x)
        tested true h = absurd (never (unique (below-in w n unassigned r (ltb-true a n h)) g))
        tested false h =
            let k : n ≤ a = ltb-false a n h in
            let y : x ≡ unassigned = inject-refused (unique g (below-out w n unassigned r k)) in
            rw y (op-out ops w r (omega arith))

-- two steps that are taken as one
pub assoc : {A B C : Type 0} (m : Reader A) (g : A → Reader B) (f : B → Reader C) {s : List ℕ} {c : At} {res : Res (C × At)} → Gives (m >>= g >>= f) s c res → Gives (m >>= λ a. g a >>= f) s c res
unfolding ◌>>=◌
assoc {C = C} m g f {s} {c} {res} h = by (see m s c)
  where
    by : Seen m s c → Gives (m >>= λ a. g a >>= f) s c res
    by (refuses n r) = rw (unique h (stop _ (stop _ r))) (stop _ r)
    by (said a d r) = then _ r (next (see (g a) s d))
      where
        next : Seen (g a) s d → Gives (g a >>= f) s d res
        next (refuses n q) = rw (unique h (stop _ (then _ r q))) (stop _ q)
        next (said b e q) = then _ q (rest (f b s e) refl)
          where
            rest : (x : Res (C × At)) → f b s e ≡ x → Gives (f b) s e res
            rest x i = rw (unique h (then _ (then _ r q) (record { is = i }))) (record { is = i })

-- a name is a limited field
pub named : (n : ℕ) {s : List ℕ} {c : At} {res : Res (ℕ × At)} → Gives (belowR nameBits n unknownName) s c res → Gives (nameOf n) s c res
unfolding belowR nameOf
named n g = g

-- where bits that were there end
pub after : (w : ℕ) {s : List ℕ} {v p q n m : ℕ} → Gives (bits w) s (record { pos = p; nodes = n }) (ok (v, record { pos = q; nodes = m })) → q ≡ p + w
after w {s} {v} {p} {q} {n} {m} g =
    let c : At = record { pos = p; nodes = n } in
    let h = (spells g).inside in
    let e = inject (unique g (bits-in s w c _ _ (sym (field-in s w p h)))) in
    ap (λ (x : ℕ × At). x.1.pos) e

-- ---- bits are the same however many nodes were counted

recount : (w : ℕ) {s : List ℕ} {v p q n m : ℕ} (k : ℕ) → Gives (bits w) s (record { pos = p; nodes = n }) (ok (v, record { pos = q; nodes = m })) → Gives (bits w) s (record { pos = p; nodes = k }) (ok (v, record { pos = q; nodes = k }))
recount w {s} {v} {p} k g =
    let h = spells g in
    rw (h.is, after w g) (bits-in s w (record { pos = p; nodes = k }) _ _ (sym (field-in s w p h.inside)))

recount-out : (w : ℕ) {s : List ℕ} {p n x : ℕ} (k : ℕ) → Gives (bits w) s (record { pos = p; nodes = n }) (refused x) → Gives (bits w) s (record { pos = p; nodes = k }) (refused x)
recount-out w {s} {p} {n} {x} k g = by (leb (p + w) (byteBits * length s)) refl
  where
    by : (b : Bool) → leb (p + w) (byteBits * length s) ≡ b → Gives (bits w) s (record { pos = p; nodes = k }) (refused x)
    by true h = absurd (never (unique (bits-in s w (record { pos = p; nodes = n }) _ _ (sym (field-in s w p (leb-true _ _ h)))) g))
    by false h =
        let out = sym (field-out s w p (leb-false _ _ h)) in
        let e : x ≡ endsInField = inject-refused (unique g (bits-out s w (record { pos = p; nodes = n }) out)) in
        rw e (bits-out s w (record { pos = p; nodes = k }) out)

pub flag-small : (b : Bool) → from_bool b ≤ 1
flag-small true = omega arith
flag-small false = omega arith

-- a node is counted with the bits of its kind, two at least
pub begun : {s : List ℕ} {w more d v : ℕ} {c e : Cursor} → (d ≡ 0 → ⊥) → c.nodes < mostNodes → 2 ≤ w → more ≤ 1 → Fine s c → Took (bits w) s c 0 0 (2 ^ w) v e
    → Took (beginR w d) s c 1 more (2 ^ w) v (record { pos = e.pos; nodes = e.nodes + 1; statements = e.statements + more; sections = e.sections + more; strings = e.strings; chars = e.chars })
begun {s} {w} {more} {d} {v} {c} {e} z h two one f t =
    let m = t.moved in
    let l = after w t.reads in
    let n : e.nodes + 1 ≡ suc c.nodes = omega arith in
    record { reads = rw n (begin-then w d z (begins s (at c) h) (recount w _ t.reads)); small = t.small; moved = omega arith; fine = omega arith }

pub begun-out : (w d : ℕ) {s : List ℕ} {x : ℕ} {c : At} → (d ≡ 0 → ⊥) → c.nodes < mostNodes → Gives (bits w) s c (refused x) → Gives (beginR w d) s c (refused x)
begun-out w d {s} {x} {c} z h g = begin-then w d z (begins s c h) (recount-out w _ g)

-- ---- bits that are passed over

-- as a field
pub pass-bits : {s : List ℕ} {c d : Cursor} {w : ℕ} → Passed w s c d → Gives (bits w) s (at c) (ok (spelled s w c.pos, at d))
pass-bits {s} {c} {d} {w} h =
    let m = h.moved in
    let n : d.nodes ≡ c.nodes = omega arith in
    rw (h.place, n) (bits-in s w (at c) _ _ (sym (field-in s w c.pos h.inside)))

pub ends-bits : {s : List ℕ} {c : Cursor} {w x : ℕ} → Ends w s c x → Gives (bits w) s (at c) (refused x)
ends-bits {s} {c} {w} h = rw h.is (bits-out s w (at c) (sym (field-out s w c.pos h.outside)))

-- as characters
pub pass-chars : (n : ℕ) {s : List ℕ} {c : Cursor} (st : Result Cursor Refusal) → Fine s c → Passes (charBits * n) s c st → Skips n s c st
pass-chars n {s} {c} (Ok d) f p =
    let h = p.here in
    let m = h.moved in
    let k : d.nodes ≡ c.nodes = omega arith in
    record { here = record { reads = rw (h.place, k) (chars-in n s c.pos c.nodes h.inside); place = h.place; moved = m; fine = h.fine } }
pass-chars n {s} {c} (Err x) f p = let h = p.here in record { here = rw h.is (chars-out n s c.pos c.nodes f.inside h.outside) }
