-- What a parsed tree has: at least one line.
use Rattle.std.specs.Prelude.{◌≡◌, refl, Bool, true, false, List, [], ◌∷◌, ℕ, zero, suc, ◌≤◌, ◌<◌, ltb, leb, eqb, length}
use Rattle.std.proofs.Common.{sym, ap, ◌∙◌, arith, ltb-true, leb-true}
use Rattle.rules.specs.Refusal as Refusal
use Rattle.rules.specs.Bits.{Res, refused, ok}
use Rattle.rules.specs.Tree.{Tree}
use Rattle.rules.specs.Constants.{mostBytes, headBits, nameBits, form}
use Rattle.rules.specs.Parse.{Reader, At, succeed, ◌>>=◌, demand, bits, many, names, lineBlock, fill, body, file, parse}

-- ---- a step that is passed, and what follows it

pub refused≢ok : {A : Type 0} (n : ℕ) (a : A) → refused n ≡ ok a → ⊥
refused≢ok n a e = let z : ◌≡◌ {A = ℕ} 0 1 = cc in omega arith

pub record Passed {A B : Type 0} (m : Reader A) (f : A → Reader B) (s : List ℕ) (c : At) (r : B × At) : Type 0 where
  pub val : A
  pub at : At
  pub here : m s c ≡ ok (val, at)
  pub follows : f val s at ≡ ok r

pub passed : {A B : Type 0} (m : Reader A) (f : A → Reader B) (s : List ℕ) (c : At) (r : B × At) → (m >>= f) s c ≡ ok r → Passed m f s c r
unfolding ◌>>=◌
passed {A} {B} m f s c r e = go (m s c) refl e
  where
    go : (x : Res (A × At)) → m s c ≡ x → elim x [ refused n ↦ refused n | ok y ↦ f y.0 s y.1 ] ≡ ok r → Passed m f s c r
    go (refused n) p q = absurd (refused≢ok n r q)
    go (ok y) p q = record { val = y.0; at = y.1; here = p; follows = q }

pub demanded : (b : Bool) (n : ℕ) (s : List ℕ) (c : At) (x : Unit {0} × At) → demand b n s c ≡ ok x → b ≡ true
unfolding demand
demanded true n s c x e = refl
demanded false n s c x e = absurd (refused≢ok n x e)

-- ---- lines

abbrev lengthOf : {A : Type 0} → Res (List A × At) → ℕ
lengthOf (refused n) = 0
lengthOf (ok x) = length x.0

pub many-length : {A : Type 0} (n : ℕ) (m : Reader A) (s : List ℕ) (c : At) (x : List A × At) → many n m s c ≡ ok x → length x.0 ≡ n
unfolding many succeed
many-length zero m s c x e = sym (ap lengthOf e)
many-length {A} (suc n) m s c x e =
    let p = passed m (λ a. many n m >>= λ as₁. succeed (a ∷ as₁)) s c x e in
    let q = passed (many n m) (λ as₁. succeed (p.val ∷ as₁)) s p.at x p.follows in
    sym (ap lengthOf q.follows) ∙ ap suc (many-length n m s p.at (q.val, q.at) q.here)

abbrev linesOf : Res (Tree × At) → ℕ
linesOf (refused n) = 0
linesOf (ok x) = length x.0.lines

body-lines : (l n : ℕ) (s : List ℕ) (c : At) (r : Tree × At) → body l n s c ≡ ok r → length r.0.lines ≡ l
unfolding body succeed
body-lines l n s c r e =
    let p = passed (names n []) (λ t. many l (lineBlock n) >>= λ b. fill >>= λ z. succeed (record { names = t; lines = b })) s c r e in
    let q = passed (many l (lineBlock n)) (λ b. fill >>= λ z. succeed (record { names = p.val; lines = b })) s p.at r p.follows in
    let w = passed fill (λ z. succeed (record { names = p.val; lines = q.val })) s q.at r q.follows in
    sym (ap linesOf w.follows) ∙ many-length l (lineBlock n) s p.at (q.val, q.at) q.here

file-lines : (s : List ℕ) (c : At) (r : Tree × At) → file s c ≡ ok r → 0 < length r.0.lines
unfolding file
file-lines s c r e =
    let p₁ = passed (bits headBits) (λ f. demand (eqb f form) Refusal.otherForm >>= λ z. bits headBits >>= λ l. demand (ltb 0 l) Refusal.zeroLines >>= λ y. bits nameBits >>= λ n. body l n) s c r e in
    let p₂ = passed (demand (eqb p₁.val form) Refusal.otherForm) (λ z. bits headBits >>= λ l. demand (ltb 0 l) Refusal.zeroLines >>= λ y. bits nameBits >>= λ n. body l n) s p₁.at r p₁.follows in
    let p₃ = passed (bits headBits) (λ l. demand (ltb 0 l) Refusal.zeroLines >>= λ y. bits nameBits >>= λ n. body l n) s p₂.at r p₂.follows in
    let l = p₃.val in
    let p₄ = passed (demand (ltb 0 l) Refusal.zeroLines) (λ y. bits nameBits >>= λ n. body l n) s p₃.at r p₃.follows in
    let p₅ = passed (bits nameBits) (λ n. body l n) s p₄.at r p₄.follows in
    omega (arith, body-lines l p₅.val s p₅.at r p₅.follows, ltb-true 0 l (demanded (ltb 0 l) Refusal.zeroLines s p₃.at (p₄.val, p₄.at) p₄.here))

-- ---- the file

pub record Parsed (s : List ℕ) (t : Tree) : Type 0 where
  pub bytes : length s ≤ mostBytes
  pub at : At
  pub is : file s (record { pos = 0; nodes = 0 }) ≡ ok (t, at)

abbrev treeOf : Tree → Res Tree → Tree
treeOf d (refused n) = d
treeOf d (ok t) = t

pub parsed : (s : List ℕ) (t : Tree) → parse s ≡ ok t → Parsed s t
unfolding parse
parsed s t e = go (leb (length s) mostBytes) refl e
  where
    inner : length s ≤ mostBytes → (x : Res (Tree × At)) → file s (record { pos = 0; nodes = 0 }) ≡ x → elim x [ refused n ↦ refused n | ok r ↦ ok r.0 ] ≡ ok t → Parsed s t
    inner h (refused n) p q = absurd (refused≢ok n t q)
    inner h (ok r) p q = record { bytes = h; at = r.1; is = p ∙ ap (λ (z : Tree). ok (z, r.1)) (ap (treeOf t) q) }

    go : (b : Bool) → leb (length s) mostBytes ≡ b → elim b [
      | false ↦ refused Refusal.tooLong
      | true ↦ elim (file s (record { pos = 0; nodes = 0 })) [ refused n ↦ refused n | ok r ↦ ok r.0 ]
    ] ≡ ok t → Parsed s t
    go false p q = absurd (refused≢ok Refusal.tooLong t q)
    go true p q = inner (leb-true (length s) mostBytes p) (file s (record { pos = 0; nodes = 0 })) refl q

pub some-line : (s : List ℕ) (t : Tree) → parse s ≡ ok t → 0 < length t.lines
some-line s t e = let p = parsed s t e in file-lines s (record { pos = 0; nodes = 0 }) (t, p.at) p.is
