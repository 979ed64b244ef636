-- A list of statements: its count, its statements one by one, and what is known midway. Assumes nothing.
use mathlib.Core.Path.{◌≡◌, refl}
use mathlib.Core.List.{List}
use Prim.Native.Nat.{ℕ, zero, suc, ◌-◌, ◌^◌, ◌≤◌, ◌<◌}
use native.Mathlib.Omega.{arith}
use native.Mathlib.Numerals.{sub-one}
use Rattle.rules.specs.Constants.{listBits}
use Rattle.rules.specs.Bits.{Res, refused, ok}
use Rattle.rules.specs.Tree.{Block, end, ofBlock, emptyTally}
use Rattle.rules.specs.Parse.{Reader, At, stmt, block, bits, ◌>>=◌}
use Rattle.bits.specs.Reads.{Gives, Took, Fine, at}
use Rattle.bits.specs.declared.Cursor.{Cursor}
use Rattle.nodes.specs.Width.{width}
use Rattle.nodes.specs.Builds.{listR, heldS, countS, HeldB, countB, Built, Midway}
use Rattle.nodes.specs.Holds.{at-end}
use Rattle.bits.proofs.Gives.{then, stop, done, assoc}
use Rattle.nodes.proofs.Table.{agree-refl, agree-part, agree-trans}

-- a list within a statement
pub list-then : (n d : ℕ) {B : Type 0} (f : Block → Reader B) {s : List ℕ} {c c1 : At} {x : Block} {res : Res (B × At)} → Gives (listR n d) s c (ok (x, c1)) → Gives (f x) s c1 res → Gives (bits listBits >>= λ k. block k (stmt n d) >>= f) s c res
unfolding listR
list-then n d f g a = assoc (bits listBits) (λ k. block k (stmt n d)) f (then _ g a)

pub list-stop : (n d : ℕ) {B : Type 0} (f : Block → Reader B) {s : List ℕ} {c : At} {x : ℕ} → Gives (listR n d) s c (refused x) → Gives (bits listBits >>= λ k. block k (stmt n d) >>= f) s c (refused x)
unfolding listR
list-stop n d f g = assoc (bits listBits) (λ k. block k (stmt n d)) f (stop _ g)

-- ---- statements one by one

block-end : (k : ℕ) (r : Reader (Block → Block)) {s : List ℕ} {c : At} → k ≤ 0 → Gives (block k r) s c (ok (end, c))
unfolding block
block-end zero r h = done
block-end (suc k) r h = absurd (omega arith)

block-more : (k : ℕ) {r : Reader (Block → Block)} {s : List ℕ} {c c1 c2 : At} {x : Block → Block} {xs : Block} → 0 < k → Gives r s c (ok (x, c1)) → Gives (block (k - 1) r) s c1 (ok (xs, c2)) → Gives (block k r) s c (ok (x xs, c2))
unfolding block
block-more zero h g a = absurd (omega arith)
block-more (suc k) h g a = then _ g (then _ (rw sub-one at a) done)

block-later : (k : ℕ) {r : Reader (Block → Block)} {s : List ℕ} {c c1 : At} {x : Block → Block} {n : ℕ} → 0 < k → Gives r s c (ok (x, c1)) → Gives (block (k - 1) r) s c1 (refused n) → Gives (block k r) s c (refused n)
unfolding block
block-later zero h g a = absurd (omega arith)
block-later (suc k) h g a = then _ g (stop _ (rw sub-one at a))

block-stop : (k : ℕ) {r : Reader (Block → Block)} {s : List ℕ} {c : At} {n : ℕ} → 0 < k → Gives r s c (refused n) → Gives (block k r) s c (refused n)
unfolding block
block-stop zero h g = absurd (omega arith)
block-stop (suc k) h g = stop _ g

-- ---- midway

pub mid-start : (n dep : ℕ) (s t : List ℕ) (c : Cursor) (total : ℕ) → Fine s c → Midway n dep s t t c c total total
mid-start n dep s t c total h = record { pre = λ xs. xs; goes = λ xs d g. g; stops = λ x g. g; holds = λ u xs j a k. k; counts = λ xs d k. k; kept = agree-refl; after = omega arith; fine = h }

pub mid-more : {n dep : ℕ} {s t0 t t' : List ℕ} {c0 c : Cursor} {total left : ℕ} {d : Cursor} → Midway n dep s t0 t c0 c total left → 0 < left
    → Built (stmt n dep) (heldS s n) countS s t t' c c d → Midway n dep s t0 t' c0 d total (left - 1)
mid-more {left = left} {d = d} m h x =
    let g = x.holds.grows in
    let a = m.after in
    record {
      pre = λ xs. m.pre (x.val xs);
      goes = λ xs e y. m.goes _ e (block-more left h x.reads y);
      stops = λ z y. m.stops z (block-later left h x.reads y);
      holds = λ u xs j b y.
          m.holds u (x.val xs) j (agree-trans (agree-part x.kept (omega arith) (omega arith)) (agree-part b (omega arith) (omega arith)))
          (x.holds.puts u left (left - 1) xs j (omega arith) (agree-part b (omega arith) (omega arith)) y);
      counts = λ xs e y. m.counts (x.val xs) e (x.counts.adds xs e y);
      kept = agree-trans m.kept (agree-part x.kept (omega arith) (omega arith));
      after = omega arith;
      fine = x.fine;
    }

pub mid-stop : {n dep : ℕ} {s t0 t : List ℕ} {c0 c : Cursor} {total left x : ℕ} → Midway n dep s t0 t c0 c total left → 0 < left → Gives (stmt n dep) s (at c) (refused x) → Gives (block total (stmt n dep)) s (at c0) (refused x)
mid-stop {left = left} {x = x} m h g = m.stops x (block-stop left h g)

-- none is left
pub block-built : {n dep : ℕ} {s t0 t : List ℕ} {c d : Cursor} {count left : ℕ} → count < 2 ^ listBits → Midway n dep s t0 t c d count left → left ≤ 0
    → Built (block count (stmt n dep)) (HeldB s n count) countB s t0 t c c d
unfolding ofBlock emptyTally width
block-built {t = t} {d = d} {left = left} k m h =
    record {
      val = m.pre end;
      reads = m.goes end (at d) (block-end left _ h);
      holds = record { is = m.holds t end d.nodes agree-refl (at-end (omega arith) refl); few = k };
      kept = m.kept;
      counts = m.counts end d (omega arith);
      fine = m.fine;
    }

-- a count and the statements behind it
pub list-from : {n : ℕ} (dep : ℕ) {s t t' : List ℕ} {c d e : Cursor} {count : ℕ} → Took (bits listBits) s c 0 0 (2 ^ listBits) count d → Built (block count (stmt n dep)) (HeldB s n count) countB s t t' d d e
    → Built (listR n dep) (HeldB s n count) countB s t t' c c e
unfolding listR
list-from dep {c = c} {d = d} k u =
    let m = k.moved in
    let n = u.counts in
    let e : d.nodes ≡ c.nodes = omega arith in
    record { val = u.val; reads = then _ k.reads u.reads; holds = rw (← e) u.holds; kept = rw (← e) u.kept; counts = omega arith; fine = u.fine }
