-- Laws of lines and of the whole file. Assumes nothing.
use mathlib.Core.Path.{◌≡◌, refl, sym, ◌∙◌, ap}
use mathlib.Core.List.{List, [], ◌∷◌}
use Prim.Native.Nat.{ℕ, zero, suc, ◌+◌, ◌-◌, ◌*◌, ◌^◌, ◌<◌, ◌≤◌}
use native.Mathlib.Omega.{arith}
use native.Mathlib.Numerals.{sub-one}
use borrow.Author.Tests.{eq-eqb, ne_eqb, lt-ltb, le-ltb, le-leb, lt-leb}
use lib.Dec.{eqb, ltb}
use lib.ListN.{length, set}
use Rattle.rules.specs.Constants.{mostBytes, mostDepth, form, headBits, nameBits, byteBits}
use Rattle.rules.specs.Refusal.{otherForm, zeroLines, leftOver, tooLong}
use Rattle.rules.specs.Bits.{Res, refused, ok}
use Rattle.rules.specs.Tree.{Block, Tree, ofLines, both, emptyTally}
use Rattle.rules.specs.Parse.{Reader, At, bits, many, left, fill, lineBlock, body, file, parse, demand, ◌>>=◌}
use Rattle.rules.specs.Operations.{size, sizeOf}
use Rattle.bits.specs.Reads.{Gives, Fine, Took, at}
use Rattle.bits.specs.declared.Cursor.{Cursor}
use Rattle.names.specs.Names.{firstName, namesAt, endAt, NamedAll}
use Rattle.nodes.specs.Builds.{listR, Built, HeldB, countB}
use Rattle.std.specs.Prelude.{Result, Ok, Err}
use Rattle.params.specs.declared.refusal.Refusal.{Refusal}
use Rattle.tree.specs.declared.Head.{Head}
use Rattle.tree.specs.declared.Sizes.{Sizes}
use Rattle.tree.specs.Files.{Ended, lineWord, HoldsL, no-line, a-line, Lined, LinesMid, Filed, Treed, TreeRead, start, origin, widths, Headed, Placed, sizeRes}
use Rattle.bits.proofs.Bits.{field-in}
use Rattle.bits.proofs.Gives.{then, stop, done, passes, fails, bits-in, unique, never, after}
use Rattle.nodes.proofs.Table.{agree-refl, agree-part, agree-trans, moved-b, grows-b, set-below, set-here}

-- ---- the end

-- where n bits are left
abbrev rest : ℕ → Reader (Unit {0})
rest n = demand (ltb n byteBits) leftOver >>= λ _. bits n >>= λ x. demand (eqb x 0) leftOver

from-left : {s : List ℕ} {c : At} {res : Res (Unit {0} × At)} (n : ℕ) → byteBits * length s - c.pos ≡ n → Gives (rest n) s c res → Gives fill s c res
unfolding fill left
from-left {s} {c} n l g = let h : Gives left s c (ok (byteBits * length s - c.pos, c)) = record { is = refl } in then rest h (rw l g)

pub fill-long : (s : List ℕ) (c : At) → byteBits ≤ byteBits * length s - c.pos → Gives fill s c (refused leftOver)
fill-long s c h = from-left _ refl (stop _ (fails (le-ltb _ byteBits h)))

module _ {s : List ℕ} {c d : Cursor} {w v : ℕ} (l : byteBits * length s - c.pos ≡ w) (h : w < byteBits) (t : Took (bits w) s c 0 0 (2 ^ w) v d) where
  pub fill-bits : (v ≡ 0 → ⊥) → Gives fill s (at c) (refused leftOver)
  fill-bits e = from-left w l (then _ (passes leftOver (lt-ltb w byteBits h)) (then _ t.reads (fails (ne_eqb v 0 e))))

  pub fill-ok : v ≡ 0 → Ended s c d
  fill-ok e = record { reads = from-left w l (then _ (passes leftOver (lt-ltb w byteBits h)) (then _ t.reads (passes leftOver (eq-eqb v 0 e)))); moved = t.moved; fine = t.fine }

-- the bits that are left are there
pub fill-there : {s : List ℕ} {c : Cursor} {w x : ℕ} → byteBits * length s - c.pos ≡ w → Fine s c → Gives (bits w) s (at c) (refused x) → ⊥
fill-there {s = s} {c = c} {w = w} l f g = never (unique (bits-in s w (at c) _ _ (sym (field-in s w c.pos (omega arith)))) g)

-- ---- lines

many-end : {A : Type 0} (k : ℕ) (r : Reader A) {s : List ℕ} {c : At} → k ≤ 0 → Gives (many k r) s c (ok ([], c))
unfolding many
many-end zero r h = done
many-end (suc k) r h = absurd (omega arith)

many-more : {A : Type 0} (k : ℕ) {r : Reader A} {s : List ℕ} {c c1 c2 : At} {x : A} {xs : List A} → 0 < k → Gives r s c (ok (x, c1)) → Gives (many (k - 1) r) s c1 (ok (xs, c2)) → Gives (many k r) s c (ok (x ∷ xs, c2))
unfolding many
many-more zero h g a = absurd (omega arith)
many-more (suc k) h g a = then _ g (then _ (rw sub-one at a) done)

many-later : {A : Type 0} (k : ℕ) {r : Reader A} {s : List ℕ} {c c1 : At} {x : A} {n : ℕ} → 0 < k → Gives r s c (ok (x, c1)) → Gives (many (k - 1) r) s c1 (refused n) → Gives (many k r) s c (refused n)
unfolding many
many-later zero h g a = absurd (omega arith)
many-later (suc k) h g a = then _ g (stop _ (rw sub-one at a))

many-stop : {A : Type 0} (k : ℕ) {r : Reader A} {s : List ℕ} {c : At} {n : ℕ} → 0 < k → Gives r s c (refused n) → Gives (many k r) s c (refused n)
unfolding many
many-stop zero h g = absurd (omega arith)
many-stop (suc k) h g = stop _ g

-- a line is a list at the full depth
line-from : (n : ℕ) {s : List ℕ} {c : At} {res : Res (Block × At)} → Gives (listR n mostDepth) s c res → Gives (lineBlock n) s c res
unfolding listR lineBlock
line-from n g = g

pub lines-start : (n total : ℕ) (s t ls : List ℕ) (c : Cursor) → Fine s c → LinesMid n total s t ls c c 0
lines-start n total s t ls c f =
    let e : total - 0 ≡ total = omega arith in
    record {
      pre = λ xs. xs;
      goes = λ xs d g. rw e at g;
      stops = λ x g. rw e at g;
      holds = λ u lu xs j a b k. k;
      counts = λ xs d k. k;
      many-lines = λ xs. omega arith;
      after = omega arith;
      fine = f;
    }

module _ {n total : ℕ} {s t ls : List ℕ} {c d : Cursor} {k : ℕ} (m : LinesMid n total s t ls c d k) where
  pub lines-more : {t' : List ℕ} {v : ℕ} {e : Cursor} (ls' : List ℕ) → k < total → k < length ls → ls' ≡ set ls k (lineWord v d.nodes) → Built (listR n mostDepth) (HeldB s n v) countB s t t' d d e
      → LinesMid n total s t' ls' c e (k + 1)
  unfolding ofLines both lineWord widths
  lines-more {t' = t'} {v = v} {e = e} ls' h l w x =
      let g = grows-b x.holds.is in
      let a = m.after in
      let q = x.counts in
      let i : total - (k + 1) ≡ total - k - 1 = omega arith in
      record {
        pre = λ xs. m.pre (x.val ∷ xs);
        goes = λ xs f y. m.goes _ f (many-more (total - k) (omega arith) (line-from n x.reads) (rw i at y));
        stops = λ z y. m.stops z (many-later (total - k) (omega arith) (line-from n x.reads) (rw i at y));
        holds = λ u lu xs j b f y.
            m.holds u lu (x.val ∷ xs) j
            (agree-trans (agree-part x.kept (omega arith) (omega arith)) (agree-part b (omega arith) (omega arith)))
            (agree-trans (set-below ls ls' k (lineWord v d.nodes) w) (agree-part f (omega arith) (omega arith)))
            (a-line v x.holds.few (f.same k (omega arith) (omega arith) ∙ set-here ls ls' k (lineWord v d.nodes) w l) (moved-b (agree-part b (omega arith) (omega arith)) x.holds.is) refl y);
        counts = λ xs f y. m.counts (x.val ∷ xs) f (omega arith);
        many-lines = λ xs. m.many-lines (x.val ∷ xs) ∙ omega arith;
        after = omega arith;
        fine = x.fine;
      }

  pub lines-stop : {x : ℕ} → k < total → Gives (listR n mostDepth) s (at d) (refused x) → Gives (many total (lineBlock n)) s (at c) (refused x)
  lines-stop {x} h g = m.stops x (many-stop (total - k) (omega arith) (line-from n g))

  pub lines-done : total ≤ k → k ≤ total → Lined n total s t ls c d
  unfolding ofLines emptyTally widths
  lines-done h l =
      record {
        val = m.pre [];
        reads = m.goes [] (at d) (many-end (total - k) _ (omega arith));
        holds = m.holds t ls [] d.nodes agree-refl agree-refl (no-line (omega arith) refl);
        counts = m.counts [] d (omega arith);
        many-lines = m.many-lines [] ∙ omega arith;
        fine = m.fine;
      }

-- ---- the file

pub names-length : (s : List ℕ) (n p : ℕ) → length (namesAt s n p) ≡ n
unfolding namesAt
names-length s zero p = refl
names-length s (suc n) p = ap suc (names-length s n _)

pub parse-long : (s : List ℕ) → mostBytes < length s → parse s ≡ refused tooLong
unfolding parse
parse-long s h = rw (lt-leb (length s) mostBytes h, parse)

pub parse-no : (s : List ℕ) (k : ℕ) → length s ≤ mostBytes → Gives file s start (refused k) → parse s ≡ refused k
unfolding parse
parse-no s k h g = rw (le-leb (length s) mostBytes h, parse, g.is)

pub parse-ok : (s : List ℕ) (x : Tree) (c : At) → length s ≤ mostBytes → Gives file s start (ok (x, c)) → parse s ≡ ok x
unfolding parse
parse-ok s x c h g = rw (le-leb (length s) mostBytes h, parse, g.is)

-- a cursor whose counts are all zero
pub from-origin : {p n m k l h : ℕ} → p ≡ 0 → n ≡ 0 → m ≡ 0 → k ≡ 0 → l ≡ 0 → h ≡ 0 → ◌≡◌ {A = Cursor} (record { pos = p; nodes = n; statements = m; sections = k; strings = l; chars = h }) origin
from-origin a b d e f g = rw (a, b, d, e, f, g)

pub head-1 : {s : List ℕ} {x : ℕ} → Gives (bits headBits) s start (refused x) → Gives file s start (refused x)
unfolding file
head-1 g = stop _ g

pub head-2 : {s : List ℕ} {f : ℕ} {c1 : At} → Gives (bits headBits) s start (ok (f, c1)) → (f ≡ form → ⊥) → Gives file s start (refused otherForm)
unfolding file
head-2 g h = then _ g (stop _ (fails (ne_eqb _ form h)))

pub head-3 : {s : List ℕ} {f : ℕ} {c1 : At} {x : ℕ} → Gives (bits headBits) s start (ok (f, c1)) → f ≡ form → Gives (bits headBits) s c1 (refused x) → Gives file s start (refused x)
unfolding file
head-3 g h a = then _ g (then _ (passes otherForm (eq-eqb _ form h)) (stop _ a))

pub head-4 : {s : List ℕ} {f l : ℕ} {c1 c2 : At} → Gives (bits headBits) s start (ok (f, c1)) → f ≡ form → Gives (bits headBits) s c1 (ok (l, c2)) → l ≡ 0 → Gives file s start (refused zeroLines)
unfolding file
head-4 {l = l} g h a b = then _ g (then _ (passes otherForm (eq-eqb _ form h)) (then _ a (stop _ (fails (le-ltb 0 l (omega arith))))))

pub head-5 : {s : List ℕ} {f l : ℕ} {c1 c2 : At} {x : ℕ} → Gives (bits headBits) s start (ok (f, c1)) → f ≡ form → Gives (bits headBits) s c1 (ok (l, c2)) → (l ≡ 0 → ⊥) → Gives (bits nameBits) s c2 (refused x) → Gives file s start (refused x)
unfolding file
head-5 {l = l} g h a b e = then _ g (then _ (passes otherForm (eq-eqb _ form h)) (then _ a (then _ (passes zeroLines (lt-ltb 0 l (omega arith))) (stop _ e))))

behind-head : (l n : ℕ) {s : List ℕ} {f : ℕ} {c1 c2 c3 : At} {res : Res (Tree × At)} → Gives (bits headBits) s start (ok (f, c1)) → f ≡ form → Gives (bits headBits) s c1 (ok (l, c2)) → (l ≡ 0 → ⊥) → Gives (bits nameBits) s c2 (ok (n, c3)) → Gives (body l n) s c3 res → Gives file s start res
unfolding file
behind-head l n g h a b e r = then _ g (then _ (passes otherForm (eq-eqb _ form h)) (then _ a (then _ (passes zeroLines (lt-ltb 0 l (omega arith))) (then _ e r))))

pub headed : {s : List ℕ} {f l n : ℕ} {c1 c2 c3 : Cursor} → Took (bits headBits) s origin 0 0 (2 ^ headBits) f c1 → f ≡ form → Took (bits headBits) s c1 0 0 (2 ^ headBits) l c2 → (l ≡ 0 → ⊥) → Took (bits nameBits) s c2 0 0 (2 ^ nameBits) n c3 → Headed s (record { lines = l; names = n }) c3
headed {l = l} {n = n} a h b k d =
    let x = after headBits a.reads in
    let y = after headBits b.reads in
    let z = after nameBits d.reads in
    let u = a.moved in
    let v = b.moved in
    let w = d.moved in
    let p = b.small in
    let q = d.small in
    record {
      goes = λ res g. behind-head l n a.reads h b.reads k d.reads g;
      few-lines = p;
      few = omega arith;
      place = omega arith;
      nodes = omega arith;
      statements = omega arith;
      sections = omega arith;
      strings = omega arith;
      chars = omega arith;
      fine = d.fine;
    }

held-at : {t ls s : List ℕ} {m k i i' k' j j' : ℕ} {xs : List Block} → i ≡ i' → j ≡ j' → HoldsL t ls s m k i xs k' j → HoldsL t ls s m k i' xs k' j'
held-at p q h = rw (← p, ← q) h

placed : (s : List ℕ) (n p : ℕ) → p ≡ firstName → endAt s n p ≤ byteBits * length s → Placed s (namesAt s n p)
placed s n p e h =
    let u = names-length s n p in
    record { are = rw (u, e) refl; inside = rw (u, ← e) h }

pub filed : {s t ls : List ℕ} {v : Head} {c3 c4 c5 c6 : Cursor} → Headed s v c3 → NamedAll v.names s c3 c4 → Lined v.names v.lines s t ls c4 c5 → Ended s c5 c6 → Filed s t ls v c6
unfolding body
filed {s = s} {v = v} {c3 = c3} {c4 = c4} {c5 = c5} {c6 = c6} h x y z =
    let p = x.moved in
    let q = y.counts in
    let r = z.moved in
    let f = x.fine in
    let g = z.fine in
    let u = names-length s v.names c3.pos in
    let l = y.many-lines in
    let i : c4.nodes ≡ 0 = omega arith in
    let j : c5.nodes ≡ c6.nodes = omega arith in
    record {
      val = record { names = namesAt s v.names c3.pos; lines = y.val };
      reads = h.goes _ (then _ x.reads (then _ y.reads (then _ z.reads done)));
      holds = rw (u, l) (held-at i j y.holds);
      names = placed s v.names c3.pos h.place (rw (← x.place) f.inside);
      nodes = omega arith;
      within = omega arith;
      statements = omega arith;
      sections = omega arith;
      strings = omega arith;
      chars = omega arith;
      few = omega arith;
      lines-are = sym l;
      names-are = sym u;
    }

pub treed : {s t ls : List ℕ} {v : Head} {c : Cursor} → Filed s t ls v c → length s ≤ mostBytes → Treed s t ls (record { lines = v.lines; names = v.names; statements = c.statements; nodes = c.nodes; strings = c.strings; characters = c.chars })
unfolding sizeOf
treed {s = s} {v = v} {c = c} f h =
    record { val = f.val; parses = parse-ok s f.val (at c) h f.reads; holds = f.holds; names = f.names; size-is = rw (f.lines-are, f.names-are, f.statements, f.nodes, f.strings, f.chars); within = f.within }

pub size-from : {s t ls : List ℕ} {r : Result Sizes Refusal} → TreeRead s t ls r → sizeRes r ≡ size s
unfolding size
size-from {s = s} {r = Ok z} h = rw (h.here.parses, size) (ap ok h.here.size-is)
size-from {s = s} {r = Err k} h = rw (h.here, size)
