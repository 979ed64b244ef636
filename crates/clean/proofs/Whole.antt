-- The parts of clean put together. Assumes nothing.
use mathlib.Core.Path.{◌≡◌, refl, sym, ap, ◌∙◌, fun_ext}
use mathlib.Core.List.{List, [], ◌∷◌, ◌++◌, map, append_assoc, append-nil}
use Prim.Native.Nat.{ℕ, ◌+◌, ◌-◌, ◌<◌, ◌≤◌, max}
use native.Mathlib.Omega.{arith}
use lib.ListN.{length, take, drop, replicate, length-map, length-drop}
use native.Mathlib.Nat.{max-eq_left}
use lib.Seq.{length-take-le}
use borrow.Rule.Slice.PartMut.{put_mid}
use Rattle.std.proofs.Math.ListN.{drop_of_length-le}
use Rattle.rules.specs.Constants.{mark, mostCount}
use Rattle.rules.specs.Word.{insWord}
use Rattle.rules.specs.Tables.{readSections, runWords, allCode}
use Rattle.rules.specs.Clean.{rank, cleanSections}
use Rattle.laws.specs.Sections.{words-length}
use Rattle.tables.specs.Runs.{total, held}
use Rattle.tables.proofs.Read.{read-length}
use Rattle.rules.specs.Operations.{put}
use Rattle.clean.specs.Pass.{firstOf, withTarget, withJump, bump, bumps, numbered, newNumber, packed, moved, Numbered, Kept, Renumbered, Packed, Removed, Cleaned}
use Rattle.clean.proofs.Fields.{both-count}
use Rattle.clean.proofs.Numbers.{ranks, rank-small, numbered-length, bump-le}
use Rattle.clean.proofs.Cleaned.{packs, moves}

-- ---- renumbered

pub renumbered : (ss is : List ℕ) → length ss ≤ mostCount → (s1 : List ℕ) (k : ℕ) → Numbered ss s1 k →
    (s2 t2 : List ℕ) → t2 ≡ map (withJump (newNumber (map firstOf s1) k)) is → s2 ≡ map (withTarget (newNumber (map firstOf s1) k)) s1 →
    Renumbered ss is s2 t2
renumbered ss is h s1 k o s2 t2 x y =
    let f : newNumber (map firstOf (numbered 0 ss)) (bumps 0 ss) ≡ rank (readSections ss is) = fun_ext (ranks ss is h) in
    record { sections = y ∙ rw (o.sections, o.count, f); instrs = x ∙ rw (o.sections, o.count, f) }

-- ---- packed

taken-length : (m : ℕ) (ws t : List ℕ) → take m t ≡ ws → m ≤ length t → length ws ≡ m
taken-length m ws t a h = rw (← a) (length-take-le m t h)

pub packed-whole : (ss is s3 t3 : List ℕ) (m b : ℕ) → Kept ss is s3 t3 m b → length s3 ≡ length ss → length t3 ≡ length is → (s4 t4 : List ℕ) →
    s4 ≡ take m s3 ++ replicate (length s3 - m) 0 → t4 ≡ take b t3 ++ replicate (length t3 - b) 0 → Packed ss is s4 t4 m b
packed-whole ss is s3 t3 m b k h l s4 t4 x y =
    let p = k.fewer in
    let q = k.shorter in
    let ml : m ≤ length s3 = omega arith in
    let bl : b ≤ length t3 = omega arith in
    record {
      sections = x ∙ rw (k.sections, h);
      instrs = y ∙ rw (k.instrs, l);
      section-count = sym (taken-length m (packed 0 ss) s3 k.sections ml);
      instr-count = sym (taken-length b (moved ss is) t3 k.instrs bl);
      fewer = p;
      shorter = q;
    }

-- zeros from m on
pub zeros-behind : (s ys : List ℕ) (m : ℕ) → ys ≡ replicate (length s - m) 0 → put_mid m (length s - m) s ys ≡ take m s ++ replicate (length s - m) 0
zeros-behind s ys m e =
    let z : drop (length s - m) (drop m s) ≡ [] = drop_of_length-le (drop m s) (let l = length-drop m s in omega arith) in
    rw (e, z, append-nil)

-- ---- clean

totals : (f : ℕ → ℕ) → ((t : ℕ) → f t < mark) → (ws : List ℕ) (j : ℕ) → j + length ws ≤ mostCount → total (map (withTarget f) (numbered j ws)) ≡ total ws
unfolding total numbered
totals f fb [] j h = refl
totals f fb (w ∷ ws) j h =
    let x : bump j w < 65536 = omega (arith, bump-le j w) in
    let y : bump j w + length ws ≤ mostCount = omega (arith, bump-le j w) in
    rw (both-count f fb (bump j w) w x, totals f fb ws (bump j w) y)

module _ (ss is : List ℕ) (l : length ss ≤ mostCount) (o : total ss ≡ length is) (s2 t2 : List ℕ) (r : Renumbered ss is s2 t2) where
  abbrev f : ℕ → ℕ
  f = rank (readSections ss is)

  fb : (t : ℕ) → f t < mark
  fb t = rank-small (readSections ss is) (let z = read-length ss is in omega arith) t

  few : 0 + length ss ≤ mostCount
  few = omega arith

  enough : total ss ≤ length is
  enough = omega arith

  size : length s2 ≡ length ss
  size = rw r.sections (simp length-map (numbered-length ss 0))

  size-is : length t2 ≡ length is
  size-is = rw r.instrs (length-map is (withJump f))

  pub pack-total : total s2 ≡ length t2
  pack-total = rw (size-is, r.sections) (totals f fb ss 0 few ∙ o)

  sections-are : packed 0 s2 ≡ runWords 0 (cleanSections (readSections ss is))
  unfolding cleanSections
  sections-are = rw r.sections (packs f fb ss is 0 few enough 0)

  instrs-are : moved s2 t2 ≡ map insWord (allCode (cleanSections (readSections ss is)))
  unfolding cleanSections
  instrs-are = rw (r.sections, r.instrs) (moves f fb ss is 0 few enough)

  pub removed : (s4 t4 : List ℕ) (m b : ℕ) → Packed s2 t2 s4 t4 m b → Removed ss is s4 t4 m b
  removed s4 t4 m b p =
      record {
        sections = p.sections ∙ rw (sections-are, size);
        instrs = p.instrs ∙ rw (instrs-are, size-is);
        section-count = p.section-count ∙ ap length sections-are ∙ words-length 0 (cleanSections (readSections ss is));
        instr-count = p.instr-count ∙ ap length instrs-are ∙ length-map (allCode (cleanSections (readSections ss is))) insWord;
        fewer = rw size at p.fewer;
        shorter = rw size-is at p.shorter;
      }

-- ---- in the whole tables

put-whole : (n m : ℕ) (ws t : List ℕ) → length ws ≡ m → m ≤ n → (ws ++ replicate (n - m) 0) ++ drop n t ≡ put 0 n ws t
unfolding put
put-whole n m ws t h l = let z : max n m ≡ n = max-eq_left l in rw (h, z) (append_assoc ws (replicate (n - m) 0) (drop n t))

pub cleaned-whole : (ss is : List ℕ) (n e : ℕ) → n ≤ length ss → e ≤ length is → (s t : List ℕ) (m b : ℕ) → Removed (take n ss) (take e is) s t m b → Cleaned ss is (s ++ drop n ss) (t ++ drop e is) n e m b
unfolding held
cleaned-whole ss is n e h k s t m b r =
    let cs = cleanSections (readSections (take n ss) (take e is)) in
    let x = length-take-le n ss h in
    let y = length-take-le e is k in
    let u : m ≤ n = rw x at r.fewer in
    let v : b ≤ e = rw y at r.shorter in
    record {
      sections = rw (r.sections, x) (put-whole n m (runWords 0 cs) ss (words-length 0 cs ∙ sym r.section-count) u);
      instrs = rw (r.instrs, y) (put-whole e b (map insWord (allCode cs)) is (length-map (allCode cs) insWord ∙ sym r.instr-count) v);
      section-count = r.section-count;
      instr-count = r.instr-count;
    }
