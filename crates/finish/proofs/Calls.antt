-- `finish` of the rules by what lowering answers, and by what the passes leave. Assumes nothing.
use mathlib.Core.Path.{◌≡◌, refl, sym, ap, ap₂, ◌∙◌}
use mathlib.Core.Bool.{Bool, true, false}
use mathlib.Core.List.{List, map}
use Prim.Native.Nat.{ℕ}
use native.Mathlib.Omega.{arith}
use lib.ListN.{length, take, length-map}
use Rattle.rules.specs.Bits.{Res, refused, ok}
use Rattle.rules.specs.Refusal as Refusal
use Rattle.rules.specs.Tree.{Tree}
use Rattle.rules.specs.Parse.{parse}
use Rattle.rules.specs.Word.{insWord}
use Rattle.rules.specs.Machine.{SectionCode, Machine}
use Rattle.rules.specs.Tables.{Tables, Counts, runWords, allCode, encode, countsOf}
use Rattle.rules.specs.Clean.{cleaned}
use Rattle.rules.specs.Combine.{combined}
use Rattle.rules.specs.Lowered.{Options, lowered, finished}
use Rattle.rules.specs.Operations.{sizeOf, estimate, holds, put, write, build, lower, finish}
use Rattle.bounds.specs.Parsed.{refused≢ok}
use Rattle.walks.proofs.Theorems.{lowered-estimated}
use Rattle.tables.specs.Runs.{held}
use Rattle.combine.proofs.Used.{put-twice}
use Rattle.finish.specs.Passes.{Lowered, finishSections, Finished}
use Rattle.machines.specs.Back.{put-begins}
use Rattle.laws.specs.Sections.{words-length}
use Rattle.finish.proofs.Lowered.{held-is}

-- counts and tables with other sections and instructions
abbrev countsWith : Counts → ℕ → ℕ → Counts
countsWith u r b = record { lines = u.lines; sections = r; instrs = b; numbers = u.numbers; strings = u.strings; pool = u.pool; names = u.names; values = u.values }

abbrev tablesWith : Tables → List ℕ → List ℕ → Tables
tablesWith t a b = record { sections = a; instrs = b; numbers = t.numbers; strings = t.strings; pool = t.pool; names = t.names }

-- ---- lowering, where it is refused and where it is not

-- the tree that lowering has made a machine of, in the tables t'
pub record Made (o : Options) (s : List ℕ) (t t' : Tables) (u : Counts) : Type 0 where
  tree : Tree
  parsed : parse s ≡ ok tree
  room : holds t (estimate (sizeOf tree)) ≡ true
  counts : u ≡ countsOf (lowered o tree)
  tables : t' ≡ write (estimate (sizeOf tree)) (lowered o tree) t

module _ (o : Options) (s : List ℕ) (t t' : Tables) where
  -- what build gives for a tree, by whether there is room
  given : (Tree → Machine) → Tree → Bool → Res Counts × Tables
  given f x b = elim b [ false ↦ (refused Refusal.noRoom, t) | true ↦ (let m = f x in (ok (countsOf m), write (estimate (sizeOf x)) m t)) ]

  answer : (Tree → Machine) → Res Tree → Res Counts × Tables
  answer f r = elim r [ refused n ↦ (refused n, t) | ok x ↦ given f x (holds t (estimate (sizeOf x))) ]

  -- a refusal of lowering is finish's
  pub refused-both : (n : ℕ) → (refused n, t') ≡ lower o s t → (refused n, t') ≡ finish o s t
  unfolding lower finish build answer given
  refused-both n e = outer (parse s) e
    where
      inner : (x : Tree) (b : Bool) → (refused n, t') ≡ given (lowered o) x b → (refused n, t') ≡ given (finished o) x b
      inner x false q = q
      inner x true q = absurd (refused≢ok n (countsOf (lowered o x)) (ap (λ (z : Res Counts × Tables). z.0) q))

      outer : (r : Res Tree) → (refused n, t') ≡ answer (lowered o) r → (refused n, t') ≡ answer (finished o) r
      outer (refused k) q = q
      outer (ok x) q = inner x (holds t (estimate (sizeOf x))) q

  -- and where it is not refused
  pub made : (u : Counts) → (ok u, t') ≡ lower o s t → Made o s t t' u
  unfolding lower build answer given
  made u e = outer (parse s) refl e
    where
      used : Res Counts → Counts
      used (refused n) = u
      used (ok v) = v

      inner : (x : Tree) → parse s ≡ ok x → (b : Bool) → holds t (estimate (sizeOf x)) ≡ b → (ok u, t') ≡ given (lowered o) x b → Made o s t t' u
      inner x p false h q = absurd (refused≢ok Refusal.noRoom u (sym (ap (λ (z : Res Counts × Tables). z.0) q)))
      inner x p true h q = record { tree = x; parsed = p; room = h; counts = ap (λ (z : Res Counts × Tables). used z.0) q; tables = ap (λ (z : Res Counts × Tables). z.1) q }

      outer : (r : Res Tree) → parse s ≡ r → (ok u, t') ≡ answer (lowered o) r → Made o s t t' u
      outer (refused k) p q = absurd (refused≢ok k u (sym (ap (λ (z : Res Counts × Tables). z.0) q)))
      outer (ok x) p q = inner x p (holds t (estimate (sizeOf x))) refl q

  -- ---- finishing what was lowered
  module _ (u : Counts) (m : Made o s t t' u) where
    abbrev room : Counts
    room = estimate (sizeOf m.tree)

    abbrev before : List SectionCode
    before = (lowered o m.tree).sections

    section-words : t'.sections ≡ put 0 room.sections (runWords 0 before) t.sections
    unfolding write encode
    section-words = ap (λ (z : Tables). z.sections) m.tables

    instr-words : t'.instrs ≡ put 0 room.instrs (map insWord (allCode before)) t.instrs
    unfolding write encode
    instr-words = ap (λ (z : Tables). z.instrs) m.tables

    section-count : length before ≡ u.sections
    unfolding countsOf
    section-count = sym (ap (λ (z : Counts). z.sections) m.counts)

    instr-count : length (allCode before) ≡ u.instrs
    unfolding countsOf
    instr-count = sym (ap (λ (z : Counts). z.instrs) m.counts)

    -- what the passes ask
    pub stands-lowered : Lowered t'.sections t'.instrs u.sections u.instrs
    stands-lowered =
        record {
          options = o;
          file = s;
          tree = m.tree;
          parsed = m.parsed;
          section-count = section-count;
          instr-count = instr-count;
          sections = ap (take u.sections) section-words ∙ put-begins 0 room.sections u.sections (runWords 0 before) t.sections (words-length 0 before ∙ section-count);
          instrs = ap (take u.instrs) instr-words ∙ put-begins 0 room.instrs u.instrs (map insWord (allCode before)) t.instrs (length-map (allCode before) insWord ∙ instr-count);
        }

    module _ (s2 i2 : List ℕ) (r b : ℕ) (f : Finished t'.sections t'.instrs s2 i2 u.sections u.instrs r b) where
      abbrev after : List SectionCode
      after = finishSections (held t'.sections t'.instrs u.sections u.instrs)

      after-is : after ≡ (finished o m.tree).sections
      unfolding finishSections finished combined cleaned stands-lowered
      after-is = ap finishSections (held-is t'.sections t'.instrs u.sections u.instrs stands-lowered)

      sections-are : s2 ≡ put 0 room.sections (runWords 0 after) t.sections
      unfolding countsOf
      sections-are =
          f.words.sections
          ∙ (ap (put 0 u.sections (runWords 0 after)) section-words
          ∙ put-twice room.sections u.sections (runWords 0 after) (runWords 0 before) t.sections (words-length 0 before ∙ section-count) (omega (arith, words-length 0 after, f.section-count, f.fewer)) (omega (arith, (lowered-estimated o s m.tree m.parsed).sections, section-count)))

      instrs-are : i2 ≡ put 0 room.instrs (map insWord (allCode after)) t.instrs
      unfolding countsOf
      instrs-are =
          f.words.instrs
          ∙ (ap (put 0 u.instrs (map insWord (allCode after))) instr-words
          ∙ put-twice room.instrs u.instrs (map insWord (allCode after)) (map insWord (allCode before)) t.instrs (length-map (allCode before) insWord ∙ instr-count) (omega (arith, length-map (allCode after) insWord, f.instr-count, f.shorter)) (omega (arith, (lowered-estimated o s m.tree m.parsed).instrs, instr-count)))

      counts-are : countsWith u r b ≡ countsOf (finished o m.tree)
      unfolding countsOf finished combined cleaned
      counts-are =
          ap (λ (v : Counts). countsWith v r b) m.counts
          ∙ ap₂ (countsWith (countsOf (lowered o m.tree))) (f.section-count ∙ ap length after-is) (f.instr-count ∙ ap (λ (x : List SectionCode). length (allCode x)) after-is)

      tables-are : tablesWith t' s2 i2 ≡ write room (finished o m.tree) t
      unfolding write encode finished combined cleaned
      tables-are =
          ap (λ (v : Tables). tablesWith v s2 i2) m.tables
          ∙ ap₂ (tablesWith (write room (lowered o m.tree) t)) (sections-are ∙ ap (λ (x : List SectionCode). put 0 room.sections (runWords 0 x) t.sections) after-is) (instrs-are ∙ ap (λ (x : List SectionCode). put 0 room.instrs (map insWord (allCode x)) t.instrs) after-is)

      pub finish-done : (ok (countsWith u r b), tablesWith t' s2 i2) ≡ finish o s t
      unfolding finish build answer given
      finish-done =
          ap₂ (λ (x : Counts) (y : Tables). (ok x, y)) counts-are tables-are
          ∙ sym (ap (answer (finished o)) m.parsed ∙ ap (given (finished o) m.tree) m.room)
