-- The laws of `Does`: a step that changes nothing, one step after another, and the steps that change one table. Assumes nothing.
use mathlib.Core.Path.{◌≡◌, refl, sym, ap, subst, ◌∙◌}
use mathlib.Core.Bool.{Bool, true, false}
use mathlib.Core.List.{List, map}
use mathlib.Core.Option.{Option, none, some}
use Prim.Native.Nat.{ℕ, ◌≤◌, ◌<◌}
use native.Mathlib.Nat.{zero-add}
use native.Mathlib.Omega.{arith}
use lib.IntN.{ℤ}
use lib.ListN.{length, set, get_or, length-append, length-set}
use lib.Seq.{sets}
use borrow.Author.Tests.{lt-leb}
use Rattle.rules.specs.Constants.{mark}
use Rattle.rules.specs.Instr.{Instruction, ins₁, ins₂, ins₃, canRuntimeErr, Kind, unused, val, table, kinds}
use Rattle.rules.specs.Word.{insWord, wordIns, spanWord}
use Rattle.laws.specs.Table.{isPlace, opcode-bits, past-jumps}
use Rattle.laws.proofs.Words.{ins-back}
use Rattle.rules.specs.CodegenData.{CodegenData, Lower, pure, emit, newNum, newStr, newVal}
use Rattle.rules.specs.Lowered.{spans, texts}
use Rattle.rules.specs.Operators.{errorJump, getVariable, guard, incdecOp}
use Rattle.words.specs.Told.{Shape}
use Rattle.codegen.specs.declared.state.Counters.{Counters}
use Rattle.codegen.specs.Does.{wordTo, regWord, Lent, lent, Base, Stands, Went, Does, DoesNone, DoesCode, DoesNums, ◌▷◌}
use Rattle.codegen.specs.Costs.{plus-instr, plus-number, plus-string, guardCost}
use Rattle.laws.specs.Texts.{length-spans}
use Rattle.std.proofs.lemmas.List.{map-append, length-map}
use Rattle.codegen.proofs.Lists.{sets-start, sets-more, length-more, texts-more, spans-more, name-read, name-stored, below-stored}

-- ---- the two laws of all steps

pub done : {n : ℕ} {a : ℕ} {c : Counters} {t : Lent} → Does n (pure a) c t t a c
done = record { from = λ b g s. record { res = refl; stands = s } }

-- one step after another. `k` is read off the goal: write `_`
pub then : {n : ℕ} {m : Lower ℕ} (k : ℕ → Lower ℕ) {c c1 c2 : Counters} {t t1 t2 : Lent} {a b : ℕ} → Does n m c t t1 a c1 → Does n (k a) c1 t1 t2 b c2 → Does n (m ▷ k) c t t2 b c2
unfolding ◌▷◌
then {n} {m} k {c2 = c2} {t2 = t2} {b = r} d e =
    record { from = λ b g s. let x = d.from b g s in subst (λ (z : ℕ). Went n b r c2 t2 (k z (m g).1)) x.res (e.from b (m g).1 x.stands) }

-- a step that is another one by its definition
pub same : {n : ℕ} {m m' : Lower ℕ} {c c' : Counters} {t t' : Lent} {a : ℕ} → m ≡ m' → Does n m' c t t' a c' → Does n m c t t' a c'
same e d = rw e d

-- ---- the steps

pub emitted : {n : ℕ} {c : Counters} {is : List ℕ} {ns : List ℤ} {ss ps ms : List ℕ} (i : Instruction) {w : ℕ} → w ≡ wordTo c.err.0 i
    → Does n (emit i) c (lent is ns ss ps ms) (lent (set is c.at w) ns ss ps ms) 0 (plus-instr c)
emitted {c = c} {is = is} i {w} e =
    record {
      from = λ b g s. record {
        res = refl;
        stands = record {
          err = s.err;
          at = rw length-more (omega arith);
          numbers = s.numbers;
          strings = s.strings;
          chars = s.chars;
          values = s.values;
          instr-words = rw (e, s.err, map-append) (sets-more _ is (map (wordTo b.err) g.instrs) b.at c.at _ s.instr-words (rw length-map s.at));
          number-words = s.number-words;
          string-words = s.string-words;
          pool-words = s.pool-words;
          name-words = s.name-words;
          named = s.named;
          below = s.below;
        };
      };
    }

pub numbered : {n : ℕ} {c : Counters} {is : List ℕ} {ns : List ℤ} {ss ps ms : List ℕ} (z : ℤ)
    → Does n (newNum z) c (lent is ns ss ps ms) (lent is (set ns c.numbers z) ss ps ms) c.numbers (plus-number c)
numbered {c = c} {ns = ns} z =
    record {
      from = λ b g s. record {
        res = s.numbers;
        stands = record {
          err = s.err;
          at = s.at;
          numbers = rw length-more (omega arith);
          strings = s.strings;
          chars = s.chars;
          values = s.values;
          instr-words = s.instr-words;
          number-words = sets-more _ ns g.numbers 0 c.numbers z s.number-words (rw zero-add s.numbers);
          string-words = s.string-words;
          pool-words = s.pool-words;
          name-words = s.name-words;
          named = s.named;
          below = s.below;
        };
      };
    }

-- a string's word and its text
pub lettered : {n : ℕ} {c : Counters} {is : List ℕ} {ns : List ℤ} {ss ps ms : List ℕ} (x : List ℕ) {h w : ℕ} → h ≡ length x → w ≡ spanWord (record { start = c.chars; size = h })
    → Does n (newStr x) c (lent is ns ss ps ms) (lent is ns (set ss c.strings w) (sets ps c.chars x) ms) c.strings (plus-string h c)
lettered {c = c} {ss = ss} {ps = ps} x {h} {w} q e =
    record {
      from = λ b g s. record {
        res = s.strings;
        stands = record {
          err = s.err;
          at = s.at;
          numbers = s.numbers;
          strings = rw length-more (omega arith);
          chars = rw (texts-more, length-append) (omega arith);
          values = s.values;
          instr-words = s.instr-words;
          number-words = s.number-words;
          string-words = rw (e, s.chars, q, spans-more, zero-add, map-append) (sets-more _ ss (map spanWord (spans 0 g.strings)) 0 c.strings _ s.string-words (rw (zero-add, length-map, length-spans) s.strings));
          pool-words = rw (s.pool-words, s.chars, texts-more) (sets-start (texts g.strings) b.tables.pool x);
          name-words = s.name-words;
          named = s.named;
          below = s.below;
        };
      };
    }

-- ---- a name's register

module _ (n x : ℕ) (b : Base) (c : Counters) (t : Lent) (g : CodegenData) (s : Stands n b c t g) (k : x < n) where
  name-is : get_or t.names x 0 ≡ regWord (get_or g.names x none)
  name-is = rw s.name-words (name-read g.names b.tables.names x (omega (arith, s.named)))

-- known: the register that the table shows
pub name-known : {n : ℕ} {c : Counters} {is : List ℕ} {ns : List ℤ} {ss ps ms : List ℕ} (x : ℕ) → x < n → (get_or ms x 0 ≡ mark → ⊥)
    → Does n (getVariable x) c (lent is ns ss ps ms) (lent is ns ss ps ms) (get_or ms x 0) c
unfolding getVariable regWord
name-known {n} {c} {ms = ms} x h k = record { from = λ b g s. go b g s (get_or g.names x none) refl }
  where
    go : {is : List ℕ} {ns : List ℤ} {ss ps : List ℕ} (b : Base) (g : CodegenData) → Stands n b c (lent is ns ss ps ms) g → (o : Option ℕ) → get_or g.names x none ≡ o → Went n b (get_or ms x 0) c (lent is ns ss ps ms) (getVariable x g)
    go b g s none e = absurd (k (name-is n x b c _ g s h ∙ ap regWord e))
    go b g s (some v) e = rw (e, getVariable) (record { res = name-is n x b c _ g s h ∙ ap regWord e; stands = s })

-- fresh: a new one, which is kept for the name
pub name-fresh : {n v : ℕ} {c c' : Counters} {is : List ℕ} {ns : List ℤ} {ss ps ms : List ℕ} (x : ℕ) → x < n → get_or ms x 0 ≡ mark → c.values < mark → DoesNone newVal c v c'
    → Does n (getVariable x) c (lent is ns ss ps ms) (lent is ns ss ps (set ms x v)) v c'
unfolding getVariable regWord
name-fresh {n} {v} {c} {c'} {is} {ns} {ss} {ps} {ms} x h k l d = record { from = λ b g s. go b g s (d.does.from b g s) (get_or g.names x none) refl }
  where
    go : (b : Base) (g : CodegenData) → Stands n b c (lent is ns ss ps ms) g → Went n b v c' (lent is ns ss ps ms) (newVal g) → (o : Option ℕ) → get_or g.names x none ≡ o
        → Went n b v c' (lent is ns ss ps (set ms x v)) (getVariable x g)
    go b g s w (some u) e =
        let z = s.below x u e in
        let y : mark ≡ u = sym k ∙ (name-is n x b c _ g s h ∙ ap regWord e) in
        absurd (omega (arith, s.values))
    go b g s w none e =
        rw (e, getVariable)
        (record {
          res = w.res;
          stands = record {
            err = w.stands.err;
            at = w.stands.at;
            numbers = w.stands.numbers;
            strings = w.stands.strings;
            chars = w.stands.chars;
            values = w.stands.values;
            instr-words = w.stands.instr-words;
            number-words = w.stands.number-words;
            string-words = w.stands.string-words;
            pool-words = w.stands.pool-words;
            name-words = rw (s.name-words, w.res) (name-stored g.names b.tables.names x g.values (omega (arith, s.named)));
            named = rw length-set s.named;
            below = below-stored g.names x g.values s.below;
          };
        })

-- ---- an instruction that is no jump

module _ (e o : ℕ) {k : Kind × Kind × Kind} (h : kinds o ≡ some k) (r : isPlace (some k) ≡ false) where
  pub plain₁ : (a : ℕ) → insWord (ins₁ o a) ≡ wordTo e (ins₁ o a)
  plain₁ a = rw (lt-leb o 1 (past-jumps o k h r))

  pub plain₂ : (a b : ℕ) → insWord (ins₂ o a b) ≡ wordTo e (ins₂ o a b)
  plain₂ a b = rw (lt-leb o 1 (past-jumps o k h r))

  pub plain₃ : (a b d : ℕ) → insWord (ins₃ o a b d) ≡ wordTo e (ins₃ o a b d)
  plain₃ a b d = rw (lt-leb o 1 (past-jumps o k h r))

-- ---- an error jump that is there or not

pub guard-yes : {n : ℕ} (o : ℕ) {c c' : Counters} {t t' : Lent} {a : ℕ} → canRuntimeErr o ≡ true → Does n (emit errorJump) c t t' a c' → Does n (guard (canRuntimeErr o)) c t t' a c'
unfolding guard
guard-yes o e d = rw e d

pub guard-no : {n : ℕ} (o : ℕ) {c : Counters} {t : Lent} → canRuntimeErr o ≡ false → Does n (guard (canRuntimeErr o)) c t t 0 c
unfolding guard
guard-no o e = rw e done

pub guard-most : (b : Bool) → guardCost b ≤ 1
unfolding guardCost
guard-most true = omega arith
guard-most false = omega arith

-- what a word says of its opcode
pub err-is : (r : Bool) (w o a b : ℕ) {k : Kind × Kind × Kind} → r ≡ canRuntimeErr (wordIns w).op → w ≡ insWord (ins₂ o a b) → kinds o ≡ some k → a < 65536 → b < 65536 → canRuntimeErr o ≡ r
err-is r w o a b {k} e q h x y = rw (e, q, ins-back (ins₂ o a b) (opcode-bits o k h, (x, (y, (omega arith, tt)))))

-- ---- an Incdec's

pub incdec-word : (e : ℕ) (i : Bool) (o w v : ℕ) → w ≡ insWord (ins₁ o v) → o ≡ incdecOp i → w ≡ wordTo e (ins₁ (incdecOp i) v)
unfolding incdecOp
incdec-word e true o w v p q = rw q at p
incdec-word e false o w v p q = rw q at p

pub incdec-shape : (i : Bool) (o : ℕ) → o ≡ incdecOp i → Shape o val unused unused
unfolding incdecOp kinds table
incdec-shape true o e = rw e
incdec-shape false o e = rw e

-- ---- what a thin step's contract comes to: counters, table and answer are known by equations

module _ {c z : Counters} where
  pub emit_does : {is is' : List ℕ} {w : ℕ} → is' ≡ set is c.at w → z ≡ plus-instr c → (i : Instruction) → w ≡ wordTo c.err.0 i → DoesCode (emit i) c is is' 0 z
  emit_does f e i q = rw (f, e) (record { does = emitted i q })

  pub num-does : {ns ns' : List ℤ} {v : ℕ} (x : ℤ) → v ≡ c.numbers → ns' ≡ set ns c.numbers x → z ≡ plus-number c → DoesNums (newNum x) c ns ns' v z
  num-does x q f e = rw (q, f, e) (record { does = numbered x })

  -- k is the register as an index, and the text is stored by others
  pub str-does : {n : ℕ} {is : List ℕ} {ns : List ℤ} {ss ps ps' ms : List ℕ} (x : List ℕ) {h k v w : ℕ} → v ≡ c.strings → z ≡ plus-string h c → k ≡ v → h ≡ length x
      → w ≡ spanWord (record { start = c.chars; size = h }) → ps' ≡ sets ps c.chars x → Does n (newStr x) c (lent is ns ss ps ms) (lent is ns (set ss k w) ps' ms) v z
  str-does x p r e q w f = rw (e, p, r, f) (lettered x q w)
