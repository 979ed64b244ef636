-- Own instructions become a section. Assumes nothing.
use mathlib.Core.Path.{◌≡◌, refl, sym, ap, ◌∙◌}
use mathlib.Core.Bool.{Bool, true, false}
use mathlib.Core.List.{List, [], ◌∷◌, ◌++◌, map}
use Prim.Native.Nat.{ℕ, ◌+◌, ◌-◌, ◌≤◌}
use native.Mathlib.Nat.{add-zero}
use native.Mathlib.Omega.{arith}
use lib.IntN.{ℤ}
use lib.ListN.{length, set, length-append}
use lib.Seq.{sets}
use Rattle.rules.specs.Instr.{Instruction}
use Rattle.rules.specs.Word.{insWord, runWord}
use Rattle.rules.specs.Machine.{SectionOrLine}
use Rattle.rules.specs.Tables.{sectionRun, runOf}
use Rattle.rules.specs.Assemble.{ownCode}
use Rattle.rules.specs.CodegenData.{CodegenData, Lower}
use Rattle.words.specs.declared.instr.Section.{Section}
use Rattle.rules.specs.Tree.{Assignop, Plain, AddTo, SubTo, MulTo, DivTo, ModTo, PowTo}
use Rattle.stmts.specs.Told.{assignCost}
use Rattle.codegen.specs.declared.state.Counters.{Counters}
use Rattle.codegen.specs.Does.{wordTo, Lent, lent, Base, Stands, Does}
use Rattle.laws.specs.Stores.{sets-sets}
use Rattle.std.proofs.lemmas.List.{map-append, length-map}
use Rattle.stmts.specs.Makes.{Regs, nothing, Makes, placed, jump, jumpCost}

-- ---- in and out of a statement

-- the state without instructions, and another one's
abbrev bare : CodegenData → CodegenData
bare g = record { instrs = []; numbers = g.numbers; strings = g.strings; values = g.values; names = g.names }

abbrev with : List Instruction → CodegenData → CodegenData
with is g = record { instrs = is; numbers = g.numbers; strings = g.strings; values = g.values; names = g.names }

abbrev base : ℕ → Lent → Counters → Lent → Base
base e b c t = record { tables = record { instrs = t.instrs; numbers = b.numbers; strings = b.strings; pool = b.pool; names = b.names }; at = c.at; err = e }

enter : {n e : ℕ} {b : Lent} {c : Counters} {t : Lent} {g : CodegenData} → Regs n e b c t g → Stands n (base e b c t) c t (bare g)
enter {c = c} r =
    record {
      err = r.err;
      at = sym (add-zero c.at);
      numbers = r.numbers;
      strings = r.strings;
      chars = r.chars;
      values = r.values;
      instr-words = refl;
      number-words = r.number-words;
      string-words = r.string-words;
      pool-words = r.pool-words;
      name-words = r.name-words;
      named = r.named;
      below = r.below;
    }

leave : {n e : ℕ} (b : Lent) (c : Counters) (t : Lent) {c' : Counters} {t' : Lent} {h : CodegenData} (is : List Instruction) → Stands n (base e b c t) c' t' h → Regs n e b c' t' (with is h)
leave b c t is r =
    record {
      err = r.err;
      numbers = r.numbers;
      strings = r.strings;
      chars = r.chars;
      values = r.values;
      number-words = r.number-words;
      string-words = r.string-words;
      pool-words = r.pool-words;
      name-words = r.name-words;
      named = r.named;
      below = r.below;
    }

-- ---- words

own-words : (e : ℕ) (o : List Instruction) → map insWord (ownCode e o) ≡ map (wordTo e) o
own-words e [] = refl
own-words e (i ∷ o) = ap (λ l. wordTo e i ∷ l) (own-words e o)

-- own instructions, and behind them d
behind : (e k : ℕ) (o d : List Instruction) (is is1 is' : List ℕ) (k1 : ℕ) → is1 ≡ sets is k (map (wordTo e) o) → k1 ≡ k + length o → is' ≡ sets is1 k1 (map insWord d) → is' ≡ sets is k (map insWord (ownCode e o ++ d))
behind e k o d is is1 is' k1 p q r = rw (r, p, q, map-append, own-words, ← length-map o (wordTo e)) (sets-sets (map (wordTo e) o) is k (map insWord d))

own-length : (e : ℕ) (o d : List Instruction) → length (ownCode e o ++ d) ≡ length o + length d
own-length e o d = rw (length-append, length-map)

-- what is counted is what is there
counted : (l : Bool) (s : SectionOrLine) (c : List Instruction) (k k' : ℕ) → k' ≡ k + length c → runOf l s k (k' - k) ≡ sectionRun (record { lineStart = l; instrs = c; success = s }) k
counted l s c k k' e = let z : k' - k ≡ length c = omega arith in rw z

-- ---- the law: a step that was lowered, the instructions behind, and the word

pub makes : {n : ℕ} {m : Lower ℕ} {l : Bool} {c c1 c' : Counters} {t t1 t' : Lent} {r : ℕ} (d : ℕ → List Instruction) (f : ℕ → SectionOrLine) (slot : ℕ) (se : List ℕ) {w : ℕ} {se' : List ℕ}
    → Does n m c t t1 r c1
    → t'.instrs ≡ sets t1.instrs c1.at (map insWord (d r)) → c'.at ≡ c1.at + length (d r)
    → ((e : ℕ) (b : Lent) (g : CodegenData) → Regs n e b c1 t1 g → Regs n e b c' t' g)
    → se' ≡ set se slot w → w ≡ runWord (runOf l (f r) c.at (c'.at - c.at))
    → Makes n m l d f slot c t t' se se' c'
makes {n} {m} {l} {c} {c1} {c'} {t} {t1} {t'} {r} d f slot se {w} {se'} x code at same put word =
    record {
      from = λ e b g q.
          let y = x.from (base e b c t) (bare g) (enter q) in
          let s = y.stands in
          let o = (m (bare g)).1.instrs in
          let a : r ≡ (m (bare g)).0 = y.res in
          let len : c'.at ≡ c.at + length (ownCode e o ++ d r) = rw own-length (omega (arith, s.at)) in
          record {
            regs = same e b _ (leave b c t g.instrs s);
            stored = rw (← a) (record {
              code = behind e c.at o (d r) _ _ _ c1.at s.instr-words s.at code;
              ends = len;
              word = put ∙ ap (λ (v : ℕ). set se slot v) (word ∙ ap runWord (counted l (f r) (ownCode e o ++ d r) c.at c'.at len));
            });
          };
    }

-- with nothing behind
pub makes-plain : {n : ℕ} {m : Lower ℕ} {l : Bool} {c c1 : Counters} {t t1 : Lent} {r : ℕ} (f : ℕ → SectionOrLine) (slot : ℕ) (se : List ℕ) {w : ℕ} {se' : List ℕ}
    → Does n m c t t1 r c1 → se' ≡ set se slot w → w ≡ runWord (runOf l (f r) c.at (c1.at - c.at)) → Makes n m l nothing f slot c t t1 se se' c1
makes-plain {c1 = c1} f slot se x put word = makes nothing f slot se x refl (sym (add-zero c1.at)) (λ e b g q. q) put word

-- registers do not see the cursor or the instructions; errors go to the line that the counters say
pub regs-moved : {n e e' : ℕ} {b : Lent} {c : Counters} {t : Lent} {is : List ℕ} {g : CodegenData} (k : ℕ) (s : Section) → s.0 ≡ e' → Regs n e b c t g
    → Regs n e' b (record { at = k; numbers = c.numbers; strings = c.strings; chars = c.chars; values = c.values; err = s }) (lent is t.numbers t.strings t.pool t.names) g
regs-moved k s q r =
    record {
      err = q;
      numbers = r.numbers;
      strings = r.strings;
      chars = r.chars;
      values = r.values;
      number-words = r.number-words;
      string-words = r.string-words;
      pool-words = r.pool-words;
      name-words = r.name-words;
      named = r.named;
      below = r.below;
    }

-- with a jump behind
pub makes-jump : {n : ℕ} {m : Lower ℕ} {l : Bool} {c c1 c' : Counters} {t : Lent} {is1 is' : List ℕ} {ns : List ℤ} {ss ps ms : List ℕ} {r : ℕ} (d : ℕ → List Instruction) (f : ℕ → SectionOrLine) (slot : ℕ) (se : List ℕ) {w : ℕ} {se' : List ℕ}
    → Does n m c t (lent is1 ns ss ps ms) r c1 → is' ≡ sets is1 c1.at (map insWord (d r)) → c' ≡ placed c1 (c1.at + length (d r))
    → se' ≡ set se slot w → w ≡ runWord (runOf l (f r) c.at (c'.at - c.at)) → Makes n m l d f slot c t (lent is' ns ss ps ms) se se' c'
makes-jump {c1 = c1} {r = r} d f slot se x code at put word =
    makes d f slot se x code (ap (λ (k : Counters). k.at) at) (λ e b g q. rw at (regs-moved _ c1.err q.err q)) put word

pub jump-most : (b : Bool) (n r : ℕ) → length (jump b n r) ≤ 1
jump-most true n r = omega arith
jump-most false n r = omega arith

pub assign-most : (o : Assignop) → assignCost o ≤ 8
unfolding assignCost
assign-most Plain = omega arith
assign-most AddTo = omega arith
assign-most SubTo = omega arith
assign-most MulTo = omega arith
assign-most DivTo = omega arith
assign-most ModTo = omega arith
assign-most PowTo = omega arith

pub jump-length : (b : Bool) (n r : ℕ) → length (jump b n r) ≡ jumpCost b
unfolding jumpCost
jump-length true n r = refl
jump-length false n r = refl

pub jump-cost-most : (b : Bool) → jumpCost b ≤ 1
unfolding jumpCost
jump-cost-most true = omega arith
jump-cost-most false = omega arith
