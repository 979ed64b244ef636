-- The whole machine's words from the sections of all lines, the registers and the names. Assumes nothing.
use mathlib.Core.Path.{◌≡◌, refl, sym, ap, ◌∙◌}
use mathlib.Core.List.{List, [], ◌∷◌, ◌++◌, map}
use mathlib.Core.Option.{Option, none, some}
use Prim.Native.Nat.{ℕ, zero, suc, ◌+◌, ◌≤◌}
use native.Mathlib.Nat.{zero-add}
use native.Mathlib.Omega.{arith}
use lib.IntN.{ℤ}
use lib.ListN.{length, get_or, drop, replicate, length-append, length-replicate}
use lib.Seq.{sets, sets-eq}
use Rattle.rules.specs.Word.{insWord, spanWord}
use Rattle.rules.specs.Tree.{Expr, Block, Tree, Name, ofExpr, ofBlock, ofLines, statement, node, both}
use Rattle.rules.specs.Tree as Tree
use Rattle.rules.specs.Machine.{Machine}
use Rattle.rules.specs.Tables.{runWords, allCode, encode, countsOf}
use Rattle.rules.specs.Script.{Script}
use Rattle.rules.specs.Assemble.{heads, tails, sectionsOf}
use Rattle.rules.specs.CodegenData.{CodegenData}
use Rattle.rules.specs.Annotate.{annotate, annotateStmts, annotateLines, fresh}
use Rattle.rules.specs.Lowered.{Options, nameWords, spans, texts, assemble}
use Rattle.bounds.specs.Lengths.{heads-length}
use Rattle.bounds.specs.Own.{sizes}
use Rattle.bounds.proofs.Estimate.{sections-length, names-length}
use Rattle.laws.specs.Texts.{length-spans}
use Rattle.nodes.specs.Holds.{HoldsE, HoldsB, at-binop, at-unop, at-incdec, at-ident, at-number, at-string, at-end, at-goto, at-ite, at-step, at-assign}
use Rattle.tree.specs.Files.{HoldsL, no-line, a-line, widths}
use Rattle.tables.specs.Lent.{tables}
use Rattle.codegen.specs.declared.state.Counters.{Counters}
use Rattle.codegen.specs.Does.{lent, regWord}
use Rattle.codegen.proofs.Lists.{sets-start}
use Rattle.std.proofs.lemmas.List.{map-append, length-map}
use Rattle.stmts.specs.Makes.{Regs}
use Rattle.stmts.proofs.Lists.{made-width}
use Rattle.laws.specs.Sections.{code-append, words-append, words-length}
use Rattle.line.specs.Lines.{Parted}
use Rattle.program.specs.Script.{ownCosts, LinesDone}
use Rattle.program.specs.Program.{over, Laid}
use Rattle.program.proofs.Script.{script-length}

-- ---- a node a word

expr-nodes : {t s : List ℕ} {m i j : ℕ} {e : Expr} → HoldsE t s m i e j → j ≡ i + (ofExpr e).nodes
unfolding ofExpr node both Tree.emptyTally
expr-nodes (at-binop op o p w q l r) = let a = expr-nodes l in let b = expr-nodes r in omega arith
expr-nodes (at-unop op o p w q r) = let a = expr-nodes r in omega arith
expr-nodes (at-incdec b f x p g) = omega (arith, g.last)
expr-nodes (at-ident x l w k) = omega arith
expr-nodes (at-number p z l w k q) = omega arith
expr-nodes (at-string n p x l w y k q) = omega arith

block-nodes : {t s : List ℕ} {m n i z : ℕ} {x : Block} → HoldsB t s m n i x z → z ≡ i + (ofBlock x).nodes
unfolding ofBlock statement node both Tree.emptyTally
block-nodes (at-end p q) = omega arith
block-nodes (at-goto p w q e xs) = let a = expr-nodes e in let b = block-nodes xs in omega arith
block-nodes (at-ite n k v b p w f q e x y xs) = let a = expr-nodes e in let b = block-nodes x in let c = block-nodes y in let d = block-nodes xs in omega arith
block-nodes (at-step b f y p q g xs) = let a = g.last in let b = block-nodes xs in omega arith
block-nodes (at-assign y op o p b w k q e xs) = let a = expr-nodes e in let b = block-nodes xs in omega arith

pub lines-nodes : {t ls s : List ℕ} {m k i L z : ℕ} {bs : List Block} → HoldsL t ls s m k i bs L z → z ≡ i + (ofLines bs).nodes
unfolding ofLines both Tree.emptyTally
lines-nodes (no-line p q) = omega arith
lines-nodes (a-line n f w b p l) = let a = block-nodes b in let c = lines-nodes l in omega arith

-- ---- words from a table's start on

sets-over : {A : Type 0} (vs l : List A) → length vs ≤ length l → sets l 0 vs ≡ over vs l
sets-over vs l h = sets-eq vs l 0 (rw zero-add h) ∙ ap (λ (k : ℕ). vs ++ drop k l) (zero-add (length vs))

over-as : {A : Type 0} (t l vs : List A) → t ≡ sets l 0 vs → length vs ≤ length l → t ≡ over vs l
over-as t l vs e h = e ∙ sets-over vs l h

-- ---- before lowering

no-register : (n k : ℕ) → get_or {A = Option ℕ} (replicate n none) k none ≡ none
no-register zero k = refl
no-register (suc n) zero = refl
no-register (suc n) (suc k) = no-register n k

never : {A : Type 0} (v : A) (x : Option A) → x ≡ none → x ≡ some v → ⊥
never v x p q = absurd (let z : ◌≡◌ {A = ℕ} 0 1 = cc in omega arith)

-- no registers yet, and no name has one
start : (n : ℕ) (c : Counters) (is : List ℕ) (ns : List ℤ) (ss ps m1 ms : List ℕ) → c.numbers ≡ 0 → c.strings ≡ 0 → c.chars ≡ 0 → c.values ≡ 0 → m1 ≡ map regWord (replicate n none) ++ drop n ms
    → Regs n c.err.0 (lent is ns ss ps (drop n ms)) c (lent is ns ss ps m1) (fresh n)
unfolding fresh texts spans
start n c is ns ss ps m1 ms a b d e h =
    record {
      err = refl;
      numbers = a;
      strings = b;
      chars = d;
      values = e;
      number-words = refl;
      string-words = refl;
      pool-words = refl;
      name-words = h;
      named = length-replicate n none;
      below = λ x v q. absurd (never v (get_or (replicate n none) x none) (no-register n x) q);
    }

-- ---- the whole

-- the sections of all lines
script-sizes : (bs : List Block) (g : CodegenData) → sizes (annotateLines bs g).0 ≡ widths bs
unfolding annotateLines widths
script-sizes [] g = refl
script-sizes (b ∷ bs) g = omega (arith, made-width b g, script-sizes bs (annotateStmts b g).1)

-- how far the counters went
pub record Room (c : Counters) (number il nl sl pl zl : ℕ) : Type 0 where
  pub at : c.at ≤ il
  pub numbers : c.numbers ≤ nl
  pub strings : c.strings ≤ sl
  pub chars : c.chars ≤ pl
  pub sections : number ≤ zl

-- all sections, one place behind the other
record Joined (ss : Script) (c' : Counters) (number : ℕ) (is is' se se' : List ℕ) : Type 0 where
  code : is' ≡ sets is 0 (map insWord (allCode (sectionsOf ss)))
  words : se' ≡ sets se 0 (runWords 0 (sectionsOf ss))
  ends : c'.at ≡ length (allCode (sectionsOf ss))

joined : (ss : Script) (L H head' number : ℕ) (c c' : Counters) (is is' se se' : List ℕ) → length ss ≡ L → c.at ≡ H → head' ≡ 0 + H
    → Parted (heads L 0 L ss) (tails L 0 L ss) 0 L 0 c.at head' c'.at is is' se se' → Joined ss c' number is is' se se'
unfolding sectionsOf
joined ss L H head' number c c' is is' se se' e f h p =
    let hs = heads L 0 L ss in
    let ts = tails L 0 L ss in
    let a : c.at ≡ length (map insWord (allCode hs)) = omega (arith, f, h, p.heads-end, length-map (allCode hs) insWord) in
    let b : L ≡ length (runWords 0 hs) = sym e ∙ (sym (heads-length L 0 L ss) ∙ sym (words-length 0 hs)) in
    let d : 0 + length (allCode hs) ≡ c.at = omega (arith, f, h, p.heads-end) in
    record {
      code = rw (e, code-append hs ts, map-append insWord (allCode hs) (allCode ts)) (p.code ∙ (ap (λ (k : ℕ). sets (sets is 0 (map insWord (allCode hs))) k (map insWord (allCode ts))) a ∙ sets-start (map insWord (allCode hs)) is (map insWord (allCode ts))));
      words = rw (e, words-append 0 hs ts, d) (p.words ∙ (ap (λ (k : ℕ). sets (sets se 0 (runWords 0 hs)) k (runWords c.at ts)) b ∙ sets-start (runWords 0 hs) se (runWords c.at ts)));
      ends = rw (e, code-append hs ts, length-append) (omega (arith, f, h, p.heads-end, p.tails-end));
    }

counts-are : (m : Machine) {a b c d e f g h : ℕ} → a ≡ m.lines → b ≡ length m.sections → c ≡ length (allCode m.sections) → d ≡ length m.numbers → e ≡ length m.strings → f ≡ length m.pool → g ≡ length m.names → h ≡ m.values
    → record { lines = a; sections = b; instrs = c; numbers = d; strings = e; pool = f; names = g; values = h } ≡ countsOf m
unfolding countsOf
counts-are m p q r s t u v w = rw (p, q, r, s, t, u, v, w)

pub laid : (o : Options) (x : Tree) {L n head' number : ℕ} {c c' : Counters} {is is' : List ℕ} {ns ns' : List ℤ} {ss ss' ps ps' ms m1 m2 m3 se se' : List ℕ}
    → length x.lines ≡ L → length x.names ≡ n → c.at ≡ ownCosts x.lines → c.numbers ≡ 0 → c.strings ≡ 0 → c.chars ≡ 0 → c.values ≡ 0
    → LinesDone (length x.names) L 0 x.lines L 0 c (lent is ns ss ps m1) (lent is' ns' ss' ps' m2) se se' head' c' number
    → m1 ≡ map regWord (replicate n none) ++ drop n ms
    → ((vs : List (Option ℕ)) → length vs ≡ n → m2 ≡ map regWord vs ++ drop n ms → m3 ≡ nameWords o x.names vs ++ drop n ms)
    → Room c' number (length is) (length ns) (length ss) (length ps) (length se)
    → Laid (assemble o x) (tables se is ns ss ps ms) (tables se' is' ns' ss' ps' m3) (record { lines = L; sections = number; instrs = c'.at; numbers = c'.numbers; strings = c'.strings; pool = c'.chars; names = n; values = c'.values })
unfolding assemble annotate encode
laid o x {L} {n} {head'} {number} {c} {c'} {is} {is'} {ns} {ns'} {ss} {ss'} {ps} {ps'} {ms} {m1} {m2} {m3} {se} {se'} el en ha z1 z2 z3 z4 d hm hp room =
    let g0 = fresh (length x.names) in
    let r0 = start (length x.names) c is ns ss ps m1 ms z1 z2 z3 z4 (rw en hm) in
    let w = d.does (lent is ns ss ps (drop (length x.names) ms)) g0 r0 (omega arith) (omega arith) in
    let script = (annotateLines x.lines g0).0 in
    let g = (annotateLines x.lines g0).1 in
    let sl : length script ≡ L = script-length x.lines g0 ∙ el in
    let j = joined script L (ownCosts x.lines) head' number c c' is is' se se' sl ha d.cost w.parted in
    let number-is : number ≡ length (sectionsOf script) = omega (arith, d.number-is, sections-length script, sl, script-sizes x.lines g0) in
    let r = w.regs in
    let lc = length-map (allCode (sectionsOf script)) insWord in
    let lr = words-length 0 (sectionsOf script) in
    let lp = length-map (spans 0 g.strings) spanWord in
    let ls = length-spans 0 g.strings in
    let vl : length g.names ≡ n = r.named ∙ en in
    let nm = hp g.names vl (r.name-words ∙ ap (λ (k : ℕ). map regWord g.names ++ drop k ms) en) in
    let nl : length (nameWords o x.names g.names) ≡ n = names-length o x.names g.names r.named ∙ en in
    record {
      sections = over-as se' se (runWords 0 (sectionsOf script)) j.words (omega (arith, lr, room.sections, number-is));
      instrs = over-as is' is (map insWord (allCode (sectionsOf script))) j.code (omega (arith, lc, j.ends, room.at));
      numbers = over-as ns' ns g.numbers r.number-words (omega (arith, r.numbers, room.numbers));
      strings = over-as ss' ss (map spanWord (spans 0 g.strings)) r.string-words (omega (arith, lp, ls, r.strings, room.strings));
      pool = over-as ps' ps (texts g.strings) r.pool-words (omega (arith, r.chars, room.chars));
      names = nm ∙ ap (λ (k : ℕ). nameWords o x.names g.names ++ drop k ms) (sym nl);
      counts = counts-are (assemble o x) (sym sl) number-is j.ends r.numbers (r.strings ∙ sym ls) r.chars (sym nl) r.values;
    }
