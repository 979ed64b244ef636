-- A tree's lowered machine keeps within the estimates.
use Rattle.std.specs.Prelude.{◌≡◌, refl, Bool, true, false, List, [], ◌∷◌, ◌++◌, ℕ, suc, ◌+◌, ◌≤◌, length}
use Rattle.std.proofs.Common.{ap, ◌∙◌, arith, length-append}
use Rattle.std.proofs.Math.Option.{Option, none}
use Rattle.std.proofs.lemmas.List.{length-map, length-replicate}
use Rattle.rules.specs.Instr.{Instruction}
use Rattle.rules.specs.Tree.{Name, Tree}
use Rattle.rules.specs.Machine.{SectionCode}
use Rattle.rules.specs.Tables.{Counts, countsOf, allCode}
use Rattle.rules.specs.Script.{Stmts, nil, plain, goto, ite, Script}
use Rattle.rules.specs.Annotate.{annotate, fresh}
use Rattle.rules.specs.Assemble.{nextLine, orOne, sectionsMade, ownCode, entry, link, condCode, inner, orEmpty, stmtSections, headOf, tailOf, lineSections, heads, tails, sectionsOf}
use Rattle.rules.specs.Replace.{Rule, stays, goes, turns, number, result, blank, ruleOf, Regs, replaceBy, replaceIns, replaceCode, replaceSections}
use Rattle.rules.specs.Lowered.{Options, nameWords, spans, texts, lowered}
use Rattle.rules.specs.Operations.{sizeOf, estimate}
use Rattle.bounds.specs.Lengths.{length-low, length-tailOf, heads-length}
use Rattle.bounds.specs.Own.{codeOf, sizes, codes}
use Rattle.bounds.proofs.Own.{annotate-made}
use Rattle.bounds.proofs.Stay.{numbers-stay, strings-stay}
use Rattle.laws.specs.Texts.{length-spans}
use Rattle.laws.specs.Sections.{replaced-length}

-- ---- sections

tails-length : (L i n : ℕ) (t : Script) → length (tails L i n t) ≡ sizes t
tails-length L i n [] = refl
tails-length L i n (s ∷ t) =
    let l = lineSections L i n s in
    omega (arith, length-append (tailOf l) (tails L (suc i) (n + sectionsMade s) t), length-tailOf l, length-low true (nextLine L i) n (nextLine L i) s, tails-length L (suc i) (n + sectionsMade s) t)

pub sections-length : (t : Script) → length (sectionsOf t) ≡ length t + sizes t
unfolding sectionsOf
sections-length t =
    let L = length t in
    omega (arith, length-append (heads L 0 L t) (tails L 0 L t), heads-length L 0 L t, tails-length L 0 L t)

-- ---- instructions

abbrev pub codeLen : List SectionCode → ℕ
codeLen [] = 0
codeLen (s ∷ m) = length s.instrs + codeLen m

pub code-length : (m : List SectionCode) → length (allCode m) ≡ codeLen m
unfolding allCode
code-length [] = refl
code-length (s ∷ m) = omega (arith, length-append s.instrs (allCode m), code-length m)

len-append : (a b : List SectionCode) → codeLen (a ++ b) ≡ codeLen a + codeLen b
len-append [] b = omega arith
len-append (s ∷ a) b = omega (arith, len-append a b)

cond-len : (t : Stmts) (c n : ℕ) → length (condCode t c n) ≤ 1
cond-len nil c n = omega arith
cond-len (plain o s) c n = omega arith
cond-len (goto o r s) c n = omega arith
cond-len (ite o k t f s) c n = omega arith

empty-len : (s : Stmts) (k : ℕ) (l : List SectionCode) → codeLen (orEmpty s k l) ≤ codeLen l
empty-len nil k l = omega arith
empty-len (plain o s) k l = omega arith
empty-len (goto o r s) k l = omega arith
empty-len (ite o c t f s) k l = omega arith

own-len : (e : ℕ) (o : List Instruction) → length (ownCode e o) ≡ length o
own-len e o = simp length-map

low-len : (b : Bool) (e n k : ℕ) (s : Stmts) → codeLen (stmtSections b e n k s) ≤ codeOf s
low-len b e n k nil = omega arith
low-len b e n k (plain o s) = omega (arith, own-len e o, low-len b e (suc n) k s)
low-len b e n k (goto o r s) = omega (arith, own-len e o, low-len false e (suc n) k s)
low-len b e n k (ite o c t f s) =
    let nf = suc n + orOne t (sectionsMade t) in
    let nj = nf + orOne f (sectionsMade f) in
    let lt = stmtSections true e (suc n) nj t in
    let lf = stmtSections true e nf nj f in
    let r = inner [] (link b (entry s (suc nj) k)) ∷ stmtSections b e (suc nj) k s in
    omega (
      arith,
      length-append (ownCode e o) (condCode t c (suc n)),
      own-len e o,
      cond-len t c (suc n),
      len-append (orEmpty t nj lt) (orEmpty f nj lf ++ r),
      len-append (orEmpty f nj lf) r,
      empty-len t nj lt,
      empty-len f nj lf,
      low-len true e (suc n) nj t,
      low-len true e nf nj f,
      low-len b e (suc nj) k s,
    )

line-len : (e : ℕ) (l : List SectionCode) → length (headOf e l).instrs + codeLen (tailOf l) ≡ codeLen l
line-len e [] = refl
line-len e (s ∷ l) = omega arith

lines-len : (L i n : ℕ) (t : Script) → codeLen (heads L i n t) + codeLen (tails L i n t) ≤ codes t
lines-len L i n [] = omega arith
lines-len L i n (s ∷ t) =
    let l = lineSections L i n s in
    let e = nextLine L i in
    omega (arith, line-len e l, len-append (tailOf l) (tails L (suc i) (n + sectionsMade s) t), low-len true e n e s, lines-len L (suc i) (n + sectionsMade s) t)

sections-len : (t : Script) → codeLen (sectionsOf t) ≤ codes t
unfolding sectionsOf
sections-len t = let L = length t in omega (arith, len-append (heads L 0 L t) (tails L 0 L t), lines-len L 0 L t)

-- Replacement makes no more instructions.
by-len : (p : ℕ) (r : Rule) (σ : Regs) (i : Instruction) → length (replaceBy p r σ i).0 ≤ 1
by-len p stays σ i = omega arith
by-len p goes σ i = omega arith
by-len p (turns o) σ i = omega arith
by-len p (number z) σ i = omega arith
by-len p (result z) σ i = omega arith
by-len p blank σ i = omega arith

replaced-code : (p : ℕ) (σ : Regs) (c : List Instruction) → length (replaceCode p σ c).0 ≤ length c
replaced-code p σ [] = omega arith
replaced-code p σ (i ∷ c) =
    let x = replaceIns p σ i in
    let y = replaceCode p x.1 c in
    omega (arith, length-append x.0 y.0, by-len p (ruleOf i) σ i, replaced-code p x.1 c)

pub replaced-len : (p : ℕ) (σ : Regs) (m : List SectionCode) → codeLen (replaceSections p σ m).0 ≤ codeLen m
replaced-len p σ [] = omega arith
replaced-len p σ (s ∷ m) = let x = replaceCode p σ s.instrs in omega (arith, replaced-code p σ s.instrs, replaced-len p x.1 m)

-- ---- names

pub names-length : (o : Options) (ns : List Name) (vs : List (Option ℕ)) → length vs ≡ length ns → length (nameWords o ns vs) ≡ length ns
unfolding nameWords
names-length o [] vs h = refl
names-length o (n ∷ ns) [] h = absurd (omega arith)
names-length o (n ∷ ns) (v ∷ vs) h = ap suc (names-length o ns vs (omega arith))

-- ---- the lowered machine's counts and the estimates

pub record WithinEstimate (u e : Counts) : Type 0 where
  pub lines : u.lines ≡ e.lines
  pub sections : u.sections ≤ e.sections
  pub instrs : u.instrs ≤ e.instrs
  pub numbers : u.numbers ≤ e.numbers
  pub strings : u.strings ≡ e.strings
  pub pool : u.pool ≡ e.pool
  pub names : u.names ≡ e.names

pub estimated : (o : Options) (t : Tree) → WithinEstimate (countsOf (lowered o t)) (estimate (sizeOf t))
unfolding countsOf lowered estimate sizeOf fresh texts
estimated o t =
    let a = annotate-made t in
    let ss = (annotate t).0 in
    let g = (annotate t).1 in
    let p = length (texts g.strings) in
    let σ : Regs = record { numbers = g.numbers; strings = spans 0 g.strings } in
    let m = sectionsOf ss in
    let x = (replaceSections p σ m).0 in
    let w = a.went in
    record {
      lines = a.long;
      sections = omega (arith, replaced-length p σ m, sections-length ss, a.long, a.size-most);
      instrs = omega (arith, code-length x, replaced-len p σ m, sections-len ss, a.code-most);
      numbers = omega (arith, ap length (numbers-stay o t), w.numbers-most);
      strings = ap length (strings-stay o t) ∙ (length-spans 0 g.strings ∙ omega (arith, w.strings-are));
      pool = omega (arith, w.pool-is);
      names = names-length o t.names g.names (omega (arith, w.names-are, length-replicate {A = Option ℕ} (length t.names) none));
    }
