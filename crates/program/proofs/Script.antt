-- The sections of all lines from those of each, and the whole machine's words from them. Assumes nothing.
use mathlib.Core.Path.{◌≡◌, refl, sym, ap, ◌∙◌}
use mathlib.Core.Bool.{true}
use mathlib.Core.List.{List, [], ◌∷◌, ◌++◌, map}
use Prim.Native.Nat.{ℕ, suc, ◌+◌, ◌*◌, ◌≤◌, ◌<◌, ◌^◌}
use native.Mathlib.Nat.{add-zero}
use native.Mathlib.Numerals.{add-one}
use native.Mathlib.Omega.{arith}
use lib.ListN.{length, get_or, length-append}
use Rattle.rules.specs.Constants.{mostBytes, nameBits, instrsANode}
use Rattle.rules.specs.Tree.{Block, ofBlock, ofLines, both, emptyTally}
use Rattle.rules.specs.Word.{insWord}
use Rattle.rules.specs.Machine.{SectionCode}
use Rattle.rules.specs.Tables.{runWords, allCode}
use Rattle.rules.specs.Assemble.{stmtSections, sectionsMade, nextLine, headOf, tailOf, heads, tails}
use Rattle.rules.specs.CodegenData.{CodegenData}
use Rattle.rules.specs.Annotate.{annotateStmts, annotateLines}
use Rattle.bounds.specs.Lengths.{length-low, length-tailOf, heads-length}
use Rattle.nodes.specs.Holds.{HoldsB}
use Rattle.nodes.specs.Width.{width}
use Rattle.nodes.proofs.Table.{grows-b}
use Rattle.tree.specs.Files.{lineWord, HoldsL, no-line, a-line, widths, countIn, firstIn}
use Rattle.words.specs.declared.instr.Section.{Section}
use Rattle.codegen.specs.declared.state.Counters.{Counters}
use Rattle.codegen.specs.Does.{Lent}
use Rattle.std.proofs.lemmas.List.{map-append, length-map}
use Rattle.stmts.specs.Makes.{Regs}
use Rattle.stmts.proofs.Makes.{regs-moved}
use Rattle.stmts.proofs.Lists.{made-width}
use Rattle.laws.specs.Sections.{code-append, words-append, words-length}
use Rattle.stmts.specs.Lists.{deep, SameLengths}
use Rattle.stmts.specs.Parts.{ownCost}
use Rattle.line.specs.Lines.{innerNodes, Parted, LineWent, LineDone}
use Rattle.program.specs.Script.{ownCosts, innerAll, deepest, aimedAt, CostsMid, LinesWent, LinesDone, LinesMid}
use Rattle.line.proofs.Parts.{own-most}
use Rattle.program.proofs.Runs.{two-runs}

-- ---- the tables of lines

pub lines-count : {t ls s : List ℕ} {m k i L z : ℕ} {bs : List Block} → HoldsL t ls s m k i bs L z → k + length bs ≡ L
lines-count (no-line p q) = omega arith
lines-count (a-line n f w b p l) = let h = lines-count l in omega arith

pub lines-grow : {t ls s : List ℕ} {m k i L z : ℕ} {bs : List Block} → HoldsL t ls s m k i bs L z → i ≤ z
lines-grow (no-line p q) = omega arith
lines-grow (a-line n f w b p l) = let h = lines-grow l in let g = grows-b b in omega arith

-- behind the last line there is none
pub record NoLines (bs : List Block) : Type 0 where
  pub is : bs ≡ []

pub no-lines : {t ls s : List ℕ} {m k i L z : ℕ} {bs : List Block} → k ≡ L → HoldsL t ls s m k i bs L z → NoLines bs
no-lines e (no-line p q) = record { is = refl }
no-lines e (a-line n f w b p l) = absurd (let h = lines-count l in omega arith)

-- what the first line and the others count, and how deep they are
pub record LinesSum (b : Block) (bs cs : List Block) : Type 0 where
  pub nodes : (ofLines cs).nodes ≡ (ofBlock b).nodes + (ofLines bs).nodes
  pub strings : (ofLines cs).strings ≡ (ofBlock b).strings + (ofLines bs).strings
  pub characters : (ofLines cs).characters ≡ (ofBlock b).characters + (ofLines bs).characters
  pub sections : widths cs ≡ width b + widths bs
  pub own : ownCosts cs ≡ ownCost b + ownCosts bs
  pub inner : innerAll cs ≡ innerNodes b + innerAll bs
  pub first-deep : deep b ≤ deepest cs
  pub rest-deep : deepest bs ≤ deepest cs

lines-sum : (b : Block) (bs cs : List Block) → cs ≡ (b ∷ bs) → LinesSum b bs cs
unfolding ofLines both widths ownCosts innerAll deepest
lines-sum b bs cs e = rw e (record { nodes = refl; strings = refl; characters = refl; sections = refl; own = refl; inner = refl; first-deep = omega arith; rest-deep = omega arith })

-- line k by its word
pub record LineHeld (t ls s : List ℕ) (m k i L : ℕ) (bs : List Block) (z : ℕ) : Type 0 where
  pub block : Block
  pub others : List Block
  pub last : ℕ
  pub is : bs ≡ (block ∷ others)
  pub here : HoldsB t s m (countIn (get_or ls k 0)) (firstIn (get_or ls k 0)) block last
  pub behind : HoldsL t ls s m (k + 1) last others L z
  pub ends : last ≤ z
  pub more : k < L
  pub sum : LinesSum block others bs

held-at : {t s : List ℕ} {m n n' i i' z : ℕ} {x : Block} → n ≡ n' → i ≡ i' → HoldsB t s m n i x z → HoldsB t s m n' i' x z
held-at p q h = rw (p, q) at h

pub line-held : {t ls s : List ℕ} {m k i L z : ℕ} {bs : List Block} → (k ≡ L → ⊥) → HoldsL t ls s m k i bs L z → LineHeld t ls s m k i L bs z
unfolding lineWord
line-held h (no-line p q) = absurd (omega arith)
line-held {ls = ls} {k = k} {i = i} h (a-line n f w b e l) =
    let p : n ≡ countIn (get_or ls k 0) = omega (arith, w) in
    let q : i ≡ firstIn (get_or ls k 0) = omega (arith, w) in
    let y = held-at p q b in
    record { block = _; others = _; last = _; is = refl; here = y; behind = rw (← e) l; ends = lines-grow l; more = omega (arith, lines-count l); sum = lines-sum _ _ _ refl }

pub owns-most : (bs : List Block) → ownCosts bs + instrsANode * innerAll bs ≤ instrsANode * (ofLines bs).nodes
unfolding ownCosts innerAll ofLines both emptyTally
owns-most [] = omega arith
owns-most (b ∷ bs) = let h = own-most b in let k = owns-most bs in omega arith

-- ---- sections in two places

pub parted-none : {line n head at : ℕ} {is se : List ℕ} → Parted [] [] line n head at head at is is se se
unfolding allCode runWords
parted-none {head = head} {at = at} = record { code = refl; heads-end = sym (add-zero head); tails-end = sym (add-zero at); words = refl }

pub parted-more : {a a' b b' : List SectionCode} {line line1 n n1 head at h1 at1 h2 at2 : ℕ} {is is1 is2 se se1 se2 : List ℕ}
    → Parted a b line n head at h1 at1 is is1 se se1 → line1 ≡ line + length a → n1 ≡ n + length b
    → Parted a' b' line1 n1 h1 at1 h2 at2 is1 is2 se1 se2
    → head + length (allCode a) + length (allCode a') ≤ at → line + length a + length a' ≤ n
    → Parted (a ++ a') (b ++ b') line n head at h2 at2 is is2 se se2
parted-more {a} {a'} {b} {b'} {line} {line1} {n} {n1} {head} {at} {h1} {at1} {h2} {at2} {is} {is1} {is2} {se} {se1} {se2} x e f y p q =
    let la = length-map (allCode a) insWord in
    let la' = length-map (allCode a') insWord in
    let lb = length-map (allCode b) insWord in
    let ra = words-length head a in
    let ra' = words-length (head + length (allCode a)) a' in
    let rb = words-length at b in
    record {
      code = rw (y.code, x.code, x.heads-end, x.tails-end, code-append a a', code-append b b', map-append insWord (allCode a) (allCode a'), map-append insWord (allCode b) (allCode b'), ← la, ← lb)
          (two-runs is head at (map insWord (allCode a)) (map insWord (allCode a')) (map insWord (allCode b)) (map insWord (allCode b')) (omega (arith, la, la', p)));
      heads-end = rw (code-append a a', length-append) (omega (arith, x.heads-end, y.heads-end));
      tails-end = rw (code-append b b', length-append) (omega (arith, x.tails-end, y.tails-end));
      words = rw (y.words, x.words, e, f, x.heads-end, x.tails-end, words-append head a a', words-append at b b', ← ra, ← rb)
          (two-runs se line n (runWords head a) (runWords (head + length (allCode a)) a') (runWords at b) (runWords (at + length (allCode b)) b') (omega (arith, ra, ra', q)));
    }

-- ---- all lines

pub script-length : (bs : List Block) (g : CodegenData) → length (annotateLines bs g).0 ≡ length bs
unfolding annotateLines
script-length [] g = refl
script-length (b ∷ bs) g = ap suc (script-length bs (annotateStmts b g).1)

-- the counts of equal counters
pub record SameCounts (c d : Counters) : Type 0 where
  pub at : d.at ≡ c.at
  pub numbers : d.numbers ≡ c.numbers
  pub strings : d.strings ≡ c.strings
  pub chars : d.chars ≡ c.chars
  pub values : d.values ≡ c.values

pub same-counts : {c d : Counters} → d ≡ c → SameCounts c d
same-counts q = rw q (record { at = refl; numbers = refl; strings = refl; chars = refl; values = refl })

pub lines-none : {m L k n head : ℕ} {c : Counters} {t : Lent} {se : List ℕ} (bs : List Block) → bs ≡ [] → LinesDone m L k bs n head c t t se se head c n
unfolding annotateLines ownCosts innerAll ofLines emptyTally widths
lines-none bs e =
    rw e
    (record {
      does = λ b g r p q. record { regs = r; parted = parted-none };
      cost = omega arith;
      spent = omega arith;
      number-is = omega arith;
    })

pub lines-more : {m L k k1 : ℕ} (x : Block) (bs cs : List Block) {n n1 n2 head h1 h2 : ℕ} {c d c1 c2 : Counters} {t t1 t2 : Lent} {se se1 se2 : List ℕ} (nl : Section)
    → cs ≡ (x ∷ bs) → k1 ≡ k + 1 → k1 + length bs ≡ L → nl.0 ≡ nextLine L k → d ≡ aimedAt c nl
    → LineDone m x k n head d t t1 se se1 h1 c1 n1 → LinesDone m L k1 bs n1 h1 c1 t1 t2 se1 se2 h2 c2 n2
    → LinesDone m L k cs n head c t t2 se se2 h2 c2 n2
unfolding annotateLines
lines-more {m} {L} {k} {k1} x bs cs {n} {n1} {n2} {head} {h1} {h2} {c} {d} {c1} {c2} {t} {t1} {t2} {se} {se1} {se2} nl e o w v dd a z =
    let sm = lines-sum x bs cs e in
    let sc = same-counts dd in
    record {
      does = λ b g r p q. went b g r (omega (arith, sm.own, p)) q;
      cost = omega (arith, a.cost, z.cost, sm.own);
      spent = omega (arith, a.spent, z.spent, sm, sc);
      number-is = omega (arith, a.number-is, z.number-is, sm.sections);
    }
  where
    went : (b : Lent) (g : CodegenData) → Regs m c.err.0 b c t g → head + (ownCost x + ownCosts bs) ≤ c.at → L ≤ n → LinesWent m L k n head h2 b c t t2 se se2 c2 (annotateLines cs g)
    went b g r p q =
        let E = nextLine L k in
        let S = (annotateStmts x g).0 in
        let g1 = (annotateStmts x g).1 in
        let d0 = (same-counts dd).at in
        let u : LineWent m nl.0 k n head h1 b d t t1 se se1 c1 (annotateStmts x g) = a.does nl.0 b g (rw dd (regs-moved c.at nl refl r)) in
        let sec = stmtSections true E n E S in
        let up : Parted (headOf E sec ∷ []) (tailOf sec) k n head c.at h1 c1.at t.instrs t1.instrs se se1 = rw (v, d0) at u.parted in
        let s : n1 ≡ n + sectionsMade S = a.number-is ∙ ap (λ (y : ℕ). n + y) (sym (made-width x g)) in
        let ends = up.tails-end in
        let vv : LinesWent m L k1 n1 h1 h2 b c1 t1 t2 se1 se2 c2 (annotateLines bs g1) =
        z.does b g1 (regs-moved c1.at c1.err refl u.regs) (omega (arith, a.cost, d0, p, ends)) (omega (arith, a.number-is, q)) in
        let ss = (annotateLines bs g1).0 in
        let vp : Parted (heads L (suc k) (n + sectionsMade S) ss) (tails L (suc k) (n + sectionsMade S) ss) (suc k) (n + sectionsMade S) h1 c1.at h2 c2.at t1.instrs t2.instrs se1 se2 =
        rw (s, o, add-one k) at vv.parted in
        let l1 : length (tailOf sec) ≡ sectionsMade S = length-tailOf sec ∙ length-low true E n E S in
        let hl = heads-length L (suc k) (n + sectionsMade S) ss in
        let sl = script-length bs g1 in
        rw e
        (record {
          regs = vv.regs;
          parted = parted-more up (sym (add-one k)) (ap (λ (y : ℕ). n + y) (sym l1)) vp (omega (arith, up.heads-end, vp.heads-end, a.cost, z.cost, p)) (omega (arith, hl, sl, w, o, q));
        })

-- ---- line by line: the sum of their costs

pub costs-on : {t ls : List ℕ} {L k sum cost : ℕ} → CostsMid t ls L k sum → k < L
    → ((s : List ℕ) (m : ℕ) (x : Block) (z : ℕ) → length s ≤ mostBytes → m ≤ 2 ^ nameBits → HoldsB t s m (countIn (get_or ls k 0)) (firstIn (get_or ls k 0)) x z → cost ≡ ownCost x)
    → CostsMid t ls L (k + 1) (sum + cost)
costs-on c h f =
    record {
      sums = λ s m bs i z a b q.
          let u = c.sums s m bs i z a b q in
          let lh = line-held (λ e. omega arith) u.held in
          record { rest = lh.others; first = lh.last; held = lh.behind; all = omega (arith, u.all, lh.sum.own, f s m lh.block lh.last a b lh.here) };
    }

pub costs-end : {t ls s : List ℕ} {L k sum m i z : ℕ} {bs : List Block} → CostsMid t ls L k sum → k ≡ L → length s ≤ mostBytes → m ≤ 2 ^ nameBits → HoldsL t ls s m 0 i bs L z → sum ≡ ownCosts bs
unfolding ownCosts
costs-end {sum = sum} c e a b h =
    let u = c.sums _ _ _ _ _ a b h in
    let n : ownCosts u.rest ≡ 0 = rw (no-lines e u.held).is refl in
    omega (arith, u.all, n)

-- ---- line by line: their sections

module _ {s t ls : List ℕ} {L n0 head0 : ℕ} {c0 : Counters} {t0 : Lent} {se0 : List ℕ} {k n head : ℕ} {c : Counters} {t1 : Lent} {se : List ℕ} (mid : LinesMid s t ls L n0 head0 c0 t0 se0 k n head c t1 se) where
  pub lines-on : {d c1 : Counters} {t2 : Lent} {se2 : List ℕ} {h1 n1 : ℕ} (nl : Section) → k < L → nl.0 ≡ nextLine L k → d ≡ aimedAt c nl → SameLengths t1 t2 se se2
      → ((m : ℕ) (x : Block) (z : ℕ) → m ≤ 2 ^ nameBits → HoldsB t s m (countIn (get_or ls k 0)) (firstIn (get_or ls k 0)) x z → LineDone m x k n head d t1 t2 se se2 h1 c1 n1)
      → LinesMid s t ls L n0 head0 c0 t0 se0 (k + 1) n1 h1 c1 t2 se2
  lines-on nl h v dd same f =
      let p = mid.ready in
      let sc = same-counts dd in
      let lh = line-held (λ e. omega arith) p.lines.held in
      let ld = f _ _ _ p.lines.few lh.here in
      record {
        ready = record {
          lines = record { known = p.lines.known; blocks = lh.others; first = lh.last; last = p.lines.last; held = lh.behind; inside = p.lines.inside; short = p.lines.short; few = p.lines.few; words = p.lines.words };
          few-lines = p.few-lines;
          shallow = omega (arith, p.shallow, lh.sum.rest-deep);
          ample = omega (arith, p.ample, lh.sum, sc, ld.cost, ld.spent, ld.number-is, own-most lh.block, same);
          behind = omega (arith, p.behind, lh.sum, sc, ld.spent, same);
          first-lines = omega (arith, p.first-lines, ld.number-is);
        };
        going = λ m bs i z a q.
            let u = mid.going m bs i z a q in
            let lu = line-held (λ e. omega arith) u.held.1 in
            record {
              others = lu.others;
              held = (lu.last, lu.behind);
              goes = λ t3 se3 c3 h3 n3 e. u.goes t3 se3 c3 h3 n3 (lines-more lu.block lu.others u.others nl lu.is refl (lines-count lu.behind) v dd (f m _ _ a lu.here) e);
            };
      }

  pub lines-end : {m i z : ℕ} {bs : List Block} → k ≡ L → m ≤ 2 ^ nameBits → HoldsL t ls s m 0 i bs L z → LinesDone m L 0 bs n0 head0 c0 t0 t1 se0 se head c n
  lines-end e a h = let u = mid.going _ _ _ _ a h in u.goes _ _ _ _ _ (lines-none u.others (no-lines e u.held.1).is)
