-- What each step of lower asks follows from what the step before it gives, and lower of rules at each refusal. Assumes nothing.
use mathlib.Core.Path.{◌≡◌, sym, ap, ◌∙◌, subst}
use mathlib.Core.Bool.{true, false, ◌&&◌}
use mathlib.Core.List.{List, [], ◌∷◌, ◌++◌, map}
use Prim.Native.Nat.{ℕ, ◌*◌, ◌-◌, ◌≤◌}
use native.Mathlib.Omega.{arith}
use lib.Dec.{leb}
use lib.IntN.{ℤ, pos}
use lib.ListN.{length, take, drop, replicate, length-map}
use lib.Seq.{length-take-le}
use borrow.Author.Tests.{leb-true}
use Rattle.rules.specs.Bits.{refused, ok}
use Rattle.rules.specs.Refusal as Refusal
use Rattle.rules.specs.Constants.{mostLines, mostCount}
use Rattle.rules.specs.Tree.{Tree, Block, ofLines, both as bothTallies}
use Rattle.rules.specs.Tree as Tree
use Rattle.rules.specs.Parse.{parse}
use Rattle.rules.specs.Word.{insWord}
use Rattle.rules.specs.Tables.{Tables, Counts, allCode, encode, countsOf}
use Rattle.rules.specs.Lowered.{Options, defaults, assemble}
use Rattle.rules.specs.Operations.{sizeOf, estimate, holds, build, lower}
use Rattle.bounds.specs.Parsed.{parsed}
use Rattle.bounds.specs.LimitsTree.{limits}
use Rattle.bounds.proofs.Estimate.{estimated}
use Rattle.bounds.proofs.Bounds.{small}
use Rattle.bounds.specs.Bounds.{few-lines}
use Rattle.laws.specs.Lists.{both}
use Rattle.nodes.proofs.Width.{four}
use Rattle.replace.specs.Pass.{Ready, Rewrote}
use Rattle.nodes.specs.Builds.{mostNodesOf}
use Rattle.tree.specs.Files.{HoldsTree, Placed, Treed, TreeAt, TreeRead, sized, widths}
use Rattle.tree.specs.declared.Sizes.{Sizes}
use Rattle.std.specs.Prelude.{Result, Ok, Err}
use Rattle.params.specs.declared.refusal.Refusal.{Refusal as Why}
use Rattle.params.specs.Told.{numberOf}
use Rattle.program.specs.Program.{over, Laid, TreeReady}
use Rattle.lower.specs.Lower.{Limited, Given, Roomy, Assembled}
use Rattle.lower.proofs.Words.{part-fits, part-whole}
use Rattle.lower.proofs.Depth.{deep-parsed}
use Rattle.lower.proofs.Before as Before
use Rattle.lower.proofs.Done as Done

-- ---- counts of a tree

lines-widths : (bs : List Block) → widths bs ≤ 4 * (ofLines bs).statements
unfolding widths ofLines bothTallies Tree.emptyTally
lines-widths [] = omega arith
lines-widths (b ∷ bs) = omega (arith, four b, lines-widths bs)

-- ---- room

pub record Rooms (l : Tables) (u : Counts) : Type 0 where
  pub sections : u.sections ≤ length l.sections
  pub instrs : u.instrs ≤ length l.instrs
  pub numbers : u.numbers ≤ length l.numbers
  pub strings : u.strings ≤ length l.strings
  pub pool : u.pool ≤ length l.pool
  pub names : u.names ≤ length l.names

pub rooms : (l : Tables) (u : Counts) → holds l u ≡ true → Rooms l u
unfolding holds
rooms l u e =
    let a = leb u.sections (length l.sections) in
    let b = leb u.instrs (length l.instrs) in
    let c = leb u.numbers (length l.numbers) in
    let d = leb u.strings (length l.strings) in
    let f = leb u.pool (length l.pool) in
    let p = both (a && b && c && d && f) _ e in
    let q = both (a && b && c && d) _ p.0 in
    let r = both (a && b && c) _ q.0 in
    let s = both (a && b) _ r.0 in
    let t = both a _ s.0 in
    record {
      sections = leb-true _ _ t.0;
      instrs = leb-true _ _ t.1;
      numbers = leb-true _ _ s.1;
      strings = leb-true _ _ r.1;
      pool = leb-true _ _ q.1;
      names = leb-true _ _ p.1;
    }

-- ---- the tree

module _ {s t ls : List ℕ} {r : Result Sizes Why} (h : TreeRead s t ls r) where
  pub tree_ok : {z : Sizes} → r ≡ Ok z → Treed s t ls z
  tree_ok e = subst (TreeAt s t ls) e h.here

  pub tree_no : {n : Why} → r ≡ Err n → parse s ≡ refused (numberOf n)
  tree_no e = subst (TreeAt s t ls) e h.here

module _ {s t ls : List ℕ} {z : Sizes} (h : Treed s t ls z) where
  pub limited : Limited (sized z)
  unfolding sizeOf
  limited =
      let k = limits s h.val h.parses in
      let n = (few-lines h.val.lines).statements in
      rw h.size-is (record { lines = omega (arith, k.most-lines); statements = omega (arith, n, k.most-nodes); nodes = k.most-nodes })

  pub given : (u : Counts) → u ≡ estimate (sized z) → mostNodesOf (length s) ≤ length t → mostLines ≤ length ls → Given s t ls u
  unfolding sizeOf
  given u e p q =
      let k = limits s h.val h.parses in
      record {
        tree = h.val;
        last = z.nodes;
        parses = h.parses;
        held = h.holds;
        placed = h.names;
        inside = omega (arith, h.within);
        line-words = omega (arith, k.most-lines);
        estimates = e ∙ ap estimate h.size-is;
      }

module _ (s t ls : List ℕ) (u : Counts) (l : Tables) (h : Roomy s t ls u l) where
  pub tree-ready : (i : ℕ) → i ≡ u.instrs → TreeReady s t ls u.lines u.names i (length l.numbers) (length l.strings) (length l.pool) (length l.names) (length l.sections)
  unfolding estimate sizeOf countsOf
  tree-ready i i-is =
      let g = h.given in
      let x = g.tree in
      let k = limits s x g.parses in
      let r = rooms l u h.room in
      let e = g.estimates in
      let w = lines-widths x.lines in
      let n = (few-lines x.lines).statements in
      let y = estimated defaults x in
      let v = small defaults s x g.parses in
      let sections = ap (λ (c : Counts). c.sections) e in
      let instrs = ap (λ (c : Counts). c.instrs) e in
      let numbers = ap (λ (c : Counts). c.numbers) e in
      let strings = ap (λ (c : Counts). c.strings) e in
      let pool = ap (λ (c : Counts). c.pool) e in
      let names = ap (λ (c : Counts). c.names) e in
      let lines = ap (λ (c : Counts). c.lines) e in
      record {
        tree = x;
        last = g.last;
        held = g.held;
        placed = g.placed;
        lines = sym lines;
        names = sym names;
        short = (parsed s x g.parses).bytes;
        inside = g.inside;
        line-words = omega (arith, lines, g.line-words);
        few-lines = omega (arith, lines, k.most-lines);
        few-names = omega (arith, names, k.most-names);
        few-nodes = k.most-nodes;
        shallow = deep-parsed s x g.parses;
        few-strings = omega (arith, y.strings, v.strings);
        few-characters = omega (arith, k.most-chars);
        few-sections = omega (arith, lines, k.most-lines, w, n, k.most-nodes);
        room = omega (arith, i-is, instrs);
        numbers-room = omega (arith, numbers, r.numbers);
        strings-room = omega (arith, strings, r.strings);
        pool-room = omega (arith, pool, r.pool);
        names-room = r.names;
        sections-room = omega (arith, lines, sections, w, r.sections);
        small = omega (arith, i-is, instrs, k.most-nodes);
      }

module _ (o : Options) (s t ls : List ℕ) (u : Counts) (l : Tables) (h : Roomy s t ls u l) (l' : Tables) (c : Counts) where
  abbrev part : Tables
  part = record { sections = l.sections; instrs = take u.instrs l.instrs; numbers = l.numbers; strings = l.strings; pool = l.pool; names = l.names }

  abbrev joined : Tables
  joined = record { sections = l'.sections; instrs = l'.instrs ++ drop u.instrs l.instrs; numbers = l'.numbers; strings = l'.strings; pool = l'.pool; names = l'.names }

  pub assembled :
      ((x : Tree) (z : ℕ) → HoldsTree s t ls x z → Placed s x.names → length x.lines ≡ u.lines → length x.names ≡ u.names → Laid (assemble o x) part l' c) →
      length l'.instrs ≡ length (take u.instrs l.instrs) → Assembled o s u l joined c
  unfolding estimate sizeOf countsOf encode
  assembled e n =
      let g = h.given in
      let x = g.tree in
      let q = e x g.last g.held g.placed (sym (ap (λ (c : Counts). c.lines) g.estimates)) (sym (ap (λ (c : Counts). c.names) g.estimates)) in
      let r = (rooms l u h.room).instrs in
      let ws = map insWord (allCode (assemble o x).sections) in
      let i : length (over ws (take u.instrs l.instrs)) ≡ u.instrs = ap length (sym q.instrs) ∙ (n ∙ length-take-le u.instrs l.instrs r) in
      record {
        tree = x;
        parses = g.parses;
        estimates = g.estimates;
        laid = record {
          sections = q.sections;
          instrs = ap (λ (y : List ℕ). y ++ drop u.instrs l.instrs) q.instrs ∙ part-whole ws l.instrs u.instrs r i;
          numbers = q.numbers;
          strings = q.strings;
          pool = q.pool;
          names = q.names;
          counts = q.counts;
        };
        within = omega (arith, part-fits ws l.instrs u.instrs r i, length-map (allCode (assemble o x).sections) insWord, ap (λ (c : Counts). c.instrs) q.counts);
      }

-- ---- the machine before replacement

module _ {o : Options} {s : List ℕ} {u : Counts} {l l' : Tables} {c : Counts} (a : Assembled o s u l l' c) where
  few : c.instrs ≤ mostCount
  unfolding estimate sizeOf
  few = omega (arith, a.within, ap (λ (v : Counts). v.instrs) a.estimates, (limits s a.tree a.parses).most-nodes)

  pub replace-ready : Ready l'.sections l'.instrs l'.numbers l'.strings c.sections c.instrs c.numbers c.strings c.pool
  replace-ready = Before.ready o s a.tree a.parses l l' c a.laid few

  pub sections-within : c.sections ≤ u.sections
  sections-within = rw (a.laid.counts, a.estimates) (Done.sections-within o a.tree)

  pub numbers-within : c.numbers ≤ u.numbers
  numbers-within = rw (a.laid.counts, a.estimates) (Done.numbers-within o a.tree)

  pub lower-done : (ss is : List ℕ) (ns : List ℤ) (ts : List ℕ) (b k r : ℕ) → Rewrote l'.sections l'.instrs l'.numbers l'.strings ss is ns ts c.sections c.instrs c.numbers c.strings c.pool b k r →
      holds l u ≡ true → (ss' is' : List ℕ) (ns' : List ℤ) →
      ss' ≡ take c.sections ss ++ (replicate (u.sections - c.sections) 0 ++ drop u.sections ss) →
      is' ≡ take c.instrs is ++ (replicate (u.instrs - c.instrs) 0 ++ drop u.instrs is) →
      ns' ≡ take c.numbers ns ++ (replicate (u.numbers - c.numbers) (pos 0) ++ drop u.numbers ns) →
      (ok (record { lines = c.lines; sections = c.sections; instrs = b; numbers = k; strings = r; pool = c.pool; names = c.names; values = c.values }), record { sections = ss'; instrs = is'; numbers = ns'; strings = ts; pool = l'.pool; names = l'.names }) ≡ lower o s l
  lower-done ss is ns ts b k r w room ss' is' ns' p q v = Done.lower-done o s a.tree a.parses l l' c a.laid few ss is ns ts b k r w u a.estimates a.within room ss' is' ns' p q v

-- ---- refusals

module _ (o : Options) (s : List ℕ) (l : Tables) where
  pub lower_no : (n : ℕ) → parse s ≡ refused n → (refused n, l) ≡ lower o s l
  unfolding lower build
  lower_no n e = rw (e, lower, build)

  pub lower-11 : (t ls : List ℕ) (u : Counts) → Given s t ls u → holds l u ≡ false → (refused Refusal.noRoom, l) ≡ lower o s l
  unfolding lower build
  lower-11 t ls u g e = let d = rw g.estimates at e in rw (g.parses, d, lower, build)
