-- The results: of every machine that combine does not refuse, and of every accepted tree, joins in any order end as combining does, and a tree's machine
-- midway is walked as the tree is read; the same of the words that combine and finish leave. Of any machine see Orders.
use Rattle.std.specs.Prelude.{◌≡◌, List, ◌++◌, ℕ, length}
use Rattle.std.proofs.Common.{sym, ap, ap₂, subst, ◌∙◌}
use Rattle.std.proofs.Math.Option.{some}
use Rattle.rules.specs.Bits.{Res, ok}
use Rattle.rules.specs.Clean.{cleanSections, cleaned}
use Rattle.rules.specs.Combine.{next, combineAt, combined}
use Rattle.rules.specs.JoinOrder.{joinPair, joinPairs, EndsIn, EveryOrderEndsIn, JoiningIsOrderIndependent}
use Rattle.rules.specs.Lowered.{Options, lowered, finished}
use Rattle.rules.specs.Machine.{SectionCode, Machine}
use Rattle.rules.specs.Operations.{sizeOf, estimate, write, finish, combineIn, combine}
use Rattle.rules.specs.Parse.{parse}
use Rattle.rules.specs.Preservation.{SameWalk}
use Rattle.rules.specs.Reading.{script, reading}
use Rattle.rules.specs.Assemble.{sectionsOf}
use Rattle.rules.specs.ReadScript.{readScript}
use Rattle.rules.specs.Tables.{Tables, Counts, encode, countsOf}
use Rattle.rules.specs.Tree.{Tree}
use Rattle.rules.specs.Walk.{walkSections, walk}
use Rattle.joins.specs.Pairs.{to-pair}
use Rattle.bounds.proofs.Stay.{lowered-sections}
use Rattle.bounds.specs.LimitsTree.{limits}
use Rattle.machines.specs.Back.{built}
use Rattle.machines.specs.Passes.{combine-accepts}
use Rattle.machines.specs.TreeFits.{pos, ready, lines-are, finished-fit}
use Rattle.walks.proofs.FinishWalk.{joined-same}
use Rattle.walks.specs.CombineWalk.{Kept, join-keeps, kept-trans, kept-self}
use Rattle.walks.specs.Handed.{combine-accepted, combines}
use Rattle.gather.proofs.Theorems.{ahead-ringless}
use Rattle.orders.proofs.Orders.{joins-keep, joins-go-on, every-order}
use Rattle.orders.specs.Calls.{FinishesInAnyOrder, CombinesInAnyOrder}

-- ---- a machine that combine does not refuse

-- Whatever the order, it ends as combine leaves it.
pub accepted-every-order : (l : Tables) (m r : Machine) → combineIn l m ≡ ok r → EveryOrderEndsIn m r
accepted-every-order l m r e =
    let a = combine-accepted l m r e in
    subst (EveryOrderEndsIn m) a.gives (every-order m (ahead-ringless m.sections a.ahead))

-- ---- a tree

-- with L lines, and keeping what the sections S meet and ask
abbrev Joined : ℕ → List SectionCode → Machine → Type 0
Joined L S m = (m.lines ≡ L) × Kept L S m.sections

module _ (o : Options) (s : List ℕ) (t : Tree) (accepted : parse s ≡ ok t) where
  -- Whatever the order, its cleaned machine ends in the finished one.
  pub tree-every-order : EveryOrderEndsIn (cleaned (lowered o t)) (finished o t)
  tree-every-order = let m = cleaned (lowered o t) in accepted-every-order (encode m) m (finished o t) (combine-accepts o s t accepted (encode m))

  module _ (ps : List (ℕ × ℕ)) (n : Machine) (begun : joinPairs (cleaned (lowered o t)) ps ≡ some n) where
    -- However joining was begun, combining ends it in the finished machine,
    pub combining-finishes : combined n ≡ finished o t
    combining-finishes = let x = joins-go-on ps (cleaned (lowered o t)) n begun in tree-every-order (ps ++ x.0) (combined n) x.1

    -- and so can joins;
    pub joins-finish : (qs : List (ℕ × ℕ)) × EndsIn (cleaned (lowered o t)) (ps ++ qs) (finished o t)
    joins-finish = let x = joins-go-on ps (cleaned (lowered o t)) n begun in (x.0, subst (EndsIn (cleaned (lowered o t)) (ps ++ x.0)) combining-finishes x.1)

    -- and meanwhile the machine is walked as the tree is read.
    pub midway : (os : List ℕ) → SameWalk (walk n os) (reading t os)
    unfolding walk reading cleaned
    midway os =
        let lim = limits s t accepted in
        let k = script t in
        let L = length k in
        let p = pos o t lim in
        let S = cleanSections (sectionsOf k) in
        let m = cleaned (lowered o t) in
        let e : S ≡ m.sections = ap cleanSections (sym (lowered-sections o t)) in
        let step : (m : Machine) (i j : ℕ) → next m.sections i ≡ some j → Joined L S m → Joined L S (joinPair m (i, j)) =
        λ m i j q d. (d.0, kept-trans L p S m.sections (combineAt m.sections i j) d.1 (join-keeps L p m.sections d.1.ready i j (to-pair m.sections i j q)))
        in
        let d = joins-keep (Joined L S) step ps m n begun (lines-are o t lim, subst (Kept L S) e (kept-self L p S (ready o t lim))) in
        subst (λ (l : ℕ). SameWalk (walkSections n.sections l os) (readScript k os)) (sym d.0) (joined-same k p os n.sections d.1)

-- The order of joins does not matter.
pub joining-is-order-independent : JoiningIsOrderIndependent
joining-is-order-independent o s t e = record { every = tree-every-order o s t e; goesOn = joins-finish o s t e }

-- ---- the calls

-- What combine is handed, joined in any order to the end, has the words that combine leaves,
pub combine-any-order : (l : Tables) (u v : Counts) → (combine l u).0 ≡ ok v → CombinesInAnyOrder l u
combine-any-order l u v e =
    let c = combines l u v e in
    record {
      machine = c.machine;
      decoded = c.decoded;
      words = λ ps n h.
          ap₂ (λ (a : Res Counts) (b : Tables). (a, b)) (e ∙ ap ok c.counts) c.words
          ∙ ap (λ (m : Machine). (ok (countsOf m), write u m l)) (sym (accepted-every-order l c.machine (combined c.machine) c.accepted ps n h));
    }

-- and the cleaned machine of the tree that finish has read, the words that finish leaves.
pub finish-any-order : (o : Options) (s : List ℕ) (l : Tables) (u : Counts) → (finish o s l).0 ≡ ok u → FinishesInAnyOrder o s l
unfolding finish
finish-any-order o s l u e =
    let b = built (finished o) (finished-fit o) s l u e in
    record {
      tree = b.tree;
      parsed = b.parsed;
      words = λ ps n h. b.left ∙ ap (λ (m : Machine). (ok (countsOf m), write (estimate (sizeOf b.tree)) m l)) (sym (tree-every-order o s b.tree b.parsed ps n h));
    }
