-- The results: of every accepted tree, preservation and what it rests on; of every machine, what joining and combining keep. `Finishes` (Calls) and
-- `Combines` (Handed) say it of the calls finish and combine themselves.
use Rattle.std.specs.Prelude.{◌≡◌, true, ℕ, suc, ◌<◌, length}
use Rattle.std.proofs.Math.Path.{sym, ap₂, subst}
use Rattle.std.proofs.Common.{◌∙◌}
use Rattle.std.proofs.Math.Option.{none}
use mathlib.Core.List.{List, []}
use Rattle.rules.specs.Bits.{ok}
use Rattle.rules.specs.Tree.{Tree}
use Rattle.rules.specs.Parse.{parse}
use Rattle.rules.specs.Machine.{SectionCode}
use Rattle.rules.specs.Tables.{Tables, Counts, countsOf, encode, fits}
use Rattle.rules.specs.Annotate.{annotate}
use Rattle.rules.specs.Assemble.{sectionsOf}
use Rattle.rules.specs.Clean.{cleanSections, cleaned}
use Rattle.rules.specs.Combine.{combineAt, combineSections, pair}
use Rattle.rules.specs.Lowered.{Options, assemble, lowered, finished}
use Rattle.rules.specs.Operations.{sizeOf, estimate, cleanIn, combineIn, combine, finish}
use Rattle.rules.specs.Walk.{walkSections, walk}
use Rattle.rules.specs.ReadScript.{readScript}
use Rattle.rules.specs.Reading.{script, reading}
use Rattle.rules.specs.Preservation.{SameWalk, Preserves}
use Rattle.walks.specs.Claim.{Alike}
use Rattle.walks.specs.Walks.{same-walk}
use Rattle.walks.specs.Codegen.{codegen}
use Rattle.joins.specs.Along.{Ready, combine-ends}
use Rattle.joins.specs.Pairs.{Pair}
use Rattle.walks.specs.CombineWalk.{join-keeps, combine-keeps}
use Rattle.joins.specs.Joins.{length-join}
use Rattle.walks.proofs.FinishWalk.{low-same, clean-is}
use Rattle.bounds.specs.LimitsTree.{limits}
use Rattle.bounds.proofs.Estimate.{WithinEstimate, estimated}
use Rattle.bounds.specs.Bounds.{Small}
use Rattle.bounds.proofs.Bounds.{small}
use Rattle.machines.specs.TreeFits.{pos, lines-are, lowered-fits, cleaned-fits, finished-fits}
use Rattle.bounds.proofs.Stay as Stay
use Rattle.walks.proofs.PreservationProof as Proof
use Rattle.machines.specs.Passes as Passes
use Rattle.walks.specs.Calls.{Finishes}
use Rattle.walks.proofs.Calls.{finishes}
use Rattle.walks.specs.Handed.{Combines, combines}

-- ---- joins, of any machine in which every section is fixed and the lines' sections are line starts

module _ (L : ℕ) (lines : 0 < L) (m : List SectionCode) (ready : Ready L m) (i j : ℕ) (p : Pair m i j) where
  -- A join preserves every walk,
  pub join-preserves : (os : List ℕ) → Alike (walkSections (combineAt m i j) L os) (walkSections m L os)
  join-preserves os =
      let k = join-keeps L lines m ready i j p in
      same-walk (walkSections (combineAt m i j) L os) (walkSections m L os) (k.back os) (k.there os)

  -- and takes one section away, so joining ends.
  pub join-shortens : suc (length (combineAt m i j)) ≡ length m
  join-shortens = length-join m i j p

-- Combining preserves every walk of such a machine, and ends where no pair is left.
module _ (L : ℕ) (lines : 0 < L) (m : List SectionCode) (ready : Ready L m) where
  pub combine-preserves : (os : List ℕ) → Alike (walkSections (combineSections m) L os) (walkSections m L os)
  combine-preserves os =
      let k = combine-keeps L lines m ready in
      same-walk (walkSections (combineSections m) L os) (walkSections m L os) (k.back os) (k.there os)

  pub combine-leaves-none : pair (combineSections m) ≡ none
  combine-leaves-none = combine-ends m

-- ---- a tree

module _ (o : Options) (s : List ℕ) (t : Tree) (accepted : parse s ≡ ok t) where
  -- Lowering: the lowered machine simulates the reading,
  pub lowered-same : (os : List ℕ) → SameWalk (walk (lowered o t) os) (reading t os)
  unfolding walk reading
  lowered-same os =
      let l = limits s t accepted in
      let k = script t in
      subst
      (λ (m : List SectionCode). SameWalk (walkSections m (lowered o t).lines os) (readScript k os))
      (sym (Stay.lowered-sections o t))
      (subst (λ (L : ℕ). SameWalk (walkSections (sectionsOf k) L os) (readScript k os)) (sym (lines-are o t l)) (low-same k (pos o t l) os))

  -- makes the sections that codegen.rs makes,
  pub lowered-by-codegen : (assemble o t).sections ≡ codegen (annotate t).0
  lowered-by-codegen = Proof.assembled-by-steps o t

  -- keeps within the estimates,
  pub lowered-estimated : WithinEstimate (countsOf (lowered o t)) (estimate (sizeOf t))
  lowered-estimated = estimated o t

  -- and within 65,535.
  pub lowered-small : Small (countsOf (lowered o t))
  lowered-small = small o s t accepted

  -- Replacement adds no register: numbers and strings are those that lowering counted.
  pub numbers-stay : (lowered o t).numbers ≡ (assemble o t).numbers
  numbers-stay = Stay.numbers-stay o t

  pub strings-stay : (lowered o t).strings ≡ (assemble o t).strings
  strings-stay = Stay.strings-stay o t

  -- Cleaning does not refuse it (13 never occurs), and keeps each step of its walk.
  pub cleaned-is : (l : Tables) → cleanIn l (lowered o t) ≡ ok (cleaned (lowered o t))
  cleaned-is = Passes.clean-accepts o s t accepted

  pub cleaned-same : (os : List ℕ) (k : ℕ) → walk (cleaned (lowered o t)) os k ≡ walk (lowered o t) os k
  unfolding walk cleaned
  cleaned-same os k =
      let l = limits s t accepted in
      let c = script t in
      let a = lines-are o t l in
      let b = Stay.lowered-sections o t in
      ap₂ (λ (m : List SectionCode) (L : ℕ). walkSections (cleanSections m) L os k) b a ∙ (clean-is c (pos o t l) os k ∙ sym (ap₂ (λ (m : List SectionCode) (L : ℕ). walkSections m L os k) b a))

  -- Combining does not refuse the cleaned machine (neither 14 nor 15 occurs), and leaves no pair.
  pub combined-is : (l : Tables) → combineIn l (cleaned (lowered o t)) ≡ ok (finished o t)
  combined-is = Passes.combine-accepts o s t accepted

  pub combined-whole : pair (finished o t).sections ≡ none
  combined-whole = (Proof.preservation o s t accepted []).noPair

  pub finished-estimated : WithinEstimate (countsOf (finished o t)) (estimate (sizeOf t))
  finished-estimated = Passes.finished-estimated o s t accepted

  -- The lowered, the cleaned and the finished machine keep the rules of machine words.
  pub lowered-keeps-rules : fits (encode (lowered o t)) (countsOf (lowered o t)) ≡ true
  lowered-keeps-rules = lowered-fits o s t accepted

  pub cleaned-keeps-rules : fits (encode (cleaned (lowered o t))) (countsOf (cleaned (lowered o t))) ≡ true
  cleaned-keeps-rules = cleaned-fits o s t accepted

  pub finished-keeps-rules : fits (encode (finished o t)) (countsOf (finished o t)) ≡ true
  finished-keeps-rules = finished-fits o s t accepted

  -- for every list of outcomes, the finished machine's walk preserves the tree's reading
  pub preservation : (os : List ℕ) → Preserves o t os
  preservation = Proof.preservation o s t accepted

-- ---- the calls

-- For every machine that is handed to combine and not refused: the words that it leaves are those of the combined machine, whose walks are those of
-- the one handed in, and which has no pair.
pub combine-handed : (l : Tables) (u v : Counts) → (combine l u).0 ≡ ok v → Combines l u v
combine-handed = combines

-- For every byte string and lent tables that finish does not refuse: the words that it leaves are the finished machine of the tree that was
-- read, whose walk preserves the reading for every list of outcomes.
pub finish-preserves : (o : Options) (s : List ℕ) (l : Tables) (u : Counts) → (finish o s l).0 ≡ ok u → Finishes o s l u
finish-preserves = finishes
