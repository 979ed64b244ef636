-- The order of joins, as a statement: in whatever order the sections of a cleaned machine are joined, each time a pair that combining allows, until no pair
-- is left, the machine at the end is the one that finish gives.
use Rattle.std.specs.Prelude.{◌≡◌, Bool, true, false, List, [], ◌∷◌, ◌++◌, ℕ, eqb}
use Rattle.std.proofs.Math.Option.{Option, none, some}
use Rattle.rules.specs.Bits.{ok}
use Rattle.rules.specs.Tree.{Tree}
use Rattle.rules.specs.Parse.{parse}
use Rattle.rules.specs.Machine.{SectionCode, Machine, withSections}
use Rattle.rules.specs.Clean.{cleaned}
use Rattle.rules.specs.Combine.{next, pair, combineAt}
use Rattle.rules.specs.Lowered.{Options, lowered, finished}

-- does combining allow the pair S1, S2: is S2 the section that S1 may take in?
abbrev pub allowed : List SectionCode → ℕ × ℕ → Bool
allowed m p = elim (next m p.0) [ none ↦ false | some j ↦ eqb j p.1 ]

-- a machine with a pair joined
abbrev pub joinPair : Machine → ℕ × ℕ → Machine
joinPair m p = withSections m (combineAt m.sections p.0 p.1)

-- with these pairs joined, one after another; none where one of them is not allowed at its time
abbrev pub joinPairs : Machine → List (ℕ × ℕ) → Option Machine
joinPairs m [] = some m
joinPairs m (p ∷ ps) = elim (allowed m.sections p) [ false ↦ none | true ↦ joinPairs (joinPair m p) ps ]

-- joining these pairs ends in n: each is allowed at its time, and no pair is left
abbrev pub EndsIn : Machine → List (ℕ × ℕ) → Machine → Type 0
EndsIn m ps n = (joinPairs m ps ≡ some n) × (pair n.sections ≡ none)

-- whatever the order in which m is joined to the end, it ends in r
abbrev pub EveryOrderEndsIn : Machine → Machine → Type 0
EveryOrderEndsIn m r = (ps : List (ℕ × ℕ)) (n : Machine) → EndsIn m ps n → n ≡ r

-- of a tree
pub record OrderIndependent (o : Options) (t : Tree) : Type 0 where
  -- its cleaned machine ends in the one that finish gives, word by word, since equal machines have equal words;
  pub every : EveryOrderEndsIn (cleaned (lowered o t)) (finished o t)
  -- and however it was begun, joining can go on to that end
  pub goesOn : (ps : List (ℕ × ℕ)) (n : Machine) → joinPairs (cleaned (lowered o t)) ps ≡ some n → (qs : List (ℕ × ℕ)) × EndsIn (cleaned (lowered o t)) (ps ++ qs) (finished o t)

-- The claim: of every tree file that is accepted, under all options.
abbrev pub JoiningIsOrderIndependent : Type 0
JoiningIsOrderIndependent = (o : Options) (s : List ℕ) (t : Tree) → parse s ≡ ok t → OrderIndependent o t
