-- A finished machine is accepted again by both passes, and combining leaves it as it is.
use Rattle.std.specs.Prelude.{◌≡◌, refl, ◌⊎◌, Bool, true, false, ◌&&◌, List, [], ◌∷◌, ℕ, ◌+◌, ◌≤◌, length, get_or, take}
use Rattle.std.proofs.Common.{ap, ap₂, ◌∙◌, inl, inr, arith}
use Rattle.rules.specs.Refusal as Refusal
use Rattle.rules.specs.Bits.{Res, refused, ok}
use Rattle.rules.specs.Tree.{Tree}
use Rattle.rules.specs.Parse.{parse}
use Rattle.rules.specs.Instr.{Instruction}
use Rattle.rules.specs.Machine.{SectionOrLine, unfixed, section, line, SectionCode, absent, Machine}
use Rattle.rules.specs.Tables.{Tables, allb}
use Rattle.rules.specs.Assemble.{sectionsOf}
use Rattle.rules.specs.Reading.{script}
use Rattle.rules.specs.Clean.{cleanSections, cleaned}
use Rattle.rules.specs.Combine.{combineSections, combined}
use Rattle.rules.specs.Lowered.{Options, finished}
use Rattle.rules.specs.Operations.{fixedHere, jumpsFixed, cleanIn, allAhead, combineIn}
use Rattle.rules.specs.Preservation.{All}
use Rattle.laws.specs.Lists.{all-true}
use Rattle.joins.specs.Along.{Fixed, fixed-at, fixed-take, Ready, combine-along, combine-ready, combine-stays}
use Rattle.joins.specs.Ahead.{Forward, forward, forward-step}
use Rattle.bounds.specs.LimitsTree.{Limits, limits}
use Rattle.bounds.proofs.Stay.{lowered-sections}
use Rattle.machines.specs.Fits.{AllAt}
use Rattle.machines.specs.Lowered.{lower-fixed}
use Rattle.machines.specs.Ranks.{rank-low}
use Rattle.machines.specs.Targets.{JumpBelow, Aims, clean-aims}
use Rattle.machines.specs.Shape.{numbered, combine-aims, keep-some}
use Rattle.machines.specs.TreeFits.{pos, ready}
use Rattle.machines.specs.Accepts.{all-fixed, JumpFixed, JumpsFixed, sects-test}
use Rattle.machines.specs.Ahead.{Kept, clean-ahead, all-test}
use Rattle.walks.proofs.PreservationProof.{preservation}

-- ---- successors ahead, by section

forward-next : (m : List SectionCode) → Forward m → (v : ℕ) (x : SectionOrLine) → (get_or m v absent).success ≡ x → Kept m v x
forward-next m h v unfixed e = tt
forward-next m h v (section u) e = go (get_or m u absent).lineStart refl
  where
    go : (b : Bool) → (get_or m u absent).lineStart ≡ b → ((get_or m u absent).lineStart ≡ true) ⊎ (v ≤ u)
    go true q = inl q
    go false q = inr (h v u e q)
forward-next m h v (line r) e = tt

forward-all : (m : List SectionCode) → Forward m → AllAt (λ v s. Kept m v s.success) 0 m
forward-all m h = numbered (λ v s. Kept m v s.success) 0 m (λ v q. forward-next m h (0 + v) (get_or m v absent).success (ap (λ (n : ℕ). (get_or m n absent).success) (omega arith)))

all-forward : (m : List SectionCode) → AllAt (λ v s. Kept m v s.success) 0 m → Forward m
all-forward m h = forward m (all-test m 0 m h)

-- ---- jumps, where every section is fixed

module _ (m : List SectionCode) (fixed : Fixed m) where
  code-jumps : (c : List Instruction) → All (JumpBelow (length m)) c → All (JumpFixed m) c
  code-jumps [] h = tt
  code-jumps (i ∷ c) h = (λ q. fixed-at m fixed i.fst (h.0 q), code-jumps c h.1)

  sects-jumps : (l : List SectionCode) → All (Aims (length m)) l → All (JumpsFixed m) l
  sects-jumps [] h = tt
  sects-jumps (s ∷ l) h = (code-jumps s.instrs h.0.0, sects-jumps l h.1)

-- ---- the finished machine

module _ (o : Options) (t : Tree) (lim : Limits t) where
  F : List SectionCode
  F = combineSections (cleanSections (sectionsOf (script t)))

  finished-sections : (finished o t).sections ≡ F
  unfolding F finished cleaned combined
  finished-sections = ap (λ (z : List SectionCode). combineSections (cleanSections z)) (lowered-sections o t)

  F-ready : Ready (length (script t)) F
  unfolding F
  F-ready = combine-ready (length (script t)) (cleanSections (sectionsOf (script t))) (ready o t lim)

  F-forward : Forward F
  unfolding F
  F-forward =
      let L = length (script t) in
      let C = cleanSections (sectionsOf (script t)) in
      let r = ready o t lim in
      let a = clean-ahead (script t) (rank-low L (pos o t lim) (sectionsOf (script t)) (lower-fixed (script t) (pos o t lim))) r.starts in
      combine-along L Forward (λ m s i j pr h. forward-step m i j pr h) C r (all-forward C a)

  F-ahead : allAhead F 0 F ≡ true
  F-ahead = all-test F 0 F (forward-all F F-forward)

  F-aims : All (Aims (length F)) F
  unfolding F
  F-aims = combine-aims (length (script t)) (pos o t lim) (cleanSections (sectionsOf (script t))) (ready o t lim) (clean-aims (sectionsOf (script t)) (omega (arith, keep-some (script t), pos o t lim)))

-- Combining accepts a finished machine, and leaves it as it is: 14 and 15 never occur.
pub combine-again : (o : Options) (s : List ℕ) (t : Tree) → parse s ≡ ok t → (l : Tables) → combineIn l (finished o t) ≡ ok (finished o t)
unfolding combineIn combined
combine-again o s t e l =
    let lim = limits s t e in
    let m = finished o t in
    let f = finished-sections o t lim in
    let fixed : allb fixedHere m.sections ≡ true = ap (allb fixedHere) f ∙ all-fixed (F o t lim) (F-ready o t lim).fixed in
    let ahead : allAhead m.sections 0 m.sections ≡ true = ap (λ (z : List SectionCode). allAhead z 0 z) f ∙ F-ahead o t lim in
    let stays : combineSections m.sections ≡ m.sections = combine-stays m.sections (preservation o s t e []).noPair in
    ap₂
    (λ (a b : Bool). let y : Res Machine = elim b [ false ↦ refused Refusal.linksBack | true ↦ ok (combined m) ] in elim a as (λ z. Res Machine) [ false ↦ refused Refusal.isUnfixed | true ↦ y ])
    fixed
    ahead
    ∙ ap (λ (z : List SectionCode). ok (record { lines = m.lines; sections = z; numbers = m.numbers; strings = m.strings; pool = m.pool; values = m.values; names = m.names })) stays

-- Cleaning accepts it: 13 never occurs.
pub clean-again : (o : Options) (s : List ℕ) (t : Tree) → parse s ≡ ok t → (l : Tables) → cleanIn l (finished o t) ≡ ok (cleaned (finished o t))
unfolding cleanIn
clean-again o s t e l =
    let lim = limits s t e in
    let m = finished o t in
    let f = finished-sections o t lim in
    let h = (F-ready o t lim).fixed in
    let test : (allb fixedHere (take m.lines m.sections) && allb (jumpsFixed m.sections) m.sections) ≡ true =
    ap (λ (z : List SectionCode). allb fixedHere (take m.lines z) && allb (jumpsFixed z) z) f
    ∙ ap₂ (λ (a b : Bool). a && b) (all-fixed (take m.lines (F o t lim)) (fixed-take m.lines (F o t lim) h)) (all-true (jumpsFixed (F o t lim)) (F o t lim) (sects-test (F o t lim) (F o t lim) (sects-jumps (F o t lim) h (F o t lim) (F-aims o t lim))))
    in
    ap (λ (b : Bool). elim b as (λ z. Res Machine) [ true ↦ ok (cleaned m) | false ↦ refused Refusal.needsUnfixed ]) test
