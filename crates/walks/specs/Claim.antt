-- What the proof claims on the way: of any script that is read, and the sections that are made of it.
use Rattle.std.specs.Prelude.{◌≡◌, ◌↔◌, List, map, ℕ, ◌<◌, length, get_or}
use Rattle.std.proofs.Math.Option.{none}
use Rattle.bounds.specs.Good.{GoodTree, GoodWhole, SectGood}
use Rattle.rules.specs.Instr.{Instruction}
use Rattle.rules.specs.Machine.{SectionCode, absent}
use Rattle.rules.specs.Walk.{Ask, atJump, atGoto, ask, lost, End, more, over, walkSections, enters}
use Rattle.rules.specs.Combine.{pair}
use Rattle.rules.specs.Script.{Script}
use Rattle.rules.specs.ReadScript.{readScript}
use Rattle.rules.specs.Preservation.{Walk, Meets, Stops, SameWalk, All, prune}

-- ---- walks

-- w never comes to a section that is absent or unfixed
abbrev pub Safe : Walk → Type 0
Safe w = (k : ℕ) → (w k).1 ≡ over lost → ⊥

-- what one meets and where it stops, so does the other; that it is decided whether n are met comes later (Count)
pub record Alike (v w : Walk) : Type 0 where
  pub meets : (n : ℕ) (l : List Instruction) → Meets v n l ↔ Meets w n l
  pub stops : (l : List Instruction) (q : Ask) → Stops v l q ↔ Stops w l q

-- ---- where a walk ends: at a goto by a register that is G

abbrev pub GoodEnd : (ℕ → Type 0) → End → Type 0
GoodEnd G more = Unit {0}
GoodEnd G (over (ask (atJump w))) = Unit {0}
GoodEnd G (over (ask (atGoto r))) = G r
GoodEnd G (over lost) = Unit {0}

-- ---- a script t, read, and the sections m of L lines, walked

pub record PreservesScript (L : ℕ) (t : Script) (m : List SectionCode) (os : List ℕ) : Type 1 where
  pub same : SameWalk (walkSections m L os) (readScript t os)
  pub found : Safe (walkSections m L os)
  pub sections : (k : ℕ) → All (λ u. u < length m) (enters m L k (0, os))
  -- every section entered has only instructions, and a goto's register, as those of the script are
  pub entered : (P : Instruction → Type 0) (G : ℕ → Type 0) → All (GoodWhole P G) t → (k : ℕ) → All (λ u. SectGood P G (get_or m u absent)) (enters m L k (0, os))
  -- every instruction met, and the register of the goto stopped at, is as those of the script are
  pub registers : (P : Instruction → Type 0) (G : ℕ → Type 0) → GoodTree P G t → (k : ℕ) → All P (walkSections m L os k).0 × GoodEnd G (walkSections m L os k).1
  pub behindGoto : SameWalk (walkSections m L os) (readScript (map prune t) os)
  pub noPair : pair m ≡ none
