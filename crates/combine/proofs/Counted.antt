-- References in words are `refs` of `rules` on what the words hold: `refs-are`. Assumes nothing but that the runs cover the instructions.
use Rattle.std.specs.Prelude.{◌≡◌, refl, Bool, true, false, cond, List, [], ◌∷◌, ◌++◌, map, ℕ, ◌+◌, length, take, drop}
use Rattle.std.proofs.Common.{sym, ap, ◌∙◌, arith, length-drop, take-append-drop}
use Rattle.std.proofs.Math.Option.{Option, none, some}
use Rattle.rules.specs.Instr.{Instruction, isJump, getSection}
use Rattle.rules.specs.Word.{wordRun, wordIns}
use Rattle.rules.specs.Machine.{SectionOrLine, unfixed, section, line}
use Rattle.rules.specs.Tables.{successOf, readSections}
use Rattle.rules.specs.Combine.{hit, refsNext, refsIns, refsCode, refs}
use Rattle.tables.specs.Runs.{countOf, total, sectionOf}
use Rattle.tables.proofs.Read.{read-nil, read-cons, total-nil, total-cons}
use Rattle.combine.specs.Counting.{nextOf}

-- one where it is t
abbrev pub hits : ℕ → Option ℕ → ℕ
hits t none = 0
hits t (some u) = hit u t

-- section words whose successor is t, instruction words that jump to t
unfoldable pub refsNexts : ℕ → List ℕ → ℕ
unfolding successOf
refsNexts t [] = 0
refsNexts t (w ∷ ws) = hits t (nextOf (successOf (wordRun w))) + refsNexts t ws

unfoldable pub refsJumps : ℕ → List ℕ → ℕ
unfolding getSection
refsJumps t [] = 0
refsJumps t (w ∷ ws) = hits t (getSection (wordIns w)) + refsJumps t ws

next-hits : (t : ℕ) (x : SectionOrLine) → refsNext t x ≡ hits t (nextOf x)
next-hits t unfixed = refl
next-hits t (section u) = refl
next-hits t (line r) = refl

jump-hits : (t : ℕ) (i : Instruction) → refsIns t i ≡ hits t (getSection i)
unfolding getSection
jump-hits t i = go (isJump i)
  where
    go : (b : Bool) → cond b (hit i.fst t) 0 ≡ hits t (cond b (some i.fst) none)
    go true = refl
    go false = refl

code-hits : (t : ℕ) (ws : List ℕ) → refsCode t (map wordIns ws) ≡ refsJumps t ws
unfolding refsJumps
code-hits t [] = refl
code-hits t (w ∷ ws) = rw (code-hits t ws, jump-hits t (wordIns w))

jumps-append : (t : ℕ) (us vs : List ℕ) → refsJumps t (us ++ vs) ≡ refsJumps t us + refsJumps t vs
unfolding refsJumps
jumps-append t [] vs = omega arith
jumps-append t (u ∷ us) vs = omega (arith, jumps-append t us vs)

pub nexts-cons : (t w : ℕ) (ws : List ℕ) → refsNexts t (w ∷ ws) ≡ refsNext t (successOf (wordRun w)) + refsNexts t ws
unfolding refsNexts
nexts-cons t w ws = rw (next-hits t (successOf (wordRun w)))

pub nexts-nil : (t : ℕ) → refsNexts t [] ≡ 0
unfolding refsNexts
nexts-nil t = refl

jumps-nil : (t : ℕ) (is : List ℕ) → 0 ≡ length is → refsJumps t is ≡ 0
unfolding refsJumps
jumps-nil t [] h = refl
jumps-nil t (i ∷ is) h = absurd (omega arith)

pub one-code : (w : ℕ) (is : List ℕ) → (sectionOf w is).instrs ≡ map wordIns (take (countOf w) is)
unfolding countOf
one-code w is = refl

-- all references of what the words hold
pub refs-are : (t : ℕ) (ws is : List ℕ) → total ws ≡ length is → refs t (readSections ws is) ≡ refsNexts t ws + refsJumps t is
refs-are t [] is h = rw read-nil (omega (arith, nexts-nil t, jumps-nil t is (sym total-nil ∙ h)))
refs-are t (w ∷ ws) is h =
    let c = countOf w in
    let l : total ws ≡ length (drop c is) = omega (arith, total-cons w ws, length-drop c is) in
    let two : refsJumps t is ≡ refsJumps t (take c is) + refsJumps t (drop c is) = ap (refsJumps t) (sym (take-append-drop c is)) ∙ jumps-append t (take c is) (drop c is) in
    rw read-cons (omega (arith, refs-are t ws (drop c is) l, two, ap (refsCode t) (one-code w is) ∙ code-hits t (take c is), nexts-cons t w ws))
