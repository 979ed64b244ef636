-- Both walks, computed on files and on scripts made by hand, and the order of replacement.
use Rattle.std.specs.Prelude.{◌≡◌, refl, List, [], ◌∷◌, map, ℕ}
use Rattle.rules.specs.Bits.{Res, refused, ok}
use Rattle.rules.specs.Parse.{parse}
use Rattle.rules.specs.Opcode as Op
use Rattle.rules.specs.Instr.{Instruction, ins₁, ins₂}
use Rattle.rules.specs.Script.{nil, plain, goto, ite, Script}
use Rattle.rules.specs.Assemble.{sectionsOf}
use Rattle.rules.specs.Replace.{rules, lookup, replaceSections}
use Rattle.rules.specs.Clean.{cleanSections}
use Rattle.rules.specs.Combine.{combineSections}
use Rattle.rules.specs.Lowered.{defaults, finished}
use Rattle.rules.specs.Walk.{Trace, Ask, atJump, atGoto, ask, more, over, walkSections, walk, entered}
use Rattle.rules.specs.ReadScript.{readScript}
use Rattle.rules.specs.Reading.{repScript, reading}
use Rattle.rules.specs.Examples.{bytes}

-- ---- files: `if a then b=1 end`, `goto 1 if a then end` and an empty line, under lists of outcomes

-- a file, outcomes, what both walks meet, and where they stop
pub record Walked : Type 0 where
  pub file : List ℕ
  pub outcomes : List ℕ
  pub met : List Instruction
  pub last : Ask

-- a test that is taken, then not, then without an outcome; a taken error, then none, then a goto without an outcome
unfoldable pub walks : List Walked
unfolding bytes
walks =
    record {
      file = bytes 21 0x0101020184062056000E02200000000000001F4000;
      outcomes = 1 ∷ 0 ∷ [];
      met = ins₂ Op.IsTruthyVal 0 0 ∷ ins₂ Op.JumpSectionIf 0 0 ∷ ins₂ Op.ValueifyNum 1 1 ∷ ins₂ Op.CopyVal 1 2 ∷ ins₂ Op.IsTruthyVal 0 0 ∷ ins₂ Op.JumpSectionIf 0 0 ∷ ins₂ Op.IsTruthyVal 0 0 ∷ ins₂ Op.JumpSectionIf 0 0 ∷ [];
      last = atJump (ins₂ Op.JumpSectionIf 0 0);
    }
    ∷ record {
      file = bytes 18 0x01010101842200000000000001F42C000000;
      outcomes = 1 ∷ 0 ∷ [];
      met = ins₂ Op.ValueifyNum 0 0 ∷ ins₂ Op.NumberifyVal 0 1 ∷ ins₁ Op.JumpIfError 0 ∷ ins₂ Op.ValueifyNum 0 0 ∷ ins₂ Op.NumberifyVal 0 1 ∷ ins₁ Op.JumpIfError 0 ∷ [];
      last = atGoto 1;
    }
    ∷ []

-- both walks of a file, 100 steps each
unfoldable pub bothWalks : List ℕ → List ℕ → Res (Trace × Trace)
unfolding parse finished defaults walk reading
bothWalks s os = elim (parse s) [ refused n ↦ refused n | ok t ↦ ok (walk (finished defaults t) os 100, reading t os 100) ]

-- what is expected of both
unfoldable pub twice : Walked → Res (Trace × Trace)
twice w = let t : Trace = (w.met, over (ask w.last)) in ok (t, t)

pub walk-examples : map (λ (w : Walked). bothWalks w.file w.outcomes) walks ≡ map twice walks
unfolding bothWalks twice walks
walk-examples = refl

-- an empty line: both go on for ever and meet nothing
pub silent : bothWalks (bytes 4 0x01010000) (1 ∷ []) ≡ ok (([], more), ([], more))
unfolding bothWalks bytes
silent = refl

-- the sections that the finished machine of `if a then b=1 end` enters: 0, the test, to which the empty else-list is joined; 1, the then-list,
-- only where the test is taken; 2, what follows both
unfoldable pub sectionsEntered : List ℕ → Res (List ℕ)
unfolding parse finished defaults entered bytes
sectionsEntered os = elim (parse (bytes 21 0x0101020184062056000E02200000000000001F4000)) [ refused n ↦ refused n | ok t ↦ ok (entered (finished defaults t) os 100) ]

pub then-entered : sectionsEntered (1 ∷ []) ≡ ok (0 ∷ 1 ∷ 2 ∷ 0 ∷ [])
unfolding sectionsEntered
then-entered = refl

pub else-entered : sectionsEntered (0 ∷ []) ≡ ok (0 ∷ 2 ∷ 0 ∷ [])
unfolding sectionsEntered
else-entered = refl

-- ---- scripts

-- an instruction to tell by its register, and an error jump
abbrev pub inc : ℕ → Instruction
inc n = ins₁ Op.IncNum n

abbrev pub err : Instruction
err = ins₁ Op.JumpIfError 0

-- three lines, the second empty: `if .. then 2 goto 9 4 else 5 end 6`, ``, `7`
unfoldable pub threeLines : Script
threeLines =
    ite (inc 1 ∷ err ∷ []) 3 (plain (inc 2 ∷ []) (goto (inc 3 ∷ []) 9 (plain (inc 4 ∷ []) nil))) (plain (inc 5 ∷ []) nil) (plain (inc 6 ∷ []) nil)
    ∷ nil
    ∷ plain (inc 7 ∷ err ∷ inc 8 ∷ []) nil
    ∷ []

-- outcomes, and what is met of them: no error, taken, line 5 of 3, an error in the last line, then none
unfoldable pub outcomes : List ℕ
outcomes = 0 ∷ 1 ∷ 5 ∷ 1 ∷ []

unfoldable pub expected : Trace
expected = (
  inc 1 ∷ err ∷ ins₂ Op.JumpSectionIf 0 3 ∷ inc 2 ∷ inc 3 ∷ inc 7 ∷ err ∷ inc 1 ∷ err ∷ [],
  over (ask (atJump err)),
)

pub three-read : readScript threeLines outcomes 9 ≡ expected
unfolding threeLines outcomes expected
three-read = refl

pub three-walked : walkSections (combineSections (cleanSections (sectionsOf threeLines))) 3 outcomes 20 ≡ expected
unfolding threeLines outcomes expected sectionsOf cleanSections combineSections
three-walked = refl

-- the else-list, and behind the ite; an error; then an error jump without an outcome
unfoldable pub expected' : Trace
expected' = (inc 1 ∷ err ∷ ins₂ Op.JumpSectionIf 0 3 ∷ inc 5 ∷ inc 6 ∷ inc 7 ∷ err ∷ inc 8 ∷ inc 1 ∷ err ∷ inc 7 ∷ err ∷ [], over (ask (atJump err)))

pub three-read' : readScript threeLines (0 ∷ 0 ∷ 0 ∷ 1 ∷ []) 9 ≡ expected'
unfolding threeLines expected'
three-read' = refl

pub three-walked' : walkSections (combineSections (cleanSections (sectionsOf threeLines))) 3 (0 ∷ 0 ∷ 0 ∷ 1 ∷ []) 20 ≡ expected'
unfolding threeLines expected' sectionsOf cleanSections combineSections
three-walked' = refl

-- replacement takes all lines' first sections before the others
unfoldable pub twins : Script
twins = plain (ins₂ Op.SubNum 0 0 ∷ []) (plain (ins₂ Op.SubNum 1 1 ∷ []) nil) ∷ plain (ins₂ Op.SubNum 2 2 ∷ []) nil ∷ []

unfoldable pub turned : Script
turned = plain (ins₂ Op.CopyNum 0 0 ∷ []) (plain (ins₂ Op.CopyNum 2 1 ∷ []) nil) ∷ plain (ins₂ Op.CopyNum 1 2 ∷ []) nil ∷ []

pub twins-turned : (repScript 0 (record { numbers = []; strings = [] }) twins).0 ≡ turned
unfolding twins turned rules lookup
twins-turned = refl

pub twins-sections : (replaceSections 0 (record { numbers = []; strings = [] }) (sectionsOf twins)).0 ≡ sectionsOf turned
unfolding twins turned rules lookup sectionsOf
twins-sections = refl

-- an empty then-list: nothing is asked, and the else-list is read
unfoldable pub hollow : Script
hollow = ite (inc 2 ∷ []) 4 nil (goto (inc 3 ∷ []) 5 nil) nil ∷ []

pub hollow-read : readScript hollow [] 1 ≡ (inc 2 ∷ inc 3 ∷ [], over (ask (atGoto 5)))
unfolding hollow
hollow-read = refl

pub hollow-walked : walkSections (combineSections (cleanSections (sectionsOf hollow))) 1 [] 9 ≡ (inc 2 ∷ inc 3 ∷ [], over (ask (atGoto 5)))
unfolding hollow sectionsOf cleanSections combineSections
hollow-walked = refl
