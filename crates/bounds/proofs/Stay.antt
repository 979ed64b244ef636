-- Of every tree: replacement adds no register, its instructions name registers that are there, and its lowered sections are those of its script.
use Rattle.std.specs.Prelude.{◌≡◌}
use Rattle.std.proofs.Math.Path.{ap}
use Rattle.std.proofs.Common.{◌∙◌}
use mathlib.Core.List.{List}
use Prim.Native.Nat.{ℕ, ◌<◌}
use Rattle.std.proofs.Math.ListN.{length}
use Rattle.rules.specs.Tree.{Tree}
use Rattle.rules.specs.Machine.{SectionCode}
use Rattle.rules.specs.Tables.{Counts}
use Rattle.rules.specs.Script.{Script}
use Rattle.rules.specs.CodegenData.{CodegenData}
use Rattle.rules.specs.Annotate.{annotate}
use Rattle.rules.specs.Assemble.{sectionsOf}
use Rattle.rules.specs.Replace.{Regs, replaceSections}
use Rattle.rules.specs.Reading.{script}
use Rattle.rules.specs.Lowered.{Options, spans, texts, assemble, lowered}
use Rattle.rules.specs.Preservation.{All, RegistersBelow}
use Rattle.bounds.specs.Good.{GoodWhole}
use Rattle.bounds.specs.ReplaceScript.{lower-rep, length-rep}
use Rattle.bounds.specs.Room.{Room, roomOf}
use Rattle.bounds.specs.Own.{Whole, whole-grows}
use Rattle.bounds.proofs.Own.{annotate-made}
use Rattle.bounds.specs.Quiet.{script-quiet, script-good}
use Rattle.laws.specs.Lists.{all-map}

module _ (o : Options) (t : Tree) where
  abbrev pub ss : Script
  ss = (annotate t).0

  abbrev pub g : CodegenData
  g = (annotate t).1

  abbrev pub pl : ℕ
  pl = length (texts g.strings)

  abbrev pub σ : Regs
  σ = record { numbers = g.numbers; strings = spans 0 g.strings }

  pub regs-stay : (replaceSections pl σ (sectionsOf ss)).1 ≡ σ
  regs-stay = ap (λ (x : List SectionCode × Regs). x.1) (lower-rep pl σ ss) ∙ script-quiet (roomOf g) pl ss (annotate-made t).whole σ

  -- Replacement adds no number and no string register.
  pub numbers-stay : (lowered o t).numbers ≡ (assemble o t).numbers
  unfolding lowered
  numbers-stay = ap (λ (r : Regs). r.numbers) regs-stay

  pub strings-stay : (lowered o t).strings ≡ (assemble o t).strings
  unfolding lowered
  strings-stay = ap (λ (r : Regs). r.strings) regs-stay

  -- Whatever has that room, the script's instructions and gotos name registers of it.
  pub good-for : (w : Counts) → Room (roomOf (annotate t).1) w → All (GoodWhole (RegistersBelow w) (λ r. r < w.numbers)) (script t)
  unfolding script
  good-for w r = script-good w pl ss (all-map (Whole (roomOf g)) (Whole w) (whole-grows (roomOf g) w r) ss (annotate-made t).whole) σ

  -- The lowered sections are those of the script.
  pub lowered-sections : (lowered o t).sections ≡ sectionsOf (script t)
  unfolding lowered script
  lowered-sections = ap (λ (x : List SectionCode × Regs). x.0) (lower-rep pl σ ss)

  pub script-lines : length (script t) ≡ length t.lines
  unfolding script
  script-lines = length-rep pl σ ss ∙ (annotate-made t).long
