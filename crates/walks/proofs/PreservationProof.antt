-- Preservation of every tree that is parsed.
use Rattle.std.specs.Prelude.{◌≡◌, get_or}
use Rattle.std.proofs.Math.Path.{sym, ap}
use Rattle.std.proofs.Common.{arith}
use mathlib.Core.List.{List}
use Prim.Native.Nat.{ℕ, ◌<◌}
use Rattle.std.proofs.Math.ListN.{length}
use Rattle.rules.specs.Tree.{Tree}
use Rattle.rules.specs.Machine.{SectionOrLine, unfixed, section, line, absent}
use Rattle.rules.specs.Tables.{Counts, countsOf}
use Rattle.rules.specs.Script.{Script}
use Rattle.rules.specs.CodegenData.{CodegenData}
use Rattle.rules.specs.Annotate.{annotate}
use Rattle.rules.specs.Assemble.{sectionsOf}
use Rattle.rules.specs.Replace.{Regs, replaceSections}
use Rattle.rules.specs.Reading.{repScript, script, reading}
use Rattle.rules.specs.Clean.{cleanSections}
use Rattle.rules.specs.Combine.{combineSections}
use Rattle.rules.specs.Lowered.{Options, assemble, finished}
use Rattle.rules.specs.Walk.{walk, enters, entered}
use Rattle.rules.specs.Preservation.{All, Preserves, RegistersBelow, GotoBelow}
use Rattle.walks.specs.Claim.{PreservesScript}
use Rattle.bounds.specs.Good.{SectGood, NextGood, GoodWhole}
use Rattle.bounds.specs.Room.{Room, roomOf}
use Rattle.bounds.specs.Own.{Whole, whole-grows}
use Rattle.bounds.proofs.Own.{annotate-made}
use Rattle.bounds.specs.Quiet.{script-good, tree-good}
use Rattle.walks.specs.Codegen.{codegen}
use Rattle.walks.proofs.CodegenProof.{codegen-is}
use Rattle.walks.proofs.FinishWalk.{preservation-replaced}
use Rattle.laws.specs.Lists.{all-map}
use Rattle.laws.specs.Texts.{length-spans}
use Rattle.bounds.proofs.Stay as Stay
use Rattle.rules.specs.Bits.{ok}
use Rattle.rules.specs.Parse.{parse}
use Rattle.bounds.specs.Parsed.{some-line}

-- The assembled sections are those that codegen.rs's steps make: pushed, linked afterwards, and swapped.
pub assembled-by-steps : (o : Options) (t : Tree) → (assemble o t).sections ≡ codegen (annotate t).0
unfolding assemble
assembled-by-steps o t = sym (codegen-is (annotate t).0)

goto-below : (u : Counts) (x : SectionOrLine) → NextGood (λ r. r < u.numbers) x → GotoBelow u x
goto-below u unfixed h = h
goto-below u (section t) h = h
goto-below u (line r) h = h

module _ (o : Options) (t : Tree) where
  abbrev ss : Script
  ss = Stay.ss o t

  abbrev g : CodegenData
  g = Stay.g o t

  abbrev pl : ℕ
  pl = Stay.pl o t

  abbrev σ : Regs
  σ = Stay.σ o t

  -- What lowering counted is what the finished machine has.
  u : Counts
  u = countsOf (finished o t)

  u-room : Room (roomOf g) u
  unfolding u countsOf finished
  u-room =
      record {
        numbers = omega (arith, ap (λ (r : Regs). length r.numbers) (Stay.regs-stay o t));
        strings = omega (arith, ap (λ (r : Regs). length r.strings) (Stay.regs-stay o t), length-spans 0 g.strings);
        values = omega arith;
      }

  module _ (pos : 0 < length t.lines) (os : List ℕ) where
    ss-pos : 0 < length ss
    ss-pos = omega (arith, (annotate-made t).long)

    heart : PreservesScript (length ss) (repScript pl σ ss).0 (combineSections (cleanSections (replaceSections pl σ (sectionsOf ss)).0)) os
    heart = preservation-replaced pl σ ss ss-pos os

    whole : All (Whole u) ss
    whole = all-map (Whole (roomOf g)) (Whole u) (whole-grows (roomOf g) u u-room) ss (annotate-made t).whole

    good : All (GoodWhole (RegistersBelow u) (λ r. r < u.numbers)) (repScript pl σ ss).0
    good = script-good u pl ss whole σ

    of-tree : Preserves o t os
    unfolding u countsOf finished walk entered reading script
    of-tree =
        record {
          same = heart.same;
          found = heart.found;
          sections = heart.sections;
          registers = λ k. (heart.registers (RegistersBelow u) (λ r. r < u.numbers) (tree-good (RegistersBelow u) (λ r. r < u.numbers) (repScript pl σ ss).0 good) k).0;
          gotos = λ k.
              let m = finished o t in
              let P : ℕ → Type 0 = λ v. SectGood (RegistersBelow u) (λ r. r < u.numbers) (get_or m.sections v absent) in
              let Q : ℕ → Type 0 = λ v. GotoBelow u (get_or m.sections v absent).success in
              all-map P Q (λ v h. goto-below u (get_or m.sections v absent).success h.1) (enters m.sections m.lines k (0, os)) (heart.entered (RegistersBelow u) (λ r. r < u.numbers) good k);
          behindGoto = heart.behindGoto;
          noPair = heart.noPair;
        }

pub preservation : (o : Options) (s : List ℕ) (t : Tree) → parse s ≡ ok t → (os : List ℕ) → Preserves o t os
preservation o s t e os = of-tree o t (some-line s t e) os
