-- The machine before replacement: its words keep the rules, if they have not too many instructions. Assumes nothing.
use mathlib.Core.Path.{◌≡◌, sym, ap, subst}
use mathlib.Core.List.{List, [], ◌∷◌}
use Prim.Native.Nat.{ℕ, ◌≤◌, ◌<◌}
use native.Mathlib.Omega.{arith}
use lib.ListN.{length}
use Rattle.rules.specs.Constants.{mostCount}
use Rattle.rules.specs.Bits.{ok}
use Rattle.rules.specs.Tree.{Tree}
use Rattle.rules.specs.Instr.{Instruction}
use Rattle.rules.specs.Parse.{parse}
use Rattle.rules.specs.Script.{Stmts, nil, plain, goto, ite, Script}
use Rattle.rules.specs.Tables.{Counts, allCode, countsOf}
use Rattle.rules.specs.Annotate.{annotate}
use Rattle.rules.specs.Assemble.{sectionsOf}
use Rattle.rules.specs.Lowered.{Options, spans, texts, assemble, lowered}
use Rattle.rules.specs.Preservation.{All, RegistersBelow}
use Rattle.bounds.specs.Good.{CodeGood, GoodWhole}
use Rattle.bounds.specs.Quiet.{shown-regs, cond-regs}
use Rattle.bounds.specs.Room.{Room, roomOf, Ok}
use Rattle.bounds.specs.Own.{Whole, whole-grows}
use Rattle.bounds.proofs.Own.{annotate-made}
use Rattle.bounds.specs.LimitsTree.{limits}
use Rattle.machines.specs.Lowered.{lower-starts}
use Rattle.machines.specs.FinishedCode.{lower-good}
use Rattle.bounds.proofs.Stay.{numbers-stay, strings-stay}
use Rattle.laws.specs.Texts.{length-spans}
use Rattle.bounds.proofs.Estimate.{sections-length}
use Rattle.bounds.proofs.Bounds.{small}
use Rattle.machines.specs.Targets.{Aims, lower-aims}
use Rattle.machines.specs.Shape.{lower-later}
use Rattle.machines.specs.Texts.{annotate-short, spans-fit, names-fit}
use Rattle.machines.specs.Fits.{Counted, MachineFit}
use Rattle.machines.specs.Held.{SectsFit, machine-fit}
use Rattle.laws.specs.Sections.{replaced-length}

-- ---- every statement's instructions name registers that are there, jumps' targets aside

module _ (u : Counts) where
  abbrev P : Instruction → Type 0
  P i = RegistersBelow u i

  abbrev G : ℕ → Type 0
  G r = r < u.numbers

  code-good : (c : List Instruction) → All (Ok u) c → CodeGood P c
  code-good [] h = tt
  code-good (i ∷ c) h = (shown-regs u i h.0.regs, code-good c h.1)

  whole-good : (s : Stmts) → Whole u s → GoodWhole P G s
  whole-good nil h = tt
  whole-good (plain o s) h = (code-good o h.0, whole-good s h.1)
  whole-good (goto o r s) h = (code-good o h.0, h.1, whole-good s h.2)
  whole-good (ite o c t e s) h = (code-good o h.0, cond-regs u c h.1, whole-good t h.2, whole-good e h.3, whole-good s h.4)

script-good : (u w : Counts) → Room u w → (t : Script) → All (Whole u) t → All (GoodWhole (RegistersBelow w) (λ r. r < w.numbers)) t
script-good u w r [] h = tt
script-good u w r (s ∷ t) h = (whole-good w s (whole-grows u w r s h.0), script-good u w r t h.1)

-- ---- the machine

module _ (o : Options) (s : List ℕ) (t : Tree) (parses : parse s ≡ ok t) where
  some-script : 0 < length (annotate t).0
  some-script = omega (arith, (annotate-made t).long, (limits s t parses).some-lines)

  room : Room (roomOf (annotate t).1) (countsOf (assemble o t))
  unfolding countsOf assemble
  room = record { numbers = omega arith; strings = omega (arith, length-spans 0 (annotate t).1.strings); values = omega arith }

  sections-fit : SectsFit (length (annotate t).0) (countsOf (assemble o t)) (sectionsOf (annotate t).0)
  sections-fit =
      let ss = (annotate t).0 in
      let u = countsOf (assemble o t) in
      record {
        good = lower-good (RegistersBelow u) (λ n. n < u.numbers) ss (script-good (roomOf (annotate t).1) u room ss (annotate-made t).whole);
        aims = subst (λ (n : ℕ). All (Aims n) (sectionsOf ss)) (sym (sections-length ss)) (lower-aims ss);
        starts = lower-starts ss some-script;
        later = lower-later ss;
      }

  module _ (few : length (allCode (assemble o t).sections) ≤ mostCount) where
    counted : Counted (countsOf (assemble o t))
    unfolding countsOf lowered assemble
    counted =
        let k = small o s t parses in
        let ss = (annotate t).0 in
        let g = (annotate t).1 in
        let n = replaced-length (length (texts g.strings)) (record { numbers = g.numbers; strings = spans 0 g.strings }) (sectionsOf ss) in
        record {
          lines = k.lines;
          some-lines = k.some-lines;
          starts = omega (arith, sections-length ss);
          sections = omega (arith, n, k.sections);
          instrs = few;
          numbers = omega (arith, ap length (numbers-stay o t), k.numbers);
          strings = omega (arith, ap length (strings-stay o t), k.strings);
          pool = omega (arith, k.pool);
          names = omega (arith, k.names);
          values = omega (arith, k.values);
        }

    pub assembled-fit : MachineFit (assemble o t)
    unfolding assemble countsOf
    assembled-fit =
        let g = (annotate t).1 in
        machine-fit (assemble o t) counted sections-fit (spans-fit g.strings (annotate-short t (limits s t parses).short)) (names-fit (countsOf (assemble o t)) o t.names g.names (annotate-made t).went.fine.names)
