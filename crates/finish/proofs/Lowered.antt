-- The passes on an accepted tree's lowered machine: what each asks holds, and what both leave. Assumes nothing.
use mathlib.Core.Path.{◌≡◌, sym, ap, ◌∙◌, subst}
use mathlib.Core.Bool.{true}
use mathlib.Core.List.{List, map}
use Prim.Native.Nat.{ℕ, ◌≤◌}
use native.Mathlib.Omega.{arith}
use lib.ListN.{length, take, length-take, length-map}
use lib.Seq.{take_all}
use Rattle.rules.specs.Constants.{mostCount}
use Rattle.rules.specs.Word.{insWord}
use Rattle.rules.specs.Machine.{SectionCode, Machine}
use Rattle.rules.specs.Tables.{runWords, allCode, encode, countsOf}
use Rattle.rules.specs.Clean.{cleanSections, cleaned}
use Rattle.rules.specs.Combine.{combineSections}
use Rattle.rules.specs.Lowered.{lowered, finished}
use Rattle.rules.specs.Operations.{allAhead}
use Rattle.machines.specs.Fits.{MachineFit, encoded-fits}
use Rattle.bounds.proofs.Estimate.{code-length}
use Rattle.machines.specs.Targets.{clean-length}
use Rattle.machines.specs.TreeFits.{clean-len, lowered-fit, cleaned-fit}
use Rattle.machines.specs.Back.{put-begins}
use Rattle.laws.specs.Sections.{words-length, keep-length}
use Rattle.walks.proofs.Theorems.{combined-is}
use Rattle.tables.specs.Runs.{total, held}
use Rattle.tables.proofs.Sound.{sound}
use Rattle.tables.proofs.Read.{whole-total}
use Rattle.clean.specs.Pass.{Cleaned}
use Rattle.combine.specs.Held.{Sound}
use Rattle.combine.proofs.Back.{holds-held}
use Rattle.combine.specs.Combined.{Combined}
use Rattle.combine.proofs.Ready.{Ready, fit-holds, ready, written-over}
use Rattle.finish.specs.Passes.{Lowered, finishSections, Finished}

-- ---- the runs of a machine's words cover its instructions

runs-cover : (m : Machine) → MachineFit m → total (runWords 0 m.sections) ≡ length (allCode m.sections)
unfolding encode countsOf
runs-cover m f =
    let ws = runWords 0 m.sections in
    ap total (sym (take_all (length m.sections) ws (omega (arith, words-length 0 m.sections)))) ∙ whole-total (encode m) (countsOf m) (sound (encode m) (countsOf m) (encoded-fits m f))

-- ---- cleaning leaves no more than there was

clean-less : (m : List SectionCode) → (length (cleanSections m) ≤ length m) × (length (allCode (cleanSections m)) ≤ length (allCode m))
clean-less m = (omega (arith, clean-length m, keep-length m), omega (arith, clean-len m, code-length m, code-length (cleanSections m)))

-- ---- the passes

module _ (s i : List ℕ) (n e : ℕ) (l : Lowered s i n e) where
  abbrev machine : Machine
  machine = lowered l.options l.tree

  fit : MachineFit machine
  fit = lowered-fit l.options l.file l.tree l.parsed

  pub held-is : held s i n e ≡ machine.sections
  held-is = holds-held s i n e machine.sections (fit-holds machine fit s i n e l.section-count l.instr-count l.sections l.instrs)

  -- what cleaning asks
  pub clean-asks : (n ≤ length s) × (n ≤ mostCount) × (e ≤ length i) × (e ≤ mostCount) × (total (take n s) ≡ e)
  unfolding countsOf
  clean-asks =
      let ss = machine.sections in (
        omega (arith, ap length l.sections, words-length 0 ss, length-take n s, l.section-count),
        omega (arith, fit.counted.sections, l.section-count),
        omega (arith, ap length l.instrs, length-map (allCode ss) insWord, length-take e i, l.instr-count),
        omega (arith, fit.counted.instrs, l.instr-count),
        ap total l.sections ∙ (runs-cover machine fit ∙ l.instr-count),
      )

  module _ (s1 i1 : List ℕ) (m b : ℕ) (c : Cleaned s i s1 i1 n e m b) where
    cleaned-held : (cleaned machine).sections ≡ cleanSections (held s i n e)
    unfolding cleaned
    cleaned-held = ap cleanSections (sym held-is)

    cleaned-ready : Ready s1 i1 m b (cleaned machine).sections
    cleaned-ready =
        let cs = cleanSections (held s i n e) in
        let q = sym cleaned-held in
        ready (cleaned machine) (cleaned-fit l.options l.file l.tree l.parsed) s1 i1 m b (ap length cleaned-held ∙ sym c.section-count) (ap (λ (x : List SectionCode). length (allCode x)) cleaned-held ∙ sym c.instr-count)
        (ap (take m) c.sections ∙ (put-begins 0 n m (runWords 0 cs) s (words-length 0 cs ∙ sym c.section-count) ∙ ap (runWords 0) q))
        (ap (take b) c.instrs ∙ (put-begins 0 e b (map insWord (allCode cs)) i (length-map (allCode cs) insWord ∙ sym c.instr-count) ∙ ap (λ (x : List SectionCode). map insWord (allCode x)) q))
        (encode machine) (finished l.options l.tree) (combined-is l.options l.file l.tree l.parsed (encode machine))

    -- what combining asks
    pub combine-asks : Sound s1 i1 m b × (allAhead (held s1 i1 m b) 0 (held s1 i1 m b) ≡ true)
    combine-asks = (cleaned-ready.sound, cleaned-ready.ahead)

    -- what both leave
    pub passed : (s2 i2 : List ℕ) (r : ℕ) → Combined s1 i1 s2 i2 m b (combineSections (held s1 i1 m b)) r → Finished s i s2 i2 n e r b
    unfolding finishSections
    passed s2 i2 r k =
        let cs = cleanSections (held s i n e) in
        let h : held s1 i1 m b ≡ cs = cleaned-ready.held ∙ cleaned-held in
        let k' : Combined s1 i1 s2 i2 m b (combineSections cs) r = subst (λ (x : List SectionCode). Combined s1 i1 s2 i2 m b (combineSections x) r) h k in
        let less = clean-less (held s i n e) in
        let few : m ≤ n = omega (arith, c.section-count, less.0, ap length held-is, l.section-count) in
        let short : b ≤ e = omega (arith, c.instr-count, less.1, ap (λ (x : List SectionCode). length (allCode x)) held-is, l.instr-count) in
        record {
          words = written-over s i s1 i1 s2 i2 n e m b r cs (combineSections cs) (record { sections = c.sections; instrs = c.instrs }) (sym c.section-count) (sym c.instr-count) few short k';
          section-count = k'.count;
          instr-count = k'.code;
          fewer = omega (arith, k'.fewer);
          shorter = short;
        }
