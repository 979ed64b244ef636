-- Preservation of any script that has a line.
use Rattle.std.specs.Prelude.{◌≡◌, ℕ, ◌<◌, length, get_or}
use Rattle.std.proofs.Common.{sym, ap, inl, arith}
use Rattle.std.proofs.Math.Path.{subst}
use mathlib.Core.List.{List, map}
use Rattle.std.proofs.Math.Option.{none}
use Rattle.std.proofs.lemmas.List.{length-map}
use Rattle.rules.specs.Machine.{absent, SectionCode}
use Rattle.rules.specs.Walk.{stepSection, walkSections, enters}
use Rattle.rules.specs.Clean.{cleanSections}
use Rattle.rules.specs.Combine.{combineSections, pair}
use Rattle.rules.specs.Script.{Script}
use Rattle.rules.specs.Assemble.{sectionsOf}
use Rattle.rules.specs.ReadScript.{readScript}
use Rattle.machines.specs.FinishedCode.{finish}
use Rattle.rules.specs.Preservation.{SameWalk, prune}
use Rattle.walks.specs.Claim.{Alike, Safe, PreservesScript}
use Rattle.bounds.specs.Good.{SectGood}
use Rattle.walks.specs.Walks.{Within, within-trans, covers-within, covers-back, within-safe, same-walk}
use Rattle.joins.specs.Along.{Ready, combine-ends}
use Rattle.walks.specs.CombineWalk.{Kept, combine-keeps}
use Rattle.walks.specs.CleanWalk.{clean-same}
use Rattle.machines.specs.Ranks.{clean-ready}
use Rattle.rules.specs.Replace.{Regs, replaceSections}
use Rattle.rules.specs.Reading.{repScript}
use Rattle.bounds.specs.ReplaceScript.{length-rep, lower-rep}
use Rattle.walks.specs.Codegen.{codegen}
use Rattle.walks.proofs.CodegenProof.{codegen-is}
use Rattle.walks.specs.Count.{agree}
use Rattle.machines.specs.FinishedCode.{everywhere, getD-good, finish-good}
use Rattle.walks.specs.Sides.{safe-enters, run-prune, within-good}
use Rattle.walks.specs.LowerWalk.{lower-covers, tree-safe}
use Rattle.machines.specs.Lowered.{lower-fixed, lower-starts}

module _ (t : Script) (pos : 0 < length t) where
  ready : Ready (length t) (cleanSections (sectionsOf t))
  ready = clean-ready (length t) pos (sectionsOf t) (lower-fixed t pos) (lower-starts t pos)

  kept : Kept (length t) (cleanSections (sectionsOf t)) (finish t)
  unfolding finish
  kept = combine-keeps (length t) pos (cleanSections (sectionsOf t)) ready

  -- No pair is left.
  pub finished : pair (finish t) ≡ none
  unfolding finish
  finished = combine-ends (cleanSections (sectionsOf t))

  module _ (os : List ℕ) where
    low-to-tree : Within (walkSections (sectionsOf t) (length t) os) (readScript t os)
    low-to-tree = covers-back (stepSection (sectionsOf t) (length t)) _ (readScript t os) (lower-covers t pos os)

    tree-to-low : Within (readScript t os) (walkSections (sectionsOf t) (length t) os)
    tree-to-low = covers-within (readScript t os) (walkSections (sectionsOf t) (length t) os) (lower-covers t pos os)

    low-safe : Safe (walkSections (sectionsOf t) (length t) os)
    low-safe = within-safe (walkSections (sectionsOf t) (length t) os) (readScript t os) low-to-tree (tree-safe t os)

    low-alike : Alike (walkSections (sectionsOf t) (length t) os) (readScript t os)
    low-alike = same-walk (walkSections (sectionsOf t) (length t) os) (readScript t os) low-to-tree tree-to-low

    -- The lowered sections are walked as the script is read,
    pub low-same : SameWalk (walkSections (sectionsOf t) (length t) os) (readScript t os)
    low-same = record { firsts = agree t pos os (walkSections (sectionsOf t) (length t) os) low-alike; stops = low-alike.stops }

    -- and cleaning keeps each step.
    pub clean-is : (k : ℕ) → walkSections (cleanSections (sectionsOf t)) (length t) os k ≡ walkSections (sectionsOf t) (length t) os k
    clean-is = clean-same (length t) pos (sectionsOf t) (lower-fixed t pos) os low-safe

    clean-to-tree : Within (walkSections (cleanSections (sectionsOf t)) (length t) os) (readScript t os)
    clean-to-tree = within-trans (walkSections (cleanSections (sectionsOf t)) (length t) os) (walkSections (sectionsOf t) (length t) os) (readScript t os) (λ k. (k, inl (sym (clean-is k)))) low-to-tree

    tree-to-clean : Within (readScript t os) (walkSections (cleanSections (sectionsOf t)) (length t) os)
    tree-to-clean = within-trans (readScript t os) (walkSections (sectionsOf t) (length t) os) (walkSections (cleanSections (sectionsOf t)) (length t) os) tree-to-low (λ k. (k, inl (clean-is k)))

    -- Sections that keep the walks of the cleaned ones, as joined ones do, are walked as the script is read,
    module _ (m : List SectionCode) (k : Kept (length t) (cleanSections (sectionsOf t)) m) where
      joined-to-tree : Within (walkSections m (length t) os) (readScript t os)
      joined-to-tree = within-trans (walkSections m (length t) os) (walkSections (cleanSections (sectionsOf t)) (length t) os) (readScript t os) (k.back os) clean-to-tree

      tree-to-joined : Within (readScript t os) (walkSections m (length t) os)
      tree-to-joined = within-trans (readScript t os) (walkSections (cleanSections (sectionsOf t)) (length t) os) (walkSections m (length t) os) tree-to-clean (k.there os)

      joined-alike : Alike (walkSections m (length t) os) (readScript t os)
      joined-alike = same-walk (walkSections m (length t) os) (readScript t os) joined-to-tree tree-to-joined

      pub joined-same : SameWalk (walkSections m (length t) os) (readScript t os)
      joined-same = record { firsts = agree t pos os (walkSections m (length t) os) joined-alike; stops = joined-alike.stops }

    -- and so are the finished ones.
    fin-to-tree : Within (walkSections (finish t) (length t) os) (readScript t os)
    fin-to-tree = joined-to-tree (finish t) kept

    tree-to-fin : Within (readScript t os) (walkSections (finish t) (length t) os)
    tree-to-fin = tree-to-joined (finish t) kept

    fin-safe : Safe (walkSections (finish t) (length t) os)
    fin-safe = within-safe (walkSections (finish t) (length t) os) (readScript t os) fin-to-tree (tree-safe t os)

    fin-to-pruned : Within (walkSections (finish t) (length t) os) (readScript (map prune t) os)
    fin-to-pruned = within-trans (walkSections (finish t) (length t) os) (readScript t os) (readScript (map prune t) os) fin-to-tree (λ k. (k, inl (run-prune t k (0, os))))

    pruned-to-fin : Within (readScript (map prune t) os) (walkSections (finish t) (length t) os)
    pruned-to-fin = within-trans (readScript (map prune t) os) (readScript t os) (walkSections (finish t) (length t) os) (λ k. (k, inl (sym (run-prune t k (0, os))))) tree-to-fin

    same-pruned : Alike (walkSections (finish t) (length t) os) (readScript (map prune t) os)
    same-pruned = same-walk (walkSections (finish t) (length t) os) (readScript (map prune t) os) fin-to-pruned pruned-to-fin

  pub preservation : (os : List ℕ) → PreservesScript (length t) t (finish t) os
  preservation os =
      record {
        same = joined-same os (finish t) kept;
        found = fin-safe os;
        sections = safe-enters (finish t) (length t) os (fin-safe os);
        entered = λ P G good k. everywhere (λ u. SectGood P G (get_or (finish t) u absent)) (λ u. getD-good P G (finish t) (finish-good P G t good) u) (enters (finish t) (length t) k (0, os));
        registers = λ P G good. within-good P G t good os (walkSections (finish t) (length t) os) (fin-to-tree os);
        behindGoto = record { firsts = agree (map prune t) (omega (arith, length-map t prune)) os (walkSections (finish t) (length t) os) (same-pruned os); stops = (same-pruned os).stops };
        noPair = finished;
      }

  -- The same of the machine that codegen.rs's steps make, cleaned and combined.
  pub preservation-codegen : (os : List ℕ) → PreservesScript (length t) t (combineSections (cleanSections (codegen t))) os
  unfolding finish
  preservation-codegen os = subst (λ (m : List SectionCode). PreservesScript (length t) t (combineSections (cleanSections m)) os) (sym (codegen-is t)) (preservation os)

-- With replacement between: the machine is yogi's (codegen, replacement, cleaning, combining), and the script that is read is the script with
-- its instructions replaced by the same rules, in the same order, and with nothing out of a machine.
pub preservation-replaced : (p : ℕ) (σ : Regs) (t : Script) → 0 < length t → (os : List ℕ)
    → PreservesScript (length t) (repScript p σ t).0 (combineSections (cleanSections (replaceSections p σ (sectionsOf t)).0)) os
unfolding finish
preservation-replaced p σ t pos os =
    let u = (repScript p σ t).0 in
    let e : (replaceSections p σ (sectionsOf t)).0 ≡ sectionsOf u = ap (λ x. x.0) (lower-rep p σ t) in
    subst (λ (L : ℕ). PreservesScript L u (combineSections (cleanSections (replaceSections p σ (sectionsOf t)).0)) os) (length-rep p σ t) (subst (λ (m : List SectionCode). PreservesScript (length u) u (combineSections (cleanSections m)) os) (sym e) (preservation u (rw (length-rep p σ t) pos) os))
