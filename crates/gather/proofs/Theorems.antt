-- Combining gathers: each of its joins keeps what is gathered (join-gather, in JoinLinks), and a machine without a pair is gathered already.
-- Assumes nothing of the sections: they may be ones that combining refuses.
use Rattle.std.specs.Prelude.{◌≡◌, refl, true, List, [], ◌∷◌, ℕ, zero, suc, ◌≤◌, length}
use Rattle.std.proofs.Common.{sym, ap, ◌∙◌, not-suc-le-zero, arith}
use Rattle.std.proofs.Math.Option.{Option, none, some}
use Rattle.rules.specs.Combine.{pair, combineAt, combineFuel, combineSections}
use Rattle.rules.specs.Machine.{SectionCode}
use Rattle.rules.specs.Operations.{allAhead}
use Rattle.joins.specs.Ahead.{forward}
use Rattle.joins.specs.Joins.{length-join}
use Rattle.joins.specs.Pairs.{of-pair, pair-found, found-low}
use Rattle.gather.proofs.Ends.{pair-none, lowest-not, gather-self, forward-ringless}
use Rattle.gather.specs.Gather.{cut, Ringless, gather}
use Rattle.gather.proofs.JoinLinks.{join-gather}

-- Where no pair is left, a machine is gathered.
pub gather-none : (m : List SectionCode) → pair m ≡ none → gather m ≡ m
gather-none m e = gather-self m (λ u. ap (cut m) (pair-none m e u))

-- ---- the lowest pair first

fuel-gather : (k : ℕ) (m : List SectionCode) → length m ≤ k → combineFuel k m ≡ gather m
fuel-gather zero [] h = sym (gather-none [] refl)
fuel-gather zero (s ∷ m) h = absurd (not-suc-le-zero h)
fuel-gather (suc k) m h = go (pair m) refl (λ n q. fuel-gather k n q)
  where
    go : (o : Option (ℕ × ℕ)) → pair m ≡ o → ((n : List SectionCode) → length n ≤ k → combineFuel k n ≡ gather n) → combineFuel (suc k) m ≡ gather m
    go none e ih = rw (e, combineFuel) (sym (gather-none m e))
    go (some p) e ih =
        let q = pair-found m p e in
        let n = combineAt m p.0 p.1 in
        rw (e, combineFuel) (ih n (omega (arith, length-join m p.0 p.1 q)) ∙ join-gather m p.0 p.1 (of-pair m p.0 p.1 q) (lowest-not m p.0 p.1 q (found-low m p e)))

-- Combining gathers: of every machine, whether 14 or 15 refuses it or not.
pub combine-gather : (m : List SectionCode) → combineSections m ≡ gather m
unfolding combineSections
combine-gather m = fuel-gather (length m) m (omega arith)

-- A machine that 15 does not refuse has no ring.
pub ahead-ringless : (m : List SectionCode) → allAhead m 0 m ≡ true → Ringless m
ahead-ringless m e = forward-ringless m (forward m e)
