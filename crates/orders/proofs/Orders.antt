-- Joins in any order, of any machine: what each join keeps, all keep; without a ring every order ends where combining does; and every order comes to an end.
use Rattle.std.specs.Prelude.{◌≡◌, refl, ◌↔◌, Bool, true, false, List, [], ◌∷◌, ◌++◌, ℕ, zero, suc, ◌+◌, eqb, length}
use Rattle.std.proofs.Common.{sym, ap, subst, ◌∙◌, arith, eqb-true, eq-eqb}
use Rattle.std.proofs.lemmas.Bool.{false≢true}
use Rattle.std.proofs.Math.Option.{Option, none, some, none-ne-some}
use Rattle.rules.specs.Combine.{next, pair, combineFuel, combineSections, combined}
use Rattle.rules.specs.JoinOrder.{allowed, joinPair, joinPairs, EndsIn, EveryOrderEndsIn}
use Rattle.rules.specs.Machine.{SectionCode, Machine, withSections}
use Rattle.joins.specs.Along.{combine-ends}
use Rattle.joins.specs.Joins.{length-join}
use Rattle.joins.specs.Pairs.{to-pair, of-pair, pair-found}
use Rattle.gather.proofs.Ends.{pair-none}
use Rattle.gather.proofs.JoinLinks.{join-gather}
use Rattle.gather.proofs.Theorems.{gather-none, combine-gather}
use Rattle.gather.specs.Gather.{Ringless, gather}
use Rattle.orders.proofs.Rings.{join-ringless}

-- ---- which pairs are allowed

allowed-next : (m : List SectionCode) (p : ℕ × ℕ) → allowed m p ≡ true → next m p.0 ≡ some p.1
allowed-next m p e = go (next m p.0) refl e
  where
    go : (o : Option ℕ) → next m p.0 ≡ o → elim o as (λ z. Bool) [ none ↦ false | some j ↦ eqb j p.1 ] ≡ true → next m p.0 ≡ some p.1
    go none q h = absurd (false≢true h)
    go (some j) q h = q ∙ ap some (eqb-true j p.1 h)

next-allowed : (m : List SectionCode) (i j : ℕ) → next m i ≡ some j → allowed m (i, j) ≡ true
next-allowed m i j e = rw (e, allowed, eq-eqb j j refl) refl

-- Where combining finds none, none is allowed.
pub none-allowed : (m : List SectionCode) → (pair m ≡ none) ↔ ((p : ℕ × ℕ) → allowed m p ≡ false)
none-allowed m = (there, λ h. back h (pair m) refl)
  where
    there : pair m ≡ none → (p : ℕ × ℕ) → allowed m p ≡ false
    there e p = rw (pair-none m e p.0, allowed) refl

    back : ((p : ℕ × ℕ) → allowed m p ≡ false) → (o : Option (ℕ × ℕ)) → pair m ≡ o → pair m ≡ none
    back h none e = e
    back h (some p) e = absurd (false≢true (sym (h p) ∙ next-allowed m p.0 p.1 (of-pair m p.0 p.1 (pair-found m p e))))

-- ---- one join after another

-- the first of them, and the others
record First (m : Machine) (p : ℕ × ℕ) (ps : List (ℕ × ℕ)) (n : Machine) : Type 0 where
  takes : next m.sections p.0 ≡ some p.1
  others : joinPairs (joinPair m p) ps ≡ some n

first : (m : Machine) (p : ℕ × ℕ) (ps : List (ℕ × ℕ)) (n : Machine) → joinPairs m (p ∷ ps) ≡ some n → First m p ps n
first m p ps n e = go (allowed m.sections p) refl e
  where
    go : (b : Bool) → allowed m.sections p ≡ b → elim b as (λ z. Option Machine) [ false ↦ none | true ↦ joinPairs (joinPair m p) ps ] ≡ some n → First m p ps n
    go false q h = absurd (none-ne-some n h)
    go true q h = record { takes = allowed-next m.sections p q; others = h }

goes : (m : Machine) (p : ℕ × ℕ) (ps : List (ℕ × ℕ)) → next m.sections p.0 ≡ some p.1 → joinPairs m (p ∷ ps) ≡ joinPairs (joinPair m p) ps
goes m p ps e = ap (λ (b : Bool). elim b as (λ z. Option Machine) [ false ↦ none | true ↦ joinPairs (joinPair m p) ps ]) (next-allowed m.sections p.0 p.1 e)

none-joined : (m n : Machine) → joinPairs m [] ≡ some n → m ≡ n
none-joined m n e = cc

-- what each of them keeps, all keep
pub joins-keep : (Q : Machine → Type 0) → ((m : Machine) (i j : ℕ) → next m.sections i ≡ some j → Q m → Q (joinPair m (i, j))) → (ps : List (ℕ × ℕ)) (m n : Machine) → joinPairs m ps ≡ some n → Q m → Q n
joins-keep Q h [] m n e q = let z : m ≡ n = none-joined m n e in rw (← z) q
joins-keep Q h (p ∷ ps) m n e q = let f = first m p ps n e in joins-keep Q h ps (joinPair m p) n f.others (h m p.0 p.1 f.takes q)

-- first some, then others
pub joins-append : (ps qs : List (ℕ × ℕ)) (m n : Machine) → joinPairs m ps ≡ some n → joinPairs m (ps ++ qs) ≡ joinPairs n qs
joins-append [] qs m n e = ap (λ (k : Machine). joinPairs k qs) (none-joined m n e)
joins-append (p ∷ ps) qs m n e =
    let f = first m p ps n e in
    goes m p (ps ++ qs) f.takes ∙ joins-append ps qs (joinPair m p) n f.others

-- ---- without a ring

-- what is gathered stays the same, and there is no ring still
record Gathers (g : Machine) (m : Machine) : Type 0 where
  ringless : Ringless m.sections
  same : withSections m (gather m.sections) ≡ g

-- Whatever the order, a machine without a ring ends as combining leaves it.
pub every-order : (m : Machine) → Ringless m.sections → EveryOrderEndsIn m (combined m)
unfolding combined
every-order m h ps n (e, f) =
    let g = withSections m (gather m.sections) in
    let k = joins-keep (Gathers g) (λ l i j q r. record { ringless = join-ringless l.sections r.ringless i j q; same = ap (withSections l) (join-gather l.sections i j q (r.ringless j)) ∙ r.same }) ps m n e (record { ringless = h; same = refl }) in
    sym (ap (withSections n) (gather-none n.sections f)) ∙ (k.same ∙ sym (ap (withSections m) (combine-gather m.sections)))

-- ---- joining comes to an end

-- Each join takes one section away, so no order goes on for ever.
pub order-length : (ps : List (ℕ × ℕ)) (m n : Machine) → joinPairs m ps ≡ some n → length n.sections + length ps ≡ length m.sections
order-length [] m n e = omega (arith, ap (λ (k : Machine). length k.sections) (none-joined m n e))
order-length (p ∷ ps) m n e =
    let f = first m p ps n e in
    omega (arith, order-length ps (joinPair m p) n f.others, length-join m.sections p.0 p.1 (to-pair m.sections p.0 p.1 f.takes))

-- combining's own order, the lowest pair first
lowest-fuel : (k : ℕ) (m : Machine) → (ps : List (ℕ × ℕ)) × (joinPairs m ps ≡ some (withSections m (combineFuel k m.sections)))
lowest-fuel zero m = ([], refl)
lowest-fuel (suc k) m = go (pair m.sections) refl (λ n. lowest-fuel k n)
  where
    Leads : List SectionCode → Type 0
    Leads l = (ps : List (ℕ × ℕ)) × (joinPairs m ps ≡ some (withSections m l))

    go : (o : Option (ℕ × ℕ)) → pair m.sections ≡ o → ((n : Machine) → (ps : List (ℕ × ℕ)) × (joinPairs n ps ≡ some (withSections n (combineFuel k n.sections)))) → Leads (combineFuel (suc k) m.sections)
    go none e ih = subst Leads (rw (e, combineFuel) refl) ([], refl)
    go (some p) e ih =
        let x = ih (joinPair m p) in
        let q = of-pair m.sections p.0 p.1 (pair-found m.sections p e) in
        subst Leads (rw (e, combineFuel) refl) (p ∷ x.0, goes m p x.0 q ∙ x.1)

pub lowest-first : (m : Machine) → (ps : List (ℕ × ℕ)) × EndsIn m ps (combined m)
unfolding combined combineSections
lowest-first m = let x = lowest-fuel (length m.sections) m in (x.0, (x.1, combine-ends m.sections))

-- So joining, however it was begun, can go on to an end.
pub joins-go-on : (ps : List (ℕ × ℕ)) (m n : Machine) → joinPairs m ps ≡ some n → (qs : List (ℕ × ℕ)) × EndsIn m (ps ++ qs) (combined n)
joins-go-on ps m n e = let x = lowest-first n in (x.0, (joins-append ps x.0 m n e ∙ x.1.0, x.1.1))
