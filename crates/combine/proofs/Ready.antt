-- A machine that keeps the rules and that combine does not refuse, in tables: what `combine_all` asks holds, and what the words hold is the
-- machine: `ready`. What the tables are afterwards: `written-over`. So a caller that has written such a machine needs no check. Assumes nothing.
use Rattle.std.specs.Prelude.{◌≡◌, refl, Bool, true, false, ℕ, suc, ◌-◌, ◌≤◌, max, length, take, drop, replicate}
use Rattle.std.proofs.Common.{sym, ap, ◌∙◌, arith, drop_at}
use mathlib.Core.List.{List, [], ◌∷◌, ◌++◌, map}
use Rattle.std.proofs.Math.Nat.{max-eq_left}
use Rattle.std.proofs.lemmas.List.{length-map}
use Rattle.rules.specs.Bits.{Res, refused, ok}
use Rattle.rules.specs.Instr.{Instruction, kinds}
use Rattle.rules.specs.Refusal as Refusal
use Rattle.rules.specs.Word.{insWord}
use Rattle.rules.specs.Machine.{SectionCode, Machine}
use Rattle.rules.specs.Tables.{Tables, Counts, allb, runWords, allCode, countsOf}
use Rattle.rules.specs.Operations.{put, fixedHere, allAhead, combineIn}
use Rattle.rules.specs.Combine.{combined}
use Rattle.rules.specs.Preservation.{All}
use Rattle.laws.specs.Words.{InsSmall}
use Rattle.machines.specs.Fits.{Held, Counted, SectFit, AllAt, MachineFit, ins-small, next-small}
use Rattle.tables.specs.Runs.{held}
use Rattle.combine.specs.Held.{SectSmall, Holds, Sound}
use Rattle.combine.proofs.Back.{sound, holds-held}
use Rattle.laws.specs.Lists.{all-left, all-right, all-map}
use Rattle.laws.specs.Sections.{words-length}
use Rattle.combine.specs.Combined.{Combined, Written}
use Rattle.combine.proofs.Used.{put-twice}

-- ---- what keeps the rules fits its fields
module _ (u : Counts) (c : Counted u) where
  code-small : (l : List Instruction) → All (λ (i : Instruction). Held u (kinds i.op) i) l → All InsSmall l
  code-small l h = all-map (λ (i : Instruction). Held u (kinds i.op) i) InsSmall (ins-small u c) l h

  all-small : (k : ℕ) (ss : List SectionCode) → AllAt (SectFit u) k ss → All (λ (i : Instruction). Held u (kinds i.op) i) (allCode ss) → All SectSmall ss
  unfolding allCode
  all-small k [] f h = tt
  all-small k (s ∷ ss) f h =
      let H : Instruction → Type 0 = λ i. Held u (kinds i.op) i in
      ((next-small u c s.success f.0.success, code-small s.instrs (all-left H s.instrs (allCode ss) h)), all-small (suc k) ss f.1 (all-right H s.instrs (allCode ss) h))

-- ---- what combine does not refuse has no links back

no-refusal : (m r : Machine) (l : Tables) → combineIn l m ≡ ok r → allAhead m.sections 0 m.sections ≡ true
unfolding combineIn
no-refusal m r l e = first (allb fixedHere m.sections) e
  where
    never : (n : ℕ) → ◌≡◌ {A = Res Machine} (refused n) (ok r) → ⊥
    never n e = let z : ◌≡◌ {A = ℕ} 0 1 = cc in omega arith

    then : (b : Bool) → allAhead m.sections 0 m.sections ≡ b → elim b as (λ z. Res Machine) [ false ↦ refused Refusal.linksBack | true ↦ ok (combined m) ] ≡ ok r → allAhead m.sections 0 m.sections ≡ true
    then true p q = p
    then false p q = absurd (never Refusal.linksBack q)

    first : (b : Bool) → elim b as (λ z. Res Machine) [ false ↦ refused Refusal.isUnfixed | true ↦ elim (allAhead m.sections 0 m.sections) as (λ z. Res Machine) [ false ↦ refused Refusal.linksBack | true ↦ ok (combined m) ] ] ≡ ok r → allAhead m.sections 0 m.sections ≡ true
    first true q = then (allAhead m.sections 0 m.sections) refl q
    first false q = absurd (never Refusal.isUnfixed q)

-- ---- in tables

pub record Ready (s i : List ℕ) (n e : ℕ) (ss : List SectionCode) : Type 0 where
  pub sound : Sound s i n e
  pub ahead : allAhead (held s i n e) 0 (held s i n e) ≡ true
  pub held : held s i n e ≡ ss

module _ (m : Machine) (f : MachineFit m) (s i : List ℕ) (n e : ℕ) (hn : length m.sections ≡ n) (he : length (allCode m.sections) ≡ e) (hs : take n s ≡ runWords 0 m.sections) (hi : take e i ≡ map insWord (allCode m.sections)) where
  -- the tables hold the machine
  pub fit-holds : Holds s i n e m.sections
  unfolding countsOf
  fit-holds =
      record {
        sections = hs;
        instrs = hi;
        count = hn;
        code = he;
        few = omega (arith, f.counted.sections);
        short = omega (arith, f.counted.instrs);
        small = all-small (countsOf m) f.counted 0 m.sections f.sects f.instrs;
      }

  -- and may be combined as they stand
  pub ready : (l : Tables) (r : Machine) → combineIn l m ≡ ok r → Ready s i n e m.sections
  ready l r a =
      let h = holds-held s i n e m.sections fit-holds in
      record {
        sound = sound s i n e m.sections fit-holds;
        ahead = rw h (no-refusal m r l a);
        held = h;
      }

-- ---- written over what was written

-- as many words over as many
put-over : (n k : ℕ) (ws us t : List ℕ) → length us ≡ k → length ws ≡ k → k ≤ n → ws ++ drop k (put 0 n us t) ≡ put 0 n ws t
unfolding put
put-over n k ws us t h l m =
    let a : max n k ≡ n = max-eq_left m in
    rw (drop_at us (replicate (n - length us) 0 ++ drop (max n (length us)) t) k h, h, l, a)

pub written-over : (s₀ i₀ s i s' i' : List ℕ) (n₀ e₀ n e r : ℕ) (ss ts : List SectionCode) → Written s₀ i₀ s i n₀ e₀ ss → length ss ≡ n → length (allCode ss) ≡ e → n ≤ n₀ → e ≤ e₀ → Combined s i s' i' n e ts r → Written s₀ i₀ s' i' n₀ e₀ ts
written-over s₀ i₀ s i s' i' n₀ e₀ n e r ss ts w hn he ln le c =
    let few : length (runWords 0 ts) ≤ n = omega (arith, words-length 0 ts, c.count, c.fewer) in
    record {
      sections = c.tables.sections ∙ (ap (put 0 n (runWords 0 ts)) w.sections ∙ put-twice n₀ n (runWords 0 ts) (runWords 0 ss) s₀ (words-length 0 ss ∙ hn) few ln);
      instrs = c.tables.instrs ∙ (ap (λ (x : List ℕ). map insWord (allCode ts) ++ drop e x) w.instrs ∙ put-over e₀ e (map insWord (allCode ts)) (map insWord (allCode ss)) i₀ (length-map (allCode ss) insWord ∙ he) (length-map (allCode ts) insWord ∙ sym c.code) le);
    }
