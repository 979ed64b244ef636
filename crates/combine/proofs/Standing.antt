-- Words that hold a machine: each section is what its word and its code say. Assumes nothing.
use Rattle.std.specs.Prelude.{◌≡◌, refl, List, ◌∷◌, ◌++◌, map, ℕ, suc, ◌+◌, ◌≤◌, ◌<◌, length, take, drop, get_or}
use Rattle.std.proofs.Common.{sym, ap, ◌∙◌, subst, arith, length-append, take_at, drop_at, length-take-le}
use Rattle.std.proofs.lemmas.List.{length-map, map-append, get_or_at}
use Rattle.std.proofs.Math.Seq.{split_at, take-length}
use Rattle.rules.specs.Constants.{mostCount}
use Rattle.rules.specs.Word.{wordRun, insWord, runWord}
use Rattle.rules.specs.Machine.{SectionCode, absent}
use Rattle.rules.specs.Tables.{runWords, allCode, sectionRun}
use Rattle.rules.specs.Preservation.{All}
use Rattle.laws.specs.Lists.{all-right}
use Rattle.laws.specs.Sections.{words-length, words-cons, words-append, code-cons, code-append}
use Rattle.laws.proofs.SectionWord.{start-is, next-is, first-is, count-is}
use Rattle.combine.specs.Held.{SectSmall, Full, allHeld}
use Rattle.combine.specs.Chains.{Stands}
use Rattle.combine.proofs.Back.{code-back}

-- by the parts of the list of sections: those before, the section, those behind
module _ (ps zs : List SectionCode) (a : SectionCode) (s i : List ℕ) (ss-is : List SectionCode) (whole : ss-is ≡ ps ++ (a ∷ zs)) (sections : s ≡ runWords 0 ss-is) (instrs : i ≡ map insWord (allCode ss-is)) (small : All SectSmall ss-is) (short : length (allCode ss-is) ≤ mostCount) where
  -- where its code begins
  abbrev k : ℕ
  k = length (allCode ps)

  small-a : SectSmall a
  small-a = (all-right SectSmall ps (a ∷ zs) (subst (All SectSmall) whole small)).0

  code-parts : allCode ss-is ≡ allCode ps ++ (a.instrs ++ allCode zs)
  code-parts = ap allCode whole ∙ (code-append ps (a ∷ zs) ∙ ap (λ (x : List _). allCode ps ++ x) (code-cons a zs))

  long : k + (length a.instrs + length (allCode zs)) ≡ length (allCode ss-is)
  long = omega (arith, ap length code-parts, length-append (allCode ps) (a.instrs ++ allCode zs), length-append a.instrs (allCode zs))

  few : k < 65536
  few = omega (arith, long, short)

  fewer : length a.instrs < 65536
  fewer = omega (arith, long, short)

  word-at : get_or s (length ps) 0 ≡ runWord (sectionRun a k)
  word-at =
      let z : 0 + k ≡ k = omega arith in
      let w : s ≡ runWords 0 ps ++ (runWord (sectionRun a k) ∷ runWords (k + length a.instrs) zs) = sections ∙ (ap (runWords 0) whole ∙ (words-append 0 ps (a ∷ zs) ∙ rw (z, words-cons) refl)) in
      ap (λ (x : List ℕ). get_or x (length ps) 0) w ∙ get_or_at (runWords 0 ps) (runWord (sectionRun a k)) (runWords (k + length a.instrs) zs) 0 (length ps) (words-length 0 ps)

  first-at : (wordRun (get_or s (length ps) 0)).first ≡ k
  first-at = rw word-at (first-is a.lineStart a.success k (length a.instrs) small-a.0 few fewer)

  count-at : (wordRun (get_or s (length ps) 0)).count ≡ length a.instrs
  count-at = rw word-at (count-is a.lineStart a.success k (length a.instrs) small-a.0 few fewer)

  code-words : i ≡ map insWord (allCode ps) ++ (map insWord a.instrs ++ map insWord (allCode zs))
  code-words = instrs ∙ (ap (map insWord) code-parts ∙ rw (map-append, map-append) refl)

  part : take (length a.instrs) (drop k i) ≡ map insWord a.instrs
  part =
      ap (λ (x : List ℕ). take (length a.instrs) (drop k x)) code-words
      ∙ rw (drop_at (map insWord (allCode ps)) (map insWord a.instrs ++ map insWord (allCode zs)) k (length-map (allCode ps) insWord), take_at (map insWord a.instrs) (map insWord (allCode zs)) (length a.instrs) (length-map a.instrs insWord)) refl

  pub stands-part : (m : List SectionCode) → get_or m (length ps) absent ≡ a → Stands m s i (length ps)
  stands-part m e =
      record {
        start = rw (word-at, e) (start-is a.lineStart a.success k (length a.instrs) small-a.0 few fewer);
        success = rw (word-at, e) (next-is a.lineStart a.success k (length a.instrs) small-a.0 few fewer);
        code = rw (first-at, count-at, part, e) (code-back a.instrs small-a.1);
        inside = rw (first-at, count-at) (omega (arith, long, ap length instrs, length-map (allCode ss-is) insWord));
      }

pub all-stand : (s i : List ℕ) → Full s i → (u : ℕ) → u < length (allHeld s i) → Stands (allHeld s i) s i u
all-stand s i h u p =
    let m = allHeld s i in
    let l : length (take u m) ≡ u = length-take-le u m (omega arith) in
    let w : m ≡ take u m ++ (get_or m u absent ∷ drop (suc u) m) = split_at m u absent p in
    subst (Stands m s i) l (stands-part (take u m) (drop (suc u) m) (get_or m u absent) s i m w (sym (take-length s) ∙ h.sections) (sym (take-length i) ∙ h.instrs) h.small (omega (arith, h.code, h.short)) m (ap (λ (x : ℕ). get_or m x absent) l))
