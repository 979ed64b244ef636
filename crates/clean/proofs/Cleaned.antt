-- The passes of clean, one after the other, leave the words of the cleaned sections. Assumes nothing.
use mathlib.Core.Path.{◌≡◌, refl, sym, ap, ◌∙◌}
use mathlib.Core.Bool.{Bool, true, false, cond}
use mathlib.Core.List.{List, [], ◌∷◌, ◌++◌, map}
use Prim.Native.Nat.{ℕ, ◌+◌, ◌<◌, ◌≤◌}
use native.Mathlib.Omega.{arith}
use lib.ListN.{length, take, drop, length-map, length-drop}
use lib.Seq.{length-take-le}
use Rattle.rules.specs.Bits.{isOne}
use Rattle.rules.specs.Constants.{mark, mostCount}
use Rattle.rules.specs.Word.{wordRun, runWord, wordIns, insWord}
use Rattle.rules.specs.Tables.{readSections, sectionRun, runWords, allCode, runOf}
use Rattle.rules.specs.Clean.{renIns, ren, keep}
use Rattle.laws.specs.Sections.{words-cons, code-cons}
use Rattle.std.proofs.lemmas.List.{map-append, take-map, drop-map}
use Rattle.tables.specs.Runs.{fixedWord, countOf, total, sectionOf}
use Rattle.tables.proofs.Read.{read-cons, word-is, count-is}
use Rattle.clean.specs.Pass.{withFirst, withTarget, withJump, bump, numbered, packedWord, packed, moved}
use Rattle.clean.proofs.Fields.{both-start, both-run-count, both-count, both-success, both-fixed}
use Rattle.clean.proofs.Numbers.{bump-le}

keep-cons : (w : ℕ) (ws is : List ℕ) → keep (readSections (w ∷ ws) is) ≡ cond (fixedWord w) (sectionOf w is ∷ keep (readSections ws (drop (countOf w) is))) (keep (readSections ws (drop (countOf w) is)))
unfolding fixedWord
keep-cons w ws is = rw read-cons

fewer : (w : ℕ) (ws is : List ℕ) → countOf w + total ws ≤ length is → total ws ≤ length (drop (countOf w) is)
fewer w ws is l = simp length-drop (omega arith)

-- the words of instructions with their jumps renumbered
pub jump-words : (f : ℕ → ℕ) (ws : List ℕ) → map (withJump f) ws ≡ map insWord (map (renIns f) (map wordIns ws))
unfolding withJump
jump-words f [] = refl
jump-words f (w ∷ ws) = ap (λ (x : List ℕ). insWord (renIns f (wordIns w)) ∷ x) (jump-words f ws)

module _ (f : ℕ → ℕ) (fb : (t : ℕ) → f t < mark) where
  sec-length : (w : ℕ) (is : List ℕ) → countOf w ≤ length is → length (ren f (sectionOf w is)).instrs ≡ countOf w
  unfolding countOf
  sec-length w is l = simp (length-map, length-take-le (wordRun w).count is l)

  sec-word : (k x w : ℕ) (is : List ℕ) → x < 65536 → countOf w ≤ length is → packedWord k (withTarget f (withFirst x w)) ≡ runWord (sectionRun (ren f (sectionOf w is)) k)
  unfolding packedWord
  sec-word k x w is h l =
      word-is k (ren f (sectionOf w is)) _ _ _ (ap isOne (both-start f fb x w h)) (both-success f fb x w h) (both-run-count f fb x w h ∙ count-is w ∙ sym (sec-length w is l))

  sec-code : (w : ℕ) (is : List ℕ) → map insWord (ren f (sectionOf w is)).instrs ≡ map (withJump f) (take (countOf w) is)
  unfolding countOf
  sec-code w is = sym (jump-words f (take (wordRun w).count is))

  -- the kept words
  module _ (w : ℕ) (ws is : List ℕ) (j : ℕ) (h : bump j w < 65536) (l : countOf w ≤ length is) where
    pack-step : (b : Bool) → fixedWord w ≡ b → ((k : ℕ) → packed k (map (withTarget f) (numbered (bump j w) ws)) ≡ runWords k (map (ren f) (keep (readSections ws (drop (countOf w) is))))) →
        (k : ℕ) → packed k (map (withTarget f) (numbered j (w ∷ ws))) ≡ runWords k (map (ren f) (keep (readSections (w ∷ ws) is)))
    unfolding packed numbered
    pack-step false e ih k = rw (both-fixed f fb (bump j w) w h, keep-cons w ws is, e) (ih k)
    pack-step true e ih k =
        rw (both-fixed f fb (bump j w) w h, keep-cons w ws is, e, both-count f fb (bump j w) w h, sec-word k (bump j w) w is h l, words-cons, sec-length w is l)
        (ap (λ (x : List ℕ). let s = ren f (sectionOf w is) in runWord (runOf s.lineStart s.success k (countOf w)) ∷ x) (ih (k + countOf w)))

    move-step : (b : Bool) → fixedWord w ≡ b → moved (map (withTarget f) (numbered (bump j w) ws)) (map (withJump f) (drop (countOf w) is)) ≡ map insWord (allCode (map (ren f) (keep (readSections ws (drop (countOf w) is))))) →
        moved (map (withTarget f) (numbered j (w ∷ ws))) (map (withJump f) is) ≡ map insWord (allCode (map (ren f) (keep (readSections (w ∷ ws) is))))
    unfolding moved numbered
    move-step false e ih = rw (both-fixed f fb (bump j w) w h, keep-cons w ws is, e, both-count f fb (bump j w) w h, drop-map (withJump f) (countOf w) is) ih
    move-step true e ih =
        rw (both-fixed f fb (bump j w) w h, keep-cons w ws is, e, both-count f fb (bump j w) w h, drop-map (withJump f) (countOf w) is, ih, code-cons, map-append, sec-code w is)
        (ap (λ (x : List ℕ). x ++ map insWord (allCode (map (ren f) (keep (readSections ws (drop (countOf w) is)))))) (take-map (withJump f) (countOf w) is))

  pub packs : (ws is : List ℕ) (j : ℕ) → j + length ws ≤ mostCount → total ws ≤ length is → (k : ℕ) → packed k (map (withTarget f) (numbered j ws)) ≡ runWords k (map (ren f) (keep (readSections ws is)))
  unfolding packed numbered readSections runWords total
  packs [] is j h l k = refl
  packs (w ∷ ws) is j h l k =
      pack-step w ws is j (omega (arith, bump-le j w)) (omega arith) (fixedWord w) refl (packs ws (drop (countOf w) is) (bump j w) (omega (arith, bump-le j w)) (fewer w ws is l)) k

  pub moves : (ws is : List ℕ) (j : ℕ) → j + length ws ≤ mostCount → total ws ≤ length is → moved (map (withTarget f) (numbered j ws)) (map (withJump f) is) ≡ map insWord (allCode (map (ren f) (keep (readSections ws is))))
  unfolding moved numbered readSections allCode total
  moves [] is j h l = refl
  moves (w ∷ ws) is j h l =
      move-step w ws is j (omega (arith, bump-le j w)) (omega arith) (fixedWord w) refl (moves ws (drop (countOf w) is) (bump j w) (omega (arith, bump-le j w)) (fewer w ws is l))
