-- Lists of sections: their words and code, of one before others and of one run behind another; how many cleaning and replacement leave. Assumes nothing.
use Rattle.std.specs.Prelude.{◌≡◌, refl, Bool, true, false, cond, List, [], ◌∷◌, ◌++◌, ℕ, suc, ◌+◌, ◌≤◌, length}
use Rattle.std.proofs.Common.{ap, add-zero, add_assoc, append_assoc, arith, length-append}
use Rattle.rules.specs.Word.{runWord}
use Rattle.rules.specs.Machine.{SectionCode, isFixed}
use Rattle.rules.specs.Tables.{sectionRun, runWords, allCode}
use Rattle.rules.specs.Clean.{keep}
use Rattle.rules.specs.Replace.{Regs, replaceCode, replaceSections}

pub words-nil : (k : ℕ) → runWords k [] ≡ []
unfolding runWords
words-nil k = refl

pub words-cons : (k : ℕ) (s : SectionCode) (ss : List SectionCode) → runWords k (s ∷ ss) ≡ runWord (sectionRun s k) ∷ runWords (k + length s.instrs) ss
unfolding runWords
words-cons k s ss = refl

pub words-length : (k : ℕ) (ss : List SectionCode) → length (runWords k ss) ≡ length ss
unfolding runWords
words-length k [] = refl
words-length k (s ∷ ss) = ap suc (words-length (k + length s.instrs) ss)

pub words-append : (k : ℕ) (a b : List SectionCode) → runWords k (a ++ b) ≡ runWords k a ++ runWords (k + length (allCode a)) b
unfolding runWords allCode
words-append k [] b = rw add-zero
words-append k (s ∷ a) b = rw (words-append (k + length s.instrs) a b, length-append, add_assoc)

pub code-nil : allCode [] ≡ []
unfolding allCode
code-nil = refl

pub code-cons : (s : SectionCode) (ss : List SectionCode) → allCode (s ∷ ss) ≡ s.instrs ++ allCode ss
unfolding allCode
code-cons s ss = refl

pub code-append : (a b : List SectionCode) → allCode (a ++ b) ≡ allCode a ++ allCode b
unfolding allCode
code-append [] b = refl
code-append (s ∷ a) b = rw (code-append a b, append_assoc)

-- ---- how many are left

pub keep-length : (m : List SectionCode) → length (keep m) ≤ length m
keep-length [] = omega arith
keep-length (s ∷ m) = go (isFixed s.success) (keep-length m)
  where
    go : (b : Bool) → length (keep m) ≤ length m → length (cond b (s ∷ keep m) (keep m)) ≤ suc (length m)
    go true h = omega arith
    go false h = omega arith

pub replaced-length : (p : ℕ) (σ : Regs) (m : List SectionCode) → length (replaceSections p σ m).0 ≡ length m
replaced-length p σ [] = refl
replaced-length p σ (s ∷ m) = ap suc (replaced-length p (replaceCode p σ s.instrs).1 m)
