-- Words of names, one by one. Assumes nothing.
use mathlib.Core.Path.{◌≡◌, refl, sym, ap, ◌∙◌}
use mathlib.Core.Bool.{true, false}
use mathlib.Core.List.{List, [], ◌∷◌, ◌++◌, map}
use mathlib.Core.Option.{Option, none, some}
use Prim.Native.Nat.{ℕ, zero, suc, ◌+◌, ◌≤◌, ◌<◌}
use native.Mathlib.Numerals.{add-one}
use native.Mathlib.Omega.{arith}
use lib.ListN.{length, set, replicate}
use Rattle.rules.specs.Constants.{mark}
use Rattle.rules.specs.Tree.{Name}
use Rattle.rules.specs.Lowered.{Options, nameWord, protects, nameWords}
use Rattle.names.specs.Names.{firstName, headerBits, nameAt, namesAt, nextName, endAt}
use Rattle.names.proofs.Laws.{end-ge, end-snoc, next-gt}
use Rattle.tree.specs.Files.{Placed}
use Rattle.codegen.specs.Does.{regWord}
use Rattle.program.specs.Names.{wordsTo, WordsTo}

-- ---- cleared

pub marks : (n : ℕ) → map regWord (replicate n none) ≡ replicate n mark
unfolding regWord
marks zero = refl
marks (suc n) = ap (λ l. mark ∷ l) (marks n)

-- ---- protected

-- a protected name keeps its word
keeps : (o : Options) (s : List ℕ) (n k p : ℕ) (vs : List (Option ℕ)) → length vs ≡ n → protects o (nameAt s (endAt s k p)).isGlobal ≡ true → wordsTo o k (namesAt s n p) vs ≡ wordsTo o (suc k) (namesAt s n p) vs
unfolding wordsTo namesAt endAt nameWord regWord
keeps o s zero zero p vs l e = refl
keeps o s zero (suc k) p vs l e = refl
keeps o s (suc n) k p [] l e = absurd (omega arith)
keeps o s (suc n) zero p (none ∷ vs) l e = rw e
keeps o s (suc n) zero p (some v ∷ vs) l e = rw e
keeps o s (suc n) (suc k) p (v ∷ vs) l e = ap (λ m. nameWord (protects o (nameAt s p).isGlobal) v ∷ m) (keeps o s n k (nextName s p) vs (omega arith) e)

-- any other gets the mark
drops : (o : Options) (s : List ℕ) (n k p : ℕ) (vs : List (Option ℕ)) (r : List ℕ) → length vs ≡ n → k < n → protects o (nameAt s (endAt s k p)).isGlobal ≡ false → set (wordsTo o k (namesAt s n p) vs ++ r) k mark ≡ wordsTo o (suc k) (namesAt s n p) vs ++ r
unfolding wordsTo namesAt endAt nameWord regWord
drops o s zero k p vs r l h e = absurd (omega arith)
drops o s (suc n) k p [] r l h e = absurd (omega arith)
drops o s (suc n) zero p (none ∷ vs) r l h e = rw e
drops o s (suc n) zero p (some v ∷ vs) r l h e = rw e
drops o s (suc n) (suc k) p (v ∷ vs) r l h e = ap (λ m. nameWord (protects o (nameAt s p).isGlobal) v ∷ m) (drops o s n k (nextName s p) vs r (omega arith) (omega arith) e)

module _ {o : Options} {s : List ℕ} {n k : ℕ} {t t' : List ℕ} (w : WordsTo o s n k t t') where
  pub word-kept : protects o (nameAt s (endAt s k firstName)).isGlobal ≡ true → WordsTo o s n (k + 1) t t'
  word-kept e = record { are = λ x vs rest p l m i. w.are x vs rest p l m i ∙ rw (p.are, l, add-one) (ap (λ z. z ++ rest) (keeps o s n k firstName vs m e)) }

  pub word-dropped : k < n → protects o (nameAt s (endAt s k firstName)).isGlobal ≡ false → WordsTo o s n (k + 1) t (set t' k mark)
  word-dropped h e = record { are = λ x vs rest p l m i. rw (w.are x vs rest p l m i, p.are, l, add-one) (drops o s n k firstName vs rest m h e) }

pub no-word : (o : Options) (s : List ℕ) (n : ℕ) (t : List ℕ) → WordsTo o s n 0 t t
unfolding wordsTo
no-word o s n t = record { are = λ x vs rest p l m i. i }

-- all words
words-all : (o : Options) (k : ℕ) (x : List Name) (vs : List (Option ℕ)) → length x ≡ k → length vs ≡ k → wordsTo o k x vs ≡ nameWords o x vs
unfolding wordsTo nameWords
words-all o zero [] [] l m = refl
words-all o zero [] (v ∷ vs) l m = absurd (omega arith)
words-all o zero (n ∷ ns) vs l m = absurd (omega arith)
words-all o (suc k) [] vs l m = absurd (omega arith)
words-all o (suc k) (n ∷ ns) [] l m = absurd (omega arith)
words-all o (suc k) (n ∷ ns) (v ∷ vs) l m = ap (λ z. nameWord (protects o n.isGlobal) v ∷ z) (words-all o k ns vs (omega arith) (omega arith))

pub words-done : {o : Options} {s : List ℕ} {n k : ℕ} {t t' : List ℕ} → WordsTo o s n k t t' → n ≤ k → k ≤ n → (x : List Name) (vs : List (Option ℕ)) (rest : List ℕ) → Placed s x → length x ≡ n → length vs ≡ n → t ≡ map regWord vs ++ rest → t' ≡ nameWords o x vs ++ rest
words-done {o} {k = k} w h g x vs rest p l m i = w.are x vs rest p l m i ∙ ap (λ z. z ++ rest) (words-all o k x vs (omega arith) (omega arith))

-- ---- where they stand

-- the name behind k of n names: its flag and length lie before the end of all
pub name-inside : (s : List ℕ) (n k p : ℕ) → k < n → endAt s k p + headerBits ≤ endAt s n p
unfolding endAt
name-inside s zero k p h = absurd (omega arith)
name-inside s (suc n) zero p h = omega (arith, end-ge s n (nextName s p), next-gt s p)
name-inside s (suc n) (suc k) p h = name-inside s n k (nextName s p) (omega arith)

pub name-next : (s : List ℕ) (k p : ℕ) → nextName s (endAt s k p) ≡ endAt s (k + 1) p
name-next s k p = rw add-one (sym (end-snoc s k p))
