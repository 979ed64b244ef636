-- The words of names: what clearing and protecting them asks and leaves. Definitions only.
use Rattle.std.specs.Prelude.{◌≡◌, List, [], ◌∷◌, ◌++◌, map, ℕ, zero, suc, ◌*◌, ◌≤◌, length}
use Rattle.std.proofs.Math.Option.{Option}
use Rattle.rules.specs.Constants.{mostBytes, byteBits}
use Rattle.rules.specs.Tree.{Name}
use Rattle.rules.specs.Lowered.{Options, nameWord, protects}
use Rattle.names.specs.Names.{firstName, endAt}
use Rattle.tree.specs.Files.{Placed}
use Rattle.codegen.specs.Does.{regWord}

-- n names stand in the file s, behind its head, and there is a word for each
pub record NamesReady (s : List ℕ) (n room : ℕ) : Type 0 where
  pub short : length s ≤ mostBytes
  pub inside : endAt s n firstName ≤ byteBits * length s
  pub words : n ≤ room

-- midway: the first k words are those of their names, the others as they were
unfoldable pub wordsTo : Options → ℕ → List Name → List (Option ℕ) → List ℕ
wordsTo o zero ns vs = map regWord vs
wordsTo o (suc k) [] vs = map regWord vs
wordsTo o (suc k) (n ∷ ns) [] = []
wordsTo o (suc k) (n ∷ ns) (v ∷ vs) = nameWord (protects o n.isGlobal) v ∷ wordsTo o k ns vs

-- whatever registers the n names of the file had
pub record WordsTo (o : Options) (s : List ℕ) (n k : ℕ) (t t' : List ℕ) : Type 0 where
  pub are : (x : List Name) (vs : List (Option ℕ)) (rest : List ℕ) → Placed s x → length x ≡ n → length vs ≡ n → t ≡ map regWord vs ++ rest → t' ≡ wordsTo o k x vs ++ rest
