-- A tree's machine: assembled, lowered (with duplicates replaced), finished (cleaned and combined).
use Rattle.std.specs.Prelude.{Bool, true, false, List, [], ◌∷◌, ◌++◌, ℕ, ◌+◌, length}
use Rattle.std.proofs.Math.Option.{Option, none, some}
use Rattle.rules.specs.Tree.{Name, Tree}
use Rattle.rules.specs.Word.{Span}
use Rattle.rules.specs.Constants.{mark}
use Rattle.rules.specs.Machine.{Machine}
use Rattle.rules.specs.Annotate.{annotate}
use Rattle.rules.specs.Assemble.{sectionsOf}
use Rattle.rules.specs.Replace.{replaced}
use Rattle.rules.specs.Clean.{cleaned}
use Rattle.rules.specs.Combine.{combined}

-- which names are protected, `CodegenOptions`
pub record Options : Type 0 where
  pub locals : Bool
  pub globals : Bool

-- the default options protect globals alone
unfoldable pub defaults : Options
defaults = record { locals = false; globals = true }

-- a name's word: its value register, or 65,535 if it is unused or not protected
unfoldable pub nameWord : Bool → Option ℕ → ℕ
nameWord true (some v) = v
nameWord true none = mark
nameWord false (some v) = mark
nameWord false none = mark

-- do the options protect a name with this flag?
unfoldable pub protects : Options → Bool → Bool
protects o true = o.globals
protects o false = o.locals

-- the words of all names
unfoldable pub nameWords : Options → List Name → List (Option ℕ) → List ℕ
unfolding nameWord protects
nameWords o [] vs = []
nameWords o (n ∷ ns) [] = []
nameWords o (n ∷ ns) (v ∷ vs) = nameWord (protects o n.isGlobal) v ∷ nameWords o ns vs

-- texts stand end to end in the pool, here from p on, in register order
unfoldable pub spans : ℕ → List (List ℕ) → List Span
spans p [] = []
spans p (t ∷ ts) = record { start = p; size = length t } ∷ spans (p + length t) ts

-- the pool
unfoldable pub texts : List (List ℕ) → List ℕ
texts [] = []
texts (t ∷ ts) = t ++ texts ts

-- the machine before replacement
unfoldable pub assemble : Options → Tree → Machine
unfolding annotate sectionsOf spans texts nameWords
assemble o t =
    let (ss, g) = annotate t in
    record { lines = length ss; sections = sectionsOf ss; numbers = g.numbers; strings = spans 0 g.strings; pool = texts g.strings; values = g.values; names = nameWords o t.names g.names }

-- what lower gives
unfoldable pub lowered : Options → Tree → Machine
unfolding assemble replaced
lowered o t = replaced (assemble o t)

-- what finish gives
unfoldable pub finished : Options → Tree → Machine
unfolding lowered cleaned combined
finished o t = combined (cleaned (lowered o t))
