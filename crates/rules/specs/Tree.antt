-- The tree of a script, as parser.rs declares it, and what size counts of it.
use Rattle.std.specs.Prelude.{Bool, List, [], ◌∷◌, ℕ, suc, ◌+◌, ℤ, length}

-- a name: its flag and its 7-bit characters
pub record Name : Type 0 where
  pub isGlobal : Bool
  pub chars : List ℕ

-- operators, in the order of their declaration
pub data Binop : Type 0 where
  And Or Add Sub Mul Div Mod Pow Eq Ne Le Lt Ge Gt : Binop

pub data Unop : Type 0 where
  Neg Not Abs Sqrt Fact Sin Cos Tan Asin Acos Atan : Unop

-- plain, then Add to Pow
pub data Assignop : Type 0 where
  Plain AddTo SubTo MulTo DivTo ModTo PowTo : Assignop

-- an expression; a name stands as its number in the table of names
pub data Expr : Type 0 where
  binop : Binop → Expr → Expr → Expr
  unop : Unop → Expr → Expr
  incdec : Bool → ℕ → Expr
  ident : ℕ → Expr
  number : ℤ → Expr
  string : List ℕ → Expr

-- a list of statements: each constructor but `end` is a statement and the list behind it; an ite holds its then-list and its else-list
pub data Block : Type 0 where
  end : Block
  goto : Expr → Block → Block
  ite : Expr → Block → Block → Block → Block
  incdec : Bool → ℕ → Block → Block
  assign : ℕ → Assignop → Expr → Block → Block

-- the names, and a list of statements for each line
pub record Tree : Type 0 where
  pub names : List Name
  pub lines : List Block

-- what is counted: statements, nodes (statements and expressions), strings, characters of strings
pub record Tally : Type 0 where
  pub statements : ℕ
  pub nodes : ℕ
  pub strings : ℕ
  pub characters : ℕ

-- nothing
unfoldable pub emptyTally : Tally
emptyTally = record { statements = 0; nodes = 0; strings = 0; characters = 0 }

-- two parts together
unfoldable pub both : Tally → Tally → Tally
both a b = record { statements = a.statements + b.statements; nodes = a.nodes + b.nodes; strings = a.strings + b.strings; characters = a.characters + b.characters }

-- an expression node over what its operands count
unfoldable pub node : Tally → Tally
node a = record { statements = a.statements; nodes = suc a.nodes; strings = a.strings; characters = a.characters }

-- a statement over what it holds
unfoldable pub statement : Tally → Tally
unfolding node
statement a = let b = node a in record { statements = suc b.statements; nodes = b.nodes; strings = b.strings; characters = b.characters }

-- an expression
unfoldable pub ofExpr : Expr → Tally
unfolding node both emptyTally
ofExpr (binop o l r) = node (both (ofExpr l) (ofExpr r))
ofExpr (unop o r) = node (ofExpr r)
ofExpr (incdec i x) = node emptyTally
ofExpr (ident x) = node emptyTally
ofExpr (number n) = node emptyTally
ofExpr (string t) = record { statements = 0; nodes = 1; strings = 1; characters = length t }

-- a list of statements
unfoldable pub ofBlock : Block → Tally
unfolding statement both emptyTally ofExpr
ofBlock end = emptyTally
ofBlock (goto e s) = both (statement (ofExpr e)) (ofBlock s)
ofBlock (ite c t e s) = both (statement (both (ofExpr c) (both (ofBlock t) (ofBlock e)))) (ofBlock s)
ofBlock (incdec i x s) = both (statement emptyTally) (ofBlock s)
ofBlock (assign x o e s) = both (statement (ofExpr e)) (ofBlock s)

-- all lines
unfoldable pub ofLines : List Block → Tally
unfolding ofBlock both emptyTally
ofLines [] = emptyTally
ofLines (b ∷ bs) = both (ofBlock b) (ofLines bs)
