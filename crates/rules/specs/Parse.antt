-- The tree form: from bytes to a tree, or the refusal that comes first.
use Rattle.std.specs.Prelude.{Bool, true, false, not, ◌&&◌, List, [], ◌∷◌, ◌++◌, ℕ, zero, suc, ◌+◌, ◌*◌, ◌-◌, ◌^◌, leb, ltb, eqb, ℤ, pos, negsuc, length, get_or}
use Rattle.std.specs.Bool.{beq}
use Rattle.std.proofs.Math.Option.{none, some}
use Rattle.std.proofs.Math.ListN.{get_elem?}
use Rattle.rules.specs.Constants.{mostBytes, mostDepth, mostNodes, form, headBits, nameBits, nameLengthBits, charBits, stringLengthBits, flagBits, listBits, stmtKindBits, exprKindBits, operatorBits, assignBits, numberBits, byteBits, upperA, upperZ, caseDistance}
use Rattle.rules.specs.Refusal as Refusal
use Rattle.rules.specs.Bits.{Res, refused, ok, field, isOne}
use Rattle.rules.specs.Tree.{Name, Tree, Binop, Unop, Assignop, Expr, Block}
use Rattle.rules.specs.Tree.{And, Or, Add, Sub, Mul, Div, Mod, Pow, Eq, Ne, Le, Lt, Ge, Gt}
use Rattle.rules.specs.Tree.{Neg, Not, Abs, Sqrt, Fact, Sin, Cos, Tan, Asin, Acos, Atan}
use Rattle.rules.specs.Tree.{Plain, AddTo, SubTo, MulTo, DivTo, ModTo, PowTo}
use Rattle.rules.specs.Tree.{binop, unop, ident, number, string, goto, ite, assign, end}

-- where the reader stands: the bit position, and the nodes begun so far
pub record At : Type 0 where
  pub pos : ℕ
  pub nodes : ℕ

-- a reader of the bytes
abbrev pub Reader : Type 0 → Type 0
Reader A = List ℕ → At → Res (A × At)

-- reads nothing
unfoldable pub succeed : {A : Type 0} → A → Reader A
succeed a s c = ok (a, c)

-- reads nothing and refuses
unfoldable pub refuse : {A : Type 0} → ℕ → Reader A
refuse n s c = refused n

-- one reader, then another; the first refusal counts
infixl 10 ◌>>=◌
unfoldable pub ◌>>=◌ : {A B : Type 0} → Reader A → (A → Reader B) → Reader B
◌>>=◌ m f s c = elim (m s c) [ refused n ↦ refused n | ok r ↦ f r.0 s r.1 ]

-- refusal n unless the test passes
unfoldable pub demand : Bool → ℕ → Reader (Unit {0})
unfolding succeed refuse
demand true n = succeed tt
demand false n = refuse n

-- the next w bits
unfoldable pub bits : ℕ → Reader ℕ
unfolding field
bits w s c = elim (field s w c.pos) [ refused n ↦ refused n | ok r ↦ ok (r.0, record { pos = r.1; nodes = c.nodes }) ]

-- a node begins: 8 at one too many
unfoldable pub begin : Reader (Unit {0})
begin s c = elim (ltb c.nodes mostNodes) [ false ↦ refused Refusal.tooManyNodes | true ↦ ok (tt, record { pos = c.pos; nodes = suc c.nodes }) ]

-- n times the same
unfoldable pub many : {A : Type 0} → ℕ → Reader A → Reader (List A)
unfolding succeed ◌>>=◌
many zero r = succeed []
many (suc n) r = do
  x ← r
  xs ← many n r
  succeed (x ∷ xs)

-- n statements, each read as what puts it before a list
unfoldable pub block : ℕ → Reader (Block → Block) → Reader Block
unfolding succeed ◌>>=◌
block zero r = succeed end
block (suc n) r = do
  x ← r
  xs ← block n r
  succeed (x xs)

-- ---- fields with a meaning

-- an operator of w bits out of its declared order: 4 where unassigned
unfoldable pub operator : {A : Type 0} → ℕ → List A → Reader A
unfolding bits succeed refuse ◌>>=◌
operator w ops = do
  k ← bits w
  elim (get_elem? ops k) [ none ↦ refuse Refusal.unassigned | some o ↦ succeed o ]

-- the operators in their declared order
unfoldable pub binops : List Binop
binops = And ∷ Or ∷ Add ∷ Sub ∷ Mul ∷ Div ∷ Mod ∷ Pow ∷ Eq ∷ Ne ∷ Le ∷ Lt ∷ Ge ∷ Gt ∷ []

unfoldable pub unops : List Unop
unops = Neg ∷ Not ∷ Abs ∷ Sqrt ∷ Fact ∷ Sin ∷ Cos ∷ Tan ∷ Asin ∷ Acos ∷ Atan ∷ []

unfoldable pub assignops : List Assignop
assignops = Plain ∷ AddTo ∷ SubTo ∷ MulTo ∷ DivTo ∷ ModTo ∷ PowTo ∷ []

-- a name's number, of n names: 5 where the table has it not
unfoldable pub nameOf : ℕ → Reader ℕ
unfolding bits succeed demand ◌>>=◌
nameOf n = do
  x ← bits nameBits
  _ ← demand (ltb x n) Refusal.unknownName
  succeed x

-- 64 bits in two's complement
unfoldable pub signed : ℕ → ℤ
signed n = elim (ltb n (2 ^ (numberBits - 1))) [ true ↦ pos n | false ↦ negsuc (2 ^ numberBits - 1 - n) ]

-- ---- kinds of nodes; n is the number of names, r reads an operand, q a statement held

unfoldable pub binopOf : Reader Expr → Reader Expr
unfolding operator binops succeed ◌>>=◌
binopOf r = do
  o ← operator operatorBits binops
  a ← r
  b ← r
  succeed (binop o a b)

unfoldable pub unopOf : Reader Expr → Reader Expr
unfolding operator unops succeed ◌>>=◌
unopOf r = do
  o ← operator operatorBits unops
  a ← r
  succeed (unop o a)

unfoldable pub incdecOf : ℕ → Reader Expr
unfolding bits nameOf isOne succeed ◌>>=◌
incdecOf n = do
  i ← bits flagBits
  x ← nameOf n
  succeed (Expr.incdec (isOne i) x)

unfoldable pub identOf : ℕ → Reader Expr
unfolding nameOf succeed ◌>>=◌
identOf n = do
  x ← nameOf n
  succeed (ident x)

unfoldable pub numberOf : Reader Expr
unfolding bits signed succeed ◌>>=◌
numberOf = do
  v ← bits numberBits
  succeed (number (signed v))

unfoldable pub stringOf : Reader Expr
unfolding bits many succeed ◌>>=◌
stringOf = do
  l ← bits stringLengthBits
  t ← many l (bits charBits)
  succeed (string t)

unfoldable pub exprKinds : ℕ → Reader Expr → List (Reader Expr)
unfolding binopOf unopOf incdecOf identOf numberOf stringOf
exprKinds n r = binopOf r ∷ unopOf r ∷ incdecOf n ∷ identOf n ∷ numberOf ∷ stringOf ∷ []

unfoldable pub gotoOf : Reader Expr → Reader (Block → Block)
unfolding succeed ◌>>=◌
gotoOf r = do
  e ← r
  succeed (goto e)

unfoldable pub iteOf : Reader Expr → Reader (Block → Block) → Reader (Block → Block)
unfolding bits block succeed ◌>>=◌
iteOf r q = do
  c ← r
  i ← bits listBits
  t ← block i q
  j ← bits listBits
  e ← block j q
  succeed (ite c t e)

unfoldable pub stepOf : ℕ → Reader (Block → Block)
unfolding bits nameOf isOne succeed ◌>>=◌
stepOf n = do
  i ← bits flagBits
  x ← nameOf n
  succeed (Block.incdec (isOne i) x)

unfoldable pub assignOf : ℕ → Reader Expr → Reader (Block → Block)
unfolding nameOf operator assignops succeed ◌>>=◌
assignOf n r = do
  x ← nameOf n
  o ← operator assignBits assignops
  e ← r
  succeed (assign x o e)

unfoldable pub stmtKinds : ℕ → Reader Expr → Reader (Block → Block) → List (Reader (Block → Block))
unfolding gotoOf iteOf stepOf assignOf
stmtKinds n r q = gotoOf r ∷ iteOf r q ∷ stepOf n ∷ assignOf n r ∷ []

-- ---- nodes; d is the depth that is left

unfoldable pub expr : ℕ → ℕ → Reader Expr
unfolding begin bits exprKinds refuse ◌>>=◌
expr n zero = refuse Refusal.tooDeep
expr n (suc d) = do
  _ ← begin
  k ← bits exprKindBits
  get_or (exprKinds n (expr n d)) k (refuse Refusal.unassigned)

unfoldable pub stmt : ℕ → ℕ → Reader (Block → Block)
unfolding begin bits stmtKinds expr refuse ◌>>=◌
stmt n zero = refuse Refusal.tooDeep
stmt n (suc d) = do
  _ ← begin
  k ← bits stmtKindBits
  get_or (stmtKinds n (expr n d) (stmt n d)) k (refuse Refusal.unassigned)

-- ---- the file

-- A to Z are read as a to z, any other character as itself
unfoldable pub toLowercase : ℕ → ℕ
toLowercase c = elim (leb upperA c && leb c upperZ) [ true ↦ c + caseDistance | false ↦ c ]

unfoldable pub sameChars : List ℕ → List ℕ → Bool
unfolding toLowercase
sameChars [] [] = true
sameChars [] (b ∷ t) = false
sameChars (a ∷ s) [] = false
sameChars (a ∷ s) (b ∷ t) = eqb (toLowercase a) (toLowercase b) && sameChars s t

-- names are the same if their flags are, and their characters in lower case
unfoldable pub sameName : Name → Name → Bool
unfolding sameChars
sameName x y = beq x.isGlobal y.isGlobal && sameChars x.chars y.chars

-- is the name among these?
unfoldable pub known : Name → List Name → Bool
unfolding sameName
known x [] = false
known x (y ∷ ys) = elim (sameName x y) [ true ↦ true | false ↦ known x ys ]

unfoldable pub name : Reader Name
unfolding bits isOne many succeed ◌>>=◌
name = do
  g ← bits flagBits
  l ← bits nameLengthBits
  t ← many (suc l) (bits charBits)
  succeed (record { isGlobal = isOne g; chars = t })

-- n more names behind those in `before`: 6 at the second of two equal ones
unfoldable pub names : ℕ → List Name → Reader (List Name)
unfolding name known demand succeed ◌>>=◌
names zero before = succeed before
names (suc n) before = do
  x ← name
  _ ← demand (not (known x before)) Refusal.equalNames
  names n (before ++ (x ∷ []))

-- how many bits are left
unfoldable pub left : Reader ℕ
left s c = ok (byteBits * length s - c.pos, c)

-- the end: fewer than 8 bits are left, all zero
unfoldable pub fill : Reader (Unit {0})
unfolding left bits demand ◌>>=◌
fill = do
  n ← left
  _ ← demand (ltb n byteBits) Refusal.leftOver
  x ← bits n
  demand (eqb x 0) Refusal.leftOver

-- one line of a file with n names
unfoldable pub lineBlock : ℕ → Reader Block
unfolding bits block stmt ◌>>=◌
lineBlock n = do
  c ← bits listBits
  block c (stmt n mostDepth)

-- n names, then l lines, then the end
unfoldable pub body : ℕ → ℕ → Reader Tree
unfolding names many lineBlock fill succeed ◌>>=◌
body l n = do
  t ← names n []
  b ← many l (lineBlock n)
  _ ← fill
  succeed (record { names = t; lines = b })

unfoldable pub file : Reader Tree
unfolding bits demand body ◌>>=◌
file = do
  f ← bits headBits
  _ ← demand (eqb f form) Refusal.otherForm
  l ← bits headBits
  _ ← demand (ltb 0 l) Refusal.zeroLines
  n ← bits nameBits
  body l n

unfoldable pub parse : List ℕ → Res Tree
unfolding file
parse s =
    elim (leb (length s) mostBytes) [
      | false ↦ refused Refusal.tooLong
      | true ↦ elim (file s (record { pos = 0; nodes = 0 })) [ refused n ↦ refused n | ok r ↦ ok r.0 ]
    ]
