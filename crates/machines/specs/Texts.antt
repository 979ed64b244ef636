-- The strings of a parsed tree are short, and their spans and the names' words keep the rules.
use Rattle.std.specs.Prelude.{◌≡◌, refl, Bool, true, false, List, [], ◌∷◌, ◌++◌, ℕ, ◌+◌, ◌≤◌, eqb, ltb, length, get_or}
use Rattle.std.proofs.Common.{sym, subst, arith, length-append, lt-ltb}
use Rattle.std.proofs.Math.Option.{Option, none, some}
use Rattle.rules.specs.Tree.{Name, Tree, Assignop, Binop, Unop, Expr, Block}
use Rattle.rules.specs.Tree.{And, Or, Add, Sub, Mul, Div, Mod, Pow, Eq, Ne, Le, Lt, Ge, Gt}
use Rattle.rules.specs.Tree.{Neg, Not, Abs, Sqrt, Fact, Sin, Cos, Tan, Asin, Acos, Atan}
use Rattle.rules.specs.Tree.{Plain, AddTo, SubTo, MulTo, DivTo, ModTo, PowTo}
use Rattle.rules.specs.Tree.{binop, unop, ident, number, string, goto, ite, assign, end}
use Rattle.rules.specs.Constants.{mark, mostChars}
use Rattle.rules.specs.Tables.{Counts, nameFits}
use Rattle.rules.specs.CodegenData.{CodegenData, scoped, bindName}
use Rattle.rules.specs.Operators.{getVariable, copyValreg, makeTruthy, numberify, applyBinop, applyUnop, codegenIncdec}
use Rattle.rules.specs.Annotate.{codegenFromExpr, assignBy, codegenFromAssign, condition, lineNumber, annotateStmts, annotateLines, fresh, annotate}
use Rattle.rules.specs.Lowered.{Options, nameWord, protects, nameWords, spans, texts}
use Rattle.rules.specs.Preservation.{All}
use Rattle.bounds.specs.Room.{NameBelow}
use Rattle.bounds.specs.Limits.{ShortExpr}
use Rattle.bounds.specs.LimitsTree.{ShortBlock}
use Rattle.machines.specs.Fits.{SpanFit}
use Rattle.std.proofs.lemmas.Bool.{or_right}

-- ---- operators leave the strings as they are

value-strings : (x : ℕ) (g : CodegenData) → (getVariable x g).1.strings ≡ g.strings
unfolding getVariable
value-strings x g = go (get_or g.names x none)
  where
    go : (o : Option ℕ) → (let y : ℕ × CodegenData = elim o [ some v ↦ (v, g) | none ↦ bindName x g ] in y.1.strings ≡ g.strings)
    go none = refl
    go (some v) = refl

binary-strings : (o : Binop) (l r : ℕ) (g : CodegenData) → (applyBinop o l r g).1.strings ≡ g.strings
unfolding applyBinop
binary-strings And l r g = refl
binary-strings Or l r g = refl
binary-strings Add l r g = refl
binary-strings Sub l r g = refl
binary-strings Mul l r g = refl
binary-strings Div l r g = refl
binary-strings Mod l r g = refl
binary-strings Pow l r g = refl
binary-strings Eq l r g = refl
binary-strings Ne l r g = refl
binary-strings Le l r g = refl
binary-strings Lt l r g = refl
binary-strings Ge l r g = refl
binary-strings Gt l r g = refl

unary-strings : (o : Unop) (r : ℕ) (g : CodegenData) → (applyUnop o r g).1.strings ≡ g.strings
unfolding applyUnop
unary-strings Neg r g = refl
unary-strings Not r g = refl
unary-strings Abs r g = refl
unary-strings Sqrt r g = refl
unary-strings Fact r g = refl
unary-strings Sin r g = refl
unary-strings Cos r g = refl
unary-strings Tan r g = refl
unary-strings Asin r g = refl
unary-strings Acos r g = refl
unary-strings Atan r g = refl

assigned-strings : (o : Assignop) (v e : ℕ) (g : CodegenData) → (assignBy o v e g).1.strings ≡ g.strings
unfolding assignBy
assigned-strings Plain v e g = refl
assigned-strings AddTo v e g = refl
assigned-strings SubTo v e g = refl
assigned-strings MulTo v e g = refl
assigned-strings DivTo v e g = refl
assigned-strings ModTo v e g = refl
assigned-strings PowTo v e g = refl

-- ---- short strings

abbrev Short : List ℕ → Type 0
Short t = length t ≤ mostChars

abbrev pub ShortAll : CodegenData → Type 0
ShortAll g = All Short g.strings

short-last : (l : List (List ℕ)) (t : List ℕ) → All Short l → Short t → All Short (l ++ (t ∷ []))
short-last [] t h k = (k, tt)
short-last (x ∷ l) t h k = (h.0, short-last l t h.1 k)

short-as : (g h : CodegenData) → h.strings ≡ g.strings → ShortAll g → ShortAll h
short-as g h e p = subst (All Short) (sym e) p

incdec-short : (b : Bool) (x : ℕ) (g : CodegenData) → ShortAll g → ShortAll (codegenIncdec b x g).1
unfolding codegenIncdec
incdec-short b x g h = short-as g (getVariable x g).1 (value-strings x g) h

expr-short : (e : Expr) → ShortExpr e → (g : CodegenData) → ShortAll g → ShortAll (codegenFromExpr e g).1
unfolding codegenFromExpr copyValreg
expr-short (binop o l r) k g h =
    let x = codegenFromExpr r g in
    let y = copyValreg x.0 x.1 in
    let z = codegenFromExpr l y.1 in
    let w = copyValreg z.0 z.1 in
    short-as w.1 (applyBinop o w.0 y.0 w.1).1 (binary-strings o w.0 y.0 w.1) (expr-short l k.0 y.1 (expr-short r k.1 g h))
expr-short (unop o r) k g h =
    let x = codegenFromExpr r g in
    let y = copyValreg x.0 x.1 in
    short-as y.1 (applyUnop o y.0 y.1).1 (unary-strings o y.0 y.1) (expr-short r k g h)
expr-short (Expr.incdec b x) k g h = incdec-short b x g h
expr-short (ident x) k g h = short-as g (getVariable x g).1 (value-strings x g) h
expr-short (number z) k g h = h
expr-short (string t) k g h = short-last g.strings t h k

assign-short : (x : ℕ) (o : Assignop) (e : Expr) → ShortExpr e → (g : CodegenData) → ShortAll g → ShortAll (codegenFromAssign x o e g).1
unfolding codegenFromAssign
assign-short x o e k g h =
    let y = codegenFromExpr e g in
    let z = getVariable x y.1 in
    short-as z.1 (assignBy o z.0 y.0 z.1).1 (assigned-strings o z.0 y.0 z.1) (short-as y.1 z.1 (value-strings x y.1) (expr-short e k g h))

abbrev clear : CodegenData → CodegenData
clear g = record { instrs = []; numbers = g.numbers; strings = g.strings; values = g.values; names = g.names }

block-short : (b : Block) → ShortBlock b → (g : CodegenData) → ShortAll g → ShortAll (annotateStmts b g).1
unfolding annotateStmts lineNumber condition numberify makeTruthy
block-short end k g h = h
block-short (goto e s) k g h = block-short s k.1 (scoped (lineNumber e) g).1 (expr-short e k.0 (clear g) h)
block-short (ite c t e s) k g h =
    let x = (scoped (condition c) g).1 in
    let y = (annotateStmts t x).1 in
    let z = (annotateStmts e y).1 in
    block-short s k.3 z (block-short e k.2 y (block-short t k.1 x (expr-short c k.0 (clear g) h)))
block-short (Block.incdec i x s) k g h = block-short s k (scoped (codegenIncdec i x) g).1 (incdec-short i x (clear g) h)
block-short (assign x o e s) k g h = block-short s k.1 (scoped (codegenFromAssign x o e) g).1 (assign-short x o e k.0 (clear g) h)

lines-short : (bs : List Block) → All ShortBlock bs → (g : CodegenData) → ShortAll g → ShortAll (annotateLines bs g).1
unfolding annotateLines
lines-short [] k g h = h
lines-short (b ∷ bs) k g h = lines-short bs k.1 (annotateStmts b g).1 (block-short b k.0 g h)

pub annotate-short : (t : Tree) → All ShortBlock t.lines → ShortAll (annotate t).1
unfolding annotate fresh
annotate-short t k = lines-short t.lines k (fresh (length t.names)) tt

-- ---- spans

spans-from : (P p : ℕ) (ts : List (List ℕ)) → All Short ts → p + length (texts ts) ≤ P → All (SpanFit P) (spans p ts)
unfolding spans texts
spans-from P p [] h k = tt
spans-from P p (t ∷ ts) h k =
    (record { inside = omega (arith, length-append t (texts ts)); short = h.0 }, spans-from P (p + length t) ts h.1 (omega (arith, length-append t (texts ts))))

pub spans-fit : (ts : List (List ℕ)) → All Short ts → All (SpanFit (length (texts ts))) (spans 0 ts)
spans-fit ts h = spans-from (length (texts ts)) 0 ts h (omega arith)

-- ---- names

word-fits : (u : Counts) (b : Bool) (v : Option ℕ) → NameBelow u.values v → nameFits u (nameWord b v) ≡ true
unfolding nameFits nameWord
word-fits u true (some n) h = or_right (eqb n mark) (ltb n u.values) (lt-ltb n u.values h)
word-fits u true none h = refl
word-fits u false (some n) h = refl
word-fits u false none h = refl

pub names-fit : (u : Counts) (o : Options) (ns : List Name) (vs : List (Option ℕ)) → All (NameBelow u.values) vs → All (λ n. nameFits u n ≡ true) (nameWords o ns vs)
unfolding nameWords
names-fit u o [] vs h = tt
names-fit u o (n ∷ ns) [] h = tt
names-fit u o (n ∷ ns) (v ∷ vs) h = (word-fits u (protects o n.isGlobal) v h.0, names-fit u o ns vs h.1)
