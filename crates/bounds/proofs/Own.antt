-- What lowering makes of expressions, statements and lines: every register is there, and the counts keep within the estimates.
use Rattle.std.specs.Prelude.{◌≡◌, refl, List, [], ◌∷◌, ℕ, zero, suc, ◌≤◌, ◌<◌, length, replicate}
use Rattle.std.proofs.Common.{ap, arith}
use Rattle.std.proofs.Math.Option.{none}
use Rattle.rules.specs.Opcode as Op
use Rattle.rules.specs.Tree.{Tree, Assignop, Expr, Block, ofExpr, ofBlock, ofLines}
use Rattle.rules.specs.Tree.{Plain, AddTo, SubTo, MulTo, DivTo, ModTo, PowTo}
use Rattle.rules.specs.Tree.{binop, unop, ident, number, string, assign, end}
use Rattle.rules.specs.Instr.{Instruction, ins₂, str, val, kinds}
use Rattle.rules.specs.Replace.{rules, lookup}
use Rattle.rules.specs.Script.{Stmts, nil, plain}
use Rattle.rules.specs.Assemble.{orOne, sectionsMade}
use Rattle.rules.specs.CodegenData.{CodegenData, Lower, newNum, newStr, scoped}
use Rattle.rules.specs.Operators.{getVariable, copyValreg, makeArithBinop, codegenIncdec}
use Rattle.rules.specs.Annotate.{codegenFromExpr, store, assignBy, codegenFromAssign, condition, lineNumber, annotateStmts, annotateLines, fresh, annotate}
use Rattle.rules.specs.Preservation.{All}
use Rattle.bounds.specs.Room.{Ok, ok₂, code-grows, roomOf, NameBelow, Fine, Cost, cost, plus, Went, seq, within, room, went-here, went-emit, went-num, went-str}
use Rattle.bounds.specs.Steps.{MadeVal, MadeNum, value-made, copy-made, copy-new, truthy-made, numberify-made, valueify-made, numbered-made, last}
use Rattle.bounds.specs.Own.{costOf, free, whole-grows, Made, MadeAll}
use Rattle.bounds.proofs.Operators.{arith-made, binary-made, unary-made, incdec-made}

-- ---- expressions

pub expr-made : (e : Expr) (g : CodegenData) → Fine g → MadeVal (costOf (ofExpr e)) g (codegenFromExpr e g)
unfolding codegenFromExpr ofExpr kinds rules lookup
expr-made (binop o l r) g f =
    let x = codegenFromExpr r g in
    let a = expr-made r g f in
    let y = copyValreg x.0 x.1 in
    let b = copy-made x.1 x.0 a.went.fine a.reg in
    let z = codegenFromExpr l y.1 in
    let c = expr-made l y.1 b.went.fine in
    let w = copyValreg z.0 z.1 in
    let d = copy-made z.1 z.0 c.went.fine c.reg in
    let n : w.0 ≡ z.1.values = copy-new z.1 z.0 in
    let i = binary-made o w.1 d.went.fine w.0 y.0 d.reg (omega arith) (λ q. omega arith) in
    record {
      went = within
          (record { n = omega arith; k = omega arith; v = omega arith; s = omega arith; p = omega arith })
          (seq a.went (seq b.went (seq c.went (seq d.went i.went))));
      reg = i.reg;
    }
expr-made (unop o r) g f =
    let x = codegenFromExpr r g in
    let a = expr-made r g f in
    let y = copyValreg x.0 x.1 in
    let b = copy-made x.1 x.0 a.went.fine a.reg in
    let i = unary-made o y.1 b.went.fine y.0 b.reg in
    record {
      went = within
          (record { n = omega arith; k = omega arith; v = omega arith; s = omega arith; p = omega arith })
          (seq a.went (seq b.went i.went));
      reg = i.reg;
    }
expr-made (Expr.incdec b x) g f =
    let i = incdec-made g f b x in
    record {
      went = within (record { n = omega arith; k = omega arith; v = omega arith; s = refl; p = refl }) i.went;
      reg = i.reg;
    }
expr-made (ident x) g f =
    let i = value-made g x f in
    record {
      went = within (record { n = omega arith; k = omega arith; v = omega arith; s = refl; p = refl }) i.went;
      reg = i.reg;
    }
expr-made (number z) g f =
    let a = went-num g z f in
    let i = numbered-made (newNum z g).1 (length g.numbers) a.fine (omega (arith, last g.numbers z)) in
    record {
      went = within (record { n = omega arith; k = omega arith; v = omega arith; s = refl; p = refl }) (seq a i.went);
      reg = i.reg;
    }
expr-made (string t) g f =
    let a = went-str g t f in
    let i = valueify-made (newStr t g).1 Op.ValueifyStr (length g.strings) str refl refl a.fine (omega (arith, a.strings-are)) in
    record {
      went = within (record { n = omega arith; k = omega arith; v = omega arith; s = refl; p = omega arith }) (seq a i.went);
      reg = i.reg;
    }

-- ---- own instructions of a statement

number-made : (e : Expr) (g : CodegenData) → Fine g → MadeNum (plus (costOf (ofExpr e)) (cost 1 2 0 0 0)) g (lineNumber e g)
unfolding lineNumber
number-made e g f =
    let a = expr-made e g f in
    let b = numberify-made (codegenFromExpr e g).1 (codegenFromExpr e g).0 a.went.fine a.reg in
    record { went = seq a.went b.went; reg = b.reg }

condition-made : (e : Expr) (g : CodegenData) → Fine g → MadeNum (plus (costOf (ofExpr e)) (cost 1 1 0 0 0)) g (condition e g)
unfolding condition
condition-made e g f =
    let a = expr-made e g f in
    let b = truthy-made (codegenFromExpr e g).1 (codegenFromExpr e g).0 a.went.fine a.reg in
    record { went = seq a.went b.went; reg = b.reg }

store-went : (g : CodegenData) (v : ℕ) → (m : Lower ℕ) → MadeVal (cost 2 7 1 0 0) g (m g) → v < (m g).1.values → Went (cost 2 8 1 0 0) g (store m v g).1
unfolding store kinds rules lookup
store-went g v m a h =
    let x = m g in
    seq a.went (went-emit x.1 (ins₂ Op.CopyVal x.0 v) a.went.fine (ok₂ (roomOf x.1) Op.CopyVal x.0 v val val refl refl a.reg h))

assigned-went : (o : Assignop) (g : CodegenData) → Fine g → (v e : ℕ) → v < g.values → e < g.values → Went (cost 2 8 1 0 0) g (assignBy o v e g).1
unfolding assignBy kinds rules lookup
assigned-went Plain g f v e a b =
    within (record { n = omega arith; k = omega arith; v = omega arith; s = refl; p = refl }) (went-emit g (ins₂ Op.CopyVal e v) f (ok₂ (roomOf g) Op.CopyVal e v val val refl refl b a))
assigned-went AddTo g f v e a b =
    within (record { n = omega arith; k = omega arith; v = omega arith; s = refl; p = refl }) (went-emit g (ins₂ Op.AddVal v e) f (ok₂ (roomOf g) Op.AddVal v e val val refl refl a b))
assigned-went SubTo g f v e a b =
    within (record { n = omega arith; k = omega arith; v = omega arith; s = refl; p = refl }) (went-emit g (ins₂ Op.SubVal v e) f (ok₂ (roomOf g) Op.SubVal v e val val refl refl a b))
assigned-went MulTo g f v e a b = let m = arith-made g f v e a b Op.Mul refl refl in store-went g v (makeArithBinop Op.Mul v e) m (omega (arith, m.went.values-up))
assigned-went DivTo g f v e a b = let m = arith-made g f v e a b Op.Div refl refl in store-went g v (makeArithBinop Op.Div v e) m (omega (arith, m.went.values-up))
assigned-went ModTo g f v e a b = let m = arith-made g f v e a b Op.Rem refl refl in store-went g v (makeArithBinop Op.Rem v e) m (omega (arith, m.went.values-up))
assigned-went PowTo g f v e a b = let m = arith-made g f v e a b Op.Pow refl refl in store-went g v (makeArithBinop Op.Pow v e) m (omega (arith, m.went.values-up))

assign-went : (x : ℕ) (o : Assignop) (e : Expr) (g : CodegenData) → Fine g → Went (plus (costOf (ofExpr e)) (cost 2 8 2 0 0)) g (codegenFromAssign x o e g).1
unfolding codegenFromAssign
assign-went x o e g f =
    let y = codegenFromExpr e g in
    let a = expr-made e g f in
    let z = getVariable x y.1 in
    let b = value-made y.1 x a.went.fine in
    seq a.went (seq b.went (assigned-went o z.1 b.went.fine z.0 y.0 b.reg (omega (arith, a.reg, b.went.values-up))))

-- ---- apart from the code before it

abbrev clear : CodegenData → CodegenData
clear g = record { instrs = []; numbers = g.numbers; strings = g.strings; values = g.values; names = g.names }

clear-fine : (g : CodegenData) → Fine g → Fine (clear g)
clear-fine g f = record { instrs = tt; names = f.names }

record Owned (c : Cost) (g : CodegenData) (x : (List Instruction × ℕ) × CodegenData) : Type 0 where
  went : Went (free c) g x.1
  instrs : All (Ok (roomOf x.1)) x.0.0
  most : length x.0.0 ≤ c.k

owned : (c : Cost) (g : CodegenData) → Fine g → (m : Lower ℕ) → Went c (clear g) (m (clear g)).1 → Owned c g (scoped m g)
owned c g f m w =
    let h = (m (clear g)).1 in
    record {
      went = record {
        numbers-up = w.numbers-up;
        numbers-most = w.numbers-most;
        code-most = omega arith;
        values-up = w.values-up;
        values-most = w.values-most;
        strings-are = w.strings-are;
        pool-is = w.pool-is;
        names-are = w.names-are;
        fine = record { instrs = code-grows (roomOf g) (roomOf h) (room w) g.instrs f.instrs; names = w.fine.names };
      };
      instrs = w.fine.instrs;
      most = omega (arith, w.code-most);
    }

-- ---- statements

one-most : (s : Stmts) (n : ℕ) → orOne s n ≤ suc n
one-most nil n = omega arith
one-most (plain o s) n = omega arith
one-most (Stmts.goto o r s) n = omega arith
one-most (Stmts.ite o c t e s) n = omega arith

pub block-made : (b : Block) (g : CodegenData) → Fine g → Made (ofBlock b) g (annotateStmts b g)
unfolding annotateStmts ofBlock
block-made end g f =
    record {
      went = within (record { n = omega arith; k = omega arith; v = omega arith; s = refl; p = refl }) (went-here g f);
      whole = tt;
      size-most = omega arith;
      code-most = omega arith;
    }
block-made (Block.goto e xs) g f =
    let m = number-made e (clear g) (clear-fine g f) in
    let a = owned (plus (costOf (ofExpr e)) (cost 1 2 0 0 0)) g f (lineNumber e) m.went in
    let x = scoped (lineNumber e) g in
    let b = block-made xs x.1 a.went.fine in
    let y = annotateStmts xs x.1 in
    let r = room b.went in
    record {
      went = within (record { n = omega arith; k = omega arith; v = omega arith; s = omega arith; p = omega arith }) (seq a.went b.went);
      whole = (code-grows (roomOf x.1) (roomOf y.1) r x.0.0 a.instrs, omega (arith, m.reg, r.numbers), b.whole);
      size-most = omega (arith, b.size-most);
      code-most = omega (arith, a.most, b.code-most);
    }
block-made (Block.ite c t e xs) g f =
    let m = condition-made c (clear g) (clear-fine g f) in
    let a = owned (plus (costOf (ofExpr c)) (cost 1 1 0 0 0)) g f (condition c) m.went in
    let x = scoped (condition c) g in
    let b = block-made t x.1 a.went.fine in
    let y = annotateStmts t x.1 in
    let d = block-made e y.1 b.went.fine in
    let z = annotateStmts e y.1 in
    let i = block-made xs z.1 d.went.fine in
    let w = annotateStmts xs z.1 in
    let r₃ = room i.went in
    let r₂ = room (seq d.went i.went) in
    let r₁ = room (seq b.went (seq d.went i.went)) in
    record {
      went = within
          (record { n = omega arith; k = omega arith; v = omega arith; s = omega arith; p = omega arith })
          (seq a.went (seq b.went (seq d.went i.went)));
      whole = (
        code-grows (roomOf x.1) (roomOf w.1) r₁ x.0.0 a.instrs,
        omega (arith, m.reg, r₁.numbers),
        whole-grows (roomOf y.1) (roomOf w.1) r₂ y.0 b.whole,
        whole-grows (roomOf z.1) (roomOf w.1) r₃ z.0 d.whole,
        i.whole,
      );
      size-most = omega (arith, b.size-most, d.size-most, i.size-most, one-most y.0 (sectionsMade y.0), one-most z.0 (sectionsMade z.0));
      code-most = omega (arith, a.most, b.code-most, d.code-most, i.code-most);
    }
block-made (Block.incdec i v xs) g f =
    let m = incdec-made (clear g) (clear-fine g f) i v in
    let a = owned (cost 0 2 1 0 0) g f (codegenIncdec i v) m.went in
    let x = scoped (codegenIncdec i v) g in
    let b = block-made xs x.1 a.went.fine in
    let y = annotateStmts xs x.1 in
    record {
      went = within (record { n = omega arith; k = omega arith; v = omega arith; s = omega arith; p = omega arith }) (seq a.went b.went);
      whole = (code-grows (roomOf x.1) (roomOf y.1) (room b.went) x.0.0 a.instrs, b.whole);
      size-most = omega (arith, b.size-most);
      code-most = omega (arith, a.most, b.code-most);
    }
block-made (assign v o e xs) g f =
    let m = assign-went v o e (clear g) (clear-fine g f) in
    let a = owned (plus (costOf (ofExpr e)) (cost 2 8 2 0 0)) g f (codegenFromAssign v o e) m in
    let x = scoped (codegenFromAssign v o e) g in
    let b = block-made xs x.1 a.went.fine in
    let y = annotateStmts xs x.1 in
    record {
      went = within (record { n = omega arith; k = omega arith; v = omega arith; s = omega arith; p = omega arith }) (seq a.went b.went);
      whole = (code-grows (roomOf x.1) (roomOf y.1) (room b.went) x.0.0 a.instrs, b.whole);
      size-most = omega (arith, b.size-most);
      code-most = omega (arith, a.most, b.code-most);
    }

-- ---- lines

pub lines-made : (bs : List Block) (g : CodegenData) → Fine g → MadeAll (ofLines bs) (length bs) g (annotateLines bs g)
unfolding annotateLines ofLines
lines-made [] g f =
    record {
      went = within (record { n = omega arith; k = omega arith; v = omega arith; s = refl; p = refl }) (went-here g f);
      whole = tt;
      long = refl;
      size-most = omega arith;
      code-most = omega arith;
    }
lines-made (b ∷ bs) g f =
    let x = annotateStmts b g in
    let a = block-made b g f in
    let y = annotateLines bs x.1 in
    let d = lines-made bs x.1 a.went.fine in
    record {
      went = within (record { n = omega arith; k = omega arith; v = omega arith; s = omega arith; p = omega arith }) (seq a.went d.went);
      whole = (whole-grows (roomOf x.1) (roomOf y.1) (room d.went) x.0 a.whole, d.whole);
      long = ap suc d.long;
      size-most = omega (arith, a.size-most, d.size-most);
      code-most = omega (arith, a.code-most, d.code-most);
    }

no-names : (n : ℕ) → All (NameBelow 0) (replicate n none)
no-names zero = tt
no-names (suc n) = (tt, no-names n)

pub annotate-made : (t : Tree) → MadeAll (ofLines t.lines) (length t.lines) (fresh (length t.names)) (annotate t)
unfolding annotate fresh
annotate-made t = lines-made t.lines (fresh (length t.names)) (record { instrs = tt; names = no-names (length t.names) })
