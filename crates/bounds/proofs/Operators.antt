-- Lowering's operators: what each makes and costs.
use Rattle.std.specs.Prelude.{◌≡◌, Bool, ℕ, ◌≤◌, ◌<◌, pos}
use Rattle.std.proofs.Math.Path.{refl}
use Rattle.std.proofs.Common.{sym, arith}
use Rattle.std.proofs.Math.Bool.{true, false}
use Rattle.std.proofs.Math.Option.{some}
use Rattle.std.proofs.Math.ListN.{length}
use Rattle.rules.specs.Opcode as Op
use Rattle.rules.specs.Tree.{Binop, Unop}
use Rattle.rules.specs.Tree.{And, Or, Add, Sub, Mul, Div, Mod, Pow, Eq, Ne, Le, Lt, Ge, Gt}
use Rattle.rules.specs.Tree.{Neg, Not, Abs, Sqrt, Fact, Sin, Cos, Tan, Asin, Acos, Atan}
use Rattle.rules.specs.Instr.{canRuntimeErr, ins₁, ins₂, ins₃, unused, num, val, kinds}
use Rattle.rules.specs.Replace.{rules, lookup}
use Rattle.rules.specs.CodegenData.{CodegenData, emit, newNum}
use Rattle.rules.specs.Operators.{errorJump, getVariable, makeTruthy, numberify, makeLogicBinop, guard, makeArithBinop, makeCmpBinop, makeNe, applyInPlace, applyBinop, makeNot, applyInNumber, applyUnop, incdecOp, codegenIncdec}
use Rattle.bounds.specs.Room.{adds, Ok, ok₁, ok₂, ok₃, roomOf, Fine, Cost, cost, Went, seq, Most, within, went-here, went-emit, went-num}
use Rattle.bounds.specs.Steps.{MadeVal, last, value-made, truthy-made, ok-error, numberify-made, numbered-made}

cheap : {a b : Cost} → a.n ≤ b.n → a.k ≤ b.k → a.v ≤ b.v → a.s ≡ b.s → a.p ≡ b.p → Most a b
cheap n k v s p = record { n = n; k = k; v = v; s = s; p = p }

module _ (g : CodegenData) (f : Fine g) (l r : ℕ) (hl : l < g.values) (hr : r < g.values) where
  logic-made : (o : ℕ) → kinds o ≡ some (num, num, unused) → adds (lookup o rules) ≡ false → MadeVal (cost 2 4 1 0 0) g (makeLogicBinop o l r g)
  unfolding makeLogicBinop
  logic-made o e q =
      let x = makeTruthy r g in
      let a = truthy-made g r f hr in
      let y = makeTruthy l x.1 in
      let b = truthy-made x.1 l a.went.fine (omega arith) in
      let h = (emit (ins₂ o y.0 x.0) y.1).1 in
      let c = went-emit y.1 (ins₂ o y.0 x.0) b.went.fine (ok₂ (roomOf y.1) o y.0 x.0 num num e q b.reg (omega arith)) in
      let d = numbered-made h y.0 c.fine b.reg in
      record { went = seq a.went (seq b.went (seq c d.went)); reg = d.reg }

  guard-went : (g : CodegenData) (b : Bool) → Fine g → Went (cost 0 1 0 0 0) g (guard b g).1
  unfolding guard
  guard-went g true f = went-emit g errorJump f (ok-error g)
  guard-went g false f = within (cheap (omega arith) (omega arith) (omega arith) refl refl) (went-here g f)

  pub arith-made : (o : ℕ) → kinds o ≡ some (num, num, unused) → adds (lookup o rules) ≡ false → MadeVal (cost 2 7 1 0 0) g (makeArithBinop o l r g)
  unfolding makeArithBinop
  arith-made o e q =
      let x = numberify r g in
      let a = numberify-made g r f hr in
      let y = numberify l x.1 in
      let b = numberify-made x.1 l a.went.fine (omega arith) in
      let h = (emit (ins₂ o y.0 x.0) y.1).1 in
      let c = went-emit y.1 (ins₂ o y.0 x.0) b.went.fine (ok₂ (roomOf y.1) o y.0 x.0 num num e q b.reg (omega arith)) in
      let t = canRuntimeErr o in
      let j = (guard t h).1 in
      let d = guard-went h t c.fine in
      let i = numbered-made j y.0 d.fine (omega arith) in
      record { went = seq a.went (seq b.went (seq c (seq d i.went))); reg = i.reg }

  compared-made : (o : ℕ) → kinds o ≡ some (val, val, num) → (l ≡ r → ⊥) → MadeVal (cost 1 2 1 0 0) g (makeCmpBinop o l r g)
  unfolding makeCmpBinop
  compared-made o e ne =
      let a = went-num g (pos 0) f in
      let z = last g.numbers (pos 0) in
      let n = length g.numbers in
      let g₁ = (newNum (pos 0) g).1 in
      let h = (emit (ins₃ o l r n) g₁).1 in
      let c = went-emit g₁ (ins₃ o l r n) a.fine (ok₃ (roomOf g₁) o l r n val val num e ne (omega arith) (omega arith) (omega arith)) in
      let d = numbered-made h n c.fine (omega arith) in
      record { went = seq a (seq c d.went); reg = d.reg }

  notEqual-made : (l ≡ r → ⊥) → MadeVal (cost 1 3 1 0 0) g (makeNe l r g)
  unfolding makeNe kinds rules lookup
  notEqual-made ne =
      let a = went-num g (pos 0) f in
      let z = last g.numbers (pos 0) in
      let n = length g.numbers in
      let g₁ = (newNum (pos 0) g).1 in
      let h = (emit (ins₃ Op.Eq l r n) g₁).1 in
      let c = went-emit g₁ (ins₃ Op.Eq l r n) a.fine (ok₃ (roomOf g₁) Op.Eq l r n val val num refl ne (omega arith) (omega arith) (omega arith)) in
      let j = (emit (ins₁ Op.NotNum n) h).1 in
      let b = went-emit h (ins₁ Op.NotNum n) c.fine (ok₁ (roomOf h) Op.NotNum n num refl refl (omega arith)) in
      let d = numbered-made j n b.fine (omega arith) in
      record { went = seq a (seq c (seq b d.went)); reg = d.reg }

  into-made : (o : ℕ) → kinds o ≡ some (val, val, unused) → adds (lookup o rules) ≡ false → MadeVal (cost 0 1 0 0 0) g (applyInPlace o l r g)
  unfolding applyInPlace
  into-made o e q = record { went = went-emit g (ins₂ o l r) f (ok₂ (roomOf g) o l r val val e q hl hr); reg = hl }

most-val : {a b : Cost} {g : CodegenData} {x : ℕ × CodegenData} → Most a b → MadeVal a g x → MadeVal b g x
most-val m w = record { went = within m w.went; reg = w.reg }

apart : (l r : ℕ) → (l ≡ r → ⊥) → r ≡ l → ⊥
apart l r ne e = ne (sym e)

pub binary-made : (o : Binop) (g : CodegenData) → Fine g → (l r : ℕ) → l < g.values → r < g.values → (l ≡ r → ⊥) → MadeVal (cost 2 7 1 0 0) g (applyBinop o l r g)
unfolding applyBinop kinds rules lookup
binary-made And g f l r a b ne = most-val (cheap (omega arith) (omega arith) (omega arith) refl refl) (logic-made g f l r a b Op.And refl refl)
binary-made Or g f l r a b ne = most-val (cheap (omega arith) (omega arith) (omega arith) refl refl) (logic-made g f l r a b Op.Or refl refl)
binary-made Add g f l r a b ne = most-val (cheap (omega arith) (omega arith) (omega arith) refl refl) (into-made g f l r a b Op.AddVal refl refl)
binary-made Sub g f l r a b ne = most-val (cheap (omega arith) (omega arith) (omega arith) refl refl) (into-made g f l r a b Op.SubVal refl refl)
binary-made Mul g f l r a b ne = arith-made g f l r a b Op.Mul refl refl
binary-made Div g f l r a b ne = arith-made g f l r a b Op.Div refl refl
binary-made Mod g f l r a b ne = arith-made g f l r a b Op.Rem refl refl
binary-made Pow g f l r a b ne = arith-made g f l r a b Op.Pow refl refl
binary-made Eq g f l r a b ne = most-val (cheap (omega arith) (omega arith) (omega arith) refl refl) (compared-made g f l r a b Op.Eq refl ne)
binary-made Ne g f l r a b ne = most-val (cheap (omega arith) (omega arith) (omega arith) refl refl) (notEqual-made g f l r a b ne)
binary-made Le g f l r a b ne = most-val (cheap (omega arith) (omega arith) (omega arith) refl refl) (compared-made g f l r a b Op.Le refl ne)
binary-made Lt g f l r a b ne = most-val (cheap (omega arith) (omega arith) (omega arith) refl refl) (compared-made g f l r a b Op.Lt refl ne)
binary-made Ge g f l r a b ne = most-val (cheap (omega arith) (omega arith) (omega arith) refl refl) (compared-made g f r l b a Op.Le refl (apart l r ne))
binary-made Gt g f l r a b ne = most-val (cheap (omega arith) (omega arith) (omega arith) refl refl) (compared-made g f r l b a Op.Lt refl (apart l r ne))

inNumber-made : (g : CodegenData) → Fine g → (r : ℕ) → r < g.values → (o : ℕ) → kinds o ≡ some (num, unused, unused) → adds (lookup o rules) ≡ false → MadeVal (cost 1 4 1 0 0) g (applyInNumber o r g)
unfolding applyInNumber
inNumber-made g f r hr o e q =
    let x = numberify r g in
    let a = numberify-made g r f hr in
    let h = (emit (ins₁ o x.0) x.1).1 in
    let c = went-emit x.1 (ins₁ o x.0) a.went.fine (ok₁ (roomOf x.1) o x.0 num e q a.reg) in
    let d = numbered-made h x.0 c.fine a.reg in
    record { went = seq a.went (seq c d.went); reg = d.reg }

notValue-made : (g : CodegenData) → Fine g → (r : ℕ) → r < g.values → MadeVal (cost 1 2 1 0 0) g (makeNot r g)
unfolding makeNot kinds rules lookup
notValue-made g f r hr =
    let a = went-num g (pos 0) f in
    let z = last g.numbers (pos 0) in
    let n = length g.numbers in
    let g₁ = (newNum (pos 0) g).1 in
    let h = (emit (ins₂ Op.NotVal r n) g₁).1 in
    let c = went-emit g₁ (ins₂ Op.NotVal r n) a.fine (ok₂ (roomOf g₁) Op.NotVal r n val num refl refl (omega arith) (omega arith)) in
    let d = numbered-made h n c.fine (omega arith) in
    record { went = seq a (seq c d.went); reg = d.reg }

pub unary-made : (o : Unop) (g : CodegenData) → Fine g → (r : ℕ) → r < g.values → MadeVal (cost 1 4 1 0 0) g (applyUnop o r g)
unfolding applyUnop kinds rules lookup
unary-made Neg g f r a = inNumber-made g f r a Op.Neg refl refl
unary-made Not g f r a = most-val (cheap (omega arith) (omega arith) (omega arith) refl refl) (notValue-made g f r a)
unary-made Abs g f r a = inNumber-made g f r a Op.Abs refl refl
unary-made Sqrt g f r a = inNumber-made g f r a Op.Sqrt refl refl
unary-made Fact g f r a = inNumber-made g f r a Op.Fact refl refl
unary-made Sin g f r a = inNumber-made g f r a Op.Sin refl refl
unary-made Cos g f r a = inNumber-made g f r a Op.Cos refl refl
unary-made Tan g f r a = inNumber-made g f r a Op.Tan refl refl
unary-made Asin g f r a = inNumber-made g f r a Op.Asin refl refl
unary-made Acos g f r a = inNumber-made g f r a Op.Acos refl refl
unary-made Atan g f r a = inNumber-made g f r a Op.Atan refl refl

ok-incdec : (g : CodegenData) (b : Bool) (v : ℕ) → v < g.values → Ok (roomOf g) (ins₁ (incdecOp b) v)
unfolding incdecOp kinds rules lookup
ok-incdec g true v h = ok₁ (roomOf g) Op.IncVal v val refl refl h
ok-incdec g false v h = ok₁ (roomOf g) Op.DecVal v val refl refl h

pub incdec-made : (g : CodegenData) → Fine g → (b : Bool) (x : ℕ) → MadeVal (cost 0 2 1 0 0) g (codegenIncdec b x g)
unfolding codegenIncdec
incdec-made g f b x =
    let y = getVariable x g in
    let a = value-made g x f in
    let h = (emit (ins₁ (incdecOp b) y.0) y.1).1 in
    let c = went-emit y.1 (ins₁ (incdecOp b) y.0) a.went.fine (ok-incdec y.1 b y.0 a.reg) in
    let d = went-emit h errorJump c.fine (ok-error h) in
    record { went = seq a.went (seq c d); reg = a.reg }
