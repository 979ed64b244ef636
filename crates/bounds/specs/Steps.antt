-- Lowering's single steps: what each makes and costs.
use Rattle.std.specs.Prelude.{◌≡◌, List, [], ◌∷◌, ◌++◌, ℕ, zero, suc, ◌+◌, ◌<◌, ℤ, pos, get_or}
use Rattle.std.proofs.Math.Path.{refl}
use Rattle.std.proofs.Common.{arith, length-append}
use Rattle.std.proofs.Math.Bool.{false}
use Rattle.std.proofs.Math.Option.{Option, none, some}
use Rattle.std.proofs.Math.ListN.{length}
use Rattle.rules.specs.Opcode as Op
use Rattle.rules.specs.Instr.{ins₂, Kind, unused, num, val, place, kinds}
use Rattle.rules.specs.Replace.{rules, lookup}
use Rattle.rules.specs.CodegenData.{CodegenData, emit, newNum, newVal, bindName}
use Rattle.rules.specs.Operators.{errorJump, getVariable, copyValreg, makeTruthy, numberify, makeVal}
use Rattle.rules.specs.Preservation.{All, FieldBelow}
use Rattle.bounds.specs.Room.{adds, Ok, ok₁, ok₂, field-grows, roomOf, NameBelow, Fine, Cost, cost, Went, seq, within, room, went-here, went-emit, went-num, went-val, went-bind}

-- A step that gives a value register, and one that gives a number register.
pub record MadeVal (c : Cost) (g : CodegenData) (x : ℕ × CodegenData) : Type 0 where
  pub went : Went c g x.1
  pub reg : x.0 < x.1.values

pub record MadeNum (c : Cost) (g : CodegenData) (x : ℕ × CodegenData) : Type 0 where
  pub went : Went c g x.1
  pub reg : x.0 < length x.1.numbers

pub last : (l : List ℤ) (z : ℤ) → length (l ++ (z ∷ [])) ≡ suc (length l)
last l z = simp length-append (omega arith)

-- ---- single steps

name-at : (v : ℕ) (l : List (Option ℕ)) → All (NameBelow v) l → (x : ℕ) → NameBelow v (get_or l x none)
name-at v [] h x = tt
name-at v (n ∷ l) h zero = h.0
name-at v (n ∷ l) h (suc x) = name-at v l h.1 x

pub value-made : (g : CodegenData) (x : ℕ) → Fine g → MadeVal (cost 0 0 1 0 0) g (getVariable x g)
unfolding getVariable
value-made g x f = go (get_or g.names x none) (name-at g.values g.names f.names x)
  where
    go : (o : Option ℕ) → NameBelow g.values o → MadeVal (cost 0 0 1 0 0) g (elim o [ some v ↦ (v, g) | none ↦ bindName x g ])
    go none h = record { went = went-bind g x f; reg = omega arith }
    go (some v) h =
        record {
          went = within (record { n = omega arith; k = omega arith; v = omega arith; s = refl; p = refl }) (went-here g f);
          reg = h;
        }

pub copy-made : (g : CodegenData) (r : ℕ) → Fine g → r < g.values → MadeVal (cost 0 1 1 0 0) g (copyValreg r g)
unfolding copyValreg kinds rules lookup
copy-made g r f h =
    let w = went-val g f in
    let g₁ = (newVal g).1 in
    record {
      went = seq w (went-emit g₁ (ins₂ Op.CopyVal r g.values) w.fine (ok₂ (roomOf g₁) Op.CopyVal r g.values val val refl refl (omega arith) (omega arith)));
      reg = omega arith;
    }

-- A copy is a new register.
pub copy-new : (g : CodegenData) (r : ℕ) → (copyValreg r g).0 ≡ g.values
unfolding copyValreg
copy-new g r = refl

pub truthy-made : (g : CodegenData) (r : ℕ) → Fine g → r < g.values → MadeNum (cost 1 1 0 0 0) g (makeTruthy r g)
unfolding makeTruthy kinds rules lookup
truthy-made g r f h =
    let w = went-num g (pos 0) f in
    let g₁ = (newNum (pos 0) g).1 in
    let l = last g.numbers (pos 0) in
    record {
      went = seq w (went-emit g₁ (ins₂ Op.IsTruthyVal r (length g.numbers)) w.fine (ok₂ (roomOf g₁) Op.IsTruthyVal r (length g.numbers) val num refl refl (omega arith) (omega arith)));
      reg = omega arith;
    }

pub ok-error : (g : CodegenData) → Ok (roomOf g) errorJump
unfolding kinds rules lookup
ok-error g = ok₁ (roomOf g) Op.JumpIfError 0 place refl refl tt

pub numberify-made : (g : CodegenData) (r : ℕ) → Fine g → r < g.values → MadeNum (cost 1 2 0 0 0) g (numberify r g)
unfolding numberify kinds rules lookup
numberify-made g r f h =
    let w = went-num g (pos 0) f in
    let g₁ = (newNum (pos 0) g).1 in
    let l = last g.numbers (pos 0) in
    let i = ins₂ Op.NumberifyVal r (length g.numbers) in
    let g₂ = (emit i g₁).1 in
    let x = went-emit g₁ i w.fine (ok₂ (roomOf g₁) Op.NumberifyVal r (length g.numbers) val num refl refl (omega arith) (omega arith)) in
    record { went = seq w (seq x (went-emit g₂ errorJump x.fine (ok-error g₂))); reg = omega arith }

-- It emits two instructions, and no fewer.
pub numberify-emits : (g : CodegenData) (r : ℕ) → length (numberify r g).1.instrs ≡ length g.instrs + 2
unfolding numberify
numberify-emits g r = simp length-append (omega arith)

pub valueify-made : (g : CodegenData) (o r : ℕ) (k : Kind) → kinds o ≡ some (k, val, unused) → adds (lookup o rules) ≡ false → Fine g → FieldBelow (roomOf g) k r
    → MadeVal (cost 0 1 1 0 0) g (makeVal o r g)
unfolding makeVal
valueify-made g o r k e q f h =
    let w = went-val g f in
    let g₁ = (newVal g).1 in
    record {
      went = seq w (went-emit g₁ (ins₂ o r g.values) w.fine (ok₂ (roomOf g₁) o r g.values k val e q (field-grows (roomOf g) (roomOf g₁) (room w) k r h) (omega arith)));
      reg = omega arith;
    }

pub numbered-made : (g : CodegenData) (r : ℕ) → Fine g → r < length g.numbers → MadeVal (cost 0 1 1 0 0) g (makeVal Op.ValueifyNum r g)
unfolding kinds rules lookup
numbered-made g r f h = valueify-made g Op.ValueifyNum r num refl refl f h
