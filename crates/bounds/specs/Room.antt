-- Lowering's small steps: the registers that an instruction names are there, none is a duplicate that replacement adds a register for,
-- and each step costs so much.
use Rattle.std.specs.Prelude.{◌≡◌, refl, Bool, true, false, List, [], ◌∷◌, ◌++◌, ℕ, suc, ◌+◌, ◌≤◌, ◌<◌, ℤ, eqb, length}
use Rattle.std.proofs.Common.{sym, ap, subst, arith, length-append, length-set, ne_eqb}
use Rattle.std.proofs.Math.Option.{Option, none, some}
use Rattle.rules.specs.Instr.{Instruction, ins₁, ins₂, ins₃, Kind, unused, num, str, val, place, kinds}
use Rattle.rules.specs.Tables.{Counts}
use Rattle.rules.specs.Replace.{Rule, stays, goes, turns, number, result, blank, rules, lookup, ruleFor, ruleOf}
use Rattle.rules.specs.CodegenData.{CodegenData, emit, newNum, newStr, newVal, bindName}
use Rattle.rules.specs.Lowered.{texts}
use Rattle.rules.specs.Preservation.{All, FieldBelow, FieldsBelow, RegistersBelow}
use Rattle.laws.specs.Lists.{all-append, all-set}

-- ---- instructions

-- Does the rule add a register?
abbrev pub adds : Rule → Bool
adds stays = false
adds goes = false
adds (turns o) = false
adds (number z) = true
adds (result z) = true
adds blank = true

pub record Ok (u : Counts) (i : Instruction) : Type 0 where
  pub regs : RegistersBelow u i
  pub quiet : adds (ruleOf i) ≡ false

quiet-op : (b : Bool) (o : ℕ) → adds (lookup o rules) ≡ false → adds (ruleFor b o) ≡ false
quiet-op true o h = h
quiet-op false o h = refl

pub ok₁ : (u : Counts) (o a : ℕ) (k : Kind) → kinds o ≡ some (k, unused, unused) → adds (lookup o rules) ≡ false → FieldBelow u k a → Ok u (ins₁ o a)
ok₁ u o a k e q f =
    record { regs = subst (λ (x : Option (Kind × Kind × Kind)). FieldsBelow u x (ins₁ o a)) (sym e) (f, refl, refl); quiet = quiet-op (eqb a 0) o q }

pub ok₂ : (u : Counts) (o a b : ℕ) (k l : Kind) → kinds o ≡ some (k, l, unused) → adds (lookup o rules) ≡ false → FieldBelow u k a → FieldBelow u l b → Ok u (ins₂ o a b)
ok₂ u o a b k l e q f g =
    record { regs = subst (λ (x : Option (Kind × Kind × Kind)). FieldsBelow u x (ins₂ o a b)) (sym e) (f, g, refl); quiet = quiet-op (eqb a b) o q }

pub ok₃ : (u : Counts) (o a b c : ℕ) (k l m : Kind) → kinds o ≡ some (k, l, m) → (a ≡ b → ⊥) → FieldBelow u k a → FieldBelow u l b → FieldBelow u m c → Ok u (ins₃ o a b c)
ok₃ u o a b c k l m e ne f g h =
    record {
      regs = subst (λ (x : Option (Kind × Kind × Kind)). FieldsBelow u x (ins₃ o a b c)) (sym e) (f, g, h);
      quiet = ap (λ (z : Bool). adds (ruleFor z o)) (ne_eqb a b ne);
    }

-- ---- more room

pub record Room (u w : Counts) : Type 0 where
  pub numbers : u.numbers ≤ w.numbers
  pub strings : u.strings ≤ w.strings
  pub values : u.values ≤ w.values

pub field-grows : (u w : Counts) → Room u w → (k : Kind) (n : ℕ) → FieldBelow u k n → FieldBelow w k n
field-grows u w r unused n h = h
field-grows u w r num n h = omega arith
field-grows u w r str n h = omega arith
field-grows u w r val n h = omega arith
field-grows u w r place n h = tt

fields-grow : (u w : Counts) → Room u w → (k : Option (Kind × Kind × Kind)) (i : Instruction) → FieldsBelow u k i → FieldsBelow w k i
fields-grow u w r none i h = h
fields-grow u w r (some k) i h = (field-grows u w r k.0 i.fst h.0, field-grows u w r k.1 i.snd h.1, field-grows u w r k.2 i.thd h.2)

pub registers-grow : (u w : Counts) → Room u w → (i : Instruction) → RegistersBelow u i → RegistersBelow w i
registers-grow u w r i h = fields-grow u w r (kinds i.op) i h

ok-grows : (u w : Counts) → Room u w → (i : Instruction) → Ok u i → Ok w i
ok-grows u w r i h = record { regs = registers-grow u w r i h.regs; quiet = h.quiet }

pub code-grows : (u w : Counts) → Room u w → (c : List Instruction) → All (Ok u) c → All (Ok w) c
code-grows u w r [] h = tt
code-grows u w r (i ∷ c) h = (ok-grows u w r i h.0, code-grows u w r c h.1)

-- ---- the state of lowering

abbrev pub roomOf : CodegenData → Counts
roomOf g = record { lines = 0; sections = 0; instrs = 0; numbers = length g.numbers; strings = length g.strings; pool = 0; names = 0; values = g.values }

-- A name's register, if it has one.
abbrev pub NameBelow : ℕ → Option ℕ → Type 0
NameBelow v none = Unit {0}
NameBelow v (some n) = n < v

pub record Fine (g : CodegenData) : Type 0 where
  pub instrs : All (Ok (roomOf g)) g.instrs
  pub names : All (NameBelow g.values) g.names

name-grows : (v w : ℕ) → v ≤ w → (n : Option ℕ) → NameBelow v n → NameBelow w n
name-grows v w h none p = tt
name-grows v w h (some n) p = omega arith

names-grow : (v w : ℕ) → v ≤ w → (l : List (Option ℕ)) → All (NameBelow v) l → All (NameBelow w) l
names-grow v w h [] p = tt
names-grow v w h (n ∷ l) p = (name-grows v w h n p.0, names-grow v w h l p.1)

-- ---- costs: at most so many numbers, instructions and values; so many strings and characters

pub record Cost : Type 0 where
  pub n : ℕ
  pub k : ℕ
  pub v : ℕ
  pub s : ℕ
  pub p : ℕ

abbrev pub cost : ℕ → ℕ → ℕ → ℕ → ℕ → Cost
cost n k v s p = record { n = n; k = k; v = v; s = s; p = p }

abbrev pub plus : Cost → Cost → Cost
plus a b = cost (a.n + b.n) (a.k + b.k) (a.v + b.v) (a.s + b.s) (a.p + b.p)

-- From g to h.
pub record Went (c : Cost) (g h : CodegenData) : Type 0 where
  pub numbers-up : length g.numbers ≤ length h.numbers
  pub numbers-most : length h.numbers ≤ length g.numbers + c.n
  pub code-most : length h.instrs ≤ length g.instrs + c.k
  pub values-up : g.values ≤ h.values
  pub values-most : h.values ≤ g.values + c.v
  pub strings-are : length h.strings ≡ length g.strings + c.s
  pub pool-is : length (texts h.strings) ≡ length (texts g.strings) + c.p
  pub names-are : length h.names ≡ length g.names
  pub fine : Fine h

pub seq : {a b : Cost} {g h i : CodegenData} → Went a g h → Went b h i → Went (plus a b) g i
seq w x =
    record {
      numbers-up = omega arith;
      numbers-most = omega arith;
      code-most = omega arith;
      values-up = omega arith;
      values-most = omega arith;
      strings-are = omega arith;
      pool-is = omega arith;
      names-are = omega arith;
      fine = x.fine;
    }

pub record Most (a b : Cost) : Type 0 where
  pub n : a.n ≤ b.n
  pub k : a.k ≤ b.k
  pub v : a.v ≤ b.v
  pub s : a.s ≡ b.s
  pub p : a.p ≡ b.p

pub within : {a b : Cost} {g h : CodegenData} → Most a b → Went a g h → Went b g h
within m w =
    record {
      numbers-up = w.numbers-up;
      numbers-most = omega arith;
      code-most = omega arith;
      values-up = w.values-up;
      values-most = omega arith;
      strings-are = omega arith;
      pool-is = omega arith;
      names-are = w.names-are;
      fine = w.fine;
    }

pub room : {c : Cost} {g h : CodegenData} → Went c g h → Room (roomOf g) (roomOf h)
room w = record { numbers = w.numbers-up; strings = omega arith; values = w.values-up }

-- ---- one change each

-- What a change makes, number by number, is what it costs.
grew : {c : Cost} {g h : CodegenData} → length h.numbers ≡ length g.numbers + c.n → length h.instrs ≡ length g.instrs + c.k → h.values ≡ g.values + c.v
    → length h.strings ≡ length g.strings + c.s → length (texts h.strings) ≡ length (texts g.strings) + c.p → length h.names ≡ length g.names → Fine h → Went c g h
grew n k v s p m f =
    record {
      numbers-up = omega arith;
      numbers-most = omega arith;
      code-most = omega arith;
      values-up = omega arith;
      values-most = omega arith;
      strings-are = s;
      pool-is = p;
      names-are = m;
      fine = f;
    }

pub went-here : (g : CodegenData) → Fine g → Went (cost 0 0 0 0 0) g g
went-here g f = grew (omega arith) (omega arith) (omega arith) (omega arith) (omega arith) refl f

pub went-emit : (g : CodegenData) (i : Instruction) → Fine g → Ok (roomOf g) i → Went (cost 0 1 0 0 0) g (emit i g).1
went-emit g i f o =
    grew (omega arith) (omega (arith, length-append g.instrs (i ∷ []))) (omega arith) (omega arith) (omega arith) refl
    (record { instrs = all-append (Ok (roomOf g)) g.instrs (i ∷ []) f.instrs (o, tt); names = f.names })

pub went-num : (g : CodegenData) (z : ℤ) → Fine g → Went (cost 1 0 0 0 0) g (newNum z g).1
went-num g z f =
    let h = (newNum z g).1 in
    let l : length (g.numbers ++ (z ∷ [])) ≡ suc (length g.numbers) = simp length-append (omega arith) in
    grew (omega arith) (omega arith) (omega arith) (omega arith) (omega arith) refl (record { instrs = code-grows (roomOf g) (roomOf h) (record { numbers = omega arith; strings = omega arith; values = omega arith }) g.instrs f.instrs; names = f.names })

pub went-val : (g : CodegenData) → Fine g → Went (cost 0 0 1 0 0) g (newVal g).1
went-val g f =
    let h = (newVal g).1 in
    grew (omega arith) (omega arith) (omega arith) (omega arith) (omega arith) refl
    (record { instrs = code-grows (roomOf g) (roomOf h) (record { numbers = omega arith; strings = omega arith; values = omega arith }) g.instrs f.instrs; names = names-grow g.values h.values (omega arith) g.names f.names })

pub went-bind : (g : CodegenData) (x : ℕ) → Fine g → Went (cost 0 0 1 0 0) g (bindName x g).1
went-bind g x f =
    let h = (bindName x g).1 in
    let n = names-grow g.values h.values (omega arith) g.names f.names in
    grew (omega arith) (omega arith) (omega arith) (omega arith) (omega arith) (length-set g.names x (some g.values))
    (record { instrs = code-grows (roomOf g) (roomOf h) (record { numbers = omega arith; strings = omega arith; values = omega arith }) g.instrs f.instrs; names = all-set (NameBelow (suc g.values)) g.names x (some g.values) (omega arith) n })

pub length-texts : (ts : List (List ℕ)) (t : List ℕ) → length (texts (ts ++ (t ∷ []))) ≡ length (texts ts) + length t
unfolding texts
length-texts [] t = simp length-append (omega arith)
length-texts (x ∷ ts) t = omega (arith, length-append x (texts (ts ++ (t ∷ []))), length-append x (texts ts), length-texts ts t)

pub went-str : (g : CodegenData) (t : List ℕ) → Fine g → Went (cost 0 0 0 1 (length t)) g (newStr t g).1
went-str g t f =
    let h = (newStr t g).1 in
    let l : length (g.strings ++ (t ∷ [])) ≡ suc (length g.strings) = simp length-append (omega arith) in
    grew (omega arith) (omega arith) (omega arith) (omega arith) (length-texts g.strings t) refl (record { instrs = code-grows (roomOf g) (roomOf h) (record { numbers = omega arith; strings = omega arith; values = omega arith }) g.instrs f.instrs; names = f.names })
