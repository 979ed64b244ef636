-- What preservation tells apart: walks that differ, registers outside their tables, and a list cut behind its goto.
use Rattle.std.specs.Prelude.{◌≡◌, refl, List, [], ◌∷◌, map, ℕ, suc, length}
use Rattle.std.proofs.Common.{sym, ap, ◌∙◌, inl, inr, arith}
use Rattle.rules.specs.Opcode as Op
use Rattle.rules.specs.Instr.{Instruction, ins₁, ins₂, kinds}
use Rattle.rules.specs.Machine.{line}
use Rattle.rules.specs.Tables.{Counts}
use Rattle.rules.specs.Script.{nil, plain, goto, ite}
use Rattle.rules.specs.Walk.{atJump, atGoto, ask, lost, End, more, over, Trace}
use Rattle.rules.specs.Preservation.{Walk, SameFirst, SameWalk, RegistersBelow, GotoBelow, prune}
use Rattle.rules.specs.WalkExamples.{inc, threeLines}

-- ---- walks

-- a walk that is the same after any number of steps
abbrev pub still : Trace → Walk
still t k = t

abbrev first : List Instruction → ℕ
first [] = 0
first (i ∷ l) = i.fst

-- another instruction is met
pub other-instruction : SameWalk (still (inc 0 ∷ [], more)) (still (inc 1 ∷ [], more)) → ⊥
other-instruction s = go (s.firsts 1)
  where
    go : SameFirst (still (inc 0 ∷ [], more)) (still (inc 1 ∷ [], more)) 1 → ⊥
    go (inl (l, p, q)) = let e : ◌≡◌ {A = ℕ} 0 1 = ap first (p.2 ∙ sym q.2) in omega arith
    go (inr (p, q)) = let h = p 0 in omega arith

-- one more is met
pub one-more : SameWalk (still (inc 0 ∷ [], more)) (still ([], more)) → ⊥
one-more s = go (s.firsts 1)
  where
    go : SameFirst (still (inc 0 ∷ [], more)) (still ([], more)) 1 → ⊥
    go (inl (l, p, q)) = let e : length l ≡ 0 = sym (ap length q.2) in let d = q.1 in omega arith
    go (inr (p, q)) = let h = p 0 in omega arith

asked : End → ℕ
asked more = 0
asked (over lost) = 0
asked (over (ask (atJump i))) = 0
asked (over (ask (atGoto r))) = suc r

-- another question is asked; none is
pub other-question : SameWalk (still ([], over (ask (atGoto 0)))) (still ([], over (ask (atGoto 1)))) → ⊥
unfolding asked
other-question s = let t = (s.stops [] (atGoto 0)).0 (0, refl) in let e : ◌≡◌ {A = ℕ} 2 1 = ap (λ (x : Trace). asked x.1) t.1 in omega arith

pub no-question : SameWalk (still ([], over (ask (atGoto 0)))) (still ([], more)) → ⊥
unfolding asked
no-question s = let t = (s.stops [] (atGoto 0)).0 (0, refl) in let e : ◌≡◌ {A = ℕ} 0 1 = ap (λ (x : Trace). asked x.1) t.1 in omega arith

-- the same the other way round
pub late-question : SameWalk (still ([], more)) (still ([], over (ask (atGoto 0)))) → ⊥
unfolding asked
late-question s = let t = (s.stops [] (atGoto 0)).1 (0, refl) in let e : ◌≡◌ {A = ℕ} 0 1 = ap (λ (x : Trace). asked x.1) t.1 in omega arith

-- ---- registers, of a machine with one number, two strings and three values

abbrev pub few : Counts
few = record { lines = 1; sections = 1; instrs = 0; numbers = 1; strings = 2; pool = 0; values = 3; names = 0 }

pub registers-inside : RegistersBelow few (ins₂ Op.ValueifyNum 0 2)
unfolding kinds
registers-inside = (omega arith, omega arith, refl)

pub number-outside : RegistersBelow few (ins₂ Op.ValueifyNum 1 0) → ⊥
unfolding kinds
number-outside h = let p = h.0 in omega arith

pub value-outside : RegistersBelow few (ins₂ Op.ValueifyNum 0 3) → ⊥
unfolding kinds
value-outside h = let p = h.1 in omega arith

pub string-outside : RegistersBelow few (ins₁ Op.IncStr 2) → ⊥
unfolding kinds
string-outside h = let p = h.0 in omega arith

pub no-opcode : RegistersBelow few (ins₁ 53 0) → ⊥
unfolding kinds
no-opcode h = h

pub goto-outside : GotoBelow few (line 1) → ⊥
goto-outside h = omega arith

-- ---- a list cut behind its goto

pub cut : map prune threeLines ≡ ite (inc 1 ∷ ins₁ Op.JumpIfError 0 ∷ []) 3 (plain (inc 2 ∷ []) (goto (inc 3 ∷ []) 9 nil)) (plain (inc 5 ∷ []) nil) (plain (inc 6 ∷ []) nil)
    ∷ nil
    ∷ plain (inc 7 ∷ ins₁ Op.JumpIfError 0 ∷ inc 8 ∷ []) nil
    ∷ []
unfolding threeLines
cut = refl
