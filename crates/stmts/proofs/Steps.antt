-- A list of statements, one by one: what is ready midway, and that the whole is lowered once the others are. Assumes nothing.
use mathlib.Core.Path.{◌≡◌, sym, ap, ◌∙◌}
use mathlib.Core.Bool.{Bool, cond}
use mathlib.Core.List.{List}
use Prim.Native.Nat.{ℕ, ◌+◌, ◌-◌, ◌≤◌, ◌<◌, ◌^◌}
use native.Mathlib.Omega.{arith}
use lib.ListN.{get_or}
use Rattle.nodes.specs.Words.{lastIn}
use Rattle.rules.specs.Constants.{nameBits}
use Rattle.rules.specs.Tree.{Block, ofBlock, emptyTally}
use Rattle.nodes.specs.Width.{width}
use Rattle.nodes.specs.Holds.{HoldsB}
use Rattle.nodes.proofs.Blocks.{is-end}
use Rattle.codegen.specs.declared.state.Counters.{Counters}
use Rattle.codegen.specs.Does.{Lent}
use Rattle.stmts.specs.Lists.{rest, isEnd, madeBy, linkedBy, entryBy, ListReady, ListDone, ListMid, SameLengths}
use Rattle.stmts.proofs.Lists.{lists-none, lists-more}
use Rattle.stmts.proofs.Splits.{parts, split, cut, first, others}
use Rattle.stmts.proofs.Places.{entry-same}

-- the first of the statements that are left
pub ready-first : {s t : List ℕ} {i left depth n f : ℕ} {c : Counters} {il nl sl pl ml zl : ℕ} → ListReady s t i left depth n c il nl sl pl ml zl → 0 < left → f ≡ n → ListReady s t i 1 depth f c il nl sl pl ml zl
ready-first p h e = record { list = first p.list h; ample = omega (arith, p.ample, parts p.list.block, e) }

module _ {s t : List ℕ} {i0 count depth n0 k : ℕ} {l0 : Bool} {c0 : Counters} {t0 : Lent} {se0 : List ℕ} {i left n : ℕ} {l : Bool} {c : Counters} {t1 : Lent} {se : List ℕ} (mid : ListMid s t i0 count depth l0 n0 k c0 t0 se0 i left l n c t1 se) where
  -- one more is lowered: linked as fl says, with number fn, left to fk; the whole is left to j, which is k
  pub list-on : {fl l' : Bool} {fn fk n' j : ℕ} {c1 : Counters} {t2 : Lent} {se2 : List ℕ} → 0 < left → fl ≡ l → fn ≡ n → fk ≡ entryBy left (n + madeBy (get_or t i 0)) j → j ≡ k
      → l' ≡ linkedBy (get_or t i 0) l → n' ≡ n + madeBy (get_or t i 0) → SameLengths t1 t2 se se2
      → ((m : ℕ) (x : Block) (z : ℕ) → m ≤ 2 ^ nameBits → HoldsB t s m 1 i x z → ListDone m x z fl fn fk c t1 t2 se se2 c1 z (fn + width x))
      → ListMid s t i0 count depth l0 n0 k c0 t0 se0 (lastIn (get_or t i 0)) (left - 1) l' n' c1 t2 se2
  list-on h a b d to e g same f =
      let p = mid.ready in
      let sp = cut p.list h in
      let st = (f _ _ _ p.list.few sp.head).spent in
      record {
        ready = record { list = others p.list h; ample = omega (arith, p.ample, parts p.list.block, st, same, g, sp.made) };
        going = λ m x z o q.
            let u = mid.going m x z o q in
            let su = split p.list.short o h u.held in
            let pu = parts u.others in
            let du = f m _ _ o su.head in
            record {
              others = rest u.others;
              held = su.tail;
              goes = λ t3 se3 c3 node number r.
                  u.goes t3 se3 c3 node number
                  (record {
                    does = lists-more u.others su.some (g ∙ ap (λ (j : ℕ). n + j) su.made) (e ∙ su.linked l)
                        (d ∙ (ap (λ (j : ℕ). entryBy left (n + madeBy (get_or t i 0)) j) to ∙ (entry-same left _ _ h su.tail ∙ ap (λ (j : ℕ). cond (isEnd (rest u.others)) k j) (sym g))))
                        (rw (a, b) at du.does) r.does;
                    spent = omega (arith, du.spent, r.spent, pu);
                    node-is = r.node-is;
                    number-is = omega (arith, r.number-is, g, su.made, pu.widths);
                  });
            };
      }

  pub list-end : {m z : ℕ} {x : Block} → left ≤ 0 → m ≤ 2 ^ nameBits → HoldsB t s m count i0 x z → ListDone m x z l0 n0 k c0 t0 t1 se0 se c i n
  unfolding ofBlock emptyTally width
  list-end h a q =
      let u = mid.going _ _ _ a q in
      let e = is-end u.held (omega arith) in
      u.goes _ _ _ _ _
      (rw e.is (record { does = lists-none; spent = omega arith; node-is = e.here; number-is = omega arith }))
