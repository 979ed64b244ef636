-- Orders of joins, computed: files, each joined in several orders; pairs that combining allows and pairs that it does not; and the smallest machine that two
-- orders end differently, a ring.
use Rattle.std.specs.Prelude.{◌≡◌, refl, true, false, List, [], ◌∷◌, map, ℕ, length, get_or, replicate}
use Rattle.std.proofs.Common.{sym, ap, ◌∙◌, arith}
use Rattle.std.proofs.Math.Option.{Option, none, some, none-ne-some}
use Rattle.rules.specs.Bits.{Res, refused, ok}
use Rattle.rules.specs.Tree.{Tree}
use Rattle.rules.specs.Parse.{parse}
use Rattle.rules.specs.Opcode as Op
use Rattle.rules.specs.Instr.{Instruction, ins₁}
use Rattle.rules.specs.Machine.{unfixed, section, line, SectionCode, absent, Machine}
use Rattle.rules.specs.Tables.{encode, countsOf, fits}
use Rattle.rules.specs.Assemble.{inner}
use Rattle.rules.specs.Clean.{cleaned}
use Rattle.rules.specs.Combine.{pair, combineAt, combined}
use Rattle.rules.specs.Lowered.{Options, defaults, lowered, finished}
use Rattle.rules.specs.JoinOrder.{allowed, joinPairs, EndsIn, EveryOrderEndsIn, OrderIndependent}
use Rattle.rules.specs.Examples.{bytes, head}

-- ---- files

-- a file, and orders that join its cleaned machine to the end
pub record Ordered : Type 0 where
  pub file : List ℕ
  pub orders : List (List (ℕ × ℕ))

unfoldable pub ordered : List Ordered
unfolding bytes
ordered =
    -- ++a ++a ++a ++a: all six orders
    record {
      file = bytes 11 0x01010101844A0140280500;
      orders =
          ((0, 1) ∷ (0, 1) ∷ (0, 1) ∷ []) ∷ ((0, 1) ∷ (1, 2) ∷ (0, 1) ∷ []) ∷ ((1, 2) ∷ (0, 1) ∷ (0, 1) ∷ [])
          ∷ ((1, 2) ∷ (1, 2) ∷ (0, 1) ∷ []) ∷ ((2, 3) ∷ (0, 1) ∷ (0, 1) ∷ []) ∷ ((2, 3) ∷ (1, 2) ∷ (0, 1) ∷ []) ∷ [];
    }
    -- if a then ++a ++a else ++a ++a end ++a: as combining joins it, the same pairs from the last on, and two orders from the middle
    ∷ record {
      file = bytes 15 0x01010101842580054028005402805000;
      orders =
          ((0, 3) ∷ (0, 3) ∷ (1, 2) ∷ (2, 3) ∷ []) ∷ ((5, 6) ∷ (3, 4) ∷ (1, 2) ∷ (0, 2) ∷ [])
          ∷ ((3, 4) ∷ (0, 3) ∷ (3, 4) ∷ (1, 2) ∷ []) ∷ ((1, 2) ∷ (2, 3) ∷ (3, 4) ∷ (0, 2) ∷ []) ∷ [];
    }
    -- ++a ++a, and on the next line ++a
    ∷ record { file = bytes 11 0x01020101842A014001A000; orders = ((0, 2) ∷ []) ∷ [] }
    -- two empty lines; x=1 y=2; if a then b=1 end; goto 1 if a then end
    ∷ record { file = bytes 5 0x0102000000; orders = [] ∷ [] }
    ∷ record { file = bytes 28 0x01010201E00790B00100000000000000FA301100000000000001F400; orders = ((0, 1) ∷ []) ∷ [] }
    ∷ record { file = bytes 21 0x0101020184062056000E02200000000000001F4000; orders = ((0, 2) ∷ []) ∷ [] }
    ∷ record { file = bytes 18 0x01010101842200000000000001F42C000000; orders = [] ∷ [] }
    ∷ []

-- where an order ends, and whether a pair is left
unfoldable pub endOf : Machine → List (ℕ × ℕ) → Option (Machine × Option (ℕ × ℕ))
unfolding combineAt
endOf m ps = elim (joinPairs m ps) [ none ↦ none | some n ↦ some (n, pair n.sections) ]

unfoldable pub ends : Ordered → Res (List (Option (Machine × Option (ℕ × ℕ))))
unfolding parse lowered cleaned defaults endOf
ends r = elim (parse r.file) [ refused n ↦ refused n | ok t ↦ ok (map (endOf (cleaned (lowered defaults t))) r.orders) ]

-- each in the finished machine, with none
unfoldable pub inFinished : Ordered → Res (List (Option (Machine × Option (ℕ × ℕ))))
unfolding parse finished defaults
inFinished r = elim (parse r.file) [ refused n ↦ refused n | ok t ↦ ok (replicate (length r.orders) (some (finished defaults t, none))) ]

pub orders-end : map ends ordered ≡ map inFinished ordered
unfolding ends inFinished ordered
orders-end = refl

-- what the claim says of a tree, word by word,
pub same-words : (o : Options) (t : Tree) → OrderIndependent o t → (ps : List (ℕ × ℕ)) (n : Machine) → EndsIn (cleaned (lowered o t)) ps n → encode n ≡ encode (finished o t)
same-words o t claim ps n e = ap encode (claim.every ps n e)

-- and that there is an order to the end
pub some-order : (o : Options) (t : Tree) → OrderIndependent o t → (ps : List (ℕ × ℕ)) × EndsIn (cleaned (lowered o t)) ps (finished o t)
some-order o t claim = claim.goesOn [] (cleaned (lowered o t)) refl

-- ---- pairs

-- two line starts that go on to a section each, a section that is jumped to as well, one that two go on to, one that goes on to itself, one that goes on to
-- a line, and one that is unfixed
unfoldable pub several : List SectionCode
unfolding head
several =
    head [] (section 1) ∷ head (ins₁ Op.JumpIfError 3 ∷ []) (section 2) ∷ inner [] (section 3) ∷ inner [] (section 4) ∷ inner [] (section 6)
    ∷ inner [] (section 5) ∷ inner [] (line 0) ∷ inner [] (section 6) ∷ inner [] unfixed ∷ []

pub are-allowed : map (allowed several) ((1, 2) ∷ (3, 4) ∷ []) ≡ replicate 2 true
unfolding several
are-allowed = refl

-- S2 is a line start, is jumped to, is another's successor too, is S1, is not S1's successor; S1 goes on to a line, is unfixed, is absent
pub not-allowed : map (allowed several) ((0, 1) ∷ (2, 3) ∷ (4, 6) ∷ (5, 5) ∷ (1, 4) ∷ (6, 0) ∷ (8, 0) ∷ (9, 0) ∷ []) ≡ replicate 8 false
unfolding several
not-allowed = refl

-- ---- orders

-- two instructions to tell apart
abbrev pub inc : Instruction
inc = ins₁ Op.IncVal 0

abbrev pub dec : Instruction
dec = ins₁ Op.DecVal 0

-- a machine with one value register
abbrev pub oneValue : List SectionCode → Machine
oneValue ss = record { lines = 1; sections = ss; numbers = []; strings = []; pool = []; values = 1; names = [] }

abbrev pub chain : Machine
chain = oneValue (head (inc ∷ []) (section 1) ∷ inner (dec ∷ []) (section 2) ∷ inner [] (section 0) ∷ [])

-- after one join of it
abbrev pub midway : Machine
midway = oneValue (head (inc ∷ dec ∷ []) (section 1) ∷ inner [] (section 0) ∷ [])

-- with (0, 1) joined, what was 2 is 1: (1, 2) is not allowed at its time
pub in-time : map (endOf chain) (((0, 1) ∷ (1, 2) ∷ []) ∷ ((0, 1) ∷ []) ∷ ((1, 2) ∷ (0, 1) ∷ []) ∷ [])
    ≡ none ∷ some (midway, some (0, 1)) ∷ some (oneValue (head (inc ∷ dec ∷ []) (section 0) ∷ []), none) ∷ []
unfolding endOf head
in-time = refl

-- one join is not the end of it
pub not-the-end : EndsIn chain ((0, 1) ∷ []) midway → ⊥
unfolding head
not-the-end h = none-ne-some (0, 1) (sym h.1)

-- ---- a ring

-- Sections 1 and 2 may take one another in. Whichever takes the other in is left, its own code in front.
abbrev pub ring : Machine
ring = oneValue (head [] (section 0) ∷ inner (inc ∷ []) (section 2) ∷ inner (dec ∷ []) (section 1) ∷ [])

-- it keeps the rules of machine words
pub ring-fits : fits (encode ring) (countsOf ring) ≡ true
unfolding fits encode countsOf head
ring-fits = refl

-- with this code
abbrev pub ringEnd : List Instruction → Machine
ringEnd c = oneValue (head [] (section 0) ∷ inner c (section 1) ∷ [])

pub both-ends : map (endOf ring) (((1, 2) ∷ []) ∷ ((2, 1) ∷ []) ∷ []) ≡ some (ringEnd (inc ∷ dec ∷ []), none) ∷ some (ringEnd (dec ∷ inc ∷ []), none) ∷ []
unfolding endOf head
both-ends = refl

-- combining, lowest pair first, ends as the first does
pub combined-ring : combined ring ≡ ringEnd (inc ∷ dec ∷ [])
unfolding combined head
combined-ring = refl

-- So there is no machine in which it ends whatever the order.
pub ring-ends-twice : (r : Machine) → EveryOrderEndsIn ring r → ⊥
unfolding combineAt head
ring-ends-twice r h =
    let low = h ((1, 2) ∷ []) (ringEnd (inc ∷ dec ∷ [])) (refl, refl) in
    let high = h ((2, 1) ∷ []) (ringEnd (dec ∷ inc ∷ [])) (refl, refl) in
    let o : Op.IncVal ≡ Op.DecVal = ap (λ (m : Machine). (get_or (get_or m.sections 1 absent).instrs 0 inc).op) (low ∙ sym high) in
    omega arith
