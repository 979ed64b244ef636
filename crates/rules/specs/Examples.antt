-- Files that were tried, computed: a table of them with what is expected of each, and one theorem for all its rows.
use Rattle.std.specs.Prelude.{◌≡◌, refl, true, List, [], ◌∷◌, map, ℕ, zero, suc, ◌/◌, ◌%◌, ◌^◌, ℤ, pos, length, replicate}
use Rattle.std.proofs.Math.Option.{some}
use Rattle.std.proofs.Math.ListN.{get_elem?}
use Rattle.rules.specs.Bits.{Res, refused, ok}
use Rattle.rules.specs.Parse.{parse}
use Rattle.rules.specs.Opcode as Op
use Rattle.rules.specs.Instr.{Instruction, ins₁, ins₂, ins₃, Row, opcodes, table}
use Rattle.rules.specs.Constants.{mark}
use Rattle.rules.specs.Machine.{SectionOrLine, section, line, SectionCode, Machine}
use Rattle.rules.specs.Assemble.{inner}
use Rattle.rules.specs.Lowered.{defaults, lowered, finished}
use Rattle.rules.specs.Listing.{finlist}

-- what is seen of a file: how many sections its lowered machine has, and its finished machine, by the default options
unfoldable pub seen : List ℕ → Res (ℕ × Machine)
unfolding parse lowered finished defaults
seen s = elim (parse s) [ refused n ↦ refused n | ok t ↦ ok (length (lowered defaults t).sections, finished defaults t) ]

-- n bytes, written as one number
unfoldable pub bytes : ℕ → ℕ → List ℕ
bytes zero w = []
bytes (suc n) w = w / 256 ^ n % 256 ∷ bytes n w

-- a line start
unfoldable pub head : List Instruction → SectionOrLine → SectionCode
head c k = record { lineStart = true; instrs = c; success = k }

-- a machine of one line without strings, whose n names have no register
unfoldable pub oneLine : ℕ → List SectionCode → List ℤ → ℕ → Machine
oneLine n ss ns vs = record { lines = 1; sections = ss; numbers = ns; strings = []; pool = []; values = vs; names = replicate n mark }

-- a file and what is seen of it
pub record Tried : Type 0 where
  pub file : List ℕ
  pub expected : Res (ℕ × Machine)

-- what was tried, and the sample of finlist
unfoldable pub tried : List Tried
unfolding bytes oneLine head
tried =
    -- the empty file; 01 00; an empty line
    record { file = []; expected = refused 3 }
    ∷ record { file = bytes 2 0x0100; expected = refused 2 }
    ∷ record { file = bytes 4 0x01010000; expected = ok (1, oneLine 0 (head [] (section 0) ∷ []) [] 0) }
    -- x=x
    ∷ record {
      file = bytes 9 0x01010101E01C003000;
      expected = ok (2, oneLine 1 (head [] (section 0) ∷ []) [] 1);
    }
    -- x+=x
    ∷ record {
      file = bytes 9 0x01010101E01C00B000;
      expected = ok (2, oneLine 1 (head (ins₁ Op.AddSelfVal 0 ∷ []) (section 0) ∷ []) [] 1);
    }
    -- x=1, the sample of finlist
    ∷ record {
      file = bytes 16 0x01010101E01C00400000000000003E80;
      expected = ok (2, oneLine 1 (head (ins₂ Op.ValueifyNum 0 0 ∷ ins₂ Op.CopyVal 0 1 ∷ []) (section 0) ∷ []) (pos 1000 ∷ []) 2);
    }
    -- c=a>=b
    ∷ record {
      file = bytes 15 0x0101030184062018C1C080C600C040;
      expected = ok (2, oneLine 3 (head (ins₂ Op.CopyVal 0 1 ∷ ins₂ Op.CopyVal 2 3 ∷ ins₃ Op.Le 1 3 0 ∷ ins₂ Op.ValueifyNum 0 4 ∷ ins₂ Op.CopyVal 4 5 ∷ []) (section 0) ∷ []) (pos 0 ∷ []) 6);
    }
    -- x=1 y=2
    ∷ record {
      file = bytes 28 0x01010201E00790B00100000000000000FA301100000000000001F400;
      expected = ok (3, oneLine 2 (head (ins₂ Op.ValueifyNum 0 0 ∷ ins₂ Op.CopyVal 0 1 ∷ ins₂ Op.ValueifyNum 1 2 ∷ ins₂ Op.CopyVal 2 3 ∷ []) (section 0) ∷ []) (pos 1000 ∷ pos 2000 ∷ []) 4);
    }
    -- if a then b=1 end
    ∷ record {
      file = bytes 21 0x0101020184062056000E02200000000000001F4000;
      expected = ok (
        5,
        oneLine 2
            (head (ins₂ Op.IsTruthyVal 0 0 ∷ ins₂ Op.JumpSectionIf 1 0 ∷ []) (section 2)
            ∷ inner (ins₂ Op.ValueifyNum 1 1 ∷ ins₂ Op.CopyVal 1 2 ∷ []) (section 2)
            ∷ inner [] (section 0) ∷ []) (pos 0 ∷ pos 1000 ∷ []) 3,
      );
    }
    -- goto 1 y=2
    ∷ record {
      file = bytes 25 0x01010101E42200000000000001F4600200000000000003E800;
      expected = ok (3, oneLine 1 (head (ins₂ Op.ValueifyNum 0 0 ∷ ins₂ Op.NumberifyVal 0 1 ∷ ins₁ Op.JumpIfError 0 ∷ []) (line 1) ∷ []) (pos 1000 ∷ pos 0 ∷ pos 2000 ∷ []) 3);
    }
    -- goto 1 if a then end
    ∷ record {
      file = bytes 18 0x01010101842200000000000001F42C000000;
      expected = ok (
        6,
        oneLine 1
            (head (ins₂ Op.ValueifyNum 0 0 ∷ ins₂ Op.NumberifyVal 0 1 ∷ ins₁ Op.JumpIfError 0 ∷ []) (line 1)
            ∷ inner (ins₂ Op.IsTruthyVal 1 2 ∷ []) (section 3) ∷ inner [] (section 3) ∷ inner [] (section 3) ∷ []) (pos 1000 ∷ pos 0 ∷ pos 0 ∷ []) 2,
      );
    }
    ∷ []

pub examples : map (λ (r : Tried). seen r.file) tried ≡ map (λ (r : Tried). r.expected) tried
unfolding seen tried
examples = refl

-- ---- the order of the opcodes: at the number of each stands the row written beside its name

pub opcodes-in-order : map (λ (r : ℕ × Row). get_elem? table r.0) opcodes ≡ map (λ (r : ℕ × Row). some r.1) opcodes
unfolding opcodes table
opcodes-in-order = refl

-- ---- what finlist prints for its sample: M 1 1 1 0 2, N 0 1000, S 0 1 0 0 2, I 5 0 0 0, I 4 0 1 0

pub sample : finlist (bytes 16 0x01010101E01C00400000000000003E80) ≡ 77 ∷ 32 ∷ 49 ∷ 32 ∷ 49 ∷ 32 ∷ 49 ∷ 32 ∷ 48 ∷ 32 ∷ 50 ∷ 10
    ∷ 78 ∷ 32 ∷ 48 ∷ 32 ∷ 49 ∷ 48 ∷ 48 ∷ 48 ∷ 10
    ∷ 83 ∷ 32 ∷ 48 ∷ 32 ∷ 49 ∷ 32 ∷ 48 ∷ 32 ∷ 48 ∷ 32 ∷ 50 ∷ 10
    ∷ 73 ∷ 32 ∷ 53 ∷ 32 ∷ 48 ∷ 32 ∷ 48 ∷ 32 ∷ 48 ∷ 10
    ∷ 73 ∷ 32 ∷ 52 ∷ 32 ∷ 48 ∷ 32 ∷ 49 ∷ 32 ∷ 48 ∷ 10 ∷ []
unfolding finlist bytes
sample = refl
