-- Gathering beside combining, computed.
use Rattle.std.specs.Prelude.{◌≡◌, refl, true, false, List, [], ◌∷◌, map, ℕ}
use Rattle.rules.specs.Combine.{combineAt, combineSections}
use Rattle.rules.specs.Instr.{Instruction, ins₁}
use Rattle.rules.specs.Machine.{SectionOrLine, SectionCode, unfixed, section, line}
use Rattle.gather.specs.Gather.{gather}

abbrev jump : ℕ → Instruction
jump t = ins₁ 0 t

-- any other instruction
abbrev op : ℕ → Instruction
op a = ins₁ 5 a

-- sections: a line start, and another
abbrev start : List Instruction → SectionOrLine → SectionCode
start c x = record { lineStart = true; instrs = c; success = x }

abbrev inner : List Instruction → SectionOrLine → SectionCode
inner c x = record { lineStart = false; instrs = c; success = x }

-- without a ring: chains that lead up and down, sections that are their own successor, jumps into a chain and past one, targets out of range
chains : List (List SectionCode)
chains =
    (start (op 11 ∷ []) (section 1) ∷ start (jump 2 ∷ []) (section 0) ∷ inner [] (section 2) ∷ inner (op 12 ∷ []) (section 4) ∷ inner (op 13 ∷ []) (section 0) ∷ [])
    ∷ (inner (op 11 ∷ []) (section 2) ∷ inner (op 12 ∷ []) (section 0) ∷ [])
    ∷ (inner (op 11 ∷ []) (section 2) ∷ inner (op 12 ∷ []) (section 0) ∷ inner (op 13 ∷ []) (section 5) ∷ inner [] (section 4) ∷ inner (op 14 ∷ []) (section 1) ∷ inner (op 15 ∷ []) (line 3) ∷ [])
    ∷ (start (op 11 ∷ []) (section 4) ∷ start (op 12 ∷ []) (section 3) ∷ inner (jump 4 ∷ []) (section 1) ∷ inner (op 13 ∷ []) (section 5) ∷ inner (op 14 ∷ []) (section 2) ∷ inner (op 15 ∷ []) (section 0) ∷ [])
    ∷ (start (op 11 ∷ []) unfixed ∷ inner [] (section 3) ∷ inner (op 12 ∷ []) (section 4) ∷ inner (op 13 ∷ []) (section 0) ∷ inner [] (section 4) ∷ [])
    ∷ (start [] (section 5) ∷ start [] (section 0) ∷ inner (op 11 ∷ []) unfixed ∷ inner (op 12 ∷ []) (section 3) ∷ inner [] (section 2) ∷ inner [] (section 4) ∷ [])
    ∷ (start (op 11 ∷ []) (section 0) ∷ inner (op 12 ∷ []) (section 1) ∷ inner (jump 1 ∷ []) (section 4) ∷ inner (op 13 ∷ []) (section 2) ∷ inner [] (line 3) ∷ [])
    ∷ []

-- with rings: of two sections, of four, and two of two
rings : List (List SectionCode)
rings =
    (start (jump 2 ∷ []) (section 4) ∷ inner (op 11 ∷ []) (section 3) ∷ inner (op 12 ∷ []) (section 2) ∷ inner (op 13 ∷ []) (section 1) ∷ inner (op 14 ∷ []) (section 0) ∷ [])
    ∷ (inner [] (section 6) ∷ inner [] (section 3) ∷ inner (op 11 ∷ []) (section 4) ∷ inner (op 12 ∷ []) (section 2) ∷ inner [] (section 1) ∷ inner [] (section 5) ∷ [])
    ∷ (inner (jump 5 ∷ []) (section 1) ∷ inner (jump 5 ∷ []) (section 0) ∷ inner [] (section 3) ∷ inner (op 11 ∷ []) (section 2) ∷ inner (op 12 ∷ []) (section 4) ∷ [])
    ∷ []

chains-gather : map gather chains ≡ map combineSections chains
unfolding gather combineSections combineAt chains
chains-gather = refl

rings-gather : map gather rings ≡ map combineSections rings
unfolding gather combineSections combineAt rings
rings-gather = refl
