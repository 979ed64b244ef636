-- The number of each refusal, and what an answer that may be one says in the words of `rules`.
use Rattle.std.specs.Prelude.{ℕ, Result, Ok, Err}
use Rattle.rules.specs.Refusal as Number
use Rattle.rules.specs.Bits.{Res, refused, ok}
use Rattle.params.specs.declared.refusal.Refusal.{Refusal}
use Rattle.params.specs.declared.refusal.Refusal.TheVariants.{OtherForm, ZeroLines, EndsInField, Unassigned, UnknownName, EqualNames, TooDeep, TooManyNodes, LeftOver, TooLong, NoRoom, BreaksRules, NeedsUnfixed, IsUnfixed, LinksBack}

abbrev pub numberOf : Refusal → ℕ
numberOf OtherForm = Number.otherForm
numberOf ZeroLines = Number.zeroLines
numberOf EndsInField = Number.endsInField
numberOf Unassigned = Number.unassigned
numberOf UnknownName = Number.unknownName
numberOf EqualNames = Number.equalNames
numberOf TooDeep = Number.tooDeep
numberOf TooManyNodes = Number.tooManyNodes
numberOf LeftOver = Number.leftOver
numberOf TooLong = Number.tooLong
numberOf NoRoom = Number.noRoom
numberOf BreaksRules = Number.breaksRules
numberOf NeedsUnfixed = Number.needsUnfixed
numberOf IsUnfixed = Number.isUnfixed
numberOf LinksBack = Number.linksBack

-- an answer, whose value is told by f
abbrev pub told : {A B : Type 0} → (A → B) → Result A Refusal → Res B
told f (Ok a) = ok (f a)
told f (Err r) = refused (numberOf r)
