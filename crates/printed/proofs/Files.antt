-- What `finlist` of rules says of a file that is read: the tables that are lent hold its tree just if `fitsFinlist` says so. Assumes nothing.
use mathlib.Core.Path.{◌≡◌, refl}
use mathlib.Core.Bool.{Bool, true, false, ◌&&◌}
use mathlib.Core.List.{List}
use Prim.Native.Nat.{ℕ, ◌≤◌, ◌<◌}
use native.Mathlib.Omega.{arith}
use lib.Dec.{leb}
use lib.ListN.{length}
use borrow.Author.Tests.{le-leb, lt-leb}
use Rattle.rules.specs.Bits.{refused, ok}
use Rattle.rules.specs.Constants.{finlistBytes, finlistSections, finlistInstrs, finlistNumbers, mostNodes, mostNames}
use Rattle.rules.specs.Refusal as Refusal
use Rattle.rules.specs.Tree.{Tree}
use Rattle.rules.specs.Parse.{parse}
use Rattle.rules.specs.Tables.{Tables}
use Rattle.rules.specs.Lowered.{defaults, finished}
use Rattle.rules.specs.Operations.{sizeOf, estimate, holds}
use Rattle.rules.specs.Listing.{listing, refusal, fitsFinlist, finlist}
use Rattle.bounds.specs.LimitsTree.{limits}
use Rattle.bounds.proofs.Estimate.{estimated}
use Rattle.bounds.proofs.Bounds.{small}
use Rattle.printed.proofs.Lengths.{mostCharacters}

pub too-long : (s : List ℕ) → finlistBytes < length s → refusal Refusal.tooLong ≡ finlist s
unfolding finlist
too-long s h = rw (lt-leb (length s) finlistBytes h, finlist)

pub refused-file : (s : List ℕ) (n : ℕ) → length s ≤ finlistBytes → parse s ≡ refused n → finlist s ≡ refusal n
unfolding finlist
refused-file s n h p = rw (le-leb (length s) finlistBytes h, p, finlist)

-- tables as long as they are lent
pub record Lent (t : Tables) : Type 0 where
  pub sections : length t.sections ≡ finlistSections
  pub instrs : length t.instrs ≡ finlistInstrs
  pub numbers : length t.numbers ≡ finlistNumbers
  pub strings : length t.strings ≡ mostNodes
  pub pool : length t.pool ≡ mostCharacters
  pub names : length t.names ≡ mostNames

three : (a b c : Bool) → (a && b && c && true && true && true) ≡ (a && b && c)
three true true true = refl
three true true false = refl
three true false c = refl
three false b c = refl

module _ (s : List ℕ) (x : Tree) (p : parse s ≡ ok x) where
  few-strings : (sizeOf x).strings ≤ mostNodes
  unfolding estimate sizeOf
  few-strings = omega (arith, (estimated defaults x).strings, (small defaults s x p).strings)

  few-characters : (sizeOf x).characters ≤ mostCharacters
  unfolding sizeOf
  few-characters = omega (arith, (limits s x p).most-chars)

  few-names : (sizeOf x).names ≤ mostNames
  unfolding sizeOf
  few-names = omega (arith, (limits s x p).most-names)

  same-test : {t : Tables} → Lent t → holds t (estimate (sizeOf x)) ≡ fitsFinlist (estimate (sizeOf x))
  unfolding holds fitsFinlist estimate
  same-test l =
      rw (l.sections, l.instrs, l.numbers, l.strings, l.pool, l.names, le-leb (sizeOf x).strings mostNodes few-strings, le-leb (sizeOf x).characters mostCharacters few-characters, le-leb (sizeOf x).names mostNames few-names)
      (three (leb (estimate (sizeOf x)).sections finlistSections) (leb (estimate (sizeOf x)).instrs finlistInstrs) (leb (estimate (sizeOf x)).numbers finlistNumbers))

  pub file : {t : Tables} (b : Bool) → length s ≤ finlistBytes → Lent t → holds t (estimate (sizeOf x)) ≡ b → finlist s ≡ elim b [ false ↦ refusal Refusal.noRoom | true ↦ listing (finished defaults x) ]
  unfolding finlist
  file b h l q = rw (le-leb (length s) finlistBytes h, p, finlist, ← same-test l, q) refl
