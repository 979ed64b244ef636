-- What is printed, at each way out of finishing a file in lent tables. Assumes nothing.
use mathlib.Core.Path.{◌≡◌, refl, sym, ap, ◌∙◌, subst}
use mathlib.Core.Bool.{Bool, true, false}
use mathlib.Core.List.{List}
use Prim.Native.Nat.{ℕ, ◌≤◌}
use native.Mathlib.Omega.{arith}
use lib.ListN.{length}
use Rattle.rules.specs.Bits.{Res, refused, ok}
use Rattle.rules.specs.Refusal as Refusal
use Rattle.rules.specs.Tree.{Tree}
use Rattle.rules.specs.Parse.{parse}
use Rattle.rules.specs.Machine.{Machine}
use Rattle.rules.specs.Tables.{Tables, Counts, fits, decode, countsOf}
use Rattle.rules.specs.Lowered.{Options, defaults, spans, texts, assemble, lowered, finished}
use Rattle.rules.specs.Operations.{sizeOf, estimate, holds, build, finish}
use Rattle.rules.specs.Constants.{finlistBytes}
use Rattle.rules.specs.Listing.{listing, refusal, finlist}
use Rattle.rules.specs.Annotate.{annotate}
use Rattle.rules.specs.Replace.{replaced}
use Rattle.rules.specs.Clean.{cleaned}
use Rattle.rules.specs.Combine.{combined}
use Rattle.bounds.proofs.Stay.{strings-stay}
use Rattle.laws.specs.Texts.{length-spans}
use Rattle.bounds.specs.Parsed.{refused≢ok}
use Rattle.bounds.proofs.Bounds.{small}
use Rattle.walks.specs.Calls.{Finishes}
use Rattle.walks.proofs.Calls.{finishes}
use Rattle.tables.proofs.Sound.{sound}
use Rattle.tables.proofs.Change.{machineOf}
use Rattle.text.specs.Wrote.{Prints}
use Rattle.listing.specs.Listed.{Lists, Listed}
use Rattle.listing.proofs.Machines.{one-machine}
use Rattle.printed.proofs.Lengths.{mostCharacters, mostPrinted, listing-length}
use Rattle.printed.proofs.Files.{Lent, refused-file, file}

-- ---- words that hold a machine keep the rules

pub fits-so : (t : Tables) (u : Counts) (m : Machine) → decode t u ≡ ok m → fits t u ≡ true
unfolding decode
fits-so t u m e = go (fits t u) refl
  where
    go : (b : Bool) → fits t u ≡ b → fits t u ≡ true
    go true q = q
    go false q = absurd (refused≢ok Refusal.breaksRules m (rw (q, decode) at e))

-- ---- by the file

module _ (o : Options) (s : List ℕ) (t t' : Tables) (u : Counts) (e : (ok u, t') ≡ finish o s t) where
  pub its : Finishes o s t u
  its = finishes o s t u (sym (ap (λ (z : Res Counts × Tables). z.0) e))

  pub machine-is : decode t' u ≡ ok (finished o its.tree)
  machine-is = ap (λ (z : Res Counts × Tables). decode z.1 u) e ∙ its.machine

-- finlist finishes with the default options
module _ (s : List ℕ) (t t' : Tables) (short : length s ≤ finlistBytes) (l : Lent t) where
  pub refused-prints : (n : ℕ) → (refused n, t') ≡ finish defaults s t → refusal n ≡ finlist s
  unfolding finish build
  refused-prints n e = by-tree (parse s) refl
    where
      by-room : (x : Tree) → parse s ≡ ok x → (b : Bool) → holds t (estimate (sizeOf x)) ≡ b → refusal n ≡ finlist s
      by-room x p false q = rw (file s x p false short l q) (let r : refused n ≡ refused Refusal.noRoom = ap (λ (z : Res Counts × Tables). z.0) (rw (p, build, q) at e) in let k : n ≡ Refusal.noRoom = cc in ap refusal k)
      by-room x p true q = absurd (refused≢ok n _ (ap (λ (z : Res Counts × Tables). z.0) (rw (p, build, q) at e)))

      by-tree : (p : Res Tree) → parse s ≡ p → refusal n ≡ finlist s
      by-tree (refused k) p = rw (refused-file s k short p) (let r : refused n ≡ refused k = ap (λ (z : Res Counts × Tables). z.0) (rw (p, build) at e) in let j : n ≡ k = cc in ap refusal j)
      by-tree (ok x) p = by-room x p (holds t (estimate (sizeOf x))) refl

  module _ (u : Counts) (e : (ok u, t') ≡ finish defaults s t) where
    abbrev treeIs : Finishes defaults s t u
    treeIs = its defaults s t t' u e

    pub done-prints : listing (finished defaults treeIs.tree) ≡ finlist s
    unfolding finish build
    done-prints = by-room (holds t (estimate (sizeOf treeIs.tree))) refl
      where
        by-room : (b : Bool) → holds t (estimate (sizeOf treeIs.tree)) ≡ b → listing (finished defaults treeIs.tree) ≡ finlist s
        by-room true q = sym (file s treeIs.tree treeIs.parsed true short l q)
        by-room false q = absurd (refused≢ok Refusal.noRoom u (sym (ap (λ (z : Res Counts × Tables). z.0) (rw (treeIs.parsed, build, q) at e))))

-- the tables that bound a listing are as long as they were
pub record SameLengths (t t' : Tables) : Type 0 where
  pub sections : length t'.sections ≡ length t.sections
  pub instrs : length t'.instrs ≡ length t.instrs
  pub numbers : length t'.numbers ≡ length t.numbers
  pub strings : length t'.strings ≡ length t.strings
  pub names : length t'.names ≡ length t.names

pub prints-as : {o o' : List ℕ} {r : ℕ} {bs cs : List ℕ} → Prints o o' r bs → bs ≡ cs → Prints o o' r cs
prints-as {o} {o'} {r} p e = subst (Prints o o' r) e p

-- the texts of a tree's machine stand end to end
module _ (p : Options) (x : Tree) where
  abbrev its-texts : List (List ℕ)
  its-texts = (annotate x).1.strings

  spans-are : (finished p x).strings ≡ spans 0 its-texts
  unfolding finished combined cleaned assemble
  spans-are = strings-stay p x

  few-texts : (s : List ℕ) → parse s ≡ ok x → length (texts its-texts) ≤ mostCharacters
  unfolding countsOf lowered replaced assemble
  few-texts s e = (small p s x e).pool

pub lists : (p : Options) (s : List ℕ) (t t' : Tables) (u : Counts) → (ok u, t') ≡ finish p s t → (o : List ℕ) → length o ≡ mostPrinted → Lent t → SameLengths t t' → Lists t' u o
lists p s t t' u e o w y l =
    let x = (its p s t t' u e).tree in
    let m = machine-is p s t t' u e in
    let h = fits-so t' u _ m in
    let c = (sound t' u h).counts in
    let k = few-texts p x s (its p s t t' u e).parsed in
    let are = ap (λ (z : Machine). z.strings) (one-machine t' u h _ m) ∙ spans-are p x in
    let b = listing-length t' u h (its-texts p x) are (length-spans 0 (its-texts p x)) (omega arith) (omega (arith, l.names, y.names, c.names)) in
    let few : length (listing (machineOf t' u)) ≤ length o = omega (arith, l.sections, l.instrs, l.numbers, l.strings, l.names, y.sections, y.instrs, y.numbers, y.strings, y.names, c.sections, c.instrs, c.numbers, c.strings, c.names) in
    record { machine = h; room = λ n d. subst (λ (z : Machine). length (listing z) ≤ length o) (one-machine t' u h n d) few }

pub listed-prints : (s : List ℕ) (t t' : Tables) (u : Counts) → length s ≤ finlistBytes → Lent t → (e : (ok u, t') ≡ finish defaults s t) → {o o' : List ℕ} {r : ℕ} → Listed t' u o o' r → Prints o o' r (finlist s)
listed-prints s t t' u h l e d = prints-as (d.prints _ (machine-is defaults s t t' u e)) (done-prints s t t' h l u e)
