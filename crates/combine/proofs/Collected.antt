-- The whole pass: what its steps begin with, and what they leave, put together. Assumes that the words hold a machine without links back.
use Rattle.std.specs.Prelude.{◌≡◌, refl, ◌⊎◌, Bool, true, false, List, [], ◌∷◌, ◌++◌, map, ℕ, ◌+◌, ◌-◌, ◌≤◌, ◌<◌, eqb, max, length, drop, get_or, replicate}
use Rattle.std.proofs.Common.{sym, ap, ◌∙◌, subst, inl, inr, arith, lt-ltb, le-ltb, eqb-true}
use Rattle.std.proofs.lemmas.List.{length-map, append-nil, get_or_past}
use Rattle.std.proofs.lemmas.List.Edits.{sets, sets-eq}
use Rattle.std.proofs.lemmas.Bool.{false≢true, eqb-false}
use Rattle.std.proofs.lemmas.List.Folds.{list_all_at}
use Rattle.std.specs.List.{list_all}
use Rattle.std.proofs.Math.Option.{Option, none, some}
use Rattle.std.proofs.Math.Path.{fun_ext}
use Rattle.std.proofs.Math.Seq.{take-length, get_or-set_same, get_or-set_other}
use Rattle.std.proofs.Math.Nat.{max-eq_left}
use Rattle.std.proofs.Math.ListN.{drop_of_length-le}
use Rattle.rules.specs.Instr.{getSection}
use Rattle.rules.specs.Word.{wordIns, insWord}
use Rattle.rules.specs.Machine.{SectionOrLine, unfixed, section, line, SectionCode, absent}
use Rattle.rules.specs.Tables.{runWords, allCode}
use Rattle.rules.specs.Combine.{combineSections}
use Rattle.rules.specs.Operations.{put}
use Rattle.laws.specs.Sections.{words-length}
use Rattle.joins.specs.Numbers.{lt-or-le}
use Rattle.gather.specs.Gather.{link, takes, head, newNumber, rankBy, pick, gather}
use Rattle.gather.proofs.Ends.{gather-self}
use Rattle.gather.proofs.Theorems.{combine-gather}
use Rattle.gather.proofs.Follow.{link-by-head}
use Rattle.gather.proofs.Past.{gather-code, number-past}
use Rattle.combine.specs.declared.store.Places.{Places}
use Rattle.combine.specs.declared.numbers.NewNumbers.{NewNumbers}
use Rattle.combine.specs.Held.{Full, allHeld, Changed}
use Rattle.combine.specs.Combined.{Combined, Combinable, Combines}
use Rattle.combine.specs.Counting.{more, countSections, countJump, countJumps, countsOf, isHead, headBy}
use Rattle.combine.specs.Numbers.{numberBy}
use Rattle.combine.specs.Chains.{Prepared}
use Rattle.combine.specs.Writes.{HeadsReady, HeadsWritten, Collects}
use Rattle.combine.proofs.Walks.{more_past}
use Rattle.combine.proofs.Standing.{all-stand}
use Rattle.combine.proofs.Taken.{counts-long, marks-are}

-- the table's numbers are those of the machine
numbers-are : (m : List SectionCode) (ns : List ℕ) (heads : ℕ) → length ns ≡ length m → heads ≡ newNumber m (length m) → ((t : ℕ) → t < length m → get_or ns t 0 ≡ newNumber m t) → numberBy ns heads ≡ newNumber m
numbers-are m ns heads l h e = fun_ext at
  where
    at : (t : ℕ) → numberBy ns heads t ≡ newNumber m t
    at t = go (lt-or-le t (length m))
      where
        go : (t < length m) ⊎ (length m ≤ t) → numberBy ns heads t ≡ newNumber m t
        go (inl k) = rw (l, lt-ltb t (length m) k) (e t k)
        go (inr k) = rw (l, le-ltb t (length m) k, h) (sym (number-past m t k))

-- words and zeros behind them, over a table of as many words
zeros : (n r : ℕ) (ws t : List ℕ) → length ws ≡ r → r ≤ n → length t ≤ n → ws ++ replicate (n - r) 0 ≡ put 0 n ws t
unfolding put
zeros n r ws t h k l =
    let m : max n r ≡ n = max-eq_left k in
    rw (h, m, drop_of_length-le t l) (ap (λ (x : List ℕ). ws ++ x) (sym (append-nil (replicate (n - r) 0))))

-- where all counts are heads', every number is one's
each-head : (c : List ℕ) → list_all isHead c ≡ true → (t : ℕ) → headBy c t ≡ true
each-head c e t = go (lt-or-le t (length c)) (headBy c t) refl
  where
    go : (t < length c) ⊎ (length c ≤ t) → (b : Bool) → headBy c t ≡ b → headBy c t ≡ true
    go o true q = q
    go (inl p) false q = absurd (false≢true (sym (list_all_at isHead c t 0 p q) ∙ e))
    go (inr p) false q = rw (get_or_past c t 0 p) refl

-- and jumps leave them so
more-heads : (v : ℕ) (c : List ℕ) → ((t : ℕ) → headBy c t ≡ true) → (t : ℕ) → headBy (more v c) t ≡ true
more-heads v c h t = go (eqb v t) refl (lt-or-le v (length c))
  where
    go : (b : Bool) → eqb v t ≡ b → (v < length c) ⊎ (length c ≤ v) → headBy (more v c) t ≡ true
    go true q (inl p) = rw (← eqb-true v t q, get_or-set_same c v 2 0 p) refl
    go false q o = rw (get_or-set_other c v t 2 0 (λ z. eqb-false v t q (sym z))) (h t)
    go true q (inr p) = rw (more_past v c p) (h t)

jumps-heads : (i c : List ℕ) → ((t : ℕ) → headBy c t ≡ true) → (t : ℕ) → headBy (countJumps i c) t ≡ true
unfolding countJumps
jumps-heads [] c h = h
jumps-heads (w ∷ i) c h = jumps-heads i (countJump (getSection (wordIns w)) c) (jump-heads (getSection (wordIns w)))
  where
    jump-heads : (o : Option ℕ) → (t : ℕ) → headBy (countJump o c) t ≡ true
    jump-heads none = h
    jump-heads (some v) = more-heads v c h

module _ (s i : List ℕ) (w : Combinable s i) where
  h : Full s i
  h = w.0

  abbrev m : List SectionCode
  m = allHeld s i

  pub counted-long : (counts : List ℕ) → counts ≡ countsOf s i → length counts ≡ length s
  counted-long counts c = ap length c ∙ counts-long s i h

  -- ---- where no section is taken in

  all-heads : ((t : ℕ) → headBy (countsOf s i) t ≡ true) → (t : ℕ) → head m t ≡ true
  all-heads e t = sym (ap (λ (f : ℕ → Bool). f t) (marks-are s i h w.1)) ∙ e t

  no-links : ((t : ℕ) → head m t ≡ true) → (u : ℕ) → link m u ≡ none
  no-links e u = link-by-head m u ∙ go (get_or m u absent).success
    where
      go : (x : SectionOrLine) → takes (head m) x ≡ none
      go unfixed = refl
      go (section v) = rw (e v)
      go (line r) = refl

  -- the words of a machine are as if written over themselves
  unchanged : Changed s i s i (length s) (length i) m
  unchanged =
      let n = length s in
      let z : n - n ≡ 0 = omega arith in
      let x : drop (length i) i ≡ [] = drop_of_length-le i (omega arith) in
      record {
        sections = sym (take-length s) ∙ (h.sections ∙ (sym (append-nil (runWords 0 m)) ∙ rw z at (zeros n n (runWords 0 m) s (words-length 0 m ∙ h.count) (omega arith) (omega arith))));
        instrs = sym (take-length i) ∙ (h.instrs ∙ rw x (sym (append-nil (map insWord (allCode m)))));
      }

  pub as-it-is : list_all isHead (countSections 0 s (replicate (length s) 0)) ≡ true → Combines s i s i (length s)
  as-it-is e =
      subst (λ (g : List SectionCode). Combined s i s i (length s) (length i) g (length s)) (sym (combine-gather m ∙ gather-self m (no-links (all-heads (jumps-heads i (countSections 0 s (replicate (length s) 0)) (each-head _ e)))))) (
      record { tables = unchanged; count = sym h.count; code = sym h.code; fewer = omega arith }
      )

  -- ---- and where any is

  module _ (counts ns : List ℕ) (heads : ℕ) (c : counts ≡ countsOf s i) (nl : length ns ≡ length s) (hs : heads ≡ rankBy (headBy counts) (length counts)) (each : (t : ℕ) → t < length counts → get_or ns t 0 ≡ rankBy (headBy counts) t) where
    marks : headBy counts ≡ head m
    marks = ap headBy c ∙ marks-are s i h w.1

    cl : length counts ≡ length s
    cl = counted-long counts c

    sizes : length counts ≡ length m
    sizes = omega (arith, cl, h.count)

    prepared : Prepared m counts ns heads
    prepared =
        record {
          marks = marks;
          numbers =
              numbers-are m ns heads (omega (arith, nl, h.count)) (hs ∙ rw (marks, sizes) refl)
              (λ t k. each t (omega (arith, sizes)) ∙ ap (λ (f : ℕ → Bool). rankBy f t) marks);
        }

    module _ (p : Places) (pw : p.table.now ≡ i) (pn : p.next ≡ 0) where
      pub ready : (code : List ℕ) → code ≡ i → (n : NewNumbers) → n.numbers.now ≡ ns → n.heads ≡ heads → HeadsReady m s p code counts n
      ready code ci n nn nh =
          record {
            prepared = rw (nn, nh) prepared;
            size = h.count;
            marked = cl;
            stands = λ u k. rw ci (all-stand s i h u k);
            none-stored = pn;
            room = rw pw (gather-code m ∙ h.code);
            short = rw pw h.short;
          }

      module _ (s' : List ℕ) (p' : Places) (v : HeadsWritten m s' p p') (l : length s' ≡ length s) (r : ℕ) where
        abbrev ws : List ℕ
        ws = pick (headBy counts) (λ t. get_or s' t 0) 0 (length s')

        words-are : ws ≡ runWords 0 (gather m)
        words-are = ap (pick (headBy counts) (λ t. get_or s' t 0) 0) (l ∙ sym h.count) ∙ rw marks v.words

        -- the words of all the code, and that they fill the table
        abbrev is : List ℕ
        is = map insWord (allCode (gather m))

        fills : length is ≡ length i
        fills = length-map (allCode (gather m)) insWord ∙ (gather-code m ∙ h.code)

        written : p'.table.now ≡ sets i 0 is
        written = v.code.words ∙ rw (pw, pn) refl

        code-are : p'.table.now ≡ is
        code-are =
            let z : drop (0 + length is) i ≡ [] = drop_of_length-le i (omega (arith, fills)) in
            written ∙ (sets-eq is i 0 (omega (arith, fills)) ∙ rw z (append-nil is))

        pub collected : r ≡ length ws → r ≤ length s' → (s'' : List ℕ) → s'' ≡ ws ++ replicate (length s' - r) 0 → Combined s i s'' p'.table.now (length s) (length i) (combineSections m) r
        collected e k s'' d =
            let n = length s in
            let z : length (runWords 0 (gather m)) ≡ r = ap length (sym words-are) ∙ sym e in
            let x : drop (length i) i ≡ [] = drop_of_length-le i (omega arith) in
            subst (λ (g : List SectionCode). Combined s i s'' p'.table.now n (length i) g r) (sym (combine-gather m)) (
            record {
              tables =
                  record {
                    sections = d ∙ rw (words-are, l) (zeros n r (runWords 0 (gather m)) s z (omega (arith, k, l)) (omega arith));
                    instrs = code-are ∙ rw x (sym (append-nil is));
                  };
              count = sym z ∙ words-length 0 (gather m);
              code = sym (gather-code m ∙ h.code);
              fewer = omega (arith, k, l);
            }
            )

-- ---- the lent table

-- It holds in the end what the places have, which are its.
pub in-table : (s s' i i' : List ℕ) (p p' : Places) (r g : ℕ) → Collects s s' p p' r → p.table.now ≡ i → p.table.ghost_name ≡ g → (g ≡ p'.table.ghost_name → i' ≡ p'.table.now) → Combines s i s' i' r
in-table s s' i i' p p' r g k w e f =
    let z : i' ≡ p'.table.now = f (sym (k.same_reference ∙ e)) in
    subst (λ (x : List ℕ). Combines s i s' x r) (sym z) (subst (λ (x : List ℕ). Combines s x s' p'.table.now r) w k.combined)
