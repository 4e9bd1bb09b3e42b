-- Literals in a row of cells are read back.
use Rattle.std.proofs.Common.{◌≡◌, ℕ, zero, suc, ◌+◌, ◌-◌, ◌<◌, ◌≤◌, Some, Bool, true, false, if◌then◌else◌, List, [], ◌∷◌, ◌++◌, length, map, take, drop, get_or, slice_get, sum, refl, sym, ap, subst, add-zero, ◌∙◌, arith}
use Rattle.std.proofs.lemmas.List.{append_assoc, append-nil, length-append, drop_at}
use Rattle.std.proofs.lemmas.Option.{slice_get-get_or}
use Rattle.fo_terms.specs.declared.term.FoTerm.{FoTerm}
use Rattle.fo_terms.specs.declared.atom.Atom.{Atom}
use Rattle.fo_terms.specs.declared.atom.Atom.TheVariants.{Holds, Eq}
use Rattle.fo_terms.specs.declared.literal.Literal.{Literal}
use Rattle.std.specs.Prelude.{not}
use Rattle.std.specs.List.{list_any}
use mathlib.Core.Bool.{beq}
use Rattle.fo_terms.specs.Same.{is_term, is_literal}
use Rattle.fo_terms.specs.Normal.{atom_terms, is_identity, is_refuted}
use Rattle.fo_terms.specs.inner.Gathered.{added, kept}
use Rattle.fo_terms.proofs.Sameness.{is_literal_sound, is_literal_itself, test_is}
use Rattle.fo_terms.specs.Weight.{atom_size, literal_size}
use Rattle.fo_terms.proofs.Substitution.{sum_cons}
use Rattle.fo_cells.specs.declared.cell.Cell.{Cell}
use Rattle.fo_cells.specs.declared.place.Place.{Place}
use Rattle.fo_cells.specs.Cells.{cells_of, is_equation, atom_cells}
use Rattle.fo_cells.specs.inner.Seen.{terms_of, atom_from, literals_from, literals_of, all_cells, places_from, AreOf, AreWhole, IsMadeOf}
use Rattle.fo_cells.proofs.Terms.{reads, cells_size, cells_injective, cells_apart}
use Rattle.fo_cells.proofs.Lists.{take_front}

pub reads_atom : (a : Atom) (rest : List Cell) → terms_of (atom_cells a ++ rest) ≡ atom_terms a ++ terms_of rest
reads_atom (Holds t) rest = reads t rest
reads_atom (Eq s t) rest =
    ap terms_of (append_assoc (cells_of s) (cells_of t) rest) ∙ reads s (cells_of t ++ rest) ∙ ap (λ l. s ∷ l) (reads t rest)

pub atom_back : (a : Atom) (ts : List FoTerm) → atom_from (is_equation a) (atom_terms a ++ ts) ≡ a
atom_back (Holds t) ts = refl
atom_back (Eq s t) ts = refl

behind_atom : (a : Atom) (ts : List FoTerm) → drop (if is_equation a then 2 else 1) (atom_terms a ++ ts) ≡ ts
behind_atom (Holds t) ts = refl
behind_atom (Eq s t) ts = refl

one_back : (n : ℕ) (l : Literal) (ls : List Literal) (ts : List FoTerm) → ts ≡ atom_terms l.atom ++ terms_of (all_cells ls)
    → literals_from (places_from n ls) (terms_of (all_cells ls)) ≡ ls
    → record { positive = l.positive; atom = atom_from (is_equation l.atom) ts } ∷ literals_from (places_from n ls) (drop (if is_equation l.atom then 2 else 1) ts) ≡ l ∷ ls
one_back n l ls ts is rest =
    let first : atom_from (is_equation l.atom) ts ≡ l.atom = ap (atom_from (is_equation l.atom)) is ∙ atom_back l.atom (terms_of (all_cells ls)) in
    let others : literals_from (places_from n ls) (drop (if is_equation l.atom then 2 else 1) ts) ≡ ls =
    ap (λ u. literals_from (places_from n ls) (drop (if is_equation l.atom then 2 else 1) u)) is
    ∙ ap (literals_from (places_from n ls)) (behind_atom l.atom (terms_of (all_cells ls))) ∙ rest in
    λ i. record { positive = l.positive; atom = first i } ∷ others i

pub all_back : (n : ℕ) (ls : List Literal) → literals_from (places_from n ls) (terms_of (all_cells ls)) ≡ ls
all_back n [] = refl
all_back n (l ∷ ls) =
    one_back (n + length (atom_cells l.atom)) l ls (terms_of (all_cells (l ∷ ls))) (reads_atom l.atom (all_cells ls)) (all_back (n + length (atom_cells l.atom)) ls)

-- ---- cells and places of some literals are seen as these

pub seen : (cells : List Cell) (places : List Place) (ls : List Literal) → AreOf cells places ls → literals_of cells places ≡ ls
seen cells places ls are = ap (λ c. literals_of c places) are.cells_are ∙ ap (λ p. literals_of (all_cells ls) p) are.places_are ∙ all_back 0 ls

pub whole : (cells : List Cell) (places : List Place) (ls : List Literal) → AreOf cells places ls → AreWhole cells places
whole cells places ls are = record {
  cells_are = are.cells_are ∙ ap all_cells (sym (seen cells places ls are));
  places_are = are.places_are ∙ ap (places_from 0) (sym (seen cells places ls are));
}

-- ---- the literal at a place

pub literals_length : (places : List Place) (ts : List FoTerm) → length (literals_from places ts) ≡ length places
literals_length [] ts = refl
literals_length (p ∷ ps) ts = ap suc (literals_length ps (drop (if p.equation then 2 else 1) ts))

-- what the code knows of a place
pub record IsAt (cells : List Cell) (p : Place) (l : Literal) : Type 0 where
  pub sign : p.positive ≡ l.positive
  pub kind : p.equation ≡ is_equation l.atom
  pub ordered : p.start ≤ p.end
  pub within : p.end ≤ length cells
  pub part : take (p.end - p.start) (drop p.start cells) ≡ atom_cells l.atom

is_at_first : (n : ℕ) (front rest : List Cell) (l : Literal) → length front ≡ n
    → IsAt (front ++ (atom_cells l.atom ++ rest)) (record { positive = l.positive; equation = is_equation l.atom; start = n; end = n + length (atom_cells l.atom) }) l
is_at_first n front rest l is = record {
  sign = refl;
  kind = refl;
  ordered = omega arith;
  within = omega (arith, is, length-append front (atom_cells l.atom ++ rest), length-append (atom_cells l.atom) rest);
  part =
      let len : n + length (atom_cells l.atom) - n ≡ length (atom_cells l.atom) = omega arith in
      ap (λ k. take k (drop n (front ++ (atom_cells l.atom ++ rest)))) len ∙ ap (take (length (atom_cells l.atom))) (drop_at front (atom_cells l.atom ++ rest) n is)
      ∙ take_front (atom_cells l.atom) rest;
}

found : (n i : ℕ) (front : List Cell) (ls : List Literal) (p : Place) (l : Literal) → length front ≡ n → slice_get ls i ≡ Some l → slice_get (places_from n ls) i ≡ Some p
    → IsAt (front ++ all_cells ls) p l
found n i front [] p l is there at = cc
found n zero front (m ∷ ls) p l is there at =
    let same : m ≡ l = cc in
    let place : record { positive = m.positive; equation = is_equation m.atom; start = n; end = n + length (atom_cells m.atom) } ≡ p = cc in
    subst (λ q. IsAt (front ++ all_cells (m ∷ ls)) q l) place (subst (λ k. IsAt (front ++ all_cells (m ∷ ls)) (record { positive = m.positive; equation = is_equation m.atom; start = n; end = n + length (atom_cells m.atom) }) k) same (is_at_first n front (all_cells ls) m is))
found n (suc i) front (m ∷ ls) p l is there at =
    subst (λ c. IsAt c p l) (append_assoc front (atom_cells m.atom) (all_cells ls))
    (found (n + length (atom_cells m.atom)) i (front ++ atom_cells m.atom) ls p l (length-append front (atom_cells m.atom) ∙ ap (λ k. k + length (atom_cells m.atom)) is) there at)

pub at_place : (cells : List Cell) (places : List Place) → AreWhole cells places → (i : ℕ) (p : Place) (l : Literal) → i < length places → p ≡ get_or places i p
    → slice_get (literals_of cells places) i ≡ Some l → IsAt cells p l
at_place cells places are i p l within is there =
    let listed : slice_get places i ≡ Some p = slice_get-get_or places i p within ∙ ap Some (sym is) in
    subst (λ c. IsAt c p l) (sym are.cells_are)
    (found 0 i [] (literals_of cells places) p l refl there (ap (λ q. slice_get q i) (sym are.places_are) ∙ listed))

-- ---- the weight

atom_weight : (a : Atom) → length (atom_cells a) ≡ atom_size a
atom_weight (Holds t) = cells_size t
atom_weight (Eq s t) = length-append (cells_of s) (cells_of t) ∙ omega (arith, cells_size s, cells_size t)

all_weight : (ls : List Literal) → length (all_cells ls) ≡ sum (map literal_size ls)
all_weight [] = refl
all_weight (l ∷ ls) = omega (arith, length-append (atom_cells l.atom) (all_cells ls), atom_weight l.atom, all_weight ls, sum_cons (literal_size l) (map literal_size ls))

pub weighs : (cells : List Cell) (places : List Place) → AreWhole cells places → length cells ≡ sum (map literal_size (literals_of cells places))
weighs cells places are = ap length are.cells_are ∙ all_weight (literals_of cells places)

-- ---- one more literal

all_cells_more : (ls : List Literal) (l : Literal) → all_cells (ls ++ l ∷ []) ≡ all_cells ls ++ atom_cells l.atom
all_cells_more [] l = append-nil (atom_cells l.atom)
all_cells_more (m ∷ ls) l = ap (λ c. atom_cells m.atom ++ c) (all_cells_more ls l) ∙ sym (append_assoc (atom_cells m.atom) (all_cells ls) (atom_cells l.atom))

abbrev place_at : ℕ → Literal → Place
place_at n l = record { positive = l.positive; equation = is_equation l.atom; start = n; end = n + length (atom_cells l.atom) }

places_more : (n : ℕ) (ls : List Literal) (l : Literal) → places_from n (ls ++ l ∷ []) ≡ places_from n ls ++ place_at (n + length (all_cells ls)) l ∷ []
places_more n [] l = ap (λ k. place_at k l ∷ []) (sym (add-zero n))
places_more n (m ∷ ls) l =
    let step : n + length (atom_cells m.atom) + length (all_cells ls) ≡ n + length (all_cells (m ∷ ls)) = omega (arith, length-append (atom_cells m.atom) (all_cells ls)) in
    ap (λ ps. place_at n m ∷ ps) (places_more (n + length (atom_cells m.atom)) ls l ∙ ap (λ k. places_from (n + length (atom_cells m.atom)) ls ++ place_at k l ∷ []) step)

pub pushed : (cells more : List Cell) (places : List Place) (positive equation : Bool) (l : Literal) → AreWhole cells places → IsMadeOf l positive equation more
    → AreOf (cells ++ more) (places ++ record { positive = positive; equation = equation; start = length cells; end = length (cells ++ more) } ∷ []) (literals_of cells places ++ l ∷ [])
pushed cells more places positive equation l are made =
    let ls : List Literal = literals_of cells places in
    let start : 0 + length (all_cells ls) ≡ length cells = omega (arith, ap length are.cells_are) in
    let end : length cells + length (atom_cells l.atom) ≡ length (cells ++ more) = omega (arith, length-append cells more, ap length made.cells_are) in
    record {
      cells_are = ap (λ c. c ++ more) are.cells_are ∙ ap (λ c. all_cells ls ++ c) (sym made.cells_are) ∙ sym (all_cells_more ls l);
      places_are =
          ap (λ ps. ps ++ record { positive = positive; equation = equation; start = length cells; end = length (cells ++ more) } ∷ []) are.places_are
          ∙ ap (λ e. places_from 0 ls ++ record { positive = positive; equation = equation; start = length cells; end = e } ∷ []) (sym end)
          ∙ ap (λ b. places_from 0 ls ++ record { positive = b; equation = equation; start = length cells; end = length cells + length (atom_cells l.atom) } ∷ []) (sym made.sign)
          ∙ ap (λ b. places_from 0 ls ++ record { positive = l.positive; equation = b; start = length cells; end = length cells + length (atom_cells l.atom) } ∷ []) (sym made.kind)
          ∙ ap (λ k. places_from 0 ls ++ place_at k l ∷ []) (sym start) ∙ sym (places_more 0 ls l);
    }

pub pushed_as : (cells now more : List Cell) (places next : List Place) (positive equation : Bool) (start end : ℕ) (l : Literal) → AreWhole cells places → IsMadeOf l positive equation more
    → now ≡ cells ++ more → start ≡ length cells → end ≡ length now → next ≡ places ++ record { positive = positive; equation = equation; start = start; end = end } ∷ []
    → AreOf now next (literals_of cells places ++ l ∷ [])
pushed_as cells now more places next positive equation start end l are made is from to so =
    let plain = pushed cells more places positive equation l are made in
    record {
      cells_are = is ∙ plain.cells_are;
      places_are =
          so ∙ ap (λ k. places ++ record { positive = positive; equation = equation; start = k; end = end } ∷ []) from
          ∙ ap (λ k. places ++ record { positive = positive; equation = equation; start = length cells; end = k } ∷ []) (to ∙ ap length is) ∙ plain.places_are;
    }

-- ---- the view

pub len_is : (cells : List Cell) (places : List Place) (ls : List Literal) (n : ℕ) → literals_of cells places ≡ ls → n ≡ length places → n ≡ length ls
len_is cells places ls n view is = is ∙ sym (literals_length places (terms_of cells)) ∙ ap length view

pub within_is : (cells : List Cell) (places : List Place) (ls : List Literal) (i : ℕ) → literals_of cells places ≡ ls → i < length ls → i < length places
within_is cells places ls i view within =
    subst (λ n. i < n) (sym (ap length view) ∙ literals_length places (terms_of cells)) within

pub placed : (cells : List Cell) (places : List Place) (ls : List Literal) → AreWhole cells places → literals_of cells places ≡ ls → (i : ℕ) (p : Place) (l : Literal)
    → i < length ls → p ≡ get_or places i p → slice_get ls i ≡ Some l → IsAt cells p l
placed cells places ls are view i p l within is there =
    at_place cells places are i p l (within_is cells places ls i view within) is (ap (λ k. slice_get k i) view ∙ there)

-- ---- literals are told apart by sign, kind and cells

pub kinds_apart : false ≡ true → ⊥
kinds_apart h = cc

atom_same : (a b : Atom) → is_equation a ≡ is_equation b → atom_cells a ≡ atom_cells b → a ≡ b
atom_same (Holds s) (Holds t) kind is = ap Holds (cells_injective s t is)
atom_same (Holds s) (Eq c d) kind is = absurd (kinds_apart kind)
atom_same (Eq a b) (Holds t) kind is = absurd (kinds_apart (sym kind))
atom_same (Eq a b) (Eq c d) kind is =
    let both : (a ≡ c) × (cells_of b ≡ cells_of d) = cells_apart a c (cells_of b) (cells_of d) is in
    let left : a ≡ c = both.0 in
    let right : b ≡ d = cells_injective b d both.1 in
    λ i. Eq (left i) (right i)

pub literal_same : (l m : Literal) → l.positive ≡ m.positive → is_equation l.atom ≡ is_equation m.atom → atom_cells l.atom ≡ atom_cells m.atom → l ≡ m
literal_same l m sign kind is =
    let atom : l.atom ≡ m.atom = atom_same l.atom m.atom kind is in
    λ i. record { positive = sign i; atom = atom i }

-- a test that is true just where two literals are the same is that test
pub literal_test : (b : Bool) (l m : Literal) → (b ≡ true → l ≡ m) → (l ≡ m → b ≡ true) → b ≡ is_literal l m
literal_test b l m from to = test_is is_literal is_literal_sound is_literal_itself b l m from to

pub literal_other : (l m : Literal) → is_literal l m ≡ is_literal m l
literal_other l m =
    literal_test (is_literal l m) m l (λ h. sym (is_literal_sound l m h)) (λ e. subst (λ k. is_literal k m ≡ true) e (is_literal_itself m))

pub differ_apart : (a b : Bool) → not (beq a b) ≡ true → a ≡ b → ⊥
differ_apart true true h e = kinds_apart h
differ_apart true false h e = kinds_apart (sym e)
differ_apart false true h e = kinds_apart e
differ_apart false false h e = kinds_apart h

pub differ_same : (a b : Bool) → not (beq a b) ≡ false → a ≡ b
differ_same true true h = refl
differ_same true false h = absurd (kinds_apart (sym h))
differ_same false true h = absurd (kinds_apart (sym h))
differ_same false false h = refl

pub other_sign : (m l : Literal) → (m.positive ≡ l.positive → ⊥) → false ≡ is_literal m l
other_sign m l apart = literal_test false m l (λ h. absurd (kinds_apart h)) (λ e. absurd (apart (ap (λ k. k.positive) e)))

pub other_kind : (m l : Literal) → (is_equation m.atom ≡ is_equation l.atom → ⊥) → false ≡ is_literal m l
other_kind m l apart = literal_test false m l (λ h. absurd (kinds_apart h)) (λ e. absurd (apart (ap (λ k. is_equation k.atom) e)))

pub same_row : (m l : Literal) (r : Bool) (row more : List Cell) → m.positive ≡ l.positive → is_equation m.atom ≡ is_equation l.atom → row ≡ atom_cells m.atom → atom_cells l.atom ≡ more
    → (r ≡ true → row ≡ more) → (row ≡ more → r ≡ true) → r ≡ is_literal m l
same_row m l r row more sign kind is made from to =
    literal_test r m l (λ h. literal_same m l sign kind (sym is ∙ from h ∙ sym made)) (λ e. to (is ∙ ap (λ k. atom_cells k.atom) e ∙ made))

-- ---- what is kept

pub kept_there : (ls : List Literal) (l : Literal) (r : Bool) → is_refuted l ≡ r → true ≡ list_any (λ m. is_literal m l) ls → ls ≡ kept ls l
kept_there ls l true e h = ap (λ b. if b then ls else added is_literal ls l) (sym e)
kept_there ls l false e h = ap (λ b. if b then ls else ls ++ l ∷ []) h ∙ ap (λ b. if b then ls else added is_literal ls l) (sym e)

pub kept_refuted : (ls : List Literal) (l : Literal) → true ≡ is_refuted l → ls ≡ kept ls l
kept_refuted ls l h = ap (λ b. if b then ls else added is_literal ls l) h

pub kept_new : (ls : List Literal) (l : Literal) → false ≡ is_refuted l → false ≡ list_any (λ m. is_literal m l) ls → ls ++ l ∷ [] ≡ kept ls l
kept_new ls l e h = ap (λ b. if b then ls else ls ++ l ∷ []) h ∙ ap (λ b. if b then ls else added is_literal ls l) e

pub holds_stays : (positive : Bool) (t : FoTerm) → false ≡ is_refuted (record { positive = positive; atom = Holds t })
holds_stays true t = refl
holds_stays false t = refl

pub made_holds : (positive : Bool) (t : FoTerm) (cells : List Cell) → cells_of t ≡ cells → IsMadeOf (record { positive = positive; atom = Holds t }) positive false (cells ++ [])
made_holds positive t cells is = record {
  sign = refl;
  kind = refl;
  cells_are = is ∙ sym (append-nil cells);
}

pub made_equation : (positive : Bool) (s t : FoTerm) (left right : List Cell) → cells_of s ≡ left → cells_of t ≡ right
    → IsMadeOf (record { positive = positive; atom = Eq s t }) positive true (left ++ right)
made_equation positive s t left right is so = record {
  sign = refl;
  kind = refl;
  cells_are = λ i. is i ++ so i;
}

-- ---- identities

pub not_identity : (a : Atom) → is_equation a ≡ false → false ≡ is_identity a
not_identity (Holds t) kind = refl
not_identity (Eq s t) kind = absurd (kinds_apart (sym kind))

pub is_sides : (a : Atom) (r : Bool) (cells : List Cell) → is_equation a ≡ true → cells ≡ atom_cells a
    → ((s t : FoTerm) → cells_of s ++ cells_of t ≡ cells → r ≡ is_term s t) → r ≡ is_identity a
is_sides (Holds t) r cells kind is says = absurd (kinds_apart kind)
is_sides (Eq s t) r cells kind is says = says s t (sym is)
