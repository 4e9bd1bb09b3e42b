-- A normal form is its own normal form.
use Rattle.std.proofs.Common.{◌≡◌, ℕ, suc, ◌+◌, Bool, true, false, ◌==◌, ◌||◌, if◌then◌else◌, List, [], ◌∷◌, ◌++◌, map, get_or, refl, sym, ap, subst, ◌∙◌, arith}
use Rattle.std.specs.Prelude.{not}
use Rattle.std.specs.List.{filter, list_any, concat}
use Rattle.fo_terms.specs.declared.term.FoTerm.{FoTerm}
use Rattle.fo_terms.specs.declared.atom.Atom.{Atom}
use Rattle.fo_terms.specs.declared.atom.Atom.TheVariants.{Holds, Eq}
use Rattle.fo_terms.specs.declared.literal.Literal.{Literal}
use Rattle.fo_terms.specs.Substitution.{var, put, put_atom, put_literals}
use Rattle.fo_terms.specs.Same.{is_literal}
use Rattle.fo_terms.specs.Normal.{is_refuted, firsts, lasting, variables_of, atom_terms, literal_variables, clause_variables, place_of, numbering, numbered}
use Rattle.fo_terms.specs.NormalLaws.{NormalFormStays}
use Rattle.fo_terms.proofs.Induction.{Each}
use Rattle.fo_terms.proofs.Substitution.{put_var, put_put, put_itself, equal_true, equal_from}
use Rattle.fo_terms.proofs.Gathering.{any_filter}
use Rattle.fo_terms.proofs.Renaming.{each_left, each_right, each_map, filter_each, firsts_each, put_agreeing}
use Rattle.fo_terms.proofs.NormalForms.{normal_kept}

-- ---- a list of different items is left as it is

module _ {X : Type 0} (p : X → Bool) where
  filter_all_step : (x : X) (xs rest : List X) (test : Bool) → test ≡ true → rest ≡ xs → (if test then x ∷ rest else rest) ≡ x ∷ xs
  filter_all_step x xs rest true e h = ap (λ l. x ∷ l) h
  filter_all_step x xs rest false e h = cc

  filter_all : (xs : List X) → Each (λ x. p x ≡ true) xs → filter p xs ≡ xs
  filter_all [] h = refl
  filter_all (x ∷ xs) h = filter_all_step x xs (filter p xs) (p x) h.0 (filter_all xs h.1)

  passes_step : (x : X) (xs : List X) (test : Bool) → p x ≡ test → Each (λ y. p y ≡ true) xs → Each (λ y. p y ≡ true) (if test then x ∷ xs else xs)
  passes_step x xs true e h = (e, h)
  passes_step x xs false e h = h

  passes : (xs : List X) → Each (λ y. p y ≡ true) (filter p xs)
  passes [] = tt
  passes (x ∷ xs) = passes_step x (filter p xs) (p x) refl (passes xs)

module _ {X : Type 0} (same : X → X → Bool) where
  -- no item is the same as a later one
  abbrev Different : List X → Type 0
  Different [] = Unit {0}
  Different (x ∷ xs) = Each (λ y. not (same x y) ≡ true) xs × Different xs

  different_step : (p : X → Bool) (x : X) (xs : List X) (test : Bool) → Each (λ y. not (same x y) ≡ true) xs → Different xs → Different (if test then x ∷ xs else xs)
  different_step p x xs true h k = (h, k)
  different_step p x xs false h k = k

  filter_different : (p : X → Bool) (xs : List X) → Different xs → Different (filter p xs)
  filter_different p [] h = tt
  filter_different p (x ∷ xs) h = different_step p x (filter p xs) (p x) (filter_each (λ y. not (same x y) ≡ true) p xs h.0) (filter_different p xs h.1)

  firsts_different : (xs : List X) → Different (firsts same xs)
  firsts_different [] = tt
  firsts_different (x ∷ xs) = (passes (λ y. not (same x y)) (firsts same xs), filter_different (λ y. not (same x y)) (firsts same xs) (firsts_different xs))

  firsts_all : (xs : List X) → Different xs → firsts same xs ≡ xs
  firsts_all [] h = refl
  firsts_all (x ∷ xs) h = ap (λ l. x ∷ filter (λ y. not (same x y)) l) (firsts_all xs h.1) ∙ ap (λ l. x ∷ l) (filter_all (λ y. not (same x y)) xs h.0)

lasting_twice : (ls : List Literal) → lasting (lasting ls) ≡ lasting ls
lasting_twice ls =
    let p : Literal → Bool = λ l. not (is_refuted l) in
    let stay : filter p (lasting ls) ≡ lasting ls = filter_all p (lasting ls) (firsts_each (λ l. p l ≡ true) is_literal (filter p ls) (passes p ls)) in
    ap (firsts is_literal) stay ∙ firsts_all is_literal (lasting ls) (firsts_different is_literal (filter p ls))

-- ---- numbers go back to variables

abbrev Listed : List ℕ → ℕ → Type 0
Listed seen x = list_any (λ y. y == x) seen ≡ true

listed_step : (x z : ℕ) (seen : List ℕ) (test : Bool) → (x == z) ≡ test → Listed seen z → (test || list_any (λ y. y == z) (filter (λ y. not (x == y)) seen)) ≡ true
listed_step x z seen true e h = refl
listed_step x z seen false e h = any_filter ◌==◌ equal_from x z seen e ∙ h

firsts_list : (xs : List ℕ) → Each (Listed (firsts ◌==◌ xs)) xs
firsts_list [] = tt
firsts_list (x ∷ xs) = (
  ap (λ b. b || list_any (λ y. y == x) (filter (λ y. not (x == y)) (firsts ◌==◌ xs))) (equal_true x),
  each_map (Listed (firsts ◌==◌ xs)) (Listed (firsts ◌==◌ (x ∷ xs))) xs (λ z h. listed_step x z (firsts ◌==◌ xs) (x == z) refl h) (firsts_list xs),
)

place_step : (x y : ℕ) (ys : List ℕ) (test back : Bool) → (x == y) ≡ test → (y == x) ≡ back → (back || list_any (λ z. z == x) ys) ≡ true
    → (Listed ys x → get_or ys (place_of x ys) 0 ≡ x) → get_or (y ∷ ys) (if test then 0 else 1 + place_of x ys) 0 ≡ x
place_step x y ys true back e f h rest = sym (equal_from x y e)
place_step x y ys false true e f h rest =
    let here : (x == x) ≡ false = subst (λ z. (x == z) ≡ false) (equal_from y x f) e in
    let there = equal_true x in
    cc
place_step x y ys false false e f h rest =
    let next : suc (place_of x ys) ≡ 1 + place_of x ys = omega arith in
    subst (λ n. get_or (y ∷ ys) n 0 ≡ x) next (rest h)

at_place : (x : ℕ) (seen : List ℕ) → Listed seen x → get_or seen (place_of x seen) 0 ≡ x
at_place x [] h = cc
at_place x (y ∷ ys) h = place_step x y ys (x == y) (y == x) refl refl h (at_place x ys)

module _ (seen : List ℕ) where
  -- the variable with this number
  abbrev back : ℕ → FoTerm
  back n = var (get_or seen n 0)

  term_back : (t : FoTerm) → Each (Listed seen) (variables_of t) → put back (put (numbering seen) t) ≡ t
  term_back t h =
      put_put back (numbering seen) t
      ∙ put_agreeing (λ y. put back (numbering seen y)) var t
      (each_map (Listed seen) (λ y. put back (numbering seen y) ≡ var y) (variables_of t) (λ y k. put_var back (place_of y seen) ∙ ap var (at_place y seen k)) h)
      ∙ put_itself t

  atom_back : (a : Atom) → Each (Listed seen) (concat (map variables_of (atom_terms a))) → put_atom back (put_atom (numbering seen) a) ≡ a
  atom_back (Holds t) h = ap Holds (term_back t (each_left (Listed seen) (variables_of t) [] h))
  atom_back (Eq s t) h =
      let left = term_back s (each_left (Listed seen) (variables_of s) (variables_of t ++ []) h) in
      let right = term_back t (each_left (Listed seen) (variables_of t) [] (each_right (Listed seen) (variables_of s) (variables_of t ++ []) h)) in
      λ i. Eq (left i) (right i)

  literals_back : (ls : List Literal) → Each (Listed seen) (clause_variables ls) → put_literals back (put_literals (numbering seen) ls) ≡ ls
  literals_back [] h = refl
  literals_back (l ∷ ls) h =
      let here = atom_back l.atom (each_left (Listed seen) (literal_variables l) (clause_variables ls) h) in
      let rest = literals_back ls (each_right (Listed seen) (literal_variables l) (clause_variables ls) h) in
      λ i. record { positive = l.positive; atom = here i } ∷ rest i

pub normal_form_stays : (ls : List Literal) → NormalFormStays ls
normal_form_stays ls =
    let kept = lasting ls in
    let seen = firsts ◌==◌ (clause_variables kept) in
    normal_kept (numbering seen) (back seen) kept (literals_back seen kept (firsts_list (clause_variables kept))) ∙ ap numbered (lasting_twice ls)
