-- Lists of which each item is kept once, built up item by item.
use Rattle.std.proofs.Common.{◌≡◌, ℕ, ◌+◌, ◌<◌, ◌≤◌, Bool, true, false, ◌==◌, ◌||◌, if◌then◌else◌, List, [], ◌∷◌, ◌++◌, map, take, length, get_or, refl, sym, ap, subst, ◌∙◌}
use Rattle.std.specs.Prelude.{not}
use Rattle.std.specs.List.{list_any, filter, concat}
use Rattle.std.proofs.lemmas.List.{append-nil, append_assoc, map-append, take_more, take_all}
use Rattle.std.proofs.lemmas.List.Elements.{filter-append}
use Rattle.std.proofs.lemmas.List.Folds.{concat-append}
use Rattle.std.specs.Borrow.{Bor}
use Rattle.fo_terms.specs.declared.literal.Literal.{Literal}
use Rattle.fo_terms.specs.Same.{is_literal}
use Rattle.fo_terms.specs.declared.term.FoTerm.{FoTerm}
use Rattle.fo_terms.specs.declared.atom.Atom.TheVariants.{Holds, Eq}
use Rattle.fo_terms.specs.Normal.{is_refuted, firsts, lasting, variables_of, atom_terms, literal_variables, clause_variables}
use Rattle.fo_terms.specs.inner.Gathered.{added, all_added, kept, lent}
use Rattle.fo_terms.proofs.Sameness.{is_literal_sound}
use Rattle.fo_terms.proofs.Substitution.{equal_from, map_map}

module _ {X : Type 0} (same : X → X → Bool) (sound : (x y : X) → same x y ≡ true → x ≡ y) where
  any_rest : (x z y : X) (ys : List X) → (test : Bool) → same x y ≡ test → same x z ≡ false
      → list_any (λ w. same w z) (filter (λ w. not (same x w)) ys) ≡ list_any (λ w. same w z) ys
      → list_any (λ w. same w z) (if not test then y ∷ filter (λ w. not (same x w)) ys else filter (λ w. not (same x w)) ys) ≡ list_any (λ w. same w z) (y ∷ ys)
  any_rest x z y ys true e apart rest =
      let here : same y z ≡ false = subst (λ w. same w z ≡ false) (sound x y e) apart in
      rest ∙ sym (ap (λ b. b || list_any (λ w. same w z) ys) here)
  any_rest x z y ys false e apart rest = ap (λ b. same y z || b) rest

  -- items apart from z may go where one is sought that is z
  pub any_filter : (x z : X) (xs : List X) → same x z ≡ false → list_any (λ w. same w z) (filter (λ w. not (same x w)) xs) ≡ list_any (λ w. same w z) xs
  any_filter x z [] apart = refl
  any_filter x z (y ∷ ys) apart = any_rest x z y ys (same x y) refl apart (any_filter x z ys apart)

  push_cases : (x z : X) (seen : List X) (test there : Bool) → same x z ≡ test → list_any (λ w. same w z) seen ≡ there
      → (if same x z || list_any (λ w. same w z) (filter (λ w. not (same x w)) seen) then x ∷ filter (λ w. not (same x w)) seen else (x ∷ filter (λ w. not (same x w)) seen) ++ z ∷ [])
      ≡ x ∷ filter (λ w. not (same x w)) (if there then seen else seen ++ z ∷ [])
  push_cases x z seen true true e f = ap (λ b. if b || list_any (λ w. same w z) (filter (λ w. not (same x w)) seen) then x ∷ filter (λ w. not (same x w)) seen else (x ∷ filter (λ w. not (same x w)) seen) ++ z ∷ []) e
  push_cases x z seen true false e f =
      let p : X → Bool = λ w. not (same x w) in
      let gone : filter p (z ∷ []) ≡ [] = ap (λ b. if not b then z ∷ [] else []) e in
      ap (λ b. if b || list_any (λ w. same w z) (filter p seen) then x ∷ filter p seen else (x ∷ filter p seen) ++ z ∷ []) e
      ∙ ap (λ l. x ∷ l) (sym (filter-append p seen (z ∷ []) ∙ ap (λ l. filter p seen ++ l) gone ∙ append-nil (filter p seen)))
  push_cases x z seen false true e f =
      ap (λ b. if b || list_any (λ w. same w z) (filter (λ w. not (same x w)) seen) then x ∷ filter (λ w. not (same x w)) seen else (x ∷ filter (λ w. not (same x w)) seen) ++ z ∷ []) e
      ∙ ap (λ b. if b then x ∷ filter (λ w. not (same x w)) seen else (x ∷ filter (λ w. not (same x w)) seen) ++ z ∷ []) (any_filter x z seen e ∙ f)
  push_cases x z seen false false e f =
      let p : X → Bool = λ w. not (same x w) in
      let stays : filter p (z ∷ []) ≡ z ∷ [] = ap (λ b. if not b then z ∷ [] else []) e in
      ap (λ b. if b || list_any (λ w. same w z) (filter p seen) then x ∷ filter p seen else (x ∷ filter p seen) ++ z ∷ []) e
      ∙ ap (λ b. if b then x ∷ filter p seen else (x ∷ filter p seen) ++ z ∷ []) (any_filter x z seen e ∙ f)
      ∙ ap (λ l. x ∷ l) (sym (filter-append p seen (z ∷ []) ∙ ap (λ l. filter p seen ++ l) stays))

  -- one more item
  pub firsts_push : (xs : List X) (z : X) → added same (firsts same xs) z ≡ firsts same (xs ++ z ∷ [])
  firsts_push [] z = refl
  firsts_push (x ∷ xs) z =
      push_cases x z (firsts same xs) (same x z) (list_any (λ w. same w z) (firsts same xs)) refl refl
      ∙ ap (λ l. x ∷ filter (λ w. not (same x w)) l) (firsts_push xs z)

  pub all_added_firsts : (xs ys : List X) → all_added same (firsts same xs) ys ≡ firsts same (xs ++ ys)
  all_added_firsts xs [] = ap (firsts same) (sym (append-nil xs))
  all_added_firsts xs (y ∷ ys) =
      ap (λ l. all_added same l ys) (firsts_push xs y) ∙ all_added_firsts (xs ++ y ∷ []) ys ∙ ap (firsts same) (append_assoc xs (y ∷ []) ys)

pub all_added-append : {X : Type 0} (same : X → X → Bool) (xs ys zs : List X) → all_added same xs (ys ++ zs) ≡ all_added same (all_added same xs ys) zs
all_added-append same xs [] zs = refl
all_added-append same xs (y ∷ ys) zs = all_added-append same (added same xs y) ys zs

-- ---- numbers

-- adding the numbers of one more item
pub gather_more : {A : Type 0} (f : A → List ℕ) (start now next : List ℕ) (xs : List A) (i : ℕ) (x : A) → i < length xs → x ≡ get_or xs i x
    → now ≡ all_added ◌==◌ start (concat (map f (take i xs))) → next ≡ all_added ◌==◌ now (f x) → next ≡ all_added ◌==◌ start (concat (map f (take (i + 1) xs)))
gather_more f start now next xs i x within is so step =
    let whole : concat (map f (take (i + 1) xs)) ≡ concat (map f (take i xs)) ++ f x =
    ap (λ l. concat (map f l)) (take_more xs i x within) ∙ ap concat (map-append f (take i xs) (get_or xs i x ∷ [])) ∙ concat-append (map f (take i xs)) (f (get_or xs i x) ∷ [])
    ∙ ap (λ l. concat (map f (take i xs)) ++ l) (append-nil (f (get_or xs i x)) ∙ ap f (sym is)) in
    step ∙ ap (λ l. all_added ◌==◌ l (f x)) so ∙ sym (all_added-append ◌==◌ start (concat (map f (take i xs))) (f x)) ∙ ap (all_added ◌==◌ start) (sym whole)

pub all_added_none : (ys : List ℕ) → all_added ◌==◌ [] ys ≡ firsts ◌==◌ ys
all_added_none ys = all_added_firsts ◌==◌ equal_from [] ys

-- ---- literals

kept_cases : (ls : List Literal) (l : Literal) (test : Bool) → is_refuted l ≡ test
    → (if test then firsts is_literal (filter (λ m. not (is_refuted m)) ls) else added is_literal (firsts is_literal (filter (λ m. not (is_refuted m)) ls)) l)
    ≡ firsts is_literal (filter (λ m. not (is_refuted m)) ls ++ (if not test then l ∷ [] else []))
kept_cases ls l true e = ap (firsts is_literal) (sym (append-nil (filter (λ m. not (is_refuted m)) ls)))
kept_cases ls l false e = firsts_push is_literal is_literal_sound (filter (λ m. not (is_refuted m)) ls) l

-- one more literal
pub lasting_push : (ls : List Literal) (l : Literal) → kept (lasting ls) l ≡ lasting (ls ++ l ∷ [])
lasting_push ls l = kept_cases ls l (is_refuted l) refl ∙ ap (firsts is_literal) (sym (filter-append (λ m. not (is_refuted m)) ls (l ∷ [])))

pub lasting_more : (now next : List Literal) (ls : List Literal) (i : ℕ) (l : Literal) → i < length ls → l ≡ get_or ls i l
    → now ≡ lasting (take i ls) → next ≡ kept now l → next ≡ lasting (take (i + 1) ls)
lasting_more now next ls i l within is so step =
    step ∙ ap (λ k. kept k l) so ∙ lasting_push (take i ls) l ∙ ap (λ m. lasting (take i ls ++ m ∷ [])) is ∙ ap lasting (sym (take_more ls i l within))

pub variables_end : (seen : List ℕ) (literals : List (Bor Literal)) (i : ℕ) → length literals ≤ i
    → seen ≡ all_added ◌==◌ [] (concat (map (λ r. literal_variables r.now) (take i literals))) → seen ≡ firsts ◌==◌ (clause_variables (lent literals))
variables_end seen literals i over is =
    is ∙ all_added_none (concat (map (λ r. literal_variables r.now) (take i literals)))
    ∙ ap (λ ls. firsts ◌==◌ (concat (map (λ r. literal_variables r.now) ls))) (take_all i literals over)
    ∙ ap (λ ls. firsts ◌==◌ (concat ls)) (sym (map_map literal_variables (λ r. r.now) literals))

pub gather_holds : (seen next : List ℕ) (l : Literal) (t : FoTerm) → l.atom ≡ Holds t → next ≡ all_added ◌==◌ seen (variables_of t) → next ≡ all_added ◌==◌ seen (literal_variables l)
gather_holds seen next l t is step =
    step ∙ ap (all_added ◌==◌ seen) (sym (append-nil (variables_of t)) ∙ ap (λ a. concat (map variables_of (atom_terms a))) (sym is))

pub gather_sides : (seen mid next : List ℕ) (l : Literal) (s t : FoTerm) → l.atom ≡ Eq s t → mid ≡ all_added ◌==◌ seen (variables_of s) → next ≡ all_added ◌==◌ mid (variables_of t)
    → next ≡ all_added ◌==◌ seen (literal_variables l)
gather_sides seen mid next l s t is first second =
    second ∙ ap (λ m. all_added ◌==◌ m (variables_of t)) first ∙ sym (all_added-append ◌==◌ seen (variables_of s) (variables_of t))
    ∙ ap (λ vs. all_added ◌==◌ seen (variables_of s ++ vs)) (sym (append-nil (variables_of t))) ∙ ap (λ a. all_added ◌==◌ seen (concat (map variables_of (atom_terms a)))) (sym is)
