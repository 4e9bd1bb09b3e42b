-- The least number above all of a list, built up item by item.
use Rattle.std.proofs.Common.{◌≡◌, ℕ, ◌+◌, ◌<◌, max, List, [], ◌∷◌, ◌++◌, map, take, length, get_or, sym, ap, ◌∙◌, arith}
use Rattle.std.specs.List.{concat}
use Rattle.std.proofs.lemmas.List.{append-nil, map-append, take_more}
use Rattle.std.proofs.lemmas.List.Folds.{concat-append}
use Rattle.fo_terms.specs.declared.term.FoTerm.{FoTerm}
use Rattle.fo_terms.specs.declared.atom.Atom.TheVariants.{Holds, Eq}
use Rattle.fo_terms.specs.declared.literal.Literal.{Literal}
use Rattle.fo_terms.specs.Normal.{variables_of, atom_terms, literal_variables}
use Rattle.fo_infer.specs.Inferences.{above_all}

max_assoc : (a b c : ℕ) → max (max a b) c ≡ max a (max b c)
max_assoc a b c = omega arith

above_all-append : (xs ys : List ℕ) → above_all (xs ++ ys) ≡ max (above_all xs) (above_all ys)
above_all-append [] ys = omega arith
above_all-append (x ∷ xs) ys = ap (max (x + 1)) (above_all-append xs ys) ∙ sym (max_assoc (x + 1) (above_all xs) (above_all ys))

pub above_parts : (floor mid next : ℕ) (xs ys : List ℕ) → mid ≡ max floor (above_all xs) → next ≡ max mid (above_all ys) → next ≡ max floor (above_all (xs ++ ys))
above_parts floor mid next xs ys first second =
    second ∙ ap (λ m. max m (above_all ys)) first ∙ max_assoc floor (above_all xs) (above_all ys) ∙ ap (max floor) (sym (above_all-append xs ys))

pub above_more : {A : Type 0} (f : A → List ℕ) (floor now next : ℕ) (xs : List A) (i : ℕ) (x : A) → i < length xs → x ≡ get_or xs i x
    → now ≡ max floor (above_all (concat (map f (take i xs)))) → next ≡ max now (above_all (f x)) → next ≡ max floor (above_all (concat (map f (take (i + 1) xs))))
above_more f floor now next xs i x within is so step =
    let whole : concat (map f (take (i + 1) xs)) ≡ concat (map f (take i xs)) ++ f x =
    ap (λ l. concat (map f l)) (take_more xs i x within) ∙ ap concat (map-append f (take i xs) (get_or xs i x ∷ [])) ∙ concat-append (map f (take i xs)) (f (get_or xs i x) ∷ [])
    ∙ ap (λ l. concat (map f (take i xs)) ++ l) (append-nil (f (get_or xs i x)) ∙ ap f (sym is)) in
    above_parts floor now next (concat (map f (take i xs))) (f x) so step ∙ ap (λ l. max floor (above_all l)) (sym whole)

pub above_holds : (floor next : ℕ) (l : Literal) (t : FoTerm) → l.atom ≡ Holds t → next ≡ max floor (above_all (variables_of t)) → next ≡ max floor (above_all (literal_variables l))
above_holds floor next l t is step = step ∙ ap (λ vs. max floor (above_all vs)) (sym (append-nil (variables_of t)) ∙ ap (λ a. concat (map variables_of (atom_terms a))) (sym is))

pub above_sides : (floor mid next : ℕ) (l : Literal) (s t : FoTerm) → l.atom ≡ Eq s t → mid ≡ max floor (above_all (variables_of s)) → next ≡ max mid (above_all (variables_of t))
    → next ≡ max floor (above_all (literal_variables l))
above_sides floor mid next l s t is first second =
    above_parts floor mid next (variables_of s) (variables_of t) first second
    ∙ ap (λ vs. max floor (above_all (variables_of s ++ vs))) (sym (append-nil (variables_of t))) ∙ ap (λ a. max floor (above_all (concat (map variables_of (atom_terms a))))) (sym is)
