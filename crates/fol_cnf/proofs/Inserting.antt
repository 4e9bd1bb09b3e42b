-- Numbers put among those that are there, list after list.
use Rattle.std.proofs.Common.{◌≡◌, ℕ, ◌+◌, ◌<◌, List, [], ◌∷◌, ◌++◌, map, take, length, get_or, refl, sym, ap, ◌∙◌}
use Rattle.std.specs.List.{concat}
use Rattle.std.specs.Ordering.{nat_cmp}
use Rattle.std.specs.BTreeSet.{insert_key}
use Rattle.std.proofs.lemmas.List.{append-nil, map-append, take_more}
use Rattle.std.proofs.lemmas.List.Folds.{concat-append}
use Rattle.fo_terms.specs.declared.term.FoTerm.{FoTerm}
use Rattle.fo_terms.specs.declared.atom.Atom.{Atom}
use Rattle.fo_terms.specs.declared.atom.Atom.TheVariants.{Holds, Eq}
use Rattle.fo_terms.specs.declared.formula.FoFormula.{FoFormula}
use Rattle.fo_terms.specs.Normal.{variables_of, atom_terms}
use Rattle.fol_cnf.specs.Scopes.{Scope, all_inserted, atom_variables}
use Rattle.fol_cnf.specs.Walks.{Meaning, meaning, occurring}

pub inserted_append : (ks xs ys : List ℕ) → all_inserted ks (xs ++ ys) ≡ all_inserted (all_inserted ks xs) ys
inserted_append ks [] ys = refl
inserted_append ks (x ∷ xs) ys = inserted_append (insert_key nat_cmp ks x) xs ys

pub inserted_both : (seen mid next xs ys : List ℕ) → mid ≡ all_inserted seen xs → next ≡ all_inserted mid ys → next ≡ all_inserted seen (xs ++ ys)
inserted_both seen mid next xs ys first second = second ∙ ap (λ m. all_inserted m ys) first ∙ sym (inserted_append seen xs ys)

-- the numbers of one more item
pub inserted_more : {A : Type 0} (f : A → List ℕ) (start now next : List ℕ) (xs : List A) (i : ℕ) (x : A) → i < length xs → x ≡ get_or xs i x
    → now ≡ all_inserted start (concat (map f (take i xs))) → next ≡ all_inserted now (f x) → next ≡ all_inserted start (concat (map f (take (i + 1) xs)))
inserted_more f start now next xs i x within is so step =
    let whole : concat (map f (take (i + 1) xs)) ≡ concat (map f (take i xs)) ++ f x =
    ap (λ l. concat (map f l)) (take_more xs i x within) ∙ ap concat (map-append f (take i xs) (get_or xs i x ∷ [])) ∙ concat-append (map f (take i xs)) (f (get_or xs i x) ∷ [])
    ∙ ap (λ l. concat (map f (take i xs)) ++ l) (append-nil (f (get_or xs i x)) ∙ ap f (sym is)) in
    inserted_both start now next (concat (map f (take i xs))) (f x) so step ∙ ap (all_inserted start) (sym whole)

pub inserted_holds : (seen next : List ℕ) (a : Atom) (t : FoTerm) → a ≡ Holds t → next ≡ all_inserted seen (variables_of t) → next ≡ all_inserted seen (atom_variables a)
inserted_holds seen next a t is step = step ∙ ap (all_inserted seen) (sym (append-nil (variables_of t)) ∙ ap (λ b. concat (map variables_of (atom_terms b))) (sym is))

pub inserted_sides : (seen mid next : List ℕ) (a : Atom) (s t : FoTerm) → a ≡ Eq s t → mid ≡ all_inserted seen (variables_of s) → next ≡ all_inserted mid (variables_of t)
    → next ≡ all_inserted seen (atom_variables a)
inserted_sides seen mid next a s t is first second =
    inserted_both seen mid next (variables_of s) (variables_of t) first second
    ∙ ap (λ vs. all_inserted seen (variables_of s ++ vs)) (sym (append-nil (variables_of t))) ∙ ap (λ b. all_inserted seen (concat (map variables_of (atom_terms b)))) (sym is)

-- the variables of a formula of this meaning
pub inserted_means : (f : FoFormula) (m : Meaning) (v : Scope) (seen next : List ℕ) → meaning f ≡ m → next ≡ all_inserted seen (m.variables v) → next ≡ all_inserted seen (occurring f v)
inserted_means f m v seen next is step = step ∙ ap (λ (z : Meaning). all_inserted seen (z.variables v)) (sym is)

-- a call on a part, which it got by another name
pub inserted_part : (f0 f : FoFormula) (v : Scope) (seen next : List ℕ) → f0 ≡ f → next ≡ all_inserted seen (occurring f0 v) → next ≡ all_inserted seen (occurring f v)
inserted_part f0 f v seen next is step = step ∙ ap (λ g. all_inserted seen (occurring g v)) is
