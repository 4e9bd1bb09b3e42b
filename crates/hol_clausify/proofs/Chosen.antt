-- Chosen terms, expanded, and the redexes that this makes.
use Rattle.std.proofs.Common.{◌≡◌, ℕ, IsTrue, List, [], ◌∷◌, ◌++◌, map, ap, refl, sym, ◌∙◌}
use Rattle.std.proofs.lemmas.List.{append-nil}
use Rattle.hol_terms.specs.declared.ty.Ty.{Ty}
use Rattle.hol_terms.specs.declared.konst.Konst.TheVariants as konst
use Rattle.hol_terms.specs.declared.term.Term.{Term, roll-Term}
use Rattle.hol_terms.specs.declared.term.Term.TheOpen.{Term-F}
use Rattle.hol_terms.specs.Substitution.{abstracted, is_closed}
use Rattle.hol_terms.proofs.Equations.{closed-lam}
use Rattle.kernel_rules.specs.Connectives.{apply, lambda, constant}
use Rattle.lambda_lift.specs.declared.table.Aux.{Aux}
use Rattle.lambda_lift.specs.Tables.{expand, place}
use Rattle.lambda_lift.proofs.Expansions.{Grows, expand_app, expand_free, expand_entry, entry_stays, entry_found}
use Rattle.formula_clauses.specs.Choices.{Variable, closed_over, closed_ty, applied_to, choice, with_choice, variables}
use Rattle.hol_derived.specs.Contractions.{contracted_here, contracted_at, contracted_along}
use Rattle.hol_derived.proofs.PathLaws.{here_redex, at_app}
use Rattle.hol_clausify.specs.Laws.{head_paths, ChosenExpands}
use Rattle.hol_clausify.proofs.Opening.{put_abstracted, closed_abstracted}

-- ---- a redex at the head of an application to variables
abbrev zeros : List Variable → List ℕ
zeros vs = map (λ w. 0) vs

zero_first : (vs : List Variable) (path : List ℕ) → 0 ∷ (zeros vs ++ path) ≡ zeros vs ++ 0 ∷ path
zero_first [] path = refl
zero_first (v ∷ vs) path = ap (λ p. 0 ∷ p) (zero_first vs path)

at_head : (vs : List Variable) (path : List ℕ) (f : Term) → contracted_at (zeros vs ++ path) (applied_to f vs) ≡ applied_to (contracted_at path f) vs
at_head [] path f = refl
at_head (v ∷ vs) path f =
    let x = roll-Term (Term-F.Free v.0 v.1) in
    ap (λ p. contracted_at p (applied_to (apply f x) vs)) (zero_first vs path) ∙ at_head vs (0 ∷ path) (apply f x) ∙ ap (λ t. applied_to t vs) (at_app 0 path f x)

head_contracted : (vs : List Variable) (f : Term) → contracted_at (zeros vs) (applied_to f vs) ≡ applied_to (contracted_here f) vs
head_contracted vs f = ap (λ p. contracted_at p (applied_to f vs)) (sym (append-nil (zeros vs))) ∙ at_head vs [] f

-- ---- a closed term made over variables, and opened again
pub closed_over_closed : (vs : List Variable) (t : Term) → IsTrue (is_closed t) → IsTrue (is_closed (closed_over vs t))
closed_over_closed [] t h = h
closed_over_closed (v ∷ vs) t h =
    let inner = closed_over vs t in closed-lam v.1 (abstracted v.0 v.1 inner) 0 ∙ closed_abstracted v.0 v.1 inner 0 (closed_over_closed vs t h)

pub reopened : (vs : List Variable) (t : Term) → IsTrue (is_closed t) → contracted_along (head_paths vs) (applied_to (closed_over vs t) vs) ≡ t
reopened [] t h = refl
reopened (v ∷ vs) t h =
    let inner = closed_over vs t in
    let x = roll-Term (Term-F.Free v.0 v.1) in
    let redex = apply (lambda v.1 (abstracted v.0 v.1 inner)) x in
    ap (contracted_along (head_paths vs))
    (head_contracted vs redex ∙ ap (λ u. applied_to u vs) (here_redex v.1 (abstracted v.0 v.1 inner) x ∙ put_abstracted v.0 v.1 inner 0 (closed_over_closed vs t h)))
    ∙ reopened vs t h

-- ---- a chosen term, expanded
expand_applied : (table : List Aux) (vs : List Variable) (f : Term) → expand table (applied_to f vs) ≡ applied_to (expand table f) vs
expand_applied table [] f = refl
expand_applied table (v ∷ vs) f =
    let x = roll-Term (Term-F.Free v.0 v.1) in
    expand_applied table vs (apply f x) ∙ ap (λ t. applied_to t vs) (expand_app table f x ∙ ap (apply (expand table f)) (expand_free table v.0 v.1))

pub chosen_expanded : (table : List Aux) (a : Ty) (f : Term) (more : List Aux) → ChosenExpands table a f more
chosen_expanded table a f more =
    let c = choice table a f in
    let new = with_choice table a f in
    let grows : Grows new (new ++ more) = record { more = more; is = refl } in
    let found = entry_stays new (new ++ more) (place table c) c grows (entry_found table (closed_ty (variables f) a) c) in
    expand_applied (new ++ more) (variables f) (constant (konst.Aux (place table c))) ∙ ap (λ t. applied_to t (variables f)) (expand_entry (new ++ more) (place table c) c found)
