-- A chosen term over a table has its type, and its closed term stands alone.
use Rattle.std.proofs.Common.{◌≡◌, ℕ, ◌<◌, IsTrue, List, [], ◌∷◌, slice_get, ap, subst, refl, sym, ◌∙◌, Some, None}
use Rattle.std.specs.Prelude.{Option}
use Rattle.hol_terms.specs.declared.ty.Ty.{Ty}
use Rattle.hol_terms.specs.declared.sig.Sig.{Sig}
use Rattle.hol_terms.specs.declared.konst.Konst.TheVariants as konst
use Rattle.hol_terms.specs.declared.term.Term.{Term}
use Rattle.hol_terms.specs.Types.{bool_ty, function_ty, ty_fits}
use Rattle.hol_terms.specs.Typing.{type_in, type_of_term, applied}
use Rattle.hol_terms.specs.Formulas.{has_ty, aux_free, var_free}
use Rattle.hol_terms.specs.Substitution.{is_closed, abstracted}
use Rattle.hol_terms.proofs.TyCases.{is_ty_same}
use Rattle.hol_terms.proofs.Formulas.{aux_free_abstracted}
use Rattle.hol_terms.proofs.Equations.{type-con, aux_free-lam}
use Rattle.hol_terms.proofs.Closed.{typed_closed}
use Rattle.kernel_rules.specs.Connectives.{apply, constant, lambda, chosen}
use Rattle.kernel_rules.proofs.TypedTerms.{chosen_typed, chosen_aux_free}
use Rattle.lambda_lift.specs.declared.table.Aux.{Aux}
use Rattle.lambda_lift.specs.Tables.{expand, place, with_entry}
use Rattle.lambda_lift.specs.Standing.{Each, StandsAlone, over}
use Rattle.lambda_lift.proofs.Expansions.{entry_found}
use Rattle.lambda_lift.proofs.Standings.{with_entry_alone, konst_of_entry}
use Rattle.formula_clauses.specs.Choices.{Variable, variables, closed_over, closed_ty, applied_to, choice, chosen_term, with_choice}
use Rattle.hol_clausify.specs.Laws.{AllFit, ClosedTable, BareTable}
use Rattle.hol_clausify.specs.Variables.{each_free, has_number}
use Rattle.hol_clausify.proofs.Occurring.{Numbered, all_numbered}
use Rattle.hol_clausify.proofs.Choosing.{choice_stands}
use Rattle.hol_clausify.proofs.ClosedTypes.{closed_over_typed, applied_typed}
use Rattle.hol_clausify.proofs.Standing.{expand_given, table_closed}

closed_aux_free : (vs : List Variable) (t : Term) → IsTrue (aux_free t) → IsTrue (aux_free (closed_over vs t))
closed_aux_free [] t h = h
closed_aux_free (v ∷ vs) t h = let inner = closed_over vs t in aux_free-lam v.1 (abstracted v.0 v.1 inner) ∙ aux_free_abstracted v.0 v.1 inner 0 (closed_aux_free vs t h)

got_fits : (types : List Ty) (n : ℕ) (m : ℕ) (a : Ty) (o : Option Ty) → slice_get types m ≡ o → Each (λ b. IsTrue (ty_fits n b)) types → IsTrue (has_ty o a) → IsTrue (ty_fits n a)
got_fits types n m a None e all h = cc
got_fits types n m a (Some b) e all h = subst (λ z. IsTrue (ty_fits n z)) (is_ty_same b a h) (all m b e)

pub numbered_fit : (n : ℕ) (types : List Ty) (vs : List Variable) → Each (λ b. IsTrue (ty_fits n b)) types → Numbered types vs → AllFit n vs
numbered_fit n types [] all h = tt
numbered_fit n types (v ∷ vs) all h = (got_fits types n v.0 v.1 (slice_get types v.0) refl all h.0, numbered_fit n types vs all h.1)

pub bare_alone : (sig : Sig) (table : List Aux) → Each (StandsAlone sig) table → BareTable table
bare_alone sig table alone i e at = (alone i e at).without_free

module _ (sig : Sig) (has_bool : 0 < sig.types) (table : List Aux) (alone : Each (StandsAlone sig) table) (types : List Ty) (fits : Each (λ b. IsTrue (ty_fits sig.types b)) types)
    (a : Ty) (f : Term) (own : IsTrue (ty_fits sig.types a)) (typed : type_of_term (over sig table) f ≡ Some (function_ty a bool_ty)) (numbered : IsTrue (each_free (has_number types) f)) where
  abbrev vs : List Variable
  vs = variables f

  all_fit : AllFit sig.types vs
  all_fit = numbered_fit sig.types types vs fits (all_numbered types f numbered)

  shown : (type_of_term sig (expand table f) ≡ Some (function_ty a bool_ty)) × IsTrue (aux_free (expand table f))
  shown = expand_given sig table alone f (function_ty a bool_ty) typed

  choice_typed : type_of_term sig (choice table a f) ≡ Some (closed_ty vs a)
  choice_typed = (closed_over_typed sig vs (chosen a (expand table f)) a all_fit (chosen_typed sig a (expand table f) own shown.0)).0

  choice_bare : IsTrue (is_closed (choice table a f)) × IsTrue (var_free (choice table a f))
  choice_bare = choice_stands table types a f (table_closed sig table alone) (bare_alone sig table alone) (typed_closed (over sig table) f [] (function_ty a bool_ty) typed) numbered

  entry : StandsAlone sig (record { ty = closed_ty vs a; closed = choice table a f })
  entry = record { typed = choice_typed; without_aux = closed_aux_free vs (chosen a (expand table f)) (chosen_aux_free sig a (expand table f) shown.1); without_free = choice_bare.1 }

  pub choice_alone : Each (StandsAlone sig) (with_choice table a f)
  choice_alone = with_entry_alone sig has_bool table (closed_ty vs a) (choice table a f) alone entry

  pub chosen_term_typed : type_of_term (over sig (with_choice table a f)) (chosen_term table a f) ≡ Some a
  chosen_term_typed =
      let new = with_choice table a f in
      let c = choice table a f in
      let k = place table c in
      let found = entry_found table (closed_ty vs a) c in
      let here = choice_alone k found.entry found.at in
      let some : Some found.entry.ty ≡ Some (closed_ty vs a) = sym here.typed ∙ ap (type_of_term sig) found.closed ∙ choice_typed in
      let ty_is : found.entry.ty ≡ closed_ty vs a = cc in
      applied_typed (over sig new) vs (constant (konst.Aux k)) a all_fit
      (type-con (over sig new) (konst.Aux k) [] ∙ konst_of_entry sig has_bool new k found.entry found.at here ∙ ap Some ty_is)
