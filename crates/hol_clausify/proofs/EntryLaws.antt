-- What a lifted equation of an entry is over the table, expanded.
use Rattle.std.proofs.Common.{◌≡◌, ℕ, ◌<◌, IsTrue, List, [], ◌++◌, length, slice_get, ap, refl, sym, subst, ◌∙◌, Some}
use Rattle.std.specs.Prelude.{unwrap_or}
use Rattle.std.proofs.lemmas.Option.{slice_get_within}
use Rattle.hol_terms.specs.declared.sig.Sig.{Sig}
use Rattle.hol_terms.specs.declared.term.Term.{Term}
use Rattle.hol_terms.specs.Substitution.{is_closed}
use Rattle.hol_terms.proofs.Closed.{typed_closed}
use Rattle.hol_kernel.specs.Conditions.{own_ty, IsGiven}
use Rattle.hol_derived.specs.Contractions.{contracted_along}
use Rattle.hol_derived.proofs.Expansions.{own_is, own_given}
use Rattle.lambda_lift.specs.declared.table.Aux.{Aux}
use Rattle.lambda_lift.specs.Tables.{expand}
use Rattle.lambda_lift.specs.Equations.{equation}
use Rattle.lambda_lift.specs.Redexes.{redexes, side_redexes}
use Rattle.lambda_lift.specs.Lifting.{lifted_equation}
use Rattle.lambda_lift.specs.Standing.{Each, StandsAlone}
use Rattle.lambda_lift.proofs.Expansions.{stays_at}
use Rattle.lambda_lift.proofs.Growing.{formula_lifted_grows}
use Rattle.lambda_lift.proofs.RawEquations.{equation_back}
use Rattle.hol_clausify.specs.inner.Identities.{identity, first_aux, IsOf}
use Rattle.hol_clausify.proofs.Along.{same_along}
use Rattle.hol_clausify.proofs.Numbers.{number_read}

module _ (sig : Sig) (table : List Aux) (number : ℕ) (entry : Aux) (t : Term) (of : IsOf sig table number entry t) where
  abbrev after : List Aux
  after = (lifted_equation sig number of.stage).after.table

  at_longer : slice_get (after ++ of.more) number ≡ Some entry
  at_longer = stays_at of.stage.table after number entry (formula_lifted_grows sig _ of.stage) of.more of.at

  pub at_table : slice_get table number ≡ Some entry
  at_table = subst (λ l. slice_get l number ≡ Some entry) (sym of.grown) at_longer

  pub within_table : number < length table
  within_table = slice_get_within table number entry at_table

  pub number_is : unwrap_or (first_aux t) 0 ≡ number
  number_is = ap (λ o. unwrap_or o 0) (ap first_aux of.is ∙ number_read sig number of.stage)

  module _ (alone : Each (StandsAlone sig) table) where
    stands : StandsAlone sig entry
    stands = alone number entry at_table

    pub entry_given : IsGiven sig entry.closed (own_ty sig entry.closed)
    entry_given = own_given sig entry.closed entry.ty stands.typed stands.without_aux

    pub contracted : contracted_along (redexes (equation number entry) t ++ side_redexes number entry) (expand table t) ≡ identity (own_ty sig entry.closed) entry.closed
    contracted =
        let w = lifted_equation sig number of.stage in
        let paths = redexes (equation number entry) w.term ++ side_redexes number entry in
        (λ i. contracted_along (redexes (equation number entry) (of.is i) ++ side_redexes number entry) (expand (of.grown i) (of.is i)))
        ∙ same_along paths (expand (after ++ of.more) w.term)
        ∙ equation_back sig number entry of.stage (after ++ of.more) of.at stands.without_aux (typed_closed sig entry.closed [] entry.ty stands.typed) (record { more = of.more; is = refl }) at_longer
        ∙ ap (λ a. identity a entry.closed) (sym (own_is sig entry.closed entry.ty stands.typed))
