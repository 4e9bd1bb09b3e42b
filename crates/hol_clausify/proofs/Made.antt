-- The equations that a lift gives are those of its table's entries.
use Rattle.std.proofs.Common.{◌≡◌, ℕ, zero, suc, ◌+◌, ◌<◌, ◌^◌, List, [], ◌∷◌, ◌++◌, ◌-◌, slice_get, ap, refl, sym, subst, append_assoc, ◌∙◌, Some, None}
use Rattle.std.specs.Prelude.{Option}
use Rattle.hol_terms.specs.declared.sig.Sig.{Sig}
use Rattle.hol_terms.specs.declared.term.Term.{Term}
use Rattle.hol_terms.specs.Types.{bool_ty}
use Rattle.hol_terms.specs.Formulas.{IsSentence}
use Rattle.hol_terms.proofs.Formulas.{formula_typed, formula_aux_free, sentence_formula, sentence_var_free}
use Rattle.lambda_lift.specs.declared.table.Aux.{Aux}
use Rattle.lambda_lift.specs.Walks.{Stage, reading}
use Rattle.lambda_lift.specs.Lifting.{Equated, equated, next_equation, lifted_formula, lifted_equation, lifted}
use Rattle.lambda_lift.specs.Standing.{Each, StandsAlone}
use Rattle.lambda_lift.proofs.Lifts.{reads}
use Rattle.lambda_lift.proofs.Typings.{same_type}
use Rattle.lambda_lift.proofs.Growing.{equated_grows}
use Rattle.lambda_lift.proofs.Standings.{each_first, Met, lifts_kept, equation_kept}
use Rattle.hol_clausify.specs.inner.Identities.{IsOf, IsEquation}

module _ (sig : Sig) (has_bool : 0 < sig.types) where
  abbrev Made : Equated → Type 0
  Made q = Each (IsEquation sig q.table) q.equations

  next_made : (most at : ℕ) (s : Stage) (o : Option ℕ) → slice_get s.met at ≡ o → Each (StandsAlone sig) s.table → Met s →
      ((q : Stage) → Each (StandsAlone sig) q.table → Met q → Made (equated sig most (at + 1) q)) → Made (next_equation sig s (equated sig most (at + 1)) o)
  next_made most at s None e alone met rest = λ i x q. cc
  next_made most at s (Some k) e alone met rest =
      let had = met at k e in
      let w = lifted_equation sig k s in
      let kept = equation_kept sig has_bool k s had.0 had.1 alone met in
      let end = equated sig most (at + 1) w.after in
      let grows = equated_grows sig most (at + 1) w.after in
      each_first (IsEquation sig end.table) w.term end.equations
      (record { number = k; entry = had.0; of = record { stage = s; at = had.1; is = refl; more = grows.more; grown = grows.is } }) (rest w.after kept.alone kept.met)

  equated_made : (most at : ℕ) (s : Stage) → Each (StandsAlone sig) s.table → Met s → Made (equated sig most at s)
  unfolding equated
  equated_made zero at s alone met = λ i x q. cc
  equated_made (suc most) at s alone met = next_made most at s (slice_get s.met at) refl alone met (equated_made most (at + 1))

  pub equations_made : (old : List Aux) (t : Term) → Each (StandsAlone sig) old → IsSentence sig t → Each (IsEquation sig (lifted sig old t).table) (lifted sig old t).equations
  unfolding lifted lifted_formula
  equations_made old t alone sentence =
      let formula = sentence_formula sig t sentence in
      let clean = formula_aux_free sig t formula in
      let s : Stage = record { table = old; met = [] } in
      let w = (reading sig t).formula [] s in
      let kept = lifts_kept sig has_bool t [] s w ((reads sig t clean).formula [] s) bool_ty (λ i a q. cc) alone (λ i a q. cc) (same_type sig old t [] clean ∙ formula_typed sig t formula) (sentence_var_free sig t sentence) in
      equated_made (2 ^ 64 - 1) 0 w.after kept.alone kept.met

-- and those of each table that goes on
pub equation_stays : (sig : Sig) (table more : List Aux) (t : Term) → IsEquation sig table t → IsEquation sig (table ++ more) t
equation_stays sig table more t q =
    record {
      number = q.number;
      entry = q.entry;
      of = record { stage = q.of.stage; at = q.of.at; is = q.of.is; more = q.of.more ++ more; grown = ap (λ l. l ++ more) q.of.grown ∙ append_assoc (lifted_equation sig q.number q.of.stage).after.table q.of.more more };
    }
