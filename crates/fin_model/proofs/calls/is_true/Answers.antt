use Rattle.std.proofs.Common.{◌<◌, sym, subst, List, ap}
use Rattle.hol_terms.proofs.Formulas.{formula_aux_free, sentence_formula}
use Rattle.model_truth.specs.Sizes.{size}
use Rattle.model_truth.specs.Truth.{IsValid}
use Rattle.model_truth.specs.Values.{value_of}
use Rattle.fin_model.specs.declared.valued.Valued.{Valued}
use Rattle.fin_model.specs.Given.{given}
use Rattle.fin_model.specs.Limits.{is_within}
use Rattle.std.proofs.Common.{[], ◌∙◌}
use Rattle.fin_model.proofs.Models.{fits_is_model}
use Rattle.fin_model.proofs.Telling.{none_in_range, err_tells, evaluated_refused, valid_tells, typed_some}
use Rattle.fin_model.proofs.calls.is_true.Goals as goal

pub eval-requires-clause-fits : goal.eval-requires-clause-fits
eval-requires-clause-fits c = c.requires.fits

pub eval-requires-clause-typed : goal.eval-requires-clause-typed
eval-requires-clause-typed c = typed_some c.args.sig.now c.args.t.now c.requires.sentence

pub eval-requires-clause-aux : goal.eval-requires-clause-aux
eval-requires-clause-aux c = formula_aux_free c.args.sig.now c.args.t.now (sentence_formula c.args.sig.now c.args.t.now c.requires.sentence)

pub eval-requires-clause-free : goal.eval-requires-clause-free
eval-requires-clause-free c =
    λ n a h. subst (λ (l : List Valued). given l n a < size c.args.model.now a) (sym c.begin-free.ensures) (none_in_range c.args.sig.now c.args.model.now (fits_is_model c.args.sig.now c.args.model.now c.requires.fits) n a)

pub returns-in_err-eval : goal.returns-in_err-eval
returns-in_err-eval c =
    err_tells (IsValid c.args.sig.now c.args.model.now c.args.t.now) (is_within c.args.sig.now c.args.model.now c.args.t.now []) c.from_residual.result c.in_err-eval.field-0.0 c.from_residual.ensures.1
    (evaluated_refused c.args.sig.now c.args.model.now (given c.begin-free.result) c.args.t.now (IsValid c.args.sig.now c.args.model.now c.args.t.now) c.in_err-eval.field-0.0 c.in_err-eval.ensures)

pub returns : goal.returns
returns c =
    valid_tells c.args.sig.now c.args.model.now c.args.t.now c.in_ok-eval.field-0 (fits_is_model c.args.sig.now c.args.model.now c.requires.fits) c.requires.sentence
    (c.in_ok-eval.ensures.0 ∙ ap (λ (l : List Valued). value_of c.args.sig.now c.args.model.now (given l) c.args.t.now) c.begin-free.ensures) c.in_ok-eval.ensures.1
