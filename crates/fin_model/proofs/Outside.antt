-- Terms that stand alone.
use Rattle.std.proofs.Common.{◌≡◌, ℕ, IsTrue, refl, sym, ap, subst, arith, [], Some, None, Ok, Err}
use Rattle.std.specs.Prelude.{Option, Result, IsSome}
use Rattle.hol_terms.specs.declared.term.Term.{Term}
use Rattle.hol_terms.specs.Formulas.{aux_free}
use Rattle.hol_terms.specs.Typing.{type_of_term}
use Rattle.model_truth.proofs.Ranges.{none_within}
use Rattle.fin_model.specs.declared.around.Around as around
use Rattle.fin_model.specs.declared.fault.EvalFault.{EvalFault}
use Rattle.fin_model.specs.declared.fault.EvalFault.TheVariants.{TooBig, NoMemory}
use Rattle.fin_model.specs.declared.world.World.{World}
use Rattle.fin_model.specs.Fitting.{fits}
use Rattle.fin_model.specs.Given.{IsGiven}
use Rattle.fin_model.specs.Limits.{product}
use Rattle.fin_model.specs.Refutation.{IsEvaluated}
use Rattle.fin_model.specs.inner.Around.{types_of, values_of}
use Rattle.fin_model.specs.inner.Evaluation.{sig_of, model_of, valuation_of, IsReady, Evaluates}
use Rattle.fin_model.proofs.Chains.{no_types, no_values}

some_of : {X : Type 0} (o : Option X) → IsSome o → (a : X) × (o ≡ Some a)
some_of None h = cc
some_of (Some a) h = (a, refl)

ready_alone : (w : World) (t : Term) → IsTrue (fits (sig_of w) (model_of w)) → IsSome (type_of_term (sig_of w) t) → IsTrue (aux_free t) → IsGiven (model_of w) (valuation_of w) t → IsReady w [] [] t
ready_alone w t f h aux g = record { fits = f; typed = some_of (type_of_term (sig_of w) t) h; clean = aux; given = g; within = none_within (model_of w); few = omega arith }

pub ready_outside : (w : World) (t : Term) → IsTrue (fits (sig_of w) (model_of w)) → IsSome (type_of_term (sig_of w) t) → IsTrue (aux_free t) → IsGiven (model_of w) (valuation_of w) t →
    IsReady w (types_of around.Outside) (values_of around.Outside) t
ready_outside w t f h aux g =
    subst (λ ts. IsReady w ts (values_of around.Outside) t) (sym no_types) (subst (λ vs. IsReady w [] vs t) (sym no_values) (ready_alone w t f h aux g))

pub product_outside : (w : World) → 1 ≡ product (model_of w) (types_of around.Outside)
product_outside w = ap (product (model_of w)) (sym no_types)

alone : (w : World) (t : Term) (r : Result ℕ EvalFault) → Evaluates w [] [] t r → IsEvaluated (sig_of w) (model_of w) (valuation_of w) t r
alone w t (Ok n) h = (h.value, h.within)
alone w t (Err TooBig) h = h
alone w t (Err NoMemory) h = tt

pub from_outside : (w : World) (t : Term) (r : Result ℕ EvalFault) → Evaluates w (types_of around.Outside) (values_of around.Outside) t r → IsEvaluated (sig_of w) (model_of w) (valuation_of w) t r
from_outside w t r h = alone w t r (subst (λ vs. Evaluates w [] vs t r) no_values (subst (λ ts. Evaluates w ts (values_of around.Outside) t r) no_types h))
