use Rattle.std.proofs.Common.{refl, ap, ◌∙◌}
use Rattle.hol_terms.specs.Substitution.{instantiated}
use Rattle.hol_derived.proofs.Expansions.{variable_is}
use Rattle.hol_clausify.proofs.values.open_variable.Goals as goal

pub returns : goal.returns
returns c = record {
  value = c.in_ok-value.ensures ∙ variable_is c.args.next c.args.ty.now;
  part = c.in_ok-part.ensures ∙ c.in_ok-instantiate.ensures ∙ ap (instantiated c.args.body.now) c.get.ensures;
  next = c.in-Some.ensures.1;
}
