use Rattle.std.proofs.Common.{◌≡◌, ◌∙◌, ap, subst}
use Rattle.std.specs.Prelude.{IfOk}
use Rattle.hol_terms.specs.declared.term.Term.{Free}
use Rattle.hol_terms.specs.Substitution.{instantiated, is_closed}
use Rattle.hol_terms.proofs.Equations.{closed-free}
use Rattle.hol_kernel.proofs.Making.{err_free}
use Rattle.hol_derived.proofs.Expansions.{variable_is}
use Rattle.hol_clausify.proofs.identity.opened.Goals as goal

pub returns-in_err-copy_ty : goal.returns-in_err-copy_ty
returns-in_err-copy_ty c = err_free c.from_residual.result _ c.from_residual.ensures.0

pub instantiate-requires : goal.instantiate-requires
instantiate-requires c = ap is_closed (variable_is c.args.n c.in_ok-copy_ty.field-0) ∙ closed-free c.args.n c.in_ok-copy_ty.field-0 0

pub returns : goal.returns
returns c = subst (λ a. IfOk c.instantiate.result (λ t. t ≡ instantiated c.args.body.now (Free c.args.n a))) c.in_ok-copy_ty.ensures c.instantiate.ensures
