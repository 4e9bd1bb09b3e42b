use Rattle.std.proofs.Common.{map, refl, sym, ◌∙◌, subst}
use Rattle.hol_kernel.proofs.Growing.{extends_refl, extends_trans}
use Rattle.hol_kernel.proofs.Making.{err_free}
use Rattle.hol_clauses.specs.Bindings.{AllGiven}
use Rattle.clause_instances.specs.inner.Passes.{placed}
use Rattle.clause_instances.proofs.Passes.{moved_given, placed_given, put_all_at_once}
use Rattle.clause_instances.proofs.at_once.instantiate_at_once.Goals as goal

pub returns-in_err-by-clause-kept : goal.returns-in_err-by-clause-kept
returns-in_err-by-clause-kept c = extends_refl c.args.log.now

pub returns-in_err-by-clause-facts : goal.returns-in_err-by-clause-facts
returns-in_err-by-clause-facts c = refl

pub returns-in_err-by-clause-gives : goal.returns-in_err-by-clause-gives
returns-in_err-by-clause-gives c = err_free c.from_residual.result _ c.from_residual.ensures.0

pub returns-in_err-first-clause-kept : goal.returns-in_err-first-clause-kept
returns-in_err-first-clause-kept c = extends_refl c.args.log.now

pub returns-in_err-first-clause-facts : goal.returns-in_err-first-clause-facts
returns-in_err-first-clause-facts c = refl

pub returns-in_err-first-clause-gives : goal.returns-in_err-first-clause-gives
returns-in_err-first-clause-gives c = err_free c.from_residual-in_err-first.result _ c.from_residual-in_err-first.ensures.0

pub returns-in_err-second-clause-kept : goal.returns-in_err-second-clause-kept
returns-in_err-second-clause-kept c = extends_refl c.args.log.now

pub returns-in_err-second-clause-facts : goal.returns-in_err-second-clause-facts
returns-in_err-second-clause-facts c = refl

pub returns-in_err-second-clause-gives : goal.returns-in_err-second-clause-gives
returns-in_err-second-clause-gives c = err_free c.from_residual-in_err-second.result _ c.from_residual-in_err-second.ensures.0

pub instantiate-requires-clause-bindings : goal.instantiate-requires-clause-bindings
instantiate-requires-clause-bindings c =
    subst (AllGiven c.args.log.now.env.sig) (sym (c.as_slice.ensures ∙ c.in_ok-first.ensures)) (moved_given c.args.log.now.env.sig c.in_ok-by.by c.args.bindings.now c.requires.bindings)

pub instantiate-requires-clause-th : goal.instantiate-requires-clause-th
instantiate-requires-clause-th c = c.requires.th

pub returns-in_err-apart-clause-kept : goal.returns-in_err-apart-clause-kept
returns-in_err-apart-clause-kept c = c.instantiate.ensures.kept

pub returns-in_err-apart-clause-facts : goal.returns-in_err-apart-clause-facts
returns-in_err-apart-clause-facts c = c.instantiate.ensures.facts

pub returns-in_err-apart-clause-gives : goal.returns-in_err-apart-clause-gives
returns-in_err-apart-clause-gives c = err_free c.from_residual-in_err-apart.result _ c.from_residual-in_err-apart.ensures.0

pub instantiate-requires-2-clause-bindings : goal.instantiate-requires-2-clause-bindings
instantiate-requires-2-clause-bindings c =
    subst (AllGiven c.instantiate.new.log.env.sig) (sym (c.as_slice-2.ensures ∙ c.in_ok-second.ensures))
    (subst (λ e. AllGiven e.sig (map (placed c.in_ok-by.by) c.args.bindings.now)) (sym c.instantiate.ensures.kept.env) (placed_given c.args.log.now.env.sig c.in_ok-by.by c.args.bindings.now c.requires.bindings))

pub instantiate-requires-2-clause-th : goal.instantiate-requires-2-clause-th
instantiate-requires-2-clause-th c = c.in_ok-apart.ensures.gives.is_thm

pub returns-clause-kept : goal.returns-clause-kept
returns-clause-kept c = extends_trans _ _ _ c.instantiate.ensures.kept c.instantiate-2.ensures.kept

pub returns-clause-facts : goal.returns-clause-facts
returns-clause-facts c = c.instantiate-2.ensures.facts ∙ c.instantiate.ensures.facts

pub returns-clause-gives : goal.returns-clause-gives
returns-clause-gives c =
    put_all_at_once c.args.bindings.now c.in_ok-by.by c.in_ok-by.ensures c.as_slice.result.now c.as_slice-2.result.now (c.as_slice.ensures ∙ c.in_ok-first.ensures) (c.as_slice-2.ensures ∙ c.in_ok-second.ensures)
    c.args.log.now c.instantiate.new.log c.instantiate-2.new.log c.args.th.0 c.in_ok-apart.apart.0 c.instantiate-2.result c.in_ok-apart.ensures.gives c.instantiate-2.ensures.gives
