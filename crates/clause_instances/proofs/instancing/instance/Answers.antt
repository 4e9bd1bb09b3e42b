use Rattle.std.proofs.Common.{refl, sym, ◌∙◌, ap, subst, map}
use Rattle.tagged_terms.specs.Readings.{signs_of}
use Rattle.hol_kernel.proofs.Growing.{extends_refl}
use Rattle.hol_kernel.proofs.Making.{err_free}
use Rattle.hol_clauses.specs.Bindings.{AllGiven}
use Rattle.clause_instances.specs.Images.{image}
use Rattle.clause_instances.specs.Theorems.{binding}
use Rattle.clause_instances.proofs.Instances.{bindings_given, instance_lands}
use Rattle.clause_instances.proofs.instancing.instance.Goals as goal

pub returns-in_err-found-clause-kept : goal.returns-in_err-found-clause-kept
returns-in_err-found-clause-kept c = extends_refl c.args.log.now

pub returns-in_err-found-clause-facts : goal.returns-in_err-found-clause-facts
returns-in_err-found-clause-facts c = refl

pub returns-in_err-found-clause-gives : goal.returns-in_err-found-clause-gives
returns-in_err-found-clause-gives c = err_free c.from_residual.result _ c.from_residual.ensures.0

pub returns-in_err-put-clause-kept : goal.returns-in_err-put-clause-kept
returns-in_err-put-clause-kept c = extends_refl c.args.log.now

pub returns-in_err-put-clause-facts : goal.returns-in_err-put-clause-facts
returns-in_err-put-clause-facts c = refl

pub returns-in_err-put-clause-gives : goal.returns-in_err-put-clause-gives
returns-in_err-put-clause-gives c = err_free c.from_residual-in_err-put.result _ c.from_residual-in_err-put.ensures.0

pub instantiate_at_once-requires-clause-bindings : goal.instantiate_at_once-requires-clause-bindings
instantiate_at_once-requires-clause-bindings c =
    let u = image c.args.u.now.by c.args.u.now.binds.now c.args.u.now.seen.now in
    let signs = signs_of c.args.symbols.now in
    subst (AllGiven c.args.log.now.env.sig) (sym (c.as_slice-2.ensures ∙ c.in_ok-put.ensures ∙ ap (map (binding signs u)) (c.as_slice.ensures ∙ c.in_ok-found.ensures)))
    (bindings_given c.args.log.now.env.sig signs u c.args.literals.now c.requires.symbols c.requires.fits)

pub instantiate_at_once-requires-clause-th : goal.instantiate_at_once-requires-clause-th
instantiate_at_once-requires-clause-th c = c.requires.th

pub returns-clause-kept : goal.returns-clause-kept
returns-clause-kept c = c.instantiate_at_once.ensures.kept

pub returns-clause-facts : goal.returns-clause-facts
returns-clause-facts c = c.instantiate_at_once.ensures.facts

pub returns-clause-gives : goal.returns-clause-gives
returns-clause-gives c =
    let u = image c.args.u.now.by c.args.u.now.binds.now c.args.u.now.seen.now in
    let signs = signs_of c.args.symbols.now in
    instance_lands c.args.log.now.env.sig signs u c.args.literals.now c.requires.symbols c.requires.fits c.args.log.now c.instantiate_at_once.new.log c.args.th.0 c.as_slice-2.result.now c.instantiate_at_once.result c.requires.false_is
    (c.as_slice-2.ensures ∙ c.in_ok-put.ensures ∙ ap (map (binding signs u)) (c.as_slice.ensures ∙ c.in_ok-found.ensures)) c.instantiate_at_once.ensures.gives
