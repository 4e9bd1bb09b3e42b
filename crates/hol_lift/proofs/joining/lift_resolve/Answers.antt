use Rattle.std.proofs.Common.{refl, sym, ap, subst, ◌∙◌, ◌<◌, length, slice_get, [], ◌∷◌}
use Rattle.tagged_terms.specs.Readings.{signs_of}
use Rattle.hol_kernel.proofs.Growing.{extends_refl}
use Rattle.hol_kernel.proofs.Making.{err_free}
use Rattle.clause_instances.proofs.Answered.{if_ok_map}
use Rattle.hol_lift.proofs.Members.{got_within}
use Rattle.hol_lift.proofs.PairRules.{left_is, right_is, has_as, resolved_as, resolve_left, resolve_right, resolve_opposed_as, resolve_joins, resolve_tagged, resolves_kinds, resolves_unify}
use Rattle.fo_terms.specs.Normal.{clause_variables}
use Rattle.fo_infer.specs.Inferences.{above_all}
use Rattle.tagged_lines.specs.Lifted.{resolved}
use Rattle.hol_lift.proofs.joining.lift_resolve.Goals as goal

pub returns-in_err-by-clause-kept : goal.returns-in_err-by-clause-kept
returns-in_err-by-clause-kept c = extends_refl c.args.log.now

pub returns-in_err-by-clause-facts : goal.returns-in_err-by-clause-facts
returns-in_err-by-clause-facts c = refl

pub returns-in_err-by-clause-gives : goal.returns-in_err-by-clause-gives
returns-in_err-by-clause-gives c = err_free c.from_residual.result _ c.from_residual.ensures.0

pub returns-in_err-apart-clause-kept : goal.returns-in_err-apart-clause-kept
returns-in_err-apart-clause-kept c = extends_refl c.args.log.now

pub returns-in_err-apart-clause-facts : goal.returns-in_err-apart-clause-facts
returns-in_err-apart-clause-facts c = refl

pub returns-in_err-apart-clause-gives : goal.returns-in_err-apart-clause-gives
returns-in_err-apart-clause-gives c = err_free c.from_residual-in_err-apart.result _ c.from_residual-in_err-apart.ensures.0

pub at-requires : goal.at-requires
at-requires c = got_within c.args.p.now.literals c.args.i _ c.requires.rule.1.left_is

pub at-requires-2 : goal.at-requires-2
at-requires-2 c = (subst (λ ls. c.args.j < length ls) (sym c.in_ok-apart.ensures) (got_within _ c.args.j _ c.requires.rule.1.right_is))

pub atoms_unifier-requires : goal.atoms_unifier-requires
atoms_unifier-requires c = resolves_unify c.args.p.now c.args.q.now c.args.i c.args.j c.requires.rule.0 c.requires.rule.1 c.at.result.now c.at-2.result.now c.at.ensures (ap (λ ls. slice_get ls c.args.j) (sym c.in_ok-apart.ensures) ∙ c.at-2.ensures)

pub returns-in_err-unifier-clause-kept : goal.returns-in_err-unifier-clause-kept
returns-in_err-unifier-clause-kept c = extends_refl c.args.log.now

pub returns-in_err-unifier-clause-facts : goal.returns-in_err-unifier-clause-facts
returns-in_err-unifier-clause-facts c = refl

pub returns-in_err-unifier-clause-gives : goal.returns-in_err-unifier-clause-gives
returns-in_err-unifier-clause-gives c = err_free c.from_residual-in_err-unifier.result _ c.from_residual-in_err-unifier.ensures.0

pub returns-in_err-seen-clause-kept : goal.returns-in_err-seen-clause-kept
returns-in_err-seen-clause-kept c = extends_refl c.args.log.now

pub returns-in_err-seen-clause-facts : goal.returns-in_err-seen-clause-facts
returns-in_err-seen-clause-facts c = refl

pub returns-in_err-seen-clause-gives : goal.returns-in_err-seen-clause-gives
returns-in_err-seen-clause-gives c = err_free c.from_residual-in_err-seen.result _ c.from_residual-in_err-seen.ensures.0

pub resolvent_names-requires-clause-left : goal.resolvent_names-requires-clause-left
resolvent_names-requires-clause-left c = subst (λ ls. c.args.i < length ls) (sym c.as_slice-3.ensures) (got_within c.args.p.now.literals c.args.i _ c.requires.rule.1.left_is)

pub resolvent_names-requires-clause-right : goal.resolvent_names-requires-clause-right
resolvent_names-requires-clause-right c = subst (λ ls. c.args.j < length ls) (sym (c.as_slice-4.ensures ∙ c.in_ok-apart.ensures)) (got_within _ c.args.j _ c.requires.rule.1.right_is)

pub resolve_instances-requires-clause-symbols : goal.resolve_instances-requires-clause-symbols
resolve_instances-requires-clause-symbols c = c.requires.symbols

pub resolve_instances-requires-clause-left_fits : goal.resolve_instances-requires-clause-left_fits
resolve_instances-requires-clause-left_fits c = has_as c.args.log.now.env.sig (signs_of c.args.symbols.now) _ _ _ _ (left_is _ c.in_ok-unifier.unifier.binds _ (resolved c.args.p.now c.args.q.now c.in_ok-unifier.unifier.binds c.args.i c.args.j) c.as_slice-binds.ensures (c.as_slice-5.ensures ∙ c.in_ok-seen.ensures ∙ resolved_as c.args.p.now c.args.q.now c.in_ok-unifier.unifier.binds c.args.i c.args.j _ _ _ c.as_slice-2.ensures c.as_slice-3.ensures (c.as_slice-4.ensures ∙ c.in_ok-apart.ensures))) c.as_slice-6.ensures (resolve_left c.args.log.now.env.sig (signs_of c.args.symbols.now) c.requires.symbols c.args.p.now c.args.q.now c.requires.left_tagged c.requires.right_tagged c.args.i c.args.j c.requires.rule.0 c.in_ok-unifier.unifier.binds c.requires.rule.1 (c.in_ok-unifier.ensures ((c.requires.rule.1.s, c.requires.rule.1.t) ∷ []) (resolves_kinds c.args.p.now c.args.q.now c.args.i c.args.j c.requires.rule.0 c.requires.rule.1 c.at.result.now c.at-2.result.now c.at.ensures (ap (λ ls. slice_get ls c.args.j) (sym c.in_ok-apart.ensures) ∙ c.at-2.ensures))))

pub resolve_instances-requires-clause-right_fits : goal.resolve_instances-requires-clause-right_fits
resolve_instances-requires-clause-right_fits c = has_as c.args.log.now.env.sig (signs_of c.args.symbols.now) _ _ _ _ (right_is c.args.p.now _ _ c.in_ok-unifier.unifier.binds _ (resolved c.args.p.now c.args.q.now c.in_ok-unifier.unifier.binds c.args.i c.args.j) (c.in_ok-by.ensures ∙ ap (λ ls. above_all (clause_variables ls)) c.as_slice.ensures) c.as_slice-binds.ensures (c.as_slice-7.ensures ∙ c.in_ok-seen.ensures ∙ resolved_as c.args.p.now c.args.q.now c.in_ok-unifier.unifier.binds c.args.i c.args.j _ _ _ c.as_slice-2.ensures c.as_slice-3.ensures (c.as_slice-4.ensures ∙ c.in_ok-apart.ensures))) c.as_slice-8.ensures (resolve_right c.args.log.now.env.sig (signs_of c.args.symbols.now) c.requires.symbols c.args.p.now c.args.q.now c.requires.left_tagged c.requires.right_tagged c.args.i c.args.j c.requires.rule.0 c.in_ok-unifier.unifier.binds c.requires.rule.1 (c.in_ok-unifier.ensures ((c.requires.rule.1.s, c.requires.rule.1.t) ∷ []) (resolves_kinds c.args.p.now c.args.q.now c.args.i c.args.j c.requires.rule.0 c.requires.rule.1 c.at.result.now c.at-2.result.now c.at.ensures (ap (λ ls. slice_get ls c.args.j) (sym c.in_ok-apart.ensures) ∙ c.at-2.ensures))))

pub resolve_instances-requires-clause-left : goal.resolve_instances-requires-clause-left
resolve_instances-requires-clause-left c = c.requires.left

pub resolve_instances-requires-clause-right : goal.resolve_instances-requires-clause-right
resolve_instances-requires-clause-right c = c.requires.right

pub resolve_instances-requires-clause-left_false : goal.resolve_instances-requires-clause-left_false
resolve_instances-requires-clause-left_false c = c.requires.left_false

pub resolve_instances-requires-clause-right_false : goal.resolve_instances-requires-clause-right_false
resolve_instances-requires-clause-right_false c = c.requires.right_false

pub resolve_instances-requires-clause-opposed : goal.resolve_instances-requires-clause-opposed
resolve_instances-requires-clause-opposed c = resolve_opposed_as c.args.log.now.env.sig (signs_of c.args.symbols.now) c.requires.symbols c.args.p.now c.args.q.now c.requires.left_tagged c.requires.right_tagged c.args.i c.args.j c.requires.rule.0 c.in_ok-unifier.unifier.binds c.requires.rule.1 (c.in_ok-unifier.ensures ((c.requires.rule.1.s, c.requires.rule.1.t) ∷ []) (resolves_kinds c.args.p.now c.args.q.now c.args.i c.args.j c.requires.rule.0 c.requires.rule.1 c.at.result.now c.at-2.result.now c.at.ensures (ap (λ ls. slice_get ls c.args.j) (sym c.in_ok-apart.ensures) ∙ c.at-2.ensures))) _ _ _ _ (left_is _ c.in_ok-unifier.unifier.binds _ (resolved c.args.p.now c.args.q.now c.in_ok-unifier.unifier.binds c.args.i c.args.j) c.as_slice-binds.ensures (c.as_slice-5.ensures ∙ c.in_ok-seen.ensures ∙ resolved_as c.args.p.now c.args.q.now c.in_ok-unifier.unifier.binds c.args.i c.args.j _ _ _ c.as_slice-2.ensures c.as_slice-3.ensures (c.as_slice-4.ensures ∙ c.in_ok-apart.ensures))) c.as_slice-6.ensures (right_is c.args.p.now _ _ c.in_ok-unifier.unifier.binds _ (resolved c.args.p.now c.args.q.now c.in_ok-unifier.unifier.binds c.args.i c.args.j) (c.in_ok-by.ensures ∙ ap (λ ls. above_all (clause_variables ls)) c.as_slice.ensures) c.as_slice-binds.ensures (c.as_slice-7.ensures ∙ c.in_ok-seen.ensures ∙ resolved_as c.args.p.now c.args.q.now c.in_ok-unifier.unifier.binds c.args.i c.args.j _ _ _ c.as_slice-2.ensures c.as_slice-3.ensures (c.as_slice-4.ensures ∙ c.in_ok-apart.ensures))) c.as_slice-8.ensures

pub returns-clause-kept : goal.returns-clause-kept
returns-clause-kept c = c.resolve_instances.ensures.kept

pub returns-clause-facts : goal.returns-clause-facts
returns-clause-facts c = c.resolve_instances.ensures.facts

pub returns-clause-gives : goal.returns-clause-gives
returns-clause-gives c = if_ok_map c.resolve_instances.result _ _ (λ r f d rule. (
  resolve_joins c.args.log.now.env.sig (signs_of c.args.symbols.now) c.requires.symbols c.args.p.now c.args.q.now c.requires.left_tagged c.requires.right_tagged c.args.i c.args.j d c.in_ok-unifier.unifier.binds rule (c.in_ok-unifier.ensures ((rule.s, rule.t) ∷ []) (resolves_kinds c.args.p.now c.args.q.now c.args.i c.args.j d rule c.at.result.now c.at-2.result.now c.at.ensures (ap (λ ls. slice_get ls c.args.j) (sym c.in_ok-apart.ensures) ∙ c.at-2.ensures)))
      c.args.log.now c.resolve_instances.new.log c.args.left.0 c.args.right.0 r.0 _ _ _ _ (left_is _ c.in_ok-unifier.unifier.binds _ (resolved c.args.p.now c.args.q.now c.in_ok-unifier.unifier.binds c.args.i c.args.j) c.as_slice-binds.ensures (c.as_slice-5.ensures ∙ c.in_ok-seen.ensures ∙ resolved_as c.args.p.now c.args.q.now c.in_ok-unifier.unifier.binds c.args.i c.args.j _ _ _ c.as_slice-2.ensures c.as_slice-3.ensures (c.as_slice-4.ensures ∙ c.in_ok-apart.ensures))) c.as_slice-6.ensures (right_is c.args.p.now _ _ c.in_ok-unifier.unifier.binds _ (resolved c.args.p.now c.args.q.now c.in_ok-unifier.unifier.binds c.args.i c.args.j) (c.in_ok-by.ensures ∙ ap (λ ls. above_all (clause_variables ls)) c.as_slice.ensures) c.as_slice-binds.ensures (c.as_slice-7.ensures ∙ c.in_ok-seen.ensures ∙ resolved_as c.args.p.now c.args.q.now c.in_ok-unifier.unifier.binds c.args.i c.args.j _ _ _ c.as_slice-2.ensures c.as_slice-3.ensures (c.as_slice-4.ensures ∙ c.in_ok-apart.ensures))) c.as_slice-8.ensures f,
  resolve_tagged c.args.log.now.env.sig (signs_of c.args.symbols.now) c.requires.symbols c.args.p.now c.args.q.now c.requires.left_tagged c.requires.right_tagged c.args.i c.args.j d c.in_ok-unifier.unifier.binds rule (c.in_ok-unifier.ensures ((rule.s, rule.t) ∷ []) (resolves_kinds c.args.p.now c.args.q.now c.args.i c.args.j d rule c.at.result.now c.at-2.result.now c.at.ensures (ap (λ ls. slice_get ls c.args.j) (sym c.in_ok-apart.ensures) ∙ c.at-2.ensures))),
)) c.resolve_instances.ensures.gives
