use Rattle.std.proofs.Common.{refl, sym, ap, subst, ◌∙◌, ◌<◌, length, slice_get, map}
use Rattle.tagged_terms.specs.Readings.{signs_of}
use Rattle.hol_kernel.proofs.Growing.{extends_refl}
use Rattle.hol_kernel.proofs.Making.{err_free}
use Rattle.clause_instances.proofs.Answered.{if_ok_map}
use Rattle.hol_lift.proofs.Members.{got_within}
use Rattle.hol_lift.proofs.PairRules.{left_is, right_is, has_as, paramodulated_as, unifier_as, para_tagged, para_left, para_right, para_rewrites_as, para_joins, para_equation, para_into, para_at, para_unifies}
use Rattle.fo_terms.specs.Normal.{clause_variables}
use Rattle.fo_infer.specs.Inferences.{above_all, sought, put_in, literal_replaced}
use Rattle.tagged_lines.specs.Lifted.{paramodulated}
use Rattle.tagged_lines.specs.Places.{formula_path}
use Rattle.hol_lift.specs.inner.Places.{direction}
use Rattle.hol_lift.proofs.joining.lift_paramodulate.Goals as goal

pub returns-in_err-by-clause-kept : goal.returns-in_err-by-clause-kept
returns-in_err-by-clause-kept c = extends_refl c.args.log.now

pub returns-in_err-by-clause-facts : goal.returns-in_err-by-clause-facts
returns-in_err-by-clause-facts c = refl

pub returns-in_err-by-clause-gives : goal.returns-in_err-by-clause-gives
returns-in_err-by-clause-gives c = err_free c.from_residual.result _ c.from_residual.ensures.0

pub returns-in_err-apart-clause-kept : goal.returns-in_err-apart-clause-kept
returns-in_err-apart-clause-kept c = extends_refl c.args.log.now

pub returns-in_err-apart-clause-facts : goal.returns-in_err-apart-clause-facts
returns-in_err-apart-clause-facts c = refl

pub returns-in_err-apart-clause-gives : goal.returns-in_err-apart-clause-gives
returns-in_err-apart-clause-gives c = err_free c.from_residual-in_err-apart.result _ c.from_residual-in_err-apart.ensures.0

pub at-requires : goal.at-requires
at-requires c = got_within c.args.p.now.literals c.args.i _ c.requires.rule.1.left_is

pub at-requires-2 : goal.at-requires-2
at-requires-2 c = (subst (λ ls. c.args.j < length ls) (sym c.in_ok-apart.ensures) (got_within _ c.args.j _ c.requires.rule.1.right_is))

pub subterm_unifier-requires : goal.subterm_unifier-requires
subterm_unifier-requires c = para_unifies c.args.p.now c.args.q.now c.args.i c.args.swapped c.args.j c.args.path.now c.requires.rule.0 c.requires.rule.1 c.at.result.now c.at-2.result.now c.at.ensures (ap (λ ls. slice_get ls c.args.j) (sym c.in_ok-apart.ensures) ∙ c.at-2.ensures) c.sought_side.result.now (c.sought_side.ensures c.requires.rule.1.a c.requires.rule.1.b (para_equation c.args.p.now c.args.q.now c.args.i c.args.swapped c.args.j c.args.path.now c.requires.rule.0 c.requires.rule.1 c.at.result.now c.at-2.result.now c.at.ensures (ap (λ ls. slice_get ls c.args.j) (sym c.in_ok-apart.ensures) ∙ c.at-2.ensures)))

pub returns-in_err-unifier-clause-kept : goal.returns-in_err-unifier-clause-kept
returns-in_err-unifier-clause-kept c = extends_refl c.args.log.now

pub returns-in_err-unifier-clause-facts : goal.returns-in_err-unifier-clause-facts
returns-in_err-unifier-clause-facts c = refl

pub returns-in_err-unifier-clause-gives : goal.returns-in_err-unifier-clause-gives
returns-in_err-unifier-clause-gives c = err_free c.from_residual-in_err-unifier.result _ c.from_residual-in_err-unifier.ensures.0

pub names-requires-clause-left : goal.names-requires-clause-left
names-requires-clause-left c = got_within c.args.p.now.literals c.args.i _ c.requires.rule.1.left_is

pub names-requires-clause-right : goal.names-requires-clause-right
names-requires-clause-right c = (subst (λ ls. c.args.j < length ls) (sym c.in_ok-apart.ensures) (got_within _ c.args.j _ c.requires.rule.1.right_is))

pub returns-in_err-seen-clause-kept : goal.returns-in_err-seen-clause-kept
returns-in_err-seen-clause-kept c = extends_refl c.args.log.now

pub returns-in_err-seen-clause-facts : goal.returns-in_err-seen-clause-facts
returns-in_err-seen-clause-facts c = refl

pub returns-in_err-seen-clause-gives : goal.returns-in_err-seen-clause-gives
returns-in_err-seen-clause-gives c = err_free c.from_residual-in_err-seen.result _ c.from_residual-in_err-seen.ensures.0

pub returns-in_err-places-clause-kept : goal.returns-in_err-places-clause-kept
returns-in_err-places-clause-kept c = extends_refl c.args.log.now

pub returns-in_err-places-clause-facts : goal.returns-in_err-places-clause-facts
returns-in_err-places-clause-facts c = refl

pub returns-in_err-places-clause-gives : goal.returns-in_err-places-clause-gives
returns-in_err-places-clause-gives c = err_free c.from_residual-in_err-places.result _ c.from_residual-in_err-places.ensures.0

pub paramodulate_instances-requires-clause-symbols : goal.paramodulate_instances-requires-clause-symbols
paramodulate_instances-requires-clause-symbols c = c.requires.symbols

pub paramodulate_instances-requires-clause-left_fits : goal.paramodulate_instances-requires-clause-left_fits
paramodulate_instances-requires-clause-left_fits c = has_as c.args.log.now.env.sig (signs_of c.args.symbols.now) _ _ _ _ (left_is _ c.in_ok-unifier.unifier.binds _ (paramodulated c.args.p.now c.args.q.now c.in_ok-unifier.unifier.binds c.args.i c.args.j (literal_replaced c.args.path.now (put_in c.args.swapped c.requires.rule.1.a c.requires.rule.1.b) c.requires.rule.1.into)) c.as_slice-binds.ensures (c.as_slice-2.ensures ∙ c.in_ok-seen.ensures c.at-2.result.now c.at-2.ensures ∙ paramodulated_as c.args.p.now c.args.q.now c.in_ok-unifier.unifier.binds c.args.i c.args.j c.args.path.now _ _ _ _ _ _ c.as_slice-binds.ensures c.in_ok-apart.ensures (c.put_in_side.ensures c.requires.rule.1.a c.requires.rule.1.b (para_equation c.args.p.now c.args.q.now c.args.i c.args.swapped c.args.j c.args.path.now c.requires.rule.0 c.requires.rule.1 c.at.result.now c.at-2.result.now c.at.ensures (ap (λ ls. slice_get ls c.args.j) (sym c.in_ok-apart.ensures) ∙ c.at-2.ensures))) (para_into c.args.p.now c.args.q.now c.args.i c.args.swapped c.args.j c.args.path.now c.requires.rule.0 c.requires.rule.1 c.at.result.now c.at-2.result.now c.at.ensures (ap (λ ls. slice_get ls c.args.j) (sym c.in_ok-apart.ensures) ∙ c.at-2.ensures)))) c.as_slice-3.ensures (para_left c.args.log.now.env.sig (signs_of c.args.symbols.now) c.requires.symbols c.args.p.now c.args.q.now c.requires.left_tagged c.requires.right_tagged c.args.i c.args.swapped c.args.j c.args.path.now c.requires.rule.0 c.in_ok-unifier.unifier.binds c.requires.rule.1 (unifier_as _ (sought c.args.swapped c.requires.rule.1.a c.requires.rule.1.b) c.requires.rule.1.u c.in_ok-unifier.unifier.binds (c.sought_side.ensures c.requires.rule.1.a c.requires.rule.1.b (para_equation c.args.p.now c.args.q.now c.args.i c.args.swapped c.args.j c.args.path.now c.requires.rule.0 c.requires.rule.1 c.at.result.now c.at-2.result.now c.at.ensures (ap (λ ls. slice_get ls c.args.j) (sym c.in_ok-apart.ensures) ∙ c.at-2.ensures))) (c.in_ok-unifier.ensures c.requires.rule.1.u (para_at c.args.p.now c.args.q.now c.args.i c.args.swapped c.args.j c.args.path.now c.requires.rule.0 c.requires.rule.1 c.at.result.now c.at-2.result.now c.at.ensures (ap (λ ls. slice_get ls c.args.j) (sym c.in_ok-apart.ensures) ∙ c.at-2.ensures)))))

pub paramodulate_instances-requires-clause-right_fits : goal.paramodulate_instances-requires-clause-right_fits
paramodulate_instances-requires-clause-right_fits c = has_as c.args.log.now.env.sig (signs_of c.args.symbols.now) _ _ _ _ (right_is c.args.p.now _ _ c.in_ok-unifier.unifier.binds _ (paramodulated c.args.p.now c.args.q.now c.in_ok-unifier.unifier.binds c.args.i c.args.j (literal_replaced c.args.path.now (put_in c.args.swapped c.requires.rule.1.a c.requires.rule.1.b) c.requires.rule.1.into)) (c.in_ok-by.ensures ∙ ap (λ ls. above_all (clause_variables ls)) c.as_slice.ensures) c.as_slice-binds.ensures (c.as_slice-4.ensures ∙ c.in_ok-seen.ensures c.at-2.result.now c.at-2.ensures ∙ paramodulated_as c.args.p.now c.args.q.now c.in_ok-unifier.unifier.binds c.args.i c.args.j c.args.path.now _ _ _ _ _ _ c.as_slice-binds.ensures c.in_ok-apart.ensures (c.put_in_side.ensures c.requires.rule.1.a c.requires.rule.1.b (para_equation c.args.p.now c.args.q.now c.args.i c.args.swapped c.args.j c.args.path.now c.requires.rule.0 c.requires.rule.1 c.at.result.now c.at-2.result.now c.at.ensures (ap (λ ls. slice_get ls c.args.j) (sym c.in_ok-apart.ensures) ∙ c.at-2.ensures))) (para_into c.args.p.now c.args.q.now c.args.i c.args.swapped c.args.j c.args.path.now c.requires.rule.0 c.requires.rule.1 c.at.result.now c.at-2.result.now c.at.ensures (ap (λ ls. slice_get ls c.args.j) (sym c.in_ok-apart.ensures) ∙ c.at-2.ensures)))) c.as_slice-5.ensures (para_right c.args.log.now.env.sig (signs_of c.args.symbols.now) c.requires.symbols c.args.p.now c.args.q.now c.requires.left_tagged c.requires.right_tagged c.args.i c.args.swapped c.args.j c.args.path.now c.requires.rule.0 c.in_ok-unifier.unifier.binds c.requires.rule.1 (unifier_as _ (sought c.args.swapped c.requires.rule.1.a c.requires.rule.1.b) c.requires.rule.1.u c.in_ok-unifier.unifier.binds (c.sought_side.ensures c.requires.rule.1.a c.requires.rule.1.b (para_equation c.args.p.now c.args.q.now c.args.i c.args.swapped c.args.j c.args.path.now c.requires.rule.0 c.requires.rule.1 c.at.result.now c.at-2.result.now c.at.ensures (ap (λ ls. slice_get ls c.args.j) (sym c.in_ok-apart.ensures) ∙ c.at-2.ensures))) (c.in_ok-unifier.ensures c.requires.rule.1.u (para_at c.args.p.now c.args.q.now c.args.i c.args.swapped c.args.j c.args.path.now c.requires.rule.0 c.requires.rule.1 c.at.result.now c.at-2.result.now c.at.ensures (ap (λ ls. slice_get ls c.args.j) (sym c.in_ok-apart.ensures) ∙ c.at-2.ensures)))))

pub paramodulate_instances-requires-clause-left : goal.paramodulate_instances-requires-clause-left
paramodulate_instances-requires-clause-left c = c.requires.left

pub paramodulate_instances-requires-clause-right : goal.paramodulate_instances-requires-clause-right
paramodulate_instances-requires-clause-right c = c.requires.right

pub paramodulate_instances-requires-clause-left_false : goal.paramodulate_instances-requires-clause-left_false
paramodulate_instances-requires-clause-left_false c = c.requires.left_false

pub paramodulate_instances-requires-clause-right_false : goal.paramodulate_instances-requires-clause-right_false
paramodulate_instances-requires-clause-right_false c = c.requires.right_false

pub paramodulate_instances-requires-clause-rewrites : goal.paramodulate_instances-requires-clause-rewrites
paramodulate_instances-requires-clause-rewrites c = para_rewrites_as c.args.log.now.env.sig (signs_of c.args.symbols.now) c.requires.symbols c.args.p.now c.args.q.now c.requires.left_tagged c.requires.right_tagged c.args.i c.args.swapped c.args.j c.args.path.now c.requires.rule.0 c.in_ok-unifier.unifier.binds c.requires.rule.1 (unifier_as _ (sought c.args.swapped c.requires.rule.1.a c.requires.rule.1.b) c.requires.rule.1.u c.in_ok-unifier.unifier.binds (c.sought_side.ensures c.requires.rule.1.a c.requires.rule.1.b (para_equation c.args.p.now c.args.q.now c.args.i c.args.swapped c.args.j c.args.path.now c.requires.rule.0 c.requires.rule.1 c.at.result.now c.at-2.result.now c.at.ensures (ap (λ ls. slice_get ls c.args.j) (sym c.in_ok-apart.ensures) ∙ c.at-2.ensures))) (c.in_ok-unifier.ensures c.requires.rule.1.u (para_at c.args.p.now c.args.q.now c.args.i c.args.swapped c.args.j c.args.path.now c.requires.rule.0 c.requires.rule.1 c.at.result.now c.at-2.result.now c.at.ensures (ap (λ ls. slice_get ls c.args.j) (sym c.in_ok-apart.ensures) ∙ c.at-2.ensures)))) _ _ _ _ _ (left_is _ c.in_ok-unifier.unifier.binds _ (paramodulated c.args.p.now c.args.q.now c.in_ok-unifier.unifier.binds c.args.i c.args.j (literal_replaced c.args.path.now (put_in c.args.swapped c.requires.rule.1.a c.requires.rule.1.b) c.requires.rule.1.into)) c.as_slice-binds.ensures (c.as_slice-2.ensures ∙ c.in_ok-seen.ensures c.at-2.result.now c.at-2.ensures ∙ paramodulated_as c.args.p.now c.args.q.now c.in_ok-unifier.unifier.binds c.args.i c.args.j c.args.path.now _ _ _ _ _ _ c.as_slice-binds.ensures c.in_ok-apart.ensures (c.put_in_side.ensures c.requires.rule.1.a c.requires.rule.1.b (para_equation c.args.p.now c.args.q.now c.args.i c.args.swapped c.args.j c.args.path.now c.requires.rule.0 c.requires.rule.1 c.at.result.now c.at-2.result.now c.at.ensures (ap (λ ls. slice_get ls c.args.j) (sym c.in_ok-apart.ensures) ∙ c.at-2.ensures))) (para_into c.args.p.now c.args.q.now c.args.i c.args.swapped c.args.j c.args.path.now c.requires.rule.0 c.requires.rule.1 c.at.result.now c.at-2.result.now c.at.ensures (ap (λ ls. slice_get ls c.args.j) (sym c.in_ok-apart.ensures) ∙ c.at-2.ensures)))) c.as_slice-3.ensures (right_is c.args.p.now _ _ c.in_ok-unifier.unifier.binds _ (paramodulated c.args.p.now c.args.q.now c.in_ok-unifier.unifier.binds c.args.i c.args.j (literal_replaced c.args.path.now (put_in c.args.swapped c.requires.rule.1.a c.requires.rule.1.b) c.requires.rule.1.into)) (c.in_ok-by.ensures ∙ ap (λ ls. above_all (clause_variables ls)) c.as_slice.ensures) c.as_slice-binds.ensures (c.as_slice-4.ensures ∙ c.in_ok-seen.ensures c.at-2.result.now c.at-2.ensures ∙ paramodulated_as c.args.p.now c.args.q.now c.in_ok-unifier.unifier.binds c.args.i c.args.j c.args.path.now _ _ _ _ _ _ c.as_slice-binds.ensures c.in_ok-apart.ensures (c.put_in_side.ensures c.requires.rule.1.a c.requires.rule.1.b (para_equation c.args.p.now c.args.q.now c.args.i c.args.swapped c.args.j c.args.path.now c.requires.rule.0 c.requires.rule.1 c.at.result.now c.at-2.result.now c.at.ensures (ap (λ ls. slice_get ls c.args.j) (sym c.in_ok-apart.ensures) ∙ c.at-2.ensures))) (para_into c.args.p.now c.args.q.now c.args.i c.args.swapped c.args.j c.args.path.now c.requires.rule.0 c.requires.rule.1 c.at.result.now c.at-2.result.now c.at.ensures (ap (λ ls. slice_get ls c.args.j) (sym c.in_ok-apart.ensures) ∙ c.at-2.ensures)))) c.as_slice-5.ensures (c.in_ok-places.ensures ∙ ap (λ l. map direction (formula_path l.atom c.args.path.now)) (para_into c.args.p.now c.args.q.now c.args.i c.args.swapped c.args.j c.args.path.now c.requires.rule.0 c.requires.rule.1 c.at.result.now c.at-2.result.now c.at.ensures (ap (λ ls. slice_get ls c.args.j) (sym c.in_ok-apart.ensures) ∙ c.at-2.ensures)))

pub returns-clause-kept : goal.returns-clause-kept
returns-clause-kept c = c.paramodulate_instances.ensures.kept

pub returns-clause-facts : goal.returns-clause-facts
returns-clause-facts c = c.paramodulate_instances.ensures.facts

pub returns-clause-gives : goal.returns-clause-gives
returns-clause-gives c = if_ok_map c.paramodulate_instances.result _ _ (λ r f d rule. (para_joins c.args.log.now.env.sig (signs_of c.args.symbols.now) c.requires.symbols c.args.p.now c.args.q.now c.requires.left_tagged c.requires.right_tagged c.args.i c.args.swapped c.args.j c.args.path.now d c.in_ok-unifier.unifier.binds rule (unifier_as _ (sought c.args.swapped rule.a rule.b) rule.u c.in_ok-unifier.unifier.binds (c.sought_side.ensures rule.a rule.b (para_equation c.args.p.now c.args.q.now c.args.i c.args.swapped c.args.j c.args.path.now d rule c.at.result.now c.at-2.result.now c.at.ensures (ap (λ ls. slice_get ls c.args.j) (sym c.in_ok-apart.ensures) ∙ c.at-2.ensures))) (c.in_ok-unifier.ensures rule.u (para_at c.args.p.now c.args.q.now c.args.i c.args.swapped c.args.j c.args.path.now d rule c.at.result.now c.at-2.result.now c.at.ensures (ap (λ ls. slice_get ls c.args.j) (sym c.in_ok-apart.ensures) ∙ c.at-2.ensures)))) c.args.log.now c.paramodulate_instances.new.log c.args.left.0 c.args.right.0 r.0 _ _ _ _ _ (left_is _ c.in_ok-unifier.unifier.binds _ (paramodulated c.args.p.now c.args.q.now c.in_ok-unifier.unifier.binds c.args.i c.args.j (literal_replaced c.args.path.now (put_in c.args.swapped rule.a rule.b) rule.into)) c.as_slice-binds.ensures (c.as_slice-2.ensures ∙ c.in_ok-seen.ensures c.at-2.result.now c.at-2.ensures ∙ paramodulated_as c.args.p.now c.args.q.now c.in_ok-unifier.unifier.binds c.args.i c.args.j c.args.path.now _ _ _ _ _ _ c.as_slice-binds.ensures c.in_ok-apart.ensures (c.put_in_side.ensures rule.a rule.b (para_equation c.args.p.now c.args.q.now c.args.i c.args.swapped c.args.j c.args.path.now d rule c.at.result.now c.at-2.result.now c.at.ensures (ap (λ ls. slice_get ls c.args.j) (sym c.in_ok-apart.ensures) ∙ c.at-2.ensures))) (para_into c.args.p.now c.args.q.now c.args.i c.args.swapped c.args.j c.args.path.now d rule c.at.result.now c.at-2.result.now c.at.ensures (ap (λ ls. slice_get ls c.args.j) (sym c.in_ok-apart.ensures) ∙ c.at-2.ensures)))) c.as_slice-3.ensures (right_is c.args.p.now _ _ c.in_ok-unifier.unifier.binds _ (paramodulated c.args.p.now c.args.q.now c.in_ok-unifier.unifier.binds c.args.i c.args.j (literal_replaced c.args.path.now (put_in c.args.swapped rule.a rule.b) rule.into)) (c.in_ok-by.ensures ∙ ap (λ ls. above_all (clause_variables ls)) c.as_slice.ensures) c.as_slice-binds.ensures (c.as_slice-4.ensures ∙ c.in_ok-seen.ensures c.at-2.result.now c.at-2.ensures ∙ paramodulated_as c.args.p.now c.args.q.now c.in_ok-unifier.unifier.binds c.args.i c.args.j c.args.path.now _ _ _ _ _ _ c.as_slice-binds.ensures c.in_ok-apart.ensures (c.put_in_side.ensures rule.a rule.b (para_equation c.args.p.now c.args.q.now c.args.i c.args.swapped c.args.j c.args.path.now d rule c.at.result.now c.at-2.result.now c.at.ensures (ap (λ ls. slice_get ls c.args.j) (sym c.in_ok-apart.ensures) ∙ c.at-2.ensures))) (para_into c.args.p.now c.args.q.now c.args.i c.args.swapped c.args.j c.args.path.now d rule c.at.result.now c.at-2.result.now c.at.ensures (ap (λ ls. slice_get ls c.args.j) (sym c.in_ok-apart.ensures) ∙ c.at-2.ensures)))) c.as_slice-5.ensures (c.in_ok-places.ensures ∙ ap (λ l. map direction (formula_path l.atom c.args.path.now)) (para_into c.args.p.now c.args.q.now c.args.i c.args.swapped c.args.j c.args.path.now d rule c.at.result.now c.at-2.result.now c.at.ensures (ap (λ ls. slice_get ls c.args.j) (sym c.in_ok-apart.ensures) ∙ c.at-2.ensures))) f, para_tagged c.args.log.now.env.sig (signs_of c.args.symbols.now) c.requires.symbols c.args.p.now c.args.q.now c.requires.left_tagged c.requires.right_tagged c.args.i c.args.swapped c.args.j c.args.path.now d c.in_ok-unifier.unifier.binds rule (unifier_as _ (sought c.args.swapped rule.a rule.b) rule.u c.in_ok-unifier.unifier.binds (c.sought_side.ensures rule.a rule.b (para_equation c.args.p.now c.args.q.now c.args.i c.args.swapped c.args.j c.args.path.now d rule c.at.result.now c.at-2.result.now c.at.ensures (ap (λ ls. slice_get ls c.args.j) (sym c.in_ok-apart.ensures) ∙ c.at-2.ensures))) (c.in_ok-unifier.ensures rule.u (para_at c.args.p.now c.args.q.now c.args.i c.args.swapped c.args.j c.args.path.now d rule c.at.result.now c.at-2.result.now c.at.ensures (ap (λ ls. slice_get ls c.args.j) (sym c.in_ok-apart.ensures) ∙ c.at-2.ensures)))))) c.paramodulate_instances.ensures.gives
