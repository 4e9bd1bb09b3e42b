use Rattle.std.proofs.Common.{ap, ◌∙◌}
use Rattle.hol_terms.specs.declared.env.Env.{Env}
use Rattle.hyp_sets.proofs.Answered.{if_ok_map}
use Rattle.fol_encode.specs.Occurring.{signs_for}
use Rattle.tagged_terms.specs.Readings.{signs_of}
use Rattle.goal_search.specs.Encoded.{atoms}
use Rattle.goal_proofs.proofs.Lifted.{made_signs, made_inputs, made_refutes, made_over, lifted_refutes}
use Rattle.goal_proofs.proofs.refuting.refuted.Goals as goal

pub lift-requires-clause-symbols : goal.lift-requires-clause-symbols
lift-requires-clause-symbols c =
    made_signs c.args.log.now c.args.sourced.now c.requires.sourced c.in_ok-signs.field-0.signs.signs c.as_slice.result.now c.in_ok-signs.field-0.clauses (c.in_ok-signs.ensures.signs ∙ ap (λ (e : Env). signs_for e.sig c.args.sourced.now.listing.table (atoms c.args.sourced.now.listing.clauses)) c.env.ensures) (c.as_slice.ensures ∙ c.in_ok-signs.ensures.symbols) c.in_ok-signs.ensures.clauses

pub lift-requires-clause-inputs : goal.lift-requires-clause-inputs
lift-requires-clause-inputs c =
    made_inputs c.args.log.now c.args.sourced.now c.requires.sourced c.in_ok-signs.field-0.signs.signs c.as_slice.result.now c.in_ok-signs.field-0.clauses (c.in_ok-signs.ensures.signs ∙ ap (λ (e : Env). signs_for e.sig c.args.sourced.now.listing.table (atoms c.args.sourced.now.listing.clauses)) c.env.ensures) (c.as_slice.ensures ∙ c.in_ok-signs.ensures.symbols) c.in_ok-signs.ensures.clauses

pub lift-requires-clause-refutes : goal.lift-requires-clause-refutes
lift-requires-clause-refutes c =
    made_refutes c.args.log.now c.args.sourced.now c.requires.sourced c.in_ok-signs.field-0.signs.signs c.as_slice.result.now c.in_ok-signs.field-0.clauses (c.in_ok-signs.ensures.signs ∙ ap (λ (e : Env). signs_for e.sig c.args.sourced.now.listing.table (atoms c.args.sourced.now.listing.clauses)) c.env.ensures) (c.as_slice.ensures ∙ c.in_ok-signs.ensures.symbols) c.in_ok-signs.ensures.clauses
    c.args.r.now.lines c.requires.refutes

pub returns-clause-gives : goal.returns-clause-gives
returns-clause-gives c =
    if_ok_map c.lift.result _ _
    (λ t h. lifted_refutes c.args.log.now c.lift.new.log (signs_of c.as_slice.result.now) c.in_ok-signs.field-0.clauses c.args.sourced.now.thms t.0 c.lift.ensures.kept
    (made_over c.args.log.now c.args.sourced.now c.requires.sourced c.in_ok-signs.field-0.signs.signs c.as_slice.result.now c.in_ok-signs.field-0.clauses (c.in_ok-signs.ensures.signs ∙ ap (λ (e : Env). signs_for e.sig c.args.sourced.now.listing.table (atoms c.args.sourced.now.listing.clauses)) c.env.ensures) (c.as_slice.ensures ∙ c.in_ok-signs.ensures.symbols) c.in_ok-signs.ensures.clauses) h)
    c.lift.ensures.gives
