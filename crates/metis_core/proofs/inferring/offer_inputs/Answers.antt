use Rattle.std.proofs.Common.{◌≡◌, ◌+◌, ◌∷◌, drop, subst, sym, ap, ◌∙◌, arith, Err}
use Rattle.std.proofs.lemmas.List.{drop_all}
use Rattle.std.proofs.lemmas.Result.{err_from_is_err_and}
use Rattle.fo_infer.specs.declared.refutation.Line.{Line}
use Rattle.fo_infer.specs.declared.refutation.Origin.TheVariants.{Input}
use Rattle.metis_core.specs.Offer.{Offer, Through, on, done}
use Rattle.metis_core.specs.Search.{normal_forms, position_of}
use Rattle.metis_core.specs.Stock.{clauses}
use Rattle.metis_core.specs.Held.{state_of}
use Rattle.metis_core.proofs.Inputs.{next_form, input_follows}
use Rattle.metis_core.proofs.Telling.{exit, after, ends_at, ends_added, follow_added}
use Rattle.metis_core.proofs.inferring.offer_inputs.Goals as goal
use Rattle.metis_core.proofs.inferring.offer_inputs.Goals.{In_ok-clause}

form_at : (c : In_ok-clause) → normal_forms (drop c.loop-i.i c.args.given.now.inputs) ≡ c.in_ok-clause.clause ∷ normal_forms (drop (c.loop-i.i + 1) c.args.given.now.inputs)
form_at c = next_form c.args.given.now.inputs c.loop-i.i c.at.result.now c.in_ok-copy.field-0 c.in_ok-clause.clause c.at.ensures c.in_ok-copy.ensures c.in_ok-clause.ensures

pub returns-in_err-offer-clause-offered : goal.returns-in_err-offer-clause-offered
returns-in_err-offer-clause-offered c =
    let p = err_from_is_err_and c.from_residual-in_err-offer.result c.from_residual-in_err-offer.ensures.1 in
    let inputs = c.args.given.now.inputs in
    exit Offer (state_of c.args.stock.now) (state_of c.loop-i.stock) (state_of c.offer.new.stock) (normal_forms inputs) (normal_forms (drop c.loop-i.i inputs)) (normal_forms (drop (c.loop-i.i + 1) inputs)) c.in_ok-clause.clause
    c.loop-i.invariant.whole (form_at (goal.at.returns-in_err-offer-clause-offered c).In_ok-clause) c.from_residual-in_err-offer.result c.in_err-offer.field-0.0 (p.1 ∙ ap Err p.2) c.in_err-offer.ensures.offered

pub returns-in_err-offer-clause-ends : goal.returns-in_err-offer-clause-ends
returns-in_err-offer-clause-ends c =
    let p = err_from_is_err_and c.from_residual-in_err-offer.result c.from_residual-in_err-offer.ensures.1 in
    let given = c.args.given.now in
    let line : Line = record { clause = c.in_ok-clause.clause; origin = Input c.loop-i.i } in
    let here = input_follows given.inputs c.loop-i.i c.at.result.now c.in_ok-copy.field-0 c.in_ok-clause.clause c.at.ensures c.in_ok-copy.ensures c.in_ok-clause.ensures (position_of given.positions) (clauses c.loop-i.stock.lines) in
    ends_at given c.from_residual-in_err-offer.result c.in_err-offer.field-0.0 c.offer.new.stock.lines (p.1 ∙ ap Err p.2)
    (ends_added given c.loop-i.stock.lines c.offer.new.stock.lines line c.loop-i.invariant.running.follow here c.in_err-offer.field-0.0 c.in_err-offer.ensures.line)

pub loop-i-preserved : goal.loop-i-preserved
loop-i-preserved c =
    let given = c.args.given.now in
    let inputs = given.inputs in
    let line : Line = record { clause = c.in_ok-clause.clause; origin = Input c.loop-i.i } in
    let here = input_follows given.inputs c.loop-i.i c.at.result.now c.in_ok-copy.field-0 c.in_ok-clause.clause c.at.ensures c.in_ok-copy.ensures c.in_ok-clause.ensures (position_of given.positions) (clauses c.loop-i.stock.lines) in
    record {
      running = record {
        sound = c.in_ok-offer.ensures.sound;
        follow = follow_added given c.loop-i.stock.lines c.offer.new.stock.lines line c.loop-i.invariant.running.follow here c.in_ok-offer.ensures.line;
        same = c.in_ok-offer.ensures.positions ∙ c.loop-i.invariant.running.same;
      };
      idle = c.in_ok-offer.ensures.active ∙ c.loop-i.invariant.idle;
      whole = after Offer (state_of c.args.stock.now) (state_of c.loop-i.stock) (state_of c.offer.new.stock) (normal_forms inputs) (normal_forms (drop c.loop-i.i inputs)) (normal_forms (drop (c.loop-i.i + 1) inputs)) c.in_ok-clause.clause
          c.loop-i.invariant.whole (form_at (goal.at.loop-i-preserved c).In_ok-clause) c.in_ok-offer.ensures.offered;
    }

pub returns-clause-offered : goal.returns-clause-offered
returns-clause-offered c =
    let inputs = c.args.given.now.inputs in
    c.loop-i.invariant.whole (on (state_of c.loop-i.stock))
    (subst (λ l. Through Offer (state_of c.loop-i.stock) (normal_forms l) (on (state_of c.loop-i.stock))) (sym (drop_all c.loop-i.i inputs (omega (arith, c.len-i-end.ensures)))) done)
