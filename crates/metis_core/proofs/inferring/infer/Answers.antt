use Rattle.std.proofs.Common.{◌≡◌, ◌∷◌, [], map, All, subst, sym, ap, ◌∙◌, refl, arith, Err}
use Rattle.std.specs.Vec.Iter.{into_iter_items}
use Rattle.std.proofs.lemmas.Result.{err_from_is_err_and}
use Rattle.std.proofs.lemmas.List.{nil_from_length}
use Rattle.std.proofs.lemmas.List.Elements.{All-head, All-tail}
use Rattle.fo_infer.specs.declared.refutation.Line.{Line}
use Rattle.fo_infer.specs.Lines.{Follows}
use Rattle.metis_core.specs.Offer.{Offer, Through, on, over, done}
use Rattle.metis_core.specs.Search.{position_of, Inferred}
use Rattle.metis_core.specs.Stock.{clauses}
use Rattle.metis_core.specs.Held.{state_of, origin_of}
use Rattle.metis_core.proofs.Following.{listed_follow}
use Rattle.metis_core.proofs.Lightened.{flat_clause, lightened_all, through_lightened}
use Rattle.metis_core.proofs.Telling.{told_at, ends_at, told_more, goes_on, is_over, follow_added, ends_added, grows_added, ahead_added}
use Rattle.metis_core.proofs.inferring.infer.Goals as goal
use Rattle.metis_core.proofs.inferring.infer.Goals.{In-Some, After-into_iter-m-iterator}

pub loop-m-init : goal.loop-m-init
loop-m-init c = record {
  running = c.requires.running;
  active = refl;
  grows = omega arith;
  ahead = let gives = c.into_iter-m-iterator.ensures.into_iter_gives in
      let items : into_iter_items c.into_iter-m-iterator.result ≡ c.in_ok-made.made = gives.0 ∙ c.into_vec-m-items.ensures in
      subst (All (λ m. Follows (position_of c.args.given.now.positions) c.args.given.now.inputs (clauses c.args.stock.now.lines) (origin_of c.args.premises m.rule) (record { literals = m.clause }))) (sym items)
      (lightened_all (λ m. Follows (position_of c.args.given.now.positions) c.args.given.now.inputs (clauses c.args.stock.now.lines) (origin_of c.args.premises m.rule) m.clause) c.in_ok-made.made c.in_ok-made.ensures.0 c.in_ok-made.ensures.2
      (listed_follow c.args.given.now.positions (state_of c.args.stock.now) c.args.given.now.inputs c.args.premises c.in_ok-made.ensures.0 c.in_ok-made.ensures.1));
  whole = λ out h. h;
}

-- what is gone through is the whole list
all_items : (c : After-into_iter-m-iterator) → map flat_clause (into_iter_items c.into_iter-m-iterator.result) ≡ map flat_clause c.in_ok-made.made
all_items c = ap (map flat_clause) (c.into_iter-m-iterator.ensures.into_iter_gives.0 ∙ c.into_vec-m-items.ensures)

-- the offered inference follows
follows_now : (c : In-Some) → Follows (position_of c.args.given.now.positions) c.args.given.now.inputs (clauses c.loop-m.stock.lines) (origin_of c.args.premises c.in-Some.m.rule) (record { literals = c.in-Some.m.clause })
follows_now c =
    All-head (λ m. Follows (position_of c.args.given.now.positions) c.args.given.now.inputs (clauses c.loop-m.stock.lines) (origin_of c.args.premises m.rule) (record { literals = m.clause })) c.in-Some.m (into_iter_items c.next.new.self)
    (subst (All (λ m. Follows (position_of c.args.given.now.positions) c.args.given.now.inputs (clauses c.loop-m.stock.lines) (origin_of c.args.premises m.rule) (record { literals = m.clause }))) c.in-Some.ensures.steps.0 c.loop-m.invariant.ahead)

items_now : (c : In-Some) → map flat_clause (into_iter_items c.loop-m.m-iterator) ≡ record { literals = c.in-Some.m.clause } ∷ map flat_clause (into_iter_items c.next.new.self)
items_now c = ap (map flat_clause) c.in-Some.ensures.steps.0

pub loop-m-preserved : goal.loop-m-preserved
loop-m-preserved c =
    let given = c.args.given.now in
    let line : Line = record { clause = record { literals = c.in-Some.m.clause }; origin = c.origin.result } in
    let old = c.loop-m.stock.lines in
    let new = c.offer_flat.new.stock.lines in
    let rest = into_iter_items c.next.new.self in
    let here : Follows (position_of given.positions) given.inputs (clauses old) line.origin line.clause =
    subst (λ o. Follows (position_of given.positions) given.inputs (clauses old) o line.clause) (sym c.origin.ensures) (follows_now (goal.at.loop-m-preserved c).In-Some) in
    record {
      running = record {
        sound = c.in_ok-offer_flat.ensures.sound;
        follow = follow_added given old new line c.loop-m.invariant.running.follow here c.in_ok-offer_flat.ensures.line;
        same = c.in_ok-offer_flat.ensures.positions ∙ c.loop-m.invariant.running.same;
      };
      active = c.in_ok-offer_flat.ensures.active ∙ c.loop-m.invariant.active;
      grows = let more = grows_added old new line c.in_ok-offer_flat.ensures.line in omega (arith, c.loop-m.invariant.grows);
      ahead = ahead_added (position_of given.positions) given.inputs c.args.premises old new line rest c.in_ok-offer_flat.ensures.line
          (All-tail (λ m. Follows (position_of given.positions) given.inputs (clauses old) (origin_of c.args.premises m.rule) (record { literals = m.clause })) c.in-Some.m rest
          (subst (All (λ m. Follows (position_of given.positions) given.inputs (clauses old) (origin_of c.args.premises m.rule) (record { literals = m.clause }))) c.in-Some.ensures.steps.0 c.loop-m.invariant.ahead));
      whole = λ out later. c.loop-m.invariant.whole out
          (goes_on Offer (state_of c.loop-m.stock) (state_of c.offer_flat.new.stock) (map flat_clause (into_iter_items c.loop-m.m-iterator)) (map flat_clause rest) (record { literals = c.in-Some.m.clause })
          (items_now (goal.at.loop-m-preserved c).In-Some) c.in_ok-offer_flat.ensures.offered out later);
    }

pub returns-in_err-offer_flat-clause-inferred : goal.returns-in_err-offer_flat-clause-inferred
returns-in_err-offer_flat-clause-inferred c =
    let p = err_from_is_err_and c.from_residual-in_err-offer_flat.result c.from_residual-in_err-offer_flat.ensures.1 in
    let old = state_of c.loop-m.stock in
    let new = state_of c.offer_flat.new.stock in
    told_at c.from_residual-in_err-offer_flat.result c.in_err-offer_flat.field-0.0 new (Inferred c.args.given.now.positions (state_of c.args.stock.now) c.args.premises) (p.1 ∙ ap Err p.2)
    (told_more c.in_err-offer_flat.field-0.0 new (Offer old (record { literals = c.in-Some.m.clause })) (Inferred c.args.given.now.positions (state_of c.args.stock.now) c.args.premises)
    (λ e over_here. (
      c.in_ok-made.ensures.0,
      c.in_ok-made.ensures.1,
      through_lightened (state_of c.args.stock.now) c.in_ok-made.made c.in_ok-made.ensures.0 (over e new) c.in_ok-made.ensures.2
          (subst (λ l. Through Offer (state_of c.args.stock.now) l (over e new)) (all_items (goal.at.returns-in_err-offer_flat-clause-inferred c).After-into_iter-m-iterator)
          (c.loop-m.invariant.whole (over e new) (is_over Offer old new (map flat_clause (into_iter_items c.loop-m.m-iterator)) (map flat_clause (into_iter_items c.next.new.self)) (record { literals = c.in-Some.m.clause })
          (items_now (goal.at.returns-in_err-offer_flat-clause-inferred c).In-Some) e over_here))),
    ))
    c.in_err-offer_flat.ensures.offered)

pub returns-in_err-offer_flat-clause-ends : goal.returns-in_err-offer_flat-clause-ends
returns-in_err-offer_flat-clause-ends c =
    let p = err_from_is_err_and c.from_residual-in_err-offer_flat.result c.from_residual-in_err-offer_flat.ensures.1 in
    let line : Line = record { clause = record { literals = c.in-Some.m.clause }; origin = c.origin.result } in
    let given = c.args.given.now in
    let here : Follows (position_of given.positions) given.inputs (clauses c.loop-m.stock.lines) line.origin line.clause =
    subst (λ o. Follows (position_of given.positions) given.inputs (clauses c.loop-m.stock.lines) o line.clause) (sym c.origin.ensures) (follows_now (goal.at.returns-in_err-offer_flat-clause-ends c).In-Some) in
    ends_at given c.from_residual-in_err-offer_flat.result c.in_err-offer_flat.field-0.0 c.offer_flat.new.stock.lines (p.1 ∙ ap Err p.2)
    (ends_added given c.loop-m.stock.lines c.offer_flat.new.stock.lines line c.loop-m.invariant.running.follow here c.in_err-offer_flat.field-0.0 c.in_err-offer_flat.ensures.line)

pub returns-clause-inferred : goal.returns-clause-inferred
returns-clause-inferred c =
    let none : into_iter_items c.loop-m.m-iterator ≡ [] = nil_from_length (into_iter_items c.loop-m.m-iterator) (omega (arith, c.in-None.ensures.steps.0, c.loop-m.m-iterator.rest.ok.0)) in (
      c.in_ok-made.ensures.0,
      c.in_ok-made.ensures.1,
      through_lightened (state_of c.args.stock.now) c.in_ok-made.made c.in_ok-made.ensures.0 (on (state_of c.loop-m.stock)) c.in_ok-made.ensures.2
          (subst (λ l. Through Offer (state_of c.args.stock.now) l (on (state_of c.loop-m.stock))) (all_items (goal.at.returns-clause-inferred c).After-into_iter-m-iterator)
          (c.loop-m.invariant.whole (on (state_of c.loop-m.stock)) (subst (λ l. Through Offer (state_of c.loop-m.stock) (map flat_clause l) (on (state_of c.loop-m.stock))) (sym none) done))),
    )
