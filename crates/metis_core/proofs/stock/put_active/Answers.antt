use Rattle.std.proofs.Common.{◌≡◌, ◌∷◌, [], ◌++◌, ◌<◌, Option, None, Some, List, subst, sym, length, All}
use Rattle.std.specs.Prelude.{MatchOption}
use Rattle.std.proofs.lemmas.List.Elements.{All-push}
use Rattle.fo_terms.specs.declared.clause.Clause.{Clause}
use Rattle.fo_terms.specs.declared.literal.Literal.{Literal}
use Rattle.fo_terms.specs.Weight.{clause_size}
use Rattle.cover_marks.specs.Marks.{clause_marks}
use Rattle.metis_core.specs.Stock.{AreMarks, AreReady, IsReady}
use Rattle.metis_core.specs.Units.{AreParted}
use Rattle.metis_core.proofs.Indexes.{clause_at}
use Rattle.metis_core.proofs.Marks.{beside_push}
use Rattle.metis_core.proofs.Reach.{reach_pushed}
use Rattle.metis_core.proofs.Parted.{parted_unit, parted_rest, made_unit}
use Rattle.metis_core.proofs.stock.put_active.Goals as goal

prepared : (made : Option (List Literal)) (c : Clause) (P : Type 0) → MatchOption made P (λ ls. ls ≡ c.literals) → IsReady c made
prepared None c P h = tt
prepared (Some ls) c P h = h

pub put_unit-requires : goal.put_unit-requires
put_unit-requires c = let made = made_unit c.in_ok-unit.field-0 c.in-Some.unit c.at.result.now.clause.literals c.in-Some.is c.in_ok-unit.ensures in (made.0, made.1)

pub returns-in_ok-put_unit-in-Some-clause-sound : goal.returns-in_ok-put_unit-in-Some-clause-sound
returns-in_ok-put_unit-in-Some-clause-sound c =
    let old = c.args.stock.now in
    let n = c.args.number in
    let made = made_unit c.in_ok-unit.field-0 c.in-Some.unit c.at.result.now.clause.literals c.in-Some.is c.in_ok-unit.ensures in
    record {
      index = c.requires.sound.index;
      active = subst (All (λ k. k < length old.lines)) (sym c.in_ok-push.ensures.ok) (All-push (λ k. k < length old.lines) old.active n c.requires.sound.active c.requires.within);
      waiting = c.requires.sound.waiting;
      parted = subst (λ a. AreParted old.lines a old.rest c.put_unit.new.units) (sym c.in_ok-push.ensures.ok)
          (parted_unit old.lines old.active old.rest old.units n c.requires.sound.parted c.put_unit.new.units c.at.result.now.clause made.0
          (clause_at old.lines n c.at.result.now c.at.ensures) made.2
          c.in_ok-put_unit-in-Some.ensures.keeps
          (λ m. c.in_ok-put_unit-in-Some.ensures.adds made.0 m made.1)
          (c.in_ok-put_unit-in-Some.ensures.held made.0 made.1));
      marks = c.requires.sound.marks;
      ready = c.requires.sound.ready;
      reach = reach_pushed old.positions old.lines old.active c.push.new.self old.reach c.push-2.new.self n c.in_ok-reach.reach c.at.result.now.clause c.is_plain.result
          c.in_ok-push.ensures.ok c.in_ok-push-2.ensures.ok (clause_at old.lines n c.at.result.now c.at.ensures) c.is_plain.ensures c.in_ok-reach.ensures c.requires.sound.reach;
      raised = c.requires.sound.raised;
      few = c.requires.sound.few;
    }

pub returns-in_ok-push-in-None-3-clause-sound : goal.returns-in_ok-push-in-None-3-clause-sound
returns-in_ok-push-in-None-3-clause-sound c =
    let old = c.args.stock.now in
    let n = c.args.number in
    record {
      index = c.requires.sound.index;
      active = subst (All (λ k. k < length old.lines)) (sym c.in_ok-push.ensures.ok) (All-push (λ k. k < length old.lines) old.active n c.requires.sound.active c.requires.within);
      waiting = c.requires.sound.waiting;
      parted = subst (λ a. AreParted old.lines a c.push-in-None-3.new.self old.units) (sym c.in_ok-push.ensures.ok)
          (subst (λ r. AreParted old.lines (old.active ++ n ∷ []) r old.units) (sym c.in_ok-push-in-None-3.ensures.ok)
          (parted_rest old.lines old.active old.rest old.units n c.requires.sound.parted));
      marks = subst (λ r. AreMarks old.lines r c.push-in-None.new.self) (sym c.in_ok-push-in-None-3.ensures.ok)
          (subst (AreMarks old.lines (old.rest ++ n ∷ [])) (sym c.in_ok-push-in-None.ensures.ok)
          (beside_push (λ p m. m ≡ clause_marks p) old.lines old.rest old.marks n c.in_ok-marks-in-None.marks c.at.result.now.clause (clause_at old.lines n c.at.result.now c.at.ensures) c.in_ok-marks-in-None.ensures c.requires.sound.marks));
      ready = subst (λ r. AreReady old.lines r c.push-in-None-2.new.self) (sym c.in_ok-push-in-None-3.ensures.ok)
          (subst (AreReady old.lines (old.rest ++ n ∷ [])) (sym c.in_ok-push-in-None-2.ensures.ok)
          (beside_push IsReady old.lines old.rest old.ready n c.in_ok-ready-in-None.ready c.at.result.now.clause (clause_at old.lines n c.at.result.now c.at.ensures)
          (prepared c.in_ok-ready-in-None.ready c.at.result.now.clause (65535 < clause_size c.at.result.now.clause) c.in_ok-ready-in-None.ensures) c.requires.sound.ready));
      reach = reach_pushed old.positions old.lines old.active c.push.new.self old.reach c.push-2.new.self n c.in_ok-reach.reach c.at.result.now.clause c.is_plain.result
          c.in_ok-push.ensures.ok c.in_ok-push-2.ensures.ok (clause_at old.lines n c.at.result.now c.at.ensures) c.is_plain.ensures c.in_ok-reach.ensures c.requires.sound.reach;
      raised = c.requires.sound.raised;
      few = c.requires.sound.few;
    }
