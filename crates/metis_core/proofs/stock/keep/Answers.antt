use Rattle.std.proofs.Common.{◌≡◌, ◌∷◌, [], ◌++◌, ◌<◌, subst, sym, ap, ◌∙◌, arith, ◌+◌, length, All}
use Rattle.std.proofs.lemmas.List.{length_push}
use Rattle.metis_core.specs.Stock.{IsIndex, AreMarks, AreReady, IsReady, Notes}
use Rattle.cover_marks.specs.Marks.{clause_marks}
use Rattle.metis_core.specs.Print.{clause_print}
use Rattle.fo_infer.specs.declared.refutation.Line.{Line}
use Rattle.clause_ring.specs.declared.entry.Entry.{Entry}
use Rattle.metis_core.proofs.Marks.{beside_grow}
use Rattle.metis_core.proofs.Stocks.{index_grows, below_grows, entries_grow}
use Rattle.metis_core.specs.Units.{AreParted}
use Rattle.metis_core.specs.Reach.{AreReach}
use Rattle.metis_core.proofs.Raisings.{raised_grows}
use Rattle.metis_core.specs.Raised.{AreRaised}
use Rattle.metis_core.proofs.Reach.{reach_grows}
use Rattle.metis_core.proofs.Parted.{rest_below, parted_grows}
use Rattle.metis_core.proofs.stock.keep.Goals as goal

pub returns-clause-sound : goal.returns-clause-sound
returns-clause-sound c =
    let old = c.args.stock.now in
    let line : Line = record { clause = c.args.clause; origin = c.args.origin } in
    let more : length c.push-2.new.self ≡ length old.lines + 1 = ap length c.in_ok-push-2.ensures.ok ∙ length_push old.lines line in
    let noted : Notes old.places c.note.new.known (clause_print c.args.clause) (length old.lines) =
    subst (λ p. Notes old.places c.note.new.known p (length old.lines)) c.print_of.ensures (subst (λ n. Notes old.places c.note.new.known c.print_of.result n) c.len-number.ensures c.in_ok-note.ensures) in
    let entry : Entry = record { weight = c.weight-weight.result; number = c.len-number.result } in
    let below = rest_below old.lines old.active old.rest old.units (λ n. n < length old.lines) c.requires.sound.parted c.requires.sound.active in
    record {
      index = subst (IsIndex c.note.new.known) (sym c.in_ok-push-2.ensures.ok) (index_grows old.places c.note.new.known old.lines line noted c.requires.sound.index);
      active = below_grows old.active (length old.lines) (length c.push-2.new.self) (omega arith) c.requires.sound.active;
      waiting = subst (λ m. All (λ e. e.number < m) c.push.new.self) (sym more)
          (subst (All (λ e. e.number < length old.lines + 1)) (sym c.in_ok-push.ensures.ok) (entries_grow old.waiting entry (length old.lines) c.len-number.ensures c.requires.sound.waiting));
      parted = subst (λ ls. AreParted ls old.active old.rest old.units) (sym c.in_ok-push-2.ensures.ok) (parted_grows old.lines line old.active old.rest old.units c.requires.sound.active c.requires.sound.parted);
      marks = subst (λ ls. AreMarks ls old.rest old.marks) (sym c.in_ok-push-2.ensures.ok) (beside_grow (λ p m. m ≡ clause_marks p) old.lines line old.rest old.marks below c.requires.sound.marks);
      ready = subst (λ ls. AreReady ls old.rest old.ready) (sym c.in_ok-push-2.ensures.ok) (beside_grow IsReady old.lines line old.rest old.ready below c.requires.sound.ready);
      reach = subst (λ ls. AreReach old.positions ls old.active old.reach) (sym c.in_ok-push-2.ensures.ok)
          (reach_grows old.positions old.lines line old.active old.reach c.requires.sound.active c.requires.sound.reach);
      raised = subst (λ ls. AreRaised ls c.push_raised.new.all.items) (sym c.in_ok-push-2.ensures.ok)
          (subst (AreRaised (old.lines ++ line ∷ [])) (sym c.in_ok-push_raised.ensures) (raised_grows old.lines line old.raised.items c.in_ok-raised.raised c.in_ok-raised.ensures c.requires.sound.raised));
      few = omega (arith, c.requires.room);
    }
