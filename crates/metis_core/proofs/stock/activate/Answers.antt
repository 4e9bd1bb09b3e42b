use Rattle.std.proofs.Common.{refl, subst, sym, ◌<◌, ◌∙◌, length, All, not, ◌==◌}
use Rattle.std.proofs.lemmas.List.Elements.{All-contains, All-filter}
use Rattle.clause_ring.specs.declared.entry.Entry.{Entry}
use Rattle.metis_core.proofs.Telling.{picked_held}
use Rattle.metis_core.proofs.stock.activate.Goals as goal

pub put_active-requires-clause-sound : goal.put_active-requires-clause-sound
put_active-requires-clause-sound c =
    let old = c.args.stock.now in
    let e = c.in-Some.entry in
    record {
      index = c.requires.sound.index;
      active = c.requires.sound.active;
      waiting = subst (All (λ d. d.number < length old.lines)) (sym c.in-Some.ensures.1)
          (All-filter (λ (d : Entry). not (d.number == e.number)) (λ d. d.number < length old.lines) old.waiting c.requires.sound.waiting);
      parted = c.requires.sound.parted;
      marks = c.requires.sound.marks;
      ready = c.requires.sound.ready;
      reach = c.requires.sound.reach;
      raised = c.requires.sound.raised;
      few = c.requires.sound.few;
    }

pub put_active-requires-clause-within : goal.put_active-requires-clause-within
put_active-requires-clause-within c =
    let old = c.args.stock.now in
    let e = c.in-Some.entry in
    All-contains (λ d. d.number < length old.lines) old.waiting e c.requires.sound.waiting (picked_held c.args.oldest old.waiting e c.in-Some.ensures.0)

pub returns : goal.returns
returns c = record {
  entry = c.in-Some.entry;
  picked = c.in-Some.ensures.0;
  is = refl;
  waiting = c.in_ok-put_active-in-Some.ensures.waiting ∙ c.in-Some.ensures.1;
  active = c.in_ok-put_active-in-Some.ensures.active;
  lines = c.in_ok-put_active-in-Some.ensures.lines;
  positions = c.in_ok-put_active-in-Some.ensures.positions;
  sound = c.in_ok-put_active-in-Some.ensures.sound;
}
