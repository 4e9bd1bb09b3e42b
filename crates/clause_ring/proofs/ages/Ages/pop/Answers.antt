use Rattle.std.proofs.Common.{◌≡◌, ℕ, ◌+◌, ◌∷◌, true, List, sym, ap, ◌∙◌}
use Rattle.std.specs.Prelude.{if◌then◌else◌, ◌==◌, ◌&&◌}
use Rattle.clause_ring.specs.declared.ages.Aged.{Aged}
use Rattle.clause_ring.specs.inner.Ages.{Line, Leaves, waiting, places}
use Rattle.clause_ring.proofs.ages.Ages.pop.Goals as goal

-- the first entry waits, so it is the oldest that does
leaves : (before : Line) (gone : ℕ) (first : Aged) (aged rest : List Aged) → first.waits ≡ true → aged ≡ first ∷ rest → waiting aged ≡ waiting before.aged
    → ((w : ℕ) → places w gone aged ≡ places w before.gone before.aged) → Leaves before first.entry (record { gone = gone + 1; aged = rest })
leaves before gone first aged rest is held same at = record {
  waiting_is = sym same ∙ ap waiting held ∙ ap (λ b. if b then first.entry ∷ waiting rest else waiting rest) is;
  place = gone;
  places_are = λ w. sym (at w) ∙ ap (places w gone) held ∙ ap (λ b. if b && (first.entry.weight == w) then gone ∷ places w (gone + 1) rest else places w (gone + 1) rest) is;
}

pub returns-then-aged : goal.returns-then-aged
returns-then-aged c = leaves c.args.self.now c.picked.self-inside.gone c.in-Some.aged _ c.pop_front.new.self.items c.if-aged.true c.in-Some.ensures.items c.picked.invariant.waiting_is c.picked.invariant.places_are
