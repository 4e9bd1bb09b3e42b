use Rattle.std.proofs.Common.{sym, subst}
use Rattle.std.specs.Prelude.{MatchBool}
use Rattle.slot_work.specs.inner.Finding.{Finds}
use Rattle.slot_work.proofs.Finding.{search_tells}
use Rattle.slot_work.proofs.searches.finds.Goals as goal

pub returns-in-Ok : goal.returns-in-Ok
returns-in-Ok c =
    let f = Finds c.args.env.now c.args.budget c.args.facts.now in
    subst (λ b. MatchBool b f (f → ⊥)) (sym c.found.ensures) (search_tells c.args.env.now c.args.facts.now c.args.budget c.in-Ok.ensures.0 c.in-Ok.ended c.in-Ok.ensures.1)
