use Rattle.std.proofs.Common.{inl, inr, ◌∙◌, ℕ, ap, sym, subst, length, Option}
use Rattle.race_core.specs.declared.race.Race.{Race}
use Rattle.race_board.specs.Ends.{AreRight}
use Rattle.race_run.proofs.Finishing.{passes, wins}
use Rattle.race_run.proofs.Losing.{begun-unlost, one-unlost}
use Rattle.race_run.proofs.whole.run_named.Goals as goal

pub returns-clause-passed : goal.returns-clause-passed
returns-clause-passed g c =
    passes _ _ c.finish-launcher.result.1 c.sweep-board.result.race c.finish-launcher.ensures.legal c.sweep-board.ensures.settled (ap (λ (r : Race). length r.slots) (sym c.race.ensures.race) ∙ c.race.ensures.slots)

pub returns-clause-first : goal.returns-clause-first
returns-clause-first g c = c.finish-launcher.ensures.winner ∙ wins _ _ c.finish-launcher.result.1 c.sweep-board.result.race c.finish-launcher.ensures.legal

pub returns-clause-right : goal.returns-clause-right
returns-clause-right g c =
    let P : Option ℕ → Type 0 = λ until. AreRight (g.W.Work.answers g.N.Name.terms.key) g.N.Name.terms until c.finish-launcher.result.2 c.finish-launcher.result.1 in
    subst P (ap (λ (r : Race). r.until) (sym c.race.ensures.race)) c.finish-launcher.ensures.right

pub returns-clause-unlost : goal.returns-clause-unlost
returns-clause-unlost g c alone =
    elim alone [
      | inl one ↦ one-unlost (g.W.Work.answers g.N.Name.terms.key) g.N.Name.terms c.sweep-board.result.race.until c.finish-launcher.result.2 c.finish-launcher.result.1 c.sweep-board.result.race one c.finish-launcher.ensures.legal c.finish-launcher.ensures.right
      | inr w ↦ rw c.finish-launcher.ensures.ends (c.sweep-board.ensures.unlost (rw (c.run_workers-board.ensures.alone w.0 w.1, c.in_ok-board.ensures.board.ends) (begun-unlost _ g.N.Name.terms.orders)))
    ]
