use Rattle.std.proofs.Common.{ap, sym, ◌∙◌, arith, ◌++◌, ◌∷◌, [], subst, ◌≤◌}
use Rattle.std.specs.Prelude.{is_some, slice_get}
use Rattle.std.specs.List.{filter_map}
use Rattle.race_core.specs.declared.outcome.Verdict.{Verdict}
use Rattle.race_core.specs.declared.event.Event.TheVariants.{Settle}
use Rattle.race_core.specs.Steps.{settled, step_of}
use Rattle.race_core.specs.Verdicts.{verdict_of}
use Rattle.race_core.specs.Ran.{killed_by}
use Rattle.race_board.specs.Calls.{KillsAll}
use Rattle.race_board.specs.inner.Kept.{id_in, to_come}
use Rattle.race_board.proofs.Ends.{ready, ready-steps, ready-at}
use Rattle.race_board.proofs.Settling.{settle-keeps}
use Rattle.race_board.proofs.Moving.{room-left}
use Rattle.race_board.proofs.Seen.{seen-ready, seen-kills, killable, ids-length, in-ends}
use Rattle.race_board.proofs.board.Board.settle.Goals as goal

pub kill_at-requires-clause-same : goal.kill_at-requires-clause-same
kill_at-requires-clause-same g c κs within = ids-length _ _ _ _ _ _ c.self.invariant.0

pub kill_at-requires-clause-killable : goal.kill_at-requires-clause-killable
kill_at-requires-clause-killable g c κs within = λ none. killable _ _ _ _ _ _ c.self.invariant.0 none

pub enter-requires-clause-legal : goal.enter-requires-clause-legal
enter-requires-clause-legal g c =
    let law = (g.met.W.Work g.world.𝓛 g.world.𝓜 g.world.𝓡 ((λ s x. x), (λ x. x), (λ x. x), λ x. x)).answers_bytes in
    let r = ready _ c.self.inside.race c.args.slot c.self.inside.ends.items c.args.outcome (λ bytes o a. law g.N.Name.terms.key bytes o a) (seen-ready _ _ _ c.args.slot _ c.self.view_is c.requires.right) in
    ap is_some (ap (λ d. settled c.self.inside.race c.args.slot d (slice_get c.self.inside.race.slots c.args.slot)) c.verdict-verdict.ensures ∙ ready-steps _ _ _ _ _ r)

pub enter-requires-clause-room : goal.enter-requires-clause-room
enter-requires-clause-room g c =
    let law = (g.met.W.Work g.world.𝓛 g.world.𝓜 g.world.𝓡 ((λ s x. x), (λ x. x), (λ x. x), λ x. x)).answers_bytes in
    let r = ready _ c.self.inside.race c.args.slot c.self.inside.ends.items c.args.outcome (λ bytes o a. law g.N.Name.terms.key bytes o a) (seen-ready _ _ _ c.args.slot _ c.self.view_is c.requires.right) in
    let s = ready-at _ _ _ _ _ r in
    let more : 1 ≤ to_come s.0 = s.2 in
    omega (arith, c.self.inside.history.ok.0, room-left _ _ _ _ _ _ c.args.slot s.0 c.self.invariant.0 s.1 more)

pub end_at-requires : goal.end_at-requires
end_at-requires g c =
    let law = (g.met.W.Work g.world.𝓛 g.world.𝓜 g.world.𝓡 ((λ s x. x), (λ x. x), (λ x. x), λ x. x)).answers_bytes in
    let r = ready _ c.self.inside.race c.args.slot c.self.inside.ends.items c.args.outcome (λ bytes o a. law g.N.Name.terms.key bytes o a) (seen-ready _ _ _ c.args.slot _ c.self.view_is c.requires.right) in
    let s = ready-at _ _ _ _ _ r in
    omega (arith, c.self.inside.ends.ok.0, in-ends _ _ _ _ _ _ c.args.slot s.0 c.self.invariant.0 s.1)

pub invariant_of-self : goal.invariant_of-self
invariant_of-self g c =
    let law = (g.met.W.Work g.world.𝓛 g.world.𝓜 g.world.𝓡 ((λ s x. x), (λ x. x), (λ x. x), λ x. x)).answers_bytes in
    let r = ready _ c.self.inside.race c.args.slot c.self.inside.ends.items c.args.outcome (λ bytes o a. law g.N.Name.terms.key bytes o a) (seen-ready _ _ _ c.args.slot _ c.self.view_is c.requires.right) in
    let now = g.L.Launcher.standing c.self.inside.launcher in
    let later = g.L.Launcher.standing c.kill_at.new.launcher in
    let K : Verdict → Type 0 = λ d. KillsAll (filter_map (id_in c.self.inside.ids) (killed_by c.self.inside.race (Settle c.args.slot d))) now later in (
      settle-keeps _ _ _ _ _ _ _ _ _ _ _ c.args.slot c.args.outcome c.self.invariant.0 r
          (c.enter.ensures.history ∙ ap (λ d. c.self.inside.history.items ++ Settle c.args.slot d ∷ []) c.verdict-verdict.ensures)
          (ap (λ d. step_of c.self.inside.race (Settle c.args.slot d)) (sym c.verdict-verdict.ensures) ∙ c.enter.ensures.race)
          (subst K c.verdict-verdict.ensures c.kill_at.ensures.kills) c.end_at.ensures c.enter.ensures.capacity,
      c.kill_at.ensures.same_children ∙ c.self.invariant.1,
    )

pub returns-clause-killed : goal.returns-clause-killed
returns-clause-killed g c =
    let now = g.L.Launcher.standing c.self.inside.launcher in
    let later = g.L.Launcher.standing c.kill_at.new.launcher in
    let K : Verdict → Type 0 = λ d. KillsAll (filter_map (id_in c.self.inside.ids) (killed_by c.self.inside.race (Settle c.args.slot d))) now later in
    seen-kills g.N.Name.terms.first.starts _ _ _ (λ r. killed_by r (Settle c.args.slot (verdict_of c.args.outcome))) later c.self.view_is c.self.invariant.0.known (subst K c.verdict-verdict.ensures c.kill_at.ensures.kills)
