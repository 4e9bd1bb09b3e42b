use Rattle.std.proofs.Common.{ap, subst, ◌∙◌, arith, length, map, None, Option, ℕ}
use Rattle.std.specs.Prelude.{replicate}
use Rattle.race_core.specs.Steps.{fresh}
use Rattle.race_core.specs.Standings.{Standing}
use Rattle.race_board.specs.Boards.{unended, Reads}
use Rattle.race_board.proofs.Beginning.{begins, begun}
use Rattle.race_board.proofs.board.Board.begin_timed.Goals as goal

pub invariant_of-board : goal.invariant_of-board
invariant_of-board g c =
    let terms = g.N.Name.terms in
    let n : ℕ = length c.args.orders in
    let now : Standing = g.L.Launcher.standing c.until_of-race.new.launcher in
    let A : Option ℕ → Type 0 = λ l. Reads l c.until_of-race.result (g.L.Launcher.standing c.args.launcher) now in
    let B : Standing → Type 0 = λ s. Reads terms.limit c.until_of-race.result s now in
    let clock = subst B c.requires.first (subst A c.requires.limit c.until_of-race.ensures.clock) in (
      begins _ terms n c.in-Ok.race c.until_of-race.result _ _ now _ _ _ (ap length c.requires.orders) c.requires.few.0 c.requires.few.1 c.in-Ok-history_of.ensures.empty
          (c.in-Ok.ensures ∙ ap (λ m. fresh m None) c.len-slots.ensures) (c.in-Ok-ends_of.ensures ∙ ap (map unended) c.requires.orders) (c.in-Ok-ids_of.ensures ∙ ap (λ m. replicate m None) c.len-slots.ensures)
          clock c.open-up.ensures.total (omega (arith, c.in-Ok-history_of.ensures.room, c.len-slots.ensures)),
      c.until_of-race.ensures.same_children ∙ c.requires.children,
    )

pub returns-clause-board : goal.returns-clause-board
returns-clause-board g c =
    let terms = g.N.Name.terms in
    let n : ℕ = length c.args.orders in
    let now : Standing = g.L.Launcher.standing c.until_of-race.new.launcher in
    let A : Option ℕ → Type 0 = λ l. Reads l c.until_of-race.result (g.L.Launcher.standing c.args.launcher) now in
    let B : Standing → Type 0 = λ s. Reads terms.limit c.until_of-race.result s now in
    let clock = subst B c.requires.first (subst A c.requires.limit c.until_of-race.ensures.clock) in
    begun terms n c.in-Ok.race c.until_of-race.result _ _ now (ap length c.requires.orders) c.in-Ok-history_of.ensures.empty (c.in-Ok.ensures ∙ ap (λ m. fresh m None) c.len-slots.ensures) (c.in-Ok-ends_of.ensures ∙ ap (map unended) c.requires.orders) clock
