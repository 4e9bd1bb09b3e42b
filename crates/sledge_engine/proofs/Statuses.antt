-- What the status of `metis` tells.
use Rattle.std.proofs.Common.{ℕ, ◌≡◌, Bool, List}
use Rattle.hol_terms.specs.declared.env.Env.{Env}
use Rattle.metis_core.specs.Offer.{End, found, saturated, spent}
use Rattle.theory_reader.specs.declared.theory.Theory.{Theory}
use Rattle.slot_work.specs.Replays.{EndsAs, Found}
use Rattle.sledge_engine.specs.Laws.{StatusTellsFound}
use Rattle.sledge_engine.specs.Metis as metis
use Rattle.sledge_engine.proofs.Searches.{one_end}

unfound : (env : Env) (facts : List ℕ) (budget : ℕ) (e : End) → (e ≡ found → ⊥) → EndsAs env facts budget e → Found env facts budget → ⊥
unfound env facts budget e apart ends f = apart (one_end env facts budget e found ends f)

pub status_tells : StatusTellsFound
status_tells t goal names budget shows status text (metis.hidden name h) = (λ e. absurd cc, λ e. absurd cc)
status_tells t goal names budget shows status text (metis.proved env p visible is from) = (λ e. (env, is, from.0), λ e. absurd cc)
status_tells t goal names budget shows status text (metis.saturated env visible is from) = (λ e. absurd cc, λ e. (env, is, unfound env _ budget saturated (λ e. cc) from))
status_tells t goal names budget shows status text (metis.spent env visible is from) = (λ e. absurd cc, λ e. (env, is, unfound env _ budget spent (λ e. cc) from))
