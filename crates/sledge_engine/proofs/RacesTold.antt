-- What is told of a race.
use Rattle.std.proofs.Common.{ℕ, Some}
use Rattle.sledge_engine.specs.declared.finished.Finished.{Finished}
use Rattle.sledge_engine.specs.declared.trial.Trial.{Trial}
use Rattle.sledge_engine.specs.Headline.{Launching}
use Rattle.sledge_engine.specs.Replies.{Told}
use Rattle.sledge_engine.specs.Reports.{race_status}
use Rattle.sledge_engine.specs.Runs.{raced, untold}
use Rattle.sledge_engine.specs.Texts.{memory_text}
use Rattle.sledge_engine.specs.inner.Trials.{IsRaceTold, IsRaced, IsReport, report, reported, wanting}

pub told_race : (r : Trial) (l : Launching) (f : Finished) (t : Told) (given : ℕ) → IsRaced r l f → IsReport r f t given → IsRaceTold r l t (Some f) given
told_race r l f t given ran (reported put) = (race_status f, report r f, raced f ran.headline ran.complete, put)
told_race r l f t given ran (wanting put) = (6, memory_text, untold f ran.headline ran.complete, put)
