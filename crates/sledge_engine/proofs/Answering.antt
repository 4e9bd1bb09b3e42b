-- An answer of `run` from what is known of its parts.
use Rattle.std.proofs.Common.{ℕ, ◌≡◌, ◌∙◌, None, List, sym, subst}
use Rattle.std.specs.Prelude.{Option}
use Rattle.sledge_engine.specs.declared.contest.Contest.{Contest}
use Rattle.sledge_engine.specs.declared.finished.Finished.{Finished}
use Rattle.sledge_engine.specs.declared.trial.Telling.{Telling}
use Rattle.sledge_engine.specs.declared.trial.Trial.{Trial}
use Rattle.sledge_engine.specs.Files.{Outside}
use Rattle.sledge_engine.specs.Headline.{Launching}
use Rattle.sledge_engine.specs.Replies.{Told}
use Rattle.sledge_engine.specs.Runs.{RaceReply, RunAnswered, RunReply, cut_off, drill as by_drill, memory, prove as by_prove, quiet, told}
use Rattle.sledge_engine.specs.inner.Sinking.{IsPut, whole, part}
use Rattle.sledge_engine.specs.inner.Trials.{AsksFor, IsRaceTold, drill, prove, report, report_of}

-- from a reply whose text was put
pub run_answered : (words : List (List ℕ)) (o : Outside) (l : Launching) (t : Told) (race : Option Finished) (status given : ℕ) (text : List ℕ) →
    RunReply words o l race status text → IsPut t text status given → RunAnswered words o l t race given
run_answered words o l t race status given text reply (whole h) = told status text reply h
run_answered words o l t race status given text reply (part h rose) = cut_off status text reply h rose

-- a reply by a race with what the race is run with and what is told of it
reply_with : (r : Trial) (l : Launching) (c : Contest) (k : Telling) (race : Option Finished) (status : ℕ) (text : List ℕ) → r.contest ≡ c → r.telling ≡ k →
    RaceReply r.theory r.goal r.contest l (report r) race status text → RaceReply r.theory r.goal c l (report_of k r.theory r.goal) race status text
reply_with r l c k race status text contest telling reply =
    subst (λ x. RaceReply r.theory r.goal x l (report_of k r.theory r.goal) race status text) contest
    (subst (λ x. RaceReply r.theory r.goal r.contest l (report_of x r.theory r.goal) race status text) telling reply)

pub reply_by : (words : List (List ℕ)) (o : Outside) (r : Trial) (l : Launching) (race : Option Finished) (status : ℕ) (text : List ℕ) → AsksFor words o r →
    RaceReply r.theory r.goal r.contest l (report r) race status text → RunReply words o l race status text
reply_by words o r l race status text (prove line is command poses contest telling) reply =
    by_prove line r.theory r.goal race status text is command poses (reply_with r l _ _ race status text contest telling reply)
reply_by words o r l race status text (drill line is command generates contest telling) reply =
    by_drill line r.theory r.goal race status text is command generates (reply_with r l _ _ race status text contest telling reply)
