use Rattle.std.proofs.Common.{◌≡◌, Bool, true, false, sym, ap, ◌∙◌, subst}
use Rattle.std.specs.Prelude.{MatchBool}
use Rattle.fact_minimise.specs.Minimal.{IsMinimal}
use Rattle.fact_minimise.specs.Progress.{Progress, IsSound}
use Rattle.fact_minimise.specs.Stages.{is_over}
use Rattle.fact_minimise.proofs.Shorter.{sublist-self}
use Rattle.fact_minimise.proofs.Turns.{AfterFound, AfterMissed, after-found, after-missed, over-minimal, under-way, answer-more, answer-done}
use Rattle.fact_minimise.proofs.minimise.Minimise.turn.Given.{Over}
use Rattle.fact_minimise.proofs.minimise.Minimise.turn.Goals as goal
use Rattle.fact_minimise.proofs.minimise.Minimise.turn.Goals.{After-answer, After-drop-shorter-inside}

-- what a replay told
found_by : (b : Bool) (P Q : Type 0) → MatchBool b P Q → b ≡ true → P
found_by true P Q h e = h
found_by false P Q h e = cc

missed_by : (b : Bool) (P Q : Type 0) → MatchBool b P Q → b ≡ false → Q
missed_by true P Q h e = cc
missed_by false P Q h e = h

-- each fact was tried already
pub returns-then-is_over-clause-sublist : goal.returns-then-is_over-clause-sublist
returns-then-is_over-clause-sublist g c = sublist-self c.args.self.now.kept

pub returns-then-is_over-clause-done : goal.returns-then-is_over-clause-done
returns-then-is_over-clause-done g c =
    λ _. (let over = ap (λ n. is_over n c.self.inside.stage) (sym c.len.ensures) ∙ sym c.is_over.ensures ∙ c.if-is_over.true in
    let S : Progress → Type 0 = λ x. IsSound (g.R.Replay.finds c.args.replay.now) x in
    let P : Progress → Type 0 = λ x. IsMinimal (g.R.Replay.finds c.args.replay.now) x.kept in
    subst P c.self.view_is (over-minimal (g.R.Replay.finds c.args.replay.now) c.self.inside.kept c.self.inside.stage c.self.invariant over (subst S (sym c.self.view_is) c.requires)))

-- there was no memory
pub returns-in_default-clause-sublist : goal.returns-in_default-clause-sublist
returns-in_default-clause-sublist g c = sublist-self c.args.self.now.kept

pub returns-in-Err-clause-sublist : goal.returns-in-Err-clause-sublist
returns-in-Err-clause-sublist g c = sublist-self c.args.self.now.kept

-- the shorter list was found
found : (g : Over) (c : After-answer g) → AfterFound (g.R.Replay.finds c.args.replay.now) c.args.self.now c.in-Ok.shorter c.dropped-self-inside.result
found g c =
    after-found (g.R.Replay.finds c.args.replay.now) c.args.self.now c.self.inside.kept c.in-Ok.shorter c.self.inside.stage c.dropped-self-inside.result c.len-in-Ok-true.result c.len-in-Ok-true-2.result
    c.self.view_is c.self.invariant (ap (λ n. is_over n c.self.inside.stage) (sym c.len.ensures) ∙ sym c.is_over.ensures ∙ c.if-is_over.false)
    c.in-Ok.ensures c.len-in-Ok-true.ensures c.len-in-Ok-true-2.ensures c.dropped-self-inside.ensures

pub invariant_of-self : goal.invariant_of-self
invariant_of-self g c = (found g c).fits

pub returns-in-Ok-true-clause-sublist : goal.returns-in-Ok-true-clause-sublist
returns-in-Ok-true-clause-sublist g c = (found g c).sublist

pub returns-in-Ok-true-clause-one_replay : goal.returns-in-Ok-true-clause-one_replay
returns-in-Ok-true-clause-one_replay g c = λ _. (found g c).tries (found_by _ _ _ c.in-Ok-true.ensures.answer c.in-Ok-true.field-0-test)

pub returns-in-Ok-true-clause-unfinished : goal.returns-in-Ok-true-clause-unfinished
returns-in-Ok-true-clause-unfinished g c =
    λ more. under-way c.in-Ok.shorter c.dropped-self-inside.result (found g c).fits (answer-more c.answer.result _ _ c.dropped-self-inside.result c.answer.ensures c.len-in-Ok-true-3.ensures more)

pub returns-in-Ok-true-clause-fewer : goal.returns-in-Ok-true-clause-fewer
returns-in-Ok-true-clause-fewer g c = λ _. (found g c).fewer

-- the shorter list wasn't found
missed : (g : Over) (c : After-drop-shorter-inside g) → AfterMissed (g.R.Replay.finds c.args.replay.now) c.args.self.now c.self.inside.kept c.kept-self-inside.result
missed g c =
    after-missed (g.R.Replay.finds c.args.replay.now) c.args.self.now c.self.inside.kept c.in-Ok.shorter c.self.inside.stage c.kept-self-inside.result c.len-in-Ok-false.result
    c.self.view_is c.self.invariant (ap (λ n. is_over n c.self.inside.stage) (sym c.len.ensures) ∙ sym c.is_over.ensures ∙ c.if-is_over.false)
    c.in-Ok.ensures (missed_by _ _ _ c.in-Ok-false.ensures.answer c.in-Ok-false.field-0-test) c.requires c.len-in-Ok-false.ensures c.kept-self-inside.ensures

pub returns-in-Ok-false-clause-sound : goal.returns-in-Ok-false-clause-sound
returns-in-Ok-false-clause-sound g c = (missed g c).sound

pub returns-in-Ok-false-clause-sublist : goal.returns-in-Ok-false-clause-sublist
returns-in-Ok-false-clause-sublist g c = (missed g c).sublist

pub returns-in-Ok-false-clause-one_replay : goal.returns-in-Ok-false-clause-one_replay
returns-in-Ok-false-clause-one_replay g c = λ _. (missed g c).tries

pub returns-in-Ok-false-clause-fewer : goal.returns-in-Ok-false-clause-fewer
returns-in-Ok-false-clause-fewer g c = λ _. (missed g c).fewer

pub returns-in-Ok-false-clause-done : goal.returns-in-Ok-false-clause-done
returns-in-Ok-false-clause-done g c =
    λ done. over-minimal (g.R.Replay.finds c.args.replay.now) c.self.inside.kept c.kept-self-inside.result (missed g c).fits (answer-done c.answer-in-Ok-false.result _ _ c.kept-self-inside.result c.answer-in-Ok-false.ensures c.len-in-Ok-false-2.ensures done) (missed g c).sound
