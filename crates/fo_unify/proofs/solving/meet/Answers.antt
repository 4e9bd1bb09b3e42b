use Rattle.std.proofs.Common.{◌≡◌, [], ◌∷◌, ◌++◌, ◌∙◌, ap, subst, refl}
use Rattle.fo_unify.specs.declared.triangle.Equation.{Equation}
use Rattle.fo_unify.specs.Unified.{MetBy}
use Rattle.fo_unify.specs.Shown.{shown}
use Rattle.fo_unify.proofs.solving.meet.Goals as goal

pub returns : goal.returns
returns c =
    let e : Equation = record { left = c.args.s; right = c.args.t } in
    let pushed : shown c.push.new.self ≡ shown (e ∷ []) = ap shown (c.in_ok-push.ensures.ok ∙ ap (λ w. w ++ e ∷ []) c.begin-work.ensures) in
    subst (λ es. MetBy es c.in_ok-met.met) pushed c.in_ok-met.ensures

pub returns-then-heads_clash : goal.returns-then-heads_clash
returns-then-heads_clash c = λ v unifies. c.if-heads_clash.ensures refl v unifies.0
