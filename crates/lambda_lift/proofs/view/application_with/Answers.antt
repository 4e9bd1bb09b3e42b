use Rattle.std.proofs.Common.{◌∙◌, ap}
use Rattle.lambda_lift.specs.Walks.{reading, app_formula, app_head}
use Rattle.lambda_lift.proofs.Formed.{made_bound, made_free, made_con, made_app, made_lam, two_applied}
use Rattle.lambda_lift.proofs.view.application_with.Goals as goal

pub returns-in-Con-clause-shape : goal.returns-in-Con-clause-shape
returns-in-Con-clause-shape c = λ sig atom. ap (λ r. app_formula (app_head r.head (reading sig c.args.a.now).formula) (reading sig c.args.b.now) atom) (made_con sig c.args.head.now _ c.in-Con.is) ∙ c.constant_with_two.ensures.shape sig atom

pub returns-in-App-clause-shape : goal.returns-in-App-clause-shape
returns-in-App-clause-shape c = λ sig atom. ap (λ r. app_formula (app_head r.head (reading sig c.args.a.now).formula) (reading sig c.args.b.now) atom) (made_app sig c.args.head.now _ _ c.in-App.is) ∙ ap (λ h. app_formula h (reading sig c.args.b.now) atom) (two_applied _ _ _)

pub returns-in-Lam-clause-shape : goal.returns-in-Lam-clause-shape
returns-in-Lam-clause-shape c = λ sig atom. ap (λ r. app_formula (app_head r.head (reading sig c.args.a.now).formula) (reading sig c.args.b.now) atom) (made_lam sig c.args.head.now _ _ c.in-Lam.is)

pub returns-in-Free-clause-shape : goal.returns-in-Free-clause-shape
returns-in-Free-clause-shape c = λ sig atom. ap (λ r. app_formula (app_head r.head (reading sig c.args.a.now).formula) (reading sig c.args.b.now) atom) (made_free sig c.args.head.now _ _ c.in-Free.is)

pub returns-in-Bound-clause-shape : goal.returns-in-Bound-clause-shape
returns-in-Bound-clause-shape c = λ sig atom. ap (λ r. app_formula (app_head r.head (reading sig c.args.a.now).formula) (reading sig c.args.b.now) atom) (made_bound sig c.args.head.now _ c.in-Bound.is)
