use Rattle.std.proofs.Common.{◌∙◌, sym, ap}
use Rattle.lambda_lift.specs.Walks.{reading, app_formula, app_head}
use Rattle.lambda_lift.proofs.Formed.{made_bound, made_free, made_con, made_app, made_lam}
use Rattle.lambda_lift.proofs.view.application.Goals as goal

pub returns-in-Con-clause-shape : goal.returns-in-Con-clause-shape
returns-in-Con-clause-shape c = λ sig atom. ap (λ r. app_formula r.head (reading sig c.args.x.now) atom) (made_con sig c.args.f.now _ c.in-Con.is) ∙ c.constant_with.ensures.shape sig atom

pub returns-in-App-clause-shape : goal.returns-in-App-clause-shape
returns-in-App-clause-shape c = λ sig atom. ap (λ r. app_formula r.head (reading sig c.args.x.now) atom) (made_app sig c.args.f.now c.in-App.head c.in-App.a c.in-App.is)
    ∙ (λ i. app_formula (app_head (reading sig (sym c.get.ensures i)).head (reading sig (sym c.get-in-App.ensures i)).formula) (reading sig c.args.x.now) atom) ∙ c.application_with.ensures.shape sig atom

pub returns-in-Lam-clause-shape : goal.returns-in-Lam-clause-shape
returns-in-Lam-clause-shape c = λ sig atom. ap (λ r. app_formula r.head (reading sig c.args.x.now) atom) (made_lam sig c.args.f.now _ _ c.in-Lam.is)

pub returns-in-Free-clause-shape : goal.returns-in-Free-clause-shape
returns-in-Free-clause-shape c = λ sig atom. ap (λ r. app_formula r.head (reading sig c.args.x.now) atom) (made_free sig c.args.f.now _ _ c.in-Free.is)

pub returns-in-Bound-clause-shape : goal.returns-in-Bound-clause-shape
returns-in-Bound-clause-shape c = λ sig atom. ap (λ r. app_formula r.head (reading sig c.args.x.now) atom) (made_bound sig c.args.f.now _ c.in-Bound.is)
