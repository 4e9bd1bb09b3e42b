use Rattle.std.proofs.Common.{◌∙◌, sym, ap}
use Rattle.lambda_lift.specs.Walks.{reading, app_formula}
use Rattle.lambda_lift.proofs.Formed.{made_bound, made_free, made_con, made_app, made_lam}
use Rattle.lambda_lift.proofs.view.view_of.Goals as goal

pub returns-in-App-clause-shape : goal.returns-in-App-clause-shape
returns-in-App-clause-shape c = λ sig.
    let is = made_app sig c.args.t.now c.in-App.f c.in-App.x c.in-App.is in
    ap (λ r. r.formula) is ∙ (λ i. app_formula (reading sig (sym c.get.ensures i)).head (reading sig (sym c.get-in-App.ensures i)) (sym (ap (λ r. r.atom) is) i)) ∙ c.application.ensures.shape sig (reading sig c.args.t.now).atom

pub returns-in-Lam-clause-shape : goal.returns-in-Lam-clause-shape
returns-in-Lam-clause-shape c = λ sig. let is = made_lam sig c.args.t.now _ _ c.in-Lam.is in ap (λ r. r.formula) is ∙ sym (ap (λ r. r.atom) is)

pub returns-in-Con-clause-shape : goal.returns-in-Con-clause-shape
returns-in-Con-clause-shape c = λ sig. let is = made_con sig c.args.t.now _ c.in-Con.is in ap (λ r. r.formula) is ∙ sym (ap (λ r. r.atom) is)

pub returns-in-Free-clause-shape : goal.returns-in-Free-clause-shape
returns-in-Free-clause-shape c = λ sig. let is = made_free sig c.args.t.now _ _ c.in-Free.is in ap (λ r. r.formula) is ∙ sym (ap (λ r. r.atom) is)

pub returns-in-Bound-clause-shape : goal.returns-in-Bound-clause-shape
returns-in-Bound-clause-shape c = λ sig. let is = made_bound sig c.args.t.now _ c.in-Bound.is in ap (λ r. r.formula) is ∙ sym (ap (λ r. r.atom) is)
