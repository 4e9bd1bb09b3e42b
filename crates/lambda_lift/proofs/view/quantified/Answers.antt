use Rattle.std.proofs.Common.{◌∙◌, sym, ap}
use Rattle.lambda_lift.specs.Walks.{reading, quantified, scope}
use Rattle.lambda_lift.proofs.Formed.{made_bound, made_free, made_con, made_app, made_lam, on_applied, on_konst}
use Rattle.lambda_lift.proofs.view.quantified.Goals as goal

pub returns-in-Lam-clause-shape : goal.returns-in-Lam-clause-shape
returns-in-Lam-clause-shape c = λ sig atom. ap (λ r. quantified c.args.k.now r.head atom) (made_lam sig c.args.x.now c.in-Lam.ty c.in-Lam.body c.in-Lam.is) ∙ ap (λ b. scope c.args.k.now c.in-Lam.ty (reading sig b).formula) (sym c.get.ensures)

pub returns-in-App-clause-shape : goal.returns-in-App-clause-shape
returns-in-App-clause-shape c = λ sig atom. ap (λ r. quantified c.args.k.now r.head atom) (made_app sig c.args.x.now _ _ c.in-App.is) ∙ on_applied c.args.k.now _ _ atom

pub returns-in-Con-clause-shape : goal.returns-in-Con-clause-shape
returns-in-Con-clause-shape c = λ sig atom. ap (λ r. quantified c.args.k.now r.head atom) (made_con sig c.args.x.now _ c.in-Con.is) ∙ on_konst c.args.k.now _ atom

pub returns-in-Free-clause-shape : goal.returns-in-Free-clause-shape
returns-in-Free-clause-shape c = λ sig atom. ap (λ r. quantified c.args.k.now r.head atom) (made_free sig c.args.x.now _ _ c.in-Free.is)

pub returns-in-Bound-clause-shape : goal.returns-in-Bound-clause-shape
returns-in-Bound-clause-shape c = λ sig atom. ap (λ r. quantified c.args.k.now r.head atom) (made_bound sig c.args.x.now _ c.in-Bound.is)
