use Rattle.std.proofs.Common.{◌≡◌, ◌↔◌, Bool, Option, Some, List, IsTrue, subst}
use Rattle.std.specs.Prelude.{IfSome}
use Rattle.fo_terms.specs.declared.clause.Clause.{Clause}
use Rattle.fo_terms.specs.declared.literal.Literal.{Literal}
use Rattle.fo_infer.specs.Subsumption.{Subsumes}
use Rattle.metis_core.specs.Stock.{IsReady}
use Rattle.metis_core.proofs.stock.tries.Goals as goal

-- what is told of the literals is told of their clause
told_of : (ready : Option (List Literal)) (ls : List Literal) (told : Option Bool) (d p : Clause) → ready ≡ Some ls
    → IfSome told (λ b. IsTrue b ↔ Subsumes (record { literals = ls }) d) → IsReady p ready → IfSome told (λ b. IsTrue b ↔ Subsumes p d)
told_of ready ls told d p is says held =
    let same : ls ≡ p.literals = subst (IsReady p) is held in
    subst (λ ks. IfSome told (λ b. IsTrue b ↔ Subsumes (record { literals = ks }) d)) same says

pub returns-in-Some : goal.returns-in-Some
returns-in-Some c = λ p held. told_of c.args.ready.now _ c.tries.result (record { literals = c.args.c.now }) p c.in-Some.is c.tries.ensures held
