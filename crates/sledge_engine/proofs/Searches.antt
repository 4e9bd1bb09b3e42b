-- A search for a goal ends in one way.
use Rattle.std.proofs.Common.{ℕ, ◌≡◌, List}
use Rattle.hol_terms.specs.declared.env.Env.{Env}
use Rattle.fo_infer.proofs.OneLists.{one_alone, one_between}
use Rattle.metis_core.specs.Offer.{End}
use Rattle.metis_core.proofs.Functional.{end_one}
use Rattle.goal_search.specs.Encoded.{inputs}
use Rattle.goal_search.specs.Found.{EndsAs, given_with}

pub one_end : (env : Env) (facts : List ℕ) (budget : ℕ) (e f : End) → EndsAs env facts budget e → EndsAs env facts budget f → e ≡ f
one_end env facts budget e f a b =
    (end_one one_alone (λ position p q. one_between p q position) (given_with (inputs env facts) budget) e f a.0 b.0 a.1 b.1 a.2 b.2).0
