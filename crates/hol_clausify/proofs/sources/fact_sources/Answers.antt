use Rattle.std.proofs.Common.{◌≡◌, List, ◌∷◌, [], ◌++◌, false, sym, subst, ◌∙◌}
use Rattle.std.specs.Prelude.{Result, Ok, Err, OnOk}
use Rattle.kernel_rules.specs.Derivations.{leaves}
use Rattle.hol_clausify.specs.inner.LiftedOver.{IsLifted}
use Rattle.hol_clausify.proofs.Facts.{fact_leaf}
use Rattle.hol_clausify.proofs.Sourced.{made_lifted}
use Rattle.hol_clausify.proofs.sources.fact_sources.Goals as goal

on_ok : {X E : Type 0} (r : Result X E) (P : Type 0) → P → OnOk r P
on_ok (Ok x) P h = h
on_ok (Err e) P h = tt

pub lifted_fact-requires-clause-lifted : goal.lifted_fact-requires-clause-lifted
lifted_fact-requires-clause-lifted c =
    subst (λ e. IsLifted e.sig c.args.formula.now c.args.made.now.lifted c.args.table.now) (sym c.fact.ensures.kept.env)
    (subst (λ f. IsLifted c.args.log.now.env.sig f c.args.made.now.lifted c.args.table.now) c.requires.made.1 (made_lifted c.args.log.now.env.sig false c.args.made.now c.args.table.now c.requires.made.0))

pub returns-clause-facts : goal.returns-clause-facts
returns-clause-facts c =
    on_ok c.sources_from.result _
    (c.sources_from.ensures.facts ∙ c.lifted_fact.ensures.facts ∙ fact_leaf c.args.log.now c.fact.new.self c.args.fact c.in_ok-th.th.0 c.in_ok-th.ensures.made)
