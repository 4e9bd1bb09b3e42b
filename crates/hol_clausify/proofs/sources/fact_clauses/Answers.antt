use Rattle.std.proofs.Common.{◌≡◌, false, sym, ap, subst, ◌∙◌}
use Rattle.std.specs.Prelude.{Ok}
use Rattle.std.specs.FinSet as set
use Rattle.hol_terms.specs.Formulas.{IsSentence}
use Rattle.hol_kernel.specs.Logs.{fact_at}
use Rattle.formula_clauses.specs.Clausified.{ClausifiesLifted}
use Rattle.hol_clausify.specs.Sources.{AreSources}
use Rattle.hol_clausify.proofs.Facts.{fact_sentence}
use Rattle.hol_clausify.proofs.Refusing.{fact_is, fact_refused, is_made, sources_are}
use Rattle.hol_clausify.proofs.sources.fact_clauses.Goals as goal

pub clausify_lifted-requires : goal.clausify_lifted-requires
clausify_lifted-requires c =
    let env = c.args.log.now.env in
    let is = fact_is env c.env-env.result.now c.args.fact c.at-formula.result.now c.env-env.ensures c.at-formula.ensures in
    subst (λ e. IsSentence e.sig c.at-formula.result.now) (sym c.env-env.ensures) (subst (IsSentence env.sig) (sym is) (fact_sentence env c.args.fact c.requires.fact))

pub returns-in_err-made-clause-sources : goal.returns-in_err-made-clause-sources
returns-in_err-made-clause-sources c =
    let is = fact_is c.args.log.now.env c.env-env.result.now c.args.fact c.at-formula.result.now c.env-env.ensures c.at-formula.ensures in
    fact_refused c.args.fact c.args.log.now c.env-env.result.now c.at-formula.result.now c.args.table.now c.clausify_lifted.new.table c.from_residual.result c.in_err-made.field-0.0 c.env-env.ensures is
    c.from_residual.ensures.1 c.in_err-made.ensures

pub fact_sources-requires-clause-formula : goal.fact_sources-requires-clause-formula
fact_sources-requires-clause-formula c = fact_is c.args.log.now.env c.env-env.result.now c.args.fact c.at-formula.result.now c.env-env.ensures c.at-formula.ensures

pub fact_sources-requires-clause-made : goal.fact_sources-requires-clause-made
fact_sources-requires-clause-made c =
    let env = c.args.log.now.env in
    let is = fact_is env c.env-env.result.now c.args.fact c.at-formula.result.now c.env-env.ensures c.at-formula.ensures in
    is_made c.args.log.now c.env-env.result.now c.env-env.ensures false c.at-formula.result.now (subst (IsSentence env.sig) (sym is) (fact_sentence env c.args.fact c.requires.fact)) c.args.table.now
    c.clausify_lifted.new.table c.requires.table c.in_ok-made.made c.in_ok-made.ensures

pub returns-clause-sources : goal.returns-clause-sources
returns-clause-sources c =
    let env = c.args.log.now.env in
    let is = fact_is env c.env-env.result.now c.args.fact c.at-formula.result.now c.env-env.ensures c.at-formula.ensures in
    let sources = sources_are c.args.log.now c.env-env.result.now c.env-env.ensures false c.at-formula.result.now (subst (IsSentence env.sig) (sym is) (fact_sentence env c.args.fact c.requires.fact)) c.args.table.now
    c.clausify_lifted.new.table c.requires.table c.in_ok-made.made c.in_ok-made.ensures c.fact_sources.new.log set.empty c.in_ok-fact_sources.field-0 c.fact_sources.ensures.kept c.in_ok-fact_sources.ensures.gives in
    (subst (λ t. AreSources false set.empty t c.args.table.now c.fact_sources.new.log c.in_ok-fact_sources.field-0 c.clausify_lifted.new.table) is sources, c.in_ok-fact_sources.ensures.facts)
