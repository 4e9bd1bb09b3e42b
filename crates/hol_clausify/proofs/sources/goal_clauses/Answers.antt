use Rattle.std.proofs.Common.{◌≡◌, true, sym, ap, subst, ◌∙◌}
use Rattle.hyp_sets.specs.Sets.{only}
use Rattle.hol_terms.specs.Formulas.{IsSentence}
use Rattle.kernel_rules.specs.Connectives.{neg}
use Rattle.hol_clausify.specs.Sources.{AreSources}
use Rattle.hol_clausify.proofs.Facts.{goal_sentence}
use Rattle.hol_clausify.proofs.Refusing.{is_made, sources_are}
use Rattle.hol_clausify.proofs.sources.goal_clauses.Goals as goal

pub goal_sources-requires-clause-made : goal.goal_sources-requires-clause-made
goal_sources-requires-clause-made c =
    let env = c.args.log.now.env in
    is_made c.args.log.now c.env-env.result.now c.env-env.ensures true c.env-env.result.now.goal (subst (λ t. IsSentence env.sig t) (sym (ap (λ e. e.goal) c.env-env.ensures)) (goal_sentence env)) c.args.table.now
    c.clausify_lifted.new.table c.requires.table c.in_ok-made.made c.in_ok-made.ensures

pub returns-clause-sources : goal.returns-clause-sources
returns-clause-sources c =
    let env = c.args.log.now.env in
    let same = ap (λ e. e.goal) c.env-env.ensures in
    let base = ap (λ t. only (neg t)) same in
    let sources = sources_are c.args.log.now c.env-env.result.now c.env-env.ensures true c.env-env.result.now.goal (subst (λ t. IsSentence env.sig t) (sym same) (goal_sentence env)) c.args.table.now
    c.clausify_lifted.new.table c.requires.table c.in_ok-made.made c.in_ok-made.ensures c.goal_sources.new.log (only (neg c.env-env.result.now.goal)) c.in_ok-goal_sources.field-0 c.goal_sources.ensures.kept
    c.in_ok-goal_sources.ensures.gives in
    (subst (λ t. AreSources true (only (neg t)) t c.args.table.now c.goal_sources.new.log c.in_ok-goal_sources.field-0 c.clausify_lifted.new.table) same sources, c.goal_sources.ensures.facts)
