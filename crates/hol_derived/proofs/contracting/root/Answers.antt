use Rattle.std.proofs.Common.{sym, ◌∙◌}
use Rattle.hol_derived.proofs.Cuts.{gives_as}
use Rattle.hol_derived.proofs.Expansions.{root_beta, root_refl}
use Rattle.hol_derived.proofs.contracting.root.Goals as goal

pub beta-requires-clause-t : goal.beta-requires-clause-t
beta-requires-clause-t c = c.requires

pub beta-requires-clause-fits : goal.beta-requires-clause-fits
beta-requires-clause-fits c = sym c.is_redex.ensures ∙ c.if-is_redex.true

pub refl-requires : goal.refl-requires
refl-requires c = c.requires

pub returns-then-is_redex-clause-kept : goal.returns-then-is_redex-clause-kept
returns-then-is_redex-clause-kept c = c.beta.ensures.kept

pub returns-then-is_redex-clause-gives : goal.returns-then-is_redex-clause-gives
returns-then-is_redex-clause-gives c = gives_as c.beta.result c.beta.new.self _ _ (root_beta c.args.log.now.env.sig c.args.t.now (sym c.is_redex.ensures ∙ c.if-is_redex.true)) c.beta.ensures.gives

pub returns-else-is_redex-clause-kept : goal.returns-else-is_redex-clause-kept
returns-else-is_redex-clause-kept c = c.refl.ensures.kept

pub returns-else-is_redex-clause-gives : goal.returns-else-is_redex-clause-gives
returns-else-is_redex-clause-gives c = gives_as c.refl.result c.refl.new.self _ _ (root_refl c.args.log.now.env.sig c.args.t.now (sym c.is_redex.ensures ∙ c.if-is_redex.false)) c.refl.ensures.gives

pub returns-then-is_redex-clause-facts : goal.returns-then-is_redex-clause-facts
returns-then-is_redex-clause-facts c = c.beta.ensures.facts

pub returns-else-is_redex-clause-facts : goal.returns-else-is_redex-clause-facts
returns-else-is_redex-clause-facts c = c.refl.ensures.facts
