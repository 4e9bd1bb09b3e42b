use Rattle.std.proofs.Common.{sym, ap, subst, ◌∙◌}
use Rattle.hol_formulas.specs.Formulas.{formula_of}
use Rattle.hol_clausify.proofs.Sourced.{lifted_refuted, own_formula, own_matches}
use Rattle.hol_clausify.proofs.sources.refute_lifted.Goals as goal

pub refute-requires-clause-formula : goal.refute-requires-clause-formula
refute-requires-clause-formula c =
    own_formula c.args.log.now.env.sig c.args.goal c.args.made.now c.args.table.now c.requires c.in_ok-whole.whole c.in_ok-shown.shown c.in_ok-whole.ensures c.in_ok-shown.ensures

pub refute-requires-clause-matches : goal.refute-requires-clause-matches
refute-requires-clause-matches c =
    own_matches c.args.log.now.env.sig c.args.goal c.args.made.now c.args.table.now c.requires c.in_ok-whole.whole c.in_ok-shown.shown c.get.result.now c.in_ok-whole.ensures c.in_ok-shown.ensures
    (c.get.ensures ∙ c.in_ok-formula.ensures)

pub returns-clause-gives : goal.returns-clause-gives
returns-clause-gives c =
    lifted_refuted c.args.log.now.env.sig c.args.goal c.args.made.now c.args.table.now c.requires c.refute.new.log c.in_ok-whole.whole c.in_ok-shown.shown c.get.result.now c.in_ok-refutations.refutations.thms
    c.in_ok-whole.ensures c.in_ok-shown.ensures (c.get.ensures ∙ c.in_ok-formula.ensures) c.in_ok-refutations.ensures.gives.refuted
