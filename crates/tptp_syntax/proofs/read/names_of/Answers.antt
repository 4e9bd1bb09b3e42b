use Rattle.std.proofs.Common.{◌∷◌, [], ◌++◌, ◌∙◌, sym, ap}
use Rattle.tptp_syntax.specs.Reading.{said}
use Rattle.tptp_syntax.proofs.Scopes.{map_one_more}
use Rattle.tptp_syntax.proofs.read.names_of.Goals as goal

pub loop-number-preserved : goal.loop-number-preserved
loop-number-preserved c =
    c.in_ok-push-in-Some.ensures.ok ∙ ap (λ w. c.loop-number.names ++ w ∷ []) c.in_ok-said-in-Some.ensures
    ∙ ap (λ ns. ns ++ said c.args.words.now c.in-Some.name ∷ []) c.loop-number.invariant
    ∙ sym (map_one_more (said c.args.words.now) c.args.symbols.now c.loop-number.number c.in-Some.name (sym c.at.ensures ∙ c.in-Some.is))
