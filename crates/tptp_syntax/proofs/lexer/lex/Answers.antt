use Rattle.std.proofs.Common.{◌∙◌, ◌+◌, sym, subst}
use Rattle.tptp_syntax.proofs.Cutting as cutting
use Rattle.tptp_syntax.proofs.Cutting.{CutSoFar}
use Rattle.tptp_syntax.proofs.lexer.lex.Goals as goal

pub pieces-preserved : goal.pieces-preserved
pieces-preserved c = subst (λ l. CutSoFar c.args.text.now (c.pieces.at + c.in-Some.len) l) (sym c.in_ok-put.ensures)
    (cutting.cut_on c.args.text.now c.pieces.at c.pieces.lexed c.pieces.invariant c.pieces-test.true c.rest_at-rest.result.now c.rest_at-rest.ensures c.look-front.result c.in-Some.len
    c.look-front.ensures.value c.look-front.ensures.within (sym c.len_of.ensures ∙ c.in-Some.is))

pub returns-in-None : goal.returns-in-None
returns-in-None c = c.in_ok-put.ensures
    ∙ cutting.cut_bad c.args.text.now c.pieces.at c.pieces.lexed c.pieces.invariant c.pieces-test.true c.rest_at-rest.result.now c.rest_at-rest.ensures c.look-front.result c.look-front.ensures.value
    (sym c.len_of.ensures ∙ c.in-None.is)
