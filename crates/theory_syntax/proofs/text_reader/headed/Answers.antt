use Rattle.theory_syntax.proofs.TextPieces as pieces
use Rattle.theory_syntax.proofs.text_reader.headed.Goals as goal

pub returns-in-None : goal.returns-in-None
returns-in-None c = pieces.no_name c.args.limit c.args.toks.now c.args.heading _ c.requires c.in-None.ensures

pub returns-in-None-behind : goal.returns-in-None-behind
returns-in-None-behind c = pieces.no_colon c.args.limit c.args.toks.now c.args.heading _ c.requires _ _ c.in-Some.ensures c.in-None-behind.ensures
