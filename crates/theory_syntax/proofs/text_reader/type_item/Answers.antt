use Rattle.theory_syntax.proofs.TextPieces as pieces
use Rattle.theory_syntax.proofs.text_reader.type_item.Goals as goal

pub returns-in-None : goal.returns-in-None
returns-in-None c = pieces.no_type_name c.args.limit c.args.toks.now _ c.requires c.in-None.ensures

pub returns-in-None-behind : goal.returns-in-None-behind
returns-in-None-behind c = pieces.no_type_end c.args.limit c.args.toks.now _ c.requires _ _ c.in-Some.ensures c.in-None-behind.ensures

pub returns-in-Some-behind : goal.returns-in-Some-behind
returns-in-Some-behind c = pieces.type_ok c.args.limit c.args.toks.now _ c.requires _ _ c.in-Some.ensures _ c.in-Some-behind.ensures
