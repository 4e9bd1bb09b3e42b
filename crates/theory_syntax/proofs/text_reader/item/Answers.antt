use Rattle.theory_syntax.proofs.TextPieces as pieces
use Rattle.theory_syntax.proofs.text_reader.item.Goals as goal

pub returns-in-Other : goal.returns-in-Other
returns-in-Other c = pieces.no_item c.args.limit c.args.toks.now c.requires c.in-Other.ensures
