use Rattle.theory_syntax.proofs.Places as places
use Rattle.theory_syntax.proofs.text_reader.read_at.Goals as goal

pub counted-requires : goal.counted-requires
counted-requires c = places.is_within c.args.limit c.args.toks.now _ c.in-Err.ensures

pub returns-in-Err : goal.returns-in-Err
returns-in-Err c = rw c.counted.ensures (places.refused c.args.limit c.args.toks.now _ c.in-Err.ensures)
