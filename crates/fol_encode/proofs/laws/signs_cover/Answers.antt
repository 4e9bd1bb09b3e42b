use Rattle.fol_encode.proofs.Covering.{signs_cover}
use Rattle.fol_encode.proofs.laws.signs_cover.Goals as goal

pub returns : goal.returns
returns c = signs_cover c.args.sig.now c.args.table.now c.args.terms.now
