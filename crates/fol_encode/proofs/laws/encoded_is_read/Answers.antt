use Rattle.fol_encode.proofs.Reading.{whole_read}
use Rattle.fol_encode.proofs.laws.encoded_is_read.Goals as goal

pub returns : goal.returns
returns c = λ signs types a fits typed. whole_read c.args.sig.now c.args.table.now signs types c.args.t.now a fits typed
