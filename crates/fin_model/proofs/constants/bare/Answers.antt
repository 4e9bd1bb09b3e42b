use Rattle.fin_model.proofs.Models.{fits_positive}
use Rattle.fin_model.proofs.constants.bare.Goals as goal

pub equality-requires-clause-some : goal.equality-requires-clause-some
equality-requires-clause-some c = fits_positive c.args.sig.now c.args.model.now c.requires.fits c.in-Eq.a

pub choice-requires-clause-some : goal.choice-requires-clause-some
choice-requires-clause-some c = fits_positive c.args.sig.now c.args.model.now c.requires.fits c.in-Eps.a
