use Rattle.std.proofs.Common.{refl}
use Rattle.hol_kernel.proofs.Applying.{not_elim_made}
use Rattle.hol_kernel.proofs.Making.{some_made, made_gives}
use Rattle.hol_kernel.proofs.log.Log.not_elim.Goals as goal

pub make-requires : goal.make-requires
make-requires c = some_made _ _ (not_elim_made c.args.self.now.env c.args.self.now.sequents c.args.na c.args.a c.requires.na c.requires.a c.requires.fits)

pub returns-clause-kept : goal.returns-clause-kept
returns-clause-kept c = c.make.ensures.kept

pub returns-clause-made : goal.returns-clause-made
returns-clause-made c = c.make.ensures.made

pub returns-clause-gives : goal.returns-clause-gives
returns-clause-gives c = made_gives c.args.self.now c.make.new.self c.make.result _ _ (not_elim_made c.args.self.now.env c.args.self.now.sequents c.args.na c.args.a c.requires.na c.requires.a c.requires.fits) c.make.ensures.made

pub returns-clause-facts : goal.returns-clause-facts
returns-clause-facts c = c.make.ensures.facts refl
