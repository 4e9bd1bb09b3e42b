use Rattle.std.proofs.Common.{refl}
use Rattle.hol_kernel.proofs.Applying.{subst_made}
use Rattle.hol_kernel.proofs.Making.{some_made, made_gives}
use Rattle.hol_kernel.proofs.log.Log.subst_own.Goals as goal

pub make-requires : goal.make-requires
make-requires c = some_made _ _ (subst_made c.args.self.now.env c.args.self.now.sequents c.args.f c.args.eq c.args.a c.requires.eq c.requires.a c.requires.is c.requires.f c.requires.fits)

pub returns-clause-kept : goal.returns-clause-kept
returns-clause-kept c = c.make.ensures.kept

pub returns-clause-made : goal.returns-clause-made
returns-clause-made c = c.make.ensures.made

pub returns-clause-gives : goal.returns-clause-gives
returns-clause-gives c = made_gives c.args.self.now c.make.new.self c.make.result _ _ (subst_made c.args.self.now.env c.args.self.now.sequents c.args.f c.args.eq c.args.a c.requires.eq c.requires.a c.requires.is c.requires.f c.requires.fits) c.make.ensures.made

pub returns-clause-facts : goal.returns-clause-facts
returns-clause-facts c = c.make.ensures.facts refl
