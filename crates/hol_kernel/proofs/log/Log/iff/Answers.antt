use Rattle.std.proofs.Common.{refl}
use Rattle.hol_kernel.proofs.Applying.{iff_made}
use Rattle.hol_kernel.proofs.Making.{some_made, made_gives}
use Rattle.hol_kernel.proofs.log.Log.iff.Goals as goal

pub make-requires : goal.make-requires
make-requires c = some_made _ _ (iff_made c.args.self.now.env c.args.self.now.sequents c.args.ab c.args.ba c.requires.ab c.requires.ba c.requires.is c.requires.converse)

pub returns-clause-kept : goal.returns-clause-kept
returns-clause-kept c = c.make.ensures.kept

pub returns-clause-made : goal.returns-clause-made
returns-clause-made c = c.make.ensures.made

pub returns-clause-gives : goal.returns-clause-gives
returns-clause-gives c = made_gives c.args.self.now c.make.new.self c.make.result _ _ (iff_made c.args.self.now.env c.args.self.now.sequents c.args.ab c.args.ba c.requires.ab c.requires.ba c.requires.is c.requires.converse) c.make.ensures.made

pub returns-clause-facts : goal.returns-clause-facts
returns-clause-facts c = c.make.ensures.facts refl
