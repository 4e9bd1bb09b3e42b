use Rattle.fo_unify.specs.Shown.{as_binds}
use Rattle.fo_infer.proofs.Factorings.{signs_same}
use Rattle.fo_infer.proofs.Narrowing.{literal_narrows}
use Rattle.fo_infer.proofs.covering.match_literal.Goals as goal

pub returns-clause-narrows : goal.returns-clause-narrows
returns-clause-narrows c =
    literal_narrows (as_binds c.args.binds.now) (as_binds c.match_atom.new.binds) c.in_ok-made.made c.args.l.now c.args.m.now (signs_same c.args.l.now.positive c.args.m.now.positive c.if-l-m.false) c.in_ok-made.ensures.narrows
