use Rattle.fo_terms.specs.Same.{is_literal}
use Rattle.fo_terms.proofs.Sameness.{test_is, is_literal_sound, is_literal_itself}
use Rattle.fo_terms.proofs.normal.agree.Goals as goal

pub returns : goal.returns
returns c = test_is is_literal is_literal_sound is_literal_itself c.same.result c.args.l.now c.args.m.now c.same.ensures.0 c.same.ensures.1
