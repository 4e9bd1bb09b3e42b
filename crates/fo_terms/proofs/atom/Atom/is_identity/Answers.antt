use Rattle.std.proofs.Common.{sym, ap, ◌∙◌}
use Rattle.fo_terms.specs.Same.{is_term}
use Rattle.fo_terms.specs.Normal.{is_identity}
use Rattle.fo_terms.proofs.Sameness.{test_is, is_term_sound, is_term_itself}
use Rattle.fo_terms.proofs.atom.Atom.is_identity.Goals as goal

pub returns-in-Eq : goal.returns-in-Eq
returns-in-Eq c = test_is is_term is_term_sound is_term_itself c.same.result c.in-Eq.s c.in-Eq.t c.same.ensures.0 c.same.ensures.1 ∙ ap is_identity (sym c.in-Eq.is)
