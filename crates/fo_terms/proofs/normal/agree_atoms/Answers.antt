use Rattle.fo_terms.specs.Same.{is_atom}
use Rattle.fo_terms.proofs.Sameness.{test_is, is_atom_sound, is_atom_itself}
use Rattle.fo_terms.proofs.normal.agree_atoms.Goals as goal

pub returns : goal.returns
returns c = test_is is_atom is_atom_sound is_atom_itself c.same.result c.args.a.now c.args.b.now c.same.ensures.0 c.same.ensures.1
