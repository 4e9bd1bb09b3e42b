use Rattle.std.proofs.Common.{◌≡◌, drop}
use Rattle.std.specs.List.{list_all}
use Rattle.hol_terms.specs.Formulas.{is_sentence}
use Rattle.hol_terms.proofs.together.are_sentences.Given as goal

abbrev pub invariant-loop-t : goal.invariant-loop-t
invariant-loop-t l = list_all (is_sentence l.sig) (drop l.t-index l.terms) ≡ list_all (is_sentence l.sig) l.terms
