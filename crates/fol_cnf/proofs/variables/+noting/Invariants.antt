use Rattle.std.proofs.Common.{◌≡◌, take, map}
use Rattle.std.specs.List.{concat}
use Rattle.fo_terms.specs.Normal.{variables_of}
use Rattle.fol_cnf.specs.Scopes.{all_inserted}
use Rattle.fol_cnf.proofs.variables.+noting.Given as goal

abbrev pub invariant-note_terms-loop-t : goal.invariant-note_terms-loop-t
invariant-note_terms-loop-t l = l.found.keys ≡ all_inserted l.initial.found.keys (concat (map variables_of (take l.t-index l.terms)))
