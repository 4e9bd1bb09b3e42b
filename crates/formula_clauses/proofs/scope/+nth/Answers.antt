use Rattle.std.proofs.Common.{rules}
use Rattle.hol_terms.proofs.Gets.{slice_get_tail}
use Rattle.formula_clauses.specs.declared.scope.Scope.TheFolds.{the_lemmas}
use Rattle.formula_clauses.proofs.scope.+nth.Goals as goal

pub returns-else-i-eq0 : goal.returns-else-i-eq0
returns-else-i-eq0 t c = search (rules, the_lemmas, slice_get_tail)
