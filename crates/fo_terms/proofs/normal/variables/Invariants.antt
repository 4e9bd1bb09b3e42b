use Rattle.std.proofs.Common.{◌≡◌, ◌==◌, [], take, map}
use Rattle.std.specs.List.{concat}
use Rattle.fo_terms.specs.Normal.{literal_variables}
use Rattle.fo_terms.specs.inner.Gathered.{all_added}
use Rattle.fo_terms.proofs.normal.variables.Given as goal

abbrev pub invariant-loop-l : goal.invariant-loop-l
invariant-loop-l l = l.seen ≡ all_added ◌==◌ [] (concat (map (λ r. literal_variables r.now) (take l.l-index l.literals)))
