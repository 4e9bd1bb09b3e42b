use Rattle.std.proofs.Common.{◌≡◌, ◌==◌, take, map}
use Rattle.std.specs.List.{concat}
use Rattle.fo_terms.specs.Normal.{variables_of}
use Rattle.fo_terms.specs.inner.Gathered.{all_added}
use Rattle.fo_terms.proofs.normal.+gathering.Given as goal

abbrev pub invariant-gather_all-loop-t : goal.invariant-gather_all-loop-t
invariant-gather_all-loop-t l = l.seen ≡ all_added ◌==◌ l.initial.seen (concat (map variables_of (take l.t-index l.terms)))
