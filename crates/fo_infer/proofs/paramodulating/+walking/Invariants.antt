use Rattle.std.proofs.Common.{◌≡◌, ◌+◌, ◌*◌, map, sum, take}
use Rattle.fo_terms.specs.Weight.{size_of}
use Rattle.fo_infer.specs.Paths.{paths_of, behind_places}
use Rattle.fo_infer.specs.Inferences.{PairGives}
use Rattle.fo_infer.specs.inner.Adding.{Adds}
use Rattle.fo_infer.specs.inner.Places.{position_of, rules_behind}
use Rattle.fo_infer.specs.inner.Findings.{all_made}
use Rattle.fo_infer.proofs.paramodulating.+walking.Given as goal

abbrev pub invariant-walk_all-loop-k : goal.invariant-walk_all-loop-k
invariant-walk_all-loop-k l = record {
  path : l.path ≡ l.initial.path;
  adds : Adds (PairGives (position_of l.from.plain) l.from.p.now l.from.q.now) (rules_behind l.from.i l.from.swapped l.fn.j l.initial.path (behind_places 0 (map paths_of (take l.k l.terms)))) (all_made l.from.p.now l.from.apart.now l.initial.out) (all_made l.from.p.now l.from.apart.now l.out);
}

abbrev pub decreases-walk : goal.decreases-walk
decreases-walk l = 2 * size_of l.t.now

abbrev pub decreases-walk_all : goal.decreases-walk_all
decreases-walk_all l = 2 * sum (map size_of l.terms.now) + 1
