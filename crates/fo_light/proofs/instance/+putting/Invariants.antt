use Rattle.std.proofs.Common.{◌+◌, ◌*◌, true, take, map, sum}
use Rattle.fo_terms.specs.Weight.{size_of}
use Rattle.fo_terms.specs.Substitution.{put}
use Rattle.fo_unify.specs.Lookup.{term_of}
use Rattle.fo_cells.specs.Cells.{joined}
use Rattle.fo_light.specs.Written.{cells_put, Written}
use Rattle.fo_light.proofs.instance.+putting.Given as goal

abbrev pub decreases-put_instance : goal.decreases-put_instance
decreases-put_instance l = 3 * size_of (put (term_of l.unifier.now) l.t.now)

abbrev pub decreases-put_symbol : goal.decreases-put_symbol
decreases-put_symbol l = 3 * sum (map size_of (map (put (term_of l.unifier.now)) l.args.now)) + 2

abbrev pub decreases-put_all : goal.decreases-put_all
decreases-put_all l = 3 * sum (map size_of (map (put (term_of l.unifier.now)) l.terms.now)) + 1

abbrev pub invariant-put_all-loop-t : goal.invariant-put_all-loop-t
invariant-put_all-loop-t l = Written l.initial.out (joined (map (cells_put (term_of l.unifier)) (take l.t-index l.terms))) true l.out
