use Rattle.std.proofs.Common.{true, take}
use Rattle.fo_terms.specs.Substitution.{put_literals}
use Rattle.fo_unify.specs.Lookup.{term_of}
use Rattle.fo_light.specs.Grown.{Grown}
use Rattle.fo_light.proofs.literals.add_all.Given as goal

abbrev pub invariant-loop-l : goal.invariant-loop-l
invariant-loop-l l = Grown l.initial.out (put_literals (term_of l.unifier) (take l.l-index l.literals)) true l.out
