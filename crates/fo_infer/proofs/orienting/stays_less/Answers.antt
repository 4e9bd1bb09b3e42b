use Rattle.std.proofs.Common.{refl}
use Rattle.fo_unify.specs.Lookup.{term_of}
use Rattle.fo_terms.specs.Normal.{variables_of}
use Rattle.fo_infer.proofs.Bounded.{unified_small}
use Rattle.fo_infer.proofs.Slights.{each_low}
use Rattle.fo_infer.proofs.Stable.{above_stable}
use Rattle.fo_infer.proofs.orienting.stays_less.Goals as goal

pub returns-then-is_slight : goal.returns-then-is_slight
returns-then-is_slight c = λ told u binds slight general.
    let s = c.args.s.now in
    let t = c.args.t.now in
    let left = c.if-is_slight.ensures refl in
    let right = c.is_slight-then-is_slight.ensures told in
    above_stable (term_of binds)
    (unified_small s u binds general (each_low 8 (variables_of s) left.1) (each_low 8 (variables_of u) slight.1) left.0 slight.0 t right.0)
    (c.if-not-is_less.ensures.0 refl)
