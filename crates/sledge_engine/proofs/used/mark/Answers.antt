use Rattle.std.proofs.Common.{◌<◌, [], ◌∷◌, ◌++◌, length, sym, ap, subst}
use Rattle.kernel_rules.specs.Derivations.{leaf}
use Rattle.sledge_engine.specs.inner.Marks.{Marks}
use Rattle.sledge_engine.proofs.Marking.{one_marked}
use Rattle.sledge_engine.proofs.used.mark.Goals as goal

pub returns-then-number-len : goal.returns-then-number-len
returns-then-number-len c =
    λ count numbers m.
    let marks = c.args.marks.now in
    let n = c.in-Fact.number in
    let within : n < length marks = subst (λ k. n < k) c.len.ensures c.if-number-len.true in
    let after : Marks count (numbers ++ n ∷ []) c.set.new.self = subst (Marks count (numbers ++ n ∷ [])) (sym c.set.ensures) (one_marked count numbers marks n within m) in
    subst (λ l. Marks count (numbers ++ l) c.set.new.self) (sym (ap leaf c.in-Fact.is)) after
