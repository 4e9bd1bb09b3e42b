use Rattle.std.proofs.Common.{◌<◌, ◌++◌, ◌∷◌, [], List, get_or, arith, sym, ap, ◌∙◌, subst}
use Rattle.std.specs.Prelude.{All}
use Rattle.clause_ring.specs.declared.entry.Entry.{Entry}
use Rattle.clause_ring.proofs.Kept.{comes, waits-more, held}
use Rattle.clause_ring.proofs.ring.Ring.push.Goals as goal

pub invariant_of-self-in-Ok : goal.invariant_of-self-in-Ok
invariant_of-self-in-Ok c =
    let Q : List Entry → Type 0 = λ es. All (λ other. other.number < c.args.entry.number) es in
    let here = held c.self.inside.buckets.items c.args.entry.weight c.index_mut.result.now (omega (arith, c.self.invariant.many, c.requires.light)) c.index_mut.ensures.value in
    comes c.self.inside.buckets.items c.self.inside.ages c.push-2.new.self c.args.entry c.push.new.self c.self.invariant c.in-Ok.ensures c.requires.light (subst Q (sym c.self.view_is) c.requires.newest)
    (c.in_ok-push.ensures.ok ∙ ap (λ l. l ++ c.next-place.result ∷ []) (sym here) ∙ ap (λ p. get_or c.self.inside.buckets.items c.args.entry.weight [] ++ p ∷ []) c.next-place.ensures)

pub returns-in-Ok-clause-ok : goal.returns-in-Ok-clause-ok
returns-in-Ok-clause-ok c = waits-more c.self.inside.ages c.push-2.new.self c.args.entry c.in-Ok.ensures ∙ ap (λ l. l ++ c.args.entry ∷ []) c.self.view_is
