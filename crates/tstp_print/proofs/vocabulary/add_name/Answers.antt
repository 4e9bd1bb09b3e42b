use Rattle.std.proofs.Common.{◌++◌, ◌∷◌, [], subst}
use Rattle.tstp_print.specs.inner.Tables.{Holds}
use Rattle.tstp_print.proofs.NameSets.{holds_added}
use Rattle.tstp_print.proofs.vocabulary.add_name.Goals as goal
use Rattle.tstp_print.proofs.vocabulary.add_name.Goals.{in-Ok-insert, in-Err}

pub returns : goal.returns
returns c = elim c.match-insert.branch [
  | in-Ok-insert w ↦ rw w.result-is (λ names h. subst (λ k. Holds c.insert.new.self (names ++ k ∷ [])) c.in-Ok.ensures.items
      (holds_added c.args.set.now c.insert.new.self c.in-Ok.key.items w.in-Ok-insert.ensures.updates names h))
  | in-Err w ↦ rw w.result-is tt
]
