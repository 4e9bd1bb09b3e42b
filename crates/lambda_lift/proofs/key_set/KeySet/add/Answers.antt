use Rattle.std.proofs.Common.{◌≡◌, ◌∙◌, sym, ap, subst, nat_eq, ◌∷◌, [], ◌++◌, map}
use Rattle.std.specs.Prelude.{position, None}
use Rattle.std.specs.Cmp.Lexicographic.{pointwise}
use Rattle.lambda_lift.proofs.KeySets.{key_added}
use Rattle.lambda_lift.proofs.key_set.KeySet.add.Goals as goal
use Rattle.lambda_lift.proofs.key_set.KeySet.add.Goals.{in-Ok, in-Err}

pub returns-clause-ok : goal.returns-clause-ok
returns-clause-ok c =
    elim c.match-insert.branch [
      | in-Ok w ↦
          rw w.result-is
          (ap (map (λ v. v.items)) w.in-Ok.ensures.keys
          ∙ key_added (λ v. v.items) c.self.inside.set.keys c.args.key (subst (λ l. position (pointwise nat_eq c.args.key.items) l ≡ None) (sym c.self.view_is) c.requires)
          ∙ ap (λ l. l ++ c.args.key.items ∷ []) c.self.view_is)
      | in-Err w ↦ rw w.result-is tt
    ]
