use Rattle.std.proofs.Common.{◌≡◌, ◌==◌, ap, ◌∙◌}
use Rattle.fo_terms.specs.Substitution.{put_literals}
use Rattle.fo_terms.specs.Normal.{numbering, lasting, firsts, clause_variables}
use Rattle.fo_terms.specs.inner.Gathered.{lent}
use Rattle.fo_terms.proofs.clause.Clause.normal.Goals as goal

pub returns : goal.returns
returns c =
    let kept : lent c.in_ok-kept.kept ≡ lasting c.args.self.literals = c.in_ok-kept.ensures ∙ ap lasting c.as_slice.ensures in
    let second : lent c.as_slice-2.result.now ≡ lasting c.args.self.literals = ap lent c.as_slice-2.ensures ∙ kept in
    let fourth : lent c.as_slice-4.result.now ≡ lasting c.args.self.literals = ap lent c.as_slice-4.ensures ∙ kept in
    let seen : c.as_slice-3.result.now ≡ firsts ◌==◌ (clause_variables (lasting c.args.self.literals)) = c.as_slice-3.ensures ∙ c.in_ok-seen.ensures ∙ ap (λ ls. firsts ◌==◌ (clause_variables ls)) second in
    c.in_ok-renumber_literals.ensures ∙ (λ i. put_literals (numbering (seen i)) (fourth i))
