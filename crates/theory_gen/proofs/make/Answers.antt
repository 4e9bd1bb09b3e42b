use Rattle.std.proofs.Common.{append_assoc, add-one, ◌∙◌, ap, ◌++◌}
use Rattle.theory_gen.specs.Generated.{constant, fact, lines_below}
use Rattle.theory_gen.proofs.make.Goals as goal

pub loop-j-preserved : goal.loop-j-preserved
loop-j-preserved c = rw add-one (c.in_ok-put_fact.ensures ∙ ap (λ xs. xs ++ fact c.loop-j.j) c.loop-j.invariant ∙ append_assoc (lines_below constant c.args.n) (lines_below fact c.loop-j.j) (fact c.loop-j.j))
