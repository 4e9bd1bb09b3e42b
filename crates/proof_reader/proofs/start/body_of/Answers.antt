use Rattle.std.proofs.Common.{None}
use Rattle.std.proofs.lemmas.Bool.Decides.{Decides-eqb}
use Rattle.std.proofs.lemmas.Slice.Eq.{strip_prefix_is}
use Rattle.proof_syntax.specs.Reading.{first_line}
use Rattle.proof_reader.proofs.StartPieces as pieces
use Rattle.proof_reader.proofs.start.body_of.Goals as goal

pub returns-in-None-behind_line : goal.returns-in-None-behind_line
returns-in-None-behind_line c = pieces.never c.args.text.now c.lines.rest.now c.lines.invariant (strip_prefix_is Decides-eqb c.lines.rest.now first_line None c.in-None.ensures.cases) c.in-None-behind_line.ensures

pub lines-preserved : goal.lines-preserved
lines-preserved c = pieces.passes c.args.text.now c.lines.rest.now c.lines.invariant (strip_prefix_is Decides-eqb c.lines.rest.now first_line None c.in-None.ensures.cases)
    c.in-Some-behind_line.behind.now c.in-Some-behind_line.ensures
