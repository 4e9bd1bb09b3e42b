use Rattle.std.proofs.Common.{◌≡◌, [], drop}
use Rattle.theory_reader.specs.Sound.{fact_names}
use Rattle.theory_reader.specs.Declaring.{assumptions}
use Rattle.theory_reader.specs.inner.Stages.{so_far, Agrees}
use Rattle.theory_reader.proofs.assume.assumed.Given as goal

abbrev pub invariant-loop-hyp : goal.invariant-loop-hyp
invariant-loop-hyp l =
    record {
      rest : assumptions l.text (so_far l.fn.parts) l.goal l.assumes (drop l.hyp-index l.hyps) ≡ assumptions l.text (so_far l.fn.parts) l.goal [] l.hyps;
      names : l.names ≡ fact_names l.assumes;
      parts : l.parts ≡ l.fn.parts;
      agrees : Agrees l.parts;
    }
