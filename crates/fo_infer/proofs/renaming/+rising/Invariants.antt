use Rattle.std.proofs.Common.{◌≡◌, max, take, map}
use Rattle.std.specs.List.{concat}
use Rattle.fo_terms.specs.Normal.{variables_of}
use Rattle.fo_infer.specs.Inferences.{above_all}
use Rattle.fo_infer.proofs.renaming.+rising.Given as goal

abbrev pub invariant-above_terms-loop-t : goal.invariant-above_terms-loop-t
invariant-above_terms-loop-t l = l.n ≡ max l.initial.n (above_all (concat (map variables_of (take l.t-index l.terms))))
