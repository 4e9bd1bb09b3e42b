-- Light inferences, one behind another.
use Rattle.std.proofs.Common.{◌≡◌, ◌++◌, ◌∷◌, [], List, sym}
use Rattle.std.specs.Prelude.{nat_le}
use Rattle.std.proofs.lemmas.List.Elements.{filter-append}
use Rattle.fo_terms.specs.Weight.{clause_size}
use Rattle.fo_infer.specs.declared.made.Made.{Made}
use Rattle.fo_light.specs.Light.{light}

pub light_front : (m : Made) (ms : List Made) → light (m ∷ []) ++ light ms ≡ light (m ∷ ms)
light_front m ms = sym (filter-append (λ n. nat_le (clause_size n.clause) 512) (m ∷ []) ms)
