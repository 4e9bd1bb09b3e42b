-- Inferences whose clauses a search may keep: they weigh at most 512.
use Rattle.std.specs.Prelude.{nat_le, List, filter}
use Rattle.fo_terms.specs.Weight.{clause_size}
use Rattle.fo_infer.specs.declared.made.Made.{Made}
use Rattle.fo_light.specs.declared.made.FlatMade.{FlatMade}

-- the inference with its clause as a tree
abbrev pub as_made : FlatMade → Made
as_made f = record { clause = record { literals = f.clause }; rule = f.rule }

-- those that are light enough, in order
abbrev pub light : List Made → List Made
light ms = filter (λ m. nat_le (clause_size m.clause) 512) ms
