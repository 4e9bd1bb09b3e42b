-- The inputs are offered in their normal forms.
use Rattle.std.proofs.Common.{◌≡◌, ℕ, ◌+◌, List, ◌∷◌, drop, sym, ap, ◌∙◌, Some, slice_get}
use Rattle.std.proofs.lemmas.List.{drop_more}
use Rattle.std.proofs.lemmas.Option.{get_or_from_slice_get, slice_get_within}
use Rattle.fo_terms.specs.declared.clause.Clause.{Clause}
use Rattle.fo_terms.specs.Normal.{normal_of}
use Rattle.fo_infer.specs.declared.refutation.Origin.TheVariants.{Input}
use Rattle.fo_infer.specs.Inferences.{Position}
use Rattle.fo_infer.specs.Lines.{Follows}
use Rattle.metis_core.specs.Search.{normal_forms}

module _ (inputs : List Clause) (i : ℕ) (input copy made : Clause) (at : slice_get inputs i ≡ Some input) (copied : copy ≡ input) (normal : made.literals ≡ normal_of copy.literals) where
  normal_input : made.literals ≡ normal_of input.literals
  normal_input = normal ∙ ap (λ c. normal_of c.literals) copied

  pub next_form : normal_forms (drop i inputs) ≡ made ∷ normal_forms (drop (i + 1) inputs)
  next_form =
      let whole : drop i inputs ≡ input ∷ drop (i + 1) inputs = drop_more inputs i input (slice_get_within inputs i input at) ∙ ap (λ c. c ∷ drop (i + 1) inputs) (get_or_from_slice_get inputs i input input at) in
      let same : made ≡ record { literals = normal_of input.literals } = λ j. record { literals = normal_input j } in
      ap normal_forms whole ∙ ap (λ c. c ∷ normal_forms (drop (i + 1) inputs)) (sym same)

  pub input_follows : (position : Position) (earlier : List Clause) → Follows position inputs earlier (Input i) made
  input_follows position earlier = record { input = input; input_is = at; normal = normal_input }
