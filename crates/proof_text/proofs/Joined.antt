-- The parts of the whole text.
use Rattle.std.proofs.Common.{◌≡◌, ℕ, List, [], ◌∷◌, ◌++◌, codes, slice_get, Some, sym, ap, ◌∙◌}
use Rattle.std.specs.Prelude.{unwrap_or}
use Rattle.std.specs.Option.{option_map, option_map_or}
use Rattle.std.proofs.lemmas.Option.{slice_get-map}
use Rattle.kernel_rules.specs.declared.step.Step.{Step}
use Rattle.theory_reader.specs.declared.statement.Goal.{Goal}
use Rattle.theory_reader.specs.declared.theory.Theory.{Theory}
use Rattle.theory_reader.specs.Sound.{goal_names, const_names, fact_names, seen_from}
use Rattle.proof_syntax.specs.Names.{Names, names_of, name_in}
use Rattle.proof_syntax.specs.Texts.{steps_text, proof_text}
use Rattle.proof_text.specs.inner.Vocabularies.{names_beside}

module _ (t : Theory) (n : ℕ) (g : Goal) (is : slice_get t.goals n ≡ Some g) where
  pub goal_name : name_in (goal_names t.goals) n ≡ g.name
  goal_name = ap (λ o. unwrap_or o []) (slice_get-map (λ h. h.name) t.goals n ∙ ap (option_map (λ h. h.name)) is)

  pub goal_vocabulary : names_of t n ≡ names_beside t g
  goal_vocabulary = ap (λ o. record { types = codes "bool" ∷ t.types; consts = const_names t.consts; facts = fact_names (option_map_or (seen_from t.facts) o []) }) is

  pub whole_text : (names : Names) (steps : List Step) (a b c d e : List ℕ) → names ≡ names_beside t g → a ≡ codes "sledge proof 1\ngoal " → b ≡ a ++ g.name → c ≡ b ++ 10 ∷ [] →
      d ≡ c ++ steps_text names 0 steps → e ≡ d ++ codes "end\n" → e ≡ proof_text t n steps
  whole_text names steps a b c d e hn ha hb hc hd he =
      he ∙ ap (λ z. z ++ codes "end\n") (hd ∙ ap (λ z. z ++ steps_text names 0 steps) (hc ∙ ap (λ z. z ++ 10 ∷ []) (hb ∙ ap (λ z. z ++ g.name) ha)))
      ∙ ap (λ z. (((codes "sledge proof 1\ngoal " ++ g.name) ++ 10 ∷ []) ++ z) ++ codes "end\n") (ap (λ m. steps_text m 0 steps) (hn ∙ sym goal_vocabulary))
      ∙ ap (λ z. (((codes "sledge proof 1\ngoal " ++ z) ++ 10 ∷ []) ++ steps_text (names_of t n) 0 steps) ++ codes "end\n") (sym goal_name)
