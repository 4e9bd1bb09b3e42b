-- What `filter` answers: a line for each fact that the filter chooses.
use Rattle.std.specs.Prelude.{ℕ, List, [], ◌∷◌, ◌++◌, codes, decimal, get_or}
use Rattle.std.specs.List.{flat_map}
use Rattle.theory_reader.specs.declared.theory.Theory.{Theory}
use Rattle.theory_reader.specs.Sound.{fact_names}
use Rattle.theory_reader.specs.Seen.{seen}
use Rattle.mepo_filter.specs.declared.chosen.Chosen.{Chosen}
use Rattle.mepo_filter.specs.Mepo.{mepo}
use Rattle.mepo_filter.specs.Slices.{slice_at}
use Rattle.slot_work.specs.Visible.{visible}
use Rattle.sledge_engine.specs.Files.{Outside}
use Rattle.sledge_engine.specs.Goals.{AboutGoal}
use Rattle.sledge_engine.specs.Texts.{Is}
use Rattle.sledge_engine.specs.Words.{SliceLine}

-- what the slice with this number chooses of the visible facts
abbrev pub slice_choice : Theory → ℕ → ℕ → List Chosen
slice_choice t goal k = mepo t (visible t goal) goal (slice_at k)

-- a fact's name, its round and its score
abbrev pub chosen_line : List (List ℕ) → Chosen → List ℕ
chosen_line names c = get_or names c.fact [] ++ (32 ∷ decimal c.round) ++ (32 ∷ decimal c.top) ++ (47 ∷ decimal c.bottom) ++ codes "\n"

abbrev pub filter_text : Theory → ℕ → List Chosen → List ℕ
filter_text t goal chosen = flat_map (chosen_line (fact_names (seen t goal))) chosen

abbrev pub FilterReply : Outside → SliceLine → ℕ → List ℕ → Type 0
FilterReply o l = AboutGoal o l.theory l.goal (λ t goal. Is 0 (filter_text t goal (slice_choice t goal l.slice)))
