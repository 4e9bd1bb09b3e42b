-- The constants of one fact more join the relevant ones.
use Rattle.std.proofs.Common.{◌≡◌, ℕ, ◌+◌, ◌<◌, Bool, List, [], ◌∷◌, ◌++◌, length, get_or, take, map, sym, ap, ◌∙◌}
use Rattle.std.specs.Prelude.{◌||◌}
use Rattle.std.specs.List.{list_any}
use Rattle.std.proofs.lemmas.List.{map_more}
use Rattle.std.proofs.lemmas.List.Folds.{list_any-append}
use mathlib.Core.Path.{fun_ext}
use Rattle.mepo_filter.specs.Constants.{occurs_in, with_all}
use Rattle.mepo_filter.specs.Scores.{Candidate}
use Rattle.mepo_filter.specs.Rounds.{joined}
use Rattle.mepo_filter.proofs.TableLemmas.{or-assoc, or-false}

pub joined-push : (relevant : ℕ → Bool) (fs : List Candidate) (f : Candidate) → with_all (joined relevant fs) f.constants ≡ joined relevant (fs ++ f ∷ [])
joined-push relevant fs f = fun_ext (λ (c : ℕ).
    or-assoc (relevant c) (list_any (λ g. occurs_in g.constants c) fs) (occurs_in f.constants c)
    ∙ ap (λ b. relevant c || (list_any (λ (g : Candidate). occurs_in g.constants c) fs || b)) (sym (or-false (occurs_in f.constants c)))
    ∙ ap (λ b. relevant c || b) (sym (list_any-append (λ (g : Candidate). occurs_in g.constants c) fs (f ∷ []))))

pub joined-more : {X : Type 0} (relevant : ℕ → Bool) (h : X → Candidate) (xs : List X) (i : ℕ) (d : X) → i < length xs →
    with_all (joined relevant (map h (take i xs))) (h (get_or xs i d)).constants ≡ joined relevant (map h (take (i + 1) xs))
joined-more relevant h xs i d within =
    joined-push relevant (map h (take i xs)) (h (get_or xs i d)) ∙ ap (joined relevant) (sym (map_more h xs i d within))
