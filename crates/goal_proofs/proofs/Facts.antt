-- The facts one after another.
use Rattle.std.proofs.Common.{◌≡◌, ◌∙◌, ℕ, ◌+◌, ◌<◌, IsTrue, List, [], ◌∷◌, ◌++◌, take, get_or, length, sym, ap, subst, append_assoc}
use Rattle.std.specs.List.{fold}
use Rattle.std.proofs.lemmas.List.{take_more}
use Rattle.std.proofs.lemmas.List.Sums.{fold_more}
use Rattle.hol_terms.specs.declared.env.Env.{Env}
use Rattle.goal_search.specs.declared.listing.Listing.{Listing}
use Rattle.goal_search.specs.Fitting.{fits_at, AllFit}
use Rattle.goal_search.specs.Inputs.{with_fact, nothing}

pub fits_next : (old new : Env) (facts : List ℕ) (i : ℕ) → new ≡ old → AllFit old facts → i < length facts → IsTrue (fits_at new (get_or facts i 0))
fits_next old new facts i same fit lt = subst (λ (e : Env). IsTrue (fits_at e (get_or facts i 0))) (sym same) (fit i 0 lt)

pub leaves_more : (facts : List ℕ) (i : ℕ) → i < length facts → (before now after : List ℕ) → now ≡ before ++ take i facts → after ≡ now ++ get_or facts i 0 ∷ [] → after ≡ before ++ take (i + 1) facts
leaves_more facts i lt before now after had more =
    more ∙ ap (λ l. l ++ get_or facts i 0 ∷ []) had ∙ append_assoc before (take i facts) (get_or facts i 0 ∷ []) ∙ ap (λ l. before ++ l) (sym (take_more facts i 0 lt))

pub listed_more : (old new : Env) (facts : List ℕ) (i : ℕ) → i < length facts → (l m : Listing) → new ≡ old → l ≡ fold (with_fact old) nothing (take i facts) → m ≡ with_fact new l (get_or facts i 0) →
    m ≡ fold (with_fact old) nothing (take (i + 1) facts)
listed_more old new facts i lt l m same had more =
    more ∙ ap (λ e. with_fact e l (get_or facts i 0)) same ∙ ap (λ k. with_fact old k (get_or facts i 0)) had ∙ sym (fold_more (with_fact old) nothing facts i 0 lt)
