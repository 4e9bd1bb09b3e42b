-- One more binding.
use Rattle.std.proofs.Common.{◌≡◌, ℕ, List, [], ◌∷◌, ◌++◌, sym, ap, subst, ◌∙◌}
use Rattle.std.proofs.lemmas.List.{map-append}
use Rattle.fo_terms.specs.declared.term.FoTerm.{FoTerm}
use Rattle.fo_unify.specs.declared.subst.Bind.{Bind}
use Rattle.fo_unify.specs.declared.triangle.Held.{Held}
use Rattle.fo_unify.specs.Unifier.{Unifies}
use Rattle.fo_unify.specs.inner.Triangle.{Good, Solves}
use Rattle.fo_unify.specs.Shown.{as_bind, as_binds}
use Rattle.fo_unify.specs.inner.Leads.{Next}
use Rattle.fo_unify.proofs.Triangles.{good_push, solves_push, solves_front}
use Rattle.fo_terms.specs.Substitution.{var}

pub binds_push : (hs more : List Held) (h : Held) → more ≡ hs ++ h ∷ [] → as_binds more ≡ as_binds hs ++ as_bind h ∷ []
binds_push hs more h is = ap as_binds is ∙ map-append as_bind hs (h ∷ [])

module _ (goal : List (FoTerm × FoTerm)) (bs more : List Bind) (b : Bind) (old new : List (FoTerm × FoTerm))
    (is : more ≡ bs ++ b ∷ []) (next : Next bs (λ v. Unifies v old) (λ v. Unifies v new) b)
    (good : Good bs)
    (keeps : (v : ℕ → FoTerm) → Unifies v goal → Solves v bs × Unifies v old)
    (back : (v : ℕ → FoTerm) → Solves v bs → Unifies v old → Unifies v goal) where
  pub grown_good : Good more
  grown_good = subst Good (sym is) (good_push var bs b good next.ready)

  pub grown_keeps : (v : ℕ → FoTerm) → Unifies v goal → Solves v more × Unifies v new
  grown_keeps v u =
      let before = keeps v u in
      let after = (next.same v before.0).0 before.1 in
      (subst (Solves v) (sym is) (solves_push v bs b before.0 after.1), after.0)

  pub grown_back : (v : ℕ → FoTerm) → Solves v more → Unifies v new → Unifies v goal
  grown_back v solves meets =
      let parts = solves_front v bs b (subst (Solves v) is solves) in
      back v parts.0 ((next.same v parts.0).1 (meets, parts.1))
