-- The bindings that the rules end with are the solved form.
use Rattle.std.proofs.Common.{◌≡◌, ℕ, Bool, true, false, ◌==◌, if◌then◌else◌, List, [], ◌∷◌, ◌++◌, map, Some, refl, sym, ap, subst, ◌∙◌}
use Rattle.std.specs.Prelude.{unwrap_or}
use Rattle.fo_terms.specs.declared.term.FoTerm.{FoTerm}
use Rattle.fo_terms.specs.Substitution.{var, put}
use Rattle.fo_terms.proofs.Substitution.{put_put, put_itself, put_var}
use Rattle.fo_unify.specs.declared.subst.Bind.{Bind}
use Rattle.fo_unify.specs.Lookup.{lookup, term_of}
use Rattle.fo_unify.specs.Unified.{put_sides, bound_by, Unified}
use Rattle.fo_unify.specs.inner.Triangle.{one, extended, solved_from, solution, GoodFrom, Good, resolved_bind, resolved}
use Rattle.fo_unify.specs.inner.Leads.{Binding}
use Rattle.fo_unify.proofs.Triangles.{extends_term, one_other}
use Rattle.fo_unify.proofs.RuleSteps.{put_sides-itself, finished_from, finished_push}

through_one : (later : List Bind) (x y : ℕ) (t : FoTerm) (test : Bool) → (x == y) ≡ test
    → put (term_of later) (one x t y) ≡ unwrap_or (if test then Some (put (term_of later) t) else lookup later y) (var y)
through_one later x y t true e = ap (λ b. put (term_of later) (if b then t else var y)) e
through_one later x y t false e = ap (put (term_of later)) (one_other x y t e) ∙ put_var (term_of later) y

-- a binding and the later ones, at once
bound_by_is : (later : List Bind) (x : ℕ) (t : FoTerm) (y : ℕ) → put (term_of later) (one x t y) ≡ term_of (bound_by later x t ∷ later) y
bound_by_is later x t y = through_one later x y t (x == y) refl

-- what bindings stand for, in both forms
pub finished_is : (u : ℕ → FoTerm) (bs : List Bind) (y : ℕ) → solved_from u bs y ≡ put (term_of (finished_from u bs [])) (u y)
finished_is u [] y = sym (unbound_put (u y))
  where
    unbound_put : (t : FoTerm) → put (term_of []) t ≡ t
    unbound_put t = put_itself t
finished_is u (b ∷ bs) y =
    let later = finished_from (extended u b) bs [] in
    let t = put u b.term in
    let both : (λ z. put (term_of later) (one b.var t z)) ≡ term_of (bound_by later b.var t ∷ later) = λ i z. bound_by_is later b.var t z i in
    finished_is (extended u b) bs y ∙ put_put (term_of later) (one b.var t) (u y) ∙ ap (λ v. put v (u y)) both

resolved_from : (u w : ℕ → FoTerm) (bs : List Bind) → GoodFrom u bs → w ≡ solved_from u bs → map (resolved_bind w) bs ≡ finished_from u bs []
resolved_from u w [] good whole = refl
resolved_from u w (b ∷ bs) good whole =
    let later = finished_from (extended u b) bs [] in
    let term : put w b.term ≡ put (term_of later) (put u b.term) =
    ap (λ v. put v b.term) (whole ∙ (λ i y. finished_is (extended u b) bs y i)) ∙ sym (put_put (term_of later) (extended u b) b.term) ∙ ap (put (term_of later)) (extends_term u b good.0) in
    λ i. record { var = b.var; term = term i } ∷ resolved_from (extended u b) w bs good.1 whole i

-- the solved form is what the rules end with
pub resolved_finished : (bs : List Bind) → Good bs → resolved bs ≡ finished_from var bs []
resolved_finished bs good = resolved_from var (solution bs) bs good refl

-- ---- one more binding

abbrev pub Reaches : List (FoTerm × FoTerm) → List Bind → List (FoTerm × FoTerm) → Type 0
Reaches start bs now = (later : List Bind) → Unified (put_sides (solution bs) now) later → Unified start (finished_from var bs later)

pub reaches_push : (start old new : List (FoTerm × FoTerm)) (bs more : List Bind) (b : Bind) → more ≡ bs ++ b ∷ [] → Reaches start bs old → Binding (solution bs) b old new → Reaches start more new
reaches_push start old new bs more b is reaches rule later h =
    let here : solution more ≡ extended (solution bs) b = ap solution is ∙ solved_push var bs b in
    subst (λ fs. Unified start (finished_from var fs later)) (sym is)
    (subst (Unified start) (sym (finished_push var bs b later))
    (reaches (bound_by later b.var (put (solution bs) b.term) ∷ later) (rule later (subst (λ u. Unified (put_sides u new) later) here h))))
  where
    solved_push : (u : ℕ → FoTerm) (bs : List Bind) (b : Bind) → solved_from u (bs ++ b ∷ []) ≡ extended (solved_from u bs) b
    solved_push u [] b = refl
    solved_push u (c ∷ bs) b = solved_push (extended u c) bs b

pub reaches_start : (start : List (FoTerm × FoTerm)) → Reaches start [] start
reaches_start start later h = subst (λ es. Unified es later) (put_sides-itself start) h

-- where no equation is left, the solved form was made by the rules
pub reaches_end : (start now : List (FoTerm × FoTerm)) (bs : List Bind) → Good bs → Reaches start bs now → Unified (put_sides (solution bs) now) [] → Unified start (resolved bs)
reaches_end start now bs good reaches h = subst (Unified start) (sym (resolved_finished bs good)) (reaches [] h)
