-- Steps of the code as rules on equations with the bindings put through them.
use Rattle.std.proofs.Common.{◌≡◌, ℕ, false, List, [], ◌∷◌, ◌++◌, map, length, refl, sym, ap, subst, ◌∙◌}
use Rattle.std.proofs.lemmas.List.{map-append, append-nil, length-map}
use Rattle.std.specs.List.{zip}
use Rattle.fo_terms.specs.declared.term.FoTerm.{FoTerm}
use Rattle.fo_terms.specs.Substitution.{var, fun, put, occurs_in}
use Rattle.fo_terms.proofs.Substitution.{put_put, put_itself}
use Rattle.fo_unify.specs.declared.subst.Bind.{Bind}
use Rattle.fo_unify.specs.Lookup.{term_of}
use Rattle.fo_unify.specs.Unified.{put_sides, bound_by, Unified, same, turned, parts, bound}
use Rattle.fo_unify.specs.inner.Triangle.{one, extended, solved_from}
use Rattle.fo_unify.specs.inner.Leads.{Carries, Binding}
use Rattle.fo_unify.proofs.Closing.{term_of_one}

pub put_sides-append : (u : ℕ → FoTerm) (es fs : List (FoTerm × FoTerm)) → put_sides u (es ++ fs) ≡ put_sides u es ++ put_sides u fs
put_sides-append u es fs = map-append (λ e. (put u e.0, put u e.1)) es fs

put_sides-zip : (u : ℕ → FoTerm) (xs ys : List FoTerm) → put_sides u (zip xs ys) ≡ zip (map (put u) xs) (map (put u) ys)
put_sides-zip u [] ys = refl
put_sides-zip u (x ∷ xs) [] = refl
put_sides-zip u (x ∷ xs) (y ∷ ys) = ap (λ es. (put u x, put u y) ∷ es) (put_sides-zip u xs ys)

put_sides-twice : (w u : ℕ → FoTerm) (es : List (FoTerm × FoTerm)) → put_sides w (put_sides u es) ≡ put_sides (λ y. put w (u y)) es
put_sides-twice w u [] = refl
put_sides-twice w u (e ∷ es) = λ i. (put_put w u e.0 i, put_put w u e.1 i) ∷ put_sides-twice w u es i

pub put_sides-itself : (es : List (FoTerm × FoTerm)) → put_sides var es ≡ es
put_sides-itself [] = refl
put_sides-itself (e ∷ es) = λ i. (put_itself e.0 i, put_itself e.1 i) ∷ put_sides-itself es i

module _ (u : ℕ → FoTerm) (s t : FoTerm) (old : List (FoTerm × FoTerm)) where
  -- the equation that is taken stands behind the others
  at_end : (a b : FoTerm) → put u s ≡ a → put u t ≡ b → put_sides u old ++ (a, b) ∷ [] ≡ put_sides u (old ++ (s, t) ∷ [])
  at_end a b is it = λ i. (ap (λ p. put_sides u old ++ p ∷ []) (λ j. (sym is j, sym it j)) ∙ sym (put_sides-append u old ((s, t) ∷ []))) i

  pub carries_same : put u s ≡ put u t → Carries u (old ++ (s, t) ∷ []) old
  carries_same e later h =
      subst (λ es. Unified es later) (at_end (put u t) (put u t) e refl)
      (same (put u t) (put_sides u old) [] later (subst (λ es. Unified es later) (sym (append-nil (put_sides u old))) h))

  pub carries_parts : (f : ℕ) (xs ys : List FoTerm) → put u s ≡ fun f (map (put u) xs) → put u t ≡ fun f (map (put u) ys) → length xs ≡ length ys
      → Carries u (old ++ (s, t) ∷ []) (old ++ zip xs ys)
  carries_parts f xs ys is it lengths later h =
      let now : put_sides u (old ++ zip xs ys) ≡ put_sides u old ++ zip (map (put u) xs) (map (put u) ys) ++ [] =
      put_sides-append u old (zip xs ys) ∙ ap (λ es. put_sides u old ++ es) (put_sides-zip u xs ys) ∙ sym (append-nil (put_sides u old ++ zip (map (put u) xs) (map (put u) ys))) in
      subst (λ es. Unified es later) (at_end (fun f (map (put u) xs)) (fun f (map (put u) ys)) is it)
      (parts f (map (put u) xs) (map (put u) ys) (put_sides u old) [] later (length-map xs (put u) ∙ lengths ∙ sym (length-map ys (put u))) (subst (λ es. Unified es later) now h))

  module _ (x : ℕ) (w : FoTerm) (lacks : occurs_in x (put u w) ≡ false) where
    -- the other equations, with the new binding put through them
    others : (later : List Bind) → Unified (put_sides (extended u (record { var = x; term = w })) old) later
        → Unified (put_sides u old ++ (var x, put u w) ∷ []) (bound_by later x (put u w) ∷ later)
    others later h =
        let b : Bind = record { var = x; term = put u w } in
        let now : put_sides (extended u (record { var = x; term = w })) old ≡ put_sides (term_of (b ∷ [])) (put_sides u old ++ []) =
        sym (put_sides-twice (one x (put u w)) u old) ∙ ap (λ v. put_sides v (put_sides u old)) (sym (term_of_one b)) ∙ ap (put_sides (term_of (b ∷ []))) (sym (append-nil (put_sides u old))) in
        bound x (put u w) (put_sides u old) [] later lacks (subst (λ es. Unified es later) now h)

    pub binding_left : put u s ≡ var x → put u t ≡ put u w → Binding u (record { var = x; term = w }) (old ++ (s, t) ∷ []) old
    binding_left is it later h = subst (λ es. Unified es (bound_by later x (put u w) ∷ later)) (at_end (var x) (put u w) is it) (others later h)

    pub binding_right : put u t ≡ var x → put u s ≡ put u w → Binding u (record { var = x; term = w }) (old ++ (s, t) ∷ []) old
    binding_right it is later h =
        subst (λ es. Unified es (bound_by later x (put u w) ∷ later)) (at_end (put u w) (var x) is it)
        (turned (put u w) (var x) (put_sides u old) [] (bound_by later x (put u w) ∷ later) (others later h))

-- ---- the bindings that the rules end with

abbrev pub finished_from : (ℕ → FoTerm) → List Bind → List Bind → List Bind
finished_from u [] later = later
finished_from u (b ∷ bs) later = bound_by (finished_from (extended u b) bs later) b.var (put u b.term) ∷ finished_from (extended u b) bs later

pub finished_push : (u : ℕ → FoTerm) (bs : List Bind) (b : Bind) (later : List Bind)
    → finished_from u (bs ++ b ∷ []) later ≡ finished_from u bs (bound_by later b.var (put (solved_from u bs) b.term) ∷ later)
finished_push u [] b later = refl
finished_push u (c ∷ bs) b later = ap (λ rest. bound_by rest c.var (put u c.term) ∷ rest) (finished_push (extended u c) bs b later)
