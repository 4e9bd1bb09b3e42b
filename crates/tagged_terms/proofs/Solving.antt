-- Bindings that the rules of unification make fit the types of the variables.
use Rattle.std.proofs.Common.{◌≡◌, ℕ, Bool, true, false, ◌==◌, if◌then◌else◌, List, [], ◌∷◌, ◌++◌, refl, sym, ap, ◌∙◌, Some}
use Rattle.std.specs.Prelude.{unwrap_or}
use Rattle.std.specs.List.{zip}
use Rattle.hol_terms.specs.declared.ty.Ty.{Ty}
use Rattle.hol_terms.specs.declared.term.Term.{Term}
use Rattle.fo_terms.specs.declared.term.FoTerm.{FoTerm}
use Rattle.fo_terms.specs.Substitution.{var, fun}
use Rattle.fo_terms.proofs.Substitution.{equal_from}
use Rattle.fo_unify.specs.declared.subst.Bind.{Bind}
use Rattle.fo_unify.specs.Lookup.{lookup, term_of}
use Rattle.fo_unify.specs.Unified.{put_sides, bound_by, Unified, done, same, turned, parts, bound}
use Rattle.tagged_terms.specs.Readings.{Signs, Types, variable, free, IsCore, Core}
use Rattle.tagged_terms.specs.Fits.{AreClosed, typed_put, Fits, Paired, AllPaired}
use Rattle.tagged_terms.specs.Laws.{UnifiersFit}
use Rattle.tagged_terms.proofs.Steps.{read_var}
use Rattle.tagged_terms.proofs.Standing.{puts}
use Rattle.tagged_terms.proofs.Keeping.{core_kept}
use Rattle.tagged_terms.proofs.Pairing.{parts_paired, turned_pair, bound_pair, paired_append, paired_left, paired_right, pair_kept}

module _ (signs : Signs) (types : Types) (closed : AreClosed signs) where
  variable_read : (x : ℕ) (s : Ty) → types x ≡ Some s → IsCore signs types (var x) s (free x s)
  variable_read x s is = read_var signs types x ∙ ap (λ o. variable o x) is

  pub none_fits : Fits signs types types (term_of [])
  none_fits x s is = puts signs types (term_of []) x s (free x s) (variable_read x s is)

  -- one more binding, before others that fit
  binding_at : (x : ℕ) (t : FoTerm) (later : List Bind) (a : Ty) (d : Term) → types x ≡ Some a → IsCore signs types t a d → Fits signs types types (term_of later)
      → (y : ℕ) (s : Ty) → types y ≡ Some s → (test : Bool) → (x == y) ≡ test
      → (e : Term) × IsCore signs types (unwrap_or (if test then Some t else lookup later y) (var y)) s e
  binding_at x t later a d of is fits y s at true eq =
      let one : Some a ≡ Some s = sym of ∙ ap types (equal_from x y eq) ∙ at in
      let type : a ≡ s = cc in
      (d, is ∙ ap (λ z. Core z d) type)
  binding_at x t later a d of is fits y s at false eq = (typed_put signs (term_of later) y s, fits y s at)

  pub binding_fits : (b : Bind) (later : List Bind) (a : Ty) (d : Term) → types b.var ≡ Some a → IsCore signs types b.term a d → Fits signs types types (term_of later)
      → Fits signs types types (term_of (b ∷ later))
  binding_fits b later a d of is fits y s at =
      let found = binding_at b.var b.term later a d of is fits y s at (b.var == y) refl in
      puts signs types (term_of (b ∷ later)) y s found.0 found.1

  sides_kept : (u : ℕ → FoTerm) → Fits signs types types u → (es : List (FoTerm × FoTerm)) → AllPaired signs types es → AllPaired signs types (put_sides u es)
  sides_kept u fits [] h = tt
  sides_kept u fits (e ∷ es) h = (pair_kept signs types types u closed fits e.0 e.1 h.0, sides_kept u fits es h.1)

  -- the equations before and after one of them
  others : (before after : List (FoTerm × FoTerm)) (e : FoTerm × FoTerm) → AllPaired signs types (before ++ e ∷ after) → AllPaired signs types (before ++ after)
  others before after e h = paired_append signs types before after (paired_left signs types before (e ∷ after) h) (paired_right signs types before (e ∷ after) h).1

  -- another one, or others, in its place
  instead : (before after fs : List (FoTerm × FoTerm)) (e : FoTerm × FoTerm) → AllPaired signs types (before ++ e ∷ after) → AllPaired signs types fs → AllPaired signs types (before ++ fs ++ after)
  instead before after fs e h k =
      paired_append signs types (before ++ fs) after (paired_append signs types before fs (paired_left signs types before (e ∷ after) h) k) (paired_right signs types before (e ∷ after) h).1

  it : (before after : List (FoTerm × FoTerm)) (e : FoTerm × FoTerm) → AllPaired signs types (before ++ e ∷ after) → Paired signs types e.0 e.1
  it before after e h = (paired_right signs types before (e ∷ after) h).0

  pub solved_fits : (es : List (FoTerm × FoTerm)) (bs : List Bind) → Unified es bs → AllPaired signs types es → Fits signs types types (term_of bs)
  solved_fits _ _ done h = none_fits
  solved_fits _ _ (same t before after bs u) h = solved_fits (before ++ after) bs u (others before after (t, t) h)
  solved_fits _ _ (turned s t before after bs u) h =
      solved_fits (before ++ (t, s) ∷ after) bs u
      (paired_append signs types before ((t, s) ∷ after) (paired_left signs types before ((s, t) ∷ after) h)
      (turned_pair signs types s t (it before after (s, t) h), (paired_right signs types before ((s, t) ∷ after) h).1))
  solved_fits _ _ (parts f xs ys before after bs l u) h =
      solved_fits (before ++ zip xs ys ++ after) bs u (instead before after (zip xs ys) (fun f xs, fun f ys) h (parts_paired signs types f xs ys (it before after (fun f xs, fun f ys) h)))
  solved_fits _ _ (bound x t before after later absent u) h =
      let is = bound_pair signs types x t (it before after (var x, t) h) in
      let first = binding_fits (record { var = x; term = t }) [] is.ty is.term is.of is.is none_fits in
      let rest = solved_fits (put_sides (term_of (record { var = x; term = t } ∷ [])) (before ++ after)) later u
      (sides_kept (term_of (record { var = x; term = t } ∷ [])) first (before ++ after) (others before after (var x, t) h)) in
      binding_fits (bound_by later x t) later is.ty _ is.of (core_kept signs types types (term_of later) closed rest t is.ty is.term is.is) rest

pub unifiers_fit : (binds : List Bind) → UnifiersFit binds
unifiers_fit binds signs types es closed paired u = solved_fits signs types closed es binds u paired
