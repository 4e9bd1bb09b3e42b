-- How equations are solved, by rules: each takes one equation, wherever it stands, and the last one solves it for a variable. The bindings
-- come out in solved form, since each new one has the later ones put through it.
use Rattle.std.specs.Prelude.{◌≡◌, ℕ, false, List, [], ◌∷◌, ◌++◌, map, length, Option, Some, None}
use Rattle.std.specs.List.{zip}
use Rattle.fo_terms.specs.declared.term.FoTerm.{FoTerm}
use Rattle.fo_terms.specs.Substitution.{var, fun, put, occurs_in}
use Rattle.fo_unify.specs.declared.subst.Bind.{Bind}
use Rattle.fo_unify.specs.declared.subst.Subst.{Subst}
use Rattle.fo_unify.specs.Lookup.{term_of}
use Rattle.fo_unify.specs.Unifier.{Unifies, IsMostGeneral}

-- the substitution put through both sides of each equation
abbrev pub put_sides : (ℕ → FoTerm) → List (FoTerm × FoTerm) → List (FoTerm × FoTerm)
put_sides v es = map (λ e. (put v e.0, put v e.1)) es

-- the binding of a variable with the later bindings put through its term
abbrev pub bound_by : List Bind → ℕ → FoTerm → Bind
bound_by later x t = record { var = x; term = put (term_of later) t }

pub data Unified : List (FoTerm × FoTerm) → List Bind → Type 0 where
  -- no equation is left
  done : Unified [] []
  -- equal sides
  same : (t : FoTerm) (before after : List (FoTerm × FoTerm)) (bs : List Bind) → Unified (before ++ after) bs → Unified (before ++ (t, t) ∷ after) bs
  -- sides exchanged
  turned : (s t : FoTerm) (before after : List (FoTerm × FoTerm)) (bs : List Bind) → Unified (before ++ (t, s) ∷ after) bs → Unified (before ++ (s, t) ∷ after) bs
  -- one head and as many arguments
  parts : (f : ℕ) (xs ys : List FoTerm) (before after : List (FoTerm × FoTerm)) (bs : List Bind) → length xs ≡ length ys
      → Unified (before ++ zip xs ys ++ after) bs → Unified (before ++ (fun f xs, fun f ys) ∷ after) bs
  -- a variable and a term without it, which is put through the other equations
  bound : (x : ℕ) (t : FoTerm) (before after : List (FoTerm × FoTerm)) (later : List Bind) → occurs_in x t ≡ false
      → Unified (put_sides (term_of (record { var = x; term = t } ∷ [])) (before ++ after)) later
      → Unified (before ++ (var x, t) ∷ after) (bound_by later x t ∷ later)

-- an answer with bindings was made by these rules
abbrev pub MadeByRules : List (FoTerm × FoTerm) → Option Subst → Type 0
MadeByRules es (Some u) = Unified es u.binds
MadeByRules es None = Unit {0}

-- a most general unifier that was made by these rules, or there is no unifier
abbrev pub MetBy : List (FoTerm × FoTerm) → Option (List Bind) → Type 0
MetBy es (Some binds) = IsMostGeneral es binds × Unified es binds
MetBy es None = (v : ℕ → FoTerm) → Unifies v es → ⊥
