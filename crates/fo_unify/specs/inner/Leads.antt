-- What taking equations apart comes to, under the bindings made so far.
use Rattle.std.specs.Prelude.{◌≡◌, ℕ, ◌+◌, ◌<◌, true, false, List, [], ◌∷◌, ◌++◌}
use Rattle.fo_terms.specs.declared.term.FoTerm.{FoTerm}
use Rattle.fo_terms.specs.Substitution.{put, occurs_in}
use Rattle.fo_terms.specs.Weight.{size_of}
use Rattle.fo_unify.specs.declared.subst.Bind.{Bind}
use Rattle.fo_unify.specs.declared.triangle.Found.{Found}
use Rattle.fo_unify.specs.declared.triangle.Found.TheVariants.{Done, Clash, Binds}
use Rattle.fo_unify.specs.Unifier.{Equates, Unifies}
use Rattle.fo_unify.specs.Unified.{put_sides, bound_by, Unified}
use Rattle.fo_unify.specs.inner.Triangle.{Ready, Solves, solution, extended, left_size}

-- under the bindings, the fact P on a substitution is the fact Q
abbrev pub Under : List Bind → ((ℕ → FoTerm) → Type 0) → ((ℕ → FoTerm) → Type 0) → Type 0
Under bs P Q = (v : ℕ → FoTerm) → Solves v bs → (P v → Q v) × (Q v → P v)

-- the new binding, and what is left beside it
pub record Next (bs : List Bind) (old new : (ℕ → FoTerm) → Type 0) (b : Bind) : Type 0 where
  pub ready : Ready (solution bs) b
  pub same : Under bs old (λ v. new v × (v b.var ≡ put v b.term))

-- rules that solve the new equations under u go on from the old ones
abbrev pub Carries : (ℕ → FoTerm) → List (FoTerm × FoTerm) → List (FoTerm × FoTerm) → Type 0
Carries u old new = (later : List Bind) → Unified (put_sides u new) later → Unified (put_sides u old) later

-- the same where one step makes a binding
abbrev pub Binding : (ℕ → FoTerm) → Bind → List (FoTerm × FoTerm) → List (FoTerm × FoTerm) → Type 0
Binding u b old new = (later : List Bind) → Unified (put_sides (extended u b) new) later → Unified (put_sides u old) (bound_by later b.var (put u b.term) ∷ later)

-- of a free variable and a root
abbrev pub BoundTo : List Bind → ℕ → FoTerm → Found → Type 0
BoundTo bs x t Done = ⊥
BoundTo bs x t Clash = occurs_in x (put (solution bs) t) ≡ true
BoundTo bs x t (Binds y r) = (y ≡ x) × (r.now ≡ t) × (occurs_in x (put (solution bs) t) ≡ false)

-- of one equation, with those that were and that are left
abbrev pub Goes : List Bind → FoTerm → FoTerm → List (FoTerm × FoTerm) → List (FoTerm × FoTerm) → Found → Type 0
Goes bs s t old new Done = Under bs (λ v. Unifies v old × Equates v s t) (λ v. Unifies v new)
    × (left_size (solution bs) new < left_size (solution bs) old + size_of (put (solution bs) s))
    × Carries (solution bs) (old ++ (s, t) ∷ []) new
Goes bs s t old new Clash = (v : ℕ → FoTerm) → Solves v bs → Equates v s t → ⊥
Goes bs s t old new (Binds x r) = (new ≡ old) × Next bs (λ v. Equates v s t) (λ v. Unit {0}) (record { var = x; term = r.now })
    × Binding (solution bs) (record { var = x; term = r.now }) (old ++ (s, t) ∷ []) new

-- of all equations
abbrev pub Leads : List Bind → List (FoTerm × FoTerm) → List (FoTerm × FoTerm) → Found → Type 0
Leads bs old new Done = ((v : ℕ → FoTerm) → Solves v bs → Unifies v old) × Unified (put_sides (solution bs) old) []
Leads bs old new Clash = (v : ℕ → FoTerm) → Solves v bs → Unifies v old → ⊥
Leads bs old new (Binds x r) = Next bs (λ v. Unifies v old) (λ v. Unifies v new) (record { var = x; term = r.now })
    × Binding (solution bs) (record { var = x; term = r.now }) old new
