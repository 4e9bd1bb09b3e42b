-- Bindings in the order in which they were made: the term of one may hold the variables of later ones, and of earlier ones too, which
-- then stand for their terms.
use Rattle.std.specs.Prelude.{◌≡◌, ℕ, ◌==◌, if◌then◌else◌, false, List, [], ◌∷◌, map, sum}
use Rattle.fo_terms.specs.declared.term.FoTerm.{FoTerm, out-FoTerm}
use Rattle.fo_terms.specs.declared.term.FoTerm.TheOpen.{FoTerm-F}
use Rattle.fo_terms.specs.Weight.{size_of}
use Rattle.fo_unify.specs.declared.subst.Bind.{Bind}
use Rattle.fo_terms.specs.Substitution.{var, put, occurs_in}

-- the term in place of the variable x, and each other variable as it is
abbrev pub one : ℕ → FoTerm → ℕ → FoTerm
one x t y = if x == y then t else var y

-- the substitution u, and then the term of the binding in place of its variable
abbrev pub extended : (ℕ → FoTerm) → Bind → ℕ → FoTerm
extended u b y = put (one b.var (put u b.term)) (u y)

abbrev pub solved_from : (ℕ → FoTerm) → List Bind → ℕ → FoTerm
solved_from u [] = u
solved_from u (b ∷ bs) = solved_from (extended u b) bs

-- the substitution that the bindings stand for
abbrev pub solution : List Bind → ℕ → FoTerm
solution binds = solved_from var binds

-- a term that is no bound variable
abbrev pub IsRoot : (ℕ → FoTerm) → FoTerm → Type 0
IsRoot u t = (y : ℕ) → t ≡ var y → u y ≡ var y

pub record Ready (u : ℕ → FoTerm) (b : Bind) : Type 0 where
  pub free : u b.var ≡ var b.var
  pub root : IsRoot u b.term
  pub apart : occurs_in b.var (put u b.term) ≡ false

abbrev pub GoodFrom : (ℕ → FoTerm) → List Bind → Type 0
GoodFrom u [] = Unit {0}
GoodFrom u (b ∷ bs) = Ready u b × GoodFrom (extended u b) bs

abbrev pub Good : List Bind → Type 0
Good binds = GoodFrom var binds

-- one walk through the bindings, as a variable may lead to later ones alone
abbrev pub stepped_at : Bind → FoTerm → FoTerm-F FoTerm → FoTerm
stepped_at b t (FoTerm-F.Var y) = if b.var == y then b.term else t
stepped_at b t (FoTerm-F.Fun f args) = t

abbrev pub stepped : Bind → FoTerm → FoTerm
stepped b t = stepped_at b t (out-FoTerm t)

abbrev pub walked : List Bind → FoTerm → FoTerm
walked [] t = t
walked (b ∷ bs) t = walked bs (stepped b t)

-- the substitution v solves each binding
abbrev pub Solves : (ℕ → FoTerm) → List Bind → Type 0
Solves v [] = Unit {0}
Solves v (b ∷ bs) = (v b.var ≡ put v b.term) × Solves v bs

-- the size of the left sides under a substitution
abbrev pub left_size : (ℕ → FoTerm) → List (FoTerm × FoTerm) → ℕ
left_size u es = sum (map (λ e. size_of (put u e.0)) es)

-- the solved form
abbrev pub resolved_bind : (ℕ → FoTerm) → Bind → Bind
resolved_bind u b = record { var = b.var; term = put u b.term }

abbrev pub resolved : List Bind → List Bind
resolved binds = map (resolved_bind (solution binds)) binds

-- the variable x doesn't stand in the term that y stands for
abbrev pub Lacks : List Bind → ℕ → ℕ → Type 0
Lacks binds x y = occurs_in x (solution binds y) ≡ false
