-- Each line of a refutation over tagged clauses is a tagged clause, and what it stands for follows by the rule from instances of what its parents stand for.
use Rattle.std.specs.Prelude.{◌≡◌, ℕ, Bool, List, [], ◌∷◌, ◌++◌, slice_set}
use Rattle.std.specs.List.{remove}
use Rattle.hol_terms.specs.declared.sig.Sig.{Sig}
use Rattle.fo_terms.specs.declared.term.FoTerm.{FoTerm}
use Rattle.fo_terms.specs.declared.literal.Literal.{Literal}
use Rattle.fo_terms.specs.declared.clause.Clause.{Clause}
use Rattle.fo_terms.specs.Substitution.{put_literals}
use Rattle.fo_terms.specs.Normal.{normal_of}
use Rattle.fo_unify.specs.declared.subst.Bind.{Bind}
use Rattle.fo_unify.specs.Lookup.{term_of}
use Rattle.fo_unify.specs.Unifier.{IsMostGeneral}
use Rattle.fo_unify.specs.Unified.{Unified}
use Rattle.fo_infer.specs.Inferences.{renamed_apart, Factors, Reflects, Resolves, Paramodulates, sought, put_in, literal_replaced, tagged_position}
use Rattle.tagged_terms.specs.Readings.{Signs, Types}
use Rattle.tagged_terms.specs.Clauses.{TypedLiteral, literals_of, IsClause}
use Rattle.tagged_terms.specs.Fits.{AreClosed, AreOf, typed_put, Fits}
use Rattle.tagged_lines.specs.TypedLiterals.{typed_literals}
use Rattle.tagged_lines.specs.Variables.{own, final, finished, finished_apart}
use Rattle.tagged_lines.specs.Places.{formula_path}
use Rattle.tagged_lines.specs.Rules.{KeepsAll, FactorsTo, ReflectsTo, ResolvesTo, ParamodulatesTo}

-- the substitution gives each typed variable of the clause a core of its type over the new types, and the clause's instance stands for the instance of what it stands for
pub record IsInstance (signs : Signs) (old new : Types) (u : ℕ → FoTerm) (ls : List Literal) : Type 0 where
  pub fits : Fits signs (own ls old) new u
  pub stands : literals_of signs (put_literals u ls) ≡ typed_literals (typed_put signs u) (literals_of signs ls)

-- a tagged clause, made by the rule from an instance of one parent
pub record FollowsTyped (signs : Signs) (old : Types) (p c : List Literal) (u : ℕ → FoTerm) (Rule : List TypedLiteral → List TypedLiteral → Type 0) : Type 0 where
  pub types : Types
  -- types of a signature stay so
  pub of : (sig : Sig) → AreOf sig old → AreOf sig types
  pub tagged : IsClause signs types c
  pub parent : IsInstance signs old types u p
  pub rule : Rule (literals_of signs (put_literals u p)) (literals_of signs c)

-- of two parents
pub record FollowTyped (signs : Signs) (left right : Types) (p q c : List Literal) (u w : ℕ → FoTerm) (Rule : List TypedLiteral → List TypedLiteral → List TypedLiteral → Type 0) : Type 0 where
  pub types : Types
  pub of : (sig : Sig) → AreOf sig left → AreOf sig right → AreOf sig types
  pub tagged : IsClause signs types c
  pub left_parent : IsInstance signs left types u p
  pub right_parent : IsInstance signs right types w q
  pub rule : Rule (literals_of signs (put_literals u p)) (literals_of signs (put_literals w q)) (literals_of signs c)

-- an input's normal form
abbrev pub InputsLift : List Literal → Type 0
InputsLift p = (signs : Signs) (types : Types) → AreClosed signs → IsClause signs types p → FollowsTyped signs types p (normal_of p) (final p) KeepsAll

-- the literals before normal form
abbrev pub factored : Clause → List Bind → ℕ → List Literal
factored p binds j = put_literals (term_of binds) (remove p.literals j)

abbrev pub FactoringLifts : Clause → ℕ → ℕ → Clause → Type 0
FactoringLifts p i j c = (signs : Signs) (types : Types) (binds : List Bind) → AreClosed signs → IsClause signs types p.literals
    → (rule : Factors p i j c) → IsMostGeneral rule.equations binds → Unified rule.equations binds
    → FollowsTyped signs types p.literals c.literals (finished binds (factored p binds j)) (FactorsTo i j)

abbrev pub ReflexivityLifts : Clause → ℕ → Clause → Type 0
ReflexivityLifts p i c = (signs : Signs) (types : Types) (binds : List Bind) → AreClosed signs → IsClause signs types p.literals
    → (rule : Reflects p i c) → IsMostGeneral ((rule.s, rule.t) ∷ []) binds → Unified ((rule.s, rule.t) ∷ []) binds
    → FollowsTyped signs types p.literals c.literals (finished binds (factored p binds i)) (ReflectsTo i)

abbrev pub resolved : Clause → Clause → List Bind → ℕ → ℕ → List Literal
resolved p q binds i j = put_literals (term_of binds) (remove p.literals i ++ remove (renamed_apart p q) j)

abbrev pub ResolutionLifts : Clause → Clause → ℕ → ℕ → Clause → Type 0
ResolutionLifts p q i j c = (signs : Signs) (left right : Types) (binds : List Bind) → AreClosed signs → IsClause signs left p.literals → IsClause signs right q.literals
    → (rule : Resolves p q i j c) → IsMostGeneral ((rule.s, rule.t) ∷ []) binds → Unified ((rule.s, rule.t) ∷ []) binds
    → FollowTyped signs left right p.literals q.literals c.literals (finished binds (resolved p q binds i j)) (finished_apart p binds (resolved p q binds i j)) (ResolvesTo i j)

abbrev pub paramodulated : Clause → Clause → List Bind → ℕ → ℕ → Literal → List Literal
paramodulated p q binds i j l = put_literals (term_of binds) (remove p.literals i ++ slice_set (renamed_apart p q) j l)

abbrev pub ParamodulationLifts : Clause → Clause → ℕ → Bool → ℕ → List ℕ → Clause → Type 0
ParamodulationLifts p q i swapped j path c = (signs : Signs) (left right : Types) (binds : List Bind) → AreClosed signs → IsClause signs left p.literals → IsClause signs right q.literals
    → (rule : Paramodulates tagged_position p q i swapped j path c) → IsMostGeneral ((sought swapped rule.a rule.b, rule.u) ∷ []) binds → Unified ((sought swapped rule.a rule.b, rule.u) ∷ []) binds
    → let before = paramodulated p q binds i j (literal_replaced path (put_in swapped rule.a rule.b) rule.into) in
    FollowTyped signs left right p.literals q.literals c.literals (finished binds before) (finished_apart p binds before) (ParamodulatesTo i swapped j (formula_path rule.into.atom path))
