-- Theorems of tagged clauses and of their instances.
use Rattle.std.specs.Prelude.{◌≡◌, ℕ, IsTrue, List, map}
use Rattle.hol_terms.specs.declared.sig.Sig.{Sig}
use Rattle.hol_terms.specs.declared.term.Term.{Term}
use Rattle.hol_terms.specs.Formulas.{var_free}
use Rattle.fo_terms.specs.declared.term.FoTerm.{FoTerm}
use Rattle.fo_terms.specs.declared.literal.Literal.{Literal}
use Rattle.tagged_terms.specs.Readings.{Signs, Types}
use Rattle.tagged_terms.specs.Clauses as tagged
use Rattle.tagged_terms.specs.Fits.{AreClosed, AreTyped, AreOf, typed_put}
use Rattle.tagged_lines.specs.declared.variable.TypedVariable.{TypedVariable}
use Rattle.tagged_lines.specs.Lifted.{IsInstance}
use Rattle.hyp_sets.specs.Sets.{TermSet, Holds, Among}
use Rattle.kernel_rules.specs.Connectives.{falsum}
use Rattle.hol_kernel.specs.Logs.{Logged, IsThm, thm}
use Rattle.hol_terms.specs.declared.literal.TypedLiteral.{TypedLiteral}
use Rattle.hol_clauses.specs.declared.binding.Binding.{Binding}
use Rattle.hol_clauses.specs.Literals.{allowed}

-- a typed literal, as theorems have it
abbrev pub as_literal : tagged.TypedLiteral → TypedLiteral
as_literal l = record { positive = l.positive; atom = l.atom }

-- what a tagged clause stands for
abbrev pub clause_of : Signs → List Literal → List TypedLiteral
clause_of signs ls = map as_literal (tagged.literals_of signs ls)

-- the signs' types are the signature's, and each constant's term is closed and has its type
pub record AreSigns (sig : Sig) (signs : Signs) : Type 0 where
  pub closed : AreClosed signs
  pub typed : AreTyped sig signs

-- no term of the set has a free variable
abbrev pub VarFree : TermSet → Type 0
VarFree base = (x : Term) → Holds base x → IsTrue (var_free x)

-- theorem `r` concludes `false`, and whatever the base is: where theorem `th` is one of the clause `p`, `r` is one of `c`
pub record Lands (old new : Logged) (th : ℕ) (p : List TypedLiteral) (r : ℕ) (c : List TypedLiteral) : Type 0 where
  pub is_thm : IsThm new r
  pub concl : (thm new r).concl ≡ falsum
  pub lifts : (base : TermSet) → VarFree base → Among (thm old th).hyps (allowed base p) → Among (thm new r).hyps (allowed base c)

-- the substitution gives the clause an instance, both over types of the signature
pub record HasInstance (sig : Sig) (signs : Signs) (u : ℕ → FoTerm) (ls : List Literal) : Type 0 where
  pub old : Types
  pub new : Types
  pub of : AreOf sig new
  pub tagged : tagged.IsClause signs old ls
  pub instance : IsInstance signs old new u ls

-- a typed variable is bound to what the substitution puts for it
abbrev pub binding : Signs → (ℕ → FoTerm) → TypedVariable → Binding
binding signs u v = record { number = v.var; ty = v.ty; term = typed_put signs u v.var v.ty }
