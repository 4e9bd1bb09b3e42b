-- What a refutation of tagged clauses is lifted from and to.
use Rattle.std.specs.Prelude.{◌≡◌, ℕ, ◌<◌, List, Some, slice_get}
use Rattle.hol_terms.specs.declared.sig.Sig.{Sig}
use Rattle.fo_terms.specs.declared.literal.Literal.{Literal}
use Rattle.fo_terms.specs.declared.clause.Clause.{Clause}
use Rattle.tagged_terms.specs.Readings.{Signs, Types}
use Rattle.tagged_terms.specs.Clauses.{IsClause}
use Rattle.hyp_sets.specs.Sets.{TermSet, Among}
use Rattle.kernel_rules.specs.declared.step.ThmId.{ThmId}
use Rattle.kernel_rules.specs.Connectives.{falsum}
use Rattle.hol_kernel.specs.Logs.{Logged, IsThm, thm}
use Rattle.hol_clauses.specs.Literals.{allowed}
use Rattle.clause_instances.specs.Theorems.{clause_of, AreSigns, VarFree}

-- the clause is tagged for some types of its variables
abbrev pub IsTaggedClause : Signs → List Literal → Type 0
IsTaggedClause signs ls = (types : Types) × IsClause signs types ls

-- the signature has bool, and the signs' types and constants are its
pub record AreSignsOver (sig : Sig) (signs : Signs) : Type 0 where
  pub has_bool : 0 < sig.types
  pub serve : AreSigns sig signs

-- each input is a tagged clause, with a theorem that concludes `false`
pub record AreInputs (log : Logged) (signs : Signs) (clauses : List Clause) (thms : List ThmId) : Type 0 where
  pub tagged : (n : ℕ) (c : Clause) → slice_get clauses n ≡ Some c → IsTaggedClause signs c.literals
  pub theorem : (n : ℕ) (c : Clause) → slice_get clauses n ≡ Some c → (t : ThmId) × (slice_get thms n ≡ Some t) × IsThm log t.0 × ((thm log t.0).concl ≡ falsum)

-- the hypotheses of each input's theorem are in the base or deny literals of its clause
abbrev pub AreOver : Logged → Signs → List Clause → List ThmId → TermSet → Type 0
AreOver log signs clauses thms base = (n : ℕ) (c : Clause) (t : ThmId) → slice_get clauses n ≡ Some c → slice_get thms n ≡ Some t → Among (thm log t.0).hyps (allowed base (clause_of signs c.literals))

-- theorem `r` concludes `false`, and its hypotheses are in each base without free variables that serves the inputs' theorems
pub record IsRefutation (old new : Logged) (signs : Signs) (clauses : List Clause) (thms : List ThmId) (r : ℕ) : Type 0 where
  pub is_thm : IsThm new r
  pub concl : (thm new r).concl ≡ falsum
  pub among : (base : TermSet) → VarFree base → AreOver old signs clauses thms base → Among (thm new r).hyps base
