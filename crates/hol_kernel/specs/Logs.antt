-- What contracts see of a log.
use Rattle.std.specs.Prelude.{ℕ, ◌<◌, List, length, slice_get, unwrap_or}
use Rattle.std.specs.FinSet as set
use Rattle.hol_terms.specs.declared.env.Env.{Env}
use Rattle.hol_terms.specs.declared.term.Term.{Term}
use Rattle.kernel_rules.specs.declared.step.Step.{Step}
use Rattle.kernel_rules.specs.declared.sequent.Sequent.{Sequent}
use Rattle.kernel_rules.specs.Connectives.{verum}
use Rattle.kernel_rules.specs.Rules.{seq}

-- the steps of a derivation and the sequents that they give; each sequent is a theorem, by its place
pub record Logged : Type 0 where
  pub env : Env
  pub steps : List Step
  pub sequents : List Sequent

abbrev pub logged : Env → List Step → List Sequent → Logged
logged env steps sequents = record { env = env; steps = steps; sequents = sequents }

-- the sequent at a place; `{} : true` where there is none
unfoldable pub seq_at : List Sequent → ℕ → Sequent
seq_at sequents i = unwrap_or (slice_get sequents i) (seq set.empty verum)

-- theorem `i` of a log
abbrev pub thm : Logged → ℕ → Sequent
thm log i = seq_at log.sequents i

-- the log has a theorem `i`
abbrev pub IsThm : Logged → ℕ → Type 0
IsThm log i = i < length log.sequents

-- fact `n` of an environment; `true` where there is none
unfoldable pub fact_at : Env → ℕ → Term
fact_at env n = unwrap_or (slice_get env.facts n) verum
