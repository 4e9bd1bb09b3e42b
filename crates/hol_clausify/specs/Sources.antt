-- Clauses with their theorems.
use Rattle.std.specs.Prelude.{◌≡◌, ℕ, Bool, true, false, List, [], ◌∷◌, ◌++◌, map, Result, Ok, Err}
use Rattle.std.specs.FinSet as set
use Rattle.hol_terms.specs.declared.term.Term.{Term}
use Rattle.hyp_sets.specs.Sets.{TermSet, only, Among}
use Rattle.kernel_rules.specs.Connectives.{falsum, neg}
use Rattle.kernel_rules.specs.Derivations.{leaves}
use Rattle.hol_kernel.specs.Logs.{Logged, IsThm, thm, fact_at}
use Rattle.hol_kernel.specs.Growth.{SameFacts}
use Rattle.hol_clauses.specs.Literals.{allowed}
use Rattle.lambda_lift.specs.declared.table.Aux.{Aux}
use Rattle.lambda_lift.specs.Tables.{expand}
use Rattle.lambda_lift.specs.Standing.{Each, StandsAlone}
use Rattle.hol_terms.specs.declared.literal.TypedLiteral.{TypedLiteral}
use Rattle.formula_clauses.specs.declared.fault.ClauseFault.{ClauseFault}
use Rattle.formula_clauses.specs.declared.fault.ClauseFault.TheVariants.{TooLarge, NoMemory}
use Rattle.formula_clauses.specs.Walks.{Clauses}
use Rattle.formula_clauses.specs.Fits.{fits}
use Rattle.formula_clauses.specs.Clausified.{IsClausified}
use Rattle.hol_clausify.specs.declared.source.Source.{Source}
use Rattle.hol_clausify.specs.Typed.{IsTypedClause}

-- the literal as the kernel has it: its auxiliary constants expanded
abbrev pub meaning : List Aux → TypedLiteral → TypedLiteral
meaning table l = record { positive = l.positive; atom = expand table l.atom }

-- the theorem concludes `false` from the base and the negated literals
pub record IsSource (log : Logged) (base : TermSet) (table : List Aux) (s : Source) : Type 0 where
  pub is_thm : IsThm log s.thm.0
  pub concl : (thm log s.thm.0).concl ≡ falsum
  pub hyps : Among (thm log s.thm.0).hyps (allowed base (map (meaning table) s.literals))

abbrev pub literals_of : List Source → Clauses
literals_of ss = map (λ s. s.literals) ss

-- the sources of the formula `t`, which fits: its clauses over the table `old`, in order, each with its theorem over the table behind
-- them, which is the old one with more entries, and whose entries stand alone; the clauses may be encoded over it
pub record AreSources (goal : Bool) (base : TermSet) (t : Term) (old : List Aux) (log : Logged) (ss : List Source) (new : List Aux) : Type 0 where
  pub fitting : fits log.env.sig t goal ≡ true
  pub clauses : IsClausified log.env.sig old t goal (literals_of ss) new
  pub sources : Each (IsSource log base new) ss
  pub typed : Each (IsTypedClause log.env.sig new) (literals_of ss)
  pub grown : (more : List Aux) × (new ≡ old ++ more)
  pub alone : Each (StandsAlone log.env.sig) new

-- `TooLarge` comes exactly where the formula doesn't fit, and changes nothing
pub record IsTooLarge (goal : Bool) (t : Term) (before : Logged) (old : List Aux) (after : Logged) (new : List Aux) : Type 0 where
  pub unfitting : fits before.env.sig t goal ≡ false
  pub log : after ≡ before
  pub table : new ≡ old

-- a fact's sources, which rest on this fact alone
abbrev pub FactSources : ℕ → Logged → List Aux → Result (List Source) ClauseFault → Logged → List Aux → Type 0
FactSources fact before old (Ok ss) after new =
    AreSources false set.empty (fact_at before.env fact) old after ss new × (leaves after.steps ≡ leaves before.steps ++ fact ∷ [])
FactSources fact before old (Err TooLarge) after new = IsTooLarge false (fact_at before.env fact) before old after new
FactSources fact before old (Err NoMemory) after new = Unit {0}

-- the goal's sources, which rest on the negated goal and no fact
abbrev pub GoalSources : Logged → List Aux → Result (List Source) ClauseFault → Logged → List Aux → Type 0
GoalSources before old (Ok ss) after new = AreSources true (only (neg before.env.goal)) before.env.goal old after ss new × SameFacts before after
GoalSources before old (Err TooLarge) after new = IsTooLarge true before.env.goal before old after new
GoalSources before old (Err NoMemory) after new = Unit {0}
