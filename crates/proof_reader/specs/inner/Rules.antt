-- The rules of the walk, by the reader's own names.
use Rattle.std.specs.Prelude.{◌≡◌, ℕ, List, [], ◌∷◌, Option, Some, None, map, codes}
use Rattle.hol_terms.specs.declared.ty.Ty.{Ty}
use Rattle.hol_terms.specs.declared.term.Term.{Term}
use Rattle.kernel_rules.specs.declared.step.Step.{Step}
use Rattle.kernel_rules.specs.declared.step.Step.TheVariants as steps
use Rattle.kernel_rules.specs.declared.step.ThmId.{ThmId}
use Rattle.proof_syntax.specs.Forms.{Arg, says, form}
use Rattle.proof_syntax.specs.Machine.{FactKind, NumberKind, TypeKind, TermKind, kind_of, Rule, rule, of_fact, of_none, of_term, of_one, of_two, of_three, of_term_one, of_term_two, of_terms_one, of_variable, of_variable_term}
use Rattle.proof_reader.specs.declared.rule as code
use Rattle.proof_reader.specs.declared.rule.TermRule.TheVariants as term
use Rattle.proof_reader.specs.declared.rule.TheoremRule.TheVariants as theorem
use Rattle.proof_reader.specs.declared.rule.PairRule.TheVariants as pair
use Rattle.proof_reader.specs.declared.rule.MixedRule.TheVariants as mixed
use Rattle.proof_reader.specs.declared.rule.VariableRule.TheVariants as variable
use Rattle.proof_reader.specs.declared.rule.Rule.TheVariants as any

abbrev pub term_word : code.TermRule.TermRule → List ℕ
term_word term.Assume = codes "assume"
term_word term.Refl = codes "refl"
term_word term.Beta = codes "beta"

abbrev pub term_step : code.TermRule.TermRule → Term → Step
term_step term.Assume t = steps.Assume t
term_step term.Refl t = steps.Refl t
term_step term.Beta t = steps.Beta t

abbrev pub term_rule : code.TermRule.TermRule → Rule
term_rule k = rule (term_word k) (TermKind ∷ []) (of_term (term_step k))

abbrev pub theorem_word : code.TheoremRule.TheoremRule → List ℕ
theorem_word theorem.AndLeft = codes "andleft"
theorem_word theorem.AndRight = codes "andright"
theorem_word theorem.Choose = codes "choose"

abbrev pub theorem_step : code.TheoremRule.TheoremRule → ThmId → Step
theorem_step theorem.AndLeft a = steps.AndLeft a
theorem_step theorem.AndRight a = steps.AndRight a
theorem_step theorem.Choose a = steps.Choose a

abbrev pub theorem_rule : code.TheoremRule.TheoremRule → Rule
theorem_rule k = rule (theorem_word k) (NumberKind ∷ []) (of_one (theorem_step k))

abbrev pub pair_word : code.PairRule.PairRule → List ℕ
pair_word pair.ImpElim = codes "impelim"
pair_word pair.AndIntro = codes "andintro"
pair_word pair.NotElim = codes "notelim"
pair_word pair.Iff = codes "iff"

abbrev pub pair_step : code.PairRule.PairRule → ThmId → ThmId → Step
pair_step pair.ImpElim a b = steps.ImpElim a b
pair_step pair.AndIntro a b = steps.AndIntro a b
pair_step pair.NotElim a b = steps.NotElim a b
pair_step pair.Iff a b = steps.Iff a b

abbrev pub pair_rule : code.PairRule.PairRule → Rule
pair_rule k = rule (pair_word k) (NumberKind ∷ NumberKind ∷ []) (of_two (pair_step k))

abbrev pub mixed_word : code.MixedRule.MixedRule → List ℕ
mixed_word mixed.ImpIntro = codes "impintro"
mixed_word mixed.OrLeft = codes "orleft"
mixed_word mixed.OrRight = codes "orright"
mixed_word mixed.NotIntro = codes "notintro"
mixed_word mixed.Classical = codes "classical"
mixed_word mixed.AllElim = codes "allelim"

abbrev pub mixed_step : code.MixedRule.MixedRule → Term → ThmId → Step
mixed_step mixed.ImpIntro t a = steps.ImpIntro t a
mixed_step mixed.OrLeft t a = steps.OrLeft t a
mixed_step mixed.OrRight t a = steps.OrRight t a
mixed_step mixed.NotIntro t a = steps.NotIntro t a
mixed_step mixed.Classical t a = steps.Classical t a
mixed_step mixed.AllElim t a = steps.AllElim t a

abbrev pub mixed_rule : code.MixedRule.MixedRule → Rule
mixed_rule k = rule (mixed_word k) (TermKind ∷ NumberKind ∷ []) (of_term_one (mixed_step k))

abbrev pub variable_word : code.VariableRule.VariableRule → List ℕ
variable_word variable.AllIntro = codes "allintro"
variable_word variable.Abs = codes "abs"

abbrev pub variable_step : code.VariableRule.VariableRule → ℕ → Ty → ThmId → Step
variable_step variable.AllIntro n ty a = steps.AllIntro n ty a
variable_step variable.Abs n ty a = steps.Abs n ty a

abbrev pub variable_rule : code.VariableRule.VariableRule → Rule
variable_rule k = rule (variable_word k) (NumberKind ∷ TypeKind ∷ NumberKind ∷ []) (of_variable (variable_step k))

abbrev pub rule_of : code.Rule.Rule → Rule
rule_of any.Fact = rule (codes "fact") (FactKind ∷ []) (of_fact steps.Fact)
rule_of any.TrueIntro = rule (codes "trueintro") [] (of_none steps.TrueIntro)
rule_of any.OrElim = rule (codes "orelim") (NumberKind ∷ NumberKind ∷ NumberKind ∷ []) (of_three steps.OrElim)
rule_of any.Subst = rule (codes "subst") (TermKind ∷ NumberKind ∷ NumberKind ∷ []) (of_term_two steps.Subst)
rule_of any.ExIntro = rule (codes "exintro") (TermKind ∷ TermKind ∷ NumberKind ∷ []) (of_terms_one steps.ExIntro)
rule_of any.Inst = rule (codes "inst") (NumberKind ∷ TypeKind ∷ TermKind ∷ NumberKind ∷ []) (of_variable_term steps.Inst)
rule_of (any.OfTerm k) = term_rule k
rule_of (any.OfTheorem k) = theorem_rule k
rule_of (any.OfPair k) = pair_rule k
rule_of (any.Mixed k) = mixed_rule k
rule_of (any.OfVariable k) = variable_rule k

-- the rule with this word, where there is one
abbrev pub IsNamed : {K : Type 0} → (K → Rule) → List ℕ → Option K → Type 0
IsNamed {K = K} rules w None = (k : K) → w ≡ (rules k).word → ⊥
IsNamed rules w (Some k) = w ≡ (rules k).word

-- the step that the rule makes of these arguments
abbrev pub IsMade : Rule → List Arg → Step → Type 0
IsMade r args s = (map kind_of args ≡ r.kinds) × (r.make args ≡ Some s) × (form s ≡ says r.word args)

-- the rules that are in no group
abbrev pub IsSingle : code.Rule.Rule → Type 0
IsSingle (any.OfTerm k) = ⊥
IsSingle (any.OfTheorem k) = ⊥
IsSingle (any.OfPair k) = ⊥
IsSingle (any.Mixed k) = ⊥
IsSingle (any.OfVariable k) = ⊥
IsSingle _ = Unit {0}

abbrev pub IsNamedSingle : List ℕ → Option code.Rule.Rule → Type 0
IsNamedSingle w None = (r : code.Rule.Rule) → IsSingle r → w ≡ (rule_of r).word → ⊥
IsNamedSingle w (Some r) = w ≡ (rule_of r).word
