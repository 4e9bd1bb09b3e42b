-- The rules by their words.
use Rattle.std.proofs.Common.{◌≡◌, inl, inr, ℕ, List, [], ◌∷◌, map, Some, None, refl, sym, ap, subst, ◌∙◌}
use Rattle.hol_terms.specs.declared.ty.Ty.{Ty}
use Rattle.hol_terms.specs.declared.term.Term.{Term}
use Rattle.kernel_rules.specs.declared.step.Step.{Step}
use Rattle.proof_words.specs.Sharing.{IsOneOf}
use Rattle.proof_syntax.specs.Forms.{Arg, FactArg, NumberArg, TypeArg, TermArg}
use Rattle.proof_syntax.specs.Machine.{Kind, FactKind, NumberKind, TypeKind, TermKind, kind_of, Rule, rule_in, rules}
use Rattle.proof_syntax.proofs.Numbers.{eq_false}
use Rattle.proof_reader.specs.declared.rule as code
use Rattle.proof_reader.specs.declared.rule.TermRule.TheVariants as term
use Rattle.proof_reader.specs.declared.rule.TheoremRule.TheVariants as theorem
use Rattle.proof_reader.specs.declared.rule.PairRule.TheVariants as pair
use Rattle.proof_reader.specs.declared.rule.MixedRule.TheVariants as mixed
use Rattle.proof_reader.specs.declared.rule.VariableRule.TheVariants as variable
use Rattle.proof_reader.specs.declared.rule.Rule.TheVariants as any
use Rattle.proof_reader.specs.inner.Rules.{term_rule, theorem_rule, pair_rule, mixed_rule, variable_rule, rule_of, IsMade}
use Rattle.proof_reader.specs.inner.Words.{words_of}

abbrev all : List code.Rule.Rule
all =
    any.Fact ∷
    (any.OfTerm term.Assume) ∷
    (any.Mixed mixed.ImpIntro) ∷
    (any.OfPair pair.ImpElim) ∷
    (any.OfPair pair.AndIntro) ∷
    (any.OfTheorem theorem.AndLeft) ∷
    (any.OfTheorem theorem.AndRight) ∷
    (any.Mixed mixed.OrLeft) ∷
    (any.Mixed mixed.OrRight) ∷
    any.OrElim ∷
    (any.Mixed mixed.NotIntro) ∷
    (any.OfPair pair.NotElim) ∷
    any.TrueIntro ∷
    (any.Mixed mixed.Classical) ∷
    (any.OfVariable variable.AllIntro) ∷
    (any.Mixed mixed.AllElim) ∷
    any.ExIntro ∷
    (any.OfTheorem theorem.Choose) ∷
    (any.OfTerm term.Refl) ∷
    any.Subst ∷
    (any.OfTerm term.Beta) ∷
    (any.OfVariable variable.Abs) ∷
    (any.OfPair pair.Iff) ∷
    any.Inst ∷ []

are_all : map rule_of all ≡ rules
are_all = refl

-- ---- a word that is a rule's

pub found : (r : code.Rule.Rule) → rule_in (rule_of r).word rules ≡ Some (rule_of r)
found any.Fact = refl
found (any.OfTerm term.Assume) = refl
found (any.Mixed mixed.ImpIntro) = refl
found (any.OfPair pair.ImpElim) = refl
found (any.OfPair pair.AndIntro) = refl
found (any.OfTheorem theorem.AndLeft) = refl
found (any.OfTheorem theorem.AndRight) = refl
found (any.Mixed mixed.OrLeft) = refl
found (any.Mixed mixed.OrRight) = refl
found any.OrElim = refl
found (any.Mixed mixed.NotIntro) = refl
found (any.OfPair pair.NotElim) = refl
found any.TrueIntro = refl
found (any.Mixed mixed.Classical) = refl
found (any.OfVariable variable.AllIntro) = refl
found (any.Mixed mixed.AllElim) = refl
found any.ExIntro = refl
found (any.OfTheorem theorem.Choose) = refl
found (any.OfTerm term.Refl) = refl
found any.Subst = refl
found (any.OfTerm term.Beta) = refl
found (any.OfVariable variable.Abs) = refl
found (any.OfPair pair.Iff) = refl
found any.Inst = refl

one_of : (rs : List code.Rule.Rule) (v : List ℕ) → IsOneOf (words_of (map rule_of rs)) v → (r : code.Rule.Rule) × (v ≡ (rule_of r).word)
one_of [] v h = absurd h
one_of (r ∷ rs) v (inl e) = (r, e)
one_of (r ∷ rs) v (inr h) = one_of rs v h

pub word_rule : (v : List ℕ) → IsOneOf (words_of rules) v → (r : code.Rule.Rule) × (v ≡ (rule_of r).word)
word_rule v h = one_of all v h

pub no_rule : (v : List ℕ) → ((r : code.Rule.Rule) → v ≡ (rule_of r).word → ⊥) → IsOneOf (words_of rules) v → ⊥
no_rule v n h = let r = word_rule v h in n r.0 r.1

-- ---- any other word

not_found : (rs : List Rule) (v : List ℕ) → (IsOneOf (words_of rs) v → ⊥) → rule_in v rs ≡ None
not_found [] v n = refl
not_found (r ∷ rs) v n =
    let apart = eq_false v r.word (λ e. n (inl e)) in
    let later = not_found rs v (λ h. n (inr h)) in
    rw apart later

pub not_rule : (v : List ℕ) → (IsOneOf (words_of rules) v → ⊥) → rule_in v rules ≡ None
not_rule v n = not_found rules v n

-- ---- arguments of these kinds

record Split (args : List Arg) (kind : Kind) (kinds : List Kind) : Type 0 where
  pub head : Arg
  pub others : List Arg
  pub is : args ≡ head ∷ others
  pub is_kind : kind_of head ≡ kind
  pub are_kinds : map kind_of others ≡ kinds

split : (args : List Arg) (kind : Kind) (kinds : List Kind) → map kind_of args ≡ kind ∷ kinds → Split args kind kinds
split [] kind kinds e = cc
split (a ∷ args) kind kinds e = record { head = a; others = args; is = refl; is_kind = cc; are_kinds = cc }

nothing : (args : List Arg) → map kind_of args ≡ [] → args ≡ []
nothing [] e = refl
nothing (a ∷ args) e = cc

fact_arg : (a : Arg) → kind_of a ≡ FactKind → (n : ℕ) × (a ≡ FactArg n)
fact_arg (FactArg n) e = (n, refl)
fact_arg (NumberArg n) e = cc
fact_arg (TypeArg n) e = cc
fact_arg (TermArg n) e = cc

number_arg : (a : Arg) → kind_of a ≡ NumberKind → (n : ℕ) × (a ≡ NumberArg n)
number_arg (FactArg n) e = cc
number_arg (NumberArg n) e = (n, refl)
number_arg (TypeArg n) e = cc
number_arg (TermArg n) e = cc

type_arg : (a : Arg) → kind_of a ≡ TypeKind → (ty : Ty) × (a ≡ TypeArg ty)
type_arg (FactArg n) e = cc
type_arg (NumberArg n) e = cc
type_arg (TypeArg n) e = (n, refl)
type_arg (TermArg n) e = cc

term_arg : (a : Arg) → kind_of a ≡ TermKind → (t : Term) × (a ≡ TermArg t)
term_arg (FactArg n) e = cc
term_arg (NumberArg n) e = cc
term_arg (TypeArg n) e = cc
term_arg (TermArg n) e = (n, refl)

abbrev Makes : Rule → List Arg → Type 0
Makes r args = (s : Step) × IsMade r args s

-- what holds of all arguments of a kind holds of the first
module _ (P : List Arg → Type 0) (args : List Arg) (kinds : List Kind) where
  by_fact : map kind_of args ≡ FactKind ∷ kinds → ((n : ℕ) (others : List Arg) → map kind_of others ≡ kinds → P (FactArg n ∷ others)) → P args
  by_fact e h =
      let s = split args FactKind kinds e in
      let a = fact_arg s.head s.is_kind in
      subst P (sym (s.is ∙ ap (λ x. x ∷ s.others) a.1)) (h a.0 s.others s.are_kinds)

  by_number : map kind_of args ≡ NumberKind ∷ kinds → ((n : ℕ) (others : List Arg) → map kind_of others ≡ kinds → P (NumberArg n ∷ others)) → P args
  by_number e h =
      let s = split args NumberKind kinds e in
      let a = number_arg s.head s.is_kind in
      subst P (sym (s.is ∙ ap (λ x. x ∷ s.others) a.1)) (h a.0 s.others s.are_kinds)

  by_type : map kind_of args ≡ TypeKind ∷ kinds → ((ty : Ty) (others : List Arg) → map kind_of others ≡ kinds → P (TypeArg ty ∷ others)) → P args
  by_type e h =
      let s = split args TypeKind kinds e in
      let a = type_arg s.head s.is_kind in
      subst P (sym (s.is ∙ ap (λ x. x ∷ s.others) a.1)) (h a.0 s.others s.are_kinds)

  by_term : map kind_of args ≡ TermKind ∷ kinds → ((t : Term) (others : List Arg) → map kind_of others ≡ kinds → P (TermArg t ∷ others)) → P args
  by_term e h =
      let s = split args TermKind kinds e in
      let a = term_arg s.head s.is_kind in
      subst P (sym (s.is ∙ ap (λ x. x ∷ s.others) a.1)) (h a.0 s.others s.are_kinds)

by_none : (P : List Arg → Type 0) (args : List Arg) → map kind_of args ≡ [] → P [] → P args
by_none P args e h = subst P (sym (nothing args e)) h

-- ---- each rule makes a step of arguments of its kinds

term_case : (k : code.TermRule.TermRule) (t : Term) → Makes (term_rule k) (TermArg t ∷ [])
term_case term.Assume t = (_, (refl, refl, refl))
term_case term.Refl t = (_, (refl, refl, refl))
term_case term.Beta t = (_, (refl, refl, refl))

theorem_case : (k : code.TheoremRule.TheoremRule) (a : ℕ) → Makes (theorem_rule k) (NumberArg a ∷ [])
theorem_case theorem.AndLeft a = (_, (refl, refl, refl))
theorem_case theorem.AndRight a = (_, (refl, refl, refl))
theorem_case theorem.Choose a = (_, (refl, refl, refl))

pair_case : (k : code.PairRule.PairRule) (a b : ℕ) → Makes (pair_rule k) (NumberArg a ∷ NumberArg b ∷ [])
pair_case pair.ImpElim a b = (_, (refl, refl, refl))
pair_case pair.AndIntro a b = (_, (refl, refl, refl))
pair_case pair.NotElim a b = (_, (refl, refl, refl))
pair_case pair.Iff a b = (_, (refl, refl, refl))

mixed_case : (k : code.MixedRule.MixedRule) (t : Term) (a : ℕ) → Makes (mixed_rule k) (TermArg t ∷ NumberArg a ∷ [])
mixed_case mixed.ImpIntro t a = (_, (refl, refl, refl))
mixed_case mixed.OrLeft t a = (_, (refl, refl, refl))
mixed_case mixed.OrRight t a = (_, (refl, refl, refl))
mixed_case mixed.NotIntro t a = (_, (refl, refl, refl))
mixed_case mixed.Classical t a = (_, (refl, refl, refl))
mixed_case mixed.AllElim t a = (_, (refl, refl, refl))

variable_case : (k : code.VariableRule.VariableRule) (n : ℕ) (ty : Ty) (a : ℕ) → Makes (variable_rule k) (NumberArg n ∷ TypeArg ty ∷ NumberArg a ∷ [])
variable_case variable.AllIntro n ty a = (_, (refl, refl, refl))
variable_case variable.Abs n ty a = (_, (refl, refl, refl))

pub makes : (r : code.Rule.Rule) (args : List Arg) → map kind_of args ≡ (rule_of r).kinds → Makes (rule_of r) args
makes any.Fact args e = by_fact (Makes (rule_of any.Fact)) args [] e (λ n os0 e0. by_none (λ xs. Makes (rule_of any.Fact) (FactArg n ∷ xs)) os0 e0 (_, (refl, refl, refl)))
makes any.TrueIntro args e = by_none (Makes (rule_of any.TrueIntro)) args e (_, (refl, refl, refl))
makes any.OrElim args e = by_number (Makes (rule_of any.OrElim)) args (NumberKind ∷ NumberKind ∷ []) e (λ a os0 e0. by_number (λ xs. Makes (rule_of any.OrElim) (NumberArg a ∷ xs)) os0 (NumberKind ∷ []) e0 (λ b os1 e1. by_number (λ xs. Makes (rule_of any.OrElim) (NumberArg a ∷ NumberArg b ∷ xs)) os1 [] e1 (λ c os2 e2. by_none (λ xs. Makes (rule_of any.OrElim) (NumberArg a ∷ NumberArg b ∷ NumberArg c ∷ xs)) os2 e2 (_, (refl, refl, refl)))))
makes any.Subst args e = by_term (Makes (rule_of any.Subst)) args (NumberKind ∷ NumberKind ∷ []) e (λ t os0 e0. by_number (λ xs. Makes (rule_of any.Subst) (TermArg t ∷ xs)) os0 (NumberKind ∷ []) e0 (λ a os1 e1. by_number (λ xs. Makes (rule_of any.Subst) (TermArg t ∷ NumberArg a ∷ xs)) os1 [] e1 (λ b os2 e2. by_none (λ xs. Makes (rule_of any.Subst) (TermArg t ∷ NumberArg a ∷ NumberArg b ∷ xs)) os2 e2 (_, (refl, refl, refl)))))
makes any.ExIntro args e = by_term (Makes (rule_of any.ExIntro)) args (TermKind ∷ NumberKind ∷ []) e (λ t os0 e0. by_term (λ xs. Makes (rule_of any.ExIntro) (TermArg t ∷ xs)) os0 (NumberKind ∷ []) e0 (λ u os1 e1. by_number (λ xs. Makes (rule_of any.ExIntro) (TermArg t ∷ TermArg u ∷ xs)) os1 [] e1 (λ a os2 e2. by_none (λ xs. Makes (rule_of any.ExIntro) (TermArg t ∷ TermArg u ∷ NumberArg a ∷ xs)) os2 e2 (_, (refl, refl, refl)))))
makes any.Inst args e = by_number (Makes (rule_of any.Inst)) args (TypeKind ∷ TermKind ∷ NumberKind ∷ []) e (λ n os0 e0. by_type (λ xs. Makes (rule_of any.Inst) (NumberArg n ∷ xs)) os0 (TermKind ∷ NumberKind ∷ []) e0 (λ ty os1 e1. by_term (λ xs. Makes (rule_of any.Inst) (NumberArg n ∷ TypeArg ty ∷ xs)) os1 (NumberKind ∷ []) e1 (λ t os2 e2. by_number (λ xs. Makes (rule_of any.Inst) (NumberArg n ∷ TypeArg ty ∷ TermArg t ∷ xs)) os2 [] e2 (λ a os3 e3. by_none (λ xs. Makes (rule_of any.Inst) (NumberArg n ∷ TypeArg ty ∷ TermArg t ∷ NumberArg a ∷ xs)) os3 e3 (_, (refl, refl, refl))))))
makes (any.OfTerm k) args e = by_term (Makes (term_rule k)) args [] e (λ t os0 e0. by_none (λ xs. Makes (term_rule k) (TermArg t ∷ xs)) os0 e0 (term_case k t))
makes (any.OfTheorem k) args e = by_number (Makes (theorem_rule k)) args [] e (λ a os0 e0. by_none (λ xs. Makes (theorem_rule k) (NumberArg a ∷ xs)) os0 e0 (theorem_case k a))
makes (any.OfPair k) args e = by_number (Makes (pair_rule k)) args (NumberKind ∷ []) e (λ a os0 e0. by_number (λ xs. Makes (pair_rule k) (NumberArg a ∷ xs)) os0 [] e0 (λ b os1 e1. by_none (λ xs. Makes (pair_rule k) (NumberArg a ∷ NumberArg b ∷ xs)) os1 e1 (pair_case k a b)))
makes (any.Mixed k) args e = by_term (Makes (mixed_rule k)) args (NumberKind ∷ []) e (λ t os0 e0. by_number (λ xs. Makes (mixed_rule k) (TermArg t ∷ xs)) os0 [] e0 (λ a os1 e1. by_none (λ xs. Makes (mixed_rule k) (TermArg t ∷ NumberArg a ∷ xs)) os1 e1 (mixed_case k t a)))
makes (any.OfVariable k) args e = by_number (Makes (variable_rule k)) args (TypeKind ∷ NumberKind ∷ []) e (λ n os0 e0. by_type (λ xs. Makes (variable_rule k) (NumberArg n ∷ xs)) os0 (NumberKind ∷ []) e0 (λ ty os1 e1. by_number (λ xs. Makes (variable_rule k) (NumberArg n ∷ TypeArg ty ∷ xs)) os1 [] e1 (λ a os2 e2. by_none (λ xs. Makes (variable_rule k) (NumberArg n ∷ TypeArg ty ∷ NumberArg a ∷ xs)) os2 e2 (variable_case k n ty a))))
