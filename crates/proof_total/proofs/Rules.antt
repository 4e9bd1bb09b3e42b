-- What a rule makes of the arguments that it wants is a step that is written with its word and these arguments.
use Rattle.std.proofs.Common.{◌≡◌, ℕ, if◌then◌else◌, Bool, true, false, List, [], ◌∷◌, map, codes, Option, Some, refl, subst}
use Rattle.std.specs.Str.{bytes_eq}
use Rattle.hol_terms.specs.declared.ty.Ty.{Ty}
use Rattle.hol_terms.specs.declared.term.Term.{Term}
use Rattle.kernel_rules.specs.declared.step.Step.{Step}
use Rattle.kernel_rules.specs.declared.step.Step.TheVariants as steps
use Rattle.kernel_rules.specs.declared.step.ThmId.{ThmId}
use Rattle.proof_syntax.specs.Forms.{Arg, FactArg, NumberArg, TypeArg, TermArg, says, form}
use Rattle.proof_syntax.specs.Machine.{Kind, FactKind, NumberKind, TypeKind, TermKind, kind_of, Rule, rule_in, rules, id, of_fact, of_none, of_term, of_one, of_two, of_three, of_term_one, of_term_two, of_terms_one, of_variable, of_variable_term}

-- ---- arguments by their kinds

-- `P` holds of all arguments of these kinds
abbrev For : List Kind → (List Arg → Type 0) → Type 0
For kinds P = (args : List Arg) → map kind_of args ≡ kinds → P args

no_more : (P : List Arg → Type 0) → P [] → For [] P
no_more P h [] e = h
no_more P h (a ∷ args) e = cc

module _ (kinds : List Kind) (P : List Arg → Type 0) where
  a_fact : ((n : ℕ) → For kinds (λ args. P (FactArg n ∷ args))) → For (FactKind ∷ kinds) P
  a_fact h [] e = cc
  a_fact h (FactArg n ∷ args) e = let rest : map kind_of args ≡ kinds = cc in h n args rest
  a_fact h (a ∷ args) e = cc

  a_number : ((n : ℕ) → For kinds (λ args. P (NumberArg n ∷ args))) → For (NumberKind ∷ kinds) P
  a_number h [] e = cc
  a_number h (NumberArg n ∷ args) e = let rest : map kind_of args ≡ kinds = cc in h n args rest
  a_number h (a ∷ args) e = cc

  a_type : ((b : Ty) → For kinds (λ args. P (TypeArg b ∷ args))) → For (TypeKind ∷ kinds) P
  a_type h [] e = cc
  a_type h (TypeArg b ∷ args) e = let rest : map kind_of args ≡ kinds = cc in h b args rest
  a_type h (a ∷ args) e = cc

  a_term : ((u : Term) → For kinds (λ args. P (TermArg u ∷ args))) → For (TermKind ∷ kinds) P
  a_term h [] e = cc
  a_term h (TermArg u ∷ args) e = let rest : map kind_of args ≡ kinds = cc in h u args rest
  a_term h (a ∷ args) e = cc

-- ---- rules by what they want

-- `make` makes a step of the arguments, and it is written with the word and them
abbrev Out : List ℕ → (List Arg → Option Step) → List Arg → Type 0
Out w make args = (s : Step) × (make args ≡ Some s) × (form s ≡ says w args)

abbrev pub Makes : Rule → Type 0
Makes r = (args : List Arg) → map kind_of args ≡ r.kinds → (s : Step) × (r.make args ≡ Some s) × (form s ≡ says r.word args)

module _ (w : List ℕ) where
  fact_rule : (f : ℕ → Step) → ((n : ℕ) → form (f n) ≡ says w (FactArg n ∷ [])) → For (FactKind ∷ []) (Out w (of_fact f))
  fact_rule f h = a_fact [] (Out w (of_fact f)) (λ n. no_more (λ args. Out w (of_fact f) (FactArg n ∷ args)) (f n, refl, h n))

  none_rule : (s : Step) → form s ≡ says w [] → For [] (Out w (of_none s))
  none_rule s h = no_more (Out w (of_none s)) (s, refl, h)

  term_rule : (f : Term → Step) → ((u : Term) → form (f u) ≡ says w (TermArg u ∷ [])) → For (TermKind ∷ []) (Out w (of_term f))
  term_rule f h = a_term [] (Out w (of_term f)) (λ u. no_more (λ args. Out w (of_term f) (TermArg u ∷ args)) (f u, refl, h u))

  one_rule : (f : ThmId → Step) → ((a : ThmId) → form (f a) ≡ says w (NumberArg a.0 ∷ [])) → For (NumberKind ∷ []) (Out w (of_one f))
  one_rule f h = let P = Out w (of_one f) in a_number [] P (λ a. no_more (λ args. P (NumberArg a ∷ args)) (f (id a), refl, h (id a)))

  two_rule : (f : ThmId → ThmId → Step) → ((a b : ThmId) → form (f a b) ≡ says w (NumberArg a.0 ∷ NumberArg b.0 ∷ [])) → For (NumberKind ∷ NumberKind ∷ []) (Out w (of_two f))
  two_rule f h = let P = Out w (of_two f) in
      a_number (NumberKind ∷ []) P (λ a. a_number [] (λ args. P (NumberArg a ∷ args)) (λ b. no_more (λ args. P (NumberArg a ∷ NumberArg b ∷ args)) (f (id a) (id b), refl, h (id a) (id b))))

  three_rule : (f : ThmId → ThmId → ThmId → Step) → ((a b c : ThmId) → form (f a b c) ≡ says w (NumberArg a.0 ∷ NumberArg b.0 ∷ NumberArg c.0 ∷ [])) →
      For (NumberKind ∷ NumberKind ∷ NumberKind ∷ []) (Out w (of_three f))
  three_rule f h = let P = Out w (of_three f) in
      a_number (NumberKind ∷ NumberKind ∷ []) P (λ a. a_number (NumberKind ∷ []) (λ args. P (NumberArg a ∷ args)) (λ b. a_number [] (λ args. P (NumberArg a ∷ NumberArg b ∷ args))
      (λ c. no_more (λ args. P (NumberArg a ∷ NumberArg b ∷ NumberArg c ∷ args)) (f (id a) (id b) (id c), refl, h (id a) (id b) (id c)))))

  term_one_rule : (f : Term → ThmId → Step) → ((u : Term) (a : ThmId) → form (f u a) ≡ says w (TermArg u ∷ NumberArg a.0 ∷ [])) → For (TermKind ∷ NumberKind ∷ []) (Out w (of_term_one f))
  term_one_rule f h = let P = Out w (of_term_one f) in
      a_term (NumberKind ∷ []) P (λ u. a_number [] (λ args. P (TermArg u ∷ args)) (λ a. no_more (λ args. P (TermArg u ∷ NumberArg a ∷ args)) (f u (id a), refl, h u (id a))))

  term_two_rule : (f : Term → ThmId → ThmId → Step) → ((u : Term) (a b : ThmId) → form (f u a b) ≡ says w (TermArg u ∷ NumberArg a.0 ∷ NumberArg b.0 ∷ [])) →
      For (TermKind ∷ NumberKind ∷ NumberKind ∷ []) (Out w (of_term_two f))
  term_two_rule f h = let P = Out w (of_term_two f) in
      a_term (NumberKind ∷ NumberKind ∷ []) P (λ u. a_number (NumberKind ∷ []) (λ args. P (TermArg u ∷ args)) (λ a. a_number [] (λ args. P (TermArg u ∷ NumberArg a ∷ args))
      (λ b. no_more (λ args. P (TermArg u ∷ NumberArg a ∷ NumberArg b ∷ args)) (f u (id a) (id b), refl, h u (id a) (id b)))))

  terms_one_rule : (f : Term → Term → ThmId → Step) → ((u v : Term) (a : ThmId) → form (f u v a) ≡ says w (TermArg u ∷ TermArg v ∷ NumberArg a.0 ∷ [])) →
      For (TermKind ∷ TermKind ∷ NumberKind ∷ []) (Out w (of_terms_one f))
  terms_one_rule f h = let P = Out w (of_terms_one f) in
      a_term (TermKind ∷ NumberKind ∷ []) P (λ u. a_term (NumberKind ∷ []) (λ args. P (TermArg u ∷ args)) (λ v. a_number [] (λ args. P (TermArg u ∷ TermArg v ∷ args))
      (λ a. no_more (λ args. P (TermArg u ∷ TermArg v ∷ NumberArg a ∷ args)) (f u v (id a), refl, h u v (id a)))))

  variable_rule : (f : ℕ → Ty → ThmId → Step) → ((n : ℕ) (b : Ty) (a : ThmId) → form (f n b a) ≡ says w (NumberArg n ∷ TypeArg b ∷ NumberArg a.0 ∷ [])) →
      For (NumberKind ∷ TypeKind ∷ NumberKind ∷ []) (Out w (of_variable f))
  variable_rule f h = let P = Out w (of_variable f) in
      a_number (TypeKind ∷ NumberKind ∷ []) P (λ n. a_type (NumberKind ∷ []) (λ args. P (NumberArg n ∷ args)) (λ b. a_number [] (λ args. P (NumberArg n ∷ TypeArg b ∷ args))
      (λ a. no_more (λ args. P (NumberArg n ∷ TypeArg b ∷ NumberArg a ∷ args)) (f n b (id a), refl, h n b (id a)))))

  variable_term_rule : (f : ℕ → Ty → Term → ThmId → Step) → ((n : ℕ) (b : Ty) (u : Term) (a : ThmId) → form (f n b u a) ≡ says w (NumberArg n ∷ TypeArg b ∷ TermArg u ∷ NumberArg a.0 ∷ [])) →
      For (NumberKind ∷ TypeKind ∷ TermKind ∷ NumberKind ∷ []) (Out w (of_variable_term f))
  variable_term_rule f h = let P = Out w (of_variable_term f) in
      a_number (TypeKind ∷ TermKind ∷ NumberKind ∷ []) P (λ n. a_type (TermKind ∷ NumberKind ∷ []) (λ args. P (NumberArg n ∷ args))
      (λ b. a_term (NumberKind ∷ []) (λ args. P (NumberArg n ∷ TypeArg b ∷ args)) (λ u. a_number [] (λ args. P (NumberArg n ∷ TypeArg b ∷ TermArg u ∷ args))
      (λ a. no_more (λ args. P (NumberArg n ∷ TypeArg b ∷ TermArg u ∷ NumberArg a ∷ args)) (f n b u (id a), refl, h n b u (id a))))))

-- ---- each rule

-- each rule of the list makes what it says
abbrev AllMake : List Rule → Type 0
AllMake [] = Unit {0}
AllMake (r ∷ rs) = Makes r × AllMake rs

infixr 4 ◌also◌
◌also◌ : {A B : Type 0} → A → B → A × B
◌also◌ a b = (a, b)

all_make : AllMake rules
all_make =
    fact_rule (codes "fact") steps.Fact (λ n. refl) also
    term_rule (codes "assume") steps.Assume (λ u. refl) also
    term_one_rule (codes "impintro") steps.ImpIntro (λ u a. refl) also
    two_rule (codes "impelim") steps.ImpElim (λ a b. refl) also
    two_rule (codes "andintro") steps.AndIntro (λ a b. refl) also
    one_rule (codes "andleft") steps.AndLeft (λ a. refl) also
    one_rule (codes "andright") steps.AndRight (λ a. refl) also
    term_one_rule (codes "orleft") steps.OrLeft (λ u a. refl) also
    term_one_rule (codes "orright") steps.OrRight (λ u a. refl) also
    three_rule (codes "orelim") steps.OrElim (λ a b c. refl) also
    term_one_rule (codes "notintro") steps.NotIntro (λ u a. refl) also
    two_rule (codes "notelim") steps.NotElim (λ a b. refl) also
    none_rule (codes "trueintro") steps.TrueIntro refl also
    term_one_rule (codes "classical") steps.Classical (λ u a. refl) also
    variable_rule (codes "allintro") steps.AllIntro (λ n b a. refl) also
    term_one_rule (codes "allelim") steps.AllElim (λ u a. refl) also
    terms_one_rule (codes "exintro") steps.ExIntro (λ u v a. refl) also
    one_rule (codes "choose") steps.Choose (λ a. refl) also
    term_rule (codes "refl") steps.Refl (λ u. refl) also
    term_two_rule (codes "subst") steps.Subst (λ u a b. refl) also
    term_rule (codes "beta") steps.Beta (λ u. refl) also
    variable_rule (codes "abs") steps.Abs (λ n b a. refl) also
    two_rule (codes "iff") steps.Iff (λ a b. refl) also
    variable_term_rule (codes "inst") steps.Inst (λ n b u a. refl) also
    tt

module _ (w : List ℕ) where
  makes : (r s : Rule) (o : Option Rule) (b : Bool) → Makes r → (o ≡ Some s → Makes s) → (if b then Some r else o) ≡ Some s → Makes s
  makes r s o true m more h = let same : r ≡ s = cc in subst (λ x. Makes x) same m
  makes r s o false m more h = more h

  among : (rs : List Rule) (s : Rule) → AllMake rs → rule_in w rs ≡ Some s → Makes s
  among [] s all h = cc
  among (r ∷ rs) s all h = makes r s (rule_in w rs) (bytes_eq w r.word) all.0 (among rs s all.1) h

  pub rule_makes : (r : Rule) → rule_in w rules ≡ Some r → Makes r
  rule_makes r h = among rules r all_make h
