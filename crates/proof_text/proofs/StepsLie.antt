-- The text of steps is derivable.
use Rattle.std.proofs.Common.{◌≡◌, ℕ, ◌+◌, ◌<◌, ◌≤◌, IsTrue, List, [], ◌∷◌, ◌++◌, length, codes, decimal, refl, sym, subst, append_assoc, rules, arith}
use Rattle.std.specs.List.{list_all}
use Rattle.text_kit.specs.Tokens.{is_word_byte, StopsAt}
use Rattle.hol_terms.proofs.Both.{both_true}
use Rattle.kernel_rules.specs.declared.step.Step.{Step}
use Rattle.kernel_rules.specs.declared.step.Step.TheVariants as step
use Rattle.proof_syntax.specs.Names.{Names, name_in}
use Rattle.proof_syntax.specs.Forms.{Arg, FactArg, NumberArg, TypeArg, TermArg, form}
use Rattle.proof_syntax.specs.Tokens.{Word, space, line_end}
use Rattle.proof_syntax.specs.Grammar.{Placed, at, most, name, IsArg, fact, number, type, term, AreArgs, none, more, AreSteps, end, step as one_step}
use Rattle.proof_syntax.specs.Texts.{arg_text, args_text, steps_text, nesting, is_shallow_arg, is_shallow}
use Rattle.proof_text.specs.inner.Fitting.{arg_fits, args_fit, steps_fit}
use Rattle.proof_text.proofs.Wordy.{IsWordy, number_wordy}
use Rattle.proof_text.proofs.Places.{IsDeclared}
use Rattle.proof_text.proofs.Lying.{Lies, joined, word_lies, word_then, sign_lies, sign_then}
use Rattle.proof_text.proofs.Naming.{arg_named, args_named}
use Rattle.proof_text.proofs.TypesLie.{name_lies, name_number, type_lies}
use Rattle.proof_text.proofs.TermsLie.{term_lies}

rule_wordy : (s : Step) → IsWordy (form s).word
rule_wordy (step.Fact n) = record { some = omega arith; bytes = refl }
rule_wordy (step.Assume t) = record { some = omega arith; bytes = refl }
rule_wordy (step.ImpIntro t a) = record { some = omega arith; bytes = refl }
rule_wordy (step.ImpElim ab a) = record { some = omega arith; bytes = refl }
rule_wordy (step.AndIntro a b) = record { some = omega arith; bytes = refl }
rule_wordy (step.AndLeft ab) = record { some = omega arith; bytes = refl }
rule_wordy (step.AndRight ab) = record { some = omega arith; bytes = refl }
rule_wordy (step.OrLeft t a) = record { some = omega arith; bytes = refl }
rule_wordy (step.OrRight t b) = record { some = omega arith; bytes = refl }
rule_wordy (step.OrElim ab l r) = record { some = omega arith; bytes = refl }
rule_wordy (step.NotIntro t a) = record { some = omega arith; bytes = refl }
rule_wordy (step.NotElim na a) = record { some = omega arith; bytes = refl }
rule_wordy step.TrueIntro = record { some = omega arith; bytes = refl }
rule_wordy (step.Classical t a) = record { some = omega arith; bytes = refl }
rule_wordy (step.AllIntro n ty a) = record { some = omega arith; bytes = refl }
rule_wordy (step.AllElim t a) = record { some = omega arith; bytes = refl }
rule_wordy (step.ExIntro f t a) = record { some = omega arith; bytes = refl }
rule_wordy (step.Choose a) = record { some = omega arith; bytes = refl }
rule_wordy (step.Refl t) = record { some = omega arith; bytes = refl }
rule_wordy (step.Subst f eq a) = record { some = omega arith; bytes = refl }
rule_wordy (step.Beta t) = record { some = omega arith; bytes = refl }
rule_wordy (step.Abs n ty a) = record { some = omega arith; bytes = refl }
rule_wordy (step.Iff ab ba) = record { some = omega arith; bytes = refl }
rule_wordy (step.Inst n ty t a) = record { some = omega arith; bytes = refl }

module _ (names : Names) where
  pub record ArgLies (a : Arg) (rest : List ℕ) : Type 0 where
    pub placed : List Placed
    pub derived : IsArg names placed a
    pub lies : Lies (arg_text names a ++ rest) placed rest

  pub record ArgsLie (args : List Arg) (rest : List ℕ) : Type 0 where
    pub placed : List Placed
    pub derived : AreArgs names placed args
    pub lies : Lies (args_text names args ++ rest) placed rest

  -- the steps from number `n` on, and the last line
  pub record StepsLie (n : ℕ) (steps : List Step) : Type 0 where
    pub placed : List Placed
    pub derived : AreSteps names n placed steps
    pub lies : Lies (steps_text names n steps ++ codes "end\n") placed []

  args_stop : (args : List Arg) (rest : List ℕ) → StopsAt is_word_byte rest → StopsAt is_word_byte (args_text names args ++ rest)
  args_stop [] rest h = h
  args_stop (a ∷ args) rest h = refl

  step_pieces : (n w args steps ending : List ℕ) → ((n ++ codes " " ++ w ++ args ++ codes "\n") ++ steps) ++ ending ≡ n ++ 32 ∷ (w ++ (args ++ 10 ∷ (steps ++ ending)))
  step_pieces n w args steps ending = simp append_assoc

  module _
      (each_type : (n : ℕ) → n < length names.types → IsDeclared names.types n)
      (each_const : (n : ℕ) → n < length names.consts → IsDeclared names.consts n)
      (each_fact : (n : ℕ) → n < length names.facts → IsDeclared names.facts n) where
    abbrev AreNamed : List Arg → Type 0
    AreNamed args = IsTrue (args_named (length names.types) (length names.consts) (length names.facts) args)

    arg_lies : (a : Arg) (rest : List ℕ) → IsTrue (arg_named (length names.types) (length names.consts) (length names.facts) a) → IsTrue (arg_fits a) → IsTrue (is_shallow_arg a) →
        StopsAt is_word_byte rest → ArgLies a rest
    arg_lies (FactArg n) rest named fits shallow stops =
        let is = each_fact n (search (rules, named)) in
        let x = name 0 (name_in names.facts n) names.facts in
        record {
          placed = x ∷ [];
          derived = subst (λ m. IsArg names (x ∷ []) (FactArg m)) (name_number names.facts n is) fact;
          lies = name_lies names.facts n 0 rest is (omega arith) stops;
        }
    arg_lies (NumberArg n) rest named fits shallow stops =
        record { placed = at 0 (Word (decimal n)) ∷ []; derived = number (search (rules, fits)); lies = word_lies 0 (decimal n) rest (omega arith) (number_wordy n) stops }
    arg_lies (TypeArg a) rest named fits shallow stops =
        let x = type_lies names each_type a 0 rest named (omega arith) stops in
        record { placed = x.placed; derived = type x.derived; lies = x.lies }
    arg_lies (TermArg t) rest named fits shallow stops =
        let deep : nesting t ≤ most = search (rules, shallow) in
        let x = term_lies names each_type each_const t 0 rest named fits (omega arith) stops in
        record { placed = x.placed; derived = term x.derived; lies = x.lies }

    args_lie : (args : List Arg) (rest : List ℕ) → AreNamed args → IsTrue (args_fit args) → IsTrue (list_all is_shallow_arg args) → StopsAt is_word_byte rest → ArgsLie args rest
    args_lie [] rest named fit shallow stops = record { placed = []; derived = none; lies = record { tokens = refl; within = tt } }
    args_lie (a ∷ args) rest named fit shallow stops =
        let are = both_true (arg_named (length names.types) (length names.consts) (length names.facts) a) (args_named (length names.types) (length names.consts) (length names.facts) args) named in
        let fits = both_true (arg_fits a) (args_fit args) fit in
        let low = both_true (is_shallow_arg a) (list_all is_shallow_arg args) shallow in
        let behind = args_text names args ++ rest in
        let x = arg_lies a behind are.0 fits.0 low.0 (args_stop args rest stops) in
        let y = args_lie args rest are.1 fits.1 low.1 stops in
        let p = at 0 space ∷ x.placed ++ y.placed in
        record {
          placed = p;
          derived = more x.derived y.derived;
          lies = subst (λ bs. Lies bs p rest) (sym (append_assoc (32 ∷ arg_text names a) (args_text names args) rest))
              (joined (32 ∷ (arg_text names a ++ behind)) behind rest (at 0 space ∷ x.placed) y.placed (sign_then 0 32 (arg_text names a ++ behind) behind x.placed (omega arith) refl x.lies) y.lies);
        }

    pub steps_lie : (n : ℕ) (steps : List Step) → IsTrue (list_all (λ s. args_named (length names.types) (length names.consts) (length names.facts) (form s).args) steps) →
        IsTrue (steps_fit steps) → IsTrue (is_shallow steps) → StepsLie n steps
    steps_lie n [] named fit shallow =
        record {
          placed = at 0 (Word (codes "end")) ∷ at 0 line_end ∷ [];
          derived = end;
          lies = word_then 0 (codes "end") (10 ∷ []) [] (at 0 line_end ∷ []) (omega arith) (record { some = omega arith; bytes = refl }) refl (sign_lies 0 10 [] (omega arith) refl);
        }
    steps_lie n (s ∷ steps) named fit shallow =
        let are =
        both_true (args_named (length names.types) (length names.consts) (length names.facts) (form s).args)
        (list_all (λ s. args_named (length names.types) (length names.consts) (length names.facts) (form s).args) steps) named in
        let fits = both_true (args_fit (form s).args) (steps_fit steps) fit in
        let low = both_true (list_all is_shallow_arg (form s).args) (is_shallow steps) shallow in
        let zeroth : 0 ≤ most = omega arith in
        let later = steps_text names (n + 1) steps ++ codes "end\n" in
        let x = args_lie (form s).args (10 ∷ later) are.0 fits.0 low.0 refl in
        let y = steps_lie (n + 1) steps are.1 fits.1 low.1 in
        let args = args_text names (form s).args ++ 10 ∷ later in
        let ruled = (form s).word ++ args in
        let front = at 0 (Word (decimal n)) ∷ at 0 space ∷ at 0 (Word (form s).word) ∷ x.placed in
        let p = front ++ at 0 line_end ∷ y.placed in
        let line = word_then 0 (decimal n) (32 ∷ ruled) (10 ∷ later) (at 0 space ∷ at 0 (Word (form s).word) ∷ x.placed) zeroth (number_wordy n) refl
        (sign_then 0 32 ruled (10 ∷ later) (at 0 (Word (form s).word) ∷ x.placed) zeroth refl
        (word_then 0 (form s).word args (10 ∷ later) x.placed zeroth (rule_wordy s) (args_stop (form s).args (10 ∷ later) refl) x.lies)) in
        record {
          placed = p;
          derived = one_step x.derived y.derived;
          lies = subst (λ bs. Lies bs p []) (sym (step_pieces (decimal n) (form s).word (args_text names (form s).args) (steps_text names (n + 1) steps) (codes "end\n")))
              (joined (decimal n ++ 32 ∷ ruled) (10 ∷ later) [] front (at 0 line_end ∷ y.placed) line (sign_then 0 10 later [] y.placed zeroth refl y.lies));
        }
