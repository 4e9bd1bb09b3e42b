-- What may come next, token after token: a walk over the tokens with a list of open frames. What the readers of parts promise, and proofs, are by
-- it; what a text reads as is not.
use Rattle.std.specs.Prelude.{◌≡◌, ℕ, ◌+◌, ◌*◌, ◌-◌, ◌^◌, ◌&&◌, nat_lt, length, map, List, [], ◌∷◌, ◌++◌, codes, decimal, Option, Some, None, if◌then◌else◌}
use Rattle.std.specs.Str.{bytes_eq}
use Rattle.first_fault.specs.Walk as walk
pub use Rattle.first_fault.specs.Levels.{put}
pub use Rattle.first_fault.specs.Walk.{goes, after, Done, Stuck, Goes}
use Rattle.hol_terms.specs.declared.ty.Ty.{Ty}
use Rattle.hol_terms.specs.declared.ty.Ty.TheVariants as types
use Rattle.hol_terms.specs.declared.konst.Konst.TheVariants as konst
use Rattle.hol_terms.specs.declared.term.Term.{Term}
use Rattle.hol_terms.specs.declared.term.Term.TheVariants as terms
use Rattle.kernel_rules.specs.declared.step.Step.{Step}
use Rattle.kernel_rules.specs.declared.step.Step.TheVariants as steps
use Rattle.kernel_rules.specs.declared.step.ThmId.{ThmId}
use Rattle.theory_terms.specs.Words.{place}
use Rattle.theory_reader.specs.declared.theory.Theory.{Theory}
use Rattle.theory_reader.specs.Sound.{goal_names}
use Rattle.proof_syntax.specs.declared.file.ProofFile.{ProofFile}
use Rattle.proof_syntax.specs.Tokens.{Tok, Word, Mark, LineEnd, Space, Hash, Dollar, OpenRound, CloseRound, Dot, Colon, Greater, OpenSquare, CloseSquare, OpenBrace, CloseBrace}
use Rattle.proof_syntax.specs.Names.{Names, names_of, number_of}
use Rattle.proof_syntax.specs.Forms.{Arg, FactArg, NumberArg, TypeArg, TermArg, Plain, Truth, Falsity, Not, And, Or, Imp, plain_word, plain_konst, Typed, Eq, All, Ex, Eps, typed_word, typed_konst}
use Rattle.proof_syntax.specs.Grammar.{Placed, name_level}

-- ---- the rules by their words

pub data Kind : Type 0 where
  FactKind : Kind
  NumberKind : Kind
  TypeKind : Kind
  TermKind : Kind

abbrev pub kind_of : Arg → Kind
kind_of (FactArg n) = FactKind
kind_of (NumberArg n) = NumberKind
kind_of (TypeArg a) = TypeKind
kind_of (TermArg t) = TermKind

-- a word, what it wants, and the step that it makes of that
pub record Rule : Type 0 where
  pub word : List ℕ
  pub kinds : List Kind
  pub make : List Arg → Option Step

abbrev pub of_fact : (ℕ → Step) → List Arg → Option Step
of_fact f (FactArg n ∷ []) = Some (f n)
of_fact f _ = None

abbrev pub of_none : Step → List Arg → Option Step
of_none s [] = Some s
of_none s _ = None

abbrev pub of_term : (Term → Step) → List Arg → Option Step
of_term f (TermArg t ∷ []) = Some (f t)
of_term f _ = None

abbrev pub id : ℕ → ThmId
id n = record { 0 = n }

abbrev pub of_one : (ThmId → Step) → List Arg → Option Step
of_one f (NumberArg a ∷ []) = Some (f (id a))
of_one f _ = None

abbrev pub of_two : (ThmId → ThmId → Step) → List Arg → Option Step
of_two f (NumberArg a ∷ NumberArg b ∷ []) = Some (f (id a) (id b))
of_two f _ = None

abbrev pub of_three : (ThmId → ThmId → ThmId → Step) → List Arg → Option Step
of_three f (NumberArg a ∷ NumberArg b ∷ NumberArg c ∷ []) = Some (f (id a) (id b) (id c))
of_three f _ = None

abbrev pub of_term_one : (Term → ThmId → Step) → List Arg → Option Step
of_term_one f (TermArg t ∷ NumberArg a ∷ []) = Some (f t (id a))
of_term_one f _ = None

abbrev pub of_term_two : (Term → ThmId → ThmId → Step) → List Arg → Option Step
of_term_two f (TermArg t ∷ NumberArg a ∷ NumberArg b ∷ []) = Some (f t (id a) (id b))
of_term_two f _ = None

abbrev pub of_terms_one : (Term → Term → ThmId → Step) → List Arg → Option Step
of_terms_one f (TermArg s ∷ TermArg t ∷ NumberArg a ∷ []) = Some (f s t (id a))
of_terms_one f _ = None

abbrev pub of_variable : (ℕ → Ty → ThmId → Step) → List Arg → Option Step
of_variable f (NumberArg n ∷ TypeArg ty ∷ NumberArg a ∷ []) = Some (f n ty (id a))
of_variable f _ = None

abbrev pub of_variable_term : (ℕ → Ty → Term → ThmId → Step) → List Arg → Option Step
of_variable_term f (NumberArg n ∷ TypeArg ty ∷ TermArg t ∷ NumberArg a ∷ []) = Some (f n ty t (id a))
of_variable_term f _ = None

abbrev pub rule : List ℕ → List Kind → (List Arg → Option Step) → Rule
rule word kinds make = record { word = word; kinds = kinds; make = make }

abbrev pub rules : List Rule
rules =
    rule (codes "fact") (FactKind ∷ []) (of_fact steps.Fact) ∷
    rule (codes "assume") (TermKind ∷ []) (of_term steps.Assume) ∷
    rule (codes "impintro") (TermKind ∷ NumberKind ∷ []) (of_term_one steps.ImpIntro) ∷
    rule (codes "impelim") (NumberKind ∷ NumberKind ∷ []) (of_two steps.ImpElim) ∷
    rule (codes "andintro") (NumberKind ∷ NumberKind ∷ []) (of_two steps.AndIntro) ∷
    rule (codes "andleft") (NumberKind ∷ []) (of_one steps.AndLeft) ∷
    rule (codes "andright") (NumberKind ∷ []) (of_one steps.AndRight) ∷
    rule (codes "orleft") (TermKind ∷ NumberKind ∷ []) (of_term_one steps.OrLeft) ∷
    rule (codes "orright") (TermKind ∷ NumberKind ∷ []) (of_term_one steps.OrRight) ∷
    rule (codes "orelim") (NumberKind ∷ NumberKind ∷ NumberKind ∷ []) (of_three steps.OrElim) ∷
    rule (codes "notintro") (TermKind ∷ NumberKind ∷ []) (of_term_one steps.NotIntro) ∷
    rule (codes "notelim") (NumberKind ∷ NumberKind ∷ []) (of_two steps.NotElim) ∷
    rule (codes "trueintro") [] (of_none steps.TrueIntro) ∷
    rule (codes "classical") (TermKind ∷ NumberKind ∷ []) (of_term_one steps.Classical) ∷
    rule (codes "allintro") (NumberKind ∷ TypeKind ∷ NumberKind ∷ []) (of_variable steps.AllIntro) ∷
    rule (codes "allelim") (TermKind ∷ NumberKind ∷ []) (of_term_one steps.AllElim) ∷
    rule (codes "exintro") (TermKind ∷ TermKind ∷ NumberKind ∷ []) (of_terms_one steps.ExIntro) ∷
    rule (codes "choose") (NumberKind ∷ []) (of_one steps.Choose) ∷
    rule (codes "refl") (TermKind ∷ []) (of_term steps.Refl) ∷
    rule (codes "subst") (TermKind ∷ NumberKind ∷ NumberKind ∷ []) (of_term_two steps.Subst) ∷
    rule (codes "beta") (TermKind ∷ []) (of_term steps.Beta) ∷
    rule (codes "abs") (NumberKind ∷ TypeKind ∷ NumberKind ∷ []) (of_variable steps.Abs) ∷
    rule (codes "iff") (NumberKind ∷ NumberKind ∷ []) (of_two steps.Iff) ∷
    rule (codes "inst") (NumberKind ∷ TypeKind ∷ TermKind ∷ NumberKind ∷ []) (of_variable_term steps.Inst) ∷ []

abbrev pub rule_in : List ℕ → List Rule → Option Rule
rule_in w [] = None
rule_in w (r ∷ rs) = if bytes_eq w r.word then Some r else rule_in w rs

-- ---- the words of terms, and numbers

abbrev pub plain_in : List ℕ → List Plain → Option Plain
plain_in w [] = None
plain_in w (k ∷ ks) = if bytes_eq w (plain_word k) then Some k else plain_in w ks

abbrev pub plains : List Plain
plains = Truth ∷ Falsity ∷ Not ∷ And ∷ Or ∷ Imp ∷ []

abbrev pub typed_in : List ℕ → List Typed → Option Typed
typed_in w [] = None
typed_in w (k ∷ ks) = if bytes_eq w (typed_word k) then Some k else typed_in w ks

abbrev pub typeds : List Typed
typeds = Eq ∷ All ∷ Ex ∷ Eps ∷ []

-- the number that digits write, from the one that those before them write
abbrev pub value_from : ℕ → List ℕ → ℕ
value_from n [] = n
value_from n (b ∷ bs) = value_from (10 * n + (b - 48)) bs

abbrev pub written : List ℕ → ℕ → Option ℕ
written w n = if bytes_eq w (decimal n) && nat_lt n (2 ^ 64) then Some n else None

abbrev pub number_in : List ℕ → Option ℕ
number_in w = written w (value_from 0 w)

-- ---- what is open

-- a step whose word and first arguments have come
pub record Opened : Type 0 where
  pub before : List Step
  pub make : List Arg → Option Step
  pub done : List Arg
  pub kinds : List Kind

abbrev pub with_arg : Opened → Arg → List Kind → Opened
with_arg o a kinds = record { before = o.before; make = o.make; done = o.done ++ a ∷ []; kinds = kinds }

-- the innermost first: of types the side of an arrow, a free variable, a constant, a lambda; of terms the parts of an application, and a lambda's body;
-- and the arguments of a step, with those that are still wanted behind this one
pub data Frame : Type 0 where
  From : Frame
  To : Ty → Frame
  OfFree : ℕ → Frame
  OfTyped : Typed → Frame
  OfLambda : Frame
  Function : Frame
  Argument : Term → Frame
  Body : Ty → Frame
  InStep : Opened → List Kind → Frame

abbrev pub frame_level : Frame → ℕ
frame_level OfLambda = 1
frame_level Function = 1
frame_level (Argument f) = 1
frame_level (Body a) = 1
frame_level _ = 0

abbrev pub level : List Frame → ℕ
level [] = 0
level (f ∷ k) = level k + frame_level f

pub data State : Type 0 where
  StepStart : List Step → State
  LastEnd : List Step → State
  Finished : List Step → State
  StepSpace : List Step → State
  RuleWord : List Step → State
  Behind : Opened → State
  WantArg : Opened → Kind → List Kind → State
  WantType : List Frame → State
  HaveType : Ty → List Frame → State
  WantTerm : List Frame → State
  HaveTerm : Term → List Frame → State
  WantBound : List Frame → State
  WantFree : List Frame → State
  FreeColon : ℕ → List Frame → State
  WantConst : List Frame → State
  TypedOpen : Typed → List Frame → State

-- a term is read, which ends the lambdas whose body it is, and an argument of a step
abbrev pub end_term : Term → List Frame → State
end_term t (Body a ∷ k) = end_term (terms.Lam a t) k
end_term t (InStep o kinds ∷ k) = Behind (with_arg o (TermArg t) kinds)
end_term t k = HaveTerm t k

-- a type is read, which ends a free variable, and an argument of a step
abbrev pub end_type : Ty → List Frame → State
end_type a (OfFree n ∷ k) = end_term (terms.Free n a) k
end_type a (InStep o kinds ∷ k) = Behind (with_arg o (TypeArg a) kinds)
end_type a k = HaveType a k

-- ---- one token

abbrev pub Stepped : Type 0
Stepped = Option (walk.Step State)

abbrev pub to : ℕ → State → Stepped
to l s = Some (record { level = l; state = s })

-- the state for an argument of a kind
abbrev pub wanted : Opened → Kind → List Kind → State
wanted o TypeKind kinds = WantType (InStep o kinds ∷ [])
wanted o TermKind kinds = WantTerm (InStep o kinds ∷ [])
wanted o kind kinds = WantArg o kind kinds

abbrev pub made : List Step → Option Step → Stepped
made before None = None
made before (Some s) = to 0 (StepStart (before ++ s ∷ []))

abbrev pub behind : Opened → List Kind → Tok → Stepped
behind o [] (Mark LineEnd) = made o.before (o.make o.done)
behind o (kind ∷ kinds) (Mark Space) = to 0 (wanted o kind kinds)
behind o _ _ = None

abbrev pub opened : List Step → Option Rule → Stepped
opened before None = None
opened before (Some r) = to 0 (Behind (record { before = before; make = r.make; done = []; kinds = r.kinds }))

abbrev pub step_start : List Step → ℕ → List ℕ → Stepped
step_start before n w =
    if bytes_eq w (decimal n) then to 0 (StepSpace before) else if bytes_eq w (codes "end") then to 0 (LastEnd before) else None

abbrev pub number_arg : Opened → List Kind → Option ℕ → Stepped
number_arg o kinds None = None
number_arg o kinds (Some n) = to 0 (Behind (with_arg o (NumberArg n) kinds))

abbrev pub want_arg : Names → Opened → Kind → List Kind → List ℕ → Stepped
want_arg names o FactKind kinds w =
    to (name_level 0 (place w names.facts)) (Behind (with_arg o (FactArg (number_of (place w names.facts))) kinds))
want_arg names o NumberKind kinds w = number_arg o kinds (number_in w)
want_arg names o _ kinds w = None

abbrev pub want_type : Names → List Frame → Tok → Stepped
want_type names k (Word x) =
    to (name_level (level k) (place x names.types)) (end_type (types.Base (number_of (place x names.types))) k)
want_type names k (Mark OpenRound) = to (level k) (WantType (From ∷ k))
want_type names k _ = None

abbrev pub have_type : Ty → List Frame → Tok → Stepped
have_type a (From ∷ k) (Mark Greater) = to (level k) (WantType (To a ∷ k))
have_type b (To a ∷ k) (Mark CloseRound) = to (level k) (end_type (types.Arrow a b) k)
have_type a (OfTyped c ∷ k) (Mark CloseSquare) = to (level k) (end_term (terms.Con (typed_konst c a)) k)
have_type a (OfLambda ∷ k) (Mark CloseBrace) = to (level (OfLambda ∷ k)) (WantTerm (Body a ∷ k))
have_type a k _ = None

abbrev pub bound_is : List Frame → Option ℕ → Stepped
bound_is k None = None
bound_is k (Some n) = to (level k) (end_term (terms.Bound n) k)

abbrev pub free_is : List Frame → Option ℕ → Stepped
free_is k None = None
free_is k (Some n) = to (level k) (FreeColon n k)

abbrev pub typed_is : List Frame → Option Typed → Stepped
typed_is k None = None
typed_is k (Some c) = to (level k) (TypedOpen c k)

abbrev pub word_is : List Frame → List ℕ → Option Plain → Stepped
word_is k w None = typed_is k (typed_in w typeds)
word_is k w (Some c) = to (level k) (end_term (terms.Con (plain_konst c)) k)

abbrev pub want_term : List Frame → Tok → Stepped
want_term k (Word w) = word_is k w (plain_in w plains)
want_term k (Mark Hash) = to (level k) (WantBound k)
want_term k (Mark Dollar) = to (level k) (WantFree k)
want_term k (Mark Dot) = to (level k) (WantConst k)
want_term k (Mark OpenRound) = to (level (Function ∷ k)) (WantTerm (Function ∷ k))
want_term k (Mark OpenBrace) = to (level (OfLambda ∷ k)) (WantType (OfLambda ∷ k))
want_term k _ = None

abbrev pub have_term : Term → List Frame → Tok → Stepped
have_term f (Function ∷ k) (Mark Space) = to (level (Function ∷ k)) (WantTerm (Argument f ∷ k))
have_term x (Argument f ∷ k) (Mark CloseRound) = to (level (Argument f ∷ k)) (end_term (terms.App f x) k)
have_term t k _ = None

abbrev pub step : Names → State → Tok → Stepped
step names (StepStart before) (Word w) = step_start before (length before) w
step names (LastEnd before) (Mark LineEnd) = to 0 (Finished before)
step names (StepSpace before) (Mark Space) = to 0 (RuleWord before)
step names (RuleWord before) (Word w) = opened before (rule_in w rules)
step names (Behind o) x = behind o o.kinds x
step names (WantArg o kind kinds) (Word w) = want_arg names o kind kinds w
step names (WantType k) x = want_type names k x
step names (HaveType a k) x = have_type a k x
step names (WantTerm k) x = want_term k x
step names (HaveTerm t k) x = have_term t k x
step names (WantBound k) (Word w) = bound_is k (number_in w)
step names (WantFree k) (Word w) = free_is k (number_in w)
step names (FreeColon n k) (Mark Colon) = to (level k) (WantType (OfFree n ∷ k))
step names (WantConst k) (Word x) =
    to (name_level (level k) (place x names.consts)) (end_term (terms.Con (konst.Named (number_of (place x names.consts)))) k)
step names (TypedOpen c k) (Mark OpenSquare) = to (level k) (WantType (OfTyped c ∷ k))
step names _ _ = None

abbrev pub accepted : State → Option (List Step)
accepted (Finished steps) = Some steps
accepted _ = None

abbrev pub Run : Type 0
Run = walk.Run (List Step)

abbrev pub run : Names → State → List Tok → Run
run names s xs = walk.run (step names) accepted s xs

-- ---- the whole body

pub data Whole : Type 0 where
  GoalWord : Whole
  GoalSpace : Whole
  GoalName : Whole
  GoalEnd : ℕ → Whole
  Steps : ℕ → State → Whole

abbrev pub inside : ℕ → Stepped → Option (walk.Step Whole)
inside g None = None
inside g (Some s) = Some (record { level = s.level; state = Steps g s.state })

abbrev pub whole_step : Theory → Whole → Tok → Option (walk.Step Whole)
whole_step t GoalWord (Word w) = if bytes_eq w (codes "goal") then Some (record { level = 0; state = GoalSpace }) else None
whole_step t GoalSpace (Mark Space) = Some (record { level = 0; state = GoalName })
whole_step t GoalName (Word x) =
    Some (record { level = name_level 0 (place x (goal_names t.goals)); state = GoalEnd (number_of (place x (goal_names t.goals))) })
whole_step t (GoalEnd g) (Mark LineEnd) = Some (record { level = 0; state = Steps g (StepStart []) })
whole_step t (Steps g s) x = inside g (step (names_of t g) s x)
whole_step t _ _ = None

abbrev pub filed : ℕ → Option (List Step) → Option ProofFile
filed g None = None
filed g (Some steps) = Some (record { goal = g; steps = steps })

abbrev pub whole_accepted : Whole → Option ProofFile
whole_accepted (Steps g s) = filed g (accepted s)
whole_accepted _ = None

abbrev pub whole_run : Theory → Whole → List Tok → walk.Run ProofFile
whole_run t s xs = walk.run (whole_step t) whole_accepted s xs

-- ---- what is derivable is walked through

abbrev pub RunsType : Names → ℕ → List Placed → Ty → Type 0
RunsType names l p a = (k : List Frame) (rest : List Tok) → level k ≡ l → run names (WantType k) (put p rest) ≡ goes p (run names (end_type a k) rest)

abbrev pub RunsTerm : Names → ℕ → List Placed → Term → Type 0
RunsTerm names l p t = (k : List Frame) (rest : List Tok) → level k ≡ l → run names (WantTerm k) (put p rest) ≡ goes p (run names (end_term t k) rest)

abbrev pub RunsArg : Names → List Placed → Arg → Type 0
RunsArg names p a = (o : Opened) (kinds : List Kind) (rest : List Tok) →
    run names (wanted o (kind_of a) kinds) (put p rest) ≡ goes p (run names (Behind (with_arg o a kinds)) rest)

abbrev pub with_args : Opened → List Arg → List Kind → Opened
with_args o args kinds = record { before = o.before; make = o.make; done = o.done ++ args; kinds = kinds }

abbrev pub RunsArgs : Names → List Placed → List Arg → Type 0
RunsArgs names p args = (o : Opened) (kinds : List Kind) (rest : List Tok) → o.kinds ≡ map kind_of args ++ kinds →
    run names (Behind o) (put p rest) ≡ goes p (run names (Behind (with_args o args kinds)) rest)

abbrev pub RunsSteps : Names → ℕ → List Placed → List Step → Type 0
RunsSteps names n p steps = (before : List Step) (rest : List Tok) → length before ≡ n →
    run names (StepStart before) (put p rest) ≡ goes p (run names (Finished (before ++ steps)) rest)
