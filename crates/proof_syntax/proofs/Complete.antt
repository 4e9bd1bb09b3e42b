-- What is derivable is walked through, at its levels.
use Rattle.std.proofs.Common.{◌≡◌, ℕ, ◌+◌, List, [], ◌∷◌, ◌++◌, map, length, codes, decimal, Some, None, refl, sym, ap, ◌∙◌, append_assoc, append-nil, arith, length-append}
use Rattle.hol_terms.specs.declared.ty.Ty.{Ty}
use Rattle.hol_terms.specs.declared.ty.Ty.TheVariants as types
use Rattle.hol_terms.specs.declared.konst.Konst.TheVariants as konst
use Rattle.hol_terms.specs.declared.term.Term.{Term}
use Rattle.hol_terms.specs.declared.term.Term.TheVariants as terms
use Rattle.kernel_rules.specs.declared.step.Step.{Step}
use Rattle.kernel_rules.specs.declared.step.Step.TheVariants as step
use Rattle.theory_terms.specs.Words.{place}
use Rattle.proof_syntax.specs.Tokens.{Word, space, hash, dollar, open_round, close_round, dot, colon, greater, open_square, close_square, open_brace, close_brace, line_end}
use Rattle.proof_syntax.specs.Names.{Names, number_of}
use Rattle.proof_syntax.specs.Forms.{Arg, NumberArg, form, Plain, Truth, Falsity, Not, And, Or, Imp, plain_word, plain_konst, Typed, Eq, All, Ex, Eps, typed_word, typed_konst}
use Rattle.proof_syntax.specs.Grammar.{Placed, at, name_level, name, IsType, base, arrow, IsTerm, bound, free, named, plain, typed, apply, lambda, IsArg, fact, number, type, term, AreArgs, none, more, AreSteps, end, step as step_}
use Rattle.proof_syntax.specs.Machine.{put, goes, Goes, run, to, StepStart, Finished, LastEnd, StepSpace, RuleWord, Behind, WantArg, WantType, HaveType, WantTerm, HaveTerm, WantBound, WantFree, FreeColon, WantConst, TypedOpen, Frame, From, To, OfFree, OfTyped, OfLambda, Function, Argument, Body, InStep, level, end_type, end_term, Opened, with_arg, with_args, wanted, Kind, NumberKind, kind_of, bound_is, free_is, word_is, typed_is, plain_in, plains, typed_in, typeds, number_arg, opened, made, behind, step_start, Rule, rule_in, rules, RunsType, RunsTerm, RunsArg, RunsArgs, RunsSteps}
pub use Rattle.proof_syntax.proofs.Numbers.{number_back, number_only}
use Rattle.proof_syntax.proofs.Numbers.{eq_true, end_is_none}
use Rattle.first_fault.proofs.Fronts.{put-append, goes-append}
use Rattle.proof_syntax.proofs.Leads.{Leads, leads_on, leads_both, leads_last}

-- ---- types

arrow_runs : (names : Names) (l : ℕ) (p q : List Placed) (a b : Ty) → RunsType names l p a → RunsType names l q b →
    RunsType names l (at l open_round ∷ p ++ at l greater ∷ q ++ at l close_round ∷ []) (types.Arrow a b)
arrow_runs names l p q a b d e = λ k rest hl.
    let from : level (From ∷ k) ≡ l = omega arith in
    let to_ : level (To a ∷ k) ≡ l = omega arith in
    let have = HaveType a (From ∷ k) in
    let have_both = HaveType b (To a ∷ k) in
    let whole = end_type (types.Arrow a b) k in
    let left = leads_on names (WantType k) (WantType (From ∷ k)) have open_round (level k) l p refl hl (λ r. d (From ∷ k) r from) in
    let right = leads_on names have (WantType (To a ∷ k)) have_both greater (level k) l q refl hl (λ r. e (To a ∷ k) r to_) in
    let both = leads_both names (WantType k) have have_both (at l open_round ∷ p) (at l greater ∷ q) left right in
    let close = leads_last names have_both whole close_round (level k) l refl hl in
    leads_both names (WantType k) have_both whole (at l open_round ∷ p ++ at l greater ∷ q) (at l close_round ∷ []) both close rest

pub type_runs : {names : Names} {l : ℕ} {p : List Placed} {a : Ty} → IsType names l p a → RunsType names l p a
type_runs {names = names} {l = l} (base {x = x}) = λ k rest hl.
    ap (λ n. Goes (name_level n (place x names.types)) (run names (end_type (types.Base (number_of (place x names.types))) k) rest)) hl
type_runs (arrow d e) = arrow_runs _ _ _ _ _ _ (type_runs d) (type_runs e)

-- ---- terms

plain_found : (c : Plain) → plain_in (plain_word c) plains ≡ Some c
plain_found Truth = refl
plain_found Falsity = refl
plain_found Not = refl
plain_found And = refl
plain_found Or = refl
plain_found Imp = refl

typed_not_plain : (c : Typed) → plain_in (typed_word c) plains ≡ None
typed_not_plain Eq = refl
typed_not_plain All = refl
typed_not_plain Ex = refl
typed_not_plain Eps = refl

typed_found : (c : Typed) → typed_in (typed_word c) typeds ≡ Some c
typed_found Eq = refl
typed_found All = refl
typed_found Ex = refl
typed_found Eps = refl

pub plain_step : (c : Plain) (k : List Frame) → word_is k (plain_word c) (plain_in (plain_word c) plains) ≡ to (level k) (end_term (terms.Con (plain_konst c)) k)
plain_step c k = ap (λ o. word_is k (plain_word c) o) (plain_found c)

pub typed_step : (c : Typed) (k : List Frame) → word_is k (typed_word c) (plain_in (typed_word c) plains) ≡ to (level k) (TypedOpen c k)
typed_step c k = ap (λ o. word_is k (typed_word c) o) (typed_not_plain c) ∙ ap (λ o. typed_is k o) (typed_found c)

pub term_runs : {names : Names} {l : ℕ} {p : List Placed} {t : Term} → IsTerm names l p t → RunsTerm names l p t
term_runs {names = names} {l = l} (bound {n = n} low) = λ k rest hl.
    let whole = end_term (terms.Bound n) k in
    let digits = leads_last names (WantBound k) whole (Word (decimal n)) (level k) l (ap (λ o. bound_is k o) (number_back n low)) hl in
    leads_on names (WantTerm k) (WantBound k) whole hash (level k) l (at l (Word (decimal n)) ∷ []) refl hl digits rest
term_runs {names = names} {l = l} (free {n = n} {p = p} {a = a} low d) = λ k rest hl.
    let whole = end_term (terms.Free n a) k in
    let of : level (OfFree n ∷ k) ≡ l = omega arith in
    let colon_ = leads_on names (FreeColon n k) (WantType (OfFree n ∷ k)) whole colon (level k) l p refl hl (λ r. type_runs d (OfFree n ∷ k) r of) in
    let digits = leads_on names (WantFree k) (FreeColon n k) whole (Word (decimal n)) (level k) l (at l colon ∷ p) (ap (λ o. free_is k o) (number_back n low)) hl colon_ in
    leads_on names (WantTerm k) (WantFree k) whole dollar (level k) l (at l (Word (decimal n)) ∷ at l colon ∷ p) refl hl digits rest
term_runs {names = names} {l = l} (named {x = x}) = λ k rest hl.
    let whole = end_term (terms.Con (konst.Named (number_of (place x names.consts)))) k in
    let word = leads_last names (WantConst k) whole (Word x) (name_level (level k) (place x names.consts)) (name_level l (place x names.consts)) refl
    (ap (λ n. name_level n (place x names.consts)) hl) in
    leads_on names (WantTerm k) (WantConst k) whole dot (level k) l (name l x names.consts ∷ []) refl hl word rest
term_runs {names = names} {l = l} (plain c) = λ k rest hl.
    leads_last names (WantTerm k) (end_term (terms.Con (plain_konst c)) k) (Word (plain_word c)) (level k) l (plain_step c k) hl rest
term_runs {names = names} {l = l} (typed c {p = p} {a = a} d) = λ k rest hl.
    let whole = end_term (terms.Con (typed_konst c a)) k in
    let of : level (OfTyped c ∷ k) ≡ l = omega arith in
    let close = leads_last names (HaveType a (OfTyped c ∷ k)) whole close_square (level k) l refl hl in
    let inner = leads_both names (WantType (OfTyped c ∷ k)) (HaveType a (OfTyped c ∷ k)) whole p (at l close_square ∷ []) (λ r. type_runs d (OfTyped c ∷ k) r of) close in
    let open_ = leads_on names (TypedOpen c k) (WantType (OfTyped c ∷ k)) whole open_square (level k) l (p ++ at l close_square ∷ []) refl hl inner in
    leads_on names (WantTerm k) (TypedOpen c k) whole (Word (typed_word c)) (level k) l (at l open_square ∷ p ++ at l close_square ∷ []) (typed_step c k) hl open_ rest
term_runs {names = names} {l = l} (apply {p = p} {q = q} {f = f} {x = x} d e) = λ k rest hl.
    let function : level (Function ∷ k) ≡ l + 1 = omega arith in
    let argument : level (Argument f ∷ k) ≡ l + 1 = omega arith in
    let have = HaveTerm f (Function ∷ k) in
    let have_both = HaveTerm x (Argument f ∷ k) in
    let whole = end_term (terms.App f x) k in
    let left = leads_on names (WantTerm k) (WantTerm (Function ∷ k)) have open_round (level (Function ∷ k)) (l + 1) p refl function (λ r. term_runs d (Function ∷ k) r function) in
    let right = leads_on names have (WantTerm (Argument f ∷ k)) have_both space (level (Function ∷ k)) (l + 1) q refl function (λ r. term_runs e (Argument f ∷ k) r argument) in
    let both = leads_both names (WantTerm k) have have_both (at (l + 1) open_round ∷ p) (at (l + 1) space ∷ q) left right in
    let close = leads_last names have_both whole close_round (level (Argument f ∷ k)) (l + 1) refl argument in
    leads_both names (WantTerm k) have_both whole (at (l + 1) open_round ∷ p ++ at (l + 1) space ∷ q) (at (l + 1) close_round ∷ []) both close rest
term_runs {names = names} {l = l} (lambda {p = p} {q = q} {a = a} {b = b} d e) = λ k rest hl.
    let whole = end_term (terms.Lam a b) k in
    let of : level (OfLambda ∷ k) ≡ l + 1 = omega arith in
    let body : level (Body a ∷ k) ≡ l + 1 = omega arith in
    let close = leads_on names (HaveType a (OfLambda ∷ k)) (WantTerm (Body a ∷ k)) whole close_brace (level (OfLambda ∷ k)) (l + 1) q refl of (λ r. term_runs e (Body a ∷ k) r body) in
    let inner = leads_both names (WantType (OfLambda ∷ k)) (HaveType a (OfLambda ∷ k)) whole p (at (l + 1) close_brace ∷ q) (λ r. type_runs d (OfLambda ∷ k) r of) close in
    leads_on names (WantTerm k) (WantType (OfLambda ∷ k)) whole open_brace (level (OfLambda ∷ k)) (l + 1) (p ++ at (l + 1) close_brace ∷ q) refl of inner rest

-- ---- arguments

pub arg_runs : {names : Names} {p : List Placed} {a : Arg} → IsArg names p a → RunsArg names p a
arg_runs (fact {x = x}) = λ o kinds rest. refl
arg_runs {names = names} (number {n = n} low) = λ o kinds rest.
    leads_last names (WantArg o NumberKind kinds) (Behind (with_arg o (NumberArg n) kinds)) (Word (decimal n)) 0 0 (ap (λ v. number_arg o kinds v) (number_back n low)) refl rest
arg_runs (type d) = λ o kinds rest. type_runs d (InStep o kinds ∷ []) rest refl
arg_runs (term d) = λ o kinds rest. term_runs d (InStep o kinds ∷ []) rest refl

pub with_none : (o : Opened) (kinds : List Kind) → o.kinds ≡ kinds → o ≡ with_args o [] kinds
with_none o kinds e = λ i. record { before = o.before; make = o.make; done = sym (append-nil o.done) i; kinds = e i }

pub with_more : (o : Opened) (a : Arg) (others : List Arg) (between kinds : List Kind) → with_args (with_arg o a between) others kinds ≡ with_args o (a ∷ others) kinds
with_more o a others between kinds = ap (λ all. record { before = o.before; make = o.make; done = all; kinds = kinds }) (append_assoc o.done (a ∷ []) others)

pub args_runs : {names : Names} {p : List Placed} {args : List Arg} → AreArgs names p args → RunsArgs names p args
args_runs {names = names} none = λ o kinds rest e. ap (λ u. run names (Behind u) rest) (with_none o kinds e)
args_runs {names = names} (more {p = p} {q = q} {a = a} {others = others} d e) = λ o kinds rest is.
    let behind_it = map kind_of others ++ kinds in
    let next = with_arg o a behind_it in
    let all = with_args next others kinds in
    let inner = leads_both names (wanted o (kind_of a) behind_it) (Behind next) (Behind all) p q (λ r. arg_runs d o behind_it r) (λ r. args_runs e next kinds r refl) in
    leads_on names (Behind o) (wanted o (kind_of a) behind_it) (Behind all) space 0 0 (p ++ q) (ap (λ ks. behind o ks space) is) refl inner rest ∙
    ap (λ u. goes (at 0 space ∷ p ++ q) (run names (Behind u) rest)) (with_more o a others behind_it kinds)

-- the rule of a step's word
pub record RuleOf (s : Step) : Type 0 where
  pub rule : Rule
  pub found : rule_in (form s).word rules ≡ Some rule
  pub kinds : rule.kinds ≡ map kind_of (form s).args
  pub makes : rule.make (form s).args ≡ Some s

pub form_rule : (s : Step) → RuleOf s
form_rule (step.Fact n) = record { rule = _; found = refl; kinds = refl; makes = refl }
form_rule (step.Assume t) = record { rule = _; found = refl; kinds = refl; makes = refl }
form_rule (step.ImpIntro t a) = record { rule = _; found = refl; kinds = refl; makes = refl }
form_rule (step.ImpElim ab a) = record { rule = _; found = refl; kinds = refl; makes = refl }
form_rule (step.AndIntro a b) = record { rule = _; found = refl; kinds = refl; makes = refl }
form_rule (step.AndLeft ab) = record { rule = _; found = refl; kinds = refl; makes = refl }
form_rule (step.AndRight ab) = record { rule = _; found = refl; kinds = refl; makes = refl }
form_rule (step.OrLeft t a) = record { rule = _; found = refl; kinds = refl; makes = refl }
form_rule (step.OrRight t b) = record { rule = _; found = refl; kinds = refl; makes = refl }
form_rule (step.OrElim ab l r) = record { rule = _; found = refl; kinds = refl; makes = refl }
form_rule (step.NotIntro t a) = record { rule = _; found = refl; kinds = refl; makes = refl }
form_rule (step.NotElim na a) = record { rule = _; found = refl; kinds = refl; makes = refl }
form_rule step.TrueIntro = record { rule = _; found = refl; kinds = refl; makes = refl }
form_rule (step.Classical t a) = record { rule = _; found = refl; kinds = refl; makes = refl }
form_rule (step.AllIntro n ty a) = record { rule = _; found = refl; kinds = refl; makes = refl }
form_rule (step.AllElim t a) = record { rule = _; found = refl; kinds = refl; makes = refl }
form_rule (step.ExIntro f t a) = record { rule = _; found = refl; kinds = refl; makes = refl }
form_rule (step.Choose a) = record { rule = _; found = refl; kinds = refl; makes = refl }
form_rule (step.Refl t) = record { rule = _; found = refl; kinds = refl; makes = refl }
form_rule (step.Subst f eq a) = record { rule = _; found = refl; kinds = refl; makes = refl }
form_rule (step.Beta t) = record { rule = _; found = refl; kinds = refl; makes = refl }
form_rule (step.Abs n ty a) = record { rule = _; found = refl; kinds = refl; makes = refl }
form_rule (step.Iff ab ba) = record { rule = _; found = refl; kinds = refl; makes = refl }
form_rule (step.Inst n ty t a) = record { rule = _; found = refl; kinds = refl; makes = refl }

step_of : (before : List Step) (r : Rule) (s : Step) (args : List Arg) → r.make args ≡ Some s → behind (with_args (record { before = before; make = r.make; done = []; kinds = r.kinds }) args []) [] line_end ≡ to 0 (StepStart (before ++ s ∷ []))
step_of before r s args e = ap (λ o. made before o) e

pub start_step : (before : List Step) (n : ℕ) → length before ≡ n → step_start before (length before) (decimal n) ≡ to 0 (StepSpace before)
start_step before n e = let same = eq_true (decimal n) (decimal (length before)) (ap (λ m. decimal m) (sym e)) in rw same refl

pub start_end : (before : List Step) → step_start before (length before) (codes "end") ≡ to 0 (LastEnd before)
start_end before = let other = end_is_none (length before) in rw other refl

-- one step with its line's end
pub step_leads : {names : Names} {p : List Placed} (before : List Step) (n : ℕ) (s : Step) → length before ≡ n → AreArgs names p (form s).args →
    Leads names (StepStart before) (at 0 (Word (decimal n)) ∷ at 0 space ∷ at 0 (Word (form s).word) ∷ p ++ at 0 line_end ∷ []) (StepStart (before ++ s ∷ []))
step_leads {names = names} {p = p} before n s count d =
    let of = form_rule s in
    let o : Opened = record { before = before; make = of.rule.make; done = []; kinds = of.rule.kinds } in
    let all = Behind (with_args o (form s).args []) in
    let next = StepStart (before ++ s ∷ []) in
    let kinds = of.kinds ∙ sym (append-nil (map kind_of (form s).args)) in
    let last = leads_last names all next line_end 0 0 (step_of before of.rule s (form s).args of.makes) refl in
    let args = leads_both names (Behind o) all next p (at 0 line_end ∷ []) (λ rest. args_runs d o [] rest kinds) last in
    let word = leads_on names (RuleWord before) (Behind o) next (Word (form s).word) 0 0 (p ++ at 0 line_end ∷ []) (ap (λ r. opened before r) of.found) refl args in
    let between = leads_on names (StepSpace before) (RuleWord before) next space 0 0 (at 0 (Word (form s).word) ∷ p ++ at 0 line_end ∷ []) refl refl word in
    leads_on names (StepStart before) (StepSpace before) next (Word (decimal n)) 0 0 (at 0 space ∷ at 0 (Word (form s).word) ∷ p ++ at 0 line_end ∷ [])
    (start_step before n count) refl between

pub steps_runs : {names : Names} {n : ℕ} {p : List Placed} {steps : List Step} → AreSteps names n p steps → RunsSteps names n p steps
steps_runs {names = names} end = λ before rest count.
    let finish = leads_last names (LastEnd before) (Finished before) line_end 0 0 refl refl in
    leads_on names (StepStart before) (LastEnd before) (Finished before) (Word (codes "end")) 0 0 (at 0 line_end ∷ []) (start_end before) refl finish rest ∙
    ap (λ all. Goes 0 (Goes 0 (run names (Finished all) rest))) (sym (append-nil before))
steps_runs {names = names} (step_ {n = n} {p = p} {q = q} {s = s} {more = others} d e) = λ before rest count.
    let next = StepStart (before ++ s ∷ []) in
    let front = at 0 (Word (decimal n)) ∷ at 0 space ∷ at 0 (Word (form s).word) ∷ p in
    let more_count : length (before ++ s ∷ []) ≡ n + 1 = omega (arith, length-append before (s ∷ [])) in
    let whole = run names (Finished (before ++ s ∷ others)) rest in
    ap (λ xs. run names (StepStart before) xs) (put-append front (at 0 line_end ∷ q) rest ∙ sym (put-append front (at 0 line_end ∷ []) (put q rest))) ∙
    step_leads before n s count d (put q rest) ∙
    ap (λ r. goes (front ++ at 0 line_end ∷ []) r) (steps_runs e (before ++ s ∷ []) rest more_count ∙ ap (λ all. goes q (run names (Finished all) rest)) (append_assoc before (s ∷ []) others)) ∙
    goes-append front (at 0 line_end ∷ []) (goes q whole) ∙ sym (goes-append front (at 0 line_end ∷ q) whole)
