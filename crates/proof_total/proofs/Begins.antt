-- What has come goes on to a whole: the shortest parts that are still due complete it.
use Rattle.std.proofs.Common.{◌≡◌, List, [], ◌∷◌, ◌++◌, map, codes, decimal, refl, sym, subst, append_assoc, append-nil, arith}
use Rattle.hol_terms.specs.declared.ty.Ty.{Ty}
use Rattle.hol_terms.specs.declared.ty.Ty.TheVariants as types
use Rattle.hol_terms.specs.declared.term.Term.{Term}
use Rattle.hol_terms.specs.declared.term.Term.TheVariants as terms
use Rattle.kernel_rules.specs.declared.step.Step.{Step}
use Rattle.kernel_rules.specs.declared.step.Step.TheVariants as steps
use Rattle.theory_terms.specs.Words.{place}
use Rattle.proof_syntax.specs.Tokens.{Word, space, line_end}
use Rattle.proof_syntax.specs.Names.{Names, number_of}
use Rattle.proof_syntax.specs.Forms.{Arg, FactArg, NumberArg, TypeArg, TermArg, Truth, plain_konst, typed_konst}
use Rattle.proof_syntax.specs.Grammar.{Placed, at, name, base, plain, IsArg, fact, number, type, term, AreArgs, none, more, end}
use Rattle.proof_syntax.specs.Machine.{State, StepStart, LastEnd, Finished, StepSpace, RuleWord, Behind, WantArg, WantType, HaveType, WantTerm, HaveTerm, WantBound, WantFree, FreeColon, WantConst, TypedOpen, Frame, From, To, OfFree, OfTyped, OfLambda, Function, Argument, Body, InStep, Kind, FactKind, NumberKind, TypeKind, TermKind, kind_of, Opened, with_arg}
use Rattle.proof_total.proofs.Reached.{AtStep, AtArgs, AtArg, AfterTerm, AfterType, Reached}

-- ---- the shortest parts

abbrev any_type : Names → Ty
any_type names = types.Base (number_of (place (codes "bool") names.types))

abbrev any_term : Term
any_term = terms.Con (plain_konst Truth)

abbrev SomeArg : Names → Kind → Type 0
SomeArg names kind = (q : List Placed) × (a : Arg) × (kind_of a ≡ kind) × IsArg names q a

some_arg : (names : Names) (kind : Kind) → SomeArg names kind
some_arg names FactKind = (name 0 (codes "bool") names.facts ∷ [], FactArg (number_of (place (codes "bool") names.facts)), refl, fact)
some_arg names NumberKind = (at 0 (Word (decimal 0)) ∷ [], NumberArg 0, refl, number (omega arith))
some_arg names TypeKind = (name 0 (codes "bool") names.types ∷ [], TypeArg (any_type names), refl, type (base {x = codes "bool"}))
some_arg names TermKind = (_, TermArg any_term, refl, term (plain Truth))

abbrev SomeArgs : Names → List Kind → Type 0
SomeArgs names kinds = (q : List Placed) × (args : List Arg) × (map kind_of args ≡ kinds) × AreArgs names q args

some_args : (names : Names) (kinds : List Kind) → SomeArgs names kinds
some_args names [] = ([], [], refl, none)
some_args names (kind ∷ kinds) =
    let a = some_arg names kind in
    let others = some_args names kinds in
    (at 0 space ∷ a.0 ++ others.0, a.1 ∷ others.1, (λ i. a.2 i ∷ others.2 i), more a.3 others.3)

module _ (names : Names) (Whole : List Placed → List Step → Type 0) where
  abbrev pub GoesOn : List Placed → Type 0
  GoesOn p = (q : List Placed) × (more_ : List Step) × Whole (p ++ q) more_

  front : (p q : List Placed) → GoesOn (p ++ q) → GoesOn p
  front p q h = (q ++ h.0, h.1, subst (λ z. Whole z h.1) (append_assoc p q h.0) h.2)

  ends : (p q : List Placed) (steps : List Step) → Whole (p ++ q) steps → GoesOn p
  ends p q steps h = (q, steps, h)

  -- ---- steps and arguments

  from_step : (before : List Step) (p : List Placed) → AtStep names Whole before p → GoesOn p
  from_step before p h = ends p _ (before ++ []) (h _ [] end)

  from_args : (o : Opened) (kinds : List Kind) (p : List Placed) → AtArgs names Whole o kinds p → GoesOn p
  from_args o kinds p h =
      let args = some_args names kinds in
      let all = h args.0 args.1 args.2 args.3 in
      front p (args.0 ++ at 0 line_end ∷ []) (from_step (o.before ++ all.0 ∷ []) (p ++ (args.0 ++ at 0 line_end ∷ [])) all.2)

  from_arg : (o : Opened) (kind : Kind) (kinds : List Kind) (p : List Placed) → AtArg names Whole o kind kinds p → GoesOn p
  from_arg o kind kinds p h =
      let a = some_arg names kind in
      front p a.0 (from_args (with_arg o a.1 kinds) kinds (p ++ a.0) (h a.0 a.1 a.2 a.3))

  -- ---- terms and types

  after_term : (k : List Frame) (u : Term) (p : List Placed) → AfterTerm names Whole k u p → GoesOn p
  after_term (Function ∷ k) f p h = front p _ (after_term k (terms.App f any_term) _ (h _ any_term (plain Truth)))
  after_term (Argument f ∷ k) x p h = front p _ (after_term k (terms.App f x) _ h)
  after_term (Body a ∷ k) b p h = after_term k (terms.Lam a b) p h
  after_term (InStep o kinds ∷ k) u p h = from_args (with_arg o (TermArg u) kinds) kinds p h
  after_term k u p h = absurd h

  after_type : (k : List Frame) (a : Ty) (p : List Placed) → AfterType names Whole k a p → GoesOn p
  after_type (From ∷ k) a p h = front p _ (after_type k (types.Arrow a (any_type names)) _ (h _ (any_type names) (base {x = codes "bool"})))
  after_type (To a ∷ k) b p h = front p _ (after_type k (types.Arrow a b) _ h)
  after_type (OfFree n ∷ k) a p h = after_term k (terms.Free n a) p h
  after_type (OfTyped c ∷ k) a p h = front p _ (after_term k (terms.Con (typed_konst c a)) _ h)
  after_type (OfLambda ∷ k) a p h = front p _ (after_term k (terms.Lam a any_term) _ (h _ any_term (plain Truth)))
  after_type (InStep o kinds ∷ k) a p h = from_args (with_arg o (TypeArg a) kinds) kinds p h
  after_type k a p h = absurd h

  -- ---- each state

  pub goes_on : (s : State) (p : List Placed) → Reached names Whole s p → GoesOn p
  goes_on (StepStart before) p h = from_step before p h
  goes_on (LastEnd before) p h = ends p _ before h
  goes_on (Finished steps) p h = ends p [] steps (subst (λ z. Whole z steps) (sym (append-nil p)) h)
  goes_on (StepSpace before) p h = front p _ (from_step (before ++ steps.TrueIntro ∷ []) _ (h [] steps.TrueIntro none))
  goes_on (RuleWord before) p h = front p _ (from_step (before ++ steps.TrueIntro ∷ []) _ (h [] steps.TrueIntro none))
  goes_on (Behind o) p h = from_args o o.kinds p h
  goes_on (WantArg o kind kinds) p h = from_arg o kind kinds p h
  goes_on (WantType k) p h = front p _ (after_type k (any_type names) _ (h _ (any_type names) (base {x = codes "bool"})))
  goes_on (HaveType a k) p h = after_type k a p h
  goes_on (WantTerm k) p h = front p _ (after_term k any_term _ (h _ any_term (plain Truth)))
  goes_on (HaveTerm u k) p h = after_term k u p h
  goes_on (WantBound k) p h = front p _ (after_term k (terms.Bound 0) _ (h 0 (omega arith)))
  goes_on (WantFree k) p h = front p _ (after_term k (terms.Free 0 (any_type names)) _ (h 0 _ (any_type names) (omega arith) (base {x = codes "bool"})))
  goes_on (FreeColon n k) p h = front p _ (after_term k (terms.Free n (any_type names)) _ (h _ (any_type names) (base {x = codes "bool"})))
  goes_on (WantConst k) p h = front p _ (after_term k _ _ (h (codes "bool")))
  goes_on (TypedOpen c k) p h = front p _ (after_term k (terms.Con (typed_konst c (any_type names))) _ (h _ (any_type names) (base {x = codes "bool"})))
