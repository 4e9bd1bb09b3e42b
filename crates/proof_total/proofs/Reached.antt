-- What has come where the walk is in a state: whatever completes it from there makes a whole.
-- `Whole p steps`: the tokens `p` are a whole text, and read as these steps.
use Rattle.std.proofs.Common.{◌≡◌, ℕ, ◌+◌, ◌^◌, ◌<◌, List, [], ◌∷◌, ◌++◌, length, map, decimal, Some, None}
use Rattle.hol_terms.specs.declared.ty.Ty.{Ty}
use Rattle.hol_terms.specs.declared.ty.Ty.TheVariants as types
use Rattle.hol_terms.specs.declared.konst.Konst.TheVariants as konst
use Rattle.hol_terms.specs.declared.term.Term.{Term}
use Rattle.hol_terms.specs.declared.term.Term.TheVariants as terms
use Rattle.kernel_rules.specs.declared.step.Step.{Step}
use Rattle.theory_terms.specs.Words.{place}
use Rattle.proof_syntax.specs.Tokens.{Tok, Word, space, colon, greater, close_round, open_square, close_square, close_brace, line_end}
use Rattle.proof_syntax.specs.Names.{Names, number_of}
use Rattle.proof_syntax.specs.Forms.{Arg, TypeArg, TermArg, form, typed_konst}
use Rattle.proof_syntax.specs.Grammar.{Placed, at, name, IsType, IsTerm, IsArg, AreArgs, AreSteps}
use Rattle.proof_syntax.specs.Machine.{State, StepStart, LastEnd, Finished, StepSpace, RuleWord, Behind, WantArg, WantType, HaveType, WantTerm, HaveTerm, WantBound, WantFree, FreeColon, WantConst, TypedOpen, Frame, From, To, OfFree, OfTyped, OfLambda, Function, Argument, Body, InStep, level, Kind, kind_of, Opened, with_arg, Stepped}

module _ (names : Names) (Whole : List Placed → List Step → Type 0) where
  -- ---- steps and their arguments

  abbrev pub AtStep : List Step → List Placed → Type 0
  AtStep before p = (q : List Placed) (steps : List Step) → AreSteps names (length before) q steps → Whole (p ++ q) (before ++ steps)

  -- behind a step's number, and where its word is due
  abbrev pub AfterNumber : List Step → List Placed → Type 0
  AfterNumber before p = (q : List Placed) (s : Step) → AreArgs names q (form s).args →
      AtStep (before ++ s ∷ []) (p ++ (at 0 space ∷ at 0 (Word (form s).word) ∷ q ++ at 0 line_end ∷ []))

  abbrev pub AtRule : List Step → List Placed → Type 0
  AtRule before p = (q : List Placed) (s : Step) → AreArgs names q (form s).args → AtStep (before ++ s ∷ []) (p ++ (at 0 (Word (form s).word) ∷ q ++ at 0 line_end ∷ []))

  -- arguments of these kinds are still due
  abbrev pub AtArgs : Opened → List Kind → List Placed → Type 0
  AtArgs o kinds p = (q : List Placed) (args : List Arg) → map kind_of args ≡ kinds → AreArgs names q args →
      (s : Step) × (o.make (o.done ++ args) ≡ Some s) × AtStep (o.before ++ s ∷ []) (p ++ (q ++ at 0 line_end ∷ []))

  abbrev pub AtArg : Opened → Kind → List Kind → List Placed → Type 0
  AtArg o kind kinds p = (q : List Placed) (a : Arg) → kind_of a ≡ kind → IsArg names q a → AtArgs (with_arg o a kinds) kinds (p ++ q)

  -- ---- behind a term and behind a type

  abbrev pub AfterTerm : List Frame → Term → List Placed → Type 0
  AfterTerm (Function ∷ k) f p = (q : List Placed) (x : Term) → IsTerm names (level k + 1) q x →
      AfterTerm k (terms.App f x) (p ++ (at (level k + 1) space ∷ q ++ at (level k + 1) close_round ∷ []))
  AfterTerm (Argument f ∷ k) x p = AfterTerm k (terms.App f x) (p ++ at (level k + 1) close_round ∷ [])
  AfterTerm (Body a ∷ k) b p = AfterTerm k (terms.Lam a b) p
  AfterTerm (InStep o kinds ∷ k) u p = AtArgs (with_arg o (TermArg u) kinds) kinds p
  AfterTerm _ u p = ⊥

  abbrev pub AfterType : List Frame → Ty → List Placed → Type 0
  AfterType (From ∷ k) a p = (q : List Placed) (b : Ty) → IsType names (level k) q b →
      AfterType k (types.Arrow a b) (p ++ (at (level k) greater ∷ q ++ at (level k) close_round ∷ []))
  AfterType (To a ∷ k) b p = AfterType k (types.Arrow a b) (p ++ at (level k) close_round ∷ [])
  AfterType (OfFree n ∷ k) a p = AfterTerm k (terms.Free n a) p
  AfterType (OfTyped c ∷ k) a p = AfterTerm k (terms.Con (typed_konst c a)) (p ++ at (level k) close_square ∷ [])
  AfterType (OfLambda ∷ k) a p = (q : List Placed) (b : Term) → IsTerm names (level k + 1) q b → AfterTerm k (terms.Lam a b) (p ++ (at (level k + 1) close_brace ∷ q))
  AfterType (InStep o kinds ∷ k) a p = AtArgs (with_arg o (TypeArg a) kinds) kinds p
  AfterType _ a p = ⊥

  abbrev pub AtTerm : ℕ → List Frame → List Placed → Type 0
  AtTerm l k p = (q : List Placed) (u : Term) → IsTerm names l q u → AfterTerm k u (p ++ q)

  abbrev pub AtType : ℕ → List Frame → List Placed → Type 0
  AtType l k p = (q : List Placed) (a : Ty) → IsType names l q a → AfterType k a (p ++ q)

  -- ---- states

  abbrev pub Reached : State → List Placed → Type 0
  Reached (StepStart before) p = AtStep before p
  Reached (LastEnd before) p = Whole (p ++ at 0 line_end ∷ []) before
  Reached (Finished steps) p = Whole p steps
  Reached (StepSpace before) p = AfterNumber before p
  Reached (RuleWord before) p = AtRule before p
  Reached (Behind o) p = AtArgs o o.kinds p
  Reached (WantArg o kind kinds) p = AtArg o kind kinds p
  Reached (WantType k) p = AtType (level k) k p
  Reached (HaveType a k) p = AfterType k a p
  Reached (WantTerm k) p = AtTerm (level k) k p
  Reached (HaveTerm u k) p = AfterTerm k u p
  Reached (WantBound k) p = (n : ℕ) → n < 2 ^ 64 → AfterTerm k (terms.Bound n) (p ++ at (level k) (Word (decimal n)) ∷ [])
  Reached (WantFree k) p = (n : ℕ) (q : List Placed) (a : Ty) → n < 2 ^ 64 → IsType names (level k) q a →
      AfterTerm k (terms.Free n a) (p ++ (at (level k) (Word (decimal n)) ∷ at (level k) colon ∷ q))
  Reached (FreeColon n k) p = (q : List Placed) (a : Ty) → IsType names (level k) q a → AfterTerm k (terms.Free n a) (p ++ (at (level k) colon ∷ q))
  Reached (WantConst k) p = (x : List ℕ) → AfterTerm k (terms.Con (konst.Named (number_of (place x names.consts)))) (p ++ name (level k) x names.consts ∷ [])
  Reached (TypedOpen c k) p = (q : List Placed) (a : Ty) → IsType names (level k) q a →
      AfterTerm k (terms.Con (typed_konst c a)) (p ++ (at (level k) open_square ∷ q ++ at (level k) close_square ∷ []))

  -- a token keeps to it
  abbrev pub Keeps : List Placed → Tok → Stepped → Type 0
  Keeps p x None = Unit {0}
  Keeps p x (Some s) = Reached s.state (p ++ at s.level x ∷ [])
