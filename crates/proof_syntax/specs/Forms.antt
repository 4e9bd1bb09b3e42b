-- How the steps are written: a word, and what follows it.
use Rattle.std.specs.Prelude.{ℕ, List, [], ◌∷◌, codes}
use Rattle.hol_terms.specs.declared.ty.Ty.{Ty}
use Rattle.hol_terms.specs.declared.konst.Konst.{Konst}
use Rattle.hol_terms.specs.declared.konst.Konst.TheVariants as konst
use Rattle.hol_terms.specs.declared.term.Term.{Term}
use Rattle.kernel_rules.specs.declared.step.Step.{Step}
use Rattle.kernel_rules.specs.declared.step.Step.TheVariants as step

-- a fact by its number, the number of a theorem or of a variable, a type, or a term
pub data Arg : Type 0 where
  FactArg : ℕ → Arg
  NumberArg : ℕ → Arg
  TypeArg : Ty → Arg
  TermArg : Term → Arg

pub record Form : Type 0 where
  pub word : List ℕ
  pub args : List Arg

abbrev pub says : List ℕ → List Arg → Form
says word args = record { word = word; args = args }

abbrev pub form : Step → Form
form (step.Fact n) = says (codes "fact") (FactArg n ∷ [])
form (step.Assume t) = says (codes "assume") (TermArg t ∷ [])
form (step.ImpIntro t a) = says (codes "impintro") (TermArg t ∷ NumberArg a.0 ∷ [])
form (step.ImpElim ab a) = says (codes "impelim") (NumberArg ab.0 ∷ NumberArg a.0 ∷ [])
form (step.AndIntro a b) = says (codes "andintro") (NumberArg a.0 ∷ NumberArg b.0 ∷ [])
form (step.AndLeft ab) = says (codes "andleft") (NumberArg ab.0 ∷ [])
form (step.AndRight ab) = says (codes "andright") (NumberArg ab.0 ∷ [])
form (step.OrLeft t a) = says (codes "orleft") (TermArg t ∷ NumberArg a.0 ∷ [])
form (step.OrRight t b) = says (codes "orright") (TermArg t ∷ NumberArg b.0 ∷ [])
form (step.OrElim ab l r) = says (codes "orelim") (NumberArg ab.0 ∷ NumberArg l.0 ∷ NumberArg r.0 ∷ [])
form (step.NotIntro t a) = says (codes "notintro") (TermArg t ∷ NumberArg a.0 ∷ [])
form (step.NotElim na a) = says (codes "notelim") (NumberArg na.0 ∷ NumberArg a.0 ∷ [])
form step.TrueIntro = says (codes "trueintro") []
form (step.Classical t a) = says (codes "classical") (TermArg t ∷ NumberArg a.0 ∷ [])
form (step.AllIntro n ty a) = says (codes "allintro") (NumberArg n ∷ TypeArg ty ∷ NumberArg a.0 ∷ [])
form (step.AllElim t a) = says (codes "allelim") (TermArg t ∷ NumberArg a.0 ∷ [])
form (step.ExIntro f t a) = says (codes "exintro") (TermArg f ∷ TermArg t ∷ NumberArg a.0 ∷ [])
form (step.Choose a) = says (codes "choose") (NumberArg a.0 ∷ [])
form (step.Refl t) = says (codes "refl") (TermArg t ∷ [])
form (step.Subst f eq a) = says (codes "subst") (TermArg f ∷ NumberArg eq.0 ∷ NumberArg a.0 ∷ [])
form (step.Beta t) = says (codes "beta") (TermArg t ∷ [])
form (step.Abs n ty a) = says (codes "abs") (NumberArg n ∷ TypeArg ty ∷ NumberArg a.0 ∷ [])
form (step.Iff ab ba) = says (codes "iff") (NumberArg ab.0 ∷ NumberArg ba.0 ∷ [])
form (step.Inst n ty t a) = says (codes "inst") (NumberArg n ∷ TypeArg ty ∷ TermArg t ∷ NumberArg a.0 ∷ [])

-- the logical constants that are a word alone
pub data Plain : Type 0 where
  Truth : Plain
  Falsity : Plain
  Not : Plain
  And : Plain
  Or : Plain
  Imp : Plain

abbrev pub plain_word : Plain → List ℕ
plain_word Truth = codes "true"
plain_word Falsity = codes "false"
plain_word Not = codes "not"
plain_word And = codes "and"
plain_word Or = codes "or"
plain_word Imp = codes "imp"

abbrev pub plain_konst : Plain → Konst
plain_konst Truth = konst.True
plain_konst Falsity = konst.False
plain_konst Not = konst.Not
plain_konst And = konst.And
plain_konst Or = konst.Or
plain_konst Imp = konst.Imp

-- those that are a word and a type
pub data Typed : Type 0 where
  Eq : Typed
  All : Typed
  Ex : Typed
  Eps : Typed

abbrev pub typed_word : Typed → List ℕ
typed_word Eq = codes "eq"
typed_word All = codes "all"
typed_word Ex = codes "ex"
typed_word Eps = codes "eps"

abbrev pub typed_konst : Typed → Ty → Konst
typed_konst Eq a = konst.Eq a
typed_konst All a = konst.All a
typed_konst Ex a = konst.Ex a
typed_konst Eps a = konst.Eps a
