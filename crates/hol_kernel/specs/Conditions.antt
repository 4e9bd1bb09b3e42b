-- Where a rule may be used.
use Rattle.std.specs.Prelude.{◌≡◌, IsTrue, unwrap_or}
use Rattle.hol_terms.specs.declared.ty.Ty.{Ty}
use Rattle.hol_terms.specs.declared.sig.Sig.{Sig}
use Rattle.hol_terms.specs.declared.term.Term.{Term}
use Rattle.hol_terms.specs.Types.{bool_ty, function_ty}
use Rattle.hol_terms.specs.Typing.{type_of_term}
use Rattle.kernel_rules.specs.Connectives.{imp, right_of}
use Rattle.kernel_rules.specs.Rules.{is_given}

-- the type of a term; bool where it has none
unfoldable pub own_ty : Sig → Term → Ty
own_ty sig t = unwrap_or (type_of_term sig t) bool_ty

-- the term has the type, and holds no auxiliary constant
abbrev pub IsGiven : Sig → Term → Ty → Type 0
IsGiven sig t a = IsTrue (is_given sig t a)

-- the term is a property of the values of the type
abbrev pub IsProperty : Sig → Term → Ty → Type 0
IsProperty sig f a = IsGiven sig f (function_ty a bool_ty)

-- the term is `a ==> b` for some `b`
abbrev pub IsImp : Term → Term → Type 0
IsImp t a = t ≡ imp a (right_of t)
