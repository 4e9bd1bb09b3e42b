-- Laws of expansion, of the terms put for variables, and of formulas as terms.
use Rattle.std.specs.Prelude.{◌≡◌, ℕ, ◌+◌, IsTrue, List, [], ◌∷◌, ◌++◌, map, length, Some}
use Rattle.hol_terms.specs.declared.ty.Ty.{Ty}
use Rattle.hol_terms.specs.declared.sig.Sig.{Sig}
use Rattle.hol_terms.specs.declared.term.Term.{Term, roll-Term}
use Rattle.hol_terms.specs.declared.term.Term.TheOpen.{Term-F}
use Rattle.hol_terms.specs.Substitution.{is_closed, closed_under, instantiated, abstracted}
use Rattle.hol_terms.specs.Types.{ty_fits}
use Rattle.hol_terms.specs.Typing.{type_of_term}
use Rattle.hol_kernel.specs.Conditions.{IsGiven}
use Rattle.lambda_lift.specs.declared.table.Aux.{Aux}
use Rattle.lambda_lift.specs.Tables.{expand}
use Rattle.lambda_lift.specs.Standing.{Each, aux_below, over, StandsAlone}
use Rattle.hol_formulas.specs.Formulas.{formula_of}
use Rattle.formula_clauses.specs.Choices.{Variable, put_in, closed_over, closed_ty, applied_to, choice, chosen_term, with_choice, variables}
use Rattle.hol_derived.specs.Contractions.{contracted_along}
use Rattle.hol_terms.specs.Formulas.{var_free}
use Rattle.hol_clausify.specs.Places.{term_of}
use Rattle.hol_clausify.specs.Variables.{each_free, has_number}
use Rattle.hol_clausify.specs.Refutations.{chosen_value}

-- a term that a table knows is expanded to the same over each longer one
abbrev pub KnownStays : List Aux → List Aux → Term → Type 0
KnownStays table more t = IsTrue (aux_below (length table) t) → expand (table ++ more) t ≡ expand table t

-- a body made of a term by binding a variable, with this variable put in, is the term
abbrev pub OpensAgain : ℕ → Ty → Term → Type 0
OpensAgain n a t = IsTrue (is_closed t) → instantiated (abstracted n a t) (roll-Term (Term-F.Free n a)) ≡ t

-- each term of the list has no loose index
abbrev pub AllClosed : List Term → Type 0
AllClosed = Each (λ t. IsTrue (is_closed t))

-- a quantifier's body with a value put in, where the scope's terms are in it, has the value as the scope's innermost term
abbrev pub PutUnder : List Term → Term → Term → Type 0
PutUnder e v t = AllClosed e → IsTrue (is_closed v) → IsTrue (closed_under t (length e + 1)) → instantiated (put_in e t 1) v ≡ put_in (v ∷ e) t 0

-- each entry's closed term has no loose index
abbrev pub ClosedTable : List Aux → Type 0
ClosedTable = Each (λ e. IsTrue (is_closed e.closed))

-- expansion goes through a body and the value that is put in
abbrev pub ExpandsUnder : List Aux → Term → Term → Type 0
ExpandsUnder table t u = ClosedTable table → expand table (instantiated t u) ≡ instantiated (expand table t) (expand table u)

-- the term that a formula was read from is told by the formula
abbrev pub ReadsBack : Term → Type 0
ReadsBack t = term_of (formula_of t) ≡ t

-- the redexes of `(\x1..xn. t) x1 .. xn`, the outermost lambda's first: it is the innermost application
abbrev pub head_paths : List Variable → List (List ℕ)
head_paths [] = []
head_paths (v ∷ vs) = map (λ w. 0) vs ∷ head_paths vs

-- contracting these leads from a closed term applied to its variables to the term that it was made of
abbrev pub Reopens : List Variable → Term → Type 0
Reopens vs t = IsTrue (is_closed t) → contracted_along (head_paths vs) (applied_to (closed_over vs t) vs) ≡ t

-- over each table behind it, a chosen term is expanded to its closed term applied to its variables
abbrev pub ChosenExpands : List Aux → Ty → Term → List Aux → Type 0
ChosenExpands table a f more = expand (with_choice table a f ++ more) (chosen_term table a f) ≡ applied_to (choice table a f) (variables f)

-- over a table whose entries stand alone, an expanded term has the type that the term has over the signature and the table, and no
-- auxiliary constant
abbrev pub ExpandedStands : Sig → List Aux → Term → Ty → Type 0
ExpandedStands sig table t a = Each (StandsAlone sig) table → type_of_term (over sig table) t ≡ Some a → IsGiven sig (expand table t) a

-- no entry's closed term has a free variable
abbrev pub BareTable : List Aux → Type 0
BareTable = Each (λ e. IsTrue (var_free e.closed))

-- the closed term of a choice has no loose index and no free variable, where the numbers of the property's variables tell their types
abbrev pub ChoiceStands : List Aux → List Ty → Ty → Term → Type 0
ChoiceStands table types a f =
    ClosedTable table → BareTable table → IsTrue (is_closed f) → IsTrue (each_free (has_number types) f) → IsTrue (is_closed (choice table a f)) × IsTrue (var_free (choice table a f))

-- the chosen term of a property, expanded over each table behind it, is the kernel's chosen value of the expanded property
abbrev pub ChosenShown : List Aux → Ty → Term → List Aux → Type 0
ChosenShown table a f more =
    BareTable table → IsTrue (aux_below (length table) f) → expand (with_choice table a f ++ more) (chosen_term table a f) ≡ chosen_value a (expand (with_choice table a f ++ more) f)

-- the types of these variables are the signature's
abbrev pub AllFit : ℕ → List Variable → Type 0
AllFit types [] = Unit {0}
AllFit types (v ∷ vs) = IsTrue (ty_fits types v.1) × AllFit types vs

-- a closed term over variables has the type of functions from their types, and applied to the variables that of the term
abbrev pub ClosedOverTyped : Sig → List Variable → Term → Ty → Type 0
ClosedOverTyped sig vs t a =
    AllFit sig.types vs → type_of_term sig t ≡ Some a →
    (type_of_term sig (closed_over vs t) ≡ Some (closed_ty vs a)) × (type_of_term sig (applied_to (closed_over vs t) vs) ≡ Some a)
