-- Terms whose types and constants are declared: what is typed, and what is given to rules.
use Rattle.std.proofs.Common.{◌≡◌, ℕ, Bool, true, false, ◌&&◌, nat_lt, IsTrue, List, [], ◌∷◌, length, slice_get, Option, Some, None, refl, sym, ◌∙◌, rules}
use Rattle.std.specs.List.{list_all}
use Rattle.std.proofs.lemmas.Option.{slice_get_within}
use Rattle.hol_terms.specs.declared.ty.Ty.{Ty}
use Rattle.hol_terms.specs.declared.konst.Konst.{Konst}
use Rattle.hol_terms.specs.declared.konst.Konst.TheVariants as konst
use Rattle.hol_terms.specs.declared.sig.Sig.{Sig}
use Rattle.hol_terms.specs.declared.term.Term.{Term, roll-Term}
use Rattle.hol_terms.specs.declared.term.Term.TheOpen.{Term-F}
use Rattle.hol_terms.specs.declared.term.Term.TheFolds.{fold-Term, fold-roll-Term}
use Rattle.hol_terms.specs.Types.{ty_fits, bool_ty, function_ty}
use Rattle.hol_terms.specs.Typing.{type_in, type_of_term, konst_type, checked}
use Rattle.hol_terms.specs.Formulas.{aux_free, no_aux, is_formula}
use Rattle.hol_terms.proofs.Both.{both_true, and_true}
use Rattle.hol_terms.proofs.TermCases.{by_cases}
use Rattle.hol_terms.proofs.TypedParts.{checked_some, applied_parts, under_parts}
use Rattle.hol_terms.proofs.Formulas.{formula_typed, formula_aux_free}
use Rattle.hol_terms.proofs.Equations.{type-free, type-con, type-app, type-lam, aux_free-con, aux_free-app, aux_free-lam}
use Rattle.kernel_rules.specs.Rules.{is_given}
use Rattle.kernel_rules.proofs.GivenTerms.{given_typed, given_aux_free}
use Rattle.proof_syntax.specs.Forms.{Arg, FactArg, NumberArg, TypeArg, TermArg}

-- ---- so many types and constants are declared

abbrev pub konst_named : ℕ → ℕ → Konst → Bool
konst_named types consts (konst.Named k) = nat_lt k consts
konst_named types consts (konst.Aux k) = false
konst_named types consts (konst.Eq a) = ty_fits types a
konst_named types consts (konst.All a) = ty_fits types a
konst_named types consts (konst.Ex a) = ty_fits types a
konst_named types consts (konst.Eps a) = ty_fits types a
konst_named types consts _ = true

abbrev pub term_named_step : ℕ → ℕ → Term-F Bool → Bool
term_named_step types consts (Term-F.Bound i) = true
term_named_step types consts (Term-F.Free n a) = ty_fits types a
term_named_step types consts (Term-F.Con k) = konst_named types consts k
term_named_step types consts (Term-F.App f x) = f && x
term_named_step types consts (Term-F.Lam a b) = ty_fits types a && b

abbrev pub term_named : ℕ → ℕ → Term → Bool
term_named types consts = fold-Term Bool (term_named_step types consts)

abbrev pub arg_named : ℕ → ℕ → ℕ → Arg → Bool
arg_named types consts facts (FactArg n) = nat_lt n facts
arg_named types consts facts (NumberArg n) = true
arg_named types consts facts (TypeArg a) = ty_fits types a
arg_named types consts facts (TermArg t) = term_named types consts t

abbrev pub args_named : ℕ → ℕ → ℕ → List Arg → Bool
args_named types consts facts args = list_all (arg_named types consts facts) args

module _ (types consts : ℕ) where
  pub named-bound : (i : ℕ) → term_named types consts (roll-Term (Term-F.Bound i)) ≡ true
  named-bound i = fold-roll-Term Bool (term_named_step types consts) (Term-F.Bound i)

  pub named-free : (n : ℕ) (a : Ty) → term_named types consts (roll-Term (Term-F.Free n a)) ≡ ty_fits types a
  named-free n a = fold-roll-Term Bool (term_named_step types consts) (Term-F.Free n a)

  pub named-con : (k : Konst) → term_named types consts (roll-Term (Term-F.Con k)) ≡ konst_named types consts k
  named-con k = fold-roll-Term Bool (term_named_step types consts) (Term-F.Con k)

  pub named-app : (f x : Term) → term_named types consts (roll-Term (Term-F.App f x)) ≡ (term_named types consts f && term_named types consts x)
  named-app f x = fold-roll-Term Bool (term_named_step types consts) (Term-F.App f x)

  pub named-lam : (a : Ty) (b : Term) → term_named types consts (roll-Term (Term-F.Lam a b)) ≡ (ty_fits types a && term_named types consts b)
  named-lam a b = fold-roll-Term Bool (term_named_step types consts) (Term-F.Lam a b)

-- ---- what is typed over a signature is declared there

module _ (sig : Sig) where
  abbrev pub IsNamed : Term → Type 0
  IsNamed t = IsTrue (term_named sig.types (length sig.consts) t)

  abbrev Named : Term → Type 0
  Named t = (d : List Ty) (a : Ty) → type_in sig t d ≡ Some a → IsTrue (aux_free t) → IsNamed t

  named_free : (n : ℕ) (b : Ty) → Named (roll-Term (Term-F.Free n b))
  named_free n b d a h free = named-free sig.types (length sig.consts) n b ∙ (checked_some sig.types b b a (sym (type-free sig n b d) ∙ h)).0

  carried : (b t a : Ty) → checked sig.types b t ≡ Some a → IsTrue (ty_fits sig.types b)
  carried b t a h = (checked_some sig.types b t a h).0

  found_const : (k : ℕ) (o : Option Ty) (a : Ty) → slice_get sig.consts k ≡ o → konst_type sig (konst.Named k) ≡ Some a → IsTrue (nat_lt k (length sig.consts))
  found_const k None a e h = let none : konst_type sig (konst.Named k) ≡ None = rw e refl in cc
  found_const k (Some b) a e h = let l = slice_get_within sig.consts k b e in search (rules, l)

  konst_is_named : (k : Konst) (a : Ty) → konst_type sig k ≡ Some a → IsTrue (no_aux k) → IsTrue (konst_named sig.types (length sig.consts) k)
  konst_is_named (konst.Named k) a h free = found_const k (slice_get sig.consts k) a refl h
  konst_is_named (konst.Aux k) a h free = cc
  konst_is_named konst.True a h free = refl
  konst_is_named konst.False a h free = refl
  konst_is_named konst.Not a h free = refl
  konst_is_named konst.And a h free = refl
  konst_is_named konst.Or a h free = refl
  konst_is_named konst.Imp a h free = refl
  konst_is_named (konst.Eq b) a h free = carried b (function_ty b (function_ty b bool_ty)) a h
  konst_is_named (konst.All b) a h free = carried b (function_ty (function_ty b bool_ty) bool_ty) a h
  konst_is_named (konst.Ex b) a h free = carried b (function_ty (function_ty b bool_ty) bool_ty) a h
  konst_is_named (konst.Eps b) a h free = carried b (function_ty (function_ty b bool_ty) b) a h

  named_con : (k : Konst) → Named (roll-Term (Term-F.Con k))
  named_con k d a h free = named-con sig.types (length sig.consts) k ∙ konst_is_named k a (sym (type-con sig k d) ∙ h) (sym (aux_free-con k) ∙ free)

  named_app : (f x : Term) → Named f → Named x → Named (roll-Term (Term-F.App f x))
  named_app f x hf hx d a h free =
      let from = applied_parts (type_in sig f d) (type_in sig x d) a (sym (type-app sig f x d) ∙ h) in
      let both = both_true (aux_free f) (aux_free x) (sym (aux_free-app f x) ∙ free) in
      named-app sig.types (length sig.consts) f x
      ∙ and_true (term_named sig.types (length sig.consts) f) (term_named sig.types (length sig.consts) x) (hf d (function_ty from.0 a) from.1.0 both.0) (hx d from.0 from.1.1 both.1)

  named_lam : (b : Ty) (t : Term) → Named t → Named (roll-Term (Term-F.Lam b t))
  named_lam b t ht d a h free =
      let from = under_parts sig.types b (type_in sig t (b ∷ d)) a (sym (type-lam sig b t d) ∙ h) in
      named-lam sig.types (length sig.consts) b t
      ∙ and_true (ty_fits sig.types b) (term_named sig.types (length sig.consts) t) from.1.1.1 (ht (b ∷ d) from.0 from.1.0 (sym (aux_free-lam b t) ∙ free))

  pub typed_named : (t : Term) (a : Ty) → type_of_term sig t ≡ Some a → IsTrue (aux_free t) → IsNamed t
  typed_named t a h free = by_cases Named (λ i d b h free. named-bound sig.types (length sig.consts) i) named_free named_con named_app named_lam t [] a h free

  pub given_named : (t : Term) (a : Ty) → is_given sig t a ≡ true → IsNamed t
  given_named t a h = typed_named t a (given_typed sig t a h) (given_aux_free sig t a h)

  pub formula_named : (t : Term) → is_formula sig t ≡ true → IsNamed t
  formula_named t h = typed_named t bool_ty (formula_typed sig t h) (formula_aux_free sig t h)
