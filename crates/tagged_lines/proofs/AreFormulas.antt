-- What clauses stand for are formulas.
use Rattle.std.proofs.Common.{◌≡◌, ◌<◌, IsTrue, List, [], ◌∷◌, ◌∙◌, Some}
use Rattle.hol_terms.specs.declared.ty.Ty.{Ty}
use Rattle.hol_terms.specs.declared.konst.Konst.TheVariants as konst
use Rattle.hol_terms.specs.declared.sig.Sig.{Sig}
use Rattle.hol_terms.specs.declared.term.Term.{Term, roll-Term}
use Rattle.hol_terms.specs.declared.term.Term.TheOpen.{Term-F}
use Rattle.hol_terms.specs.Types.{bool_ty, function_ty}
use Rattle.hol_terms.specs.Typing.{applied, type_of_term}
use Rattle.hol_terms.specs.Formulas.{aux_free, IsFormula}
use Rattle.hol_terms.proofs.Both.{and_true}
use Rattle.hol_terms.proofs.TypedParts.{checked_so, applied_fits, own_type_fits}
use Rattle.hol_terms.proofs.Equations.{type-con, type-app, aux_free-con, aux_free-app}
use Rattle.hol_terms.proofs.Formulas.{formula_from}
use Rattle.fo_terms.specs.declared.atom.Atom.{Atom}
use Rattle.fo_terms.specs.declared.atom.Atom.TheVariants.{Holds, Eq}
use Rattle.fo_terms.specs.declared.literal.Literal.{Literal}
use Rattle.tagged_terms.specs.Readings.{Signs, Types, application}
use Rattle.tagged_terms.specs.Terms.{term_at, tag_of}
use Rattle.tagged_terms.specs.Clauses.{equation, formula_of, literals_of, IsAtom, IsClause}
use Rattle.tagged_terms.specs.Fits.{AreTyped, AreOf}
use Rattle.tagged_terms.proofs.Typing.{readings_typed}
use Rattle.tagged_lines.specs.Formulas.{AreFormulas, ClausesAreFormulas}

module _ (sig : Sig) (has_bool : 0 < sig.types) where
  -- an equation between two terms of a type is a formula
  pub equation_formula : (a : Ty) (s t : Term) → type_of_term sig s ≡ Some a → type_of_term sig t ≡ Some a → IsTrue (aux_free s) → IsTrue (aux_free t) → IsFormula sig (equation a s t)
  equation_formula a s t hs ht fs ft =
      let eq : Term = roll-Term (Term-F.Con (konst.Eq a)) in
      let head : type_of_term sig eq ≡ Some (function_ty a (function_ty a bool_ty)) =
      type-con sig (konst.Eq a) [] ∙ checked_so sig.types a (function_ty a (function_ty a bool_ty)) (own_type_fits sig has_bool s a hs) in
      let one : type_of_term sig (application eq s) ≡ Some (function_ty a bool_ty) = type-app sig eq s [] ∙ (λ i. applied (head i) (hs i)) ∙ applied_fits a (function_ty a bool_ty) in
      let whole : type_of_term sig (equation a s t) ≡ Some bool_ty = type-app sig (application eq s) t [] ∙ (λ i. applied (one i) (ht i)) ∙ applied_fits a bool_ty in
      formula_from sig (equation a s t) whole
      (aux_free-app (application eq s) t ∙ and_true (aux_free (application eq s)) (aux_free t) (aux_free-app eq s ∙ and_true (aux_free eq) (aux_free s) (aux_free-con (konst.Eq a)) fs) ft)

  module _ (signs : Signs) (types : Types) (typed : AreTyped sig signs) (of : AreOf sig types) where
    atom_formula : (a : Atom) → IsAtom signs types a → IsFormula sig (formula_of signs a)
    atom_formula (Holds t) h = let is = (readings_typed t sig signs types typed of bool_ty (term_at signs t bool_ty)).1 h in formula_from sig (term_at signs t bool_ty) is.0 is.1
    atom_formula (Eq s t) h =
        let left = (readings_typed s sig signs types typed of (tag_of signs s) (term_at signs s bool_ty)).1 h.0 in
        let right = (readings_typed t sig signs types typed of (tag_of signs s) (term_at signs t bool_ty)).1 h.1 in
        equation_formula (tag_of signs s) (term_at signs s bool_ty) (term_at signs t bool_ty) left.0 right.0 left.1 right.1

    clause_formulas : (ls : List Literal) → IsClause signs types ls → AreFormulas sig (literals_of signs ls)
    clause_formulas [] h = tt
    clause_formulas (l ∷ ls) h = (atom_formula l.atom h.0, clause_formulas ls h.1)

pub are_formulas : (ls : List Literal) → ClausesAreFormulas ls
are_formulas ls sig signs types has_bool typed of h = clause_formulas sig has_bool signs types typed of ls h
