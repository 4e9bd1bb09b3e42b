-- An encoded atom is tagged, and stands for the atom with its auxiliary constants expanded.
use Rattle.std.proofs.Common.{◌≡◌, ℕ, Bool, true, false, ◌||◌, IsTrue, List, [], ◌∷◌, ◌++◌, Some, None, refl, sym, ap, subst, ◌∙◌}
use Rattle.std.specs.Prelude.{Option}
use Rattle.hol_terms.specs.declared.ty.Ty.{Ty}
use Rattle.hol_terms.specs.declared.konst.Konst.TheVariants as konst
use Rattle.hol_terms.specs.declared.sig.Sig.{Sig}
use Rattle.hol_terms.specs.declared.term.Term.{Term, roll-Term}
use Rattle.hol_terms.specs.declared.term.Term.TheOpen.{Term-F}
use Rattle.hol_terms.specs.declared.term.Term.TheFolds.{fold-roll-Term}
use Rattle.hol_terms.specs.Types.{bool_ty, function_ty, is_ty}
use Rattle.hol_terms.specs.Typing.{type_in}
use Rattle.hol_terms.specs.Substitution.{occurs}
use Rattle.hol_terms.proofs.Both.{both_true}
use Rattle.hol_terms.proofs.TypedParts.{applied_parts, checked_some, function_parts}
use Rattle.hol_terms.proofs.Equations.{type-con, type-app, occurs-app}
use Rattle.hol_formulas.specs.Atoms.{sides}
use Rattle.kernel_rules.specs.Connectives.{equal, apply, constant}
use Rattle.lambda_lift.specs.declared.table.Aux.{Aux}
use Rattle.lambda_lift.specs.Tables.{expand}
use Rattle.lambda_lift.specs.Standing.{over}
use Rattle.lambda_lift.proofs.Expansions.{expand_app, expand_con}
use Rattle.fo_terms.specs.declared.term.FoTerm.{FoTerm}
use Rattle.fo_terms.specs.declared.atom.Atom.{Atom}
use Rattle.tagged_terms.specs.declared.symbol.Symbol.{Symbol}
use Rattle.tagged_terms.specs.Readings.{Types, IsTagged, signs_of}
use Rattle.tagged_terms.specs.Terms.{term_at, tag_of}
use Rattle.tagged_terms.specs.Clauses.{IsAtom, formula_of, equation}
use Rattle.tagged_terms.proofs.Standing.{readings_stand}
use Rattle.fol_encode.specs.declared.sign.Sign.{Sign}
use Rattle.fol_encode.specs.declared.sign.Sign.TheVariants as sign
use Rattle.fol_encode.specs.Signs.{symbols_of}
use Rattle.fol_encode.specs.Occurring.{parts, all_signs, occurring}
use Rattle.fol_encode.specs.Encoding.{encoded, atom_of, atom_encoded}
use Rattle.fol_encode.specs.Laws.{lambda_free, lambda_free_step, Covers, Fits}
use Rattle.fol_encode.proofs.Gathering.{parts_app}
use Rattle.fol_encode.proofs.Reading.{covers_left, covers_right, whole_read}
use Rattle.tagged_inputs.proofs.Sides.{IsEquation, sides_told}

module _ (sig : Sig) (table : List Aux) (signs : List Sign) (types : Types) where
  abbrev syms : ℕ → Option Symbol
  syms = signs_of (symbols_of table signs)

  abbrev Ready : Term → Type 0
  Ready = Fits sig table signs types

  -- ---- the parts of an application
  covers_parts : (f x : Term) → Covers signs (occurring sig table (apply f x)) → Covers signs (occurring sig table f) × Covers signs (occurring sig table x)
  covers_parts f x cov =
      let p = all_signs (parts sig table f []) in
      let q = all_signs (parts sig table x []) in
      let whole = subst (λ r. Covers signs (all_signs r)) (parts_app sig table [] f x) cov in
      let two = covers_left signs (p ++ q) (sign.Apply ∷ []) (covers_left signs ((p ++ q) ++ sign.Apply ∷ []) (sign.Tag _ ∷ []) whole) in
      (covers_left signs p q two, covers_right signs p q two)

  or_right : (c e : Bool) → IsTrue e → IsTrue (c || e)
  or_right true e h = refl
  or_right false e h = h

  parts_ready : (f x : Term) → Ready (apply f x) → Ready f × Ready x
  parts_ready f x h =
      let both = both_true (lambda_free f) (lambda_free x) (sym (fold-roll-Term Bool lambda_free_step (Term-F.App f x)) ∙ h.without_lambda) in
      let cov = covers_parts f x h.covered in (
        record { without_lambda = both.0; covered = cov.0; variables = λ n a o. h.variables n a (occurs-app n a f x ∙ ap (λ z. z || occurs n a x) o) },
        record { without_lambda = both.1; covered = cov.1; variables = λ n a o. h.variables n a (occurs-app n a f x ∙ or_right (occurs n a f) (occurs n a x) o) },
      )

  -- ---- tagged terms
  record IsRead (t : Term) (a : Ty) (u : FoTerm) : Type 0 where
    tagged : (b : Ty) → IsTagged syms types u a (term_at syms u b)
    tag : tag_of syms u ≡ a
    term : (b : Ty) → term_at syms u b ≡ expand table t

  is_read : (t : Term) (a : Ty) → Ready t → type_in (over sig table) t [] ≡ Some a → IsRead t a (encoded signs t [])
  is_read t a ready h =
      let read = whole_read sig table signs types t a ready h in
      let stands = (readings_stand (encoded signs t []) syms types a (expand table t)).1 read in
      record {
        tagged = λ b. subst (λ d. IsTagged syms types (encoded signs t []) a d) (sym (stands.1 b)) read;
        tag = stands.0;
        term = stands.1;
      }

  -- ---- atoms
  pub record Stands (t : Term) (u : Atom) : Type 0 where
    pub tagged : IsAtom syms types u
    pub formula : formula_of syms u ≡ expand table t

  holds : (t : Term) → Ready t → type_in (over sig table) t [] ≡ Some bool_ty → Stands t (atom_of signs None t [])
  holds t ready h = let read = is_read t bool_ty ready h in record { tagged = read.tagged bool_ty; formula = read.term bool_ty }

  -- the sides of an equation have its type
  record AreSides (a : Ty) (s u : Term) : Type 0 where
    left : type_in (over sig table) s [] ≡ Some a
    right : type_in (over sig table) u [] ≡ Some a

  sides_typed : (a : Ty) (s u : Term) → type_in (over sig table) (equal a s u) [] ≡ Some bool_ty → AreSides a s u
  sides_typed a s u h =
      let g = over sig table in
      let outer = applied_parts (type_in g (apply (constant (konst.Eq a)) s) []) (type_in g u []) bool_ty (sym (type-app g (apply (constant (konst.Eq a)) s) u []) ∙ h) in
      let inner = applied_parts (type_in g (constant (konst.Eq a)) []) (type_in g s []) (function_ty outer.0 bool_ty) (sym (type-app g (constant (konst.Eq a)) s []) ∙ outer.1.0) in
      let own = (checked_some sig.types a (function_ty a (function_ty a bool_ty)) (function_ty inner.0 (function_ty outer.0 bool_ty)) (sym (type-con g (konst.Eq a) []) ∙ inner.1.0)).1 in
      let apart = function_parts a (function_ty a bool_ty) inner.0 (function_ty outer.0 bool_ty) own in
      let further = function_parts a bool_ty outer.0 bool_ty apart.1 in
      record { left = inner.1.1 ∙ ap Some (sym apart.0); right = outer.1.1 ∙ ap Some (sym further.0) }

  equal_stands : (a : Ty) (s u : Term) → is_ty a bool_ty ≡ false → Ready (equal a s u) → type_in (over sig table) (equal a s u) [] ≡ Some bool_ty → Stands (equal a s u) (atom_of signs (Some (s, u)) (equal a s u) [])
  equal_stands a s u other ready h =
      let typed = sides_typed a s u h in
      let whole = parts_ready (apply (constant (konst.Eq a)) s) u ready in
      let left = is_read s a (parts_ready (constant (konst.Eq a)) s whole.0).1 typed.left in
      let right = is_read u a whole.1 typed.right in
      let es = encoded signs s [] in
      let eu = encoded signs u [] in
      record {
        tagged = (
          subst (λ b. IsTagged syms types es b (term_at syms es bool_ty)) (sym left.tag) (left.tagged bool_ty),
          subst (λ b. IsTagged syms types eu b (term_at syms eu bool_ty)) (sym left.tag) (right.tagged bool_ty),
          ap (λ b. is_ty b bool_ty) left.tag ∙ other,
        );
        formula =
            (λ i. equation (left.tag i) (left.term bool_ty i) (right.term bool_ty i))
            ∙ sym (expand_app table (apply (constant (konst.Eq a)) s) u
            ∙ ap (λ f. apply f (expand table u)) (expand_app table (constant (konst.Eq a)) s ∙ ap (λ k. apply k (expand table s)) (expand_con table (konst.Eq a))));
      }

  by_sides : (t : Term) (o : Option (Term × Term)) → sides t ≡ o → Ready t → type_in (over sig table) t [] ≡ Some bool_ty → Stands t (atom_of signs o t [])
  by_sides t None at ready h = holds t ready h
  by_sides t (Some e) at ready h =
      let is = sides_told t e at in
      subst (λ v. Stands v (atom_of signs (Some e) v [])) (sym is.is)
      (equal_stands is.ty e.0 e.1 is.other (subst Ready is.is ready) (subst (λ v. type_in (over sig table) v [] ≡ Some bool_ty) is.is h))

  pub atom_stands : (t : Term) → Ready t → type_in (over sig table) t [] ≡ Some bool_ty → Stands t (atom_encoded signs t [])
  atom_stands t ready h = by_sides t (sides t) refl ready h
