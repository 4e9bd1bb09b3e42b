-- The types of a clause's variables stand in its tags, so they are the signature's.
use Rattle.std.proofs.Common.{◌≡◌, ℕ, Bool, true, false, ◌==◌, if◌then◌else◌, IsTrue, List, [], ◌∷◌, ◌++◌, map, refl, sym, subst, ◌∙◌, Option, Some, None}
use Rattle.std.specs.List.{list_any, concat}
use Rattle.hol_terms.specs.declared.ty.Ty.{Ty}
use Rattle.hol_terms.specs.declared.sig.Sig.{Sig}
use Rattle.hol_terms.specs.declared.term.Term.{Term}
use Rattle.hol_terms.specs.Types.{is_ty, ty_fits}
use Rattle.hol_terms.specs.Typing.{applied}
use Rattle.hol_terms.proofs.TyCases.{is_ty_same}
use Rattle.fo_terms.specs.declared.term.FoTerm.{FoTerm}
use Rattle.fo_terms.specs.declared.atom.Atom.{Atom}
use Rattle.fo_terms.specs.declared.atom.Atom.TheVariants.{Holds, Eq}
use Rattle.fo_terms.specs.declared.literal.Literal.{Literal}
use Rattle.fo_terms.specs.Substitution.{var, fun}
use Rattle.fo_terms.specs.Normal.{variables_of, atom_terms, literal_variables, clause_variables}
use Rattle.fo_terms.proofs.Induction.{Each, by_cases}
use Rattle.fo_terms.proofs.Renaming.{each_append, variables_var, variables_fun}
use Rattle.tagged_terms.specs.declared.symbol.Symbol.{Symbol}
use Rattle.tagged_terms.specs.declared.symbol.Symbol.TheVariants.{Tag, Apply, Constant}
use Rattle.tagged_terms.specs.Readings.{Signs, Types, Reading, Unread, Core, Tagged, application, core_of, variable, tagging, applying, read_tag, read_apply, read_constant, read_symbol, reading, IsTagged}
use Rattle.tagged_terms.specs.Clauses.{IsAtom, IsClause}
use Rattle.tagged_terms.specs.Fits.{AreTyped, AreOf}
use Rattle.tagged_terms.proofs.Steps.{read_var, read_fun}
use Rattle.tagged_lines.specs.Variables.{own}
use Rattle.tagged_lines.specs.Formulas.{OwnTypesServe}
use Rattle.tagged_lines.proofs.Agreeing.{own_clause}
use Rattle.tagged_lines.proofs.Apart.{own_parts, at_listed}

module _ (sig : Sig) (signs : Signs) (types : Types) (typed : AreTyped sig signs) where
  -- the variable's type is the signature's
  abbrev Fine : ℕ → Type 0
  Fine x = (s : Ty) → types x ≡ Some s → IsTrue (ty_fits sig.types s)

  abbrev AllFine : List ℕ → Type 0
  AllFine xs = Each Fine xs

  abbrev R : FoTerm → Reading
  R = reading signs types

  -- below a tag all variables are fine; in a core they are where its own type is
  abbrev Told : Reading → List ℕ → Type 0
  Told Unread xs = Unit {0}
  Told (Core s d) xs = IsTrue (ty_fits sig.types s) → AllFine xs
  Told (Tagged s d) xs = AllFine xs

  abbrev Good : FoTerm → Type 0
  Good t = Told (R t) (variables_of t)

  with_none : (xs : List ℕ) → AllFine xs → AllFine (xs ++ [])
  with_none xs h = each_append Fine xs [] h tt

  tag_step : (a s : Ty) (d : Term) (xs : List ℕ) (test : Bool) → is_ty a s ≡ test → IsTrue (ty_fits sig.types s) → (IsTrue (ty_fits sig.types a) → AllFine xs) → Told (if test then Tagged s d else Unread) (xs ++ [])
  tag_step a s d xs true is fits h = with_none xs (h (subst (λ z. IsTrue (ty_fits sig.types z)) (sym (is_ty_same a s is)) fits))
  tag_step a s d xs false is fits h = tt

  told_tagging : (s : Ty) (r : Reading) (xs : List ℕ) → IsTrue (ty_fits sig.types s) → Told r xs → Told (tagging s r) (xs ++ [])
  told_tagging s Unread xs fits h = tt
  told_tagging s (Core a d) xs fits h = tag_step a s d xs (is_ty a s) refl fits h
  told_tagging s (Tagged a d) xs fits h = tt

  core_step : (o : Option Ty) (d : Term) (xs : List ℕ) → AllFine xs → Told (core_of o d) xs
  core_step None d xs h = tt
  core_step (Some s) d xs h = λ fits. h

  told_applying : (r q : Reading) (xs ys : List ℕ) → Told r xs → Told q ys → Told (applying r q) (xs ++ (ys ++ []))
  told_applying Unread q xs ys h k = tt
  told_applying (Core a f) q xs ys h k = tt
  told_applying (Tagged a f) Unread xs ys h k = tt
  told_applying (Tagged a f) (Core b x) xs ys h k = tt
  told_applying (Tagged a f) (Tagged b x) xs ys h k = core_step (applied (Some a) (Some b)) (application f x) (xs ++ (ys ++ [])) (each_append Fine xs (ys ++ []) h (with_none ys k))

  told_tag : (s : Ty) (ts : List FoTerm) → IsTrue (ty_fits sig.types s) → Each Good ts → Told (read_tag s (map R ts)) (concat (map variables_of ts))
  told_tag s [] fits h = tt
  told_tag s (t ∷ []) fits h = told_tagging s (R t) (variables_of t) fits h.0
  told_tag s (t ∷ t' ∷ ts) fits h = tt

  told_apply : (ts : List FoTerm) → Each Good ts → Told (read_apply (map R ts)) (concat (map variables_of ts))
  told_apply [] h = tt
  told_apply (t ∷ []) h = tt
  told_apply (t ∷ t' ∷ []) h = told_applying (R t) (R t') (variables_of t) (variables_of t') h.0 h.1.0
  told_apply (t ∷ t' ∷ t'' ∷ ts) h = tt

  told_constant : (d : Term) (s : Ty) (ts : List FoTerm) → Told (read_constant d s (map R ts)) (concat (map variables_of ts))
  told_constant d s [] = λ fits. tt
  told_constant d s (t ∷ ts) = tt

  told_symbol : (f : ℕ) (o : Option Symbol) (ts : List FoTerm) → signs f ≡ o → Each Good ts → Told (read_symbol o (map R ts)) (concat (map variables_of ts))
  told_symbol f None ts is h = tt
  told_symbol f (Some (Tag s)) ts is h = told_tag s ts (typed.tags f s is) h
  told_symbol f (Some Apply) ts is h = told_apply ts h
  told_symbol f (Some (Constant d s)) ts is h = told_constant d s ts

  told_variable : (x : ℕ) (o : Option Ty) → types x ≡ o → Told (variable o x) (x ∷ [])
  told_variable x None is = tt
  told_variable x (Some s) is = λ fits. (λ a h. let e : Some s ≡ Some a = sym is ∙ h in let same : s ≡ a = cc in subst (λ z. IsTrue (ty_fits sig.types z)) same fits, tt)

  good : (t : FoTerm) → Good t
  good =
      by_cases Good (λ x. subst (Told (R (var x))) (sym (variables_var x)) (subst (λ r. Told r (x ∷ [])) (sym (read_var signs types x)) (told_variable x (types x) refl)))
      (λ f ts h. subst (Told (R (fun f ts))) (sym (variables_fun f ts)) (subst (λ r. Told r (concat (map variables_of ts))) (sym (read_fun signs types f ts)) (told_symbol f (signs f) ts refl h)))

  tagged_fine : (t : FoTerm) (s : Ty) (d : Term) → IsTagged signs types t s d → AllFine (variables_of t)
  tagged_fine t s d h = subst (λ r. Told r (variables_of t)) h (good t)

  atom_fine : (a : Atom) → IsAtom signs types a → AllFine (concat (map variables_of (atom_terms a)))
  atom_fine (Holds t) h = with_none (variables_of t) (tagged_fine t _ _ h)
  atom_fine (Eq s t) h = each_append Fine (variables_of s) (variables_of t ++ []) (tagged_fine s _ _ h.0) (with_none (variables_of t) (tagged_fine t _ _ h.1))

  clause_fine : (ls : List Literal) → IsClause signs types ls → AllFine (clause_variables ls)
  clause_fine [] h = tt
  clause_fine (l ∷ ls) h = each_append Fine (literal_variables l) (clause_variables ls) (atom_fine l.atom h.0) (clause_fine ls h.1)

  own_of : (ls : List Literal) → IsClause signs types ls → AreOf sig (own ls types)
  own_of ls h x s is =
      let parts = own_parts (types x) s (list_any (λ y. y == x) (clause_variables ls)) is in
      at_listed Fine (clause_variables ls) x (clause_fine ls h) parts.0 s parts.1

pub own_types_serve : (ls : List Literal) → OwnTypesServe ls
own_types_serve ls signs types h = (own_clause signs types ls h, λ sig typed. own_of sig signs types typed ls h)
