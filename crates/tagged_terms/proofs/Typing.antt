-- What terms are read as has its type.
use Rattle.std.proofs.Common.{◌≡◌, ℕ, Bool, true, false, if◌then◌else◌, IsTrue, List, [], ◌∷◌, map, refl, sym, ap, subst, ◌∙◌, Option, Some, None}
use Rattle.hol_terms.specs.declared.ty.Ty.{Ty}
use Rattle.hol_terms.specs.declared.sig.Sig.{Sig}
use Rattle.hol_terms.specs.declared.term.Term.{Term}
use Rattle.hol_terms.specs.Types.{is_ty}
use Rattle.hol_terms.specs.Typing.{applied, type_of_term}
use Rattle.hol_terms.specs.Formulas.{aux_free}
use Rattle.hol_terms.proofs.Both.{and_true}
use Rattle.hol_terms.proofs.TyCases.{is_ty_same}
use Rattle.hol_terms.proofs.TypedParts.{checked_so}
use Rattle.hol_terms.proofs.Equations.{type-free, type-app, aux_free-free, aux_free-app}
use Rattle.fo_terms.specs.declared.term.FoTerm.{FoTerm}
use Rattle.fo_terms.specs.Substitution.{var, fun}
use Rattle.fo_terms.proofs.Induction.{Each, by_cases}
use Rattle.tagged_terms.specs.declared.symbol.Symbol.{Symbol}
use Rattle.tagged_terms.specs.declared.symbol.Symbol.TheVariants.{Tag, Apply, Constant}
use Rattle.tagged_terms.specs.Readings.{Signs, Types, free, application, core_of, variable, tagging, applying, read_tag, read_apply, read_constant, read_symbol, reading, Reading, Unread, Core, Tagged}
use Rattle.tagged_terms.specs.Fits.{AreTyped, AreOf}
use Rattle.tagged_terms.specs.Laws.{ReadingsHaveTypes}
use Rattle.tagged_terms.proofs.Steps.{read_var, read_fun}

module _ (sig : Sig) where
  -- the term has this type and no auxiliary constant
  abbrev pub Good : Ty → Term → Type 0
  Good s d = (type_of_term sig d ≡ Some s) × IsTrue (aux_free d)

  abbrev pub Typed : Reading → Type 0
  Typed Unread = Unit {0}
  Typed (Core s d) = Good s d
  Typed (Tagged s d) = Good s d

  tag_typed : (a s : Ty) (d : Term) (test : Bool) → is_ty a s ≡ test → Good a d → Typed (if test then Tagged s d else Unread)
  tag_typed a s d true is h = (h.0 ∙ ap Some (is_ty_same a s is), h.1)
  tag_typed a s d false is h = tt

  typed_tagging : (s : Ty) (r : Reading) → Typed r → Typed (tagging s r)
  typed_tagging s Unread h = tt
  typed_tagging s (Core a d) h = tag_typed a s d (is_ty a s) refl h
  typed_tagging s (Tagged a d) h = tt

  core_typed : (o : Option Ty) (f x : Term) → type_of_term sig (application f x) ≡ o → IsTrue (aux_free (application f x)) → Typed (core_of o (application f x))
  core_typed None f x is free = tt
  core_typed (Some s) f x is free = (is, free)

  typed_applying : (r q : Reading) → Typed r → Typed q → Typed (applying r q)
  typed_applying Unread q h k = tt
  typed_applying (Core a f) q h k = tt
  typed_applying (Tagged a f) Unread h k = tt
  typed_applying (Tagged a f) (Core b x) h k = tt
  typed_applying (Tagged a f) (Tagged b x) h k =
      core_typed (applied (Some a) (Some b)) f x (type-app sig f x [] ∙ (λ i. applied (h.0 i) (k.0 i))) (aux_free-app f x ∙ and_true (aux_free f) (aux_free x) h.1 k.1)

module _ (sig : Sig) (signs : Signs) (types : Types) (typed : AreTyped sig signs) (of : AreOf sig types) where
  abbrev R : FoTerm → Reading
  R = reading signs types

  abbrev IsTyped : FoTerm → Type 0
  IsTyped t = Typed sig (R t)

  typed_tag : (s : Ty) (ts : List FoTerm) → Each IsTyped ts → Typed sig (read_tag s (map R ts))
  typed_tag s [] h = tt
  typed_tag s (t ∷ []) h = typed_tagging sig s (R t) h.0
  typed_tag s (t ∷ t' ∷ ts) h = tt

  typed_apply : (ts : List FoTerm) → Each IsTyped ts → Typed sig (read_apply (map R ts))
  typed_apply [] h = tt
  typed_apply (t ∷ []) h = tt
  typed_apply (t ∷ t' ∷ []) h = typed_applying sig (R t) (R t') h.0 h.1.0
  typed_apply (t ∷ t' ∷ t'' ∷ ts) h = tt

  typed_constant : (d : Term) (s : Ty) (ts : List FoTerm) → Good sig s d → Typed sig (read_constant d s (map R ts))
  typed_constant d s [] h = h
  typed_constant d s (t ∷ ts) h = tt

  typed_symbol : (f : ℕ) (o : Option Symbol) → signs f ≡ o → (ts : List FoTerm) → Each IsTyped ts → Typed sig (read_symbol o (map R ts))
  typed_symbol f None is ts h = tt
  typed_symbol f (Some (Tag s)) is ts h = typed_tag s ts h
  typed_symbol f (Some Apply) is ts h = typed_apply ts h
  typed_symbol f (Some (Constant d s)) is ts h = typed_constant d s ts (typed.constants f d s is, typed.without_aux f d s is)

  typed_variable : (x : ℕ) (o : Option Ty) → types x ≡ o → Typed sig (variable o x)
  typed_variable x None is = tt
  typed_variable x (Some s) is = (type-free sig x s [] ∙ checked_so sig.types s s (of x s is), aux_free-free x s)

  typed_var : (x : ℕ) → IsTyped (var x)
  typed_var x = subst (Typed sig) (sym (read_var signs types x)) (typed_variable x (types x) refl)

  typed_fun : (f : ℕ) (ts : List FoTerm) → Each IsTyped ts → IsTyped (fun f ts)
  typed_fun f ts h = subst (Typed sig) (sym (read_fun signs types f ts)) (typed_symbol f (signs f) refl ts h)

  pub each_typed : (t : FoTerm) → IsTyped t
  each_typed = by_cases IsTyped typed_var typed_fun

pub readings_typed : (t : FoTerm) → ReadingsHaveTypes t
readings_typed t sig signs types typed of s d = (λ h. subst (Typed sig) h (each_typed sig signs types typed of t), λ h. subst (Typed sig) h (each_typed sig signs types typed of t))
