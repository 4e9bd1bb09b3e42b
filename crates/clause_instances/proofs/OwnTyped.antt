-- The variables of a tagged clause have the types of the tags above them.
use Rattle.std.proofs.Common.{◌≡◌, ℕ, Bool, true, false, if◌then◌else◌, List, [], ◌∷◌, ◌++◌, map, refl, sym, ap, subst, ◌∙◌, Option, Some, None}
use Rattle.hol_terms.specs.declared.ty.Ty.{Ty}
use Rattle.hol_terms.specs.declared.term.Term.{Term}
use Rattle.hol_terms.specs.Types.{is_ty}
use Rattle.hol_terms.specs.Typing.{applied}
use Rattle.hol_terms.proofs.TyCases.{is_ty_same}
use Rattle.fo_terms.specs.declared.term.FoTerm.{FoTerm}
use Rattle.fo_terms.specs.declared.atom.Atom.{Atom}
use Rattle.fo_terms.specs.declared.atom.Atom.TheVariants.{Holds, Eq}
use Rattle.fo_terms.specs.declared.literal.Literal.{Literal}
use Rattle.fo_terms.specs.Substitution.{var, fun}
use Rattle.fo_terms.specs.Normal.{atom_terms}
use Rattle.fo_terms.proofs.Induction.{Each, by_cases}
use Rattle.fo_terms.proofs.Renaming.{each_append}
use Rattle.tagged_terms.specs.declared.symbol.Symbol.{Symbol}
use Rattle.tagged_terms.specs.declared.symbol.Symbol.TheVariants.{Tag, Apply, Constant}
use Rattle.tagged_terms.specs.Readings.{Signs, Types, Reading, Unread, Core, Tagged, application, core_of, variable, tagging, applying, read_tag, read_apply, read_constant, read_symbol, reading, IsTagged}
use Rattle.tagged_terms.specs.Clauses.{IsAtom, IsClause}
use Rattle.tagged_terms.proofs.Steps.{read_var, read_fun}
use Rattle.tagged_lines.specs.declared.variable.TypedVariable.{TypedVariable}
use Rattle.tagged_lines.specs.Tags.{Seen, bare, below, seen_below, all_below, under_tag, under_symbol, seen, term_variables, terms_variables, literal_variables, typed_variables}
use Rattle.tagged_lines.proofs.Tags.{seen_var, seen_fun}

module _ (signs : Signs) (types : Types) where
  -- the variable has this type
  abbrev pub HasItsType : TypedVariable → Type 0
  HasItsType v = types v.var ≡ Some v.ty

  abbrev AllTyped : List TypedVariable → Type 0
  AllTyped vs = Each HasItsType vs

  abbrev CoreTold : Ty → Seen → Type 0
  CoreTold s (bare x) = types x ≡ Some s
  CoreTold s (below vs) = AllTyped vs

  abbrev Told : Reading → Seen → Type 0
  Told Unread r = Unit {0}
  Told (Core s d) r = CoreTold s r
  Told (Tagged s d) r = AllTyped (seen_below r)

  abbrev R : FoTerm → Reading
  R = reading signs types

  abbrev Good : FoTerm → Type 0
  Good t = Told (R t) (seen signs t)

  typed_append : (vs ws : List TypedVariable) → AllTyped vs → AllTyped ws → AllTyped (vs ++ ws)
  typed_append vs ws h k = each_append HasItsType vs ws h k

  tag_step : (a s : Ty) (d : Term) (r : Seen) (test : Bool) → is_ty a s ≡ test → CoreTold a r → Told (if test then Tagged s d else Unread) (below (under_tag s (r ∷ [])))
  tag_step a s d r false is h = tt
  tag_step a s d (bare x) true is h = (h ∙ ap Some (is_ty_same a s is), tt)
  tag_step a s d (below vs) true is h = typed_append vs [] h tt

  told_tagging : (s : Ty) (q : Reading) (r : Seen) → Told q r → Told (tagging s q) (below (under_tag s (r ∷ [])))
  told_tagging s Unread r h = tt
  told_tagging s (Core a d) r h = tag_step a s d r (is_ty a s) refl h
  told_tagging s (Tagged a d) r h = tt

  core_step : (o : Option Ty) (d : Term) (vs : List TypedVariable) → AllTyped vs → Told (core_of o d) (below vs)
  core_step None d vs h = tt
  core_step (Some s) d vs h = h

  told_applying : (p q : Reading) (r r' : Seen) → Told p r → Told q r' → Told (applying p q) (below (all_below (r ∷ r' ∷ [])))
  told_applying Unread q r r' h k = tt
  told_applying (Core a f) q r r' h k = tt
  told_applying (Tagged a f) Unread r r' h k = tt
  told_applying (Tagged a f) (Core b x) r r' h k = tt
  told_applying (Tagged a f) (Tagged b x) r r' h k =
      core_step (applied (Some a) (Some b)) (application f x) (seen_below r ++ (seen_below r' ++ [])) (typed_append (seen_below r) (seen_below r' ++ []) h (typed_append (seen_below r') [] k tt))

  told_tag : (s : Ty) (ts : List FoTerm) → Each Good ts → Told (read_tag s (map R ts)) (below (under_tag s (map (seen signs) ts)))
  told_tag s [] h = tt
  told_tag s (t ∷ []) h = told_tagging s (R t) (seen signs t) h.0
  told_tag s (t ∷ t' ∷ ts) h = tt

  told_apply : (ts : List FoTerm) → Each Good ts → Told (read_apply (map R ts)) (below (all_below (map (seen signs) ts)))
  told_apply [] h = tt
  told_apply (t ∷ []) h = tt
  told_apply (t ∷ t' ∷ []) h = told_applying (R t) (R t') (seen signs t) (seen signs t') h.0 h.1.0
  told_apply (t ∷ t' ∷ t'' ∷ ts) h = tt

  told_constant : (d : Term) (s : Ty) (ts : List FoTerm) → Told (read_constant d s (map R ts)) (below (all_below (map (seen signs) ts)))
  told_constant d s [] = tt
  told_constant d s (t ∷ ts) = tt

  told_symbol : (o : Option Symbol) (ts : List FoTerm) → Each Good ts → Told (read_symbol o (map R ts)) (below (under_symbol o (map (seen signs) ts)))
  told_symbol None ts h = tt
  told_symbol (Some (Tag s)) ts h = told_tag s ts h
  told_symbol (Some Apply) ts h = told_apply ts h
  told_symbol (Some (Constant d s)) ts h = told_constant d s ts

  told_variable : (x : ℕ) (o : Option Ty) → types x ≡ o → Told (variable o x) (bare x)
  told_variable x None is = tt
  told_variable x (Some s) is = is

  good : (t : FoTerm) → Good t
  good =
      by_cases Good
      (λ x. subst (λ r. Told r (seen signs (var x))) (sym (read_var signs types x)) (subst (Told (variable (types x) x)) (sym (seen_var signs x)) (told_variable x (types x) refl)))
      (λ f ts h. subst (λ r. Told r (seen signs (fun f ts))) (sym (read_fun signs types f ts)) (subst (Told (read_symbol (signs f) (map R ts))) (sym (seen_fun signs f ts)) (told_symbol (signs f) ts h)))

  tagged_typed : (t : FoTerm) (s : Ty) (d : Term) → IsTagged signs types t s d → AllTyped (term_variables signs t)
  tagged_typed t s d h = subst (λ r. Told r (seen signs t)) h (good t)

  atom_typed : (a : Atom) → IsAtom signs types a → AllTyped (terms_variables signs (atom_terms a))
  atom_typed (Holds t) h = typed_append (term_variables signs t) [] (tagged_typed t _ _ h) tt
  atom_typed (Eq s t) h = typed_append (term_variables signs s) (term_variables signs t ++ []) (tagged_typed s _ _ h.0) (typed_append (term_variables signs t) [] (tagged_typed t _ _ h.1) tt)

  pub own_typed : (ls : List Literal) → IsClause signs types ls → AllTyped (typed_variables signs ls)
  own_typed [] h = tt
  own_typed (l ∷ ls) h = typed_append (literal_variables signs l) (typed_variables signs ls) (atom_typed l.atom h.0) (own_typed ls h.1)
