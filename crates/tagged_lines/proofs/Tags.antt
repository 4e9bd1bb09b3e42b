-- The own variables of a tagged clause stand below tags of their types.
use Rattle.std.proofs.Common.{◌≡◌, ℕ, Bool, true, false, ◌==◌, if◌then◌else◌, List, [], ◌∷◌, ◌++◌, map, refl, sym, ap, subst, ◌∙◌, inl, inr, ◌⊎◌, Option, Some, None}
use Rattle.std.specs.List.{list_any, concat}
use Rattle.hol_terms.specs.declared.ty.Ty.{Ty}
use Rattle.hol_terms.specs.declared.term.Term.{Term}
use Rattle.hol_terms.specs.Types.{is_ty}
use Rattle.hol_terms.specs.Typing.{applied}
use Rattle.hol_terms.proofs.TyCases.{is_ty_same}
use Rattle.fo_terms.specs.declared.term.FoTerm.{FoTerm}
use Rattle.fo_terms.specs.declared.term.FoTerm.TheOpen.{FoTerm-F}
use Rattle.fo_terms.specs.declared.term.FoTerm.TheFolds.{fold-roll-FoTerm}
use Rattle.fo_terms.specs.declared.term.FoTerm.TheVariants.{rolls-Var, rolls-Fun}
use Rattle.fo_terms.specs.declared.atom.Atom.{Atom}
use Rattle.fo_terms.specs.declared.atom.Atom.TheVariants.{Holds, Eq}
use Rattle.fo_terms.specs.declared.literal.Literal.{Literal}
use Rattle.fo_terms.specs.Substitution.{var, fun}
use Rattle.fo_terms.specs.Normal.{variables_of, atom_terms, clause_variables}
use Rattle.fo_terms.proofs.Induction.{Each, by_cases}
use Rattle.fo_terms.proofs.Renaming.{each_append, each_map, variables_var, variables_fun}
use Rattle.tagged_terms.specs.declared.symbol.Symbol.{Symbol}
use Rattle.tagged_terms.specs.declared.symbol.Symbol.TheVariants.{Tag, Apply, Constant}
use Rattle.tagged_terms.specs.Readings.{Signs, Types, Reading, Unread, Core, Tagged, application, core_of, variable, tagging, applying, read_tag, read_apply, read_constant, read_symbol, reading, IsTagged}
use Rattle.tagged_terms.specs.Clauses.{IsAtom, IsClause}
use Rattle.tagged_terms.proofs.Steps.{read_var, read_fun}
use Rattle.tagged_lines.specs.declared.variable.TypedVariable.{TypedVariable}
use Rattle.tagged_lines.specs.TypedLiterals.{IsIn}
use Rattle.tagged_lines.specs.Variables.{own}
use Rattle.tagged_lines.specs.Tags.{Seen, bare, below, seen_below, all_below, variable_of, under_tag, under_symbol, seen_step, seen, term_variables, terms_variables, literal_variables, typed_variables, OwnVariablesAreTagged}
use Rattle.tagged_lines.proofs.Apart.{own_parts, at_listed}

pub in_left : {X : Type 0} (xs ys : List X) (x : X) → IsIn xs x → IsIn (xs ++ ys) x
in_left [] ys x h = absurd h
in_left (z ∷ xs) ys x (inl e) = inl e
in_left (z ∷ xs) ys x (inr h) = inr (in_left xs ys x h)

pub in_right : {X : Type 0} (xs ys : List X) (x : X) → IsIn ys x → IsIn (xs ++ ys) x
in_right [] ys x h = h
in_right (z ∷ xs) ys x h = inr (in_right xs ys x h)

module _ (signs : Signs) where
  pub seen_var : (x : ℕ) → seen signs (var x) ≡ bare x
  seen_var x = ap (seen signs) (sym (rolls-Var x)) ∙ fold-roll-FoTerm Seen (seen_step signs) (FoTerm-F.Var x)

  pub seen_fun : (f : ℕ) (ts : List FoTerm) → seen signs (fun f ts) ≡ below (under_symbol (signs f) (map (seen signs) ts))
  seen_fun f ts = ap (seen signs) (sym (rolls-Fun f ts)) ∙ fold-roll-FoTerm Seen (seen_step signs) (FoTerm-F.Fun f ts)

module _ (signs : Signs) (types : Types) where
  -- the variable stands in the list, at its type
  abbrev Among : List TypedVariable → ℕ → Type 0
  Among vs x = (s : Ty) → types x ≡ Some s → IsIn vs (variable_of x s)

  abbrev AllAmong : List TypedVariable → List ℕ → Type 0
  AllAmong vs xs = Each (Among vs) xs

  among_append : (vs ws : List TypedVariable) (xs ys : List ℕ) → AllAmong vs xs → AllAmong ws ys → AllAmong (vs ++ ws) (xs ++ ys)
  among_append vs ws xs ys h k =
      each_append (Among (vs ++ ws)) xs ys (each_map (Among vs) (Among (vs ++ ws)) xs (λ x f s is. in_left vs ws (variable_of x s) (f s is)) h)
      (each_map (Among ws) (Among (vs ++ ws)) ys (λ x f s is. in_right vs ws (variable_of x s) (f s is)) k)

  -- a core is a variable of its type, or has all its variables seen; below a tag all are seen
  abbrev CoreTold : Ty → Seen → List ℕ → Type 0
  CoreTold s (bare x) xs = (types x ≡ Some s) × (xs ≡ x ∷ [])
  CoreTold s (below vs) xs = AllAmong vs xs

  abbrev Told : Reading → Seen → List ℕ → Type 0
  Told Unread r xs = Unit {0}
  Told (Core s d) r xs = CoreTold s r xs
  Told (Tagged s d) r xs = AllAmong (seen_below r) xs

  abbrev R : FoTerm → Reading
  R = reading signs types

  abbrev Good : FoTerm → Type 0
  Good t = Told (R t) (seen signs t) (variables_of t)

  one_among : (x : ℕ) (s a : Ty) (xs : List ℕ) → a ≡ s → types x ≡ Some a → xs ≡ x ∷ [] → AllAmong (variable_of x s ∷ []) (xs ++ [])
  one_among x s a xs same is list =
      subst (λ ys. AllAmong (variable_of x s ∷ []) (ys ++ [])) (sym list)
      (λ b h. let both : Some a ≡ Some b = sym is ∙ h in let type : a ≡ b = cc in inl (ap (variable_of x) (sym same ∙ type)), tt)

  tag_step : (a s : Ty) (d : Term) (r : Seen) (xs : List ℕ) (test : Bool) → is_ty a s ≡ test → CoreTold a r xs → Told (if test then Tagged s d else Unread) (below (under_tag s (r ∷ []))) (xs ++ [])
  tag_step a s d r xs false is h = tt
  tag_step a s d (bare x) xs true is h = one_among x s a xs (is_ty_same a s is) h.0 h.1
  tag_step a s d (below vs) xs true is h = among_append vs [] xs [] h tt

  told_tagging : (s : Ty) (q : Reading) (r : Seen) (xs : List ℕ) → Told q r xs → Told (tagging s q) (below (under_tag s (r ∷ []))) (xs ++ [])
  told_tagging s Unread r xs h = tt
  told_tagging s (Core a d) r xs h = tag_step a s d r xs (is_ty a s) refl h
  told_tagging s (Tagged a d) r xs h = tt

  core_step : (o : Option Ty) (d : Term) (vs : List TypedVariable) (xs : List ℕ) → AllAmong vs xs → Told (core_of o d) (below vs) xs
  core_step None d vs xs h = tt
  core_step (Some s) d vs xs h = h

  told_applying : (p q : Reading) (r r' : Seen) (xs ys : List ℕ) → Told p r xs → Told q r' ys → Told (applying p q) (below (all_below (r ∷ r' ∷ []))) (xs ++ (ys ++ []))
  told_applying Unread q r r' xs ys h k = tt
  told_applying (Core a f) q r r' xs ys h k = tt
  told_applying (Tagged a f) Unread r r' xs ys h k = tt
  told_applying (Tagged a f) (Core b x) r r' xs ys h k = tt
  told_applying (Tagged a f) (Tagged b x) r r' xs ys h k =
      core_step (applied (Some a) (Some b)) (application f x) (seen_below r ++ (seen_below r' ++ [])) (xs ++ (ys ++ []))
      (among_append (seen_below r) (seen_below r' ++ []) xs (ys ++ []) h (among_append (seen_below r') [] ys [] k tt))

  told_tag : (s : Ty) (ts : List FoTerm) → Each Good ts → Told (read_tag s (map R ts)) (below (under_tag s (map (seen signs) ts))) (concat (map variables_of ts))
  told_tag s [] h = tt
  told_tag s (t ∷ []) h = told_tagging s (R t) (seen signs t) (variables_of t) h.0
  told_tag s (t ∷ t' ∷ ts) h = tt

  told_apply : (ts : List FoTerm) → Each Good ts → Told (read_apply (map R ts)) (below (all_below (map (seen signs) ts))) (concat (map variables_of ts))
  told_apply [] h = tt
  told_apply (t ∷ []) h = tt
  told_apply (t ∷ t' ∷ []) h = told_applying (R t) (R t') (seen signs t) (seen signs t') (variables_of t) (variables_of t') h.0 h.1.0
  told_apply (t ∷ t' ∷ t'' ∷ ts) h = tt

  told_constant : (d : Term) (s : Ty) (ts : List FoTerm) → Told (read_constant d s (map R ts)) (below (all_below (map (seen signs) ts))) (concat (map variables_of ts))
  told_constant d s [] = tt
  told_constant d s (t ∷ ts) = tt

  told_symbol : (o : Option Symbol) (ts : List FoTerm) → Each Good ts → Told (read_symbol o (map R ts)) (below (under_symbol o (map (seen signs) ts))) (concat (map variables_of ts))
  told_symbol None ts h = tt
  told_symbol (Some (Tag s)) ts h = told_tag s ts h
  told_symbol (Some Apply) ts h = told_apply ts h
  told_symbol (Some (Constant d s)) ts h = told_constant d s ts

  told_variable : (x : ℕ) (o : Option Ty) → types x ≡ o → Told (variable o x) (bare x) (x ∷ [])
  told_variable x None is = tt
  told_variable x (Some s) is = (is, refl)

  good : (t : FoTerm) → Good t
  good =
      by_cases Good
      (λ x. subst (λ r. Told r (seen signs (var x)) (variables_of (var x))) (sym (read_var signs types x))
      (subst (λ r. Told (variable (types x) x) r (variables_of (var x))) (sym (seen_var signs x)) (subst (Told (variable (types x) x) (bare x)) (sym (variables_var x)) (told_variable x (types x) refl))))
      (λ f ts h. subst (λ r. Told r (seen signs (fun f ts)) (variables_of (fun f ts))) (sym (read_fun signs types f ts))
      (subst (λ r. Told (read_symbol (signs f) (map R ts)) r (variables_of (fun f ts))) (sym (seen_fun signs f ts))
      (subst (Told (read_symbol (signs f) (map R ts)) (below (under_symbol (signs f) (map (seen signs) ts)))) (sym (variables_fun f ts)) (told_symbol (signs f) ts h))))

  tagged_among : (t : FoTerm) (s : Ty) (d : Term) → IsTagged signs types t s d → AllAmong (term_variables signs t) (variables_of t)
  tagged_among t s d h = subst (λ r. Told r (seen signs t) (variables_of t)) h (good t)

  atom_among : (a : Atom) → IsAtom signs types a → AllAmong (terms_variables signs (atom_terms a)) (concat (map variables_of (atom_terms a)))
  atom_among (Holds t) h = among_append (term_variables signs t) [] (variables_of t) [] (tagged_among t _ _ h) tt
  atom_among (Eq s t) h =
      among_append (term_variables signs s) (term_variables signs t ++ []) (variables_of s) (variables_of t ++ []) (tagged_among s _ _ h.0)
      (among_append (term_variables signs t) [] (variables_of t) [] (tagged_among t _ _ h.1) tt)

  clause_among : (ls : List Literal) → IsClause signs types ls → AllAmong (typed_variables signs ls) (clause_variables ls)
  clause_among [] h = tt
  clause_among (l ∷ ls) h = among_append (literal_variables signs l) (typed_variables signs ls) (concat (map variables_of (atom_terms l.atom))) (clause_variables ls) (atom_among l.atom h.0) (clause_among ls h.1)

pub own_tagged : (ls : List Literal) → OwnVariablesAreTagged ls
own_tagged ls signs types h x s is =
    let parts = own_parts (types x) s (list_any (λ y. y == x) (clause_variables ls)) is in
    at_listed (Among signs types (typed_variables signs ls)) (clause_variables ls) x (clause_among signs types ls h) parts.0 s parts.1
