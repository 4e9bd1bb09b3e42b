-- What terms are read as is what they stand for, whatever the types of the variables.
use Rattle.std.proofs.Common.{◌≡◌, ℕ, Bool, true, false, if◌then◌else◌, List, [], ◌∷◌, map, refl, sym, ap, subst, ◌∙◌, Option, Some, None}
use Rattle.hol_terms.specs.declared.ty.Ty.{Ty}
use Rattle.hol_terms.specs.declared.term.Term.{Term}
use Rattle.hol_terms.specs.Types.{is_ty, bool_ty}
use Rattle.hol_terms.specs.Typing.{applied}
use Rattle.hol_terms.proofs.TyCases.{is_ty_same}
use Rattle.fo_terms.specs.declared.term.FoTerm.{FoTerm}
use Rattle.fo_terms.specs.declared.term.FoTerm.TheOpen.{FoTerm-F}
use Rattle.fo_terms.specs.declared.term.FoTerm.TheFolds.{fold-roll-FoTerm}
use Rattle.fo_terms.specs.declared.term.FoTerm.TheVariants.{rolls-Var, rolls-Fun, outs-Fun}
use Rattle.fo_terms.specs.Substitution.{var, fun}
use Rattle.fo_terms.proofs.Induction.{Each, by_cases}
use Rattle.fo_terms.proofs.Substitution.{map_map}
use Rattle.tagged_terms.specs.declared.symbol.Symbol.{Symbol}
use Rattle.tagged_terms.specs.declared.symbol.Symbol.TheVariants.{Tag, Apply, Constant}
use Rattle.tagged_terms.specs.Readings.{Signs, Types, Reading, Unread, Core, Tagged, free, application, core_of, variable, tagging, applying, read_tag, read_apply, read_constant, read_symbol, reading, IsCore, IsTagged}
use Rattle.tagged_terms.specs.Terms.{type_below, assembled, single, applied_two, term_step, term_at, head_sign, tag_of}
use Rattle.tagged_terms.specs.Fits.{typed_put}
use Rattle.tagged_terms.specs.Laws.{ReadingsAreTerms}
use Rattle.tagged_terms.proofs.Steps.{read_var, read_fun, tagged_same}

module _ (signs : Signs) where
  pub term_var : (x : ℕ) (s : Ty) → term_at signs (var x) s ≡ free x s
  term_var x s = ap (λ t. term_at signs t s) (sym (rolls-Var x)) ∙ ap (λ g. g s) (fold-roll-FoTerm (Ty → Term) (term_step signs) (FoTerm-F.Var x))

  pub term_fun : (f : ℕ) (ts : List FoTerm) (s : Ty) → term_at signs (fun f ts) s ≡ assembled (signs f) (map (λ t. term_at signs t (type_below (signs f) s)) ts)
  term_fun f ts s =
      ap (λ t. term_at signs t s) (sym (rolls-Fun f ts)) ∙ ap (λ g. g s) (fold-roll-FoTerm (Ty → Term) (term_step signs) (FoTerm-F.Fun f ts))
      ∙ ap (assembled (signs f)) (map_map (λ g. g (type_below (signs f) s)) (term_at signs) ts)

  pub tag_of_fun : (f : ℕ) (ts : List FoTerm) → tag_of signs (fun f ts) ≡ type_below (signs f) bool_ty
  tag_of_fun f ts = ap (λ l. type_below (head_sign signs l) bool_ty) (outs-Fun f ts)

-- a reading and what the term stands for at each type
abbrev pub Tells : Reading → (Ty → Term) → Type 0
Tells Unread g = Unit {0}
Tells (Core s d) g = g s ≡ d
Tells (Tagged s d) g = (a : Ty) → g a ≡ d

tag_where : (s b : Ty) (d : Term) (g : Ty → Term) (test : Bool) → is_ty b s ≡ test → g b ≡ d → Tells (if test then Tagged s d else Unread) (λ a. g s)
tag_where s b d g true is h = λ a. ap g (sym (is_ty_same b s is)) ∙ h
tag_where s b d g false is h = tt

tells_tagging : (s : Ty) (r : Reading) (g : Ty → Term) → Tells r g → Tells (tagging s r) (λ a. g s)
tells_tagging s Unread g h = tt
tells_tagging s (Core b d) g h = tag_where s b d g (is_ty b s) refl h
tells_tagging s (Tagged b d) g h = tt

core_where : (o : Option Ty) (f x : Term) (g : Ty → Term) → ((a : Ty) → g a ≡ application f x) → Tells (core_of o (application f x)) g
core_where None f x g h = tt
core_where (Some s) f x g h = h s

tells_applying : (r q : Reading) (g h : Ty → Term) → Tells r g → Tells q h → Tells (applying r q) (λ a. application (g a) (h a))
tells_applying Unread q g h k l = tt
tells_applying (Core a f) q g h k l = tt
tells_applying (Tagged a f) Unread g h k l = tt
tells_applying (Tagged a f) (Core b x) g h k l = tt
tells_applying (Tagged a f) (Tagged b x) g h k l = core_where (applied (Some a) (Some b)) f x (λ c. application (g c) (h c)) (λ c. λ i. application (k c i) (l c i))

module _ (signs : Signs) (types : Types) where
  abbrev R : FoTerm → Reading
  R = reading signs types

  abbrev G : FoTerm → Ty → Term
  G = term_at signs

  abbrev Told : FoTerm → Type 0
  Told t = Tells (R t) (G t)

  told_tag : (s : Ty) (ts : List FoTerm) → Each Told ts → Tells (read_tag s (map R ts)) (λ a. single (map (λ t. G t s) ts))
  told_tag s [] h = tt
  told_tag s (t ∷ []) h = tells_tagging s (R t) (G t) h.0
  told_tag s (t ∷ t' ∷ ts) h = tt

  told_apply : (ts : List FoTerm) → Each Told ts → Tells (read_apply (map R ts)) (λ a. applied_two (map (λ t. G t a) ts))
  told_apply [] h = tt
  told_apply (t ∷ []) h = tt
  told_apply (t ∷ t' ∷ []) h = tells_applying (R t) (R t') (G t) (G t') h.0 h.1.0
  told_apply (t ∷ t' ∷ t'' ∷ ts) h = tt

  told_constant : (d : Term) (s : Ty) (ts : List FoTerm) → Tells (read_constant d s (map R ts)) (λ a. d)
  told_constant d s [] = refl
  told_constant d s (t ∷ ts) = tt

  told_symbol : (o : Option Symbol) (ts : List FoTerm) → Each Told ts → Tells (read_symbol o (map R ts)) (λ a. assembled o (map (λ t. G t (type_below o a)) ts))
  told_symbol None ts h = tt
  told_symbol (Some (Tag s)) ts h = told_tag s ts h
  told_symbol (Some Apply) ts h = told_apply ts h
  told_symbol (Some (Constant d s)) ts h = told_constant d s ts

  told_variable : (x : ℕ) (o : Option Ty) → Tells (variable o x) (G (var x))
  told_variable x None = tt
  told_variable x (Some s) = term_var signs x s

  told_var : (x : ℕ) → Told (var x)
  told_var x = subst (λ r. Tells r (G (var x))) (sym (read_var signs types x)) (told_variable x (types x))

  told_fun : (f : ℕ) (ts : List FoTerm) → Each Told ts → Told (fun f ts)
  told_fun f ts h =
      let whole : G (fun f ts) ≡ (λ a. assembled (signs f) (map (λ t. G t (type_below (signs f) a)) ts)) = λ i a. term_fun signs f ts a i in
      subst (Tells (R (fun f ts))) (sym whole) (subst (λ r. Tells r (λ a. assembled (signs f) (map (λ t. G t (type_below (signs f) a)) ts))) (sym (read_fun signs types f ts)) (told_symbol (signs f) ts h))

  told : (t : FoTerm) → Told t
  told = by_cases Told told_var told_fun

  pub core_stands : (t : FoTerm) (s : Ty) (d : Term) → IsCore signs types t s d → term_at signs t s ≡ d
  core_stands t s d h = subst (λ r. Tells r (G t)) h (told t)

  pub tagged_stands : (t : FoTerm) (s : Ty) (d : Term) → IsTagged signs types t s d → (a : Ty) → term_at signs t a ≡ d
  tagged_stands t s d h = subst (λ r. Tells r (G t)) h (told t)

  -- where a substitution gives a core of the type, that is what it puts
  pub puts : (u : ℕ → FoTerm) (x : ℕ) (s : Ty) (d : Term) → IsCore signs types (u x) s d → IsCore signs types (u x) s (typed_put signs u x s)
  puts u x s d h = h ∙ ap (Core s) (sym (core_stands (u x) s d h))

  -- ---- the tag at the head

  tagged_by : (o : Option Symbol) (ts : List FoTerm) (s : Ty) (d : Term) → read_symbol o (map R ts) ≡ Tagged s d → type_below o bool_ty ≡ s
  tagged_by None ts s d h = absurd (cc)
  tagged_by (Some (Tag a)) ts s d h = by_arguments ts h
    where
      by_test : (r : Reading) → tagging a r ≡ Tagged s d → a ≡ s
      by_test Unread k = absurd (cc)
      by_test (Core b e) k = chosen (is_ty b a) k
        where
          chosen : (test : Bool) → (if test then Tagged a e else Unread) ≡ Tagged s d → a ≡ s
          chosen true l = (tagged_same a s e d l).0
          chosen false l = absurd (cc)
      by_test (Tagged b e) k = absurd (cc)

      by_arguments : (ts : List FoTerm) → read_tag a (map R ts) ≡ Tagged s d → a ≡ s
      by_arguments [] k = absurd (cc)
      by_arguments (t ∷ []) k = by_test (R t) k
      by_arguments (t ∷ t' ∷ more) k = absurd (cc)
  tagged_by (Some Apply) ts s d h = absurd (by_arguments ts h)
    where
      by_type : (o : Option Ty) (f x : Term) → core_of o (application f x) ≡ Tagged s d → ⊥
      by_type None f x k = cc
      by_type (Some c) f x k = cc

      by_parts : (r q : Reading) → applying r q ≡ Tagged s d → ⊥
      by_parts Unread q k = cc
      by_parts (Core a f) q k = cc
      by_parts (Tagged a f) Unread k = cc
      by_parts (Tagged a f) (Core b x) k = cc
      by_parts (Tagged a f) (Tagged b x) k = by_type (applied (Some a) (Some b)) f x k

      by_arguments : (ts : List FoTerm) → read_apply (map R ts) ≡ Tagged s d → ⊥
      by_arguments [] k = cc
      by_arguments (t ∷ []) k = cc
      by_arguments (t ∷ t' ∷ []) k = by_parts (R t) (R t') k
      by_arguments (t ∷ t' ∷ t'' ∷ more) k = cc
  tagged_by (Some (Constant c a)) ts s d h = absurd (by_arguments ts h)
    where
      by_arguments : (ts : List FoTerm) → read_constant c a (map R ts) ≡ Tagged s d → ⊥
      by_arguments [] k = cc
      by_arguments (t ∷ more) k = cc

  variable_no_tag : (o : Option Ty) (x : ℕ) (s : Ty) (d : Term) → variable o x ≡ Tagged s d → ⊥
  variable_no_tag None x s d h = cc
  variable_no_tag (Some a) x s d h = cc

  pub tagged_with : (t : FoTerm) (s : Ty) (d : Term) → IsTagged signs types t s d → tag_of signs t ≡ s
  tagged_with t s d h =
      by_cases (λ t. IsTagged signs types t s d → tag_of signs t ≡ s)
      (λ x h. absurd (variable_no_tag (types x) x s d (sym (read_var signs types x) ∙ h)))
      (λ f ts each h. tag_of_fun signs f ts ∙ tagged_by (signs f) ts s d (sym (read_fun signs types f ts) ∙ h)) t h

pub readings_stand : (t : FoTerm) → ReadingsAreTerms t
readings_stand t signs types s d = (core_stands signs types t s d, λ h. (tagged_with signs types t s d h, tagged_stands signs types t s d h))
