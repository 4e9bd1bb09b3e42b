-- Replacements that agree on the typed variables of a clause give it one instance.
use Rattle.std.proofs.Common.{◌≡◌, ℕ, Bool, true, false, if◌then◌else◌, IsTrue, List, [], ◌∷◌, map, refl, sym, ap, subst, ◌∙◌, Option, Some, None}
use Rattle.hol_terms.specs.declared.ty.Ty.{Ty}
use Rattle.hol_terms.specs.declared.konst.Konst.TheVariants as konst
use Rattle.hol_terms.specs.declared.term.Term.{Term, roll-Term}
use Rattle.hol_terms.specs.declared.term.Term.TheOpen.{Term-F}
use Rattle.hol_terms.specs.Types.{is_ty, bool_ty}
use Rattle.hol_terms.specs.Typing.{applied}
use Rattle.hol_terms.specs.Substitution.{put_free}
use Rattle.hol_terms.specs.Formulas.{var_free}
use Rattle.hol_terms.proofs.Equations.{put_free-free, put_free-app, put_free-con}
use Rattle.hol_terms.proofs.Formulas.{var_free_stays}
use Rattle.fo_terms.specs.declared.term.FoTerm.{FoTerm}
use Rattle.fo_terms.specs.declared.atom.Atom.{Atom}
use Rattle.fo_terms.specs.declared.atom.Atom.TheVariants.{Holds, Eq}
use Rattle.fo_terms.specs.declared.literal.Literal.{Literal}
use Rattle.fo_terms.specs.Substitution.{var, fun}
use Rattle.fo_terms.proofs.Induction.{Each, by_cases}
use Rattle.tagged_terms.specs.declared.symbol.Symbol.{Symbol}
use Rattle.tagged_terms.specs.declared.symbol.Symbol.TheVariants.{Tag, Apply, Constant}
use Rattle.tagged_terms.specs.Readings.{Signs, Types, Reading, Unread, Core, Tagged, application, core_of, variable, tagging, applying, read_tag, read_apply, read_constant, read_symbol, reading, IsTagged}
use Rattle.tagged_terms.specs.Terms.{term_at, tag_of}
use Rattle.tagged_terms.specs.Clauses.{equation, formula_of, literals_of, IsAtom, IsClause}
use Rattle.tagged_terms.specs.Fits.{AreClosed}
use Rattle.tagged_terms.proofs.Steps.{read_var, read_fun}
use Rattle.tagged_lines.specs.TypedLiterals.{typed_literals}
use Rattle.tagged_lines.specs.Variables.{own}
use Rattle.tagged_lines.specs.Agreement.{InstancesAgree}
use Rattle.tagged_lines.proofs.Agreeing.{own_clause}

equation_put : (v : ℕ → Ty → Term) (a : Ty) (s t : Term) → put_free v (equation a s t) ≡ equation a (put_free v s) (put_free v t)
equation_put v a s t =
    let eq : Term = roll-Term (Term-F.Con (konst.Eq a)) in
    put_free-app v (application eq s) t ∙ ap (λ f. application f (put_free v t)) (put_free-app v eq s ∙ ap (λ f. application f (put_free v s)) (put_free-con v (konst.Eq a)))

module _ (signs : Signs) (types : Types) (v w : ℕ → Ty → Term) (closed : AreClosed signs) (agree : (x : ℕ) (s : Ty) → types x ≡ Some s → v x s ≡ w x s) where
  abbrev Same : Reading → Type 0
  Same Unread = Unit {0}
  Same (Core s d) = put_free v d ≡ put_free w d
  Same (Tagged s d) = put_free v d ≡ put_free w d

  tag_where : (s : Ty) (d : Term) (test : Bool) → put_free v d ≡ put_free w d → Same (if test then Tagged s d else Unread)
  tag_where s d true h = h
  tag_where s d false h = tt

  same_tagging : (s : Ty) (r : Reading) → Same r → Same (tagging s r)
  same_tagging s Unread h = tt
  same_tagging s (Core a d) h = tag_where s d (is_ty a s) h
  same_tagging s (Tagged a d) h = tt

  core_where : (o : Option Ty) (d : Term) → put_free v d ≡ put_free w d → Same (core_of o d)
  core_where None d h = tt
  core_where (Some s) d h = h

  same_applying : (r q : Reading) → Same r → Same q → Same (applying r q)
  same_applying Unread q h k = tt
  same_applying (Core a f) q h k = tt
  same_applying (Tagged a f) Unread h k = tt
  same_applying (Tagged a f) (Core b x) h k = tt
  same_applying (Tagged a f) (Tagged b x) h k = core_where (applied (Some a) (Some b)) (application f x) (put_free-app v f x ∙ (λ i. application (h i) (k i)) ∙ sym (put_free-app w f x))

  abbrev R : FoTerm → Reading
  R = reading signs types

  abbrev Good : FoTerm → Type 0
  Good t = Same (R t)

  same_tag : (s : Ty) (ts : List FoTerm) → Each Good ts → Same (read_tag s (map R ts))
  same_tag s [] h = tt
  same_tag s (t ∷ []) h = same_tagging s (R t) h.0
  same_tag s (t ∷ t' ∷ ts) h = tt

  same_apply : (ts : List FoTerm) → Each Good ts → Same (read_apply (map R ts))
  same_apply [] h = tt
  same_apply (t ∷ []) h = tt
  same_apply (t ∷ t' ∷ []) h = same_applying (R t) (R t') h.0 h.1.0
  same_apply (t ∷ t' ∷ t'' ∷ ts) h = tt

  same_constant : (d : Term) (s : Ty) (ts : List FoTerm) → IsTrue (var_free d) → Same (read_constant d s (map R ts))
  same_constant d s [] h = var_free_stays v d h ∙ sym (var_free_stays w d h)
  same_constant d s (t ∷ ts) h = tt

  same_symbol : (f : ℕ) (o : Option Symbol) (ts : List FoTerm) → signs f ≡ o → Each Good ts → Same (read_symbol o (map R ts))
  same_symbol f None ts is h = tt
  same_symbol f (Some (Tag s)) ts is h = same_tag s ts h
  same_symbol f (Some Apply) ts is h = same_apply ts h
  same_symbol f (Some (Constant d s)) ts is h = same_constant d s ts (closed f d s is)

  same_variable : (x : ℕ) (o : Option Ty) → types x ≡ o → Same (variable o x)
  same_variable x None is = tt
  same_variable x (Some s) is = put_free-free v x s ∙ agree x s is ∙ sym (put_free-free w x s)

  good : (t : FoTerm) → Good t
  good =
      by_cases Good (λ x. subst Same (sym (read_var signs types x)) (same_variable x (types x) refl)) (λ f ts h. subst Same (sym (read_fun signs types f ts)) (same_symbol f (signs f) ts refl h))

  tagged_same : (t : FoTerm) (s : Ty) (d : Term) → IsTagged signs types t s d → put_free v d ≡ put_free w d
  tagged_same t s d h = subst Same h (good t)

  formula_same : (a : Atom) → IsAtom signs types a → put_free v (formula_of signs a) ≡ put_free w (formula_of signs a)
  formula_same (Holds t) h = tagged_same t bool_ty (term_at signs t bool_ty) h
  formula_same (Eq s t) h =
      let left = tagged_same s (tag_of signs s) (term_at signs s bool_ty) h.0 in
      let right = tagged_same t (tag_of signs s) (term_at signs t bool_ty) h.1 in
      equation_put v (tag_of signs s) (term_at signs s bool_ty) (term_at signs t bool_ty) ∙ (λ i. equation (tag_of signs s) (left i) (right i))
      ∙ sym (equation_put w (tag_of signs s) (term_at signs s bool_ty) (term_at signs t bool_ty))

  literals_same : (ls : List Literal) → IsClause signs types ls → typed_literals v (literals_of signs ls) ≡ typed_literals w (literals_of signs ls)
  literals_same [] h = refl
  literals_same (l ∷ ls) h = λ i. record { positive = l.positive; atom = formula_same l.atom h.0 i } ∷ literals_same ls h.1 i

pub instances_agree : (ls : List Literal) → InstancesAgree ls
instances_agree ls signs types v w closed h agree = literals_same signs (own ls types) v w closed agree ls (own_clause signs types ls h)
