-- What a contraction below the root gives.
use Rattle.std.proofs.Common.{◌≡◌, ℕ, ◌<◌, length, arith, Bool, false, ◌==◌, if◌then◌else◌, IsTrue, refl, sym, ◌∙◌, ap, subst, rules, List, [], ◌∷◌, Some}
use Rattle.std.specs.FinSet as set
use Rattle.hol_terms.specs.declared.sig.Sig.{Sig}
use Rattle.hol_terms.specs.declared.ty.Ty.{Ty}
use Rattle.hol_terms.specs.declared.konst.Konst.TheVariants as konst
use Rattle.hol_terms.specs.declared.term.Term as term
use Rattle.hol_terms.specs.declared.term.Term.{Term, roll-Term}
use Rattle.hol_terms.proofs.TermCases.{by_cases}
use Rattle.hol_terms.specs.declared.term.Term.TheOpen.{Term-F}
use Rattle.hol_terms.specs.Types.{bool_ty, function_ty, ty_fits}
use Rattle.hol_terms.specs.Typing.{type_in, type_of_term}
use Rattle.hol_terms.specs.Substitution.{put, occurs}
use Rattle.hol_terms.specs.Formulas.{IsFormula}
use Rattle.hol_terms.proofs.Equations.{type-free, type-lam, aux_free-free, aux_free-lam}
use Rattle.hol_terms.proofs.Formulas.{formula_typed, formula_aux_free, formula_from, aux_free_put}
use Rattle.hol_terms.proofs.Substitutes.{type_put}
use Rattle.hol_terms.proofs.TypedParts.{under_parts, checked_so}
use Rattle.hyp_sets.specs.Sets.{absent, absent_in}
use Rattle.hyp_sets.proofs.Members.{each_all_in, none_held}
use Rattle.kernel_rules.specs.Connectives.{apply, lambda, lambda_over, equal, is_equal, constant, head_ty, left_of, right_of}
use Rattle.kernel_rules.specs.Rules.{seq}
use Rattle.kernel_rules.proofs.Parts.{is_equal-equal, left_of-two, right_of-apply, head_ty-two}
use Rattle.kernel_rules.proofs.GivenTerms.{given_typed, given_aux_free}
use Rattle.kernel_rules.proofs.TypedTerms.{equal_sides, equal_aux_free}
use Rattle.hol_kernel.specs.Logs.{Logged, thm}
use Rattle.hol_kernel.specs.Growth.{Gives}
use Rattle.hol_kernel.specs.Conditions.{own_ty, IsGiven}
use Rattle.hol_derived.specs.Contractions.{contracted_at, contracted_along, contraction}
use Rattle.hol_derived.proofs.Fresh.{abstracted_put}
use Rattle.hol_derived.proofs.PathLaws.{at_bound, at_free, at_con, at_app, at_lam, contracted_put, occurs_contracted}
use Rattle.hol_derived.proofs.Expansions.{apply_is, lambda_is, own_is, own_given}

module _ (sig : Sig) (n : ℕ) (a : Ty) (b : Term) (given : IsGiven sig (lambda a b) (own_ty sig (lambda a b))) where
  abbrev v : Term
  v = roll-Term (Term-F.Free n a)

  abbrev o : Term
  o = put v b 0

  parts : (c : Ty) × ((type_in sig b (a ∷ []) ≡ Some c) × ((own_ty sig (lambda a b) ≡ function_ty a c) × IsTrue (ty_fits sig.types a)))
  parts = under_parts sig.types a (type_in sig b (a ∷ [])) (own_ty sig (lambda a b)) (sym (type-lam sig a b []) ∙ given_typed sig (lambda a b) (own_ty sig (lambda a b)) given)

  pub binder_fits : IsTrue (ty_fits sig.types a)
  binder_fits = parts.1.1.1

  opened_typed : type_of_term sig o ≡ Some parts.0
  opened_typed = type_put sig v a (type-free sig n a [] ∙ checked_so sig.types a a binder_fits) b [] [] ∙ parts.1.0

  pub opened_given : IsGiven sig o (own_ty sig o)
  opened_given = own_given sig o parts.0 opened_typed (aux_free_put v (aux_free-free n a) b 0 (sym (aux_free-lam a b) ∙ given_aux_free sig (lambda a b) (own_ty sig (lambda a b)) given))

  pub body_is : (rest : List ℕ) (one : Logged) (eq : ℕ) → occurs n a b ≡ false → Gives one eq (contraction sig rest o) →
      seq (thm one eq).hyps (equal (function_ty a (head_ty (thm one eq).concl)) (lambda_over n a (left_of (thm one eq).concl)) (lambda_over n a (right_of (thm one eq).concl)))
      ≡ contraction sig (2 ∷ rest) (lambda a b)
  body_is rest one eq fresh g =
      (λ i. seq ((g.is i).hyps) (equal (function_ty a (head_ty ((g.is i).concl))) (lambda_over n a (left_of ((g.is i).concl))) (lambda_over n a (right_of ((g.is i).concl)))))
      ∙ (λ i. seq set.empty (equal (kind i) (left i) (right i)))
    where
      kind : function_ty a (head_ty (equal (own_ty sig o) o (contracted_at rest o))) ≡ own_ty sig (lambda a b)
      kind = ap (function_ty a) (head_ty-two (konst.Eq (own_ty sig o)) o (contracted_at rest o) ∙ own_is sig o parts.0 opened_typed) ∙ sym parts.1.1.0

      left : lambda_over n a (left_of (equal (own_ty sig o) o (contracted_at rest o))) ≡ lambda a b
      left = ap (lambda_over n a) (left_of-two (constant (konst.Eq (own_ty sig o))) o (contracted_at rest o)) ∙ ap (lambda a) (abstracted_put n a b 0 fresh)

      right : lambda_over n a (right_of (equal (own_ty sig o) o (contracted_at rest o))) ≡ contracted_at (2 ∷ rest) (lambda a b)
      right =
          ap (lambda_over n a) (right_of-apply (apply (constant (konst.Eq (own_ty sig o))) o) (contracted_at rest o) ∙ contracted_put n a rest b 0)
          ∙ ap (lambda a) (abstracted_put n a (contracted_at rest b) 0 (occurs_contracted n a rest b fresh)) ∙ sym (at_lam 2 rest a b)

pub contraction_equal : (sig : Sig) (rest : List ℕ) (f : Term) (one : Logged) (eq : ℕ) → Gives one eq (contraction sig rest f) → IsTrue (is_equal (thm one eq).concl)
contraction_equal sig rest f one eq g = ap (λ q. is_equal q.concl) g.is ∙ is_equal-equal (own_ty sig f) f (contracted_at rest f)

pub along_none : (paths : List (List ℕ)) (t : Term) → length paths < 1 → contracted_along paths t ≡ t
along_none [] t h = refl
along_none (p ∷ paths) t h = absurd (omega (arith, h))

-- ---- where nothing is contracted
same_app : (d : ℕ) (path : List ℕ) (f x : Term) (first second : Bool) → (d == 0) ≡ first → (d == 1) ≡ second → first ≡ false → second ≡ false → contracted_at (d ∷ path) (apply f x) ≡ apply f x
same_app d path f x first second a b h k =
    at_app d path f x ∙ (λ i. if (a ∙ h) i then apply (contracted_at path f) x else (if (b ∙ k) i then apply f (contracted_at path x) else apply f x))

pub unmoved : (sig : Sig) (path : List ℕ) (t : Term) → contracted_at path t ≡ t → seq set.empty (equal (own_ty sig t) t t) ≡ contraction sig path t
unmoved sig path t h = ap (λ s. seq set.empty (equal (own_ty sig t) t s)) (sym h)

pub app_unmoved : (d : ℕ) (path : List ℕ) (t f x : Term) → t ≡ apply f x → (d ≡ 0 → ⊥) → (d ≡ 1 → ⊥) → contracted_at (d ∷ path) t ≡ t
app_unmoved d path t f x e h k = subst (λ u. contracted_at (d ∷ path) u ≡ u) (sym e) (same_app d path f x (d == 0) (d == 1) refl refl (differs d 0 h) (differs d 1 k))
  where
    differs : (a b : ℕ) → (a ≡ b → ⊥) → (a == b) ≡ false
    differs a b h = search (rules, h)

pub lam_unmoved : (d : ℕ) (path : List ℕ) (t : Term) (a : Ty) (b : Term) → t ≡ lambda a b → (d ≡ 2 → ⊥) → contracted_at (d ∷ path) t ≡ t
lam_unmoved d path t a b e h = subst (λ u. contracted_at (d ∷ path) u ≡ u) (sym e) (at_lam d path a b ∙ ap (λ z. if z then lambda a (contracted_at path b) else lambda a b) (differs d 2 h))
  where
    differs : (a b : ℕ) → (a ≡ b → ⊥) → (a == b) ≡ false
    differs a b h = search (rules, h)

pub absent_none : (n : ℕ) (a : Ty) → IsTrue (absent n a set.empty)
absent_none n a = each_all_in (absent_in n a) set.empty (λ x h. absurd (none_held x h))

pub other_unmoved : (d : ℕ) (path : List ℕ) (t : Term) → ((f x : Term) → t ≡ term.App f x → ⊥) → ((a : Ty) (b : Term) → t ≡ term.Lam a b → ⊥) → contracted_at (d ∷ path) t ≡ t
other_unmoved d path t = by_cases (λ u. ((f x : Term) → u ≡ term.App f x → ⊥) → ((a : Ty) (b : Term) → u ≡ term.Lam a b → ⊥) → contracted_at (d ∷ path) u ≡ u)
    (λ i h k. at_bound (d ∷ path) i) (λ n a h k. at_free (d ∷ path) n a) (λ c h k. at_con (d ∷ path) c) (λ f x hf hx h k. absurd (h f x (sym (apply_is f x)))) (λ a b hb h k. absurd (k a b (sym (lambda_is a b)))) t

-- ---- of several in turn
module _ (sig : Sig) (path : List ℕ) (target : Term) (one : Logged) (eq : ℕ) (g : Gives one eq (contraction sig path target)) where
  pub next_is : right_of (thm one eq).concl ≡ contracted_at path target
  next_is = ap (λ q. right_of q.concl) g.is ∙ right_of-apply (apply (constant (konst.Eq (own_ty sig target))) target) (contracted_at path target)

  pub next_formula : (over : Sig) → over ≡ sig → IsFormula sig target → IsFormula over (thm one eq).concl → IsFormula over (right_of (thm one eq).concl)
  next_formula over e ft fe =
      let fq : IsFormula over (equal (own_ty sig target) target (contracted_at path target)) = subst (IsFormula over) (ap (λ q. q.concl) g.is) fe in
      let sides = equal_sides over (own_ty sig target) target (contracted_at path target) fq in
      let free = equal_aux_free over (own_ty sig target) target (contracted_at path target) fq in
      subst (IsFormula over) (sym next_is) (formula_from over (contracted_at path target) (sides.1.1 ∙ ap (λ z. Some z) (own_is sig target bool_ty (formula_typed sig target ft))) free.1)

pub formula_given : (sig : Sig) (t : Term) → IsFormula sig t → IsGiven sig t (own_ty sig t)
formula_given sig t h = own_given sig t bool_ty (formula_typed sig t h) (formula_aux_free sig t h)
