-- What the steps of an expansion give.
use Rattle.std.proofs.Common.{◌≡◌, ℕ, true, false, if◌then◌else◌, IsTrue, refl, sym, ◌∙◌, ap, subst, List, [], ◌∷◌, Some, unwrap_or}
use Rattle.std.specs.FinSet as set
use Rattle.hol_terms.specs.declared.sig.Sig.{Sig}
use Rattle.hol_terms.specs.declared.ty.Ty.{Ty}
use Rattle.hol_terms.specs.declared.konst.Konst.TheVariants as konst
use Rattle.hol_terms.specs.declared.term.Term as term
use Rattle.hol_terms.specs.declared.term.Term.{Term, roll-Term}
use Rattle.hol_terms.specs.declared.term.Term.TheOpen.{Term-F}
use Rattle.hol_terms.specs.declared.term.Term.TheViews.{out-roll-Term}
use Rattle.hol_terms.specs.Types.{bool_ty, function_ty}
use Rattle.hol_terms.specs.Typing.{type_of_term}
use Rattle.hol_terms.specs.Formulas.{aux_free}
use Rattle.hyp_sets.specs.Sets.{TermSet}
use Rattle.kernel_rules.specs.Connectives.{apply, lambda, equal, is_equal, is_redex, contracted, left_of, right_of, constant}
use Rattle.kernel_rules.specs.Rules.{seq}
use Rattle.kernel_rules.proofs.Parts.{left_of-two, right_of-apply, is_equal-equal}
use Rattle.kernel_rules.proofs.GivenTerms.{given_typed, given_aux_free}
use Rattle.kernel_rules.proofs.TypedTerms.{apply_parts, apply_parts_aux_free}
use Rattle.hol_kernel.specs.Logs.{Logged, IsThm, thm}
use Rattle.hol_kernel.specs.Growth.{Extends, Gives}
use Rattle.hol_kernel.specs.Conditions.{own_ty, IsGiven}
use Rattle.hol_derived.specs.Paths.{child, behind, part_at, with_child, replaced_at}
use Rattle.hol_derived.specs.Contractions.{contraction}
use Rattle.hol_derived.proofs.ContextLaws.{given_from}
use Rattle.hol_derived.proofs.Unions.{union_turned, none_joined}
use Rattle.hol_derived.proofs.Splits.{twice_stays}

-- as clauses write it
pub apply_is : (f x : Term) → term.App f x ≡ apply f x
unfolding term.roll-Term denote.Hole.Carrier.roll
apply_is f x = refl

pub lambda_is : (a : Ty) (b : Term) → term.Lam a b ≡ lambda a b
unfolding term.roll-Term denote.Hole.Carrier.roll
lambda_is a b = refl

pub variable_is : (n : ℕ) (a : Ty) → term.Free n a ≡ roll-Term (Term-F.Free n a)
unfolding term.roll-Term denote.Hole.Carrier.roll
variable_is n a = refl

pub own_is : (sig : Sig) (t : Term) (a : Ty) → type_of_term sig t ≡ Some a → own_ty sig t ≡ a
unfolding own_ty
own_is sig t a h = ap (λ o. unwrap_or o bool_ty) h

pub own_given : (sig : Sig) (t : Term) (a : Ty) → type_of_term sig t ≡ Some a → IsTrue (aux_free t) → IsGiven sig t (own_ty sig t)
own_given sig t a h k = given_from sig t (own_ty sig t) (h ∙ ap (λ z. Some z) (sym (own_is sig t a h))) k

pub given_stays : (old new : Logged) (t : Term) → Extends old new → IsGiven old.env.sig t (own_ty old.env.sig t) → IsGiven new.env.sig t (own_ty new.env.sig t)
given_stays old new t kept h = subst (λ e. IsGiven e.sig t (own_ty e.sig t)) (sym kept.env) h

pub given_parts : (sig : Sig) (f x : Term) → IsGiven sig (apply f x) (own_ty sig (apply f x)) → IsGiven sig f (own_ty sig f) × IsGiven sig x (own_ty sig x)
given_parts sig f x h =
    let typed = apply_parts sig f x (own_ty sig (apply f x)) (given_typed sig (apply f x) (own_ty sig (apply f x)) h) in
    let free = apply_parts_aux_free sig f x (given_aux_free sig (apply f x) (own_ty sig (apply f x)) h) in
    (own_given sig f (function_ty typed.0 (own_ty sig (apply f x))) typed.1.0 free.0, own_given sig x typed.0 typed.1.1 free.1)

pub root_beta : (sig : Sig) (t : Term) → is_redex t ≡ true → seq set.empty (equal (own_ty sig t) t (contracted t)) ≡ contraction sig [] t
root_beta sig t h = ap (λ s. seq set.empty (equal (own_ty sig t) t s)) (sym (ap (λ b. if b then contracted t else t) h))

pub root_refl : (sig : Sig) (t : Term) → is_redex t ≡ false → seq set.empty (equal (own_ty sig t) t t) ≡ contraction sig [] t
root_refl sig t h = ap (λ s. seq set.empty (equal (own_ty sig t) t s)) (sym (ap (λ b. if b then contracted t else t) h))

pub right_part : (path : List ℕ) (f x : Term) → part_at (1 ∷ path) (apply f x) ≡ part_at path x
right_part path f x = ap (λ y. behind (child 1 y) (part_at path)) (out-roll-Term (Term-F.App f x))

pub left_part : (path : List ℕ) (f x : Term) → part_at (0 ∷ path) (apply f x) ≡ part_at path f
left_part path f x = ap (λ y. behind (child 0 y) (part_at path)) (out-roll-Term (Term-F.App f x))

pub right_replaced : (path : List ℕ) (u f x : Term) → replaced_at (1 ∷ path) u (apply f x) ≡ apply f (replaced_at path u x)
right_replaced path u f x = ap (λ y. with_child 1 (apply f x) y (replaced_at path u)) (out-roll-Term (Term-F.App f x))

pub left_replaced : (path : List ℕ) (u f x : Term) → replaced_at (0 ∷ path) u (apply f x) ≡ apply (replaced_at path u f) x
left_replaced path u f x = ap (λ y. with_child 0 (apply f x) y (replaced_at path u)) (out-roll-Term (Term-F.App f x))

joined_none : (s : TermSet) → set.union s set.empty ≡ s
joined_none s = union_turned s set.empty ∙ none_joined s

module _ (old one : Logged) (eq same : ℕ) (a : Ty) (t : Term) (kept : Extends old one) (is_thm : IsThm old eq) (g : Gives one same (seq set.empty (equal a t t))) where
  stays : thm one eq ≡ thm old eq
  stays = kept.earlier eq is_thm

  pub still_equal : IsTrue (is_equal (thm old eq).concl) → IsTrue (is_equal (thm one eq).concl)
  still_equal h = ap (λ q. is_equal q.concl) stays ∙ h

  pub lifted_part : (path : List ℕ) → part_at path t ≡ Some (left_of (thm old eq).concl) → part_at (1 ∷ path) (thm one same).concl ≡ Some (left_of (thm one eq).concl)
  lifted_part path h = ap (λ q. part_at (1 ∷ path) q.concl) g.is ∙ right_part path _ t ∙ h ∙ ap (λ q. Some (left_of q.concl)) (sym stays)

  pub lifted_is : (path : List ℕ) →
      seq (set.union (thm one eq).hyps (thm one same).hyps) (replaced_at (1 ∷ path) (right_of (thm one eq).concl) (thm one same).concl)
      ≡ seq (thm old eq).hyps (equal a t (replaced_at path (right_of (thm old eq).concl) t))
  lifted_is path =
      (λ i. seq (set.union ((stays i).hyps) ((g.is i).hyps)) (replaced_at (1 ∷ path) (right_of ((stays i).concl)) ((g.is i).concl)))
      ∙ (λ i. seq (joined_none (thm old eq).hyps i) (right_replaced path (right_of (thm old eq).concl) (apply (constant (konst.Eq a)) t) t i))

module _ (old one two : Logged) (eq th same back : ℕ) (a : Ty) (t : Term) (k1 : Extends old one) (k2 : Extends one two) (is_eq : IsThm old eq) (is_th : IsThm old th)
    (fits : thm old eq ≡ seq set.empty (equal a t (thm old th).concl)) (g1 : Gives one same (seq set.empty (equal a t t)))
    (g2 : Gives two back (seq (set.union (thm one eq).hyps (thm one same).hyps) (replaced_at (0 ∷ 1 ∷ []) (right_of (thm one eq).concl) (thm one same).concl))) where
  abbrev sign : Term
  sign = constant (konst.Eq a)

  abbrev s : Term
  s = (thm old th).concl

  eq_one : thm one eq ≡ seq set.empty (equal a t s)
  eq_one = k1.earlier eq is_eq ∙ fits

  back_is : thm two back ≡ seq set.empty (equal a s t)
  back_is =
      g2.is ∙ (λ i. seq (set.union ((eq_one i).hyps) ((g1.is i).hyps)) (replaced_at (0 ∷ 1 ∷ []) (right_of ((eq_one i).concl)) ((g1.is i).concl)))
      ∙ (λ i. seq (joined_none set.empty i) (sides i))
    where
      sides : replaced_at (0 ∷ 1 ∷ []) (right_of (equal a t s)) (equal a t t) ≡ equal a s t
      sides = ap (λ u. replaced_at (0 ∷ 1 ∷ []) u (equal a t t)) (right_of-apply (apply sign t) s) ∙ left_replaced (1 ∷ []) s (apply sign t) t ∙ ap (λ z. apply z t) (right_replaced [] s sign t)

  th_two : thm two th ≡ thm old th
  th_two = twice_stays old one two th k1 k2 is_th

  pub back_equal : IsTrue (is_equal (thm two back).concl)
  back_equal = ap (λ q. is_equal q.concl) back_is ∙ is_equal-equal a s t

  pub back_part : part_at [] (thm two th).concl ≡ Some (left_of (thm two back).concl)
  back_part = ap (λ q. Some q.concl) th_two ∙ ap (λ z. Some z) (sym (ap (λ q. left_of q.concl) back_is ∙ left_of-two sign s t))

  pub turned_is : seq (set.union (thm two back).hyps (thm two th).hyps) (replaced_at [] (right_of (thm two back).concl) (thm two th).concl) ≡ seq (thm old th).hyps t
  turned_is = (λ i. seq (set.union ((back_is i).hyps) ((th_two i).hyps)) (right_of ((back_is i).concl))) ∙ (λ i. seq (none_joined (thm old th).hyps i) (right_of-apply (apply sign s) t i))

module _ (old one : Logged) (eq same : ℕ) (a : Ty) (t s : Term) (k1 : Extends old one) (is_eq : IsThm old eq) (fits : thm old eq ≡ seq set.empty (equal a t s)) (g1 : Gives one same (seq set.empty (equal a t t))) where
  same_eq : thm one eq ≡ seq set.empty (equal a t s)
  same_eq = k1.earlier eq is_eq ∙ fits

  pub turned_equal : IsTrue (is_equal (thm one eq).concl)
  turned_equal = ap (λ q. is_equal q.concl) same_eq ∙ is_equal-equal a t s

  pub turned_part : part_at (0 ∷ 1 ∷ []) (thm one same).concl ≡ Some (left_of (thm one eq).concl)
  turned_part =
      ap (λ q. part_at (0 ∷ 1 ∷ []) q.concl) g1.is ∙ left_part (1 ∷ []) (apply (constant (konst.Eq a)) t) t ∙ right_part [] (constant (konst.Eq a)) t
      ∙ ap (λ z. Some z) (sym (ap (λ q. left_of q.concl) same_eq ∙ left_of-two (constant (konst.Eq a)) t s))
