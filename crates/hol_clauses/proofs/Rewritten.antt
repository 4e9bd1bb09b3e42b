-- What the steps of a rewriting by an equation give.
use Rattle.std.proofs.Common.{◌≡◌, ℕ, Bool, true, false, if◌then◌else◌, IsTrue, List, [], ◌∷◌, Some, refl, sym, ◌∙◌, ap, subst}
use Rattle.std.specs.FinSet as set
use Rattle.hol_terms.specs.declared.sig.Sig.{Sig}
use Rattle.hol_terms.specs.declared.ty.Ty.{Ty}
use Rattle.hol_terms.specs.declared.konst.Konst.TheVariants as konst
use Rattle.hol_terms.specs.declared.term.Term.{Term}
use Rattle.hol_terms.specs.Typing.{type_of_term}
use Rattle.hol_terms.specs.Types.{bool_ty}
use Rattle.hol_terms.specs.Formulas.{IsFormula, aux_free}
use Rattle.hol_terms.proofs.Equations.{type-con}
use Rattle.hol_terms.proofs.TypedParts.{function_parts}
use Rattle.hol_terms.proofs.Formulas.{formula_typed, formula_aux_free, formula_from}
use Rattle.hyp_sets.specs.Sets.{TermSet, only}
use Rattle.kernel_rules.specs.Connectives.{apply, constant, falsum, neg, equal, head_ty, is_equal, is_neg, left_of, right_of}
use Rattle.kernel_rules.specs.Rules.{seq}
use Rattle.kernel_rules.proofs.Parts.{equal_is, neg_is, is_equal-equal, is_neg-neg, left_of-two, right_of-apply}
use Rattle.kernel_rules.proofs.TypedTerms.{equal_sides, equal_aux_free, apply_parts, apply_parts_aux_free}
use Rattle.hol_kernel.specs.Logs.{Logged, IsThm, thm}
use Rattle.hol_kernel.specs.Growth.{Extends, Gives}
use Rattle.hol_kernel.specs.Conditions.{own_ty, IsGiven}
use Rattle.hol_derived.specs.Paths.{part_at, replaced_at}
use Rattle.hol_derived.proofs.Unions.{union_turned, none_joined}
use Rattle.hol_derived.proofs.Expansions.{own_is, own_given, left_part, right_part, left_replaced, right_replaced}
use Rattle.hol_terms.specs.declared.literal.TypedLiteral.{TypedLiteral}
use Rattle.hol_clauses.specs.Literals.{denied, source, target, with_atom}

-- ---- the left side of an equation
module _ (sig : Sig) (e side : Term) (is : side ≡ left_of e) (formula : IsFormula sig e) (equation : IsTrue (is_equal e)) where
  parts : IsFormula sig (equal (head_ty e) (left_of e) (right_of e))
  parts = subst (IsFormula sig) (equal_is e equation) formula

  typed : type_of_term sig side ≡ Some (head_ty e)
  typed = ap (type_of_term sig) is ∙ (equal_sides sig (head_ty e) (left_of e) (right_of e) parts).1.0

  pub side_given : IsGiven sig side (own_ty sig side)
  side_given = own_given sig side (head_ty e) typed (subst (λ t. IsTrue (aux_free t)) (sym is) (equal_aux_free sig (head_ty e) (left_of e) (right_of e) parts).0)

  pub side_equal : seq set.empty (equal (own_ty sig side) side side) ≡ seq set.empty (equal (head_ty e) (left_of e) (left_of e))
  side_equal = λ i. seq set.empty (equal (own_is sig side (head_ty e) typed i) (is i) (is i))

-- ---- an equation that is turned round
module _ (old one : Logged) (eq same : ℕ) (path : List ℕ) (kept : Extends old one) (is_eq : IsThm old eq) (along : path ≡ 0 ∷ (1 ∷ []))
    (g : Gives one same (seq set.empty (equal (head_ty (thm old eq).concl) (left_of (thm old eq).concl) (left_of (thm old eq).concl)))) where
  abbrev sign : Term
  sign = constant (konst.Eq (head_ty (thm old eq).concl))

  abbrev s : Term
  s = left_of (thm old eq).concl

  abbrev t : Term
  t = right_of (thm old eq).concl

  stays : thm one eq ≡ thm old eq
  stays = kept.earlier eq is_eq

  pub round_equal : IsTrue (is_equal (thm old eq).concl) → IsTrue (is_equal (thm one eq).concl)
  round_equal h = ap (λ q. is_equal q.concl) stays ∙ h

  pub round_part : part_at path (thm one same).concl ≡ Some (left_of (thm one eq).concl)
  round_part = (λ i. part_at (along i) ((g.is i).concl)) ∙ left_part (1 ∷ []) (apply sign s) s ∙ right_part [] sign s ∙ ap (λ q. Some (left_of q.concl)) (sym stays)

  pub round_is : seq (set.union (thm one eq).hyps (thm one same).hyps) (replaced_at path (right_of (thm one eq).concl) (thm one same).concl) ≡ seq (thm old eq).hyps (equal (head_ty (thm old eq).concl) t s)
  round_is =
      (λ i. seq (set.union ((stays i).hyps) ((g.is i).hyps)) (replaced_at (along i) (right_of ((stays i).concl)) ((g.is i).concl)))
      ∙ (λ i. seq ((union_turned (thm old eq).hyps set.empty ∙ none_joined (thm old eq).hyps) i) ((left_replaced (1 ∷ []) t (apply sign s) s ∙ ap (λ z. apply z s) (right_replaced [] t sign s)) i))

-- ---- a rewritten theorem and what denies it
module _ (old one two three : Logged) (eq held there against : ℕ) (path : List ℕ) (a : Term) (d : TermSet) (k1 : Extends old one) (k3 : Extends two three) (is_eq : IsThm old eq)
    (g1 : Gives one held (seq d a)) (g2 : Gives two there (seq (set.union (thm one eq).hyps (thm one held).hyps) (replaced_at path (right_of (thm one eq).concl) (thm one held).concl))) where
  abbrev e : Term
  e = (thm old eq).concl

  abbrev b : Term
  b = replaced_at path (right_of e) a

  eq_one : thm one eq ≡ thm old eq
  eq_one = k1.earlier eq is_eq

  pub still_equal : IsTrue (is_equal e) → IsTrue (is_equal (thm one eq).concl)
  still_equal h = ap (λ q. is_equal q.concl) eq_one ∙ h

  pub there_is : thm two there ≡ seq (set.union (thm old eq).hyps d) b
  there_is = g2.is ∙ (λ i. seq (set.union ((eq_one i).hyps) ((g1.is i).hyps)) (replaced_at path (right_of ((eq_one i).concl)) ((g1.is i).concl)))

  there_stays : thm three there ≡ thm two there
  there_stays = k3.earlier there g2.is_thm

  pub atom_fits : Gives three against (seq (only (neg (thm two there).concl)) (neg (thm two there).concl)) → (thm three against).concl ≡ neg (thm three there).concl
  atom_fits g3 = ap (λ q. q.concl) g3.is ∙ ap (λ q. neg q.concl) (sym there_stays)

  pub atom_is : Gives three against (seq (only (neg (thm two there).concl)) (neg (thm two there).concl)) →
      seq (set.union (thm three against).hyps (thm three there).hyps) falsum ≡ seq (set.union (set.union (thm old eq).hyps d) (only (neg b))) falsum
  atom_is g3 =
      (λ i. seq (set.union ((g3.is i).hyps) ((there_stays i).hyps)) falsum) ∙ (λ i. seq (set.union (only (neg ((there_is i).concl))) ((there_is i).hyps)) falsum)
      ∙ ap (λ z. seq z falsum) (union_turned (only (neg b)) (set.union (thm old eq).hyps d))

  pub there_denies : (c : Term) → b ≡ neg c → IsTrue (is_neg (thm two there).concl)
  there_denies c h = ap (λ q. is_neg q.concl) there_is ∙ ap is_neg h ∙ is_neg-neg c

  pub denied_fits : (c : Term) → b ≡ neg c → Gives three against (seq (only (right_of (thm two there).concl)) (right_of (thm two there).concl)) → (thm three there).concl ≡ neg (thm three against).concl
  denied_fits c h g3 =
      ap (λ q. q.concl) (there_stays ∙ there_is) ∙ h ∙ ap neg (sym (ap (λ q. q.concl) g3.is ∙ ap (λ q. right_of q.concl) there_is ∙ ap right_of h ∙ right_of-apply (constant konst.Not) c))

  pub denied_is : (c : Term) → b ≡ neg c → Gives three against (seq (only (right_of (thm two there).concl)) (right_of (thm two there).concl)) →
      seq (set.union (thm three there).hyps (thm three against).hyps) falsum ≡ seq (set.union (set.union (thm old eq).hyps d) (only c)) falsum
  denied_is c h g3 =
      (λ i. seq (set.union (((there_stays ∙ there_is) i).hyps) ((g3.is i).hyps)) falsum)
      ∙ ap (λ z. seq (set.union (set.union (thm old eq).hyps d) (only z)) falsum) (ap (λ q. right_of q.concl) there_is ∙ ap right_of h ∙ right_of-apply (constant konst.Not) c)

-- the path into a negation
pub in_neg_part : (path : List ℕ) (a s : Term) → part_at path a ≡ Some s → part_at (1 ∷ path) (neg a) ≡ Some s
in_neg_part path a s h = right_part path (constant konst.Not) a ∙ h

pub in_neg_replaced : (path longer : List ℕ) (t a : Term) → longer ≡ 1 ∷ path → replaced_at longer t (neg a) ≡ neg (replaced_at path t a)
in_neg_replaced path longer t a h = ap (λ p. replaced_at p t (neg a)) h ∙ right_replaced path t (constant konst.Not) a

-- the part of what is held
pub held_part : (old one : Logged) (eq held : ℕ) (path : List ℕ) (a : Term) (d : TermSet) → Extends old one → IsThm old eq → Gives one held (seq d a) → part_at path a ≡ Some (left_of (thm old eq).concl) →
    part_at path (thm one held).concl ≡ Some (left_of (thm one eq).concl)
held_part old one eq held path a d kept is_eq g h = ap (λ q. part_at path q.concl) g.is ∙ h ∙ ap (λ q. Some (left_of q.concl)) (sym (kept.earlier eq is_eq))

-- ---- the equation of a paramodulation
pub as_it_is : (d : TermSet) (e : Term) (swapped : Bool) → IsTrue (is_equal e) → swapped ≡ false → seq d e ≡ seq d (equal (head_ty e) (source swapped e) (target swapped e))
as_it_is d e swapped h off = ap (seq d) (equal_is e h) ∙ (λ i. seq d (equal (head_ty e) (source (sym off i) e) (target (sym off i) e)))

pub turned : (one : Logged) (eq : ℕ) (d : TermSet) (e : Term) (swapped : Bool) → Gives one eq (seq d e) → swapped ≡ true →
    seq (thm one eq).hyps (equal (head_ty (thm one eq).concl) (right_of (thm one eq).concl) (left_of (thm one eq).concl)) ≡ seq d (equal (head_ty e) (source swapped e) (target swapped e))
turned one eq d e swapped g on =
    (λ i. seq ((g.is i).hyps) (equal (head_ty ((g.is i).concl)) (right_of ((g.is i).concl)) (left_of ((g.is i).concl)))) ∙ (λ i. seq d (equal (head_ty e) (source (sym on i) e) (target (sym on i) e)))

module _ (old one : Logged) (eq right : ℕ) (d : TermSet) (a : Ty) (s t : Term) (l : TypedLiteral) (path : List ℕ) (kept : Extends old one) (is_right : IsThm old right) (g : Gives one eq (seq d (equal a s t))) where
  pub para_equal : IsTrue (is_equal (thm one eq).concl)
  para_equal = ap (λ q. is_equal q.concl) g.is ∙ is_equal-equal a s t

  pub para_part : part_at path l.atom ≡ Some s → part_at path l.atom ≡ Some (left_of (thm one eq).concl)
  para_part h = h ∙ ap (λ z. Some z) (sym (ap (λ q. left_of q.concl) g.is ∙ left_of-two (constant (konst.Eq a)) s t))

  pub para_false : (thm old right).concl ≡ falsum → (thm one right).concl ≡ falsum
  para_false h = ap (λ q. q.concl) (kept.earlier right is_right) ∙ h

  pub para_is : seq (set.union (set.union (thm one eq).hyps (set.remove (thm one right).hyps (denied l))) (only (denied (with_atom l (replaced_at path (right_of (thm one eq).concl) l.atom))))) falsum
      ≡ seq (set.union (set.union d (set.remove (thm old right).hyps (denied l))) (only (denied (with_atom l (replaced_at path t l.atom))))) falsum
  para_is =
      let to = ap (λ q. right_of q.concl) g.is ∙ right_of-apply (apply (constant (konst.Eq a)) s) t in
      λ i. seq (set.union (set.union ((g.is i).hyps) (set.remove ((kept.earlier right is_right i).hyps) (denied l))) (only (denied (with_atom l (replaced_at path (to i) l.atom))))) falsum

-- ---- what a denied formula denies
some_same : {X : Type 0} (x y : X) → Some x ≡ Some y → x ≡ y
some_same x y h = cc

pub denied_formula : (sig : Sig) (c : Term) → IsTrue (is_neg c) → IsFormula sig c → IsFormula sig (right_of c)
denied_formula sig c h formula =
    let whole = subst (IsFormula sig) (neg_is c h) formula in
    let parts = apply_parts sig (constant konst.Not) (right_of c) bool_ty (formula_typed sig (neg (right_of c)) whole) in
    let same = some_same _ _ (sym (type-con sig konst.Not []) ∙ parts.1.0) in
    let sides = function_parts bool_ty bool_ty parts.0 bool_ty same in
    formula_from sig (right_of c) (parts.1.1 ∙ ap (λ z. Some z) (sym sides.0)) (apply_parts_aux_free sig (constant konst.Not) (right_of c) (formula_aux_free sig (neg (right_of c)) whole)).1
