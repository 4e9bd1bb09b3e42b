-- Terms without loose indexes: what is typed is one, and so are the parts of one.
use Rattle.std.proofs.Common.{◌≡◌, IsTrue, refl, sym, ◌∙◌, ap, subst, [], Some}
use Rattle.hol_terms.specs.declared.ty.Ty.{Ty}
use Rattle.hol_terms.specs.declared.sig.Sig.{Sig}
use Rattle.hol_terms.specs.declared.term.Term.{Term, roll-Term, out-Term}
use Rattle.hol_terms.specs.declared.term.Term.TheOpen.{Term-F}
use Rattle.hol_terms.specs.declared.term.Term.TheViews.{roll-out-Term}
use Rattle.hol_terms.specs.Typing.{type_of_term}
use Rattle.hol_terms.specs.Formulas.{typed_as, aux_free}
use Rattle.hol_terms.specs.Substitution.{is_closed}
use Rattle.hol_terms.proofs.Both.{both_true}
use Rattle.hol_terms.proofs.Closed.{typed_closed}
use Rattle.hol_terms.proofs.Formulas.{typed_as_is}
use Rattle.hol_terms.proofs.Equations.{closed-app}
use Rattle.kernel_rules.specs.Connectives.{right_of, right_at, left_of, left_at}
use Rattle.kernel_rules.specs.Rules.{is_given}

abbrev pub Closed : Term → Type 0
Closed t = IsTrue (is_closed t)

-- a term that has a type
pub own_closed : (sig : Sig) (t : Term) (a : Ty) → type_of_term sig t ≡ Some a → Closed t
own_closed sig t a h = typed_closed sig t [] a h

-- a term that may be given to a rule
pub given_closed : (sig : Sig) (t : Term) (a : Ty) → IsTrue (is_given sig t a) → Closed t
unfolding is_given
given_closed sig t a h = own_closed sig t a (typed_as_is sig t a (both_true (typed_as sig t a) (aux_free t) h).0)

rolled : (t : Term) (y : Term-F Term) → out-Term t ≡ y → t ≡ roll-Term y
rolled t y e = sym (roll-out-Term t) ∙ ap roll-Term e

parts_closed : (t f x : Term) → out-Term t ≡ Term-F.App f x → Closed t → Closed f × Closed x
parts_closed t f x e h = both_true (is_closed f) (is_closed x) (sym (closed-app f x 0) ∙ subst Closed (rolled t (Term-F.App f x) e) h)

right_at_closed : (t f : Term) (y : Term-F Term) → out-Term f ≡ y → Closed f → Closed t → Closed (right_at t y)
right_at_closed t f (Term-F.App g x) e hf ht = (parts_closed f g x e hf).1
right_at_closed t f (Term-F.Bound i) e hf ht = ht
right_at_closed t f (Term-F.Free n a) e hf ht = ht
right_at_closed t f (Term-F.Con k) e hf ht = ht
right_at_closed t f (Term-F.Lam a b) e hf ht = ht

left_at_closed : (t : Term) (y : Term-F Term) → out-Term t ≡ y → Closed t → Closed (left_at t y)
left_at_closed t (Term-F.App f x) e h = right_at_closed t f (out-Term f) refl (parts_closed t f x e h).0 h
left_at_closed t (Term-F.Bound i) e h = h
left_at_closed t (Term-F.Free n a) e h = h
left_at_closed t (Term-F.Con k) e h = h
left_at_closed t (Term-F.Lam a b) e h = h

pub right_closed : (t : Term) → Closed t → Closed (right_of t)
unfolding right_of
right_closed t h = right_at_closed t t (out-Term t) refl h h

pub left_closed : (t : Term) → Closed t → Closed (left_of t)
unfolding left_of
left_closed t h = left_at_closed t (out-Term t) refl h
