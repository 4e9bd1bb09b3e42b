-- Terms that are given to rules.
use Rattle.std.proofs.Common.{◌≡◌, true, IsTrue, Some}
use Rattle.hol_terms.specs.declared.ty.Ty.{Ty}
use Rattle.hol_terms.specs.declared.sig.Sig.{Sig}
use Rattle.hol_terms.specs.declared.term.Term.{Term}
use Rattle.hol_terms.specs.Typing.{type_of_term}
use Rattle.hol_terms.specs.Formulas.{typed_as, aux_free}
use Rattle.hol_terms.proofs.Both.{both_true}
use Rattle.hol_terms.proofs.Formulas.{typed_as_is}
use Rattle.kernel_rules.specs.Rules.{is_given}

pub given_typed : (sig : Sig) (t : Term) (a : Ty) → is_given sig t a ≡ true → type_of_term sig t ≡ Some a
unfolding is_given
given_typed sig t a h = typed_as_is sig t a (both_true (typed_as sig t a) (aux_free t) h).0

pub given_aux_free : (sig : Sig) (t : Term) (a : Ty) → is_given sig t a ≡ true → IsTrue (aux_free t)
unfolding is_given
given_aux_free sig t a h = (both_true (typed_as sig t a) (aux_free t) h).1
