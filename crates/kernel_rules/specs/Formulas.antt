-- Sequents over a signature.
use Rattle.std.specs.Prelude.{◌≡◌, ℕ, List, slice_get, Some}
use Rattle.hol_terms.specs.declared.sig.Sig.{Sig}
use Rattle.hol_terms.specs.declared.term.Term.{Term}
use Rattle.hol_terms.specs.Formulas.{IsFormula}
use Rattle.hyp_sets.specs.Sets.{Holds}
use Rattle.kernel_rules.specs.declared.sequent.Sequent.{Sequent}

-- the conclusion and every hypothesis are formulas over the signature
pub record IsOver (sig : Sig) (q : Sequent) : Type 0 where
  pub concl : IsFormula sig q.concl
  pub hyps : (x : Term) → Holds q.hyps x → IsFormula sig x

-- so are all sequents of a list
abbrev pub AreOver : Sig → List Sequent → Type 0
AreOver sig sequents = (i : ℕ) (q : Sequent) → slice_get sequents i ≡ Some q → IsOver sig q
