-- What patterns of code name.
use Rattle.std.proofs.Common.{◌≡◌, ℕ, refl}
use Rattle.hol_terms.specs.declared.ty.Ty.{Ty}
use Rattle.hol_terms.specs.declared.konst.Konst.{Konst}
use Rattle.hol_terms.specs.declared.term.Term as term
use Rattle.hol_terms.specs.declared.term.Term.{Term}
use Rattle.kernel_rules.specs.Connectives.{constant, apply, lambda}
use Rattle.fin_model.specs.inner.Evaluation.{index, variable}

pub bound_is : (i : ℕ) → term.Bound i ≡ index i
unfolding term.roll-Term denote.Hole.Carrier.roll
bound_is i = refl

pub free_is : (n : ℕ) (a : Ty) → term.Free n a ≡ variable n a
unfolding term.roll-Term denote.Hole.Carrier.roll
free_is n a = refl

pub con_is : (k : Konst) → term.Con k ≡ constant k
unfolding term.roll-Term denote.Hole.Carrier.roll
con_is k = refl

pub app_is : (f x : Term) → term.App f x ≡ apply f x
unfolding term.roll-Term denote.Hole.Carrier.roll
app_is f x = refl

pub lam_is : (a : Ty) (b : Term) → term.Lam a b ≡ lambda a b
unfolding term.roll-Term denote.Hole.Carrier.roll
lam_is a b = refl
