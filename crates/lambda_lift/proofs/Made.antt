-- Terms as code makes them.
use Rattle.std.proofs.Common.{◌≡◌, ℕ, refl}
use Rattle.hol_terms.specs.declared.ty.Ty.{Ty}
use Rattle.hol_terms.specs.declared.konst.Konst.{Konst}
use Rattle.hol_terms.specs.declared.term.Term as term
use Rattle.hol_terms.specs.declared.term.Term.{Term, roll-Term}
use Rattle.hol_terms.specs.declared.term.Term.TheOpen.{Term-F}

pub bound_is : (i : ℕ) → term.Bound i ≡ roll-Term (Term-F.Bound i)
unfolding term.roll-Term denote.Hole.Carrier.roll
bound_is i = refl

pub free_is : (n : ℕ) (a : Ty) → term.Free n a ≡ roll-Term (Term-F.Free n a)
unfolding term.roll-Term denote.Hole.Carrier.roll
free_is n a = refl

pub con_is : (k : Konst) → term.Con k ≡ roll-Term (Term-F.Con k)
unfolding term.roll-Term denote.Hole.Carrier.roll
con_is k = refl

pub app_is : (f x : Term) → term.App f x ≡ roll-Term (Term-F.App f x)
unfolding term.roll-Term denote.Hole.Carrier.roll
app_is f x = refl

pub lam_is : (a : Ty) (b : Term) → term.Lam a b ≡ roll-Term (Term-F.Lam a b)
unfolding term.roll-Term denote.Hole.Carrier.roll
lam_is a b = refl
