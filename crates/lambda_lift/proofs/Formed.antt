-- How a formula is lifted, by its outermost form.
use Rattle.std.proofs.Common.{◌≡◌, ℕ, Bool, true, false, if◌then◌else◌, refl, ap, ◌∙◌}
use Rattle.hol_terms.specs.declared.ty.Ty.{Ty}
use Rattle.hol_terms.specs.declared.konst.Konst.{Konst}
use Rattle.hol_terms.specs.declared.konst.Konst.TheVariants as konst
use Rattle.hol_terms.specs.declared.sig.Sig.{Sig}
use Rattle.hol_terms.specs.declared.term.Term as term
use Rattle.hol_terms.specs.declared.term.Term.{Term, roll-Term}
use Rattle.hol_terms.specs.declared.term.Term.TheOpen.{Term-F}
use Rattle.hol_terms.specs.Types.{is_ty, bool_ty}
use Rattle.lambda_lift.specs.Walks.{Walk, Head, plain, negation, junction, half, quantifier, abstraction, reading, whole, konst_head, app_reading, lam_reading, quantified, app_head}
use Rattle.lambda_lift.proofs.Made.{bound_is, free_is, con_is, app_is, lam_is}
use Rattle.lambda_lift.proofs.Readings.{reading_bound, reading_free, reading_con, reading_app, reading_lam}

-- ---- readings of terms as code makes them
module _ (sig : Sig) (t : Term) where
  pub made_bound : (i : ℕ) → t ≡ term.Bound i → reading sig t ≡ whole (roll-Term (Term-F.Bound i)) plain
  made_bound i is = ap (reading sig) (is ∙ bound_is i) ∙ reading_bound sig i

  pub made_free : (n : ℕ) (a : Ty) → t ≡ term.Free n a → reading sig t ≡ whole (roll-Term (Term-F.Free n a)) plain
  made_free n a is = ap (reading sig) (is ∙ free_is n a) ∙ reading_free sig n a

  pub made_con : (k : Konst) → t ≡ term.Con k → reading sig t ≡ whole (roll-Term (Term-F.Con k)) (konst_head k)
  made_con k is = ap (reading sig) (is ∙ con_is k) ∙ reading_con sig k

  pub made_app : (f x : Term) → t ≡ term.App f x → reading sig t ≡ app_reading (reading sig f) (reading sig x)
  made_app f x is = ap (reading sig) (is ∙ app_is f x) ∙ reading_app sig f x

  pub made_lam : (a : Ty) (b : Term) → t ≡ term.Lam a b → reading sig t ≡ lam_reading sig a (reading sig b)
  made_lam a b is = ap (reading sig) (is ∙ lam_is a b) ∙ reading_lam sig a b

-- ---- heads
pub two_applied : (h : Head) (v w : Walk) → app_head (app_head h v) w ≡ plain
two_applied plain v w = refl
two_applied negation v w = refl
two_applied (junction k) v w = refl
two_applied (half k u) v w = refl
two_applied (quantifier k) v w = refl
two_applied (abstraction a u) v w = refl

pub on_applied : (k : Konst) (h : Head) (w atom : Walk) → quantified k (app_head h w) atom ≡ atom
on_applied k plain w atom = refl
on_applied k negation w atom = refl
on_applied k (junction c) w atom = refl
on_applied k (half c u) w atom = refl
on_applied k (quantifier c) w atom = refl
on_applied k (abstraction a u) w atom = refl

on_equality : (k c : Konst) (b : Bool) (atom : Walk) → quantified k (if b then junction c else plain) atom ≡ atom
on_equality k c true atom = refl
on_equality k c false atom = refl

pub on_konst : (k c : Konst) (atom : Walk) → quantified k (konst_head c) atom ≡ atom
on_konst k (konst.Named n) atom = refl
on_konst k (konst.Aux n) atom = refl
on_konst k konst.True atom = refl
on_konst k konst.False atom = refl
on_konst k konst.Not atom = refl
on_konst k konst.And atom = refl
on_konst k konst.Or atom = refl
on_konst k konst.Imp atom = refl
on_konst k (konst.Eq a) atom = on_equality k (konst.Eq a) (is_ty a bool_ty) atom
on_konst k (konst.All a) atom = refl
on_konst k (konst.Ex a) atom = refl
on_konst k (konst.Eps a) atom = refl
