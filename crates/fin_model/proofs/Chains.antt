-- Places of chains of binders.
use Rattle.std.proofs.Common.{◌≡◌, ◌≢◌, ℕ, ◌-◌, List, [], ◌∷◌, refl, sym, ◌∙◌, ap, subst, Some, None}
use Rattle.std.specs.Prelude.{Option}
use Rattle.std.specs.Borrow.{Bor}
use Rattle.hol_terms.specs.declared.ty.Ty.{Ty}
use Rattle.hol_terms.proofs.Gets.{slice_get_tail}
use Rattle.fin_model.specs.declared.around.Around as around
use Rattle.fin_model.specs.declared.around.Around.{Around, roll-Around}
use Rattle.fin_model.specs.declared.around.Around.TheOpen.{Around-F}
use Rattle.fin_model.specs.declared.around.Around.TheFolds.{fold-roll-Around}
use Rattle.fin_model.specs.inner.Around.{type_step, value_step, types_of, values_of, IsNth}

pub types_outside : types_of (roll-Around Around-F.Outside) ≡ []
types_outside = fold-roll-Around (List Ty) type_step Around-F.Outside

pub values_outside : values_of (roll-Around Around-F.Outside) ≡ []
values_outside = fold-roll-Around (List ℕ) value_step Around-F.Outside

pub types_under : (a : Bor Ty) (x : ℕ) (rest : Bor Around) → types_of (roll-Around (Around-F.Under a x rest)) ≡ a.now ∷ types_of rest.now
types_under a x rest = fold-roll-Around (List Ty) type_step (Around-F.Under a x rest)

pub values_under : (a : Bor Ty) (x : ℕ) (rest : Bor Around) → values_of (roll-Around (Around-F.Under a x rest)) ≡ x ∷ values_of rest.now
values_under a x rest = fold-roll-Around (List ℕ) value_step (Around-F.Under a x rest)

nth_next : (types : List Ty) (values : List ℕ) (a : Ty) (x i : ℕ) (r : Option (Bor Ty × ℕ)) → i ≢ 0 → IsNth types values (i - 1) r → IsNth (a ∷ types) (x ∷ values) i r
nth_next types values a x i None h e = slice_get_tail a types i h ∙ e
nth_next types values a x i (Some r) h e = (slice_get_tail a types i h ∙ e.0, slice_get_tail x values i h ∙ e.1)

pub nth_under : (a : Bor Ty) (x : ℕ) (rest : Bor Around) (i : ℕ) (r : Option (Bor Ty × ℕ)) → i ≢ 0 → IsNth (types_of rest.now) (values_of rest.now) (i - 1) r →
    IsNth (types_of (roll-Around (Around-F.Under a x rest))) (values_of (roll-Around (Around-F.Under a x rest))) i r
nth_under a x rest i r h e =
    subst (λ ts. IsNth ts (values_of (roll-Around (Around-F.Under a x rest))) i r) (sym (types_under a x rest))
    (subst (λ vs. IsNth (a.now ∷ types_of rest.now) vs i r) (sym (values_under a x rest)) (nth_next (types_of rest.now) (values_of rest.now) a.now x i r h e))

-- what a pattern of code names
pub under_is : (a : Bor Ty) (x : ℕ) (rest : Bor Around) → around.Under a x rest ≡ roll-Around (Around-F.Under a x rest)
unfolding around.roll-Around denote.Hole.Carrier.roll
under_is a x rest = refl

pub under_types : (a : Bor Ty) (x : ℕ) (rest : Bor Around) → types_of (around.Under a x rest) ≡ a.now ∷ types_of rest.now
under_types a x rest = ap types_of (under_is a x rest) ∙ types_under a x rest

pub under_values : (a : Bor Ty) (x : ℕ) (rest : Bor Around) → values_of (around.Under a x rest) ≡ x ∷ values_of rest.now
under_values a x rest = ap values_of (under_is a x rest) ∙ values_under a x rest

pub to_under : (P : List Ty → List ℕ → Type 0) (a : Bor Ty) (x : ℕ) (rest : Bor Around) → P (a.now ∷ types_of rest.now) (x ∷ values_of rest.now) → P (types_of (around.Under a x rest)) (values_of (around.Under a x rest))
to_under P a x rest h = subst (λ ts. P ts (values_of (around.Under a x rest))) (sym (under_types a x rest)) (subst (P (a.now ∷ types_of rest.now)) (sym (under_values a x rest)) h)

pub from_under : (P : List Ty → List ℕ → Type 0) (a : Bor Ty) (x : ℕ) (rest : Bor Around) → P (types_of (around.Under a x rest)) (values_of (around.Under a x rest)) → P (a.now ∷ types_of rest.now) (x ∷ values_of rest.now)
from_under P a x rest h = subst (P (a.now ∷ types_of rest.now)) (under_values a x rest) (subst (λ ts. P ts (values_of (around.Under a x rest))) (under_types a x rest) h)

outside_is : around.Outside ≡ roll-Around Around-F.Outside
unfolding around.roll-Around denote.Hole.Carrier.roll
outside_is = refl

pub no_types : types_of around.Outside ≡ []
no_types = ap types_of outside_is ∙ types_outside

pub no_values : values_of around.Outside ≡ []
no_values = ap values_of outside_is ∙ values_outside
