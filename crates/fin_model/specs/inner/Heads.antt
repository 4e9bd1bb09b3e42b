-- What stands at the head of an application, as the code tells it.
use Rattle.std.specs.Prelude.{◌≡◌}
use Rattle.hol_terms.specs.declared.konst.Konst.{Konst}
use Rattle.hol_terms.specs.declared.konst.Konst.TheVariants as konst
use Rattle.hol_terms.specs.declared.term.Term.{Term}
use Rattle.kernel_rules.specs.Connectives.{constant, apply}
use Rattle.fin_model.specs.declared.head.Head.{Head}
use Rattle.fin_model.specs.declared.head.Head.TheVariants as told
use Rattle.fin_model.specs.inner.Constants.{bound_ty}
use Rattle.fin_model.specs.Limits.{binder, two, other, first_head, second_head, head_of}

abbrev pub IsFirstHead : Konst → Head → Type 0
IsFirstHead k (told.Binder h a) = (k ≡ h.now) × ((first_head k ≡ binder) × (a.now ≡ bound_ty k))
IsFirstHead k told.Not = k ≡ konst.Not
IsFirstHead k (told.Two h y) = ⊥
IsFirstHead k told.Other = first_head k ≡ other

abbrev pub IsSecondHead : Konst → Term → Head → Type 0
IsSecondHead k y (told.Two h z) = (k ≡ h.now) × ((y ≡ z.now) × (second_head k ≡ two))
IsSecondHead k y told.Other = second_head k ≡ other
IsSecondHead k y _ = ⊥

abbrev pub IsHead : Term → Head → Type 0
IsHead f (told.Binder h a) = (f ≡ constant h.now) × ((first_head h.now ≡ binder) × (a.now ≡ bound_ty h.now))
IsHead f told.Not = f ≡ constant konst.Not
IsHead f (told.Two h y) = (f ≡ apply (constant h.now) y.now) × (second_head h.now ≡ two)
IsHead f told.Other = head_of f ≡ other
