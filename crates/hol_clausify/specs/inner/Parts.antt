-- How a whole is refuted from a part of it, or from two.
use Rattle.std.specs.Prelude.{◌≡◌}
use Rattle.std.specs.FinSet as set
use Rattle.hol_terms.specs.declared.sig.Sig.{Sig}
use Rattle.hol_terms.specs.declared.term.Term.{Term}
use Rattle.hol_terms.specs.Types.{bool_ty}
use Rattle.hol_terms.specs.Formulas.{IsFormula}
use Rattle.hol_terms.specs.Substitution.{instantiated}
use Rattle.kernel_rules.specs.declared.step.ThmId.{ThmId}
use Rattle.kernel_rules.specs.Connectives.{neg, conj, disj, imp, equal, all, some, lambda, chosen}
use Rattle.kernel_rules.specs.Rules.{seq}
use Rattle.hol_kernel.specs.Logs.{Logged, IsThm, thm}
use Rattle.hol_kernel.specs.Conditions.{IsGiven}
use Rattle.hol_clausify.specs.declared.part.Instance.{Instance}
use Rattle.hol_clausify.specs.declared.part.Part.{Part}
use Rattle.hol_clausify.specs.declared.part.Part.TheVariants as parts
use Rattle.hol_clausify.specs.declared.pair.Pair.{Pair}
use Rattle.hol_clausify.specs.declared.pair.Pair.TheVariants as pairs

-- what the one hypothesis of the part is
abbrev pub part_of : Part → Term
part_of (parts.NotNot a) = a.now
part_of (parts.AndLeft a b) = a.now
part_of (parts.AndRight a b) = b.now
part_of (parts.NotOrLeft a b) = neg a.now
part_of (parts.NotOrRight a b) = neg b.now
part_of (parts.NotImpliesLeft a b) = a.now
part_of (parts.NotImpliesRight a b) = neg b.now
part_of (parts.AllAt x) = instantiated x.body.now x.value.now
part_of (parts.NotSomeAt x) = neg (instantiated x.body.now x.value.now)
part_of (parts.SomeNamed x name) = instantiated x.body.now x.value.now
part_of (parts.NotAllNamed x name) = neg (instantiated x.body.now x.value.now)

-- and what that of the whole is
abbrev pub whole_of : Part → Term
whole_of (parts.NotNot a) = neg (neg a.now)
whole_of (parts.AndLeft a b) = conj a.now b.now
whole_of (parts.AndRight a b) = conj a.now b.now
whole_of (parts.NotOrLeft a b) = neg (disj a.now b.now)
whole_of (parts.NotOrRight a b) = neg (disj a.now b.now)
whole_of (parts.NotImpliesLeft a b) = neg (imp a.now b.now)
whole_of (parts.NotImpliesRight a b) = neg (imp a.now b.now)
whole_of (parts.AllAt x) = all x.ty.now (lambda x.ty.now x.body.now)
whole_of (parts.NotSomeAt x) = neg (some x.ty.now (lambda x.ty.now x.body.now))
whole_of (parts.SomeNamed x name) = some x.ty.now (lambda x.ty.now x.body.now)
whole_of (parts.NotAllNamed x name) = neg (all x.ty.now (lambda x.ty.now x.body.now))

abbrev pub AreFormulas : Sig → Term → Term → Type 0
AreFormulas sig a b = IsFormula sig a × IsFormula sig b

-- the lambda and the part are those of type, body and value
pub record IsInstance (x : Instance) : Type 0 where
  pub property : x.property.now ≡ lambda x.ty.now x.body.now
  pub part : x.part.now ≡ instantiated x.body.now x.value.now

-- a theorem `{} : c = d`, by which the value `d` is called
pub record IsNamed (log : Logged) (name : ThmId) (x : Instance) (f : Term) : Type 0 where
  pub is_thm : IsThm log name.0
  pub is : thm log name.0 ≡ seq set.empty (equal x.ty.now (chosen x.ty.now f) x.value.now)

-- the parts are formulas, and the values have their types
abbrev pub IsReady : Logged → Part → Type 0
IsReady log (parts.NotNot a) = IsFormula log.env.sig a.now
IsReady log (parts.AndLeft a b) = AreFormulas log.env.sig a.now b.now
IsReady log (parts.AndRight a b) = AreFormulas log.env.sig a.now b.now
IsReady log (parts.NotOrLeft a b) = AreFormulas log.env.sig a.now b.now
IsReady log (parts.NotOrRight a b) = AreFormulas log.env.sig a.now b.now
IsReady log (parts.NotImpliesLeft a b) = AreFormulas log.env.sig a.now b.now
IsReady log (parts.NotImpliesRight a b) = AreFormulas log.env.sig a.now b.now
IsReady log (parts.AllAt x) = IsInstance x × IsFormula log.env.sig (all x.ty.now (lambda x.ty.now x.body.now)) × IsGiven log.env.sig x.value.now x.ty.now
IsReady log (parts.NotSomeAt x) = IsInstance x × IsFormula log.env.sig (some x.ty.now (lambda x.ty.now x.body.now)) × IsGiven log.env.sig x.value.now x.ty.now
IsReady log (parts.SomeNamed x name) = IsInstance x × IsFormula log.env.sig (some x.ty.now (lambda x.ty.now x.body.now)) × IsNamed log name x (lambda x.ty.now x.body.now)
IsReady log (parts.NotAllNamed x name) = IsInstance x × IsFormula log.env.sig (all x.ty.now (lambda x.ty.now x.body.now)) × IsNamed log name x (lambda x.ty.now (neg x.body.now))

-- ---- two parts, of `a` and `b`
abbrev pub first_of : Pair → Term → Term
first_of pairs.NotAnd a = neg a
first_of pairs.Or a = a
first_of pairs.Implies a = neg a
first_of pairs.EqualFirst a = neg a
first_of pairs.EqualSecond a = a
first_of pairs.NotEqualFirst a = a
first_of pairs.NotEqualSecond a = neg a

abbrev pub second_of : Pair → Term → Term
second_of pairs.NotAnd b = neg b
second_of pairs.Or b = b
second_of pairs.Implies b = b
second_of pairs.EqualFirst b = b
second_of pairs.EqualSecond b = neg b
second_of pairs.NotEqualFirst b = b
second_of pairs.NotEqualSecond b = neg b

abbrev pub whole_of_both : Pair → Term → Term → Term
whole_of_both pairs.NotAnd a b = neg (conj a b)
whole_of_both pairs.Or a b = disj a b
whole_of_both pairs.Implies a b = imp a b
whole_of_both pairs.EqualFirst a b = equal bool_ty a b
whole_of_both pairs.EqualSecond a b = equal bool_ty a b
whole_of_both pairs.NotEqualFirst a b = neg (equal bool_ty a b)
whole_of_both pairs.NotEqualSecond a b = neg (equal bool_ty a b)
