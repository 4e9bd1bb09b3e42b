-- What a step gives, from what the steps before it gave.
use Rattle.std.proofs.Common.{◌≡◌, ℕ, [], ◌∷◌, Some, sym, ◌∙◌, ap, subst}
use Rattle.std.specs.FinSet as set
use Rattle.hol_terms.specs.declared.term.Term.{Term}
use Rattle.hol_terms.specs.declared.ty.Ty.{Ty}
use Rattle.hol_terms.specs.declared.sig.Sig.{Sig}
use Rattle.hol_terms.specs.Types.{bool_ty, function_ty}
use Rattle.hol_terms.specs.Formulas.{IsFormula}
use Rattle.hol_terms.specs.declared.konst.Konst.TheVariants as konst
use Rattle.hyp_sets.specs.Sets.{TermSet, only}
use Rattle.kernel_rules.specs.declared.sequent.Sequent.{Sequent}
use Rattle.kernel_rules.specs.Connectives.{falsum, neg, constant, some}
use Rattle.kernel_rules.specs.Rules.{seq}
use Rattle.kernel_rules.proofs.TypedTerms.{some_property}
use Rattle.hol_derived.proofs.ContextLaws.{given_from}
use Rattle.hol_kernel.specs.Logs.{Logged, IsThm, thm}
use Rattle.hol_kernel.specs.Growth.{Extends, Gives}
use Rattle.hol_kernel.specs.Conditions.{own_ty, IsGiven, IsProperty}
use Rattle.hol_derived.specs.Paths.{part_at, replaced_at}
use Rattle.hol_derived.proofs.Expansions.{right_part, right_replaced}

-- the refutation that denying a theorem's conclusion gives
abbrev pub denied_seq : Sequent → Sequent
denied_seq q = seq (set.union (only (neg q.concl)) q.hyps) falsum

pub gives_is : (log : Logged) (r : ℕ) (p q : Sequent) → Gives log r p → p ≡ q → Gives log r q
gives_is log r p q g e = record { is_thm = g.is_thm; is = g.is ∙ e }

pub stays_false : (old new : Logged) (i : ℕ) → Extends old new → IsThm old i → (thm old i).concl ≡ falsum → (thm new i).concl ≡ falsum
stays_false old new i k h e = ap (λ q. q.concl) (k.earlier i h) ∙ e

-- a refutation that is cut with what the log has proved since
pub cut_is : (old one : Logged) (a c : ℕ) (g : TermSet) (x : Term) → Gives one a (seq g x) → Extends old one → IsThm old c → (thm old c).concl ≡ falsum →
    seq (set.union (thm one a).hyps (set.remove (thm one c).hyps (thm one a).concl)) (thm one c).concl ≡ seq (set.union g (set.remove (thm old c).hyps x)) falsum
cut_is old one a c g x h k is e =
    (λ i. seq (set.union ((h.is i).hyps) (set.remove ((k.earlier c is i).hyps) ((h.is i).concl))) ((k.earlier c is i).concl)) ∙ ap (seq (set.union g (set.remove (thm old c).hyps x))) e

-- what a negation denies, by its path
pub denial_part : (a : Term) → part_at (1 ∷ []) (neg a) ≡ Some a
denial_part a = right_part [] (constant konst.Not) a

pub denial_replaced : (u a : Term) → replaced_at (1 ∷ []) u (neg a) ≡ neg u
denial_replaced u a = right_replaced [] u (constant konst.Not) a

-- what is given in a log stays so where it grows
pub given_stays : (old new : Logged) (t : Term) (a : Ty) → Extends old new → IsGiven old.env.sig t a → IsGiven new.env.sig t a
given_stays old new t a kept h = subst (λ e. IsGiven e.sig t a) (sym kept.env) h

pub own_given_stays : (old new : Logged) (t : Term) → Extends old new → IsGiven old.env.sig t (own_ty old.env.sig t) → IsGiven new.env.sig t (own_ty new.env.sig t)
own_given_stays old new t kept h = subst (λ e. IsGiven e.sig t (own_ty e.sig t)) (sym kept.env) h

pub property_stays : (old new : Logged) (f t : Term) → Extends old new → IsProperty old.env.sig f (own_ty old.env.sig t) → IsProperty new.env.sig f (own_ty new.env.sig t)
property_stays old new f t kept h = subst (λ e. IsProperty e.sig f (own_ty e.sig t)) (sym kept.env) h

-- the property of a formula `?x. f@x`
pub some_gives_property : (sig : Sig) (a : Ty) (f : Term) → IsFormula sig (some a f) → IsProperty sig f a
some_gives_property sig a f h = let parts = some_property sig a f h in given_from sig f (function_ty a bool_ty) parts.1.0 parts.1.1
