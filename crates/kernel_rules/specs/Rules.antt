-- The rules: the sequent that each gives, where it may be used.
use Rattle.std.specs.Prelude.{ℕ, Bool, true, false, ◌&&◌, if◌then◌else◌, Option, Some, None}
use Rattle.std.specs.FinSet as set
use Rattle.hol_terms.specs.declared.ty.Ty.{Ty}
use Rattle.hol_terms.specs.declared.sig.Sig.{Sig}
use Rattle.hol_terms.specs.declared.term.Term.{Term}
use Rattle.hol_terms.specs.Types.{bool_ty, function_ty, ty_fits}
use Rattle.hol_terms.specs.Typing.{type_of_term}
use Rattle.hol_terms.specs.Substitution.{put_free, one_put}
use Rattle.hol_terms.specs.Formulas.{is_formula, typed_as, aux_free}
use Rattle.hyp_sets.specs.Order.{is_same}
use Rattle.hyp_sets.specs.Sets.{TermSet, only, image, absent}
use Rattle.kernel_rules.specs.declared.sequent.Sequent.{Sequent}
use Rattle.kernel_rules.specs.Connectives.{lambda_over, verum, falsum, neg, conj, disj, imp, equal, all, some, chosen, left_of, right_of, head_ty, is_conj, is_disj, is_imp, is_equal, is_neg, is_all, is_some_of, is_falsum, is_redex, applied_to, contracted}

-- `G : c`
abbrev pub seq : TermSet → Term → Sequent
seq g c = record { hyps = g; concl = c }

-- the sequent, where the condition holds
abbrev pub when : Bool → Sequent → Option Sequent
when holds q = if holds then Some q else None

-- what is made with the type of a term, where it has one
abbrev pub with_type : Option Ty → (Ty → Option Sequent) → Option Sequent
with_type None f = None
with_type (Some a) f = f a

-- a term that is given has the type that its place needs, and holds no auxiliary constant
unfoldable pub is_given : Sig → Term → Ty → Bool
is_given sig t a = typed_as sig t a && aux_free t

-- `{} : F`
abbrev pub fact_of : Term → Option Sequent
fact_of t = Some (seq set.empty t)

-- `{t} : t`
abbrev pub assume_of : Sig → Term → Option Sequent
assume_of sig t = when (is_formula sig t) (seq (only t) t)

-- from `G : c` to `G - t : t ==> c`
abbrev pub imp_intro_of : Sig → Term → Sequent → Option Sequent
imp_intro_of sig t p = when (is_formula sig t) (seq (set.remove p.hyps t) (imp t p.concl))

-- from `G : a ==> b` and `D : a` to `G + D : b`
abbrev pub imp_elim_of : Sequent → Sequent → Option Sequent
imp_elim_of p q = when (is_imp p.concl && is_same (left_of p.concl) q.concl) (seq (set.union p.hyps q.hyps) (right_of p.concl))

-- from `G : a` and `D : b` to `G + D : a & b`
abbrev pub and_intro_of : Sequent → Sequent → Option Sequent
and_intro_of p q = Some (seq (set.union p.hyps q.hyps) (conj p.concl q.concl))

-- from `G : a & b` to `G : a`
abbrev pub and_left_of : Sequent → Option Sequent
and_left_of p = when (is_conj p.concl) (seq p.hyps (left_of p.concl))

-- from `G : a & b` to `G : b`
abbrev pub and_right_of : Sequent → Option Sequent
and_right_of p = when (is_conj p.concl) (seq p.hyps (right_of p.concl))

-- from `G : a` to `G : a | t`
abbrev pub or_left_of : Sig → Term → Sequent → Option Sequent
or_left_of sig t p = when (is_formula sig t) (seq p.hyps (disj p.concl t))

-- from `G : b` to `G : t | b`
abbrev pub or_right_of : Sig → Term → Sequent → Option Sequent
or_right_of sig t p = when (is_formula sig t) (seq p.hyps (disj t p.concl))

-- from `G : a | b`, `D : c` and `E : c` to `G + (D - a) + (E - b) : c`
abbrev pub or_elim_of : Sequent → Sequent → Sequent → Option Sequent
or_elim_of p l r =
    when (is_disj p.concl && is_same l.concl r.concl)
    (seq (set.union (set.union p.hyps (set.remove l.hyps (left_of p.concl))) (set.remove r.hyps (right_of p.concl))) l.concl)

-- from `G : false` to `G - t : ~t`
abbrev pub not_intro_of : Sig → Term → Sequent → Option Sequent
not_intro_of sig t p = when (is_formula sig t && is_falsum p.concl) (seq (set.remove p.hyps t) (neg t))

-- from `G : ~a` and `D : a` to `G + D : false`
abbrev pub not_elim_of : Sequent → Sequent → Option Sequent
not_elim_of p q = when (is_neg p.concl && is_same (right_of p.concl) q.concl) (seq (set.union p.hyps q.hyps) falsum)

-- `{} : true`
abbrev pub true_intro_of : Option Sequent
true_intro_of = Some (seq set.empty verum)

-- from `G : false` to `G - ~t : t`
abbrev pub classical_of : Sig → Term → Sequent → Option Sequent
classical_of sig t p = when (is_formula sig t && is_falsum p.concl) (seq (set.remove p.hyps (neg t)) t)

-- from `G : c` to `G : !x. c` for a variable `x` that isn't in G
abbrev pub all_intro_of : Sig → ℕ → Ty → Sequent → Option Sequent
all_intro_of sig n a p = when (ty_fits sig.types a && absent n a p.hyps) (seq p.hyps (all a (lambda_over n a p.concl)))

-- from `G : All f` to `G : f@t`, `t` of the type of the bound variable
abbrev pub all_elim_of : Sig → Term → Sequent → Option Sequent
all_elim_of sig t p = when (is_all p.concl && is_given sig t (head_ty p.concl)) (seq p.hyps (applied_to (right_of p.concl) t))

-- from `G : f@t` to `G : Ex f`
abbrev pub ex_intro_of : Sig → Term → Term → Sequent → Option Sequent
ex_intro_of sig f t p =
    with_type (type_of_term sig t) (λ a. when ((is_given sig f (function_ty a bool_ty) && aux_free t) && is_same p.concl (applied_to f t)) (seq p.hyps (some a f)))

-- from `G : Ex f` to `G : f@(Eps f)`
abbrev pub choose_of : Sequent → Option Sequent
choose_of p = when (is_some_of p.concl) (seq p.hyps (applied_to (right_of p.concl) (chosen (head_ty p.concl) (right_of p.concl))))

-- `{} : t = t`
abbrev pub refl_of : Sig → Term → Option Sequent
refl_of sig t = with_type (type_of_term sig t) (λ a. when (aux_free t) (seq set.empty (equal a t t)))

-- from `G : s = t` and `D : f@s` to `G + D : f@t`
abbrev pub subst_of : Sig → Term → Sequent → Sequent → Option Sequent
subst_of sig f p q =
    when ((is_equal p.concl && is_given sig f (function_ty (head_ty p.concl) bool_ty)) && is_same q.concl (applied_to f (left_of p.concl)))
    (seq (set.union p.hyps q.hyps) (applied_to f (right_of p.concl)))

-- `{} : (\x. b) u = b[u]`
abbrev pub beta_of : Sig → Term → Option Sequent
beta_of sig t = with_type (type_of_term sig t) (λ a. when (aux_free t && is_redex t) (seq set.empty (equal a t (contracted t))))

-- from `G : s = t` to `G : (\x. s) = (\x. t)` for a variable `x` that isn't in G
abbrev pub abs_of : Sig → ℕ → Ty → Sequent → Option Sequent
abs_of sig n a p =
    when ((is_equal p.concl && ty_fits sig.types a) && absent n a p.hyps)
    (seq p.hyps (equal (function_ty a (head_ty p.concl)) (lambda_over n a (left_of p.concl)) (lambda_over n a (right_of p.concl))))

-- from `G : a ==> b` and `D : b ==> a` to `G + D : a = b`
abbrev pub iff_of : Sequent → Sequent → Option Sequent
iff_of p q =
    when (((is_imp p.concl && is_imp q.concl) && is_same (left_of p.concl) (right_of q.concl)) && is_same (right_of p.concl) (left_of q.concl))
    (seq (set.union p.hyps q.hyps) (equal bool_ty (left_of p.concl) (right_of p.concl)))

-- from `G : c` to the same with `t` for the variable in G and c
abbrev pub inst_of : Sig → ℕ → Ty → Term → Sequent → Option Sequent
inst_of sig n a t p = when (ty_fits sig.types a && is_given sig t a) (seq (image (put_free (one_put n a t)) p.hyps) (put_free (one_put n a t) p.concl))
