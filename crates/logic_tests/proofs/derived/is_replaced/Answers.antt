use Rattle.std.proofs.Common.{◌≡◌, ℕ, ◌<◌, IsTrue, refl, sym, ◌∙◌, ap, subst, List, [], ◌∷◌, ◌++◌, Some}
use Rattle.hol_terms.specs.declared.term.Term.{Term}
use Rattle.hol_terms.specs.declared.term.Term.TheOpen.{Term-F}
use Rattle.hol_terms.specs.declared.term.Term.TheViews.{out-roll-Term}
use Rattle.kernel_rules.specs.Connectives.{apply, is_neg, is_equal, right_of, left_of}
use Rattle.kernel_rules.proofs.Parts.{neg_is}
use Rattle.hol_derived.specs.Paths.{child, behind, part_at}
use Rattle.logic_tests.proofs.derived.is_replaced.Goals as goal

argument_of : (f x : Term) → part_at (1 ∷ []) (apply f x) ≡ Some x
argument_of f x = ap (λ y. behind (child 1 y) (part_at [])) (out-roll-Term (Term-F.App f x))

-- a denial has what it denies at the path
denied_part : (path : List ℕ) (d s : Term) → path ≡ 1 ∷ [] → IsTrue (is_neg d) → right_of d ≡ s → part_at path d ≡ Some s
denied_part path d s p h e = ap (λ q. part_at q d) p ∙ ap (part_at (1 ∷ [])) (neg_is d h) ∙ argument_of _ (right_of d) ∙ ap (λ z. Some z) e

pub conclusion-requires : goal.conclusion-requires
conclusion-requires c = subst (λ n. c.args.eq.0 < n) c.len.ensures.theorems c.if-eq-len.false

pub conclusion-requires-2 : goal.conclusion-requires-2
conclusion-requires-2 c = subst (λ n. c.args.denial.0 < n) c.len-2.ensures.theorems c.if-denial-len.false

pub conclusion-requires-3 : goal.conclusion-requires-3
conclusion-requires-3 c = subst (λ n. c.args.denial.0 < n) c.len-2.ensures.theorems c.if-denial-len.false

pub conclusion-requires-4 : goal.conclusion-requires-4
conclusion-requires-4 c = subst (λ n. c.args.eq.0 < n) c.len.ensures.theorems c.if-eq-len.false

pub replace_at-requires-clause-eq : goal.replace_at-requires-clause-eq
replace_at-requires-clause-eq c = subst (λ n. c.args.eq.0 < n) c.len.ensures.theorems c.if-eq-len.false

pub replace_at-requires-clause-th : goal.replace_at-requires-clause-th
replace_at-requires-clause-th c = subst (λ n. c.args.denial.0 < n) c.len-2.ensures.theorems c.if-denial-len.false

pub replace_at-requires-clause-is : goal.replace_at-requires-clause-is
replace_at-requires-clause-is c = ap is_equal (sym c.conclusion.ensures.value) ∙ sym c.is_equation.ensures ∙ c.if-not-is_equation.false

pub replace_at-requires-clause-part : goal.replace_at-requires-clause-part
replace_at-requires-clause-part c =
    denied_part c.push.new.self _ _ (c.in_ok-push.ensures.ok ∙ ap (λ l. l ++ 1 ∷ []) c.begin-path.ensures)
    (ap is_neg (sym c.conclusion-2.ensures.value) ∙ sym c.is_negation.ensures ∙ c.if-not-is_negation.false)
    (ap right_of (sym c.conclusion-3.ensures.value) ∙ sym c.right.ensures ∙ c.if-not-same.ensures.0 refl ∙ c.left.ensures ∙ ap left_of c.conclusion-4.ensures.value)
