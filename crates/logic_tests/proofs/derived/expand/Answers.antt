use Rattle.std.proofs.Common.{◌≡◌, ℕ, ◌<◌, ◌≤◌, List, [], ◌∷◌, length, slice_index_or, refl, sym, ◌∙◌, ap, subst, arith}
use Rattle.hol_terms.specs.Formulas.{IsFormula}
use Rattle.kernel_rules.specs.Connectives.{right_of}
use Rattle.hol_derived.specs.Contractions.{contracted_along}
use Rattle.hol_derived.proofs.Downwards.{formula_given, next_is}
use Rattle.logic_tests.proofs.derived.expand.Goals as goal

alone : (xs : List (List ℕ)) (x : List ℕ) → 1 ≤ length xs → length xs < 2 → x ≡ slice_index_or xs 0 x → xs ≡ x ∷ []
alone [] x least most h = absurd (omega arith)
alone (y ∷ []) x least most h = ap (λ z. z ∷ []) (sym h)
alone (y ∷ (z ∷ zs)) x least most h = absurd (omega arith)

pub contraction-requires : goal.contraction-requires
contraction-requires c = formula_given c.args.log.now.env.sig c.args.target.now c.requires

pub beta_expand-requires-clause-th : goal.beta_expand-requires-clause-th
beta_expand-requires-clause-th c = subst (λ n. c.args.th.0 < n) c.len.ensures.theorems c.if-th-len.false

pub conclusion-requires : goal.conclusion-requires
conclusion-requires c = c.in_ok-eq-in-len1.ensures.gives.is_thm

pub conclusion-requires-in-len1 : goal.conclusion-requires-in-len1
conclusion-requires-in-len1 c = subst (λ n. c.args.th.0 < n) c.len.ensures.theorems c.if-th-len.false

pub beta_expand-requires-clause-target : goal.beta_expand-requires-clause-target
beta_expand-requires-clause-target c = subst (λ e. IsFormula e.sig c.args.target.now) (sym c.contraction.ensures.kept.env) c.requires

pub beta_expand-requires-clause-redexes : goal.beta_expand-requires-clause-redexes
beta_expand-requires-clause-redexes c =
    ap (λ ps. contracted_along ps c.args.target.now) (sym c.as_slice.ensures ∙ alone _ _ c.in-len1.len_at_least c.in-len1.len_below c.path-item.is ∙ ap (λ z. z ∷ []) (sym c.as_slice-in-len1.ensures))
    ∙ sym (next_is c.args.log.now.env.sig c.as_slice-in-len1.result.now c.args.target.now c.contraction.new.log c.in_ok-eq-in-len1.eq.0 c.in_ok-eq-in-len1.ensures.gives)
    ∙ ap right_of (sym c.conclusion.ensures.value) ∙ sym c.right.ensures ∙ c.if-not-same.ensures.0 refl ∙ c.conclusion-in-len1.ensures.value
