-- The last theorem.
use Rattle.std.proofs.Common.{◌≡◌, ◌↔◌, ℕ, ◌-◌, List, [], ◌∷◌, length, Some, Bool, false, IsTrue, sym, ◌∙◌, ap, subst, arith}
use Rattle.std.specs.Prelude.{Option, slice_get}
use Rattle.std.specs.FinSet as set
use Rattle.hol_terms.specs.declared.env.Env.{Env}
use Rattle.hol_terms.specs.declared.term.Term.{Term}
use Rattle.kernel_rules.specs.declared.step.Step.{Step}
use Rattle.kernel_rules.specs.declared.sequent.Sequent.{Sequent}
use Rattle.kernel_rules.specs.Rules.{seq}
use Rattle.kernel_rules.specs.Derivations.{derived, last_of, Proves}

-- a sequent without hypotheses is told by its conclusion
pub told_by_conclusion : (b : Bool) (q : Sequent) (t : Term) → q.hyps ≡ set.empty → IsTrue b ↔ (q.concl ≡ t) → IsTrue b ↔ (q ≡ seq set.empty t)
told_by_conclusion b q t e tells = (λ h i. seq (e i) (tells.0 h i), λ s. tells.1 (ap (λ p. p.concl) s))

-- one with hypotheses is another
pub told_by_hypotheses : (b : Bool) (q : Sequent) (t : Term) → IsTrue b ↔ (q.hyps ≡ set.empty) → b ≡ false → IsTrue b ↔ (q ≡ seq set.empty t)
told_by_hypotheses b q t tells no_more = (λ h. cc, λ s. tells.1 (ap (λ p. p.hyps) s))

none_last : (seqs : List Sequent) (q : Sequent) → length seqs ≡ 0 → last_of seqs ≡ Some q → IsTrue false
none_last [] q h e = cc
none_last (x ∷ xs) q h e = absurd (omega arith)

pub no_last : (seqs : List Sequent) (q : Sequent) → length seqs ≡ 0 → IsTrue false ↔ (last_of seqs ≡ Some q)
no_last seqs q h = (λ f. cc, λ e. none_last seqs q h e)

is_last : (o : Option Sequent) (p q : Sequent) → o ≡ Some p → o ≡ Some q → p ≡ q
is_last o p q e f = cc

pub told_by_last : (b : Bool) (seqs : List Sequent) (n : ℕ) (p q : Sequent) → n ≡ length seqs → slice_get seqs (n - 1) ≡ Some p → IsTrue b ↔ (p ≡ q) → IsTrue b ↔ (last_of seqs ≡ Some q)
told_by_last b seqs n p q size e tells =
    let last : last_of seqs ≡ Some p = ap (λ k. slice_get seqs (k - 1)) (sym size) ∙ e in
    (λ h. last ∙ ap (λ x. Some x) (tells.0 h), λ s. tells.1 (is_last (last_of seqs) p q last s))

same_sequents : (env : Env) (steps : List Step) (a b : List Sequent) → derived env steps ≡ Some a → derived env steps ≡ Some b → a ≡ b
same_sequents env steps a b h k = cc

-- steps prove the goal exactly where it is the last of their sequents
pub told_by_proof : (b : Bool) (env : Env) (steps : List Step) (seqs : List Sequent) → derived env steps ≡ Some seqs → IsTrue b ↔ (last_of seqs ≡ Some (seq set.empty env.goal)) → IsTrue b ↔ Proves env steps
told_by_proof b env steps seqs follows tells =
    (λ h. (seqs, follows, tells.0 h), λ p. tells.1 (subst (λ l. last_of l ≡ Some (seq set.empty env.goal)) (same_sequents env steps p.0 seqs p.1 follows) p.2))
