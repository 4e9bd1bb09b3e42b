-- Places without parts: truth values and atoms.
use Rattle.std.proofs.Common.{◌≡◌, ℕ, Bool, true, false, not, List, [], ◌∷◌, ap, subst, refl, sym, ◌∙◌}
use Rattle.std.specs.FinSet as set
use Rattle.hol_terms.specs.declared.term.Term.{Term}
use Rattle.hyp_sets.specs.Sets.{TermSet, only, set_of, Among}
use Rattle.hyp_sets.proofs.Members.{among_union, in_left, in_right, holds_only, in_first}
use Rattle.kernel_rules.specs.declared.step.ThmId.{ThmId}
use Rattle.kernel_rules.specs.Connectives.{verum, falsum, neg}
use Rattle.kernel_rules.specs.Rules.{seq}
use Rattle.hol_kernel.specs.Logs.{Logged, thm}
use Rattle.hol_kernel.specs.Growth.{Extends, Gives}
use Rattle.formula_clauses.specs.Walks.{truth, literal}
use Rattle.hol_clausify.specs.declared.refuting.Refutations.{Refutations}
use Rattle.hol_clausify.specs.Refutations.{leaf}
use Rattle.hol_clausify.specs.inner.Refuting.{placed, denials, IsRefuted, AllRefuted, Refutes}
use Rattle.hol_clausify.proofs.Landings.{gives_false}
use Rattle.hol_clausify.proofs.Refuted.{refuted_stays}

module _ (log : Logged) (from : TermSet) (n : ℕ) (r : Refutations) where
  pub truth_none : (b : Bool) → b ≡ true → r.thms ≡ [] → r.next ≡ n → Refutes log from (leaf (truth b) n) r
  truth_none b is none next = record {
    next = sym next;
    refuted = subst (λ c. AllRefuted log from (truth c) r.thms) (sym is) (subst (AllRefuted log from []) (sym none) tt);
  }

  pub truth_one : (b : Bool) (th : ThmId) → b ≡ false → IsRefuted log from [] th.0 → (r.thms ≡ th ∷ []) × (r.next ≡ n) → Refutes log from (leaf (truth b) n) r
  truth_one b th is h made = record {
    next = sym made.1;
    refuted = subst (λ c. AllRefuted log from (truth c) r.thms) (sym is) (subst (AllRefuted log from ([] ∷ [])) (sym made.0) (h, tt));
  }

  pub atom_one : (s : Bool) (t : Term) (th : ThmId) → IsRefuted log from (record { positive = s; atom = t } ∷ []) th.0 → (r.thms ≡ th ∷ []) × (r.next ≡ n) → Refutes log from (leaf (literal s t) n) r
  atom_one s t th h made = record { next = sym made.1; refuted = subst (AllRefuted log from (literal s t)) (sym made.0) (h, tt) }

pub alone_refuted : (log : Logged) (t : Term) (r : ℕ) → Gives log r (seq (only t) falsum) → IsRefuted log (only t) [] r
alone_refuted log t r g = record {
  refutes = gives_false log r (only t) g;
  hyps = subst (λ q. Among q.hyps (set.union (only t) (denials []))) (sym g.is) (in_left (only t) (denials []));
}

only_first : (t : Term) → Among (only t) (set_of (t ∷ []))
only_first t x h = in_first t [] x (holds_only t x h)

atom_hyps : (s : Bool) (t : Term) → Among (set.union (only (neg t)) (only t)) (set.union (only (placed s t)) (denials (record { positive = s; atom = t } ∷ [])))
atom_hyps true t =
    let d = set_of (neg t ∷ []) in among_union (only (neg t)) (only t) (set.union (only t) d) (λ x h. in_right (only t) d x (only_first (neg t) x h)) (in_left (only t) d)
atom_hyps false t =
    let d = set_of (t ∷ []) in among_union (only (neg t)) (only t) (set.union (only (neg t)) d) (in_left (only (neg t)) d) (λ x h. in_right (only (neg t)) d x (only_first t x h))

pub atom_refuted : (log : Logged) (s : Bool) (t : Term) (r : ℕ) → Gives log r (seq (set.union (only (neg t)) (only t)) falsum) → IsRefuted log (only (placed s t)) (record { positive = s; atom = t } ∷ []) r
atom_refuted log s t r g = record {
  refutes = gives_false log r (set.union (only (neg t)) (only t)) g;
  hyps = subst (λ q. Among q.hyps (set.union (only (placed s t)) (denials (record { positive = s; atom = t } ∷ [])))) (sym g.is) (atom_hyps s t);
}

-- a place by its sign
pub placed_false : (log : Logged) (s : Bool) (t : Term) (r : ℕ) → s ≡ false → IsRefuted log (only (neg t)) [] r → IsRefuted log (only (placed s t)) [] r
placed_false log s t r e h = subst (λ b. IsRefuted log (only (placed b t)) [] r) (sym e) h

pub placed_true : (log : Logged) (s : Bool) (t : Term) (r : ℕ) → s ≡ true → IsRefuted log (only t) [] r → IsRefuted log (only (placed s t)) [] r
placed_true log s t r e h = subst (λ b. IsRefuted log (only (placed b t)) [] r) (sym e) h
