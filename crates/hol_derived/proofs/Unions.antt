-- Sets of hypotheses that come out alike.
use Rattle.std.proofs.Common.{◌≡◌, sym, inl, inr}
use Rattle.std.specs.FinSet as set
use Rattle.hol_terms.specs.declared.term.Term.{Term}
use Rattle.hyp_sets.specs.Sets.{TermSet, only}
use Rattle.hyp_sets.proofs.Members.{same_members, holds_union, in_left, in_right, holds_remove, holds_only, empty_where_none, none_among}
use Rattle.hyp_sets.proofs.Kept.{union_around}

pub union_turned : (s t : TermSet) → set.union s t ≡ set.union t s
union_turned s t =
    same_members (set.union s t) (set.union t s) (λ x h. elim (holds_union s t x h) [ inl k ↦ in_right t s x k | inr k ↦ in_left t s x k ])
    (λ x h. elim (holds_union t s x h) [ inl k ↦ in_right s t x k | inr k ↦ in_left s t x k ])

pub none_joined : (s : TermSet) → set.union set.empty s ≡ s
none_joined s = sym (union_around set.empty s (none_among s))

-- of two assumptions, both of which are taken out, nothing is left
pub both_out : (n p : Term) → set.remove (set.union (only n) (set.remove (set.union (only n) (only p)) p)) n ≡ set.empty
both_out n p =
    empty_where_none (set.remove (set.union (only n) (set.remove (set.union (only n) (only p)) p)) n)
    (λ x h. let out = holds_remove (set.union (only n) (set.remove (set.union (only n) (only p)) p)) n x h in
    elim (holds_union (only n) (set.remove (set.union (only n) (only p)) p) x out.1) [
      | inl k ↦ out.0 (holds_only n x k)
      | inr k ↦ let inner = holds_remove (set.union (only n) (only p)) p x k in
          elim (holds_union (only n) (only p) x inner.1) [ inl m ↦ out.0 (holds_only n x m) | inr m ↦ inner.0 (holds_only p x m) ]
    ])
