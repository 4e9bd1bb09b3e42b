-- Unions that leave one side as it is, and removals that leave the whole.
use Rattle.std.proofs.Common.{◌≡◌, ◌≢◌, subst, false, inl, inr}
use Rattle.std.specs.FinSet as set
use Rattle.hol_terms.specs.declared.term.Term.{Term}
use Rattle.hyp_sets.specs.Sets.{TermSet, Holds, Among}
use Rattle.hyp_sets.proofs.Members.{same_members, in_left, in_right, holds_union, holds_remove, in_remove, clash}

pub union_within : (s t : TermSet) → Among t s → s ≡ set.union s t
union_within s t within = same_members s (set.union s t) (λ x h. in_left s t x h) (λ x h. elim (holds_union s t x h) [ inl k ↦ k | inr k ↦ within x k ])

pub union_around : (s t : TermSet) → Among s t → t ≡ set.union s t
union_around s t within = same_members t (set.union s t) (λ x h. in_right s t x h) (λ x h. elim (holds_union s t x h) [ inl k ↦ within x k | inr k ↦ k ])

pub union_swapped : (s t : TermSet) → set.union s t ≡ set.union t s
union_swapped s t =
    same_members (set.union s t) (set.union t s) (λ x h. elim (holds_union s t x h) [ inl k ↦ in_right t s x k | inr k ↦ in_left t s x k ])
    (λ x h. elim (holds_union t s x h) [ inl k ↦ in_right s t x k | inr k ↦ in_left s t x k ])

pub remove_absent : (s : TermSet) (t : Term) → set.contains s t ≡ false → s ≡ set.remove s t
remove_absent s t absent =
    let other : (x : Term) → Holds s x → x ≢ t = λ x h e. clash (set.contains s t) (subst (Holds s) e h) absent in
    same_members s (set.remove s t) (λ x h. in_remove s t x (other x h) h) (λ x h. (holds_remove s t x h).1)
