-- What is in two lists joined.
use Rattle.std.proofs.Common.{List, [], ◌∷◌, ◌++◌, inl, inr, ◌⊎◌}
use Rattle.hol_terms.specs.declared.term.Term.{Term}
use Rattle.hyp_sets.specs.Sets.{set_of, Holds, Among}
use Rattle.hyp_sets.proofs.Members.{in_first, in_rest, holds_first, none_held}

pub among_front : (xs ys : List Term) → Among (set_of xs) (set_of (xs ++ ys))
among_front [] ys x h = absurd (none_held x h)
among_front (k ∷ xs) ys x h = elim (holds_first k xs x h) [ inl e ↦ in_first k (xs ++ ys) x e | inr m ↦ in_rest k (xs ++ ys) x (among_front xs ys x m) ]

pub among_back : (xs ys : List Term) → Among (set_of ys) (set_of (xs ++ ys))
among_back [] ys x h = h
among_back (k ∷ xs) ys x h = in_rest k (xs ++ ys) x (among_back xs ys x h)

pub holds_append : (xs ys : List Term) (x : Term) → Holds (set_of (xs ++ ys)) x → Holds (set_of xs) x ⊎ Holds (set_of ys) x
holds_append [] ys x h = inr h
holds_append (k ∷ xs) ys x h =
    elim (holds_first k (xs ++ ys) x h) [
      | inl e ↦ inl (in_first k xs x e)
      | inr m ↦ elim (holds_append xs ys x m) [ inl n ↦ inl (in_rest k xs x n) | inr n ↦ inr n ]
    ]
