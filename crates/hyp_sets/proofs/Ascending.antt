-- Lists that ascend, and what is in them.
use Rattle.std.proofs.Common.{◌≡◌, List, [], ◌∷◌, ◌++◌, refl, sym, ◌∙◌, ap, subst, Bool, true, false, inl, inr, ◌⊎◌, append_assoc, ℕ, suc, ◌+◌, cond, length, arith}
use Rattle.std.specs.Ordering.{ordering_reverse}
use Rattle.std.specs.declared.cmp.Ordering.{Ordering}
use Rattle.std.specs.declared.cmp.Ordering.TheVariants.{Less, Equal, Greater}
use Rattle.std.specs.Cmp.{tied_itself}
use Rattle.std.specs.FinSet as set
use Rattle.hol_terms.specs.declared.term.Term.{Term}
use Rattle.hyp_sets.specs.Order.{term_cmp}
use Rattle.hyp_sets.specs.Sets.{set_of, Holds, Among}
use Rattle.hyp_sets.specs.inner.Trees.{Below, Above, Ascends, where_held, CutAt}
use Rattle.hyp_sets.proofs.OrderLaws.{total}
use Rattle.hyp_sets.proofs.Members.{same_members, same_tests, holds_union, in_left, in_right, holds_remove, in_remove, holds_first, in_first, in_rest, none_held}
use Rattle.hyp_sets.proofs.Joined.{among_front, among_back, holds_append}

-- ---- the order
not_both : (r : Ordering) → r ≡ Less → r ≡ Equal → ⊥
not_both Less h k = cc
not_both Equal h k = cc
not_both Greater h k = cc

pub not_before_itself : (x : Term) → term_cmp x x ≡ Less → ⊥
not_before_itself x h = not_both (term_cmp x x) h (tied_itself total x)

pub before_after : (x y : Term) → term_cmp x y ≡ Less → term_cmp y x ≡ Less → ⊥
before_after x y h k = not_before_itself x (total.trans x y x h k)

pub turned_round : (x y : Term) → term_cmp x y ≡ Greater → term_cmp y x ≡ Less
turned_round x y h = total.antisymm y x ∙ ap ordering_reverse h

-- ---- a list with a term in its middle
pub record Halves (xs : List Term) (k : Term) (ys : List Term) : Type 0 where
  pub first : Ascends xs
  pub below : Below xs k
  pub above : Above k ys
  pub second : Ascends ys

pub in_two : (xs : List Term) (k : Term) (ys : List Term) → Ascends (xs ++ k ∷ ys) → Halves xs k ys
in_two [] k ys h = record { first = tt; below = λ x m. absurd (none_held x m); above = h.0; second = h.1 }
in_two (x ∷ xs) k ys h =
    let rest = in_two xs k ys h.1 in
    record {
      first = (λ z m. h.0 z (among_front xs (k ∷ ys) z m), rest.first);
      below = λ z m. elim (holds_first x xs z m) [ inl e ↦ subst (λ w. term_cmp w k ≡ Less) (sym e) (h.0 k (among_back xs (k ∷ ys) k (in_first k ys k refl))) | inr n ↦ rest.below z n ];
      above = rest.above;
      second = rest.second;
    }

-- each term before `k` comes before each term after it
after_all : (xs : List Term) (k : Term) (ys : List Term) (x : Term) → Above x xs → term_cmp x k ≡ Less → Above k ys → Above x (xs ++ k ∷ ys)
after_all xs k ys x front middle back z m =
    elim (holds_append xs (k ∷ ys) z m) [
      | inl n ↦ front z n
      | inr n ↦ elim (holds_first k ys z n) [ inl e ↦ subst (λ w. term_cmp x w ≡ Less) (sym e) middle | inr o ↦ total.trans x k z middle (back z o) ]
    ]

pub as_one : (xs : List Term) (k : Term) (ys : List Term) → Halves xs k ys → Ascends (xs ++ k ∷ ys)
as_one [] k ys h = (h.above, h.second)
as_one (x ∷ xs) k ys h = (
  after_all xs k ys x h.first.0 (h.below x (in_first x xs x refl)) h.above,
  as_one xs k ys (record { first = h.first.1; below = λ z m. h.below z (in_rest x xs z m); above = h.above; second = h.second }),
)

pub without_middle : (xs : List Term) (k : Term) (ys : List Term) → Halves xs k ys → Ascends (xs ++ ys)
without_middle [] k ys h = h.second
without_middle (x ∷ xs) k ys h = (
  λ z m. elim (holds_append xs ys z m) [ inl n ↦ h.first.0 z n | inr n ↦ total.trans x k z (h.below x (in_first x xs x refl)) (h.above z n) ],
  without_middle xs k ys (record { first = h.first.1; below = λ z m. h.below z (in_rest x xs z m); above = h.above; second = h.second }),
)

-- ---- what is looked for, at a term in the middle
module _ (xs : List Term) (k : Term) (ys : List Term) (x : Term) where
  pub held_here : x ≡ k → Holds (set_of (xs ++ k ∷ ys)) x
  held_here e = among_back xs (k ∷ ys) x (in_first k ys x e)

  pub held_before : Halves xs k ys → term_cmp x k ≡ Less → set.contains (set_of xs) x ≡ set.contains (set_of (xs ++ k ∷ ys)) x
  held_before h less =
      same_tests (set.contains (set_of xs) x) (set.contains (set_of (xs ++ k ∷ ys)) x) (λ m. among_front xs (k ∷ ys) x m) (λ m.
      elim (holds_append xs (k ∷ ys) x m) [
        | inl n ↦ n
        | inr n ↦ elim (holds_first k ys x n) [ inl e ↦ absurd (not_before_itself k (subst (λ w. term_cmp w k ≡ Less) e less)) | inr o ↦ absurd (before_after x k less (h.above x o)) ]
      ])

  pub held_after : Halves xs k ys → term_cmp k x ≡ Less → set.contains (set_of ys) x ≡ set.contains (set_of (xs ++ k ∷ ys)) x
  held_after h more =
      same_tests (set.contains (set_of ys) x) (set.contains (set_of (xs ++ k ∷ ys)) x) (λ m. among_back xs (k ∷ ys) x (in_rest k ys x m)) (λ m.
      elim (holds_append xs (k ∷ ys) x m) [
        | inl n ↦ absurd (before_after x k (h.below x n) more)
        | inr n ↦ elim (holds_first k ys x n) [ inl e ↦ absurd (not_before_itself k (subst (λ w. term_cmp k w ≡ Less) e more)) | inr o ↦ o ]
      ])

-- ---- cuts
pub nothing_cut : (x : Term) → CutAt x [] [] false []
nothing_cut x = record { list = refl; first = tt; second = tt; below = λ z m. absurd (none_held z m); above = λ z m. absurd (none_held z m) }

pub cut_here : (x : Term) (xs : List Term) (k : Term) (ys : List Term) → Halves xs k ys → x ≡ k → CutAt x (xs ++ k ∷ ys) xs true ys
cut_here x xs k ys h e =
    record {
      list = ap (λ z. xs ++ z ∷ ys) (sym e);
      first = h.first;
      second = h.second;
      below = subst (Below xs) (sym e) h.below;
      above = subst (λ z. Above z ys) (sym e) h.above;
    }

-- what the list before the middle is cut into
pub cut_before : (x : Term) (xs : List Term) (k : Term) (ys before : List Term) (held : Bool) (after : List Term) → Halves xs k ys → term_cmp x k ≡ Less → CutAt x xs before held after → CutAt x (xs ++ k ∷ ys) before held (after ++ k ∷ ys)
cut_before x xs k ys before held after h less cut =
    let inside : Among (set_of after) (set_of xs) = λ z m. subst (λ w. Holds (set_of w) z) (sym cut.list) (among_back before (where_held held x ++ after) z (among_back (where_held held x) after z m)) in
    record {
      list = ap (λ z. z ++ k ∷ ys) cut.list ∙ simp append_assoc;
      first = cut.first;
      second = as_one after k ys (record { first = cut.second; below = λ z m. h.below z (inside z m); above = h.above; second = h.second });
      below = cut.below;
      above = after_all after k ys x cut.above less h.above;
    }

before_all : (xs : List Term) (k : Term) (ys : List Term) (x : Term) → Below xs k → term_cmp k x ≡ Less → Below ys x → Below (xs ++ k ∷ ys) x
before_all xs k ys x front middle back z m =
    elim (holds_append xs (k ∷ ys) z m) [
      | inl n ↦ total.trans z k x (front z n) middle
      | inr n ↦ elim (holds_first k ys z n) [ inl e ↦ subst (λ w. term_cmp w x ≡ Less) (sym e) middle | inr o ↦ back z o ]
    ]

-- what the list after the middle is cut into
pub cut_after : (x : Term) (xs : List Term) (k : Term) (ys before : List Term) (held : Bool) (after : List Term) → Halves xs k ys → term_cmp k x ≡ Less → CutAt x ys before held after → CutAt x (xs ++ k ∷ ys) (xs ++ k ∷ before) held after
cut_after x xs k ys before held after h more cut =
    let inside : Among (set_of before) (set_of ys) = λ z m. subst (λ w. Holds (set_of w) z) (sym cut.list) (among_front before (where_held held x ++ after) z m) in
    record {
      list = ap (λ z. xs ++ k ∷ z) cut.list ∙ simp append_assoc;
      first = as_one xs k before (record { first = h.first; below = h.below; above = λ z m. h.above z (inside z m); second = cut.first });
      second = cut.second;
      below = before_all xs k before x h.below more cut.below;
      above = cut.above;
    }

held_is : (held : Bool) (x z : Term) → Holds (set_of (where_held held x)) z → z ≡ x
held_is true x z m = elim (holds_first x [] z m) [ inl e ↦ e | inr n ↦ absurd (none_held z n) ]
held_is false x z m = absurd (none_held z m)

-- where a term of a list that is cut comes to lie
pub in_cut : (x : Term) (all before : List Term) (held : Bool) (after : List Term) → CutAt x all before held after → (z : Term) → Holds (set_of all) z → Holds (set_of before) z ⊎ (z ≡ x) ⊎ Holds (set_of after) z
in_cut x all before held after cut z m =
    elim (holds_append before (where_held held x ++ after) z (subst (λ w. Holds (set_of w) z) cut.list m)) [
      | inl n ↦ inl n
      | inr n ↦ elim (holds_append (where_held held x) after z n) [ inl o ↦ inr (inl (held_is held x z o)) | inr o ↦ inr (inr o) ]
    ]

pub before_among : (x : Term) (all before : List Term) (held : Bool) (after : List Term) → CutAt x all before held after → Among (set_of before) (set_of all)
before_among x all before held after cut z m = subst (λ w. Holds (set_of w) z) (sym cut.list) (among_front before (where_held held x ++ after) z m)

pub after_among : (x : Term) (all before : List Term) (held : Bool) (after : List Term) → CutAt x all before held after → Among (set_of after) (set_of all)
after_among x all before held after cut z m = subst (λ w. Holds (set_of w) z) (sym cut.list) (among_back before (where_held held x ++ after) z (among_back (where_held held x) after z m))

-- ---- what is left when a term is taken out
module _ (x : Term) (all before : List Term) (held : Bool) (after : List Term) (cut : CutAt x all before held after) where
  pub removed_ascends : Ascends (before ++ after)
  removed_ascends = without_middle before x after (record { first = cut.first; below = cut.below; above = cut.above; second = cut.second })

  pub removed_set : set_of (before ++ after) ≡ set.remove (set_of all) x
  removed_set =
      same_members (set_of (before ++ after)) (set.remove (set_of all) x) (λ z m.
      elim (holds_append before after z m) [
        | inl n ↦ in_remove (set_of all) x z (λ e. not_before_itself x (subst (λ w. term_cmp w x ≡ Less) e (cut.below z n))) (before_among x all before held after cut z n)
        | inr n ↦ in_remove (set_of all) x z (λ e. not_before_itself x (subst (λ w. term_cmp x w ≡ Less) e (cut.above z n))) (after_among x all before held after cut z n)
      ]) (λ z m.
      let parts = holds_remove (set_of all) x z m in
      elim (in_cut x all before held after cut z parts.1) [
        | inl n ↦ among_front before after z n
        | inr (inl e) ↦ absurd (parts.0 e)
        | inr (inr n) ↦ among_back before after z n
      ])

-- ---- two lists put together on each side of a term
module _ (xs : List Term) (k : Term) (ys all before : List Term) (held : Bool) (after left right : List Term) (h : Halves xs k ys) (cut : CutAt k all before held after)
    (left_is : set_of left ≡ set.union (set_of xs) (set_of before)) (right_is : set_of right ≡ set.union (set_of ys) (set_of after)) where
  in_left_part : (z : Term) → Holds (set_of left) z → Holds (set_of xs) z ⊎ Holds (set_of before) z
  in_left_part z m = holds_union (set_of xs) (set_of before) z (subst (λ s. Holds s z) left_is m)

  in_right_part : (z : Term) → Holds (set_of right) z → Holds (set_of ys) z ⊎ Holds (set_of after) z
  in_right_part z m = holds_union (set_of ys) (set_of after) z (subst (λ s. Holds s z) right_is m)

  left_holds_own : Among (set_of xs) (set_of left)
  left_holds_own z m = subst (λ s. Holds s z) (sym left_is) (in_left (set_of xs) (set_of before) z m)

  left_holds_other : Among (set_of before) (set_of left)
  left_holds_other z m = subst (λ s. Holds s z) (sym left_is) (in_right (set_of xs) (set_of before) z m)

  right_holds_own : Among (set_of ys) (set_of right)
  right_holds_own z m = subst (λ s. Holds s z) (sym right_is) (in_left (set_of ys) (set_of after) z m)

  right_holds_other : Among (set_of after) (set_of right)
  right_holds_other z m = subst (λ s. Holds s z) (sym right_is) (in_right (set_of ys) (set_of after) z m)

  pub united_ascends : Ascends left → Ascends right → Ascends (left ++ k ∷ right)
  united_ascends first second =
      as_one left k right (record {
        first = first;
        below = λ z m. elim (in_left_part z m) [ inl n ↦ h.below z n | inr n ↦ cut.below z n ];
        above = λ z m. elim (in_right_part z m) [ inl n ↦ h.above z n | inr n ↦ cut.above z n ];
        second = second;
      })

  into_both : Among (set_of (left ++ k ∷ right)) (set.union (set_of (xs ++ k ∷ ys)) (set_of all))
  into_both z m =
      elim (holds_append left (k ∷ right) z m) [
        | inl n ↦ elim (in_left_part z n) [
          | inl o ↦ in_left (set_of (xs ++ k ∷ ys)) (set_of all) z (among_front xs (k ∷ ys) z o)
          | inr o ↦ in_right (set_of (xs ++ k ∷ ys)) (set_of all) z (before_among k all before held after cut z o)
        ]
        | inr n ↦ elim (holds_first k right z n) [
          | inl e ↦ in_left (set_of (xs ++ k ∷ ys)) (set_of all) z (held_here xs k ys z e)
          | inr o ↦ elim (in_right_part z o) [
            | inl p ↦ in_left (set_of (xs ++ k ∷ ys)) (set_of all) z (among_back xs (k ∷ ys) z (in_rest k ys z p))
            | inr p ↦ in_right (set_of (xs ++ k ∷ ys)) (set_of all) z (after_among k all before held after cut z p)
          ]
        ]
      ]

  in_front : Among (set_of left) (set_of (left ++ k ∷ right))
  in_front z m = among_front left (k ∷ right) z m

  in_back : Among (set_of right) (set_of (left ++ k ∷ right))
  in_back z m = among_back left (k ∷ right) z (in_rest k right z m)

  from_both : Among (set.union (set_of (xs ++ k ∷ ys)) (set_of all)) (set_of (left ++ k ∷ right))
  from_both z m =
      elim (holds_union (set_of (xs ++ k ∷ ys)) (set_of all) z m) [
        | inl n ↦ elim (holds_append xs (k ∷ ys) z n) [
          | inl o ↦ in_front z (left_holds_own z o)
          | inr o ↦ elim (holds_first k ys z o) [ inl e ↦ held_here left k right z e | inr p ↦ in_back z (right_holds_own z p) ]
        ]
        | inr n ↦ elim (in_cut k all before held after cut z n) [
          | inl o ↦ in_front z (left_holds_other z o)
          | inr (inl e) ↦ held_here left k right z e
          | inr (inr o) ↦ in_back z (right_holds_other z o)
        ]
      ]

  pub united_set : set_of (left ++ k ∷ right) ≡ set.union (set_of (xs ++ k ∷ ys)) (set_of all)
  united_set = same_members (set_of (left ++ k ∷ right)) (set.union (set_of (xs ++ k ∷ ys)) (set_of all)) into_both from_both

pub cut_as : (x : Term) (all before : List Term) (held : Bool) (after all' before' after' : List Term) → all ≡ all' → before ≡ before' → after ≡ after' → CutAt x all before held after → CutAt x all' before' held after'
cut_as x all before held after all' before' after' a b d cut =
    subst (λ z. CutAt x z before' held after') a (subst (λ z. CutAt x all z held after') b (subst (λ z. CutAt x all before held z) d cut))

pub one_ascends : (x : Term) → Ascends (x ∷ [])
one_ascends x = (λ z m. absurd (none_held z m), tt)

-- ---- how many there are
one_more : (b : Bool) (n : ℕ) → b ≡ false → cond b n (n + 1) ≡ suc n
one_more true n h = cc
one_more false n h = omega arith

unheld : (b : Bool) → (b ≡ true → ⊥) → b ≡ false
unheld true h = absurd (h refl)
unheld false h = refl

pub len_ascends : (xs : List Term) → Ascends xs → set.len (set_of xs) ≡ length xs
len_ascends [] h = set.len-empty term_cmp
len_ascends (x ∷ xs) h =
    set.len-insert total (set_of xs) x ∙ one_more (set.contains (set_of xs) x) (set.len (set_of xs)) (unheld (set.contains (set_of xs) x) (λ m. not_before_itself x (h.0 x m))) ∙ ap suc (len_ascends xs h.1)
