-- What is in a union, a remainder, a list's set; and sets among others.
use Rattle.std.proofs.Common.{◌≡◌, ◌≢◌, List, [], ◌∷◌, refl, sym, ◌∙◌, subst, Bool, true, false, not, ◌||◌, ◌&&◌, ◌⊎◌, inl, inr, IsTrue}
use Rattle.std.specs.Ordering.{eq_by_cmp}
use Rattle.std.specs.List.{list_all}
use Rattle.std.specs.FinSet as set
use Rattle.hol_terms.specs.declared.term.Term.{Term}
use Rattle.hyp_sets.specs.Order.{term_cmp}
use Rattle.hyp_sets.specs.Sets.{TermSet, set_of, only, Holds, Among, all_in}
use Rattle.hyp_sets.proofs.OrderLaws.{total, apart, tied_equal, equal_tied}

or_cases : (a b : Bool) → IsTrue (a || b) → IsTrue a ⊎ IsTrue b
or_cases true b h = inl refl
or_cases false b h = inr h

or_left : (a b : Bool) → IsTrue a → IsTrue (a || b)
or_left true b h = refl
or_left false b h = cc

or_right : (a b : Bool) → IsTrue b → IsTrue (a || b)
or_right true b h = refl
or_right false b h = h

and_parts : (a b : Bool) → IsTrue (not a && b) → (a ≡ false) × IsTrue b
and_parts true b h = cc
and_parts false b h = (refl, h)

pub clash : (b : Bool) → b ≡ true → b ≡ false → ⊥
clash b h k = cc

pub same_tests : (a b : Bool) → (a ≡ true → b ≡ true) → (b ≡ true → a ≡ true) → a ≡ b
same_tests true b f g = sym (f refl)
same_tests false true f g = g refl
same_tests false false f g = refl

-- two sets with the same terms are equal
pub same_members : (s t : TermSet) → Among s t → Among t s → s ≡ t
same_members s t f g = set.same_set total apart s t (λ q. same_tests (set.contains s q) (set.contains t q) (f q) (g q))

-- ---- unions
pub holds_union : (s t : TermSet) (x : Term) → Holds (set.union s t) x → Holds s x ⊎ Holds t x
holds_union s t x h = or_cases (set.contains s x) (set.contains t x) (sym (set.contains-union total s t x) ∙ h)

pub in_left : (s t : TermSet) (x : Term) → Holds s x → Holds (set.union s t) x
in_left s t x h = set.contains-union total s t x ∙ or_left (set.contains s x) (set.contains t x) h

pub in_right : (s t : TermSet) (x : Term) → Holds t x → Holds (set.union s t) x
in_right s t x h = set.contains-union total s t x ∙ or_right (set.contains s x) (set.contains t x) h

-- ---- one term taken out
pub holds_remove : (s : TermSet) (t x : Term) → Holds (set.remove s t) x → (x ≢ t) × Holds s x
holds_remove s t x h =
    let parts = and_parts (eq_by_cmp term_cmp x t) (set.contains s x) (sym (set.contains-remove total s t x) ∙ h) in
    ((λ e. clash (eq_by_cmp term_cmp x t) (equal_tied x t e) parts.0), parts.1)

pub in_remove : (s : TermSet) (t x : Term) → x ≢ t → Holds s x → Holds (set.remove s t) x
in_remove s t x other h = set.contains-remove total s t x ∙ both_hold (eq_by_cmp term_cmp x t) (set.contains s x) (λ e. other (tied_equal x t e)) h
  where
    both_hold : (a b : Bool) → (a ≡ true → ⊥) → IsTrue b → IsTrue (not a && b)
    both_hold true b differs k = absurd (differs refl)
    both_hold false b differs k = k

-- ---- one term put in
pub holds_insert : (s : TermSet) (t x : Term) → Holds (set.insert s t) x → (x ≡ t) ⊎ Holds s x
holds_insert s t x h =
    elim (or_cases (eq_by_cmp term_cmp x t) (set.contains s x) (sym (set.contains-insert total s t x) ∙ h)) [ inl e ↦ inl (tied_equal x t e) | inr k ↦ inr k ]

pub in_insert_new : (s : TermSet) (t x : Term) → x ≡ t → Holds (set.insert s t) x
in_insert_new s t x e = set.contains-insert total s t x ∙ or_left (eq_by_cmp term_cmp x t) (set.contains s x) (equal_tied x t e)

pub in_insert_old : (s : TermSet) (t x : Term) → Holds s x → Holds (set.insert s t) x
in_insert_old s t x h = set.contains-insert total s t x ∙ or_right (eq_by_cmp term_cmp x t) (set.contains s x) h

-- ---- the set of a list
pub holds_first : (t : Term) (ts : List Term) (x : Term) → Holds (set_of (t ∷ ts)) x → (x ≡ t) ⊎ Holds (set_of ts) x
holds_first t ts x h = holds_insert (set_of ts) t x h

pub in_first : (t : Term) (ts : List Term) (x : Term) → x ≡ t → Holds (set_of (t ∷ ts)) x
in_first t ts x e = in_insert_new (set_of ts) t x e

pub in_rest : (t : Term) (ts : List Term) (x : Term) → Holds (set_of ts) x → Holds (set_of (t ∷ ts)) x
in_rest t ts x h = in_insert_old (set_of ts) t x h

-- ---- nothing, one
pub none_held : (x : Term) → Holds (set_of []) x → ⊥
none_held x h = clash (set.contains (set_of []) x) h (set.contains-empty term_cmp x)

pub holds_only : (t x : Term) → Holds (only t) x → x ≡ t
holds_only t x h = elim (holds_insert set.empty t x h) [ inl e ↦ e | inr k ↦ absurd (none_held x k) ]

pub in_only : (t x : Term) → x ≡ t → Holds (only t) x
in_only t x e = in_insert_new set.empty t x e

pub empty_where_none : (s : TermSet) → ((x : Term) → Holds s x → ⊥) → s ≡ set.empty
empty_where_none s none = same_members s set.empty (λ x h. absurd (none x h)) (λ x h. absurd (none_held x h))

-- ---- sets among others
pub among_itself : (s : TermSet) → Among s s
among_itself s x h = h

pub among_trans : (g d s : TermSet) → Among g d → Among d s → Among g s
among_trans g d s f h x k = h x (f x k)

pub among_union : (g d s : TermSet) → Among g s → Among d s → Among (set.union g d) s
among_union g d s hg hd x h = elim (holds_union g d x h) [ inl k ↦ hg x k | inr k ↦ hd x k ]

pub among_remove : (s : TermSet) (t : Term) → Among (set.remove s t) s
among_remove s t x h = (holds_remove s t x h).1

pub none_among : (s : TermSet) → Among set.empty s
none_among s x h = absurd (none_held x h)

pub nothing_below : (s : TermSet) → Among s set.empty → s ≡ set.empty
nothing_below s within = empty_where_none s (λ x h. none_held x (within x h))

-- ---- a test of each term
module _ (p : Term → Bool) where
  pub all_each : (ks : List Term) → list_all p ks ≡ true → (x : Term) → Holds (set_of ks) x → IsTrue (p x)
  all_each [] all x h = absurd (none_held x h)
  all_each (k ∷ ks) all x h =
      let parts = both (p k) (list_all p ks) all in
      elim (holds_first k ks x h) [ inl e ↦ subst (λ z. IsTrue (p z)) (sym e) parts.0 | inr m ↦ all_each ks parts.1 x m ]
    where
      both : (a b : Bool) → (a && b) ≡ true → (a ≡ true) × (b ≡ true)
      both true b h = (refl, h)
      both false b h = cc

  pub each_all : (ks : List Term) → ((x : Term) → Holds (set_of ks) x → IsTrue (p x)) → list_all p ks ≡ true
  each_all [] each = refl
  each_all (k ∷ ks) each = both (p k) (list_all p ks) (each k (in_first k ks k refl)) (each_all ks (λ x h. each x (in_rest k ks x h)))
    where
      both : (a b : Bool) → a ≡ true → b ≡ true → (a && b) ≡ true
      both true b h k = k
      both false b h k = cc

  pub holds_items : (s : TermSet) (x : Term) → Holds (set_of (set.items s)) x → Holds s x
  holds_items s x h = set.contains-items s x ∙ sym (set.contains-from_list total (set.items s) x) ∙ h

  pub in_items : (s : TermSet) (x : Term) → Holds s x → Holds (set_of (set.items s)) x
  in_items s x h = set.contains-from_list total (set.items s) x ∙ sym (set.contains-items s x) ∙ h

  pub all_in_each : (s : TermSet) → all_in p s ≡ true → (x : Term) → Holds s x → IsTrue (p x)
  unfolding all_in
  all_in_each s all x h = all_each (set.items s) all x (in_items s x h)

  pub each_all_in : (s : TermSet) → ((x : Term) → Holds s x → IsTrue (p x)) → all_in p s ≡ true
  unfolding all_in
  each_all_in s each = each_all (set.items s) (λ x h. each x (holds_items s x h))

  pub all_in_set_of : (ks : List Term) → list_all p ks ≡ all_in p (set_of ks)
  all_in_set_of ks = same_tests (list_all p ks) (all_in p (set_of ks)) (λ all. each_all_in (set_of ks) (all_each ks all)) (λ all. each_all ks (all_in_each (set_of ks) all))
