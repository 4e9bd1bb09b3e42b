-- Sets of hypotheses of clauses.
use Rattle.std.proofs.Common.{◌≡◌, List, [], ◌∷◌, ◌++◌, map, refl, sym, ◌∙◌, ap, subst, Bool, true, false, if◌then◌else◌, inl, inr}
use Rattle.std.specs.FinSet as set
use Rattle.hol_terms.specs.declared.term.Term.{Term}
use Rattle.hyp_sets.specs.Sets.{TermSet, set_of, only, Holds, Among, image}
use Rattle.hyp_sets.proofs.Members.{holds_union, in_left, in_right, holds_remove, holds_first, in_first, in_rest, none_held, holds_only, among_union, among_trans}
use Rattle.hyp_sets.proofs.Images.{holds_image, in_map}
use Rattle.kernel_rules.specs.Connectives.{neg}
use Rattle.hol_terms.specs.declared.literal.TypedLiteral.{TypedLiteral}
use Rattle.hol_clauses.specs.Literals.{denied, allowed, positive, negative, with_atom}
use Rattle.hol_clauses.specs.Laws.{MayComeAgain, ResolventLands, ReflexivityLands, ParamodulantLands}

module _ {A : Type 0} (f : A → Term) where
  pub in_append_left : (p q : List A) (x : Term) → Holds (set_of (map f p)) x → Holds (set_of (map f (p ++ q))) x
  in_append_left [] q x h = absurd (none_held x h)
  in_append_left (l ∷ p) q x h =
      elim (holds_first (f l) (map f p) x h) [ inl e ↦ in_first (f l) (map f (p ++ q)) x e | inr k ↦ in_rest (f l) (map f (p ++ q)) x (in_append_left p q x k) ]

  pub in_append_right : (p q : List A) (x : Term) → Holds (set_of (map f q)) x → Holds (set_of (map f (p ++ q))) x
  in_append_right [] q x h = h
  in_append_right (l ∷ p) q x h = in_rest (f l) (map f (p ++ q)) x (in_append_right p q x h)

-- ---- what is allowed as a hypothesis of a clause's theorem
-- the same where each denied literal is one of the other list's
pub allowed_more : (p q : List TypedLiteral) → MayComeAgain p q
unfolding allowed
allowed_more p q base within x h =
    elim (holds_union base (set_of (map denied p)) x h) [ inl k ↦ in_left base (set_of (map denied q)) x k | inr k ↦ in_right base (set_of (map denied q)) x (within x k) ]

-- the denied first literal taken out
pub allowed_but : (base : TermSet) (l : TypedLiteral) (p : List TypedLiteral) (g : TermSet) → Among g (allowed base (l ∷ p)) → Among (set.remove g (denied l)) (allowed base p)
unfolding allowed
allowed_but base l p g within x h =
    let parts = holds_remove g (denied l) x h in
    elim (holds_union base (set_of (map denied (l ∷ p))) x (within x parts.1)) [
      | inl k ↦ in_left base (set_of (map denied p)) x k
      | inr k ↦ elim (holds_first (denied l) (map denied p) x k) [ inl e ↦ absurd (parts.0 e) | inr m ↦ in_right base (set_of (map denied p)) x m ]
    ]

-- a denied literal is allowed
pub allowed_first : (base : TermSet) (l : TypedLiteral) (p : List TypedLiteral) → Among (only (denied l)) (allowed base (l ∷ p))
unfolding allowed
allowed_first base l p x h = in_right base (set_of (map denied (l ∷ p))) x (in_first (denied l) (map denied p) x (holds_only (denied l) x h))

pub allowed_rest : (base : TermSet) (l : TypedLiteral) (p : List TypedLiteral) → Among (allowed base p) (allowed base (l ∷ p))
allowed_rest base l p = allowed_more p (l ∷ p) base (in_rest (denied l) (map denied p))

module _ (base : TermSet) (p q : List TypedLiteral) where
  pub allowed_left : Among (allowed base p) (allowed base (p ++ q))
  allowed_left = allowed_more p (p ++ q) base (in_append_left denied p q)

  pub allowed_right : Among (allowed base q) (allowed base (p ++ q))
  allowed_right = allowed_more q (p ++ q) base (in_append_right denied p q)

-- ---- the inferences
pub resolvent : (a : Term) (g d : TermSet) → ResolventLands a g d
resolvent a g d base p q hg hd =
    among_union (set.remove d a) (set.remove g (neg a)) (allowed base (p ++ q))
    (among_trans _ (allowed base q) _ (allowed_but base (negative a) q d hd) (allowed_right base p q))
    (among_trans _ (allowed base p) _ (allowed_but base (positive a) p g hg) (allowed_left base p q))

pub without_it : (e : Term) (g : TermSet) → ReflexivityLands e g
without_it e g base p h = allowed_but base (negative e) p g h

pub paramodulant : (e : Term) (l : TypedLiteral) (b : Term) (g d : TermSet) → ParamodulantLands e l b g d
paramodulant e l b g d base p q hg hd =
    let m = with_atom l b in
    let further = allowed_rest base m (p ++ q) in
    among_union (set.union (set.remove g (neg e)) (set.remove d (denied l))) (only (denied m)) (allowed base (m ∷ (p ++ q)))
    (among_union (set.remove g (neg e)) (set.remove d (denied l)) (allowed base (m ∷ (p ++ q)))
    (among_trans _ (allowed base (p ++ q)) _ (among_trans _ (allowed base p) _ (allowed_but base (positive e) p g hg) (allowed_left base p q)) further)
    (among_trans _ (allowed base (p ++ q)) _ (among_trans _ (allowed base q) _ (allowed_but base l q d hd) (allowed_right base p q)) further))
    (allowed_first base m (p ++ q))

-- where the base stays as it is, an instance of a clause's theorem is the theorem of the clause's instance
pub among_image : (f : Term → Term) (base : TermSet) (ls ms : List TypedLiteral) (g : TermSet) → ((x : Term) → Holds base x → f x ≡ x) → map f (map denied ls) ≡ map denied ms →
    Among g (allowed base ls) → Among (image f g) (allowed base ms)
unfolding allowed
among_image f base ls ms g fixed same within y h =
    let from = holds_image f g y h in
    elim (holds_union base (set_of (map denied ls)) from.0 (within from.0 from.1.0)) [
      | inl k ↦ in_left base (set_of (map denied ms)) y (subst (Holds base) (sym (fixed from.0 k) ∙ from.1.1) k)
      | inr k ↦ in_right base (set_of (map denied ms)) y (subst (λ l. Holds (set_of l) y) same (subst (Holds (set_of (map f (map denied ls)))) from.1.1 (in_map f (map denied ls) from.0 k)))
    ]
