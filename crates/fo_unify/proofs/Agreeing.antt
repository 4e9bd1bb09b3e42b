-- When terms are the same with bindings put through them, and what that settles.
use Rattle.std.proofs.Common.{◌≡◌, ◌≢◌, ◌==◌, ◌↔◌, ℕ, zero, suc, ◌<◌, Bool, true, false, IsTrue, List, [], ◌∷◌, map, length, get_or, sym, ap, subst, ◌∙◌, arith}
use Rattle.std.specs.Prelude.{All, Contains}
use Rattle.std.proofs.lemmas.List.{length-map}
use Rattle.fo_terms.specs.declared.term.FoTerm.{FoTerm}
use Rattle.fo_terms.specs.Substitution.{var, fun, put, occurs_in}
use Rattle.fo_terms.specs.Weight.{size_of}
use Rattle.fo_terms.proofs.Heads.{fun_same, fun_no_var, var_same}
use Rattle.fo_terms.proofs.Induction.{by_cases}
use Rattle.fo_terms.proofs.Substitution.{equal_true, equal_from, put_var, put_fun, size_var, size_fun}
use Rattle.fo_unify.specs.declared.subst.Bind.{Bind}
use Rattle.fo_unify.specs.declared.triangle.Found.TheVariants.{Done}
use Rattle.fo_unify.specs.Unifier.{Equates}
use Rattle.fo_unify.specs.inner.Triangle.{solution, Good, walked, Lacks}
use Rattle.fo_unify.specs.inner.Leads.{Goes}
use Rattle.fo_unify.proofs.Triangles.{put_general}
use Rattle.fo_unify.proofs.Reaching.{put_to_var, put_to_fun}
use Rattle.fo_unify.proofs.RuleSteps.{carries_same}

-- ---- terms by what a walk ends at

module _ (bs : List Bind) (good : Good bs) (s t : FoTerm) where
  pub agree_vars : (x y : ℕ) → walked bs s ≡ var x → walked bs t ≡ var y → IsTrue (x == y) ↔ Equates (solution bs) s t
  agree_vars x y is it = (
    λ e. put_to_var bs good s x is ∙ ap var (equal_from x y e) ∙ sym (put_to_var bs good t y it),
    λ e. (let same : x ≡ y = var_same x y (sym (put_to_var bs good s x is) ∙ e ∙ put_to_var bs good t y it) in subst (λ z. IsTrue (x == z)) same (equal_true x)),
  )

  pub agree_var_fun : (x g : ℕ) (ys : List FoTerm) → walked bs s ≡ var x → walked bs t ≡ fun g ys → IsTrue false ↔ Equates (solution bs) s t
  agree_var_fun x g ys is it = (
    λ e. (let clash : false ≡ true = e in cc),
    λ e. absurd (fun_no_var g x (map (put (solution bs)) ys) (sym (put_to_fun bs good t g ys it) ∙ sym e ∙ put_to_var bs good s x is)),
  )

  pub agree_fun_var : (y f : ℕ) (xs : List FoTerm) → walked bs s ≡ fun f xs → walked bs t ≡ var y → IsTrue false ↔ Equates (solution bs) s t
  agree_fun_var y f xs is it = (
    λ e. (let clash : false ≡ true = e in cc),
    λ e. absurd (fun_no_var f y (map (put (solution bs)) xs) (sym (put_to_fun bs good s f xs is) ∙ e ∙ put_to_var bs good t y it)),
  )

  module _ (f g : ℕ) (xs ys : List FoTerm) (is : walked bs s ≡ fun f xs) (it : walked bs t ≡ fun g ys) where
    parts_of : Equates (solution bs) s t → (f ≡ g) × (map (put (solution bs)) xs ≡ map (put (solution bs)) ys)
    parts_of e = fun_same f g (map (put (solution bs)) xs) (map (put (solution bs)) ys) (sym (put_to_fun bs good s f xs is) ∙ e ∙ put_to_fun bs good t g ys it)

    pub agree_heads : f ≢ g → IsTrue false ↔ Equates (solution bs) s t
    agree_heads other = (λ e. (let clash : false ≡ true = e in cc), λ e. absurd (other (parts_of e).0))

    pub agree_args : f ≡ g → (b : Bool) → IsTrue b ↔ (map (put (solution bs)) xs ≡ map (put (solution bs)) ys) → IsTrue b ↔ Equates (solution bs) s t
    agree_args heads b args = (
      λ e. (let rest = args.0 e in put_to_fun bs good s f xs is ∙ (λ i. fun (heads i) (rest i)) ∙ sym (put_to_fun bs good t g ys it)),
      λ e. args.1 (parts_of e).1,
    )

-- terms of one image have as many arguments
pub heads_apart : (v : ℕ → FoTerm) (s t : FoTerm) (f g : ℕ) (xs ys : List FoTerm) → s ≡ fun f xs → t ≡ fun g ys → (length xs ≡ length ys → ⊥) → Equates v s t → ⊥
heads_apart v s t f g xs ys is it other e =
    let parts = fun_same f g (map (put v) xs) (map (put v) ys) (sym (put_fun v f xs) ∙ sym (ap (put v) is) ∙ e ∙ ap (put v) it ∙ put_fun v g ys) in
    other (sym (length-map xs (put v)) ∙ ap length parts.1 ∙ length-map ys (put v))

-- lists with one image have one at each place
pub same_at : {X Y : Type 0} (f : X → Y) (xs ys : List X) (i : ℕ) (x y : X) → i < length xs → length xs ≡ length ys → x ≡ get_or xs i x → y ≡ get_or ys i y → map f xs ≡ map f ys → f x ≡ f y
same_at f [] ys i x y within l is it e = absurd (omega arith)
same_at f (a ∷ xs) [] i x y within l is it e = absurd (omega arith)
same_at f (a ∷ xs) (b ∷ ys) zero x y within l is it e = let first : f a ≡ f b = cc in ap f is ∙ first ∙ sym (ap f it)
same_at f (a ∷ xs) (b ∷ ys) (suc i) x y within l is it e =
    let inside : i < length xs = omega arith in
    let shorter : length xs ≡ length ys = omega arith in
    let rest : map f xs ≡ map f ys = cc in
    same_at f xs ys i x y inside shorter is it rest

-- ---- an equation that the bindings solve

positive : (t : FoTerm) → 0 < size_of t
positive = by_cases (λ t. 0 < size_of t)
    (λ x. let one_is = size_var x in omega arith)
    (λ f args each. let whole = size_fun f args in omega arith)

pub settled : (bs : List Bind) (s t : FoTerm) (old : List (FoTerm × FoTerm)) → Equates (solution bs) s t → Goes bs s t old old Done
settled bs s t old e =
    let some = positive (put (solution bs) s) in (
      λ v solves. (λ h. h.0, λ m. (m, put_general v bs solves s ∙ ap (put v) e ∙ sym (put_general v bs solves t))),
      omega arith,
      carries_same (solution bs) s t old e,
    )

-- ---- variables that were looked through

pub seen_lacks : (bs : List Bind) (x y : ℕ) (t : FoTerm) (seen : List ℕ) → t ≡ var y → Contains seen y → All (Lacks bs x) seen → false ≡ occurs_in x (put (solution bs) t)
seen_lacks bs x y t seen is there each =
    let here : Lacks bs x (get_or seen there.0 y) = each there.0 y there.1 in
    let lacks : Lacks bs x y = subst (Lacks bs x) there.2 here in
    sym (ap (λ z. occurs_in x (put (solution bs) z)) is ∙ ap (occurs_in x) (put_var (solution bs) y) ∙ lacks)

pub sees : (bs : List Bind) (x y : ℕ) (t : FoTerm) → t ≡ var y → occurs_in x (put (solution bs) t) ≡ false → Lacks bs x y
sees bs x y t is lacks = sym (ap (occurs_in x) (ap (put (solution bs)) is ∙ put_var (solution bs) y)) ∙ lacks
