-- What a walk ends at, and what the solution makes of it.
use Rattle.std.proofs.Common.{◌≡◌, ℕ, ◌+◌, ◌≤◌, ◌<◌, ◌==◌, List, map, sum, sym, ap, ◌∙◌, arith}
use Rattle.fo_terms.specs.declared.term.FoTerm.{FoTerm}
use Rattle.fo_terms.specs.Weight.{size_of}
use Rattle.fo_unify.specs.declared.subst.Bind.{Bind}
use Rattle.fo_terms.specs.Substitution.{var, fun, put, occurs_in, occurs_in_any}
use Rattle.fo_unify.specs.inner.Triangle.{solution, Good, walked}
use Rattle.std.specs.Prelude.{sum_by}
use Rattle.std.proofs.Common.{length, get_or}
use Rattle.std.proofs.lemmas.List.Sums.{sum-map, get_or-le-sum_by}
use Rattle.fo_terms.proofs.Substitution.{map_map, put_var, put_fun, occurs_var, occurs_fun, size_fun}
use Rattle.fo_unify.proofs.Triangles.{walk_root, walk_same}

module _ (bs : List Bind) (good : Good bs) (t : FoTerm) where
  pub put_to_var : (y : ℕ) → walked bs t ≡ var y → put (solution bs) t ≡ var y
  put_to_var y is = sym (walk_same bs t good) ∙ ap (put (solution bs)) is ∙ put_var (solution bs) y ∙ walk_root bs t good y is

  pub put_to_fun : (f : ℕ) (args : List FoTerm) → walked bs t ≡ fun f args → put (solution bs) t ≡ fun f (map (put (solution bs)) args)
  put_to_fun f args is = sym (walk_same bs t good) ∙ ap (put (solution bs)) is ∙ put_fun (solution bs) f args

  pub reach_var : (x y : ℕ) → walked bs t ≡ var y → occurs_in x (put (solution bs) t) ≡ (x == y)
  reach_var x y is = ap (occurs_in x) (put_to_var y is) ∙ occurs_var x y

  pub reach_fun : (x f : ℕ) (args : List FoTerm) → walked bs t ≡ fun f args → occurs_in x (put (solution bs) t) ≡ occurs_in_any x (map (put (solution bs)) args)
  reach_fun x f args is = ap (occurs_in x) (put_to_fun f args is) ∙ occurs_fun x f (map (put (solution bs)) args)

  pub reach_size : (f : ℕ) (args : List FoTerm) → walked bs t ≡ fun f args → size_of (put (solution bs) t) ≡ 1 + sum (map size_of (map (put (solution bs)) args))
  reach_size f args is = ap size_of (put_to_fun f args is) ∙ size_fun f (map (put (solution bs)) args)

pub part_size : (u : ℕ → FoTerm) (ts : List FoTerm) (i : ℕ) (t : FoTerm) → i < length ts → t ≡ get_or ts i t → size_of (put u t) ≤ sum (map size_of (map (put u) ts))
part_size u ts i t within is =
    let whole : sum (map size_of (map (put u) ts)) ≡ sum_by (λ s. size_of (put u s)) ts = ap sum (map_map size_of (put u) ts) ∙ sum-map (λ s. size_of (put u s)) ts in
    let part = get_or-le-sum_by (λ s. size_of (put u s)) ts i t within in
    let same : size_of (put u t) ≡ size_of (put u (get_or ts i t)) = ap (λ s. size_of (put u s)) is in
    omega arith
