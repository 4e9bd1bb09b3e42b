-- A most general unifier of slight terms makes no slight term heavy: each variable stands for a part of one of them, whose variables
-- stand for less, and there are few variables.
use Rattle.std.proofs.Common.{◌≡◌, ℕ, zero, suc, ◌+◌, ◌-◌, ◌*◌, ◌^◌, ◌<◌, ◌≤◌, min, List, [], ◌∷◌, map, sum, ◌⊎◌, inl, inr, refl, sym, ap, subst, ◌∙◌, arith}
use Rattle.std.specs.List.{concat}
use Rattle.std.proofs.lemmas.Bool.{cases_order}
use Rattle.std.proofs.Math.Nat.{mul-le-mul_right}
use Rattle.fo_terms.specs.declared.term.FoTerm.{FoTerm}
use Rattle.fo_terms.specs.Weight.{size_of}
use Rattle.fo_terms.specs.Substitution.{var, fun, put}
use Rattle.fo_terms.specs.Normal.{variables_of}
use Rattle.fo_terms.proofs.Induction.{Each, by_cases}
use Rattle.fo_terms.proofs.Substitution.{put_var, put_fun, size_var, size_fun, sum_cons}
use Rattle.fo_terms.proofs.Renaming.{each_append, each_left, each_right, each_map, variables_var, variables_fun}
use Rattle.fo_unify.specs.declared.subst.Bind.{Bind}
use Rattle.fo_unify.specs.Lookup.{term_of}
use Rattle.fo_unify.specs.Unifier.{IsMostGeneral}
use Rattle.fo_infer.proofs.Stable.{size_one}
use Rattle.fo_infer.proofs.Cutting.{Part, image_of_part}

-- powers of 64
abbrev pub power : ℕ → ℕ
power zero = 1
power (suc n) = 64 * power n

power_one : (n : ℕ) → 1 ≤ power n
power_one zero = omega arith
power_one (suc n) = let rest = power_one n in omega arith

power_more : (n k : ℕ) → power n ≤ power (n + k)
power_more n zero = let index : n + 0 ≡ n = omega arith in let same : power (n + 0) ≡ power n = ap power index in omega arith
power_more n (suc k) =
    let rest = power_more n k in
    let index : n + suc k ≡ suc (n + k) = omega arith in
    let next : power (n + suc k) ≡ 64 * power (n + k) = ap power index in
    omega arith

power_grows : (n m : ℕ) → n ≤ m → power n ≤ power m
power_grows n m less = let index : n + (m - n) ≡ m = omega arith in let same : power (n + (m - n)) ≡ power m = ap power index in let more = power_more n (m - n) in omega arith

each_join : {X : Type 0} (P Q R : X → Type 0) (xs : List X) → ((x : X) → P x → Q x → R x) → Each P xs → Each Q xs → Each R xs
each_join P Q R [] h left right = tt
each_join P Q R (x ∷ xs) h left right = (h x left.0 right.0, each_join P Q R xs h left.1 right.1)

module _ (v : ℕ → FoTerm) where
  abbrev weight : ℕ → ℕ
  weight y = size_of (v y)

  -- ---- images of terms

  abbrev Bounded : ℕ → FoTerm → Type 0
  Bounded b t = Each (λ y. weight y ≤ b) (variables_of t) → size_of (put v t) ≤ size_of t * b

  bounded_all : (b : ℕ) (ts : List FoTerm) → Each (Bounded b) ts → Each (λ y. weight y ≤ b) (concat (map variables_of ts)) → sum (map size_of (map (put v) ts)) ≤ sum (map size_of ts) * b
  bounded_all b [] each low = omega arith
  bounded_all b (t ∷ ts) each low =
      let left = sum_cons (size_of (put v t)) (map size_of (map (put v) ts)) in
      let right = sum_cons (size_of t) (map size_of ts) in
      let here : size_of (put v t) ≤ size_of t * b = each.0 (each_left (λ y. weight y ≤ b) (variables_of t) (concat (map variables_of ts)) low) in
      let rest = bounded_all b ts each.1 (each_right (λ y. weight y ≤ b) (variables_of t) (concat (map variables_of ts)) low) in
      let parts : sum (map size_of (t ∷ ts)) * b ≡ size_of t * b + sum (map size_of ts) * b = ap (λ n. n * b) right ∙ distributed (size_of t) (sum (map size_of ts)) b in
      omega arith
    where
      distributed : (m n k : ℕ) → (m + n) * k ≡ m * k + n * k
      distributed m n k = omega arith

  bounded : (b : ℕ) → 1 ≤ b → (t : FoTerm) → Bounded b t
  bounded b one = by_cases (Bounded b)
      (λ y low.
      let here : weight y ≤ b = (subst (Each (λ y. weight y ≤ b)) (variables_var y) low).0 in
      let image : size_of (put v (var y)) ≡ weight y = ap size_of (put_var v y) in
      let whole : size_of (var y) * b ≡ 1 * b = ap (λ n. n * b) (size_var y) in
      omega arith)
      (λ f args each low.
      let rest = bounded_all b args each (subst (Each (λ y. weight y ≤ b)) (variables_fun f args) low) in
      let image : size_of (put v (fun f args)) ≡ 1 + sum (map size_of (map (put v) args)) = ap size_of (put_fun v f args) ∙ size_fun f (map (put v) args) in
      let whole : size_of (fun f args) * b ≡ (1 + sum (map size_of args)) * b = ap (λ n. n * b) (size_fun f args) in
      let split : (1 + sum (map size_of args)) * b ≡ b + sum (map size_of args) * b = omega arith in
      omega arith)

  -- ---- variables of a term stand for less than it

  abbrev Holding : FoTerm → Type 0
  Holding t = Each (λ y. weight y ≤ size_of (put v t)) (variables_of t)

  held_all : (ts : List FoTerm) → Each Holding ts → Each (λ y. weight y ≤ sum (map size_of (map (put v) ts))) (concat (map variables_of ts))
  held_all [] each = tt
  held_all (t ∷ ts) each =
      let split = sum_cons (size_of (put v t)) (map size_of (map (put v) ts)) in
      each_append (λ y. weight y ≤ sum (map size_of (map (put v) (t ∷ ts)))) (variables_of t) (concat (map variables_of ts))
      (each_map (λ y. weight y ≤ size_of (put v t)) (λ y. weight y ≤ sum (map size_of (map (put v) (t ∷ ts)))) (variables_of t) (λ y less. omega arith) each.0)
      (each_map (λ y. weight y ≤ sum (map size_of (map (put v) ts))) (λ y. weight y ≤ sum (map size_of (map (put v) (t ∷ ts)))) (concat (map variables_of ts)) (λ y less. omega arith) (held_all ts each.1))

  held : (t : FoTerm) → Holding t
  held = by_cases Holding
      (λ y. subst (Each (λ z. weight z ≤ size_of (put v (var y)))) (sym (variables_var y)) (let image : size_of (put v (var y)) ≡ weight y = ap size_of (put_var v y) in omega arith, tt))
      (λ f args each.
      let image : size_of (put v (fun f args)) ≡ 1 + sum (map size_of (map (put v) args)) = ap size_of (put_fun v f args) ∙ size_fun f (map (put v) args) in
      subst (Each (λ z. weight z ≤ size_of (put v (fun f args)))) (sym (variables_fun f args))
      (each_map (λ y. weight y ≤ sum (map size_of (map (put v) args))) (λ y. weight y ≤ size_of (put v (fun f args))) (concat (map variables_of args)) (λ y less. omega arith) (held_all args each)))

  less_than : (f : ℕ) (args : List FoTerm) → Each (λ y. weight y < size_of (put v (fun f args))) (variables_of (fun f args))
  less_than f args =
      let image : size_of (put v (fun f args)) ≡ 1 + sum (map size_of (map (put v) args)) = ap size_of (put_fun v f args) ∙ size_fun f (map (put v) args) in
      subst (Each (λ z. weight z < size_of (put v (fun f args)))) (sym (variables_fun f args))
      (each_map (λ y. weight y ≤ sum (map size_of (map (put v) args))) (λ y. weight y < size_of (put v (fun f args))) (concat (map variables_of args)) (λ y less. omega arith) (held_all args (all_held args)))
    where
      all_held : (ts : List FoTerm) → Each Holding ts
      all_held [] = tt
      all_held (t ∷ ts) = (held t, all_held ts)

  -- ---- how many of the first variables stand for less

  abbrev lighter : ℕ → ℕ → ℕ
  lighter zero m = 0
  lighter (suc n) m = min 1 (m - weight n) + lighter n m

  lighter_most : (n m : ℕ) → lighter n m ≤ n
  lighter_most zero m = omega arith
  lighter_most (suc n) m = let rest = lighter_most n m in omega arith

  lighter_grows : (n k m : ℕ) → k ≤ m → lighter n k ≤ lighter n m
  lighter_grows zero k m less = omega arith
  lighter_grows (suc n) k m less = let rest = lighter_grows n k m less in omega arith

  lighter_more : (n y m : ℕ) → y < n → weight y < m → lighter n (weight y) + 1 ≤ lighter n m
  lighter_more zero y m within less = absurd (omega arith)
  lighter_more (suc n) y m within less = elim (cases_order y n) [
    | inl here ↦
        let same : weight y ≡ weight n = ap weight here in
        let rest = lighter_grows n (weight y) m (omega arith) in
        omega arith
    | inr other ↦ elim other [
      | inl inside ↦ let rest = lighter_more n y m inside less in omega arith
      | inr over ↦ absurd (omega arith)
    ]
  ]

  view : (t : FoTerm) → ((y : ℕ) × (t ≡ var y)) ⊎ ((f : ℕ) × ((args : List FoTerm) × (t ≡ fun f args)))
  view = by_cases (λ t. ((y : ℕ) × (t ≡ var y)) ⊎ ((f : ℕ) × ((args : List FoTerm) × (t ≡ fun f args)))) (λ y. inl (y, refl)) (λ f args each. inr (f, (args, refl)))

  module _ (s t : FoTerm) (most : ℕ)
      (parts : (x g : ℕ) (bs : List FoTerm) → v x ≡ fun g bs → Part (λ y. y < most) v (fun g bs) s ⊎ Part (λ y. y < most) v (fun g bs) t)
      (s_light : size_of s ≤ 64) (t_light : size_of t ≤ 64) where
    abbrev Limited : ℕ → Type 0
    Limited x = weight x ≤ power (lighter most (weight x) + 1)

    from_part : (n x g : ℕ) (bs : List FoTerm) (r : FoTerm) → size_of r ≤ 64 → weight x ≤ suc n → ((y : ℕ) → weight y ≤ n → Limited y) → v x ≡ fun g bs → Part (λ y. y < most) v (fun g bs) r → Limited x
    from_part n x g bs r light size rest is part =
        let whole : size_of (put v (fun part.f part.args)) ≡ weight x = ap size_of (part.same ∙ sym is) in
        let b = power (lighter most (weight x)) in
        let low : Each (λ y. weight y ≤ b) (variables_of (fun part.f part.args)) =
        each_join (λ y. y < most) (λ y. weight y < size_of (put v (fun part.f part.args))) (λ y. weight y ≤ b) (variables_of (fun part.f part.args))
        (λ y inside less.
        let smaller : weight y < weight x = omega arith in
        let limit : weight y ≤ power (lighter most (weight y) + 1) = rest y (omega arith) in
        let more = lighter_more most y (weight x) inside smaller in
        let grows = power_grows (lighter most (weight y) + 1) (lighter most (weight x)) more in
        omega arith) part.inside (less_than part.f part.args) in
        let image = bounded b (power_one (lighter most (weight x))) (fun part.f part.args) low in
        let part_light = part.light in
        let few : size_of (fun part.f part.args) ≤ 64 = omega arith in
        let product : size_of (fun part.f part.args) * b ≤ 64 * b = mul-le-mul_right b few in
        let index : lighter most (weight x) + 1 ≡ suc (lighter most (weight x)) = omega arith in
        let next : power (lighter most (weight x) + 1) ≡ 64 * b = ap power index in
        omega arith

    limited : (n x : ℕ) → weight x ≤ n → Limited x
    limited zero x size = let one = size_one (v x) in absurd (omega arith)
    limited (suc n) x size = elim (view (v x)) [
      | inl is ↦
          let one : weight x ≡ 1 = ap size_of is.1 ∙ size_var is.0 in
          let least = power_one (lighter most (weight x) + 1) in
          omega arith
      | inr is ↦ elim (parts x is.0 is.1.0 is.1.1) [
        | inl part ↦ from_part n x is.0 is.1.0 s s_light size (limited n) is.1.1 part
        | inr part ↦ from_part n x is.0 is.1.0 t t_light size (limited n) is.1.1 part
      ]
    ]

    pub image_limited : (r : FoTerm) → size_of r ≤ 64 → size_of (put v r) ≤ power (most + 2)
    image_limited r light =
        let b = power (most + 1) in
        let image = bounded b (power_one (most + 1)) r (all_limited (variables_of r)) in
        let product : size_of r * b ≤ 64 * b = mul-le-mul_right b light in
        let index : most + 2 ≡ suc (most + 1) = omega arith in
        let next : power (most + 2) ≡ 64 * b = ap power index in
        omega arith
      where
        all_limited : (ys : List ℕ) → Each (λ y. weight y ≤ power (most + 1)) ys
        all_limited [] = tt
        all_limited (y ∷ ys) =
            let limit = limited (weight y) y (omega arith) in
            let few = lighter_most most (weight y) in
            let grows = power_grows (lighter most (weight y) + 1) (most + 1) (omega arith) in
            (omega arith, all_limited ys)

-- of two slight terms, over fewer than 8 variables
pub unified_small : (s t : FoTerm) (binds : List Bind) → IsMostGeneral ((s, t) ∷ []) binds → Each (λ y. y < 8) (variables_of s) → Each (λ y. y < 8) (variables_of t) → size_of s ≤ 64 → size_of t ≤ 64
    → (r : FoTerm) → size_of r ≤ 64 → size_of (put (term_of binds) r) < 2 ^ 64 - 1
unified_small s t binds general in_s in_t s_light t_light r light =
    let limit : size_of (put (term_of binds) r) ≤ power 10 =
    image_limited (term_of binds) s t 8 (image_of_part (λ y. y < 8) s t binds general in_s in_t) s_light t_light r light in
    let value : power 10 ≡ 1152921504606846976 = refl in
    omega arith
