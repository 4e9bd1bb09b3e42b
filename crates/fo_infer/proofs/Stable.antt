-- A substitution keeps the order of terms, as long as what it makes of the greater one weighs less than 2^64 - 1.
use Rattle.std.proofs.Common.{◌≡◌, ℕ, ◌+◌, ◌-◌, ◌^◌, ◌<◌, ◌≤◌, Bool, true, false, ◌==◌, if◌then◌else◌, List, [], ◌∷◌, ◌++◌, map, sum, ◌⊎◌, inl, inr, refl, sym, ap, ◌∙◌, arith}
use Rattle.std.proofs.lemmas.Bool.{cases_order}
use Rattle.std.specs.List.{concat}
use Rattle.fo_terms.specs.declared.term.FoTerm.{FoTerm, Fun}
use Rattle.fo_terms.specs.declared.term.FoTerm.TheOpen.{FoTerm-F}
use Rattle.fo_terms.specs.declared.term.FoTerm.TheFolds.{fold-roll-FoTerm}
use Rattle.fo_terms.specs.declared.term.FoTerm.TheVariants.{rolls-Var, rolls-Fun}
use Rattle.fo_terms.specs.Weight.{size_of, capped}
use Rattle.fo_terms.specs.Substitution.{var, fun, put}
use Rattle.fo_terms.specs.Normal.{variables_of}
use Rattle.fo_terms.proofs.Induction.{Each, by_cases}
use Rattle.fo_terms.proofs.Substitution.{put_var, put_fun, size_var, size_fun, sum_cons, equal_true, equal_from}
use Rattle.fo_terms.proofs.Renaming.{variables_var, variables_fun}
use Rattle.fo_order.specs.Counts.{count_of, count_step, Covers}
use Rattle.fo_order.specs.KnuthBendix.{Above, Outranks, AboveFirst, above, heavier, later, first, here, next}
use Rattle.fo_infer.proofs.OrderKept.{times, times-append, counts}

-- a number for each variable, summed over its places
abbrev pub total : (ℕ → ℕ) → List ℕ → ℕ
total g [] = 0
total g (y ∷ ys) = g y + total g ys

total-append : (g : ℕ → ℕ) (ys zs : List ℕ) → total g (ys ++ zs) ≡ total g ys + total g zs
total-append g [] zs = omega arith
total-append g (y ∷ ys) zs = let rest = total-append g ys zs in omega arith

pub size_one : (t : FoTerm) → 1 ≤ size_of t
size_one = by_cases (λ t. 1 ≤ size_of t) (λ x. let whole = size_var x in omega arith) (λ f args each. let whole = size_fun f args in omega arith)

-- ---- a list of numbers within another one

abbrev Within : List ℕ → List ℕ → Type 0
Within zs ys = (x : ℕ) → times x zs ≤ times x ys

record Parted (z : ℕ) (ys : List ℕ) : Type 0 where
  before : List ℕ
  behind : List ℕ
  whole : ys ≡ before ++ z ∷ behind

parted_step : (z y : ℕ) (ys : List ℕ) (test : Bool) → (z == y) ≡ test → 1 ≤ (if test then 1 else 0) + times z ys → (1 ≤ times z ys → Parted z ys) → Parted z (y ∷ ys)
parted_step z y ys true e more rest = record { before = []; behind = ys; whole = ap (λ x. x ∷ ys) (sym (equal_from z y e)) }
parted_step z y ys false e more rest = let inside : Parted z ys = rest (omega arith) in record { before = y ∷ inside.before; behind = inside.behind; whole = ap (λ l. y ∷ l) inside.whole }

parted : (z : ℕ) (ys : List ℕ) → 1 ≤ times z ys → Parted z ys
parted z [] more = absurd (omega arith)
parted z (y ∷ ys) more = parted_step z y ys (z == y) refl more (parted z ys)

itself : (z : ℕ) (zs : List ℕ) → times z (z ∷ zs) ≡ 1 + times z zs
itself z zs = ap (λ b. (if b then 1 else 0) + times z zs) (equal_true z)

total_within : (g : ℕ → ℕ) (zs ys : List ℕ) → Within zs ys → total g zs ≤ total g ys
total_within g [] ys within = omega arith
total_within g (z ∷ zs) ys within =
    let one : times z (z ∷ zs) ≡ 1 + times z zs = itself z zs in
    let least = within z in
    let at : Parted z ys = parted z ys (omega arith) in
    let rest = total_within g zs (at.before ++ at.behind) (λ x.
    let bound = within x in
    let all : times x ys ≡ times x at.before + times x (z ∷ at.behind) = ap (times x) at.whole ∙ times-append x at.before (z ∷ at.behind) in
    let fewer : times x (at.before ++ at.behind) ≡ times x at.before + times x at.behind = times-append x at.before at.behind in
    omega arith) in
    let all : total g ys ≡ total g at.before + total g (z ∷ at.behind) = ap (total g) at.whole ∙ total-append g at.before (z ∷ at.behind) in
    let fewer : total g (at.before ++ at.behind) ≡ total g at.before + total g at.behind = total-append g at.before at.behind in
    omega arith

-- ---- how often variables stand in terms and images

count_fun : (x f : ℕ) (args : List FoTerm) → count_of x (fun f args) ≡ sum (map (count_of x) args)
count_fun x f args = ap (count_of x) (sym (rolls-Fun f args)) ∙ fold-roll-FoTerm ℕ (count_step x) (FoTerm-F.Fun f args)

count_var : (x y : ℕ) → count_of x (var y) ≡ (if x == y then 1 else 0)
count_var x y = ap (count_of x) (sym (rolls-Var y)) ∙ fold-roll-FoTerm ℕ (count_step x) (FoTerm-F.Var y)

at_most_one : (b : Bool) → (if b then 1 else 0) ≤ 1
at_most_one true = omega arith
at_most_one false = omega arith

counted_within_all : (x : ℕ) (ts : List FoTerm) → Each (λ t. count_of x t ≤ size_of t) ts → sum (map (count_of x) ts) ≤ sum (map size_of ts)
counted_within_all x [] each = omega arith
counted_within_all x (t ∷ ts) each =
    let left = sum_cons (count_of x t) (map (count_of x) ts) in
    let right = sum_cons (size_of t) (map size_of ts) in
    let here = each.0 in
    let rest = counted_within_all x ts each.1 in
    omega arith

counted_within : (x : ℕ) (t : FoTerm) → count_of x t ≤ size_of t
counted_within x = by_cases (λ t. count_of x t ≤ size_of t)
    (λ y. let count = count_var x y in let whole = size_var y in let one = at_most_one (x == y) in omega arith)
    (λ f args each. let count = count_fun x f args in let whole = size_fun f args in let rest = counted_within_all x args each in omega arith)

module _ (v : ℕ → FoTerm) where
  -- what an image weighs more than a variable
  abbrev gain : ℕ → ℕ
  gain y = size_of (v y) - 1

  abbrev Sized : FoTerm → Type 0
  Sized t = size_of (put v t) ≡ size_of t + total gain (variables_of t)

  sized_all : (ts : List FoTerm) → Each Sized ts → sum (map size_of (map (put v) ts)) ≡ sum (map size_of ts) + total gain (concat (map variables_of ts))
  sized_all [] each = refl
  sized_all (t ∷ ts) each =
      let left = sum_cons (size_of (put v t)) (map size_of (map (put v) ts)) in
      let right = sum_cons (size_of t) (map size_of ts) in
      let joined = total-append gain (variables_of t) (concat (map variables_of ts)) in
      let here : Sized t = each.0 in
      let rest = sized_all ts each.1 in
      omega arith

  sized : (t : FoTerm) → Sized t
  sized = by_cases Sized
      (λ y. let image : size_of (put v (var y)) ≡ size_of (v y) = ap size_of (put_var v y) in
      let whole = size_var y in
      let least = size_one (v y) in
      let there : total gain (variables_of (var y)) ≡ gain y + 0 = ap (total gain) (variables_var y) in
      omega arith)
      (λ f args each.
      let image : size_of (put v (fun f args)) ≡ 1 + sum (map size_of (map (put v) args)) = ap size_of (put_fun v f args) ∙ size_fun f (map (put v) args) in
      let whole = size_fun f args in
      let rest = sized_all args each in
      let there : total gain (variables_of (fun f args)) ≡ total gain (concat (map variables_of args)) = ap (total gain) (variables_fun f args) in
      omega arith)

  abbrev Counted : ℕ → FoTerm → Type 0
  Counted x t = count_of x (put v t) ≡ total (λ y. count_of x (v y)) (variables_of t)

  counted_all : (x : ℕ) (ts : List FoTerm) → Each (Counted x) ts → sum (map (count_of x) (map (put v) ts)) ≡ total (λ y. count_of x (v y)) (concat (map variables_of ts))
  counted_all x [] each = refl
  counted_all x (t ∷ ts) each =
      let left = sum_cons (count_of x (put v t)) (map (count_of x) (map (put v) ts)) in
      let joined = total-append (λ y. count_of x (v y)) (variables_of t) (concat (map variables_of ts)) in
      let here : Counted x t = each.0 in
      let rest = counted_all x ts each.1 in
      omega arith

  counted : (x : ℕ) (t : FoTerm) → Counted x t
  counted x = by_cases (Counted x)
      (λ y. let image : count_of x (put v (var y)) ≡ count_of x (v y) = ap (count_of x) (put_var v y) in
      let there : total (λ z. count_of x (v z)) (variables_of (var y)) ≡ count_of x (v y) + 0 = ap (total (λ z. count_of x (v z))) (variables_var y) in
      omega arith)
      (λ f args each.
      let image : count_of x (put v (fun f args)) ≡ sum (map (count_of x) (map (put v) args)) = ap (count_of x) (put_fun v f args) ∙ count_fun x f (map (put v) args) in
      let rest = counted_all x args each in
      let there : total (λ z. count_of x (v z)) (variables_of (fun f args)) ≡ total (λ z. count_of x (v z)) (concat (map variables_of args)) = ap (total (λ z. count_of x (v z))) (variables_fun f args) in
      omega arith)

  -- the image weighs less than the greatest machine number
  abbrev pub Small : FoTerm → Type 0
  Small t = size_of (put v t) < 2 ^ 64 - 1

  -- ---- the order

  covered_within : (s t : FoTerm) → Small s → Covers s t → Within (variables_of t) (variables_of s)
  covered_within s t small cov x =
      let bound = cov x in
      let most = counted_within x s in
      let size = sized s in
      let left = counts x t in
      let right = counts x s in
      omega arith

  covers_stable : (s t : FoTerm) → Small s → Covers s t → Covers (put v s) (put v t)
  covers_stable s t small cov x =
      let left = counted x t in
      let right = counted x s in
      let fewer = total_within (λ y. count_of x (v y)) (variables_of t) (variables_of s) (covered_within s t small cov) in
      omega arith

  gains : (s t : FoTerm) → Small s → Covers s t → total gain (variables_of t) ≤ total gain (variables_of s)
  gains s t small cov = total_within gain (variables_of t) (variables_of s) (covered_within s t small cov)

  -- a term that weighs as much becomes lighter or weighs as much
  weighed : (s t : FoTerm) → Small s → Covers s t → capped (size_of t) ≡ capped (size_of s)
      → (capped (size_of (put v t)) < capped (size_of (put v s))) ⊎ (capped (size_of (put v t)) ≡ capped (size_of (put v s)))
  weighed s t small cov same =
      let left = sized s in
      let right = sized t in
      let fewer = gains s t small cov in
      elim (cases_order (size_of (put v t)) (size_of (put v s))) [
        | inl e ↦ inr (ap capped e)
        | inr rest ↦ elim rest [ inl less ↦ inl (omega arith) | inr more ↦ absurd (omega arith) ]
      ]

  abbrev AllSmall : List FoTerm → Type 0
  AllSmall ts = sum (map size_of (map (put v) ts)) < 2 ^ 64 - 1

  small_args : (s : FoTerm) (f : ℕ) (xs : List FoTerm) → s ≡ Fun f xs → Small s → AllSmall xs
  small_args s f xs is small =
      let image : size_of (put v s) ≡ 1 + sum (map size_of (map (put v) xs)) = ap (λ u. size_of (put v u)) is ∙ ap size_of (put_fun v f xs) ∙ size_fun f (map (put v) xs) in
      omega arith

  small_head : (x : FoTerm) (xs : List FoTerm) → AllSmall (x ∷ xs) → Small x
  small_head x xs small = let split = sum_cons (size_of (put v x)) (map size_of (map (put v) xs)) in omega arith

  small_tail : (x : FoTerm) (xs : List FoTerm) → AllSmall (x ∷ xs) → AllSmall xs
  small_tail x xs small = let split = sum_cons (size_of (put v x)) (map size_of (map (put v) xs)) in omega arith

  ranked_first : {s t : FoTerm} → Small s → Covers s t → capped (size_of t) ≡ capped (size_of s) → (f : ℕ) (xs ys : List FoTerm) → s ≡ Fun f xs → t ≡ Fun f ys
      → AboveFirst (map (put v) xs) (map (put v) ys) → Outranks (put v s) (put v t)
  ranked_first {s} {t} small cov same f xs ys is it rest =
      elim (weighed s t small cov same) [
        | inl lighter ↦ heavier lighter
        | inr equal ↦ first equal f (map (put v) xs) (map (put v) ys) (ap (put v) is ∙ put_fun v f xs) (ap (put v) it ∙ put_fun v f ys) rest
      ]

  mutual
    pub above_stable : {s t : FoTerm} → Small s → Above s t → Above (put v s) (put v t)
    above_stable {s} {t} small (above cov rank) = above (covers_stable s t small cov) (rank_stable small cov rank)

    rank_stable : {s t : FoTerm} → Small s → Covers s t → Outranks s t → Outranks (put v s) (put v t)
    rank_stable {s} {t} small cov (heavier less) =
        let left = sized s in
        let right = sized t in
        let fewer = gains s t small cov in
        heavier (omega arith)
    rank_stable {s} {t} small cov (later same f g xs ys is it less) =
        elim (weighed s t small cov same) [
          | inl lighter ↦ heavier lighter
          | inr equal ↦ later equal f g (map (put v) xs) (map (put v) ys) (ap (put v) is ∙ put_fun v f xs) (ap (put v) it ∙ put_fun v g ys) less
        ]
    rank_stable {s} {t} small cov (first same f xs ys is it rest) =
        ranked_first small cov same f xs ys is it (first_stable (small_args s f xs is small) rest)

    first_stable : {xs ys : List FoTerm} → AllSmall xs → AboveFirst xs ys → AboveFirst (map (put v) xs) (map (put v) ys)
    first_stable {xs = x ∷ xs} {ys = y ∷ ys} small (here greater) = here (above_stable (small_head x xs small) greater)
    first_stable {xs = x ∷ xs} {ys = y ∷ ys} small (next same rest) = next (ap (put v) same) (first_stable (small_tail x xs small) rest)
