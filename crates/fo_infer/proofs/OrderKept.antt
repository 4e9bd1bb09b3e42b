-- Renaming variables keeps the order of terms.
use Rattle.std.proofs.Common.{◌≡◌, ℕ, ◌+◌, ◌≤◌, Bool, true, false, ◌==◌, if◌then◌else◌, List, [], ◌∷◌, ◌++◌, map, sum, ◌⊎◌, inl, inr, refl, sym, ap, subst, ◌∙◌, arith}
use Rattle.std.specs.List.{concat}
use Rattle.fo_terms.specs.declared.term.FoTerm.{FoTerm, Fun}
use Rattle.fo_terms.specs.declared.term.FoTerm.TheOpen.{FoTerm-F}
use Rattle.fo_terms.specs.declared.term.FoTerm.TheFolds.{fold-roll-FoTerm}
use Rattle.fo_terms.specs.declared.term.FoTerm.TheVariants.{rolls-Var, rolls-Fun}
use Rattle.fo_terms.specs.Weight.{size_of, capped}
use Rattle.fo_terms.specs.Substitution.{var, fun, put}
use Rattle.fo_terms.specs.Normal.{variables_of}
use Rattle.fo_terms.proofs.Heads.{fun_same}
use Rattle.fo_terms.proofs.Induction.{Each, by_cases}
use Rattle.fo_terms.proofs.Substitution.{put_var, put_fun, put_put, size_var, size_fun, sum_cons, equal_from}
use Rattle.fo_terms.proofs.Renaming.{each_left, each_right, put_fixing, variables_var, variables_fun, Undone, name, named, names_apart, variables_renamed}
use Rattle.fo_order.specs.Counts.{count_of, count_step, Covers}
use Rattle.fo_order.specs.KnuthBendix.{Above, Outranks, AboveFirst, above, heavier, later, first, here, next}

-- how often a number stands in a list
abbrev pub times : ℕ → List ℕ → ℕ
times x [] = 0
times x (y ∷ ys) = (if x == y then 1 else 0) + times x ys

pub times-append : (x : ℕ) (ys zs : List ℕ) → times x (ys ++ zs) ≡ times x ys + times x zs
times-append x [] zs = omega arith
times-append x (y ∷ ys) zs = let rest = times-append x ys zs in omega arith

counts_all : (x : ℕ) (ts : List FoTerm) → Each (λ t. count_of x t ≡ times x (variables_of t)) ts → sum (map (count_of x) ts) ≡ times x (concat (map variables_of ts))
counts_all x [] each = refl
counts_all x (t ∷ ts) each =
    let split = sum_cons (count_of x t) (map (count_of x) ts) in
    let rest = counts_all x ts each.1 in
    let joined = times-append x (variables_of t) (concat (map variables_of ts)) in
    let here : count_of x t ≡ times x (variables_of t) = each.0 in
    omega arith

pub counts : (x : ℕ) (t : FoTerm) → count_of x t ≡ times x (variables_of t)
counts x = by_cases (λ t. count_of x t ≡ times x (variables_of t))
    (λ y. let whole : count_of x (var y) ≡ (if x == y then 1 else 0) = ap (count_of x) (sym (rolls-Var y)) ∙ fold-roll-FoTerm ℕ (count_step x) (FoTerm-F.Var y) in
    let there : times x (variables_of (var y)) ≡ (if x == y then 1 else 0) + 0 = ap (times x) (variables_var y) in
    omega arith)
    (λ f args each. ap (count_of x) (sym (rolls-Fun f args)) ∙ fold-roll-FoTerm ℕ (count_step x) (FoTerm-F.Fun f args) ∙ counts_all x args each ∙ sym (ap (times x) (variables_fun f args)))

module _ (v w : ℕ → FoTerm) where
  abbrev Whole : FoTerm → Type 0
  Whole t = put w (put v t) ≡ t

  undone : (t : FoTerm) → Whole t → Each (Undone v w) (variables_of t)
  undone t h = put_fixing (λ y. put w (v y)) t (sym (put_put w v t) ∙ h)

  -- ---- sizes

  abbrev Sized : FoTerm → Type 0
  Sized t = Each (Undone v w) (variables_of t) → size_of (put v t) ≡ size_of t

  sized_all : (ts : List FoTerm) → Each Sized ts → Each (Undone v w) (concat (map variables_of ts)) → map size_of (map (put v) ts) ≡ map size_of ts
  sized_all [] each h = refl
  sized_all (t ∷ ts) each h =
      let here = each.0 (each_left (Undone v w) (variables_of t) (concat (map variables_of ts)) h) in
      let rest = sized_all ts each.1 (each_right (Undone v w) (variables_of t) (concat (map variables_of ts)) h) in
      λ i. here i ∷ rest i

  sized : (t : FoTerm) → Sized t
  sized = by_cases Sized
      (λ x h. ap size_of (put_var v x ∙ named v w x (subst (Each (Undone v w)) (variables_var x) h).0) ∙ size_var (name v w x) ∙ sym (size_var x))
      (λ f args each h. ap size_of (put_fun v f args) ∙ size_fun f (map (put v) args) ∙ ap (λ ns. 1 + sum ns) (sized_all args each (subst (Each (Undone v w)) (variables_fun f args) h)) ∙ sym (size_fun f args))

  -- ---- counts

  times_named : (y : ℕ) (vs : List ℕ) → Undone v w y → Each (Undone v w) vs → times (name v w y) (map (name v w) vs) ≡ times y vs
  times_named y [] h k = refl
  times_named y (z ∷ zs) h k = λ i. (if names_apart v w y z h k.0 i then 1 else 0) + times_named y zs h k.1 i

  find_step : (x y : ℕ) (ys : List ℕ) (test : Bool) → (x == name v w y) ≡ test → Undone v w y
      → (times x (map (name v w) ys) ≡ 0) ⊎ ((z : ℕ) × Undone v w z × (x ≡ name v w z))
      → ((if test then 1 else 0) + times x (map (name v w) ys) ≡ 0) ⊎ ((z : ℕ) × Undone v w z × (x ≡ name v w z))
  find_step x y ys true e h rest = inr (y, h, equal_from x (name v w y) e)
  find_step x y ys false e h (inl none) = inl (omega arith)
  find_step x y ys false e h (inr found) = inr found

  -- a number is in no place of the named list, or it is a name
  find_name : (x : ℕ) (vs : List ℕ) → Each (Undone v w) vs → (times x (map (name v w) vs) ≡ 0) ⊎ ((z : ℕ) × Undone v w z × (x ≡ name v w z))
  find_name x [] h = inl refl
  find_name x (y ∷ ys) h = find_step x y ys (x == name v w y) refl h.0 (find_name x ys h.1)

  count_named : (x : ℕ) (t : FoTerm) → Whole t → count_of x (put v t) ≡ times x (map (name v w) (variables_of t))
  count_named x t h = counts x (put v t) ∙ ap (times x) (variables_renamed v w t (undone t h))

  count_at : (z : ℕ) (t : FoTerm) → Undone v w z → Whole t → count_of (name v w z) (put v t) ≡ count_of z t
  count_at z t u h = count_named (name v w z) t h ∙ times_named z (variables_of t) u (undone t h) ∙ sym (counts z t)

  covers_at : (s t : FoTerm) → Whole s → Whole t → Covers s t → (x : ℕ) → (times x (map (name v w) (variables_of t)) ≡ 0) ⊎ ((z : ℕ) × Undone v w z × (x ≡ name v w z))
      → capped (count_of x (put v t)) ≤ capped (count_of x (put v s))
  covers_at s t h k cov x (inl none) =
      let nothing : count_of x (put v t) ≡ 0 = count_named x t k ∙ none in
      omega arith
  covers_at s t h k cov x (inr found) =
      let left : count_of x (put v t) ≡ count_of found.0 t = ap (λ n. count_of n (put v t)) found.2 ∙ count_at found.0 t found.1 k in
      let right : count_of x (put v s) ≡ count_of found.0 s = ap (λ n. count_of n (put v s)) found.2 ∙ count_at found.0 s found.1 h in
      let before = cov found.0 in
      omega arith

  covers_kept : (s t : FoTerm) → Whole s → Whole t → Covers s t → Covers (put v s) (put v t)
  covers_kept s t h k cov x = covers_at s t h k cov x (find_name x (variables_of t) (undone t k))

  -- ---- the order

  size_kept : (t : FoTerm) → Whole t → size_of (put v t) ≡ size_of t
  size_kept t h = sized t (undone t h)

  abbrev AllWhole : List FoTerm → Type 0
  AllWhole ts = map (put w) (map (put v) ts) ≡ ts

  whole_args : (t : FoTerm) (f : ℕ) (args : List FoTerm) → t ≡ Fun f args → Whole t → AllWhole args
  whole_args t f args is h =
      let there : put w (put v (fun f args)) ≡ fun f args = subst Whole is h in
      (fun_same f f (map (put w) (map (put v) args)) args (sym (ap (put w) (put_fun v f args) ∙ put_fun w f (map (put v) args)) ∙ there)).1

  head_whole : {x : FoTerm} {xs : List FoTerm} → AllWhole (x ∷ xs) → Whole x
  head_whole h = cc

  tail_whole : {x : FoTerm} {xs : List FoTerm} → AllWhole (x ∷ xs) → AllWhole xs
  tail_whole h = cc

  mutual
    pub above_kept : {s t : FoTerm} → Whole s → Whole t → Above s t → Above (put v s) (put v t)
    above_kept {s} {t} h k (above cov rank) = above (covers_kept s t h k cov) (rank_kept h k rank)

    rank_kept : {s t : FoTerm} → Whole s → Whole t → Outranks s t → Outranks (put v s) (put v t)
    rank_kept {s} {t} h k (heavier less) = let left = size_kept s h in let right = size_kept t k in heavier (omega arith)
    rank_kept {s} {t} h k (later same f g xs ys is it less) =
        let left = size_kept s h in
        let right = size_kept t k in
        later (omega arith) f g (map (put v) xs) (map (put v) ys) (ap (put v) is ∙ put_fun v f xs) (ap (put v) it ∙ put_fun v g ys) less
    rank_kept {s} {t} h k (first same f xs ys is it rest) =
        let left = size_kept s h in
        let right = size_kept t k in
        first (omega arith) f (map (put v) xs) (map (put v) ys) (ap (put v) is ∙ put_fun v f xs) (ap (put v) it ∙ put_fun v f ys)
        (first_kept (whole_args s f xs is h) (whole_args t f ys it k) rest)

    first_kept : {xs ys : List FoTerm} → AllWhole xs → AllWhole ys → AboveFirst xs ys → AboveFirst (map (put v) xs) (map (put v) ys)
    first_kept h k (here greater) = here (above_kept (head_whole h) (head_whole k) greater)
    first_kept h k (next same rest) = next (ap (put v) same) (first_kept (tail_whole h) (tail_whole k) rest)
