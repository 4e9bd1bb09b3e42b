-- Laws of the order, by its rules.
use Rattle.std.proofs.Common.{◌≡◌, ◌≢◌, ℕ, ◌+◌, ◌<◌, ◌≤◌, List, [], ◌∷◌, drop, length, get_or, sym, ap, subst, ◌∙◌, arith, length-drop}
use Rattle.std.proofs.lemmas.List.{drop_more, drop_all}
use Rattle.fo_terms.specs.declared.term.FoTerm.{FoTerm, Fun, Var}
use Rattle.fo_terms.specs.Weight.{size_of, capped}
use Rattle.fo_terms.proofs.Heads.{fun_same, fun_no_var, var_same}
use Rattle.fo_order.specs.declared.comparing.Order.{Order}
use Rattle.fo_order.specs.declared.comparing.Order.TheVariants.{Less, Equal, Greater, Unknown}
use Rattle.fo_order.specs.Counts.{Covers}
use Rattle.fo_order.specs.KnuthBendix.{Above, Outranks, AboveFirst, above, heavier, later, first, here, next, OrderOf, RankOf, RankOfFirst}

-- ---- no term is greater than itself

mutual
  pub irr : {s t : FoTerm} → Above s t → s ≡ t → ⊥
  irr (above cov rank) e = irr_rank rank e

  pub irr_rank : {s t : FoTerm} → Outranks s t → s ≡ t → ⊥
  irr_rank {s} {t} (heavier less) e = let same : capped (size_of s) ≡ capped (size_of t) = ap (λ u. capped (size_of u)) e in omega arith
  irr_rank (later same f g xs ys is it less) e = let heads = fun_same f g xs ys (sym is ∙ e ∙ it) in omega arith
  irr_rank (first same f xs ys is it rest) e = irr_first rest (fun_same f f xs ys (sym is ∙ e ∙ it)).1

  pub irr_first : {xs ys : List FoTerm} → AboveFirst xs ys → xs ≡ ys → ⊥
  irr_first (here greater) e = irr greater cc
  irr_first (next same rest) e = irr_first rest cc

-- ---- of two terms one alone is greater

rank_le : {s t : FoTerm} → Outranks s t → capped (size_of t) ≤ capped (size_of s)
rank_le (heavier less) = omega arith
rank_le (later same f g xs ys is it less) = omega arith
rank_le (first same f xs ys is it rest) = omega arith

pub covers : {s t : FoTerm} → Above s t → Covers s t
covers (above cov rank) = cov

pub outranks : {s t : FoTerm} → Above s t → Outranks s t
outranks (above cov rank) = rank

mutual
  pub asym : {s t : FoTerm} → Above s t → Above t s → ⊥
  asym (above cov rank) (above cov' rank') = asym_rank rank rank'

  pub asym_rank : {s t : FoTerm} → Outranks s t → Outranks t s → ⊥
  asym_rank (heavier less) back = let bound = rank_le back in omega arith
  asym_rank (later same f g xs ys is it less) (heavier less') = omega arith
  asym_rank (later same f g xs ys is it less) (later same' f' g' xs' ys' is' it' less') =
      let left = fun_same f g' xs ys' (sym is ∙ it') in
      let right = fun_same g f' ys xs' (sym it ∙ is') in
      omega arith
  asym_rank (later same f g xs ys is it less) (first same' f' xs' ys' is' it' rest') =
      let left = fun_same f f' xs ys' (sym is ∙ it') in
      let right = fun_same g f' ys xs' (sym it ∙ is') in
      omega arith
  asym_rank (first same f xs ys is it rest) (heavier less') = omega arith
  asym_rank (first same f xs ys is it rest) (later same' f' g' xs' ys' is' it' less') =
      let left = fun_same f g' xs ys' (sym is ∙ it') in
      let right = fun_same f f' ys xs' (sym it ∙ is') in
      omega arith
  asym_rank (first same f xs ys is it rest) (first same' f' xs' ys' is' it' rest') =
      let left = fun_same f f' xs ys' (sym is ∙ it') in
      let right = fun_same f f' ys xs' (sym it ∙ is') in
      asym_first rest (subst (λ l. AboveFirst l xs) (sym right.1) (subst (λ l. AboveFirst xs' l) (sym left.1) rest'))

  pub asym_first : {xs ys : List FoTerm} → AboveFirst xs ys → AboveFirst ys xs → ⊥
  asym_first (here greater) (here greater') = asym greater greater'
  asym_first (here greater) (next same' rest') = irr greater (sym same')
  asym_first (next same rest) (here greater') = irr greater' (sym same)
  asym_first (next same rest) (next same' rest') = asym_first rest rest'

-- ---- terms of one weight

module _ (s t : FoTerm) (same : capped (size_of t) ≡ capped (size_of s)) where
  -- equal heads: the arguments decide
  module _ (f : ℕ) (xs ys : List FoTerm) (is : s ≡ Fun f xs) (it : t ≡ Fun f ys) where
    args_above : Outranks s t → AboveFirst xs ys
    args_above (heavier less) = absurd (omega arith)
    args_above (later w f' g' xs' ys' is' it' less) =
        let left = fun_same f f' xs xs' (sym is ∙ is') in
        let right = fun_same f g' ys ys' (sym it ∙ it') in
        absurd (omega arith)
    args_above (first w f' xs' ys' is' it' rest) =
        let left = fun_same f f' xs xs' (sym is ∙ is') in
        let right = fun_same f f' ys ys' (sym it ∙ it') in
        subst (λ l. AboveFirst xs l) (sym right.1) (subst (λ l. AboveFirst l ys') (sym left.1) rest)

    args_below : Outranks t s → AboveFirst ys xs
    args_below (heavier less) = absurd (omega arith)
    args_below (later w f' g' xs' ys' is' it' less) =
        let left = fun_same f f' ys xs' (sym it ∙ is') in
        let right = fun_same f g' xs ys' (sym is ∙ it') in
        absurd (omega arith)
    args_below (first w f' xs' ys' is' it' rest) =
        let left = fun_same f f' ys xs' (sym it ∙ is') in
        let right = fun_same f f' xs ys' (sym is ∙ it') in
        subst (λ l. AboveFirst ys l) (sym right.1) (subst (λ l. AboveFirst l ys') (sym left.1) rest)

    pub by_args : (r : Order) → RankOfFirst xs ys r → RankOf s t r
    by_args Less h = first (sym same) f ys xs it is h
    by_args Equal h = is ∙ ap (λ l. Fun f l) h ∙ sym it
    by_args Greater h = first same f xs ys is it h
    by_args Unknown h = (λ e. h.0 (fun_same f f xs ys (sym is ∙ e ∙ it)).1, λ rank. h.1 (args_above rank), λ rank. h.2 (args_below rank))

  pub var_no_rank : (x : ℕ) → s ≡ Var x → Outranks s t → ⊥
  var_no_rank x is (heavier less) = omega arith
  var_no_rank x is (later w f g xs ys is' it less) = fun_no_var f x xs (sym is' ∙ is)
  var_no_rank x is (first w f xs ys is' it rest) = fun_no_var f x xs (sym is' ∙ is)

  pub no_rank_var : (x : ℕ) → t ≡ Var x → Outranks s t → ⊥
  no_rank_var x it (heavier less) = omega arith
  no_rank_var x it (later w f g xs ys is it' less) = fun_no_var g x ys (sym it' ∙ it)
  no_rank_var x it (first w f xs ys is it' rest) = fun_no_var f x ys (sym it' ∙ it)

-- a variable and a term that weighs as much, and isn't the same
pub var_apart : (s t : FoTerm) (x : ℕ) → s ≡ Var x → capped (size_of t) ≡ capped (size_of s) → s ≢ t → RankOf s t Unknown
var_apart s t x is same apart = (apart, var_no_rank s t same x is, no_rank_var t s (sym same) x is)

pub vars_apart : (s t : FoTerm) (x y : ℕ) → s ≡ Var x → t ≡ Var y → x ≢ y → s ≢ t
vars_apart s t x y is it apart e = apart (var_same x y (sym is ∙ e ∙ it))

pub var_no_fun : (s t : FoTerm) (x f : ℕ) (xs : List FoTerm) → s ≡ Var x → t ≡ Fun f xs → s ≢ t
var_no_fun s t x f xs is it e = fun_no_var f x xs (sym it ∙ sym e ∙ is)

pub turned : (s t : FoTerm) → RankOf s t Unknown → RankOf t s Unknown
turned s t h = (λ e. h.0 (sym e), h.2, h.1)

-- ---- variables are counted last

pub confirmed_not : (s t : FoTerm) → Outranks s t → (Covers s t → ⊥) → OrderOf s t Unknown
confirmed_not s t rank bare = (irr_rank rank, λ greater. bare (covers greater), λ less. asym_rank rank (outranks less))

pub confirmed_not_less : (s t : FoTerm) → Outranks t s → (Covers t s → ⊥) → OrderOf s t Unknown
confirmed_not_less s t rank bare = (λ e. irr_rank rank (sym e), λ greater. asym_rank rank (outranks greater), λ less. bare (covers less))

pub unknown_stays : (s t : FoTerm) → RankOf s t Unknown → OrderOf s t Unknown
unknown_stays s t h = (h.0, λ greater. h.1 (outranks greater), λ less. h.2 (outranks less))

-- ---- the first place where two lists differ

no_first : {ys : List FoTerm} → AboveFirst [] ys → ⊥
no_first h = elim h [ ]

no_second : {xs : List FoTerm} → AboveFirst xs [] → ⊥
no_second h = elim h [ ]

first_here : {x y : FoTerm} {xs ys : List FoTerm} → x ≢ y → AboveFirst (x ∷ xs) (y ∷ ys) → Above x y
first_here apart (here greater) = greater
first_here apart (next same rest) = absurd (apart same)

first_next : {x y : FoTerm} {xs ys : List FoTerm} → x ≡ y → AboveFirst (x ∷ xs) (y ∷ ys) → AboveFirst xs ys
first_next e (here greater) = absurd (irr greater e)
first_next e (next same rest) = rest

more : (x y : FoTerm) (xs ys : List FoTerm) → x ≡ y → (r : Order) → RankOfFirst xs ys r → RankOfFirst (x ∷ xs) (y ∷ ys) r
more x y xs ys e Less h = next (sym e) h
more x y xs ys e Equal h = λ i. e i ∷ h i
more x y xs ys e Greater h = next e h
more x y xs ys e Unknown h = (λ whole. h.0 cc, λ greater. h.1 (first_next e greater), λ less. h.2 (first_next (sym e) less))

apart_here : (x y : FoTerm) (xs ys : List FoTerm) → x ≢ y → (r : Order) → OrderOf x y r → RankOfFirst (x ∷ xs) (y ∷ ys) r
apart_here x y xs ys apart Less h = here h
apart_here x y xs ys apart Equal h = absurd (apart h)
apart_here x y xs ys apart Greater h = here h
apart_here x y xs ys apart Unknown h = (λ whole. apart cc, λ greater. h.1 (first_here apart greater), λ less. h.2 (first_here (λ e. apart (sym e)) less))

module _ (xs ys : List FoTerm) (i : ℕ) (so_far : (r : Order) → RankOfFirst (drop i xs) (drop i ys) r → RankOfFirst xs ys r) where
  pub past_second : i < length xs → length ys ≤ i → RankOfFirst xs ys Unknown
  past_second within past =
      let none : drop i ys ≡ [] = drop_all i ys past in
      so_far Unknown (
        λ e. (let size : length (drop i xs) ≡ 0 = ap length (e ∙ none) in omega (arith, length-drop i xs)),
        λ greater. no_second (subst (λ l. AboveFirst (drop i xs) l) none greater),
        λ less. no_first (subst (λ l. AboveFirst l (drop i xs)) none less),
      )

  pub past_first : length xs ≤ i → i < length ys → RankOfFirst xs ys Unknown
  past_first past within =
      let none : drop i xs ≡ [] = drop_all i xs past in
      so_far Unknown (
        λ e. (let size : 0 ≡ length (drop i ys) = ap length (sym none ∙ e) in omega (arith, length-drop i ys)),
        λ greater. no_first (subst (λ l. AboveFirst l (drop i ys)) none greater),
        λ less. no_second (subst (λ l. AboveFirst (drop i ys) l) none less),
      )

  pub past_both : length xs ≤ i → length ys ≤ i → xs ≡ ys
  past_both past past' = so_far Equal (drop_all i xs past ∙ sym (drop_all i ys past'))

  module _ (x y : FoTerm) (in_xs : i < length xs) (in_ys : i < length ys) (at_x : x ≡ get_or xs i x) (at_y : y ≡ get_or ys i y) where
    whole_xs : drop i xs ≡ x ∷ drop (i + 1) xs
    whole_xs = drop_more xs i x in_xs ∙ ap (λ z. z ∷ drop (i + 1) xs) (sym at_x)

    whole_ys : drop i ys ≡ y ∷ drop (i + 1) ys
    whole_ys = drop_more ys i y in_ys ∙ ap (λ z. z ∷ drop (i + 1) ys) (sym at_y)

    from_here : (r : Order) → RankOfFirst (x ∷ drop (i + 1) xs) (y ∷ drop (i + 1) ys) r → RankOfFirst xs ys r
    from_here r h = so_far r (subst (λ l. RankOfFirst l (drop i ys) r) (sym whole_xs) (subst (λ l. RankOfFirst (x ∷ drop (i + 1) xs) l r) (sym whole_ys) h))

    pub at_difference : x ≢ y → (r : Order) → OrderOf x y r → RankOfFirst xs ys r
    at_difference apart r h = from_here r (apart_here x y (drop (i + 1) xs) (drop (i + 1) ys) apart r h)

    pub past_same : x ≡ y → (r : Order) → RankOfFirst (drop (i + 1) xs) (drop (i + 1) ys) r → RankOfFirst xs ys r
    past_same e r h = from_here r (more x y (drop (i + 1) xs) (drop (i + 1) ys) e r h)

-- ---- what is greater than a greater term is greater

along_right : {x y z : FoTerm} → Above x y → y ≡ z → Above x z
along_right {x} greater same = subst (λ w. Above x w) same greater

along_left : {x y z : FoTerm} → x ≡ y → Above y z → Above x z
along_left {x} {y} {z} same greater = subst (λ w. Above w z) (sym same) greater

mutual
  pub trans : {s t u : FoTerm} → Above s t → Above t u → Above s u
  trans (above cov rank) (above cov' rank') = above (λ x. (let left = cov x in let right = cov' x in omega arith)) (trans_rank rank rank')

  pub trans_rank : {s t u : FoTerm} → Outranks s t → Outranks t u → Outranks s u
  trans_rank (heavier less) right = let bound = rank_le right in heavier (omega arith)
  trans_rank (later same f g xs ys is it less) (heavier less') = heavier (omega arith)
  trans_rank (later same f g xs ys is it less) (later same' f' g' xs' ys' is' it' less') =
      let heads = fun_same g f' ys xs' (sym it ∙ is') in
      later (omega arith) f g' xs ys' is it' (omega arith)
  trans_rank (later same f g xs ys is it less) (first same' f' xs' ys' is' it' rest') =
      let heads = fun_same g f' ys xs' (sym it ∙ is') in
      later (omega arith) f f' xs ys' is it' (omega arith)
  trans_rank (first same f xs ys is it rest) (heavier less') = heavier (omega arith)
  trans_rank (first same f xs ys is it rest) (later same' f' g' xs' ys' is' it' less') =
      let heads = fun_same f f' ys xs' (sym it ∙ is') in
      later (omega arith) f g' xs ys' is it' (omega arith)
  trans_rank (first same f xs ys is it rest) (first same' f' xs' ys' is' it' rest') =
      let heads = fun_same f f' ys xs' (sym it ∙ is') in
      first (omega arith) f xs ys' is (it' ∙ ap (λ h. Fun h ys') (sym heads.0)) (trans_first rest (subst (λ l. AboveFirst l ys') (sym heads.1) rest'))

  pub trans_first : {xs ys zs : List FoTerm} → AboveFirst xs ys → AboveFirst ys zs → AboveFirst xs zs
  trans_first (here greater) (here greater') = here (trans greater greater')
  trans_first (here greater) (next same' rest') = here (along_right greater same')
  trans_first (next same rest) (here greater') = here (along_left same greater')
  trans_first (next same rest) (next same' rest') = next (same ∙ same') (trans_first rest rest')
