-- Signs that are put at their places.
use Rattle.std.proofs.Common.{◌≡◌, ℕ, List, [], ◌∷◌, ◌++◌, map, refl, sym, ap, ◌∙◌}
use Rattle.std.specs.declared.cmp.Ordering.{Ordering}
use Rattle.std.specs.declared.cmp.Ordering.TheVariants.{Less, Equal, Greater}
use Rattle.std.specs.Ordering.{nat_cmp, is_eq, match_ordering}
use Rattle.std.specs.Cmp.Lexicographic.{slice_cmp, bytes_decides}
use Rattle.std.specs.Map.{keys_of, values_of}
use Rattle.std.specs.BTreeMap.{insert_entry}
use Rattle.std.specs.BTreeSet.{replace_key}
use Rattle.std.proofs.lemmas.Map.Text.{is_eq-slice_cmp}
use Rattle.fol_encode.specs.declared.sign.Sign.{Sign}
use Rattle.fol_encode.specs.Signs.{sign_key, sign_cmp, in_order}

pub in_order_append : (known xs ys : List Sign) → in_order known (xs ++ ys) ≡ in_order (in_order known xs) ys
in_order_append known [] ys = refl
in_order_append known (x ∷ xs) ys = in_order_append (replace_key sign_cmp known x) xs ys

module _ {K : Type 0} (items : K → List ℕ) where
  abbrev pub cmp : K → K → Ordering
  cmp x y = slice_cmp nat_cmp (items x) (items y)

  abbrev pub Agree : List (K × Sign) → Type 0
  Agree es = map items (keys_of es) ≡ map sign_key (values_of es)

  heads : (e : K × Sign) (es : List (K × Sign)) → Agree (e ∷ es) → items e.0 ≡ sign_key e.1
  heads e es h = cc

  tails : (e : K × Sign) (es : List (K × Sign)) → Agree (e ∷ es) → Agree es
  tails e es h = cc

  module _ (k : K) (s : Sign) (is : items k ≡ sign_key s) where
    compare : (e : K × Sign) (es : List (K × Sign)) → Agree (e ∷ es) → cmp k e.0 ≡ sign_cmp s e.1
    compare e es h = (λ i. slice_cmp nat_cmp (is i) (heads e es h i))

    values_by : (e : K × Sign) (es : List (K × Sign)) (o : Ordering) → values_of (insert_entry cmp es k s) ≡ replace_key sign_cmp (values_of es) s →
        values_of (match_ordering o ((k, s) ∷ e ∷ es) ((e.0, s) ∷ es) (e ∷ insert_entry cmp es k s)) ≡ match_ordering o (s ∷ e.1 ∷ values_of es) (s ∷ values_of es) (e.1 ∷ replace_key sign_cmp (values_of es) s)
    values_by e es Less rest = refl
    values_by e es Equal rest = refl
    values_by e es Greater rest = ap (λ l. e.1 ∷ l) rest

    pub placed : (es : List (K × Sign)) → Agree es → values_of (insert_entry cmp es k s) ≡ replace_key sign_cmp (values_of es) s
    placed [] h = refl
    placed (e ∷ es) h =
        (λ i. values_of (match_ordering (compare e es h i) ((k, s) ∷ e ∷ es) ((e.0, s) ∷ es) (e ∷ insert_entry cmp es k s))) ∙ values_by e es (sign_cmp s e.1) (placed es (tails e es h))

    one_key : (e : K × Sign) → sign_cmp s e.1 ≡ Equal → sign_key s ≡ sign_key e.1
    one_key e h = (bytes_decides (sign_key s) (sign_key e.1)).0 (sym (is_eq-slice_cmp (sign_key s) (sign_key e.1)) ∙ ap is_eq h)

    keyed_by : (e : K × Sign) (es : List (K × Sign)) → Agree (e ∷ es) → (o : Ordering) → sign_cmp s e.1 ≡ o → Agree (insert_entry cmp es k s) →
        Agree (match_ordering o ((k, s) ∷ e ∷ es) ((e.0, s) ∷ es) (e ∷ insert_entry cmp es k s))
    keyed_by e es h Less c rest = (λ i. is i ∷ h i)
    keyed_by e es h Equal c rest = (λ i. (heads e es h ∙ sym (one_key e c)) i ∷ tails e es h i)
    keyed_by e es h Greater c rest = (λ i. heads e es h i ∷ rest i)

    pub keyed : (es : List (K × Sign)) → Agree es → Agree (insert_entry cmp es k s)
    keyed [] h = ap (λ l. l ∷ []) is
    keyed (e ∷ es) h = keyed_by e es h (cmp k e.0) (sym (compare e es h)) (keyed es (tails e es h))
