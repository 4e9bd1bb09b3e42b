-- Signs that are put in order, each once, are all there.
use Rattle.std.proofs.Common.{◌≡◌, ℕ, zero, suc, ◌+◌, ◌<◌, Bool, true, false, ◌||◌, cond, not, nat_eq, List, [], ◌∷◌, ◌++◌, slice_get, Some, refl, sym, ap, subst, ◌∙◌, arith, if◌then◌else◌}
use Rattle.std.specs.declared.cmp.Ordering.{Ordering}
use Rattle.std.specs.declared.cmp.Ordering.TheVariants.{Less, Equal, Greater}
use Rattle.std.specs.Ordering.{is_eq, match_ordering}
use Rattle.std.specs.List.{list_any, position_or_len, flat_map}
use Rattle.std.specs.Cmp.Lexicographic.{pointwise, bytes_decides}
use Rattle.std.specs.BTreeSet.{replace_key}
use Rattle.std.proofs.lemmas.Map.Text.{is_eq-slice_cmp}
use Rattle.indexmap.specs.IndexSet.{insert_key}
use Rattle.hol_terms.specs.declared.ty.Ty.{Ty}
use Rattle.hol_terms.specs.declared.konst.Konst.{Konst}
use Rattle.hol_terms.specs.declared.konst.Konst.TheVariants as konst
use Rattle.hol_terms.specs.declared.sig.Sig.{Sig}
use Rattle.hol_terms.specs.declared.term.Term.{Term}
use Rattle.hol_terms.specs.declared.term.Term.TheOpen.{Term-F}
use Rattle.hol_terms.specs.declared.term.Term.TheFolds.{fold-roll-Term}
use Rattle.hol_terms.proofs.TermCases.{by_cases}
use Rattle.lambda_lift.specs.declared.table.Aux.{Aux}
use Rattle.lambda_lift.specs.Standing.{Each}
use Rattle.lambda_lift.proofs.KeysApart.{ty_key_told, konst_told}
use Rattle.fol_encode.specs.declared.sign.Sign.{Sign}
use Rattle.fol_encode.specs.declared.sign.Sign.TheVariants as sign
use Rattle.fol_encode.specs.Signs.{class_of, konst_key, sign_key, sign_cmp, in_order, is_sign, once}
use Rattle.fol_encode.specs.Occurring.{Parts, konst_ty, parts, parts_step, all_signs, occurring, signs_for}
use Rattle.fol_encode.specs.Laws.{Covers}

-- ---- truth values
or_swap : (a b c : Bool) → (a || (b || c)) ≡ (b || (a || c))
or_swap true true c = refl
or_swap true false c = refl
or_swap false b c = refl

or_twice : (a b c : Bool) → a ≡ b → (a || c) ≡ (a || (b || c))
or_twice true b c h = refl
or_twice false true c h = cc
or_twice false false c h = refl

or_assoc : (a b c : Bool) → ((a || b) || c) ≡ (a || (b || c))
or_assoc true b c = refl
or_assoc false b c = refl

or_none : (a : Bool) → (a || false) ≡ a
or_none true = refl
or_none false = refl

or_true : (a : Bool) → (a || true) ≡ true
or_true true = refl
or_true false = refl

or_so : (a b : Bool) → (b ≡ true → a ≡ true) → (a || b) ≡ a
or_so true b h = refl
or_so false true h = sym (h refl)
or_so false false h = refl

-- ---- equal keys
same_key : (s t : Sign) → is_sign s t ≡ true → sign_key s ≡ sign_key t
same_key s t h = (bytes_decides (sign_key s) (sign_key t)).0 h

is_itself : (s : Sign) → is_sign s s ≡ true
is_itself s = (bytes_decides (sign_key s) (sign_key s)).1 refl

ordered_same : (s t : Sign) → sign_cmp s t ≡ Equal → sign_key s ≡ sign_key t
ordered_same s t h = (bytes_decides (sign_key s) (sign_key t)).0 (sym (is_eq-slice_cmp (sign_key s) (sign_key t)) ∙ ap is_eq h)

-- ---- what is there
any_append : (s : Sign) (xs ys : List Sign) → list_any (is_sign s) (xs ++ ys) ≡ (list_any (is_sign s) xs || list_any (is_sign s) ys)
any_append s [] ys = refl
any_append s (x ∷ xs) ys = ap (λ b. is_sign s x || b) (any_append s xs ys) ∙ sym (or_assoc (is_sign s x) (list_any (is_sign s) xs) (list_any (is_sign s) ys))

module _ (s : Sign) where
  replaced_by : (t x : Sign) (xs : List Sign) (o : Ordering) → sign_cmp t x ≡ o → list_any (is_sign s) (replace_key sign_cmp xs t) ≡ (is_sign s t || list_any (is_sign s) xs) →
      list_any (is_sign s) (match_ordering o (t ∷ x ∷ xs) (t ∷ xs) (x ∷ replace_key sign_cmp xs t)) ≡ (is_sign s t || (is_sign s x || list_any (is_sign s) xs))
  replaced_by t x xs Less e rest = refl
  replaced_by t x xs Equal e rest = or_twice (is_sign s t) (is_sign s x) (list_any (is_sign s) xs) (ap (pointwise nat_eq (sign_key s)) (ordered_same t x e))
  replaced_by t x xs Greater e rest = ap (λ b. is_sign s x || b) rest ∙ or_swap (is_sign s x) (is_sign s t) (list_any (is_sign s) xs)

  any_replaced : (t : Sign) (xs : List Sign) → list_any (is_sign s) (replace_key sign_cmp xs t) ≡ (is_sign s t || list_any (is_sign s) xs)
  any_replaced t [] = refl
  any_replaced t (x ∷ xs) = replaced_by t x xs (sign_cmp t x) refl (any_replaced t xs)

  any_ordered : (known ss : List Sign) → list_any (is_sign s) (in_order known ss) ≡ (list_any (is_sign s) known || list_any (is_sign s) ss)
  any_ordered known [] = sym (or_none (list_any (is_sign s) known))
  any_ordered known (t ∷ ss) =
      any_ordered (replace_key sign_cmp known t) ss ∙ ap (λ b. b || list_any (is_sign s) ss) (any_replaced t known) ∙ or_assoc (is_sign s t) (list_any (is_sign s) known) (list_any (is_sign s) ss)
      ∙ or_swap (is_sign s t) (list_any (is_sign s) known) (list_any (is_sign s) ss)

  inserted_by : (t : Sign) (known : List Sign) (b : Bool) → list_any (is_sign t) known ≡ b → list_any (is_sign s) (if b then known else known ++ t ∷ []) ≡ (list_any (is_sign s) known || is_sign s t)
  inserted_by t known true h = sym (or_so (list_any (is_sign s) known) (is_sign s t) (λ e. ap (λ k. list_any (λ x. pointwise nat_eq k (sign_key x)) known) (same_key s t e) ∙ h))
  inserted_by t known false h = any_append s known (t ∷ []) ∙ ap (λ b. list_any (is_sign s) known || b) (or_none (is_sign s t))

  any_once : (known ss : List Sign) → list_any (is_sign s) (once known ss) ≡ (list_any (is_sign s) known || list_any (is_sign s) ss)
  any_once known [] = sym (or_none (list_any (is_sign s) known))
  any_once known (t ∷ ss) =
      any_once (insert_key is_sign known t) ss ∙ ap (λ b. b || list_any (is_sign s) ss) (inserted_by t known (list_any (is_sign t) known) refl)
      ∙ or_assoc (list_any (is_sign s) known) (is_sign s t) (list_any (is_sign s) ss)

  any_all : (ss : List Sign) → list_any (is_sign s) (once [] (in_order [] ss)) ≡ list_any (is_sign s) ss
  any_all ss = any_once [] (in_order [] ss) ∙ any_ordered [] ss

-- ---- a constant's sign has the constant's type, so signs of one key are one
module _ (sig : Sig) (table : List Aux) where
  abbrev Own : Sign → Type 0
  Own (sign.Tag a) = Unit {0}
  Own sign.Apply = Unit {0}
  Own (sign.Constant k a) = a ≡ konst_ty sig table k

  abbrev AllOwn : List Sign → Type 0
  AllOwn [] = Unit {0}
  AllOwn (s ∷ ss) = Own s × AllOwn ss

  heads : (m n : ℕ) (r q : List ℕ) → m ∷ r ≡ n ∷ q → m ≡ n
  heads m n r q h = cc

  tails : (m n : ℕ) (r q : List ℕ) → m ∷ r ≡ n ∷ q → r ≡ q
  tails m n r q h = cc

  not_low : (k : Konst) (n : ℕ) → n < 2 → n ≡ class_of k → ⊥
  not_low (konst.Named m) n l h = absurd (omega arith)
  not_low (konst.Aux m) n l h = absurd (omega arith)
  not_low konst.True n l h = absurd (omega arith)
  not_low konst.False n l h = absurd (omega arith)
  not_low konst.Not n l h = absurd (omega arith)
  not_low konst.And n l h = absurd (omega arith)
  not_low konst.Or n l h = absurd (omega arith)
  not_low konst.Imp n l h = absurd (omega arith)
  not_low (konst.Eq a) n l h = absurd (omega arith)
  not_low (konst.All a) n l h = absurd (omega arith)
  not_low (konst.Ex a) n l h = absurd (omega arith)
  not_low (konst.Eps a) n l h = absurd (omega arith)

  one_konst : (k j : Konst) → konst_key k ≡ konst_key j → k ≡ j
  one_konst k j h = (konst_told k j [] [] (ap (λ l. (2 ∷ l) ++ []) (tails _ _ _ _ h))).0

  one_sign : (s t : Sign) → Own s → Own t → sign_key s ≡ sign_key t → s ≡ t
  one_sign (sign.Tag a) (sign.Tag b) hs ht h = ap sign.Tag (ty_key_told a b (tails 0 0 _ _ h))
  one_sign (sign.Tag a) sign.Apply hs ht h = absurd (let e : 0 ≡ 1 = heads 0 1 _ _ h in omega arith)
  one_sign (sign.Tag a) (sign.Constant j b) hs ht h = absurd (not_low j 0 (omega arith) (heads 0 (class_of j) _ _ h))
  one_sign sign.Apply (sign.Tag b) hs ht h = absurd (let e : 1 ≡ 0 = heads 1 0 _ _ h in omega arith)
  one_sign sign.Apply sign.Apply hs ht h = refl
  one_sign sign.Apply (sign.Constant j b) hs ht h = absurd (not_low j 1 (omega arith) (heads 1 (class_of j) _ _ h))
  one_sign (sign.Constant k a) (sign.Tag b) hs ht h = absurd (not_low k 0 (omega arith) (sym (heads (class_of k) 0 _ _ h)))
  one_sign (sign.Constant k a) sign.Apply hs ht h = absurd (not_low k 1 (omega arith) (sym (heads (class_of k) 1 _ _ h)))
  one_sign (sign.Constant k a) (sign.Constant j b) hs ht h =
      let same = one_konst k j h in (λ i. sign.Constant (same i) ((hs ∙ ap (konst_ty sig table) same ∙ sym ht) i))

  -- ---- such signs stay such
  own_append : (xs ys : List Sign) → AllOwn xs → AllOwn ys → AllOwn (xs ++ ys)
  own_append [] ys hx hy = hy
  own_append (x ∷ xs) ys hx hy = (hx.0, own_append xs ys hx.1 hy)

  own_by : (t x : Sign) (xs : List Sign) (o : Ordering) → Own t → AllOwn (x ∷ xs) → AllOwn (replace_key sign_cmp xs t) → AllOwn (match_ordering o (t ∷ x ∷ xs) (t ∷ xs) (x ∷ replace_key sign_cmp xs t))
  own_by t x xs Less ht h rest = (ht, h)
  own_by t x xs Equal ht h rest = (ht, h.1)
  own_by t x xs Greater ht h rest = (h.0, rest)

  own_replaced : (t : Sign) (xs : List Sign) → Own t → AllOwn xs → AllOwn (replace_key sign_cmp xs t)
  own_replaced t [] ht h = (ht, tt)
  own_replaced t (x ∷ xs) ht h = own_by t x xs (sign_cmp t x) ht h (own_replaced t xs ht h.1)

  own_ordered : (known ss : List Sign) → AllOwn known → AllOwn ss → AllOwn (in_order known ss)
  own_ordered known [] hk hs = hk
  own_ordered known (t ∷ ss) hk hs = own_ordered (replace_key sign_cmp known t) ss (own_replaced t known hs.0 hk) hs.1

  own_inserted : (t : Sign) (known : List Sign) (b : Bool) → Own t → AllOwn known → AllOwn (if b then known else known ++ t ∷ [])
  own_inserted t known true ht h = h
  own_inserted t known false ht h = own_append known (t ∷ []) h (ht, tt)

  own_once : (known ss : List Sign) → AllOwn known → AllOwn ss → AllOwn (once known ss)
  own_once known [] hk hs = hk
  own_once known (t ∷ ss) hk hs = own_once (insert_key is_sign known t) ss (own_inserted t known (list_any (is_sign t) known) hs.0 hk) hs.1

  -- ---- a sign that is there has its place
  place_step : (s x : Sign) (xs : List Sign) (b : Bool) → is_sign s x ≡ b → Own s → Own x → (b || list_any (is_sign s) xs) ≡ true → (list_any (is_sign s) xs ≡ true → slice_get xs (position_or_len (is_sign s) xs) ≡ Some s) →
      slice_get (x ∷ xs) (cond (not b) (1 + position_or_len (is_sign s) xs) 0) ≡ Some s
  place_step s x xs true e hs hx any rest = ap Some (sym (one_sign s x hs hx (same_key s x e)))
  place_step s x xs false e hs hx any rest =
      let next : 1 + position_or_len (is_sign s) xs ≡ suc (position_or_len (is_sign s) xs) = omega arith in ap (slice_get (x ∷ xs)) next ∙ rest any

  placed : (s : Sign) (xs : List Sign) → Own s → AllOwn xs → list_any (is_sign s) xs ≡ true → slice_get xs (position_or_len (is_sign s) xs) ≡ Some s
  placed s [] hs h any = cc
  placed s (x ∷ xs) hs h any = place_step s x xs (is_sign s x) refl hs h.0 any (placed s xs hs h.1)

  covered : (signs ss : List Sign) → AllOwn signs → AllOwn ss → ((s : Sign) → list_any (is_sign s) ss ≡ true → list_any (is_sign s) signs ≡ true) → Covers signs ss
  covered signs [] hk hs within = tt
  covered signs (s ∷ ss) hk hs within = (
    placed s signs hs.0 hk (within s (ap (λ b. b || list_any (is_sign s) ss) (is_itself s))),
    covered signs ss hk hs.1 (λ t h. within t (ap (λ b. is_sign t s || b) h ∙ or_true (is_sign t s))),
  )

  -- ---- the signs of terms
  own_below : (t : Term) (c : List Ty) → AllOwn (parts sig table t c).signs
  own_below =
      by_cases (λ t. (c : List Ty) → AllOwn (parts sig table t c).signs)
      (λ i c. subst (λ p. AllOwn p.signs) (sym (ap (λ g. g c) (fold-roll-Term (List Ty → Parts) (parts_step sig table) (Term-F.Bound i)))) tt)
      (λ n a c. subst (λ p. AllOwn p.signs) (sym (ap (λ g. g c) (fold-roll-Term (List Ty → Parts) (parts_step sig table) (Term-F.Free n a)))) tt)
      (λ k c. subst (λ p. AllOwn p.signs) (sym (ap (λ g. g c) (fold-roll-Term (List Ty → Parts) (parts_step sig table) (Term-F.Con k)))) (refl, tt))
      (λ f x hf hx c.
      subst (λ p. AllOwn p.signs) (sym (ap (λ g. g c) (fold-roll-Term (List Ty → Parts) (parts_step sig table) (Term-F.App f x))))
      (own_append (all_signs (parts sig table f c) ++ all_signs (parts sig table x c)) (sign.Apply ∷ [])
      (own_append (all_signs (parts sig table f c)) (all_signs (parts sig table x c)) (tagged_own (parts sig table f c) (hf c)) (tagged_own (parts sig table x c) (hx c))) (tt, tt)))
      (λ a b hb c. subst (λ p. AllOwn p.signs) (sym (ap (λ g. g c) (fold-roll-Term (List Ty → Parts) (parts_step sig table) (Term-F.Lam a b)))) (tagged_own (parts sig table b (a ∷ c)) (hb (a ∷ c))))
    where
      tagged_own : (p : Parts) → AllOwn p.signs → AllOwn (all_signs p)
      tagged_own p h = own_append p.signs (sign.Tag p.ty ∷ []) h (tt, tt)

  own_term : (t : Term) → AllOwn (occurring sig table t)
  own_term t = let p = parts sig table t [] in own_append p.signs (sign.Tag p.ty ∷ []) (own_below t []) (tt, tt)

  own_terms : (ts : List Term) → AllOwn (flat_map (occurring sig table) ts)
  own_terms [] = tt
  own_terms (t ∷ ts) = own_append (occurring sig table t) (flat_map (occurring sig table) ts) (own_term t) (own_terms ts)

  among : (ts : List Term) (i : ℕ) (t : Term) → slice_get ts i ≡ Some t → (s : Sign) → list_any (is_sign s) (occurring sig table t) ≡ true → list_any (is_sign s) (flat_map (occurring sig table) ts) ≡ true
  among [] i t e s h = cc
  among (u ∷ ts) zero t e s h =
      let same : u ≡ t = cc in
      any_append s (occurring sig table u) (flat_map (occurring sig table) ts)
      ∙ ap (λ b. b || list_any (is_sign s) (flat_map (occurring sig table) ts)) (ap (λ v. list_any (is_sign s) (occurring sig table v)) same ∙ h)
  among (u ∷ ts) (suc i) t e s h =
      any_append s (occurring sig table u) (flat_map (occurring sig table) ts) ∙ ap (λ b. list_any (is_sign s) (occurring sig table u) || b) (among ts i t e s h) ∙ or_true (list_any (is_sign s) (occurring sig table u))

  pub signs_cover : (ts : List Term) → Each (λ t. Covers (signs_for sig table ts) (occurring sig table t)) ts
  signs_cover ts i t e =
      let all = flat_map (occurring sig table) ts in
      covered (signs_for sig table ts) (occurring sig table t) (own_once [] (in_order [] all) tt (own_ordered [] all tt (own_terms ts))) (own_term t) (λ s h. any_all s all ∙ among ts i t e s h)
