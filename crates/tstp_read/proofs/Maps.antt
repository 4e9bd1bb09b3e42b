-- The map of the search as a table, and its set as names.
use Rattle.std.proofs.Common.{◌≡◌, ◌≢◌, ℕ, ◌+◌, ◌<◌, ◌≤◌, Bool, true, false, List, [], ◌∷◌, ◌++◌, length, refl, sym, ◌∙◌, ap, subst, arith, inl, inr, Option, Some, None}
use Rattle.std.specs.Prelude.{◌⊎◌, Contains, if◌then◌else◌, map}
use Rattle.std.specs.Global.{Vec}
use Rattle.std.specs.Ordering.{nat_cmp, is_eq, match_ordering}
use Rattle.std.specs.declared.cmp.Ordering.{Ordering}
use Rattle.std.specs.declared.cmp.Ordering.TheVariants.{Less, Equal, Greater}
use Rattle.std.specs.Cmp.Lexicographic.{slice_cmp}
use Rattle.std.specs.List.{AllByRecursion}
use Rattle.std.specs.List.Sorted.{IsStrictlySortedBy}
use Rattle.std.specs.Map.{lookup, remove_entry, keys_of}
use Rattle.std.specs.BTreeMap.{insert_entry}
use Rattle.std.specs.BTreeSet.{insert_key}
use Rattle.std.proofs.lemmas.Cmp.{nat_list_cmp_total}
use Rattle.std.proofs.lemmas.Map.Lookups.{exact_bytes}
use Rattle.std.proofs.lemmas.Map.Keys.{sorted_head, sorted_tail}
use Rattle.std.proofs.lemmas.Bool.{cases_Bool}
use Rattle.tstp_read.specs.declared.sources.Parent.{Parent}
use Rattle.tstp_read.specs.inner.Table.{Table, same, look, weight, listed, Puts, Adds, entries_table, keys_names}
use Rattle.tstp_read.proofs.Lists.{none_in, Contains-here, Contains-there, Contains-cons_cases}
use Rattle.tstp_read.proofs.Searching.{same_is, same_self, not_same}

abbrev pub order : Vec ℕ → Vec ℕ → Ordering
order x y = slice_cmp nat_cmp x.items y.items

abbrev pub Entries : Type 0
Entries = List (Vec ℕ × List Parent)

pub look-lookup : (es : Entries) (n : List ℕ) → look (entries_table es) n ≡ lookup (λ k. is_eq (slice_cmp nat_cmp n k.items)) es
look-lookup [] n = refl
look-lookup (e ∷ es) n = ap (λ o. if same n e.0.items then Some e.1 else o) (look-lookup es n)

-- ---- an entry is put

module _ (k : Vec ℕ) (v : List Parent) where
  abbrev put : Entries → Entries
  put es = insert_entry order es k v

  abbrev cases : Ordering → (Vec ℕ × List Parent) → Entries → Entries
  cases o e es = match_ordering o ((k, v) ∷ e ∷ es) ((e.0, v) ∷ es) (e ∷ put es)

  put_here : (es : Entries) → look (entries_table (put es)) k.items ≡ Some v
  put_here [] = ap (λ b. if b then Some v else None) (same_self k.items)
  put_here (e ∷ es) = at (order k e.0) refl (put_here es)
    where
      at : (o : Ordering) → order k e.0 ≡ o → look (entries_table (put es)) k.items ≡ Some v → look (entries_table (cases o e es)) k.items ≡ Some v
      at Less is below = ap (λ b. if b then Some v else look (entries_table (e ∷ es)) k.items) (same_self k.items)
      at Equal is below = ap (λ o. if is_eq o then Some v else look (entries_table es) k.items) is
      at Greater is below = ap (λ o. if is_eq o then Some e.1 else look (entries_table (put es)) k.items) is ∙ below

  put_others : (es : Entries) (m : List ℕ) → m ≢ k.items → look (entries_table (put es)) m ≡ look (entries_table es) m
  put_others [] m apart = ap (λ b. if b then Some v else None) (not_same m k.items apart)
  put_others (e ∷ es) m apart = at (order k e.0) refl (put_others es m apart)
    where
      at : (o : Ordering) → order k e.0 ≡ o → look (entries_table (put es)) m ≡ look (entries_table es) m → look (entries_table (cases o e es)) m ≡ look (entries_table (e ∷ es)) m
      at Less is below = ap (λ b. if b then Some v else look (entries_table (e ∷ es)) m) (not_same m k.items apart)
      at Equal is below =
          let key : k.items ≡ e.0.items = exact_bytes k.items e.0.items is in
          let other : same m e.0.items ≡ false = not_same m e.0.items (λ i. apart (i ∙ sym key)) in
          ap (λ b. if b then Some v else look (entries_table es) m) other ∙ ap (λ b. if b then Some e.1 else look (entries_table es) m) (sym other)
      at Greater is below = ap (λ o. if same m e.0.items then Some e.1 else o) below

  -- a key below all others isn't there
  none_below : (es : Entries) → AllByRecursion (λ y. order k y ≡ Less) (keys_of es) → look (entries_table es) k.items ≡ None
  none_below [] low = refl
  none_below (e ∷ es) low = ap (λ o. if is_eq o then Some e.1 else look (entries_table es) k.items) low.0 ∙ none_below es low.1

  all_below : (x : Vec ℕ) (ks : List (Vec ℕ)) → order k x ≡ Less → AllByRecursion (λ y. order x y ≡ Less) ks → AllByRecursion (λ y. order k y ≡ Less) ks
  all_below x [] less all = tt
  all_below x (y ∷ ks) less all = (nat_list_cmp_total.trans k.items x.items y.items less all.0, all_below x ks less all.1)

  put_weight : (es : Entries) → IsStrictlySortedBy order (keys_of es) →
      weight (entries_table (put es)) + length (listed (look (entries_table es) k.items)) ≤ weight (entries_table es) + length v
  put_weight [] sorted = omega arith
  put_weight (e ∷ es) sorted = at (order k e.0) refl (put_weight es (sorted_tail order e.0 (keys_of es) sorted))
    where
      at : (o : Ordering) → order k e.0 ≡ o →
          weight (entries_table (put es)) + length (listed (look (entries_table es) k.items)) ≤ weight (entries_table es) + length v →
          weight (entries_table (cases o e es)) + length (listed (look (entries_table (e ∷ es)) k.items)) ≤ weight (entries_table (e ∷ es)) + length v
      at Less is below =
          let none : look (entries_table (e ∷ es)) k.items ≡ None =
          ap (λ o. if is_eq o then Some e.1 else look (entries_table es) k.items) is ∙ none_below es (all_below e.0 (keys_of es) is (sorted_head order e.0 (keys_of es) sorted)) in
          let zero_len : length (listed (look (entries_table (e ∷ es)) k.items)) ≡ 0 = ap (λ o. length (listed o)) none in
          omega (arith, zero_len)
      at Equal is below =
          let here : look (entries_table (e ∷ es)) k.items ≡ Some e.1 = ap (λ o. if is_eq o then Some e.1 else look (entries_table es) k.items) is in
          let len : length (listed (look (entries_table (e ∷ es)) k.items)) ≡ length e.1 = ap (λ o. length (listed o)) here in
          omega (arith, len)
      at Greater is below =
          let there : look (entries_table (e ∷ es)) k.items ≡ look (entries_table es) k.items = ap (λ o. if is_eq o then Some e.1 else look (entries_table es) k.items) is in
          let len : length (listed (look (entries_table (e ∷ es)) k.items)) ≡ length (listed (look (entries_table es) k.items)) = ap (λ o. length (listed o)) there in
          omega (arith, len, below)

  pub puts : (es : Entries) → IsStrictlySortedBy order (keys_of es) → (fs : Entries) → fs ≡ insert_entry order es k v → Puts (entries_table es) (entries_table fs) k.items v
  puts es sorted fs is = subst (λ gs. Puts (entries_table es) (entries_table gs) k.items v) (sym is) (record { here = put_here es; others = put_others es; lighter = put_weight es sorted })

-- ---- an entry is taken out

pub taken_others : (n : List ℕ) (es : Entries) (m : List ℕ) → m ≢ n → look (entries_table (remove_entry (λ k. is_eq (slice_cmp nat_cmp n k.items)) es)) m ≡ look (entries_table es) m
taken_others n [] m apart = refl
taken_others n (e ∷ es) m apart = at (same n e.0.items) refl (taken_others n es m apart)
  where
    at : (b : Bool) → same n e.0.items ≡ b →
        look (entries_table (remove_entry (λ k. is_eq (slice_cmp nat_cmp n k.items)) es)) m ≡ look (entries_table es) m →
        look (entries_table (if b then es else e ∷ remove_entry (λ k. is_eq (slice_cmp nat_cmp n k.items)) es)) m ≡ look (entries_table (e ∷ es)) m
    at true is below =
        let key : n ≡ e.0.items = same_is n e.0.items is in
        let other : same m e.0.items ≡ false = not_same m e.0.items (λ i. apart (i ∙ sym key)) in
        ap (λ b. if b then Some e.1 else look (entries_table es) m) (sym other)
    at false is below = ap (λ o. if same m e.0.items then Some e.1 else o) below

-- ---- a name is added

module _ (k : Vec ℕ) where
  abbrev adding : Ordering → Vec ℕ → List (Vec ℕ) → List (Vec ℕ)
  adding o x ks = match_ordering o (k ∷ x ∷ ks) (x ∷ ks) (x ∷ insert_key order ks k)

  adds_here : (ks : List (Vec ℕ)) → Contains (keys_names (insert_key order ks k)) k.items
  adds_here [] = Contains-here k.items []
  adds_here (x ∷ ks) = at (order k x) refl (adds_here ks)
    where
      at : (o : Ordering) → order k x ≡ o → Contains (keys_names (insert_key order ks k)) k.items → Contains (keys_names (adding o x ks)) k.items
      at Less is below = Contains-here k.items (keys_names (x ∷ ks))
      at Equal is below = subst (λ n. Contains (x.items ∷ keys_names ks) n) (sym (exact_bytes k.items x.items is)) (Contains-here x.items (keys_names ks))
      at Greater is below = Contains-there x.items (keys_names (insert_key order ks k)) k.items below

  adds_stays : (ks : List (Vec ℕ)) (m : List ℕ) → Contains (keys_names ks) m → Contains (keys_names (insert_key order ks k)) m
  adds_stays [] m h = absurd (none_in m h)
  adds_stays (x ∷ ks) m h = at (order k x) (adds_stays ks m)
    where
      step : (x.items ≡ m) ⊎ Contains (keys_names ks) m → (Contains (keys_names ks) m → Contains (keys_names (insert_key order ks k)) m) → Contains (x.items ∷ keys_names (insert_key order ks k)) m
      step (inl e) below = subst (λ n. Contains (x.items ∷ keys_names (insert_key order ks k)) n) e (Contains-here x.items (keys_names (insert_key order ks k)))
      step (inr g) below = Contains-there x.items (keys_names (insert_key order ks k)) m (below g)

      at : (o : Ordering) → (Contains (keys_names ks) m → Contains (keys_names (insert_key order ks k)) m) → Contains (keys_names (adding o x ks)) m
      at Less below = Contains-there k.items (keys_names (x ∷ ks)) m h
      at Equal below = h
      at Greater below = step (Contains-cons_cases x.items (keys_names ks) m h) below

  adds_only : (ks : List (Vec ℕ)) (m : List ℕ) → Contains (keys_names (insert_key order ks k)) m → (m ≡ k.items) ⊎ Contains (keys_names ks) m
  adds_only [] m h = first (Contains-cons_cases k.items [] m h)
    where
      first : (k.items ≡ m) ⊎ Contains [] m → (m ≡ k.items) ⊎ Contains [] m
      first (inl e) = inl (sym e)
      first (inr g) = inr g
  adds_only (x ∷ ks) m h = at (order k x) h (adds_only ks m)
    where
      front : (k.items ≡ m) ⊎ Contains (keys_names (x ∷ ks)) m → (m ≡ k.items) ⊎ Contains (keys_names (x ∷ ks)) m
      front (inl e) = inl (sym e)
      front (inr g) = inr g

      behind : (m ≡ k.items) ⊎ Contains (keys_names ks) m → (m ≡ k.items) ⊎ Contains (keys_names (x ∷ ks)) m
      behind (inl e) = inl e
      behind (inr g) = inr (Contains-there x.items (keys_names ks) m g)

      step : (x.items ≡ m) ⊎ Contains (keys_names (insert_key order ks k)) m → (Contains (keys_names (insert_key order ks k)) m → (m ≡ k.items) ⊎ Contains (keys_names ks) m) →
          (m ≡ k.items) ⊎ Contains (keys_names (x ∷ ks)) m
      step (inl e) below = inr (subst (λ n. Contains (keys_names (x ∷ ks)) n) e (Contains-here x.items (keys_names ks)))
      step (inr g) below = behind (below g)

      at : (o : Ordering) → Contains (keys_names (adding o x ks)) m → (Contains (keys_names (insert_key order ks k)) m → (m ≡ k.items) ⊎ Contains (keys_names ks) m) →
          (m ≡ k.items) ⊎ Contains (keys_names (x ∷ ks)) m
      at Less g below = front (Contains-cons_cases k.items (keys_names (x ∷ ks)) m g)
      at Equal g below = inr g
      at Greater g below = step (Contains-cons_cases x.items (keys_names (insert_key order ks k)) m g) below

  pub adds : (ks js : List (Vec ℕ)) → js ≡ insert_key order ks k → Adds (keys_names ks) (keys_names js) k.items
  adds ks js is = subst (λ gs. Adds (keys_names ks) (keys_names gs) k.items) (sym is) (record { here = adds_here ks; stays = adds_stays ks; only = adds_only ks })

-- ---- keys in order are names in order

names_below : (x : Vec ℕ) (ks : List (Vec ℕ)) → AllByRecursion (λ y. order x y ≡ Less) ks → AllByRecursion (λ n. slice_cmp nat_cmp x.items n ≡ Less) (keys_names ks)
names_below x [] all = tt
names_below x (y ∷ ks) all = (all.0, names_below x ks all.1)

pub names_ascend : (ks : List (Vec ℕ)) → IsStrictlySortedBy order ks → IsStrictlySortedBy (slice_cmp nat_cmp) (keys_names ks)
unfolding IsStrictlySortedBy
names_ascend [] sorted = tt
names_ascend (k ∷ ks) sorted = (names_below k ks sorted.0, names_ascend ks sorted.1)
