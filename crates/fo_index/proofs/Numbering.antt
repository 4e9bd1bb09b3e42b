-- Lists that are found by their numbers, when one is added or gets one place more.
use Rattle.std.proofs.Common.{◌≡◌, ℕ, ◌+◌, ◌<◌, Bool, true, false, cond, List, [], ◌∷◌, ◌++◌, length, get_or, set, refl, sym, ap, ◌∙◌, subst, arith, length-append, get_or-set_same, get_or-set_other, Vec, Global}
use Rattle.std.specs.Prelude.{Option, Some, None, Contains, ◌==◌, OnOk, OnErr}
use Rattle.std.specs.declared.result.Result.{Result}
use Rattle.std.specs.declared.result.Result.TheVariants.{Ok, Err}
use Rattle.std.proofs.lemmas.Option.{get_or_from_slice_get, slice_get_read}
use Rattle.std.specs.Ordering.{nat_cmp, is_eq}
use Rattle.std.specs.Cmp.Lexicographic.{slice_cmp}
use Rattle.std.specs.Str.{bytes_eq}
use Rattle.std.specs.BTreeMap.{BTreeMap, get_by, UpdatesBy}
use Rattle.std.specs.Map.{lookup, IsKeyTest, AreApart, KeepsOthers}
use Rattle.std.proofs.lemmas.Bool.{eqb-true, eqb-false}
use Rattle.std.proofs.lemmas.Cmp.{nat_list_cmp_total, nat_list_eq_equiv, eq_by_cmp_equiv}
use Rattle.std.proofs.lemmas.Map.Text.{is_eq-slice_cmp}
use Rattle.std.proofs.lemmas.Slice.Eq.{bytes_eq-Decides}
use Rattle.std.proofs.lemmas.List.Elements.{Contains-append_left, Contains-append_right}
use Rattle.std.proofs.Math.ListN.{get_or-append}
use Rattle.std.proofs.Math.Seq.{get_or-append_seam}
use Rattle.fo_index.specs.inner.Numbered.{list_of}

abbrev by_cmp : List ℕ → List ℕ → Bool
by_cmp name k = is_eq (slice_cmp nat_cmp name k)

unlike : (bs cs ks : List ℕ) → bytes_eq bs cs ≡ false → bytes_eq bs ks ≡ true → bytes_eq cs ks ≡ false
unlike bs cs ks n y = nat_list_eq_equiv.symm cs ks ∙ sym (nat_list_eq_equiv.congr bs ks cs y) ∙ n

unlike_in_order : (bs cs ks : List ℕ) → bytes_eq bs cs ≡ false → by_cmp bs ks ≡ true → by_cmp cs ks ≡ false
unlike_in_order bs cs ks n y = is_eq-slice_cmp cs ks ∙ unlike bs cs ks n (sym (is_eq-slice_cmp bs ks) ∙ y)

module _ {X : Type 0} where
  others : (eq : Vec ℕ Global → Vec ℕ Global → Bool) (test : Vec ℕ Global → Bool) (old new : List (Vec ℕ Global × X)) → KeepsOthers eq test old new → (other : Vec ℕ Global → Bool) → IsKeyTest eq other →
      AreApart test other → lookup other new ≡ lookup other old
  unfolding KeepsOthers
  others eq test old new h = h

  abbrev pub named : BTreeMap (Vec ℕ Global) X → List ℕ → Option X
  named m name = get_by (λ k. slice_cmp nat_cmp name k.items) m

  -- what a map finds once something is put at a list of symbols
  pub found_after : (m n : BTreeMap (Vec ℕ Global) X) (key : List ℕ) (w : Option X) →
      UpdatesBy (λ x y. slice_cmp nat_cmp x.items y.items) (λ k. slice_cmp nat_cmp key k.items) m n w → (name : List ℕ) → named n name ≡ cond (bytes_eq key name) w (named m name)
  found_after m n key w h name = by (bytes_eq key name) refl
    where
      by : (b : Bool) → bytes_eq key name ≡ b → named n name ≡ cond b w (named m name)
      by true e = subst (λ l. named n l ≡ w) ((bytes_eq-Decides key name).0 e) h.1
      by false e = others _ _ m.entries n.entries h.3 (λ k. by_cmp name k.items) (λ x y. (eq_by_cmp_equiv nat_list_cmp_total).congr name x.items y.items) (λ k. unlike_in_order key name k.items e)

none-contained : (k : ℕ) → Contains (let none : List ℕ = [] in none) k → ⊥
none-contained k c = omega (arith, c.1)

pub itself : (place : ℕ) → Contains (place ∷ []) place
itself place = (0, omega arith, refl)

list-stays : (lists : List (List ℕ)) (list : List ℕ) (o : Option ℕ) → ((n : ℕ) → o ≡ Some n → n < length lists) → list_of (lists ++ list ∷ []) o ≡ list_of lists o
list-stays lists list None known = refl
list-stays lists list (Some n) known = get_or-append lists (list ∷ []) [] n (known n refl)

module _ (m n : BTreeMap (Vec ℕ Global) ℕ) (lists : List (List ℕ)) (key list : List ℕ) (absent : named m key ≡ None)
    (known : (q : List ℕ) (k : ℕ) → named m q ≡ Some k → k < length lists)
    (updates : UpdatesBy (λ x y. slice_cmp nat_cmp x.items y.items) (λ k. slice_cmp nat_cmp key k.items) m n (Some (length lists))) where
  opened-grows-step : (b : Bool) (q : List ℕ) (k : ℕ) → bytes_eq key q ≡ b → named n q ≡ cond b (Some (length lists)) (named m q) → Contains (list_of lists (named m q)) k
      → Contains (list_of (lists ++ list ∷ []) (named n q)) k
  opened-grows-step true q k same found c =
      let is = (bytes_eq-Decides key q).0 same in
      let none : named m q ≡ None = ap (λ l. named m l) (sym is) ∙ absent in
      let P : Option ℕ → Type 0 = λ o. Contains (list_of lists o) k in
      absurd (none-contained k (subst P none c))
  opened-grows-step false q k same found c =
      let P : List ℕ → Type 0 = λ l. Contains l k in
      subst P (sym (ap (list_of (lists ++ list ∷ [])) found ∙ list-stays lists list (named m q) (known q))) c

  pub opened-grows : (q : List ℕ) (k : ℕ) → Contains (list_of lists (named m q)) k → Contains (list_of (lists ++ list ∷ []) (named n q)) k
  opened-grows q k c = opened-grows-step (bytes_eq key q) q k refl (found_after m n key (Some (length lists)) updates q) c

  pub opened-holds : list_of (lists ++ list ∷ []) (named n key) ≡ list
  opened-holds = ap (list_of (lists ++ list ∷ [])) updates.1 ∙ get_or-append_seam lists list [] []

  opened-known-step : (b : Bool) (q : List ℕ) (k : ℕ) → named n q ≡ cond b (Some (length lists)) (named m q) → named n q ≡ Some k → k < length lists + 1
  opened-known-step true q k found is = (let e : length lists ≡ k = cc in omega arith)
  opened-known-step false q k found is = (let lt = known q k (sym found ∙ is) in omega (arith, lt))

  pub opened-known : (q : List ℕ) (k : ℕ) → named n q ≡ Some k → k < length (lists ++ list ∷ [])
  opened-known q k is =
      let lt = opened-known-step (bytes_eq key q) q k (found_after m n key (Some (length lists)) updates q) is in
      omega (arith, lt, length-append lists (list ∷ []))

grows-step : (b : Bool) (lists : List (List ℕ)) (n i k : ℕ) (list : List ℕ) → (i == n) ≡ b → n < length lists → ((j : ℕ) → Contains (get_or lists n []) j → Contains list j) → Contains (get_or lists i []) k
    → Contains (get_or (set lists n list) i []) k
grows-step true lists n i k list is within more c =
    let e = eqb-true i n is in
    let P : List ℕ → Type 0 = λ l. Contains l k in
    let Q : ℕ → Type 0 = λ j. Contains (get_or lists j []) k in
    subst P (sym (ap (λ j. get_or (set lists n list) j []) e ∙ get_or-set_same lists n list [] within)) (more k (subst Q e c))
grows-step false lists n i k list is within more c =
    let P : List ℕ → Type 0 = λ l. Contains l k in
    subst P (sym (get_or-set_other lists n i list [] (eqb-false i n is))) c

-- a list gets more places
pub pushed-grows : (lists : List (List ℕ)) (n : ℕ) (list : List ℕ) (o : Option ℕ) (k : ℕ) → n < length lists → ((j : ℕ) → Contains (get_or lists n []) j → Contains list j) → Contains (list_of lists o) k
    → Contains (list_of (set lists n list) o) k
pushed-grows lists n list None k within more c = c
pushed-grows lists n list (Some i) k within more c = grows-step (i == n) lists n i k list refl within more c

pub pushed-is : (lists : List (List ℕ)) (n : ℕ) (list : List ℕ) (o : Option ℕ) → o ≡ Some n → n < length lists → list_of (set lists n list) o ≡ list
pushed-is lists n list o o_is within = ap (list_of (set lists n list)) o_is ∙ get_or-set_same lists n list [] within

-- what stands at a place in range, whatever is taken for one out of range
pub held : (lists : List (List ℕ)) (n : ℕ) (x : List ℕ) → n < length lists → x ≡ get_or lists n x → get_or lists n [] ≡ x
held lists n x within is = get_or_from_slice_get lists n x [] (slice_get_read lists (length lists) n x refl within is)

-- a push that may be refused
pub push-grows : {E : Type 0} (r : Result (Unit {0}) E) (old now : List ℕ) (place : ℕ) → OnOk r (now ≡ old ++ place ∷ []) → OnErr r (now ≡ old) → (j : ℕ) → Contains old j → Contains now j
push-grows (Ok u) old now place ok err j c = (let P : List ℕ → Type 0 = λ l. Contains l j in subst P (sym ok) (Contains-append_left old (place ∷ []) j c))
push-grows (Err e) old now place ok err j c = (let P : List ℕ → Type 0 = λ l. Contains l j in subst P (sym err) c)

pub push-holds : {E : Type 0} (r : Result (Unit {0}) E) (old now kept : List ℕ) (place : ℕ) → kept ≡ now → OnOk r (now ≡ old ++ place ∷ []) → OnOk r (Contains kept place)
push-holds (Ok u) old now kept place is ok = (let P : List ℕ → Type 0 = λ l. Contains l place in subst P (sym (is ∙ ok)) (Contains-append_right old (place ∷ []) place (itself place)))
push-holds (Err e) old now kept place is ok = tt
