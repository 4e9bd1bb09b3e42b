-- Sets of names, as trees that are searched in the order of bytes.
use Rattle.std.proofs.Common.{◌≡◌, ℕ, Bool, true, false, cond, ◌||◌, List, [], ◌∷◌, ◌++◌, refl, sym, ap, subst, ◌∙◌, Vec, Global}
use Rattle.std.specs.Prelude.{Option, Some, None, is_some}
use Rattle.std.specs.List.{list_any}
use Rattle.std.specs.Ordering.{is_eq, nat_cmp}
use Rattle.std.specs.Cmp.Lexicographic.{slice_cmp}
use Rattle.std.specs.Str.{bytes_eq}
use Rattle.std.specs.BTreeMap.{BTreeMap, get_by, UpdatesBy}
use Rattle.std.specs.Map.{lookup, IsKeyTest, AreApart, KeepsOthers}
use Rattle.std.proofs.lemmas.Cmp.{nat_list_cmp_total, nat_list_eq_equiv, eq_by_cmp_equiv}
use Rattle.std.proofs.lemmas.Map.Text.{is_eq-slice_cmp}
use Rattle.std.proofs.lemmas.Slice.Eq.{bytes_eq-Decides}
use Rattle.std.proofs.lemmas.List.Folds.{list_any-append}
use Rattle.tstp_print.specs.inner.Tables.{Holds}

abbrev by_cmp : List ℕ → List ℕ → Bool
by_cmp name k = is_eq (slice_cmp nat_cmp name k)

unlike : (bs cs ks : List ℕ) → bytes_eq bs cs ≡ false → bytes_eq bs ks ≡ true → bytes_eq cs ks ≡ false
unlike bs cs ks n y = nat_list_eq_equiv.symm cs ks ∙ sym (nat_list_eq_equiv.congr bs ks cs y) ∙ n

unlike_in_order : (bs cs ks : List ℕ) → bytes_eq bs cs ≡ false → by_cmp bs ks ≡ true → by_cmp cs ks ≡ false
unlike_in_order bs cs ks n y = is_eq-slice_cmp cs ks ∙ unlike bs cs ks n (sym (is_eq-slice_cmp bs ks) ∙ y)

module _ {X : Type 0} where
  others : (eq : Vec ℕ Global → Vec ℕ Global → Bool) (test : Vec ℕ Global → Bool) (old new : List (Vec ℕ Global × X)) → KeepsOthers eq test old new → (other : Vec ℕ Global → Bool) → IsKeyTest eq other →
      AreApart test other → lookup other new ≡ lookup other old
  unfolding KeepsOthers
  others eq test old new h = h

  abbrev named : BTreeMap (Vec ℕ Global) X → List ℕ → Option X
  named m name = get_by (λ k. slice_cmp nat_cmp name k.items) m

  -- what a map from names finds once something is put at a name
  pub found_after : (m n : BTreeMap (Vec ℕ Global) X) (key : List ℕ) (w : Option X) →
      UpdatesBy (λ x y. slice_cmp nat_cmp x.items y.items) (λ k. slice_cmp nat_cmp key k.items) m n w → (name : List ℕ) → named n name ≡ cond (bytes_eq key name) w (named m name)
  found_after m n key w h name = by (bytes_eq key name) refl
    where
      by : (b : Bool) → bytes_eq key name ≡ b → named n name ≡ cond b w (named m name)
      by true e = subst (λ l. named n l ≡ w) ((bytes_eq-Decides key name).0 e) h.1
      by false e = others _ _ m.entries n.entries h.3 (λ k. by_cmp name k.items) (λ x y. (eq_by_cmp_equiv nat_list_cmp_total).congr name x.items y.items) (λ k. unlike_in_order key name k.items e)

put_by : {X : Type 0} (b a : Bool) (w : X) (o : Option X) → is_some o ≡ a → is_some (cond b (Some w) o) ≡ (a || (b || false))
put_by true true w o e = refl
put_by true false w o e = refl
put_by false true w o e = e
put_by false false w o e = e

-- a name more in a set
pub holds_added : (m n : BTreeMap (Vec ℕ Global) (Unit {0})) (key : List ℕ) → UpdatesBy (λ x y. slice_cmp nat_cmp x.items y.items) (λ k. slice_cmp nat_cmp key k.items) m n (Some tt) →
    (names : List (List ℕ)) → Holds m names → Holds n (names ++ key ∷ [])
holds_added m n key h names old = λ name.
    ap is_some (found_after m n key (Some tt) h name) ∙
    put_by (bytes_eq key name) (list_any (λ k. bytes_eq k name) names) tt (named m name) (old name) ∙
    sym (list_any-append (λ k. bytes_eq k name) names (key ∷ []))
