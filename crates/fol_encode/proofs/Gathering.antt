-- The signs of terms, as they are gathered.
use Rattle.std.proofs.Common.{◌≡◌, ℕ, suc, ◌+◌, ◌<◌, List, [], ◌∷◌, ◌++◌, drop, length, get_or, arith, sym, ap, ◌∙◌}
use Rattle.std.specs.List.{flat_map}
use Rattle.std.proofs.Math.Seq.{drop-cons}
use Rattle.std.specs.Prelude.{Result, Ok, Err, OnOk}
use Rattle.std.specs.BTreeSet.{replace_key}
use Rattle.hol_terms.specs.declared.ty.Ty.{Ty}
use Rattle.hol_terms.specs.declared.konst.Konst.{Konst}
use Rattle.hol_terms.specs.declared.sig.Sig.{Sig}
use Rattle.hol_terms.specs.declared.term.Term as term
use Rattle.hol_terms.specs.declared.term.Term.{Term, roll-Term}
use Rattle.hol_terms.specs.declared.term.Term.TheOpen.{Term-F}
use Rattle.hol_terms.specs.declared.term.Term.TheFolds.{fold-roll-Term}
use Rattle.lambda_lift.specs.declared.table.Aux.{Aux}
use Rattle.lambda_lift.proofs.Made.{app_is, lam_is}
use Rattle.fol_encode.specs.declared.sign.Sign.{Sign}
use Rattle.fol_encode.specs.declared.sign.Sign.TheVariants as sign
use Rattle.fol_encode.specs.Signs.{sign_cmp, in_order}
use Rattle.fol_encode.specs.Occurring.{Parts, parts, parts_step, all_signs}
use Rattle.fol_encode.proofs.Placing.{in_order_append}

pub ok_so : {T E P : Type 0} (r : Result T E) → P → OnOk r P
ok_so (Ok x) h = h
ok_so (Err e) h = tt

module _ (sig : Sig) (table : List Aux) (c : List Ty) where
  pub parts_app : (f x : Term) → parts sig table (roll-Term (Term-F.App f x)) c ≡ parts_step sig table (Term-F.App (parts sig table f) (parts sig table x)) c
  parts_app f x = ap (λ g. g c) (fold-roll-Term (List Ty → Parts) (parts_step sig table) (Term-F.App f x))

  pub parts_lam : (a : Ty) (b : Term) → parts sig table (roll-Term (Term-F.Lam a b)) c ≡ parts_step sig table (Term-F.Lam a (parts sig table b)) c
  parts_lam a b = ap (λ g. g c) (fold-roll-Term (List Ty → Parts) (parts_step sig table) (Term-F.Lam a b))

  pub parts_con : (k : Konst) → parts sig table (roll-Term (Term-F.Con k)) c ≡ parts_step sig table (Term-F.Con k) c
  parts_con k = ap (λ g. g c) (fold-roll-Term (List Ty → Parts) (parts_step sig table) (Term-F.Con k))

  pub parts_free : (n : ℕ) (a : Ty) → parts sig table (roll-Term (Term-F.Free n a)) c ≡ parts_step sig table (Term-F.Free n a) c
  parts_free n a = ap (λ g. g c) (fold-roll-Term (List Ty → Parts) (parts_step sig table) (Term-F.Free n a))

  pub signs_app : (t f x : Term) → t ≡ term.App f x → (parts sig table t c).signs ≡ (all_signs (parts sig table f c) ++ all_signs (parts sig table x c)) ++ sign.Apply ∷ []
  signs_app t f x is = ap (λ u. (parts sig table u c).signs) (is ∙ app_is f x) ∙ ap (λ p. p.signs) (parts_app f x)

  pub signs_lam : (t : Term) (a : Ty) (b : Term) → t ≡ term.Lam a b → (parts sig table t c).signs ≡ all_signs (parts sig table b (a ∷ c))
  signs_lam t a b is = ap (λ u. (parts sig table u c).signs) (is ∙ lam_is a b) ∙ ap (λ p. p.signs) (parts_lam a b)

module _ (o : List Sign) (p : Parts) where
  pub tagged_too : (o1 o2 : List Sign) (a : Ty) → o1 ≡ in_order o p.signs → a ≡ p.ty → o2 ≡ in_order o1 (sign.Tag a ∷ []) → o2 ≡ in_order o (all_signs p)
  tagged_too o1 o2 a h1 ha h2 = h2 ∙ (λ i. in_order (h1 i) (sign.Tag (ha i) ∷ [])) ∙ sym (in_order_append o p.signs (sign.Tag p.ty ∷ []))

module _ (o : List Sign) (p q : Parts) where
  pub applied_too : (o1 o2 o3 o4 o5 : List Sign) (a b : Ty) → o1 ≡ in_order o p.signs → a ≡ p.ty → o2 ≡ in_order o1 (sign.Tag a ∷ []) → o3 ≡ in_order o2 q.signs → b ≡ q.ty →
      o4 ≡ in_order o3 (sign.Tag b ∷ []) → o5 ≡ replace_key sign_cmp o4 sign.Apply → o5 ≡ in_order o ((all_signs p ++ all_signs q) ++ sign.Apply ∷ [])
  applied_too o1 o2 o3 o4 o5 a b h1 ha h2 h3 hb h4 h5 =
      let left = tagged_too o p o1 o2 a h1 ha h2 in
      let right = tagged_too o2 q o3 o4 b h3 hb h4 in
      h5 ∙ ap (λ l. replace_key sign_cmp l sign.Apply) (right ∙ ap (λ l. in_order l (all_signs q)) left ∙ sym (in_order_append o (all_signs p) (all_signs q)))
      ∙ sym (in_order_append o (all_signs p ++ all_signs q) (sign.Apply ∷ []))

-- one term more is gathered
pub one_more : {X : Type 0} (f : X → List Sign) (xs : List X) (i : ℕ) (x : X) (old new all : List Sign) → i < length xs → x ≡ get_or xs i x → new ≡ in_order old (f x) → in_order old (flat_map f (drop i xs)) ≡ all →
    in_order new (flat_map f (drop (i + 1) xs)) ≡ all
one_more f xs i x old new all within is made so =
    let next : suc i ≡ i + 1 = omega arith in
    let first : drop i xs ≡ x ∷ drop (i + 1) xs = drop-cons xs i x within ∙ (λ j. sym is j ∷ drop (next j) xs) in
    ap (λ o. in_order o (flat_map f (drop (i + 1) xs))) made ∙ sym (in_order_append old (f x) (flat_map f (drop (i + 1) xs))) ∙ sym (ap (λ l. in_order old (flat_map f l)) first) ∙ so
