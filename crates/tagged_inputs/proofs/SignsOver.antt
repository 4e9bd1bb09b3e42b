-- The signs of typed terms are the signature's.
use Rattle.std.proofs.Common.{◌≡◌, ℕ, zero, suc, ◌<◌, Bool, true, false, IsTrue, List, [], ◌∷◌, ◌++◌, slice_get, Some, None, refl, sym, ap, subst, ◌∙◌}
use Rattle.std.specs.Prelude.{Option}
use Rattle.std.specs.Option.{option_map}
use Rattle.std.specs.List.{flat_map}
use Rattle.std.proofs.lemmas.Option.{slice_get-map}
use Rattle.hol_terms.specs.declared.ty.Ty.{Ty, out-Ty}
use Rattle.hol_terms.specs.declared.ty.Ty.TheOpen.{Ty-F}
use Rattle.hol_terms.specs.declared.ty.Ty.TheViews.{out-roll-Ty}
use Rattle.hol_terms.specs.declared.konst.Konst.{Konst}
use Rattle.hol_terms.specs.declared.konst.Konst.TheVariants as konst
use Rattle.hol_terms.specs.declared.sig.Sig.{Sig}
use Rattle.hol_terms.specs.declared.term.Term.{Term, roll-Term}
use Rattle.hol_terms.specs.declared.term.Term.TheOpen.{Term-F}
use Rattle.hol_terms.specs.declared.term.Term.TheFolds.{fold-roll-Term}
use Rattle.hol_terms.specs.Types.{bool_ty, function_ty, ty_fits}
use Rattle.hol_terms.specs.Typing.{type_in, type_of_term}
use Rattle.hol_terms.specs.Formulas.{aux_free, var_free}
use Rattle.hol_terms.proofs.TermCases.{by_cases}
use Rattle.hol_terms.proofs.Both.{both_true}
use Rattle.hol_terms.proofs.TypedParts.{applied_parts, checked_some, own_type_fits}
use Rattle.hol_terms.proofs.Equations.{type-bound, type-free, type-con, type-app, var_free-con}
use Rattle.lambda_lift.specs.declared.table.Aux.{Aux}
use Rattle.lambda_lift.specs.Equations.{result_at}
use Rattle.lambda_lift.specs.Tables.{expand, expanded_konst, expanded_at}
use Rattle.lambda_lift.proofs.Expansions.{expand_con}
use Rattle.hol_clausify.proofs.Standing.{expand_given}
use Rattle.lambda_lift.specs.Standing.{Each, StandsAlone, over}
use Rattle.fol_encode.specs.declared.sign.Sign.{Sign}
use Rattle.fol_encode.specs.declared.sign.Sign.TheVariants as sign
use Rattle.fol_encode.specs.Signs.{symbol_of, symbols_of}
use Rattle.fol_encode.specs.Occurring.{parts, all_signs, occurring, signs_for}
use Rattle.fol_encode.specs.Laws.{lambda_free, lambda_free_step}
use Rattle.fol_encode.proofs.Reading.{konst_ty_is}
use Rattle.fol_encode.proofs.Gathering.{parts_app, parts_con, parts_free}
use Rattle.tagged_terms.specs.declared.symbol.Symbol.{Symbol}
use Rattle.tagged_terms.specs.declared.symbol.Symbol.TheVariants as symbol
use Rattle.tagged_terms.specs.Readings.{signs_of}
use Rattle.hol_lift.specs.Refutations.{AreSignsOver}
use Rattle.tagged_inputs.proofs.SignsHold.{AllGood, good_append, good_all, good_at}

abbrev con : Konst → Term
con k = roll-Term (Term-F.Con k)

module _ (sig : Sig) (table : List Aux) (has_bool : 0 < sig.types) (alone : Each (StandsAlone sig) table) where
  -- a tag's type is the signature's, and a constant's term is closed and has its type
  pub record IsConstant (k : Konst) (a : Ty) : Type 0 where
    pub closed : IsTrue (var_free (expand table (con k)))
    pub typed : type_of_term sig (expand table (con k)) ≡ Some a
    pub without_aux : IsTrue (aux_free (expand table (con k)))

  abbrev pub IsOver : Sign → Type 0
  IsOver (sign.Tag a) = IsTrue (ty_fits sig.types a)
  IsOver sign.Apply = Unit {0}
  IsOver (sign.Constant k a) = IsConstant k a

  entry_closed : (k : ℕ) (o : Option Aux) → slice_get table k ≡ o → IsTrue (var_free (expanded_at k o))
  entry_closed k None e = var_free-con (konst.Aux k)
  entry_closed k (Some e) at = (alone k e at).without_free

  konst_closed : (k : Konst) → IsTrue (var_free (expanded_konst table k))
  konst_closed (konst.Aux k) = entry_closed k (slice_get table k) refl
  konst_closed (konst.Named n) = var_free-con (konst.Named n)
  konst_closed konst.True = var_free-con konst.True
  konst_closed konst.False = var_free-con konst.False
  konst_closed konst.Not = var_free-con konst.Not
  konst_closed konst.And = var_free-con konst.And
  konst_closed konst.Or = var_free-con konst.Or
  konst_closed konst.Imp = var_free-con konst.Imp
  konst_closed (konst.Eq a) = var_free-con (konst.Eq a)
  konst_closed (konst.All a) = var_free-con (konst.All a)
  konst_closed (konst.Ex a) = var_free-con (konst.Ex a)
  konst_closed (konst.Eps a) = var_free-con (konst.Eps a)

  constant_is : (k : Konst) (a : Ty) → type_in (over sig table) (con k) [] ≡ Some a → IsConstant k a
  constant_is k a h =
      let given = expand_given sig table alone (con k) a h in
      record { closed = subst (λ t. IsTrue (var_free t)) (sym (expand_con table k)) (konst_closed k); typed = given.0; without_aux = given.1 }

  -- ---- the signs of a typed term without lambdas
  pub record AreOver (t : Term) (a : Ty) : Type 0 where
    pub below : AllGood IsOver (parts sig table t []).signs
    pub same : (parts sig table t []).ty ≡ a

  abbrev Over : Term → Type 0
  Over t = (a : Ty) → type_in (over sig table) t [] ≡ Some a → IsTrue (lambda_free t) → AreOver t a

  with_tag : (t : Term) (a : Ty) → type_in (over sig table) t [] ≡ Some a → AreOver t a → AllGood IsOver (all_signs (parts sig table t []))
  with_tag t a h is =
      good_append IsOver (parts sig table t []).signs (sign.Tag (parts sig table t []).ty ∷ []) is.below
      (subst (λ b. IsTrue (ty_fits sig.types b)) (sym is.same) (own_type_fits (over sig table) has_bool t a h), tt)

  over_bound : (i : ℕ) → Over (roll-Term (Term-F.Bound i))
  over_bound i a h lam = let none : None ≡ Some a = sym (type-bound (over sig table) i []) ∙ h in cc

  over_free : (n : ℕ) (b : Ty) → Over (roll-Term (Term-F.Free n b))
  over_free n b a h lam =
      let same = (checked_some sig.types b b a (sym (type-free (over sig table) n b []) ∙ h)).1 in
      record { below = subst (λ p. AllGood IsOver p.signs) (sym (parts_free sig table [] n b)) tt; same = ap (λ p. p.ty) (parts_free sig table [] n b) ∙ same }

  over_con : (k : Konst) → Over (con k)
  over_con k a h lam =
      let is = konst_ty_is sig table k a (sym (type-con (over sig table) k []) ∙ h) in
      record {
        below = subst (λ p. AllGood IsOver p.signs) (sym (parts_con sig table [] k)) (subst (IsConstant k) (sym is) (constant_is k a h), tt);
        same = ap (λ p. p.ty) (parts_con sig table [] k) ∙ is;
      }

  result_is : (a b : Ty) → result_at (function_ty a b) (out-Ty (function_ty a b)) ≡ b
  result_is a b = ap (result_at (function_ty a b)) (out-roll-Ty (Ty-F.Arrow a b))

  over_app : (f x : Term) → Over f → Over x → Over (roll-Term (Term-F.App f x))
  over_app f x hf hx a h lam =
      let from = applied_parts (type_in (over sig table) f []) (type_in (over sig table) x []) a (sym (type-app (over sig table) f x []) ∙ h) in
      let both = both_true (lambda_free f) (lambda_free x) (sym (fold-roll-Term Bool lambda_free_step (Term-F.App f x)) ∙ lam) in
      let gf = hf (function_ty from.0 a) from.1.0 both.0 in
      let gx = hx from.0 from.1.1 both.1 in
      let p = all_signs (parts sig table f []) in
      let q = all_signs (parts sig table x []) in
      record {
        below = subst (λ r. AllGood IsOver r.signs) (sym (parts_app sig table [] f x))
            (good_append IsOver (p ++ q) (sign.Apply ∷ []) (good_append IsOver p q (with_tag f (function_ty from.0 a) from.1.0 gf) (with_tag x from.0 from.1.1 gx)) (tt, tt));
        same = ap (λ r. r.ty) (parts_app sig table [] f x) ∙ ap (λ c. result_at c (out-Ty c)) gf.same ∙ result_is from.0 a;
      }

  over_lam : (b : Ty) (t : Term) → Over t → Over (roll-Term (Term-F.Lam b t))
  over_lam b t ht a h lam = let none : false ≡ true = sym (fold-roll-Term Bool lambda_free_step (Term-F.Lam b t)) ∙ lam in cc

  pub are_over : (t : Term) → Over t
  are_over = by_cases Over over_bound over_free over_con over_app over_lam

  -- a term of type bool, without lambdas
  pub record IsAtom (t : Term) : Type 0 where
    pub typed : type_of_term (over sig table) t ≡ Some bool_ty
    pub without_lambda : IsTrue (lambda_free t)

  all_over : (ts : List Term) → Each IsAtom ts → AllGood IsOver (flat_map (occurring sig table) ts)
  all_over [] h = tt
  all_over (t ∷ ts) h =
      let first = h 0 t refl in
      good_append IsOver (occurring sig table t) (flat_map (occurring sig table) ts) (with_tag t bool_ty first.typed (are_over t bool_ty first.typed first.without_lambda))
      (all_over ts (λ i. h (suc i)))

  pub each_over : (ts : List Term) → Each IsAtom ts → Each IsOver (signs_for sig table ts)
  each_over ts h = good_at IsOver (signs_for sig table ts) (good_all IsOver (flat_map (occurring sig table) ts) (all_over ts h))

  -- ---- what they stand for
  module _ (signs : List Sign) (are : Each IsOver signs) where
    abbrev syms : ℕ → Option Symbol
    syms = signs_of (symbols_of table signs)

    -- the sign of a constant
    record FromConstant (d : Term) (a : Ty) : Type 0 where
      konst : Konst
      is : expand table (con konst) ≡ d
      good : IsConstant konst a

    stood : (f : ℕ) (y : Symbol) → syms f ≡ Some y → option_map (symbol_of table) (slice_get signs f) ≡ Some y
    stood f y h = sym (slice_get-map (symbol_of table) signs f) ∙ h

    constant_by : (f : ℕ) (o : Option Sign) (d : Term) (a : Ty) → slice_get signs f ≡ o → option_map (symbol_of table) o ≡ Some (symbol.Constant d a) → FromConstant d a
    constant_by f None d a at h = cc
    constant_by f (Some (sign.Tag b)) d a at h = cc
    constant_by f (Some sign.Apply) d a at h = cc
    constant_by f (Some (sign.Constant k b)) d a at h =
        let one : expand table (con k) ≡ d = cc in
        let two : b ≡ a = cc in
        record { konst = k; is = one; good = subst (IsConstant k) two (are f (sign.Constant k b) at) }

    tag_by : (f : ℕ) (o : Option Sign) (a : Ty) → slice_get signs f ≡ o → option_map (symbol_of table) o ≡ Some (symbol.Tag a) → IsTrue (ty_fits sig.types a)
    tag_by f None a at h = cc
    tag_by f (Some (sign.Tag b)) a at h = let one : b ≡ a = cc in subst (λ c. IsTrue (ty_fits sig.types c)) one (are f (sign.Tag b) at)
    tag_by f (Some sign.Apply) a at h = cc
    tag_by f (Some (sign.Constant k b)) a at h = cc

    from : (f : ℕ) (d : Term) (a : Ty) → syms f ≡ Some (symbol.Constant d a) → FromConstant d a
    from f d a h = constant_by f (slice_get signs f) d a refl (stood f (symbol.Constant d a) h)

    pub signs_over : AreSignsOver sig syms
    signs_over = record {
      has_bool = has_bool;
      serve = record {
        closed = λ f d a h. (let c = from f d a h in subst (λ t. IsTrue (var_free t)) c.is c.good.closed);
        typed = record {
          tags = λ f a h. tag_by f (slice_get signs f) a refl (stood f (symbol.Tag a) h);
          constants = λ f d a h. (let c = from f d a h in subst (λ t. type_of_term sig t ≡ Some a) c.is c.good.typed);
          without_aux = λ f d a h. (let c = from f d a h in subst (λ t. IsTrue (aux_free t)) c.is c.good.without_aux);
        };
      };
    }
