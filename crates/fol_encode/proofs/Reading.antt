-- What is encoded is read as what it was.
use Rattle.std.proofs.Common.{◌≡◌, ℕ, Bool, true, false, ◌&&◌, ◌||◌, ◌==◌, if◌then◌else◌, IsTrue, List, [], ◌∷◌, ◌++◌, slice_get, Some, None, refl, sym, ap, subst, ◌∙◌, arith}
use Rattle.std.specs.Prelude.{Option, unwrap_or}
use Rattle.std.specs.Option.{option_map}
use Rattle.std.proofs.lemmas.Bool.Decides.{nat_tests}
use Rattle.std.proofs.lemmas.Option.{slice_get-map}
use Rattle.hol_terms.specs.declared.ty.Ty.{Ty, out-Ty}
use Rattle.hol_terms.specs.declared.ty.Ty.TheOpen.{Ty-F}
use Rattle.hol_terms.specs.declared.ty.Ty.TheViews.{out-roll-Ty}
use Rattle.hol_terms.specs.declared.konst.Konst.{Konst}
use Rattle.hol_terms.specs.declared.konst.Konst.TheVariants as konst
use Rattle.hol_terms.specs.declared.sig.Sig.{Sig}
use Rattle.hol_terms.specs.declared.term.Term.{Term, roll-Term}
use Rattle.hol_terms.specs.declared.term.Term.TheOpen.{Term-F}
use Rattle.hol_terms.specs.declared.term.Term.TheFolds.{fold-roll-Term}
use Rattle.hol_terms.specs.Types.{bool_ty, function_ty}
use Rattle.hol_terms.specs.Typing.{type_in, fitting, konst_type}
use Rattle.hol_terms.specs.Substitution.{occurs}
use Rattle.hol_terms.proofs.TermCases.{by_cases}
use Rattle.hol_terms.proofs.TyCases.{is_ty_itself}
use Rattle.hol_terms.proofs.Both.{both_true}
use Rattle.hol_terms.proofs.TypedParts.{applied_fits, applied_parts, checked_some}
use Rattle.hol_terms.proofs.Equations.{type-bound, type-free, type-con, type-app, occurs-free, occurs-app}
use Rattle.lambda_lift.specs.declared.table.Aux.{Aux}
use Rattle.lambda_lift.specs.Equations.{result_at}
use Rattle.lambda_lift.specs.Lifting.{no_entry}
use Rattle.lambda_lift.specs.Tables.{expand, own_ty}
use Rattle.lambda_lift.specs.Standing.{over}
use Rattle.lambda_lift.proofs.Expansions.{expand_free, expand_app}
use Rattle.fo_terms.specs.Substitution.{var, fun}
use Rattle.tagged_terms.specs.declared.symbol.Symbol.{Symbol}
use Rattle.tagged_terms.specs.Readings.{Types, Unread, Core, Tagged, reading, read_symbol, variable, tagging, core_of, application as applied_term}
use Rattle.tagged_terms.specs.Readings.{signs_of as meanings}
use Rattle.tagged_terms.proofs.Steps.{read_var, read_fun}
use Rattle.fol_encode.specs.declared.sign.Sign.{Sign}
use Rattle.fol_encode.specs.declared.sign.Sign.TheVariants as sign
use Rattle.fol_encode.specs.declared.term.Coded.{Coded}
use Rattle.fol_encode.specs.Signs.{number_of, symbol_of, symbols_of}
use Rattle.fol_encode.specs.Occurring.{konst_ty, parts, all_signs}
use Rattle.fol_encode.specs.Encoding.{tagged, ty_of_sign, constant, application, coded, coded_step, encoded}
use Rattle.fol_encode.specs.Laws.{lambda_free, lambda_free_step, Covers, Fits}
use Rattle.fol_encode.proofs.Gathering.{parts_app, parts_con, parts_free}

abbrev app : Term → Term → Term
app f x = roll-Term (Term-F.App f x)

abbrev con : Konst → Term
con k = roll-Term (Term-F.Con k)

-- ---- covers
pub covers_left : (signs xs ys : List Sign) → Covers signs (xs ++ ys) → Covers signs xs
covers_left signs [] ys h = tt
covers_left signs (x ∷ xs) ys h = (h.0, covers_left signs xs ys h.1)

pub covers_right : (signs xs ys : List Sign) → Covers signs (xs ++ ys) → Covers signs ys
covers_right signs [] ys h = h
covers_right signs (x ∷ xs) ys h = covers_right signs xs ys h.1

-- ---- types of constants
entry_ty : (types : ℕ) (o : Option Aux) (a : Ty) → fitting types (option_map (λ e. e.ty) o) ≡ Some a → (unwrap_or o no_entry).ty ≡ a
entry_ty types None a h = cc
entry_ty types (Some e) a h = (checked_some types e.ty e.ty a h).1

module _ (sig : Sig) (table : List Aux) where
  own_is : (k : Konst) (a : Ty) → konst_type sig k ≡ Some a → own_ty sig (con k) ≡ a
  own_is k a h = ap (λ o. unwrap_or o bool_ty) (type-con sig k [] ∙ h)

  pub konst_ty_is : (k : Konst) (a : Ty) → konst_type (over sig table) k ≡ Some a → konst_ty sig table k ≡ a
  konst_ty_is (konst.Aux n) a h = entry_ty sig.types (slice_get table n) a (ap (fitting sig.types) (sym (slice_get-map (λ e. e.ty) table n)) ∙ h)
  konst_ty_is (konst.Named n) a h = own_is (konst.Named n) a h
  konst_ty_is konst.True a h = own_is konst.True a h
  konst_ty_is konst.False a h = own_is konst.False a h
  konst_ty_is konst.Not a h = own_is konst.Not a h
  konst_ty_is konst.And a h = own_is konst.And a h
  konst_ty_is konst.Or a h = own_is konst.Or a h
  konst_ty_is konst.Imp a h = own_is konst.Imp a h
  konst_ty_is (konst.Eq b) a h = own_is (konst.Eq b) a h
  konst_ty_is (konst.All b) a h = own_is (konst.All b) a h
  konst_ty_is (konst.Ex b) a h = own_is (konst.Ex b) a h
  konst_ty_is (konst.Eps b) a h = own_is (konst.Eps b) a h

  module _ (signs : List Sign) (types : Types) where
    abbrev syms : ℕ → Option Symbol
    syms = meanings (symbols_of table signs)

    -- a sign at its place
    means : (s : Sign) → slice_get signs (number_of signs s) ≡ Some s → syms (number_of signs s) ≡ Some (symbol_of table s)
    means s h = slice_get-map (symbol_of table) signs (number_of signs s) ∙ ap (option_map (symbol_of table)) h

    coded_free : (n : ℕ) (a : Ty) → coded signs (roll-Term (Term-F.Free n a)) [] ≡ record { ty = a; core = var n }
    coded_free n a = ap (λ g. g []) (fold-roll-Term (List Ty → Coded) (coded_step signs) (Term-F.Free n a))

    coded_con : (k : Konst) → coded signs (con k) [] ≡ constant signs k
    coded_con k = ap (λ g. g []) (fold-roll-Term (List Ty → Coded) (coded_step signs) (Term-F.Con k))

    coded_app : (f x : Term) → coded signs (app f x) [] ≡ application signs (coded signs f []) (coded signs x [])
    coded_app f x = ap (λ g. g []) (fold-roll-Term (List Ty → Coded) (coded_step signs) (Term-F.App f x))

    -- a core of the type `a` that stands for the term expanded
    record Right (t : Term) (a : Ty) (d : Coded) : Type 0 where
      ty : d.ty ≡ a
      core : reading syms types d.core ≡ Core a (expand table t)

    -- its tag
    tagging_itself : (a : Ty) (d : Term) → tagging a (Core a d) ≡ Tagged a d
    tagging_itself a d = ap (λ b. if b then Tagged a d else Unread) (is_ty_itself a)

    tag_read : (t : Term) (a : Ty) (d : Coded) → Right t a d → slice_get signs (number_of signs (sign.Tag a)) ≡ Some (sign.Tag a) → reading syms types (tagged signs d) ≡ Tagged a (expand table t)
    tag_read t a d h known =
        ap (λ b. reading syms types (fun (number_of signs (sign.Tag b)) (d.core ∷ []))) h.ty ∙ read_fun syms types (number_of signs (sign.Tag a)) (d.core ∷ [])
        ∙ (λ i. read_symbol (means (sign.Tag a) known i) (h.core i ∷ [])) ∙ tagging_itself a (expand table t)

    con_right : (k : Konst) (a : Ty) → konst_ty sig table k ≡ a → slice_get signs (number_of signs (sign.Constant k (konst_ty sig table k))) ≡ Some (sign.Constant k (konst_ty sig table k)) → Right (con k) a (constant signs k)
    con_right k a is known =
        let n = number_of signs (sign.Constant k bool_ty) in
        let here : slice_get signs n ≡ Some (sign.Constant k a) = known ∙ ap (λ b. Some (sign.Constant k b)) is in
        record {
          ty = ap ty_of_sign here;
          core = read_fun syms types n [] ∙ ap (λ o. read_symbol o []) (slice_get-map (symbol_of table) signs n ∙ ap (option_map (symbol_of table)) here);
        }

    result_is : (a b : Ty) → result_at (function_ty a b) (out-Ty (function_ty a b)) ≡ b
    result_is a b = ap (result_at (function_ty a b)) (out-roll-Ty (Ty-F.Arrow a b))

    app_right : (f x : Term) (a b : Ty) (d e : Coded) → Right f (function_ty b a) d → Right x b e → slice_get signs (number_of signs (sign.Tag (function_ty b a))) ≡ Some (sign.Tag (function_ty b a)) →
        slice_get signs (number_of signs (sign.Tag b)) ≡ Some (sign.Tag b) → slice_get signs (number_of signs sign.Apply) ≡ Some sign.Apply → Right (app f x) a (application signs d e)
    app_right f x a b d e hf hx kf kx ka =
        record {
          ty = ap (λ c. result_at c (out-Ty c)) hf.ty ∙ result_is b a;
          core =
              read_fun syms types (number_of signs sign.Apply) (tagged signs d ∷ tagged signs e ∷ [])
              ∙ (λ i. read_symbol (means sign.Apply ka i) (tag_read f (function_ty b a) d hf kf i ∷ tag_read x b e hx kx i ∷ []))
              ∙ ap (λ o. core_of o (applied_term (expand table f) (expand table x))) (applied_fits b a) ∙ ap (Core a) (sym (expand_app table f x));
        }

    -- ---- by induction
    record Good (t : Term) (a : Ty) : Type 0 where
      right : Right t a (coded signs t [])
      same : (parts sig table t []).ty ≡ a

    abbrev Read : Term → Type 0
    Read t = (a : Ty) → type_in (over sig table) t [] ≡ Some a → IsTrue (lambda_free t) → Covers signs (parts sig table t []).signs → ((n : ℕ) (b : Ty) → IsTrue (occurs n b t) → types n ≡ Some b) → Good t a

    read_bound : (i : ℕ) → Read (roll-Term (Term-F.Bound i))
    read_bound i a h lam cov vars = let none : None ≡ Some a = sym (type-bound (over sig table) i []) ∙ h in cc

    here_occurs : (n : ℕ) (b : Ty) → IsTrue (occurs n b (roll-Term (Term-F.Free n b)))
    here_occurs n b = occurs-free n b n b ∙ (let one : (n == n) ≡ true = grind (arith, nat_tests) in (λ i. one i && is_ty_itself b i))

    read_free : (n : ℕ) (b : Ty) → Read (roll-Term (Term-F.Free n b))
    read_free n b a h lam cov vars =
        let same = (checked_some sig.types b b a (sym (type-free (over sig table) n b []) ∙ h)).1 in
        record {
          right =
              record {
                ty = ap (λ d. d.ty) (coded_free n b) ∙ same;
                core =
                    ap (λ d. reading syms types d.core) (coded_free n b) ∙ read_var syms types n ∙ ap (λ o. variable o n) (vars n b (here_occurs n b))
                    ∙ (λ i. Core (same i) (sym (expand_free table n b) i));
              };
          same = ap (λ p. p.ty) (parts_free sig table [] n b) ∙ same;
        }

    read_con : (k : Konst) → Read (con k)
    read_con k a h lam cov vars =
        let is = konst_ty_is k a (sym (type-con (over sig table) k []) ∙ h) in
        let known = (subst (λ p. Covers signs p.signs) (parts_con sig table [] k) cov).0 in
        record { right = subst (Right (con k) a) (sym (coded_con k)) (con_right k a is known); same = ap (λ p. p.ty) (parts_con sig table [] k) ∙ is }

    read_app : (f x : Term) → Read f → Read x → Read (app f x)
    read_app f x hf hx a h lam cov vars =
        let from = applied_parts (type_in (over sig table) f []) (type_in (over sig table) x []) a (sym (type-app (over sig table) f x []) ∙ h) in
        let b = from.0 in
        let both = both_true (lambda_free f) (lambda_free x) (sym (fold-roll-Term Bool lambda_free_step (Term-F.App f x)) ∙ lam) in
        let p = parts sig table f [] in
        let q = parts sig table x [] in
        let whole = subst (λ r. Covers signs r.signs) (parts_app sig table [] f x) cov in
        let two = covers_left signs (all_signs p ++ all_signs q) (sign.Apply ∷ []) whole in
        let apply = (covers_right signs (all_signs p ++ all_signs q) (sign.Apply ∷ []) whole).0 in
        let left = covers_left signs (all_signs p) (all_signs q) two in
        let right = covers_right signs (all_signs p) (all_signs q) two in
        let gf = hf (function_ty b a) from.1.0 both.0 (covers_left signs p.signs (sign.Tag p.ty ∷ []) left) (λ n c o. vars n c (occurs-app n c f x ∙ ap (λ z. z || occurs n c x) o)) in
        let gx = hx b from.1.1 both.1 (covers_left signs q.signs (sign.Tag q.ty ∷ []) right) (λ n c o. vars n c (occurs-app n c f x ∙ or_right (occurs n c f) (occurs n c x) o)) in
        let kf = subst (λ c. slice_get signs (number_of signs (sign.Tag c)) ≡ Some (sign.Tag c)) gf.same (covers_right signs p.signs (sign.Tag p.ty ∷ []) left).0 in
        let kx = subst (λ c. slice_get signs (number_of signs (sign.Tag c)) ≡ Some (sign.Tag c)) gx.same (covers_right signs q.signs (sign.Tag q.ty ∷ []) right).0 in
        record {
          right = subst (Right (app f x) a) (sym (coded_app f x)) (app_right f x a b (coded signs f []) (coded signs x []) gf.right gx.right kf kx apply);
          same = ap (λ r. r.ty) (parts_app sig table [] f x) ∙ ap (λ c. result_at c (out-Ty c)) gf.same ∙ result_is b a;
        }
      where
        or_right : (c e : Bool) → IsTrue e → IsTrue (c || e)
        or_right true e h = refl
        or_right false e h = h

    read_lam : (a : Ty) (b : Term) → Read b → Read (roll-Term (Term-F.Lam a b))
    read_lam a b hb c h lam cov vars = let none : false ≡ true = sym (fold-roll-Term Bool lambda_free_step (Term-F.Lam a b)) ∙ lam in cc

    read : (t : Term) → Read t
    read = by_cases Read read_bound read_free read_con read_app read_lam

    pub whole_read : (t : Term) (a : Ty) → Fits sig table signs types t → type_in (over sig table) t [] ≡ Some a → reading syms types (encoded signs t []) ≡ Tagged a (expand table t)
    whole_read t a fits h =
        let p = parts sig table t [] in
        let good = read t a h fits.without_lambda (covers_left signs p.signs (sign.Tag p.ty ∷ []) fits.covered) fits.variables in
        let known = subst (λ c. slice_get signs (number_of signs (sign.Tag c)) ≡ Some (sign.Tag c)) good.same (covers_right signs p.signs (sign.Tag p.ty ∷ []) fits.covered).0 in
        tag_read t a (coded signs t []) good.right known
