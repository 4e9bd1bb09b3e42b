-- The sides of an expanded equation are equal up to contractions.
use Rattle.std.proofs.Common.{◌≡◌, ℕ, zero, suc, ◌+◌, ◌-◌, ◌<◌, ◌≤◌, Bool, true, false, ◌&&◌, nat_lt, IsTrue, if◌then◌else◌, List, [], ◌∷◌, ◌++◌, map, length, slice_get, refl, sym, ap, subst, ◌∙◌, arith}
use Rattle.std.specs.Prelude.{Some}
use Rattle.std.proofs.lemmas.Bool.Decides.{nat_tests}
use Rattle.hol_terms.specs.declared.ty.Ty.{Ty}
use Rattle.hol_terms.specs.declared.konst.Konst.{Konst}
use Rattle.hol_terms.specs.declared.konst.Konst.TheVariants as konst
use Rattle.hol_terms.specs.declared.term.Term.{Term, roll-Term}
use Rattle.hol_terms.specs.declared.term.Term.TheOpen.{Term-F}
use Rattle.hol_terms.specs.declared.term.Term.TheFolds.{fold-roll-Term}
use Rattle.hol_terms.specs.declared.term.Term.TheViews.{out-roll-Term}
use Rattle.hol_terms.specs.Formulas.{aux_free}
use Rattle.hol_terms.specs.Substitution.{closed_under, is_closed}
use Rattle.hol_terms.proofs.TermCases.{by_cases}
use Rattle.hol_terms.proofs.Both.{both_true}
use Rattle.hol_terms.proofs.Equations.{aux_free-lam, closed-bound, closed-app, closed-lam}
use Rattle.lambda_lift.specs.declared.table.Aux.{Aux}
use Rattle.lambda_lift.specs.Tables.{expand}
use Rattle.lambda_lift.specs.Closing.{variables, lambda_of, renamed, lambdas, applied_to}
use Rattle.lambda_lift.specs.Walks.{with_two}
use Rattle.lambda_lift.specs.Equations.{run, run_step, behind, body_at, result_ty, for_all, applied_to_all, equation}
use Rattle.lambda_lift.specs.Contractions.{contracted_along}
use Rattle.lambda_lift.specs.Redexes.{below, spine, left_path, side_redexes, identity}
use Rattle.lambda_lift.proofs.Lifts.{app, lam, con}
use Rattle.lambda_lift.proofs.Chains.{chain, renamed_bound, renamed_free, renamed_con, renamed_app, renamed_lam, chain_types}
use Rattle.lambda_lift.proofs.Along.{along_left, along_right, along_body, along_none, spine_chain, spine_con}
use Rattle.lambda_lift.proofs.Expansions.{expand_con, expand_app, expand_lam, expand_applied, expand_stays, expand_entry}

-- ---- a term is its run of lambdas around what stands behind
run_lam : (a : Ty) (b : Term) → run (lam a b) ≡ a ∷ run b
run_lam a b = fold-roll-Term (List Ty) run_step (Term-F.Lam a b)

behind_lam : (types : List Ty) (a : Ty) (b : Term) → behind (a ∷ types) (lam a b) ≡ behind types b
behind_lam types a b = ap (λ o. behind types (body_at (lam a b) o)) (out-roll-Term (Term-F.Lam a b))

abbrev Whole : Term → Type 0
Whole t = lambdas (run t) (behind (run t) t) ≡ t

no_run : (t : Term) → run t ≡ [] → Whole t
no_run t h = ap (λ types. lambdas types (behind types t)) h

pub run_behind : (t : Term) → Whole t
run_behind =
    by_cases Whole (λ i. no_run (roll-Term (Term-F.Bound i)) (fold-roll-Term (List Ty) run_step (Term-F.Bound i)))
    (λ n a. no_run (roll-Term (Term-F.Free n a)) (fold-roll-Term (List Ty) run_step (Term-F.Free n a)))
    (λ k. no_run (con k) (fold-roll-Term (List Ty) run_step (Term-F.Con k)))
    (λ f x hf hx. no_run (app f x) (fold-roll-Term (List Ty) run_step (Term-F.App f x)))
    (λ a b hb. ap (λ types. lambdas types (behind types (lam a b))) (run_lam a b) ∙ ap (λ t. lam a (lambdas (run b) t)) (behind_lam (run b) a b) ∙ ap (lam a) hb)

pub aux_free_lambdas : (types : List Ty) (t : Term) → aux_free (lambdas types t) ≡ aux_free t
aux_free_lambdas [] t = refl
aux_free_lambdas (a ∷ types) t = aux_free-lam a (lambdas types t) ∙ aux_free_lambdas types t

pub closed_lambdas : (types : List Ty) (t : Term) (k : ℕ) → closed_under (lambdas types t) k ≡ closed_under t (k + length types)
closed_lambdas [] t k = let same : k ≡ k + 0 = omega arith in ap (closed_under t) same
closed_lambdas (a ∷ types) t k =
    let next : (k + 1) + length types ≡ k + suc (length types) = omega arith in closed-lam a (lambdas types t) k ∙ closed_lambdas types t (k + 1) ∙ ap (closed_under t) next

-- ---- renaming that keeps the variables of a term
module _ (r : ℕ → ℕ) (n : ℕ) (keeps : (v : ℕ) → v < n → r v ≡ v) where
  abbrev Kept : Term → Type 0
  Kept t = (d : ℕ) → IsTrue (closed_under t (d + n)) → renamed r t d ≡ t

  kept_index : (i d : ℕ) → IsTrue (nat_lt i (d + n)) → (b : Bool) → nat_lt i d ≡ b → (if b then i else d + r (i - d)) ≡ i
  kept_index i d h true e = refl
  kept_index i d h false e =
      let above : d ≤ i = grind (arith, nat_tests) in
      let within : i - d < n = grind (arith, nat_tests) in
      let stays : r (i - d) ≡ i - d = keeps (i - d) within in
      omega arith

  pub renamed_kept : (t : Term) → Kept t
  renamed_kept =
      by_cases Kept (λ i d h. renamed_bound r i d ∙ ap (λ j. roll-Term (Term-F.Bound j)) (kept_index i d (subst IsTrue (closed-bound i (d + n)) h) (nat_lt i d) refl)) (λ m a d h. renamed_free r m a d)
      (λ k d h. renamed_con r k d)
      (λ f x hf hx d h.
      let both = both_true (closed_under f (d + n)) (closed_under x (d + n)) (subst IsTrue (closed-app f x (d + n)) h) in
      renamed_app r f x d ∙ (λ i. app (hf d both.0 i) (hx d both.1 i)))
      (λ a b hb d h.
      let next : (d + n) + 1 ≡ (d + 1) + n = omega arith in
      renamed_lam r a b d ∙ ap (lam a) (hb (d + 1) (subst (λ m. IsTrue (closed_under b m)) next (subst IsTrue (closed-lam a b (d + n)) h))))

abbrev every : ℕ → Bool
every v = true

all_variables : (n : ℕ) → length (variables every n) ≡ n
all_variables zero = refl
all_variables (suc n) = ap suc (all_variables n)

every_place : (n v : ℕ) → v < n → lambda_of every n v ≡ v
every_place n v h =
    let lt : nat_lt v n ≡ true = grind (arith, nat_tests) in ap (λ b. if b && true then length (variables every v) else v + length (variables every n)) lt ∙ all_variables v

-- a run of lambdas applied to a variable each
run_chain : (types : List Ty) (t : Term) → IsTrue (closed_under t (length types)) → chain (lambdas types t) (variables every (length types)) ≡ t
run_chain types t h =
    let n = length types in
    let whole : n ≡ 0 + n = omega arith in
    let same = renamed_kept (lambda_of every n) n (every_place n) t 0 (subst (λ k. IsTrue (closed_under t k)) whole h) in
    ap (λ u. chain (lambdas types u) (variables every n)) (sym same) ∙ chain_types every t n types (sym (all_variables n))

-- ---- expanded equations
expand_for_all : (table : List Aux) (types : List Ty) (t : Term) → expand table (for_all types t) ≡ for_all types (expand table t)
expand_for_all table [] t = refl
expand_for_all table (a ∷ types) t =
    expand_app table (con (konst.All a)) (lam a (for_all types t)) ∙ (λ i. app (expand_con table (konst.All a) i) (expand_lam table a (for_all types t) i))
    ∙ ap (λ u. app (con (konst.All a)) (lam a u)) (expand_for_all table types t)

expand_equal : (table : List Aux) (a : Ty) (l r : Term) → expand table (with_two (konst.Eq a) l r) ≡ with_two (konst.Eq a) (expand table l) (expand table r)
expand_equal table a l r =
    expand_app table (app (con (konst.Eq a)) l) r
    ∙ ap (λ f. app f (expand table r)) (expand_app table (con (konst.Eq a)) l ∙ ap (λ f. app f (expand table l)) (expand_con table (konst.Eq a)))

-- ---- contractions on the left side
split : (q : List ℕ) (ps : List (List ℕ)) → map (λ p. (1 ∷ 2 ∷ q) ++ p) ps ≡ below 1 (below 2 (map (λ p. q ++ p) ps))
split q [] = refl
split q (p ∷ ps) = ap (λ rest. (1 ∷ 2 ∷ q ++ p) ∷ rest) (split q ps)

split_left : (ps : List (List ℕ)) → map (λ p. (0 ∷ 1 ∷ []) ++ p) ps ≡ below 0 (below 1 ps)
split_left [] = refl
split_left (p ∷ ps) = ap (λ rest. (0 ∷ 1 ∷ p) ∷ rest) (split_left ps)

along_sides : (types : List Ty) (k : Konst) (l r : Term) (ps : List (List ℕ)) → contracted_along (map (λ p. left_path types ++ p) ps) (for_all types (with_two k l r)) ≡ for_all types (with_two k (contracted_along ps l) r)
along_sides [] k l r ps =
    ap (λ qs. contracted_along qs (with_two k l r)) (split_left ps) ∙ along_left (below 1 ps) (app (con k) l) r ∙ ap (λ f. app f r) (along_right ps (con k) l)
along_sides (a ∷ types) k l r ps =
    ap (λ qs. contracted_along qs (for_all (a ∷ types) (with_two k l r))) (split (left_path types) ps)
    ∙ along_right (below 2 (map (λ p. left_path types ++ p) ps)) (con (konst.All a)) (lam a (for_all types (with_two k l r)))
    ∙ ap (app (con (konst.All a))) (along_body (map (λ p. left_path types ++ p) ps) a (for_all types (with_two k l r)))
    ∙ ap (λ t. app (con (konst.All a)) (lam a t)) (along_sides types k l r ps)

module _ (table : List Aux) (k : ℕ) (e : Aux) (at : slice_get table k ≡ Some e) (no_aux : IsTrue (aux_free e.closed)) (no_loose : IsTrue (is_closed e.closed)) where
  abbrev types : List Ty
  types = run e.closed

  abbrev body : Term
  body = behind (run e.closed) e.closed

  body_closed : IsTrue (closed_under body (length types))
  body_closed = subst IsTrue (ap (λ t. closed_under t 0) (sym (run_behind e.closed)) ∙ closed_lambdas types body 0 ∙ ap (closed_under body) (let same : 0 + length types ≡ length types = omega arith in same)) no_loose

  body_stays : expand table body ≡ body
  body_stays = expand_stays table body (subst IsTrue (ap aux_free (sym (run_behind e.closed)) ∙ aux_free_lambdas types body) no_aux)

  stands : expand table (con (konst.Aux k)) ≡ lambdas types body
  stands = expand_entry table k e.closed (record { entry = e; at = at; closed = refl }) ∙ sym (run_behind e.closed)

  left_expanded : expand table (applied_to_all (konst.Aux k) (length types)) ≡ applied_to (lambdas types body) (variables every (length types))
  left_expanded = expand_applied table (variables every (length types)) (con (konst.Aux k)) ∙ ap (λ c. applied_to c (variables every (length types))) stands

  left_back : contracted_along (spine (applied_to_all (konst.Aux k) (length types))) (applied_to (lambdas types body) (variables every (length types))) ≡ body
  left_back =
      spine_chain (variables every (length types)) (con (konst.Aux k)) (lambdas types body)
      ∙ ap (λ ps. chain (contracted_along ps (lambdas types body)) (variables every (length types))) (spine_con (konst.Aux k))
      ∙ ap (λ c. chain c (variables every (length types))) (along_none (lambdas types body)) ∙ run_chain types body body_closed

  -- the expanded equation, with the redexes of its left side contracted, says that the right side equals itself
  pub sides_back : contracted_along (side_redexes k e) (expand table (equation k e)) ≡ identity e
  sides_back =
      let a = result_ty types e.ty in
      let ps = spine (applied_to_all (konst.Aux k) (length types)) in
      ap (contracted_along (side_redexes k e))
      (expand_for_all table types _ ∙ ap (for_all types) (expand_equal table a (applied_to_all (konst.Aux k) (length types)) body ∙ (λ i. with_two (konst.Eq a) (left_expanded i) (body_stays i))))
      ∙ along_sides types (konst.Eq a) (applied_to (lambdas types body) (variables every (length types))) body ps
      ∙ ap (λ l. for_all types (with_two (konst.Eq a) l body)) left_back
