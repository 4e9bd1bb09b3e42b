-- How the walk stands behind a quantifier that was opened.
use Rattle.std.proofs.Common.{◌≡◌, ℕ, ◌+◌, ◌<◌, ◌≤◌, Bool, true, false, if◌then◌else◌, IsTrue, List, [], ◌∷◌, ◌++◌, length, slice_get, ap, subst, refl, sym, ◌∙◌, Some, None, arith}
use Rattle.std.specs.Prelude.{Option}
use Rattle.std.specs.List.{list_any}
use Rattle.std.proofs.lemmas.List.{length-append}
use Rattle.std.proofs.lemmas.Option.{slice_get_within}
use Rattle.hol_terms.specs.declared.ty.Ty.{Ty}
use Rattle.hol_terms.specs.declared.konst.Konst.{Konst}
use Rattle.hol_terms.specs.declared.konst.Konst.TheVariants as konst
use Rattle.hol_terms.specs.declared.term.Term.{Term}
use Rattle.hol_terms.specs.Substitution.{is_closed}
use Rattle.hol_terms.specs.Formulas.{has_ty}
use Rattle.hol_terms.proofs.TermCases.{by_cases}
use Rattle.hol_terms.proofs.TyCases.{is_ty_itself}
use Rattle.hol_terms.proofs.Both.{both_true, and_true}
use Rattle.hol_terms.proofs.Equations.{closed-free, closed-con, closed-app}
use Rattle.kernel_rules.specs.Connectives.{apply, constant}
use Rattle.lambda_lift.specs.declared.table.Aux.{Aux}
use Rattle.lambda_lift.specs.Keys.{is_same}
use Rattle.lambda_lift.specs.Tables.{closed_terms, place, with_entry}
use Rattle.lambda_lift.specs.Standing.{Each, aux_below, konst_below}
use Rattle.lambda_lift.proofs.Expansions.{Grows, within, entry_found}
use Rattle.lambda_lift.proofs.Standings.{each_more}
use Rattle.formula_clauses.specs.Choices.{Variable, applied_to, choice, chosen_term, with_choice, closed_ty, variables}
use Rattle.hol_clausify.specs.Variables.{each_free, has_number}
use Rattle.hol_clausify.proofs.Opening.{free}
use Rattle.hol_clausify.proofs.Wider.{less, less_told}
use Rattle.hol_clausify.proofs.Expanding.{below-con, below-app, below-lam}
use Rattle.hol_clausify.proofs.Placed.{below-bound, below-free}
use Rattle.hol_clausify.proofs.Free.{free-free, free-con, free_app, free_weaker}
use Rattle.hol_clausify.proofs.Occurring.{Numbered, all_numbered}

-- ---- more variables
more_types : (types more : List Ty) (n : ℕ) (a : Ty) (o : Option Ty) → slice_get types n ≡ o → IsTrue (has_ty o a) → IsTrue (has_number (types ++ more) n a)
more_types types more n a None e h = cc
more_types types more n a (Some b) e h = subst (λ q. IsTrue (has_ty q a)) (sym (within types n b e more)) h

pub more_numbered : (types more : List Ty) (t : Term) → IsTrue (each_free (has_number types) t) → IsTrue (each_free (has_number (types ++ more)) t)
more_numbered types more t h = free_weaker (has_number types) (has_number (types ++ more)) (λ n a. more_types types more n a (slice_get types n) refl) t h

last : {X : Type 0} (xs : List X) (x : X) → slice_get (xs ++ x ∷ []) (length xs) ≡ Some x
last [] x = refl
last (y ∷ xs) x = last xs x

pub next_numbered : (types : List Ty) (a : Ty) → IsTrue (each_free (has_number (types ++ a ∷ [])) (free (length types) a))
next_numbered types a = free-free (has_number (types ++ a ∷ [])) (length types) a ∙ subst (λ o. IsTrue (has_ty o a)) (sym (last types a)) (is_ty_itself a)

-- ---- a longer table
konst_longer : (m n : ℕ) (k : Konst) → m ≤ n → IsTrue (konst_below m k) → IsTrue (konst_below n k)
konst_longer m n (konst.Aux k) h b = let low : k < m = less k m b in let high : k < n = omega arith in less_told k n high
konst_longer m n (konst.Named k) h b = refl
konst_longer m n konst.True h b = refl
konst_longer m n konst.False h b = refl
konst_longer m n konst.Not h b = refl
konst_longer m n konst.And h b = refl
konst_longer m n konst.Or h b = refl
konst_longer m n konst.Imp h b = refl
konst_longer m n (konst.Eq a) h b = refl
konst_longer m n (konst.All a) h b = refl
konst_longer m n (konst.Ex a) h b = refl
konst_longer m n (konst.Eps a) h b = refl

module _ (m n : ℕ) (longer : m ≤ n) where
  abbrev Longer : Term → Type 0
  Longer t = IsTrue (aux_below m t) → IsTrue (aux_below n t)

  longer_app : (f x : Term) → Longer f → Longer x → Longer (apply f x)
  longer_app f x hf hx h =
      let both = both_true (aux_below m f) (aux_below m x) (subst IsTrue (below-app m f x) h) in
      below-app n f x ∙ and_true (aux_below n f) (aux_below n x) (hf both.0) (hx both.1)

  pub below_longer : (t : Term) → Longer t
  below_longer =
      by_cases Longer (λ i h. below-bound n i) (λ k a h. below-free n k a) (λ k h. below-con n k ∙ konst_longer m n k longer (subst IsTrue (below-con m k) h)) longer_app
      (λ a b hb h. below-lam n a b ∙ hb (subst IsTrue (below-lam m a b) h))

pub grows_longer : (old new : List Aux) → Grows old new → length old ≤ length new
grows_longer old new g = let is : length new ≡ length old + length g.more = ap length g.is ∙ length-append old g.more in omega arith

-- ---- an entry more
entry_either : (P : Aux → Type 0) (table : List Aux) (x : Aux) (c : Bool) → Each P table → P x → Each P (if c then table else table ++ x ∷ [])
entry_either P table x true all h = all
entry_either P table x false all h = each_more P table x all h

pub each_entry : (P : Aux → Type 0) (table : List Aux) (a : Ty) (t : Term) → Each P table → P (record { ty = a; closed = t }) → Each P (with_entry table a t)
each_entry P table a t all h = entry_either P table (record { ty = a; closed = t }) (list_any (is_same t) (closed_terms table)) all h

-- ---- a chosen term
pub applied_closed : (vs : List Variable) (f : Term) → IsTrue (is_closed f) → IsTrue (is_closed (applied_to f vs))
applied_closed [] f h = h
applied_closed (v ∷ vs) f h =
    let x = free v.0 v.1 in applied_closed vs (apply f x) (closed-app f x 0 ∙ and_true (is_closed f) (is_closed x) h (closed-free v.0 v.1 0))

pub applied_known : (n : ℕ) (vs : List Variable) (f : Term) → IsTrue (aux_below n f) → IsTrue (aux_below n (applied_to f vs))
applied_known n [] f h = h
applied_known n (v ∷ vs) f h =
    let x = free v.0 v.1 in applied_known n vs (apply f x) (below-app n f x ∙ and_true (aux_below n f) (aux_below n x) h (below-free n v.0 v.1))

pub applied_numbered : (types : List Ty) (vs : List Variable) (f : Term) → Numbered types vs → IsTrue (each_free (has_number types) f) → IsTrue (each_free (has_number types) (applied_to f vs))
applied_numbered types [] f n h = h
applied_numbered types (v ∷ vs) f n h =
    let p = has_number types in
    let x = free v.0 v.1 in applied_numbered types vs (apply f x) n.1 (free_app p f x h (free-free p v.0 v.1 ∙ n.0))

pub chosen_closed : (table : List Aux) (a : Ty) (f : Term) → IsTrue (is_closed (chosen_term table a f))
chosen_closed table a f = let k = konst.Aux (place table (choice table a f)) in applied_closed (variables f) (constant k) (closed-con k 0)

pub chosen_known : (table : List Aux) (a : Ty) (f : Term) → IsTrue (aux_below (length (with_choice table a f)) (chosen_term table a f))
chosen_known table a f =
    let c = choice table a f in
    let k = place table c in
    let new = with_choice table a f in
    let found = entry_found table (closed_ty (variables f) a) c in
    applied_known (length new) (variables f) (constant (konst.Aux k)) (below-con (length new) (konst.Aux k) ∙ less_told k (length new) (slice_get_within new k found.entry found.at))

pub chosen_numbered : (types : List Ty) (table : List Aux) (a : Ty) (f : Term) → IsTrue (each_free (has_number types) f) → IsTrue (each_free (has_number types) (chosen_term table a f))
chosen_numbered types table a f h =
    let k = konst.Aux (place table (choice table a f)) in applied_numbered types (variables f) (constant k) (all_numbered types f h) (free-con (has_number types) k)
