-- Expanded terms, and tables that grow.
use Rattle.std.proofs.Common.{◌≡◌, ℕ, zero, suc, ◌+◌, Bool, true, false, ◌||◌, cond, not, IsTrue, if◌then◌else◌, List, [], ◌∷◌, ◌++◌, length, slice_get, refl, sym, ap, subst, ◌∙◌, arith, append_assoc}
use Rattle.std.specs.Prelude.{Some}
use Rattle.std.specs.List.{list_any}
use Rattle.std.proofs.lemmas.List.{append-nil}
use Rattle.hol_terms.specs.declared.ty.Ty.{Ty}
use Rattle.hol_terms.specs.declared.konst.Konst.{Konst}
use Rattle.hol_terms.specs.declared.konst.Konst.TheVariants as konst
use Rattle.hol_terms.specs.declared.term.Term.{Term, roll-Term}
use Rattle.hol_terms.specs.declared.term.Term.TheOpen.{Term-F}
use Rattle.hol_terms.specs.declared.term.Term.TheFolds.{fold-roll-Term}
use Rattle.hol_terms.specs.Formulas.{aux_free, no_aux}
use Rattle.hol_terms.proofs.TermCases.{by_cases}
use Rattle.hol_terms.proofs.Both.{both_true}
use Rattle.hol_terms.proofs.Equations.{aux_free-con, aux_free-app, aux_free-lam}
use Rattle.lambda_lift.specs.declared.table.Aux.{Aux}
use Rattle.lambda_lift.specs.Keys.{is_same}
use Rattle.lambda_lift.specs.Tables.{closed_terms, place, with_entry, expand, expand_step, expanded_konst, expanded_at}
use Rattle.lambda_lift.specs.Closing.{applied_to}
use Rattle.lambda_lift.proofs.KeysApart.{same_told}
use Rattle.lambda_lift.proofs.Looking.{next_place}
use Rattle.lambda_lift.proofs.Lifts.{app, lam, con}

-- ---- one equation for each constructor
pub expand_bound : (table : List Aux) (i : ℕ) → expand table (roll-Term (Term-F.Bound i)) ≡ roll-Term (Term-F.Bound i)
expand_bound table i = fold-roll-Term Term (expand_step table) (Term-F.Bound i)

pub expand_free : (table : List Aux) (n : ℕ) (a : Ty) → expand table (roll-Term (Term-F.Free n a)) ≡ roll-Term (Term-F.Free n a)
expand_free table n a = fold-roll-Term Term (expand_step table) (Term-F.Free n a)

pub expand_con : (table : List Aux) (k : Konst) → expand table (con k) ≡ expanded_konst table k
expand_con table k = fold-roll-Term Term (expand_step table) (Term-F.Con k)

pub expand_app : (table : List Aux) (f x : Term) → expand table (app f x) ≡ app (expand table f) (expand table x)
expand_app table f x = fold-roll-Term Term (expand_step table) (Term-F.App f x)

pub expand_lam : (table : List Aux) (a : Ty) (b : Term) → expand table (lam a b) ≡ lam a (expand table b)
expand_lam table a b = fold-roll-Term Term (expand_step table) (Term-F.Lam a b)

pub expand_applied : (table : List Aux) (vs : List ℕ) (f : Term) → expand table (applied_to f vs) ≡ applied_to (expand table f) vs
expand_applied table [] f = refl
expand_applied table (v ∷ vs) f =
    expand_applied table vs (app f (roll-Term (Term-F.Bound v))) ∙ ap (λ t. applied_to t vs) (expand_app table f (roll-Term (Term-F.Bound v)) ∙ ap (app (expand table f)) (expand_bound table v))

-- ---- a term without auxiliary constants stays
abbrev Stays : List Aux → Term → Type 0
Stays table t = IsTrue (aux_free t) → expand table t ≡ t

stays_konst : (table : List Aux) (k : Konst) → IsTrue (no_aux k) → expanded_konst table k ≡ con k
stays_konst table (konst.Named n) h = refl
stays_konst table (konst.Aux n) h = cc
stays_konst table konst.True h = refl
stays_konst table konst.False h = refl
stays_konst table konst.Not h = refl
stays_konst table konst.And h = refl
stays_konst table konst.Or h = refl
stays_konst table konst.Imp h = refl
stays_konst table (konst.Eq a) h = refl
stays_konst table (konst.All a) h = refl
stays_konst table (konst.Ex a) h = refl
stays_konst table (konst.Eps a) h = refl

stays_app : (table : List Aux) (f x : Term) → Stays table f → Stays table x → Stays table (app f x)
stays_app table f x hf hx h =
    let both = both_true (aux_free f) (aux_free x) (subst IsTrue (aux_free-app f x) h) in expand_app table f x ∙ (λ i. app (hf both.0 i) (hx both.1 i))

pub expand_stays : (table : List Aux) (t : Term) → Stays table t
expand_stays table =
    by_cases (Stays table) (λ i h. expand_bound table i) (λ n a h. expand_free table n a) (λ k h. expand_con table k ∙ stays_konst table k (subst IsTrue (aux_free-con k) h))
    (stays_app table) (λ a b hb h. expand_lam table a b ∙ ap (lam a) (hb (subst IsTrue (aux_free-lam a b) h)))

-- ---- growth
pub record Grows (old new : List Aux) : Type 0 where
  pub more : List Aux
  pub is : new ≡ old ++ more

pub grows_refl : (t : List Aux) → Grows t t
grows_refl t = record { more = []; is = sym (append-nil t) }

pub grows_trans : (a b c : List Aux) → Grows a b → Grows b c → Grows a c
grows_trans a b c f g = record { more = f.more ++ g.more; is = g.is ∙ ap (λ t. t ++ g.more) f.is ∙ append_assoc a f.more g.more }

with_grows : (table : List Aux) (a : Ty) (t : Term) (b : Bool) → Grows table (if b then table else table ++ record { ty = a; closed = t } ∷ [])
with_grows table a t true = grows_refl table
with_grows table a t false = record { more = record { ty = a; closed = t } ∷ []; is = refl }

pub entry_grows : (table : List Aux) (a : Ty) (t : Term) → Grows table (with_entry table a t)
entry_grows table a t = with_grows table a t (list_any (is_same t) (closed_terms table))

-- ---- an entry is found at its place
pub record Entry (table : List Aux) (k : ℕ) (t : Term) : Type 0 where
  pub entry : Aux
  pub at : slice_get table k ≡ Some entry
  pub closed : entry.closed ≡ t

entry_step : (t : Term) (e : Aux) (table : List Aux) (b : Bool) → is_same t e.closed ≡ b → (b || list_any (is_same t) (closed_terms table)) ≡ true →
    (list_any (is_same t) (closed_terms table) ≡ true → Entry table (place table t) t) → Entry (e ∷ table) (cond (not b) (1 + place table t) 0) t
entry_step t e table true h any rest = record { entry = e; at = refl; closed = sym (same_told t e.closed h) }
entry_step t e table false h any rest = let r = rest any in
    let next : 1 + place table t ≡ suc (place table t) = omega arith in
    record { entry = r.entry; at = ap (slice_get (e ∷ table)) next ∙ r.at; closed = r.closed }

there : (table : List Aux) (t : Term) → list_any (is_same t) (closed_terms table) ≡ true → Entry table (place table t) t
there [] t h = cc
there (e ∷ table) t h = entry_step t e table (is_same t e.closed) refl h (there table t)

pub within : {X : Type 0} (xs : List X) (k : ℕ) (x : X) → slice_get xs k ≡ Some x → (ys : List X) → slice_get (xs ++ ys) k ≡ Some x
within [] k x h ys = cc
within (y ∷ xs) zero x h ys = h
within (y ∷ xs) (suc k) x h ys = within xs k x h ys

pub entry_stays : (old new : List Aux) (k : ℕ) (t : Term) → Grows old new → Entry old k t → Entry new k t
entry_stays old new k t g e = record { entry = e.entry; at = ap (λ l. slice_get l k) g.is ∙ within old k e.entry e.at g.more; closed = e.closed }

last : {X : Type 0} (xs : List X) (x : X) → slice_get (xs ++ x ∷ []) (length xs) ≡ Some x
last [] x = refl
last (y ∷ xs) x = last xs x

found_step : (table : List Aux) (a : Ty) (t : Term) (b : Bool) → list_any (is_same t) (closed_terms table) ≡ b → Entry (if b then table else table ++ record { ty = a; closed = t } ∷ []) (place table t) t
found_step table a t true h = there table t h
found_step table a t false h =
    record {
      entry = record { ty = a; closed = t };
      at = ap (slice_get (table ++ record { ty = a; closed = t } ∷ [])) (sym (next_place table t h)) ∙ last table (record { ty = a; closed = t });
      closed = refl;
    }

pub entry_found : (table : List Aux) (a : Ty) (t : Term) → Entry (with_entry table a t) (place table t) t
entry_found table a t = found_step table a t (list_any (is_same t) (closed_terms table)) refl

pub expand_entry : (table : List Aux) (k : ℕ) (t : Term) → Entry table k t → expand table (con (konst.Aux k)) ≡ t
expand_entry table k t e = expand_con table (konst.Aux k) ∙ ap (expanded_at k) e.at ∙ e.closed

-- an entry stays at its place as the table grows twice
pub stays_at : (old new : List Aux) (k : ℕ) (e : Aux) → Grows old new → (more : List Aux) → slice_get old k ≡ Some e → slice_get (new ++ more) k ≡ Some e
stays_at old new k e g more h = within new k e (ap (λ l. slice_get l k) g.is ∙ within old k e h g.more) more
