-- The two walks agree at quantifiers, and so everywhere.
use Rattle.std.proofs.Common.{◌≡◌, ℕ, suc, ◌+◌, Bool, true, false, if◌then◌else◌, IsTrue, List, [], ◌∷◌, ◌++◌, length, ap, subst, refl, sym, ◌∙◌, arith, append_assoc}
use Rattle.std.proofs.lemmas.List.{append-nil, length-append}
use Rattle.hol_terms.specs.declared.ty.Ty.{Ty}
use Rattle.hol_terms.specs.declared.konst.Konst.TheVariants as konst
use Rattle.hol_terms.specs.declared.term.Term.{Term}
use Rattle.hol_terms.specs.Substitution.{closed_under, is_closed, instantiated}
use Rattle.hol_terms.specs.Formulas.{var_free}
use Rattle.hol_terms.proofs.Both.{and_true}
use Rattle.hol_terms.proofs.Equations.{closed-free, closed-con, closed-app, closed-lam, var_free-lam}
use Rattle.kernel_rules.specs.Connectives.{apply, lambda, constant, neg, body_of}
use Rattle.kernel_rules.proofs.Parts.{right_of-apply, body_of-lambda}
use Rattle.lambda_lift.specs.declared.table.Aux.{Aux}
use Rattle.lambda_lift.specs.Tables.{expand}
use Rattle.lambda_lift.specs.Standing.{Each, aux_below}
use Rattle.lambda_lift.proofs.Expansions.{Grows, grows_refl, grows_trans, entry_grows, expand_app, expand_con, expand_lam, expand_free}
use Rattle.lambda_lift.proofs.Standings.{each_first}
use Rattle.hol_formulas.specs.declared.formula.Quantifier.{Quantifier}
use Rattle.hol_formulas.specs.declared.formula.Quantifier.TheVariants as quantifiers
use Rattle.hol_formulas.specs.declared.formula.Formula.{Formula, roll-Formula}
use Rattle.hol_formulas.specs.declared.formula.Formula.TheOpen.{Formula-F}
use Rattle.hol_formulas.specs.declared.formula.Formula.TheFolds.{fold-roll-Formula}
use Rattle.formula_clauses.specs.Choices.{put_in, closed_ty, variables, choice, chosen_term, with_choice}
use Rattle.formula_clauses.specs.Walks.{Progress, Opened, walked, next_variable, chosen_value, property, is_universal, quantified_pass}
use Rattle.hol_clausify.specs.Places.{quantifier, term_of}
use Rattle.hol_clausify.specs.Refutations.{refuted, refuted_step, under_quantifier}
use Rattle.hol_clausify.specs.Refutations.{Walk as KernelWalk, Pass as KernelPass, quantified_pass as quantified_refuted, chosen_value as kernel_value}
use Rattle.hol_clausify.specs.Laws.{ClosedTable}
use Rattle.hol_clausify.specs.Variables.{each_free, has_number}
use Rattle.hol_clausify.specs.Shown.{Stands, Fits, RefutedIsWalked}
use Rattle.hol_clausify.proofs.FormulaCases.{formula_by_cases}
use Rattle.hol_clausify.proofs.Opening.{free}
use Rattle.hol_clausify.proofs.Growing.{walk_grows, at-quantified}
use Rattle.hol_clausify.proofs.Reading.{quantifier_is, quantifier_konst, term-quantified}
use Rattle.hol_clausify.proofs.Parts.{quantified_read, body_read}
use Rattle.hol_clausify.proofs.Expanding.{expand_put, below-con, below-app, below-lam}
use Rattle.hol_clausify.proofs.Scopes.{under_scope, put_in-app, put_in-lam}
use Rattle.hol_clausify.proofs.Placed.{closed_put_in, known_put_in, below-free}
use Rattle.hol_clausify.proofs.Free.{free-con, free-lam, free_app, free_put_in, none_free}
use Rattle.hol_clausify.proofs.Choosing.{choice_stands, chosen_shown}
use Rattle.hol_clausify.proofs.Stepping.{more_numbered, next_numbered, below_longer, grows_longer, each_entry, chosen_closed, chosen_known, chosen_numbered}
use Rattle.hol_clausify.proofs.Shadows.{Good, here}
use Rattle.hol_clausify.proofs.Agreeing.{apart, moved, good_true, good_false, good_atom, good_not, good_two}

-- ---- the property of a chosen value
pub property_closed : (q : Quantifier) (a : Ty) (u : Term) → IsTrue (closed_under u 1) → IsTrue (is_closed (property q a u))
property_closed quantifiers.All a u h =
    let k = constant konst.Not in closed-lam a (neg u) 0 ∙ closed-app k u 1 ∙ and_true (closed_under k 1) (closed_under u 1) (closed-con konst.Not 1) h
property_closed quantifiers.Ex a u h = closed-lam a u 0 ∙ h

pub property_known : (n : ℕ) (q : Quantifier) (a : Ty) (u : Term) → IsTrue (aux_below n u) → IsTrue (aux_below n (property q a u))
property_known n quantifiers.All a u h =
    let k = constant konst.Not in below-lam n a (neg u) ∙ below-app n k u ∙ and_true (aux_below n k) (aux_below n u) (below-con n konst.Not) h
property_known n quantifiers.Ex a u h = below-lam n a u ∙ h

pub property_numbered : (p : ℕ → Ty → Bool) (q : Quantifier) (a : Ty) (u : Term) → IsTrue (each_free p u) → IsTrue (each_free p (property q a u))
property_numbered p quantifiers.All a u h = free-lam p a (neg u) ∙ free_app p (constant konst.Not) u (free-con p konst.Not) h
property_numbered p quantifiers.Ex a u h = free-lam p a u ∙ h

property_expanded : (table : List Aux) (q : Quantifier) (a : Ty) (u : Term) → expand table (property q a u) ≡ property q a (expand table u)
property_expanded table quantifiers.All a u =
    let k = constant konst.Not in
    expand_lam table a (neg u) ∙ ap (lambda a) (expand_app table k u ∙ ap (λ c. apply c (expand table u)) (expand_con table konst.Not))
property_expanded table quantifiers.Ex a u = expand_lam table a u

-- ---- a quantifier opened
abbrev pub opening : Bool → Ty → Term → Progress → Opened
opening c a f p = if c then next_variable a p else chosen_value a f p

record Opens (types : List Ty) (e : List Term) (o : Opened) : Type 0 where
  more : List Ty
  stands : Stands (types ++ more) o.after (o.value ∷ e)

pub universal_stands : (types : List Ty) (e : List Term) (a : Ty) (p : Progress) → Stands types p e → Stands (types ++ a ∷ []) (next_variable a p).after (free p.next a ∷ e)
universal_stands types e a p st =
    let v = free p.next a in
    let more = a ∷ [] in
    let n = length p.table in
    record {
      count = length-append types more ∙ ap (λ m. m + 1) st.count;
      closed_table = st.closed_table;
      bare_table = st.bare_table;
      closed = each_first (λ t. IsTrue (is_closed t)) v e (closed-free p.next a 0) st.closed;
      known = each_first (λ t. IsTrue (aux_below n t)) v e (below-free n p.next a) st.known;
      numbered =
          each_first (λ t. IsTrue (each_free (has_number (types ++ more)) t)) v e (subst (λ m. IsTrue (each_free (has_number (types ++ more)) (free m a))) st.count (next_numbered types a))
          (λ i t h. more_numbered types more t (st.numbered i t h));
    }

open_universal : (types : List Ty) (e : List Term) (a : Ty) (p : Progress) → Stands types p e → Opens types e (next_variable a p)
open_universal types e a p st = record { more = a ∷ []; stands = universal_stands types e a p st }

pub chosen_stands : (types : List Ty) (e : List Term) (a : Ty) (f : Term) (p : Progress) → Stands types p e → IsTrue (is_closed f) → IsTrue (each_free (has_number types) f) →
    Stands types (chosen_value a f p).after (chosen_term p.table a f ∷ e)
chosen_stands types e a f p st tight numbered =
    let new = with_choice p.table a f in
    let c = choice p.table a f in
    let ty = closed_ty (variables f) a in
    let alone = choice_stands p.table types a f st.closed_table st.bare_table tight numbered in
    let v = chosen_term p.table a f in
    let longer = grows_longer p.table new (entry_grows p.table ty c) in
    record {
      count = st.count;
      closed_table = each_entry (λ x. IsTrue (is_closed x.closed)) p.table ty c st.closed_table alone.0;
      bare_table = each_entry (λ x. IsTrue (var_free x.closed)) p.table ty c st.bare_table alone.1;
      closed = each_first (λ t. IsTrue (is_closed t)) v e (chosen_closed p.table a f) st.closed;
      known = each_first (λ t. IsTrue (aux_below (length new) t)) v e (chosen_known p.table a f) (λ i t h. below_longer (length p.table) (length new) longer t (st.known i t h));
      numbered = each_first (λ t. IsTrue (each_free (has_number types) t)) v e (chosen_numbered types p.table a f numbered) st.numbered;
    }

open_chosen : (types : List Ty) (e : List Term) (a : Ty) (f : Term) (p : Progress) → Stands types p e → IsTrue (is_closed f) → IsTrue (each_free (has_number types) f) → Opens types e (chosen_value a f p)
open_chosen types e a f p st tight numbered =
    record {
      more = [];
      stands = subst (λ ts. Stands ts (chosen_value a f p).after (chosen_term p.table a f ∷ e)) (sym (append-nil types)) (chosen_stands types e a f p st tight numbered);
    }

open_stands : (c : Bool) (types : List Ty) (e : List Term) (a : Ty) (f : Term) (p : Progress) → Stands types p e → IsTrue (is_closed f) → IsTrue (each_free (has_number types) f) → Opens types e (opening c a f p)
open_stands true types e a f p st tight numbered = open_universal types e a p st
open_stands false types e a f p st tight numbered = open_chosen types e a f p st tight numbered

pub opening_grows : (c : Bool) (a : Ty) (f : Term) (p : Progress) → Grows p.table (opening c a f p).after.table
opening_grows true a f p = grows_refl p.table
opening_grows false a f p = entry_grows p.table (closed_ty (variables f) a) (choice p.table a f)

value_shown : (c : Bool) (q : Quantifier) (a : Ty) (u : Term) (p : Progress) (types : List Ty) (e : List Term) (table : List Aux) → Stands types p e → IsTrue (aux_below (length p.table) (property q a u)) →
    Grows (opening c a (property q a u) p).after.table table →
    (if c then free p.next a else kernel_value a (property q a (expand table u))) ≡ expand table (opening c a (property q a u) p).value
value_shown true q a u p types e table st known g = sym (expand_free table p.next a)
value_shown false q a u p types e table st known g =
    let f = property q a u in
    let shown = chosen_shown p.table a f g.more st.bare_table known in
    ap (kernel_value a) (sym (property_expanded table q a u)) ∙ sym (subst (λ z. expand z (chosen_term p.table a f) ≡ kernel_value a (expand z f)) (sym g.is) shown)

next_shown : (c : Bool) (a : Ty) (f : Term) (p : Progress) → (if c then p.next + 1 else p.next) ≡ (opening c a f p).after.next
next_shown true a f p = refl
next_shown false a f p = refl

-- ---- what is at a quantifier's place
body_here : (table : List Aux) (e : List Term) (q : Quantifier) (a : Ty) (t : Term) → under_quantifier (here table e (quantifier q a (lambda a t))) ≡ expand table (put_in e t 1)
body_here table e q a t =
    let k = constant (quantifier_konst q a) in
    ap (λ z. under_quantifier (here table e z)) (quantifier_is q a (lambda a t))
    ∙ ap (λ z. under_quantifier (expand table z)) (put_in-app e k (lambda a t) 0)
    ∙ ap under_quantifier (expand_app table (put_in e k 0) (put_in e (lambda a t) 0))
    ∙ ap body_of (right_of-apply (expand table (put_in e k 0)) (expand table (put_in e (lambda a t) 0)) ∙ ap (expand table) (put_in-lam e a t 0) ∙ expand_lam table a (put_in e t 1))
    ∙ body_of-lambda a (expand table (put_in e t 1))

refuted-quantified : (q : Quantifier) (a : Ty) (t : Term) (b : Formula) (s : Bool) (u : Term) →
    refuted (roll-Formula (Formula-F.Quantified q a t b)) s u ≡ quantified_refuted q a (refuted b) s (under_quantifier u)
unfolding refuted
refuted-quantified q a t b s u = ap (λ (g : KernelWalk). g s u) (fold-roll-Formula KernelWalk refuted_step (Formula-F.Quantified q a t b))

part_here : (table : List Aux) (e : List Term) (v t : Term) → ClosedTable table → Each (λ z. IsTrue (is_closed z)) e → IsTrue (is_closed v) → IsTrue (closed_under t (length e + 1)) →
    instantiated (expand table (put_in e t 1)) (expand table v) ≡ here table (v ∷ e) t
part_here table e v t closed all tight body =
    let more : length e + 1 ≡ length e + 1 + 0 = omega arith in
    sym (expand_put table closed v (put_in e t 1) 0) ∙ ap (expand table) (under_scope e v all tight t 0 (subst (λ d. IsTrue (closed_under t d)) more body))

pub tail_stands : (types : List Ty) (p : Progress) (v : Term) (e : List Term) → Stands types p (v ∷ e) → Stands types p e
tail_stands types p v e st =
    record {
      count = st.count;
      closed_table = st.closed_table;
      bare_table = st.bare_table;
      closed = λ i. st.closed (suc i);
      known = λ i. st.known (suc i);
      numbered = λ i. st.numbered (suc i);
    }

pub good_quantified : (q : Quantifier) (a : Ty) (t : Term) (b : Formula) → Good b → Good (roll-Formula (Formula-F.Quantified q a t b))
good_quantified q a t b gb s e types p r st ft =
    let f = roll-Formula (Formula-F.Quantified q a t b) in
    let n = length p.table in
    let c = is_universal q s in
    let u = put_in e t 1 in
    let f0 = property q a u in
    let o = opening c a f0 p in
    let v = o.value in
    let read = body_read t b (quantified_read q a t b r) in
    let fits = (apart p e (constant (quantifier_konst q a)) (lambda a t) (subst (Fits p e) (term-quantified q a t b ∙ quantifier_is q a (lambda a t)) ft)).1 in
    let tight : IsTrue (closed_under t (length e + 1)) = subst IsTrue (closed-lam a t (length e)) fits.closed in
    let known : IsTrue (aux_below n t) = subst IsTrue (below-lam n a t) fits.known in
    let bare : IsTrue (var_free t) = subst IsTrue (var_free-lam a t) fits.bare in
    let p_known = property_known n q a u (known_put_in n e st.known t 1 known) in
    let op =
    open_stands c types e a f0 p st (property_closed q a u (closed_put_in e st.closed t 1 tight))
    (property_numbered (has_number types) q a u (free_put_in (has_number types) e st.numbered t 1 (none_free (has_number types) t bare))) in
    let one : length e + 1 ≡ length (v ∷ e) = omega arith in
    let later : Fits o.after (v ∷ e) t =
    record {
      closed = subst (λ d. IsTrue (closed_under t d)) one tight;
      known = below_longer n (length o.after.table) (grows_longer p.table o.after.table (opening_grows c a f0 p)) t known;
      bare = bare;
    } in
    let ih = gb s (v ∷ e) (types ++ op.more) o.after read.0 op.stands (subst (Fits o.after (v ∷ e)) (sym read.1) later) in
    let w = walked b s (v ∷ e) o.after in
    moved types e (walked f s e) (quantified_pass q a t (walked b) s e) (λ table. refuted f s (here table e (term_of f))) (λ table. refuted f s (here table e (term_of f))) p
    (at-quantified q a t b s e) (λ table. refl)
    (record {
      more = op.more ++ ih.more;
      stands = subst (λ ts. Stands ts w.after e) (append_assoc types op.more ih.more) (tail_stands ((types ++ op.more) ++ ih.more) w.after v e ih.stands);
      shows = λ table g closed.
          ap (λ (k : KernelPass). k p.next) (refuted-quantified q a t b s (here table e (term_of f)))
          ∙ ap (λ z. quantified_refuted q a (refuted b) s z p.next) (ap (λ z. under_quantifier (here table e z)) (term-quantified q a t b) ∙ body_here table e q a t)
          ∙ (λ i.
          refuted b s
          (instantiated (expand table u) (value_shown c q a u p types e table st p_known (grows_trans o.after.table w.after.table table (walk_grows b s (v ∷ e) o.after) g) i))
          (next_shown c a f0 p i))
          ∙ ap (λ z. refuted b s z o.after.next) (part_here table e v t closed st.closed (op.stands.closed 0 v refl) tight ∙ ap (here table (v ∷ e)) (sym read.1))
          ∙ ih.shows table g closed;
    })

pub walks_agree : (f : Formula) → Good f
walks_agree = formula_by_cases Good good_true good_false good_atom good_not good_two good_quantified

pub refuted_is_walked : (f : Formula) (s : Bool) (types : List Ty) (next : ℕ) (table : List Aux) (e : List Term) (more : List Aux) → RefutedIsWalked f s types next table e more
refuted_is_walked f s types next table e more r st ft closed =
    let p : Progress = record { next = next; table = table } in (walks_agree f s e types p r st ft).shows ((walked f s e p).after.table ++ more) (record { more = more; is = refl }) closed
