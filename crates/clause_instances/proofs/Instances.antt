-- What is put for a clause's variables is given to rules, and gives the theorem of the clause's instance.
use Rattle.std.proofs.Common.{◌≡◌, ℕ, Bool, true, false, ◌&&◌, ◌==◌, if◌then◌else◌, IsTrue, List, [], ◌∷◌, map, refl, sym, ap, subst, ◌∙◌, inl, inr, Some}
use Rattle.std.specs.Prelude.{Result, IfOk}
use Rattle.hol_terms.specs.declared.ty.Ty.{Ty}
use Rattle.hol_terms.specs.declared.konst.Konst.TheVariants as konst
use Rattle.hol_terms.specs.declared.sig.Sig.{Sig}
use Rattle.hol_terms.specs.declared.term.Term.{Term}
use Rattle.hol_terms.specs.Types.{is_ty, ty_fits}
use Rattle.hol_terms.specs.Substitution.{put_free}
use Rattle.hol_terms.proofs.Both.{both_true, and_true, true_or_false}
use Rattle.hol_terms.proofs.Equations.{put_free-app, put_free-con}
use Rattle.hol_terms.proofs.Formulas.{var_free_stays}
use Rattle.hol_terms.proofs.TyCases.{is_ty_itself, is_ty_same}
use Rattle.fo_terms.specs.declared.term.FoTerm.{FoTerm}
use Rattle.fo_terms.specs.declared.literal.Literal.{Literal}
use Rattle.fo_terms.specs.Substitution.{put_literals}
use Rattle.fo_terms.proofs.Induction.{Each}
use Rattle.fo_terms.proofs.Substitution.{equal_true, equal_from, true_left, true_right}
use Rattle.tagged_terms.specs.Readings.{Signs, Types}
use Rattle.tagged_terms.specs.Clauses as tagged
use Rattle.tagged_terms.specs.Fits.{typed_put}
use Rattle.tagged_terms.proofs.Typing.{readings_typed}
use Rattle.tagged_lines.specs.declared.variable.TypedVariable.{TypedVariable}
use Rattle.tagged_lines.specs.TypedLiterals.{IsIn, typed_literals}
use Rattle.tagged_lines.specs.Variables.{own}
use Rattle.tagged_lines.specs.Tags.{variable_of, typed_variables}
use Rattle.tagged_lines.proofs.AgreeingInstances.{instances_agree}
use Rattle.tagged_lines.proofs.OwnTypes.{own_types_serve}
use Rattle.tagged_lines.proofs.Tags.{own_tagged}
use Rattle.hyp_sets.specs.Sets.{Among}
use Rattle.kernel_rules.specs.declared.step.ThmId.{ThmId}
use Rattle.kernel_rules.specs.Connectives.{apply, constant, neg, falsum}
use Rattle.hol_kernel.specs.Logs.{Logged, thm}
use Rattle.hol_kernel.specs.Conditions.{IsGiven}
use Rattle.hol_derived.proofs.ContextLaws.{given_from}
use Rattle.hol_clauses.specs.declared.binding.Binding.{Binding}
use Rattle.hol_clauses.specs.Bindings.{looked_up, AllGiven}
use Rattle.hol_clauses.specs.Literals.{denied, allowed}
use Rattle.hol_clauses.proofs.Clauses.{among_image}
use Rattle.clause_instances.specs.AtOnce.{is_bound, PutAtOnce}
use Rattle.clause_instances.specs.inner.Variables.{distinct_variables}
use Rattle.clause_instances.specs.Theorems.{as_literal, clause_of, AreSigns, Lands, HasInstance, binding}
use Rattle.clause_instances.proofs.Answered.{if_ok_map}
use Rattle.clause_instances.proofs.Gathered.{in_new, each_added}
use Rattle.clause_instances.proofs.OwnTyped.{HasItsType, own_typed}

-- ---- literals

module _ (put : ℕ → Ty → Term) where
  denied_one : (a : Term) (positive : Bool) → put_free put (if positive then neg a else a) ≡ (if positive then neg (put_free put a) else put_free put a)
  denied_one a true = put_free-app put (constant konst.Not) a ∙ ap (λ k. apply k (put_free put a)) (put_free-con put konst.Not)
  denied_one a false = refl

  denied_put : (ts : List tagged.TypedLiteral) → map (put_free put) (map denied (map as_literal ts)) ≡ map denied (map as_literal (typed_literals put ts))
  denied_put [] = refl
  denied_put (t ∷ ts) = λ i. denied_one t.atom t.positive i ∷ denied_put ts i

-- ---- what a listed variable is bound to

module _ (signs : Signs) (u : ℕ → FoTerm) where
  itself : (x : ℕ) (s : Ty) (v : TypedVariable) → v ≡ variable_of x s → (x == v.var && is_ty s v.ty) ≡ true
  itself x s v e = subst (λ w. (x == w.var && is_ty s w.ty) ≡ true) (sym e) (and_true (x == x) (is_ty s s) (equal_true x) (is_ty_itself s))

  bound_in : (vs : List TypedVariable) (x : ℕ) (s : Ty) → IsIn vs (variable_of x s) → IsTrue (is_bound (map (binding signs u) vs) x s)
  bound_in [] x s h = absurd h
  bound_in (v ∷ vs) x s (inl e) = true_left (x == v.var && is_ty s v.ty) (is_bound (map (binding signs u) vs) x s) (itself x s v e)
  bound_in (v ∷ vs) x s (inr h) = true_right (x == v.var && is_ty s v.ty) (is_bound (map (binding signs u) vs) x s) (bound_in vs x s h)

  looked_step : (v : TypedVariable) (vs : List TypedVariable) (x : ℕ) (s : Ty) (rest : Term) (test : Bool) → (x == v.var && is_ty s v.ty) ≡ test → IsIn (v ∷ vs) (variable_of x s) → (IsIn vs (variable_of x s) → rest ≡ typed_put signs u x s)
      → (if test then typed_put signs u v.var v.ty else rest) ≡ typed_put signs u x s
  looked_step v vs x s rest true e h k = let same = both_true (x == v.var) (is_ty s v.ty) e in λ i. typed_put signs u (sym (equal_from x v.var same.0) i) (sym (is_ty_same s v.ty same.1) i)
  looked_step v vs x s rest false e (inl is) k = absurd (true_or_false (x == v.var && is_ty s v.ty) (itself x s v is) e)
  looked_step v vs x s rest false e (inr h) k = k h

  looked_in : (vs : List TypedVariable) (x : ℕ) (s : Ty) → IsIn vs (variable_of x s) → looked_up (map (binding signs u) vs) x s ≡ typed_put signs u x s
  looked_in [] x s h = absurd h
  looked_in (v ∷ vs) x s h = looked_step v vs x s (looked_up (map (binding signs u) vs) x s) (x == v.var && is_ty s v.ty) refl h (looked_in vs x s)

-- ---- an instance

module _ (sig : Sig) (signs : Signs) (u : ℕ → FoTerm) (ls : List Literal) (serve : AreSigns sig signs) (p : HasInstance sig signs u ls) where
  abbrev mine : Types
  mine = own ls p.old

  abbrev vs : List TypedVariable
  vs = distinct_variables signs ls

  all_typed : Each (HasItsType signs mine) vs
  all_typed = each_added (HasItsType signs mine) [] (typed_variables signs ls) tt (own_typed signs mine ls (own_types_serve ls signs p.old p.tagged).0)

  given_one : (v : TypedVariable) → mine v.var ≡ Some v.ty → IsTrue (ty_fits sig.types v.ty) × IsGiven sig (typed_put signs u v.var v.ty) v.ty
  given_one v h =
      let typed = (readings_typed (u v.var) sig signs p.new serve.typed p.of v.ty (typed_put signs u v.var v.ty)).0 (p.instance.fits v.var v.ty h) in
      ((own_types_serve ls signs p.old p.tagged).1 sig serve.typed v.var v.ty h, given_from sig (typed_put signs u v.var v.ty) v.ty typed.0 typed.1)

  all_given : (ws : List TypedVariable) → Each (HasItsType signs mine) ws → AllGiven sig (map (binding signs u) ws)
  all_given [] h = tt
  all_given (w ∷ ws) h = (given_one w h.0, all_given ws h.1)

  pub bindings_given : AllGiven sig (map (binding signs u) vs)
  bindings_given = all_given vs all_typed

  module _ (put : ℕ → Ty → Term) (bound : (n : ℕ) (a : Ty) → IsTrue (is_bound (map (binding signs u) vs) n a) → put n a ≡ looked_up (map (binding signs u) vs) n a) where
    agrees : (x : ℕ) (s : Ty) → own ls p.old x ≡ Some s → put x s ≡ typed_put signs u x s
    agrees x s h =
        let there = in_new [] (typed_variables signs ls) (variable_of x s) (own_tagged ls signs p.old p.tagged x s h) in
        bound x s (bound_in signs u vs x s there) ∙ looked_in signs u vs x s there

    literals_are : typed_literals put (tagged.literals_of signs ls) ≡ tagged.literals_of signs (put_literals u ls)
    literals_are = instances_agree ls signs p.old put (typed_put signs u) serve.closed p.tagged agrees ∙ sym p.instance.stands

    denied_are : map (put_free put) (map denied (clause_of signs ls)) ≡ map denied (clause_of signs (put_literals u ls))
    denied_are = denied_put put (tagged.literals_of signs ls) ∙ ap (λ ts. map denied (map as_literal ts)) literals_are

  lands : (old new : Logged) (th r : ℕ) → (thm old th).concl ≡ falsum → PutAtOnce old new (map (binding signs u) vs) th r → Lands old new th (clause_of signs ls) r (clause_of signs (put_literals u ls))
  lands old new th r is_false put = record {
    is_thm = put.gives.is_thm;
    concl = ap (λ q. q.concl) put.gives.is ∙ ap (put_free put.put) is_false ∙ put_free-con put.put konst.False;
    lifts = λ base free within. subst (λ q. Among q.hyps (allowed base (clause_of signs (put_literals u ls)))) (sym put.gives.is)
        (among_image (put_free put.put) base (clause_of signs ls) (clause_of signs (put_literals u ls)) (thm old th).hyps (λ x k. var_free_stays put.put x (free x k)) (denied_are put.put put.bound) within);
  }

  pub instance_lands : {E : Type 0} (old new : Logged) (th : ℕ) (bs : List Binding) (r : Result ThmId E) → (thm old th).concl ≡ falsum → bs ≡ map (binding signs u) vs → IfOk r (λ s. PutAtOnce old new bs th s.0)
      → IfOk r (λ s. Lands old new th (clause_of signs ls) s.0 (clause_of signs (put_literals u ls)))
  instance_lands old new th bs r is_false are h =
      if_ok_map r (λ s. PutAtOnce old new bs th s.0) (λ s. Lands old new th (clause_of signs ls) s.0 (clause_of signs (put_literals u ls)))
      (λ s q. lands old new th s.0 is_false (subst (λ zs. PutAtOnce old new zs th s.0) are q)) h
