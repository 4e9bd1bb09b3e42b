-- The expanded body is the formula up to contractions.
use Rattle.std.proofs.Common.{◌≡◌, ℕ, IsTrue, List, [], ◌∷◌, length, sym, ap, ◌∙◌}
use Rattle.hol_terms.specs.declared.ty.Ty.{Ty}
use Rattle.hol_terms.specs.declared.konst.Konst.TheVariants as konst
use Rattle.hol_terms.specs.declared.sig.Sig.{Sig}
use Rattle.hol_terms.specs.declared.term.Term.{Term, roll-Term}
use Rattle.hol_terms.specs.declared.term.Term.TheOpen.{Term-F}
use Rattle.hol_terms.specs.Formulas.{aux_free}
use Rattle.lambda_lift.specs.declared.table.Aux.{Aux}
use Rattle.lambda_lift.specs.Tables.{place, with_entry, own_ty, expand}
use Rattle.lambda_lift.specs.Closing.{closed_over, occurs_in, variables, applied_to, ty_at}
use Rattle.lambda_lift.specs.Walks.{Stage, Walked, lifted_out}
use Rattle.lambda_lift.specs.Contractions.{contracted_along}
use Rattle.lambda_lift.specs.Redexes.{below, redexes}
use Rattle.lambda_lift.proofs.Lifts.{app, lam, con, Lifts, kept_bound, kept_free, kept_con, out, applied, under}
use Rattle.lambda_lift.proofs.Chains.{chain, chain_is}
use Rattle.lambda_lift.proofs.Along.{along_left, along_right, along_body, along_append, along_none, spine_chain, spine_con, redexes_app, redexes_under, redexes_bound, redexes_free, redexes_con, redexes_out}
use Rattle.lambda_lift.proofs.Expansions.{expand_app, expand_lam, expand_applied, expand_stays, expand_entry, Grows, grows_refl, grows_trans, entry_grows, entry_found, entry_stays}

module _ (sig : Sig) where
  -- the table only grows
  pub lifts_grow : (t : Term) (binders : List Ty) (s : Stage) (w : Walked) → Lifts sig t binders s w → Grows s.table w.after.table
  lifts_grow _ _ _ _ (kept_bound i binders s) = grows_refl s.table
  lifts_grow _ _ _ _ (kept_free n a binders s) = grows_refl s.table
  lifts_grow _ _ _ _ (kept_con k binders s) = grows_refl s.table
  lifts_grow _ _ _ _ (out a b binders s h) = entry_grows s.table (own_ty sig (closed_over binders (lam a b))) (closed_over binders (lam a b))
  lifts_grow _ _ _ _ (applied f x binders s v w hf hx) = grows_trans s.table v.after.table w.after.table (lifts_grow f binders s v hf) (lifts_grow x binders v.after w hx)
  lifts_grow _ _ _ _ (under a b binders s w h) = lifts_grow b (a ∷ binders) s w h

  -- the redexes that the expanded term has and the term hasn't, contracted, give the term
  abbrev Back : Term → Walked → Type 0
  Back t w = (table : List Aux) → Grows w.after.table table → contracted_along (redexes t w.term) (expand table w.term) ≡ expand table t

  unmoved : (t : Term) (ps : List (List ℕ)) (table : List Aux) → ps ≡ [] → contracted_along ps (expand table t) ≡ expand table t
  unmoved t ps table e = ap (λ ps. contracted_along ps (expand table t)) e ∙ along_none (expand table t)

  out_back : (a : Ty) (b : Term) (binders : List Ty) (s : Stage) (h : IsTrue (aux_free (lam a b))) → Back (lam a b) (lifted_out sig (lam a b) binders s)
  out_back a b binders s h table grows =
      let t = lam a b in
      let closed = closed_over binders t in
      let k = place s.table closed in
      let vs = variables (occurs_in t) (length binders) in
      let stands = expand_entry table k closed (entry_stays (with_entry s.table (own_ty sig closed) closed) table k closed grows (entry_found s.table (own_ty sig closed) closed)) in
      (λ i. contracted_along (redexes_out a b (konst.Aux k) vs i) ((expand_applied table vs (con (konst.Aux k)) ∙ ap (λ c. applied_to c vs) stands) i))
      ∙ spine_chain vs (con (konst.Aux k)) closed ∙ ap (λ ps. chain (contracted_along ps closed) vs) (spine_con (konst.Aux k)) ∙ ap (λ c. chain c vs) (along_none closed)
      ∙ chain_is (occurs_in t) (ty_at binders) t (length binders) ∙ sym (expand_stays table t h)

  app_back : (f x g y : Term) (table : List Aux) → contracted_along (redexes f g) (expand table g) ≡ expand table f → contracted_along (redexes x y) (expand table y) ≡ expand table x →
      contracted_along (redexes (app f x) (app g y)) (expand table (app g y)) ≡ expand table (app f x)
  app_back f x g y table hf hx =
      (λ i. contracted_along (redexes_app f x g y i) (expand_app table g y i)) ∙ along_append (below 0 (redexes f g)) (below 1 (redexes x y)) (app (expand table g) (expand table y))
      ∙ ap (contracted_along (below 1 (redexes x y))) (along_left (redexes f g) (expand table g) (expand table y) ∙ ap (λ t. app t (expand table y)) hf)
      ∙ along_right (redexes x y) (expand table f) (expand table y) ∙ ap (app (expand table f)) hx ∙ sym (expand_app table f x)

  under_back : (a : Ty) (b d : Term) (table : List Aux) → contracted_along (redexes b d) (expand table d) ≡ expand table b →
      contracted_along (redexes (lam a b) (lam a d)) (expand table (lam a d)) ≡ expand table (lam a b)
  under_back a b d table h =
      (λ i. contracted_along (redexes_under a b a d i) (expand_lam table a d i)) ∙ along_body (redexes b d) a (expand table d) ∙ ap (lam a) h ∙ sym (expand_lam table a b)

  pub lifts_back : (t : Term) (binders : List Ty) (s : Stage) (w : Walked) → Lifts sig t binders s w → Back t w
  lifts_back _ _ _ _ (kept_bound i binders s) table g = unmoved (roll-Term (Term-F.Bound i)) _ table (redexes_bound i _)
  lifts_back _ _ _ _ (kept_free n a binders s) table g = unmoved (roll-Term (Term-F.Free n a)) _ table (redexes_free n a _)
  lifts_back _ _ _ _ (kept_con k binders s) table g = unmoved (con k) _ table (redexes_con k _)
  lifts_back _ _ _ _ (out a b binders s h) table g = out_back a b binders s h table g
  lifts_back _ _ _ _ (applied f x binders s v w hf hx) table g =
      app_back f x v.term w.term table (lifts_back f binders s v hf table (grows_trans v.after.table w.after.table table (lifts_grow x binders v.after w hx) g)) (lifts_back x binders v.after w hx table g)
  lifts_back _ _ _ _ (under a b binders s w h) table g = under_back a b w.term table (lifts_back b (a ∷ binders) s w h table g)
