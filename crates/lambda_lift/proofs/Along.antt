-- Contractions inside terms, and of applied lambdas.
use Rattle.std.proofs.Common.{◌≡◌, ℕ, Bool, true, false, List, [], ◌∷◌, ◌++◌, refl, ap, ◌∙◌}
use Rattle.hol_terms.specs.declared.ty.Ty.{Ty}
use Rattle.hol_terms.specs.declared.konst.Konst.{Konst}
use Rattle.hol_terms.specs.declared.term.Term.{Term, roll-Term, out-Term}
use Rattle.hol_terms.specs.declared.term.Term.TheOpen.{Term-F}
use Rattle.hol_terms.specs.declared.term.Term.TheFolds.{fold-roll-Term}
use Rattle.hol_terms.specs.declared.term.Term.TheViews.{out-roll-Term}
use Rattle.lambda_lift.specs.Closing.{applied_to}
use Rattle.lambda_lift.specs.Contractions.{beta_here, in_child, contracted_at, contracted_along}
use Rattle.lambda_lift.specs.Redexes.{below, spine, spine_step, redexes, redexes_step, app_redexes, lam_redexes}
use Rattle.lambda_lift.proofs.Lifts.{app, lam, con}
use Rattle.lambda_lift.proofs.Chains.{chain}

abbrev bound : ℕ → Term
bound i = roll-Term (Term-F.Bound i)

-- ---- inside
pub along_left : (ps : List (List ℕ)) (f x : Term) → contracted_along (below 0 ps) (app f x) ≡ app (contracted_along ps f) x
unfolding contracted_along contracted_at
along_left [] f x = refl
along_left (p ∷ ps) f x = ap (λ o. contracted_along (below 0 ps) (in_child 0 (app f x) o (contracted_at p))) (out-roll-Term (Term-F.App f x)) ∙ along_left ps (contracted_at p f) x

pub along_right : (ps : List (List ℕ)) (f x : Term) → contracted_along (below 1 ps) (app f x) ≡ app f (contracted_along ps x)
unfolding contracted_along contracted_at
along_right [] f x = refl
along_right (p ∷ ps) f x = ap (λ o. contracted_along (below 1 ps) (in_child 1 (app f x) o (contracted_at p))) (out-roll-Term (Term-F.App f x)) ∙ along_right ps f (contracted_at p x)

pub along_body : (ps : List (List ℕ)) (a : Ty) (b : Term) → contracted_along (below 2 ps) (lam a b) ≡ lam a (contracted_along ps b)
unfolding contracted_along contracted_at
along_body [] a b = refl
along_body (p ∷ ps) a b = ap (λ o. contracted_along (below 2 ps) (in_child 2 (lam a b) o (contracted_at p))) (out-roll-Term (Term-F.Lam a b)) ∙ along_body ps a (contracted_at p b)

pub along_append : (ps qs : List (List ℕ)) (t : Term) → contracted_along (ps ++ qs) t ≡ contracted_along qs (contracted_along ps t)
unfolding contracted_along
along_append [] qs t = refl
along_append (p ∷ ps) qs t = along_append ps qs (contracted_at p t)

along_here : (t : Term) → contracted_along ([] ∷ []) t ≡ beta_here t (out-Term t)
unfolding contracted_along contracted_at
along_here t = refl

pub along_none : (t : Term) → contracted_along [] t ≡ t
unfolding contracted_along
along_none t = refl

-- ---- spines
pub spine_app : (f x : Term) → spine (app f x) ≡ below 0 (spine f) ++ [] ∷ []
spine_app f x = fold-roll-Term (List (List ℕ)) spine_step (Term-F.App f x)

pub spine_con : (k : Konst) → spine (con k) ≡ []
spine_con k = fold-roll-Term (List (List ℕ)) spine_step (Term-F.Con k)

spine_more : (c d : Term) (v : ℕ) → contracted_along (spine (app c (bound v))) (app d (bound v)) ≡ beta_here (app (contracted_along (spine c) d) (bound v)) (out-Term (app (contracted_along (spine c) d) (bound v)))
spine_more c d v =
    ap (λ ps. contracted_along ps (app d (bound v))) (spine_app c (bound v)) ∙ along_append (below 0 (spine c)) ([] ∷ []) (app d (bound v))
    ∙ ap (contracted_along ([] ∷ [])) (along_left (spine c) d (bound v)) ∙ along_here (app (contracted_along (spine c) d) (bound v))

-- `d` in the place of `c`, applied to variables, with the redexes of the spine contracted
pub spine_chain : (vs : List ℕ) (c d : Term) → contracted_along (spine (applied_to c vs)) (applied_to d vs) ≡ chain (contracted_along (spine c) d) vs
spine_chain [] c d = refl
spine_chain (v ∷ vs) c d = spine_chain vs (app c (bound v)) (app d (bound v)) ∙ ap (λ t. chain t vs) (spine_more c d v)

-- ---- what is applied is no lambda
abbrev is_lam : Term-F Term → Bool
is_lam (Term-F.Lam a b) = true
is_lam (Term-F.Bound i) = false
is_lam (Term-F.Free n a) = false
is_lam (Term-F.Con k) = false
is_lam (Term-F.App f x) = false

applied_no_lam : (vs : List ℕ) (c : Term) → is_lam (out-Term c) ≡ false → is_lam (out-Term (applied_to c vs)) ≡ false
applied_no_lam [] c h = h
applied_no_lam (v ∷ vs) c h = applied_no_lam vs (app c (bound v)) (ap is_lam (out-roll-Term (Term-F.App c (bound v))))

spine_where : (t : Term) (o : Term-F Term) (g : Term → List (List ℕ)) → is_lam o ≡ false → lam_redexes t o g ≡ spine t
spine_where t (Term-F.Lam a b) g h = cc
spine_where t (Term-F.Bound i) g h = refl
spine_where t (Term-F.Free n a) g h = refl
spine_where t (Term-F.Con k) g h = refl
spine_where t (Term-F.App f x) g h = refl

-- ---- redexes
pub redexes_app : (f x g y : Term) → redexes (app f x) (app g y) ≡ below 0 (redexes f g) ++ below 1 (redexes x y)
redexes_app f x g y =
    ap (λ h. h (app g y)) (fold-roll-Term (Term → List (List ℕ)) redexes_step (Term-F.App f x)) ∙ ap (λ o. app_redexes o (redexes f) (redexes x)) (out-roll-Term (Term-F.App g y))

pub redexes_under : (a : Ty) (b : Term) (c : Ty) (d : Term) → redexes (lam a b) (lam c d) ≡ below 2 (redexes b d)
redexes_under a b c d =
    ap (λ h. h (lam c d)) (fold-roll-Term (Term → List (List ℕ)) redexes_step (Term-F.Lam a b)) ∙ ap (λ o. lam_redexes (lam c d) o (redexes b)) (out-roll-Term (Term-F.Lam c d))

pub redexes_bound : (i : ℕ) (t : Term) → redexes (roll-Term (Term-F.Bound i)) t ≡ []
redexes_bound i t = ap (λ h. h t) (fold-roll-Term (Term → List (List ℕ)) redexes_step (Term-F.Bound i))

pub redexes_free : (n : ℕ) (a : Ty) (t : Term) → redexes (roll-Term (Term-F.Free n a)) t ≡ []
redexes_free n a t = ap (λ h. h t) (fold-roll-Term (Term → List (List ℕ)) redexes_step (Term-F.Free n a))

pub redexes_con : (k : Konst) (t : Term) → redexes (con k) t ≡ []
redexes_con k t = ap (λ h. h t) (fold-roll-Term (Term → List (List ℕ)) redexes_step (Term-F.Con k))

pub redexes_out : (a : Ty) (b : Term) (k : Konst) (vs : List ℕ) → redexes (lam a b) (applied_to (con k) vs) ≡ spine (applied_to (con k) vs)
redexes_out a b k vs =
    ap (λ h. h (applied_to (con k) vs)) (fold-roll-Term (Term → List (List ℕ)) redexes_step (Term-F.Lam a b))
    ∙ spine_where (applied_to (con k) vs) (out-Term (applied_to (con k) vs)) (redexes b) (applied_no_lam vs (con k) (ap is_lam (out-roll-Term (Term-F.Con k))))

pub redexes_applied : (a : Ty) (b f x : Term) → redexes (lam a b) (app f x) ≡ spine (app f x)
redexes_applied a b f x =
    ap (λ h. h (app f x)) (fold-roll-Term (Term → List (List ℕ)) redexes_step (Term-F.Lam a b))
    ∙ spine_where (app f x) (out-Term (app f x)) (redexes b) (ap is_lam (out-roll-Term (Term-F.App f x)))
