-- The two definitions of contraction at paths agree.
use Rattle.std.proofs.Common.{◌≡◌, ℕ, false, if◌then◌else◌, ◌==◌, ap, refl, sym, ◌∙◌, List, [], ◌∷◌}
use Rattle.hol_terms.specs.declared.ty.Ty.{Ty}
use Rattle.hol_terms.specs.declared.konst.Konst.{Konst}
use Rattle.hol_terms.specs.declared.term.Term.{Term, roll-Term, out-Term}
use Rattle.hol_terms.specs.declared.term.Term.TheOpen.{Term-F}
use Rattle.hol_terms.specs.declared.term.Term.TheViews.{out-roll-Term}
use Rattle.hol_terms.proofs.TermCases.{by_cases}
use Rattle.kernel_rules.specs.Connectives.{apply, lambda, constant, contracted, is_redex, redex_at, lambda_at}
use Rattle.hol_derived.specs.Contractions as derived
use Rattle.hol_derived.proofs.PathLaws.{here_redex, at_bound, at_free, at_con, here_lam}
use Rattle.hol_derived.proofs.PutPut.{bound}
use Rattle.lambda_lift.specs.Contractions as lift

abbrev Here : Term → Type 0
Here t = derived.contracted_here t ≡ lift.beta_here t (out-Term t)

-- an application whose function is no lambda
plain : (f x : Term) → lambda_at (out-Term f) ≡ false → derived.contracted_here (apply f x) ≡ apply f x
unfolding is_redex
plain f x h = ap (λ b. if b then contracted (apply f x) else apply f x) (ap redex_at (out-roll-Term (Term-F.App f x)) ∙ h)

stays : (f x : Term) → lift.beta_at (apply f x) x (out-Term f) ≡ apply f x → lift.beta_here (apply f x) (out-Term (apply f x)) ≡ apply f x
stays f x h = ap (lift.beta_here (apply f x)) (out-roll-Term (Term-F.App f x)) ∙ h

kept : (f x : Term) → lambda_at (out-Term f) ≡ false → lift.beta_at (apply f x) x (out-Term f) ≡ apply f x → Here (apply f x)
kept f x l b = plain f x l ∙ sym (stays f x b)

-- for a function of each kind: `y` is what it is made of
made : (y : Term-F Term) (x : Term) → lambda_at y ≡ false → lift.beta_at (apply (roll-Term y) x) x y ≡ apply (roll-Term y) x → Here (apply (roll-Term y) x)
made y x l b = kept (roll-Term y) x (ap lambda_at (out-roll-Term y) ∙ l) (ap (lift.beta_at (apply (roll-Term y) x) x) (out-roll-Term y) ∙ b)

redex : (a : Ty) (b x : Term) → Here (apply (lambda a b) x)
redex a b x =
    here_redex a b x
    ∙ sym (ap (lift.beta_here (apply (lambda a b) x)) (out-roll-Term (Term-F.App (lambda a b) x)) ∙ ap (lift.beta_at (apply (lambda a b) x) x) (out-roll-Term (Term-F.Lam a b)))

applied : (f x : Term) → Here (apply f x)
applied f x =
    by_cases (λ g. Here (apply g x)) (λ i. made (Term-F.Bound i) x refl refl) (λ n a. made (Term-F.Free n a) x refl refl) (λ c. made (Term-F.Con c) x refl refl)
    (λ g u _ _. made (Term-F.App g u) x refl refl) (λ a b _. redex a b x) f

here : (t : Term) → Here t
here =
    by_cases Here (λ i. at_bound [] i ∙ sym (ap (lift.beta_here (bound i)) (out-roll-Term (Term-F.Bound i))))
    (λ n a. at_free [] n a ∙ sym (ap (lift.beta_here (roll-Term (Term-F.Free n a))) (out-roll-Term (Term-F.Free n a))))
    (λ c. at_con [] c ∙ sym (ap (lift.beta_here (constant c)) (out-roll-Term (Term-F.Con c)))) (λ f x _ _. applied f x)
    (λ a b _. here_lam a b ∙ sym (ap (lift.beta_here (lambda a b)) (out-roll-Term (Term-F.Lam a b))))

child : (d : ℕ) (t : Term) (y : Term-F Term) (g h : Term → Term) → ((u : Term) → g u ≡ h u) → derived.in_child d t y g ≡ lift.in_child d t y h
child d t (Term-F.Bound i) g h e = refl
child d t (Term-F.Free n a) g h e = refl
child d t (Term-F.Con c) g h e = refl
child d t (Term-F.App f x) g h e = λ i. if d == 0 then apply (e f i) x else (if d == 1 then apply f (e x i) else t)
child d t (Term-F.Lam a b) g h e = λ i. if d == 2 then lambda a (e b i) else t

pub same_at : (path : List ℕ) (t : Term) → derived.contracted_at path t ≡ lift.contracted_at path t
unfolding lift.contracted_at
same_at [] t = here t
same_at (d ∷ path) t = child d t (out-Term t) (derived.contracted_at path) (lift.contracted_at path) (same_at path)

pub same_along : (paths : List (List ℕ)) (t : Term) → derived.contracted_along paths t ≡ lift.contracted_along paths t
unfolding lift.contracted_along
same_along [] t = refl
same_along (p ∷ ps) t = ap (derived.contracted_along ps) (same_at p t) ∙ same_along ps (lift.contracted_at p t)
