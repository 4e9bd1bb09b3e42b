-- Contractions at a path, of each kind of term; they change places with a variable that is put for an index.
use Rattle.std.proofs.Common.{◌≡◌, ℕ, ◌+◌, ◌-◌, ◌<◌, Bool, true, false, ◌==◌, if◌then◌else◌, ap, sym, ◌∙◌, arith, List, [], ◌∷◌}
use Rattle.hol_terms.specs.declared.ty.Ty.{Ty}
use Rattle.hol_terms.specs.declared.konst.Konst.{Konst}
use Rattle.hol_terms.specs.declared.term.Term.{Term, roll-Term}
use Rattle.hol_terms.specs.declared.term.Term.TheOpen.{Term-F}
use Rattle.hol_terms.specs.declared.term.Term.TheViews.{out-roll-Term}
use Rattle.hol_terms.specs.Substitution.{put, occurs}
use Rattle.hol_terms.proofs.TermCases.{by_cases}
use Rattle.hol_terms.proofs.Equations.{put-free, put-con, put-app, put-lam, occurs-app, occurs-lam}
use Rattle.kernel_rules.specs.Connectives.{apply, lambda, applied_to, is_redex, redex_at, lambda_at, is_lambda, contracted}
use Rattle.kernel_rules.proofs.Parts.{function_of-apply, right_of-apply}
use Rattle.hol_derived.specs.Contractions.{contracted_here, in_child, contracted_at}
use Rattle.hol_derived.proofs.ContextLaws.{applied_lambda}
use Rattle.hol_derived.proofs.PutPut.{bound, put_below, put_above, put_v, put_put}
use Rattle.hol_derived.proofs.Fresh.{neither, both_false, occurs_put}

-- ---- telling lambdas and redexes
is_lambda_of : (y : Term-F Term) → is_lambda (roll-Term y) ≡ lambda_at y
unfolding is_lambda
is_lambda_of y = ap lambda_at (out-roll-Term y)

is_redex_of : (y : Term-F Term) → is_redex (roll-Term y) ≡ redex_at y
unfolding is_redex
is_redex_of y = ap redex_at (out-roll-Term y)

is_redex_app : (f x : Term) → is_redex (apply f x) ≡ is_lambda f
unfolding is_redex is_lambda
is_redex_app f x = ap redex_at (out-roll-Term (Term-F.App f x))

here_so : (t : Term) → is_redex t ≡ true → contracted_here t ≡ contracted t
here_so t h = ap (λ b. if b then contracted t else t) h

here_same : (t : Term) → is_redex t ≡ false → contracted_here t ≡ t
here_same t h = ap (λ b. if b then contracted t else t) h

pub here_redex : (a : Ty) (b x : Term) → contracted_here (apply (lambda a b) x) ≡ put x b 0
here_redex a b x =
    here_so (apply (lambda a b) x) (is_redex_app (lambda a b) x ∙ is_lambda_of (Term-F.Lam a b))
    ∙ (λ i. applied_to (function_of-apply (lambda a b) x i) (right_of-apply (lambda a b) x i)) ∙ applied_lambda a b x

here_plain : (f x : Term) → is_lambda f ≡ false → contracted_here (apply f x) ≡ apply f x
here_plain f x h = here_same (apply f x) (is_redex_app f x ∙ h)

-- ---- each kind of term
pub at_bound : (path : List ℕ) (i : ℕ) → contracted_at path (bound i) ≡ bound i
at_bound [] i = here_same (bound i) (is_redex_of (Term-F.Bound i))
at_bound (d ∷ path) i = ap (λ y. in_child d (bound i) y (contracted_at path)) (out-roll-Term (Term-F.Bound i))

pub at_free : (path : List ℕ) (n : ℕ) (a : Ty) → contracted_at path (roll-Term (Term-F.Free n a)) ≡ roll-Term (Term-F.Free n a)
at_free [] n a = here_same (roll-Term (Term-F.Free n a)) (is_redex_of (Term-F.Free n a))
at_free (d ∷ path) n a = ap (λ y. in_child d (roll-Term (Term-F.Free n a)) y (contracted_at path)) (out-roll-Term (Term-F.Free n a))

pub at_con : (path : List ℕ) (c : Konst) → contracted_at path (roll-Term (Term-F.Con c)) ≡ roll-Term (Term-F.Con c)
at_con [] c = here_same (roll-Term (Term-F.Con c)) (is_redex_of (Term-F.Con c))
at_con (d ∷ path) c = ap (λ y. in_child d (roll-Term (Term-F.Con c)) y (contracted_at path)) (out-roll-Term (Term-F.Con c))

pub here_lam : (a : Ty) (b : Term) → contracted_here (lambda a b) ≡ lambda a b
here_lam a b = here_same (lambda a b) (is_redex_of (Term-F.Lam a b))

pub at_app : (d : ℕ) (path : List ℕ) (f x : Term) →
    contracted_at (d ∷ path) (apply f x) ≡ (if d == 0 then apply (contracted_at path f) x else (if d == 1 then apply f (contracted_at path x) else apply f x))
at_app d path f x = ap (λ y. in_child d (apply f x) y (contracted_at path)) (out-roll-Term (Term-F.App f x))

pub at_lam : (d : ℕ) (path : List ℕ) (a : Ty) (b : Term) → contracted_at (d ∷ path) (lambda a b) ≡ (if d == 2 then lambda a (contracted_at path b) else lambda a b)
at_lam d path a b = ap (λ y. in_child d (lambda a b) y (contracted_at path)) (out-roll-Term (Term-F.Lam a b))

module _ (n : ℕ) (a : Ty) where
  abbrev v : Term
  v = roll-Term (Term-F.Free n a)

  -- ---- a variable that is put for an index makes no redex
  same_low : (path : List ℕ) (i k : ℕ) → i < k → contracted_at path (put v (bound i) k) ≡ put v (contracted_at path (bound i)) k
  same_low path i k h = ap (contracted_at path) (put_below v i k h) ∙ at_bound path i ∙ sym (put_below v i k h) ∙ ap (λ z. put v z k) (sym (at_bound path i))

  same_here : (path : List ℕ) (i k : ℕ) → i ≡ k → contracted_at path (put v (bound i) k) ≡ put v (contracted_at path (bound i)) k
  same_here path i k h = ap (contracted_at path) (put_v n a i k h) ∙ at_free path n a ∙ sym (put_v n a i k h) ∙ ap (λ z. put v z k) (sym (at_bound path i))

  same_high : (path : List ℕ) (i k : ℕ) → k < i → contracted_at path (put v (bound i) k) ≡ put v (contracted_at path (bound i)) k
  same_high path i k h = ap (contracted_at path) (put_above v i k h) ∙ at_bound path (i - 1) ∙ sym (put_above v i k h) ∙ ap (λ z. put v z k) (sym (at_bound path i))

  same_bound : (path : List ℕ) (i k : ℕ) → contracted_at path (put v (bound i) k) ≡ put v (contracted_at path (bound i)) k
  same_bound path i k = grind (arith, same_low path i k, same_here path i k, same_high path i k)

  same_free : (path : List ℕ) (m : ℕ) (b : Ty) (k : ℕ) → contracted_at path (put v (roll-Term (Term-F.Free m b)) k) ≡ put v (contracted_at path (roll-Term (Term-F.Free m b))) k
  same_free path m b k =
      ap (contracted_at path) (put-free v m b k) ∙ at_free path m b ∙ sym (put-free v m b k) ∙ ap (λ z. put v z k) (sym (at_free path m b))

  same_con : (path : List ℕ) (c : Konst) (k : ℕ) → contracted_at path (put v (roll-Term (Term-F.Con c)) k) ≡ put v (contracted_at path (roll-Term (Term-F.Con c))) k
  same_con path c k = ap (contracted_at path) (put-con v c k) ∙ at_con path c ∙ sym (put-con v c k) ∙ ap (λ z. put v z k) (sym (at_con path c))

  lambda_low : (i k : ℕ) → i < k → is_lambda (put v (bound i) k) ≡ false
  lambda_low i k h = ap is_lambda (put_below v i k h) ∙ is_lambda_of (Term-F.Bound i)

  lambda_here : (i k : ℕ) → i ≡ k → is_lambda (put v (bound i) k) ≡ false
  lambda_here i k h = ap is_lambda (put_v n a i k h) ∙ is_lambda_of (Term-F.Free n a)

  lambda_high : (i k : ℕ) → k < i → is_lambda (put v (bound i) k) ≡ false
  lambda_high i k h = ap is_lambda (put_above v i k h) ∙ is_lambda_of (Term-F.Bound (i - 1))

  lambda_bound : (i k : ℕ) → is_lambda (put v (bound i) k) ≡ false
  lambda_bound i k = grind (arith, lambda_low i k, lambda_here i k, lambda_high i k)

  -- ---- at the root of an application
  abbrev Root : Term → Type 0
  Root f = (x : Term) (k : ℕ) → contracted_here (put v (apply f x) k) ≡ put v (contracted_here (apply f x)) k

  root_plain : (f x : Term) (k : ℕ) → is_lambda f ≡ false → is_lambda (put v f k) ≡ false → contracted_here (put v (apply f x) k) ≡ put v (contracted_here (apply f x)) k
  root_plain f x k h g =
      ap contracted_here (put-app v f x k) ∙ here_plain (put v f k) (put v x k) g ∙ sym (put-app v f x k) ∙ ap (λ z. put v z k) (sym (here_plain f x h))

  root_lam : (b : Ty) (t x : Term) (k : ℕ) → contracted_here (put v (apply (lambda b t) x) k) ≡ put v (contracted_here (apply (lambda b t) x)) k
  root_lam b t x k =
      ap contracted_here (put-app v (lambda b t) x k ∙ ap (λ z. apply z (put v x k)) (put-lam v b t k)) ∙ here_redex b (put v t (k + 1)) (put v x k)
      ∙ sym (put_put n a x t 0 k k (k + 1) (omega arith) (omega arith)) ∙ ap (λ z. put v z k) (sym (here_redex b t x))

  root : (f : Term) → Root f
  root f = by_cases Root (λ i x k. root_plain (bound i) x k (is_lambda_of (Term-F.Bound i)) (lambda_bound i k))
      (λ m b x k. root_plain (roll-Term (Term-F.Free m b)) x k (is_lambda_of (Term-F.Free m b)) (ap is_lambda (put-free v m b k) ∙ is_lambda_of (Term-F.Free m b)))
      (λ c x k. root_plain (roll-Term (Term-F.Con c)) x k (is_lambda_of (Term-F.Con c)) (ap is_lambda (put-con v c k) ∙ is_lambda_of (Term-F.Con c)))
      (λ g y hg hy x k. root_plain (apply g y) x k (is_lambda_of (Term-F.App g y)) (ap is_lambda (put-app v g y k) ∙ is_lambda_of (Term-F.App (put v g k) (put v y k))))
      (λ b t ht x k. root_lam b t x k) f

  abbrev Same : List ℕ → Term → Type 0
  Same path t = (k : ℕ) → contracted_at path (put v t k) ≡ put v (contracted_at path t) k

  same_root_lam : (b : Ty) (t : Term) → Same [] (lambda b t)
  same_root_lam b t k = ap contracted_here (put-lam v b t k) ∙ here_lam b (put v t (k + 1)) ∙ sym (put-lam v b t k) ∙ ap (λ z. put v z k) (sym (here_lam b t))

  -- ---- below
  down_app : (path : List ℕ) (f x : Term) (k : ℕ) (first second : Bool) → Same path f → Same path x →
      (if first then apply (contracted_at path (put v f k)) (put v x k) else (if second then apply (put v f k) (contracted_at path (put v x k)) else apply (put v f k) (put v x k)))
      ≡ put v (if first then apply (contracted_at path f) x else (if second then apply f (contracted_at path x) else apply f x)) k
  down_app path f x k true second hf hx = ap (λ z. apply z (put v x k)) (hf k) ∙ sym (put-app v (contracted_at path f) x k)
  down_app path f x k false true hf hx = ap (apply (put v f k)) (hx k) ∙ sym (put-app v f (contracted_at path x) k)
  down_app path f x k false false hf hx = sym (put-app v f x k)

  down_lam : (path : List ℕ) (b : Ty) (t : Term) (k : ℕ) (into : Bool) → Same path t →
      (if into then lambda b (contracted_at path (put v t (k + 1))) else lambda b (put v t (k + 1))) ≡ put v (if into then lambda b (contracted_at path t) else lambda b t) k
  down_lam path b t k true ht = ap (lambda b) (ht (k + 1)) ∙ sym (put-lam v b (contracted_at path t) k)
  down_lam path b t k false ht = sym (put-lam v b t k)

  pub contracted_put : (path : List ℕ) (t : Term) → Same path t
  contracted_put [] t = by_cases (Same []) (same_bound []) (same_free []) (same_con []) (λ f x hf hx. root f x) (λ b t ht. same_root_lam b t) t
  contracted_put (d ∷ path) t = by_cases (Same (d ∷ path)) (same_bound (d ∷ path)) (same_free (d ∷ path)) (same_con (d ∷ path))
      (λ f x hf hx k. ap (contracted_at (d ∷ path)) (put-app v f x k) ∙ at_app d path (put v f k) (put v x k)
      ∙ down_app path f x k (d == 0) (d == 1) (contracted_put path f) (contracted_put path x) ∙ ap (λ z. put v z k) (sym (at_app d path f x)))
      (λ b s hs k. ap (contracted_at (d ∷ path)) (put-lam v b s k) ∙ at_lam d path b (put v s (k + 1)) ∙ down_lam path b s k (d == 2) (contracted_put path s) ∙ ap (λ z. put v z k) (sym (at_lam d path b s)))
      t

  -- ---- what a term lacks it lacks where it is contracted
  abbrev Lacks : List ℕ → Term → Type 0
  Lacks path t = occurs n a t ≡ false → occurs n a (contracted_at path t) ≡ false

  abbrev LacksRoot : Term → Type 0
  LacksRoot f = (x : Term) → occurs n a (apply f x) ≡ false → occurs n a (contracted_here (apply f x)) ≡ false

  lacks_lam : (b : Ty) (t : Term) → LacksRoot (lambda b t)
  lacks_lam b t x h =
      let parts = neither (occurs n a (lambda b t)) (occurs n a x) (sym (occurs-app n a (lambda b t) x) ∙ h) in
      ap (occurs n a) (here_redex b t x) ∙ occurs_put n a x parts.1 t 0 (sym (occurs-lam n a b t) ∙ parts.0)

  lacks_plain : (f x : Term) → is_lambda f ≡ false → occurs n a (apply f x) ≡ false → occurs n a (contracted_here (apply f x)) ≡ false
  lacks_plain f x g h = ap (occurs n a) (here_plain f x g) ∙ h

  lacks_root : (f : Term) → LacksRoot f
  lacks_root f = by_cases LacksRoot (λ i x. lacks_plain (bound i) x (is_lambda_of (Term-F.Bound i))) (λ m b x. lacks_plain (roll-Term (Term-F.Free m b)) x (is_lambda_of (Term-F.Free m b)))
      (λ c x. lacks_plain (roll-Term (Term-F.Con c)) x (is_lambda_of (Term-F.Con c))) (λ g y hg hy x. lacks_plain (apply g y) x (is_lambda_of (Term-F.App g y))) (λ b t ht. lacks_lam b t) f

  lacks_down : (path : List ℕ) (f x : Term) (first second : Bool) → Lacks path f → Lacks path x → occurs n a (apply f x) ≡ false →
      occurs n a (if first then apply (contracted_at path f) x else (if second then apply f (contracted_at path x) else apply f x)) ≡ false
  lacks_down path f x true second hf hx h =
      let parts = neither (occurs n a f) (occurs n a x) (sym (occurs-app n a f x) ∙ h) in occurs-app n a (contracted_at path f) x ∙ both_false (occurs n a (contracted_at path f)) (occurs n a x) (hf parts.0) parts.1
  lacks_down path f x false true hf hx h =
      let parts = neither (occurs n a f) (occurs n a x) (sym (occurs-app n a f x) ∙ h) in occurs-app n a f (contracted_at path x) ∙ both_false (occurs n a f) (occurs n a (contracted_at path x)) parts.0 (hx parts.1)
  lacks_down path f x false false hf hx h = h

  lacks_body : (path : List ℕ) (b : Ty) (t : Term) (into : Bool) → Lacks path t → occurs n a (lambda b t) ≡ false → occurs n a (if into then lambda b (contracted_at path t) else lambda b t) ≡ false
  lacks_body path b t true ht h = occurs-lam n a b (contracted_at path t) ∙ ht (sym (occurs-lam n a b t) ∙ h)
  lacks_body path b t false ht h = h

  pub occurs_contracted : (path : List ℕ) (t : Term) → Lacks path t
  occurs_contracted [] t = by_cases (Lacks []) (λ i h. ap (occurs n a) (at_bound [] i) ∙ h) (λ m b h. ap (occurs n a) (at_free [] m b) ∙ h) (λ c h. ap (occurs n a) (at_con [] c) ∙ h)
      (λ f x hf hx. lacks_root f x) (λ b s hs h. ap (occurs n a) (here_lam b s) ∙ h) t
  occurs_contracted (d ∷ path) t = by_cases (Lacks (d ∷ path)) (λ i h. ap (occurs n a) (at_bound (d ∷ path) i) ∙ h) (λ m b h. ap (occurs n a) (at_free (d ∷ path) m b) ∙ h)
      (λ c h. ap (occurs n a) (at_con (d ∷ path) c) ∙ h) (λ f x hf hx h. ap (occurs n a) (at_app d path f x) ∙ lacks_down path f x (d == 0) (d == 1) (occurs_contracted path f) (occurs_contracted path x) h)
      (λ b s hs h. ap (occurs n a) (at_lam d path b s) ∙ lacks_body path b s (d == 2) (occurs_contracted path s) h) t
