-- A path that crosses applications alone: parts, replacements and contractions along it.
use Rattle.std.proofs.Common.{◌≡◌, ℕ, ◌+◌, Bool, true, false, ◌==◌, if◌then◌else◌, refl, sym, ◌∙◌, ap, subst, List, [], ◌∷◌, ◌++◌, take, drop, Some, None, add-one, length, ◌-◌, arith}
use Rattle.std.proofs.lemmas.List.{take_all, take-append-drop, length-drop}
use Rattle.std.specs.Prelude.{Option}
use Rattle.hol_terms.specs.declared.sig.Sig.{Sig}
use Rattle.hol_terms.specs.declared.konst.Konst.TheVariants as konst
use Rattle.hol_terms.specs.declared.term.Term.{Term, roll-Term, out-Term}
use Rattle.hol_terms.specs.declared.term.Term.TheOpen.{Term-F}
use Rattle.hol_terms.specs.declared.term.Term.TheViews.{out-roll-Term}
use Rattle.hol_terms.proofs.TermCases.{by_cases}
use Rattle.kernel_rules.specs.Connectives.{apply, equal, constant, left_of, right_of}
use Rattle.kernel_rules.specs.Rules.{seq}
use Rattle.kernel_rules.proofs.Parts.{left_of-two, right_of-apply}
use Rattle.hol_kernel.specs.Logs.{Logged, thm}
use Rattle.hol_kernel.specs.Growth.{Extends, Gives}
use Rattle.hol_kernel.specs.Conditions.{own_ty, IsGiven}
use Rattle.hol_derived.specs.Paths.{child, behind, part_at, with_child, replaced_at}
use Rattle.hol_derived.specs.Contractions.{contracted_at, contraction}
use Rattle.hol_derived.proofs.Expansions.{given_parts}
use Rattle.hol_derived.proofs.PathLaws.{at_app}

some_is : (t u : Term) → Some t ≡ Some u → t ≡ u
some_is t u h = cc

nothing : (A : Type 0) (y : Term-F Term) (d : ℕ) (p : List ℕ) (u : Term) → child d y ≡ None → part_at (d ∷ p) (roll-Term y) ≡ Some u → A
nothing A y d p u none h = absurd (clash (sym (ap (λ o. behind o (part_at p)) (ap (child d) (out-roll-Term y) ∙ none)) ∙ h))
  where
    clash : None ≡ Some u → ⊥
    clash e = cc

in_app : (d : ℕ) (p : List ℕ) (f x : Term) → part_at (d ∷ p) (apply f x) ≡ behind (if d == 0 then Some f else (if d == 1 then Some x else None)) (part_at p)
in_app d p f x = ap (λ y. behind (child d y) (part_at p)) (out-roll-Term (Term-F.App f x))

in_replaced : (d : ℕ) (p : List ℕ) (z f x : Term) → replaced_at (d ∷ p) z (apply f x) ≡ (if d == 0 then apply (replaced_at p z f) x else (if d == 1 then apply f (replaced_at p z x) else apply f x))
in_replaced d p z f x = ap (λ y. with_child d (apply f x) y (replaced_at p z)) (out-roll-Term (Term-F.App f x))

-- ---- the part that is contracted
module _ (rest : List ℕ) (u : Term) where
  abbrev z : Term
  z = contracted_at rest u

  abbrev Crosses : List ℕ → Term → Type 0
  Crosses p t = part_at p t ≡ Some u → replaced_at p z t ≡ contracted_at (p ++ rest) t

  down : (p : List ℕ) (f x : Term) (first second : Bool) → Crosses p f → Crosses p x → behind (if first then Some f else (if second then Some x else None)) (part_at p) ≡ Some u →
      (if first then apply (replaced_at p z f) x else (if second then apply f (replaced_at p z x) else apply f x))
      ≡ (if first then apply (contracted_at (p ++ rest) f) x else (if second then apply f (contracted_at (p ++ rest) x) else apply f x))
  down p f x true second hf hx h = ap (λ g. apply g x) (hf h)
  down p f x false true hf hx h = ap (apply f) (hx h)
  down p f x false false hf hx h = refl

  pub crosses : (p : List ℕ) (t : Term) → Crosses p t
  crosses [] t = λ h. ap (contracted_at rest) (sym (some_is t u h))
  crosses (d ∷ p) t = by_cases (Crosses (d ∷ p)) (λ i. nothing _ (Term-F.Bound i) d p u refl) (λ n a. nothing _ (Term-F.Free n a) d p u refl) (λ c. nothing _ (Term-F.Con c) d p u refl)
      (λ f x hf hx h. in_replaced d p z f x ∙ down p f x (d == 0) (d == 1) (crosses p f) (crosses p x) (sym (in_app d p f x) ∙ h) ∙ sym (at_app d (p ++ rest) f x))
      (λ a b hb. nothing _ (Term-F.Lam a b) d p u refl) t

-- ---- the part is given where the whole is
module _ (sig : Sig) (u : Term) where
  abbrev Given : Term → Type 0
  Given t = IsGiven sig t (own_ty sig t)

  abbrev Passes : List ℕ → Term → Type 0
  Passes p t = part_at p t ≡ Some u → Given t → Given u

  pass : (p : List ℕ) (f x : Term) (first second : Bool) → Passes p f → Passes p x → behind (if first then Some f else (if second then Some x else None)) (part_at p) ≡ Some u → Given (apply f x) → Given u
  pass p f x true second hf hx h g = hf h (given_parts sig f x g).0
  pass p f x false true hf hx h g = hx h (given_parts sig f x g).1
  pass p f x false false hf hx h g = absurd (clash h)
    where
      clash : None ≡ Some u → ⊥
      clash e = cc

  pub passes : (p : List ℕ) (t : Term) → Passes p t
  passes [] t = λ h g. subst Given (some_is t u h) g
  passes (d ∷ p) t = by_cases (Passes (d ∷ p)) (λ i. nothing _ (Term-F.Bound i) d p u refl) (λ n a. nothing _ (Term-F.Free n a) d p u refl) (λ c. nothing _ (Term-F.Con c) d p u refl)
      (λ f x hf hx h g. pass p f x (d == 0) (d == 1) (passes p f) (passes p x) (sym (in_app d p f x) ∙ h) g) (λ a b hb. nothing _ (Term-F.Lam a b) d p u refl) t

-- ---- paths joined
behind_child : (o : Option Term) (c : Term) (g : Term → Option Term) → behind o (part_at []) ≡ Some c → behind o g ≡ g c
behind_child None c g h = absurd (clash h)
  where
    clash : None ≡ Some c → ⊥
    clash e = cc
behind_child (Some t) c g h = ap g (some_is t c h)

pub through_child : (d : ℕ) (p : List ℕ) (t c u : Term) → part_at (d ∷ []) t ≡ Some c → part_at p c ≡ Some u → part_at (d ∷ p) t ≡ Some u
through_child d p t c u h k = behind_child (child d (out-Term t)) c (part_at p) h ∙ k

-- a path that is cut in two
pub cut_there : (n : ℕ) (path : List ℕ) → take n path ++ take (length path - n) (drop n path) ≡ path
cut_there n path = ap (λ z. take n path ++ z) (take_all (length path - n) (drop n path) (simp length-drop (omega arith))) ∙ take-append-drop n path

-- one number more leads through an application
pub reach_left : (n : ℕ) (rest : List ℕ) (d : ℕ) (t f x part : Term) → t ≡ apply f x → d ≡ 0 → part_at (take n rest) f ≡ Some part → part_at (take (n + 1) (d ∷ rest)) t ≡ Some part
reach_left n rest d t f x part is zero h =
    (λ i. part_at (take (add-one n i) (zero i ∷ rest)) (is i)) ∙ in_app 0 (take n rest) f x ∙ h

pub reach_right : (n : ℕ) (rest : List ℕ) (d : ℕ) (t f x part : Term) → t ≡ apply f x → d ≡ 1 → part_at (take n rest) x ≡ Some part → part_at (take (n + 1) (d ∷ rest)) t ≡ Some part
reach_right n rest d t f x part is one h =
    (λ i. part_at (take (add-one n i) (one i ∷ rest)) (is i)) ∙ in_app 1 (take n rest) f x ∙ h

-- ---- as the calls give it
module _ (old one : Logged) (p q path : List ℕ) (eq : ℕ) (t part : Term) (kept : Extends old one) (at : part_at p t ≡ Some part) (whole : p ++ q ≡ path) (g : Gives one eq (contraction old.env.sig q part)) where
  abbrev sig : Sig
  sig = old.env.sig

  pub across_part : part_at p t ≡ Some (left_of (thm one eq).concl)
  across_part = at ∙ ap (λ z. Some z) (sym (ap (λ s. left_of s.concl) g.is ∙ left_of-two (constant (konst.Eq (own_ty sig part))) part (contracted_at q part)))

  right_is : right_of (thm one eq).concl ≡ contracted_at q part
  right_is = ap (λ s. right_of s.concl) g.is ∙ right_of-apply (apply (constant (konst.Eq (own_ty sig part))) part) (contracted_at q part)

  changed : replaced_at p (right_of (thm one eq).concl) t ≡ contracted_at path t
  changed = ap (λ z. replaced_at p z t) right_is ∙ crosses q part p t at ∙ ap (λ w. contracted_at w t) whole

  pub across_is : seq (thm one eq).hyps (equal (own_ty one.env.sig t) t (replaced_at p (right_of (thm one eq).concl) t)) ≡ contraction sig path t
  across_is = λ i. seq ((g.is i).hyps) (equal (own_ty (kept.env i).sig t) t (changed i))
