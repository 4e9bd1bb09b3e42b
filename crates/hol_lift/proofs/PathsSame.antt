-- Paths in what tagged terms stand for are paths in typed terms.
use Rattle.std.proofs.Common.{◌≡◌, ℕ, Bool, true, false, ◌==◌, if◌then◌else◌, List, [], ◌∷◌, map, Option, Some, None, refl, sym, ap, subst, ◌∙◌}
use Rattle.hol_terms.specs.declared.ty.Ty.{Ty}
use Rattle.hol_terms.specs.declared.konst.Konst.TheVariants as konst
use Rattle.hol_terms.specs.declared.term.Term.{Term, out-Term}
use Rattle.hol_terms.specs.declared.term.Term.TheOpen.{Term-F}
use Rattle.fo_terms.proofs.Substitution.{equal_from}
use Rattle.kernel_rules.specs.Connectives.{apply, constant, equal}
use Rattle.kernel_rules.proofs.Parts.{left_of-two, right_of-apply}
use Rattle.hol_derived.specs.Paths as derived
use Rattle.tagged_lines.specs.Places as lines
use Rattle.tagged_lines.specs.Rules.{from, to}
use Rattle.hol_clauses.specs.Literals.{source, target}
use Rattle.hol_lift.specs.inner.Places.{direction}

child_same : (d : ℕ) (x : Term-F Term) → lines.child d x ≡ derived.child d x
child_same d (Term-F.Bound i) = refl
child_same d (Term-F.Free n a) = refl
child_same d (Term-F.Con k) = refl
child_same d (Term-F.App f y) = refl
child_same d (Term-F.Lam a b) = refl

behind_same : (o : Option Term) (g h : Term → Option Term) → ((t : Term) → g t ≡ h t) → lines.behind o g ≡ derived.behind o h
behind_same None g h e = refl
behind_same (Some t) g h e = e t

part_same : (path : List ℕ) (t : Term) → lines.part_at path t ≡ derived.part_at path t
part_same [] t = refl
part_same (d ∷ path) t = behind_same (lines.child d (out-Term t)) (lines.part_at path) (derived.part_at path) (part_same path) ∙ ap (λ o. derived.behind o (derived.part_at path)) (child_same d (out-Term t))

with_same : (d : ℕ) (t : Term) (x : Term-F Term) (g h : Term → Term) → ((u : Term) → g u ≡ h u) → lines.with_child d t x g ≡ derived.with_child d t x h
with_same d t (Term-F.Bound i) g h e = refl
with_same d t (Term-F.Free n a) g h e = refl
with_same d t (Term-F.Con k) g h e = refl
with_same d t (Term-F.App f y) g h e = λ i. if d == 0 then apply (e f i) y else (if d == 1 then apply f (e y i) else t)
with_same d t (Term-F.Lam a b) g h e = refl

replaced_same : (path : List ℕ) (u t : Term) → lines.replaced_at path u t ≡ derived.replaced_at path u t
replaced_same [] u t = refl
replaced_same (d ∷ path) u t = with_same d t (out-Term t) (lines.replaced_at path u) (derived.replaced_at path u) (replaced_same path u)

-- a path that leads to a part has the numbers 0 and 1 alone
nothing : {A : Type 0} {x : A} → None ≡ Some x → ⊥
nothing h = cc

app_step : (d : ℕ) (path : List ℕ) (f y s : Term) (a b : Bool) → (d == 0) ≡ a → (d == 1) ≡ b → derived.behind (if a then Some f else (if b then Some y else None)) (derived.part_at path) ≡ Some s
    → ((u : Term) → derived.part_at path u ≡ Some s → map direction path ≡ path) → direction d ∷ map direction path ≡ d ∷ path
app_step d path f y s true b e k h rest = subst (λ z. direction z ∷ map direction path ≡ z ∷ path) (sym (equal_from d 0 e)) (ap (λ l. 0 ∷ l) (rest f h))
app_step d path f y s false true e k h rest = subst (λ z. direction z ∷ map direction path ≡ z ∷ path) (sym (equal_from d 1 k)) (ap (λ l. 1 ∷ l) (rest y h))
app_step d path f y s false false e k h rest = absurd (nothing h)

directed_step : (d : ℕ) (path : List ℕ) (x : Term-F Term) (s : Term) → derived.behind (derived.child d x) (derived.part_at path) ≡ Some s → ((u : Term) → derived.part_at path u ≡ Some s → map direction path ≡ path)
    → direction d ∷ map direction path ≡ d ∷ path
directed_step d path (Term-F.Bound i) s h rest = absurd (nothing h)
directed_step d path (Term-F.Free n a) s h rest = absurd (nothing h)
directed_step d path (Term-F.Con k) s h rest = absurd (nothing h)
directed_step d path (Term-F.App f y) s h rest = app_step d path f y s (d == 0) (d == 1) refl refl h rest
directed_step d path (Term-F.Lam a b) s h rest = absurd (nothing h)

directed : (path : List ℕ) (t s : Term) → derived.part_at path t ≡ Some s → map direction path ≡ path
directed [] t s h = refl
directed (d ∷ path) t s h = directed_step d path (out-Term t) s h (λ u. directed path u s)

-- the sides of an equation
source_is : (swapped : Bool) (a : Ty) (s t : Term) → source swapped (equal a s t) ≡ from swapped s t
source_is true a s t = right_of-apply (apply (constant (konst.Eq a)) s) t
source_is false a s t = left_of-two (constant (konst.Eq a)) s t

target_is : (swapped : Bool) (a : Ty) (s t : Term) → target swapped (equal a s t) ≡ to swapped s t
target_is true a s t = left_of-two (constant (konst.Eq a)) s t
target_is false a s t = right_of-apply (apply (constant (konst.Eq a)) s) t

module _ (path : List ℕ) (swapped : Bool) (a : Ty) (s t c : Term) (part : lines.part_at path c ≡ Some (from swapped s t)) where
  derived_part : derived.part_at path c ≡ Some (from swapped s t)
  derived_part = sym (part_same path c) ∙ part

  pub part_directed : derived.part_at (map direction path) c ≡ Some (source swapped (equal a s t))
  part_directed = ap (λ l. derived.part_at l c) (directed path c (from swapped s t) derived_part) ∙ derived_part ∙ ap (λ z. Some z) (sym (source_is swapped a s t))

  pub replaced_directed : derived.replaced_at (map direction path) (target swapped (equal a s t)) c ≡ lines.replaced_at path (to swapped s t) c
  replaced_directed = (λ i. derived.replaced_at (directed path c (from swapped s t) derived_part i) (target_is swapped a s t i) c) ∙ sym (replaced_same path (to swapped s t) c)
