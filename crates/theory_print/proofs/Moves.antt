-- The same meanings from other first bytes.
use Rattle.std.proofs.Common.{◌≡◌, ℕ, Bool, true, false, nat_le, if◌then◌else◌, Some, ◌≤◌, refl, sym, ap, subst, ◌∙◌, rules}
use Rattle.hol_terms.specs.declared.ty.Ty.{Ty, out-Ty}
use Rattle.hol_terms.specs.declared.ty.Ty.TheOpen.{Ty-F}
use Rattle.hol_terms.specs.declared.konst.Konst.TheVariants as konst
use Rattle.hol_terms.specs.declared.term.Term.{Term}
use Rattle.hol_terms.specs.Types.{is_ty, bool_ty, function_ty}
use Rattle.theory_syntax.specs.declared.tokens.Quant.{Quant}
use Rattle.theory_syntax.specs.declared.tokens.Quant.TheVariants as quant
use Rattle.theory_terms.specs.declared.fault.TheoryKind.TheVariants as kind
use Rattle.theory_terms.specs.Answers.{Answer, Good, Bad, and_then}
use Rattle.theory_terms.specs.Meanings.{Meaning, depth, made, target_as, target, applied, signed, between, sign, quantifier, quantified, bound, constant, application, lambda}

-- the first reading is good, and so is the second with what it gave
pub record Both {A B : Type 0} (a : Answer A) (f : A → Answer B) (v : B) : Type 0 where
  pub mid : A
  pub first : a ≡ Good mid
  pub second : f mid ≡ Good v

pub both : {A B : Type 0} (a : Answer A) (f : A → Answer B) (v : B) → and_then a f ≡ Good v → Both a f v
both (Good x) f v h = record { mid = x; first = refl; second = h }
both (Bad at k) f v h = cc

-- the meaning from another first byte
abbrev pub from : ℕ → Meaning → Meaning
from i m = record { at = i; term = m.term; ty = m.ty }

-- a term whose tree isn't too deep
abbrev pub Shallow : Term → Type 0
Shallow t = depth t ≤ 1024

made_at : (b : Bool) (i j : ℕ) (t : Term) (a : Ty) (m : Meaning) → (b ≡ true → Shallow t) → (if b then Good (record { at = i; term = t; ty = a }) else Bad i kind.TooDeep) ≡ Good m →
    ((if b then Good (record { at = j; term = t; ty = a }) else Bad j kind.TooDeep) ≡ Good (from j m)) × (m.term ≡ t) × Shallow m.term
made_at true i j t a m low h =
    let e : record { at = i; term = t; ty = a } ≡ m = cc in (ap (λ z. Good (from j z)) e, sym (ap (λ z. z.term) e), subst (λ z. Shallow z.term) e (low refl))
made_at false i j t a m low h = cc

pub made_moves : (i j : ℕ) (t : Term) (a : Ty) (m : Meaning) → made i t a ≡ Good m → (made j t a ≡ Good (from j m)) × (m.term ≡ t) × Shallow m.term
made_moves i j t a m h = made_at (nat_le (depth t) 1024) i j t a m (λ e. search (rules, e)) h

fits_moves : (b : Bool) (i j : ℕ) (d c : Ty) → (if b then Good d else Bad i kind.IllTyped) ≡ Good c → (if b then Good d else Bad j kind.IllTyped) ≡ Good c
fits_moves true i j d c h = h
fits_moves false i j d c h = cc

target_moves : (o : Ty-F Ty) (i j m n : ℕ) (a c : Ty) → target_as i j a o ≡ Good c → target_as m n a o ≡ Good c
target_moves (Ty-F.Base b) i j m n a c h = cc
target_moves (Ty-F.Arrow b d) i j m n a c h = fits_moves (is_ty b a) j n d c h

-- a head with an argument
pub applied_moves : (f x m : Meaning) (i j : ℕ) → applied f x ≡ Good m → (applied (from i f) (from j x) ≡ Good (from i m)) × (m.term ≡ application f.term x.term) × Shallow m.term
applied_moves f x m i j h =
    let b = both (target f.at f.ty x.at x.ty) (made f.at (application f.term x.term)) m h in
    let e = target_moves (out-Ty f.ty) f.at x.at i j x.ty b.mid b.first in
    let g = made_moves f.at i (application f.term x.term) b.mid m b.second in
    (ap (λ z. and_then z (made i (application f.term x.term))) e ∙ g.0, g.1, g.2)

-- ---- signs with both sides

-- the parts of what is read with a sign between
pub record Sides (s : Meaning → Meaning) (a b : Answer Meaning) (m : Meaning) : Type 0 where
  pub left : Meaning
  pub right : Meaning
  pub is_left : a ≡ Good left
  pub is_right : b ≡ Good right
  pub term : m.term ≡ application (application (s left).term left.term) right.term
  pub shallow : Shallow m.term
  pub again : (i j : ℕ) (c d : Answer Meaning) → c ≡ Good (from i left) → d ≡ Good (from j right) → between s c d ≡ Good (from i m)

module _ (s : Meaning → Meaning) (steady : (i : ℕ) (x : Meaning) → s (from i x) ≡ from i (s x)) where
  pub signed_moves : (x m : Meaning) (i : ℕ) → signed s x ≡ Good m → (signed s (from i x) ≡ Good (from i m)) × (m.term ≡ application (s x).term x.term)
  signed_moves x m i h = let g = applied_moves (s x) x m i i h in (ap (λ z. applied z (from i x)) (steady i x) ∙ g.0, g.1)

  again_between : (x f y m : Meaning) → signed s x ≡ Good f → applied f y ≡ Good m → (i j : ℕ) (c d : Answer Meaning) → c ≡ Good (from i x) → d ≡ Good (from j y) →
      between s c d ≡ Good (from i m)
  again_between x f y m hf hm i j c d hc hd =
      let first = signed_moves x f i hf in
      let whole = applied_moves f y m i j hm in
      ap (λ z. and_then (and_then z (signed s)) (λ g. and_then d (applied g))) hc
      ∙ ap (λ z. and_then z (λ g. and_then d (applied g))) first.0
      ∙ ap (λ z. and_then z (applied (from i f))) hd ∙ whole.0

  pub sides : (a b : Answer Meaning) (m : Meaning) → between s a b ≡ Good m → Sides s a b m
  sides a b m h =
      let outer = both (and_then a (signed s)) (λ f. and_then b (applied f)) m h in
      let left = both a (signed s) outer.mid outer.first in
      let right = both b (applied outer.mid) m outer.second in
      let half = signed_moves left.mid outer.mid 0 left.second in
      let whole = applied_moves outer.mid right.mid m 0 0 right.second in
      record {
        left = left.mid;
        right = right.mid;
        is_left = left.first;
        is_right = right.first;
        term = whole.1 ∙ ap (λ z. application z right.mid.term) half.1;
        shallow = whole.2;
        again = again_between left.mid outer.mid right.mid m left.second right.second;
      }

-- ---- binders

-- the lambda under a quantifier
abbrev pub wrapped : Quant → Ty → Term → Term
wrapped quant.All a t = application (constant (konst.All a)) t
wrapped quant.Ex a t = application (constant (konst.Ex a)) t
wrapped quant.Eps a t = application (constant (konst.Eps a)) t
wrapped quant.Lambda a t = t

on_moves : (k l m : Meaning) (b : Bool) (i j n : ℕ) → quantified (Some k) b i l ≡ Good m → (quantified (Some (from j k)) b n (from j l) ≡ Good (from j m)) × (m.term ≡ application k.term l.term) × Shallow m.term
on_moves k l m true i j n h = applied_moves k l m j j h
on_moves k l m false i j n h = cc

quantified_moves : (q : Quant) (a : Ty) (l m : Meaning) (b : Bool) (i e j n : ℕ) → Shallow l.term → quantified (quantifier q i a) b e l ≡ Good m →
    (quantified (quantifier q j a) b n (from j l) ≡ Good (from j m)) × (m.term ≡ wrapped q a l.term) × Shallow m.term
quantified_moves quant.All a l m b i e j n low h = on_moves (sign i (konst.All a) (function_ty (function_ty a bool_ty) bool_ty)) l m b e j n h
quantified_moves quant.Ex a l m b i e j n low h = on_moves (sign i (konst.Ex a) (function_ty (function_ty a bool_ty) bool_ty)) l m b e j n h
quantified_moves quant.Eps a l m b i e j n low h = on_moves (sign i (konst.Eps a) (function_ty (function_ty a bool_ty) a)) l m b e j n h
quantified_moves quant.Lambda a l m b i e j n low h = let k : l ≡ m = cc in (ap (λ z. Good (from j z)) k, sym (ap (λ z. z.term) k), subst (λ z. Shallow z.term) k low)

pub bound_moves : (q : Quant) (i j n : ℕ) (a : Ty) (body m : Meaning) → bound q i a body ≡ Good m →
    (bound q j a (from n body) ≡ Good (from j m)) × (m.term ≡ wrapped q a (lambda a body.term)) × Shallow m.term
bound_moves q i j n a body m h =
    let b = both (made i (lambda a body.term) (function_ty a body.ty)) (quantified (quantifier q i a) (is_ty bool_ty body.ty) body.at) m h in
    let g = made_moves i j (lambda a body.term) (function_ty a body.ty) b.mid b.first in
    let w = quantified_moves q a b.mid m (is_ty bool_ty body.ty) i body.at j n g.2 b.second in
    (ap (λ z. and_then z (quantified (quantifier q j a) (is_ty bool_ty body.ty) n)) g.0 ∙ w.0, w.1 ∙ ap (wrapped q a) g.1, w.2)
