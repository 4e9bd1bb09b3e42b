-- Substitution and paths into first-order terms.
use Rattle.std.proofs.Common.{◌≡◌, ℕ, zero, suc, List, [], ◌∷◌, map, refl, sym, ap, ◌∙◌, Option, Some, None, slice_get}
use Rattle.std.specs.Prelude.{option_and_then}
use Rattle.fo_terms.specs.declared.term.FoTerm.{FoTerm}
use Rattle.fo_terms.specs.declared.term.FoTerm.TheVariants.{outs-Var, outs-Fun}
use Rattle.fo_terms.specs.declared.atom.Atom.{Atom}
use Rattle.fo_terms.specs.declared.atom.Atom.TheVariants.{Holds, Eq}
use Rattle.fo_terms.specs.Substitution.{var, fun, put, put_atom}
use Rattle.fo_terms.specs.Normal.{atom_terms}
use Rattle.fo_terms.proofs.Induction.{by_cases}
use Rattle.fo_terms.proofs.Substitution.{put_fun}
use Rattle.fo_infer.specs.Paths.{at_path, at_atom_path, layer_arguments, arguments, with_arguments, changed_at, replaced, atom_replaced}
use Rattle.tagged_lines.specs.Places.{formula_path}
use Rattle.tagged_lines.proofs.Items.{map_get}

pub arguments_fun : (f : ℕ) (ts : List FoTerm) → arguments (fun f ts) ≡ ts
arguments_fun f ts = ap layer_arguments (outs-Fun f ts)

pub replaced_fun : (k : ℕ) (path : List ℕ) (r : FoTerm) (f : ℕ) (ts : List FoTerm) → replaced (k ∷ path) r (fun f ts) ≡ fun f (changed_at k (replaced path r) ts)
replaced_fun k path r f ts =
    ap (λ l. with_arguments l (changed_at k (replaced path r) (arguments (fun f ts)))) (outs-Fun f ts) ∙ ap (λ us. fun f (changed_at k (replaced path r) us)) (arguments_fun f ts)

-- a path goes on below one of the arguments
pub record Deeper (k : ℕ) (path : List ℕ) (ts : List FoTerm) (u : FoTerm) : Type 0 where
  pub inner : FoTerm
  pub found : slice_get ts k ≡ Some inner
  pub at : at_path path inner ≡ Some u

option_deeper : (k : ℕ) (path : List ℕ) (ts : List FoTerm) (u : FoTerm) (o : Option FoTerm) → slice_get ts k ≡ o → option_and_then (at_path path) o ≡ Some u → Deeper k path ts u
option_deeper k path ts u None is h = absurd (cc)
option_deeper k path ts u (Some t) is h = record { inner = t; found = is; at = h }

pub deeper : (k : ℕ) (path : List ℕ) (f : ℕ) (ts : List FoTerm) (u : FoTerm) → at_path (k ∷ path) (fun f ts) ≡ Some u → Deeper k path ts u
deeper k path f ts u h = option_deeper k path ts u (slice_get ts k) refl (ap (λ us. option_and_then (at_path path) (slice_get us k)) (sym (arguments_fun f ts)) ∙ h)

pub no_deeper : (k : ℕ) (path : List ℕ) (x : ℕ) (u : FoTerm) → at_path (k ∷ path) (var x) ≡ Some u → ⊥
no_deeper k path x u h = none (ap (λ us. option_and_then (at_path path) (slice_get us k)) (sym (ap layer_arguments (outs-Var x))) ∙ h)
  where
    none : ◌≡◌ {A = Option FoTerm} None (Some u) → ⊥
    none e = cc

pub deeper_atom : (k : ℕ) (path : List ℕ) (a : Atom) (u : FoTerm) → at_atom_path (k ∷ path) a ≡ Some u → Deeper k path (atom_terms a) u
deeper_atom k path a u h = option_deeper k path (atom_terms a) u (slice_get (atom_terms a) k) refl h

module _ (v : ℕ → FoTerm) where
  changed_put : (k : ℕ) (f g : FoTerm → FoTerm) (ts : List FoTerm) (t : FoTerm) → slice_get ts k ≡ Some t → f (put v t) ≡ put v (g t) → changed_at k f (map (put v) ts) ≡ map (put v) (changed_at k g ts)
  changed_put k f g [] t is h = refl
  changed_put zero f g (y ∷ ys) t is h = let e : t ≡ y = cc in ap (λ z. z ∷ map (put v) ys) (ap (λ z. f (put v z)) (sym e) ∙ h ∙ ap (λ z. put v (g z)) e)
  changed_put (suc k) f g (y ∷ ys) t is h = ap (λ l. put v y ∷ l) (changed_put k f g ys t is h)

  -- the term at a path, after substitution
  pub at_put : (path : List ℕ) (t u : FoTerm) → at_path path t ≡ Some u → at_path path (put v t) ≡ Some (put v u)
  at_put [] t u h = let e : t ≡ u = cc in ap Some (ap (put v) e)
  at_put (k ∷ path) t u h = by_shape (at_put path) t h
    where
      by_shape : ((t u : FoTerm) → at_path path t ≡ Some u → at_path path (put v t) ≡ Some (put v u)) → (t : FoTerm) → at_path (k ∷ path) t ≡ Some u → at_path (k ∷ path) (put v t) ≡ Some (put v u)
      by_shape rest =
          by_cases (λ t. at_path (k ∷ path) t ≡ Some u → at_path (k ∷ path) (put v t) ≡ Some (put v u)) (λ x h. absurd (no_deeper k path x u h))
          (λ f ts each h.
          let below = deeper k path f ts u h in
          ap (at_path (k ∷ path)) (put_fun v f ts) ∙ ap (λ us. option_and_then (at_path path) (slice_get us k)) (arguments_fun f (map (put v) ts))
          ∙ ap (option_and_then (at_path path)) (map_get (put v) ts k below.inner below.found) ∙ rest below.inner u below.at)

  -- a term put at a path, after substitution
  pub replaced_put : (path : List ℕ) (r t u : FoTerm) → at_path path t ≡ Some u → replaced path (put v r) (put v t) ≡ put v (replaced path r t)
  replaced_put [] r t u h = refl
  replaced_put (k ∷ path) r t u h = by_shape (replaced_put path r) t h
    where
      by_shape : ((t u : FoTerm) → at_path path t ≡ Some u → replaced path (put v r) (put v t) ≡ put v (replaced path r t)) → (t : FoTerm) → at_path (k ∷ path) t ≡ Some u
          → replaced (k ∷ path) (put v r) (put v t) ≡ put v (replaced (k ∷ path) r t)
      by_shape rest =
          by_cases (λ t. at_path (k ∷ path) t ≡ Some u → replaced (k ∷ path) (put v r) (put v t) ≡ put v (replaced (k ∷ path) r t)) (λ x h. absurd (no_deeper k path x u h))
          (λ f ts each h.
          let below = deeper k path f ts u h in
          ap (replaced (k ∷ path) (put v r)) (put_fun v f ts) ∙ replaced_fun k path (put v r) f (map (put v) ts)
          ∙ ap (fun f) (changed_put k (replaced path (put v r)) (replaced path r) ts below.inner below.found (rest below.inner u below.at))
          ∙ sym (put_fun v f (changed_at k (replaced path r) ts)) ∙ ap (put v) (sym (replaced_fun k path r f ts)))

  -- the same for atoms
  pub at_atom_put : (path : List ℕ) (a : Atom) (u : FoTerm) → at_atom_path path a ≡ Some u → at_atom_path path (put_atom v a) ≡ Some (put v u)
  at_atom_put [] a u h = absurd (cc)
  at_atom_put (zero ∷ path) (Holds t) u h = at_put path t u h
  at_atom_put (suc k ∷ path) (Holds t) u h = absurd (cc)
  at_atom_put (zero ∷ path) (Eq s t) u h = at_put path s u h
  at_atom_put (suc zero ∷ path) (Eq s t) u h = at_put path t u h
  at_atom_put (suc (suc k) ∷ path) (Eq s t) u h = absurd (cc)

  pub atom_replaced_put : (path : List ℕ) (r : FoTerm) (a : Atom) (u : FoTerm) → at_atom_path path a ≡ Some u → atom_replaced path (put v r) (put_atom v a) ≡ put_atom v (atom_replaced path r a)
  atom_replaced_put [] r a u h = refl
  atom_replaced_put (zero ∷ path) r (Holds t) u h = ap Holds (replaced_put path r t u h)
  atom_replaced_put (suc k ∷ path) r (Holds t) u h = absurd (cc)
  atom_replaced_put (zero ∷ path) r (Eq s t) u h = ap (λ z. Eq z (put v t)) (replaced_put path r s u h)
  atom_replaced_put (suc zero ∷ path) r (Eq s t) u h = ap (Eq (put v s)) (replaced_put path r t u h)
  atom_replaced_put (suc (suc k) ∷ path) r (Eq s t) u h = absurd (cc)

  -- the path in the formula is the same
  pub formula_path_put : (a : Atom) (path : List ℕ) → formula_path (put_atom v a) path ≡ formula_path a path
  formula_path_put (Holds t) [] = refl
  formula_path_put (Eq s t) [] = refl
  formula_path_put (Holds t) (k ∷ path) = refl
  formula_path_put (Eq s t) (zero ∷ path) = refl
  formula_path_put (Eq s t) (suc k ∷ path) = refl
