-- Equations between tagged terms, or between cores of one type, as unification meets them.
use Rattle.std.proofs.Common.{◌≡◌, ℕ, Bool, true, false, if◌then◌else◌, List, [], ◌∷◌, ◌++◌, map, refl, sym, ap, ◌∙◌, Option, Some, None}
use Rattle.std.specs.List.{zip}
use Rattle.hol_terms.specs.declared.ty.Ty.{Ty}
use Rattle.hol_terms.specs.declared.term.Term.{Term}
use Rattle.hol_terms.specs.Types.{is_ty}
use Rattle.hol_terms.specs.Typing.{applied}
use Rattle.hol_terms.proofs.TyCases.{is_ty_same}
use Rattle.fo_terms.specs.declared.term.FoTerm.{FoTerm}
use Rattle.fo_terms.specs.Substitution.{var, fun, put}
use Rattle.tagged_terms.specs.declared.symbol.Symbol.{Symbol}
use Rattle.tagged_terms.specs.declared.symbol.Symbol.TheVariants.{Tag, Apply, Constant}
use Rattle.tagged_terms.specs.Readings.{Signs, Types, application, core_of, variable, tagging, applying, read_tag, read_apply, read_constant, read_symbol, reading, IsCore, Reading, Unread, Core, Tagged}
use Rattle.tagged_terms.specs.Fits.{AreClosed, Fits, Paired, both_tagged, both_cores, AllPaired}
use Rattle.tagged_terms.proofs.Steps.{read_var, read_fun}
use Rattle.tagged_terms.proofs.Keeping.{core_kept, tagged_kept}

-- ---- what readings are made of

tag_where : (s t : Ty) (d e : Term) (test : Bool) → (if test then Tagged s d else Unread) ≡ Tagged t e → test ≡ true
tag_where s t d e true h = refl
tag_where s t d e false h = cc

-- what is tagged was a core of the tag's type
tagging_of : (s t : Ty) (r : Reading) (e : Term) → tagging s r ≡ Tagged t e → (d : Term) × (r ≡ Core s d)
tagging_of s t Unread e h = absurd (cc)
tagging_of s t (Core a d) e h = (d, ap (λ z. Core z d) (is_ty_same a s (tag_where s t d e (is_ty a s) h)))
tagging_of s t (Tagged a d) e h = absurd (cc)

tagging_no_core : (s t : Ty) (r : Reading) (e : Term) → tagging s r ≡ Core t e → ⊥
tagging_no_core s t Unread e h = cc
tagging_no_core s t (Core a d) e h = chosen (is_ty a s) h
  where
    chosen : (test : Bool) → (if test then Tagged s d else Unread) ≡ Core t e → ⊥
    chosen true k = cc
    chosen false k = cc
tagging_no_core s t (Tagged a d) e h = cc

pub record TwoTagged (r q : Reading) : Type 0 where
  pub a : Ty
  pub b : Ty
  pub f : Term
  pub x : Term
  pub left : r ≡ Tagged a f
  pub right : q ≡ Tagged b x

applying_of : (r q : Reading) (s : Ty) (d : Term) → applying r q ≡ Core s d → TwoTagged r q
applying_of Unread q s d h = absurd (cc)
applying_of (Core a f) q s d h = absurd (cc)
applying_of (Tagged a f) Unread s d h = absurd (cc)
applying_of (Tagged a f) (Core b x) s d h = absurd (cc)
applying_of (Tagged a f) (Tagged b x) s d h = record { a = a; b = b; f = f; x = x; left = refl; right = refl }

applying_no_tag : (r q : Reading) (s : Ty) (d : Term) → applying r q ≡ Tagged s d → ⊥
applying_no_tag Unread q s d h = cc
applying_no_tag (Core a f) q s d h = cc
applying_no_tag (Tagged a f) Unread s d h = cc
applying_no_tag (Tagged a f) (Core b x) s d h = cc
applying_no_tag (Tagged a f) (Tagged b x) s d h = chosen (applied (Some a) (Some b)) h
  where
    chosen : (o : Option Ty) → core_of o (application f x) ≡ Tagged s d → ⊥
    chosen None k = cc
    chosen (Some c) k = cc

module _ (signs : Signs) (types : Types) where
  abbrev R : FoTerm → Reading
  R = reading signs types

  -- ---- one head

  tag_pairs : (c s t : Ty) (xs ys : List FoTerm) (d e : Term) → read_tag c (map R xs) ≡ Tagged s d → read_tag c (map R ys) ≡ Tagged t e → AllPaired signs types (zip xs ys)
  tag_pairs c s t [] ys d e h k = absurd (cc)
  tag_pairs c s t (x ∷ x' ∷ xs) ys d e h k = absurd (cc)
  tag_pairs c s t (x ∷ []) [] d e h k = absurd (cc)
  tag_pairs c s t (x ∷ []) (y ∷ y' ∷ ys) d e h k = absurd (cc)
  tag_pairs c s t (x ∷ []) (y ∷ []) d e h k =
      let left = tagging_of c s (R x) d h in
      let right = tagging_of c t (R y) e k in
      (both_cores c left.0 right.0 left.1 right.1, tt)

  tag_no_core : (c s : Ty) (xs : List FoTerm) (d : Term) → read_tag c (map R xs) ≡ Core s d → ⊥
  tag_no_core c s [] d h = cc
  tag_no_core c s (x ∷ []) d h = tagging_no_core c s (R x) d h
  tag_no_core c s (x ∷ x' ∷ xs) d h = cc

  apply_pairs : (s t : Ty) (xs ys : List FoTerm) (d e : Term) → read_apply (map R xs) ≡ Core s d → read_apply (map R ys) ≡ Core t e → AllPaired signs types (zip xs ys)
  apply_pairs s t [] ys d e h k = absurd (cc)
  apply_pairs s t (x ∷ []) ys d e h k = absurd (cc)
  apply_pairs s t (x ∷ x' ∷ x'' ∷ xs) ys d e h k = absurd (cc)
  apply_pairs s t (x ∷ x' ∷ []) [] d e h k = absurd (cc)
  apply_pairs s t (x ∷ x' ∷ []) (y ∷ []) d e h k = absurd (cc)
  apply_pairs s t (x ∷ x' ∷ []) (y ∷ y' ∷ y'' ∷ ys) d e h k = absurd (cc)
  apply_pairs s t (x ∷ x' ∷ []) (y ∷ y' ∷ []) d e h k =
      let left = applying_of (R x) (R x') s d h in
      let right = applying_of (R y) (R y') t e k in
      (both_tagged left.a right.a left.f right.f left.left right.left, (both_tagged left.b right.b left.x right.x left.right right.right, tt))

  apply_no_tag : (s : Ty) (xs : List FoTerm) (d : Term) → read_apply (map R xs) ≡ Tagged s d → ⊥
  apply_no_tag s [] d h = cc
  apply_no_tag s (x ∷ []) d h = cc
  apply_no_tag s (x ∷ x' ∷ []) d h = applying_no_tag (R x) (R x') s d h
  apply_no_tag s (x ∷ x' ∷ x'' ∷ xs) d h = cc

  constant_pairs : (c : Term) (own s t : Ty) (xs ys : List FoTerm) (d e : Term) → read_constant c own (map R xs) ≡ Core s d → read_constant c own (map R ys) ≡ Core t e → AllPaired signs types (zip xs ys)
  constant_pairs c own s t [] ys d e h k = tt
  constant_pairs c own s t (x ∷ xs) ys d e h k = absurd (cc)

  constant_no_tag : (c : Term) (own s : Ty) (xs : List FoTerm) (d : Term) → read_constant c own (map R xs) ≡ Tagged s d → ⊥
  constant_no_tag c own s [] d h = cc
  constant_no_tag c own s (x ∷ xs) d h = cc

  tagged_pairs : (o : Option Symbol) (s t : Ty) (xs ys : List FoTerm) (d e : Term) → read_symbol o (map R xs) ≡ Tagged s d → read_symbol o (map R ys) ≡ Tagged t e → AllPaired signs types (zip xs ys)
  tagged_pairs None s t xs ys d e h k = absurd (cc)
  tagged_pairs (Some (Tag c)) s t xs ys d e h k = tag_pairs c s t xs ys d e h k
  tagged_pairs (Some Apply) s t xs ys d e h k = absurd (apply_no_tag s xs d h)
  tagged_pairs (Some (Constant c own)) s t xs ys d e h k = absurd (constant_no_tag c own s xs d h)

  core_pairs : (o : Option Symbol) (s t : Ty) (xs ys : List FoTerm) (d e : Term) → read_symbol o (map R xs) ≡ Core s d → read_symbol o (map R ys) ≡ Core t e → AllPaired signs types (zip xs ys)
  core_pairs None s t xs ys d e h k = absurd (cc)
  core_pairs (Some (Tag c)) s t xs ys d e h k = absurd (tag_no_core c s xs d h)
  core_pairs (Some Apply) s t xs ys d e h k = apply_pairs s t xs ys d e h k
  core_pairs (Some (Constant c own)) s t xs ys d e h k = constant_pairs c own s t xs ys d e h k

  -- an equation between two terms with one head gives equations between their arguments, paired again
  pub parts_paired : (f : ℕ) (xs ys : List FoTerm) → Paired signs types (fun f xs) (fun f ys) → AllPaired signs types (zip xs ys)
  parts_paired f xs ys (both_tagged s t d e h k) = tagged_pairs (signs f) s t xs ys d e (sym (read_fun signs types f xs) ∙ h) (sym (read_fun signs types f ys) ∙ k)
  parts_paired f xs ys (both_cores s d e h k) = core_pairs (signs f) s s xs ys d e (sym (read_fun signs types f xs) ∙ h) (sym (read_fun signs types f ys) ∙ k)

  pub turned_pair : (s t : FoTerm) → Paired signs types s t → Paired signs types t s
  turned_pair s t (both_tagged a b d e h k) = both_tagged b a e d k h
  turned_pair s t (both_cores a d e h k) = both_cores a e d k h

  -- ---- a variable

  variable_core : (x : ℕ) (o : Option Ty) (s : Ty) (d : Term) → variable o x ≡ Core s d → o ≡ Some s
  variable_core x None s d h = cc
  variable_core x (Some a) s d h = ap Some (cc)

  variable_no_tag : (x : ℕ) (o : Option Ty) (s : Ty) (d : Term) → variable o x ≡ Tagged s d → ⊥
  variable_no_tag x None s d h = cc
  variable_no_tag x (Some a) s d h = cc

  -- a variable's type, and the core of this type that it is bound to
  pub record IsBound (x : ℕ) (t : FoTerm) : Type 0 where
    pub ty : Ty
    pub term : Term
    pub of : types x ≡ Some ty
    pub is : IsCore signs types t ty term

  pub bound_pair : (x : ℕ) (t : FoTerm) → Paired signs types (var x) t → IsBound x t
  bound_pair x t (both_tagged a b d e h k) = absurd (variable_no_tag x (types x) a d (sym (read_var signs types x) ∙ h))
  bound_pair x t (both_cores a d e h k) = record { ty = a; term = e; of = variable_core x (types x) a d (sym (read_var signs types x) ∙ h); is = k }

  -- ---- lists

  pub paired_append : (es fs : List (FoTerm × FoTerm)) → AllPaired signs types es → AllPaired signs types fs → AllPaired signs types (es ++ fs)
  paired_append [] fs h k = k
  paired_append (e ∷ es) fs h k = (h.0, paired_append es fs h.1 k)

  pub paired_left : (es fs : List (FoTerm × FoTerm)) → AllPaired signs types (es ++ fs) → AllPaired signs types es
  paired_left [] fs h = tt
  paired_left (e ∷ es) fs h = (h.0, paired_left es fs h.1)

  pub paired_right : (es fs : List (FoTerm × FoTerm)) → AllPaired signs types (es ++ fs) → AllPaired signs types fs
  paired_right [] fs h = h
  paired_right (e ∷ es) fs h = paired_right es fs h.1

module _ (signs : Signs) (old new : Types) (u : ℕ → FoTerm) (closed : AreClosed signs) (fits : Fits signs old new u) where
  pub pair_kept : (s t : FoTerm) → Paired signs old s t → Paired signs new (put u s) (put u t)
  pair_kept s t (both_tagged a b d e h k) = both_tagged a b _ _ (tagged_kept signs old new u closed fits s a d h) (tagged_kept signs old new u closed fits t b e k)
  pair_kept s t (both_cores a d e h k) = both_cores a _ _ (core_kept signs old new u closed fits s a d h) (core_kept signs old new u closed fits t a e k)
