-- Tagged terms below tagged terms: what stands at a path that leads to no core, and what becomes of the whole when it is replaced.
use Rattle.std.proofs.Common.{◌≡◌, ℕ, zero, suc, Bool, true, false, if◌then◌else◌, List, [], ◌∷◌, map, refl, sym, ap, subst, ◌∙◌, Option, Some, None, slice_get}
use Rattle.hol_terms.specs.declared.ty.Ty.{Ty}
use Rattle.hol_terms.specs.declared.konst.Konst.TheVariants as konst
use Rattle.hol_terms.specs.declared.term.Term.{Term, roll-Term}
use Rattle.hol_terms.specs.declared.term.Term.TheOpen.{Term-F}
use Rattle.hol_terms.specs.declared.term.Term.TheViews.{out-roll-Term}
use Rattle.hol_terms.specs.Types.{is_ty, bool_ty}
use Rattle.hol_terms.specs.Typing.{applied}
use Rattle.hol_terms.proofs.TyCases.{is_ty_same, is_ty_itself}
use Rattle.fo_terms.specs.declared.term.FoTerm.{FoTerm}
use Rattle.fo_terms.specs.declared.term.FoTerm.TheVariants.{outs-Var, outs-Fun}
use Rattle.fo_terms.specs.declared.atom.Atom.{Atom}
use Rattle.fo_terms.specs.declared.atom.Atom.TheVariants.{Holds, Eq}
use Rattle.fo_terms.specs.Substitution.{var, fun}
use Rattle.fo_terms.proofs.Induction.{by_cases}
use Rattle.fo_infer.specs.Paths.{at_path, at_atom_path, changed_at, replaced, atom_replaced}
use Rattle.fo_infer.specs.Inferences.{is_single_compound, is_tagged_layer, is_tagged}
use Rattle.tagged_terms.specs.declared.symbol.Symbol.{Symbol}
use Rattle.tagged_terms.specs.declared.symbol.Symbol.TheVariants.{Tag, Apply, Constant}
use Rattle.tagged_terms.specs.Readings.{Signs, Types, Reading, Unread, Core, Tagged, application, core_of, variable, tagging, applying, read_tag, read_apply, read_constant, read_symbol, reading, IsCore, IsTagged}
use Rattle.tagged_terms.specs.Terms.{term_at, tag_of}
use Rattle.tagged_terms.specs.Clauses.{equation, formula_of, IsAtom}
use Rattle.tagged_terms.proofs.Steps.{read_var, read_fun, core_same, tagged_same}
use Rattle.tagged_terms.proofs.Standing.{tagged_with, tagged_stands}
use Rattle.tagged_lines.specs.Places.{child, behind, part_at, with_child, replaced_at, term_path, formula_path}
use Rattle.tagged_lines.proofs.Paths.{replaced_fun, deeper, no_deeper}

-- ---- paths in applications

pub part_left : (path : List ℕ) (f x : Term) → part_at (0 ∷ path) (application f x) ≡ part_at path f
part_left path f x = ap (λ l. behind (child 0 l) (part_at path)) (out-roll-Term (Term-F.App f x))

pub part_right : (path : List ℕ) (f x : Term) → part_at (1 ∷ path) (application f x) ≡ part_at path x
part_right path f x = ap (λ l. behind (child 1 l) (part_at path)) (out-roll-Term (Term-F.App f x))

pub put_left : (path : List ℕ) (u f x : Term) → replaced_at (0 ∷ path) u (application f x) ≡ application (replaced_at path u f) x
put_left path u f x = ap (λ l. with_child 0 (application f x) l (replaced_at path u)) (out-roll-Term (Term-F.App f x))

pub put_right : (path : List ℕ) (u f x : Term) → replaced_at (1 ∷ path) u (application f x) ≡ application f (replaced_at path u x)
put_right path u f x = ap (λ l. with_child 1 (application f x) l (replaced_at path u)) (out-roll-Term (Term-F.App f x))

-- ---- what tagged terms and cores are made of

module _ (signs : Signs) (types : Types) where
  abbrev R : FoTerm → Reading
  R = reading signs types

  pub record TagParts (f : ℕ) (ts : List FoTerm) (a : Ty) (d : Term) : Type 0 where
    pub inner : FoTerm
    pub arguments : ts ≡ inner ∷ []
    pub sign : signs f ≡ Some (Tag a)
    pub core : IsCore signs types inner a d

  tagging_parts : (b a : Ty) (r : Reading) (d : Term) → tagging b r ≡ Tagged a d → (b ≡ a) × (r ≡ Core a d)
  tagging_parts b a Unread d h = absurd (cc)
  tagging_parts b a (Core c e) d h = chosen (is_ty c b) refl h
    where
      chosen : (test : Bool) → is_ty c b ≡ test → (if test then Tagged b e else Unread) ≡ Tagged a d → (b ≡ a) × (Core c e ≡ Core a d)
      chosen true is k = let both = tagged_same b a e d k in (both.0, λ i. Core ((is_ty_same c b is ∙ both.0) i) (both.1 i))
      chosen false is k = absurd (cc)
  tagging_parts b a (Tagged c e) d h = absurd (cc)

  tag_arguments : (f : ℕ) (b a : Ty) (ts : List FoTerm) (d : Term) → signs f ≡ Some (Tag b) → read_tag b (map R ts) ≡ Tagged a d → TagParts f ts a d
  tag_arguments f b a [] d is h = absurd (cc)
  tag_arguments f b a (t ∷ []) d is h = let parts = tagging_parts b a (R t) d h in record { inner = t; arguments = refl; sign = is ∙ ap (λ z. Some (Tag z)) parts.0; core = parts.1 }
  tag_arguments f b a (t ∷ t' ∷ ts) d is h = absurd (cc)

  core_no_tag : (o : Option Ty) (d e : Term) (a : Ty) → core_of o d ≡ Tagged a e → ⊥
  core_no_tag None d e a h = cc
  core_no_tag (Some s) d e a h = cc

  applying_no_tag : (r q : Reading) (a : Ty) (d : Term) → applying r q ≡ Tagged a d → ⊥
  applying_no_tag Unread q a d h = cc
  applying_no_tag (Core s f) q a d h = cc
  applying_no_tag (Tagged s f) Unread a d h = cc
  applying_no_tag (Tagged s f) (Core t x) a d h = cc
  applying_no_tag (Tagged s f) (Tagged t x) a d h = core_no_tag (applied (Some s) (Some t)) (application f x) d a h

  apply_no_tag : (ts : List FoTerm) (a : Ty) (d : Term) → read_apply (map R ts) ≡ Tagged a d → ⊥
  apply_no_tag [] a d h = cc
  apply_no_tag (t ∷ []) a d h = cc
  apply_no_tag (t ∷ t' ∷ []) a d h = applying_no_tag (R t) (R t') a d h
  apply_no_tag (t ∷ t' ∷ t'' ∷ ts) a d h = cc

  constant_no_tag : (c : Term) (s : Ty) (ts : List FoTerm) (a : Ty) (d : Term) → read_constant c s (map R ts) ≡ Tagged a d → ⊥
  constant_no_tag c s [] a d h = cc
  constant_no_tag c s (t ∷ ts) a d h = cc

  symbol_parts : (f : ℕ) (ts : List FoTerm) (a : Ty) (d : Term) (o : Option Symbol) → signs f ≡ o → read_symbol o (map R ts) ≡ Tagged a d → TagParts f ts a d
  symbol_parts f ts a d None is h = absurd (cc)
  symbol_parts f ts a d (Some (Tag b)) is h = tag_arguments f b a ts d is h
  symbol_parts f ts a d (Some Apply) is h = absurd (apply_no_tag ts a d h)
  symbol_parts f ts a d (Some (Constant c s)) is h = absurd (constant_no_tag c s ts a d h)

  pub tag_parts : (f : ℕ) (ts : List FoTerm) (a : Ty) (d : Term) → IsTagged signs types (fun f ts) a d → TagParts f ts a d
  tag_parts f ts a d h = symbol_parts f ts a d (signs f) refl (sym (read_fun signs types f ts) ∙ h)

  variable_no_tag : (o : Option Ty) (x : ℕ) (a : Ty) (d : Term) → variable o x ≡ Tagged a d → ⊥
  variable_no_tag None x a d h = cc
  variable_no_tag (Some s) x a d h = cc

  pub var_no_tag : (x : ℕ) (a : Ty) (d : Term) → IsTagged signs types (var x) a d → ⊥
  var_no_tag x a d h = variable_no_tag (types x) x a d (sym (read_var signs types x) ∙ h)

  -- a core with arguments is an application of tagged terms
  pub record ApplyParts (g : ℕ) (us : List FoTerm) (a : Ty) (d : Term) : Type 0 where
    pub head : FoTerm
    pub argument : FoTerm
    pub arguments : us ≡ head ∷ argument ∷ []
    pub sign : signs g ≡ Some Apply
    pub from : Ty
    pub to : Ty
    pub f : Term
    pub x : Term
    pub head_is : IsTagged signs types head from f
    pub argument_is : IsTagged signs types argument to x
    pub fits : applied (Some from) (Some to) ≡ Some a
    pub term : d ≡ application f x

  core_parts : (o : Option Ty) (e d : Term) (a : Ty) → core_of o e ≡ Core a d → (o ≡ Some a) × (d ≡ e)
  core_parts None e d a h = absurd (cc)
  core_parts (Some s) e d a h = let both = core_same s a e d h in (ap Some both.0, sym both.1)

  applying_parts : (g : ℕ) (y z : FoTerm) (a : Ty) (d : Term) → signs g ≡ Some Apply → (r q : Reading) → R y ≡ r → R z ≡ q → applying r q ≡ Core a d → ApplyParts g (y ∷ z ∷ []) a d
  applying_parts g y z a d is Unread q i j h = absurd (cc)
  applying_parts g y z a d is (Core s f) q i j h = absurd (cc)
  applying_parts g y z a d is (Tagged s f) Unread i j h = absurd (cc)
  applying_parts g y z a d is (Tagged s f) (Core t x) i j h = absurd (cc)
  applying_parts g y z a d is (Tagged s f) (Tagged t x) i j h =
      let both = core_parts (applied (Some s) (Some t)) (application f x) d a h in
      record { head = y; argument = z; arguments = refl; sign = is; from = s; to = t; f = f; x = x; head_is = i; argument_is = j; fits = both.0; term = both.1 }

  tagging_no_core : (b a : Ty) (r : Reading) (d : Term) → tagging b r ≡ Core a d → ⊥
  tagging_no_core b a Unread d h = cc
  tagging_no_core b a (Core c e) d h = chosen (is_ty c b) h
    where
      chosen : (test : Bool) → (if test then Tagged b e else Unread) ≡ Core a d → ⊥
      chosen true k = cc
      chosen false k = cc
  tagging_no_core b a (Tagged c e) d h = cc

  tag_no_core : (b a : Ty) (ts : List FoTerm) (d : Term) → read_tag b (map R ts) ≡ Core a d → ⊥
  tag_no_core b a [] d h = cc
  tag_no_core b a (t ∷ []) d h = tagging_no_core b a (R t) d h
  tag_no_core b a (t ∷ t' ∷ ts) d h = cc

  apply_arguments : (g : ℕ) (us : List FoTerm) (a : Ty) (d : Term) → signs g ≡ Some Apply → read_apply (map R us) ≡ Core a d → ApplyParts g us a d
  apply_arguments g [] a d is h = absurd (cc)
  apply_arguments g (y ∷ []) a d is h = absurd (cc)
  apply_arguments g (y ∷ z ∷ []) a d is h = applying_parts g y z a d is (R y) (R z) refl refl h
  apply_arguments g (y ∷ z ∷ w ∷ us) a d is h = absurd (cc)

  constant_arguments : (c : Term) (s : Ty) (us : List FoTerm) (a : Ty) (d : Term) → read_constant c s (map R us) ≡ Core a d → us ≡ []
  constant_arguments c s [] a d h = refl
  constant_arguments c s (t ∷ us) a d h = absurd (cc)

  apply_by : (g : ℕ) (us : List FoTerm) (a : Ty) (d : Term) (k : ℕ) (y : FoTerm) (o : Option Symbol) → signs g ≡ o → read_symbol o (map R us) ≡ Core a d → slice_get us k ≡ Some y → ApplyParts g us a d
  apply_by g us a d k y None is h at = absurd (cc)
  apply_by g us a d k y (Some (Tag b)) is h at = absurd (tag_no_core b a us d h)
  apply_by g us a d k y (Some Apply) is h at = apply_arguments g us a d is h
  apply_by g us a d k y (Some (Constant c s)) is h at = absurd (none (ap (λ z. slice_get z k) (sym (constant_arguments c s us a d h)) ∙ at))
    where
      none : ◌≡◌ {A = Option FoTerm} None (Some y) → ⊥
      none e = cc

  pub apply_parts : (g : ℕ) (us : List FoTerm) (a : Ty) (d : Term) (k : ℕ) (y : FoTerm) → IsCore signs types (fun g us) a d → slice_get us k ≡ Some y → ApplyParts g us a d
  apply_parts g us a d k y h at = apply_by g us a d k y (signs g) refl (sym (read_fun signs types g us) ∙ h) at

  -- a symbol with one argument isn't a core
  single_no_core : (o : Option Symbol) (us : List FoTerm) (a : Ty) (d : Term) → is_single_compound us ≡ true → read_symbol o (map R us) ≡ Core a d → ⊥
  single_no_core o [] a d one h = cc
  single_no_core o (t ∷ t' ∷ us) a d one h = cc
  single_no_core None (t ∷ []) a d one h = cc
  single_no_core (Some (Tag b)) (t ∷ []) a d one h = tagging_no_core b a (R t) d h
  single_no_core (Some Apply) (t ∷ []) a d one h = cc
  single_no_core (Some (Constant c s)) (t ∷ []) a d one h = cc

  -- the term is no core
  abbrev pub NoCore : FoTerm → Type 0
  NoCore u = (a : Ty) (d : Term) → IsCore signs types u a d → ⊥

  pub position_no_core : (u : FoTerm) → is_tagged u ≡ true → NoCore u
  position_no_core =
      by_cases (λ u. is_tagged u ≡ true → NoCore u) (λ x h. absurd (never (sym (ap is_tagged_layer (outs-Var x)) ∙ h)))
      (λ g us each h a d k. single_no_core (signs g) us a d (sym (ap is_tagged_layer (outs-Fun g us)) ∙ h) (sym (read_fun signs types g us) ∙ k))
    where
      never : false ≡ true → ⊥
      never e = cc

  pub tagged_no_core : (u : FoTerm) (s : Ty) (e : Term) → IsTagged signs types u s e → NoCore u
  tagged_no_core u s e h a d k = clash (sym h ∙ k)
    where
      clash : Tagged s e ≡ Core a d → ⊥
      clash i = cc

  -- ---- along a path

  -- the part at the path is tagged, is found in the typed term, and can be replaced by another one of its type
  pub record Along (path : List ℕ) (t u : FoTerm) (a : Ty) (d : Term) : Type 0 where
    pub ty : Ty
    pub term : Term
    pub is : IsTagged signs types u ty term
    pub part : part_at (term_path path) d ≡ Some term
    pub replaces : (r : FoTerm) (e : Term) → IsTagged signs types r ty e → IsTagged signs types (replaced path r t) a (replaced_at (term_path path) e d)

  abbrev Goes : List ℕ → Type 0
  Goes path = (t u : FoTerm) (a : Ty) (d : Term) → IsTagged signs types t a d → at_path path t ≡ Some u → NoCore u → Along path t u a d

  here : Goes []
  here t u a d h at not_core =
      let e : t ≡ u = cc in
      record { ty = a; term = d; is = subst (λ z. IsTagged signs types z a d) e h; part = refl; replaces = λ r c k. k }

  -- the reading of a tag on an application
  tagged_again : (f g : ℕ) (y z : FoTerm) (a b c : Ty) (p x : Term) → signs f ≡ Some (Tag a) → signs g ≡ Some Apply → applied (Some b) (Some c) ≡ Some a → IsTagged signs types y b p → IsTagged signs types z c x
      → IsTagged signs types (fun f (fun g (y ∷ z ∷ []) ∷ [])) a (application p x)
  tagged_again f g y z a b c p x tag app fits hy hz =
      let core : R (fun g (y ∷ z ∷ [])) ≡ Core a (application p x) =
      read_fun signs types g (y ∷ z ∷ []) ∙ ap (λ o. read_symbol o (R y ∷ R z ∷ [])) app ∙ (λ i. applying (hy i) (hz i)) ∙ ap (λ o. core_of o (application p x)) fits in
      read_fun signs types f (fun g (y ∷ z ∷ []) ∷ []) ∙ ap (λ o. read_symbol o (R (fun g (y ∷ z ∷ [])) ∷ [])) tag ∙ ap (tagging a) core
      ∙ ap (λ test. if test then Tagged a (application p x) else Unread) (is_ty_itself a)

  module _ (path : List ℕ) (rest : Goes path) (f g : ℕ) (y z u : FoTerm) (a b c : Ty) (p x : Term) (tag : signs f ≡ Some (Tag a)) (app : signs g ≡ Some Apply) (fits : applied (Some b) (Some c) ≡ Some a)
      (hy : IsTagged signs types y b p) (hz : IsTagged signs types z c x) (not_core : NoCore u) where
    abbrev whole : FoTerm
    whole = fun f (fun g (y ∷ z ∷ []) ∷ [])

    inner_replaced : (k : ℕ) (r : FoTerm) → replaced (0 ∷ k ∷ path) r whole ≡ fun f (fun g (changed_at k (replaced path r) (y ∷ z ∷ [])) ∷ [])
    inner_replaced k r = replaced_fun 0 (k ∷ path) r f (fun g (y ∷ z ∷ []) ∷ []) ∙ ap (λ t. fun f (t ∷ [])) (replaced_fun k path r g (y ∷ z ∷ []))

    along_left : at_path path y ≡ Some u → Along (0 ∷ 0 ∷ path) whole u a (application p x)
    along_left at =
        let below = rest y u b p hy at not_core in
        record {
          ty = below.ty;
          term = below.term;
          is = below.is;
          part = part_left (term_path path) p x ∙ below.part;
          replaces = λ r e k.
              subst (λ t. IsTagged signs types t a (replaced_at (0 ∷ term_path path) e (application p x))) (sym (inner_replaced 0 r))
              (subst (λ q. IsTagged signs types (fun f (fun g (replaced path r y ∷ z ∷ []) ∷ [])) a q) (sym (put_left (term_path path) e p x))
              (tagged_again f g (replaced path r y) z a b c (replaced_at (term_path path) e p) x tag app fits (below.replaces r e k) hz));
        }

    along_right : at_path path z ≡ Some u → Along (0 ∷ 1 ∷ path) whole u a (application p x)
    along_right at =
        let below = rest z u c x hz at not_core in
        record {
          ty = below.ty;
          term = below.term;
          is = below.is;
          part = part_right (term_path path) p x ∙ below.part;
          replaces = λ r e k.
              subst (λ t. IsTagged signs types t a (replaced_at (1 ∷ term_path path) e (application p x))) (sym (inner_replaced 1 r))
              (subst (λ q. IsTagged signs types (fun f (fun g (y ∷ replaced path r z ∷ []) ∷ [])) a q) (sym (put_right (term_path path) e p x))
              (tagged_again f g y (replaced path r z) a b c p (replaced_at (term_path path) e x) tag app fits hy (below.replaces r e k)));
        }

    along_either : (k : ℕ) (t : FoTerm) → slice_get (y ∷ z ∷ []) k ≡ Some t → at_path path t ≡ Some u → Along (0 ∷ k ∷ path) whole u a (application p x)
    along_either zero t found at = let e : t ≡ y = cc in along_left (ap (at_path path) (sym e) ∙ at)
    along_either (suc zero) t found at = let e : t ≡ z = cc in along_right (ap (at_path path) (sym e) ∙ at)
    along_either (suc (suc k)) t found at = absurd (cc)

  first_only : (t y : FoTerm) (k : ℕ) → slice_get (t ∷ []) k ≡ Some y → (k ≡ 0) × (t ≡ y)
  first_only t y zero h = (refl, cc)
  first_only t y (suc k) h = absurd (cc)

  -- a tag with more of the path below it
  below_core : (path : List ℕ) → Goes path → (k f : ℕ) (inner u : FoTerm) (a : Ty) (d : Term) → signs f ≡ Some (Tag a) → IsCore signs types inner a d → at_path (k ∷ path) inner ≡ Some u → NoCore u
      → Along (0 ∷ k ∷ path) (fun f (inner ∷ [])) u a d
  below_core path rest k f inner u a d tag core at not_core =
      by_cases (λ t. IsCore signs types t a d → at_path (k ∷ path) t ≡ Some u → Along (0 ∷ k ∷ path) (fun f (t ∷ [])) u a d) (λ x h i. absurd (no_deeper k path x u i))
      (λ g us each h i.
      let found = deeper k path g us u i in
      let parts = apply_parts g us a d k found.inner h found.found in
      subst (λ e. Along (0 ∷ k ∷ path) (fun f (fun g us ∷ [])) u a e) (sym parts.term)
      (subst (λ ys. Along (0 ∷ k ∷ path) (fun f (fun g ys ∷ [])) u a (application parts.f parts.x)) (sym parts.arguments)
      (along_either path rest f g parts.head parts.argument u a parts.from parts.to parts.f parts.x tag parts.sign parts.fits parts.head_is parts.argument_is not_core k found.inner
      (ap (λ ys. slice_get ys k) (sym parts.arguments) ∙ found.found) found.at)))
      inner core at

  -- a tag alone: what is below it is a core
  tag_alone : (f k : ℕ) (ts : List FoTerm) (u : FoTerm) (a : Ty) (d : Term) → IsTagged signs types (fun f ts) a d → at_path (k ∷ []) (fun f ts) ≡ Some u → NoCore u → ⊥
  tag_alone f k ts u a d h at not_core =
      let parts = tag_parts f ts a d h in
      let found = deeper k [] f ts u at in
      let first = first_only parts.inner found.inner k (ap (λ ys. slice_get ys k) (sym parts.arguments) ∙ found.found) in
      not_core a d (subst (λ z. IsCore signs types z a d) (first.1 ∙ some_same found.inner u found.at) parts.core)
    where
      some_same : (x y : FoTerm) → Some x ≡ Some y → x ≡ y
      some_same x y e = cc

  further : (path : List ℕ) → Goes path → (tag k : ℕ) → Goes (tag ∷ k ∷ path)
  further path rest tag k t u a d h at not_core =
      by_cases (λ t. IsTagged signs types t a d → at_path (tag ∷ k ∷ path) t ≡ Some u → Along (tag ∷ k ∷ path) t u a d) (λ x i j. absurd (var_no_tag x a d i))
      (λ f ts each i j.
      let parts = tag_parts f ts a d i in
      let found = deeper tag (k ∷ path) f ts u j in
      let first = first_only parts.inner found.inner tag (ap (λ ys. slice_get ys tag) (sym parts.arguments) ∙ found.found) in
      subst (λ n. Along (n ∷ k ∷ path) (fun f ts) u a d) (sym first.0)
      (subst (λ ys. Along (0 ∷ k ∷ path) (fun f ys) u a d) (sym parts.arguments) (below_core path rest k f parts.inner u a d parts.sign parts.core (ap (at_path (k ∷ path)) first.1 ∙ found.at) not_core)))
      t h at

  last : (k : ℕ) → Goes (k ∷ [])
  last k t u a d h at not_core =
      by_cases (λ t. IsTagged signs types t a d → at_path (k ∷ []) t ≡ Some u → Along (k ∷ []) t u a d) (λ x i j. absurd (var_no_tag x a d i)) (λ f ts each i j. absurd (tag_alone f k ts u a d i j not_core)) t h at

  pub along : (path : List ℕ) → Goes path
  along [] = here
  along (k ∷ []) = last k
  along (tag ∷ k ∷ path) = further path (along path) tag k

  -- ---- in atoms

  pub record AlongAtom (path : List ℕ) (a : Atom) (u : FoTerm) : Type 0 where
    pub ty : Ty
    pub term : Term
    pub is : IsTagged signs types u ty term
    pub part : part_at (formula_path a path) (formula_of signs a) ≡ Some term
    pub atom : (r : FoTerm) (e : Term) → IsTagged signs types r ty e → IsAtom signs types (atom_replaced path r a)
    pub formula : (r : FoTerm) (e : Term) → IsTagged signs types r ty e → formula_of signs (atom_replaced path r a) ≡ replaced_at (formula_path a path) e (formula_of signs a)

  -- a tagged term with what it stands for at any type
  pub at_bool : (t : FoTerm) (a : Ty) (d : Term) → IsTagged signs types t a d → IsTagged signs types t a (term_at signs t bool_ty)
  at_bool t a d h = h ∙ ap (Tagged a) (sym (tagged_stands signs types t a d h bool_ty))

  in_term : (path : List ℕ) (t u : FoTerm) → IsAtom signs types (Holds t) → at_path path t ≡ Some u → NoCore u → AlongAtom (0 ∷ path) (Holds t) u
  in_term path t u h at not_core =
      let below = along path t u bool_ty (term_at signs t bool_ty) h at not_core in
      record {
        ty = below.ty;
        term = below.term;
        is = below.is;
        part = below.part;
        atom = λ r e k. at_bool (replaced path r t) bool_ty (replaced_at (term_path path) e (term_at signs t bool_ty)) (below.replaces r e k);
        formula = λ r e k. tagged_stands signs types (replaced path r t) bool_ty (replaced_at (term_path path) e (term_at signs t bool_ty)) (below.replaces r e k) bool_ty;
      }

  abbrev equality : Ty → Term
  equality a = roll-Term (Term-F.Con (konst.Eq a))

  in_left : (path : List ℕ) (s t u : FoTerm) → IsAtom signs types (Eq s t) → at_path path s ≡ Some u → NoCore u → AlongAtom (0 ∷ path) (Eq s t) u
  in_left path s t u h at not_core =
      let a = tag_of signs s in
      let d = term_at signs s bool_ty in
      let c = term_at signs t bool_ty in
      let below = along path s u a d h.0 at not_core in
      let same : (r : FoTerm) (e : Term) → IsTagged signs types r below.ty e → tag_of signs (replaced path r s) ≡ a = λ r e k. tagged_with signs types (replaced path r s) a (replaced_at (term_path path) e d) (below.replaces r e k) in
      record {
        ty = below.ty;
        term = below.term;
        is = below.is;
        part = part_left (1 ∷ term_path path) (application (equality a) d) c ∙ part_right (term_path path) (equality a) d ∙ below.part;
        atom = λ r e k.
            subst (λ b. IsTagged signs types (replaced path r s) b (term_at signs (replaced path r s) bool_ty) × IsTagged signs types t b c × (is_ty b bool_ty ≡ false)) (sym (same r e k))
            (at_bool (replaced path r s) a (replaced_at (term_path path) e d) (below.replaces r e k), h.1, h.2);
        formula = λ r e k.
            (λ i. equation (same r e k i) (tagged_stands signs types (replaced path r s) a (replaced_at (term_path path) e d) (below.replaces r e k) bool_ty i) c)
            ∙ sym (put_left (1 ∷ term_path path) e (application (equality a) d) c ∙ ap (λ l. application l c) (put_right (term_path path) e (equality a) d));
      }

  in_right : (path : List ℕ) (s t u : FoTerm) → IsAtom signs types (Eq s t) → at_path path t ≡ Some u → NoCore u → AlongAtom (1 ∷ path) (Eq s t) u
  in_right path s t u h at not_core =
      let a = tag_of signs s in
      let d = term_at signs s bool_ty in
      let c = term_at signs t bool_ty in
      let below = along path t u a c h.1 at not_core in
      record {
        ty = below.ty;
        term = below.term;
        is = below.is;
        part = part_right (term_path path) (application (equality a) d) c ∙ below.part;
        atom = λ r e k. (h.0, at_bool (replaced path r t) a (replaced_at (term_path path) e c) (below.replaces r e k), h.2);
        formula = λ r e k.
            ap (equation a d) (tagged_stands signs types (replaced path r t) a (replaced_at (term_path path) e c) (below.replaces r e k) bool_ty) ∙ sym (put_right (term_path path) e (application (equality a) d) c);
      }

  pub along_atom : (path : List ℕ) (a : Atom) (u : FoTerm) → IsAtom signs types a → at_atom_path path a ≡ Some u → NoCore u → AlongAtom path a u
  along_atom [] a u h at not_core = absurd (cc)
  along_atom (zero ∷ path) (Holds t) u h at not_core = in_term path t u h at not_core
  along_atom (suc k ∷ path) (Holds t) u h at not_core = absurd (cc)
  along_atom (zero ∷ path) (Eq s t) u h at not_core = in_left path s t u h at not_core
  along_atom (suc zero ∷ path) (Eq s t) u h at not_core = in_right path s t u h at not_core
  along_atom (suc (suc k) ∷ path) (Eq s t) u h at not_core = absurd (cc)
