-- Clauses whose marks don't meet have no inferences.
use Rattle.std.proofs.Common.{◌≡◌, ℕ, zero, suc, ◌+◌, Bool, true, false, IsTrue, List, [], ◌∷◌, map, Option, Some, None, slice_get, option_map, refl, sym, ap, subst, ◌∙◌, arith, rules}
use Rattle.std.specs.Prelude.{option_and_then}
use Rattle.std.specs.List.{flat_map, Contains}
use Rattle.std.proofs.lemmas.List.Elements.{Contains-append_left, Contains-append_right}
use Rattle.std.proofs.lemmas.Option.{slice_get-map}
use Rattle.fo_terms.specs.declared.term.FoTerm.{FoTerm, out-FoTerm}
use Rattle.fo_terms.specs.declared.term.FoTerm.TheOpen.{FoTerm-F}
use Rattle.fo_terms.specs.declared.term.FoTerm.TheVariants.{outs-Var, outs-Fun}
use Rattle.fo_terms.specs.declared.atom.Atom.{Atom}
use Rattle.fo_terms.specs.declared.atom.Atom.TheVariants.{Holds, Eq}
use Rattle.fo_terms.specs.declared.literal.Literal.{Literal}
use Rattle.fo_terms.specs.declared.clause.Clause.{Clause}
use Rattle.fo_terms.specs.Substitution.{var, put, put_atom, put_literal}
use Rattle.fo_terms.specs.Normal.{clause_variables}
use Rattle.fo_terms.proofs.Induction.{by_cases}
use Rattle.fo_terms.proofs.Substitution.{put_var, put_fun}
use Rattle.fo_unify.specs.Lookup.{term_of}
use Rattle.fo_infer.specs.declared.made.Rule.{Rule}
use Rattle.fo_infer.specs.declared.made.Rule.TheVariants.{Resolve, Para, Factor, Reflex}
use Rattle.fo_infer.specs.Paths.{at_path, at_atom_path, arguments, layer_arguments}
use Rattle.fo_infer.specs.Inferences.{above_all, renamed_apart, sought, is_compound_layer, is_compound, is_tagged_layer, Resolves, Paramodulates, PairGives, Listed, done, skip, BetweenAt, pair_rules}
use Rattle.fo_infer.specs.inner.Places.{position_of}
use Rattle.fo_infer.proofs.Resolvents.{some_same}
use Rattle.pair_marks.specs.declared.marks.Marks.{Marks}
use Rattle.pair_marks.specs.declared.pairs.PairMarks.{PairMarks}
use Rattle.pair_marks.specs.Tops.{single_layer_top, layer_top, term_top, is_position}
use Rattle.pair_marks.specs.Sets.{need, offer, AllShare, Within}
use Rattle.pair_marks.specs.Marking.{positive_needs, side_needs, HasParts, HasAtomParts, HasHeld, NoneShares, AreMarksOf}
use Rattle.pair_marks.proofs.Bits.{share_more}
use Rattle.pair_marks.proofs.Heads.{all_share, top_renamed}

-- ---- positions

single_compound : (f : ℕ) (l : FoTerm-F FoTerm) (plain : Bool) → is_compound_layer l ≡ true → is_position plain (single_layer_top f l) ≡ true
single_compound f (FoTerm-F.Var x) plain e = cc
single_compound f (FoTerm-F.Fun g args) plain e = refl

tagged : (l : FoTerm-F FoTerm) → is_tagged_layer l ≡ true → is_position false (layer_top l) ≡ true
tagged (FoTerm-F.Var x) e = cc
tagged (FoTerm-F.Fun f []) e = cc
tagged (FoTerm-F.Fun f (t ∷ [])) e = single_compound f (out-FoTerm t) false e
tagged (FoTerm-F.Fun f (t ∷ u ∷ more)) e = cc

single_plain : (f : ℕ) (l : FoTerm-F FoTerm) → is_position true (single_layer_top f l) ≡ true
single_plain f (FoTerm-F.Var x) = refl
single_plain f (FoTerm-F.Fun g args) = refl

compound : (l : FoTerm-F FoTerm) → is_compound_layer l ≡ true → is_position true (layer_top l) ≡ true
compound (FoTerm-F.Var x) e = cc
compound (FoTerm-F.Fun f []) e = refl
compound (FoTerm-F.Fun f (t ∷ [])) e = single_plain f (out-FoTerm t)
compound (FoTerm-F.Fun f (t ∷ u ∷ more)) e = refl

fits_top : (plain : Bool) (a : Atom) (path : List ℕ) (u : FoTerm) → IsTrue (position_of plain a path u) → is_position plain (term_top u) ≡ true
fits_top false a path u h = tagged (out-FoTerm u) h
fits_top true a path u h = let first : is_compound u ≡ true = search (rules, h) in compound (out-FoTerm u) first

-- ---- renamed terms

some_back : {A B : Type 0} (f : A → B) (o : Option A) (y : B) → option_map f o ≡ Some y → (x : A) × (o ≡ Some x) × (f x ≡ y)
some_back f None y e = cc
some_back f (Some x) y e = (x, refl, some_same (f x) y e)

module _ (rename : ℕ → ℕ) (plain : Bool) (m : Marks) where
  arguments_renamed : (t : FoTerm) → arguments (put (λ x. var (rename x)) t) ≡ map (put (λ x. var (rename x))) (arguments t)
  arguments_renamed = by_cases (λ t. arguments (put (λ x. var (rename x)) t) ≡ map (put (λ x. var (rename x))) (arguments t))
      (λ x. ap arguments (put_var (λ y. var (rename y)) x) ∙ ap layer_arguments (outs-Var (rename x)) ∙ sym (ap (λ l. map (put (λ y. var (rename y))) (layer_arguments l)) (outs-Var x)))
      (λ f args each. ap arguments (put_fun (λ y. var (rename y)) f args) ∙ ap layer_arguments (outs-Fun f (map (put (λ y. var (rename y))) args))
      ∙ sym (ap (λ l. map (put (λ y. var (rename y))) (layer_arguments l)) (outs-Fun f args)))

  abbrev Comes : List ℕ → Option FoTerm → FoTerm → Type 0
  Comes path o u = (s : FoTerm) × (option_and_then (at_path path) o ≡ Some s) × (put (λ x. var (rename x)) s ≡ u)

  step_back : (path : List ℕ) → ((t u : FoTerm) → at_path path (put (λ x. var (rename x)) t) ≡ Some u → Comes path (Some t) u)
      → (o : Option FoTerm) (u : FoTerm) → option_and_then (at_path path) (option_map (put (λ x. var (rename x))) o) ≡ Some u → Comes path o u
  step_back path deeper None u e = cc
  step_back path deeper (Some t) u e = deeper t u e

  -- what stands at a path of the renamed term is what stands there, renamed
  path_back : (path : List ℕ) (t u : FoTerm) → at_path path (put (λ x. var (rename x)) t) ≡ Some u → Comes path (Some t) u
  path_back [] t u e = (t, refl, some_same (put (λ x. var (rename x)) t) u e)
  path_back (k ∷ path) t u e =
      step_back path (path_back path) (slice_get (arguments t) k) u
      (ap (option_and_then (at_path path)) (sym (slice_get-map (put (λ x. var (rename x))) (arguments t) k) ∙ ap (λ l. slice_get l k) (sym (arguments_renamed t))) ∙ e)

  parts_renamed : (t : FoTerm) → HasParts plain m t → HasParts plain m (put (λ x. var (rename x)) t)
  parts_renamed t h path u at is =
      let back = path_back path t u at in
      let same : term_top u ≡ term_top back.0 = ap term_top (sym back.2) ∙ top_renamed rename back.0 in
      subst (λ top. Within (offer top) m) (sym same) (h path back.0 back.1 (ap (is_position plain) (sym same) ∙ is))

  pub atom_parts_renamed : (a : Atom) → HasAtomParts plain m a → HasAtomParts plain m (put_atom (λ x. var (rename x)) a)
  atom_parts_renamed (Holds t) h = parts_renamed t h
  atom_parts_renamed (Eq s t) h = (parts_renamed s h.0, parts_renamed t h.1)

  pub held_renamed : (a : Atom) → HasHeld m a → HasHeld m (put_atom (λ x. var (rename x)) a)
  held_renamed (Holds t) h = subst (λ top. Within (offer top) m) (sym (top_renamed rename t)) h
  held_renamed (Eq s t) h = tt

atom_part : (plain : Bool) (m : Marks) (a : Atom) → HasAtomParts plain m a → (path : List ℕ) (u : FoTerm) → at_atom_path path a ≡ Some u → is_position plain (term_top u) ≡ true → Within (offer (term_top u)) m
atom_part plain m a h [] u at is = cc
atom_part plain m (Holds t) h (zero ∷ path) u at is = h path u at is
atom_part plain m (Holds t) h (suc k ∷ path) u at is = cc
atom_part plain m (Eq s t) h (zero ∷ path) u at is = h.0 path u at is
atom_part plain m (Eq s t) h (suc zero ∷ path) u at is = h.1 path u at is
atom_part plain m (Eq s t) h (suc (suc k) ∷ path) u at is = cc

-- ---- listed needs

listed : (f : Literal → List Marks) (ls : List Literal) (i : ℕ) (l : Literal) (n : Marks) → slice_get ls i ≡ Some l → Contains (f l) n → Contains (flat_map f ls) n
listed f [] i l n at h = cc
listed f (k ∷ ls) zero l n at h = Contains-append_left (f k) (flat_map f ls) n (subst (λ z. Contains (f z) n) (sym (some_same k l at)) h)
listed f (k ∷ ls) (suc i) l n at h = Contains-append_right (f k) (flat_map f ls) n (listed f ls i l n at h)

a_side : (swapped : Bool) (a b : FoTerm) → Contains (need (term_top a) ∷ need (term_top b) ∷ []) (need (term_top (sought swapped a b)))
a_side false a b = (0, omega arith, refl)
a_side true a b = (1, omega arith, refl)

all_share_more : (n d e : Marks) → AllShare n d → Within d e → AllShare n e
all_share_more n d e h g = record { a = share_more n.a d.a e.a h.a g.a; b = share_more n.b d.b e.b h.b g.b; c = share_more n.c d.c e.c h.c g.c; symbols = share_more n.symbols d.symbols e.symbols h.symbols g.symbols }

-- ---- rules

module _ (plain : Bool) (p q : Clause) (left right : PairMarks) (of_left : AreMarksOf plain p left) (of_right : AreMarksOf plain q right) where
  abbrev rename : ℕ → ℕ
  rename x = x + above_all (clause_variables p.literals)

  right_back : (j : ℕ) (l : Literal) → slice_get (renamed_apart p q) j ≡ Some l → (k : Literal) × (slice_get q.literals j ≡ Some k) × (put_literal (λ x. var (rename x)) k ≡ l)
  right_back j l at = some_back (put_literal (λ x. var (rename x))) (slice_get q.literals j) l (sym (slice_get-map (put_literal (λ x. var (rename x))) q.literals j) ∙ at)

  none_resolve : NoneShares left.positives right.negatives → (i j : ℕ) (c : Clause) → Resolves p q i j c → ⊥
  none_resolve none i j c h =
      let back = right_back j (record { positive = false; atom = Holds h.t }) h.right_is in
      let sign : back.0.positive ≡ false = ap (λ l. l.positive) back.2 in
      let offered : Within (offer (term_top h.t)) right.negatives = subst (λ l. HasHeld right.negatives l.atom) back.2 (held_renamed rename plain right.negatives back.0.atom (of_right.negatives j back.0 back.1 sign)) in
      let needed : Contains left.positives (need (term_top h.s)) =
      subst (λ ns. Contains ns (need (term_top h.s))) (sym of_left.positives)
      (listed positive_needs p.literals i (record { positive = true; atom = Holds h.s }) (need (term_top h.s)) h.left_is (0, omega arith, refl)) in
      none (need (term_top h.s)) needed
      (all_share_more (need (term_top h.s)) (offer (term_top h.t)) right.negatives (all_share h.s h.t (term_of h.binds, term_of h.binds, h.unifier.unifies.0)) offered)

  none_para : NoneShares left.sides right.parts → (i : ℕ) (swapped : Bool) (j : ℕ) (path : List ℕ) (c : Clause) → Paramodulates (position_of plain) p q i swapped j path c → ⊥
  none_para none i swapped j path c h =
      let s = sought swapped h.a h.b in
      let back = right_back j h.into h.right_is in
      let parts : HasAtomParts plain right.parts h.into.atom = subst (λ l. HasAtomParts plain right.parts l.atom) back.2 (atom_parts_renamed rename plain right.parts back.0.atom (of_right.parts j back.0 back.1)) in
      let offered : Within (offer (term_top h.u)) right.parts = atom_part plain right.parts h.into.atom parts path h.u h.at (fits_top plain h.into.atom path h.u h.fits) in
      let needed : Contains left.sides (need (term_top s)) =
      subst (λ ns. Contains ns (need (term_top s))) (sym of_left.sides)
      (listed side_needs p.literals i (record { positive = true; atom = Eq h.a h.b }) (need (term_top s)) h.left_is (a_side swapped h.a h.b)) in
      none (need (term_top s)) needed
      (all_share_more (need (term_top s)) (offer (term_top h.u)) right.parts (all_share s h.u (term_of h.binds, term_of h.binds, h.unifier.unifies.0)) offered)

  module _ (none : NoneShares left.positives right.negatives) (nor : NoneShares left.sides right.parts) where
    none_gives : (r : Rule) (c : Clause) → PairGives (position_of plain) p q r c → ⊥
    none_gives (Resolve i j) c h = none_resolve none i j c h
    none_gives (Para i swapped j path) c h = none_para nor i swapped j path c h
    none_gives (Factor i j) c h = h
    none_gives (Reflex i) c h = h

    nothing : (rs : List Rule) → Listed (PairGives (position_of plain) p q) rs []
    nothing [] = done
    nothing (r ∷ rs) = skip (none_gives r) (nothing rs)

    pub no_inferences : BetweenAt (position_of plain) p q []
    no_inferences = nothing (pair_rules p q)
