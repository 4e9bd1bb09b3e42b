-- Paramodulation.
use Rattle.std.proofs.Common.{◌≡◌, ℕ, Bool, true, false, List, [], ◌∷◌, ◌++◌, refl, sym, ap, subst, ◌∙◌, Some, slice_get}
use Rattle.std.specs.Prelude.{slice_set}
use Rattle.std.specs.List.{remove}
use Rattle.std.proofs.lemmas.List.{map-append}
use Rattle.hol_terms.specs.declared.term.Term.{Term}
use Rattle.hol_terms.specs.Types.{bool_ty}
use Rattle.hol_terms.specs.Substitution.{put_free}
use Rattle.fo_terms.specs.declared.term.FoTerm.{FoTerm}
use Rattle.fo_terms.specs.declared.atom.Atom.TheVariants.{Eq}
use Rattle.fo_terms.specs.declared.literal.Literal.{Literal}
use Rattle.fo_terms.specs.declared.clause.Clause.{Clause}
use Rattle.fo_terms.specs.Substitution.{put, put_atom, put_literal, put_literals}
use Rattle.fo_terms.specs.Normal.{clause_variables, normal_of}
use Rattle.fo_unify.specs.declared.subst.Bind.{Bind}
use Rattle.fo_unify.specs.Lookup.{term_of}
use Rattle.fo_unify.specs.Unifier.{IsMostGeneral}
use Rattle.fo_unify.specs.Unified.{Unified}
use Rattle.fo_infer.specs.Paths.{atom_replaced}
use Rattle.fo_infer.specs.Inferences.{above_all, renamed_apart, sought, put_in, literal_replaced, tagged_position, Paramodulates}
use Rattle.tagged_terms.specs.Readings.{Signs, Types, reading, IsTagged}
use Rattle.tagged_terms.specs.Terms.{term_at, tag_of}
use Rattle.tagged_terms.specs.Clauses.{formula_of, literal_of, literals_of, IsAtom, IsClause}
use Rattle.tagged_terms.specs.Fits.{AreClosed, typed_put, Fits, both_tagged}
use Rattle.tagged_terms.proofs.Steps.{tagged_same}
use Rattle.tagged_terms.proofs.Standing.{tagged_stands}
use Rattle.tagged_terms.proofs.Keeping.{tagged_kept}
use Rattle.tagged_terms.proofs.Solving.{solved_fits}
use Rattle.tagged_lines.specs.TypedLiterals.{Lasts}
use Rattle.tagged_lines.specs.Variables.{lasting_variables, finished, finished_apart}
use Rattle.tagged_lines.specs.Places.{part_at, replaced_at, formula_path}
use Rattle.tagged_lines.specs.Rules.{from, to, ParamodulatesTo}
use Rattle.tagged_lines.specs.Lifted.{paramodulated, ParamodulationLifts}
use Rattle.tagged_lines.proofs.Items.{map_get, map_remove, map_set, each_get, each_set}
use Rattle.tagged_lines.proofs.Apart.{left_clause, beside_of, final_of}
use Rattle.tagged_lines.proofs.Instances.{atom_kept, as_each, from_each, clause_remove, clause_append}
use Rattle.tagged_lines.proofs.Concluding.{new_types, finished_fits, concluded, lasting, concludes, finished_same}
use Rattle.tagged_lines.proofs.Beside.{both_types, right_clause, left_instance, right_instance, right_at_once}
use Rattle.tagged_lines.proofs.Paths.{at_atom_put, atom_replaced_put, formula_path_put}
use Rattle.tagged_lines.proofs.Along.{AlongAtom, along_atom, position_no_core, tagged_no_core, at_bool}

-- ---- the sides of an equation

module _ (signs : Signs) (types : Types) (a b : FoTerm) (h : IsAtom signs types (Eq a b)) where
  pub sought_tagged : (swapped : Bool) → IsTagged signs types (sought swapped a b) (tag_of signs a) (term_at signs (sought swapped a b) bool_ty)
  sought_tagged true = h.1
  sought_tagged false = h.0

  pub put_in_tagged : (swapped : Bool) → IsTagged signs types (put_in swapped a b) (tag_of signs a) (term_at signs (put_in swapped a b) bool_ty)
  put_in_tagged true = h.0
  put_in_tagged false = h.1

from_is : (signs : Signs) (u : ℕ → FoTerm) (a b : FoTerm) (swapped : Bool) → term_at signs (put u (sought swapped a b)) bool_ty ≡ from swapped (term_at signs (put u a) bool_ty) (term_at signs (put u b) bool_ty)
from_is signs u a b true = refl
from_is signs u a b false = refl

to_is : (signs : Signs) (u : ℕ → FoTerm) (a b : FoTerm) (swapped : Bool) → term_at signs (put u (put_in swapped a b)) bool_ty ≡ to swapped (term_at signs (put u a) bool_ty) (term_at signs (put u b) bool_ty)
to_is signs u a b true = refl
to_is signs u a b false = refl

-- ---- one literal changed

changed_literals : (signs : Signs) (u : ℕ → FoTerm) (ps qs : List Literal) (i j : ℕ) (l : Literal)
    → literals_of signs (put_literals u (remove ps i ++ slice_set qs j l)) ≡ remove (literals_of signs (put_literals u ps)) i ++ slice_set (literals_of signs (put_literals u qs)) j (literal_of signs (put_literal u l))
changed_literals signs u ps qs i j l =
    ap (literals_of signs) (map-append (put_literal u) (remove ps i) (slice_set qs j l) ∙ (λ k. map_remove (put_literal u) ps i k ++ map_set (put_literal u) qs j l k))
    ∙ map-append (literal_of signs) (remove (put_literals u ps) i) (slice_set (put_literals u qs) j (put_literal u l))
    ∙ (λ k. map_remove (literal_of signs) (put_literals u ps) i k ++ map_set (literal_of signs) (put_literals u qs) j (put_literal u l) k)

-- ---- the rule

module _ (p q : Clause) (i : ℕ) (swapped : Bool) (j : ℕ) (path : List ℕ) (c : Clause) (signs : Signs) (left right : Types) (binds : List Bind) (closed : AreClosed signs)
    (h : IsClause signs left p.literals) (k : IsClause signs right q.literals) (rule : Paramodulates tagged_position p q i swapped j path c)
    (general : IsMostGeneral ((sought swapped rule.a rule.b, rule.u) ∷ []) binds) (run : Unified ((sought swapped rule.a rule.b, rule.u) ∷ []) binds) where
  abbrev types : Types
  types = both_types p left right

  abbrev apart : List Literal
  apart = renamed_apart p q

  abbrev source : FoTerm
  source = sought swapped rule.a rule.b

  abbrev target : FoTerm
  target = put_in swapped rule.a rule.b

  abbrev changed : Literal
  changed = literal_replaced path target rule.into

  abbrev ls : List Literal
  ls = remove p.literals i ++ slice_set apart j changed

  abbrev before : List Literal
  before = paramodulated p q binds i j changed

  abbrev u : ℕ → FoTerm
  u = finished binds before

  hp : IsClause signs types p.literals
  hp = left_clause signs p left right h

  hq : IsClause signs types apart
  hq = right_clause signs p q left right closed k

  equation_at : IsAtom signs types (Eq rule.a rule.b)
  equation_at = each_get (λ n. IsAtom signs types n.atom) p.literals i (record { positive = true; atom = Eq rule.a rule.b }) (as_each signs types p.literals hp) rule.left_is

  into_at : IsAtom signs types rule.into.atom
  into_at = each_get (λ n. IsAtom signs types n.atom) apart j rule.into (as_each signs types apart hq) rule.right_is

  place : AlongAtom signs types path rule.into.atom rule.u
  place = along_atom signs types path rule.into.atom rule.u into_at rule.at (position_no_core signs types rule.u rule.fits)

  good : Fits signs types types (term_of binds)
  good =
      solved_fits signs types closed ((source, rule.u) ∷ []) binds run
      (both_tagged (tag_of signs rule.a) place.ty (term_at signs source bool_ty) place.term (sought_tagged signs types rule.a rule.b equation_at swapped) place.is, tt)

  -- the part has the type of the equation's sides, since its tag becomes theirs
  one_type : tag_of signs rule.a ≡ place.ty
  one_type =
      let one = tagged_kept signs types types (term_of binds) closed good source (tag_of signs rule.a) (term_at signs source bool_ty) (sought_tagged signs types rule.a rule.b equation_at swapped) in
      let other = tagged_kept signs types types (term_of binds) closed good rule.u place.ty place.term place.is in
      (tagged_same (tag_of signs rule.a) place.ty _ _ (sym one ∙ ap (reading signs types) general.unifies.0 ∙ other)).0

  target_at : IsTagged signs types target place.ty (term_at signs target bool_ty)
  target_at = subst (λ a. IsTagged signs types target a (term_at signs target bool_ty)) one_type (put_in_tagged signs types rule.a rule.b equation_at swapped)

  rest : IsClause signs types ls
  rest =
      clause_append signs types (remove p.literals i) (slice_set apart j changed) (clause_remove signs types p.literals i hp)
      (from_each signs types (slice_set apart j changed) (each_set (λ n. IsAtom signs types n.atom) apart j changed (as_each signs types apart hq) (place.atom target (term_at signs target bool_ty) target_at)))

  abbrev new : Types
  new = new_types signs types closed binds good ls rest

  fits : Fits signs types new u
  fits = finished_fits signs types closed binds good ls rest

  whole : c.literals ≡ normal_of (put_literals (term_of binds) ls)
  whole = concludes ((source, rule.u) ∷ []) rule.binds binds c ls rule.unifier general rule.gives

  -- ---- after instantiation

  part_at_new : IsTagged signs new (put u rule.u) place.ty (put_free (typed_put signs u) place.term)
  part_at_new = tagged_kept signs types new u closed fits rule.u place.ty place.term place.is

  place_new : AlongAtom signs new path (put_atom u rule.into.atom) (put u rule.u)
  place_new =
      along_atom signs new path (put_atom u rule.into.atom) (put u rule.u) (atom_kept signs types new u closed fits rule.into.atom into_at) (at_atom_put u path rule.into.atom rule.u rule.at)
      (tagged_no_core signs new (put u rule.u) place.ty (put_free (typed_put signs u) place.term) part_at_new)

  new_type : place.ty ≡ place_new.ty
  new_type = (tagged_same place.ty place_new.ty (put_free (typed_put signs u) place.term) place_new.term (sym part_at_new ∙ place_new.is)).0

  target_new : IsTagged signs new (put u target) place_new.ty (term_at signs (put u target) bool_ty)
  target_new =
      let kept = tagged_kept signs types new u closed fits target place.ty (term_at signs target bool_ty) target_at in
      at_bool signs new (put u target) place_new.ty (put_free (typed_put signs u) (term_at signs target bool_ty)) (subst (λ a. IsTagged signs new (put u target) a (put_free (typed_put signs u) (term_at signs target bool_ty))) new_type kept)

  abbrev hole : List ℕ
  hole = formula_path rule.into.atom path

  abbrev formula : Term
  formula = formula_of signs (put_atom u rule.into.atom)

  abbrev s : Term
  s = term_at signs (put u rule.a) bool_ty

  abbrev t : Term
  t = term_at signs (put u rule.b) bool_ty

  part_is : part_at hole formula ≡ Some (from swapped s t)
  part_is =
      let same = finished_same binds before source rule.u general.unifies.0 in
      ap (λ z. part_at z formula) (sym (formula_path_put u rule.into.atom path)) ∙ place_new.part
      ∙ ap Some (sym (tagged_stands signs new (put u rule.u) place_new.ty place_new.term place_new.is bool_ty) ∙ ap (λ z. term_at signs z bool_ty) (sym same) ∙ from_is signs u rule.a rule.b swapped)

  changed_is : literal_of signs (put_literal u changed) ≡ record { positive = rule.into.positive; atom = replaced_at hole (to swapped s t) formula }
  changed_is =
      let formula_changed : formula_of signs (put_atom u (atom_replaced path target rule.into.atom)) ≡ replaced_at hole (to swapped s t) formula =
      ap (formula_of signs) (sym (atom_replaced_put u path target rule.into.atom rule.u rule.at)) ∙ place_new.formula (put u target) (term_at signs (put u target) bool_ty) target_new
      ∙ (λ z. replaced_at (formula_path_put u rule.into.atom path z) (to_is signs u rule.a rule.b swapped z) formula) in
      λ z. record { positive = rule.into.positive; atom = formula_changed z }

  paramodulates : ParamodulatesTo i swapped j hole (literals_of signs (put_literals u p.literals)) (literals_of signs (put_literals (finished_apart p binds before) q.literals)) (literals_of signs c.literals)
  paramodulates =
      let once = right_at_once p q binds before in
      let l : Literal = record { positive = true; atom = Eq rule.a rule.b } in
      record {
        ty = tag_of signs (put u rule.a);
        s = s;
        t = t;
        into = literal_of signs (put_literal u rule.into);
        left = map_get (literal_of signs) (put_literals u p.literals) i (put_literal u l) (map_get (put_literal u) p.literals i l rule.left_is);
        right = subst (λ qs. slice_get (literals_of signs qs) j ≡ Some (literal_of signs (put_literal u rule.into))) once
            (map_get (literal_of signs) (put_literals u apart) j (put_literal u rule.into) (map_get (put_literal u) apart j rule.into rule.right_is));
        part = part_is;
        lasts = subst (λ qs. Lasts (remove (literals_of signs (put_literals u p.literals)) i ++ slice_set (literals_of signs qs) j (record { positive = rule.into.positive; atom = replaced_at hole (to swapped s t) formula })) (literals_of signs c.literals)) once
            (subst (λ m. Lasts (remove (literals_of signs (put_literals u p.literals)) i ++ slice_set (literals_of signs (put_literals u apart)) j m) (literals_of signs c.literals)) changed_is
            (subst (λ old. Lasts old (literals_of signs c.literals)) (changed_literals signs u p.literals apart i j changed) (lasting signs types closed binds good ls rest c.literals whole)));
      }

pub paramodulation_lifts : (p q : Clause) (i : ℕ) (swapped : Bool) (j : ℕ) (path : List ℕ) (c : Clause) → ParamodulationLifts p q i swapped j path c
paramodulation_lifts p q i swapped j path c signs left right binds closed h k rule general run =
    let r = rest p q i swapped j path c signs left right binds closed h k rule general run in
    let g = good p q i swapped j path c signs left right binds closed h k rule general run in
    let l = literal_replaced path (put_in swapped rule.a rule.b) rule.into in
    let ms = remove p.literals i ++ slice_set (renamed_apart p q) j l in
    let f = fits p q i swapped j path c signs left right binds closed h k rule general run in
    record {
      types = new_types signs (both_types p left right) closed binds g ms r;
      of = λ sig of_left of_right. final_of sig (lasting_variables (paramodulated p q binds i j l)) (both_types p left right) (beside_of sig (above_all (clause_variables p.literals)) left right of_left of_right);
      tagged = concluded signs (both_types p left right) closed binds g ms r c.literals (whole p q i swapped j path c signs left right binds closed h k rule general run);
      left_parent = left_instance signs p left right (new_types signs (both_types p left right) closed binds g ms r) (finished binds (paramodulated p q binds i j l)) closed h f;
      right_parent = right_instance signs p q left right (new_types signs (both_types p left right) closed binds g ms r) binds (paramodulated p q binds i j l) closed k f;
      rule = paramodulates p q i swapped j path c signs left right binds closed h k rule general run;
    }
