-- The normal form of a tagged clause is a tagged clause, and its literals are those of the clause, under other names.
use Rattle.std.proofs.Common.{◌≡◌, ℕ, zero, suc, ◌+◌, Bool, true, false, ◌==◌, ◌&&◌, ◌||◌, if◌then◌else◌, List, [], ◌∷◌, ◌++◌, map, refl, sym, ap, subst, ◌∙◌, inl, inr, ◌⊎◌, arith}
use Rattle.std.specs.Prelude.{not}
use Rattle.std.specs.List.{filter, list_any, concat}
use Rattle.hol_terms.specs.Types.{bool_ty}
use Rattle.fo_terms.specs.declared.term.FoTerm.{FoTerm}
use Rattle.fo_terms.specs.declared.atom.Atom.{Atom}
use Rattle.fo_terms.specs.declared.atom.Atom.TheVariants.{Holds, Eq}
use Rattle.fo_terms.specs.declared.literal.Literal.{Literal}
use Rattle.fo_terms.specs.Substitution.{var, put, put_atom, put_literal, put_literals}
use Rattle.fo_terms.specs.Same.{is_literal}
use Rattle.fo_terms.specs.Normal.{is_identity, is_refuted, lasting, variables_of, atom_terms, literal_variables, clause_variables, place_of, numbering, normal_of}
use Rattle.fo_terms.proofs.Induction.{Each}
use Rattle.fo_terms.proofs.Substitution.{equal_from, equal_true}
use Rattle.fo_terms.proofs.Sameness.{is_term_sound, is_literal_sound}
use Rattle.fo_terms.proofs.Renaming.{each_left, each_right, each_map, filter_each, firsts_each, put_agreeing}
use Rattle.tagged_terms.specs.Readings.{Signs, Types, free, variable}
use Rattle.tagged_terms.specs.Terms.{term_at, tag_of}
use Rattle.tagged_terms.specs.Clauses.{TypedLiteral, formula_of, literal_of, literals_of, IsAtom, IsClause}
use Rattle.tagged_terms.specs.Fits.{AreClosed, Fits}
use Rattle.tagged_terms.proofs.Steps.{read_var}
use Rattle.tagged_terms.proofs.Standing.{puts}
use Rattle.tagged_lines.specs.TypedLiterals.{IsIn, IsRefuted, Lasts}
use Rattle.tagged_lines.specs.Variables.{final_number, final_types, lasting_variables, final}
use Rattle.tagged_lines.proofs.Items.{Listed, firsts_listed, in_map, in_filter, in_firsts}
use Rattle.tagged_lines.proofs.Instances.{clause_kept, as_each, from_each}

-- ---- numbers and types

types_step : (y x : ℕ) (ys : List ℕ) (types : Types) (test : Bool) → (x == y) ≡ test → final_types ys types (final_number ys x) ≡ types x
    → final_types (y ∷ ys) types (if test then zero else suc (final_number ys x)) ≡ types x
types_step y x ys types true e h = ap types (sym (equal_from x y e))
types_step y x ys types false e h = h

pub final_type : (seen : List ℕ) (types : Types) (x : ℕ) → final_types seen types (final_number seen x) ≡ types x
final_type [] types x = refl
final_type (y ∷ ys) types x = types_step y x ys types (x == y) refl (final_type ys types x)

pub final_fits : (signs : Signs) (types : Types) (ls : List Literal) → Fits signs types (final_types (lasting_variables ls) types) (final ls)
final_fits signs types ls x s is =
    let n = final_number (lasting_variables ls) x in
    puts signs (final_types (lasting_variables ls) types) (final ls) x s (free n s)
    (read_var signs (final_types (lasting_variables ls) types) n ∙ ap (λ o. variable o n) (final_type (lasting_variables ls) types x ∙ is))

number_step : (x y : ℕ) (ys : List ℕ) (test other : Bool) → (x == y) ≡ test → (y == x) ≡ other → (other || list_any (λ z. z == x) ys) ≡ true
    → (Listed ys x → place_of x ys ≡ final_number ys x) → (if test then 0 else 1 + place_of x ys) ≡ (if test then zero else suc (final_number ys x))
number_step x y ys true other e k h rest = refl
number_step x y ys false true e k h rest = absurd (clash (x == y) e (ap (λ z. x == z) (equal_from y x k) ∙ itself x))
  where
    clash : (b : Bool) → b ≡ false → b ≡ true → ⊥
    clash b h k = cc

    itself : (x : ℕ) → (x == x) ≡ true
    itself x = equal_true x
number_step x y ys false false e k h rest = let same = rest h in omega arith

place_final : (seen : List ℕ) (x : ℕ) → Listed seen x → place_of x seen ≡ final_number seen x
place_final [] x h = absurd (cc)
place_final (y ∷ ys) x h = number_step x y ys (x == y) (y == x) refl refl h (place_final ys x)

-- ---- names

module _ (u w : ℕ → FoTerm) where
  atom_agrees : (a : Atom) → Each (λ y. u y ≡ w y) (concat (map variables_of (atom_terms a))) → put_atom u a ≡ put_atom w a
  atom_agrees (Holds t) h = ap Holds (put_agreeing u w t (each_left (λ y. u y ≡ w y) (variables_of t) [] h))
  atom_agrees (Eq s t) h =
      let left = put_agreeing u w s (each_left (λ y. u y ≡ w y) (variables_of s) (variables_of t ++ []) h) in
      let right = put_agreeing u w t (each_left (λ y. u y ≡ w y) (variables_of t) [] (each_right (λ y. u y ≡ w y) (variables_of s) (variables_of t ++ []) h)) in
      λ i. Eq (left i) (right i)

  literals_agree : (ls : List Literal) → Each (λ y. u y ≡ w y) (clause_variables ls) → put_literals u ls ≡ put_literals w ls
  literals_agree [] h = refl
  literals_agree (l ∷ ls) h =
      let first = atom_agrees l.atom (each_left (λ y. u y ≡ w y) (literal_variables l) (clause_variables ls) h) in
      let rest = literals_agree ls (each_right (λ y. u y ≡ w y) (literal_variables l) (clause_variables ls) h) in
      λ i. record { positive = l.positive; atom = first i } ∷ rest i

-- the normal form has the final names
pub normal_final : (ls : List Literal) → normal_of ls ≡ put_literals (final ls) (lasting ls)
normal_final ls =
    literals_agree (numbering (lasting_variables ls)) (final ls) (lasting ls)
    (each_map (Listed (lasting_variables ls)) (λ y. numbering (lasting_variables ls) y ≡ final ls y) (clause_variables (lasting ls)) (λ y h. ap var (place_final (lasting_variables ls) y h)) (firsts_listed (clause_variables (lasting ls))))

-- ---- literals

refuted_parts : (l : Literal) → is_refuted l ≡ true → (s : FoTerm) × (t : FoTerm) × (l ≡ record { positive = false; atom = Eq s t }) × (s ≡ t)
refuted_parts l h = by_sign l.positive l.atom h
  where
    by_sign : (positive : Bool) (a : Atom) → (not positive && is_identity a) ≡ true → (s : FoTerm) × (t : FoTerm) × ◌≡◌ {A = Literal} (record { positive = positive; atom = a }) (record { positive = false; atom = Eq s t }) × (s ≡ t)
    by_sign true a k = absurd (cc)
    by_sign false (Holds t) k = absurd (cc)
    by_sign false (Eq s t) k = (s, t, refl, is_term_sound s t k)

module _ (signs : Signs) (ls : List Literal) where
  abbrev N : Literal → TypedLiteral
  N l = literal_of signs (put_literal (final ls) l)

  refuted_stands : (l : Literal) → is_refuted l ≡ true → IsRefuted (N l)
  refuted_stands l h =
      let parts = refuted_parts l h in
      let s = put (final ls) parts.0 in
      record { ty = tag_of signs s; term = term_at signs s bool_ty; is = ap N parts.2 ∙ (λ i. record { positive = false; atom = formula_of signs (Eq s (put (final ls) (sym parts.3 i))) }) }

  lasts_step : (l : Literal) → IsIn ls l → (test : Bool) → is_refuted l ≡ test → IsIn (map N (lasting ls)) (N l) ⊎ IsRefuted (N l)
  lasts_step l h true e = inr (refuted_stands l e)
  lasts_step l h false e = inl (in_map N (lasting ls) l (in_firsts is_literal is_literal_sound (filter (λ m. not (is_refuted m)) ls) l (in_filter (λ m. not (is_refuted m)) ls l h (ap not e))))

  lasts_of : (ms : List Literal) → ((l : Literal) → IsIn ms l → IsIn ls l) → Lasts (map N ms) (map N (lasting ls))
  lasts_of [] f = tt
  lasts_of (m ∷ ms) f = (lasts_step m (f m (inl refl)) (is_refuted m) refl, lasts_of ms (λ l h. f l (inr h)))

  map_both : (ms : List Literal) → literals_of signs (put_literals (final ls) ms) ≡ map N ms
  map_both [] = refl
  map_both (m ∷ ms) = ap (λ r. N m ∷ r) (map_both ms)

  -- all literals of the clause last in its normal form, but for repeats and refuted ones
  pub all_last : Lasts (literals_of signs (put_literals (final ls) ls)) (literals_of signs (normal_of ls))
  all_last =
      subst (λ new. Lasts (literals_of signs (put_literals (final ls) ls)) (literals_of signs new)) (sym (normal_final ls))
      (subst (λ new. Lasts (literals_of signs (put_literals (final ls) ls)) new) (sym (map_both (lasting ls))) (subst (λ old. Lasts old (map N (lasting ls))) (sym (map_both ls)) (lasts_of ls (λ l h. h))))

pub normal_clause : (signs : Signs) (types : Types) (ls : List Literal) → AreClosed signs → IsClause signs types ls → IsClause signs (final_types (lasting_variables ls) types) (normal_of ls)
normal_clause signs types ls closed h =
    subst (IsClause signs (final_types (lasting_variables ls) types)) (sym (normal_final ls))
    (clause_kept signs types (final_types (lasting_variables ls) types) (final ls) closed (final_fits signs types ls) (lasting ls)
    (from_each signs types (lasting ls) (firsts_each (λ l. IsAtom signs types l.atom) is_literal (filter (λ l. not (is_refuted l)) ls) (filter_each (λ l. IsAtom signs types l.atom) (λ l. not (is_refuted l)) ls (as_each signs types ls h)))))
