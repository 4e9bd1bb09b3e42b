-- Facts whose names are visible fit.
use Rattle.std.proofs.Common.{ℕ, zero, suc, ◌≡◌, ◌∙◌, Bool, true, false, List, [], ◌∷◌, refl, sym, ap, subst, IsTrue, if◌then◌else◌, Some, slice_get}
use Rattle.std.specs.Prelude.{◌||◌, not, filter}
use Rattle.std.specs.Str.{bytes_eq}
use Rattle.std.proofs.lemmas.List.Folds.{Any-from_list_any}
use Rattle.std.proofs.lemmas.Slice.Eq.{bytes_eq-Decides}
use Rattle.hol_terms.proofs.Both.{both_true}
use Rattle.theory_reader.specs.declared.statement.Fact.{Fact}
use Rattle.theory_reader.specs.declared.theory.Theory.{Theory}
use Rattle.theory_reader.specs.Names.{distinct}
use Rattle.theory_reader.specs.Sound.{fact_names}
use Rattle.theory_reader.specs.Seen.{seen}
use Rattle.sledge_engine.specs.Choice.{AllNamed, AllVisible, has_name, is_named}
use Rattle.slot_work.specs.Visible.{fact_fits}
use Rattle.sledge_engine.proofs.Fitted.{absent, distinct_seen, kept, not_true}

-- a name that is named is one of those that are there
named_there : (there names : List (List ℕ)) (w : List ℕ) → AllNamed there names → is_named names w ≡ true → is_named there w ≡ true
named_there there names w all named =
    let at = Any-from_list_any (bytes_eq w) names named in
    let same : w ≡ at.1 = (bytes_eq-Decides w at.1).0 at.4 in
    ap (is_named there) (same ∙ sym at.3) ∙ all at.0 at.1 at.2

or_left : (a b : Bool) → a ≡ true → (a || b) ≡ true
or_left true b e = refl
or_left false b e = absurd cc

or_right : (a b : Bool) → b ≡ true → (a || b) ≡ true
or_right true b e = refl
or_right false b e = e

-- a fact's name is that of a fact
has_its_name : (fs : List Fact) (n : ℕ) (f : Fact) → slice_get fs n ≡ Some f → is_named (fact_names fs) f.name ≡ true
has_its_name [] n f is = absurd cc
has_its_name (x ∷ fs) zero f is =
    let same : x ≡ f = cc in
    or_left (bytes_eq f.name x.name) (is_named (fact_names fs) f.name) ((bytes_eq-Decides f.name x.name).1 (ap (λ g. g.name) (sym same)))
has_its_name (x ∷ fs) (suc n) f is = or_right (bytes_eq f.name x.name) (is_named (fact_names fs) f.name) (has_its_name fs n f is)

module _ (p : Fact → Bool) where
  first_passes : (x : Fact) (fs : List Fact) (b : Bool) → p x ≡ b → is_named (fact_names fs) x.name ≡ false →
      is_named (fact_names (filter p (x ∷ fs))) x.name ≡ true → p x ≡ true
  first_passes x fs true passed apart named = passed
  first_passes x fs false passed apart named =
      let none : is_named (fact_names (filter p (x ∷ fs))) x.name ≡ false =
      ap (λ b. is_named (fact_names (if b then x ∷ filter p fs else filter p fs)) x.name) passed ∙ absent p x.name fs apart in
      absurd cc

  later_passes : (x f : Fact) (fs : List Fact) (b : Bool) → bytes_eq f.name x.name ≡ b → is_named (fact_names fs) x.name ≡ false →
      is_named (fact_names fs) f.name ≡ true → is_named (fact_names (filter p (x ∷ fs))) f.name ≡ true → is_named (fact_names (filter p fs)) f.name ≡ true
  later_passes x f fs true same apart there named =
      let is : f.name ≡ x.name = (bytes_eq-Decides f.name x.name).0 same in
      let none : is_named (fact_names fs) f.name ≡ false = ap (is_named (fact_names fs)) is ∙ apart in
      absurd cc
  later_passes x f fs false other apart there named = sym (kept p f.name x fs (p x) refl other) ∙ named

  -- where names differ, a fact passes that has the name of one that does
  pub passes_by_name : (fs : List Fact) (n : ℕ) (f : Fact) → IsTrue (distinct (fact_names fs)) → slice_get fs n ≡ Some f →
      is_named (fact_names (filter p fs)) f.name ≡ true → p f ≡ true
  passes_by_name [] n f d is named = absurd cc
  passes_by_name (x ∷ fs) zero f d is named =
      let same : x ≡ f = cc in
      let apart = both_true (not (is_named (fact_names fs) x.name)) (distinct (fact_names fs)) d in
      let here : is_named (fact_names (filter p (x ∷ fs))) x.name ≡ true = ap (λ g. is_named (fact_names (filter p (x ∷ fs))) g.name) same ∙ named in
      ap p (sym same) ∙ first_passes x fs (p x) refl (not_true p (is_named (fact_names fs) x.name) apart.0) here
  passes_by_name (x ∷ fs) (suc n) f d is named =
      let apart = both_true (not (is_named (fact_names fs) x.name)) (distinct (fact_names fs)) d in
      passes_by_name fs n f apart.1 is
      (later_passes x f fs (bytes_eq f.name x.name) refl (not_true p (is_named (fact_names fs) x.name) apart.0) (has_its_name fs n f is) named)

-- the named facts, each of them visible, fit
pub named_fits : (t : Theory) (goal : ℕ) (names : List (List ℕ)) → AllVisible t goal names → (k : ℕ) (f : Fact) → slice_get (seen t goal) k ≡ Some f →
    has_name names f ≡ true → fact_fits t f ≡ true
named_fits t goal names all k f is named =
    passes_by_name (fact_fits t) (seen t goal) k f (distinct_seen t goal) is (named_there (fact_names (filter (fact_fits t) (seen t goal))) names f.name all named)
