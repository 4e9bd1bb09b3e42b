-- Names that differ, and the names beside a goal.
use Rattle.std.proofs.Common.{◌≡◌, ℕ, suc, ◌+◌, ◌<◌, ◌&&◌, IsTrue, List, [], ◌∷◌, ◌++◌, map, take, drop, length, get_or, slice_get, Some, None, refl, sym, ap, subst, append_assoc, ◌∙◌}
use Rattle.std.specs.Prelude.{not}
use Rattle.std.specs.List.{list_any, list_all}
use Rattle.std.specs.Option.{option_map}
use Rattle.std.specs.Str.{bytes_eq}
use Rattle.std.proofs.Math.Seq.{split_at}
use Rattle.std.proofs.lemmas.Bool.{or_parts, not-true, not_from_false}
use Rattle.std.proofs.lemmas.List.{map-append}
use Rattle.std.proofs.lemmas.List.Folds.{list_any-append}
use Rattle.hol_terms.proofs.Both.{both_true, and_true}
use Rattle.theory_terms.specs.Words.{place}
use Rattle.theory_terms.specs.declared.decl.Decl.{Decl}
use Rattle.theory_terms.proofs.Places.{at_rest}
use Rattle.theory_reader.specs.Names.{distinct}
use Rattle.theory_reader.specs.declared.statement.Fact.{Fact}
use Rattle.theory_reader.specs.declared.statement.Goal.{Goal}
use Rattle.theory_reader.specs.Sound.{const_names, fact_names, goal_names, seen_from, are_distinct}
use Rattle.theory_reader.proofs.Passes.{passes_at}
use Rattle.theory_reader.proofs.Differ.{other_way}

-- a name among names that differ is none of those before it
pub fresh : (xs ys : List (List ℕ)) (w : List ℕ) → IsTrue (distinct (xs ++ w ∷ ys)) → place w xs ≡ None
fresh [] ys w h = refl
fresh (x ∷ xs) ys w h =
    let both = both_true (not (list_any (bytes_eq x) (xs ++ w ∷ ys))) (distinct (xs ++ w ∷ ys)) h in
    let none = not-true (list_any (bytes_eq x) (xs ++ w ∷ ys)) both.0 in
    let parts = or_parts (list_any (bytes_eq x) xs) (list_any (bytes_eq x) (w ∷ ys)) (sym (list_any-append (bytes_eq x) xs (w ∷ ys)) ∙ none) in
    let last = or_parts (bytes_eq x w) (list_any (bytes_eq x) ys) parts.1 in
    at_rest (bytes_eq w) x xs (other_way x w last.0) ∙ ap (option_map (λ i. i + 1)) (fresh xs ys w both.1)

pub fresh_named : {X : Type 0} (f : X → List ℕ) (old : List (List ℕ)) (all : List X) (i : ℕ) (x : X) → IsTrue (distinct (old ++ map f all)) → i < length all → x ≡ get_or all i x →
    place (f x) (old ++ map f (take i all)) ≡ None
fresh_named f old all i x h less is =
    let cut_there = split_at all i x less ∙ ap (λ y. take i all ++ y ∷ drop (suc i) all) (sym is) in
    let names = ap (map f) cut_there ∙ map-append f (take i all) (x ∷ drop (suc i) all) in
    fresh (old ++ map f (take i all)) (map f (drop (suc i) all)) (f x)
    (subst (λ ns. IsTrue (distinct ns)) (ap (λ ns. old ++ ns) names ∙ sym (append_assoc old (map f (take i all)) (f x ∷ map f (drop (suc i) all)))) h)

-- the front of names that differ
pub distinct_front : (xs ys : List (List ℕ)) → IsTrue (distinct (xs ++ ys)) → IsTrue (distinct xs)
distinct_front [] ys h = refl
distinct_front (x ∷ xs) ys h =
    let both = both_true (not (list_any (bytes_eq x) (xs ++ ys))) (distinct (xs ++ ys)) h in
    let none = not-true (list_any (bytes_eq x) (xs ++ ys)) both.0 in
    let parts = or_parts (list_any (bytes_eq x) xs) (list_any (bytes_eq x) ys) (sym (list_any-append (bytes_eq x) xs ys) ∙ none) in
    and_true (not (list_any (bytes_eq x) xs)) (distinct xs) (not_from_false (list_any (bytes_eq x) xs) parts.0) (distinct_front xs ys both.1)

pub seen_parts : (facts : List Fact) (g : Goal) → fact_names (seen_from facts g) ≡ fact_names (take g.before facts) ++ fact_names g.assumes
seen_parts facts g = map-append (λ f. f.name) (take g.before facts) g.assumes

-- ---- what a theory keeps

module _ (types : List (List ℕ)) (consts : List Decl) (facts : List Fact) (goals : List Goal) where
  pub differ : IsTrue (are_distinct types consts facts goals) →
      IsTrue (distinct types) × IsTrue (list_all (λ g. distinct (fact_names (seen_from facts g))) goals)
  differ h =
      let a = distinct types in
      let b = distinct (const_names consts) in
      let c = distinct (fact_names facts) in
      let d = distinct (goal_names goals) in
      let e = list_all (λ g. distinct (fact_names (seen_from facts g))) goals in
      let all = both_true (a && b && c && d) e h in
      ((both_true a b (both_true (a && b) c (both_true (a && b && c) d all.0).0).0).0, all.1)

  pub seen_differ : (k : ℕ) (g : Goal) → IsTrue (are_distinct types consts facts goals) → slice_get goals k ≡ Some g → IsTrue (distinct (fact_names (seen_from facts g)))
  seen_differ k g d e = passes_at (λ g. distinct (fact_names (seen_from facts g))) goals k g (differ d).1 e
