-- Names that differ, and no type that is called bool.
use Rattle.std.proofs.Common.{◌≡◌, ℕ, suc, ◌<◌, false, ◌&&◌, IsTrue, List, [], ◌∷◌, ◌++◌, take, drop, length, get_or, codes, None, refl, sym, ap, subst, append_assoc, ◌∙◌}
use Rattle.std.specs.Prelude.{not}
use Rattle.std.specs.List.{list_any, list_all}
use Rattle.std.specs.Str.{bytes_eq}
use Rattle.std.proofs.Math.Seq.{split_at}
use Rattle.std.proofs.lemmas.Bool.{not_from_false, or_from}
use Rattle.hol_terms.proofs.Both.{both_true, and_true}
use Rattle.theory_terms.specs.Words.{place}
use Rattle.theory_reader.specs.Names.{is_name, distinct}
use Rattle.theory_reader.specs.declared.statement.Fact.{Fact}
use Rattle.theory_reader.specs.declared.statement.Goal.{Goal}
use Rattle.theory_terms.specs.declared.decl.Decl.{Decl}
use Rattle.theory_reader.specs.Sound.{const_names, fact_names, are_named, are_distinct}
use Rattle.theory_reader.proofs.SeenNames.{fresh, differ}
use Rattle.proof_syntax.proofs.Numbers.{eq_false}

pub fresh_type : (old all : List (List ℕ)) (i : ℕ) (w : List ℕ) → IsTrue (distinct (old ++ all)) → i < length all → w ≡ get_or all i w → place w (old ++ take i all) ≡ None
fresh_type old all i w h less is =
    let cut_there = split_at all i w less ∙ ap (λ x. take i all ++ x ∷ drop (suc i) all) (sym is) in
    fresh (old ++ take i all) (drop (suc i) all) w
    (subst (λ ns. IsTrue (distinct ns)) (ap (λ ns. old ++ ns) cut_there ∙ sym (append_assoc old (take i all) (w ∷ drop (suc i) all))) h)

-- ---- no type is called bool

bool_is_reserved : IsTrue (is_name (codes "bool")) → ⊥
unfolding is_name
bool_is_reserved h = cc

no_bool : (types : List (List ℕ)) → IsTrue (list_all is_name types) → list_any (bytes_eq (codes "bool")) types ≡ false
no_bool [] h = refl
no_bool (t ∷ types) h =
    let both = both_true (is_name t) (list_all is_name types) h in
    or_from (bytes_eq (codes "bool") t) (list_any (bytes_eq (codes "bool")) types)
    (eq_false (codes "bool") t (λ e. bool_is_reserved (subst (λ w. IsTrue (is_name w)) (sym e) both.0))) (no_bool types both.1)

pub bool_first : (types : List (List ℕ)) → IsTrue (list_all is_name types) → IsTrue (distinct types) → IsTrue (distinct (codes "bool" ∷ types))
bool_first types h d = and_true (not (list_any (bytes_eq (codes "bool")) types)) (distinct types) (not_from_false (list_any (bytes_eq (codes "bool")) types) (no_bool types h)) d

-- ---- what a theory keeps

module _ (types : List (List ℕ)) (consts : List Decl) (facts : List Fact) (goals : List Goal) where
  types_named : IsTrue (are_named types consts facts goals) → IsTrue (list_all is_name types)
  types_named h =
      let a = list_all is_name types in
      let b = list_all is_name (const_names consts) in
      let c = list_all is_name (fact_names facts) in
      let d = list_all (λ g. is_name g.name && list_all is_name (fact_names g.assumes)) goals in
      (both_true a b (both_true (a && b) c (both_true (a && b && c) d h).0).0).0

  pub types_with_bool : IsTrue (are_named types consts facts goals) → IsTrue (are_distinct types consts facts goals) → IsTrue (distinct (codes "bool" ∷ types))
  types_with_bool n d = bool_first types (types_named n) (differ types consts facts goals d).0
