-- The lexemes of facts and goals in their order, one statement more.
use Rattle.std.proofs.Common.{◌≡◌, ℕ, suc, ◌+◌, ◌≤◌, ◌<◌, ◌∙◌, Bool, IsTrue, List, [], ◌∷◌, ◌++◌, take, drop, ap, refl, arith, append_assoc, cond}
use Rattle.std.proofs.lemmas.Bool.{lt-leb, le-leb}
use Rattle.std.proofs.lemmas.List.Folds.{list_all-append}
use Rattle.hol_terms.proofs.Both.{and_true}
use Rattle.theory_terms.specs.Signature.{Declared}
use Rattle.theory_print.specs.Lexemes.{Lexeme, name_passes, names_pass}
use Rattle.theory_reader.specs.declared.statement.Fact.{Fact}
use Rattle.theory_reader.specs.declared.statement.Goal.{Goal}
use Rattle.theory_text.specs.Printed.{fact_item, goal_item, goal_items, goals_before, statements}

-- the first of the goals stands behind so many facts at least
abbrev pub Later : ℕ → List Goal → Type 0
Later i [] = Unit {0}
Later i (g ∷ gs) = i ≤ g.before

pub later_less : (i : ℕ) (gs : List Goal) → Later (i + 1) gs → Later i gs
later_less i [] h = tt
later_less i (g ∷ gs) h = omega arith

pub both_pass : (ok : List ℕ → Bool) (xs ys : List Lexeme) → IsTrue (names_pass ok xs) → IsTrue (names_pass ok ys) → IsTrue (names_pass ok (xs ++ ys))
both_pass ok xs ys h k = list_all-append (name_passes ok) xs ys ∙ and_true (names_pass ok xs) (names_pass ok ys) h k

module _ (k : ℕ) (all : Declared) where
  pub fact_first : (i : ℕ) (f : Fact) (fs : List Fact) (gs : List Goal) → Later (i + 1) gs →
      statements k all i (f ∷ fs) gs ≡ fact_item k all f ++ statements k all (i + 1) fs gs
  fact_first i f fs [] h = refl
  fact_first i f fs (g ∷ gs) h =
      let behind : i < g.before = omega arith in
      let none : goals_before k all i (g ∷ gs) ≡ 0 = ap (λ b. cond b (1 + goals_before k all i gs) 0) (lt-leb g.before i behind) in
      ap (λ n. goal_items k all (take n (g ∷ gs)) ++ (fact_item k all f ++ statements k all (i + 1) fs (drop n (g ∷ gs)))) none

  pub goal_first : (i : ℕ) (fs : List Fact) (g : Goal) (gs : List Goal) → g.before ≤ i →
      statements k all i fs (g ∷ gs) ≡ goal_item k all g ++ statements k all i fs gs
  goal_first i [] g gs h = refl
  goal_first i (f ∷ fs) g gs h =
      let n = goals_before k all i gs in
      let next : 1 + n ≡ suc n = omega arith in
      let more : goals_before k all i (g ∷ gs) ≡ suc n = ap (λ b. cond b (1 + n) 0) (le-leb g.before i h) ∙ next in
      ap (λ m. goal_items k all (take m (g ∷ gs)) ++ (fact_item k all f ++ statements k all (i + 1) fs (drop m (g ∷ gs)))) more ∙
      append_assoc (goal_item k all g) (goal_items k all (take n gs)) (fact_item k all f ++ statements k all (i + 1) fs (drop n gs))
