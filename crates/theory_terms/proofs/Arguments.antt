-- A head with its arguments, one after another.
use Rattle.std.proofs.Common.{◌≡◌, ℕ, ◌+◌, ◌<◌, List, [], ◌∷◌, map, drop, length, get_or, refl, sym, ap, subst, ◌∙◌}
use Rattle.std.proofs.lemmas.List.{drop_more}
use Rattle.theory_syntax.specs.declared.tree.Tree.{Tree}
use Rattle.theory_terms.specs.declared.decl.Decl.{Decl}
use Rattle.theory_terms.specs.declared.fault.TheoryKind.{TheoryKind}
use Rattle.theory_terms.specs.declared.fault.TheoryFault.{TheoryFault}
use Rattle.theory_terms.specs.declared.fault.TheoryFault.TheVariants as fault
use Rattle.theory_terms.specs.Answers.{Answer, Good, Bad, and_then, Refused}
use Rattle.theory_terms.specs.Meanings.{Meaning, applied, applied_all}

bad_stays : (at : ℕ) (k : TheoryKind) (xs : List (List Decl → Answer Meaning)) (scope : List Decl) → applied_all (Bad at k) xs scope ≡ Bad at k
bad_stays at k [] scope = refl
bad_stays at k (x ∷ xs) scope = bad_stays at k xs scope

-- a fault of the head is the fault of the whole
pub refused_all : (a : Answer Meaning) (xs : List (List Decl → Answer Meaning)) (scope : List Decl) (e : TheoryFault) → Refused a e → Refused (applied_all a xs scope) e
refused_all a xs scope (fault.At at k) h = ap (λ z. applied_all z xs scope) h ∙ bad_stays at k xs scope
refused_all a xs scope fault.NoMemory h = tt

module _ (F : Tree → List Decl → Answer Meaning) (xs : List Tree) (scope : List Decl) (whole : Meaning) (i : ℕ) (x : Tree) (all : Answer Meaning)
    (within : i < length xs) (is_item : x ≡ get_or xs i x) (so_far : applied_all (Good whole) (map F (drop i xs)) scope ≡ all) where
  -- the head with the argument at this place, and then with those behind it
  one_more : applied_all (and_then (F x scope) (applied whole)) (map F (drop (i + 1) xs)) scope ≡ all
  one_more =
      sym (ap (λ l. applied_all (Good whole) (map F l) scope) (drop_more xs i x within ∙ ap (λ y. y ∷ drop (i + 1) xs) (sym is_item))) ∙ so_far

  pub goes_on : (more : Meaning) → and_then (F x scope) (applied whole) ≡ Good more → applied_all (Good more) (map F (drop (i + 1) xs)) scope ≡ all
  goes_on more h = sym (ap (λ z. applied_all z (map F (drop (i + 1) xs)) scope) h) ∙ one_more

  pub is_refused : (e : TheoryFault) → Refused (and_then (F x scope) (applied whole)) e → Refused all e
  is_refused e h = subst (λ a. Refused a e) one_more (refused_all (and_then (F x scope) (applied whole)) (map F (drop (i + 1) xs)) scope e h)
