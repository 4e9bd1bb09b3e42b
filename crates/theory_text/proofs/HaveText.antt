-- What is written has a text.
use Rattle.std.proofs.Common.{◌≡◌, ℕ, nat_le, Bool, true, false, ◌&&◌, List, [], ◌∷◌, refl}
use Rattle.std.specs.Prelude.{Some, is_some}
use Rattle.std.specs.List.{list_all}
use Rattle.hol_terms.specs.declared.term.Term.{Term}
use Rattle.theory_terms.specs.Signature.{Declared}
use Rattle.theory_terms.specs.Meanings.{depth}
use Rattle.theory_reader.specs.declared.statement.Fact.{Fact}
use Rattle.theory_reader.specs.declared.statement.Goal.{Goal}
use Rattle.theory_print.specs.Lexemes.{Lexeme}
use Rattle.theory_print.specs.Shapes.{Part, Whole, Sign, Left, LeftEqual, Unwritten, part_of}
use Rattle.theory_print.specs.Views.{whole, has_text}
use Rattle.theory_print.specs.Written.{written}
use Rattle.theory_print.proofs.Depths.{is_le}
use Rattle.theory_text.specs.Printed.{IsWritten, FactsWritten, GoalsWritten, facts_have_text, goal_has_text}

both : (a b : Bool) → a ≡ true → b ≡ true → (a && b) ≡ true
both true b h k = k
both false b h k = cc

is_whole : (k : ℕ) (all : Declared) (p : Part) (xs : List Lexeme) → written k all p ≡ Some xs → is_some (whole p) ≡ true
is_whole k all (Whole s) xs h = refl
is_whole k all (Sign c) xs h = cc
is_whole k all (Left o a) xs h = cc
is_whole k all (LeftEqual a) xs h = cc
is_whole k all Unwritten xs h = cc

module _ (k : ℕ) (all : Declared) where
  sentence : (t : Term) → IsWritten k all t → has_text t ≡ true
  sentence t h = both (nat_le (depth t) 1024) (is_some (whole (part_of t))) (is_le (depth t) 1024 h.2) (is_whole k all (part_of t) h.0 h.1)

  pub facts : (fs : List Fact) → FactsWritten k all fs → facts_have_text fs ≡ true
  facts [] h = refl
  facts (f ∷ fs) h = both (has_text f.formula) (facts_have_text fs) (sentence f.formula h.0) (facts fs h.1)

  pub goals : (gs : List Goal) → GoalsWritten k all gs → list_all goal_has_text gs ≡ true
  goals [] h = refl
  goals (g ∷ gs) h = both (goal_has_text g) (list_all goal_has_text gs) (both (has_text g.formula) (facts_have_text g.assumes) (sentence g.formula h.0.0) (facts g.assumes h.0.1)) (goals gs h.1)

pub both_have : (a b : Bool) → a ≡ true → b ≡ true → (a && b) ≡ true
both_have a b h k = both a b h k
