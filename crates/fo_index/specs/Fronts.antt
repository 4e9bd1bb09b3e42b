-- The front of a term: its symbols in preorder, up to the first variable. A substitution leaves it, and adds to its end alone.
use Rattle.std.specs.Prelude.{ℕ, zero, suc, ◌≡◌, ◌++◌, ◌⊎◌, List, [], ◌∷◌, take}
use Rattle.std.specs.List.{concat}
use Rattle.fo_terms.specs.declared.term.FoTerm.{FoTerm}
use Rattle.fo_terms.specs.declared.term.FoTerm.TheOpen.{FoTerm-F}
use Rattle.fo_terms.specs.declared.term.FoTerm.TheFolds.{fold-FoTerm}
use Rattle.fo_terms.specs.Substitution.{put}

abbrev pub marks_step : FoTerm-F (List ℕ) → List ℕ
marks_step (FoTerm-F.Var x) = 0 ∷ []
marks_step (FoTerm-F.Fun f args) = suc f ∷ concat args

-- the term in preorder: f + 1 for each symbol f, and 0 for each variable
abbrev pub marks : FoTerm → List ℕ
marks = fold-FoTerm (List ℕ) marks_step

-- the symbols before the first variable
abbrev pub until_variable : List ℕ → List ℕ
until_variable [] = []
until_variable (zero ∷ more) = []
until_variable (suc f ∷ more) = f ∷ until_variable more

-- the front of a term, of which 16 symbols count
unfoldable pub front : FoTerm → List ℕ
front t = take 16 (until_variable (marks t))

-- the second list begins with the first
abbrev pub Begins : List ℕ → List ℕ → Type 0
Begins xs ys = (rest : List ℕ) × (ys ≡ xs ++ rest)

-- one of the two lists begins the other
abbrev pub Meets : List ℕ → List ℕ → Type 0
Meets xs ys = Begins xs ys ⊎ Begins ys xs

-- some instances of the two terms are the same: they have a unifier once their variables are renamed apart
abbrev pub HaveOneInstance : FoTerm → FoTerm → Type 0
HaveOneInstance s t = (u v : ℕ → FoTerm) × (put u s ≡ put v t)
