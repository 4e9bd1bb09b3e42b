-- Where the expanded body of a lifted formula has redexes that the formula hasn't.
use Rattle.std.specs.Prelude.{ℕ, List, [], ◌∷◌, ◌++◌, map, length}
use Rattle.hol_terms.specs.declared.ty.Ty.{Ty}
use Rattle.hol_terms.specs.declared.konst.Konst.TheVariants as konst
use Rattle.hol_terms.specs.declared.term.Term.{Term, out-Term}
use Rattle.hol_terms.specs.declared.term.Term.TheOpen.{Term-F}
use Rattle.hol_terms.specs.declared.term.Term.TheFolds.{fold-Term}
use Rattle.lambda_lift.specs.declared.table.Aux.{Aux}
use Rattle.lambda_lift.specs.Walks.{with_two}
use Rattle.lambda_lift.specs.Equations.{run, behind, result_ty, for_all, applied_to_all}

-- the paths, seen from further out
abbrev pub below : ℕ → List (List ℕ) → List (List ℕ)
below d paths = map (λ path. d ∷ path) paths

-- the redexes of a lambda that was applied to variables, one for each: the innermost application first
abbrev pub spine_step : Term-F (List (List ℕ)) → List (List ℕ)
spine_step (Term-F.App f x) = below 0 f ++ [] ∷ []
spine_step _ = []

abbrev pub spine : Term → List (List ℕ)
spine = fold-Term (List (List ℕ)) spine_step

abbrev pub app_redexes : Term-F Term → (Term → List (List ℕ)) → (Term → List (List ℕ)) → List (List ℕ)
app_redexes (Term-F.App g y) f x = below 0 (f g) ++ below 1 (x y)
app_redexes _ f x = []

abbrev pub lam_redexes : Term → Term-F Term → (Term → List (List ℕ)) → List (List ℕ)
lam_redexes body (Term-F.Lam c d) b = below 2 (b d)
lam_redexes body _ b = spine body

-- the paths of these redexes in the order in which they are contracted, by the formula and its lifted body: where the formula
-- has a lambda and the body none, the body has the lambda's constant and the variables that it was applied to
abbrev pub redexes_step : Term-F (Term → List (List ℕ)) → Term → List (List ℕ)
redexes_step (Term-F.App f x) body = app_redexes (out-Term body) f x
redexes_step (Term-F.Lam a b) body = lam_redexes body (out-Term body) b
redexes_step _ body = []

abbrev pub redexes : Term → Term → List (List ℕ)
redexes = fold-Term (Term → List (List ℕ)) redexes_step

-- the path to the left side of an equation under quantifiers, one for each of these types
abbrev pub left_path : List Ty → List ℕ
left_path [] = 0 ∷ 1 ∷ []
left_path (a ∷ types) = 1 ∷ 2 ∷ left_path types

-- the redexes on the left side of an expanded equation, whose constant has become its closed term
abbrev pub side_redexes : ℕ → Aux → List (List ℕ)
side_redexes k e = map (λ path. left_path (run e.closed) ++ path) (spine (applied_to_all (konst.Aux k) (length (run e.closed))))

-- the equation with the right side on both sides
abbrev pub identity : Aux → Term
identity e = for_all (run e.closed) (with_two (konst.Eq (result_ty (run e.closed) e.ty)) (behind (run e.closed) e.closed) (behind (run e.closed) e.closed))
