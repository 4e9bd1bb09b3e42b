-- Redexes at places in a term, contracted.
use Rattle.std.specs.Prelude.{ℕ, ◌==◌, if◌then◌else◌, List, [], ◌∷◌}
use Rattle.hol_terms.specs.declared.term.Term.{Term, roll-Term, out-Term}
use Rattle.hol_terms.specs.declared.term.Term.TheOpen.{Term-F}
use Rattle.hol_terms.specs.Substitution.{instantiated}

-- `(\x:T. b) u` becomes `b[u]`; another term stays
abbrev pub beta_at : Term → Term → Term-F Term → Term
beta_at t u (Term-F.Lam a b) = instantiated b u
beta_at t u _ = t

abbrev pub beta_here : Term → Term-F Term → Term
beta_here t (Term-F.App f u) = beta_at t u (out-Term f)
beta_here t _ = t

abbrev pub in_child : ℕ → Term → Term-F Term → (Term → Term) → Term
in_child d t (Term-F.App f x) g = if d == 0 then roll-Term (Term-F.App (g f) x) else (if d == 1 then roll-Term (Term-F.App f (g x)) else t)
in_child d t (Term-F.Lam a b) g = if d == 2 then roll-Term (Term-F.Lam a (g b)) else t
in_child d t _ g = t

-- the term with the redex at the path contracted; the term itself where there is none. A path's 0 goes to the function,
-- 1 to the argument, 2 into a lambda's body
unfoldable pub contracted_at : List ℕ → Term → Term
contracted_at [] t = beta_here t (out-Term t)
contracted_at (d ∷ path) t = in_child d t (out-Term t) (contracted_at path)

-- the redexes at the paths contracted in turn
unfoldable pub contracted_along : List (List ℕ) → Term → Term
contracted_along [] t = t
contracted_along (path ∷ paths) t = contracted_along paths (contracted_at path t)
