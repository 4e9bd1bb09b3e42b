-- The two passes in which bindings are put in at once.
use Rattle.std.specs.Prelude.{ℕ, ◌+◌, max, List, [], ◌∷◌}
use Rattle.hol_terms.specs.declared.term.Term.{Term, roll-Term}
use Rattle.hol_terms.specs.declared.term.Term.TheOpen.{Term-F}
use Rattle.hol_terms.specs.declared.term.Term.TheFolds.{fold-Term}
use Rattle.hol_clauses.specs.declared.binding.Binding.{Binding}

-- the variable goes to the one `by` numbers on
abbrev pub moved : ℕ → Binding → Binding
moved by b = record { number = b.number; ty = b.ty; term = roll-Term (Term-F.Free (b.number + by) b.ty) }

-- and from there to the term
abbrev pub placed : ℕ → Binding → Binding
placed by b = record { number = b.number + by; ty = b.ty; term = b.term }

-- the least number above a term's free variables
abbrev pub above_step : Term-F ℕ → ℕ
above_step (Term-F.Bound i) = 0
above_step (Term-F.Free n a) = n + 1
above_step (Term-F.Con k) = 0
above_step (Term-F.App f x) = max f x
above_step (Term-F.Lam a b) = b

abbrev pub above_term : Term → ℕ
above_term = fold-Term ℕ above_step

-- above those of the bindings, and above the bindings' own
abbrev pub above_all : List Binding → ℕ
above_all [] = 0
above_all (b ∷ bs) = max (max (b.number + 1) (above_term b.term)) (above_all bs)
