-- Redexes at places in a term.
use Rattle.std.specs.Prelude.{ℕ, ◌==◌, if◌then◌else◌, List, [], ◌∷◌}
use Rattle.std.specs.FinSet as set
use Rattle.hol_terms.specs.declared.sig.Sig.{Sig}
use Rattle.hol_terms.specs.declared.term.Term.{Term, out-Term}
use Rattle.hol_terms.specs.declared.term.Term.TheOpen.{Term-F}
use Rattle.kernel_rules.specs.declared.sequent.Sequent.{Sequent}
use Rattle.kernel_rules.specs.Connectives.{apply, lambda, equal, is_redex, contracted}
use Rattle.kernel_rules.specs.Rules.{seq}
use Rattle.hol_kernel.specs.Conditions.{own_ty}

abbrev pub contracted_here : Term → Term
contracted_here t = if is_redex t then contracted t else t

abbrev pub in_child : ℕ → Term → Term-F Term → (Term → Term) → Term
in_child d t (Term-F.App f x) g = if d == 0 then apply (g f) x else (if d == 1 then apply f (g x) else t)
in_child d t (Term-F.Lam a b) g = if d == 2 then lambda a (g b) else t
in_child d t _ g = t

-- the term with the redex at the path contracted; the term itself where there is none. A path's 0 goes to the function,
-- 1 to the argument, 2 into a lambda's body
abbrev pub contracted_at : List ℕ → Term → Term
contracted_at [] t = contracted_here t
contracted_at (d ∷ path) t = in_child d t (out-Term t) (contracted_at path)

-- the redexes at the paths contracted in turn
abbrev pub contracted_along : List (List ℕ) → Term → Term
contracted_along [] t = t
contracted_along (path ∷ paths) t = contracted_along paths (contracted_at path t)

-- `{} : t = s` for the contraction `s` of `t` at the path
abbrev pub contraction : Sig → List ℕ → Term → Sequent
contraction sig path t = seq set.empty (equal (own_ty sig t) t (contracted_at path t))
