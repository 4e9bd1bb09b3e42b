-- Bindings of variables, put in one after another or at once.
use Rattle.std.specs.Prelude.{◌≡◌, ℕ, ◌&&◌, ◌==◌, if◌then◌else◌, List, [], ◌∷◌, IsTrue}
use Rattle.hol_terms.specs.declared.ty.Ty.{Ty}
use Rattle.hol_terms.specs.declared.sig.Sig.{Sig}
use Rattle.hol_terms.specs.declared.term.Term.{Term, roll-Term}
use Rattle.hol_terms.specs.declared.term.Term.TheOpen.{Term-F}
use Rattle.hol_terms.specs.Types.{is_ty, ty_fits}
use Rattle.hol_terms.specs.Substitution.{put_free, one_put}
use Rattle.hol_kernel.specs.Conditions.{IsGiven}
use Rattle.hol_clauses.specs.declared.binding.Binding.{Binding}

-- the term with a binding's term for its variable
abbrev pub put_one : Binding → Term → Term
put_one b = put_free (one_put b.number b.ty b.term)

-- one binding after another
abbrev pub in_turn : List Binding → Term → Term
in_turn [] t = t
in_turn (b ∷ bs) t = in_turn bs (put_one b t)

-- the term of the first binding that has the variable; the variable where there is none
abbrev pub looked_up : List Binding → ℕ → Ty → Term
looked_up [] n a = roll-Term (Term-F.Free n a)
looked_up (b ∷ bs) n a = if n == b.number && is_ty a b.ty then b.term else looked_up bs n a

-- no binding changes the term of an earlier one
abbrev pub Solved : List Binding → Type 0
Solved [] = Unit {0}
Solved (b ∷ bs) = (in_turn bs b.term ≡ b.term) × Solved bs

-- each variable's type is one of the signature, and its term has the type
abbrev pub AllGiven : Sig → List Binding → Type 0
AllGiven sig [] = Unit {0}
AllGiven sig (b ∷ bs) = (IsTrue (ty_fits sig.types b.ty) × IsGiven sig b.term b.ty) × AllGiven sig bs
