-- Laws of the definitions.
use Rattle.std.specs.Prelude.{◌≡◌, ℕ, true, IsTrue, List, ◌++◌, slice_get, Some}
use Rattle.hol_terms.specs.declared.sig.Sig.{Sig}
use Rattle.hol_terms.specs.declared.term.Term.{Term}
use Rattle.hol_terms.specs.Formulas.{aux_free}
use Rattle.hol_terms.specs.Substitution.{is_closed}
use Rattle.lambda_lift.specs.declared.table.Aux.{Aux}
use Rattle.lambda_lift.specs.Keys.{is_same}
use Rattle.lambda_lift.specs.Tables.{expand}
use Rattle.lambda_lift.specs.Walks.{Stage}
use Rattle.lambda_lift.specs.Equations.{equation}
use Rattle.lambda_lift.specs.Lifting.{lifted, lifted_equation}
use Rattle.lambda_lift.specs.Contractions.{contracted_along}
use Rattle.lambda_lift.specs.Redexes.{redexes, side_redexes, identity}

-- the test of equality is right: it tells any two terms apart
abbrev pub KeysTell : Term → Term → Type 0
KeysTell s t = (is_same s t ≡ true → s ≡ t) × (s ≡ t → is_same s t ≡ true)

-- contracting those redexes of the expanded body that the formula hasn't gives the formula
abbrev pub BodyIsFormula : Sig → List Aux → Term → Type 0
BodyIsFormula sig table t =
    IsTrue (aux_free t) → contracted_along (redexes t (lifted sig table t).body) (expand (lifted sig table t).table (lifted sig table t).body) ≡ t

-- where the table has the entry at the number, contracting the redexes of its lifted equation, expanded over any longer table, gives its right
-- side on both sides
abbrev pub EquationsHold : Sig → Stage → ℕ → Aux → List Aux → Type 0
EquationsHold sig s k e more =
    slice_get s.table k ≡ Some e → IsTrue (aux_free e.closed) → IsTrue (is_closed e.closed) →
    let w = lifted_equation sig k s in
    let table = w.after.table ++ more in
    contracted_along (redexes (equation k e) w.term ++ side_redexes k e) (expand table w.term) ≡ identity e
