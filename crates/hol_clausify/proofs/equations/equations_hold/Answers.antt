use Rattle.std.proofs.Common.{◌≡◌, ℕ, ◌≤◌, length, ◌∙◌, sym, ap, subst, arith}
use Rattle.std.specs.FinSet as set
use Rattle.hol_terms.specs.Formulas.{IsFormula}
use Rattle.kernel_rules.specs.Rules.{seq}
use Rattle.hol_derived.proofs.Cuts.{gives_as}
use Rattle.lambda_lift.specs.Standing.{Each}
use Rattle.lambda_lift.specs.Tables.{expand}
use Rattle.lambda_lift.specs.Wholes.{all_of}
use Rattle.hol_clausify.specs.inner.Identities.{IsEquation}
use Rattle.hol_clausify.proofs.Firsts.{split, joined_again}
use Rattle.hol_clausify.proofs.LiftedEquations.{equations_are, equations_formulas}
use Rattle.hol_clausify.proofs.equations.equations_hold.Goals as goal

pub equations_stand-requires-clause-equations : goal.equations_stand-requires-clause-equations
equations_stand-requires-clause-equations c =
    let is = c.as_slice-equations.ensures in
    let some : 1 ≤ length c.as_slice-equations.result.now = subst (λ l. 1 ≤ length l) (sym is) (omega (arith, c.requires.some)) in
    let all = equations_are c.args.log.now.env.sig c.args.formula.now c.args.lifted.now c.args.table.now c.requires.lifted c.requires.formula in
    subst (Each (IsEquation c.args.log.now.env.sig c.args.table.now)) (split c.as_slice-equations.result.now c.index-equations-0.result some c.index-equations-0.is)
    (subst (Each (IsEquation c.args.log.now.env.sig c.args.table.now)) (sym is) all)

pub equations_stand-requires-clause-formulas : goal.equations_stand-requires-clause-formulas
equations_stand-requires-clause-formulas c =
    let is = c.as_slice-equations.ensures in
    let some : 1 ≤ length c.as_slice-equations.result.now = subst (λ l. 1 ≤ length l) (sym is) (omega (arith, c.requires.some)) in
    let all = equations_formulas c.args.log.now.env.sig c.args.formula.now c.args.lifted.now c.args.table.now c.requires.lifted c.requires.formula in
    subst (Each (λ u. IsFormula c.args.log.now.env.sig (expand c.args.table.now u))) (split c.as_slice-equations.result.now c.index-equations-0.result some c.index-equations-0.is)
    (subst (Each (λ u. IsFormula c.args.log.now.env.sig (expand c.args.table.now u))) (sym is) all)

pub returns-clause-gives : goal.returns-clause-gives
returns-clause-gives c =
    let is = c.as_slice-equations.ensures in
    let some : 1 ≤ length c.as_slice-equations.result.now = subst (λ l. 1 ≤ length l) (sym is) (omega (arith, c.requires.some)) in
    gives_as c.equations_stand.result c.equations_stand.new.log _ _
    (ap (λ u. seq set.empty (expand c.args.table.now u)) (joined_again c.as_slice-equations.result.now c.index-equations-0.result some c.index-equations-0.is ∙ ap all_of is)) c.equations_stand.ensures.gives
