use Rattle.std.proofs.Common.{◌≡◌, ◌∙◌, ap, sym, subst, Some, None}
use Rattle.std.specs.Prelude.{if◌then◌else◌}
use Rattle.hol_terms.specs.Types.{function_ty, is_ty}
use Rattle.theory_terms.specs.declared.fault.TheoryKind.TheVariants as kind
use Rattle.theory_terms.specs.Answers.{Good, Bad}
use Rattle.theory_terms.specs.Numbers.{type_at}
use Rattle.theory_terms.proofs.Tables.{as_function, target_function, no_sides, sides_numbers, fits_by_number, unfit_by_number}
use Rattle.theory_terms.proofs.type_table.TypeTable.target.Goals as goal

pub returns-in-None : goal.returns-in-None
returns-in-None c =
    let a = c.in-Arrow.field-0 in
    let b = c.in-Arrow.to in
    let function = as_function c.args.head.now.ty a b c.in-Arrow.is in
    let table = c.self.inside.types in
    let view : table ≡ c.args.self.now = c.self.view_is in
    let number : type_at table c.args.head.now.number ≡ Some (function_ty a b) = ap (λ t. type_at t c.args.head.now.number) view ∙ c.requires.head ∙ ap Some function in
    absurd (no_sides table c.self.inside.sides c.self.invariant.0 c.args.head.now.number a b number c.sides_of.result c.sides_of.ensures c.in-None.is)

pub returns-in_ok-copy_ty-in-Some : goal.returns-in_ok-copy_ty-in-Some
returns-in_ok-copy_ty-in-Some c =
    let a = c.in-Arrow.field-0 in
    let b = c.in-Arrow.to in
    let x = c.args.arg.now.ty in
    let function = as_function c.args.head.now.ty a b c.in-Arrow.is in
    let table = c.self.inside.types in
    let view : table ≡ c.args.self.now = c.self.view_is in
    let number : type_at table c.args.head.now.number ≡ Some (function_ty a b) = ap (λ t. type_at t c.args.head.now.number) view ∙ c.requires.head ∙ ap Some function in
    let found : c.sides_of.result ≡ Some (c.in-Some.from, c.in-Some.into) = cc in
    let numbers = sides_numbers table c.self.inside.sides c.self.invariant.0 c.args.head.now.number a b number c.sides_of.result c.sides_of.ensures c.in-Some.from c.in-Some.into found in
    let argument : type_at table c.args.arg.now.number ≡ Some x = ap (λ t. type_at t c.args.arg.now.number) view ∙ c.requires.arg in
    let fits = fits_by_number table c.self.inside.sides c.self.invariant.0 c.args.head.now.number a b number c.sides_of.result c.sides_of.ensures c.args.arg.now.number x
    (subst (λ m. type_at table m ≡ Some a) c.if-from-arg.true numbers.0) argument in
    let copied : c.in_ok-copy_ty-in-Some.field-0 ≡ b = cc (c.in_ok-copy_ty-in-Some.ensures, c.get.ensures) in (
      target_function c.args.head_at c.args.arg_at c.args.head.now.ty a b x function ∙ ap (λ v. if v then Good b else Bad c.args.arg_at kind.IllTyped) fits ∙ ap Good (sym copied),
      ap (λ t. type_at t c.in-Some.into) (sym view) ∙ numbers.1 ∙ ap Some (sym copied),
    )

pub returns-else-from-arg : goal.returns-else-from-arg
returns-else-from-arg c =
    let a = c.in-Arrow.field-0 in
    let b = c.in-Arrow.to in
    let x = c.args.arg.now.ty in
    let function = as_function c.args.head.now.ty a b c.in-Arrow.is in
    let table = c.self.inside.types in
    let view : table ≡ c.args.self.now = c.self.view_is in
    let number : type_at table c.args.head.now.number ≡ Some (function_ty a b) = ap (λ t. type_at t c.args.head.now.number) view ∙ c.requires.head ∙ ap Some function in
    let found : c.sides_of.result ≡ Some (c.in-Some.from, c.in-Some.into) = cc in
    let numbers = sides_numbers table c.self.inside.sides c.self.invariant.0 c.args.head.now.number a b number c.sides_of.result c.sides_of.ensures c.in-Some.from c.in-Some.into found in
    let argument : type_at table c.args.arg.now.number ≡ Some x = ap (λ t. type_at t c.args.arg.now.number) view ∙ c.requires.arg in
    let unfit = unfit_by_number table c.self.inside.sides c.self.invariant.0 c.args.head.now.number a b number c.sides_of.result c.sides_of.ensures c.self.invariant.1 c.in-Some.from c.args.arg.now.number x
    numbers.0 argument c.if-from-arg.false in
    rw c.ill_typed-else-from-arg.ensures
    (target_function c.args.head_at c.args.arg_at c.args.head.now.ty a b x function ∙ ap (λ v. if v then Good b else Bad c.args.arg_at kind.IllTyped) unfit)
