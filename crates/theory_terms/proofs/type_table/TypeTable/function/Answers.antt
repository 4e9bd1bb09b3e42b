use Rattle.std.proofs.Common.{◌≡◌, ◌∙◌, ap, sym, subst, None}
use Rattle.std.specs.Prelude.{Some, position, IfOk}
use Rattle.std.specs.Ordering.{is_eq}
use Rattle.hol_terms.specs.Types.{function_ty}
use Rattle.theory_terms.specs.Numbers.{type_at, IsNumbered, Keeps}
use Rattle.theory_terms.specs.inner.Tables.{compared}
use Rattle.theory_terms.proofs.Tables.{held_function, grown, grown_number, grown_keeps}
use Rattle.theory_terms.proofs.type_table.TypeTable.function.Goals as goal

pub invariant_of-self : goal.invariant_of-self
invariant_of-self c =
    let table = c.self.inside.types in
    let view : table ≡ c.args.self.now = c.self.view_is in
    let from : type_at table c.args.from.now.number ≡ Some c.args.from.now.ty = ap (λ t. type_at t c.args.from.now.number) view ∙ c.requires.from in
    let to : type_at table c.args.to.now.number ≡ Some c.args.to.now.ty = ap (λ t. type_at t c.args.to.now.number) view ∙ c.requires.to in
    grown table c.self.inside.sides c.self.invariant.0 (c.args.from.now.number, c.args.to.now.number) c.args.from.now.ty c.args.to.now.ty from to c.self.invariant.1
    (sym c.in-None.ensures.place) c.in_ok-ty-in-None.ty c.in_ok-ty-in-None.ensures c.push.new.types c.push.new.sides c.push.result c.push.ensures.types c.push.ensures.sides c.push.ensures.err

pub returns-in-Some-clause-made : goal.returns-in-Some-clause-made
returns-in-Some-clause-made c =
    let table = c.self.inside.types in
    let view : table ≡ c.args.self.now = c.self.view_is in
    let from : type_at table c.args.from.now.number ≡ Some c.args.from.now.ty = ap (λ t. type_at t c.args.from.now.number) view ∙ c.requires.from in
    let to : type_at table c.args.to.now.number ≡ Some c.args.to.now.ty = ap (λ t. type_at t c.args.to.now.number) view ∙ c.requires.to in
    subst (λ n. IfOk c.held.result (λ t. (t.ty ≡ function_ty c.args.from.now.ty c.args.to.now.ty) × IsNumbered n t)) view
    (held_function table c.self.inside.sides c.self.invariant.0 (c.args.from.now.number, c.args.to.now.number) c.args.from.now.ty c.args.to.now.ty from to
    c.in-Some.place c.in-Some.ensures.place c.held.result c.held.ensures)

pub returns-in_ok-ty-in-None-clause-made : goal.returns-in_ok-ty-in-None-clause-made
returns-in_ok-ty-in-None-clause-made c =
    let table = c.self.inside.types in
    let view : table ≡ c.args.self.now = c.self.view_is in
    let from : type_at table c.args.from.now.number ≡ Some c.args.from.now.ty = ap (λ t. type_at t c.args.from.now.number) view ∙ c.requires.from in
    let to : type_at table c.args.to.now.number ≡ Some c.args.to.now.ty = ap (λ t. type_at t c.args.to.now.number) view ∙ c.requires.to in
    grown_number table c.self.inside.sides c.self.invariant.0 (c.args.from.now.number, c.args.to.now.number) c.args.from.now.ty c.args.to.now.ty from to c.self.invariant.1
    (sym c.in-None.ensures.place) c.in_ok-ty-in-None.ty c.in_ok-ty-in-None.ensures c.push.new.types c.push.new.sides c.push.result c.push.ensures.types c.push.ensures.made

pub returns-in_ok-ty-in-None-clause-keeps : goal.returns-in_ok-ty-in-None-clause-keeps
returns-in_ok-ty-in-None-clause-keeps c =
    let table = c.self.inside.types in
    let view : table ≡ c.args.self.now = c.self.view_is in
    let from : type_at table c.args.from.now.number ≡ Some c.args.from.now.ty = ap (λ t. type_at t c.args.from.now.number) view ∙ c.requires.from in
    let to : type_at table c.args.to.now.number ≡ Some c.args.to.now.ty = ap (λ t. type_at t c.args.to.now.number) view ∙ c.requires.to in
    subst (λ n. Keeps n c.push.new.types) view
    (grown_keeps table c.self.inside.sides c.self.invariant.0 (c.args.from.now.number, c.args.to.now.number) c.args.from.now.ty c.args.to.now.ty from to c.self.invariant.1
    (sym c.in-None.ensures.place) c.in_ok-ty-in-None.ty c.in_ok-ty-in-None.ensures c.push.new.types c.push.new.sides c.push.result c.push.ensures.types c.push.ensures.err)
