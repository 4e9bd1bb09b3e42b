use Rattle.std.proofs.Common.{◌≡◌, ◌∙◌, ◌∷◌, [], ◌++◌, sym, ap, subst}
use Rattle.std.specs.Prelude.{None, position}
use Rattle.std.proofs.lemmas.Result.{IfOk-weaker, on_ok_weaker}
use Rattle.hol_terms.specs.Types.{is_ty}
use Rattle.tptp_print.proofs.Numbering.{positions, found, fresh}
use Rattle.tptp_print.proofs.types.TypeNumbers.number.Goals as goal

pub append-requires-clause-new : goal.append-requires-clause-new
append-requires-clause-new c =
    subst (λ b. position (is_ty b) c.args.self.now ≡ None) (sym c.in_ok-copy_ty-in-None.ensures)
    (sym (positions c.self.inside.types c.args.self.now c.self.inside.keys c.args.a.now c.in_ok-key.key.items c.self.view_is c.self.invariant c.in_ok-key.ensures) ∙ sym c.place.ensures ∙ c.in-None.is)

pub returns-in-Some-clause-number : goal.returns-in-Some-clause-number
returns-in-Some-clause-number c =
    (found c.args.self.now c.args.a.now c.in-Some.k
    (sym (positions c.self.inside.types c.args.self.now c.self.inside.keys c.args.a.now c.in_ok-key.key.items c.self.view_is c.self.invariant c.in_ok-key.ensures) ∙ sym c.place.ensures ∙ c.in-Some.is)).0

pub returns-in-Some-clause-types : goal.returns-in-Some-clause-types
returns-in-Some-clause-types c =
    (found c.args.self.now c.args.a.now c.in-Some.k
    (sym (positions c.self.inside.types c.args.self.now c.self.inside.keys c.args.a.now c.in_ok-key.key.items c.self.view_is c.self.invariant c.in_ok-key.ensures) ∙ sym c.place.ensures ∙ c.in-Some.is)).1

pub returns-in_ok-copy_ty-in-None-clause-number : goal.returns-in_ok-copy_ty-in-None-clause-number
returns-in_ok-copy_ty-in-None-clause-number c =
    IfOk-weaker c.append.result _ _
    (λ k e. e ∙ (fresh c.args.self.now c.args.a.now
    (sym (positions c.self.inside.types c.args.self.now c.self.inside.keys c.args.a.now c.in_ok-key.key.items c.self.view_is c.self.invariant c.in_ok-key.ensures) ∙ sym c.place.ensures ∙ c.in-None.is)).0)
    c.append.ensures.number

pub returns-in_ok-copy_ty-in-None-clause-types : goal.returns-in_ok-copy_ty-in-None-clause-types
returns-in_ok-copy_ty-in-None-clause-types c =
    on_ok_weaker c.append.result
    (λ e. e ∙ ap (λ b. c.args.self.now ++ b ∷ []) c.in_ok-copy_ty-in-None.ensures ∙ (fresh c.args.self.now c.args.a.now
    (sym (positions c.self.inside.types c.args.self.now c.self.inside.keys c.args.a.now c.in_ok-key.key.items c.self.view_is c.self.invariant c.in_ok-key.ensures) ∙ sym c.place.ensures ∙ c.in-None.is)).1)
    c.append.ensures.types
