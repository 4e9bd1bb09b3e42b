use Rattle.std.proofs.Common.{◌≡◌, ◌∙◌, ◌++◌, length, sym, ap, arith}
use Rattle.std.specs.List.{zip}
use Rattle.fo_terms.specs.Substitution.{var}
use Rattle.fo_unify.specs.Shown.{as_binds, shown}
use Rattle.fo_terms.proofs.Heads.{var_same, fun_no_var}
use Rattle.fo_unify.proofs.Agreeing.{settled}
use Rattle.fo_unify.proofs.Reducing.{same_var, other_heads, same_heads, bind_left, bind_right}
use Rattle.fo_unify.proofs.triangle.reduce.Goals as goal

pub returns-then-f-g : goal.returns-then-f-g
returns-then-f-g c =
    other_heads (as_binds c.args.binds.now) c.requires c.args.left.now c.args.right.now (shown c.args.work.now) c.in-Fun-Fun.f c.in-Fun-Fun.g c.in-Fun-Fun.xs c.in-Fun-Fun.ys
    (sym c.walk-s.ensures ∙ c.in-Fun-Fun.is-0) (sym c.walk-t.ensures ∙ c.in-Fun-Fun.is-1) (λ f l. c.if-f-g.true f)

pub returns-then-len : goal.returns-then-len
returns-then-len c =
    other_heads (as_binds c.args.binds.now) c.requires c.args.left.now c.args.right.now (shown c.args.work.now) c.in-Fun-Fun.f c.in-Fun-Fun.g c.in-Fun-Fun.xs c.in-Fun-Fun.ys
    (sym c.walk-s.ensures ∙ c.in-Fun-Fun.is-0) (sym c.walk-t.ensures ∙ c.in-Fun-Fun.is-1) (λ f l. omega arith)

pub returns-then-x-y : goal.returns-then-x-y
returns-then-x-y c =
    same_var (as_binds c.args.binds.now) c.requires c.args.left.now c.args.right.now (shown c.args.work.now) c.in-Var-Var.x
    (sym c.walk-s.ensures ∙ c.in-Var-Var.is-0) (sym c.walk-t.ensures ∙ c.in-Var-Var.is-1 ∙ ap var (sym c.if-x-y.true))

pub returns-then-branch : goal.returns-then-branch
returns-then-branch c =
    settled (as_binds c.args.binds.now) c.args.left.now c.args.right.now (shown c.args.work.now) (c.in_ok-is_settled-in-Fun-Fun.ensures c.if-branch.true)

pub returns-in_ok-bind-in-Var-Var : goal.returns-in_ok-bind-in-Var-Var
returns-in_ok-bind-in-Var-Var c =
    bind_left (as_binds c.args.binds.now) c.requires c.args.left.now c.args.right.now c.walk-t.result.now (shown c.args.work.now) c.in-Var-Var.x (sym c.walk-s.ensures ∙ c.in-Var-Var.is-0) c.walk-t.ensures
    (λ e. c.if-x-y.false (sym (var_same c.in-Var-Var.y c.in-Var-Var.x (sym c.in-Var-Var.is-1 ∙ e)))) c.in_ok-bind-in-Var-Var.field-0 c.in_ok-bind-in-Var-Var.ensures

pub returns-in_ok-bind-in-Var-Fun : goal.returns-in_ok-bind-in-Var-Fun
returns-in_ok-bind-in-Var-Fun c =
    bind_left (as_binds c.args.binds.now) c.requires c.args.left.now c.args.right.now c.walk-t.result.now (shown c.args.work.now) c.in-Var-Fun.x (sym c.walk-s.ensures ∙ c.in-Var-Fun.is-0) c.walk-t.ensures
    (λ e. fun_no_var _ _ _ (sym c.in-Var-Fun.is-1 ∙ e)) c.in_ok-bind-in-Var-Fun.field-0 c.in_ok-bind-in-Var-Fun.ensures

pub returns-in_ok-bind-in-Fun-Var : goal.returns-in_ok-bind-in-Fun-Var
returns-in_ok-bind-in-Fun-Var c =
    bind_right (as_binds c.args.binds.now) c.requires c.args.left.now c.args.right.now c.walk-s.result.now (shown c.args.work.now) c.in-Fun-Var.y (sym c.walk-t.ensures ∙ c.in-Fun-Var.is-1) c.walk-s.ensures
    (λ e. fun_no_var _ _ _ (sym c.in-Fun-Var.is-0 ∙ e)) c.in_ok-bind-in-Fun-Var.field-0 c.in_ok-bind-in-Fun-Var.ensures

pub returns-in_ok-push_pairs-in-Fun-Fun : goal.returns-in_ok-push_pairs-in-Fun-Fun
returns-in_ok-push_pairs-in-Fun-Fun c =
    let lent : zip c.as_slice.result.now c.as_slice-in-Fun-Fun.result.now ≡ zip c.in-Fun-Fun.xs c.in-Fun-Fun.ys = λ i. zip (c.as_slice.ensures i) (c.as_slice-in-Fun-Fun.ensures i) in
    let lengths : length c.in-Fun-Fun.xs ≡ length c.in-Fun-Fun.ys = omega arith in
    same_heads (as_binds c.args.binds.now) c.requires c.args.left.now c.args.right.now (shown c.args.work.now) c.in-Fun-Fun.f c.in-Fun-Fun.g c.in-Fun-Fun.xs c.in-Fun-Fun.ys (shown c.push_pairs.new.work)
    (sym c.walk-s.ensures ∙ c.in-Fun-Fun.is-0) (sym c.walk-t.ensures ∙ c.in-Fun-Fun.is-1) c.if-f-g.false lengths
    (c.in_ok-push_pairs-in-Fun-Fun.ensures ∙ ap (λ p. shown c.args.work.now ++ p) lent)
