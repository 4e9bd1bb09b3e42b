use Rattle.std.proofs.Common.{[]}
use Rattle.std.proofs.lemmas.Result.{on_ok_weaker}
use Rattle.lambda_lift.proofs.Scoped.{scope_outside}
use Rattle.fol_encode.specs.Occurring.{parts}
use Rattle.fol_encode.proofs.Gathering.{tagged_too}
use Rattle.fol_encode.proofs.occurring.gather.Goals as goal

pub returns : goal.returns
returns c =
    on_ok_weaker c.gather_tag.result
    (λ e. tagged_too c.args.out.now (parts c.args.sig.now c.args.table.now c.args.t.now []) c.gather_below.new.out c.gather_tag.new.out c.in_ok-ty.ty
    (simp scope_outside at c.in_ok-ty.ensures.signs) (simp scope_outside at c.in_ok-ty.ensures.ty) e)
    c.gather_tag.ensures
