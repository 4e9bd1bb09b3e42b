use Rattle.std.proofs.Common.{arith, sym, ap, ◌∙◌, take, drop, length}
use Rattle.race_outside.specs.Memory.{Flow}
use Rattle.race_outside.proofs.Flows.{pours}
use Rattle.race_outside.proofs.flow.Poured.pour.Goals as goal

pub returns-clause-bytes : goal.returns-clause-bytes
returns-clause-bytes c =
    let rest = c.split_at.ensures.back ∙ ap (λ l. drop c.self.inside.at l) c.as_slice.ensures in
    pours c.self.inside.bytes c.args.into.now c.copy_from_slice.new.self c.args.self.now.left c.self.inside.at c.min-many.result (sym (ap (λ (f : Flow). f.left) c.self.view_is))
    (c.copy_from_slice.ensures.after ∙ ap (λ l. take c.min-many.result l) rest)
    (omega (arith, c.min-many.ensures, ap length rest))
