use Rattle.std.proofs.Common.{sym, ◌∙◌}
use Rattle.hol_terms.proofs.Both.{both_true}
use Rattle.kernel_rules.specs.Connectives.{is_all, head_ty}
use Rattle.kernel_rules.specs.Rules.{is_given}
use Rattle.kernel_rules.proofs.LooseIndexes.{given_closed}
use Rattle.kernel_rules.proofs.quantifiers.all_elim.Goals as goal

pub applied_to-requires : goal.applied_to-requires
applied_to-requires c =
    let ty = head_ty c.args.p.now.concl in
    let both = both_true (is_all c.args.p.now.concl) (is_given c.args.sig.now c.args.t.now ty) (sym c.in_ok-is_of_all.ensures ∙ c.if-branch.true) in
    given_closed c.args.sig.now c.args.t.now ty both.1
