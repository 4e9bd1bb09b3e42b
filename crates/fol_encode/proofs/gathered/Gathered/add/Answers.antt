use Rattle.std.proofs.Common.{◌∙◌, sym, ap, subst}
use Rattle.std.specs.Map.{values_of}
use Rattle.std.specs.BTreeSet.{replace_key}
use Rattle.fol_encode.specs.Signs.{sign_key, sign_cmp}
use Rattle.fol_encode.proofs.Placing.{Agree, placed, keyed}
use Rattle.fol_encode.proofs.gathered.Gathered.add.Goals as goal

pub invariant_of-self : goal.invariant_of-self
invariant_of-self c =
    subst (Agree (λ v. v.items)) (sym c.in-Ok.ensures.entries)
    (keyed (λ v. v.items) c.in_ok-key.key c.in_ok-shared.shared (c.in_ok-key.ensures ∙ ap sign_key (sym c.in_ok-shared.ensures)) c.self.inside.tree.entries c.self.invariant)

pub returns-in-Ok : goal.returns-in-Ok
returns-in-Ok c =
    ap values_of c.in-Ok.ensures.entries
    ∙ placed (λ v. v.items) c.in_ok-key.key c.in_ok-shared.shared (c.in_ok-key.ensures ∙ ap sign_key (sym c.in_ok-shared.ensures)) c.self.inside.tree.entries c.self.invariant
    ∙ (λ i. replace_key sign_cmp (c.self.view_is i) (c.in_ok-shared.ensures i))
