use Rattle.std.proofs.Common.{◌-◌, ◌^◌, ◌∙◌, min, length, sym, ap}
use Rattle.std.specs.FinSet as set
use Rattle.hyp_sets.specs.inner.Trees.{items}
use Rattle.hyp_sets.proofs.Ascending.{len_ascends}
use Rattle.hyp_sets.proofs.hyps.Hyps.len.Goals as goal

pub returns : goal.returns
returns c =
    c.count.ensures ∙ ap (λ z. min (length (items z)) (2 ^ 64 - 1)) c.get.ensures ∙ ap (λ n. min n (2 ^ 64 - 1)) (sym (len_ascends (items c.self.inside.tree) c.self.invariant))
    ∙ ap (λ s. min (set.len s) (2 ^ 64 - 1)) c.self.view_is
