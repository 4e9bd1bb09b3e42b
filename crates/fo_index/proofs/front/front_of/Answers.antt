use Rattle.std.proofs.Common.{List, ℕ, subst}
use Rattle.fo_index.specs.Fronts.{marks}
use Rattle.fo_index.specs.inner.Gathered.{Gathers}
use Rattle.fo_index.proofs.Walks.{gathers-front}
use Rattle.fo_index.proofs.front.front_of.Goals as goal

pub returns : goal.returns
returns c =
    let P : List ℕ → Type 0 = λ l. Gathers l (marks c.args.t.now) c.in_ok-gather.field-0 c.gather.new.done in
    gathers-front c.args.t.now c.gather.new.done c.in_ok-gather.field-0 (subst P c.begin-symbols.ensures c.in_ok-gather.ensures)
