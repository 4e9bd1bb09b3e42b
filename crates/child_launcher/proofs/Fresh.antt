-- An id that stands in no note.
use Rattle.std.proofs.Common.{◌≡◌, ℕ, ◌<◌, false, List, [], ◌∷◌, arith, ap, ◌∙◌}
use Rattle.std.specs.Prelude.{All, ◌||◌}
use Rattle.std.proofs.lemmas.Bool.{ne_eqb}
use Rattle.std.proofs.lemmas.List.Elements.{All-head, All-tail}
use Rattle.race_core.specs.Standings.{Standing, is_listed}
use Rattle.race_core.specs.declared.slot.Order.{Order}
use Rattle.race_outside.specs.Launchers.{Starts}

-- an id above all that are noted isn't noted
pub unlisted : (n : ℕ) (ids : List ℕ) → All (λ i. i < n) ids → is_listed n ids ≡ false
unlisted n [] all = cc
unlisted n (i ∷ ids) all =
    let lt = All-head (λ i. i < n) i ids all in
    let no : i ≡ n → ⊥ = λ is. absurd (omega arith) in
    ap (λ b. b || is_listed n ids) (ne_eqb i n no) ∙ unlisted n ids (All-tail (λ i. i < n) i ids all)

pub new-unwaited : (order : Order) (before now : Standing) (id : ℕ) → Starts order before now → All (λ i. i < before.starts) before.waits → id ≡ before.starts → is_listed id now.waits ≡ false
new-unwaited order before now id started all is =
    ap (λ ids. is_listed id ids) started.waits ∙ ap (λ n. is_listed n before.waits) is ∙ unlisted before.starts before.waits all

pub new-unkilled : (order : Order) (before now : Standing) (id : ℕ) → Starts order before now → All (λ i. i < before.starts) before.kills → id ≡ before.starts → is_listed id now.kills ≡ false
new-unkilled order before now id started all is =
    ap (λ ids. is_listed id ids) started.kills ∙ ap (λ n. is_listed n before.kills) is ∙ unlisted before.starts before.kills all
