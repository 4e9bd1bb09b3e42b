use Rattle.std.proofs.Common.{ℕ, List, sym, ◌∙◌, subst}
use Rattle.std.specs.Prelude.{Contains, ◌==◌}
use Rattle.std.specs.List.Sorted.{IsStrictlyIncreasing}
use Rattle.std.proofs.lemmas.List.Filters.{dedup_is}
use Rattle.std.proofs.lemmas.List.Kept.{Contains-dedup_nat, Contains-from_dedup}
use Rattle.std.proofs.lemmas.List.Sorted.{Contains-permutation, IsPermutation-sym}
use Rattle.std.proofs.lemmas.Map.Keys.{IsStrictlyIncreasing-dedup}
use Rattle.fo_index.proofs.ascending.ascending.Goals as goal

pub returns-clause-all : goal.returns-clause-all
returns-clause-all c =
    let is = c.from_vec.ensures ∙ dedup_is ◌==◌ c.sort_unstable.new.self.items c.dedup.new.self.items c.dedup.ensures.filtered in
    λ id h.
    let P : List ℕ → Type 0 = λ l. Contains l id in
    subst P (sym is) (Contains-dedup_nat c.sort_unstable.new.self.items id (Contains-permutation c.args.ids.items c.sort_unstable.new.self.items id c.sort_unstable.ensures.permutation h))

pub returns-clause-ascending : goal.returns-clause-ascending
returns-clause-ascending c =
    let is = c.from_vec.ensures ∙ dedup_is ◌==◌ c.sort_unstable.new.self.items c.dedup.new.self.items c.dedup.ensures.filtered in
    let P : List ℕ → Type 0 = λ l. IsStrictlyIncreasing l in
    subst P (sym is) (IsStrictlyIncreasing-dedup c.sort_unstable.new.self.items c.sort_unstable.ensures.sorted)

pub returns-clause-only : goal.returns-clause-only
returns-clause-only c =
    let is = c.from_vec.ensures ∙ dedup_is ◌==◌ c.sort_unstable.new.self.items c.dedup.new.self.items c.dedup.ensures.filtered in
    λ id h.
    let P : List ℕ → Type 0 = λ l. Contains l id in
    Contains-permutation c.sort_unstable.new.self.items c.args.ids.items id (IsPermutation-sym c.args.ids.items c.sort_unstable.new.self.items c.sort_unstable.ensures.permutation)
    (Contains-from_dedup ◌==◌ c.sort_unstable.new.self.items id (subst P is h))
