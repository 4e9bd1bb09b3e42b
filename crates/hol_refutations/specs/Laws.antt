-- What the calls give are refutations of the whole, whatever else is supposed.
use Rattle.std.specs.Prelude.{◌⊎◌}
use Rattle.std.specs.FinSet as set
use Rattle.hol_terms.specs.declared.term.Term.{Term}
use Rattle.hyp_sets.specs.Sets.{TermSet, only, Among}

-- the one hypothesis of a place, and others
abbrev pub beside : Term → TermSet → TermSet
beside t base = set.union (only t) base

-- of a refutation of the part one of the whole
abbrev pub PartLands : Term → Term → TermSet → Type 0
PartLands part whole g = (base : TermSet) → Among g (beside part base) → Among (set.union (only whole) (set.remove g part)) (beside whole base)

-- of refutations of two parts one of the whole
abbrev pub PartsLand : Term → Term → Term → TermSet → TermSet → Type 0
PartsLand p q whole g d = (base : TermSet) → Among g (beside p base) → Among d (beside q base) → Among (set.union (set.union (only whole) (set.remove g p)) (set.remove d q)) (beside whole base)

-- the same, as the sets come out of a denied conjunction
abbrev pub BothLand : Term → Term → Term → TermSet → TermSet → Type 0
BothLand p q whole g d = (base : TermSet) → Among g (beside p base) → Among d (beside q base) → Among (set.union (only whole) (set.union (set.remove g p) (set.remove d q))) (beside whole base)

-- of a refutation of either part alone one of the whole, from which both are taken out
abbrev pub EitherLands : Term → Term → Term → TermSet → Type 0
EitherLands p q whole g = (base : TermSet) → Among g (beside p base) ⊎ Among g (beside q base) → Among (set.union (only whole) (set.remove (set.remove g q) p)) (beside whole base)

-- of refutations of one part each one of a denied equation: of `p` or `r`, and of `q` or `s`
abbrev pub DenialLands : Term → Term → Term → Term → Term → TermSet → TermSet → Type 0
DenialLands p r q s whole g d = (base : TermSet) → Among g (beside p base) ⊎ Among g (beside r base) → Among d (beside q base) ⊎ Among d (beside s base) →
    Among (set.union (only whole) (set.union (set.remove (set.remove g r) p) (set.remove (set.remove d s) q))) (beside whole base)
