-- How far a list of facts is minimised, and what one turn may do.
use Rattle.std.specs.Prelude.{ℕ, ◌≡◌, ◌<◌, ◌⊎◌, List, [], ◌∷◌, ◌++◌, length, Contains}
use Rattle.fact_minimise.specs.Sublists.{IsSublist, without}

-- the kept facts, those of them that were found to be needed, and a bound on the turns left
pub record Progress : Type 0 where
  pub kept : List ℕ
  pub needed : List ℕ
  pub left : ℕ

-- the kept facts are found, and they aren't without a needed one
pub record IsSound (finds : List ℕ → Type 0) (now : Progress) : Type 0 where
  pub found : finds now.kept
  pub needed : (fact : ℕ) → Contains now.needed fact → finds (without fact now.kept) → ⊥

-- a shorter list was kept, so that nothing is known to be needed any more
abbrev pub Drops : Progress → Progress → List ℕ → Type 0
Drops old new tried = (new.kept ≡ tried) × (new.needed ≡ [])

-- all facts stay; one more is needed, if it alone was left out
abbrev pub Keeps : Progress → Progress → List ℕ → Type 0
Keeps old new tried =
    (new.kept ≡ old.kept) × ((new.needed ≡ old.needed) ⊎ ((fact : ℕ) × (tried ≡ without fact old.kept) × (new.needed ≡ old.needed ++ fact ∷ [])))

-- one replay of a shorter list: it is kept exactly where it is found
pub record Tries (finds : List ℕ → Type 0) (old new : Progress) : Type 0 where
  pub tried : List ℕ
  pub sublist : IsSublist tried old.kept
  pub shorter : length tried < length old.kept
  pub outcome : (finds tried × Drops old new tried) ⊎ ((finds tried → ⊥) × Keeps old new tried)
