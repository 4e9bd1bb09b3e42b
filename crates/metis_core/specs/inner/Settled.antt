-- What a call's answer makes of a search.
use Rattle.std.specs.Prelude.{◌≡◌, [], ◌∷◌, ◌++◌, Result, Ok, Err}
use Rattle.fo_infer.specs.declared.refutation.Line.{Line}
use Rattle.metis_core.specs.declared.turn.Turn.{Turn}
use Rattle.metis_core.specs.declared.turn.Turn.TheVariants.{More, Found, Saturated, Spent, NoMemory}
use Rattle.metis_core.specs.declared.stop.Stop.{Stop}
use Rattle.metis_core.specs.declared.stop.Stop.TheVariants.{Found as HasFound, Full}
use Rattle.metis_core.specs.declared.stock.Stock.{Stock}

-- the search goes on, or is found with the empty clause behind its lines, or is spent, or memory is wanting
abbrev pub Settles : Result (Unit {0}) Stop → Stock → Stock → Turn → Type 0
Settles told old new More = (told ≡ Ok tt) × (new ≡ old)
Settles told old new Found = (line : Line) × (told ≡ Err (HasFound line)) × (new.lines ≡ old.lines ++ line ∷ [])
Settles told old new Saturated = ⊥
Settles told old new Spent = (told ≡ Err Full) × (new ≡ old)
Settles told old new NoMemory = Unit {0}
