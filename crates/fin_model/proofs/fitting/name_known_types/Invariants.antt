use Rattle.std.proofs.Common.{◌≡◌, drop}
use Rattle.std.specs.List.{list_all}
use Rattle.hol_terms.specs.Types.{ty_fits}
use Rattle.fin_model.proofs.fitting.name_known_types.Given as goal

abbrev pub invariant-loop-ty : goal.invariant-loop-ty
invariant-loop-ty l = list_all (ty_fits l.types) (drop l.ty-index l.tys) ≡ list_all (ty_fits l.types) l.tys
