use Rattle.std.proofs.Common.{◌≡◌, drop}
use Rattle.std.specs.List.{flat_map}
use Rattle.fol_encode.specs.Signs.{in_order}
use Rattle.fol_encode.specs.Occurring.{occurring}
use Rattle.fol_encode.proofs.occurring.gather_all.Given as goal

abbrev pub invariant-loop-t : goal.invariant-loop-t
invariant-loop-t l = in_order l.out (flat_map (occurring l.sig l.table) (drop l.t-index l.terms)) ≡ in_order l.initial.out (flat_map (occurring l.sig l.table) l.terms)
