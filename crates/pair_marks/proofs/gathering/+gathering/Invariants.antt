use Rattle.std.proofs.Common.{◌≡◌, ℕ, ◌<◌, Some, slice_get}
use Rattle.fo_terms.specs.declared.term.FoTerm.{FoTerm}
use Rattle.pair_marks.specs.Sets.{Within}
use Rattle.pair_marks.specs.Marking.{HasParts}
use Rattle.pair_marks.proofs.gathering.+gathering.Given as goal

abbrev pub invariant-with_all_parts-loop-t : goal.invariant-with_all_parts-loop-t
invariant-with_all_parts-loop-t l = record {
  kept : Within l.fn.start l.all;
  parts : (k : ℕ) → k < l.t-index → (t : FoTerm) → slice_get l.terms k ≡ Some t → HasParts l.plain l.all t;
}
