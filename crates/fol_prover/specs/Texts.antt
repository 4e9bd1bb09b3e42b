-- The child's texts but for proofs, each line with its end.
use Rattle.std.specs.Prelude.{ℕ, List, codes}

abbrev pub gave_up_text : List ℕ
gave_up_text = codes "% SZS status GaveUp\n"

abbrev pub error_text : List ℕ
error_text = codes "% SZS status Error\n"

abbrev pub memory_text : List ℕ
memory_text = codes "% SZS status MemoryOut\n"
