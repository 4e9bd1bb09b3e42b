-- The names that are printed.
use Rattle.std.specs.Prelude.{◌∷◌, ◌++◌, codes}
use Rattle.theory_reader.specs.declared.statement.Goal.{Goal}
use Rattle.theory_reader.specs.declared.theory.Theory.{Theory}
use Rattle.theory_reader.specs.Sound.{const_names, fact_names, seen_from}
use Rattle.proof_syntax.specs.Names.{Names}
use Rattle.proof_text.specs.declared.names.Vocabulary.{Vocabulary}

-- the facts before the goal stand before its assumptions
abbrev pub declared_names : Vocabulary → Names
declared_names v = record { types = codes "bool" ∷ v.types.now; consts = const_names v.consts.now; facts = fact_names (v.facts.now ++ v.assumes.now) }

-- the names beside a goal
abbrev pub names_beside : Theory → Goal → Names
names_beside t g = record { types = codes "bool" ∷ t.types; consts = const_names t.consts; facts = fact_names (seen_from t.facts g) }
