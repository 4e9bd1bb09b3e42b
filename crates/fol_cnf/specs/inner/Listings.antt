-- What the parts of the walk that makes clauses answer.
use Rattle.std.specs.Prelude.{◌≡◌}
use Rattle.fol_cnf.specs.declared.walking.Listed.{Listed}
use Rattle.fol_cnf.specs.declared.walking.Opened.{Opened}
use Rattle.fol_cnf.specs.Walks as walks

-- the term put for a quantifier's variable, and the next numbers
abbrev pub Opens : walks.Opened → Opened → Type 0
Opens o r = (r.value ≡ o.value) × (r.after ≡ o.after)

-- the clauses, and the next numbers
abbrev pub Lists : walks.Walked → Listed → Type 0
Lists w r = (w.clauses ≡ r.clauses) × (w.after ≡ r.after)
