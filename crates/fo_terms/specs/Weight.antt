-- How much terms, literals and clauses weigh: each symbol and each variable counts 1.
use Rattle.std.specs.Prelude.{ℕ, ◌+◌, ◌-◌, ◌^◌, min, List, map, sum}
use Rattle.fo_terms.specs.declared.term.FoTerm.{FoTerm}
use Rattle.fo_terms.specs.declared.term.FoTerm.TheOpen.{FoTerm-F}
use Rattle.fo_terms.specs.declared.term.FoTerm.TheFolds.{fold-FoTerm}
use Rattle.fo_terms.specs.declared.atom.Atom.{Atom}
use Rattle.fo_terms.specs.declared.atom.Atom.TheVariants.{Holds, Eq}
use Rattle.fo_terms.specs.declared.literal.Literal.{Literal}
use Rattle.fo_terms.specs.declared.clause.Clause.{Clause}

abbrev pub size_step : FoTerm-F ℕ → ℕ
size_step (FoTerm-F.Var x) = 1
size_step (FoTerm-F.Fun f args) = 1 + sum args

-- the number of symbols and variables of a term
abbrev pub size_of : FoTerm → ℕ
size_of = fold-FoTerm ℕ size_step

abbrev pub size_of_all : List FoTerm → ℕ
size_of_all ts = sum (map size_of ts)

-- an equation weighs both sides
abbrev pub atom_size : Atom → ℕ
atom_size (Holds t) = size_of t
atom_size (Eq s t) = size_of s + size_of t

abbrev pub literal_size : Literal → ℕ
literal_size l = atom_size l.atom

-- a clause weighs all its literals
abbrev pub clause_size : Clause → ℕ
clause_size c = sum (map literal_size c.literals)

-- a number, or the greatest `u64` where it is above that
abbrev pub capped : ℕ → ℕ
capped n = min n (2 ^ 64 - 1)
