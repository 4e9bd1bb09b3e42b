-- The terms that stand for a formula's variables, and the variables of these.
use Rattle.std.specs.Prelude.{ℕ, ◌==◌, if◌then◌else◌, List, [], ◌∷◌, map}
use Rattle.std.specs.List.{concat}
use Rattle.std.specs.Ordering.{nat_cmp}
use Rattle.std.specs.BTreeSet.{insert_key}
use Rattle.fo_terms.specs.declared.term.FoTerm.{FoTerm}
use Rattle.fo_terms.specs.declared.atom.Atom.{Atom}
use Rattle.fo_terms.specs.Substitution.{var, fun}
use Rattle.fo_terms.specs.Normal.{variables_of, atom_terms}

-- the term that stands for each of a formula's variables
abbrev pub Scope : Type 0
Scope = ℕ → FoTerm

-- inside a quantifier over `x`, for which `t` is put
abbrev pub put_for : Scope → ℕ → FoTerm → Scope
put_for v x t y = if x == y then t else v y

-- inside a quantifier over `x` that stays: nothing of the clause's variables stands for it
abbrev pub hidden : Scope → ℕ → Scope
hidden v x = put_for v x (fun 0 [])

-- an atom's variables in reading order
abbrev pub atom_variables : Atom → List ℕ
atom_variables a = concat (map variables_of (atom_terms a))

-- the numbers of the second list among the first, ascending, each once
abbrev pub all_inserted : List ℕ → List ℕ → List ℕ
all_inserted ks [] = ks
all_inserted ks (x ∷ xs) = all_inserted (insert_key nat_cmp ks x) xs

abbrev pub ascending : List ℕ → List ℕ
ascending xs = all_inserted [] xs

-- a new symbol, applied to these variables
abbrev pub chosen_term : ℕ → List ℕ → FoTerm
chosen_term k xs = fun k (map var xs)
