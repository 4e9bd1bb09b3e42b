-- Inferences whose clauses aren't written yet.
use Rattle.std.specs.Prelude.{◌≡◌, ◌<◌, ℕ, Bool, true, List, ◌++◌, map, length, Option, Some, None, slice_get, slice_set}
use Rattle.std.specs.List.{remove}
use Rattle.fo_terms.specs.declared.term.FoTerm.{FoTerm}
use Rattle.fo_terms.specs.declared.atom.Atom.{Atom}
use Rattle.fo_terms.specs.declared.atom.Atom.TheVariants.{Holds, Eq}
use Rattle.fo_terms.specs.declared.literal.Literal.{Literal}
use Rattle.fo_terms.specs.declared.clause.Clause.{Clause}
use Rattle.fo_terms.specs.Substitution.{var}
use Rattle.fo_unify.specs.declared.subst.Bind.{Bind}
use Rattle.fo_infer.specs.declared.made.Made.{Made}
use Rattle.fo_infer.specs.declared.made.Rule.{Rule}
use Rattle.fo_infer.specs.declared.made.Rule.TheVariants.{Resolve, Para, Factor, Reflex}
use Rattle.fo_infer.specs.declared.finding.Finding.{Finding}
use Rattle.fo_infer.specs.Inferences.{conclusion, literal_replaced, put_in}

abbrev pub atom_side : Bool → Atom → FoTerm
atom_side swapped (Holds t) = t
atom_side swapped (Eq a b) = put_in swapped a b

-- the side that the equation puts in
abbrev pub side_of : Bool → Option Literal → FoTerm
side_of swapped None = var 0
side_of swapped (Some l) = atom_side swapped l.atom

abbrev pub replaced_in : List ℕ → FoTerm → Option Literal → Literal
replaced_in path r None = record { positive = true; atom = Holds r }
replaced_in path r (Some l) = literal_replaced path r l

-- the literals that a rule leaves of a clause and of another one's literals apart, before the unifier is put through them
abbrev pub left_by : Clause → List Literal → Rule → List Literal
left_by p apart (Resolve i j) = remove p.literals i ++ remove apart j
left_by p apart (Para i swapped j path) = remove p.literals i ++ slice_set apart j (replaced_in path (side_of swapped (slice_get p.literals i)) (slice_get apart j))
left_by p apart (Factor i j) = remove p.literals j
left_by p apart (Reflex i) = remove p.literals i

-- the clause that the rule gives, where a unifier is found
abbrev pub given_by : Clause → List Literal → Rule → Option (List Bind) → Option Clause
given_by p apart r None = None
given_by p apart r (Some binds) = Some (conclusion binds (left_by p apart r))

-- the inference that is found
abbrev pub made_of : Clause → List Literal → Finding → Made
made_of p apart f = record { clause = conclusion f.unifier (left_by p apart f.rule); rule = f.rule }

abbrev pub all_made : Clause → List Literal → List Finding → List Made
all_made p apart fs = map (made_of p apart) fs

-- the literals that the rule names are there
abbrev pub IsPlaced : Clause → List Literal → Rule → Type 0
IsPlaced p apart (Resolve i j) = (i < length p.literals) × (j < length apart)
IsPlaced p apart (Para i swapped j path) = (i < length p.literals) × (j < length apart) × ((a : FoTerm) × (b : FoTerm) × (slice_get p.literals i ≡ Some (record { positive = true; atom = Eq a b })))
IsPlaced p apart (Factor i j) = j < length p.literals
IsPlaced p apart (Reflex i) = i < length p.literals
