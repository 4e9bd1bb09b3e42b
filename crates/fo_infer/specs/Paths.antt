-- Paths into terms and atoms, in reading order: a term's own path before those into its arguments, the left side of an equation before the
-- right one. An atom's path begins with the side, 0 or 1, and goes on with places of arguments, counted from 0.
use Rattle.std.specs.Prelude.{ℕ, zero, suc, ◌+◌, List, [], ◌∷◌, ◌++◌, map, Option, Some, None, slice_get}
use Rattle.std.specs.Prelude.{option_and_then}
use Rattle.fo_terms.specs.declared.term.FoTerm.{FoTerm, Var, Fun, out-FoTerm}
use Rattle.fo_terms.specs.declared.term.FoTerm.TheOpen.{FoTerm-F}
use Rattle.fo_terms.specs.declared.term.FoTerm.TheFolds.{fold-FoTerm}
use Rattle.fo_terms.specs.declared.atom.Atom.{Atom}
use Rattle.fo_terms.specs.declared.atom.Atom.TheVariants.{Holds, Eq}
use Rattle.fo_terms.specs.Normal.{atom_terms}

-- the paths of items, each behind the place of its item, where the places count up from k
abbrev pub behind_places : ℕ → List (List (List ℕ)) → List (List ℕ)
behind_places k [] = []
behind_places k (ps ∷ rest) = map (λ p. k ∷ p) ps ++ behind_places (k + 1) rest

abbrev pub paths_step : FoTerm-F (List (List ℕ)) → List (List ℕ)
paths_step (FoTerm-F.Var x) = [] ∷ []
paths_step (FoTerm-F.Fun f args) = [] ∷ behind_places 0 args

-- the paths of a term's subterms
abbrev pub paths_of : FoTerm → List (List ℕ)
paths_of = fold-FoTerm (List (List ℕ)) paths_step

-- the paths of an atom's subterms
abbrev pub atom_paths : Atom → List (List ℕ)
atom_paths a = behind_places 0 (map paths_of (atom_terms a))

abbrev pub layer_arguments : FoTerm-F FoTerm → List FoTerm
layer_arguments (FoTerm-F.Var x) = []
layer_arguments (FoTerm-F.Fun f args) = args

-- the arguments of a term
abbrev pub arguments : FoTerm → List FoTerm
arguments t = layer_arguments (out-FoTerm t)

-- the subterm at a path, where there is one
abbrev pub at_path : List ℕ → FoTerm → Option FoTerm
at_path [] t = Some t
at_path (k ∷ path) t = option_and_then (at_path path) (slice_get (arguments t) k)

-- the subterm of an atom
abbrev pub at_atom_path : List ℕ → Atom → Option FoTerm
at_atom_path [] a = None
at_atom_path (k ∷ path) a = option_and_then (at_path path) (slice_get (atom_terms a) k)

abbrev pub with_arguments : FoTerm-F FoTerm → List FoTerm → FoTerm
with_arguments (FoTerm-F.Var x) args = Var x
with_arguments (FoTerm-F.Fun f old) args = Fun f args

-- the item at the place, where there is one, replaced by what the function makes of it
abbrev pub changed_at : {X : Type 0} → ℕ → (X → X) → List X → List X
changed_at k change [] = []
changed_at zero change (x ∷ xs) = change x ∷ xs
changed_at (suc k) change (x ∷ xs) = x ∷ changed_at k change xs

-- the term with another one at the path
abbrev pub replaced : List ℕ → FoTerm → FoTerm → FoTerm
replaced [] r t = r
replaced (k ∷ path) r t = with_arguments (out-FoTerm t) (changed_at k (replaced path r) (arguments t))

-- the atom with another term at the path
abbrev pub atom_replaced : List ℕ → FoTerm → Atom → Atom
atom_replaced [] r a = a
atom_replaced (k ∷ path) r (Holds t) = Holds (replaced path r t)
atom_replaced (zero ∷ path) r (Eq s t) = Eq (replaced path r s) t
atom_replaced (suc k ∷ path) r (Eq s t) = Eq s (replaced path r t)
