-- How many nodes a term has when it is written out as a tree.
use Rattle.std.specs.Prelude.{ℕ, ◌+◌, List, slice_get, Option, Some, None}
use Rattle.hol_terms.specs.declared.ty.Ty.{Ty}
use Rattle.hol_terms.specs.declared.ty.Ty.TheOpen.{Ty-F}
use Rattle.hol_terms.specs.declared.ty.Ty.TheFolds.{fold-Ty}
use Rattle.hol_terms.specs.declared.konst.Konst.{Konst}
use Rattle.hol_terms.specs.declared.konst.Konst.TheVariants as konst
use Rattle.hol_terms.specs.declared.term.Term.{Term}
use Rattle.hol_terms.specs.declared.term.Term.TheOpen.{Term-F}
use Rattle.hol_terms.specs.declared.term.Term.TheFolds.{fold-Term}

-- the nodes of a type
abbrev pub ty_nodes_step : Ty-F ℕ → ℕ
ty_nodes_step (Ty-F.Base a) = 1
ty_nodes_step (Ty-F.Arrow a b) = a + b + 1

abbrev pub ty_nodes : Ty → ℕ
ty_nodes = fold-Ty ℕ ty_nodes_step

-- the nodes of the type at a place of a table, where there is one
abbrev pub nodes_there : Option Ty → ℕ
nodes_there None = 0
nodes_there (Some a) = ty_nodes a

-- a constant is one node, and its type counts besides: the type that it carries, or the one that the table has of it
abbrev pub konst_nodes : List Ty → Konst → ℕ
konst_nodes table (konst.Named k) = nodes_there (slice_get table k) + 1
konst_nodes table (konst.Eq a) = ty_nodes a + 1
konst_nodes table (konst.All a) = ty_nodes a + 1
konst_nodes table (konst.Ex a) = ty_nodes a + 1
konst_nodes table (konst.Eps a) = ty_nodes a + 1
konst_nodes table _ = 1

-- the nodes of a term with those of all types in it
abbrev pub nodes_step : List Ty → Term-F ℕ → ℕ
nodes_step table (Term-F.Bound i) = 1
nodes_step table (Term-F.Free n a) = ty_nodes a + 1
nodes_step table (Term-F.Con k) = konst_nodes table k
nodes_step table (Term-F.App f x) = f + x + 1
nodes_step table (Term-F.Lam a b) = ty_nodes a + b + 1

abbrev pub nodes : List Ty → Term → ℕ
nodes table = fold-Term ℕ (nodes_step table)
