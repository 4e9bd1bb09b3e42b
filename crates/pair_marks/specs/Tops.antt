-- What a term shows at its top, which no substitution changes but for its variables.
use Rattle.std.specs.Prelude.{ℕ, Bool, true, false, List, [], ◌∷◌, Option, Some, None}
use Rattle.fo_terms.specs.declared.term.FoTerm.{FoTerm, out-FoTerm}
use Rattle.fo_terms.specs.declared.term.FoTerm.TheOpen.{FoTerm-F}
use Rattle.pair_marks.specs.declared.tops.Top.{Top}
use Rattle.pair_marks.specs.declared.tops.Top.TheVariants.{Any, Over, Pair, Sole}

abbrev pub single_layer_top : ℕ → FoTerm-F FoTerm → Top
single_layer_top f (FoTerm-F.Var x) = Over f
single_layer_top f (FoTerm-F.Fun g args) = Pair f g

-- a symbol on one argument
abbrev pub single_top : ℕ → FoTerm → Top
single_top f t = single_layer_top f (out-FoTerm t)

-- a symbol on arguments
abbrev pub args_top : ℕ → List FoTerm → Top
args_top f [] = Sole f
args_top f (t ∷ []) = single_top f t
args_top f (t ∷ u ∷ more) = Sole f

abbrev pub layer_top : FoTerm-F FoTerm → Top
layer_top (FoTerm-F.Var x) = Any
layer_top (FoTerm-F.Fun f args) = args_top f args

abbrev pub term_top : FoTerm → Top
term_top t = layer_top (out-FoTerm t)

-- a term with this top is a tag on a core that is no variable or, where all are plain, no variable
abbrev pub is_position : Bool → Top → Bool
is_position plain Any = false
is_position plain (Over f) = plain
is_position plain (Pair f g) = true
is_position plain (Sole f) = plain

-- the symbol of a term with this top
abbrev pub top_symbol : Top → Option ℕ
top_symbol Any = None
top_symbol (Over f) = Some f
top_symbol (Pair f g) = Some f
top_symbol (Sole f) = Some f
