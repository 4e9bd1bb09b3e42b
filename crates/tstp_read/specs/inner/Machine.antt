-- How the private reader goes through the tokens.
use Rattle.std.specs.Prelude.{ℕ, ◌+◌, ◌<◌, ◌&&◌, nat_lt, Bool, true, false, List, [], ◌∷◌, ◌++◌, length, codes, if◌then◌else◌, Option, Some, None, nat_eq}
use Rattle.std.specs.Cmp.Lexicographic.{pointwise}
use Rattle.tstp_read.specs.declared.sources.Parent.{Parent}
use Rattle.tstp_read.specs.declared.sources.Parent.TheVariants as parent
use Rattle.tstp_read.specs.declared.sources.Shape.{Shape}
use Rattle.tstp_read.specs.declared.sources.Shape.TheVariants as shape
use Rattle.tstp_read.specs.declared.sources.Bare.{Bare}
use Rattle.tstp_read.specs.declared.sources.Bare.TheVariants as bare
use Rattle.tstp_read.specs.declared.sources.Part.{Part}
use Rattle.tstp_read.specs.declared.sources.Group.{Group}
use Rattle.tstp_read.specs.declared.statements.Entry.{Entry}
use Rattle.tstp_read.specs.declared.statements.Stage.{Stage}
use Rattle.tstp_read.specs.declared.statements.Stage.TheVariants as stage
use Rattle.tstp_read.specs.declared.statements.Reader.{Reader}
use Rattle.tstp_read.specs.Tokens.{Tok}
use Rattle.tstp_read.specs.Statements.{is_name, is_mark, is_comma, is_word_kind, Forest, Start, Then, Round, Square}

-- ---- what a part gives

abbrev pub given : Shape → List Parent
given (shape.Name n) = parent.Reference n ∷ []
given (shape.Members ps) = ps
given (shape.Given ps) = ps
given (shape.Behind ps) = ps
given _ = []

abbrev pub one_token : Tok → Shape
one_token t = if is_name t then shape.Name t.said else shape.Other

abbrev pub shape_with_token : Shape → Tok → Shape
shape_with_token (shape.Behind ps) t = shape.Behind ps
shape_with_token shape.Empty t = one_token t
shape_with_token _ t = shape.Other

-- a part with one more token; in a list, what stands behind a colon isn't looked at
abbrev pub shape_then : Bool → Shape → Tok → Shape
shape_then square s t = if square && is_mark 58 t then shape.Behind (given s) else shape_with_token s t

-- the longer list first
abbrev pub joined : List Parent → List Parent → List Parent
joined ps qs = if nat_lt (length ps) (length qs) then qs ++ ps else ps ++ qs

abbrev pub all_given : List Part → List Parent
all_given [] = []
all_given (p ∷ ps) = joined (all_given ps) (given p.shape)

abbrev pub leaf_of : Shape → Shape
leaf_of (shape.Name n) = shape.Given (parent.Leaf n ∷ [])
leaf_of _ = shape.Other

abbrev pub of_file : List Part → Shape
of_file (a ∷ b ∷ others) = leaf_of b.shape
of_file _ = shape.Other

abbrev pub members_of : Shape → Shape
members_of (shape.Members ps) = shape.Given ps
members_of _ = shape.Other

abbrev pub of_inference : List Part → Shape
of_inference (a ∷ b ∷ c ∷ []) = members_of c.shape
of_inference _ = shape.Other

abbrev pub of_call : List ℕ → List Part → Shape
of_call n ps = if pointwise nat_eq n (codes "file") then of_file ps else (if pointwise nat_eq n (codes "inference") then of_inference ps else shape.Other)

-- a part with one more pair of brackets around these parts
abbrev pub shape_around : Bool → Shape → List Part → Shape
shape_around square (shape.Behind ps) inner = shape.Behind ps
shape_around true shape.Empty inner = shape.Members (all_given inner)
shape_around false (shape.Name n) inner = of_call n inner
shape_around square _ inner = shape.Other

-- ---- what is left of a part without brackets

abbrev pub bare_of : Tok → Bare
bare_of t = if is_word_kind t.kind && pointwise nat_eq t.said (codes "$false") then bare.False else bare.Other

abbrev pub bare_then : Bare → Bare → Bare
bare_then bare.Nothing b = b
bare_then b bare.Nothing = b
bare_then _ _ = bare.Other

abbrev pub bare_within : List Part → Bare
bare_within (p ∷ []) = p.bare
bare_within _ = bare.Other

-- ---- parts and groups of parts

abbrev pub no_part : Part
no_part = record { shape = shape.Empty; bare = bare.Nothing }

abbrev pub fresh : Bool → Group
fresh square = record { square = square; done = []; part = no_part }

abbrev pub part_then : Bool → Part → Tok → Part
part_then square p t = record { shape = shape_then square p.shape t; bare = bare_then p.bare (bare_of t) }

abbrev pub part_around : Bool → Part → List Part → Part
part_around square p inner = record { shape = shape_around square p.shape inner; bare = bare_then p.bare (bare_within inner) }

abbrev pub all_parts : Group → List Part
all_parts g = g.done ++ g.part ∷ []

abbrev pub group_then : Group → Tok → Group
group_then g t =
    if is_comma t then record { square = g.square; done = all_parts g; part = no_part }
    else record { square = g.square; done = g.done; part = part_then g.square g.part t }

abbrev pub group_around : Group → Group → Group
group_around g inner = record { square = g.square; done = g.done; part = part_around inner.square g.part (all_parts inner) }

-- ---- the statements

abbrev pub is_empty : Shape → Bool
is_empty shape.Empty = true
is_empty _ = false

abbrev pub is_false : Bare → Bool
is_false bare.False = true
is_false _ = false

abbrev pub refutes : List Part → Bool
refutes [] = false
refutes (p ∷ ps) = is_false p.bare

abbrev pub parents_of : List ℕ → List Part → List Parent
parents_of n (f ∷ source ∷ others) = given source.shape
parents_of n _ = parent.Leaf n ∷ []

abbrev pub entry_of : List ℕ → List Part → Entry
entry_of n ps = record { name = n; refutes = refutes ps; parents = parents_of n ps }

-- brackets that may stand around a new pair in the body
abbrev pub MAX_OUTER : ℕ
MAX_OUTER = 4095

abbrev pub staged : Reader → Stage → Reader
staged r s = record r { stage = s }

abbrev pub to_stage : Bool → Reader → Stage → Option Reader
to_stage b r s = if b then Some (staged r s) else None

abbrev pub opened : Reader → Bool → Option Reader
opened r square = if nat_lt (length r.outer) MAX_OUTER then Some (record r { outer = r.outer ++ r.group ∷ []; group = fresh square }) else None

-- the last item, with those before it
pub record Last : Type 0 where
  pub front : List Group
  pub item : Group

abbrev pub behind : Group → Option Last → Last
behind g None = record { front = []; item = g }
behind g (Some l) = record { front = g ∷ l.front; item = l.item }

abbrev pub last_of : List Group → Option Last
last_of [] = None
last_of (g ∷ gs) = Some (behind g (last_of gs))

abbrev pub ended : Reader → Option Last → Option Reader
ended r (Some l) = Some (record r { outer = l.front; group = group_around l.item r.group })
ended r None = if is_empty r.group.part.shape then None else Some (staged r stage.Dot)

abbrev pub closed : Reader → Bool → Option Reader
closed r square = if square then (if r.group.square then ended r (last_of r.outer) else None)
    else (if r.group.square then None else ended r (last_of r.outer))

abbrev pub is_bottom : List Group → Bool
is_bottom [] = true
is_bottom _ = false

-- a comma behind no token, between the parts of the statement
abbrev pub ends_nothing : Reader → Tok → Bool
ends_nothing r t = is_comma t && (is_bottom r.outer && is_empty r.group.part.shape)

abbrev pub plain : Reader → Tok → Option Reader
plain r t =
    if ends_nothing r t then None
    else Some (record r { group = group_then r.group t })

abbrev pub in_body : Reader → Tok → Option Reader
in_body r t =
    if is_mark 40 t then opened r false
    else (if is_mark 91 t then opened r true
    else (if is_mark 41 t then closed r false
    else (if is_mark 93 t then closed r true
    else plain r t)))

abbrev pub finished : Reader → Reader
finished r = record { statements = r.statements ++ entry_of r.name (all_parts r.group) ∷ []; stage = stage.Kind; name = []; outer = r.outer; group = fresh false }

abbrev pub entered : Reader → Reader
entered r = record r { stage = stage.Body; outer = []; group = fresh false }

abbrev pub named : Reader → Tok → Option Reader
named r t = if is_name t then Some (record r { name = t.said; stage = stage.NameComma }) else None

abbrev pub step_at : Stage → Reader → Tok → Option Reader
step_at stage.Kind r t = to_stage (is_word_kind t.kind) r stage.Open
step_at stage.Open r t = to_stage (is_mark 40 t) r stage.Name
step_at stage.Name r t = named r t
step_at stage.NameComma r t = to_stage (is_comma t) r stage.Role
step_at stage.Role r t = to_stage (is_word_kind t.kind) r stage.RoleComma
step_at stage.RoleComma r t = if is_comma t then Some (entered r) else None
step_at stage.Body r t = in_body r t
step_at stage.Dot r t = if is_mark 46 t then Some (finished r) else None

abbrev pub step : Reader → Tok → Option Reader
step r t = step_at r.stage r t

abbrev pub then_run : Option Reader → (Reader → Option Reader) → Option Reader
then_run None go = None
then_run (Some r) go = go r

-- no statement is unfinished
abbrev pub is_between : Stage → Bool
is_between stage.Kind = true
is_between _ = false

-- through all tokens
abbrev pub run : Reader → List Tok → Option Reader
run r [] = Some r
run r (t ∷ ts) = then_run (step r t) (λ s. run s ts)

abbrev pub begun : Reader
begun = record { statements = []; stage = stage.Kind; name = []; outer = []; group = fresh false }
