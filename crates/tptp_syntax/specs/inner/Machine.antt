-- What may come next, token after token: a walk over the tokens with a list of open parts. The reader takes its steps; what a text reads as is not by it.
use Rattle.std.specs.Prelude.{◌≡◌, ℕ, ◌+◌, ◌-◌, ◌==◌, ◌||◌, ◌&&◌, not, nat_eq, Bool, true, false, List, [], ◌∷◌, ◌++◌, length, if◌then◌else◌, Option, Some, None, Result, Ok, Err}
use Rattle.first_fault.specs.Walk as walk
pub use Rattle.first_fault.specs.Levels.{put}
pub use Rattle.first_fault.specs.Walk.{goes, after, Done, Stuck, Goes}
use Rattle.indexmap.specs.IndexSet.{insert_key}
use Rattle.text_kit.specs.declared.NoMemory.{NoMemory}
use Rattle.fo_terms.specs.declared.term.FoTerm.{FoTerm, Var, Fun}
use Rattle.fo_terms.specs.declared.atom.Atom.TheVariants.{Holds}
use Rattle.fo_terms.specs.declared.formula.FoFormula.{FoFormula}
use Rattle.fo_terms.specs.declared.formula.FoFormula.TheVariants as formula
use Rattle.tptp_syntax.specs.declared.tokens.Quant.{Quant}
use Rattle.tptp_syntax.specs.declared.tokens.Pair.{Pair}
use Rattle.tptp_syntax.specs.declared.tokens.Pair.TheVariants as pair
use Rattle.tptp_syntax.specs.declared.tokens.Tok.{Tok}
use Rattle.tptp_syntax.specs.declared.tokens.Tok.TheVariants as tok
use Rattle.tptp_syntax.specs.declared.sorts.Kind.{Kind}
use Rattle.tptp_syntax.specs.declared.sorts.Kind.TheVariants as kind
use Rattle.tptp_syntax.specs.declared.sorts.Mode.{Mode}
use Rattle.tptp_syntax.specs.declared.sorts.Mode.TheVariants as mode
use Rattle.tptp_syntax.specs.declared.sorts.Skip.{Skip}
use Rattle.tptp_syntax.specs.declared.sorts.Skip.TheVariants as skip
use Rattle.tptp_syntax.specs.declared.frames.Frame.{Frame}
use Rattle.tptp_syntax.specs.declared.frames.Frame.TheVariants as frame
use Rattle.tptp_syntax.specs.declared.reader.Spot.{Spot}
use Rattle.tptp_syntax.specs.declared.reader.Spot.TheVariants as spot
use Rattle.tptp_syntax.specs.declared.reader.Reader.{Reader}
use Rattle.tptp_syntax.specs.declared.reader.Stop.{Stop}
use Rattle.tptp_syntax.specs.declared.reader.Stop.TheVariants as stop
use Rattle.tptp_syntax.specs.Grammar.{truth, equation, join, couple, quantified, closed, is_symbol, symbol_number, is_bound, variable_number, may_join, negated, first_kind, may_end, in_part, gone_on, may_divide, is_filler, is_conjecture, may_stand, Listed}

-- ---- formulas

-- the formula of a sign that doesn't chain, without a negation around it
abbrev pub bare : Pair → FoFormula → FoFormula → FoFormula
bare pair.Imp a b = formula.Imp a b
bare pair.Rev a b = formula.Imp b a
bare pair.Iff a b = formula.Iff a b
bare pair.Xor a b = formula.Iff a b
bare pair.Nor a b = formula.Or a b
bare pair.Nand a b = formula.And a b

-- the variables around the innermost one
abbrev pub inner : List ℕ → List ℕ
inner [] = []
inner (x ∷ vs) = vs

-- ---- open parts

abbrev pub is_empty : List Frame → Bool
is_empty [] = true
is_empty (f ∷ k) = false

-- a formula begins here
abbrev pub is_outset : List Frame → Bool
is_outset [] = true
is_outset (frame.Round ∷ k) = true
is_outset _ = false

-- behind `~` in a `cnf` statement
abbrev pub is_positive : List Frame → Bool
is_positive (frame.Not c ∷ k) = c
is_positive _ = false

-- a part with what may follow it, and what is open around it
pub record Settled : Type 0 where
  pub mode : Mode
  pub formula : FoFormula
  pub frames : List Frame
  pub scope : List ℕ

-- `~`, quantifiers and a sign on the left take a whole part
abbrev pub settle_unit : FoFormula → List Frame → List ℕ → Settled
settle_unit a (frame.Not c ∷ k) vs = settle_unit (formula.Not a) k vs
settle_unit a (frame.Bind q ∷ k) vs = settle_unit (quantified q (length (inner vs)) a) k (inner vs)
settle_unit a (frame.Join o b ∷ k) vs = record { mode = mode.Chained o; formula = join o b a; frames = k; scope = vs }
settle_unit a (frame.Couple c b ∷ k) vs = record { mode = mode.Ended; formula = couple c b a; frames = k; scope = vs }
settle_unit a k vs = record { mode = mode.Fresh; formula = a; frames = k; scope = vs }

abbrev pub settle : Mode → FoFormula → List Frame → List ℕ → Settled
settle mode.Fresh a k vs = settle_unit a k vs
settle m a k vs = record { mode = m; formula = a; frames = k; scope = vs }

-- ---- one token

pub record State : Type 0 where
  pub reader : Reader
  pub spot : Spot

abbrev pub Stepped : Type 0
Stepped = Option State

abbrev pub to : Reader → Spot → Stepped
to r s = Some (record { reader = r; spot = s })

abbrev pub within : Reader → Frame → Reader
within r f = record r { frames = f ∷ r.frames }

-- the statement is read
abbrev pub finished : Reader → FoFormula → Reader
finished r a = record r {
  done = r.done ++ record { name = r.name; conjecture = r.conjecture; formula = if r.clausal then closed (length r.scope) a else a } ∷ [];
  had = r.had || r.conjecture;
  scope = [];
}

abbrev pub top : Reader → Tok → Stepped
top r (tok.Name false n) = if n == 0 then to (record r { clausal = false }) spot.Open else if n == 1 then to (record r { clausal = true }) spot.Open else None
top r _ = None

abbrev pub open_due : Reader → Tok → Stepped
open_due r (tok.Open false) = to r spot.Name
open_due r _ = None

abbrev pub name_due : Reader → Tok → Stepped
name_due r (tok.Name q n) = to (record r { name = n }) spot.NameEnd
name_due r _ = None

abbrev pub comma_due : Reader → Spot → Tok → Stepped
comma_due r s tok.Comma = to r s
comma_due r s _ = None

abbrev pub role_due : Reader → Tok → Stepped
role_due r (tok.Name false n) = if may_stand r.had n then to (record r { conjecture = is_conjecture n }) spot.RoleEnd else None
role_due r _ = None

abbrev pub square_due : Reader → Quant → Tok → Stepped
square_due r q (tok.Open true) = to r (spot.Variable q)
square_due r q _ = None

abbrev pub variable_due : Reader → Quant → Tok → Stepped
variable_due r q (tok.Upper x) = to (record r { scope = x ∷ r.scope; frames = frame.Bind q ∷ r.frames }) (spot.VariableEnd q)
variable_due r q _ = None

abbrev pub variable_end : Reader → Quant → Tok → Stepped
variable_end r q tok.Comma = to r (spot.Variable q)
variable_end r q (tok.Close true) = to r spot.Colon
variable_end r q _ = None

abbrev pub colon_due : Reader → Tok → Stepped
colon_due r tok.Colon = to r (spot.Want kind.Unit)
colon_due r _ = None

-- ---- behind a part of a formula

abbrev pub may_couple : Bool → Mode → Bool
may_couple false mode.Fresh = true
may_couple _ _ = false

-- brackets around a whole clause end it
abbrev pub round_mode : Bool → Mode
round_mode clausal = if clausal then mode.Ended else mode.Fresh

abbrev pub close_in : Reader → FoFormula → List Frame → Stepped
close_in r a [] = to (finished r a) spot.Dot
close_in r a (frame.Round ∷ k) = to (record r { frames = k }) (spot.Have (round_mode r.clausal) a)
close_in r a _ = None

abbrev pub divide : Reader → FoFormula → Stepped
divide r a = if is_empty r.frames then to (finished r a) (spot.Skip skip.Begun) else None

abbrev pub behind : Reader → Mode → FoFormula → Tok → Stepped
behind r m a (tok.Chain o) = if may_join r.clausal m o then to (within r (frame.Join o a)) (spot.Want (first_kind r.clausal)) else None
behind r m a (tok.Pair c) = if may_couple r.clausal m then to (within r (frame.Couple c a)) (spot.Want kind.Unit) else None
behind r m a (tok.Close false) = close_in r a r.frames
behind r m a tok.Comma = divide r a
behind r m a _ = None

abbrev pub behind_settled : Reader → Settled → Tok → Stepped
behind_settled r s x = behind (record r { frames = s.frames; scope = s.scope }) s.mode s.formula x

abbrev pub have : Reader → Mode → FoFormula → Tok → Stepped
have r m a x = behind_settled r (settle m a r.frames r.scope) x

-- ---- behind a term

abbrev pub atom : Reader → FoTerm → Tok → Stepped
atom r u (tok.Equal b) = if b || not (is_positive r.frames) then to (within r (frame.Side b u)) spot.WantTerm else None
atom r u x = if is_symbol u then have r mode.Fresh (formula.Atom (Holds u)) x else None

abbrev pub argued : Reader → ℕ → List FoTerm → Tok → Stepped
argued r f ts tok.Comma = to (within r (frame.Args f ts)) spot.WantTerm
argued r f ts (tok.Close false) = to r (spot.Term (Fun f ts))
argued r f ts _ = None

abbrev pub term_in : Reader → FoTerm → Tok → List Frame → Stepped
term_in r u x (frame.Args f ts ∷ k) = argued (record r { frames = k }) f (ts ++ u ∷ []) x
term_in r u x (frame.Side b v ∷ k) = have (record r { frames = k }) mode.Fresh (equation b v u) x
term_in r u x k = atom r u x

abbrev pub term : Reader → FoTerm → Tok → Stepped
term r u x = term_in r u x r.frames

abbrev pub named : Reader → ℕ → Tok → Stepped
named r f (tok.Open false) = to (within r (frame.Args f [])) spot.WantTerm
named r f x = term r (Fun f []) x

-- ---- where a part is wanted

abbrev pub symbol : Reader → ℕ → Stepped
symbol r x = to (record r { symbols = insert_key nat_eq r.symbols x }) (spot.Named (symbol_number x r.symbols))

abbrev pub variable : Reader → ℕ → Stepped
variable r x =
    if r.clausal || is_bound x r.scope then to (record r { scope = if is_bound x r.scope then r.scope else x ∷ r.scope }) (spot.Term (Var (variable_number x r.scope))) else None

abbrev pub want_term : Reader → Tok → Stepped
want_term r (tok.Name q x) = symbol r x
want_term r (tok.Upper x) = variable r x
want_term r _ = None

abbrev pub is_positive_kind : Kind → Bool
is_positive_kind kind.Positive = true
is_positive_kind _ = false

abbrev pub negate_to : Reader → Option Kind → Stepped
negate_to r None = None
negate_to r (Some k) = to (within r (frame.Not (is_positive_kind k))) (spot.Want k)

abbrev pub quantify : Reader → Kind → Quant → Stepped
quantify r kind.Unit q = to r (spot.Square q)
quantify r _ q = None

abbrev pub may_open : Kind → List Frame → Bool
may_open kind.Unit k = true
may_open kind.Literal k = is_outset k
may_open kind.Positive k = false

abbrev pub want : Reader → Kind → Tok → Stepped
want r k (tok.Truth b) = to r (spot.Have mode.Fresh (truth b))
want r k tok.Tilde = negate_to r (negated k)
want r k (tok.Quant q) = quantify r k q
want r k (tok.Open false) = if may_open k r.frames then to (within r frame.Round) (spot.Want k) else None
want r k x = want_term r x

-- ---- further parts

abbrev pub same_bracket : Bool → Bool → Bool
same_bracket true b = b
same_bracket false b = not b

-- the place behind a group, where its bracket closes
abbrev pub group_end : Bool → Frame → Option Skip
group_end b (frame.Group square next) = if same_bracket square b then Some next else None
group_end b _ = None

abbrev pub grouped : Reader → Option Skip → Stepped
grouped r None = None
grouped r (Some s) = to r (spot.Skip s)

abbrev pub close_group : Reader → Skip → Bool → List Frame → Stepped
close_group r s b [] = if not b && may_end s then to r spot.Dot else None
close_group r s b (f ∷ k) = grouped (record r { frames = k }) (group_end b f)

abbrev pub skip_comma : Reader → Skip → Stepped
skip_comma r s = if is_filler s tok.Comma then to r (spot.Skip (gone_on s)) else if may_divide s then to r (spot.Skip skip.Begun) else None

abbrev pub skip_on : Reader → Skip → Tok → Stepped
skip_on r s (tok.Open b) = if in_part s then to (within r (frame.Group b (gone_on s))) (spot.Skip skip.Group) else None
skip_on r s (tok.Close b) = close_group r s b r.frames
skip_on r s tok.Comma = skip_comma r s
skip_on r s x = if is_filler s x then to r (spot.Skip (gone_on s)) else None

abbrev pub dot_due : Reader → Tok → Stepped
dot_due r tok.Dot = to r spot.Top
dot_due r _ = None

-- ---- any token

abbrev pub step_at : Reader → Spot → Tok → Stepped
step_at r spot.Top x = top r x
step_at r spot.Open x = open_due r x
step_at r spot.Name x = name_due r x
step_at r spot.NameEnd x = comma_due r spot.Role x
step_at r spot.Role x = role_due r x
step_at r spot.RoleEnd x = comma_due r (spot.Want (first_kind r.clausal)) x
step_at r (spot.Want k) x = want r k x
step_at r spot.WantTerm x = want_term r x
step_at r (spot.Square q) x = square_due r q x
step_at r (spot.Variable q) x = variable_due r q x
step_at r (spot.VariableEnd q) x = variable_end r q x
step_at r spot.Colon x = colon_due r x
step_at r (spot.Named f) x = named r f x
step_at r (spot.Term u) x = term r u x
step_at r (spot.Have m a) x = have r m a x
step_at r (spot.Skip s) x = skip_on r s x
step_at r spot.Dot x = dot_due r x

-- what a step of the reader tells
abbrev pub Takes : Stepped → Reader → Result Spot Stop → Type 0
Takes o new (Ok s) = o ≡ Some (record { reader = new; spot = s })
Takes o new (Err stop.Syntax) = o ≡ None
Takes o new (Err stop.NoMemory) = Unit {0}

-- what closing behind a part answers, and leaves open
abbrev pub SettlesParts : Settled → List Frame → List ℕ → Result (Mode × FoFormula) NoMemory → Type 0
SettlesParts s k vs (Ok r) = (r.0 ≡ s.mode) × (r.1 ≡ s.formula) × (k ≡ s.frames) × (vs ≡ s.scope)
SettlesParts s k vs (Err e) = Unit {0}

abbrev pub Settles : Settled → Reader → Reader → Result (Mode × FoFormula) NoMemory → Type 0
Settles s r new (Ok x) = (x.0 ≡ s.mode) × (x.1 ≡ s.formula) × (new ≡ r)
Settles s r new (Err e) = Unit {0}

-- ---- the walk, with the number of open brackets

pub record Full : Type 0 where
  pub depth : ℕ
  pub state : State

abbrev pub open_behind : ℕ → Tok → ℕ
open_behind l (tok.Open b) = l + 1
open_behind l (tok.Close b) = l - 1
open_behind l _ = l

abbrev pub level_of : ℕ → Tok → ℕ
level_of l (tok.Open b) = l + 1
level_of l _ = 0

abbrev pub counted : ℕ → Tok → Stepped → Option (walk.Step Full)
counted l x None = None
counted l x (Some s) = Some (record { level = level_of l x; state = record { depth = open_behind l x; state = s } })

abbrev pub step : Full → Tok → Option (walk.Step Full)
step f x = counted f.depth x (step_at f.state.reader f.state.spot x)

abbrev pub accepted_at : Reader → Spot → Option Listed
accepted_at r spot.Top = Some (record { symbols = r.symbols; statements = r.done })
accepted_at r _ = None

abbrev pub accepted : Full → Option Listed
accepted f = accepted_at f.state.reader f.state.spot

abbrev pub Run : Type 0
Run = walk.Run Listed

abbrev pub run : Full → List Tok → Run
run f xs = walk.run step accepted f xs

abbrev pub first_reader : Reader
first_reader = record { done = []; had = false; clausal = false; name = 0; conjecture = false; symbols = []; scope = []; frames = [] }

abbrev pub outset : Full
outset = record { depth = 0; state = record { reader = first_reader; spot = spot.Top } }

-- what the reader has read
abbrev pub listed_of : Reader → Listed
listed_of r = record { symbols = r.symbols; statements = r.done }
