-- The grammar of problems: one constructor for each form of a rule. A token is written with the level at which it stands, which is 0 but for
-- the brackets that open: theirs is the number of brackets that are open behind them.
use Rattle.std.specs.Prelude.{◌≡◌, ℕ, zero, suc, ◌+◌, Bool, true, false, not, ◌==◌, ◌&&◌, ◌||◌, nat_eq, List, [], ◌∷◌, ◌++◌, length, if◌then◌else◌, Option, Some, None}
use Rattle.std.specs.List.{list_any, position_or_len}
use Rattle.first_fault.specs.Levels as levels
use Rattle.fo_terms.specs.declared.term.FoTerm.{FoTerm, Var, Fun, out-FoTerm}
use Rattle.fo_terms.specs.declared.term.FoTerm.TheOpen.{FoTerm-F}
use Rattle.fo_terms.specs.declared.atom.Atom.TheVariants.{Holds, Eq}
use Rattle.fo_terms.specs.declared.formula.FoFormula.{FoFormula}
use Rattle.fo_terms.specs.declared.formula.FoFormula.TheVariants as formula
use Rattle.tptp_syntax.specs.declared.tokens.Quant.{Quant}
use Rattle.tptp_syntax.specs.declared.tokens.Quant.TheVariants as quant
use Rattle.tptp_syntax.specs.declared.tokens.Chain.{Chain}
use Rattle.tptp_syntax.specs.declared.tokens.Chain.TheVariants as chain
use Rattle.tptp_syntax.specs.declared.tokens.Pair.{Pair}
use Rattle.tptp_syntax.specs.declared.tokens.Pair.TheVariants as pair
use Rattle.tptp_syntax.specs.declared.tokens.Tok.{Tok}
use Rattle.tptp_syntax.specs.declared.tokens.Tok.TheVariants as tok
use Rattle.tptp_syntax.specs.declared.sorts.Kind.{Kind}
use Rattle.tptp_syntax.specs.declared.sorts.Kind.TheVariants as kind
use Rattle.tptp_syntax.specs.declared.sorts.Mode.{Mode}
use Rattle.tptp_syntax.specs.declared.sorts.Mode.TheVariants as mode
use Rattle.tptp_syntax.specs.declared.sorts.Skip.{Skip}
use Rattle.tptp_syntax.specs.declared.sorts.Skip.TheVariants as skip
use Rattle.tptp_syntax.specs.declared.claim.Claimed.{Claimed}

-- a token with its level
abbrev pub Placed : Type 0
Placed = levels.Placed Tok

abbrev pub at : ℕ → Tok → Placed
at l x = record { tok = x; level = l }

-- the greatest level that is allowed
abbrev pub most : ℕ
most = 4096

-- ---- symbols and variables

-- the names that are symbols, in the order in which they came, and those of the variables around, the innermost first
pub record Table : Type 0 where
  pub symbols : List ℕ
  pub variables : List ℕ

-- a symbol's number: its place among those before, or their number where it is new
abbrev pub symbol_number : ℕ → List ℕ → ℕ
symbol_number x ns = position_or_len (nat_eq x) ns

abbrev pub with_symbol : ℕ → Table → Table
with_symbol x t = record { symbols = if list_any (nat_eq x) t.symbols then t.symbols else t.symbols ++ x ∷ []; variables = t.variables }

-- a variable's number is the number of those around its binder
abbrev pub is_bound : ℕ → List ℕ → Bool
is_bound x vs = list_any (nat_eq x) vs

abbrev pub bound_number : ℕ → List ℕ → ℕ
bound_number x [] = 0
bound_number x (y ∷ vs) = if nat_eq x y then length vs else bound_number x vs

abbrev pub bind : ℕ → Table → Table
bind x t = record { symbols = t.symbols; variables = x ∷ t.variables }

-- the variables as they were
abbrev pub outside : Table → Table → Table
outside t u = record { symbols = u.symbols; variables = t.variables }

-- where variables are free, a new one is bound around the whole
abbrev pub variable_number : ℕ → List ℕ → ℕ
variable_number x vs = if is_bound x vs then bound_number x vs else length vs

abbrev pub with_variable : ℕ → Table → Table
with_variable x t = record { symbols = t.symbols; variables = if is_bound x t.variables then t.variables else x ∷ t.variables }

-- ---- formulas

abbrev pub truth : Bool → FoFormula
truth b = if b then formula.True else formula.False

abbrev pub equation : Bool → FoTerm → FoTerm → FoFormula
equation b s t = if b then formula.Atom (Eq s t) else formula.Not (formula.Atom (Eq s t))

abbrev pub join : Chain → FoFormula → FoFormula → FoFormula
join chain.And a b = formula.And a b
join chain.Or a b = formula.Or a b

abbrev pub couple : Pair → FoFormula → FoFormula → FoFormula
couple pair.Imp a b = formula.Imp a b
couple pair.Rev a b = formula.Imp b a
couple pair.Iff a b = formula.Iff a b
couple pair.Xor a b = formula.Not (formula.Iff a b)
couple pair.Nor a b = formula.Not (formula.Or a b)
couple pair.Nand a b = formula.Not (formula.And a b)

abbrev pub quantified : Quant → ℕ → FoFormula → FoFormula
quantified quant.Each n a = formula.Each n a
quantified quant.One n a = formula.One n a

-- for each value of the variables with numbers below `n`
abbrev pub closed : ℕ → FoFormula → FoFormula
closed zero a = a
closed (suc n) a = closed n (formula.Each n a)

abbrev pub is_symbol_at : FoTerm-F FoTerm → Bool
is_symbol_at (FoTerm-F.Var x) = false
is_symbol_at (FoTerm-F.Fun f ts) = true

-- a variable alone is no atom
abbrev pub is_symbol : FoTerm → Bool
is_symbol t = is_symbol_at (out-FoTerm t)

-- ---- terms

-- `Argument f ts`: what stands behind `f(`, or behind a comma there, the arguments `ts` read; `Argued f ts`: what stands behind an argument
pub data TermSort : Type 0 where
  Term : TermSort
  Argument : ℕ → List FoTerm → TermSort
  Argued : ℕ → List FoTerm → TermSort

-- `IsTerm free l s t ps u t'`: the tokens `ps` are derivable from `s` with so many brackets open around, and read as the term `u`; the table is `t`
-- before and `t'` behind. `free`: variables need no binder
pub data IsTerm (free : Bool) : ℕ → TermSort → Table → List Placed → FoTerm → Table → Type 0 where
  variable : {l x : ℕ} {t : Table} → free || is_bound x t.variables ≡ true →
      IsTerm free l Term t (at 0 (tok.Upper x) ∷ []) (Var (variable_number x t.variables)) (with_variable x t)
  constant : {l x : ℕ} {q : Bool} {t : Table} → IsTerm free l Term t (at 0 (tok.Name q x) ∷ []) (Fun (symbol_number x t.symbols) []) (with_symbol x t)
  applied : {l x : ℕ} {q : Bool} {t t' : Table} {p : List Placed} {u : FoTerm} → IsTerm free (l + 1) (Argument (symbol_number x t.symbols) []) (with_symbol x t) p u t' →
      IsTerm free l Term t (at 0 (tok.Name q x) ∷ at (l + 1) (tok.Open false) ∷ p) u t'
  argument : {l f : ℕ} {ts : List FoTerm} {t t' t'' : Table} {p q : List Placed} {a u : FoTerm} → IsTerm free l Term t p a t' →
      IsTerm free l (Argued f (ts ++ a ∷ [])) t' q u t'' → IsTerm free l (Argument f ts) t (p ++ q) u t''
  another : {l f : ℕ} {ts : List FoTerm} {t t' : Table} {p : List Placed} {u : FoTerm} → IsTerm free l (Argument f ts) t p u t' →
      IsTerm free l (Argued f ts) t (at 0 tok.Comma ∷ p) u t'
  last : {l f : ℕ} {ts : List FoTerm} {t : Table} → IsTerm free l (Argued f ts) t (at 0 (tok.Close false) ∷ []) (Fun f ts) t

-- ---- formulas

abbrev pub same_chain : Chain → Chain → Bool
same_chain chain.And chain.And = true
same_chain chain.Or chain.Or = true
same_chain _ _ = false

abbrev pub goes_on : Mode → Chain → Bool
goes_on mode.Fresh o = true
goes_on (mode.Chained c) o = same_chain c o
goes_on mode.Ended o = false

-- in a `cnf` statement only `|` joins
abbrev pub may_join : Bool → Mode → Chain → Bool
may_join clausal m o = goes_on m o && (not clausal || same_chain o chain.Or)

abbrev pub is_clausal : Kind → Bool
is_clausal kind.Unit = false
is_clausal _ = true

abbrev pub first_kind : Bool → Kind
first_kind clausal = if clausal then kind.Literal else kind.Unit

-- what `~` takes, where it may stand
abbrev pub negated : Kind → Option Kind
negated kind.Unit = Some kind.Unit
negated kind.Literal = Some kind.Positive
negated kind.Positive = None

-- behind `~` in a `cnf` statement there is no `!=`
abbrev pub may_equal : Kind → Bool → Bool
may_equal kind.Positive b = b
may_equal _ b = true

-- `Start k`: a formula of that kind; `Bound q`: what stands behind `[` of a quantifier, or behind a comma there; `Formula clausal`: a whole
-- formula; `Rest clausal m a`: what stands behind its part `a`
pub data Sort : Type 0 where
  Start : Kind → Sort
  Bound : Quant → Sort
  Formula : Bool → Sort
  Rest : Bool → Mode → FoFormula → Sort

-- `IsFormula l s t ps a t'`: the same for formulas
pub data IsFormula : ℕ → Sort → Table → List Placed → FoFormula → Table → Type 0 where
  truth_word : {l : ℕ} {k : Kind} {t : Table} (b : Bool) → IsFormula l (Start k) t (at 0 (tok.Truth b) ∷ []) (truth b) t
  holds : {l : ℕ} {k : Kind} {t t' : Table} {p : List Placed} {u : FoTerm} → IsTerm (is_clausal k) l Term t p u t' → is_symbol u ≡ true →
      IsFormula l (Start k) t p (formula.Atom (Holds u)) t'
  equal : {l : ℕ} {k : Kind} {t t' t'' : Table} {p q : List Placed} {u v : FoTerm} → IsTerm (is_clausal k) l Term t p u t' → (b : Bool) → may_equal k b ≡ true →
      IsTerm (is_clausal k) l Term t' q v t'' → IsFormula l (Start k) t (p ++ at 0 (tok.Equal b) ∷ q) (equation b u v) t''
  negation : {l : ℕ} {k j : Kind} {t t' : Table} {p : List Placed} {a : FoFormula} → negated k ≡ Some j → IsFormula l (Start j) t p a t' →
      IsFormula l (Start k) t (at 0 tok.Tilde ∷ p) (formula.Not a) t'
  quantifier : {l : ℕ} {q : Quant} {t t' : Table} {p : List Placed} {a : FoFormula} → IsFormula l (Bound q) t p a t' →
      IsFormula l (Start kind.Unit) t (at 0 (tok.Quant q) ∷ at (l + 1) (tok.Open true) ∷ p) a t'
  another : {l x : ℕ} {q : Quant} {t t' : Table} {p : List Placed} {a : FoFormula} → IsFormula l (Bound q) (bind x t) p a t' →
      IsFormula l (Bound q) t (at 0 (tok.Upper x) ∷ at 0 tok.Comma ∷ p) (quantified q (length t.variables) a) (outside t t')
  last : {l x : ℕ} {q : Quant} {t t' : Table} {p : List Placed} {a : FoFormula} → IsFormula l (Start kind.Unit) (bind x t) p a t' →
      IsFormula l (Bound q) t (at 0 (tok.Upper x) ∷ at 0 (tok.Close true) ∷ at 0 tok.Colon ∷ p) (quantified q (length t.variables) a) (outside t t')
  round : {l : ℕ} {t t' : Table} {p : List Placed} {a : FoFormula} → IsFormula (l + 1) (Formula false) t p a t' →
      IsFormula l (Start kind.Unit) t (at (l + 1) (tok.Open false) ∷ p ++ at 0 (tok.Close false) ∷ []) a t'
  clause : {l : ℕ} {t t' : Table} {p : List Placed} {a : FoFormula} → IsFormula (l + 1) (Formula true) t p a t' →
      IsFormula l (Formula true) t (at (l + 1) (tok.Open false) ∷ p ++ at 0 (tok.Close false) ∷ []) a t'
  joined : {l : ℕ} {c : Bool} {t t' t'' : Table} {p q : List Placed} {a b : FoFormula} → IsFormula l (Start (first_kind c)) t p a t' →
      IsFormula l (Rest c mode.Fresh a) t' q b t'' → IsFormula l (Formula c) t (p ++ q) b t''
  nothing : {l : ℕ} {c : Bool} {m : Mode} {a : FoFormula} {t : Table} → IsFormula l (Rest c m a) t [] a t
  coupled : {l : ℕ} {c : Pair} {a b : FoFormula} {t t' : Table} {p : List Placed} → IsFormula l (Start kind.Unit) t p b t' →
      IsFormula l (Rest false mode.Fresh a) t (at 0 (tok.Pair c) ∷ p) (couple c a b) t'
  chained : {l : ℕ} {c : Bool} {m : Mode} {o : Chain} {a b d : FoFormula} {t t' t'' : Table} {p q : List Placed} → may_join c m o ≡ true →
      IsFormula l (Start (first_kind c)) t p b t' → IsFormula l (Rest c (mode.Chained o) (join o a b)) t' q d t'' →
      IsFormula l (Rest c m a) t (at 0 (tok.Chain o) ∷ p ++ q) d t''

-- ---- what stands behind a statement's formula

abbrev pub may_end : Skip → Bool
may_end skip.Begun = false
may_end _ = true

abbrev pub in_part : Skip → Bool
in_part skip.Behind = false
in_part _ = true

-- the sort behind a token or a group of a part
abbrev pub gone_on : Skip → Skip
gone_on skip.Begun = skip.Within
gone_on s = s

abbrev pub may_divide : Skip → Bool
may_divide skip.Behind = true
may_divide skip.Within = true
may_divide _ = false

-- a token of a part: no bracket, a comma only in brackets
abbrev pub is_filler : Skip → Tok → Bool
is_filler s (tok.Open b) = false
is_filler s (tok.Close b) = false
is_filler s tok.Bad = false
is_filler skip.Group tok.Comma = true
is_filler _ tok.Comma = false
is_filler s x = in_part s

pub data IsSkipped : ℕ → Skip → List Placed → Type 0 where
  end : {l : ℕ} {s : Skip} → may_end s ≡ true → IsSkipped l s []
  token : {l : ℕ} {s : Skip} {x : Tok} {p : List Placed} → is_filler s x ≡ true → IsSkipped l (gone_on s) p → IsSkipped l s (at 0 x ∷ p)
  comma : {l : ℕ} {s : Skip} {p : List Placed} → may_divide s ≡ true → IsSkipped l skip.Begun p → IsSkipped l s (at 0 tok.Comma ∷ p)
  group : {l : ℕ} {s : Skip} {square : Bool} {p q : List Placed} → in_part s ≡ true → IsSkipped (l + 1) skip.Group p → IsSkipped l (gone_on s) q →
      IsSkipped l s (at (l + 1) (tok.Open square) ∷ p ++ at 0 (tok.Close square) ∷ q)

-- ---- statements

-- the numbers of the known words
abbrev pub head_word : Bool → ℕ
head_word clausal = if clausal then 1 else 0

abbrev pub is_conjecture : ℕ → Bool
is_conjecture role = role == 2

-- there is at most one conjecture
abbrev pub may_stand : Bool → ℕ → Bool
may_stand had role = not (had && is_conjecture role)

abbrev pub stated : Bool → Table → FoFormula → FoFormula
stated clausal t a = if clausal then closed (length t.variables) a else a

-- what a problem's tokens read as: the names that are symbols, and the statements
pub record Listed : Type 0 where
  pub symbols : List ℕ
  pub statements : List Claimed

abbrev pub head : Bool → Bool → ℕ → ℕ → List Placed
head clausal quoted name role =
    at 0 (tok.Name false (head_word clausal)) ∷ at 1 (tok.Open false) ∷ at 0 (tok.Name quoted name) ∷ at 0 tok.Comma ∷ at 0 (tok.Name false role) ∷ at 0 tok.Comma ∷ []

-- `IsList had ns ps v`: the tokens are statements behind others with the symbols `ns`, which had a conjecture or not
pub data IsList : Bool → List ℕ → List Placed → Listed → Type 0 where
  end : {had : Bool} {ns : List ℕ} → IsList had ns [] (record { symbols = ns; statements = [] })
  statement : {had clausal quoted : Bool} {ns : List ℕ} {name role : ℕ} {t : Table} {p q r : List Placed} {a : FoFormula} {v : Listed} → may_stand had role ≡ true →
      IsFormula 1 (Formula clausal) (record { symbols = ns; variables = [] }) p a t → IsSkipped 1 skip.Behind q → IsList (had || is_conjecture role) t.symbols r v →
      IsList had ns (head clausal quoted name role ++ p ++ q ++ at 0 (tok.Close false) ∷ at 0 tok.Dot ∷ r)
      (record { symbols = v.symbols; statements = record { name = name; conjecture = is_conjecture role; formula = stated clausal t a } ∷ v.statements })

-- a whole problem
abbrev pub IsProblemText : List Placed → Listed → Type 0
IsProblemText p v = IsList false [] p v
