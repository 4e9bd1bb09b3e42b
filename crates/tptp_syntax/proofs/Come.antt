-- What has come where the walk is in a state: whatever completes it from there makes a whole.
-- `W p v`: the tokens `p` are a whole text, and read as `v`.
use Rattle.std.proofs.Common.{◌≡◌, ℕ, ◌+◌, ◌-◌, ◌||◌, not, Bool, true, false, List, [], ◌∷◌, ◌++◌, Some, None, length}
use Rattle.fo_terms.specs.declared.term.FoTerm.{FoTerm, Fun}
use Rattle.fo_terms.specs.declared.atom.Atom.TheVariants.{Holds}
use Rattle.fo_terms.specs.declared.formula.FoFormula.{FoFormula}
use Rattle.fo_terms.specs.declared.formula.FoFormula.TheVariants as formula
use Rattle.tptp_syntax.specs.declared.tokens.Quant.{Quant}
use Rattle.tptp_syntax.specs.declared.tokens.Tok.{Tok}
use Rattle.tptp_syntax.specs.declared.tokens.Tok.TheVariants as tok
use Rattle.tptp_syntax.specs.declared.sorts.Kind.{Kind}
use Rattle.tptp_syntax.specs.declared.sorts.Kind.TheVariants as kind
use Rattle.tptp_syntax.specs.declared.sorts.Mode.{Mode}
use Rattle.tptp_syntax.specs.declared.sorts.Mode.TheVariants as mode
use Rattle.tptp_syntax.specs.declared.sorts.Skip.{Skip}
use Rattle.tptp_syntax.specs.declared.sorts.Skip.TheVariants as skip
use Rattle.tptp_syntax.specs.declared.frames.Frame.{Frame}
use Rattle.tptp_syntax.specs.declared.frames.Frame.TheVariants as frame
use Rattle.tptp_syntax.specs.declared.reader.Spot.{Spot}
use Rattle.tptp_syntax.specs.declared.reader.Spot.TheVariants as spot
use Rattle.tptp_syntax.specs.declared.reader.Reader.{Reader}
use Rattle.tptp_syntax.specs.Grammar.{Placed, at, Table, equation, join, couple, quantified, is_symbol, is_clausal, Term, Argument, Argued, IsTerm, Start, Bound, Formula, Rest, IsFormula, IsSkipped, is_conjecture, may_stand, Listed, IsList}
use Rattle.tptp_syntax.specs.inner.Machine.{inner, is_outset, is_positive, round_mode, finished, Stepped, open_behind, level_of}
use Rattle.tptp_syntax.proofs.Runs.{set}
use Rattle.tptp_syntax.proofs.CompleteFormulas.{Fits}
use Rattle.tptp_syntax.proofs.CompleteLists.{opened}

module _ (W : List Placed → Listed → Type 0) where
  -- ---- between statements, and behind a statement's formula

  abbrev pub AtTop : Reader → List Placed → Type 0
  AtTop r p = (q : List Placed) (v : Listed) → IsList r.had r.symbols q v → W (p ++ q) (record { symbols = v.symbols; statements = r.done ++ v.statements })

  abbrev pub AtSkip : Reader → ℕ → Skip → List Frame → List Placed → Type 0
  AtSkip r l s [] p = (l ≡ 1) × ((q : List Placed) → IsSkipped l s q → AtTop r (p ++ (q ++ at 0 (tok.Close false) ∷ at 0 tok.Dot ∷ [])))
  AtSkip r l s (frame.Group b next ∷ k) p = (s ≡ skip.Group) × ((q : List Placed) → IsSkipped l s q → AtSkip r (l - 1) next k (p ++ (q ++ at 0 (tok.Close b) ∷ [])))
  AtSkip r l s _ p = ⊥

  -- the statement's formula is read
  abbrev pub AtEnd : Reader → FoFormula → Table → ℕ → List Placed → Type 0
  AtEnd r a t l p = AtSkip (opened (finished (set r t []) a) []) l skip.Behind [] p

  -- ---- behind a part of a formula, and behind a term

  abbrev pub After : Reader → Mode → FoFormula → List Frame → Table → ℕ → List Placed → Type 0
  After r mode.Fresh a (frame.Not c ∷ k) t l p = After r mode.Fresh (formula.Not a) k t l p
  After r mode.Fresh a (frame.Bind q ∷ k) t l p = After r mode.Fresh (quantified q (length (inner t.variables)) a) k (record { symbols = t.symbols; variables = inner t.variables }) l p
  After r mode.Fresh a (frame.Join o b ∷ k) t l p = After r (mode.Chained o) (join o b a) k t l p
  After r mode.Fresh a (frame.Couple c b ∷ k) t l p = After r mode.Ended (couple c b a) k t l p
  After r mode.Ended a [] t l p = AtEnd r a t l p
  After r mode.Ended a (frame.Round ∷ k) t l p = After r (round_mode r.clausal) a k t (l - 1) (p ++ at 0 (tok.Close false) ∷ [])
  After r m a [] t l p = (q : List Placed) (b : FoFormula) (t' : Table) → IsFormula l (Rest r.clausal m a) t q b t' → AtEnd r b t' l (p ++ q)
  After r m a (frame.Round ∷ k) t l p = (q : List Placed) (b : FoFormula) (t' : Table) → IsFormula l (Rest r.clausal m a) t q b t' →
      After r (round_mode r.clausal) b k t' (l - 1) (p ++ (q ++ at 0 (tok.Close false) ∷ []))
  After r m a _ t l p = ⊥

  abbrev pub AfterAtom : Reader → FoTerm → List Frame → Table → ℕ → List Placed → Type 0
  AfterAtom r u k t l p = (is_symbol u ≡ true → After r mode.Fresh (formula.Atom (Holds u)) k t l p) ×
      ((b : Bool) → (b || not (is_positive k)) ≡ true → (q : List Placed) (v : FoTerm) (t' : Table) → IsTerm r.clausal l Term t q v t' →
      After r mode.Fresh (equation b u v) k t' l (p ++ (at 0 (tok.Equal b) ∷ q)))

  abbrev pub AfterTerm : Reader → FoTerm → List Frame → Table → ℕ → List Placed → Type 0
  AfterTerm r u (frame.Args f ts ∷ k) t l p = (q : List Placed) (v : FoTerm) (t' : Table) → IsTerm r.clausal l (Argued f (ts ++ u ∷ [])) t q v t' → AfterTerm r v k t' (l - 1) (p ++ q)
  AfterTerm r u (frame.Side b v ∷ k) t l p = After r mode.Fresh (equation b v u) k t l p
  AfterTerm r u k t l p = AfterAtom r u k t l p

  -- ---- where a part is due

  abbrev pub AtPart : Reader → Kind → List Frame → Table → ℕ → List Placed → Type 0
  AtPart r k fr t l p = (q : List Placed) (a : FoFormula) (t' : Table) → IsFormula l (Start k) t q a t' → After r mode.Fresh a fr t' l (p ++ q)

  -- where a clause may stand in brackets
  abbrev pub AtClause : Reader → List Frame → Table → ℕ → List Placed → Type 0
  AtClause r fr t l p = (q : List Placed) (a : FoFormula) (t' : Table) → IsFormula l (Formula true) t q a t' → After r mode.Ended a fr t' l (p ++ q)

  pub record AtWant (r : Reader) (k : Kind) (l : ℕ) (p : List Placed) : Type 0 where
    pub clausal : r.clausal ≡ is_clausal k
    pub fits : Fits k r.frames
    pub part : AtPart r k r.frames (record { symbols = r.symbols; variables = r.scope }) l p
    pub clause : k ≡ kind.Literal → is_outset r.frames ≡ true → AtClause r r.frames (record { symbols = r.symbols; variables = r.scope }) l p

  abbrev pub table : Reader → Table
  table r = record { symbols = r.symbols; variables = r.scope }

  abbrev pub AtTerm : Reader → ℕ → List Placed → Type 0
  AtTerm r l p = (q : List Placed) (u : FoTerm) (t' : Table) → IsTerm r.clausal l Term (table r) q u t' → AfterTerm r u r.frames t' l (p ++ q)

  pub record AtNamed (r : Reader) (f l : ℕ) (p : List Placed) : Type 0 where
    pub alone : AfterTerm r (Fun f []) r.frames (table r) l p
    pub applied : (q : List Placed) (u : FoTerm) (t' : Table) → IsTerm r.clausal (l + 1) (Argument f []) (table r) q u t' →
        AfterTerm r u r.frames t' l (p ++ (at (l + 1) (tok.Open false) ∷ q))

  -- in a quantifier, whose bracket stands at level `l`
  pub record AtSquare (r : Reader) (q : Quant) (l : ℕ) (p : List Placed) : Type 0 where
    pub clausal : r.clausal ≡ false
    pub goes : (q' : List Placed) (a : FoFormula) (t' : Table) → IsFormula l (Bound q) (table r) q' a t' → After r mode.Fresh a r.frames t' l (p ++ (at (l + 1) (tok.Open true) ∷ q'))

  pub record AtVariable (r : Reader) (q : Quant) (n : ℕ) (p : List Placed) : Type 0 where
    pub clausal : r.clausal ≡ false
    pub level : ℕ
    pub is_level : n ≡ level + 1
    pub goes : (q' : List Placed) (a : FoFormula) (t' : Table) → IsFormula level (Bound q) (table r) q' a t' → After r mode.Fresh a r.frames t' level (p ++ q')

  pub record AtVariableEnd (r : Reader) (q : Quant) (n : ℕ) (p : List Placed) : Type 0 where
    pub clausal : r.clausal ≡ false
    pub level : ℕ
    pub is_level : n ≡ level + 1
    pub fits : Fits kind.Unit r.frames
    pub another : (q' : List Placed) (a : FoFormula) (t' : Table) → IsFormula level (Bound q) (table r) q' a t' → After r mode.Fresh a r.frames t' level (p ++ (at 0 tok.Comma ∷ q'))
    pub last : (q' : List Placed) (a : FoFormula) (t' : Table) → IsFormula level (Start kind.Unit) (table r) q' a t' →
        After r mode.Fresh a r.frames t' level (p ++ (at 0 (tok.Close true) ∷ at 0 tok.Colon ∷ q'))

  pub record AtColon (r : Reader) (l : ℕ) (p : List Placed) : Type 0 where
    pub clausal : r.clausal ≡ false
    pub fits : Fits kind.Unit r.frames
    pub goes : (q' : List Placed) (a : FoFormula) (t' : Table) → IsFormula l (Start kind.Unit) (table r) q' a t' → After r mode.Fresh a r.frames t' l (p ++ (at 0 tok.Colon ∷ q'))

  -- ---- in a statement's head

  -- between statements nothing is open
  pub record Bare (r : Reader) : Type 0 where
    pub frames : r.frames ≡ []
    pub scope : r.scope ≡ []

  abbrev pub AtFormula : Reader → List Placed → Type 0
  AtFormula r p = (q : List Placed) (a : FoFormula) (t : Table) → IsFormula 1 (Formula r.clausal) (record { symbols = r.symbols; variables = [] }) q a t → AtEnd r a t 1 (p ++ q)

  abbrev pub AtRole : Reader → List Placed → Type 0
  AtRole r p = (role : ℕ) → may_stand r.had role ≡ true → AtFormula (record r { conjecture = is_conjecture role }) (p ++ (at 0 (tok.Name false role) ∷ at 0 tok.Comma ∷ []))

  abbrev pub AtName : Reader → List Placed → Type 0
  AtName r p = (quoted : Bool) (name : ℕ) → AtRole (record r { name = name }) (p ++ (at 0 (tok.Name quoted name) ∷ at 0 tok.Comma ∷ []))

  -- ---- each state

  abbrev pub Come : Reader → Spot → ℕ → List Placed → Type 0
  Come r spot.Top l p = Bare r × (l ≡ 0) × AtTop r p
  Come r spot.Open l p = Bare r × (l ≡ 0) × AtName r (p ++ at 1 (tok.Open false) ∷ [])
  Come r spot.Name l p = Bare r × (l ≡ 1) × AtName r p
  Come r spot.NameEnd l p = Bare r × (l ≡ 1) × AtRole r (p ++ at 0 tok.Comma ∷ [])
  Come r spot.Role l p = Bare r × (l ≡ 1) × AtRole r p
  Come r spot.RoleEnd l p = Bare r × (l ≡ 1) × AtFormula r (p ++ at 0 tok.Comma ∷ [])
  Come r (spot.Want k) l p = AtWant r k l p
  Come r spot.WantTerm l p = AtTerm r l p
  Come r (spot.Named f) l p = AtNamed r f l p
  Come r (spot.Term u) l p = AfterTerm r u r.frames (table r) l p
  Come r (spot.Have m a) l p = After r m a r.frames (table r) l p
  Come r (spot.Square q) l p = AtSquare r q l p
  Come r (spot.Variable q) l p = AtVariable r q l p
  Come r (spot.VariableEnd q) l p = AtVariableEnd r q l p
  Come r spot.Colon l p = AtColon r l p
  Come r (spot.Skip s) l p = (r.scope ≡ []) × AtSkip r l s r.frames p
  Come r spot.Dot l p = Bare r × (l ≡ 0) × AtTop r (p ++ at 0 tok.Dot ∷ [])

  -- a token keeps to it
  abbrev pub Keeps : ℕ → List Placed → Tok → Stepped → Type 0
  Keeps l p x None = Unit {0}
  Keeps l p x (Some s) = Come s.reader s.spot (open_behind l x) (p ++ at (level_of l x) x ∷ [])
