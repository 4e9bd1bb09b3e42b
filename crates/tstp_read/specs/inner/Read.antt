-- How the private reader ends.
use Rattle.std.specs.Prelude.{◌≡◌, ◌≢◌, ◌≤◌, ℕ, List, [], ◌∷◌, ◌++◌, length, Some, None}
use Rattle.tstp_read.specs.declared.tokens.Token.{Token}
use Rattle.tstp_read.specs.declared.statements.Entry.{Entry}
use Rattle.tstp_read.specs.declared.statements.Stage.TheVariants as stage
use Rattle.tstp_read.specs.declared.statements.Reader.{Reader}
use Rattle.tstp_read.specs.declared.statements.ReadFault.{ReadFault}
use Rattle.tstp_read.specs.declared.statements.ReadFault.TheVariants as fault
use Rattle.tstp_read.specs.Tokens.{Tok, tokens_of}
use Rattle.tstp_read.specs.inner.Machine.{run, begun, step}
use Rattle.tstp_read.specs.Used.{place_of}

-- all tokens are taken, and these statements are read
pub record Finishes (ts : List Tok) (es : List Entry) : Type 0 where
  pub reader : Reader
  pub ran : run begun ts ≡ Some reader
  pub between : reader.stage ≡ stage.Kind
  pub read : reader.statements ≡ es

abbrev pub Refuses : Reader → List Tok → Type 0
Refuses r [] = r.stage ≢ stage.Kind
Refuses r (t ∷ ts) = step r t ≡ None

-- so many tokens are taken, and not the next one
pub record Sticks (ts : List Tok) (place : ℕ) : Type 0 where
  pub front : List Tok
  pub rest : List Tok
  pub tokens : ts ≡ front ++ rest
  pub count : length front ≡ place
  pub reader : Reader
  pub ran : run begun front ≡ Some reader
  pub refuses : Refuses reader rest

abbrev pub StopsAt : List ℕ → List Token → ReadFault → Type 0
StopsAt text ts (fault.Stop at) = (i : ℕ) × (place_of (length text) ts i ≡ at) × Sticks (tokens_of text ts) i
StopsAt text ts fault.NoMemory = Unit {0}

-- the place of a refusal is within a text of this length
abbrev pub IsPlaced : ℕ → ReadFault → Type 0
IsPlaced len (fault.Stop at) = at ≤ len
IsPlaced len fault.NoMemory = Unit {0}
