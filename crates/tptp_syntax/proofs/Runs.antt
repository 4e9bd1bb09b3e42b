-- Walks put together.
use Rattle.std.proofs.Common.{◌≡◌, ℕ, ◌<◌, ◌≤◌, false, List, [], ◌∷◌, ◌++◌, Some, refl, sym, ap, ◌∙◌, arith}
use Rattle.first_fault.proofs.Fronts.{put-append, goes-append}
use Rattle.tptp_syntax.specs.declared.tokens.Tok.{Tok}
use Rattle.tptp_syntax.specs.declared.tokens.Tok.TheVariants as tok
use Rattle.tptp_syntax.specs.declared.frames.Frame.{Frame}
use Rattle.tptp_syntax.specs.declared.reader.Spot.{Spot}
use Rattle.tptp_syntax.specs.declared.reader.Reader.{Reader}
use Rattle.tptp_syntax.specs.Grammar.{Placed, at, Table}
use Rattle.tptp_syntax.specs.inner.Machine.{put, goes, Goes, after, Done, Full, run, step, accepted}

-- so many brackets open, and the reader at a spot
abbrev pub full : ℕ → Reader → Spot → Full
full l r s = record { depth = l; state = record { reader = r; spot = s } }

-- the reader with this table and these parts open
abbrev pub set : Reader → Table → List Frame → Reader
set r t k = record r { symbols = t.symbols; scope = t.variables; frames = k }

-- where a term goes on with the token: 1; a part: 2; a formula: 3; none of them: 4
abbrev pub rank : Tok → ℕ
rank (tok.Open false) = 1
rank (tok.Equal b) = 2
rank (tok.Chain o) = 3
rank (tok.Pair c) = 3
rank _ = 4

-- no token comes that a part of this rank goes on with
abbrev pub Ends : ℕ → List Tok → Type 0
Ends n [] = Unit {0}
Ends n (x ∷ xs) = n < rank x

pub ends_less : (n m : ℕ) (xs : List Tok) → n ≤ m → Ends m xs → Ends n xs
ends_less n m [] le h = tt
ends_less n m (x ∷ xs) le h = omega arith

-- the walk takes these tokens and is then so
abbrev pub Leads : Full → List Placed → Full → List Tok → Type 0
Leads f p g rest = run f (put p rest) ≡ goes p (run g rest)

-- a step, and then the rest
pub on : (f g h : Full) (l : ℕ) (x : Tok) (p : List Placed) (rest : List Tok) → step f x ≡ Some (record { level = l; state = g }) → Leads g p h rest → Leads f (at l x ∷ p) h rest
on f g h l x p rest e d = ap (λ o. after o (λ s. run s (put p rest))) e ∙ ap (λ r. Goes l r) d

pub last_on : (f g : Full) (l : ℕ) (x : Tok) (rest : List Tok) → step f x ≡ Some (record { level = l; state = g }) → Leads f (at l x ∷ []) g rest
last_on f g l x rest e = on f g g l x [] rest e refl

pub both : (f g h : Full) (p q : List Placed) (rest : List Tok) → Leads f p g (put q rest) → Leads g q h rest → Leads f (p ++ q) h rest
both f g h p q rest d e = ap (λ xs. run f xs) (put-append p q rest) ∙ d ∙ ap (λ r. goes p r) e ∙ sym (goes-append p q (run h rest))

-- two states from which the walk goes on alike
pub alike : (f g : Full) (rest : List Tok) → accepted f ≡ accepted g → ((x : Tok) → step f x ≡ step g x) → run f rest ≡ run g rest
alike f g [] a s = ap Done a
alike f g (x ∷ xs) a s = ap (λ o. after o (λ t. run t xs)) (s x)

-- the same where the next token has a rank above this one
pub alike_above : (n : ℕ) (f g : Full) (rest : List Tok) → accepted f ≡ accepted g → ((x : Tok) → n < rank x → step f x ≡ step g x) → Ends n rest → run f rest ≡ run g rest
alike_above n f g [] a s h = ap Done a
alike_above n f g (x ∷ xs) a s h = ap (λ o. after o (λ t. run t xs)) (s x h)

pub and_alike : (f g h : Full) (p : List Placed) (rest : List Tok) → Leads f p g rest → run g rest ≡ run h rest → Leads f p h rest
and_alike f g h p rest d e = d ∙ ap (λ r. goes p r) e
