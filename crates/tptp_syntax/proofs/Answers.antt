-- Each text has one answer.
use Rattle.std.proofs.Common.{◌≡◌, ◌⊎◌, inl, inr, ℕ, ◌+◌, ◌<◌, ◌≤◌, List, ◌∷◌, length, get_or, drop, Option, Some, None, refl, sym, ap, ◌∙◌, arith, drop-cons, zero, suc}
use Rattle.std.specs.Prelude.{Result, Ok, Err, MatchResult}
use Rattle.std.proofs.lemmas.Bool.{cases_lt}
use Rattle.first_fault.specs.Answers as answers
use Rattle.first_fault.proofs.Places as kit
use Rattle.tptp_syntax.specs.declared.tokens.Tok.{Tok}
use Rattle.tptp_syntax.specs.declared.tokens.Tok.TheVariants as tok
use Rattle.tptp_syntax.specs.declared.reader.Spot.{Spot}
use Rattle.tptp_syntax.specs.declared.reader.Spot.TheVariants as spot
use Rattle.tptp_syntax.specs.declared.reader.Reader.{Reader}
use Rattle.tptp_syntax.specs.declared.problem.Problem.{Problem}
use Rattle.tptp_syntax.specs.declared.problem.TptpFault.{TptpFault}
use Rattle.tptp_syntax.specs.declared.problem.TptpFault.TheVariants as fault
use Rattle.tptp_syntax.specs.Tokens.{lexed}
use Rattle.tptp_syntax.specs.Grammar.{most, Listed, IsProblemText}
use Rattle.tptp_syntax.specs.Reading.{Reads, problem_of, byte_of, IsProblem, IsRefused, Answer, Read, Bad, IsAnswer, Tells}
use Rattle.tptp_syntax.specs.inner.Machine.{Full, State, step, accepted, step_at, level_of, open_behind, outset, listed_of}
use Rattle.tptp_syntax.proofs.CompleteLists.{complete}
use Rattle.tptp_syntax.proofs.Going.{Going, starts, reads, unfinished, stuck, next, beyond, closes}

-- ---- no text has two

one_place : (ts : List Tok) (a b : answers.Answer Listed) → answers.IsAnswer Tok Listed IsProblemText most ts a → answers.IsAnswer Tok Listed IsProblemText most ts b → a ≡ b
one_place ts = kit.one_answer Tok Full Listed step accepted outset IsProblemText complete most ts

same_listed : (ts : List Tok) (v w : Listed) → Reads ts v → Reads ts w → v ≡ w
same_listed ts v w a b = let e = one_place ts (answers.Text v) (answers.Text w) a b in cc

same_places : (ts : List Tok) (i j : ℕ) (s : answers.SyntaxAt Tok Listed IsProblemText most ts i ⊎ answers.TooDeepAt Tok Listed IsProblemText most ts i)
    (u : answers.SyntaxAt Tok Listed IsProblemText most ts j ⊎ answers.TooDeepAt Tok Listed IsProblemText most ts j) → i ≡ j
same_places ts i j (inl s) (inl u) = let e = one_place ts (answers.Syntax i) (answers.Syntax j) s u in cc
same_places ts i j (inl s) (inr u) = let e = one_place ts (answers.Syntax i) (answers.TooDeep j) s u in cc
same_places ts i j (inr s) (inl u) = let e = one_place ts (answers.TooDeep i) (answers.Syntax j) s u in cc
same_places ts i j (inr s) (inr u) = let e = one_place ts (answers.TooDeep i) (answers.TooDeep j) s u in cc

no_both : (ts : List Tok) (v : Listed) (i : ℕ) → Reads ts v → answers.SyntaxAt Tok Listed IsProblemText most ts i ⊎ answers.TooDeepAt Tok Listed IsProblemText most ts i → ⊥
no_both ts v i r (inl s) = let e = one_place ts (answers.Text v) (answers.Syntax i) r s in cc
no_both ts v i r (inr s) = let e = one_place ts (answers.Text v) (answers.TooDeep i) r s in cc

module _ (text : List ℕ) where
  pub one : (a b : Answer) → IsAnswer text a → IsAnswer text b → a ≡ b
  one (Read p) (Read q) h k = ap Read (h.is ∙ ap (λ v. problem_of (lexed text).words v) (same_listed (lexed text).tokens h.listed k.listed h.reads k.reads) ∙ sym k.is)
  one (Read p) (Bad n) h k = absurd (no_both (lexed text).tokens h.listed k.place h.reads k.stops)
  one (Bad m) (Read q) h k = absurd (no_both (lexed text).tokens k.listed h.place k.reads h.stops)
  one (Bad m) (Bad n) h k = ap Bad (h.is ∙ ap (λ i. byte_of text i) (same_places (lexed text).tokens h.place k.place h.stops k.stops) ∙ sym k.is)

  -- what the reader answers is the one answer that the text has
  pub told : (r : Result Problem TptpFault) → MatchResult r (λ p. IsProblem text p) (λ e. IsRefused text e) → (a : Answer) → IsAnswer text a → MatchResult r (λ p. a ≡ Read p) (λ e. Tells a e)
  told (Ok p) h a is = one a (Read p) is h
  told (Err (fault.BadText n)) h a is = one a (Bad n) is h
  told (Err fault.NoMemory) h a is = tt

-- ---- each has one

module _ (ts : List Tok) where
  abbrev Answered : Type 0
  Answered = ((v : Listed) × Reads ts v) ⊎ ((i : ℕ) × (answers.SyntaxAt Tok Listed IsProblemText most ts i ⊎ answers.TooDeepAt Tok Listed IsProblemText most ts i))

  at_end : (i l : ℕ) (r : Reader) (s : Spot) → Going ts i l r s → length ts ≤ i → Answered
  at_end i l r spot.Top h le = inl (listed_of r, reads ts i l r spot.Top h le refl)
  at_end i l r s h le = inr (length ts, inl (unfinished ts i l r s h le refl))

  at_token : (i l : ℕ) (r : Reader) (s : Spot) (x : Tok) (o : Option State) → step_at r s x ≡ o → (h : Going ts i l r s) → (lt : i < length ts) → (is : drop i ts ≡ x ∷ drop (i + 1) ts) →
      ((l' : ℕ) (r' : Reader) (s' : Spot) → Going ts (i + 1) l' r' s' → Answered) → Answered
  at_token i l r s x None e h lt is go = inr (i, inl (stuck ts i l r s h lt x is e))
  at_token i l r s x (Some st) e h lt is go = elim (cases_lt most (level_of l x)) [
    | inl above ↦ inr (i, inr (beyond ts i l r s h lt x is st e above))
    | inr fits ↦ go (open_behind l x) st.reader st.spot (next ts i l r s h lt x is st e fits (closes l x h.low fits))
  ]

  front_token : (i : ℕ) → i < length ts → (x : Tok) × (drop i ts ≡ x ∷ drop (i + 1) ts)
  front_token i lt = (get_or ts i tok.Dot, drop-cons ts i tok.Dot lt ∙ (let e : suc i ≡ i + 1 = omega arith in ap (λ k. get_or ts i tok.Dot ∷ drop k ts) e))

  walked : (n i l : ℕ) (r : Reader) (s : Spot) → length ts ≤ n + i → Going ts i l r s → Answered
  walked zero i l r s few h = at_end i l r s h (omega arith)
  walked (suc n) i l r s few h = elim (cases_lt i (length ts)) [
    | inl lt ↦ let f = front_token i lt in
        at_token i l r s f.0 (step_at r s f.0) refl h lt f.1 (λ l' r' s' h'. walked n (i + 1) l' r' s' (omega arith) h')
    | inr le ↦ at_end i l r s h le
  ]

  pub answered : Answered
  answered = walked (length ts) 0 0 outset.state.reader spot.Top (omega arith) (starts ts)

pub some_answer : (text : List ℕ) → (a : Answer) × IsAnswer text a
some_answer text = elim (answered (lexed text).tokens) [
  | inl r ↦ (Read (problem_of (lexed text).words r.0), record { listed = r.0; reads = r.1; is = refl })
  | inr s ↦ (Bad (byte_of text s.0), record { place = s.0; stops = s.1; is = refl })
]
