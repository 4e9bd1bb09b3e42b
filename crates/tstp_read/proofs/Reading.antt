-- How far the private reader has come in a list of tokens.
use Rattle.std.proofs.Common.{◌≡◌, ◌≢◌, ℕ, ◌+◌, ◌<◌, ◌≤◌, List, [], ◌∷◌, ◌++◌, length, take, drop, get_or, refl, sym, ◌∙◌, ap, subst, arith, Option, Some, None, true, false, zero, suc, length-take, drop-cons, take-append-drop}
use Rattle.std.specs.Prelude.{map}
use Rattle.std.proofs.lemmas.List.{take_more, map-append, drop_all, take_all, length-map}
use Rattle.tstp_read.specs.declared.tokens.Token.{Token}
use Rattle.tstp_read.specs.declared.statements.Stage.{Stage}
use Rattle.tstp_read.specs.declared.statements.Stage.TheVariants as stage
use Rattle.tstp_read.specs.declared.statements.Reader.{Reader}
use Rattle.tstp_read.specs.Tokens.{Tok, token_of, tokens_of}
use Rattle.tstp_read.specs.inner.Machine.{is_between, run, then_run, step, begun}
use Rattle.tstp_read.specs.inner.Read.{Sticks, Finishes}
use Rattle.tstp_read.specs.Used.{place_of}
use Rattle.tstp_read.proofs.Walk.{run-append}

place_at : (len : ℕ) (ts : List Token) (i : ℕ) (d : Token) → i < length ts → place_of len ts i ≡ (get_or ts i d).at
place_at len [] i d lt = absurd (omega arith)
place_at len (t ∷ ts) zero d lt = refl
place_at len (t ∷ ts) (suc i) d lt = place_at len ts i d (omega arith)

place_end : (len : ℕ) (ts : List Token) → place_of len ts (length ts) ≡ len
place_end len [] = refl
place_end len (t ∷ ts) = place_end len ts

module _ (text : List ℕ) (ts : List Token) (i : ℕ) (r : Reader) (ran : run begun (tokens_of text (take i ts)) ≡ Some r) where
  pub goes_on : (d : Token) (s : Reader) → i < length ts → step r (token_of text (get_or ts i d)) ≡ Some s → run begun (tokens_of text (take (i + 1) ts)) ≡ Some s
  goes_on d s lt e =
      ap (λ us. run begun (tokens_of text us)) (take_more ts i d lt)
      ∙ ap (run begun) (map-append (token_of text) (take i ts) (get_or ts i d ∷ []))
      ∙ run-append begun (tokens_of text (take i ts)) (token_of text (get_or ts i d) ∷ [])
      ∙ ap (λ o. then_run o (λ q. run q (token_of text (get_or ts i d) ∷ []))) ran
      ∙ ap (λ o. then_run o (λ q. run q [])) e

  split : tokens_of text ts ≡ tokens_of text (take i ts) ++ tokens_of text (drop i ts)
  split = ap (tokens_of text) (sym (take-append-drop i ts)) ∙ map-append (token_of text) (take i ts) (drop i ts)

  pub stops : (d : Token) → i < length ts → step r (token_of text (get_or ts i d)) ≡ None →
      (place : ℕ) × (place_of (length text) ts place ≡ (get_or ts i d).at) × Sticks (tokens_of text ts) place
  stops d lt e = (
    i,
    place_at (length text) ts i d lt,
    record {
      front = tokens_of text (take i ts);
      rest = tokens_of text (get_or ts i d ∷ drop (suc i) ts);
      tokens = split ∙ ap (λ us. tokens_of text (take i ts) ++ tokens_of text us) (drop-cons ts i d lt);
      count = omega (arith, length-map (take i ts) (token_of text), length-take i ts);
      reader = r;
      ran = ran;
      refuses = e;
    },
  )

  pub stops_at_end : length ts ≤ i → r.stage ≢ stage.Kind → (place : ℕ) × (place_of (length text) ts place ≡ length text) × Sticks (tokens_of text ts) place
  stops_at_end le other = (
    length ts,
    place_end (length text) ts,
    record {
      front = tokens_of text (take i ts);
      rest = [];
      tokens = split ∙ ap (λ us. tokens_of text (take i ts) ++ tokens_of text us) (drop_all i ts le);
      count = omega (arith, length-map (take i ts) (token_of text), ap length (take_all i ts le));
      reader = r;
      ran = ran;
      refuses = other;
    },
  )

  pub finishes : length ts ≤ i → r.stage ≡ stage.Kind → Finishes (tokens_of text ts) r.statements
  finishes le at = record { reader = r; ran = ap (λ us. run begun (tokens_of text us)) (sym (take_all i ts le)) ∙ ran; between = at; read = refl }

pub between : (s : Stage) → is_between s ≡ true → s ≡ stage.Kind
between stage.Kind e = refl
between stage.Open e = absurd cc
between stage.Name e = absurd cc
between stage.NameComma e = absurd cc
between stage.Role e = absurd cc
between stage.RoleComma e = absurd cc
between stage.Body e = absurd cc
between stage.Dot e = absurd cc

pub not_between : (s : Stage) → is_between s ≡ false → s ≢ stage.Kind
not_between s e = λ is. (let wrong : is_between s ≡ true = ap is_between is in cc)
