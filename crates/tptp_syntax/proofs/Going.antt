-- A walk on its way, and how it ends.
use Rattle.std.proofs.Common.{◌≡◌, ℕ, ◌+◌, ◌<◌, ◌≤◌, true, false, List, [], ◌∷◌, ◌++◌, length, drop, Some, None, refl, sym, ap, subst, ◌∙◌, arith, length-append, nat_lt}
use Rattle.std.proofs.lemmas.List.{drop_all, append-nil}
use Rattle.std.proofs.lemmas.Bool.{ltb-true, ltb-false}
use Rattle.first_fault.specs.Answers as answers
use Rattle.first_fault.specs.Levels.{Within}
use Rattle.first_fault.specs.Walk.{after}
use Rattle.first_fault.specs.Fails.{end_of}
use Rattle.first_fault.proofs.Fronts.{put-append, goes-append, within-append, put_length}
use Rattle.first_fault.proofs.Places as kit
use Rattle.tptp_syntax.specs.declared.tokens.Tok.{Tok}
use Rattle.tptp_syntax.specs.declared.tokens.Tok.TheVariants as tok
use Rattle.tptp_syntax.specs.declared.reader.Spot.{Spot}
use Rattle.tptp_syntax.specs.declared.reader.Spot.TheVariants as spot
use Rattle.tptp_syntax.specs.declared.reader.Reader.{Reader}
use Rattle.tptp_syntax.specs.Grammar as g
use Rattle.tptp_syntax.specs.Grammar.{Placed, at, most, Listed, IsProblemText}
use Rattle.tptp_syntax.specs.Reading.{Reads}
use Rattle.tptp_syntax.specs.inner.Machine.{put, goes, Done, Full, State, run, step, step_at, accepted, accepted_at, counted, level_of, open_behind, outset, listed_of}
use Rattle.tptp_syntax.proofs.Runs.{full}
use Rattle.tptp_syntax.proofs.CompleteLists.{complete}
use Rattle.tptp_syntax.proofs.Come.{Come, Keeps}
use Rattle.tptp_syntax.proofs.Keeps.{step_keeps}
use Rattle.tptp_syntax.proofs.Begins.{goes_on}

-- the walk has taken `i` tokens and is in this state, with so many brackets open
pub record Going (ts : List Tok) (i l : ℕ) (r : Reader) (s : Spot) : Type 0 where
  pub placed : List Placed
  pub tokens : ts ≡ put placed (drop i ts)
  pub count : length placed ≡ i
  pub within : Within most placed
  pub leads : (rest : List Tok) → run outset (put placed rest) ≡ goes placed (run (full l r s) rest)
  pub come : Come IsProblemText r s l placed
  pub low : l ≤ most

pub starts : (ts : List Tok) → Going ts 0 0 outset.state.reader spot.Top
starts ts = record {
  placed = [];
  tokens = refl;
  count = refl;
  within = tt;
  leads = λ rest. refl;
  come = (record { frames = refl; scope = refl }, refl, λ q v d. d);
  low = omega arith;
}

module _ (ts : List Tok) (i l : ℕ) (r : Reader) (s : Spot) (h : Going ts i l r s) where
  begins : answers.Begins Tok Listed IsProblemText h.placed
  begins = goes_on IsProblemText r s l h.placed h.come

  stops_at : (rest : List Tok) → ts ≡ put h.placed rest → run (full l r s) rest ≡ end_of rest → answers.SyntaxAt Tok Listed IsProblemText most ts i
  stops_at rest is end_ = record {
    before = h.placed;
    rest = rest;
    tokens = is;
    count = h.count;
    begins = begins;
    within = h.within;
    stops = kit.none_goes_on Tok Full Listed step accepted outset IsProblemText complete h.placed rest (h.leads rest ∙ ap (λ x. goes h.placed x) end_);
  }

  -- ---- at the end

  all_taken : length ts ≤ i → ts ≡ put h.placed []
  all_taken le = h.tokens ∙ ap (λ xs. put h.placed xs) (drop_all i ts le)

  pub reads : length ts ≤ i → s ≡ spot.Top → Reads ts (listed_of r)
  reads le top =
      let come_top : Come IsProblemText r spot.Top l h.placed = subst (λ z. Come IsProblemText r z l h.placed) top h.come in
      let whole = come_top.2 [] (record { symbols = r.symbols; statements = [] }) g.end in
      record {
        placed = h.placed;
        derived = subst (λ p. IsProblemText p (listed_of r)) (append-nil h.placed)
            (subst (λ ss. IsProblemText (h.placed ++ []) (record { symbols = r.symbols; statements = ss })) (append-nil r.done) whole);
        within = h.within;
        tokens = all_taken le;
      }

  pub unfinished : length ts ≤ i → accepted_at r s ≡ None → answers.SyntaxAt Tok Listed IsProblemText most ts (length ts)
  unfinished le none =
      let all = all_taken le in
      let len : length (put h.placed []) ≡ length h.placed + 0 = put_length h.placed [] in
      let same : i ≡ length ts = let a = ap length all in let b = h.count in omega arith in
      subst (λ n. answers.SyntaxAt Tok Listed IsProblemText most ts n) same (stops_at [] all (ap Done none))

  -- ---- at a token

  module _ (lt : i < length ts) (x : Tok) (is : drop i ts ≡ x ∷ drop (i + 1) ts) where
    here : ts ≡ put h.placed (x ∷ drop (i + 1) ts)
    here = h.tokens ∙ ap (λ xs. put h.placed xs) is

    pub stuck : step_at r s x ≡ None → answers.SyntaxAt Tok Listed IsProblemText most ts i
    stuck none = stops_at (x ∷ drop (i + 1) ts) here (ap (λ o. after (counted l x o) (λ f. run f (drop (i + 1) ts))) none)

    module _ (st : State) (e : step_at r s x ≡ Some st) where
      next_placed : List Placed
      next_placed = h.placed ++ at (level_of l x) x ∷ []

      next_come : Come IsProblemText st.reader st.spot (open_behind l x) (h.placed ++ at (level_of l x) x ∷ [])
      next_come = subst (λ o. Keeps IsProblemText l h.placed x o) e (step_keeps IsProblemText r s l h.placed x h.come)

      pub next : level_of l x ≤ most → open_behind l x ≤ most → Going ts (i + 1) (open_behind l x) st.reader st.spot
      next fits low = record {
        placed = h.placed ++ at (level_of l x) x ∷ [];
        tokens = here ∙ sym (put-append h.placed (at (level_of l x) x ∷ []) (drop (i + 1) ts));
        count = length-append h.placed (at (level_of l x) x ∷ []) ∙ ap (λ n. n + 1) h.count;
        within = within-append most h.placed (at (level_of l x) x ∷ []) h.within (fits, tt);
        leads = λ rest. ap (λ xs. run outset xs) (put-append h.placed (at (level_of l x) x ∷ []) rest) ∙ h.leads (x ∷ rest)
            ∙ ap (λ o. goes h.placed (after (counted l x o) (λ f. run f rest))) e
            ∙ sym (goes-append h.placed (at (level_of l x) x ∷ []) (run (full (open_behind l x) st.reader st.spot) rest));
        come = next_come;
        low = low;
      }

      pub beyond : most < level_of l x → answers.TooDeepAt Tok Listed IsProblemText most ts i
      beyond above = record {
        before = h.placed;
        token = x;
        level = level_of l x;
        rest = drop (i + 1) ts;
        tokens = here;
        count = h.count;
        begins = goes_on IsProblemText st.reader st.spot (open_behind l x) (h.placed ++ at (level_of l x) x ∷ []) next_come;
        within = h.within;
        above = above;
      }

-- brackets that are closed leave fewer open
pub closes : (l : ℕ) (x : Tok) → l ≤ most → level_of l x ≤ most → open_behind l x ≤ most
closes l (tok.Open b) low fits = fits
closes l (tok.Close b) low fits = omega arith
closes l x low fits = low

pub not_top : (r : Reader) (s : Spot) → (s ≡ spot.Top → ⊥) → accepted_at r s ≡ None
not_top r spot.Top h = absurd (h refl)
not_top r s h = refl

pub above_of : (a b : ℕ) → nat_lt a b ≡ true → a < b
above_of a b h = ltb-true a b h

pub fits_of : (a b : ℕ) → nat_lt a b ≡ false → b ≤ a
fits_of a b h = ltb-false a b h
