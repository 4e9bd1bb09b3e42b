-- A search stands where the definition has it.
use Rattle.std.proofs.Common.{◌≡◌, ◌≢◌, ℕ, suc, ◌+◌, ◌<◌, ◌≤◌, List, [], ◌∷◌, ◌++◌, subst, sym, ap, ◌∙◌, refl, arith, length, OnOk, Result}
use Rattle.std.proofs.lemmas.List.{map-append, length_push, same_from_push}
use Rattle.fo_infer.specs.declared.refutation.Line.{Line}
use Rattle.fo_infer.specs.Lines.{FollowFrom, Refutes}
use Rattle.metis_core.specs.declared.search.Search.TheInside.{Inside}
use Rattle.metis_core.specs.Inside.{view_of, IsSearch}
use Rattle.metis_core.specs.declared.given.Given.{Given}
use Rattle.metis_core.specs.declared.stock.Stock.{Stock}
use Rattle.metis_core.specs.declared.stop.Stop.{Stop}
use Rattle.metis_core.specs.declared.turn.Turn.{Turn}
use Rattle.metis_core.specs.declared.turn.Turn.TheVariants.{More, Found, Saturated, Spent, NoMemory}
use Rattle.metis_core.specs.State.{State}
use Rattle.metis_core.specs.Offer.{Passed, on, over, End, found, spent}
use Rattle.metis_core.specs.Search.{position_of, Run, Search, Pick, pick, at_pick, nothing_waits, budget_used}
use Rattle.metis_core.specs.Stock.{clauses}
use Rattle.metis_core.specs.Held.{state_of, IsRunning, Told, Ends}
use Rattle.metis_core.specs.inner.Settled.{Settles}
use Rattle.metis_core.specs.Searched.{Searched, StandsAt, IsFound, empty_clause}

-- a search with this stock
abbrev pub seen : Given → ℕ → Stock → Turn → Searched
seen given picks stock reached = record { given = given; picks = picks; lines = stock.lines; active = stock.active; waiting = stock.waiting; reached = reached }

module _ (given : Given) (picks : ℕ) (P : Passed → Type 0) (runs : (s : State) → P (on s) → Run given picks s) (ended : (e : End) (s : State) → P (over e s) → Search given e picks s) where
  pub settled : (old new : Stock) (told : Result (Unit {0}) Stop) (turn : Turn) → Told told (state_of old) P → Ends given told old.lines → Settles told old new turn → StandsAt (seen given picks new turn) turn
  settled old new told More says ends (is, same) =
      subst (λ stock. Run given picks (state_of stock)) (sym same) (runs (state_of old) (subst (λ r. Told r (state_of old) P) is says))
  settled old new told Found says ends (line, is, lines) =
      let here = subst (λ r. Ends given r old.lines) is ends in
      record {
        last = state_of old;
        ended = ended found (state_of old) (subst (λ r. Told r (state_of old) P) is says);
        lines = ap clauses lines ∙ map-append (λ l. l.clause) old.lines (line ∷ []) ∙ ap (λ c. clauses old.lines ++ c ∷ []) (λ i. record { literals = here.1 i });
        follow = subst (FollowFrom (position_of given.positions) given.inputs []) (sym lines) here.0;
      }
  settled old new told Saturated says ends none = absurd none
  settled old new told Spent says ends (is, same) =
      subst (λ stock. Search given spent picks (state_of stock)) (sym same) (ended spent (state_of old) (subst (λ r. Told r (state_of old) P) is says))
  settled old new told NoMemory says ends any = tt

pub settled_running : (given : Given) (old new : Stock) (told : Result (Unit {0}) Stop) (turn : Turn) → OnOk told (IsRunning given old) → Settles told old new turn → turn ≡ More → IsRunning given new
settled_running given old new told More running (is, same) more = subst (IsRunning given) (sym same) (subst (λ r. OnOk r (IsRunning given old)) is running)
settled_running given old new told Found running says more = cc
settled_running given old new told Saturated running says more = cc
settled_running given old new told Spent running says more = cc
settled_running given old new told NoMemory running says more = cc

-- ---- an end is looked for

module _ (s : Inside) (search : IsSearch s) (more : s.reached ≡ More) where
  runs_on : Run s.given s.picks (state_of s.stock)
  runs_on = subst (StandsAt (view_of s)) more search.stands

  pub saturates : s.stock.waiting ≡ [] → IsSearch (record { given = s.given; stock = s.stock; picks = s.picks; reached = Saturated })
  saturates none = record { stands = nothing_waits runs_on search.within none; running = λ e. cc; age = search.age; within = search.within }

  pub spends : s.stock.waiting ≢ [] → s.given.budget ≤ s.picks → IsSearch (record { given = s.given; stock = s.stock; picks = s.picks; reached = Spent })
  spends waits used = record { stands = budget_used runs_on (let within = search.within in omega arith) waits; running = λ e. cc; age = search.age; within = search.within }

  -- ---- a pick is made
  pub steps : (new : Stock) (old : Stock) (told : Result (Unit {0}) Stop) (turn : Turn) → s.picks < s.given.budget → OnOk told (IsRunning s.given old)
      → Told told (state_of old) (Pick s.given (s.picks + 1) (state_of s.stock)) → Ends s.given told old.lines → Settles told old new turn
      → IsSearch (record { given = s.given; stock = new; picks = s.picks + 1; reached = turn })
  steps new old told turn left running says ends settles = record {
    stands = settled s.given (s.picks + 1) (Pick s.given (s.picks + 1) (state_of s.stock))
        (λ t h. subst (λ n. Run s.given n t) (sym plus) (pick runs_on (subst (λ n. Pick s.given n (state_of s.stock) (on t)) plus h)))
        (λ e t h. subst (λ n. Search s.given e n t) (sym plus) (at_pick runs_on left (subst (λ n. Pick s.given n (state_of s.stock) (over e t)) plus h)))
        old new told turn says ends settles;
    running = settled_running s.given old new told turn running settles;
    age = search.age;
    within = omega arith;
  }
    where
      plus : s.picks + 1 ≡ suc s.picks
      plus = omega arith

-- ---- a refutation

abbrev Split : List Line → Type 0
Split lines = (before : List Line) × (last : Line) × (lines ≡ before ++ last ∷ [])

split : (lines : List Line) → (lines ≡ [] → ⊥) → Split lines
split [] none = absurd (none refl)
split (l ∷ ls) none = behind l ls
  where
    behind : (l : Line) (ls : List Line) → Split (l ∷ ls)
    behind l [] = ([], l, refl)
    behind l (k ∷ ls) = let rest : Split (k ∷ ls) = behind k ls in (l ∷ rest.0, rest.1, ap (λ xs. l ∷ xs) rest.2)

pub refutes : (s : Searched) → IsFound s → Refutes (position_of s.given.positions) s.given.inputs s.lines
refutes s h =
    let parts = split s.lines (λ e. (let size : length (h.last.kept ++ empty_clause ∷ []) ≡ 0 = ap length (sym h.lines ∙ ap clauses e) in omega (arith, length_push h.last.kept empty_clause))) in
    let both = same_from_push (clauses parts.0) h.last.kept parts.1.clause empty_clause (sym (map-append (λ l. l.clause) parts.0 (parts.1 ∷ [])) ∙ ap clauses (sym parts.2) ∙ h.lines) in
    record { follow = h.follow; before = parts.0; last = parts.1; ends = parts.2; empty = ap (λ c. c.literals) both.1 }
