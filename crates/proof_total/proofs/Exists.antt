-- Each text has an answer.
use Rattle.std.proofs.Common.{◌≡◌, ◌⊎◌, inl, inr, ℕ, ◌+◌, ◌-◌, ◌<◌, ◌≤◌, if◌then◌else◌, Bool, true, false, List, [], ◌∷◌, ◌++◌, length, codes, Option, Some, None, refl, sym, ap, subst, ◌∙◌, arith, length-append}
use Rattle.std.specs.Str.{bytes_eq}
use Rattle.std.proofs.lemmas.Bool.{cases_lt}
use Rattle.first_fault.specs.Answers as answers
use Rattle.first_fault.specs.Levels.{Within}
use Rattle.first_fault.specs.Walk.{Step, after}
use Rattle.first_fault.proofs.Fronts.{put-append, goes-append, within-append}
use Rattle.proof_words.specs.Sharing.{IsOneOf}
use Rattle.theory_reader.specs.declared.theory.Theory.{Theory}
use Rattle.proof_syntax.specs.declared.file.ProofFile.{ProofFile}
use Rattle.proof_syntax.specs.Tokens.{Tok, Word, Mark, cut, spelled}
use Rattle.proof_syntax.specs.Names.{names_of}
use Rattle.proof_syntax.specs.Grammar.{Placed, at, most, IsProof}
use Rattle.proof_syntax.specs.Machine.{put, goes, Done, State, Stepped, step, Whole, GoalWord, GoalSpace, GoalName, Steps, inside, whole_step, whole_accepted, whole_run}
use Rattle.proof_syntax.specs.Reading.{StartsBehind, StopsAt, GoesBeyondAt, Shares, behind, never_starts, stops, goes_beyond, Answer, Proof, Fault, IsAnswer}
use Rattle.proof_syntax.proofs.Numbers.{eq_true, eq_same}
use Rattle.proof_syntax.proofs.Stops.{Begins, shares, stops_at, goes_beyond_at}
use Rattle.proof_total.proofs.Words.{Taken, GoesInto, of_words, no_word, state_into}
use Rattle.proof_total.proofs.Bodies.{Come, nothing, Holds, holds, begins, Accepted, ends}
use Rattle.proof_total.proofs.Starts.{start}

-- ---- how far into a word that the walk doesn't take

module _ (w : List ℕ) where
  abbrev taken_goal : Bool → Option (Step Whole)
  taken_goal b = if b then Some (record { level = 0; state = GoalSpace }) else None

  goal_taken : (b : Bool) → bytes_eq w (codes "goal") ≡ b → IsOneOf (codes "goal" ∷ []) w → Taken (Step Whole) (taken_goal b)
  goal_taken true e is = (_, refl)
  goal_taken false e (inl is) = let same = eq_true w (codes "goal") is in cc
  goal_taken false e (inr never) = absurd never

  is_goal : (b : Bool) (r : Step Whole) → bytes_eq w (codes "goal") ≡ b → taken_goal b ≡ Some r → IsOneOf (codes "goal" ∷ []) w
  is_goal true r e h = inl (eq_same w (codes "goal") e)
  is_goal false r e h = cc

none_inside : (g : ℕ) (o : Stepped) → inside g o ≡ None → o ≡ None
none_inside g None h = refl
none_inside g (Some s) h = cc

inside_into : (g : ℕ) (takes : List ℕ → Stepped) (w : List ℕ) → GoesInto (Step State) takes w → GoesInto (Step Whole) (λ v. inside g (takes v)) w
inside_into g takes w h = record {
  count = h.count;
  room = h.room;
  some = elim h.some [ inl none ↦ inl none | inr s ↦ inr (s.0, (_, ap (λ o. inside g o) s.1.1), s.2) ];
  most = λ v same. ap (λ o. inside g o) (h.most v same);
}

module _ (t : Theory) where
  abbrev taken : Whole → List ℕ → Option (Step Whole)
  taken s v = whole_step t s (Word v)

  whole_into : (s : Whole) (w : List ℕ) → taken s w ≡ None → GoesInto (Step Whole) (λ v. taken s v) w
  whole_into GoalWord w stuck = of_words (Step Whole) (λ v. taken GoalWord v) w (codes "goal" ∷ [])
      (λ v is. goal_taken v (bytes_eq v (codes "goal")) refl is) (λ v r e. is_goal v (bytes_eq v (codes "goal")) r refl e) stuck
  whole_into GoalName w stuck = cc
  whole_into (Steps g s) w stuck = inside_into g (λ v. step (names_of t g) s (Word v)) w (state_into (names_of t g) s w (none_inside g (step (names_of t g) s (Word w)) stuck))
  whole_into s w stuck = no_word (Step Whole) _ w (λ v. refl)

  -- ---- the walk over a body

  abbrev Leads : Whole → List Placed → Type 0
  Leads s p = (rest : List Tok) → whole_run t GoalWord (put p rest) ≡ goes p (whole_run t s rest)

  leads_on : (s : Whole) (p : List Placed) (x : Tok) (r : Step Whole) → whole_step t s x ≡ Some r → Leads s p → Leads r.state (p ++ at r.level x ∷ [])
  leads_on s p x r e h = λ rest.
      ap (λ xs. whole_run t GoalWord xs) (put-append p (at r.level x ∷ []) rest) ∙ h (x ∷ rest) ∙
      ap (λ o. goes p (after o (λ v. whole_run t v rest))) e ∙ sym (goes-append p (at r.level x ∷ []) (whole_run t r.state rest))

  leads_nowhere : (s : Whole) (p : List Placed) (x : Tok) (rest : List Tok) → whole_step t s x ≡ None → Leads s p → whole_run t GoalWord (put p (x ∷ rest)) ≡ goes p (after None (λ v. whole_run t v rest))
  leads_nowhere s p x rest e h = h (x ∷ rest) ∙ ap (λ o. goes p (after o (λ v. whole_run t v rest))) e

  holds_at : (s : Whole) (p : List Placed) (x : Tok) (r : Step Whole) → whole_step t s x ≡ Some r → Come t s p → Come t r.state (p ++ at r.level x ∷ [])
  holds_at s p x r e come = subst (λ o. Holds t p x o) e (holds t s x p come)

  shares_here : (s : Whole) (p : List Placed) (w : List ℕ) (h : GoesInto (Step Whole) (λ v. taken s v) w) → Leads s p → Come t s p → Shares t p w h.count
  shares_here s p w h leads come = shares t p w h.count h.room
      (elim h.some [
        | inl none ↦ inl none
        | inr v ↦ let r = v.1.0 in inr (v.0, (r.level, begins t r.state (p ++ at r.level (Word v.0) ∷ []) (holds_at s p (Word v.0) r v.1.1 come)), v.2)
      ])
      (λ v same others. leads_nowhere s p (Word v) others (h.most v same) leads)

  module _ (body : List ℕ) where
    abbrev pub Answered : Type 0
    Answered = ((v : ProofFile) × answers.Reads Tok ProofFile (IsProof t) most (cut body) v) ⊎ (((n : ℕ) × StopsAt t body n) ⊎ ((n : ℕ) × GoesBeyondAt t body n))

    at_end : (s : Whole) (p : List Placed) (o : Option ProofFile) → whole_accepted s ≡ o → Leads s p → Come t s p → Within most p → cut body ≡ put p [] → Accepted t p o → Answered
    at_end s p (Some v) e leads come low is whole = inl (v, record { placed = p; derived = whole; within = low; tokens = is })
    at_end s p None e leads come low is whole =
        inr (inl (length body - 0, stops_at t body 0 p [] 0 is (omega arith) low (begins t s p come) (leads [] ∙ ap (λ o. goes p (Done o)) e) refl))

    stuck_at : (s : Whole) (p : List Placed) (x : Tok) (rest : List Tok) → whole_step t s x ≡ None → Leads s p → Come t s p → Within most p → cut body ≡ put p (x ∷ rest) → Answered
    stuck_at s p (Mark m) rest e leads come low is =
        let left = length (spelled (Mark m ∷ rest)) in
        inr (inl (length body - left, stops_at t body left p (Mark m ∷ rest) 0 is (omega arith) low (begins t s p come) (leads_nowhere s p (Mark m) rest e leads) refl))
    stuck_at s p (Word w) rest e leads come low is =
        let h = whole_into s w e in
        let all = length (spelled (Word w ∷ rest)) in
        let room : h.count ≤ length w = h.room in
        let count : (all - h.count) + h.count ≡ all = omega (arith, length-append w (spelled rest)) in
        inr (inl (
          length body - (all - h.count),
          stops_at t body (all - h.count) p (Word w ∷ rest) h.count is count low (begins t s p come)
              (leads_nowhere s p (Word w) rest e leads) (shares_here s p w h leads come),
        ))

    above : (p : List Placed) (x : Tok) (l : ℕ) (rest : List Tok) → most < l → Within most p → cut body ≡ put p (x ∷ rest) → Begins t (p ++ at l x ∷ []) → Answered
    above p x l rest more low is begun =
        let left = length (spelled (x ∷ rest)) in
        inr (inr (length body - left, goes_beyond_at t body left (record { before = p; token = x; level = l; rest = rest; tokens = is; within = low; begins = begun; above = more; count = refl })))

    one_token : (s : Whole) (p : List Placed) (x : Tok) (rest : List Tok) (o : Option (Step Whole)) → whole_step t s x ≡ o → Leads s p → Come t s p → Within most p → cut body ≡ put p (x ∷ rest) →
        ((u : Whole) (q : List Placed) → Leads u q → Come t u q → Within most q → cut body ≡ put q rest → Answered) → Answered
    one_token s p x rest None e leads come low is next = stuck_at s p x rest e leads come low is
    one_token s p x rest (Some r) e leads come low is next =
        let come_on = holds_at s p x r e come in
        elim (cases_lt most r.level) [
          | inl more ↦ above p x r.level rest more low is (begins t r.state (p ++ at r.level x ∷ []) come_on)
          | inr fits ↦ next r.state (p ++ at r.level x ∷ []) (leads_on s p x r e leads) come_on (within-append most p (at r.level x ∷ []) low (fits, tt))
              (is ∙ sym (put-append p (at r.level x ∷ []) rest))
        ]

    walked : (ts : List Tok) (s : Whole) (p : List Placed) → Leads s p → Come t s p → Within most p → cut body ≡ put p ts → Answered
    walked [] s p leads come low is = at_end s p (whole_accepted s) refl leads come low is (ends t s p come)
    walked (x ∷ ts) s p leads come low is = one_token s p x ts (whole_step t s x) refl leads come low is (λ u q. walked ts u q)

    pub answered : Answered
    answered = walked (cut body) GoalWord [] (λ rest. refl) (nothing t) tt refl

-- ---- the text

module _ (t : Theory) (text : List ℕ) where
  abbrev HasAnswer : Type 0
  HasAnswer = (a : Answer) × IsAnswer t text a

  of_body : (before body : List ℕ) → StartsBehind text before body → Answered t body → HasAnswer
  of_body before body starts (inl r) = (Proof r.0, record { before = before; body = body; starts = starts; read = r.1 })
  of_body before body starts (inr (inl s)) = (Fault (behind before s.0), stops starts s.1)
  of_body before body starts (inr (inr b)) = (Fault (behind before b.0), goes_beyond starts b.1)

  pub some_answer : HasAnswer
  some_answer = elim (start text) [
    | inl s ↦ of_body s.0 s.1 s.2 (answered t s.1)
    | inr never ↦ (Fault (length text), never_starts never)
  ]
