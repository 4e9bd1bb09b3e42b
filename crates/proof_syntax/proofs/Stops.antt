-- The byte of a fault of the body.
use Rattle.std.proofs.Common.{◌≡◌, ◌⊎◌, inl, inr, ℕ, ◌+◌, ◌-◌, ◌≤◌, List, [], ◌∷◌, ◌++◌, length, take, refl, sym, ap, subst, ◌∙◌, append_assoc, arith, length-append}
use Rattle.first_fault.specs.Levels.{Within}
use Rattle.first_fault.specs.Answers as answers
use Rattle.first_fault.proofs.Fronts.{put-append, goes-append, within-append}
use Rattle.first_fault.proofs.Places as kit
use Rattle.kernel_rules.specs.declared.step.Step as kernel
use Rattle.theory_terms.specs.Words.{place}
use Rattle.theory_reader.specs.declared.theory.Theory.{Theory}
use Rattle.theory_reader.specs.Sound.{goal_names}
use Rattle.proof_syntax.specs.declared.file.ProofFile.{ProofFile}
use Rattle.proof_syntax.specs.Tokens.{Tok, Word, Mark, cut, spelled}
use Rattle.proof_syntax.specs.Names.{names_of, number_of}
use Rattle.proof_syntax.specs.Grammar.{Placed, at, most, AreSteps, IsProof, proof}
use Rattle.proof_syntax.specs.Machine.{put, goes, Stuck, Run, run, State, StepStart, Whole, GoalWord, whole_step, whole_accepted, whole_run}
use Rattle.proof_syntax.specs.Parts.{end_of, SharesPart, IntoPart, Halts, Exceeds}
use Rattle.proof_syntax.specs.Reading.{GoesOn, Shares, Into, StopsAt, GoesBeyondAt}
use Rattle.proof_syntax.proofs.Cutting.{cut_length, spelled_put}
use Rattle.proof_syntax.proofs.Whole.{whole_runs, steps_filed, filed_run, filed-goes, filed-end, goal_line, line_runs}

abbrev pub Begins : Theory → List Placed → Type 0
Begins t p = answers.Begins Tok ProofFile (IsProof t) p

pub none_goes_on : (t : Theory) (p : List Placed) (rest : List Tok) → whole_run t GoalWord (put p rest) ≡ goes p (end_of rest) → answers.NoneGoesOn Tok ProofFile (IsProof t) p rest
none_goes_on t = kit.none_goes_on Tok Whole ProofFile (whole_step t) whole_accepted GoalWord (IsProof t) (λ p v d. whole_runs d)

-- a text that begins with a token goes on with it
pub goes_on : (t : Theory) (p : List Placed) (l : ℕ) (x : Tok) → Begins t (p ++ at l x ∷ []) → GoesOn t p x
goes_on t p l x b = ((p ++ at l x ∷ []) ++ b.0, b.1, put b.0 [], b.2, put-append (p ++ at l x ∷ []) b.0 [] ∙ put-append p (at l x ∷ []) (put b.0 []))

pub shares : (t : Theory) (p : List Placed) (w : List ℕ) (n : ℕ) → n ≤ length w →
    ((n ≡ 0) ⊎ ((v : List ℕ) × ((l : ℕ) × Begins t (p ++ at l (Word v) ∷ [])) × (take n v ≡ take n w))) →
    ((v : List ℕ) → take (n + 1) v ≡ take (n + 1) w → (others : List Tok) → whole_run t GoalWord (put p (Word v ∷ others)) ≡ goes p Stuck) → Shares t p w n
shares t p w n room some others = record {
  room = room;
  some = elim some [ inl none ↦ inl none | inr s ↦ inr (s.0, goes_on t p s.1.0 (Word s.0) s.1.1, s.2) ];
  most = λ v on same. none_goes_on t p (Word v ∷ []) (others v same []) on.0 on.1 on.2 on.3 on.4;
}

-- ---- places

take_put : (p : List Placed) (rest : List Tok) → take (length p) (put p rest) ≡ put p []
take_put [] rest = refl
take_put (x ∷ p) rest = ap (λ xs. x.tok ∷ xs) (take_put p rest)

bytes_before : (body : List ℕ) (p : List Placed) (rest : List Tok) → cut body ≡ put p rest → length body ≡ length (spelled (take (length p) (cut body))) + length (spelled rest)
bytes_before body p rest e =
    let front = ap (λ ts. length (spelled (take (length p) ts))) e ∙ ap (λ ts. length (spelled ts)) (take_put p rest) in
    let all = sym (cut_length body) ∙ ap (λ ts. length (spelled ts)) e ∙ ap (λ bs. length bs) (spelled_put p rest) ∙ length-append (spelled (put p [])) (spelled rest) in
    omega arith

module _ (t : Theory) (body : List ℕ) (left : ℕ) where
  pub stops_within : (before : List Placed) (rest : List Tok) (into : ℕ) → cut body ≡ put before rest → left + into ≡ length (spelled rest) → left ≤ length body
  stops_within before rest into tokens count = let all = bytes_before body before rest tokens in omega arith

  pub stops_at : (before : List Placed) (rest : List Tok) (into : ℕ) → cut body ≡ put before rest → left + into ≡ length (spelled rest) → Within most before → Begins t before →
      whole_run t GoalWord (put before rest) ≡ goes before (end_of rest) → Into t before rest into → StopsAt t body (length body - left)
  stops_at before rest into tokens count low begins stuck is_into = record {
    place = length before;
    found = record { before = before; rest = rest; tokens = tokens; count = refl; begins = begins; within = low; stops = none_goes_on t before rest stuck };
    into = into;
    is_into = is_into;
    is = let all = bytes_before body before rest tokens in omega arith;
  }

  pub goes_beyond_within : Exceeds (Begins t) body left → left ≤ length body
  goes_beyond_within h = let all = bytes_before body h.before (h.token ∷ h.rest) h.tokens in let same = h.count in omega arith

  pub goes_beyond_at : Exceeds (Begins t) body left → GoesBeyondAt t body (length body - left)
  goes_beyond_at h = record {
    place = length h.before;
    found = record { before = h.before; token = h.token; level = h.level; rest = h.rest; tokens = h.tokens; count = refl; begins = h.begins; within = h.within; above = h.above };
    is = let all = bytes_before body h.before (h.token ∷ h.rest) h.tokens in let same = h.count in omega arith;
  }

-- ---- a fault of the steps is one of the body

abbrev pub BegunSteps : Theory → ℕ → List Placed → Type 0
BegunSteps t g p = (q : List Placed) × (steps : List kernel.Step) × AreSteps (names_of t g) 0 (p ++ q) steps

abbrev pub first_step : Unit {0} → State
first_step u = StepStart []

module _ (t : Theory) (x : List ℕ) where
  pub begins_behind : (q : List Placed) → BegunSteps t (number_of (place x (goal_names t.goals))) q → Begins t (goal_line t x ++ q)
  begins_behind q b = (b.0, record { goal = number_of (place x (goal_names t.goals)); steps = b.1 }, proof b.2)

  walk_behind : (q : List Placed) (rest : List Tok) (r : Run) → run (names_of t (number_of (place x (goal_names t.goals)))) (StepStart []) (put q rest) ≡ goes q r →
      whole_run t GoalWord (put (goal_line t x ++ q) rest) ≡ goes (goal_line t x ++ q) (filed_run (number_of (place x (goal_names t.goals))) r)
  walk_behind q rest r h =
      let g = number_of (place x (goal_names t.goals)) in
      let line = goal_line t x in
      ap (λ xs. whole_run t GoalWord xs) (put-append line q rest) ∙ line_runs t x (put q rest) ∙
      ap (λ s. goes line s) (steps_filed t g (StepStart []) (put q rest) ∙ ap (λ s. filed_run g s) h ∙ filed-goes g q r) ∙
      sym (goes-append line q (filed_run g r))

  lift_token : (q : List Placed) (y : Placed) → BegunSteps t (number_of (place x (goal_names t.goals))) (q ++ y ∷ []) → Begins t ((goal_line t x ++ q) ++ y ∷ [])
  lift_token q y b = subst (Begins t) (sym (append_assoc (goal_line t x) q (y ∷ []))) (begins_behind (q ++ y ∷ []) b)

  shares_behind : (q : List Placed) (w : List ℕ) (n : ℕ) →
      SharesPart (names_of t (number_of (place x (goal_names t.goals)))) (BegunSteps t (number_of (place x (goal_names t.goals)))) (Unit {0}) first_step q w n →
      Shares t (goal_line t x ++ q) w n
  shares_behind q w n h = shares t (goal_line t x ++ q) w n h.room
      (elim h.some [ inl none ↦ inl none | inr s ↦ inr (s.0, (s.1.0, lift_token q (at s.1.0 (Word s.0)) s.1.1), s.2) ])
      (λ v same others. walk_behind q (Word v ∷ others) Stuck (h.most v same tt others))

  into_behind : (q : List Placed) (rest : List Tok) (n : ℕ) →
      IntoPart (names_of t (number_of (place x (goal_names t.goals)))) (BegunSteps t (number_of (place x (goal_names t.goals)))) (Unit {0}) first_step q rest n →
      Into t (goal_line t x ++ q) rest n
  into_behind q [] n h = h
  into_behind q (Mark s ∷ rest) n h = h
  into_behind q (Word w ∷ rest) n h = shares_behind q w n h

-- the body begins as `before`, and its walk doesn't take the next token, of which `into` bytes still go on
pub record BodyStops (t : Theory) (body : List ℕ) (left : ℕ) : Type 0 where
  pub before : List Placed
  pub rest : List Tok
  pub tokens : cut body ≡ put before rest
  pub within : Within most before
  pub begins : Begins t before
  pub stuck : whole_run t GoalWord (put before rest) ≡ goes before (end_of rest)
  pub into : ℕ
  pub is_into : Into t before rest into
  pub count : left + into ≡ length (spelled rest)

-- behind the goal's line
module _ (t : Theory) (x body inner : List ℕ) (left : ℕ) (eq : cut body ≡ put (goal_line t x) (cut inner)) (low : Within most (goal_line t x)) where
  pub steps_stop : Halts (names_of t (number_of (place x (goal_names t.goals)))) (BegunSteps t (number_of (place x (goal_names t.goals)))) (Unit {0}) first_step inner left →
      BodyStops t body left
  steps_stop h =
      let g = number_of (place x (goal_names t.goals)) in
      let line = goal_line t x in
      record {
        before = line ++ h.before;
        rest = h.rest;
        tokens = eq ∙ ap (λ xs. put line xs) h.tokens ∙ sym (put-append line h.before h.rest);
        within = within-append most line h.before low h.within;
        begins = begins_behind t x h.before h.begins;
        stuck = walk_behind t x h.before h.rest (end_of h.rest) (ap (λ xs. run (names_of t g) (StepStart []) xs) (sym h.tokens) ∙ h.stuck tt) ∙
            ap (λ r. goes (line ++ h.before) r) (filed-end g h.rest);
        into = h.into;
        is_into = into_behind t x h.before h.rest h.into h.is_into;
        count = h.count;
      }

  pub steps_beyond : Exceeds (BegunSteps t (number_of (place x (goal_names t.goals)))) inner left → Exceeds (Begins t) body left
  steps_beyond h = record {
    before = goal_line t x ++ h.before;
    token = h.token;
    level = h.level;
    rest = h.rest;
    tokens = eq ∙ ap (λ xs. put (goal_line t x) xs) h.tokens ∙ sym (put-append (goal_line t x) h.before (h.token ∷ h.rest));
    within = within-append most (goal_line t x) h.before low h.within;
    begins = lift_token t x h.before (at h.level h.token) h.begins;
    above = h.above;
    count = h.count;
  }
