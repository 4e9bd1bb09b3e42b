-- The ways out of the readers of the goal's line and of the whole body.
use Rattle.std.proofs.Common.{◌≡◌, inl, inr, ℕ, ◌+◌, ◌<◌, ◌≤◌, List, [], ◌∷◌, length, take, codes, Some, None, refl, sym, ap, subst, ◌∙◌, arith}
use Rattle.std.specs.Str.{bytes_eq}
use Rattle.std.specs.List.{position}
use Rattle.first_fault.specs.Levels.{Within}
use Rattle.first_fault.specs.Walk.{after}
use Rattle.theory_terms.specs.Words.{place}
use Rattle.theory_terms.proofs.Places.{position_map}
use Rattle.theory_reader.specs.declared.theory.Theory.{Theory}
use Rattle.theory_reader.specs.declared.statement.Goal.{Goal}
use Rattle.theory_reader.specs.Sound.{goal_names}
use Rattle.proof_words.specs.Sharing.{IsOneOf}
use Rattle.proof_syntax.specs.declared.fault.PartFault.{PartFault}
use Rattle.proof_syntax.specs.declared.fault.PartFault.TheVariants as fault
use Rattle.proof_syntax.specs.Tokens.{Sign, Space, LineEnd, Tok, Word, Mark, cut, spelled, space, line_end}
use Rattle.proof_syntax.specs.Names.{number_of}
use Rattle.proof_syntax.specs.Grammar.{Placed, at, most, name_level, end, proof}
use Rattle.proof_syntax.specs.Reading.{Into}
use Rattle.proof_syntax.specs.Machine.{put, goes, Stuck, Done, Whole, GoalWord, GoalSpace, GoalName, GoalEnd, whole_step, whole_accepted, whole_run}
use Rattle.proof_syntax.specs.Parts.{end_of, IsNot, NoWord}
use Rattle.proof_syntax.proofs.Cutting.{cut_length}
use Rattle.proof_syntax.proofs.Numbers.{eq_false}
use Rattle.proof_syntax.proofs.Stops as stops
use Rattle.proof_reader.specs.inner.Words.{FailsWord}
use Rattle.proof_reader.specs.inner.Body.{Begins, BodyHalts, FailsBody, GotGoal}

-- ---- a body goes on

module _ (t : Theory) where
  -- a line of this name's goal, and no steps
  line_begun : (x : List ℕ) → Begins t (at 0 (Word (codes "goal")) ∷ at 0 space ∷ at (name_level 0 (place x (goal_names t.goals))) (Word x) ∷ [])
  line_begun x = (at 0 line_end ∷ at 0 (Word (codes "end")) ∷ at 0 line_end ∷ [], _, proof {x = x} end)

  name_begun : Begins t (at 0 (Word (codes "goal")) ∷ at 0 space ∷ [])
  name_begun = let b = line_begun [] in (at (name_level 0 (place [] (goal_names t.goals))) (Word []) ∷ b.0, b.1, b.2)

  space_begun : Begins t (at 0 (Word (codes "goal")) ∷ [])
  space_begun = let b = name_begun in (at 0 space ∷ b.0, b.1, b.2)

  word_begun : Begins t []
  word_begun = let b = space_begun in (at 0 (Word (codes "goal")) ∷ b.0, b.1, b.2)

  -- ---- a body stops

  abbrev Takes : Whole → List Placed → Type 0
  Takes s p = (rest : List Tok) → whole_run t GoalWord (put p rest) ≡ goes p (whole_run t s rest)

  -- the state doesn't take the token at the front; where a word stands there, no word
  abbrev Refuses : Whole → List Tok → Type 0
  Refuses s [] = whole_accepted s ≡ None
  Refuses s (Mark m ∷ rest) = whole_step t s (Mark m) ≡ None
  Refuses s (Word w ∷ rest) = (v : List ℕ) → whole_step t s (Word v) ≡ None

  refuses_but : (s : Whole) (m : Sign) → whole_accepted s ≡ None → ((x : Tok) → (x ≡ Mark m → ⊥) → whole_step t s x ≡ None) → (ts : List Tok) → IsNot (Mark m) ts → Refuses s ts
  refuses_but s m none others [] n = none
  refuses_but s m none others (Mark k ∷ rest) n = others (Mark k) (λ e. n rest (ap (λ x. x ∷ rest) e))
  refuses_but s m none others (Word w ∷ rest) n = λ v. others (Word v) (λ e. cc)

  refuses_signs : (s : Whole) → whole_accepted s ≡ None → ((m : Sign) → whole_step t s (Mark m) ≡ None) → (ts : List Tok) → NoWord ts → Refuses s ts
  refuses_signs s none signs [] n = none
  refuses_signs s none signs (Mark m ∷ rest) n = signs m
  refuses_signs s none signs (Word w ∷ rest) n = absurd (n w rest refl)

  module _ (s : Whole) (p : List Placed) (walk : Takes s p) (body bytes : List ℕ) (eq : cut body ≡ put p (cut bytes)) (low : Within most p) (begins : Begins t p) where
    sticks : (x : Tok) (rest : List Tok) → whole_step t s x ≡ None → whole_run t GoalWord (put p (x ∷ rest)) ≡ goes p Stuck
    sticks x rest h = walk (x ∷ rest) ∙ ap (λ r. goes p r) (ap (λ o. after o (λ u. whole_run t u rest)) h)

    ends : (ts : List Tok) → Refuses s ts → whole_run t GoalWord (put p ts) ≡ goes p (end_of ts)
    ends [] h = walk [] ∙ ap (λ o. goes p (Done o)) h
    ends (Mark m ∷ rest) h = sticks (Mark m) rest h
    ends (Word w ∷ rest) h = sticks (Word w) rest (h w)

    ends_into : (ts : List Tok) → Refuses s ts → Into t p ts 0
    ends_into [] h = refl
    ends_into (Mark m ∷ rest) h = refl
    ends_into (Word w ∷ rest) h = stops.shares t p w 0 (omega arith) (inl refl) (λ v same others. sticks (Word v) others (h v))

    -- at the first byte of a token, or at the end
    here : (left : ℕ) → left ≡ length bytes → Refuses s (cut bytes) → BodyHalts t body left
    here left is h = record {
      before = p;
      rest = cut bytes;
      tokens = eq;
      within = low;
      begins = begins;
      stuck = ends (cut bytes) h;
      into = 0;
      is_into = ends_into (cut bytes) h;
      count = let same = cut_length bytes in omega arith;
    }

  -- ---- the word

  pub word_fails : (body : List ℕ) (e : PartFault) → FailsWord (IsOneOf (codes "goal" ∷ [])) body e → FailsBody t body e
  word_fails body (fault.Stops left) (inl h) = here GoalWord [] (λ rest. refl) body body refl tt word_begun left h.1 (refuses_signs GoalWord refl (λ m. refl) (cut body) h.0)
  word_fails body (fault.Stops left) (inr h) =
      let apart : (v : List ℕ) → take (h.into + 1) v ≡ take (h.into + 1) h.word → whole_step t GoalWord (Word v) ≡ None = λ v same. not_goal v (λ e. h.shares.most v (inl e) same) in
      record {
        before = [];
        rest = Word h.word ∷ h.rest;
        tokens = h.tokens;
        within = tt;
        begins = word_begun;
        stuck = sticks GoalWord [] (λ rest. refl) body body refl tt word_begun (Word h.word) h.rest (apart h.word refl);
        into = h.into;
        is_into = stops.shares t [] h.word h.into h.shares.room
            (elim h.shares.some [ inl none_of ↦ inl none_of | inr s ↦ inr (s.0, (0, is_begun s.0 s.1), s.2) ])
            (λ v same others. sticks GoalWord [] (λ rest. refl) body body refl tt word_begun (Word v) others (apart v same));
        count = h.count ∙ sym (cut_length body) ∙ ap (λ ts. length (spelled ts)) h.tokens;
      }
    where
      not_goal : (v : List ℕ) → (v ≡ codes "goal" → ⊥) → whole_step t GoalWord (Word v) ≡ None
      not_goal v n = let other = eq_false v (codes "goal") n in rw other refl

      is_begun : (v : List ℕ) → IsOneOf (codes "goal" ∷ []) v → Begins t (at 0 (Word v) ∷ [])
      is_begun v (inl e) = subst (λ w. Begins t (at 0 (Word w) ∷ [])) (sym e) space_begun
      is_begun v (inr h) = absurd h
  word_fails body (fault.GoesBeyond left) h = absurd h
  word_fails body fault.NoMemory h = tt

  -- ---- the space

  module _ (body spaced : List ℕ) (word_is : cut body ≡ Word (codes "goal") ∷ cut spaced) where
    not_space : (x : Tok) → (x ≡ Mark Space → ⊥) → whole_step t GoalSpace x ≡ None
    not_space (Mark Space) apart = absurd (apart refl)
    not_space (Word w) apart = refl
    not_space (Mark _) apart = refl

    pub no_space : IsNot space (cut spaced) → FailsBody t body (fault.Stops (length spaced))
    no_space n = here GoalSpace (at 0 (Word (codes "goal")) ∷ []) (λ rest. refl) body spaced word_is (omega arith, tt) space_begun (length spaced) refl
        (refuses_but GoalSpace Space refl not_space (cut spaced) n)

    -- ---- the name

    module _ (named : List ℕ) (space_is : cut spaced ≡ space ∷ cut named) where
      front_is : cut body ≡ Word (codes "goal") ∷ space ∷ cut named
      front_is = word_is ∙ ap (λ ts. Word (codes "goal") ∷ ts) space_is

      pub no_name : NoWord (cut named) → FailsBody t body (fault.Stops (length named))
      no_name n = here GoalName (at 0 (Word (codes "goal")) ∷ at 0 space ∷ []) (λ rest. refl) body named front_is (omega arith, (omega arith, tt)) name_begun (length named) refl
          (refuses_signs GoalName refl (λ m. refl) (cut named) n)

      module _ (x ended : List ℕ) (name_is : cut named ≡ Word x ∷ cut ended) where
        line_is : cut body ≡ Word (codes "goal") ∷ space ∷ Word x ∷ cut ended
        line_is = front_is ∙ ap (λ ts. Word (codes "goal") ∷ space ∷ ts) name_is

        -- the place of the goal of this name, by the look-up
        place_is : (o : _) → o ≡ position (λ (g : Goal). bytes_eq x g.name) t.goals → place x (goal_names t.goals) ≡ o
        place_is o e = position_map (λ (g : Goal). g.name) (bytes_eq x) t.goals ∙ sym e

        pub unknown_goal : None ≡ position (λ (g : Goal). bytes_eq x g.name) t.goals → FailsBody t body (fault.GoesBeyond (length named))
        unknown_goal e = record {
          before = at 0 (Word (codes "goal")) ∷ at 0 space ∷ [];
          token = Word x;
          level = name_level 0 (place x (goal_names t.goals));
          rest = cut ended;
          tokens = line_is;
          within = (omega arith, (omega arith, tt));
          begins = line_begun x;
          above = let high : most < name_level 0 None = omega arith in subst (λ o. most < name_level 0 o) (sym (place_is None e)) high;
          count = sym (cut_length named) ∙ ap (λ ts. length (spelled ts)) name_is;
        }

        module _ (g : ℕ) (goal_is : Some g ≡ position (λ (g : Goal). bytes_eq x g.name) t.goals) where
          not_line_end : (k : ℕ) (y : Tok) → (y ≡ Mark LineEnd → ⊥) → whole_step t (GoalEnd k) y ≡ None
          not_line_end k (Mark LineEnd) apart = absurd (apart refl)
          not_line_end k (Word w) apart = refl
          not_line_end k (Mark _) apart = refl

          low : Within most (at 0 (Word (codes "goal")) ∷ at 0 space ∷ at (name_level 0 (place x (goal_names t.goals))) (Word x) ∷ [])
          low =
              let fits : name_level 0 (Some g) ≤ most = omega arith in
              (omega arith, (omega arith, (subst (λ o. name_level 0 o ≤ most) (sym (place_is (Some g) goal_is)) fits, tt)))

          pub no_line_end : IsNot line_end (cut ended) → FailsBody t body (fault.Stops (length ended))
          no_line_end n =
              let k = number_of (place x (goal_names t.goals)) in
              here (GoalEnd k) (at 0 (Word (codes "goal")) ∷ at 0 space ∷ at (name_level 0 (place x (goal_names t.goals))) (Word x) ∷ []) (λ rest. refl)
              body ended line_is low (line_begun x) (length ended) refl (refuses_but (GoalEnd k) LineEnd refl (not_line_end k) (cut ended) n)

          pub goal_ok : (rest : List ℕ) → cut ended ≡ line_end ∷ cut rest → GotGoal t body g rest
          goal_ok rest end_is = record {
            name = x;
            number = place_is (Some g) goal_is;
            tokens = line_is ∙ ap (λ ts. Word (codes "goal") ∷ space ∷ Word x ∷ ts) end_is;
          }
