-- The lines one after another.
use Rattle.std.proofs.Common.{◌≡◌, ℕ, zero, suc, ◌+◌, ◌<◌, ◌≤◌, Bool, true, false, ◌==◌, List, [], ◌∷◌, ◌++◌, map, length, Option, Some, slice_get, refl, sym, ap, subst, ◌∙◌, inl, inr, arith}
use Rattle.std.proofs.lemmas.List.{append_assoc}
use Rattle.fo_terms.specs.declared.clause.Clause.{Clause}
use Rattle.fo_terms.proofs.Substitution.{equal_from}
use Rattle.fo_infer.specs.declared.refutation.Line.{Line}
use Rattle.fo_infer.specs.declared.refutation.Origin.{Origin}
use Rattle.fo_infer.specs.declared.refutation.Origin.TheVariants.{Input, Alone, Pair}
use Rattle.fo_infer.specs.Inferences.{tagged_position}
use Rattle.fo_infer.specs.Lines.{Follows, FollowFrom, Refutes}
use Rattle.tagged_terms.specs.Readings.{Signs}
use Rattle.tagged_lines.specs.TypedLiterals.{IsIn}
use Rattle.hyp_sets.specs.Sets.{TermSet, set_of, Holds, Among}
use Rattle.hyp_sets.proofs.Members.{holds_union, none_held}
use Rattle.kernel_rules.specs.declared.step.ThmId.{ThmId}
use Rattle.hol_kernel.specs.Logs.{Logged}
use Rattle.hol_kernel.specs.Growth.{Extends, SameFacts}
use Rattle.hol_kernel.proofs.Growing.{extends_refl, extends_trans}
use Rattle.hol_clauses.specs.Literals.{allowed}
use Rattle.clause_instances.specs.Theorems.{clause_of}
use Rattle.hol_lift.specs.Refutations.{IsTaggedClause}
use Rattle.hol_lift.specs.Refutations.{AreInputs, IsRefutation}
use Rattle.hol_lift.specs.inner.Lifting.{IsLifted, parents, LiftedAt, IsReady, IsMarked, AreOrdered, AreWanted, AreLifted, HasLast}
use Rattle.hol_lift.proofs.Members.{got_within}
use Rattle.hol_lift.proofs.Marking.{get_left, get_end}
use Rattle.hol_lift.proofs.Readying.{lifted_on}

abbrev clauses_of : List Line → List Clause
clauses_of lines = map (λ l. l.clause) lines

-- ---- each line follows from those before it

pub record FollowsAt (inputs earlier whole : List Clause) (k : ℕ) (l : Line) : Type 0 where
  pub before : List Clause
  pub follows : Follows tagged_position inputs before l.origin l.clause
  pub size : length before ≡ length earlier + k
  pub prefix : (i : ℕ) (c : Clause) → slice_get before i ≡ Some c → slice_get whole i ≡ Some c

longer : {X : Type 0} (xs : List X) (x : X) (k : ℕ) → length (xs ++ x ∷ []) + k ≡ length xs + suc k
longer [] x k = omega arith
longer (y ∷ xs) x k = let rest = longer xs x k in omega (arith, rest)

pub follow_at : (inputs earlier : List Clause) (ls : List Line) → FollowFrom tagged_position inputs earlier ls → (k : ℕ) (l : Line) → slice_get ls k ≡ Some l → FollowsAt inputs earlier (earlier ++ clauses_of ls) k l
follow_at inputs earlier [] f k l g = absurd cc
follow_at inputs earlier (m ∷ ls) f zero l g =
    let same : m ≡ l = cc in
    record { before = earlier; follows = subst (λ z. Follows tagged_position inputs earlier z.origin z.clause) same f.0; size = omega arith; prefix = λ i c h. get_left earlier (clauses_of (m ∷ ls)) i c h }
follow_at inputs earlier (m ∷ ls) f (suc k) l g =
    let r = follow_at inputs (earlier ++ m.clause ∷ []) ls f.1 k l g in
    record { before = r.before; follows = r.follows; size = r.size ∙ longer earlier m.clause k; prefix = λ i c h. subst (λ zs. slice_get zs i ≡ Some c) (append_assoc earlier (m.clause ∷ []) (clauses_of ls)) (r.prefix i c h) }

-- the origin's lines are among those before
wider : (inputs before whole : List Clause) (o : Origin) (c : Clause) → ((i : ℕ) (d : Clause) → slice_get before i ≡ Some d → slice_get whole i ≡ Some d) → Follows tagged_position inputs before o c → Follows tagged_position inputs whole o c
wider inputs before whole (Input n) c prefix f = f
wider inputs before whole (Alone of rule) c prefix f = record { parent = f.parent; parent_is = prefix of f.parent f.parent_is; gives = f.gives }
wider inputs before whole (Pair left right rule) c prefix f =
    record { left_parent = f.left_parent; right_parent = f.right_parent; left_is = prefix left f.left_parent f.left_is; right_is = prefix right f.right_parent f.right_is; gives = f.gives }

before_it : (inputs before : List Clause) (o : Origin) (c : Clause) → Follows tagged_position inputs before o c → (j : ℕ) → IsIn (parents o) j → j < length before
before_it inputs before (Input n) c f j h = absurd h
before_it inputs before (Alone of rule) c f j (inl e) = subst (λ z. z < length before) e (got_within before of f.parent f.parent_is)
before_it inputs before (Alone of rule) c f j (inr h) = absurd h
before_it inputs before (Pair left right rule) c f j (inl e) = subst (λ z. z < length before) e (got_within before left f.left_parent f.left_is)
before_it inputs before (Pair left right rule) c f j (inr (inl e)) = subst (λ z. z < length before) e (got_within before right f.right_parent f.right_is)
before_it inputs before (Pair left right rule) c f j (inr (inr h)) = absurd h

module _ (inputs : List Clause) (lines : List Line) (follow : FollowFrom tagged_position inputs [] lines) where
  pub are_ordered : AreOrdered lines
  are_ordered i l got j h = let f = follow_at inputs [] lines follow i l got in subst (λ n. j < n) (f.size ∙ omega arith) (before_it inputs f.before l.origin l.clause f.follows j h)

  pub line_follows : (k : ℕ) (l : Line) → slice_get lines k ≡ Some l → Follows tagged_position inputs (clauses_of lines) l.origin l.clause
  line_follows k l got = let f = follow_at inputs [] lines follow k l got in wider inputs f.before (clauses_of lines) l.origin l.clause f.prefix f.follows

-- ---- the loop

pub record Upto (start log : Logged) (signs : Signs) (clauses : List Clause) (thms : List ThmId) (lines : List Line) (marks : List Bool) (made : List (Option ThmId)) (k : ℕ) : Type 0 where
  pub kept : Extends start log
  pub facts : SameFacts start log
  pub count : length made ≡ k
  pub each : (i : ℕ) → i < k → i < length lines → IsMarked marks i → LiftedAt start log signs clauses thms lines made i

module _ (start : Logged) (signs : Signs) (clauses : List Clause) (thms : List ThmId) (lines : List Line) (marks : List Bool) where
  pub upto_start : Upto start start signs clauses thms lines marks [] 0
  upto_start = record { kept = extends_refl start; facts = refl; count = refl; each = λ i h w m. absurd (omega (arith, h)) }

  -- the next line is ready where it is wanted
  pub upto_ready : (log : Logged) (made : List (Option ThmId)) (k : ℕ) (l : Line) → Upto start log signs clauses thms lines marks made k → AreInputs start signs clauses thms → FollowFrom tagged_position clauses [] lines → AreWanted lines marks → slice_get lines k ≡ Some l
      → IsMarked marks k → IsReady start log signs clauses thms lines made l
  upto_ready log made k l u inputs follow wanted got marked = record {
    kept = u.kept;
    inputs = inputs;
    follows = line_follows clauses lines follow k l got;
    parents = λ i h. (let early = are_ordered clauses lines follow k l got i h in let within = got_within lines k l got in u.each i early (omega (arith, early, within)) (wanted.closed k l got marked i h));
  }

  pub upto_step : (log new : Logged) (made next : List (Option ThmId)) (k : ℕ) (l : Line) (own : Bool) (o : Option ThmId) → Upto start log signs clauses thms lines marks made k → Extends log new → SameFacts log new → AreInputs start signs clauses thms
      → FollowFrom tagged_position clauses [] lines → AreWanted lines marks → slice_get lines k ≡ Some l → slice_get marks k ≡ Some own → next ≡ made ++ o ∷ []
      → (own ≡ true → (t : ThmId) × (o ≡ Some t) × ((s : Logged) → IsReady s log signs clauses thms lines made l → IsLifted s new signs clauses thms l.clause.literals t.0 × IsTaggedClause signs l.clause.literals))
      → Upto start new signs clauses thms lines marks next (k + 1)
  upto_step log new made next k l own o u kept facts inputs follow wanted got own_is is gives = subst (λ z. Upto start new signs clauses thms lines marks z (k + 1)) (sym is) (record {
    kept = extends_trans start log new u.kept kept;
    facts = facts ∙ u.facts;
    count = size made o ∙ ap (λ n. n + 1) u.count;
    each = λ i h w m. by_place i h w m (i == k) refl;
  }) where
    size : (xs : List (Option ThmId)) (x : Option ThmId) → length (xs ++ x ∷ []) ≡ length xs + 1
    size [] x = refl
    size (y ∷ xs) x = let rest = size xs x in omega (arith, rest)

    some_same : (x y : Bool) → Some x ≡ Some y → x ≡ y
    some_same x y h = cc

    here : IsMarked marks k → LiftedAt start new signs clauses thms lines (made ++ o ∷ []) k
    here m =
        let h = gives (some_same own true (sym own_is ∙ m)) in
        let both = h.2 start (upto_ready log made k l u inputs follow wanted got m) in
        record { line = l; line_is = got; theorem = h.0; made_is = get_end made o k (sym u.count) ∙ ap Some h.1; lifted = both.0; tagged = both.1 }

    earlier : (i : ℕ) → LiftedAt start log signs clauses thms lines made i → LiftedAt start new signs clauses thms lines (made ++ o ∷ []) i
    earlier i a = record {
      line = a.line;
      line_is = a.line_is;
      theorem = a.theorem;
      made_is = get_left made (o ∷ []) i (Some a.theorem) a.made_is;
      lifted = lifted_on start log new signs clauses thms a.line.clause.literals a.theorem.0 kept a.lifted;
      tagged = a.tagged;
    }

    by_place : (i : ℕ) → i < k + 1 → i < length lines → IsMarked marks i → (test : Bool) → (i == k) ≡ test → LiftedAt start new signs clauses thms lines (made ++ o ∷ []) i
    by_place i h w m true t = subst (LiftedAt start new signs clauses thms lines (made ++ o ∷ [])) (sym (equal_from i k t)) (here (subst (IsMarked marks) (equal_from i k t) m))
    by_place i h w m false t = earlier i (u.each i (grind (arith, t, h)) w m)

  pub upto_end : (log : Logged) (made : List (Option ThmId)) (k : ℕ) → length lines ≤ k → k ≤ length lines → Upto start log signs clauses thms lines marks made k → AreLifted start log signs clauses thms lines marks made
  upto_end log made k low high u = record { count = u.count ∙ omega (arith, low, high); each = λ i w m. u.each i (omega (arith, w, low)) w m }

-- ---- the last line

module _ (start log : Logged) (signs : Signs) (clauses : List Clause) (thms : List ThmId) (lines : List Line) (marks : List Bool) (made : List (Option ThmId)) (refutes : Refutes tagged_position clauses lines) (wanted : AreWanted lines marks) (lifted : AreLifted start log signs clauses thms lines marks made) where
  at : ℕ
  at = length refutes.before

  size : (xs : List Line) (x : Line) → length (xs ++ x ∷ []) ≡ suc (length xs)
  size [] x = refl
  size (y ∷ xs) x = ap suc (size xs x)

  lines_size : length lines ≡ suc at
  unfolding at
  lines_size = ap length refutes.ends ∙ size refutes.before refutes.last

  last_line : slice_get lines at ≡ Some refutes.last
  unfolding at
  last_line = subst (λ zs. slice_get zs (length refutes.before) ≡ Some refutes.last) (sym refutes.ends) (get_end refutes.before refutes.last (length refutes.before) refl)

  last_at : LiftedAt start log signs clauses thms lines made at
  last_at = lifted.each at (omega (arith, lines_size)) (wanted.last at lines_size)

  pub has_last : HasLast made
  has_last = record { at = at; is = lifted.count ∙ lines_size; theorem = last_at.theorem; there = last_at.made_is }

  some_line : (x y : Line) → Some x ≡ Some y → x ≡ y
  some_line x y h = cc

  some_thm : (x y : ThmId) → Some (Some x) ≡ Some (Some y) → x ≡ y
  some_thm x y h = cc

  empty_last : last_at.line.clause.literals ≡ []
  empty_last = ap (λ l. l.clause.literals) (some_line last_at.line refutes.last (sym last_at.line_is ∙ last_line)) ∙ refutes.empty

  none_allowed : (base : TermSet) → Among (allowed base []) base
  unfolding allowed
  none_allowed base x h = elim (holds_union base (set_of []) x h) [ inl k ↦ k | inr k ↦ absurd (none_held x k) ]

  pub refuted : (t : ThmId) → ((k : ℕ) → length made ≡ suc k → slice_get made k ≡ Some (Some t)) → IsRefutation start log signs clauses thms t.0
  refuted t found =
      let same : last_at.theorem ≡ t = some_thm last_at.theorem t (sym last_at.made_is ∙ found at (lifted.count ∙ lines_size)) in
      subst (λ z. IsRefutation start log signs clauses thms z.0) same (record {
        is_thm = last_at.lifted.is_thm;
        concl = last_at.lifted.concl;
        among = λ base free over x h. none_allowed base x (subst (λ c. Holds (allowed base (clause_of signs c)) x) empty_last (last_at.lifted.among base free over x h));
      })
