-- The lines of a refutation that its last line needs are a derivation.
use Rattle.std.proofs.Common.{◌≡◌, ◌≢◌, ℕ, zero, suc, ◌+◌, ◌<◌, ◌≤◌, ◌==◌, Bool, true, false, cond, List, [], ◌∷◌, ◌++◌, map, length, get_or, refl, sym, ap, subst, ◌∙◌, ◌⊎◌, inl, inr, arith, All, length-append}
use Rattle.std.specs.Prelude.{Option, Some, None, slice_get, Contains, IsTrue, ◌↔◌}
use Rattle.std.specs.Option.{option_map, option_map_or}
use Rattle.std.specs.List.{filter, flat_map}
use Rattle.std.proofs.lemmas.List.{append-nil, append_assoc, length-map}
use Rattle.std.proofs.lemmas.List.Elements.{filter-append, All-nil, All-cons, All-append, Contains-append_left, Contains-append_right}
use Rattle.std.proofs.lemmas.Grind.{flat_map-append}
use Rattle.std.proofs.lemmas.Option.{slice_get_within, get_or_from_slice_get, slice_get-get_or, slice_get-map, slice_get_read, slice_get_cases}
use Rattle.std.proofs.Math.Seq.{get_or-append_seam}
use Rattle.std.proofs.lemmas.Bool.Decides.{nat_tests}
use Rattle.fo_terms.specs.declared.clause.Clause.{Clause}
use Rattle.fo_infer.specs.declared.made.Rule.{Rule}
use Rattle.fo_infer.specs.declared.refutation.Line.{Line}
use Rattle.fo_infer.specs.declared.refutation.Origin.{Origin}
use Rattle.fo_infer.specs.declared.refutation.Origin.TheVariants.{Input, Alone, Pair}
use Rattle.fo_terms.specs.Normal.{normal_of}
use Rattle.fo_infer.specs.Inferences.{plain_position, AloneGives, PairGives}
use Rattle.fo_infer.specs.Lines as lines_of
use Rattle.fo_infer.specs.Lines.{FollowFrom, Refutes}
use Rattle.metis_core.specs.Stock.{clauses}
use Rattle.tptp_syntax.specs.declared.problem.Problem.{Problem}
use Rattle.fol_cnf.specs.declared.named_clause.NamedClause.{NamedClause}
use Rattle.fol_cnf.specs.Clausified.{clauses_of}
use Rattle.tstp_print.specs.Names.{below}
use Rattle.tstp_print.specs.Used.{IsParent, IsUsed, last, parent, IsCited, AreThose}
use Rattle.fol_prover.specs.Derivations.{Numbered, numbered_at, numbered, IsOfStatement, FollowsOne, FollowsTwo, Follows, FollowAll, IsDerivation}
use Rattle.fol_prover.specs.Proving.{inputs_of, sources_of}
use Rattle.fol_prover.proofs.Following.{follow_at}

-- ---- those of the numbers below another that pass a test

same : (m n : ℕ) → (m == n) ≡ true → m ≡ n
same m n e = grind (arith, nat_tests)

other : (m n : ℕ) → (m == n) ≡ false → m ≢ n
other m n e = λ is. grind (arith, nat_tests)

only : (p : ℕ → Bool) (n : ℕ) (b : Bool) → p n ≡ b → filter p (n ∷ []) ≡ cond b (n ∷ []) []
only p n b e = ap (λ v. cond v (n ∷ []) []) e

first : {X : Type 0} (x : X) (xs : List X) → Contains (x ∷ xs) x
first x xs = (0, omega arith, refl)

module _ (p : ℕ → Bool) where
  more : (n : ℕ) (b : Bool) → p n ≡ b → filter p (below (suc n)) ≡ filter p (below n) ++ cond b (n ∷ []) []
  more n b e = filter-append p (below n) (n ∷ []) ∙ ap (λ l. filter p (below n) ++ l) (only p n b e)

  number_by : (n m : ℕ) (b : Bool) → (m == n) ≡ b → m < suc n → p m ≡ true → (m < n → Contains (filter p (below n)) m) → Contains (filter p (below (suc n))) m
  number_by n m true e lt on rest =
      let at : m ≡ n = same m n e in
      subst (λ l. Contains l m) (sym (more n true (ap p (sym at) ∙ on)))
      (Contains-append_right (filter p (below n)) (n ∷ []) m (subst (λ k. Contains (n ∷ []) k) (sym at) (first n [])))
  number_by n m false e lt on rest =
      let ne : m ≢ n = other m n e in
      subst (λ l. Contains l m) (sym (filter-append p (below n) (n ∷ []))) (Contains-append_left (filter p (below n)) (filter p (n ∷ [])) m (rest (omega arith)))

  pub has_number : (n m : ℕ) → m < n → p m ≡ true → Contains (filter p (below n)) m
  has_number zero m lt on = absurd (omega arith)
  has_number (suc n) m lt on = number_by n m (m == n) refl lt on (λ less. has_number n m less on)

  small_by : (n m : ℕ) (b : Bool) → n < m → All (λ k. k < m) (cond b (n ∷ []) [])
  small_by n m true lt = All-cons (λ k. k < m) n [] lt (All-nil (λ k. k < m))
  small_by n m false lt = All-nil (λ k. k < m)

  pub all_small : (n m : ℕ) → n ≤ m → All (λ k. k < m) (filter p (below n))
  all_small zero m le = All-nil (λ k. k < m)
  all_small (suc n) m le =
      subst (All (λ k. k < m)) (sym (more n (p n) refl))
      (All-append (λ k. k < m) (filter p (below n)) (cond (p n) (n ∷ []) []) (all_small n m (omega arith)) (small_by n m (p n) (omega arith)))

-- ---- the numbered lines

module _ (lines : List Line) (p : ℕ → Bool) where
  abbrev upto : ℕ → List Numbered
  upto n = numbered lines (filter p (below n))

  next_none : (n : ℕ) → p n ≡ false → upto (suc n) ≡ upto n
  next_none n e = ap (numbered lines) (more p n false e ∙ append-nil (filter p (below n)))

  next_line : (n : ℕ) (l : Line) → p n ≡ true → slice_get lines n ≡ Some l → upto (suc n) ≡ upto n ++ record { number = n; line = l } ∷ []
  next_line n l e is =
      ap (numbered lines) (more p n true e) ∙ flat_map-append (numbered_at lines) (filter p (below n)) (n ∷ []) ∙
      ap (λ l. upto n ++ l) (append-nil (numbered_at lines n) ∙ ap (λ o. option_map_or (λ (k : Line). record { number = n; line = k } ∷ []) o []) is)

  line_by : (n m : ℕ) (l item : Line) (b : Bool) → (m == n) ≡ b → (q : Bool) → p n ≡ q → m < suc n → p m ≡ true → slice_get lines m ≡ Some l → slice_get lines n ≡ Some item →
      (m < n → Contains (upto n) (record { number = m; line = l })) → Contains (upto (suc n)) (record { number = m; line = l })
  line_by n m l item true e q f lt on is item_is rest =
      let at : m ≡ n = same m n e in
      let here : slice_get lines n ≡ Some l = ap (slice_get lines) (sym at) ∙ is in
      subst (λ k. Contains (upto (suc n)) (record { number = k; line = l })) (sym at)
      (subst (λ xs. Contains xs (record { number = n; line = l })) (sym (next_line n l (ap p (sym at) ∙ on) here))
      (Contains-append_right (upto n) (record { number = n; line = l } ∷ []) (record { number = n; line = l }) (first (record { number = n; line = l }) [])))
  line_by n m l item false e true f lt on is item_is rest =
      let ne : m ≢ n = other m n e in
      subst (λ xs. Contains xs (record { number = m; line = l })) (sym (next_line n item f item_is))
      (Contains-append_left (upto n) (record { number = n; line = item } ∷ []) (record { number = m; line = l }) (rest (omega arith)))
  line_by n m l item false e false f lt on is item_is rest =
      let ne : m ≢ n = other m n e in
      subst (λ xs. Contains xs (record { number = m; line = l })) (sym (next_none n f)) (rest (omega arith))

  has_line : (n m : ℕ) (l : Line) → m < n → n ≤ length lines → p m ≡ true → slice_get lines m ≡ Some l → Contains (upto n) (record { number = m; line = l })
  has_line zero m l lt le on is = absurd (omega arith)
  has_line (suc n) m l lt le on is =
      line_by n m l (get_or lines n l) (m == n) refl (p n) refl lt on is (slice_get-get_or lines n l (omega arith)) (λ less. has_line n m l less (omega arith) on is)

-- ---- one line more of a derivation

push : (cs : List NamedClause) (cited : List ℕ) (earlier xs : List Numbered) (x : Numbered) → FollowAll cs cited earlier xs → Follows cs cited (earlier ++ xs) x.line.origin x.line.clause →
    FollowAll cs cited earlier (xs ++ x ∷ [])
push cs cited earlier [] x all h = (subst (λ e. Follows cs cited e x.line.origin x.line.clause) (append-nil earlier) h, tt)
push cs cited earlier (y ∷ xs) x all h = (
  all.0,
  push cs cited (earlier ++ y ∷ []) xs x all.1 (subst (λ e. Follows cs cited e x.line.origin x.line.clause) (sym (append_assoc earlier (y ∷ []) xs)) h),
)

-- ---- the used lines

module _ (cs : List NamedClause) (lines : List Line) (follow : FollowFrom plain_position (inputs_of cs) [] lines) (p c : ℕ → Bool) (count : ℕ)
    (used : (n : ℕ) → n < length lines → IsTrue (p n) ↔ IsUsed lines n) (cites : (s : ℕ) → s < count → IsTrue (c s) ↔ IsCited (sources_of cs) lines s)
    (sources : (n : ℕ) (l : Line) → slice_get lines n ≡ Some l → (k : ℕ) → l.origin ≡ Input k → get_or (sources_of cs) k 0 < count) where
  abbrev cited : List ℕ
  cited = filter c (below count)

  -- the line of a clause
  line_of : (m : ℕ) (d : Clause) → slice_get (clauses lines) m ≡ Some d → (l : Line) × (slice_get lines m ≡ Some l) × (l.clause ≡ d)
  line_of m d is = by (slice_get lines m) refl
    where
      by : (o : Option Line) → slice_get lines m ≡ o → (l : Line) × (slice_get lines m ≡ Some l) × (l.clause ≡ d)
      by None e = absurd (let f : None ≡ Some d = sym (slice_get-map (λ (l : Line). l.clause) lines m ∙ ap (option_map (λ (l : Line). l.clause)) e) ∙ is in cc)
      by (Some l) e = (l, e, (let f : Some l.clause ≡ Some d = sym (slice_get-map (λ (l : Line). l.clause) lines m ∙ ap (option_map (λ (l : Line). l.clause)) e) ∙ is in cc))

  parent_line : (n m : ℕ) (l : Line) (d : Clause) → n < length lines → p n ≡ true → slice_get lines n ≡ Some l → IsParent l.origin m → m < n → slice_get (clauses lines) m ≡ Some d →
      (x : Numbered) × Contains (upto lines p n) x × (x.number ≡ m) × (x.line.clause ≡ d)
  parent_line n m l d within on is q lt got =
      let k = line_of m d got in
      let u : IsUsed lines m = parent ((used n within).0 on) is q in (
        record { number = m; line = k.0 },
        has_line lines p n m k.0 lt (omega arith) ((used m (omega arith)).1 u) k.1,
        refl,
        k.2,
      )

  line_follows : (n : ℕ) (l : Line) (before : List Clause) → n < length lines → p n ≡ true → slice_get lines n ≡ Some l → length before ≡ n → ((i : ℕ) (d : Clause) → slice_get before i ≡ Some d → slice_get (clauses lines) i ≡ Some d) →
      (o : Origin) → l.origin ≡ o → lines_of.Follows plain_position (inputs_of cs) before o l.clause → Follows cs cited (upto lines p n) o l.clause
  line_follows n l before within on is size prefix (Input k) e f = record {
    named = named;
    named_is = named_is;
    statement = has_number c count named.statement small ((cites named.statement small).1 is_cited);
    normal = f.normal ∙ ap (λ (z : Clause). normal_of z.literals) input;
  }
    where
      inside : k < length cs
      inside = let w = slice_get_within (inputs_of cs) k f.input f.input_is in let m = length-map cs (λ (z : NamedClause). z.clause) in omega arith

      named : NamedClause
      named = get_or cs k (record { clause = l.clause; statement = 0 })

      named_is : slice_get cs k ≡ Some named
      named_is = slice_get-get_or cs k (record { clause = l.clause; statement = 0 }) inside

      input : f.input ≡ named.clause
      input = let e : Some f.input ≡ Some named.clause = sym f.input_is ∙ slice_get-map (λ (z : NamedClause). z.clause) cs k ∙ ap (option_map (λ (z : NamedClause). z.clause)) named_is in cc

      source_is : slice_get (sources_of cs) k ≡ Some named.statement
      source_is = slice_get-map (λ (z : NamedClause). z.statement) cs k ∙ ap (option_map (λ (z : NamedClause). z.statement)) named_is

      small : named.statement < count
      small = subst (λ s. s < count) (get_or_from_slice_get (sources_of cs) k named.statement 0 source_is) (sources n l is k e)

      is_cited : IsCited (sources_of cs) lines named.statement
      is_cited = record { n = n; line = l; number = k; used = (used n within).0 on; line_is = is; origin = e; source = source_is }
  line_follows n l before within on is size prefix (Alone of rule) e f =
      let lt : of < n = let w = slice_get_within before of f.parent f.parent_is in omega arith in
      let x = parent_line n of l f.parent within on is (subst (λ o. IsParent o of) (sym e) refl) lt (prefix of f.parent f.parent_is) in
      record { parent = x.0; parent_in = x.1; parent_is = x.2; gives = subst (λ d. AloneGives d rule l.clause) (sym x.3) f.gives }
  line_follows n l before within on is size prefix (Pair left right rule) e f =
      let lt : left < n = let w = slice_get_within before left f.left_parent f.left_is in omega arith in
      let rt : right < n = let w = slice_get_within before right f.right_parent f.right_is in omega arith in
      let x = parent_line n left l f.left_parent within on is (subst (λ o. IsParent o left) (sym e) (inl refl)) lt (prefix left f.left_parent f.left_is) in
      let y = parent_line n right l f.right_parent within on is (subst (λ o. IsParent o right) (sym e) (inr refl)) rt (prefix right f.right_parent f.right_is) in
      record {
        left_parent = x.0;
        right_parent = y.0;
        left_in = x.1;
        left_is = x.2;
        right_in = y.1;
        right_is = y.2;
        gives = subst (λ d. PairGives plain_position d y.0.line.clause rule l.clause) (sym x.3) (subst (λ d. PairGives plain_position f.left_parent d rule l.clause) (sym y.3) f.gives);
      }

  past : (n : ℕ) → n < length lines → ((x : Line) × (n < length lines) × (slice_get lines n ≡ Some x) × (get_or lines n x ≡ x)) ⊎ ((length lines ≤ n) × (slice_get lines n ≡ None)) → slice_get lines n ≡ None → ⊥
  past n within (inl h) is = let f : Some h.0 ≡ None = sym h.2 ∙ is in cc
  past n within (inr h) is = let le = h.0 in omega arith

  follow_line : (n : ℕ) (o : Option Line) → slice_get lines n ≡ o → n < length lines → p n ≡ true → FollowAll cs cited [] (upto lines p n) → FollowAll cs cited [] (upto lines p (suc n))
  follow_line n None is within e rest = absurd (past n within (slice_get_cases lines n).1 is)
  follow_line n (Some l) is within e rest =
      let r = follow_at (inputs_of cs) [] lines follow n l is in
      subst (FollowAll cs cited []) (sym (next_line lines p n l e is))
      (push cs cited [] (upto lines p n) (record { number = n; line = l }) rest
      (line_follows n l r.before within e is (let s = r.size in omega arith) r.prefix l.origin refl r.follows))

  follow_more : (n : ℕ) (b : Bool) → p n ≡ b → n < length lines → FollowAll cs cited [] (upto lines p n) → FollowAll cs cited [] (upto lines p (suc n))
  follow_more n true e within rest = follow_line n (slice_get lines n) refl within e rest
  follow_more n false e within rest = subst (FollowAll cs cited []) (sym (next_none lines p n e)) rest

  all_follow : (n : ℕ) → n ≤ length lines → FollowAll cs cited [] (upto lines p n)
  all_follow zero le = tt
  all_follow (suc n) le = follow_more n (p n) refl (omega arith) (all_follow n (omega arith))

  module _ (before : List Line) (ending : Line) (ends : lines ≡ before ++ ending ∷ []) (empty : ending.clause.literals ≡ []) where
    size : length lines ≡ suc (length before)
    size = ap length ends ∙ length-append before (ending ∷ []) ∙ (let one : length (ending ∷ []) ≡ 1 = refl in omega arith)

    last_is : slice_get lines (length before) ≡ Some ending
    last_is =
        slice_get_read lines (length lines) (length before) ending refl (let e = size in omega arith)
        (sym (ap (λ l. get_or l (length before) ending) ends ∙ get_or-append_seam before ending [] ending))

    pub derivation : IsDerivation cs count cited (upto lines p (length lines))
    derivation = record {
      statements = all_small c count count (omega arith);
      follow = all_follow (length lines) (omega arith);
      before = upto lines p (length before);
      last = record { number = length before; line = ending };
      ends = ap (upto lines p) size ∙ next_line lines p (length before) ending ((used (length before) (omega (arith, size))).1 (last size)) last_is;
      empty = empty;
    }
