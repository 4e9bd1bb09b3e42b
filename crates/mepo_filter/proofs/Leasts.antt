-- With a mark that stays the rounds take the least set.
use Rattle.std.proofs.Common.{◌≡◌, ℕ, ◌+◌, ◌-◌, ◌*◌, ◌/◌, ◌≤◌, ◌<◌, ◌^◌, Bool, true, false, List, [], ◌∷◌, ◌++◌, length, map, refl, sym, ap, ◌∙◌, subst, arith, zero, suc, inl, inr, add-zero}
use Rattle.std.specs.Prelude.{not, ◌||◌, ◌⊎◌, ◌==◌, Contains}
use Rattle.std.specs.List.{list_any}
use Rattle.std.proofs.lemmas.List.{length-map}
use Rattle.std.proofs.lemmas.List.Folds.{list_any-append}
use Rattle.std.proofs.lemmas.List.Filters.{length-filter_both}
use Rattle.std.proofs.Math.Nat.{zero-div, mul-zero}
use borrow.Author.Tests.{eqb-true, eq-eqb}
use mathlib.Core.Path.{fun_ext}
use Rattle.theory_reader.specs.Seen.{seen}
use Rattle.mepo_filter.specs.declared.chosen.Chosen.{Chosen}
use Rattle.mepo_filter.specs.declared.slice.Slice.{Slice}
use Rattle.mepo_filter.specs.Constants.{occurs_in}
use Rattle.mepo_filter.specs.Scores.{Candidate, score, reaches, weight_among}
use Rattle.mepo_filter.specs.Ranking.{is_above, ranked}
use Rattle.mepo_filter.specs.Rounds.{Round, rounds, taken, is_taken, chosen_in, joined, risen, next, unless_none}
use Rattle.mepo_filter.specs.Mepo.{candidate, candidates, goal_constants, first_round, ranking}
use Rattle.mepo_filter.specs.Least.{members, Holds, taken_set, TakenIsLeast}
use Rattle.mepo_filter.proofs.Growing.{Within, reaches_more}
use Rattle.mepo_filter.proofs.Members.{In, in_from, in_filter, of_filter, any_from, of_any, any_in_order, any_map, or-left, or-right, or-cases, cases}

in_to : {X : Type 0} (x : X) (xs : List X) → In x xs → Contains xs x
in_to x [] i = absurd i
in_to x (y ∷ ys) (inl e) = (0, omega arith, e)
in_to x (y ∷ ys) (inr i) = let rest : Contains ys x = in_to x ys i in (suc rest.0, omega (arith, rest.1), rest.2)

some_in : {X : Type 0} (x : X) (xs : List X) → In x xs → 0 < length xs
some_in x [] i = absurd i
some_in x (y ∷ ys) i = omega arith

-- a fact or a chosen one has the number
abbrev is_fact : ℕ → Candidate → Bool
is_fact m f = f.fact == m

abbrev is_chosen : ℕ → Chosen → Bool
is_chosen m c = c.fact == m

module _ (weigh : ℕ → ℕ) (s : Slice) where
  -- the number is among the facts of at most n rounds
  abbrev in_rounds : ℕ → Round → ℕ → Bool
  in_rounds n r m = list_any (is_chosen m) (rounds weigh s n r)

  -- the facts of one round, and the rest
  abbrev ranking_of : Round → List Candidate → List Chosen → List Chosen
  ranking_of r ts rest = unless_none ts (ranked (map (chosen_in weigh r) ts) ++ rest)

  split : (r : Round) (t : Candidate) (ts : List Candidate) (rest : List Chosen) (m : ℕ) →
      list_any (is_chosen m) (ranking_of r (t ∷ ts) rest) ≡ (list_any (is_fact m) (t ∷ ts) || list_any (is_chosen m) rest)
  split r t ts rest m =
      list_any-append (is_chosen m) (ranked (map (chosen_in weigh r) (t ∷ ts))) rest
      ∙ ap (λ b. b || list_any (is_chosen m) rest)
      (any_in_order (is_chosen m) is_above (map (chosen_in weigh r) (t ∷ ts)) ∙ any_map (is_chosen m) (chosen_in weigh r) (t ∷ ts))

  parts : (r : Round) (ts : List Candidate) (rest : List Chosen) (m : ℕ) → list_any (is_chosen m) (ranking_of r ts rest) ≡ true →
      (list_any (is_fact m) ts ≡ true) ⊎ (list_any (is_chosen m) rest ≡ true)
  parts r [] rest m e = absurd (cc)
  parts r (t ∷ ts) rest m e = or-cases (list_any (is_fact m) (t ∷ ts)) (list_any (is_chosen m) rest) (sym (split r t ts rest m) ∙ e)

  by_round : (r : Round) (ts : List Candidate) (rest : List Chosen) (m : ℕ) → list_any (is_fact m) ts ≡ true → list_any (is_chosen m) (ranking_of r ts rest) ≡ true
  by_round r [] rest m e = absurd (cc)
  by_round r (t ∷ ts) rest m e = split r t ts rest m ∙ or-left (list_any (is_fact m) (t ∷ ts)) (list_any (is_chosen m) rest) e

  by_rest : (r : Round) (t : Candidate) (ts : List Candidate) (rest : List Chosen) (m : ℕ) → list_any (is_chosen m) rest ≡ true → list_any (is_chosen m) (ranking_of r (t ∷ ts) rest) ≡ true
  by_rest r t ts rest m e = split r t ts rest m ∙ or-right (list_any (is_fact m) (t ∷ ts)) (list_any (is_chosen m) rest) e

  module _ (rise : s.rise ≡ 0) (p : ℕ) (small : p ≤ 2 ^ 20) where
    mark_stays : (m : ℕ) → risen s m ≡ m
    mark_stays m =
        ap (λ k. m + (2 ^ 20 - m) * k / s.of) rise ∙ ap (λ k. m + k / s.of) (mul-zero (2 ^ 20 - m)) ∙ ap (λ k. m + k) (zero-div s.of) ∙ add-zero m

    -- ---- within each set that holds what reaches the mark
    module _ (goal : ℕ → Bool) (facts : List Candidate) (set : ℕ → Bool) (closed : Holds weigh goal p facts set) where
      taken_held : (r : Round) → r.mark ≡ p → Within r.relevant (joined goal (members facts set)) → ((f : Candidate) → In f r.left → In f facts) →
          (f : Candidate) → In f (taken weigh r) → set f.fact ≡ true
      taken_held r at within left f i =
          let passed = of_filter (is_taken weigh r) f r.left i in
          closed f (in_to f facts (left f passed.0))
          (reaches_more weigh r.relevant (joined goal (members facts set)) p small within f.constants
          (ap (λ q. reaches q (score weigh r.relevant f.constants)) (sym at) ∙ passed.1))

      next_within : (r : Round) → r.mark ≡ p → Within r.relevant (joined goal (members facts set)) → ((f : Candidate) → In f r.left → In f facts) →
          Within (joined r.relevant (taken weigh r)) (joined goal (members facts set))
      next_within r at within left c e =
          elim (or-cases (r.relevant c) (list_any (λ f. occurs_in f.constants c) (taken weigh r)) e) [
            | inl a ↦ within c a
            | inr b ↦
                (let f = of_any (λ (f : Candidate). occurs_in f.constants c) (taken weigh r) b in
                let here = of_filter (is_taken weigh r) f.0 r.left f.1 in
                or-right (goal c) (list_any (λ f. occurs_in f.constants c) (members facts set))
                (any_from (λ (f : Candidate). occurs_in f.constants c) f.0 (members facts set)
                (in_filter (λ (f : Candidate). set f.fact) f.0 facts (left f.0 here.0) (taken_held r at within left f.0 f.1)) f.2))
          ]

      least : (n : ℕ) (r : Round) → r.mark ≡ p → Within r.relevant (joined goal (members facts set)) → ((f : Candidate) → In f r.left → In f facts) →
          (m : ℕ) → in_rounds n r m ≡ true → set m ≡ true
      least zero r at within left m e = absurd (cc)
      least (suc n) r at within left m e =
          elim (parts r (taken weigh r) (rounds weigh s n (next weigh s r)) m e) [
            | inl a ↦
                (let f = of_any (is_fact m) (taken weigh r) a in
                ap set (sym (eqb-true f.0.fact m f.2)) ∙ taken_held r at within left f.0 f.1)
            | inr b ↦
                least n (next weigh s r) (mark_stays r.mark ∙ at) (next_within r at within left)
                (λ f i. left f (of_filter (λ f. not (is_taken weigh r f)) f r.left i).0) m b
          ]

    -- ---- what reaches the mark is taken
    not_of_false : (b : Bool) → b ≡ false → not b ≡ true
    not_of_false b e = ap not e

    module _ (of_number : ℕ → Candidate) where
      -- a round that takes none has none that reaches the mark
      none_reaches : (r : Round) → r.mark ≡ p → (found : ℕ → Bool) → ((m : ℕ) → found m ≡ false) → taken weigh r ≡ [] →
          (f : Candidate) → In f r.left → reaches p (score weigh (joined r.relevant (members r.left found)) f.constants) ≡ true → ⊥
      none_reaches r at found nothing empty f i e =
          let only : Within (joined r.relevant (members r.left found)) r.relevant = λ c h.
          elim (or-cases (r.relevant c) (list_any (λ g. occurs_in g.constants c) (members r.left found)) h) [
            | inl a ↦ a
            | inr b ↦
                (let g = of_any (λ (g : Candidate). occurs_in g.constants c) (members r.left found) b in
                let held : found g.0.fact ≡ true = (of_filter (λ (g : Candidate). found g.fact) g.0 r.left g.1).1 in
                let not_held : found g.0.fact ≡ false = nothing g.0.fact in
                let same : true ≡ false = sym held ∙ not_held in absurd (cc))
          ] in
          let passes : is_taken weigh r f ≡ true =
          ap (λ q. reaches q (score weigh r.relevant f.constants)) at
          ∙ reaches_more weigh (joined r.relevant (members r.left found)) r.relevant p small only f.constants e in
          subst (In f) empty (in_filter (is_taken weigh r) f r.left i passes)

      further : (n : ℕ) (r : Round) (t : Candidate) (ts : List Candidate) → taken weigh r ≡ t ∷ ts → ((f : Candidate) → In f r.left → f ≡ of_number f.fact) →
          Within (joined r.relevant (members r.left (in_rounds (suc n) r)))
          (joined (joined r.relevant (taken weigh r)) (members (next weigh s r).left (in_rounds n (next weigh s r))))
      further n r t ts is determined c e =
          elim (or-cases (r.relevant c) (list_any (λ g. occurs_in g.constants c) (members r.left (in_rounds (suc n) r))) e) [
            | inl a ↦ or-left _ _ (or-left (r.relevant c) _ a)
            | inr b ↦
                (let g = of_any (λ (g : Candidate). occurs_in g.constants c) (members r.left (in_rounds (suc n) r)) b in
                let here = of_filter (λ (g : Candidate). in_rounds (suc n) r g.fact) g.0 r.left g.1 in
                elim (parts r (taken weigh r) (rounds weigh s n (next weigh s r)) g.0.fact here.1) [
                  | inl k ↦
                      (let f = of_any (is_fact g.0.fact) (taken weigh r) k in
                      let same : f.0 ≡ g.0 =
                      determined f.0 (of_filter (is_taken weigh r) f.0 r.left f.1).0 ∙ ap of_number (eqb-true f.0.fact g.0.fact f.2) ∙ sym (determined g.0 here.0) in
                      or-left _ _ (or-right (r.relevant c) _ (any_from (λ (f : Candidate). occurs_in f.constants c) f.0 (taken weigh r) f.1
                      (ap (λ (x : Candidate). occurs_in x.constants c) same ∙ g.2))))
                  | inr k ↦
                      elim (cases (is_taken weigh r g.0)) [
                        | inl passes ↦
                            or-left _ _ (or-right (r.relevant c) _ (any_from (λ (f : Candidate). occurs_in f.constants c) g.0 (taken weigh r)
                            (in_filter (is_taken weigh r) g.0 r.left here.0 passes) g.2))
                        | inr fails ↦
                            or-right _ _ (any_from (λ (f : Candidate). occurs_in f.constants c) g.0 (members (next weigh s r).left (in_rounds n (next weigh s r)))
                            (in_filter (λ (f : Candidate). in_rounds n (next weigh s r) f.fact) g.0 (next weigh s r).left
                            (in_filter (λ f. not (is_taken weigh r f)) g.0 r.left here.0 (not_of_false (is_taken weigh r g.0) fails)) k) g.2)
                      ]
                ])
          ]

      held : (n : ℕ) (r : Round) → r.mark ≡ p → length r.left ≤ n → ((f : Candidate) → In f r.left → f ≡ of_number f.fact) →
          (f : Candidate) → In f r.left → reaches p (score weigh (joined r.relevant (members r.left (in_rounds n r))) f.constants) ≡ true →
          in_rounds n r f.fact ≡ true
      held zero r at few determined f i e = absurd (omega (arith, some_in f r.left i))
      held (suc n) r at few determined f i e =
          go (taken weigh r) refl (held n (next weigh s r) (mark_stays r.mark ∙ at))
        where
          go : (ts : List Candidate) → taken weigh r ≡ ts →
              (length (next weigh s r).left ≤ n → ((f : Candidate) → In f (next weigh s r).left → f ≡ of_number f.fact) →
              (f : Candidate) → In f (next weigh s r).left →
              reaches p (score weigh (joined (next weigh s r).relevant (members (next weigh s r).left (in_rounds n (next weigh s r)))) f.constants) ≡ true →
              in_rounds n (next weigh s r) f.fact ≡ true) →
              in_rounds (suc n) r f.fact ≡ true
          go [] is more =
              absurd (none_reaches r at (in_rounds (suc n) r)
              (λ (m : ℕ). ap (λ ts. list_any (is_chosen m) (ranking_of r ts (rounds weigh s n (next weigh s r)))) is) is f i e)
          go (t ∷ ts) is more =
              elim (cases (is_taken weigh r f)) [
                | inl passes ↦
                    by_round r (taken weigh r) (rounds weigh s n (next weigh s r)) f.fact
                    (any_from (is_fact f.fact) f (taken weigh r) (in_filter (is_taken weigh r) f r.left i passes) (eq-eqb f.fact f.fact refl))
                | inr fails ↦
                    (let fewer : length (next weigh s r).left ≤ n =
                    omega (arith, length-filter_both (is_taken weigh r) (λ g. not (is_taken weigh r g)) (λ g. refl) r.left, ap length is) in
                    let rest : in_rounds n (next weigh s r) f.fact ≡ true =
                    more fewer (λ g j. determined g (of_filter (λ g. not (is_taken weigh r g)) g r.left j).0) f
                    (in_filter (λ g. not (is_taken weigh r g)) f r.left i (not_of_false (is_taken weigh r f) fails))
                    (reaches_more weigh (joined r.relevant (members r.left (in_rounds (suc n) r)))
                    (joined (joined r.relevant (taken weigh r)) (members (next weigh s r).left (in_rounds n (next weigh s r))))
                    p small (further n r t ts is determined) f.constants e) in
                    ap (λ us. list_any (is_chosen f.fact) (ranking_of r us (rounds weigh s n (next weigh s r)))) is
                    ∙ by_rest r t ts (rounds weigh s n (next weigh s r)) f.fact rest)
              ]

of_map : (h : ℕ → Candidate) → ((n : ℕ) → (h n).fact ≡ n) → (ns : List ℕ) (f : Candidate) → In f (map h ns) → f ≡ h f.fact
of_map h number [] f i = absurd i
of_map h number (n ∷ ns) f (inl e) = sym e ∙ ap h (sym (number n) ∙ ap (λ (g : Candidate). g.fact) e)
of_map h number (n ∷ ns) f (inr i) = of_map h number ns f i

pub taken_is_least : TakenIsLeast
taken_is_least t visible goal s rise small =
    let facts = candidates t visible goal in
    let weigh = weight_among facts in
    let first = first_round t visible goal s in
    let same : (λ (m : ℕ). list_any (is_chosen m) (ranking t visible goal s)) ≡ taken_set t visible goal s =
    fun_ext (λ (m : ℕ). sym (any_map (λ d. d == m) (λ (c : Chosen). c.fact) (ranking t visible goal s))) in
    let few : length facts ≤ length visible = omega (arith, length-map visible (candidate (seen t goal))) in
    record {
      holds = subst (Holds weigh (goal_constants t goal) s.mark facts) same
          (λ f i e. held weigh s rise s.mark small (candidate (seen t goal)) (length visible) first refl few
          (of_map (candidate (seen t goal)) (λ n. refl) visible) f (in_from f facts i) e);
      least = λ set closed n e.
          least weigh s rise s.mark small (goal_constants t goal) facts set closed (length visible) first refl
          (λ c h. or-left (goal_constants t goal c) _ h) (λ f i. i) n (ap (λ (found : ℕ → Bool). found n) same ∙ e);
    }
