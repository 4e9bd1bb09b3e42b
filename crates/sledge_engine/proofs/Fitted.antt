-- The facts beside a goal that fit, by their numbers and by their names.
use Rattle.std.proofs.Common.{ℕ, ◌≡◌, ◌∙◌, ◌+◌, ◌<◌, ◌≤◌, ◌^◌, Bool, true, false, List, [], ◌∷◌, ◌++◌, length, map, drop, get_or, refl, sym, ap, subst, IsTrue, if◌then◌else◌, add-one, append_assoc, arith}
use Rattle.std.specs.Prelude.{◌||◌, not, Option, Some, None, filter, slice_get}
use Rattle.std.specs.Option.{option_map, option_map_or}
use Rattle.std.specs.Str.{bytes_eq}
use Rattle.std.proofs.lemmas.List.{append-nil, drop_more, length-map}
use Rattle.std.proofs.lemmas.Option.{slice_get-get_or, slice_get-map}
use Rattle.std.proofs.lemmas.Slice.Eq.{bytes_eq-Decides}
use Rattle.hol_terms.proofs.Both.{both_false, both_true}
use Rattle.hol_terms.specs.declared.env.Env.{Env}
use Rattle.hol_terms.specs.declared.term.Term.{Term}
use Rattle.theory_terms.specs.Words.{place}
use Rattle.theory_terms.proofs.Places.{at_first, at_rest}
use Rattle.theory_reader.specs.declared.statement.Fact.{Fact}
use Rattle.theory_reader.specs.declared.statement.Goal.{Goal}
use Rattle.theory_reader.specs.declared.theory.Theory.{Theory}
use Rattle.theory_reader.specs.Names.{distinct}
use Rattle.theory_reader.specs.Sound.{fact_names, seen_from}
use Rattle.theory_reader.proofs.SeenNames.{seen_differ}
use Rattle.theory_reader.specs.Seen.{IsEnvOf, seen}
use Rattle.formula_clauses.specs.Fits.{fits}
use Rattle.sledge_engine.specs.Choice.{is_named, visible_facts}
use Rattle.slot_work.specs.Visible.{places_from, visible, fact_fits, goal_fits, signature}
use Rattle.sledge_engine.specs.inner.Visible.{IsSeen, fits_at}
use Rattle.slot_work.proofs.Few.{few_seen}

-- ---- numbers

places_map : {X Y : Type 0} (f : X → Y) (p : Y → Bool) (i : ℕ) (xs : List X) → places_from i p (map f xs) ≡ places_from i (λ x. p (f x)) xs
places_map f p i [] = refl
places_map f p i (x ∷ xs) = rw (places_map f p (i + 1) xs)

either : {X : Type 0} (f : Fact → X) (p : X → Bool) (o : Option Fact) → option_map_or p (option_map f o) false ≡ option_map_or (λ x. p (f x)) o false
either f p None = refl
either f p (Some x) = refl

module _ (t : Theory) (goal : ℕ) (e : Env) (is : IsEnvOf t goal e) where
  -- what fits over the environment fits over the theory
  pub visible_by : places_from 0 (λ f. fits e.sig f false) e.facts ≡ visible t goal
  visible_by =
      ap (λ s. places_from 0 (λ f. fits s f false) e.facts) is.sig ∙ ap (places_from 0 (λ f. fits (signature t) f false)) is.facts
      ∙ places_map (λ f. f.formula) (λ f. fits (signature t) f false) 0 (seen t goal)

  pub fits_by : (n : ℕ) → fits_at e n ≡ option_map_or (fact_fits t) (slice_get (seen t goal) n) false
  fits_by n =
      ap (λ s. option_map_or (λ f. fits s f false) (slice_get e.facts n) false) is.sig
      ∙ ap (λ fs. option_map_or (λ f. fits (signature t) f false) (slice_get fs n) false) is.facts
      ∙ ap (λ o. option_map_or (λ f. fits (signature t) f false) o false) (slice_get-map (λ f. f.formula) (seen t goal) n)
      ∙ either (λ f. f.formula) (λ f. fits (signature t) f false) (slice_get (seen t goal) n)

  pub few_facts : length e.facts < 2 ^ 32
  few_facts = subst (λ n. n < 2 ^ 32) (sym (ap length is.facts ∙ length-map (seen t goal) (λ f. f.formula))) (few_seen t goal)

  pub as_many : (names : List (List ℕ)) → names ≡ fact_names (seen t goal) → length e.facts ≡ length names
  as_many names are =
      ap length is.facts ∙ length-map (seen t goal) (λ f. f.formula) ∙ sym (length-map (seen t goal) (λ f. f.name)) ∙ ap length (sym are)

measured : (q : Term → Bool) (o : Option Goal) (f : Term) → option_map (λ g. g.formula) o ≡ Some f → q f ≡ option_map_or (λ g. q g.formula) o false
measured q None f e = absurd cc
measured q (Some g) f e = ap q cc

-- the goal fits over its environment
pub goal_by : (t : Theory) (goal : ℕ) (e : Env) → IsEnvOf t goal e → fits e.sig e.goal true ≡ goal_fits t goal
goal_by t goal e is = ap (λ s. fits s e.goal true) is.sig ∙ measured (λ f. fits (signature t) f true) (slice_get t.goals goal) e.goal is.goal

-- one more item is looked at
pub places_more : (p : Term → Bool) (xs : List Term) (i : ℕ) (d : Term) (out : List ℕ) (small : Bool) → i < length xs →
    small ≡ option_map_or p (slice_get xs i) false →
    (out ++ (if small then i ∷ [] else [])) ++ places_from (i + 1) p (drop (i + 1) xs) ≡ out ++ places_from i p (drop i xs)
places_more p xs i d out small lt is =
    let item : slice_get xs i ≡ Some (get_or xs i d) = slice_get-get_or xs i d lt in
    let passed : small ≡ p (get_or xs i d) = is ∙ ap (λ o. option_map_or p o false) item in
    placed small (get_or xs i d) passed ∙ sym (ap (λ l. out ++ places_from i p l) (drop_more xs i d lt))
  where
    placed : (b : Bool) (x : Term) → b ≡ p x → (out ++ (if b then i ∷ [] else [])) ++ places_from (i + 1) p (drop (i + 1) xs) ≡ out ++ places_from i p (x ∷ drop (i + 1) xs)
    placed true x e = append_assoc out (i ∷ []) _ ∙ ap (λ b. out ++ (if b then i ∷ places_from (i + 1) p (drop (i + 1) xs) else places_from (i + 1) p (drop (i + 1) xs))) e
    placed false x e = ap (λ l. l ++ places_from (i + 1) p (drop (i + 1) xs)) (append-nil out) ∙ ap (λ b. out ++ (if b then i ∷ places_from (i + 1) p (drop (i + 1) xs) else places_from (i + 1) p (drop (i + 1) xs))) e

-- ---- names

module _ (p : Fact → Bool) where
  pub kept : (w : List ℕ) (f : Fact) (fs : List Fact) (b : Bool) → p f ≡ b → bytes_eq w f.name ≡ false →
      is_named (fact_names (filter p (f ∷ fs))) w ≡ is_named (fact_names (filter p fs)) w
  kept w f fs true passed other =
      ap (λ b. is_named (fact_names (if b then f ∷ filter p fs else filter p fs)) w) passed ∙ ap (λ b. b || is_named (fact_names (filter p fs)) w) other
  kept w f fs false passed other = ap (λ b. is_named (fact_names (if b then f ∷ filter p fs else filter p fs)) w) passed

  -- a name that no fact has is the name of none that passes
  pub absent : (w : List ℕ) (fs : List Fact) → is_named (fact_names fs) w ≡ false → is_named (fact_names (filter p fs)) w ≡ false
  absent w [] none = refl
  absent w (f ∷ fs) none =
      let both = both_false (bytes_eq w f.name) (is_named (fact_names fs) w) none in
      kept w f fs (p f) refl both.0 ∙ absent w fs both.1

  -- what stands at a place passes
  abbrev pub passes_at : List Fact → Option ℕ → Bool
  passes_at fs None = false
  passes_at fs (Some k) = option_map_or p (slice_get fs k) false

  later : (f : Fact) (fs : List Fact) (o : Option ℕ) → passes_at (f ∷ fs) (option_map (λ i. i + 1) o) ≡ passes_at fs o
  later f fs None = refl
  later f fs (Some k) = ap (λ i. option_map_or p (slice_get (f ∷ fs) i) false) (add-one k)

  -- the first fact has the name, and no other has it
  first : (w : List ℕ) (f : Fact) (fs : List Fact) (q : Bool) → bytes_eq w f.name ≡ true → p f ≡ q → is_named (fact_names fs) f.name ≡ false →
      is_named (fact_names (filter p (f ∷ fs))) w ≡ q
  first w f fs true same passed apart =
      ap (λ b. is_named (fact_names (if b then f ∷ filter p fs else filter p fs)) w) passed ∙ ap (λ b. b || is_named (fact_names (filter p fs)) w) same
  first w f fs false same passed apart =
      let is : w ≡ f.name = (bytes_eq-Decides w f.name).0 same in
      ap (λ b. is_named (fact_names (if b then f ∷ filter p fs else filter p fs)) w) passed ∙ absent w fs (ap (is_named (fact_names fs)) is ∙ apart)

  named_step : (w : List ℕ) (f : Fact) (fs : List Fact) (b : Bool) → bytes_eq w f.name ≡ b → is_named (fact_names fs) f.name ≡ false →
      is_named (fact_names (filter p fs)) w ≡ passes_at fs (place w (fact_names fs)) →
      is_named (fact_names (filter p (f ∷ fs))) w ≡ passes_at (f ∷ fs) (place w (fact_names (f ∷ fs)))
  named_step w f fs true same apart rest =
      first w f fs (p f) same refl apart ∙ sym (ap (passes_at (f ∷ fs)) (at_first (bytes_eq w) f.name (fact_names fs) same))
  named_step w f fs false other apart rest =
      kept w f fs (p f) refl other ∙ rest
      ∙ sym (ap (passes_at (f ∷ fs)) (at_rest (bytes_eq w) f.name (fact_names fs) other) ∙ later f fs (place w (fact_names fs)))

  pub not_true : (b : Bool) → IsTrue (not b) → b ≡ false
  not_true true h = absurd cc
  not_true false h = refl

  -- where names differ, a name is that of a fact that passes exactly where what stands at its place does
  pub named_place : (w : List ℕ) (fs : List Fact) → IsTrue (distinct (fact_names fs)) → is_named (fact_names (filter p fs)) w ≡ passes_at fs (place w (fact_names fs))
  named_place w [] d = refl
  named_place w (f ∷ fs) d =
      let apart = both_true (not (is_named (fact_names fs) f.name)) (distinct (fact_names fs)) d in
      named_step w f fs (bytes_eq w f.name) refl (not_true (is_named (fact_names fs) f.name) apart.0) (named_place w fs apart.1)

distinct_of : (t : Theory) (goal : ℕ) (o : Option Goal) → slice_get t.goals goal ≡ o → IsTrue (distinct (fact_names (option_map_or (seen_from t.facts) o [])))
distinct_of t goal None is = refl
distinct_of t goal (Some g) is = seen_differ t.types t.consts t.facts t.goals goal g t.names_differ is

pub distinct_seen : (t : Theory) (goal : ℕ) → IsTrue (distinct (fact_names (seen t goal)))
distinct_seen t goal = distinct_of t goal (slice_get t.goals goal) refl

-- a name is visible where what stands at its place fits
pub visible_at : (t : Theory) (goal : ℕ) (w : List ℕ) → is_named (fact_names (visible_facts t goal)) w ≡ passes_at (fact_fits t) (seen t goal) (place w (fact_names (seen t goal)))
visible_at t goal w = named_place (fact_fits t) w (seen t goal) (distinct_seen t goal)

-- what stands at a name's place is visible where it fits
pub visible_by_place : (t : Theory) (goal : ℕ) (e : Env) (names : List (List ℕ)) (name : List ℕ) (k : ℕ) → IsSeen t goal e names → place name names ≡ Some k →
    fits_at e k ≡ is_named (fact_names (visible_facts t goal)) name
visible_by_place t goal e names name k seen_by at =
    fits_by t goal e seen_by.env k
    ∙ sym (visible_at t goal name ∙ ap (passes_at (fact_fits t) (seen t goal)) (ap (place name) (sym seen_by.names_are) ∙ at))

-- a name without a place isn't that of a visible fact
pub hidden_by_place : (t : Theory) (goal : ℕ) (e : Env) (names : List (List ℕ)) (name : List ℕ) → IsSeen t goal e names → place name names ≡ None →
    false ≡ is_named (fact_names (visible_facts t goal)) name
hidden_by_place t goal e names name seen_by none =
    sym (visible_at t goal name ∙ ap (passes_at (fact_fits t) (seen t goal)) (ap (place name) (sym seen_by.names_are) ∙ none))

-- no more numbers than items
pub places_few : {X : Type 0} (p : X → Bool) (i : ℕ) (xs : List X) → length (places_from i p xs) ≤ length xs
places_few p i [] = omega arith
places_few p i (x ∷ xs) = counted (p x) (places_few p (i + 1) xs)
  where
    counted : (b : Bool) → length (places_from (i + 1) p xs) ≤ length xs →
        length (if b then i ∷ places_from (i + 1) p xs else places_from (i + 1) p xs) ≤ length (x ∷ xs)
    counted true le = omega (arith, le)
    counted false le = omega (arith, le)
