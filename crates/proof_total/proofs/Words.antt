-- How far a word goes on as one that a state takes, where the state doesn't take it.
use Rattle.std.proofs.Common.{◌≡◌, ◌⊎◌, inl, inr, ℕ, ◌+◌, ◌≤◌, if◌then◌else◌, Bool, true, false, List, [], ◌∷◌, ◌++◌, length, map, take, codes, decimal, Option, Some, None, refl, sym, ap, ◌∙◌, arith}
use Rattle.std.specs.Str.{bytes_eq}
use Rattle.hol_terms.specs.declared.ty.Ty.{Ty}
use Rattle.hol_terms.specs.declared.term.Term.{Term}
use Rattle.first_fault.specs.Walk.{Step}
use Rattle.kernel_rules.specs.declared.step.Step as kernel
use Rattle.proof_words.specs.Sharing.{Shares, IsNumber, IsOneOf}
use Rattle.proof_words.specs.inner.Steps.{most_shared}
use Rattle.proof_words.proofs.Fronts as fronts
use Rattle.proof_syntax.specs.Tokens.{Word}
use Rattle.proof_syntax.specs.Names.{Names}
use Rattle.proof_syntax.specs.Forms.{Plain, plain_word, Typed, typed_word}
use Rattle.proof_syntax.specs.Machine.{State, StepStart, StepSpace, LastEnd, RuleWord, Behind, WantArg, WantType, HaveType, WantTerm, HaveTerm, WantBound, WantFree, WantConst, Frame, From, To, OfTyped, OfLambda, Function, Argument, Kind, FactKind, NumberKind, Opened, Stepped, Rule, rule_in, rules, opened, behind, number_in, number_arg, have_type, have_term, bound_is, free_is, plain_in, plains, typed_in, typeds, word_is, typed_is, step}
use Rattle.proof_syntax.proofs.Numbers.{eq_true, eq_same, number_back, number_only}
use Rattle.proof_total.proofs.Found as found
use Rattle.proof_total.proofs.Numbers as numbers

-- something is there
abbrev pub Taken : (A : Type 0) → Option A → Type 0
Taken A o = (r : A) × (o ≡ Some r)

-- `count` bytes of the word are those of a word that is taken, and no word that shares more of it is taken
-- `takes v`: what is made of the word `v` where it is taken
pub record GoesInto (A : Type 0) (takes : List ℕ → Option A) (w : List ℕ) : Type 0 where
  pub count : ℕ
  pub room : count ≤ length w
  pub some : (count ≡ 0) ⊎ ((v : List ℕ) × Taken A (takes v) × (take count v ≡ take count w))
  pub most : (v : List ℕ) → take (count + 1) v ≡ take (count + 1) w → takes v ≡ None

none_of : (A : Type 0) (o : Option A) → ((r : A) → o ≡ Some r → ⊥) → o ≡ None
none_of A None h = refl
none_of A (Some r) h = absurd (h r refl)

not_both : (A : Type 0) (o : Option A) (r : A) → o ≡ None → o ≡ Some r → ⊥
not_both A o r e f = cc

split : (A : Type 0) (o : Option A) → (o ≡ None) ⊎ Taken A o
split A None = inl refl
split A (Some r) = inr (r, refl)

module _ (A : Type 0) (takes : List ℕ → Option A) (w : List ℕ) where
  -- the words that are taken are those that are meant
  from_shares : (Meant : List ℕ → Type 0) → ((v : List ℕ) → Meant v → Taken A (takes v)) → ((v : List ℕ) (r : A) → takes v ≡ Some r → Meant v) → (n : ℕ) → Shares Meant w n → GoesInto A takes w
  from_shares Meant taken meant n h = record {
    count = n;
    room = h.room;
    some = elim h.some [ inl none ↦ inl none | inr s ↦ inr (s.0, taken s.0 s.1, s.2) ];
    most = λ v same. none_of A (takes v) (λ r e. h.most v (meant v r e) same);
  }

  -- no word is taken
  pub no_word : ((v : List ℕ) → takes v ≡ None) → GoesInto A takes w
  no_word h = record { count = 0; room = omega arith; some = inl refl; most = λ v same. h v }

  -- the words of a list are taken
  pub of_words : (words : List (List ℕ)) → ((v : List ℕ) → IsOneOf words v → Taken A (takes v)) → ((v : List ℕ) (r : A) → takes v ≡ Some r → IsOneOf words v) → takes w ≡ None → GoesInto A takes w
  of_words words taken meant stuck =
      from_shares (IsOneOf words) taken meant (most_shared w words) (fronts.shares w words (λ is. let t = taken w is in not_both A (takes w) t.0 stuck t.1))

  -- numbers are taken
  of_numbers : ((v : List ℕ) → IsNumber v → Taken A (takes v)) → ((v : List ℕ) (r : A) → takes v ≡ Some r → IsNumber v) → takes w ≡ None → GoesInto A takes w
  of_numbers taken meant stuck = elim (numbers.settled w) [
    | inl is ↦ let t = taken w is in absurd (not_both A (takes w) t.0 stuck t.1)
    | inr h ↦ from_shares IsNumber taken meant h.0 h.1
  ]

-- ---- numbers

is_number : (w : List ℕ) (n : ℕ) → number_in w ≡ Some n → IsNumber w
is_number w n e = let is = number_only w n e in (n, is.0, is.1)

writes : (w : List ℕ) (is : IsNumber w) → number_in w ≡ Some is.0
writes w is = ap (λ v. number_in v) is.2 ∙ number_back is.0 is.1

bound_number : (k : List Frame) (w : List ℕ) (o : Option ℕ) (r : Step State) → number_in w ≡ o → bound_is k o ≡ Some r → IsNumber w
bound_number k w None r e h = cc
bound_number k w (Some n) r e h = is_number w n e

free_number : (k : List Frame) (w : List ℕ) (o : Option ℕ) (r : Step State) → number_in w ≡ o → free_is k o ≡ Some r → IsNumber w
free_number k w None r e h = cc
free_number k w (Some n) r e h = is_number w n e

arg_number : (o : Opened) (kinds : List Kind) (w : List ℕ) (n : Option ℕ) (r : Step State) → number_in w ≡ n → number_arg o kinds n ≡ Some r → IsNumber w
arg_number o kinds w None r e h = cc
arg_number o kinds w (Some n) r e h = is_number w n e

-- ---- the words of terms

abbrev constants : List (List ℕ)
constants = map plain_word plains ++ map typed_word typeds

module _ (k : List Frame) (w : List ℕ) where
  typed_taken : plain_in w plains ≡ None → IsOneOf (map typed_word typeds) w → Taken (Step State) (word_is k w (plain_in w plains))
  typed_taken e is =
      let c = found.one_found Typed typed_word w typeds is in
      (_, ap (λ o. word_is k w o) e ∙ ap (λ o. typed_is k o) (found.typed_is w typeds ∙ c.1))

  constant_taken : IsOneOf constants w → Taken (Step State) (word_is k w (plain_in w plains))
  constant_taken is = elim (split Plain (plain_in w plains)) [
    | inr c ↦ (_, ap (λ o. word_is k w o) c.1)
    | inl e ↦ elim (found.either (map plain_word plains) (map typed_word typeds) w is) [
      | inl a ↦ let c = found.one_found Plain plain_word w plains a in absurd (not_both Plain (plain_in w plains) c.0 e (found.plain_is w plains ∙ c.1))
      | inr b ↦ typed_taken e b
    ]
  ]

  taken_typed : (o : Option Typed) (r : Step State) → typed_in w typeds ≡ o → typed_is k o ≡ Some r → IsOneOf (map typed_word typeds) w
  taken_typed None r e h = cc
  taken_typed (Some c) r e h = found.found_one Typed typed_word w typeds c (sym (found.typed_is w typeds) ∙ e)

  taken_constant : (o : Option Plain) (r : Step State) → plain_in w plains ≡ o → word_is k w o ≡ Some r → IsOneOf constants w
  taken_constant None r e h = found.right_one (map plain_word plains) (map typed_word typeds) w (taken_typed (typed_in w typeds) r refl h)
  taken_constant (Some c) r e h = found.left_one (map plain_word plains) (map typed_word typeds) w (found.found_one Plain plain_word w plains c (sym (found.plain_is w plains) ∙ e))

-- ---- the words of rules

module _ (before : List kernel.Step) (w : List ℕ) where
  rule_taken : IsOneOf (map found.rule_word rules) w → Taken (Step State) (opened before (rule_in w rules))
  rule_taken is = let r = found.one_found Rule found.rule_word w rules is in (_, ap (λ o. opened before o) (found.rule_is w rules ∙ r.1))

  taken_rule : (o : Option Rule) (r : Step State) → rule_in w rules ≡ o → opened before o ≡ Some r → IsOneOf (map found.rule_word rules) w
  taken_rule None r e h = cc
  taken_rule (Some x) r e h = found.found_one Rule found.rule_word w rules x (sym (found.rule_is w rules) ∙ e)

-- ---- a step's number, and the last word

abbrev starts : ℕ → List (List ℕ)
starts n = decimal n ∷ codes "end" ∷ []

module _ (before : List kernel.Step) (n : ℕ) (w : List ℕ) where
  abbrev started : Bool → Bool → Stepped
  started a b = if a then Some (record { level = 0; state = StepSpace before }) else if b then Some (record { level = 0; state = LastEnd before }) else None

  start_taken : (a b : Bool) → bytes_eq w (decimal n) ≡ a → bytes_eq w (codes "end") ≡ b → IsOneOf (starts n) w → Taken (Step State) (started a b)
  start_taken true b e f h = (_, refl)
  start_taken false true e f h = (_, refl)
  start_taken false false e f (inl is) = let same = eq_true w (decimal n) is in cc
  start_taken false false e f (inr (inl is)) = let same = eq_true w (codes "end") is in cc
  start_taken false false e f (inr (inr never)) = absurd never

  taken_start : (a b : Bool) (r : Step State) → bytes_eq w (decimal n) ≡ a → bytes_eq w (codes "end") ≡ b → started a b ≡ Some r → IsOneOf (starts n) w
  taken_start true b r e f h = inl (eq_same w (decimal n) e)
  taken_start false true r e f h = inr (inl (eq_same w (codes "end") f))
  taken_start false false r e f h = cc

-- ---- where no word is taken

behind_word : (o : Opened) (kinds : List Kind) (w : List ℕ) → behind o kinds (Word w) ≡ None
behind_word o [] w = refl
behind_word o (kind ∷ kinds) w = refl

type_word : (a : Ty) (k : List Frame) (w : List ℕ) → have_type a k (Word w) ≡ None
type_word a [] w = refl
type_word a (From ∷ k) w = refl
type_word a (To b ∷ k) w = refl
type_word a (OfTyped c ∷ k) w = refl
type_word a (OfLambda ∷ k) w = refl
type_word a (f ∷ k) w = refl

term_word : (u : Term) (k : List Frame) (w : List ℕ) → have_term u k (Word w) ≡ None
term_word u [] w = refl
term_word u (Function ∷ k) w = refl
term_word u (Argument f ∷ k) w = refl
term_word u (f ∷ k) w = refl

-- ---- each state

module _ (names : Names) where
  abbrev Into : State → List ℕ → Type 0
  Into s w = GoesInto (Step State) (λ v. step names s (Word v)) w

  numbers_into : (o : Opened) (kind : Kind) (kinds : List Kind) (w : List ℕ) → step names (WantArg o kind kinds) (Word w) ≡ None → Into (WantArg o kind kinds) w
  numbers_into o FactKind kinds w stuck = cc
  numbers_into o NumberKind kinds w stuck = of_numbers (Step State) (λ v. number_arg o kinds (number_in v)) w
      (λ v is. (_, ap (λ n. number_arg o kinds n) (writes v is))) (λ v r e. arg_number o kinds v (number_in v) r refl e) stuck
  numbers_into o kind kinds w stuck = no_word (Step State) _ w (λ v. refl)

  pub state_into : (s : State) (w : List ℕ) → step names s (Word w) ≡ None → Into s w
  state_into (StepStart before) w stuck = of_words (Step State) (λ v. step names (StepStart before) (Word v)) w (starts (length before))
      (λ v is. start_taken before (length before) v (bytes_eq v (decimal (length before))) (bytes_eq v (codes "end")) refl refl is)
      (λ v r e. taken_start before (length before) v (bytes_eq v (decimal (length before))) (bytes_eq v (codes "end")) r refl refl e) stuck
  state_into (RuleWord before) w stuck = of_words (Step State) (λ v. opened before (rule_in v rules)) w (map found.rule_word rules)
      (λ v is. rule_taken before v is) (λ v r e. taken_rule before v (rule_in v rules) r refl e) stuck
  state_into (WantArg o kind kinds) w stuck = numbers_into o kind kinds w stuck
  state_into (WantTerm k) w stuck = of_words (Step State) (λ v. word_is k v (plain_in v plains)) w constants
      (λ v is. constant_taken k v is) (λ v r e. taken_constant k v (plain_in v plains) r refl e) stuck
  state_into (WantBound k) w stuck = of_numbers (Step State) (λ v. bound_is k (number_in v)) w
      (λ v is. (_, ap (λ n. bound_is k n) (writes v is))) (λ v r e. bound_number k v (number_in v) r refl e) stuck
  state_into (WantFree k) w stuck = of_numbers (Step State) (λ v. free_is k (number_in v)) w
      (λ v is. (_, ap (λ n. free_is k n) (writes v is))) (λ v r e. free_number k v (number_in v) r refl e) stuck
  state_into (WantType k) w stuck = cc
  state_into (WantConst k) w stuck = cc
  state_into (Behind o) w stuck = no_word (Step State) _ w (behind_word o o.kinds)
  state_into (HaveType a k) w stuck = no_word (Step State) _ w (type_word a k)
  state_into (HaveTerm u k) w stuck = no_word (Step State) _ w (term_word u k)
  state_into s w stuck = no_word (Step State) _ w (λ v. refl)
