-- What a walk over rules has listed so far.
use Rattle.std.proofs.Common.{◌≡◌, ℕ, suc, ◌+◌, List, [], ◌∷◌, ◌++◌, map, Option, Some, None, sym, ap, subst, ◌∙◌, add-one}
use Rattle.std.specs.List.{flat_map}
use Rattle.std.proofs.lemmas.List.{append_assoc, append-nil, map-append}
use Rattle.std.proofs.lemmas.List.Concat.{flat_map-append}
use Rattle.fo_terms.specs.declared.clause.Clause.{Clause}
use Rattle.fo_terms.proofs.Induction.{Each}
use Rattle.fo_infer.specs.declared.made.Made.{Made}
use Rattle.fo_infer.specs.declared.made.Rule.{Rule}
use Rattle.fo_infer.specs.Inferences.{Listed, done, skip, give, upto}
use Rattle.fo_infer.specs.inner.Adding.{Answered, entry, Adds}

module _ (Gives : Rule → Clause → Type 0) where
  pub listed_append : {rs ss : List Rule} {ms ns : List Made} → Listed Gives rs ms → Listed Gives ss ns → Listed Gives (rs ++ ss) (ms ++ ns)
  listed_append done more = more
  listed_append (skip none rest) more = skip none (listed_append rest more)
  listed_append (give gives rest) more = give gives (listed_append rest more)

  -- rules that give nothing
  pub listed_none : (rs : List Rule) → Each (λ r. (c : Clause) → Gives r c → ⊥) rs → Listed Gives rs []
  listed_none [] none = done
  listed_none (r ∷ rs) none = skip none.0 (listed_none rs none.1)

  -- one rule
  pub listed_one : (r : Rule) (o : Option Clause) → Answered (Gives r) o → Listed Gives (r ∷ []) (entry r o)
  listed_one r None none = skip none done
  listed_one r (Some c) gives = give gives done

  pub adds_start : (old : List Made) → Adds Gives [] old old
  adds_start old = record { more = []; whole = sym (append-nil old); listed = done }

  pub adds_none : (rs : List Rule) (old new : List Made) → new ≡ old → Each (λ r. (c : Clause) → Gives r c → ⊥) rs → Adds Gives rs old new
  adds_none rs old new same none = record { more = []; whole = same ∙ sym (append-nil old); listed = listed_none rs none }

  pub adds_then : (rs ss : List Rule) (old mid new : List Made) → Adds Gives rs old mid → Adds Gives ss mid new → Adds Gives (rs ++ ss) old new
  adds_then rs ss old mid new first second = record {
    more = first.more ++ second.more;
    whole = second.whole ∙ ap (λ l. l ++ second.more) first.whole ∙ append_assoc old first.more second.more;
    listed = listed_append first.listed second.listed;
  }

  pub adds_one : (r : Rule) (o : Option Clause) (old new : List Made) → new ≡ old ++ entry r o → Answered (Gives r) o → Adds Gives (r ∷ []) old new
  adds_one r o old new whole answer = record { more = entry r o; whole = whole; listed = listed_one r o answer }

  -- one more place of a loop, with one rule or with several
  pub adds_more : (f : ℕ → Rule) (i : ℕ) (o : Option Clause) (old mid new : List Made) → Adds Gives (map f (upto i)) old mid → new ≡ mid ++ entry (f i) o → Answered (Gives (f i)) o
      → Adds Gives (map f (upto (i + 1))) old new
  adds_more f i o old mid new first whole answer =
      let rules : map f (upto (suc i)) ≡ map f (upto i) ++ f i ∷ [] = map-append f (upto i) (i ∷ []) in
      rw add-one (subst (λ rs. Adds Gives rs old new) (sym rules) (adds_then (map f (upto i)) (f i ∷ []) old mid new first (adds_one (f i) o mid new whole answer)))

  pub adds_rows : (f : ℕ → List Rule) (i : ℕ) (old mid new : List Made) → Adds Gives (flat_map f (upto i)) old mid → Adds Gives (f i) mid new → Adds Gives (flat_map f (upto (i + 1))) old new
  adds_rows f i old mid new first second =
      let rules : flat_map f (upto (suc i)) ≡ flat_map f (upto i) ++ f i =
      flat_map-append f (upto i) (i ∷ []) ∙ ap (λ l. flat_map f (upto i) ++ l) (append-nil (f i)) in
      rw add-one (subst (λ rs. Adds Gives rs old new) (sym rules) (adds_then (flat_map f (upto i)) (f i) old mid new first second))

-- a fact of each rule of a row
pub each_rule : (P : Rule → Type 0) (f : ℕ → Rule) → ((i : ℕ) → P (f i)) → (is : List ℕ) → Each P (map f is)
each_rule P f h [] = tt
each_rule P f h (i ∷ is) = (h i, each_rule P f h is)

-- two rows from an empty list on
pub listed_both : (Gives : Rule → Clause → Type 0) (rs ss : List Rule) (old mid new : List Made) → old ≡ [] → Adds Gives rs old mid → Adds Gives ss mid new → Listed Gives (rs ++ ss) new
listed_both Gives rs ss old mid new none first second =
    let both = adds_then Gives rs ss old mid new first second in
    subst (Listed Gives (rs ++ ss)) (sym (both.whole ∙ ap (λ l. l ++ both.more) none)) both.listed
