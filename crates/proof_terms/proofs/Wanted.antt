-- A number or a name is wanted, and isn't there.
use Rattle.std.proofs.Common.{◌≡◌, inl, inr, ℕ, ◌+◌, ◌<◌, ◌^◌, None, List, [], ◌∷◌, ◌++◌, decimal, sym, subst, arith}
use Rattle.theory_terms.specs.Words.{place}
use Rattle.proof_words.specs.Sharing.{IsNumber}
use Rattle.proof_syntax.specs.declared.fault.PartFault.{PartFault}
use Rattle.proof_syntax.specs.declared.fault.PartFault.TheVariants as fault
use Rattle.proof_syntax.specs.Tokens.{Sign, Word, Mark}
use Rattle.proof_syntax.specs.Names.{Names}
use Rattle.proof_syntax.specs.Grammar.{Placed, at, most}
use Rattle.proof_syntax.specs.Machine.{State, step, accepted, number_in}
use Rattle.proof_syntax.specs.Parts.{Fails}
use Rattle.proof_syntax.proofs.Numbers.{no_number}
use Rattle.proof_terms.specs.Fronts.{FailsName, FailsNumber}
use Rattle.proof_terms.proofs.Passed.{Passed, stops_no_word, stops_in, goes_beyond}

-- the states take neither an end nor a sign
module _ (names : Names) (B : List Placed → Type 0) (I : Type 0) (st s : I → State) (text bytes : List ℕ) (p : List Placed)
    (g : Passed names I st s text bytes p) (begins : B p) (end : (i : I) → accepted (s i) ≡ None) (signs : (i : I) (m : Sign) → step names (s i) (Mark m) ≡ None) where
  pub no_number_there : (l : ℕ) → ((n : ℕ) → n < 2 ^ 64 → B (p ++ at l (Word (decimal n)) ∷ [])) → ((i : I) (w : List ℕ) → number_in w ≡ None → step names (s i) (Word w) ≡ None) →
      (e : PartFault) → FailsNumber bytes e → Fails names B I st text e
  no_number_there l numbers others (fault.Stops left) h = elim h [
    | inl n ↦ subst (λ k. Fails names B I st text (fault.Stops k)) (sym n.1) (stops_no_word names B I st s text bytes p g begins end signs n.0)
    | inr u ↦ stops_in names B I st s text bytes p g IsNumber l u.word u.rest u.into left begins u.tokens u.count u.shares
        (λ v m. subst (λ w. B (p ++ at l (Word w) ∷ [])) (sym m.2) (numbers m.0 m.1)) (λ i v n. others i v (no_number v (λ k low e. n (k, low, e))))
  ]
  no_number_there l numbers others (fault.GoesBeyond left) h = absurd h
  no_number_there l numbers others fault.NoMemory h = absurd h

  -- an undeclared name stands above the limit
  pub no_name_there : (declared : List (List ℕ)) → ((x : List ℕ) → place x declared ≡ None → B (p ++ at (most + 1) (Word x) ∷ [])) →
      (e : PartFault) → FailsName declared bytes e → Fails names B I st text e
  no_name_there declared unknown (fault.Stops left) h =
      subst (λ k. Fails names B I st text (fault.Stops k)) (sym h.1) (stops_no_word names B I st s text bytes p g begins end signs h.0)
  no_name_there declared unknown (fault.GoesBeyond left) h =
      subst (λ k. Fails names B I st text (fault.GoesBeyond k)) (sym h.count)
      (goes_beyond names B I st s text bytes p g (Word h.name) (most + 1) h.rest h.tokens (unknown h.name h.unknown) (omega arith))
  no_name_there declared unknown fault.NoMemory h = absurd h
