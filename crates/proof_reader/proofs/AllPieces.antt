-- The ways out of the reader of all steps.
use Rattle.std.proofs.Common.{◌≡◌, inl, inr, ℕ, ◌+◌, ◌<◌, List, [], ◌∷◌, ◌++◌, length, decimal, codes, None, refl, sym, ap, subst, append_assoc, append-nil, ◌∙◌, arith, length-append}
use Rattle.first_fault.specs.Levels.{Within}
use Rattle.first_fault.proofs.Fronts.{put-append, within-append}
use Rattle.kernel_rules.specs.declared.step.Step.{Step}
use Rattle.proof_words.specs.Sharing.{IsOneOf}
use Rattle.proof_syntax.specs.declared.fault.PartFault.{PartFault}
use Rattle.proof_syntax.specs.declared.fault.PartFault.TheVariants as fault
use Rattle.proof_syntax.specs.Tokens.{LineEnd, Tok, Word, Mark, cut, spelled, line_end}
use Rattle.proof_syntax.specs.Names.{Names}
use Rattle.proof_syntax.specs.Grammar.{Placed, at, most, AreSteps, end}
use Rattle.proof_syntax.specs.Machine.{put, StepStart, StepSpace, LastEnd, Finished, step, step_start}
use Rattle.proof_syntax.proofs.Cutting.{cut_length}
use Rattle.proof_syntax.proofs.Inside.{inside, here, here_in, Refuses, refuses_but}
use Rattle.proof_syntax.proofs.Leads.{Leads, leads_on, leads_both, leads_last}
use Rattle.proof_syntax.proofs.Numbers.{eq_false}
use Rattle.proof_syntax.proofs.Complete.{start_step, start_end}
use Rattle.proof_reader.specs.inner.Words.{Other, FailsWord, FailsLast, openings}
use Rattle.proof_reader.specs.inner.Parts.{GotStep, BegunStep, FailsStep, StepsSoFar, GotSteps, BegunSteps, first_step, FailsSteps}
use Rattle.proof_reader.proofs.Refuses.{refuses_signs}
use Rattle.proof_reader.proofs.StepPieces.{step_begun}

abbrev last_line : List Placed
last_line = at 0 (Word (codes "end")) ∷ at 0 line_end ∷ []

module _ (names : Names) (text : List ℕ) where
  pub begins : StepsSoFar names text [] text
  begins = record { placed = []; within = tt; tokens = refl; joins = λ q more d. d; walks = λ ts. refl }

  module _ (steps : List Step) (rest : List ℕ) (s : StepsSoFar names text steps rest) where
    abbrev due : Tok
    due = Word (decimal (length steps))

    -- ---- the beginning of a line

    ended : BegunSteps names s.placed
    ended = (last_line, steps ++ [], s.joins last_line [] end)

    numbered_begun : (q : List Placed) (more : List Step) → AreSteps names (length steps) (at 0 due ∷ q) more → BegunSteps names (s.placed ++ at 0 due ∷ [])
    numbered_begun q more d = (q, steps ++ more, subst (λ p. AreSteps names 0 p (steps ++ more)) (sym (append_assoc s.placed (at 0 due ∷ []) q)) (s.joins (at 0 due ∷ q) more d))

    end_begun : BegunSteps names (s.placed ++ at 0 (Word (codes "end")) ∷ [])
    end_begun = (
      at 0 line_end ∷ [],
      steps ++ [],
      subst (λ p. AreSteps names 0 p (steps ++ [])) (sym (append_assoc s.placed (at 0 (Word (codes "end")) ∷ []) (at 0 line_end ∷ []))) (s.joins last_line [] end),
    )

    opening_begun : (v : List ℕ) → IsOneOf (openings (length steps)) v → BegunSteps names (s.placed ++ at 0 (Word v) ∷ [])
    opening_begun v (inl e) = subst (λ w. BegunSteps names (s.placed ++ at 0 (Word w) ∷ [])) (sym e) (let b = step_begun names (length steps) in numbered_begun b.0 b.1 b.2)
    opening_begun v (inr (inl e)) = subst (λ w. BegunSteps names (s.placed ++ at 0 (Word w) ∷ [])) (sym e) end_begun
    opening_begun v (inr (inr h)) = absurd h

    no_opening : (v : List ℕ) → (IsOneOf (openings (length steps)) v → ⊥) → step_start steps (length steps) v ≡ None
    no_opening v n =
        let number = eq_false v (decimal (length steps)) (λ e. n (inl e)) in
        let last = eq_false v (codes "end") (λ e. n (inr (inl e))) in
        rw (number, last) refl

    other_opening : (left : ℕ) → Other (IsOneOf (openings (length steps))) rest left → FailsSteps names text (fault.Stops left)
    other_opening left h = here_in names (BegunSteps names) (Unit {0}) first_step (λ u. StepStart steps) s.placed (λ u ts. s.walks ts) text rest s.tokens s.within
        h.word h.rest h.into left h.tokens h.count ended h.shares.room
        (elim h.shares.some [ inl none_of ↦ inl none_of | inr o ↦ inr (o.0, (0, opening_begun o.0 o.1), o.2) ])
        (λ v same u. no_opening v (λ among. h.shares.most v among same))

    pub opening_fails : (e : PartFault) → FailsWord (IsOneOf (openings (length steps))) rest e → FailsSteps names text e
    opening_fails (fault.Stops left) (inl h) = subst (λ n. FailsSteps names text (fault.Stops n)) (sym h.1)
        (here names (BegunSteps names) (Unit {0}) first_step (λ u. StepStart steps) s.placed (λ u ts. s.walks ts) text rest s.tokens s.within ended
        (λ u. refuses_signs names (StepStart steps) refl (λ m. refl) (cut rest) h.0))
    opening_fails (fault.Stops left) (inr h) = other_opening left h
    opening_fails (fault.GoesBeyond left) h = absurd h
    opening_fails fault.NoMemory h = tt

    -- ---- a step

    module _ (numbered : List ℕ) (number_is : cut rest ≡ due ∷ cut numbered) where
      abbrev front : List Placed
      front = s.placed ++ at 0 due ∷ []

      front_is : cut text ≡ put front (cut numbered)
      front_is = s.tokens ∙ ap (λ xs. put s.placed xs) number_is ∙ sym (put-append s.placed (at 0 due ∷ []) (cut numbered))

      front_low : Within most front
      front_low = within-append most s.placed (at 0 due ∷ []) s.within (omega arith, tt)

      front_leads : Leads names (StepStart []) front (StepSpace steps)
      front_leads = leads_both names (StepStart []) (StepStart steps) (StepSpace steps) s.placed (at 0 due ∷ []) s.walks
          (leads_last names (StepStart steps) (StepSpace steps) due 0 0 (start_step steps (length steps) refl) refl)

      pub step_fails : (e : PartFault) → FailsStep names numbered e → FailsSteps names text e
      step_fails e h = inside names (BegunSteps names) (BegunStep names) (Unit {0}) (List Step) first_step StepSpace front
          (λ q b.
          let next = b (length steps) in (
            next.0,
            steps ++ next.1,
            subst (λ p. AreSteps names 0 p (steps ++ next.1)) (sym (append_assoc front q next.0 ∙ append_assoc s.placed (at 0 due ∷ []) (q ++ next.0)))
                (s.joins (at 0 due ∷ q ++ next.0) next.1 next.2),
          ))
          (λ u. (steps, front_leads))
          text numbered front_is front_low e h

      pub goes_on : (next : Step) (behind : List ℕ) → GotStep names numbered next behind → StepsSoFar names text (steps ++ next ∷ []) behind
      goes_on next behind g = record {
        placed = front ++ g.placed;
        within = within-append most front g.placed front_low g.within;
        tokens = front_is ∙ ap (λ xs. put front xs) g.tokens ∙ sym (put-append front g.placed (cut behind));
        joins = λ q more d.
            let count : length (steps ++ next ∷ []) ≡ length steps + 1 = omega (arith, length-append steps (next ∷ [])) in
            let later = g.joins (length steps) q more (subst (λ n. AreSteps names n q more) count d) in
            subst (λ p. AreSteps names 0 p ((steps ++ next ∷ []) ++ more)) (sym (append_assoc front g.placed q ∙ append_assoc s.placed (at 0 due ∷ []) (g.placed ++ q)))
            (subst (λ all. AreSteps names 0 (s.placed ++ (at 0 due ∷ g.placed ++ q)) all) (sym (append_assoc steps (next ∷ []) more))
            (s.joins (at 0 due ∷ g.placed ++ q) (next ∷ more) later));
        walks = leads_both names (StepStart []) (StepSpace steps) (StepStart (steps ++ next ∷ [])) front g.placed front_leads (g.walks steps);
      }

    -- ---- the last line

    module _ (last : List ℕ) (end_is : cut rest ≡ Word (codes "end") ∷ cut last) where
      abbrev before_end : List Placed
      before_end = s.placed ++ at 0 (Word (codes "end")) ∷ []

      before_is : cut text ≡ put before_end (cut last)
      before_is = s.tokens ∙ ap (λ xs. put s.placed xs) end_is ∙ sym (put-append s.placed (at 0 (Word (codes "end")) ∷ []) (cut last))

      before_low : Within most before_end
      before_low = within-append most s.placed (at 0 (Word (codes "end")) ∷ []) s.within (omega arith, tt)

      before_leads : Leads names (StepStart []) before_end (LastEnd steps)
      before_leads = leads_both names (StepStart []) (StepStart steps) (LastEnd steps) s.placed (at 0 (Word (codes "end")) ∷ []) s.walks
          (leads_last names (StepStart steps) (LastEnd steps) (Word (codes "end")) 0 0 (start_end steps) refl)

      abbrev whole : List Placed
      whole = s.placed ++ last_line

      whole_is : (behind : List Tok) → cut last ≡ line_end ∷ behind → cut text ≡ put whole behind
      whole_is behind e = s.tokens ∙ ap (λ xs. put s.placed xs) (end_is ∙ ap (λ xs. Word (codes "end") ∷ xs) e) ∙ sym (put-append s.placed last_line behind)

      whole_low : Within most whole
      whole_low = within-append most s.placed last_line s.within (omega arith, (omega arith, tt))

      whole_leads : Leads names (StepStart []) whole (Finished steps)
      whole_leads = leads_both names (StepStart []) (StepStart steps) (Finished steps) s.placed last_line s.walks
          (leads_on names (StepStart steps) (LastEnd steps) (Finished steps) (Word (codes "end")) 0 0 (at 0 line_end ∷ []) (start_end steps) refl
          (leads_last names (LastEnd steps) (Finished steps) line_end 0 0 refl refl))

      whole_derived : AreSteps names 0 whole steps
      whole_derived = subst (λ all. AreSteps names 0 whole all) (append-nil steps) (s.joins last_line [] end)

      nothing_more : (ts : List Tok) → 0 < length (spelled ts) → Refuses names (Finished steps) ts
      nothing_more [] some = absurd (omega arith)
      nothing_more (Mark m ∷ ts) some = refl
      nothing_more (Word w ∷ ts) some = λ v. refl

      not_line_end : (x : Tok) → (x ≡ Mark LineEnd → ⊥) → step names (LastEnd steps) x ≡ None
      not_line_end (Mark LineEnd) apart = absurd (apart refl)
      not_line_end (Word w) apart = refl
      not_line_end (Mark _) apart = refl

      pub last_fails : (e : PartFault) → FailsLast last e → FailsSteps names text e
      last_fails (fault.Stops left) (inl h) = subst (λ n. FailsSteps names text (fault.Stops n)) (sym h.1)
          (here names (BegunSteps names) (Unit {0}) first_step (λ u. LastEnd steps) before_end (λ u ts. before_leads ts) text last before_is before_low end_begun
          (λ u. refuses_but names (LastEnd steps) LineEnd refl not_line_end (cut last) h.0))
      last_fails (fault.Stops left) (inr h) = subst (λ n. FailsSteps names text (fault.Stops n)) (sym h.3)
          (here names (BegunSteps names) (Unit {0}) first_step (λ u. Finished steps) whole (λ u ts. whole_leads ts) text h.0 (whole_is (cut h.0) h.1) whole_low
          ([], steps, subst (λ p. AreSteps names 0 p steps) (sym (append-nil whole)) whole_derived)
          (λ u. nothing_more (cut h.0) (let some = h.2 in let same = cut_length h.0 in omega arith)))
      last_fails (fault.GoesBeyond left) h = absurd h
      last_fails fault.NoMemory h = tt

      pub finished : cut last ≡ line_end ∷ [] → GotSteps names text steps
      finished e = record { placed = whole; derived = whole_derived; within = whole_low; tokens = whole_is [] e }

-- ---- what is left gets shorter

pub shorter : (names : Names) (rest numbered behind : List ℕ) (n : ℕ) (s : Step) → cut rest ≡ Word (decimal n) ∷ cut numbered → GotStep names numbered s behind → length behind < length rest
shorter names rest numbered behind n s e g =
    let all = sym (cut_length rest) ∙ ap (λ ts. length (spelled ts)) e ∙ length-append (decimal n) (spelled (cut numbered)) in
    let same = cut_length numbered in
    let less = g.shorter in
    omega arith
