-- The ways out of the reader of one step.
use Rattle.std.proofs.Common.{◌≡◌, inl, inr, ℕ, ◌+◌, ◌<◌, List, [], ◌∷◌, ◌++◌, map, length, decimal, codes, None, refl, sym, ap, subst, append_assoc, append-nil, ◌∙◌, arith}
use Rattle.first_fault.specs.Levels.{Within}
use Rattle.first_fault.proofs.Fronts.{put-append, within-append}
use Rattle.kernel_rules.specs.declared.step.Step.{Step}
use Rattle.proof_words.specs.Sharing.{IsOneOf}
use Rattle.proof_syntax.specs.declared.fault.PartFault.{PartFault}
use Rattle.proof_syntax.specs.declared.fault.PartFault.TheVariants as fault
use Rattle.proof_syntax.specs.Tokens.{LineEnd, Space, Tok, Word, Mark, cut, space, line_end, spelled}
use Rattle.proof_syntax.specs.Names.{Names}
use Rattle.proof_syntax.specs.Forms.{Arg, Form, form}
use Rattle.proof_syntax.specs.Grammar.{Placed, at, most, AreArgs, AreSteps, end, step as step_}
use Rattle.proof_syntax.specs.Machine.{put, StepStart, StepSpace, RuleWord, Behind, Opened, with_args, behind, opened, made, rule_in, rules, kind_of, to, Rule}
use Rattle.proof_syntax.specs.Parts.{IsNot}
use Rattle.proof_syntax.proofs.Cutting.{cut_length}
use Rattle.proof_syntax.proofs.Inside.{inside, here, here_in, refuses_but}
use Rattle.proof_syntax.proofs.Leads.{Leads, leads_on, leads_both, leads_last}
use Rattle.proof_syntax.proofs.Complete.{args_runs}
use Rattle.proof_reader.specs.declared.rule as code
use Rattle.proof_reader.specs.declared.rule.Rule.TheVariants as any
use Rattle.proof_reader.specs.inner.Rules.{rule_of, IsMade}
use Rattle.proof_reader.specs.inner.Words.{Other, FailsWord, words_of}
use Rattle.proof_reader.specs.inner.Parts.{BegunArgs, Wanting, behind_opened, FailsArgs, GotMade, GotStep, BegunStep, FailsStep}
use Rattle.proof_reader.proofs.Refuses.{refuses_signs}
use Rattle.proof_reader.proofs.ArgPieces.{some_args}
use Rattle.proof_reader.proofs.WordPieces.{not_longer}
use Rattle.proof_reader.proofs.RulePieces.{found, word_rule, not_rule, makes}

within_two : (x y : Tok) → Within most (at 0 x ∷ at 0 y ∷ [])
within_two x y = (omega arith, (omega arith, tt))

-- a step of this form is derivable as its rule's
module _ (names : Names) (r : Rule) (args : List Arg) (s : Step) (made_is : IsMade r args s) (p : List Placed) (d : AreArgs names p args) where
  pub as_step : (n : ℕ) (q : List Placed) (more : List Step) → AreSteps names (n + 1) q more →
      AreSteps names n (at 0 (Word (decimal n)) ∷ at 0 space ∷ at 0 (Word r.word) ∷ p ++ at 0 line_end ∷ q) (s ∷ more)
  as_step n q more e =
      let args_is : (form s).args ≡ args = ap (λ (f : Form). f.args) made_is.2 in
      let word_is : (form s).word ≡ r.word = ap (λ (f : Form). f.word) made_is.2 in
      subst (λ w. AreSteps names n (at 0 (Word (decimal n)) ∷ at 0 space ∷ at 0 (Word w) ∷ p ++ at 0 line_end ∷ q) (s ∷ more)) word_is
      (step_ {s = s} (subst (λ xs. AreArgs names p xs) (sym args_is) d) e)

module _ (names : Names) where
  -- a step by this rule goes on
  rule_begun : (r : code.Rule.Rule) → BegunStep names (at 0 space ∷ at 0 (Word (rule_of r).word) ∷ [])
  rule_begun r n =
      let a = some_args names (rule_of r).kinds in
      let s = makes r a.1 a.3 in
      (a.0 ++ at 0 line_end ∷ at 0 (Word (codes "end")) ∷ at 0 line_end ∷ [], s.0 ∷ [], as_step names (rule_of r) a.1 s.0 s.1 a.0 a.2 n _ [] end)

  space_begun : BegunStep names (at 0 space ∷ [])
  space_begun n = let s = rule_begun any.TrueIntro n in (at 0 (Word (codes "trueintro")) ∷ s.0, s.1, s.2)

  pub step_begun : BegunStep names []
  step_begun n = let s = space_begun n in (at 0 space ∷ s.0, s.1, s.2)

  pub no_space : (text : List ℕ) → IsNot space (cut text) → FailsStep names text (fault.Stops (length text))
  no_space text n = here names (BegunStep names) (List Step) StepSpace StepSpace [] (λ i rest. refl) text text refl tt step_begun
      (λ i. refuses_but names (StepSpace i) Space refl (λ x apart. other i x apart) (cut text) n)
    where
      other : (before : List Step) (x : Tok) → (x ≡ Mark Space → ⊥) → Rattle.proof_syntax.specs.Machine.step names (StepSpace before) x ≡ None
      other before (Mark Space) apart = absurd (apart refl)
      other before (Word w) apart = refl
      other before (Mark _) apart = refl

  module _ (text named : List ℕ) (eq : cut text ≡ space ∷ cut named) where
    -- ---- the word

    spaced : (before : List Step) → Leads names (StepSpace before) (at 0 space ∷ []) (RuleWord before)
    spaced before = leads_last names (StepSpace before) (RuleWord before) space 0 0 refl refl

    other_word : (left : ℕ) → Other (IsOneOf (words_of rules)) named left → FailsStep names text (fault.Stops left)
    other_word left h = here_in names (BegunStep names) (List Step) StepSpace RuleWord (at 0 space ∷ []) spaced text named eq (omega arith, tt)
        h.word h.rest h.into left h.tokens h.count space_begun h.shares.room
        (elim h.shares.some [ inl none_of ↦ inl none_of | inr s ↦ inr (s.0, (0, goes_on s.0 (word_rule s.0 s.1)), s.2) ])
        (λ v same before. ap (λ o. opened before o) (not_rule v (λ among. h.shares.most v among same)))
      where
        goes_on : (v : List ℕ) → (r : code.Rule.Rule) × (v ≡ (rule_of r).word) → BegunStep names (at 0 space ∷ at 0 (Word v) ∷ [])
        goes_on v r = subst (λ w. BegunStep names (at 0 space ∷ at 0 (Word w) ∷ [])) (sym r.1) (rule_begun r.0)

    pub word_fails : (e : PartFault) → FailsWord (IsOneOf (words_of rules)) named e → FailsStep names text e
    word_fails (fault.Stops left) (inl h) = subst (λ n. FailsStep names text (fault.Stops n)) (sym h.1)
        (here names (BegunStep names) (List Step) StepSpace RuleWord (at 0 space ∷ []) spaced text named eq (omega arith, tt) space_begun
        (λ i. refuses_signs names (RuleWord i) refl (λ m. refl) (cut named) h.0))
    word_fails (fault.Stops left) (inr h) = other_word left h
    word_fails (fault.GoesBeyond left) h = absurd h
    word_fails fault.NoMemory h = tt

    -- ---- the arguments

    module _ (r : code.Rule.Rule) (wanted : List ℕ) (word_is : cut named ≡ Word (rule_of r).word ∷ cut wanted) where
      abbrev front : List Placed
      front = at 0 space ∷ at 0 (Word (rule_of r).word) ∷ []

      front_is : cut text ≡ put front (cut wanted)
      front_is = eq ∙ ap (λ xs. space ∷ xs) word_is

      abbrev open_step : List Step → Opened
      open_step before = record { before = before; make = (rule_of r).make; done = []; kinds = (rule_of r).kinds }

      front_leads : (before : List Step) → Leads names (StepSpace before) front (Behind (open_step before))
      front_leads before = leads_on names (StepSpace before) (RuleWord before) (Behind (open_step before)) space 0 0 (at 0 (Word (rule_of r).word) ∷ []) refl refl
          (leads_last names (RuleWord before) (Behind (open_step before)) (Word (rule_of r).word) 0 0 (ap (λ o. opened before o) (found r)) refl)

      pub args_fail : (e : PartFault) → FailsArgs names (rule_of r).kinds wanted e → FailsStep names text e
      args_fail e h = inside names (BegunStep names) (BegunArgs names (rule_of r).kinds) (List Step) (Wanting (rule_of r).kinds) StepSpace (behind_opened (rule_of r).kinds) front
          (λ q b n.
          let s = makes r b.1 b.3 in (
            b.0 ++ at 0 line_end ∷ at 0 (Word (codes "end")) ∷ at 0 line_end ∷ [],
            s.0 ∷ [],
            subst (λ p. AreSteps names n (at 0 (Word (decimal n)) ∷ at 0 space ∷ at 0 (Word (rule_of r).word) ∷ p) (s.0 ∷ []))
                (append_assoc q b.0 (at 0 line_end ∷ at 0 (Word (codes "end")) ∷ at 0 line_end ∷ []))
                (as_step names (rule_of r) b.1 s.0 s.1 (q ++ b.0) b.2 n _ [] end),
          ))
          (λ before. (record { opened = open_step before; is_kinds = refl }, front_leads before))
          text wanted front_is (within_two space (Word (rule_of r).word)) e h

      -- ---- the line's end

      module _ (s : Step) (rest : List ℕ) (g : GotMade names (rule_of r) wanted s rest) where
        abbrev placed : List Placed
        placed = g.got.placed

        args_are : cut text ≡ put (front ++ placed) (cut rest)
        args_are = front_is ∙ ap (λ xs. put front xs) g.got.tokens ∙ sym (put-append front placed (cut rest))

        abbrev all_done : List Step → Opened
        all_done before = with_args (open_step before) g.args []

        all_leads : (before : List Step) → Leads names (StepSpace before) (front ++ placed) (Behind (all_done before))
        all_leads before = leads_both names (StepSpace before) (Behind (open_step before)) (Behind (all_done before)) front placed (front_leads before)
            (λ ts. args_runs g.got.derived (open_step before) [] ts (sym g.made.0 ∙ sym (append-nil (map kind_of g.args))))

        low : Within most (front ++ placed)
        low = (omega arith, (omega arith, g.got.within))

        pub no_line_end : IsNot line_end (cut rest) → FailsStep names text (fault.Stops (length rest))
        no_line_end n = here names (BegunStep names) (List Step) StepSpace (λ before. Behind (all_done before)) (front ++ placed) all_leads text rest args_are low
            (λ k. (at 0 line_end ∷ at 0 (Word (codes "end")) ∷ at 0 line_end ∷ [], s ∷ [], as_step names (rule_of r) g.args s g.made placed g.got.derived k _ [] end))
            (λ before. refuses_but names (Behind (all_done before)) LineEnd refl (λ x apart. other before x apart) (cut rest) n)
          where
            other : (before : List Step) (x : Tok) → (x ≡ Mark LineEnd → ⊥) → behind (all_done before) [] x ≡ None
            other before (Mark LineEnd) apart = absurd (apart refl)
            other before (Word w) apart = refl
            other before (Mark _) apart = refl

        shorter : (next : List ℕ) → cut rest ≡ line_end ∷ cut next → length next < length text
        shorter next end_is =
            let all = sym (cut_length text) ∙ ap (λ ts. length (spelled ts)) args_are in
            let less = not_longer (front ++ placed) (cut rest) in
            let end = ap (λ ts. length (spelled ts)) end_is in
            let same = cut_length next in
            omega arith

        pub step_ok : (next : List ℕ) → cut rest ≡ line_end ∷ cut next → GotStep names text s next
        step_ok next end_is = record {
          placed = (front ++ placed) ++ at 0 line_end ∷ [];
          within = within-append most (front ++ placed) (at 0 line_end ∷ []) low (omega arith, tt);
          tokens = args_are ∙ ap (λ xs. put (front ++ placed) xs) end_is ∙ sym (put-append (front ++ placed) (at 0 line_end ∷ []) (cut next));
          shorter = shorter next end_is;
          joins = λ n q more d. subst (λ p. AreSteps names n (at 0 (Word (decimal n)) ∷ p) (s ∷ more))
              (sym (append_assoc (front ++ placed) (at 0 line_end ∷ []) q))
              (as_step names (rule_of r) g.args s g.made placed g.got.derived n q more d);
          walks = λ before ts. leads_both names (StepSpace before) (Behind (all_done before)) (StepStart (before ++ s ∷ [])) (front ++ placed) (at 0 line_end ∷ []) (all_leads before)
              (leads_last names (Behind (all_done before)) (StepStart (before ++ s ∷ [])) line_end 0 0 (ap (λ o. made before o) g.made.1) refl) ts;
        }
