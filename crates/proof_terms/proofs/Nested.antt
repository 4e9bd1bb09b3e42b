-- The ways out of the readers of applications and lambdas.
use Rattle.std.proofs.Common.{◌≡◌, ℕ, ◌+◌, ◌≤◌, ◌<◌, None, List, [], ◌∷◌, ◌++◌, length, refl, sym, ap, subst, append_assoc, arith}
use Rattle.hol_terms.specs.declared.ty.Ty.{Ty}
use Rattle.hol_terms.specs.declared.konst.Konst.TheVariants as konst
use Rattle.hol_terms.specs.declared.term.Term.{Term}
use Rattle.hol_terms.specs.declared.term.Term.TheVariants as terms
use Rattle.proof_syntax.specs.declared.fault.PartFault.{PartFault}
use Rattle.proof_syntax.specs.declared.fault.PartFault.TheVariants as fault
use Rattle.proof_syntax.specs.Tokens.{Tok, Word, Mark, Space, CloseRound, CloseBrace, cut, space, open_round, close_round, open_brace, close_brace}
use Rattle.proof_syntax.specs.Names.{Names}
use Rattle.proof_syntax.specs.Forms.{Truth, plain_word}
use Rattle.proof_syntax.specs.Grammar.{Placed, at, most, name, IsTerm, plain, apply, lambda}
use Rattle.proof_syntax.specs.Machine.{Frame, OfLambda, Function, Argument, Body, level, State, WantType, HaveType, WantTerm, HaveTerm, end_term, step, to, want_term, have_type, have_term}
use Rattle.proof_syntax.specs.Parts.{GotType, FailsType, BegunType, wants_type, GotTerm, FailsTerm, BegunTerm, wants_term, Below, IsNot}
use Rattle.proof_syntax.proofs.Complete.{type_runs, term_runs}
use Rattle.proof_terms.proofs.Passed.{Passed, nothing, more, one, stops_but, goes_beyond, fails_in}
use Rattle.proof_terms.proofs.Around.{anything}

abbrev truth : Term
truth = terms.Con konst.True

-- an application's tokens, as they come
in_order : (p q : List Placed) (s c : Placed) → (p ++ s ∷ q) ++ c ∷ [] ≡ ((p ++ s ∷ []) ++ q) ++ c ∷ []
in_order p q s c = simp append_assoc refl

first_open : (q r x : List Placed) (s c : Placed) → ((q ++ r) ++ s ∷ x) ++ c ∷ [] ≡ q ++ ((r ++ s ∷ x) ++ c ∷ [])
first_open q r x s c = simp append_assoc refl

first_whole : (p x : List Placed) (s c : Placed) → (p ++ s ∷ x) ++ c ∷ [] ≡ p ++ (s ∷ x ++ c ∷ [])
first_whole p x s c = simp append_assoc refl

second_open : (p q r : List Placed) (s c : Placed) → (p ++ s ∷ (q ++ r)) ++ c ∷ [] ≡ ((p ++ s ∷ []) ++ q) ++ (r ++ c ∷ [])
second_open p q r s c = simp append_assoc refl

body_open : (p q r : List Placed) (b : Placed) → p ++ b ∷ (q ++ r) ≡ ((p ++ b ∷ []) ++ q) ++ r
body_open p q r b = simp append_assoc refl

type_open : (q r x : List Placed) (b : Placed) → (q ++ r) ++ b ∷ x ≡ q ++ (r ++ b ∷ x)
type_open q r x b = simp append_assoc refl

module _ (names : Names) (l : ℕ) (text : List ℕ) where
  abbrev So : (Below l → State) → List ℕ → List Placed → Type 0
  So s bytes p = Passed names (Below l) (wants_term l) s text bytes p

  abbrev B : List Placed → Type 0
  B = BegunTerm names l

  -- any term
  abbrev some_term : List Placed
  some_term = at (l + 1) (Word (plain_word Truth)) ∷ []

  -- ---- too deep

  pub too_deep_round : (inner : List ℕ) → most ≤ l → cut text ≡ open_round ∷ cut inner → FailsTerm names l text (fault.GoesBeyond (length text))
  too_deep_round inner deep eq = goes_beyond names B (Below l) (wants_term l) (wants_term l) text text [] (nothing names (Below l) (wants_term l) text)
      open_round (l + 1) (cut inner) eq (some_term ++ at (l + 1) space ∷ some_term ++ at (l + 1) close_round ∷ [], _, apply (plain Truth) (plain Truth)) (omega arith)

  pub too_deep_brace : (inner : List ℕ) → most ≤ l → cut text ≡ open_brace ∷ cut inner → FailsTerm names l text (fault.GoesBeyond (length text))
  too_deep_brace inner deep eq = goes_beyond names B (Below l) (wants_term l) (wants_term l) text text [] (nothing names (Below l) (wants_term l) text)
      open_brace (l + 1) (cut inner) eq (name (l + 1) [] names.types ∷ at (l + 1) close_brace ∷ some_term, _, lambda (anything names (l + 1)) (plain Truth)) (omega arith)

  -- ---- parts one level deeper

  module _ (room : l < most) where
    pub deeper : l + 1 ≤ most
    deeper = omega arith

    up : (i : Below l) → level i.frames + 1 ≡ l + 1
    up i = ap (λ n. n + 1) i.is_level

    onto : (s t : Below l → State) (bytes rest : List ℕ) (p : List Placed) (x : Tok) → So s bytes p → cut bytes ≡ x ∷ cut rest →
        ((i : Below l) → step names (s i) x ≡ to (level i.frames + 1) (t i)) → So t rest (p ++ at (l + 1) x ∷ [])
    onto s t bytes rest p x g eq steps = one names (Below l) (wants_term l) text s t bytes rest p x (l + 1) (λ i. level i.frames + 1) g eq deeper steps up

    first : (t : Below l → State) (rest : List ℕ) (x : Tok) → cut text ≡ x ∷ cut rest → ((i : Below l) → want_term i.frames x ≡ to (level i.frames + 1) (t i)) → So t rest (at (l + 1) x ∷ [])
    first t rest x eq steps = onto (wants_term l) t text rest [] x (nothing names (Below l) (wants_term l) text) eq steps

    -- a term within a frame that stands one level deeper
    then_term : (f : Below l → Frame) (bytes rest : List ℕ) (p : List Placed) (t : Term) → So (λ i. WantTerm (f i ∷ i.frames)) bytes p →
        ((i : Below l) → level (f i ∷ i.frames) ≡ l + 1) → (h : GotTerm names (l + 1) bytes t rest) → So (λ i. end_term t (f i ∷ i.frames)) rest (p ++ h.placed)
    then_term f bytes rest p t g levels h = more names (Below l) (wants_term l) text (λ i. WantTerm (f i ∷ i.frames)) (λ i. end_term t (f i ∷ i.frames)) bytes rest p h.placed g
        h.tokens h.within (λ i ts. term_runs h.derived (f i ∷ i.frames) ts (levels i))

    term_fails : (f : Below l → Frame) (bytes : List ℕ) (p : List Placed) → So (λ i. WantTerm (f i ∷ i.frames)) bytes p →
        ((i : Below l) → level (f i ∷ i.frames) ≡ l + 1) → ((q : List Placed) → BegunTerm names (l + 1) q → B (p ++ q)) → (e : PartFault) → FailsTerm names (l + 1) bytes e → FailsTerm names l text e
    term_fails f bytes p g levels lift e h = fails_in names B (Below l) (wants_term l) (λ i. WantTerm (f i ∷ i.frames)) text bytes p g
        (BegunTerm names (l + 1)) (Below (l + 1)) (wants_term (l + 1)) lift (λ i. (record { frames = f i ∷ i.frames; is_level = levels i }, refl)) e h

    -- ---- an application

    module _ (inner : List ℕ) (eq : cut text ≡ open_round ∷ cut inner) where
      after_round : So (λ i. WantTerm (Function ∷ i.frames)) inner (at (l + 1) open_round ∷ [])
      after_round = first (λ i. WantTerm (Function ∷ i.frames)) inner open_round eq (λ i. refl)

      begun_function : (q : List Placed) → BegunTerm names (l + 1) q → B (at (l + 1) open_round ∷ q)
      begun_function q b = (
        (b.0 ++ at (l + 1) space ∷ some_term) ++ at (l + 1) close_round ∷ [],
        _,
        subst (λ p. IsTerm names l (at (l + 1) open_round ∷ p) (terms.App b.1 truth)) (first_open q b.0 some_term (at (l + 1) space) (at (l + 1) close_round)) (apply b.2 (plain Truth)),
      )

      pub no_function : (e : PartFault) → FailsTerm names (l + 1) inner e → FailsTerm names l text e
      no_function e h = term_fails (λ i. Function) inner _ after_round up begun_function e h

      module _ (f : Term) (end : List ℕ) (g : GotTerm names (l + 1) inner f end) where
        after_function : So (λ i. HaveTerm f (Function ∷ i.frames)) end (at (l + 1) open_round ∷ g.placed)
        after_function = then_term (λ i. Function) inner end _ f after_round up g

        no_other_space : (k : List Frame) (x : Tok) → (x ≡ space → ⊥) → have_term f (Function ∷ k) x ≡ None
        no_other_space k (Word w) bad = refl
        no_other_space k (Mark Space) bad = absurd (bad refl)
        no_other_space k (Mark _) bad = refl

        pub no_space : IsNot space (cut end) → FailsTerm names l text (fault.Stops (length end))
        no_space bad = stops_but names B (Below l) (wants_term l) (λ i. HaveTerm f (Function ∷ i.frames)) text end _ after_function Space (
          at (l + 1) space ∷ some_term ++ at (l + 1) close_round ∷ [],
          _,
          subst (λ p. IsTerm names l (at (l + 1) open_round ∷ p) (terms.App f truth)) (first_whole g.placed some_term (at (l + 1) space) (at (l + 1) close_round)) (apply g.derived (plain Truth)),
        )
            (λ i. refl) (λ i. no_other_space i.frames) bad

        module _ (second : List ℕ) (is : cut end ≡ space ∷ cut second) where
          after_space : So (λ i. WantTerm (Argument f ∷ i.frames)) second (at (l + 1) open_round ∷ (g.placed ++ at (l + 1) space ∷ []))
          after_space = onto (λ i. HaveTerm f (Function ∷ i.frames)) (λ i. WantTerm (Argument f ∷ i.frames)) end second _ space after_function is (λ i. refl)

          begun_argument : (q : List Placed) → BegunTerm names (l + 1) q → B (at (l + 1) open_round ∷ ((g.placed ++ at (l + 1) space ∷ []) ++ q))
          begun_argument q b = (
            b.0 ++ at (l + 1) close_round ∷ [],
            _,
            subst (λ p. IsTerm names l (at (l + 1) open_round ∷ p) (terms.App f b.1)) (second_open g.placed q b.0 (at (l + 1) space) (at (l + 1) close_round)) (apply g.derived b.2),
          )

          pub no_argument : (e : PartFault) → FailsTerm names (l + 1) second e → FailsTerm names l text e
          no_argument e h = term_fails (λ i. Argument f) second _ after_space up begun_argument e h

          module _ (x : Term) (close : List ℕ) (h : GotTerm names (l + 1) second x close) where
            after_argument : So (λ i. HaveTerm x (Argument f ∷ i.frames)) close (at (l + 1) open_round ∷ ((g.placed ++ at (l + 1) space ∷ []) ++ h.placed))
            after_argument = then_term (λ i. Argument f) second close _ x after_space up h

            whole : IsTerm names l (at (l + 1) open_round ∷ (((g.placed ++ at (l + 1) space ∷ []) ++ h.placed) ++ at (l + 1) close_round ∷ [])) (terms.App f x)
            whole = subst (λ p. IsTerm names l (at (l + 1) open_round ∷ p) (terms.App f x)) (in_order g.placed h.placed (at (l + 1) space) (at (l + 1) close_round)) (apply g.derived h.derived)

            no_other_close : (k : List Frame) (y : Tok) → (y ≡ close_round → ⊥) → have_term x (Argument f ∷ k) y ≡ None
            no_other_close k (Word w) bad = refl
            no_other_close k (Mark CloseRound) bad = absurd (bad refl)
            no_other_close k (Mark _) bad = refl

            pub no_close : IsNot close_round (cut close) → FailsTerm names l text (fault.Stops (length close))
            no_close bad = stops_but names B (Below l) (wants_term l) (λ i. HaveTerm x (Argument f ∷ i.frames)) text close _ after_argument CloseRound
                (at (l + 1) close_round ∷ [], _, whole) (λ i. refl) (λ i. no_other_close i.frames) bad

            pub application : (rest : List ℕ) → cut close ≡ close_round ∷ cut rest → GotTerm names l text (terms.App f x) rest
            application rest shut =
                let end = onto (λ i. HaveTerm x (Argument f ∷ i.frames)) (λ i. end_term (terms.App f x) i.frames) close rest _ close_round after_argument shut (λ i. refl) in
                record { placed = _; derived = whole; within = end.low; tokens = end.tokens }

    -- ---- a lambda

    module _ (inner : List ℕ) (eq : cut text ≡ open_brace ∷ cut inner) where
      after_brace : So (λ i. WantType (OfLambda ∷ i.frames)) inner (at (l + 1) open_brace ∷ [])
      after_brace = first (λ i. WantType (OfLambda ∷ i.frames)) inner open_brace eq (λ i. refl)

      begun_type : (q : List Placed) → BegunType names (l + 1) q → B (at (l + 1) open_brace ∷ q)
      begun_type q b = (
        b.0 ++ at (l + 1) close_brace ∷ some_term,
        _,
        subst (λ p. IsTerm names l (at (l + 1) open_brace ∷ p) (terms.Lam b.1 truth)) (type_open q b.0 some_term (at (l + 1) close_brace)) (lambda b.2 (plain Truth)),
      )

      pub no_bound_type : (e : PartFault) → FailsType names (l + 1) inner e → FailsTerm names l text e
      no_bound_type e h = fails_in names B (Below l) (wants_term l) (λ i. WantType (OfLambda ∷ i.frames)) text inner _ after_brace
          (BegunType names (l + 1)) (Below (l + 1)) (wants_type (l + 1)) begun_type (λ i. (record { frames = OfLambda ∷ i.frames; is_level = up i }, refl)) e h

      module _ (a : Ty) (end : List ℕ) (g : GotType names (l + 1) inner a end) where
        after_type : So (λ i. HaveType a (OfLambda ∷ i.frames)) end (at (l + 1) open_brace ∷ g.placed)
        after_type = more names (Below l) (wants_term l) text (λ i. WantType (OfLambda ∷ i.frames)) (λ i. HaveType a (OfLambda ∷ i.frames)) inner end _ g.placed after_brace
            g.tokens g.within (λ i ts. type_runs g.derived (OfLambda ∷ i.frames) ts (up i))

        no_other_brace : (k : List Frame) (y : Tok) → (y ≡ close_brace → ⊥) → have_type a (OfLambda ∷ k) y ≡ None
        no_other_brace k (Word w) bad = refl
        no_other_brace k (Mark CloseBrace) bad = absurd (bad refl)
        no_other_brace k (Mark _) bad = refl

        pub no_brace : IsNot close_brace (cut end) → FailsTerm names l text (fault.Stops (length end))
        no_brace bad = stops_but names B (Below l) (wants_term l) (λ i. HaveType a (OfLambda ∷ i.frames)) text end _ after_type CloseBrace
            (at (l + 1) close_brace ∷ some_term, _, lambda g.derived (plain Truth)) (λ i. refl) (λ i. no_other_brace i.frames) bad

        module _ (second : List ℕ) (is : cut end ≡ close_brace ∷ cut second) where
          after_closed : So (λ i. WantTerm (Body a ∷ i.frames)) second (at (l + 1) open_brace ∷ (g.placed ++ at (l + 1) close_brace ∷ []))
          after_closed = onto (λ i. HaveType a (OfLambda ∷ i.frames)) (λ i. WantTerm (Body a ∷ i.frames)) end second _ close_brace after_type is (λ i. refl)

          begun_body : (q : List Placed) → BegunTerm names (l + 1) q → B (at (l + 1) open_brace ∷ ((g.placed ++ at (l + 1) close_brace ∷ []) ++ q))
          begun_body q b = (
            b.0,
            _,
            subst (λ p. IsTerm names l (at (l + 1) open_brace ∷ p) (terms.Lam a b.1)) (body_open g.placed q b.0 (at (l + 1) close_brace)) (lambda g.derived b.2),
          )

          pub no_body : (e : PartFault) → FailsTerm names (l + 1) second e → FailsTerm names l text e
          no_body e h = term_fails (λ i. Body a) second _ after_closed up begun_body e h

          pub lambda_whole : (t : Term) (rest : List ℕ) → GotTerm names (l + 1) second t rest → GotTerm names l text (terms.Lam a t) rest
          lambda_whole t rest h =
              let end = then_term (λ i. Body a) second rest _ t after_closed up h in
              record {
                placed = at (l + 1) open_brace ∷ ((g.placed ++ at (l + 1) close_brace ∷ []) ++ h.placed);
                derived = subst (λ p. IsTerm names l (at (l + 1) open_brace ∷ p) (terms.Lam a t)) (sym (append_assoc g.placed (at (l + 1) close_brace ∷ []) h.placed)) (lambda g.derived h.derived);
                within = end.low;
                tokens = end.tokens;
              }
