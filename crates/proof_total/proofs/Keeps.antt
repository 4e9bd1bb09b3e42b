-- Each token that the walk takes keeps what has come.
use Rattle.std.proofs.Common.{◌≡◌, ℕ, ◌+◌, if◌then◌else◌, Bool, true, false, List, [], ◌∷◌, ◌++◌, length, codes, decimal, Option, Some, None, refl, sym, ap, subst, ◌∙◌, append_assoc, append-nil, arith, length-append}
use Rattle.std.specs.Str.{bytes_eq}
use Rattle.hol_terms.specs.declared.ty.Ty.{Ty}
use Rattle.hol_terms.specs.declared.ty.Ty.TheVariants as types
use Rattle.hol_terms.specs.declared.term.Term.{Term}
use Rattle.hol_terms.specs.declared.term.Term.TheVariants as terms
use Rattle.kernel_rules.specs.declared.step.Step.{Step}
use Rattle.theory_terms.specs.Words.{place}
use Rattle.first_fault.proofs.Fronts.{regroup}
use Rattle.proof_syntax.specs.Tokens.{LineEnd, Space, Hash, Dollar, OpenRound, CloseRound, Dot, Colon, Greater, OpenSquare, CloseSquare, OpenBrace, CloseBrace, Tok, Word, Mark, space, colon, hash, dollar, dot, greater, open_round, close_round, open_square, close_square, open_brace, close_brace, line_end}
use Rattle.proof_syntax.specs.Names.{Names, number_of}
use Rattle.proof_syntax.specs.Forms.{FactArg, NumberArg, TypeArg, TermArg, form, Plain, plain_word, plain_konst, Typed, typed_word, typed_konst}
use Rattle.proof_syntax.specs.Grammar.{Placed, at, name, base, arrow, bound, free, named, plain, typed, apply, lambda, fact, number, type, term, AreArgs, none, more, AreSteps, end, step as step_}
use Rattle.proof_syntax.specs.Machine.{State, StepStart, LastEnd, StepSpace, RuleWord, Behind, WantArg, WantType, HaveType, WantTerm, HaveTerm, WantBound, WantFree, FreeColon, WantConst, TypedOpen, Frame, From, To, OfFree, OfTyped, OfLambda, Function, Argument, Body, InStep, level, end_term, end_type, Kind, FactKind, NumberKind, TypeKind, TermKind, Opened, with_arg, wanted, Rule, rule_in, rules, opened, made, behind, number_in, number_arg, want_arg, want_type, have_type, bound_is, free_is, plain_in, plains, typed_in, typeds, word_is, typed_is, want_term, have_term, step}
use Rattle.proof_syntax.proofs.Numbers.{number_only, eq_same}
use Rattle.proof_total.proofs.Found as found
use Rattle.proof_total.proofs.Rules.{rule_makes}
use Rattle.proof_total.proofs.Reached.{AtStep, AfterNumber, AtRule, AtArgs, AtArg, AfterTerm, AfterType, AtTerm, AtType, Reached, Keeps}

-- ---- the same tokens in other groups

push : (p : List Placed) (x : Placed) (q : List Placed) → p ++ (x ∷ q) ≡ (p ++ x ∷ []) ++ q
push p x q = sym (append_assoc p (x ∷ []) q)

split : (p : List Placed) (x : Placed) (q r : List Placed) → p ++ (x ∷ q ++ r) ≡ ((p ++ x ∷ []) ++ q) ++ r
split p x q r = sym (regroup p q r x)

both : (p : List Placed) (x : Placed) (q : List Placed) (y : Placed) (r : List Placed) (z : Placed) →
    p ++ (x ∷ q ++ y ∷ r ++ z ∷ []) ≡ ((p ++ x ∷ []) ++ q) ++ (y ∷ r ++ z ∷ [])
both p x q y r z = ap (λ all. p ++ all) (append_assoc (x ∷ q) (y ∷ r) (z ∷ [])) ∙ split p x q (y ∷ r ++ z ∷ [])

module _ (names : Names) (Whole : List Placed → List Step → Type 0) where
  -- ---- behind types and terms

  term_at : (k : List Frame) (u : Term) {p q : List Placed} → p ≡ q → AfterTerm names Whole k u p → AfterTerm names Whole k u q
  term_at k u e h = subst (λ z. AfterTerm names Whole k u z) e h

  type_at : (k : List Frame) (a : Ty) {p q : List Placed} → p ≡ q → AfterType names Whole k a p → AfterType names Whole k a q
  type_at k a e h = subst (λ z. AfterType names Whole k a z) e h

  step_at : (before : List Step) {p q : List Placed} → p ≡ q → AtStep names Whole before p → AtStep names Whole before q
  step_at before e h = subst (λ z. AtStep names Whole before z) e h

  term_ends : (k : List Frame) (u : Term) (p : List Placed) → AfterTerm names Whole k u p → Reached names Whole (end_term u k) p
  term_ends [] u p h = h
  term_ends (Body a ∷ k) u p h = term_ends k (terms.Lam a u) p h
  term_ends (InStep o kinds ∷ k) u p h = h
  term_ends (f ∷ k) u p h = h

  type_ends : (k : List Frame) (a : Ty) (p : List Placed) → AfterType names Whole k a p → Reached names Whole (end_type a k) p
  type_ends [] a p h = h
  type_ends (OfFree n ∷ k) a p h = term_ends k (terms.Free n a) p h
  type_ends (InStep o kinds ∷ k) a p h = h
  type_ends (f ∷ k) a p h = h

  -- a frame that is no deeper
  no_deeper : (k j : List Frame) (p : List Placed) → AtType names Whole (level k) j p → AtType names Whole (level k + 0) j p
  no_deeper k j p h = let same : level k ≡ level k + 0 = omega arith in subst (λ l. AtType names Whole l j p) same h

  -- ---- types

  want_type_keeps : (k : List Frame) (x : Tok) (p : List Placed) → AtType names Whole (level k) k p → Keeps names Whole p x (want_type names k x)
  want_type_keeps k (Word x) p h = type_ends k _ _ (h (name (level k) x names.types ∷ []) (types.Base (number_of (place x names.types))) base)
  want_type_keeps k (Mark OpenRound) p h = no_deeper k (From ∷ k) (p ++ at (level k) open_round ∷ [])
      (λ q a d r b e. type_at k (types.Arrow a b) (both p (at (level k) open_round) q (at (level k) greater) r (at (level k) close_round)) (h _ _ (arrow d e)))
  want_type_keeps k x p h = tt

  have_type_keeps : (a : Ty) (k : List Frame) (x : Tok) (p : List Placed) → AfterType names Whole k a p → Keeps names Whole p x (have_type a k x)
  have_type_keeps a (From ∷ k) (Mark Greater) p h = no_deeper k (To a ∷ k) (p ++ at (level k) greater ∷ [])
      (λ q b d. type_at k (types.Arrow a b) (split p (at (level k) greater) q (at (level k) close_round ∷ [])) (h q b d))
  have_type_keeps b (To a ∷ k) (Mark CloseRound) p h = type_ends k (types.Arrow a b) _ h
  have_type_keeps a (OfTyped c ∷ k) (Mark CloseSquare) p h = term_ends k (terms.Con (typed_konst c a)) _ h
  have_type_keeps a (OfLambda ∷ k) (Mark CloseBrace) p h = λ q b d. term_at k (terms.Lam a b) (push p (at (level k + 1) close_brace) q) (h q b d)
  have_type_keeps a k x p h = tt

  -- ---- terms

  bound_keeps : (k : List Frame) (w : List ℕ) (p : List Placed) (o : Option ℕ) → number_in w ≡ o → Reached names Whole (WantBound k) p → Keeps names Whole p (Word w) (bound_is k o)
  bound_keeps k w p None e h = tt
  bound_keeps k w p (Some n) e h =
      let is = number_only w n e in
      term_ends k (terms.Bound n) _ (term_at k (terms.Bound n) (ap (λ v. p ++ at (level k) (Word v) ∷ []) (sym is.1)) (h n is.0))

  free_keeps : (k : List Frame) (w : List ℕ) (p : List Placed) (o : Option ℕ) → number_in w ≡ o → Reached names Whole (WantFree k) p → Keeps names Whole p (Word w) (free_is k o)
  free_keeps k w p None e h = tt
  free_keeps k w p (Some n) e h =
      let is = number_only w n e in
      λ q a d. term_at k (terms.Free n a)
      (push p (at (level k) (Word (decimal n))) (at (level k) colon ∷ q) ∙ ap (λ v. (p ++ at (level k) (Word v) ∷ []) ++ (at (level k) colon ∷ q)) (sym is.1))
      (h n q a is.0 d)

  typed_keeps : (k : List Frame) (w : List ℕ) (p : List Placed) (o : Option Typed) → typed_in w typeds ≡ o → AtTerm names Whole (level k) k p → Keeps names Whole p (Word w) (typed_is k o)
  typed_keeps k w p None e h = tt
  typed_keeps k w p (Some c) e h =
      let is = found.found_word Typed typed_word w typeds c (sym (found.typed_is w typeds) ∙ e) in
      λ q a d. term_at k (terms.Con (typed_konst c a))
      (push p (at (level k) (Word (typed_word c))) (at (level k) open_square ∷ q ++ at (level k) close_square ∷ [])
      ∙ ap (λ v. (p ++ at (level k) (Word v) ∷ []) ++ (at (level k) open_square ∷ q ++ at (level k) close_square ∷ [])) (sym is))
      (h _ _ (typed c d))

  word_keeps : (k : List Frame) (w : List ℕ) (p : List Placed) (o : Option Plain) → plain_in w plains ≡ o → AtTerm names Whole (level k) k p → Keeps names Whole p (Word w) (word_is k w o)
  word_keeps k w p None e h = typed_keeps k w p (typed_in w typeds) refl h
  word_keeps k w p (Some c) e h =
      let is = found.found_word Plain plain_word w plains c (sym (found.plain_is w plains) ∙ e) in
      term_ends k (terms.Con (plain_konst c)) _ (term_at k (terms.Con (plain_konst c)) (ap (λ v. p ++ at (level k) (Word v) ∷ []) (sym is)) (h _ _ (plain c)))

  want_term_keeps : (k : List Frame) (x : Tok) (p : List Placed) → AtTerm names Whole (level k) k p → Keeps names Whole p x (want_term k x)
  want_term_keeps k (Word w) p h = word_keeps k w p (plain_in w plains) refl h
  want_term_keeps k (Mark Hash) p h = λ n low. term_at k (terms.Bound n) (push p (at (level k) hash) (at (level k) (Word (decimal n)) ∷ [])) (h _ _ (bound low))
  want_term_keeps k (Mark Dollar) p h = λ n q a low d.
      term_at k (terms.Free n a) (push p (at (level k) dollar) (at (level k) (Word (decimal n)) ∷ at (level k) colon ∷ q)) (h _ _ (free low d))
  want_term_keeps k (Mark Dot) p h = λ x. term_at k _ (push p (at (level k) dot) (name (level k) x names.consts ∷ [])) (h _ _ (named {x = x}))
  want_term_keeps k (Mark OpenRound) p h = λ q f d r x e.
      term_at k (terms.App f x) (both p (at (level k + 1) open_round) q (at (level k + 1) space) r (at (level k + 1) close_round)) (h _ _ (apply d e))
  want_term_keeps k (Mark OpenBrace) p h = λ q a d r b e.
      term_at k (terms.Lam a b) (split p (at (level k + 1) open_brace) q (at (level k + 1) close_brace ∷ r)) (h _ _ (lambda d e))
  want_term_keeps k x p h = tt

  have_term_keeps : (u : Term) (k : List Frame) (x : Tok) (p : List Placed) → AfterTerm names Whole k u p → Keeps names Whole p x (have_term u k x)
  have_term_keeps f (Function ∷ k) (Mark Space) p h = λ q x d.
      term_at k (terms.App f x) (split p (at (level k + 1) space) q (at (level k + 1) close_round ∷ [])) (h q x d)
  have_term_keeps x (Argument f ∷ k) (Mark CloseRound) p h = term_ends k (terms.App f x) _ h
  have_term_keeps u k x p h = tt

  -- ---- arguments

  number_keeps : (o : Opened) (kinds : List Kind) (w : List ℕ) (p : List Placed) (n : Option ℕ) → number_in w ≡ n → AtArg names Whole o NumberKind kinds p →
      Keeps names Whole p (Word w) (number_arg o kinds n)
  number_keeps o kinds w p None e h = tt
  number_keeps o kinds w p (Some n) e h =
      let is = number_only w n e in
      subst (λ v. AtArgs names Whole (with_arg o (NumberArg n) kinds) kinds (p ++ at 0 (Word v) ∷ [])) (sym is.1) (h _ (NumberArg n) refl (number is.0))

  want_arg_keeps : (o : Opened) (kind : Kind) (kinds : List Kind) (w : List ℕ) (p : List Placed) → AtArg names Whole o kind kinds p → Keeps names Whole p (Word w) (want_arg names o kind kinds w)
  want_arg_keeps o FactKind kinds w p h = h (name 0 w names.facts ∷ []) (FactArg (number_of (place w names.facts))) refl fact
  want_arg_keeps o NumberKind kinds w p h = number_keeps o kinds w p (number_in w) refl h
  want_arg_keeps o kind kinds w p h = tt

  -- behind a space comes an argument
  next_arg : (o : Opened) (kind : Kind) (kinds : List Kind) (p : List Placed) → AtArgs names Whole o (kind ∷ kinds) p → AtArg names Whole o kind kinds (p ++ at 0 space ∷ [])
  next_arg o kind kinds p h = λ q a is d r args are ds.
      let all = h (at 0 space ∷ q ++ r) (a ∷ args) ((λ i. is i ∷ are i)) (more d ds) in (
        all.0,
        ap (λ xs. o.make xs) (append_assoc o.done (a ∷ []) args) ∙ all.1,
        step_at (o.before ++ all.0 ∷ []) (ap (λ z. p ++ z) (append_assoc (at 0 space ∷ q) r (at 0 line_end ∷ [])) ∙ split p (at 0 space) q (r ++ at 0 line_end ∷ [])) all.2,
      )

  wanted_keeps : (o : Opened) (kind : Kind) (kinds : List Kind) (p : List Placed) → AtArg names Whole o kind kinds p → Reached names Whole (wanted o kind kinds) p
  wanted_keeps o TypeKind kinds p h = λ q a d. h q (TypeArg a) refl (type d)
  wanted_keeps o TermKind kinds p h = λ q u d. h q (TermArg u) refl (term d)
  wanted_keeps o FactKind kinds p h = h
  wanted_keeps o NumberKind kinds p h = h

  behind_keeps : (o : Opened) (kinds : List Kind) (x : Tok) (p : List Placed) → AtArgs names Whole o kinds p → Keeps names Whole p x (behind o kinds x)
  behind_keeps o [] (Mark LineEnd) p h =
      let all = h [] [] refl none in
      subst (λ s. Keeps names Whole p line_end (made o.before s)) (sym (ap (λ xs. o.make xs) (sym (append-nil o.done)) ∙ all.1)) all.2
  behind_keeps o (kind ∷ kinds) (Mark Space) p h = wanted_keeps o kind kinds (p ++ at 0 space ∷ []) (next_arg o kind kinds p h)
  behind_keeps o kinds x p h = tt

  -- ---- steps

  rule_keeps : (before : List Step) (w : List ℕ) (p : List Placed) (o : Option Rule) → rule_in w rules ≡ o → AtRule names Whole before p → Keeps names Whole p (Word w) (opened before o)
  rule_keeps before w p None e h = tt
  rule_keeps before w p (Some r) e h =
      let is : w ≡ r.word = found.found_word Rule found.rule_word w rules r (sym (found.rule_is w rules) ∙ e) in
      λ q args are ds.
      let all = rule_makes w r e args are in
      let given : AreArgs names q (form all.0).args = subst (λ f. AreArgs names q f.args) (sym all.2) ds in
      let word : (form all.0).word ≡ w = ap (λ f. f.word) all.2 ∙ sym is in
      let line = q ++ at 0 line_end ∷ [] in (
        all.0,
        all.1,
        step_at (before ++ all.0 ∷ []) (ap (λ v. p ++ (at 0 (Word v) ∷ line)) word ∙ push p (at 0 (Word w)) line) (h q all.0 given),
      )

  -- one step more
  step_joins : (p : List Placed) (n space_ w : Placed) (q : List Placed) (e : Placed) (r : List Placed) →
      p ++ (n ∷ space_ ∷ w ∷ q ++ e ∷ r) ≡ ((p ++ n ∷ []) ++ (space_ ∷ w ∷ q ++ e ∷ [])) ++ r
  step_joins p n space_ w q e r =
      push p n (space_ ∷ w ∷ q ++ e ∷ r) ∙ ap (λ z. (p ++ n ∷ []) ++ z) (sym (append_assoc (space_ ∷ w ∷ q) (e ∷ []) r)) ∙ sym (append_assoc (p ++ n ∷ []) (space_ ∷ w ∷ q ++ e ∷ []) r)

  number_comes : (before : List Step) (p : List Placed) → AtStep names Whole before p → AfterNumber names Whole before (p ++ at 0 (Word (decimal (length before))) ∷ [])
  number_comes before p h = λ q s d r steps ds.
      let count : length (before ++ s ∷ []) ≡ length before + 1 = omega (arith, length-append before (s ∷ [])) in
      let more_ : AreSteps names (length before + 1) r steps = subst (λ n. AreSteps names n r steps) count ds in
      let whole = h _ _ (step_ {s = s} d more_) in
      let joined = step_joins p (at 0 (Word (decimal (length before)))) (at 0 space) (at 0 (Word (form s).word)) q (at 0 line_end) r in
      subst (λ z. Whole z ((before ++ s ∷ []) ++ steps)) joined (subst (λ all. Whole (p ++ (at 0 (Word (decimal (length before))) ∷ at 0 space ∷ at 0 (Word (form s).word) ∷ q ++ at 0 line_end ∷ r)) all) (sym (append_assoc before (s ∷ []) steps)) whole)

  end_comes : (before : List Step) (p : List Placed) → AtStep names Whole before p → Whole ((p ++ at 0 (Word (codes "end")) ∷ []) ++ at 0 line_end ∷ []) before
  end_comes before p h =
      subst (λ z. Whole z before) (push p (at 0 (Word (codes "end"))) (at 0 line_end ∷ [])) (subst (λ all. Whole (p ++ (at 0 (Word (codes "end")) ∷ at 0 line_end ∷ [])) all) (append-nil before) (h _ [] end))

  start_keeps : (before : List Step) (w : List ℕ) (p : List Placed) (a b : Bool) → bytes_eq w (decimal (length before)) ≡ a → bytes_eq w (codes "end") ≡ b → AtStep names Whole before p →
      Keeps names Whole p (Word w) (if a then Some (record { level = 0; state = StepSpace before }) else if b then Some (record { level = 0; state = LastEnd before }) else None)
  start_keeps before w p true b e f h =
      subst (λ v. AfterNumber names Whole before (p ++ at 0 (Word v) ∷ [])) (sym (eq_same w (decimal (length before)) e)) (number_comes before p h)
  start_keeps before w p false true e f h =
      subst (λ v. Whole ((p ++ at 0 (Word v) ∷ []) ++ at 0 line_end ∷ []) before) (sym (eq_same w (codes "end") f)) (end_comes before p h)
  start_keeps before w p false false e f h = tt

  -- ---- each token

  pub step_keeps : (s : State) (x : Tok) (p : List Placed) → Reached names Whole s p → Keeps names Whole p x (step names s x)
  step_keeps (StepStart before) (Word w) p h = start_keeps before w p (bytes_eq w (decimal (length before))) (bytes_eq w (codes "end")) refl refl h
  step_keeps (LastEnd before) (Mark LineEnd) p h = h
  step_keeps (StepSpace before) (Mark Space) p h = λ q s d. step_at (before ++ s ∷ []) (push p (at 0 space) (at 0 (Word (form s).word) ∷ q ++ at 0 line_end ∷ [])) (h q s d)
  step_keeps (RuleWord before) (Word w) p h = rule_keeps before w p (rule_in w rules) refl h
  step_keeps (Behind o) x p h = behind_keeps o o.kinds x p h
  step_keeps (WantArg o kind kinds) (Word w) p h = want_arg_keeps o kind kinds w p h
  step_keeps (WantType k) x p h = want_type_keeps k x p h
  step_keeps (HaveType a k) x p h = have_type_keeps a k x p h
  step_keeps (WantTerm k) x p h = want_term_keeps k x p h
  step_keeps (HaveTerm u k) x p h = have_term_keeps u k x p h
  step_keeps (WantBound k) (Word w) p h = bound_keeps k w p (number_in w) refl h
  step_keeps (WantFree k) (Word w) p h = free_keeps k w p (number_in w) refl h
  step_keeps (FreeColon n k) (Mark Colon) p h = no_deeper k (OfFree n ∷ k) (p ++ at (level k) colon ∷ [])
      (λ q a d. term_at k (terms.Free n a) (push p (at (level k) colon) q) (h q a d))
  step_keeps (WantConst k) (Word x) p h = term_ends k _ _ (h x)
  step_keeps (TypedOpen c k) (Mark OpenSquare) p h = no_deeper k (OfTyped c ∷ k) (p ++ at (level k) open_square ∷ [])
      (λ q a d. term_at k (terms.Con (typed_konst c a)) (split p (at (level k) open_square) q (at (level k) close_square ∷ [])) (h q a d))
  step_keeps _ x p h = tt
