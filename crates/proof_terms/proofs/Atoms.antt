-- The ways out of the readers of variables and constants.
use Rattle.std.proofs.Common.{◌≡◌, inl, inr, ℕ, ◌+◌, ◌≤◌, ◌<◌, ◌^◌, Option, Some, None, Bool, true, false, if◌then◌else◌, List, [], ◌∷◌, ◌++◌, length, codes, decimal, refl, sym, ap, subst, append_assoc, ◌∙◌, arith}
use Rattle.std.specs.Str.{bytes_eq}
use Rattle.hol_terms.specs.declared.ty.Ty.{Ty}
use Rattle.hol_terms.specs.declared.konst.Konst.TheVariants as konst
use Rattle.hol_terms.specs.declared.term.Term.{Term}
use Rattle.hol_terms.specs.declared.term.Term.TheVariants as terms
use Rattle.theory_terms.specs.Words.{place}
use Rattle.proof_words.specs.Sharing.{Shares, IsOneOf}
use Rattle.proof_syntax.specs.declared.fault.PartFault.{PartFault}
use Rattle.proof_syntax.specs.declared.fault.PartFault.TheVariants as fault
use Rattle.proof_syntax.specs.Tokens.{Tok, Word, Mark, Hash, Dollar, Dot, Colon, OpenRound, OpenBrace, OpenSquare, CloseSquare, cut, hash, dollar, dot, colon, open_square, close_square}
use Rattle.proof_syntax.specs.Names.{Names, number_of}
use Rattle.proof_syntax.specs.Forms.{Plain, Truth, Falsity, Not, And, Or, Imp, plain_word, plain_konst, Typed, Eq, All, Ex, Eps, typed_word, typed_konst}
use Rattle.proof_syntax.specs.Grammar.{Placed, at, most, name_level, IsTerm, bound, free, named, plain, typed}
use Rattle.proof_syntax.specs.Machine.{Frame, OfFree, OfTyped, level, State, WantType, HaveType, WantTerm, WantBound, WantFree, FreeColon, WantConst, TypedOpen, end_type, end_term, step, to, want_term, have_type, word_is, bound_is, free_is, plain_in, plains}
use Rattle.proof_syntax.specs.Parts.{GotType, FailsType, BegunType, wants_type, GotTerm, FailsTerm, BegunTerm, wants_term, Below, IsNot}
use Rattle.proof_syntax.proofs.Numbers.{number_back, eq_same, eq_false}
use Rattle.proof_syntax.proofs.Complete.{type_runs, typed_step}
use Rattle.proof_syntax.proofs.Inside.{Refuses}
use Rattle.proof_terms.specs.Fronts.{GotName, FailsName, GotNumber, FailsNumber}
use Rattle.proof_terms.specs.Terms.{NoTerm, term_words}
use Rattle.proof_terms.proofs.Passed.{Passed, nothing, more, one, stops, stops_but, stops_in, fails_in}
use Rattle.proof_terms.proofs.Wanted.{no_number_there, no_name_there}
use Rattle.proof_terms.proofs.Around.{anything}

-- ---- the words of terms

plain_at : (w : List ℕ) (k a : Plain) (ks : List Plain) (t : Bool) → bytes_eq w (plain_word k) ≡ t → (plain_in w ks ≡ Some a → w ≡ plain_word a) →
    (if t then Some k else plain_in w ks) ≡ Some a → w ≡ plain_word a
plain_at w k a ks true e rest h = let same : k ≡ a = cc in eq_same w (plain_word k) e ∙ ap plain_word same
plain_at w k a ks false e rest h = rest h

plain_only : (w : List ℕ) (ks : List Plain) (a : Plain) → plain_in w ks ≡ Some a → w ≡ plain_word a
plain_only w [] a h = cc
plain_only w (k ∷ ks) a h = plain_at w k a ks (bytes_eq w (plain_word k)) refl (plain_only w ks a) h

-- a word that none of them is, is unknown
unknown : (k : List Frame) (v : List ℕ) → (IsOneOf term_words v → ⊥) → want_term k (Word v) ≡ None
unknown k v none =
    let a = eq_false v (codes "true") (λ e. none (inl e)) in
    let b = eq_false v (codes "false") (λ e. none (inr (inl e))) in
    let c = eq_false v (codes "not") (λ e. none (inr (inr (inl e)))) in
    let d = eq_false v (codes "and") (λ e. none (inr (inr (inr (inl e))))) in
    let f = eq_false v (codes "or") (λ e. none (inr (inr (inr (inr (inl e)))))) in
    let g = eq_false v (codes "imp") (λ e. none (inr (inr (inr (inr (inr (inl e))))))) in
    let h = eq_false v (codes "eq") (λ e. none (inr (inr (inr (inr (inr (inr (inl e)))))))) in
    let i = eq_false v (codes "all") (λ e. none (inr (inr (inr (inr (inr (inr (inr (inl e))))))))) in
    let j = eq_false v (codes "ex") (λ e. none (inr (inr (inr (inr (inr (inr (inr (inr (inl e)))))))))) in
    let m = eq_false v (codes "eps") (λ e. none (inr (inr (inr (inr (inr (inr (inr (inr (inr (inl e))))))))))) in
    rw (a, b, c, d, f, g, h, i, j, m) refl

-- ---- the readers

module _ (names : Names) (l : ℕ) (room : l ≤ most) (text : List ℕ) where
  abbrev So : (Below l → State) → List ℕ → List Placed → Type 0
  So s bytes p = Passed names (Below l) (wants_term l) s text bytes p

  abbrev B : List Placed → Type 0
  B = BegunTerm names l

  -- the token of a state that stands at the level of the part
  onto : (s t : Below l → State) (bytes rest : List ℕ) (p : List Placed) (x : Tok) → So s bytes p → cut bytes ≡ x ∷ cut rest →
      ((i : Below l) → step names (s i) x ≡ to (level i.frames) (t i)) → So t rest (p ++ at l x ∷ [])
  onto s t bytes rest p x g eq steps = one names (Below l) (wants_term l) text s t bytes rest p x l (λ i. level i.frames) g eq room steps (λ i. i.is_level)

  first : (t : Below l → State) (rest : List ℕ) (x : Tok) → cut text ≡ x ∷ cut rest → ((i : Below l) → want_term i.frames x ≡ to (level i.frames) (t i)) → So t rest (at l x ∷ [])
  first t rest x eq steps = onto (wants_term l) t text rest [] x (nothing names (Below l) (wants_term l) text) eq steps

  -- a type within a frame that stands at the same level
  then_type : (f : Below l → Frame) (bytes rest : List ℕ) (p : List Placed) (a : Ty) → So (λ i. WantType (f i ∷ i.frames)) bytes p →
      ((i : Below l) → level (f i ∷ i.frames) ≡ l) → (h : GotType names l bytes a rest) → So (λ i. end_type a (f i ∷ i.frames)) rest (p ++ h.placed)
  then_type f bytes rest p a g levels h = more names (Below l) (wants_term l) text (λ i. WantType (f i ∷ i.frames)) (λ i. end_type a (f i ∷ i.frames)) bytes rest p h.placed g
      h.tokens h.within (λ i ts. type_runs h.derived (f i ∷ i.frames) ts (levels i))

  type_fails : (f : Below l → Frame) (bytes : List ℕ) (p : List Placed) → So (λ i. WantType (f i ∷ i.frames)) bytes p →
      ((i : Below l) → level (f i ∷ i.frames) ≡ l) → ((q : List Placed) → BegunType names l q → B (p ++ q)) → (e : PartFault) → FailsType names l bytes e → FailsTerm names l text e
  type_fails f bytes p g levels lift e h = fails_in names B (Below l) (wants_term l) (λ i. WantType (f i ∷ i.frames)) text bytes p g
      (BegunType names l) (Below l) (wants_type l) lift (λ i. (record { frames = f i ∷ i.frames; is_level = levels i }, refl)) e h

  got : (s : Below l → State) (t : Term) (rest : List ℕ) (p : List Placed) → So s rest p → IsTerm names l p t → GotTerm names l text t rest
  got s t rest p g d = record { placed = p; derived = d; within = g.low; tokens = g.tokens }

  -- ---- an index

  module _ (digits : List ℕ) (eq : cut text ≡ hash ∷ cut digits) where
    after_hash : So (λ i. WantBound i.frames) digits (at l hash ∷ [])
    after_hash = first (λ i. WantBound i.frames) digits hash eq (λ i. refl)

    pub index : (n : ℕ) (rest : List ℕ) → GotNumber digits n rest → GotTerm names l text (terms.Bound n) rest
    index n rest h = got (λ i. end_term (terms.Bound n) i.frames) (terms.Bound n) rest _
        (onto (λ i. WantBound i.frames) (λ i. end_term (terms.Bound n) i.frames) digits rest (at l hash ∷ []) (Word (decimal n)) after_hash h.tokens
        (λ i. ap (λ o. bound_is i.frames o) (number_back n h.small))) (bound h.small)

    pub no_index : (e : PartFault) → FailsNumber digits e → FailsTerm names l text e
    no_index e h = no_number_there names B (Below l) (wants_term l) (λ i. WantBound i.frames) text digits (at l hash ∷ []) after_hash
        (at l (Word (decimal 0)) ∷ [], _, bound (omega arith)) (λ i. refl) (λ i m. refl)
        l (λ n small. ([], _, bound small)) (λ i w none. ap (λ o. bound_is i.frames o) none) e h

  -- ---- a free variable

  module _ (digits : List ℕ) (eq : cut text ≡ dollar ∷ cut digits) where
    after_dollar : So (λ i. WantFree i.frames) digits (at l dollar ∷ [])
    after_dollar = first (λ i. WantFree i.frames) digits dollar eq (λ i. refl)

    variable : (n : ℕ) → n < 2 ^ 64 → B (at l dollar ∷ at l (Word (decimal n)) ∷ [])
    variable n small = (at l colon ∷ _, _, free small (anything names l))

    pub no_variable : (e : PartFault) → FailsNumber digits e → FailsTerm names l text e
    no_variable e h = no_number_there names B (Below l) (wants_term l) (λ i. WantFree i.frames) text digits (at l dollar ∷ []) after_dollar
        (at l (Word (decimal 0)) ∷ at l colon ∷ _, _, free (omega arith) (anything names l)) (λ i. refl) (λ i m. refl)
        l variable (λ i w none. ap (λ o. free_is i.frames o) none) e h

    module _ (n : ℕ) (end : List ℕ) (h : GotNumber digits n end) where
      after_number : So (λ i. FreeColon n i.frames) end (at l dollar ∷ at l (Word (decimal n)) ∷ [])
      after_number = onto (λ i. WantFree i.frames) (λ i. FreeColon n i.frames) digits end (at l dollar ∷ []) (Word (decimal n)) after_dollar h.tokens
          (λ i. ap (λ o. free_is i.frames o) (number_back n h.small))

      no_other : (k : List Frame) (x : Tok) → (x ≡ colon → ⊥) → step names (FreeColon n k) x ≡ None
      no_other k (Word w) bad = refl
      no_other k (Mark Colon) bad = absurd (bad refl)
      no_other k (Mark _) bad = refl

      pub no_colon : IsNot colon (cut end) → FailsTerm names l text (fault.Stops (length end))
      no_colon bad = stops_but names B (Below l) (wants_term l) (λ i. FreeColon n i.frames) text end _ after_number Colon (variable n h.small)
          (λ i. refl) (λ i. no_other i.frames) bad

      module _ (inner : List ℕ) (is : cut end ≡ colon ∷ cut inner) where
        of_free : (i : Below l) → level (OfFree n ∷ i.frames) ≡ l
        of_free i = let h = i.is_level in omega arith

        after_colon : So (λ i. WantType (OfFree n ∷ i.frames)) inner (at l dollar ∷ at l (Word (decimal n)) ∷ at l colon ∷ [])
        after_colon = onto (λ i. FreeColon n i.frames) (λ i. WantType (OfFree n ∷ i.frames)) end inner (at l dollar ∷ at l (Word (decimal n)) ∷ []) colon after_number is (λ i. refl)

        pub no_variable_type : (e : PartFault) → FailsType names l inner e → FailsTerm names l text e
        no_variable_type e f = type_fails (λ i. OfFree n) inner _ after_colon of_free (λ q b. (b.0, _, free h.small b.2)) e f

        pub free_variable : (a : Ty) (rest : List ℕ) → GotType names l inner a rest → GotTerm names l text (terms.Free n a) rest
        free_variable a rest g = got (λ i. end_term (terms.Free n a) i.frames) (terms.Free n a) rest _ (then_type (λ i. OfFree n) inner rest _ a after_colon of_free g) (free h.small g.derived)

  -- ---- a named constant

  module _ (bytes : List ℕ) (eq : cut text ≡ dot ∷ cut bytes) where
    after_dot : So (λ i. WantConst i.frames) bytes (at l dot ∷ [])
    after_dot = first (λ i. WantConst i.frames) bytes dot eq (λ i. refl)

    abbrev Named : List ℕ → Option ℕ → Type 0
    Named x o = IsTerm names l (at l dot ∷ at (name_level l o) (Word x) ∷ []) (terms.Con (konst.Named (number_of o)))

    pub constant : (n : ℕ) (rest : List ℕ) → GotName names.consts bytes n rest → GotTerm names l text (terms.Con (konst.Named n)) rest
    constant n rest h = got (λ i. end_term (terms.Con (konst.Named n)) i.frames) (terms.Con (konst.Named n)) rest _
        (onto (λ i. WantConst i.frames) (λ i. end_term (terms.Con (konst.Named n)) i.frames) bytes rest (at l dot ∷ []) (Word h.name) after_dot h.tokens
        (λ i. ap (λ o. to (name_level (level i.frames) o) (end_term (terms.Con (konst.Named (number_of o))) i.frames)) h.number))
        (subst (Named h.name) h.number named)

    pub no_constant : (e : PartFault) → FailsName names.consts bytes e → FailsTerm names l text e
    no_constant e h = no_name_there names B (Below l) (wants_term l) (λ i. WantConst i.frames) text bytes (at l dot ∷ []) after_dot
        (at (name_level l (place [] names.consts)) (Word []) ∷ [], _, named) (λ i. refl) (λ i m. refl) names.consts
        (λ x none. ([], _, subst (Named x) none named)) e h

  -- ---- a word

  module _ (w rest : List ℕ) (eq : cut text ≡ Word w ∷ cut rest) where
    pub plain_constant : (a : Plain) → plain_in w plains ≡ Some a → GotTerm names l text (terms.Con (plain_konst a)) rest
    plain_constant a is = got (λ i. end_term (terms.Con (plain_konst a)) i.frames) (terms.Con (plain_konst a)) rest _
        (first (λ i. end_term (terms.Con (plain_konst a)) i.frames) rest (Word w) eq (λ i. ap (λ o. word_is i.frames w o) is))
        (subst (λ v. IsTerm names l (at l (Word v) ∷ []) (terms.Con (plain_konst a))) (sym (plain_only w plains a is)) (plain a))

    pub no_word_of_terms : (n left : ℕ) → left + n ≡ length text → Shares (IsOneOf term_words) w n → FailsTerm names l text (fault.Stops left)
    no_word_of_terms n left count shares = stops_in names B (Below l) (wants_term l) (wants_term l) text text [] (nothing names (Below l) (wants_term l) text)
        (IsOneOf term_words) l w (cut rest) n left (at l (Word (plain_word Truth)) ∷ [], _, plain Truth) eq count shares meant (λ i v none. unknown i.frames v none)
      where
        of_plain : (a : Plain) (v : List ℕ) → v ≡ plain_word a → B (at l (Word v) ∷ [])
        of_plain a v e = subst (λ v. B (at l (Word v) ∷ [])) (sym e) ([], _, plain a)

        of_typed : (a : Typed) (v : List ℕ) → v ≡ typed_word a → B (at l (Word v) ∷ [])
        of_typed a v e = subst (λ v. B (at l (Word v) ∷ [])) (sym e) (at l open_square ∷ _, _, typed a (anything names l))

        meant : (v : List ℕ) → IsOneOf term_words v → B (at l (Word v) ∷ [])
        meant v (inl e) = of_plain Truth v e
        meant v (inr (inl e)) = of_plain Falsity v e
        meant v (inr (inr (inl e))) = of_plain Not v e
        meant v (inr (inr (inr (inl e)))) = of_plain And v e
        meant v (inr (inr (inr (inr (inl e))))) = of_plain Or v e
        meant v (inr (inr (inr (inr (inr (inl e)))))) = of_plain Imp v e
        meant v (inr (inr (inr (inr (inr (inr (inl e))))))) = of_typed Eq v e
        meant v (inr (inr (inr (inr (inr (inr (inr (inl e)))))))) = of_typed All v e
        meant v (inr (inr (inr (inr (inr (inr (inr (inr (inl e))))))))) = of_typed Ex v e
        meant v (inr (inr (inr (inr (inr (inr (inr (inr (inr (inl e)))))))))) = of_typed Eps v e
        meant v (inr (inr (inr (inr (inr (inr (inr (inr (inr (inr e)))))))))) = absurd e

  -- ---- a word and a type

  module _ (a : Typed) (bytes : List ℕ) (eq : cut text ≡ Word (typed_word a) ∷ cut bytes) where
    after_word : So (λ i. TypedOpen a i.frames) bytes (at l (Word (typed_word a)) ∷ [])
    after_word = first (λ i. TypedOpen a i.frames) bytes (Word (typed_word a)) eq (λ i. typed_step a i.frames)

    no_other_open : (k : List Frame) (x : Tok) → (x ≡ open_square → ⊥) → step names (TypedOpen a k) x ≡ None
    no_other_open k (Word w) bad = refl
    no_other_open k (Mark OpenSquare) bad = absurd (bad refl)
    no_other_open k (Mark _) bad = refl

    pub no_open : IsNot open_square (cut bytes) → FailsTerm names l text (fault.Stops (length bytes))
    no_open bad = stops_but names B (Below l) (wants_term l) (λ i. TypedOpen a i.frames) text bytes _ after_word OpenSquare
        (at l open_square ∷ _, _, typed a (anything names l)) (λ i. refl) (λ i. no_other_open i.frames) bad

    module _ (inner : List ℕ) (is : cut bytes ≡ open_square ∷ cut inner) where
      of_typed : (i : Below l) → level (OfTyped a ∷ i.frames) ≡ l
      of_typed i = let h = i.is_level in omega arith

      after_open : So (λ i. WantType (OfTyped a ∷ i.frames)) inner (at l (Word (typed_word a)) ∷ at l open_square ∷ [])
      after_open = onto (λ i. TypedOpen a i.frames) (λ i. WantType (OfTyped a ∷ i.frames)) bytes inner (at l (Word (typed_word a)) ∷ []) open_square after_word is (λ i. refl)

      begun_with : (q : List Placed) → BegunType names l q → B (at l (Word (typed_word a)) ∷ at l open_square ∷ q)
      begun_with q b = (
        b.0 ++ at l close_square ∷ [],
        _,
        subst (λ p. IsTerm names l (at l (Word (typed_word a)) ∷ at l open_square ∷ p) (terms.Con (typed_konst a b.1))) (append_assoc q b.0 (at l close_square ∷ [])) (typed a b.2),
      )

      pub no_type : (e : PartFault) → FailsType names l inner e → FailsTerm names l text e
      no_type e f = type_fails (λ i. OfTyped a) inner _ after_open of_typed begun_with e f

      module _ (b : Ty) (end : List ℕ) (g : GotType names l inner b end) where
        after_type : So (λ i. HaveType b (OfTyped a ∷ i.frames)) end (at l (Word (typed_word a)) ∷ at l open_square ∷ g.placed)
        after_type = then_type (λ i. OfTyped a) inner end _ b after_open of_typed g

        no_other_close : (k : List Frame) (x : Tok) → (x ≡ close_square → ⊥) → have_type b (OfTyped a ∷ k) x ≡ None
        no_other_close k (Word w) bad = refl
        no_other_close k (Mark CloseSquare) bad = absurd (bad refl)
        no_other_close k (Mark _) bad = refl

        pub no_close : IsNot close_square (cut end) → FailsTerm names l text (fault.Stops (length end))
        no_close bad = stops_but names B (Below l) (wants_term l) (λ i. HaveType b (OfTyped a ∷ i.frames)) text end _ after_type CloseSquare
            (at l close_square ∷ [], _, typed a g.derived) (λ i. refl) (λ i. no_other_close i.frames) bad

        pub typed_constant : (rest : List ℕ) → cut end ≡ close_square ∷ cut rest → GotTerm names l text (terms.Con (typed_konst a b)) rest
        typed_constant rest shut = got (λ i. end_term (terms.Con (typed_konst a b)) i.frames) (terms.Con (typed_konst a b)) rest _
            (onto (λ i. HaveType b (OfTyped a ∷ i.frames)) (λ i. end_term (terms.Con (typed_konst a b)) i.frames) end rest _ close_square after_type shut (λ i. refl))
            (typed a g.derived)

  -- ---- nothing that begins a term

  pub no_term : NoTerm (cut text) → FailsTerm names l text (fault.Stops (length text))
  no_term bad = stops names B (Below l) (wants_term l) (wants_term l) text text [] (nothing names (Below l) (wants_term l) text)
      (at l (Word (plain_word Truth)) ∷ [], _, plain Truth) (λ i. refused i.frames (cut text) bad)
    where
      refused : (k : List Frame) (ts : List Tok) → NoTerm ts → Refuses names (WantTerm k) ts
      refused k [] bad = refl
      refused k (Word w ∷ ts) bad = absurd bad
      refused k (Mark Hash ∷ ts) bad = absurd bad
      refused k (Mark Dollar ∷ ts) bad = absurd bad
      refused k (Mark Dot ∷ ts) bad = absurd bad
      refused k (Mark OpenRound ∷ ts) bad = absurd bad
      refused k (Mark OpenBrace ∷ ts) bad = absurd bad
      refused k (Mark _ ∷ ts) bad = refl
