-- No text has two answers, where what is derivable is walked through.
use Rattle.std.proofs.Common.{◌≡◌, ℕ, ◌-◌, ◌≤◌, ◌<◌, List, [], ◌∷◌, ◌++◌, length, Option, Some, None, inl, inr, refl, sym, ap, subst, append_assoc, ◌∙◌, arith}
use Rattle.std.proofs.lemmas.Bool.{cases_order, cases_lt}
use Rattle.std.specs.Prelude.{Result, Ok, Err, MatchResult}
use Rattle.first_fault.specs.declared.fault.Fault.{Fault}
use Rattle.first_fault.specs.declared.fault.Fault.TheVariants as fault
use Rattle.first_fault.specs.Levels.{Placed, put, Within}
use Rattle.first_fault.specs.Walk.{goes, run, Step, Goes, Done, Stuck, Run, after}
use Rattle.first_fault.specs.Fails.{Stops, Deepens, Fails, IsWithin, counted, end_of}
use Rattle.first_fault.proofs.Fronts.{put-append, goes-append, put_length}
use Rattle.first_fault.specs.Answers.{Begins, Reads, NoneGoesOn, SyntaxAt, TooDeepAt, Answer, Text, Syntax, TooDeep, IsAnswer, Refused, Tells}

module _ (T S V : Type 0) (walk : S → T → Option (Step S)) (accepted : S → Option V) (first : S) (D : List (Placed T) → V → Type 0)
    (complete : (p : List (Placed T)) (v : V) → D p v → run walk accepted first (put p []) ≡ goes p (Done (Some v))) where
  abbrev at : ℕ → T → Placed T
  at l x = record { tok = x; level = l }

  abbrev go : S → List T → Run V
  go s xs = run walk accepted s xs

  -- ---- walks and their ends

  not_done : (q p : List (Placed T)) (ds : V) → goes q (Done (Some ds)) ≡ goes p (Done None) → ⊥
  not_done [] [] ds h = cc
  not_done [] (x ∷ p) ds h = cc
  not_done (x ∷ q) [] ds h = cc
  not_done (x ∷ q) (y ∷ p) ds h = let tail : goes q (Done (Some ds)) ≡ goes p (Done None) = cc in not_done q p ds tail

  not_stuck : (q p : List (Placed T)) (ds : V) → goes q (Done (Some ds)) ≡ goes p Stuck → ⊥
  not_stuck [] [] ds h = cc
  not_stuck [] (x ∷ p) ds h = cc
  not_stuck (x ∷ q) [] ds h = cc
  not_stuck (x ∷ q) (y ∷ p) ds h = let tail : goes q (Done (Some ds)) ≡ goes p Stuck = cc in not_stuck q p ds tail

  same_end : (q p : List (Placed T)) (ds es : V) → goes q (Done (Some ds)) ≡ goes p (Done (Some es)) → ds ≡ es
  same_end [] [] ds es h = cc
  same_end [] (x ∷ p) ds es h = cc
  same_end (x ∷ q) [] ds es h = cc
  same_end (x ∷ q) (y ∷ p) ds es h = let tail : goes q (Done (Some ds)) ≡ goes p (Done (Some es)) = cc in same_end q p ds es tail

  none_after : (o : Option (Step S)) (f g : S → Run V) → after o f ≡ Stuck → after o g ≡ Stuck
  none_after None f g h = refl
  none_after (Some e) f g h = cc

  some_after : (o : Option (Step S)) (f g : S → Run V) (l : ℕ) (r : Run V) → ((s : S) → f s ≡ r → g s ≡ r) → after o f ≡ Goes l r → after o g ≡ Goes l r
  some_after None f g l r on h = cc
  some_after (Some e) f g l r on h =
      let level : e.level ≡ l = cc in
      let tail : f e.state ≡ r = cc in
      let more = on e.state tail in
      cc

  -- where the walk is stuck, what stands behind the token is not looked at
  stuck_same : (p : List (Placed T)) (s : S) (x : T) (rest others : List T) → go s (put p (x ∷ rest)) ≡ goes p Stuck → go s (put p (x ∷ others)) ≡ goes p Stuck
  stuck_same [] s x rest others h = none_after (walk s x) (λ t. go t rest) (λ t. go t others) h
  stuck_same (y ∷ p) s x rest others h = some_after (walk s y.tok) (λ t. go t (put p (x ∷ rest))) (λ t. go t (put p (x ∷ others))) y.level (goes p Stuck) (λ t. stuck_same p t x rest others) h

  pub none_goes_on : (p : List (Placed T)) (rest : List T) → go first (put p rest) ≡ goes p (end_of rest) → NoneGoesOn T V D p rest
  none_goes_on p [] h = λ q ds d e. not_done q p ds (sym (complete _ _ d) ∙ ap (λ xs. go first xs) e ∙ h)
  none_goes_on p (x ∷ rest) h = λ q ds others d e. not_stuck q p ds (sym (complete _ _ d) ∙ ap (λ xs. go first xs) e ∙ stuck_same p first x rest others h)

  module _ (m : ℕ) (ts : List T) (left : ℕ) where
    pub syntax_at : Stops T V m (Begins T V D) (Unit {0}) (λ u xs. go first xs) ts left → SyntaxAt T V D m ts (length ts - left)
    syntax_at h =
        let all = ap (λ xs. length xs) h.tokens ∙ put_length h.before h.rest in
        let count : length h.before ≡ length ts - left = let c = h.count in omega arith in
        record {
          before = h.before;
          rest = h.rest;
          tokens = h.tokens;
          count = count;
          begins = h.begins;
          within = h.within;
          stops = none_goes_on h.before h.rest (ap (λ xs. go first xs) (sym h.tokens) ∙ h.stuck tt);
        }

    pub syntax_left : Stops T V m (Begins T V D) (Unit {0}) (λ u xs. go first xs) ts left → left ≤ length ts
    syntax_left h = let all = ap (λ xs. length xs) h.tokens ∙ put_length h.before h.rest in let c = h.count in omega arith

    pub too_deep_at : Deepens T m (Begins T V D) ts left → TooDeepAt T V D m ts (length ts - left)
    too_deep_at h =
        let all = ap (λ xs. length xs) h.tokens ∙ put_length h.before (h.token ∷ h.rest) in
        let count : length h.before ≡ length ts - left = let c = h.count in omega arith in
        record { before = h.before; token = h.token; level = h.level; rest = h.rest; tokens = h.tokens; count = count; begins = h.begins; within = h.within; above = h.above }

    pub too_deep_left : Deepens T m (Begins T V D) ts left → left ≤ length ts
    too_deep_left h = let all = ap (λ xs. length xs) h.tokens ∙ put_length h.before (h.token ∷ h.rest) in let c = h.count in omega arith

  -- ---- levels do not depend on what comes later

  abbrev Leads : S → List (Placed T) → Type 0
  Leads s p = (xs : List T) × (r : Run V) × (go s (put p xs) ≡ goes p r)

  record Tail (o : Option (Step S)) (l : ℕ) (p : List (Placed T)) : Type 0 where
    pub made : Step S
    pub is : o ≡ Some made
    pub level_is : made.level ≡ l
    pub leads : Leads made.state p

  tail_of : (o : Option (Step S)) (l : ℕ) (p : List (Placed T)) (xs : List T) (r : Run V) → after o (λ t. go t (put p xs)) ≡ Goes l (goes p r) → Tail o l p
  tail_of None l p xs r h = cc
  tail_of (Some e) l p xs r h =
      let level : e.level ≡ l = cc in
      let tail : go e.state (put p xs) ≡ goes p r = cc in
      record { made = e; is = refl; level_is = level; leads = (xs, r, tail) }

  leads_tail : (s : S) (y : Placed T) (p : List (Placed T)) → Leads s (y ∷ p) → Tail (walk s y.tok) y.level p
  leads_tail s y p h = tail_of (walk s y.tok) y.level p h.0 h.1 h.2

  levels_agree : (p' p : List (Placed T)) (s : S) (x : T) (lev m : ℕ) (rest' rest : List T) → Leads s (p' ++ at lev x ∷ []) → Leads s p →
      put p rest ≡ put p' (x ∷ rest') → length p' < length p → Within m p → lev ≤ m
  levels_agree [] [] s x lev m rest' rest a b e short w = omega arith
  levels_agree [] (y ∷ p) s x lev m rest' rest a b e short w =
      let tok_is : y.tok ≡ x = cc in
      let ta = leads_tail s (at lev x) [] a in
      let tb = leads_tail s y p b in
      let steps : Some tb.made ≡ Some ta.made = sym tb.is ∙ ap (λ z. walk s z) tok_is ∙ ta.is in
      let same : tb.made ≡ ta.made = cc in
      let levels = ap (λ (z : Step S). z.level) same in
      let la = ta.level_is in let lb = tb.level_is in let low = w.0 in omega arith
  levels_agree (z ∷ p') [] s x lev m rest' rest a b e short w = omega arith
  levels_agree (z ∷ p') (y ∷ p) s x lev m rest' rest a b e short w =
      let tok_is : y.tok ≡ z.tok = cc in
      let rest_is : put p rest ≡ put p' (x ∷ rest') = cc in
      let ta = leads_tail s z (p' ++ at lev x ∷ []) a in
      let tb = leads_tail s y p b in
      let steps : Some tb.made ≡ Some ta.made = sym tb.is ∙ ap (λ z. walk s z) tok_is ∙ ta.is in
      let same : tb.made ≡ ta.made = cc in
      levels_agree p' p ta.made.state x lev m rest' rest ta.leads (subst (λ (k : Step S). Leads k.state p) same tb.leads) rest_is (omega arith) w.1

  leads : (p : List (Placed T)) → Begins T V D p → Leads first p
  leads p b = (
    put b.0 [],
    goes b.0 (Done (Some b.1)),
    ap (λ xs. go first xs) (sym (put-append p b.0 [])) ∙ complete _ _ b.2 ∙ goes-append p b.0 (Done (Some b.1)),
  )

  leads_text : (p : List (Placed T)) (ds : V) → D p ds → Leads first p
  leads_text p ds d = ([], Done (Some ds), complete _ _ d)

  begins_front : (p : List (Placed T)) (x : Placed T) → Begins T V D (p ++ x ∷ []) → Begins T V D p
  begins_front p x b = (x ∷ b.0, b.1, subst (λ q. D q b.1) (append_assoc p (x ∷ []) b.0) b.2)

  deep_below : (m : ℕ) (ts : List T) (i : ℕ) (t : TooDeepAt T V D m ts i) (p : List (Placed T)) (rest : List T) → Leads first p → Within m p → ts ≡ put p rest → length t.before < length p → ⊥
  deep_below m ts i t p rest l w e short =
      let low = levels_agree t.before p first t.token t.level m t.rest rest (leads (t.before ++ at t.level t.token ∷ []) t.begins) l (sym e ∙ t.tokens) short w in
      let high = t.above in
      omega arith

  -- ---- what goes on behind a stop

  same_front : (p' p : List (Placed T)) (x : T) (rest rest' ys : List T) → put p rest ≡ put p' (x ∷ rest') → length p' < length p → (others : List T) × (put p ys ≡ put p' (x ∷ others))
  same_front [] [] x rest rest' ys e short = absurd (omega arith)
  same_front [] (y ∷ p) x rest rest' ys e short = let is : y.tok ≡ x = cc in (put p ys, ap (λ z. z ∷ put p ys) is)
  same_front (z ∷ p') [] x rest rest' ys e short = absurd (omega arith)
  same_front (z ∷ p') (y ∷ p) x rest rest' ys e short =
      let is : y.tok ≡ z.tok = cc in
      let tail : put p rest ≡ put p' (x ∷ rest') = cc in
      let more = same_front p' p x rest rest' ys tail (omega arith) in
      let front = more.1 in
      (more.0, cc)

  stop_below : (before p : List (Placed T)) (rest rest' : List T) → NoneGoesOn T V D before rest' → put p rest ≡ put before rest' → Begins T V D p → length before < length p → ⊥
  stop_below before p rest [] stops e b short =
      let all = sym (put_length p rest) ∙ ap (λ xs. length xs) e ∙ put_length before [] in absurd (omega arith)
  stop_below before p rest (x ∷ rest') stops e b short =
      let more = same_front before p x rest rest' (put b.0 []) e short in
      stops (p ++ b.0) b.1 more.0 b.2 (put-append p b.0 [] ∙ more.1)

  no_text : (before p : List (Placed T)) (ds : V) (rest : List T) → NoneGoesOn T V D before rest → D p ds → put p [] ≡ put before rest → ⊥
  no_text before p ds [] stops d e = stops p ds d e
  no_text before p ds (x ∷ rest) stops d e = stops p ds rest d e

  module _ (m : ℕ) (ts : List T) where
    text_syntax : (ds : V) (i : ℕ) → Reads T V D m ts ds → SyntaxAt T V D m ts i → ⊥
    text_syntax ds i r s = no_text s.before r.placed ds s.rest s.stops r.derived (sym r.tokens ∙ s.tokens)

    text_deep : (ds : V) (i : ℕ) → Reads T V D m ts ds → TooDeepAt T V D m ts i → ⊥
    text_deep ds i r t =
        let all = sym (put_length r.placed []) ∙ ap (λ xs. length xs) (sym r.tokens ∙ t.tokens) ∙ put_length t.before (t.token ∷ t.rest) in
        deep_below m ts i t r.placed [] (leads_text r.placed ds r.derived) r.within r.tokens (omega arith)

    syntax_syntax : (i j : ℕ) → SyntaxAt T V D m ts i → SyntaxAt T V D m ts j → i < j → ⊥
    syntax_syntax i j s u less = stop_below s.before u.before u.rest s.rest s.stops (sym u.tokens ∙ s.tokens) u.begins (let a = s.count in let b = u.count in omega arith)

    syntax_deep : (i j : ℕ) → SyntaxAt T V D m ts i → TooDeepAt T V D m ts j → ⊥
    syntax_deep i j s t = elim (cases_lt j i) [
      | inl less ↦ deep_below m ts j t s.before s.rest (leads s.before s.begins) s.within s.tokens (let a = s.count in let b = t.count in omega arith)
      | inr more ↦
          let longer = put_length (t.before ++ at t.level t.token ∷ []) [] ∙ refl in
          let same = put-append t.before (at t.level t.token ∷ []) t.rest in
          let lengths = sym (put_length (t.before ++ at t.level t.token ∷ []) t.rest) ∙ ap (λ xs. length xs) same ∙ put_length t.before (t.token ∷ t.rest) in
          stop_below s.before (t.before ++ at t.level t.token ∷ []) t.rest s.rest s.stops (same ∙ sym t.tokens ∙ s.tokens) t.begins (let a = s.count in let b = t.count in omega arith)
    ]

    deep_deep : (i j : ℕ) → TooDeepAt T V D m ts i → TooDeepAt T V D m ts j → i < j → ⊥
    deep_deep i j s t less = deep_below m ts i s t.before (t.token ∷ t.rest) (leads t.before (begins_front t.before (at t.level t.token) t.begins)) t.within t.tokens (let a = s.count in let b = t.count in omega arith)

    same_place : (i j : ℕ) → (i < j → ⊥) → (j < i → ⊥) → i ≡ j
    same_place i j a b = elim (cases_order i j) [ inl e ↦ e | inr (inl less) ↦ absurd (a less) | inr (inr more) ↦ absurd (b more) ]

    pub one_answer : (a b : Answer V) → IsAnswer T V D m ts a → IsAnswer T V D m ts b → a ≡ b
    one_answer (Text ds) (Text es) r s = ap (λ fs. Text fs) (same_end r.placed s.placed ds es (sym (complete _ _ r.derived) ∙ ap (λ xs. go first xs) (sym r.tokens ∙ s.tokens) ∙ complete _ _ s.derived))
    one_answer (Text ds) (Syntax j) r s = absurd (text_syntax ds j r s)
    one_answer (Text ds) (TooDeep j) r s = absurd (text_deep ds j r s)
    one_answer (Syntax i) (Text es) r s = absurd (text_syntax es i s r)
    one_answer (Syntax i) (Syntax j) r s = ap (λ n. Syntax n) (same_place i j (syntax_syntax i j r s) (syntax_syntax j i s r))
    one_answer (Syntax i) (TooDeep j) r s = absurd (syntax_deep i j r s)
    one_answer (TooDeep i) (Text es) r s = absurd (text_deep es i s r)
    one_answer (TooDeep i) (Syntax j) r s = absurd (syntax_deep j i s r)
    one_answer (TooDeep i) (TooDeep j) r s = ap (λ n. TooDeep n) (same_place i j (deep_deep i j r s) (deep_deep j i s r))

    -- a fault of a whole text, counted from the front, is the text's
    pub refused : (e : Fault) → Fails T V m (Begins T V D) (Unit {0}) (λ u xs. go first xs) ts e → Refused T V D m ts (counted (length ts) e)
    refused (fault.Syntax left) h = syntax_at m ts left h
    refused (fault.TooDeep left) h = too_deep_at m ts left h
    refused fault.NoMemory h = tt

    pub is_within : (e : Fault) → Fails T V m (Begins T V D) (Unit {0}) (λ u xs. go first xs) ts e → IsWithin (length ts) e
    is_within (fault.Syntax left) h = syntax_left m ts left h
    is_within (fault.TooDeep left) h = too_deep_left m ts left h
    is_within fault.NoMemory h = tt

    -- what a reader answers is the one answer that the text has
    pub told : {X : Type 0} (view : X → V) (r : Result X Fault) → MatchResult r (λ x. Reads T V D m ts (view x)) (λ e. Refused T V D m ts e) →
        (a : Answer V) → IsAnswer T V D m ts a → MatchResult r (λ x. a ≡ Text (view x)) (λ e. Tells a e)
    told view (Ok x) h a is = one_answer a (Text (view x)) is h
    told view (Err (fault.Syntax place)) h a is = one_answer a (Syntax place) is h
    told view (Err (fault.TooDeep place)) h a is = one_answer a (TooDeep place) is h
    told view (Err fault.NoMemory) h a is = tt
