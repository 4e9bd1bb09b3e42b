-- The ways out of the readers of declarations and of whole files.
use Rattle.std.proofs.Common.{◌≡◌, ℕ, ◌<◌, List, [], ◌∷◌, ◌++◌, length, refl, sym, ap, subst, append_assoc, append-nil, ◌∙◌, arith}
use Rattle.first_fault.specs.declared.fault.Fault.{Fault}
use Rattle.first_fault.specs.declared.fault.Fault.TheVariants as fault
use Rattle.theory_syntax.specs.declared.tokens.Word.{Word}
use Rattle.theory_syntax.specs.declared.tokens.Tok.{Tok}
use Rattle.theory_syntax.specs.declared.tokens.Tok.TheVariants as tok
use Rattle.theory_syntax.specs.declared.tree.TyTree.{TyTree}
use Rattle.theory_syntax.specs.declared.tree.Tree.{Tree}
use Rattle.theory_syntax.specs.declared.tree.Hyp.{Hyp}
use Rattle.theory_syntax.specs.declared.tree.Item.{Item}
use Rattle.theory_syntax.specs.declared.tree.Item.TheVariants as item
use Rattle.theory_syntax.specs.declared.front.Heading.{Heading}
use Rattle.theory_syntax.specs.declared.front.Heading.TheVariants as heading
use Rattle.theory_syntax.specs.Grammar.{Placed, at, Whole, single, base, Formula, name, AreHyps, no_hyp, Declares, a_type, a_const, a_fact, a_goal, IsTheory, empty, decl}
use Rattle.theory_syntax.specs.Machine.{put, goes, run, InConst, InFact, InGoal, Stage, Main, Have, HaveTy, Top, TypeName, TypeEnd, ItemName, ItemColon, Goes, Ends, EndsTy}
use Rattle.theory_syntax.specs.Reading.{Within, Begins}
use Rattle.theory_syntax.specs.inner.Front.{opening, stated}
use Rattle.theory_syntax.specs.inner.Parts.{Got, Begun, Fault_of, GotTy, BegunTy, Fault_of_ty, stance_ty, Below, stance, IsNot, NoWord, NoItem, end_of, InGoalAt, in_goal, BegunHyps, Fault_of_hyps, GotHyps, GotItem, Fault_of_item}
use Rattle.theory_syntax.proofs.Complete.{complete, complete_ty}
use Rattle.theory_syntax.proofs.CompleteText.{complete_item}
use Rattle.theory_syntax.proofs.Pieces.{put-append, goes-append, put_length, inside, here, within-append}
use Rattle.theory_syntax.proofs.TermPieces.{anon, as_neg, as_formula}

-- a declaration alone is a file
alone : {p : List Placed} {d : Item} → Declares p d → IsTheory p (d ∷ [])
alone {p = p} {d = d} c = subst (λ q. IsTheory q (d ∷ [])) (append-nil p) (decl c empty)

-- the three tokens before what is stated
abbrev three : Tok → Word → List Placed → List Placed
three o x p = at 0 o ∷ at 0 (tok.Word x) ∷ at 0 tok.Colon ∷ p

within_three : (m : ℕ) (o : Tok) (x : Word) (p : List Placed) → Within m p → Within m (three o x p)
within_three m o x p w = (omega arith, (omega arith, (omega arith, w)))

-- at 0 the limit is kept
within_one : (m : ℕ) (x : Tok) → Within m (at 0 x ∷ [])
within_one m x = (omega arith, tt)

shorter_by : (ts : List Tok) (o : Tok) (p : List Placed) (rest : List Tok) → ts ≡ put (at 0 o ∷ p) rest → length rest < length ts
shorter_by ts o p rest e = let all = ap (λ xs. length xs) e ∙ put_length (at 0 o ∷ p) rest in omega arith

module _ (m : ℕ) (ts : List Tok) where
  pub no_item : 0 < length ts → NoItem ts → Fault_of_item m ts (fault.Syntax (length ts))
  no_item some bad = here m Begins (List Item) Top [] ts ts refl tt ([], [], empty) (λ ds. stuck ts some bad ds)
    where
      stuck : (us : List Tok) → 0 < length us → NoItem us → (ds : List Item) → run (Top ds) us ≡ end_of us
      stuck [] some bad ds = absurd (omega arith)
      stuck (tok.Type ∷ us) some bad ds = absurd bad
      stuck (tok.Const ∷ us) some bad ds = absurd bad
      stuck (tok.Fact ∷ us) some bad ds = absurd bad
      stuck (tok.Goal ∷ us) some bad ds = absurd bad
      stuck (_ ∷ us) some bad ds = refl

  -- ---- a type

  module _ (named : List Tok) (type_is : ts ≡ tok.Type ∷ named) where
    pub no_type_name : NoWord named → Fault_of_item m ts (fault.Syntax (length named))
    no_type_name bad = here m Begins (List Item) Top (at 0 tok.Type ∷ []) ts named type_is (within_one m tok.Type)
        (at 0 (tok.Word anon) ∷ at 0 tok.Semi ∷ [], _, alone a_type)
        (λ ds. ap (λ xs. run (Top ds) xs) type_is ∙ ap (λ r. Goes 0 r) (stuck named bad ds))
      where
        stuck : (us : List Tok) → NoWord us → (ds : List Item) → run (TypeName ds) us ≡ end_of us
        stuck [] bad ds = refl
        stuck (tok.Word x ∷ us) bad ds = absurd (bad x us refl)
        stuck (_ ∷ us) bad ds = refl

    module _ (x : Word) (end : List Tok) (name_is : named ≡ tok.Word x ∷ end) where
      type_front : ts ≡ tok.Type ∷ tok.Word x ∷ end
      type_front = type_is ∙ ap (λ xs. tok.Type ∷ xs) name_is

      pub no_type_end : IsNot tok.Semi end → Fault_of_item m ts (fault.Syntax (length end))
      no_type_end bad = here m Begins (List Item) Top (at 0 tok.Type ∷ at 0 (tok.Word x) ∷ []) ts end type_front (omega arith, within_one m (tok.Word x))
          (at 0 tok.Semi ∷ [], _, alone a_type)
          (λ ds. ap (λ xs. run (Top ds) xs) type_front ∙ ap (λ r. Goes 0 (Goes 0 r)) (stuck end bad ds))
        where
          stuck : (us : List Tok) → IsNot tok.Semi us → (ds : List Item) → run (TypeEnd x ds) us ≡ end_of us
          stuck [] bad ds = refl
          stuck (tok.Semi ∷ us) bad ds = absurd (bad us refl)
          stuck (_ ∷ us) bad ds = refl

      pub type_ok : (rest : List Tok) → end ≡ tok.Semi ∷ rest → GotItem m ts (item.Type x) rest
      type_ok rest semi_is =
          let tokens : ts ≡ put (at 0 tok.Type ∷ at 0 (tok.Word x) ∷ at 0 tok.Semi ∷ []) rest = type_front ∙ ap (λ xs. tok.Type ∷ tok.Word x ∷ xs) semi_is in
          record {
            placed = at 0 tok.Type ∷ at 0 (tok.Word x) ∷ at 0 tok.Semi ∷ [];
            derived = a_type;
            within = (omega arith, (omega arith, within_one m tok.Semi));
            tokens = tokens;
            shorter = shorter_by ts tok.Type (at 0 (tok.Word x) ∷ at 0 tok.Semi ∷ []) rest tokens;
            walks = λ ds. ap (λ xs. run (Top ds) xs) tokens;
          }

  -- ---- the name and the colon of the others

  module _ (h : Heading) (named : List Tok) (word_is : ts ≡ opening h ∷ named) where
    opened : (ds : List Item) → run (Top ds) ts ≡ Goes 0 (run (ItemName (stated h) ds) named)
    opened ds = ap (λ xs. run (Top ds) xs) word_is ∙ takes h
      where
        takes : (k : Heading) → run (Top ds) (opening k ∷ named) ≡ Goes 0 (run (ItemName (stated k) ds) named)
        takes heading.Const = refl
        takes heading.Fact = refl
        takes heading.Goal = refl

    -- some declaration goes on behind the word, the name, the colon
    some : (k : Heading) (x : Word) → (q : List Placed) × (d : Item) × Declares (three (opening k) x q) d
    some heading.Const x = (at 0 (tok.Word anon) ∷ at 0 tok.Semi ∷ [], _, a_const (single base))
    some heading.Fact x = (at 0 (tok.Word anon) ∷ at 0 tok.Semi ∷ [], _, a_fact (as_formula (as_neg name)))
    some heading.Goal x = (at 0 (tok.Word anon) ∷ at 0 tok.Semi ∷ [], _, a_goal (as_formula (as_neg name)) no_hyp)

    pub no_name : NoWord named → Fault_of_item m ts (fault.Syntax (length named))
    no_name bad = here m Begins (List Item) Top (at 0 (opening h) ∷ []) ts named word_is (within_one m (opening h))
        (let s = some h anon in (at 0 (tok.Word anon) ∷ at 0 tok.Colon ∷ s.0, _, alone s.2))
        (λ ds. opened ds ∙ ap (λ r. Goes 0 r) (stuck named bad ds))
      where
        stuck : (us : List Tok) → NoWord us → (ds : List Item) → run (ItemName (stated h) ds) us ≡ end_of us
        stuck [] bad ds = refl
        stuck (tok.Word x ∷ us) bad ds = absurd (bad x us refl)
        stuck (_ ∷ us) bad ds = refl

    module _ (x : Word) (after_name : List Tok) (name_is : named ≡ tok.Word x ∷ after_name) where
      pub no_colon : IsNot tok.Colon after_name → Fault_of_item m ts (fault.Syntax (length after_name))
      no_colon bad = here m Begins (List Item) Top (at 0 (opening h) ∷ at 0 (tok.Word x) ∷ []) ts after_name (word_is ∙ ap (λ xs. opening h ∷ xs) name_is)
          (omega arith, within_one m (tok.Word x))
          (let s = some h x in (at 0 tok.Colon ∷ s.0, _, alone s.2))
          (λ ds. opened ds ∙ ap (λ r. Goes 0 r) (ap (λ xs. run (ItemName (stated h) ds) xs) name_is ∙ ap (λ r. Goes 0 r) (stuck after_name bad ds)))
        where
          stuck : (us : List Tok) → IsNot tok.Colon us → (ds : List Item) → run (ItemColon (stated h) x ds) us ≡ end_of us
          stuck [] bad ds = refl
          stuck (tok.Colon ∷ us) bad ds = absurd (bad us refl)
          stuck (_ ∷ us) bad ds = refl

  -- ---- a constant

  module _ (x : Word) (body : List Tok) (front : ts ≡ tok.Const ∷ tok.Word x ∷ tok.Colon ∷ body) where
    below_const : List Item → Below 0 0
    below_const ds = record { frames = InConst x ds ∷ []; is_level = refl; is_rank = omega arith }

    pub const_fails : (e : Fault) → Fault_of_ty m 0 Whole body e → Fault_of_item m ts e
    unfolding below_const
    const_fails e h = inside m Begins (BegunTy 0 Whole) (List Item) (Below 0 0) Top (stance_ty 0)
        (three tok.Const x []) ts body front (within_three m tok.Const x [] tt)
        (λ q b. (
          b.0 ++ at 0 tok.Semi ∷ [],
          _,
          subst (λ p. IsTheory (three tok.Const x p) (item.Const x b.1 ∷ [])) (append_assoc q b.0 (at 0 tok.Semi ∷ [])) (alone (a_const b.2)),
        ))
        (λ ds. (below_const ds, ap (λ xs. run (Top ds) xs) front))
        e h

    module _ (a : TyTree) (end : List Tok) (g : GotTy m 0 Whole body a end) where
      const_tokens : ts ≡ put (three tok.Const x g.placed) end
      const_tokens = front ∙ ap (λ xs. tok.Const ∷ tok.Word x ∷ tok.Colon ∷ xs) g.tokens

      const_walk : (ds : List Item) → run (Top ds) ts ≡ goes (three tok.Const x g.placed) (run (HaveTy a (InConst x ds ∷ [])) end)
      const_walk ds = ap (λ xs. run (Top ds) xs) const_tokens ∙ ap (λ r. Goes 0 (Goes 0 (Goes 0 r))) (complete_ty g.derived (InConst x ds ∷ []) end refl g.ends)

      pub const_no_semi : IsNot tok.Semi end → Fault_of_item m ts (fault.Syntax (length end))
      const_no_semi bad = here m Begins (List Item) Top (three tok.Const x g.placed) ts end const_tokens (within_three m tok.Const x g.placed g.within)
          (at 0 tok.Semi ∷ [], _, alone (a_const g.derived))
          (λ ds. const_walk ds ∙ ap (λ r. goes (three tok.Const x g.placed) r) (stuck end g.ends bad ds))
        where
          stuck : (us : List Tok) → EndsTy Whole us → IsNot tok.Semi us → (ds : List Item) → run (HaveTy a (InConst x ds ∷ [])) us ≡ end_of us
          stuck [] e bad ds = refl
          stuck (tok.Arrow ∷ us) e bad ds = absurd e
          stuck (tok.Semi ∷ us) e bad ds = absurd (bad us refl)
          stuck (_ ∷ us) e bad ds = refl

      pub const_ok : (rest : List Tok) → end ≡ tok.Semi ∷ rest → GotItem m ts (item.Const x a) rest
      const_ok rest semi_is =
          let p = g.placed ++ at 0 tok.Semi ∷ [] in
          let tokens : ts ≡ put (three tok.Const x p) rest =
          const_tokens ∙ ap (λ xs. tok.Const ∷ tok.Word x ∷ tok.Colon ∷ xs) (ap (λ xs. put g.placed xs) semi_is ∙ sym (put-append g.placed (at 0 tok.Semi ∷ []) rest)) in
          record {
            placed = three tok.Const x p;
            derived = a_const g.derived;
            within = within_three m tok.Const x p (within-append m g.placed (at 0 tok.Semi ∷ []) g.within (within_one m tok.Semi));
            tokens = tokens;
            shorter = shorter_by ts tok.Const (at 0 (tok.Word x) ∷ at 0 tok.Colon ∷ p) rest tokens;
            walks = λ ds. ap (λ xs. run (Top ds) xs) tokens ∙ complete_item (a_const g.derived) ds rest;
          }

  -- ---- a fact

  module _ (x : Word) (body : List Tok) (front : ts ≡ tok.Fact ∷ tok.Word x ∷ tok.Colon ∷ body) where
    below_fact : List Item → Below 0 6
    below_fact ds = record { frames = InFact x ds ∷ []; is_level = refl; is_rank = omega arith }

    pub fact_fails : (e : Fault) → Fault_of m 0 Formula body e → Fault_of_item m ts e
    unfolding below_fact
    fact_fails e h = inside m Begins (Begun 0 Formula) (List Item) (Below 0 6) Top (stance 0 Formula)
        (three tok.Fact x []) ts body front (within_three m tok.Fact x [] tt)
        (λ q b. (
          b.0 ++ at 0 tok.Semi ∷ [],
          _,
          subst (λ p. IsTheory (three tok.Fact x p) (item.Fact x b.1 ∷ [])) (append_assoc q b.0 (at 0 tok.Semi ∷ [])) (alone (a_fact b.2)),
        ))
        (λ ds. (below_fact ds, ap (λ xs. run (Top ds) xs) front))
        e h

    module _ (t : Tree) (end : List Tok) (g : Got m 0 Formula body t end) where
      fact_tokens : ts ≡ put (three tok.Fact x g.placed) end
      fact_tokens = front ∙ ap (λ xs. tok.Fact ∷ tok.Word x ∷ tok.Colon ∷ xs) g.tokens

      fact_walk : (ds : List Item) → run (Top ds) ts ≡ goes (three tok.Fact x g.placed) (run (Have t (InFact x ds ∷ [])) end)
      fact_walk ds = ap (λ xs. run (Top ds) xs) fact_tokens ∙ ap (λ r. Goes 0 (Goes 0 (Goes 0 r))) (complete g.derived 2 (InFact x ds ∷ []) end (omega arith) refl (omega arith) g.ends)

      pub fact_no_semi : IsNot tok.Semi end → Fault_of_item m ts (fault.Syntax (length end))
      fact_no_semi bad = here m Begins (List Item) Top (three tok.Fact x g.placed) ts end fact_tokens (within_three m tok.Fact x g.placed g.within)
          (at 0 tok.Semi ∷ [], _, alone (a_fact g.derived))
          (λ ds. fact_walk ds ∙ ap (λ r. goes (three tok.Fact x g.placed) r) (stuck end g.ends bad ds))
        where
          stuck : (us : List Tok) → Ends 6 us → IsNot tok.Semi us → (ds : List Item) → run (Have t (InFact x ds ∷ [])) us ≡ end_of us
          stuck [] e bad ds = refl
          stuck (tok.Word y ∷ us) e bad ds = absurd (omega arith)
          stuck (tok.Truth b n ∷ us) e bad ds = absurd (omega arith)
          stuck (tok.Open n ∷ us) e bad ds = absurd (omega arith)
          stuck (tok.Equal ∷ us) e bad ds = absurd (omega arith)
          stuck (tok.Amp ∷ us) e bad ds = absurd (omega arith)
          stuck (tok.Bar ∷ us) e bad ds = absurd (omega arith)
          stuck (tok.Imp ∷ us) e bad ds = absurd (omega arith)
          stuck (tok.Semi ∷ us) e bad ds = absurd (bad us refl)
          stuck (_ ∷ us) e bad ds = refl

      pub fact_ok : (rest : List Tok) → end ≡ tok.Semi ∷ rest → GotItem m ts (item.Fact x t) rest
      fact_ok rest semi_is =
          let p = g.placed ++ at 0 tok.Semi ∷ [] in
          let tokens : ts ≡ put (three tok.Fact x p) rest =
          fact_tokens ∙ ap (λ xs. tok.Fact ∷ tok.Word x ∷ tok.Colon ∷ xs) (ap (λ xs. put g.placed xs) semi_is ∙ sym (put-append g.placed (at 0 tok.Semi ∷ []) rest)) in
          record {
            placed = three tok.Fact x p;
            derived = a_fact g.derived;
            within = within_three m tok.Fact x p (within-append m g.placed (at 0 tok.Semi ∷ []) g.within (within_one m tok.Semi));
            tokens = tokens;
            shorter = shorter_by ts tok.Fact (at 0 (tok.Word x) ∷ at 0 tok.Colon ∷ p) rest tokens;
            walks = λ ds. ap (λ xs. run (Top ds) xs) tokens ∙ complete_item (a_fact g.derived) ds rest;
          }

  -- ---- a goal

  module _ (x : Word) (body : List Tok) (front : ts ≡ tok.Goal ∷ tok.Word x ∷ tok.Colon ∷ body) where
    below_goal : List Item → Below 0 6
    below_goal ds = record { frames = InGoal (Main x) ds ∷ []; is_level = refl; is_rank = omega arith }

    pub goal_fails : (e : Fault) → Fault_of m 0 Formula body e → Fault_of_item m ts e
    unfolding below_goal
    goal_fails e h = inside m Begins (Begun 0 Formula) (List Item) (Below 0 6) Top (stance 0 Formula)
        (three tok.Goal x []) ts body front (within_three m tok.Goal x [] tt)
        (λ q b. (
          b.0 ++ at 0 tok.Semi ∷ [],
          _,
          subst (λ p. IsTheory (three tok.Goal x p) (item.Goal x b.1 [] ∷ [])) (append_assoc q b.0 (at 0 tok.Semi ∷ [])) (alone (a_goal b.2 no_hyp)),
        ))
        (λ ds. (below_goal ds, ap (λ xs. run (Top ds) xs) front))
        e h

    module _ (t : Tree) (supposed : List Tok) (g : Got m 0 Formula body t supposed) where
      goal_tokens : ts ≡ put (three tok.Goal x g.placed) supposed
      goal_tokens = front ∙ ap (λ xs. tok.Goal ∷ tok.Word x ∷ tok.Colon ∷ xs) g.tokens

      here_in_goal : List Item → InGoalAt
      here_in_goal ds = record { stage = Main x; tree = t; before = ds }

      goal_walk : (ds : List Item) → run (Top ds) ts ≡ goes (three tok.Goal x g.placed) (run (Have t (InGoal (Main x) ds ∷ [])) supposed)
      goal_walk ds = ap (λ xs. run (Top ds) xs) goal_tokens ∙ ap (λ r. Goes 0 (Goes 0 (Goes 0 r))) (complete g.derived 2 (InGoal (Main x) ds ∷ []) supposed (omega arith) refl (omega arith) g.ends)

      pub hyps_fail : (e : Fault) → Fault_of_hyps m supposed e → Fault_of_item m ts e
      unfolding here_in_goal
      hyps_fail e h = inside m Begins BegunHyps (List Item) InGoalAt Top in_goal (three tok.Goal x g.placed) ts supposed goal_tokens (within_three m tok.Goal x g.placed g.within)
          (λ q b. (
            b.0 ++ at 0 tok.Semi ∷ [],
            _,
            subst (λ p. IsTheory (three tok.Goal x p) (item.Goal x t b.1 ∷ []))
                (ap (λ r. g.placed ++ r) (append_assoc q b.0 (at 0 tok.Semi ∷ [])) ∙ sym (append_assoc g.placed q (b.0 ++ at 0 tok.Semi ∷ []))) (alone (a_goal g.derived b.2)),
          ))
          (λ ds. (here_in_goal ds, goal_walk ds))
          e h

      module _ (hs : List Hyp) (end : List Tok) (s : GotHyps m supposed hs end) where
        hyps_are : AreHyps s.placed hs
        hyps_are = subst (λ q. AreHyps q hs) (append-nil s.placed) (subst (λ es. AreHyps (s.placed ++ []) es) (append-nil hs) (s.joins [] [] no_hyp))

        all_tokens : ts ≡ put (three tok.Goal x (g.placed ++ s.placed)) end
        all_tokens = goal_tokens ∙ ap (λ xs. tok.Goal ∷ tok.Word x ∷ tok.Colon ∷ xs) (ap (λ xs. put g.placed xs) s.tokens ∙ sym (put-append g.placed s.placed end))

        all_within : Within m (three tok.Goal x (g.placed ++ s.placed))
        all_within = within_three m tok.Goal x (g.placed ++ s.placed) (within-append m g.placed s.placed g.within s.within)

        pub goal_no_semi : IsNot tok.Assume end → IsNot tok.Semi end → Fault_of_item m ts (fault.Syntax (length end))
        unfolding here_in_goal
        goal_no_semi none bad = here m Begins (List Item) Top (three tok.Goal x (g.placed ++ s.placed)) ts end all_tokens all_within
            (at 0 tok.Semi ∷ [], _, subst (λ p. IsTheory (three tok.Goal x p) (item.Goal x t hs ∷ [])) (sym (append_assoc g.placed s.placed (at 0 tok.Semi ∷ []))) (alone (a_goal g.derived hyps_are)))
            (λ ds. goal_walk ds ∙ ap (λ r. goes (three tok.Goal x g.placed) r) (s.walks (here_in_goal ds) ∙
            ap (λ r. goes s.placed r) (stuck end s.ends none bad (s.stage (here_in_goal ds)) (s.last (here_in_goal ds)) ds)) ∙
            ap (λ r. Goes 0 (Goes 0 (Goes 0 r))) (sym (goes-append g.placed s.placed (end_of end))))
          where
            stuck : (us : List Tok) → Ends 6 us → IsNot tok.Assume us → IsNot tok.Semi us → (k : Stage) (u : Tree) (ds : List Item) → run (Have u (InGoal k ds ∷ [])) us ≡ end_of us
            stuck [] e none bad k u ds = refl
            stuck (tok.Word y ∷ us) e none bad k u ds = absurd (omega arith)
            stuck (tok.Truth b n ∷ us) e none bad k u ds = absurd (omega arith)
            stuck (tok.Open n ∷ us) e none bad k u ds = absurd (omega arith)
            stuck (tok.Equal ∷ us) e none bad k u ds = absurd (omega arith)
            stuck (tok.Amp ∷ us) e none bad k u ds = absurd (omega arith)
            stuck (tok.Bar ∷ us) e none bad k u ds = absurd (omega arith)
            stuck (tok.Imp ∷ us) e none bad k u ds = absurd (omega arith)
            stuck (tok.Semi ∷ us) e none bad k u ds = absurd (bad us refl)
            stuck (tok.Assume ∷ us) e none bad k u ds = absurd (none us refl)
            stuck (_ ∷ us) e none bad k u ds = refl

        pub goal_ok : (rest : List Tok) → end ≡ tok.Semi ∷ rest → GotItem m ts (item.Goal x t hs) rest
        goal_ok rest semi_is =
            let p = g.placed ++ (s.placed ++ at 0 tok.Semi ∷ []) in
            let tokens : ts ≡ put (three tok.Goal x p) rest =
            goal_tokens ∙ ap (λ xs. tok.Goal ∷ tok.Word x ∷ tok.Colon ∷ xs) (ap (λ xs. put g.placed xs) (s.tokens ∙ ap (λ xs. put s.placed xs) semi_is ∙ sym (put-append s.placed (at 0 tok.Semi ∷ []) rest)) ∙
            sym (put-append g.placed (s.placed ++ at 0 tok.Semi ∷ []) rest)) in
            let derived : Declares (three tok.Goal x p) (item.Goal x t hs) = a_goal g.derived hyps_are in
            record {
              placed = three tok.Goal x p;
              derived = derived;
              within = within_three m tok.Goal x p (within-append m g.placed (s.placed ++ at 0 tok.Semi ∷ []) g.within (within-append m s.placed (at 0 tok.Semi ∷ []) s.within (within_one m tok.Semi)));
              tokens = tokens;
              shorter = shorter_by ts tok.Goal (at 0 (tok.Word x) ∷ at 0 tok.Colon ∷ p) rest tokens;
              walks = λ ds. ap (λ xs. run (Top ds) xs) tokens ∙ complete_item derived ds rest;
            }
