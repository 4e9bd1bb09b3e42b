-- The ways out of the readers of assumptions.
use Rattle.std.proofs.Common.{◌≡◌, ℕ, List, [], ◌∷◌, ◌++◌, length, refl, sym, ap, subst, append_assoc, append-nil, ◌∙◌, arith}
use Rattle.first_fault.specs.declared.fault.Fault.{Fault}
use Rattle.first_fault.specs.declared.fault.Fault.TheVariants as fault
use Rattle.theory_syntax.specs.declared.tokens.Word.{Word}
use Rattle.theory_syntax.specs.declared.tokens.Tok.{Tok}
use Rattle.theory_syntax.specs.declared.tokens.Tok.TheVariants as tok
use Rattle.theory_syntax.specs.declared.tree.Tree.{Tree}
use Rattle.theory_syntax.specs.declared.tree.Tree.TheVariants as tree
use Rattle.theory_syntax.specs.declared.tree.Hyp.{Hyp}
use Rattle.theory_syntax.specs.declared.tree.Item.{Item}
use Rattle.theory_syntax.specs.Grammar.{Placed, at, Formula, Derives, name, AreHyps, no_hyp, hyp}
use Rattle.theory_syntax.specs.Machine.{put, goes, run, InGoal, Stage, Side, OpenGoal, staged, Want, Have, HypName, HypColon, Goes, Ends}
use Rattle.theory_syntax.specs.inner.Parts.{Got, Begun, Fault_of, Below, stance, Stands, IsNot, NoWord, end_of, InGoalAt, in_goal, BegunHyps, Fault_of_hyps, GotHyp, GotHyps, supposing}
use Rattle.theory_syntax.proofs.Complete.{complete}
use Rattle.theory_syntax.proofs.Pieces.{put-append, goes-append, put_length, inside, here, within-append}
use Rattle.theory_syntax.proofs.TermPieces.{anon, as_neg, as_formula}

-- the three tokens before an assumption
abbrev three : Word → List Placed → List Placed
three x p = at 0 tok.Assume ∷ at 0 (tok.Word x) ∷ at 0 tok.Colon ∷ p

some_term : Derives 0 Formula (at 0 (tok.Word anon) ∷ []) (tree.Name anon)
some_term = as_formula (as_neg name)

module _ (m : ℕ) (ts : List Tok) where
  pub not_there : Stands tok.Assume ts → IsNot tok.Assume ts → Fault_of_hyps m ts (fault.Syntax (length ts))
  not_there s bad = absurd (bad s.0 s.1)

  module _ (named : List Tok) (word_is : ts ≡ tok.Assume ∷ named) where
    opened : (i : InGoalAt) → run (in_goal i) ts ≡ Goes 0 (run (HypName (staged i.stage i.tree) i.before) named)
    opened i = ap (λ xs. run (in_goal i) xs) word_is

    pub no_name : NoWord named → Fault_of_hyps m ts (fault.Syntax (length named))
    no_name bad = here m BegunHyps InGoalAt in_goal (at 0 tok.Assume ∷ []) ts named word_is (omega arith, tt)
        (at 0 (tok.Word anon) ∷ at 0 tok.Colon ∷ at 0 (tok.Word anon) ∷ [], _, hyp some_term no_hyp)
        (λ i. opened i ∙ ap (λ r. Goes 0 r) (stuck named bad (staged i.stage i.tree) i.before))
      where
        stuck : (us : List Tok) → NoWord us → (g : OpenGoal) (ds : List Item) → run (HypName g ds) us ≡ end_of us
        stuck [] bad g ds = refl
        stuck (tok.Word x ∷ us) bad g ds = absurd (bad x us refl)
        stuck (_ ∷ us) bad g ds = refl

    module _ (x : Word) (stated : List Tok) (name_is : named ≡ tok.Word x ∷ stated) where
      name_walk : (i : InGoalAt) → run (in_goal i) ts ≡ Goes 0 (Goes 0 (run (HypColon (staged i.stage i.tree) x i.before) stated))
      name_walk i = opened i ∙ ap (λ r. Goes 0 r) (ap (λ xs. run (HypName (staged i.stage i.tree) i.before) xs) name_is)

      pub no_colon : IsNot tok.Colon stated → Fault_of_hyps m ts (fault.Syntax (length stated))
      no_colon bad = here m BegunHyps InGoalAt in_goal (at 0 tok.Assume ∷ at 0 (tok.Word x) ∷ []) ts stated (word_is ∙ ap (λ xs. tok.Assume ∷ xs) name_is) (omega arith, (omega arith, tt))
          (at 0 tok.Colon ∷ at 0 (tok.Word anon) ∷ [], _, hyp some_term no_hyp)
          (λ i. name_walk i ∙ ap (λ r. Goes 0 (Goes 0 r)) (stuck stated bad (staged i.stage i.tree) i.before))
        where
          stuck : (us : List Tok) → IsNot tok.Colon us → (g : OpenGoal) (ds : List Item) → run (HypColon g x ds) us ≡ end_of us
          stuck [] bad g ds = refl
          stuck (tok.Colon ∷ us) bad g ds = absurd (bad us refl)
          stuck (_ ∷ us) bad g ds = refl

      module _ (body : List Tok) (colon_is : stated ≡ tok.Colon ∷ body) where
        front : ts ≡ tok.Assume ∷ tok.Word x ∷ tok.Colon ∷ body
        front = word_is ∙ ap (λ xs. tok.Assume ∷ xs) (name_is ∙ ap (λ xs. tok.Word x ∷ xs) colon_is)

        abbrev side : InGoalAt → Stage
        side i = Side (staged i.stage i.tree) x

        below : InGoalAt → Below 0 6
        below i = record { frames = InGoal (side i) i.before ∷ []; is_level = refl; is_rank = omega arith }

        front_walk : (i : InGoalAt) → run (in_goal i) ts ≡ Goes 0 (Goes 0 (Goes 0 (run (Want 2 (InGoal (side i) i.before ∷ [])) body)))
        front_walk i = name_walk i ∙ ap (λ r. Goes 0 (Goes 0 r)) (ap (λ xs. run (HypColon (staged i.stage i.tree) x i.before) xs) colon_is)

        pub term_fails : (e : Fault) → Fault_of m 0 Formula body e → Fault_of_hyps m ts e
        unfolding below
        term_fails e h = inside m BegunHyps (Begun 0 Formula) InGoalAt (Below 0 6) in_goal (stance 0 Formula)
            (three x []) ts body front (omega arith, (omega arith, (omega arith, tt)))
            (λ q b. (b.0, _, subst (λ p. AreHyps (three x p) (record { name = x; tree = b.1 } ∷ [])) (append-nil (q ++ b.0)) (hyp b.2 no_hyp)))
            (λ i. (below i, front_walk i))
            e h

        pub term_ok : (t : Tree) (rest : List Tok) → Got m 0 Formula body t rest → GotHyp m ts (record { name = x; tree = t }) rest
        term_ok t rest g =
            let tokens : ts ≡ put (three x g.placed) rest = front ∙ ap (λ xs. tok.Assume ∷ tok.Word x ∷ tok.Colon ∷ xs) g.tokens in
            let count = ap (λ xs. length xs) tokens ∙ put_length (three x g.placed) rest in
            record {
              placed = three x g.placed;
              within = (omega arith, (omega arith, (omega arith, g.within)));
              tokens = tokens;
              ends = g.ends;
              shorter = omega arith;
              joins = λ q hs d. hyp g.derived d;
              walks = λ i. front_walk i ∙ ap (λ r. Goes 0 (Goes 0 (Goes 0 r))) (ap (λ xs. run (Want 2 (InGoal (side i) i.before ∷ [])) xs) g.tokens ∙
                  complete g.derived 2 (InGoal (side i) i.before ∷ []) rest (omega arith) refl (omega arith) g.ends);
            }

-- ---- assumptions in a row

supposing-more : (g : OpenGoal) (hs : List Hyp) (h : Hyp) →
    staged (Side (supposing g hs) h.name) h.tree ≡ supposing g (hs ++ h ∷ [])
supposing-more g hs h = ap (λ all. record { name = g.name; tree = g.tree; hyps = all }) (append_assoc g.hyps hs (h ∷ []))

module _ (m : ℕ) (ts : List Tok) where
  pub begins : Ends 6 ts → GotHyps m ts [] ts
  begins ends = record {
    placed = [];
    within = tt;
    tokens = refl;
    ends = ends;
    joins = λ q more d. d;
    stage = λ i. i.stage;
    last = λ i. i.tree;
    is_staged = λ i. ap (λ hs. record { name = (staged i.stage i.tree).name; tree = (staged i.stage i.tree).tree; hyps = hs }) (sym (append-nil (staged i.stage i.tree).hyps));
    walks = λ i. refl;
  }

  pub goes_on : (hs : List Hyp) (h : Hyp) (rest end : List Tok) → GotHyps m ts hs rest → GotHyp m rest h end → GotHyps m ts (hs ++ h ∷ []) end
  goes_on hs h rest end s g = record {
    placed = s.placed ++ g.placed;
    within = within-append m s.placed g.placed s.within g.within;
    tokens = s.tokens ∙ ap (λ xs. put s.placed xs) g.tokens ∙ sym (put-append s.placed g.placed end);
    ends = g.ends;
    joins = λ q more d. subst (λ p. AreHyps p ((hs ++ h ∷ []) ++ more)) (sym (append_assoc s.placed g.placed q))
        (subst (λ es. AreHyps (s.placed ++ (g.placed ++ q)) es) (sym (append_assoc hs (h ∷ []) more)) (s.joins (g.placed ++ q) (h ∷ more) (g.joins q more d)));
    stage = λ i. Side (staged (s.stage i) (s.last i)) h.name;
    last = λ i. h.tree;
    is_staged = λ i. ap (λ o. staged (Side o h.name) h.tree) (s.is_staged i) ∙ supposing-more (staged i.stage i.tree) hs h;
    walks = λ i. s.walks i ∙ ap (λ r. goes s.placed r) (g.walks (record { stage = s.stage i; tree = s.last i; before = i.before })) ∙
        sym (goes-append s.placed g.placed (run (Have h.tree (InGoal (Side (staged (s.stage i) (s.last i)) h.name) i.before ∷ [])) end));
  }

  pub hyp_fails : (hs : List Hyp) (rest : List Tok) (e : Fault) → GotHyps m ts hs rest → Fault_of_hyps m rest e → Fault_of_hyps m ts e
  hyp_fails hs rest e s h = inside m BegunHyps BegunHyps InGoalAt InGoalAt in_goal in_goal s.placed ts rest s.tokens s.within
      (λ q b. (b.0, hs ++ b.1, subst (λ p. AreHyps p (hs ++ b.1)) (sym (append_assoc s.placed q b.0)) (s.joins (q ++ b.0) b.1 b.2)))
      (λ i. (record { stage = s.stage i; tree = s.last i; before = i.before }, s.walks i)) e h
