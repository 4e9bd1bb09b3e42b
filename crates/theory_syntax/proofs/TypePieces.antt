-- The ways out of the readers of types.
use Rattle.std.proofs.Common.{◌≡◌, ℕ, ◌+◌, ◌≤◌, ◌<◌, List, [], ◌∷◌, ◌++◌, length, refl, sym, ap, subst, append_assoc, ◌∙◌, arith}
use Rattle.theory_syntax.specs.declared.tokens.Word.{Word}
use Rattle.theory_syntax.specs.declared.tokens.Tok.{Tok}
use Rattle.theory_syntax.specs.declared.tokens.Tok.TheVariants as tok
use Rattle.theory_syntax.specs.declared.tree.TyTree.{TyTree}
use Rattle.theory_syntax.specs.declared.tree.TyTree.TheVariants as ty
use Rattle.first_fault.specs.declared.fault.Fault.{Fault}
use Rattle.first_fault.specs.declared.fault.Fault.TheVariants as fault
use Rattle.theory_syntax.specs.Grammar.{at, Whole, Single, IsType, truth, base, bracket, single, arrow}
use Rattle.theory_syntax.specs.Machine.{put, goes, run, Frame, Bracket, Arrow, WantTy, HaveTy, Goes, EndsTy}
use Rattle.theory_syntax.specs.inner.Parts.{GotTy, BegunTy, Fault_of_ty, Below, stance_ty, IsNot, NoType, end_of}
use Rattle.theory_syntax.proofs.Complete.{complete_ty}
use Rattle.theory_syntax.proofs.Pieces.{put-append, goes-append, inside, here, deep_here, within-append, regroup}

-- a word to go on with where any would do
anon : Word
anon = record { start = 0; len = 0 }

module _ (m l : ℕ) (ts : List Tok) where
  pub name : (x : Word) (rest : List Tok) → l ≤ m → ts ≡ tok.Word x ∷ rest → GotTy m l Single ts (ty.Named x) rest
  name x rest room eq = record { room = room; placed = at l (tok.Word x) ∷ []; derived = base; within = (room, tt); tokens = eq; ends = tt }

  pub of_truth : (rest : List Tok) → l ≤ m → ts ≡ tok.Bool ∷ rest → GotTy m l Single ts ty.Bool rest
  of_truth rest room eq = record { room = room; placed = at l tok.Bool ∷ []; derived = truth; within = (room, tt); tokens = eq; ends = tt }

  pub none : NoType ts → Fault_of_ty m l Single ts (fault.Syntax (length ts))
  none bad = here m (BegunTy l Single) (Below l 0) (stance_ty l) [] ts ts refl tt (at l (tok.Word anon) ∷ [], _, base) (λ i. stuck ts bad i.frames)
    where
      stuck : (us : List Tok) → NoType us → (k : List Frame) → run (WantTy k) us ≡ end_of us
      stuck [] bad k = refl
      stuck (tok.Word x ∷ us) bad k = absurd bad
      stuck (tok.Bool ∷ us) bad k = absurd bad
      stuck (tok.Open n ∷ us) bad k = absurd bad
      stuck (_ ∷ us) bad k = refl

  opened : (n : ℕ) (mid : List Tok) → ts ≡ tok.Open n ∷ mid → (i : Below l 0) → run (WantTy i.frames) ts ≡ Goes l (run (WantTy (Bracket ∷ i.frames)) mid)
  opened n mid eq i = ap (λ xs. run (WantTy i.frames) xs) eq ∙ ap (λ n. Goes n (run (WantTy (Bracket ∷ i.frames)) mid)) i.is_level

  pub open_fails : (n : ℕ) (mid : List Tok) (e : Fault) → l ≤ m → ts ≡ tok.Open n ∷ mid → Fault_of_ty m (l + 1) Whole mid e → Fault_of_ty m l Single ts e
  open_fails n mid e room eq h = inside m (BegunTy l Single) (BegunTy (l + 1) Whole) (Below l 0) (Below (l + 1) 0) (stance_ty l) (stance_ty (l + 1))
      (at l (tok.Open n) ∷ []) ts mid eq (room, tt)
      (λ q b. (b.0 ++ at (l + 1) tok.Close ∷ [], b.1, subst (λ p. IsType l Single p b.1) (append_assoc (at l (tok.Open n) ∷ q) b.0 (at (l + 1) tok.Close ∷ [])) (bracket b.2)))
      (λ i. (record { frames = Bracket ∷ i.frames; is_level = ap (λ n. n + 1) i.is_level; is_rank = omega arith }, opened n mid eq i))
      e h

  pub unclosed : (n : ℕ) (mid : List Tok) (a : TyTree) (rest : List Tok) → l ≤ m → ts ≡ tok.Open n ∷ mid → GotTy m (l + 1) Whole mid a rest → IsNot tok.Close rest → Fault_of_ty m l Single ts (fault.Syntax (length rest))
  unclosed n mid a rest room eq g bad = here m (BegunTy l Single) (Below l 0) (stance_ty l) (at l (tok.Open n) ∷ g.placed) ts rest
      (eq ∙ ap (λ xs. tok.Open n ∷ xs) g.tokens) (room, g.within) (at (l + 1) tok.Close ∷ [], a, bracket g.derived)
      (λ i. opened n mid eq i ∙ ap (λ r. Goes l r) (ap (λ xs. run (WantTy (Bracket ∷ i.frames)) xs) g.tokens ∙
      complete_ty g.derived (Bracket ∷ i.frames) rest (ap (λ n. n + 1) i.is_level) g.ends ∙ ap (λ r. goes g.placed r) (stuck rest g.ends bad i.frames)))
    where
      stuck : (us : List Tok) → EndsTy Whole us → IsNot tok.Close us → (k : List Frame) → run (HaveTy a (Bracket ∷ k)) us ≡ end_of us
      stuck [] e bad k = refl
      stuck (tok.Arrow ∷ us) e bad k = absurd e
      stuck (tok.Close ∷ us) e bad k = absurd (bad us refl)
      stuck (_ ∷ us) e bad k = refl

  pub closed : (n : ℕ) (mid : List Tok) (a : TyTree) (end rest : List Tok) → l ≤ m → ts ≡ tok.Open n ∷ mid → GotTy m (l + 1) Whole mid a end → end ≡ tok.Close ∷ rest → GotTy m l Single ts a rest
  closed n mid a end rest room eq g shut = record {
    room = room;
    placed = at l (tok.Open n) ∷ g.placed ++ at (l + 1) tok.Close ∷ [];
    derived = bracket g.derived;
    within = (room, within-append m g.placed (at (l + 1) tok.Close ∷ []) g.within (g.room, tt));
    tokens = eq ∙ ap (λ xs. tok.Open n ∷ xs) (g.tokens ∙ ap (λ xs. put g.placed xs) shut ∙ sym (put-append g.placed (at (l + 1) tok.Close ∷ []) rest));
    ends = tt;
  }

  pub single_fails : (e : Fault) → Fault_of_ty m l Single ts e → Fault_of_ty m l Whole ts e
  single_fails e h = inside m (BegunTy l Whole) (BegunTy l Single) (Below l 0) (Below l 0) (stance_ty l) (stance_ty l) [] ts ts refl tt
      (λ q b. (b.0, b.1, single b.2)) (λ i. (i, refl)) e h

  pub alone : (a : TyTree) (rest : List Tok) → GotTy m l Single ts a rest → IsNot tok.Arrow rest → GotTy m l Whole ts a rest
  alone a rest g bad = record { room = g.room; placed = g.placed; derived = single g.derived; within = g.within; tokens = g.tokens; ends = ends rest bad }
    where
      ends : (us : List Tok) → IsNot tok.Arrow us → EndsTy Whole us
      ends [] bad = tt
      ends (tok.Arrow ∷ us) bad = bad us refl
      ends (_ ∷ us) bad = tt

  pub right_fails : (a : TyTree) (end more : List Tok) (e : Fault) → GotTy m l Single ts a end → end ≡ tok.Arrow ∷ more → Fault_of_ty m (l + 1) Whole more e → Fault_of_ty m l Whole ts e
  right_fails a end more e g sign h = inside m (BegunTy l Whole) (BegunTy (l + 1) Whole) (Below l 0) (Below (l + 1) 0) (stance_ty l) (stance_ty (l + 1))
      (g.placed ++ at l tok.Arrow ∷ []) ts more
      (g.tokens ∙ ap (λ xs. put g.placed xs) sign ∙ sym (put-append g.placed (at l tok.Arrow ∷ []) more))
      (within-append m g.placed (at l tok.Arrow ∷ []) g.within (g.room, tt))
      (λ q b. (b.0, _, subst (λ p. IsType l Whole p (ty.Arrow a b.1)) (sym (regroup g.placed q b.0 (at l tok.Arrow))) (arrow g.derived b.2)))
      (λ i. (
        record { frames = Arrow a ∷ i.frames; is_level = ap (λ n. n + 1) i.is_level; is_rank = omega arith },
        ap (λ xs. run (WantTy i.frames) xs) (g.tokens ∙ ap (λ xs. put g.placed xs) sign) ∙ complete_ty g.derived i.frames (tok.Arrow ∷ more) i.is_level tt ∙
            ap (λ v. goes g.placed (Goes v (run (WantTy (Arrow a ∷ i.frames)) more))) i.is_level ∙ sym (goes-append g.placed (at l tok.Arrow ∷ []) (run (WantTy (Arrow a ∷ i.frames)) more)),
      ))
      e h

  pub both : (a b : TyTree) (end more rest : List Tok) → GotTy m l Single ts a end → end ≡ tok.Arrow ∷ more → GotTy m (l + 1) Whole more b rest → GotTy m l Whole ts (ty.Arrow a b) rest
  both a b end more rest g sign h = record {
    room = g.room;
    placed = g.placed ++ at l tok.Arrow ∷ h.placed;
    derived = arrow g.derived h.derived;
    within = within-append m g.placed (at l tok.Arrow ∷ h.placed) g.within (g.room, h.within);
    tokens = g.tokens ∙ ap (λ xs. put g.placed xs) (sign ∙ ap (λ xs. tok.Arrow ∷ xs) h.tokens) ∙ sym (put-append g.placed (at l tok.Arrow ∷ h.placed) rest);
    ends = h.ends;
  }

  pub too_deep_name : (x : Word) (rest : List Tok) → m < l → ts ≡ tok.Word x ∷ rest → Fault_of_ty m l Whole ts (fault.TooDeep (length ts))
  too_deep_name x rest above eq = deep_here m (BegunTy l Whole) (Below l 0) (stance_ty l) (tok.Word x) l ts rest eq above ([], _, single base)

  pub too_deep_open : (n : ℕ) (rest : List Tok) → m < l → ts ≡ tok.Open n ∷ rest → Fault_of_ty m l Whole ts (fault.TooDeep (length ts))
  too_deep_open n rest above eq = deep_here m (BegunTy l Whole) (Below l 0) (stance_ty l) (tok.Open n) l ts rest eq above
      (at (l + 1) (tok.Word anon) ∷ at (l + 1) tok.Close ∷ [], _, single (bracket (single base)))

  pub too_deep_truth : (rest : List Tok) → m < l → ts ≡ tok.Bool ∷ rest → Fault_of_ty m l Whole ts (fault.TooDeep (length ts))
  too_deep_truth rest above eq = deep_here m (BegunTy l Whole) (Below l 0) (stance_ty l) tok.Bool l ts rest eq above ([], _, single truth)
