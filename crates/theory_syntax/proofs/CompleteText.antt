-- Whole declarations, and whole files, are walked through.
use Rattle.std.proofs.Common.{◌≡◌, List, [], ◌∷◌, ◌++◌, Some, refl, sym, ap, append_assoc, append-nil, ◌∙◌, arith}
use Rattle.theory_syntax.specs.declared.tokens.Word.{Word}
use Rattle.theory_syntax.specs.declared.tokens.Tok.{Tok}
use Rattle.theory_syntax.specs.declared.tokens.Tok.TheVariants as tok
use Rattle.theory_syntax.specs.declared.tree.Tree.{Tree}
use Rattle.theory_syntax.specs.declared.tree.Hyp.{Hyp}
use Rattle.theory_syntax.specs.declared.tree.Item.{Item}
use Rattle.theory_syntax.specs.declared.tree.Item.TheVariants as item
use Rattle.first_fault.proofs.Fronts.{put-append, goes-append}
use Rattle.theory_syntax.specs.Grammar.{Placed, at, AreHyps, no_hyp, hyp, Declares, a_type, a_const, a_fact, a_goal, IsTheory, empty, decl}
use Rattle.theory_syntax.specs.Machine.{InConst, InFact, InGoal, Stage, Main, Side, OpenGoal, staged, goal_of, State, Want, WantTy, Have, Top, Run, run, put, goes, Goes, Done, Ends}
use Rattle.theory_syntax.specs.inner.Parts.{supposing}
use Rattle.theory_syntax.proofs.Complete.{complete, complete_ty}

-- the token that ends a declaration is taken
pub ended : (s : State) (p : List Placed) (x : Tok) (rest : List Tok) (r : Run) → run s (put p (x ∷ rest)) ≡ goes p (Goes 0 r) →
    run s (put (p ++ at 0 x ∷ []) rest) ≡ goes (p ++ at 0 x ∷ []) r
ended s p x rest r h = ap (λ xs. run s xs) (put-append p (at 0 x ∷ []) rest) ∙ h ∙ sym (goes-append p (at 0 x ∷ []) r)

hyps_end : {q : List Placed} {hs : List Hyp} → AreHyps q hs → (rest : List Tok) → Ends 6 (put q (tok.Semi ∷ rest))
hyps_end no_hyp rest = omega arith
hyps_end (hyp d e) rest = omega arith

supposing-nil : (g : OpenGoal) → goal_of (supposing g []) ≡ goal_of g
supposing-nil g = ap (λ hs. item.Goal g.name g.tree hs) (append-nil g.hyps)

supposing-cons : (g : OpenGoal) (y : Word) (t : Tree) (hs : List Hyp) →
    goal_of (supposing (staged (Side g y) t) hs) ≡ goal_of (supposing g (record { name = y; tree = t } ∷ hs))
supposing-cons g y t hs = ap (λ all. item.Goal g.name g.tree all) (append_assoc g.hyps (record { name = y; tree = t } ∷ []) hs)

pub complete_hyps : {q : List Placed} {hs : List Hyp} → AreHyps q hs → (s : Stage) (u : Tree) (ds : List Item) (rest : List Tok) →
    run (Have u (InGoal s ds ∷ [])) (put q (tok.Semi ∷ rest)) ≡ goes q (Goes 0 (run (Top (ds ++ goal_of (supposing (staged s u) hs) ∷ [])) rest))
complete_hyps no_hyp s u ds rest = ap (λ d. Goes 0 (run (Top (ds ++ d ∷ [])) rest)) (sym (supposing-nil (staged s u)))
complete_hyps (hyp {x = y} {p = p} {q = q} {t = t} {hs = hs} d e) s u ds rest =
    let side = Side (staged s u) y in
    let first = complete d 2 (InGoal side ds ∷ []) (put q (tok.Semi ∷ rest)) (omega arith) refl (omega arith) (hyps_end e rest) in
    let more = complete_hyps e side t ds rest in
    let last = ap (λ g. Goes 0 (run (Top (ds ++ g ∷ [])) rest)) (supposing-cons (staged s u) y t hs) in
    let whole = Goes 0 (run (Top (ds ++ goal_of (supposing (staged s u) (record { name = y; tree = t } ∷ hs)) ∷ [])) rest) in
    ap (λ r. Goes 0 (Goes 0 (Goes 0 r))) (ap (λ xs. run (Want 2 (InGoal side ds ∷ [])) xs) (put-append p q (tok.Semi ∷ rest)) ∙ first ∙
    ap (λ r. goes p r) (more ∙ ap (λ r. goes q r) last) ∙ sym (goes-append p q whole))

pub complete_item : {p : List Placed} {d : Item} → Declares p d → (ds : List Item) (rest : List Tok) →
    run (Top ds) (put p rest) ≡ goes p (run (Top (ds ++ d ∷ [])) rest)
complete_item a_type ds rest = refl
complete_item (a_const {x = x} {p = p} {a = a} d) ds rest =
    ap (λ r. Goes 0 (Goes 0 (Goes 0 r))) (ended (WantTy (InConst x ds ∷ [])) p tok.Semi rest (run (Top (ds ++ item.Const x a ∷ [])) rest)
    (complete_ty d (InConst x ds ∷ []) (tok.Semi ∷ rest) refl tt))
complete_item (a_fact {x = x} {p = p} {t = t} d) ds rest =
    ap (λ r. Goes 0 (Goes 0 (Goes 0 r))) (ended (Want 2 (InFact x ds ∷ [])) p tok.Semi rest (run (Top (ds ++ item.Fact x t ∷ [])) rest)
    (complete d 2 (InFact x ds ∷ []) (tok.Semi ∷ rest) (omega arith) refl (omega arith) (omega arith)))
complete_item (a_goal {x = x} {p = p} {q = q} {t = t} {hs = hs} d e) ds rest =
    let start = Want 2 (InGoal (Main x) ds ∷ []) in
    let whole = run (Top (ds ++ item.Goal x t hs ∷ [])) rest in
    let first = complete d 2 (InGoal (Main x) ds ∷ []) (put q (tok.Semi ∷ rest)) (omega arith) refl (omega arith) (hyps_end e rest) in
    let hyps = complete_hyps e (Main x) t ds rest in
    let split = put-append p (q ++ at 0 tok.Semi ∷ []) rest ∙ ap (λ xs. put p xs) (put-append q (at 0 tok.Semi ∷ []) rest) in
    ap (λ r. Goes 0 (Goes 0 (Goes 0 r))) (ap (λ xs. run start xs) split ∙ first ∙ ap (λ r. goes p r) (hyps ∙ sym (goes-append q (at 0 tok.Semi ∷ []) whole)) ∙
    sym (goes-append p (q ++ at 0 tok.Semi ∷ []) whole))

pub complete_theory : {p : List Placed} {ds : List Item} → IsTheory p ds → (before : List Item) →
    run (Top before) (put p []) ≡ goes p (Done (Some (before ++ ds)))
complete_theory empty before = ap (λ ds. Done (Some ds)) (sym (append-nil before))
complete_theory (decl {p = p} {q = q} {d = d} {ds = ds} c e) before =
    ap (λ xs. run (Top before) xs) (put-append p q []) ∙ complete_item c before (put q []) ∙
    ap (λ r. goes p r) (complete_theory e (before ++ d ∷ []) ∙ ap (λ es. goes q (Done (Some es))) (append_assoc before (d ∷ []) ds)) ∙
    sym (goes-append p q (Done (Some (before ++ d ∷ ds))))
