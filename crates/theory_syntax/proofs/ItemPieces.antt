-- The declarations of a file one after another.
use Rattle.std.proofs.Common.{◌≡◌, ℕ, List, [], ◌∷◌, ◌++◌, length, refl, sym, ap, subst, append_assoc, append-nil, ◌∙◌, arith}
use Rattle.first_fault.specs.declared.fault.Fault.{Fault}
use Rattle.theory_syntax.specs.declared.tokens.Tok.{Tok}
use Rattle.theory_syntax.specs.declared.tree.Item.{Item}
use Rattle.theory_syntax.specs.Grammar.{Placed, IsTheory, empty, decl}
use Rattle.theory_syntax.specs.Machine.{put, goes, run, Top}
use Rattle.theory_syntax.specs.Reading.{Within, Begins, Reads}
use Rattle.theory_syntax.specs.inner.Parts.{GotItem, Fault_of_item, Fault_of_all, outset}
use Rattle.theory_syntax.proofs.Pieces.{put-append, goes-append, inside, within-append}

pub record ItemsSoFar (m : ℕ) (ts : List Tok) (ds : List Item) (rest : List Tok) : Type 0 where
  pub placed : List Placed
  pub within : Within m placed
  pub tokens : ts ≡ put placed rest
  pub joins : (q : List Placed) (es : List Item) → IsTheory q es → IsTheory (placed ++ q) (ds ++ es)
  pub walks : run (Top []) ts ≡ goes placed (run (Top ds) rest)

module _ (m : ℕ) (ts : List Tok) where
  pub begins : ItemsSoFar m ts [] ts
  begins = record { placed = []; within = tt; tokens = refl; joins = λ q es d. d; walks = refl }

  pub goes_on : (ds : List Item) (d : Item) (rest end : List Tok) → ItemsSoFar m ts ds rest → GotItem m rest d end → ItemsSoFar m ts (ds ++ d ∷ []) end
  goes_on ds d rest end s g = record {
    placed = s.placed ++ g.placed;
    within = within-append m s.placed g.placed s.within g.within;
    tokens = s.tokens ∙ ap (λ xs. put s.placed xs) g.tokens ∙ sym (put-append s.placed g.placed end);
    joins = λ q es h. subst (λ p. IsTheory p ((ds ++ d ∷ []) ++ es)) (sym (append_assoc s.placed g.placed q))
        (subst (λ fs. IsTheory (s.placed ++ (g.placed ++ q)) fs) (sym (append_assoc ds (d ∷ []) es)) (s.joins (g.placed ++ q) (d ∷ es) (decl g.derived h)));
    walks = s.walks ∙ ap (λ r. goes s.placed r) (g.walks ds) ∙ sym (goes-append s.placed g.placed (run (Top (ds ++ d ∷ [])) end));
  }

  pub item_fails : (ds : List Item) (rest : List Tok) (e : Fault) → ItemsSoFar m ts ds rest → Fault_of_item m rest e → Fault_of_all m ts e
  item_fails ds rest e s h = inside m Begins Begins (Unit {0}) (List Item) outset Top s.placed ts rest s.tokens s.within
      (λ q b. (b.0, ds ++ b.1, subst (λ p. IsTheory p (ds ++ b.1)) (sym (append_assoc s.placed q b.0)) (s.joins (q ++ b.0) b.1 b.2)))
      (λ u. (ds, s.walks)) e h

  pub text_ends : (ds : List Item) (rest : List Tok) → ItemsSoFar m ts ds rest → length rest ≡ 0 → Reads m ts ds
  text_ends ds [] s h = record {
    placed = s.placed;
    derived = subst (λ p. IsTheory p ds) (append-nil s.placed) (subst (λ fs. IsTheory (s.placed ++ []) fs) (append-nil ds) (s.joins [] [] empty));
    within = s.within;
    tokens = s.tokens;
  }
  text_ends ds (x ∷ rest) s h = absurd (omega arith)
