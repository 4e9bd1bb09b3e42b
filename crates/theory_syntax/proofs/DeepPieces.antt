-- A part that would stand above the limit.
use Rattle.std.proofs.Common.{◌≡◌, ℕ, Bool, ◌+◌, ◌<◌, List, [], ◌∷◌, length, refl, sym, subst}
use Rattle.theory_syntax.specs.declared.term_reader.Part.{Part}
use Rattle.theory_syntax.specs.declared.term_reader.Part.TheVariants as part
use Rattle.theory_syntax.specs.declared.tokens.Word.{Word}
use Rattle.theory_syntax.specs.declared.tokens.Quant.{Quant}
use Rattle.theory_syntax.specs.declared.tokens.Tok.{Tok}
use Rattle.theory_syntax.specs.declared.tokens.Tok.TheVariants as tok
use Rattle.theory_syntax.specs.declared.tree.Op.{Op}
use Rattle.theory_syntax.specs.declared.tree.Tree.{Tree}
use Rattle.first_fault.specs.declared.fault.Fault.TheVariants as fault
use Rattle.theory_syntax.specs.Grammar.{Placed, at, Formula, Neg, Derives, bind, not, name, truth as truth_, round, single, base}
use Rattle.theory_syntax.specs.Machine.{run, Frame, class, sort_rank, start}
use Rattle.theory_syntax.specs.inner.Parts.{Begun, Fault_of, Below, stance, NoOperand, end_of}
use Rattle.theory_syntax.specs.inner.Part.{sort_of}
use Rattle.theory_syntax.proofs.Pieces.{here, deep_here}
use Rattle.theory_syntax.proofs.TermPieces.{anon, as_neg, as_chain, as_formula}

as_part : {l : ℕ} {p : List Placed} {t : Tree} → (x : Part) → Derives l Neg p t → Derives l (sort_of x) p t
as_part part.Formula d = as_formula d
as_part (part.Chain o) d = as_chain o d
as_part part.Neg d = d

module _ (m l : ℕ) (ts : List Tok) (x : Part) where
  pub deep_name : (n : Word) (rest : List Tok) → m < l → ts ≡ tok.Word n ∷ rest → Fault_of m l (sort_of x) ts (fault.TooDeep (length ts))
  deep_name n rest above eq = deep_here m (Begun l (sort_of x)) (Below l (sort_rank (sort_of x))) (stance l (sort_of x)) (tok.Word n) l ts rest eq above
      ([], _, as_part x (as_neg name))

  pub deep_truth : (b : Bool) (n : ℕ) (rest : List Tok) → m < l → ts ≡ tok.Truth b n ∷ rest → Fault_of m l (sort_of x) ts (fault.TooDeep (length ts))
  deep_truth b n rest above eq = deep_here m (Begun l (sort_of x)) (Below l (sort_rank (sort_of x))) (stance l (sort_of x)) (tok.Truth b n) l ts rest eq above
      ([], _, as_part x (as_neg truth_))

  pub deep_open : (n : ℕ) (rest : List Tok) → m < l → ts ≡ tok.Open n ∷ rest → Fault_of m l (sort_of x) ts (fault.TooDeep (length ts))
  deep_open n rest above eq = deep_here m (Begun l (sort_of x)) (Below l (sort_rank (sort_of x))) (stance l (sort_of x)) (tok.Open n) l ts rest eq above
      (at (l + 1) (tok.Word anon) ∷ at (l + 1) tok.Close ∷ [], _, as_part x (as_neg (round (as_formula (as_neg name)))))

  pub deep_not : (n : ℕ) (rest : List Tok) → m < l → ts ≡ tok.Tilde n ∷ rest → Fault_of m l (sort_of x) ts (fault.TooDeep (length ts))
  deep_not n rest above eq = deep_here m (Begun l (sort_of x)) (Below l (sort_rank (sort_of x))) (stance l (sort_of x)) (tok.Tilde n) l ts rest eq above
      (at (l + 1) (tok.Word anon) ∷ [], _, as_part x (not (as_neg name)))

pub deep_bind : (m l : ℕ) (ts : List Tok) (q : Quant) (n : ℕ) (rest : List Tok) → m < l → ts ≡ tok.Quant q n ∷ rest → Fault_of m l Formula ts (fault.TooDeep (length ts))
deep_bind m l ts q n rest above eq = deep_here m (Begun l Formula) (Below l 6) (stance l Formula) (tok.Quant q n) l ts rest eq above
    (at l (tok.Word anon) ∷ at l tok.Colon ∷ at l (tok.Word anon) ∷ at l tok.Dot ∷ at (l + 1) (tok.Word anon) ∷ [], _, bind (single base) (as_formula (as_neg name)))

abbrev NoNegated : Part → List Tok → Type 0
NoNegated x ts = (k : List Frame) → run (start (sort_of x) (class (sort_of x)) k) ts ≡ end_of ts

pub stops : (m l : ℕ) (ts : List Tok) (x : Part) → NoNegated x ts → Fault_of m l (sort_of x) ts (fault.Syntax (length ts))
stops m l ts x bad = here m (Begun l (sort_of x)) (Below l (sort_rank (sort_of x))) (stance l (sort_of x)) [] ts ts refl tt
    (at l (tok.Word anon) ∷ [], _, as_part x (as_neg name)) (λ i. bad i.frames)

pub no_operand : (x : Part) (us : List Tok) → NoOperand us → NoNegated x us
no_operand part.Formula [] bad k = refl
no_operand (part.Chain o) [] bad k = refl
no_operand part.Neg [] bad k = refl
no_operand x (tok.Word n ∷ us) bad k = absurd bad
no_operand x (tok.Truth b n ∷ us) bad k = absurd bad
no_operand x (tok.Open n ∷ us) bad k = absurd bad
no_operand x (tok.Tilde n ∷ us) bad k = absurd bad
no_operand x (tok.Quant q n ∷ us) bad k = absurd bad
no_operand part.Formula (_ ∷ us) bad k = refl
no_operand (part.Chain o) (_ ∷ us) bad k = refl
no_operand part.Neg (_ ∷ us) bad k = refl

no_binder_chain_at : (o : Op) (q : Quant) (n : ℕ) (us : List Tok) → NoNegated (part.Chain o) (tok.Quant q n ∷ us)
no_binder_chain_at o q n us k = refl

pub no_binder_chain : (o : Op) (ts : List Tok) (q : Quant) (n : ℕ) (rest : List Tok) → ts ≡ tok.Quant q n ∷ rest → NoNegated (part.Chain o) ts
no_binder_chain o ts q n rest eq = subst (λ us. NoNegated (part.Chain o) us) (sym eq) (no_binder_chain_at o q n rest)

pub no_binder_neg : (ts : List Tok) (q : Quant) (n : ℕ) (rest : List Tok) → ts ≡ tok.Quant q n ∷ rest → NoNegated part.Neg ts
no_binder_neg ts q n rest eq = subst (λ us. NoNegated part.Neg us) (sym eq) (λ k. refl)
