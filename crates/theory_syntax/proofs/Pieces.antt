-- The lemmas on faults of parts, at this grammar.
use Rattle.std.proofs.Common.{◌≡◌, ℕ, ◌<◌, List, [], ◌∷◌, ◌++◌, length}
use Rattle.first_fault.specs.declared.fault.Fault.{Fault}
use Rattle.first_fault.specs.declared.fault.Fault.TheVariants as fault
use Rattle.first_fault.proofs.Inside as kit
pub use Rattle.first_fault.proofs.Fronts.{put-append, goes-append, put_length, within-append, regroup}
use Rattle.theory_syntax.specs.declared.tokens.Tok.{Tok}
use Rattle.theory_syntax.specs.declared.tree.Item.{Item}
use Rattle.theory_syntax.specs.Grammar.{Placed, at}
use Rattle.theory_syntax.specs.Machine.{put, goes, run, State}
use Rattle.theory_syntax.specs.Reading.{Within}
use Rattle.theory_syntax.specs.inner.Parts.{Fails, end_of}

module _ (m : ℕ) (B B' : List Placed → Type 0) (I I' : Type 0) (st : I → State) (st' : I' → State) where
  pub inside : (p : List Placed) (ts us : List Tok) → ts ≡ put p us → Within m p → ((q : List Placed) → B' q → B (p ++ q)) →
      ((i : I) → (j : I') × (run (st i) ts ≡ goes p (run (st' j) us))) → (e : Fault) → Fails m B' I' st' us e → Fails m B I st ts e
  inside = kit.inside Tok (List Item) m B B' I I' (λ i xs. run (st i) xs) (λ i xs. run (st' i) xs)

module _ (m : ℕ) (B : List Placed → Type 0) (I : Type 0) (st : I → State) where
  pub here : (p : List Placed) (ts bad : List Tok) → ts ≡ put p bad → Within m p → B p → ((i : I) → run (st i) ts ≡ goes p (end_of bad)) → Fails m B I st ts (fault.Syntax (length bad))
  here = kit.here Tok (List Item) m B I (λ i xs. run (st i) xs)

  pub deep_here : (x : Tok) (l : ℕ) (ts rest : List Tok) → ts ≡ x ∷ rest → m < l → B (at l x ∷ []) → Fails m B I st ts (fault.TooDeep (length ts))
  deep_here = kit.deep_here Tok (List Item) m B I (λ i xs. run (st i) xs)
