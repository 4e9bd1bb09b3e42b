-- Walks put together, token by token.
use Rattle.std.proofs.Common.{◌≡◌, ℕ, List, [], ◌∷◌, ◌++◌, refl, sym, ap, ◌∙◌}
use Rattle.first_fault.specs.Walk.{after}
use Rattle.first_fault.proofs.Fronts.{put-append, goes-append}
use Rattle.proof_syntax.specs.Tokens.{Tok}
use Rattle.proof_syntax.specs.Names.{Names}
use Rattle.proof_syntax.specs.Grammar.{Placed, at}
use Rattle.proof_syntax.specs.Machine.{put, goes, Goes, run, State, step, to}

-- the walk takes these tokens at their levels, whatever comes later
abbrev pub Leads : Names → State → List Placed → State → Type 0
Leads names s p t = (rest : List Tok) → run names s (put p rest) ≡ goes p (run names t rest)

module _ (names : Names) where
  pub leads_none : (s : State) → Leads names s [] s
  leads_none s = λ rest. refl

  pub leads_on : (s t u : State) (x : Tok) (m l : ℕ) (q : List Placed) → step names s x ≡ to m t → m ≡ l → Leads names t q u → Leads names s (at l x ∷ q) u
  leads_on s t u x m l q e same h = λ rest.
      ap (λ o. after o (λ v. run names v (put q rest))) e ∙ ap (λ n. Goes n (run names t (put q rest))) same ∙ ap (λ r. Goes l r) (h rest)

  pub leads_both : (s t u : State) (p q : List Placed) → Leads names s p t → Leads names t q u → Leads names s (p ++ q) u
  leads_both s t u p q g h = λ rest.
      ap (λ xs. run names s xs) (put-append p q rest) ∙ g (put q rest) ∙ ap (λ r. goes p r) (h rest) ∙ sym (goes-append p q (run names u rest))

  pub leads_last : (s t : State) (x : Tok) (m l : ℕ) → step names s x ≡ to m t → m ≡ l → Leads names s (at l x ∷ []) t
  leads_last s t x m l e same = leads_on s t t x m l [] e same (leads_none t)
