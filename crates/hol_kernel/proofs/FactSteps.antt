-- Steps that name no fact.
use Rattle.std.proofs.Common.{◌≡◌, ℕ, List, [], ◌∷◌, ◌++◌, refl, sym, ◌∙◌, ap, append_assoc, append-nil}
use Rattle.kernel_rules.specs.declared.step.Step.{Step}
use Rattle.kernel_rules.specs.Derivations.{leaf, leaves}
use Rattle.hol_kernel.specs.Logs.{Logged}
use Rattle.hol_kernel.specs.Growth.{Appends, SameFacts}

pub leaves_joined : (xs ys : List Step) → leaves (xs ++ ys) ≡ leaves xs ++ leaves ys
leaves_joined [] ys = refl
leaves_joined (s ∷ xs) ys = ap (λ z. leaf s ++ z) (leaves_joined xs ys) ∙ sym (append_assoc (leaf s) (leaves xs) (leaves ys))

one_more : (steps : List Step) (s : Step) → leaf s ≡ [] → leaves (steps ++ s ∷ []) ≡ leaves steps
one_more steps s none = leaves_joined steps (s ∷ []) ∙ ap (λ z. leaves steps ++ (z ++ [])) none ∙ append-nil (leaves steps)

pub appends_same_facts : (old new : Logged) (s : Step) (r : ℕ) → leaf s ≡ [] → Appends old new s r → SameFacts old new
appends_same_facts old new s r none grown = ap leaves grown.steps ∙ one_more old.steps s none
