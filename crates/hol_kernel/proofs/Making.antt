-- What a rule's call gives.
use Rattle.std.proofs.Common.{◌≡◌, List, rules, Ok, Err, Some, None, refl, ◌∙◌, ap, subst}
use Rattle.std.specs.Prelude.{Option, Result, IsSome, IsErr, IfOk}
use Rattle.hol_terms.specs.declared.env.Env.{Env}
use Rattle.kernel_rules.specs.declared.step.Step.{Step}
use Rattle.kernel_rules.specs.declared.step.ThmId.{ThmId}
use Rattle.kernel_rules.specs.declared.sequent.Sequent.{Sequent}
use Rattle.kernel_rules.specs.Derivations.{sequent}
use Rattle.hol_kernel.specs.Logs.{Logged}
use Rattle.hol_kernel.specs.Growth.{Gives, Made}
use Rattle.hol_kernel.proofs.Growing.{appends_gives}

-- a step with a sequent
pub some_made : (o : Option Sequent) (q : Sequent) → o ≡ Some q → IsSome o
some_made None q h = cc
some_made (Some p) q h = search rules

-- is not refused
pub not_refused : (o : Option Sequent) → IsSome o → o ≡ None → ⊥
not_refused None some none = absurd (search (rules, some))
not_refused (Some q) some none = cc

module _ {E : Type 0} (old new : Logged) (r : Result ThmId E) where
  pub made_gives : (s : Step) (q : Sequent) → sequent old.env s old.sequents ≡ Some q → Made old new s r → IfOk r (λ t. Gives new t.0 q)
  made_gives s q is h = given r h where
    given : (r : Result ThmId E) → Made old new s r → IfOk r (λ t. Gives new t.0 q)
    given (Ok t) grown = appends_gives old new s t.0 grown q is
    given (Err e) same = tt

  -- a step that is made of copies
  pub made_at : (s own : Step) → own ≡ s → Made old new own r → Made old new s r
  made_at s own e h = subst (λ z. Made old new z r) e h

pub some_at : (env : Env) (seqs : List Sequent) (s own : Step) (q : Sequent) → own ≡ s → sequent env s seqs ≡ Some q → IsSome (sequent env own seqs)
some_at env seqs s own q e h = some_made (sequent env own seqs) q (ap (λ z. sequent env z seqs) e ∙ h)

pub err_free : {T E : Type 0} (r : Result T E) (P : T → Type 0) → IsErr r → IfOk r P
err_free (Ok x) P h = absurd (search (rules, h))
err_free (Err x) P h = tt

pub err_made : {E : Type 0} (log : Logged) (s : Step) (r : Result ThmId E) → IsErr r → Made log log s r
err_made log s (Ok x) h = absurd (search (rules, h))
err_made log s (Err x) h = refl
