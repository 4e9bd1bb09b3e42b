-- Images by other names of what they are made of.
use Rattle.std.proofs.Common.{◌≡◌, ℕ, List, sym, subst, ◌∙◌}
use Rattle.std.specs.Prelude.{Result, IfOk}
use Rattle.std.specs.List.{remove}
use Rattle.hol_terms.specs.declared.sig.Sig.{Sig}
use Rattle.fo_terms.specs.declared.term.FoTerm.{FoTerm}
use Rattle.fo_terms.specs.declared.literal.Literal.{Literal}
use Rattle.fo_terms.specs.declared.clause.Clause.{Clause}
use Rattle.fo_terms.specs.Substitution.{put_literals}
use Rattle.fo_unify.specs.declared.subst.Bind.{Bind}
use Rattle.fo_unify.specs.Lookup.{term_of}
use Rattle.tagged_terms.specs.Readings.{Signs}
use Rattle.tagged_lines.specs.Variables.{lasting_variables}
use Rattle.tagged_lines.specs.Lifted.{factored}
use Rattle.kernel_rules.specs.declared.step.ThmId.{ThmId}
use Rattle.hol_kernel.specs.Logs.{Logged}
use Rattle.hol_terms.specs.declared.literal.TypedLiteral.{TypedLiteral}
use Rattle.clause_instances.specs.Images.{image}
use Rattle.clause_instances.specs.Theorems.{clause_of, HasInstance, Lands}
use Rattle.hol_lift.specs.inner.Typed.{Last}

abbrev FromInstance : Signs → Logged → Logged → ℕ → (ℕ → FoTerm) → List Literal → ℕ → Type 0
FromInstance signs old new th u p r = (c : List TypedLiteral) → Last (clause_of signs (put_literals u p)) c → Lands old new th (clause_of signs p) r c

module _ (sig : Sig) (signs : Signs) (bs binds : List Bind) (ns seen : List ℕ) (ls p : List Literal) {u : ℕ → FoTerm} (b : bs ≡ binds) (n : ns ≡ seen) (l : ls ≡ p) (is : image 0 binds seen ≡ u) where
  pub as_image : HasInstance sig signs u p → HasInstance sig signs (image 0 bs ns) ls
  as_image h = subst (λ zs. HasInstance sig signs (image 0 bs ns) zs) (sym l) (subst (λ z. HasInstance sig signs z p) (sym ((λ i. image 0 (b i) (n i)) ∙ is)) h)

module _ (signs : Signs) (old new : Logged) (th : ℕ) (bs binds : List Bind) (ns seen : List ℕ) (ls p : List Literal) {E : Type 0} (r : Result ThmId E) {u : ℕ → FoTerm} (b : bs ≡ binds) (n : ns ≡ seen) (l : ls ≡ p) (is : image 0 binds seen ≡ u) where
  pub image_lands : IfOk r (λ s. FromInstance signs old new th (image 0 bs ns) ls s.0) → IfOk r (λ s. FromInstance signs old new th u p s.0)
  image_lands h = subst (λ z. IfOk r (λ s. FromInstance signs old new th z p s.0)) ((λ i. image 0 (b i) (n i)) ∙ is) (subst (λ zs. IfOk r (λ s. FromInstance signs old new th (image 0 bs ns) zs s.0)) l h)

pub factored_as : (p : Clause) (binds : List Bind) (j : ℕ) (bs : List Bind) (ls : List Literal) → bs ≡ binds → ls ≡ p.literals → lasting_variables (put_literals (term_of bs) (remove ls j)) ≡ lasting_variables (factored p binds j)
factored_as p binds j bs ls b l = λ i. lasting_variables (put_literals (term_of (b i)) (remove (l i) j))
