-- A quantified formula opened with a value that a theorem names.
use Rattle.std.proofs.Common.{◌≡◌, ℕ, IsTrue, ap, subst, sym, ◌∙◌}
use Rattle.std.specs.Prelude.{Result, Ok, Err, IfOk}
use Rattle.std.specs.FinSet as set
use Rattle.hol_terms.specs.declared.ty.Ty.{Ty}
use Rattle.hol_terms.specs.declared.sig.Sig.{Sig}
use Rattle.hol_terms.specs.declared.konst.Konst.TheVariants as konst
use Rattle.hol_terms.specs.declared.term.Term.{Term}
use Rattle.hol_terms.specs.Formulas.{IsFormula}
use Rattle.hol_terms.specs.Substitution.{is_closed, instantiated}
use Rattle.hol_terms.proofs.Formulas.{formula_closed}
use Rattle.kernel_rules.specs.declared.step.ThmId.{ThmId}
use Rattle.kernel_rules.specs.Connectives.{apply, constant, equal, chosen, right_of}
use Rattle.kernel_rules.specs.Rules.{seq}
use Rattle.kernel_rules.proofs.Parts.{right_of-apply}
use Rattle.kernel_rules.proofs.LooseIndexes.{right_closed}
use Rattle.kernel_rules.proofs.TypedTerms.{equal_sides, equal_aux_free}
use Rattle.hol_kernel.specs.Logs.{Logged, IsThm, thm}
use Rattle.hol_kernel.specs.Growth.{Gives}
use Rattle.hol_kernel.specs.Conditions.{IsGiven}
use Rattle.hol_derived.proofs.ContextLaws.{given_from}
use Rattle.hol_formulas.specs.declared.formula.Quantifier.{Quantifier}
use Rattle.formula_clauses.specs.Walks.{property}
use Rattle.hol_clausify.specs.declared.values.WithChosen.{WithChosen}
use Rattle.hol_clausify.specs.Refutations.{chosen_value}
use Rattle.hol_clausify.specs.inner.Opening.{IsChosen}

-- the right side of a theorem's equation
pub named_value : (log : Logged) (r : ℕ) (a : Ty) (c d : Term) → Gives log r (seq set.empty (equal a c d)) → right_of (thm log r).concl ≡ d
named_value log r a c d g = ap (λ q. right_of q.concl) g.is ∙ right_of-apply (apply (constant (konst.Eq a)) c) d

pub is_chosen : (log : Logged) (q : Quantifier) (a : Ty) (body : Term) (name : ThmId) (r : WithChosen) →
    Gives log name.0 (seq set.empty (equal a (chosen a (property q a body)) (chosen_value a (property q a body)))) →
    r.value ≡ right_of (thm log name.0).concl → r.part ≡ instantiated body (right_of (thm log name.0).concl) → r.name ≡ name → IsChosen log q a body r
is_chosen log q a body name r g v p n =
    let f = property q a body in
    let value = named_value log name.0 a (chosen a f) (chosen_value a f) g in
    let is : r.value ≡ chosen_value a f = v ∙ value in
    let same : r.name.0 ≡ name.0 = ap (λ (z : ThmId). z.0) n in
    record {
      value = is;
      part = p ∙ ap (instantiated body) (sym v);
      is_thm = subst (IsThm log) (sym same) g.is_thm;
      named = ap (thm log) same ∙ g.is ∙ ap (λ z. seq set.empty (equal a (chosen a f) z)) (sym is);
    }

pub chosen_opened : {E : Type 0} (log : Logged) (q : Quantifier) (a : Ty) (body : Term) (name : ThmId) (result : Result WithChosen E) →
    Gives log name.0 (seq set.empty (equal a (chosen a (property q a body)) (chosen_value a (property q a body)))) →
    IfOk result (λ r. r.value ≡ right_of (thm log name.0).concl) → IfOk result (λ r. r.part ≡ instantiated body (right_of (thm log name.0).concl)) → IfOk result (λ r. r.name ≡ name) →
    IfOk result (IsChosen log q a body)
chosen_opened log q a body name (Ok r) g v p n = is_chosen log q a body name r g v p n
chosen_opened log q a body name (Err e) g v p n = v
