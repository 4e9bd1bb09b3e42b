-- Theorems without hypotheses that refuted literals leave.
use Rattle.std.proofs.Common.{◌≡◌, ℕ, zero, suc, ◌+◌, ◌<◌, ◌≤◌, List, [], ◌∷◌, ◌++◌, take, length, get_or, refl, sym, ap, subst, ◌∙◌, inl, inr, arith}
use Rattle.std.specs.Prelude.{Result, IfOk}
use Rattle.std.specs.FinSet as set
use Rattle.std.proofs.lemmas.List.{take_more, take_all}
use Rattle.hol_terms.specs.declared.sig.Sig.{Sig}
use Rattle.hol_terms.specs.declared.term.Term.{Term}
use Rattle.hol_terms.specs.Formulas.{IsFormula}
use Rattle.hyp_sets.specs.Sets.{Holds, Among}
use Rattle.hyp_sets.proofs.Members.{among_itself, among_trans, among_remove, holds_remove}
use Rattle.kernel_rules.specs.declared.step.ThmId.{ThmId}
use Rattle.kernel_rules.specs.Rules.{seq}
use Rattle.hol_kernel.specs.Logs.{Logged, IsThm, thm}
use Rattle.hol_kernel.specs.Growth.{Extends, Gives, SameFacts}
use Rattle.hol_kernel.proofs.Growing.{extends_refl, extends_trans}
use Rattle.tagged_lines.specs.TypedLiterals.{IsIn}
use Rattle.hol_terms.specs.declared.literal.TypedLiteral.{TypedLiteral}
use Rattle.clause_instances.proofs.Answered.{if_ok_map}
use Rattle.hol_lift.specs.inner.Typed.{AllFormulas, Drops, IsRefuted}
use Rattle.hol_lift.proofs.Members.{in_append}

-- one literal
pub drops_kept : (log : Logged) (l : TypedLiteral) (th : ℕ) → IsThm log th → (IsRefuted l → ⊥) → Drops log log (l ∷ []) th th
drops_kept log l th is_thm holds = record {
  is_thm = is_thm;
  concl = refl;
  among = among_itself (thm log th).hyps;
  gone = gone;
} where
  gone : (m : TypedLiteral) → IsIn (l ∷ []) m → IsRefuted m → Holds (thm log th).hyps m.atom → ⊥
  gone m (inl e) r h = holds (subst IsRefuted (sym e) r)
  gone m (inr n) r h = n

drops_removed : (old new : Logged) (l : TypedLiteral) (th r : ℕ) (a : Term) → a ≡ l.atom → Gives new r (seq (set.remove (thm old th).hyps a) (thm old th).concl) → Drops old new (l ∷ []) th r
drops_removed old new l th r a is g = record {
  is_thm = g.is_thm;
  concl = ap (λ q. q.concl) g.is;
  among = subst (λ q. Among q.hyps (thm old th).hyps) (sym g.is) (among_remove (thm old th).hyps a);
  gone = gone;
} where
  gone : (m : TypedLiteral) → IsIn (l ∷ []) m → IsRefuted m → Holds (thm new r).hyps m.atom → ⊥
  gone m (inl e) ref h = (holds_remove (thm old th).hyps a m.atom (subst (λ q. Holds q.hyps m.atom) g.is h)).0 (sym (is ∙ ap (λ n. n.atom) e))
  gone m (inr n) ref h = n

pub drops_cut : {E : Type 0} (old new : Logged) (l : TypedLiteral) (th : ℕ) (a : Term) (r : Result ThmId E) → a ≡ l.atom → IfOk r (λ s. Gives new s.0 (seq (set.remove (thm old th).hyps a) (thm old th).concl)) → IfOk r (λ s. Drops old new (l ∷ []) th s.0)
drops_cut old new l th a r is h = if_ok_map r (λ s. Gives new s.0 (seq (set.remove (thm old th).hyps a) (thm old th).concl)) (λ s. Drops old new (l ∷ []) th s.0) (λ s g. drops_removed old new l th s.0 a is g) h

-- several
pub drops_both : (old mid new : Logged) (ps qs : List TypedLiteral) (th at r : ℕ) → Drops old mid ps th at → Drops mid new qs at r → Drops old new (ps ++ qs) th r
drops_both old mid new ps qs th at r d e = record {
  is_thm = e.is_thm;
  concl = e.concl ∙ d.concl;
  among = among_trans (thm new r).hyps (thm mid at).hyps (thm old th).hyps e.among d.among;
  gone = λ l k ref h. elim (in_append ps qs l k) [ inl a ↦ d.gone l a ref (e.among l.atom h) | inr b ↦ e.gone l b ref h ];
}

pub record Dropped (old mid : Logged) (ls : List TypedLiteral) (th at : ℕ) : Type 0 where
  pub kept : Extends old mid
  pub facts : SameFacts old mid
  pub drops : Drops old mid ls th at

pub dropped_start : (log : Logged) (th : ℕ) → IsThm log th → Dropped log log [] th th
dropped_start log th is_thm = record {
  kept = extends_refl log;
  facts = refl;
  drops = record { is_thm = is_thm; concl = refl; among = among_itself (thm log th).hyps; gone = λ l k ref h. k };
}

pub dropped_step : (old mid new : Logged) (ls : List TypedLiteral) (i : ℕ) (l : TypedLiteral) (th at r : ℕ) → i < length ls → l ≡ get_or ls i l → Dropped old mid (take i ls) th at → Extends mid new → SameFacts mid new → Drops mid new (l ∷ []) at r
    → Dropped old new (take (i + 1) ls) th r
dropped_step old mid new ls i l th at r within is d kept facts e = record {
  kept = extends_trans old mid new d.kept kept;
  facts = facts ∙ d.facts;
  drops = subst (λ zs. Drops old new zs th r) (ap (λ z. take i ls ++ z ∷ []) is ∙ sym (take_more ls i l within)) (drops_both old mid new (take i ls) (l ∷ []) th at r d.drops e);
}

pub dropped_all : (old new : Logged) (ls : List TypedLiteral) (i th r : ℕ) → length ls ≤ i → Dropped old new (take i ls) th r → Drops old new ls th r
dropped_all old new ls i th r h d = subst (λ zs. Drops old new zs th r) (take_all i ls h) d.drops

formula_of : (sig : Sig) (ls : List TypedLiteral) (i : ℕ) (l : TypedLiteral) → AllFormulas sig ls → i < length ls → l ≡ get_or ls i l → IsFormula sig l.atom
formula_of sig [] i l all within is = absurd (omega (arith, within))
formula_of sig (m ∷ ls) zero l all within is = subst (λ z. IsFormula sig z.atom) (sym is) all.0
formula_of sig (m ∷ ls) (suc i) l all within is = formula_of sig ls i l all.1 (omega (arith, within)) is

pub formula_still : (old mid : Logged) (ls : List TypedLiteral) (i : ℕ) (l : TypedLiteral) → Extends old mid → AllFormulas old.env.sig ls → i < length ls → l ≡ get_or ls i l → IsFormula mid.env.sig l.atom
formula_still old mid ls i l kept all within is = subst (λ e. IsFormula e.sig l.atom) (sym kept.env) (formula_of old.env.sig ls i l all within is)

pub formulas_stay : (old mid : Logged) (ls : List TypedLiteral) → Extends old mid → AllFormulas old.env.sig ls → AllFormulas mid.env.sig ls
formulas_stay old mid ls kept all = subst (λ e. AllFormulas e.sig ls) (sym kept.env) all
