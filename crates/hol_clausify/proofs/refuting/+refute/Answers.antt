use Rattle.std.proofs.Common.{rules, sym, ap, subst, not, true, false, refl, ◌∙◌}
use Rattle.std.specs.FinSet as set
use Rattle.std.proofs.lemmas.Result.{IfOk-weaker}
use Rattle.hyp_sets.specs.Sets.{only}
use Rattle.hol_terms.specs.Formulas.{IsFormula}
use Rattle.hol_terms.specs.Substitution.{instantiated}
use Rattle.kernel_rules.specs.Connectives.{equal, chosen, left_of, right_of, body_of}
use Rattle.kernel_rules.specs.Rules.{seq}
use Rattle.hol_kernel.specs.Conditions.{IsGiven}
use Rattle.hol_kernel.proofs.Growing.{extends_refl, extends_trans, thm_stays}
use Rattle.hol_kernel.proofs.Making.{err_free}
use Rattle.hol_derived.proofs.Splits.{formula_stays}
use Rattle.hol_formulas.specs.declared.formula.Junction.TheVariants as junctions
use Rattle.hol_formulas.specs.declared.formula.Formula.TheFolds.{the_lemmas}
use Rattle.formula_clauses.specs.Walks.{truth, literal, property}
use Rattle.formula_clauses.specs.inner.Measures.{first_sign}
use Rattle.formula_clauses.proofs.Passes.{iff_is}
use Rattle.hol_clausify.specs.Places.{junction}
use Rattle.hol_clausify.specs.Refutations.{refuted, leaf, chosen_value}
use Rattle.hol_clausify.specs.inner.Refuting.{placed, Refutes}
use Rattle.hol_clausify.proofs.Refuted.{all_false, all_false_stay}
use Rattle.hol_clausify.proofs.RefutedSteps.{at_true, at_false, at_atom, true_like, false_like, refutes_as, value_universal, value_chosen, next_universal, next_chosen}
use Rattle.hol_clausify.proofs.RefutedParts.{both_ok, not_refutes, two_refutes, equal_refutes, quantified_refutes, given_variable, given_chosen, under_not, junction_whole, under_left, under_right, quantified_whole, property_is, under_value}
use Rattle.hol_clausify.proofs.refuting.+refute.Goals as goal

pub returns-in-True-clause-kept : goal.returns-in-True-clause-kept
returns-in-True-clause-kept t c =
    c.refute_truth.ensures.kept

pub returns-in-True-clause-facts : goal.returns-in-True-clause-facts
returns-in-True-clause-facts t c =
    c.refute_truth.ensures.facts

pub returns-in-True-clause-gives : goal.returns-in-True-clause-gives
returns-in-True-clause-gives t c =
    let log = c.args.log.now in
    let f = c.args.f.now in
    let s = c.args.positive in
    let x = c.args.t.now in
    let n = c.args.next in
    let m = c.requires.matches in
    let h = c.requires.formula in
    let sig = log.env.sig in
    let new = c.refute_truth.new.log in
    IfOk-weaker c.refute_truth.result _ _
    (λ r g. refutes_as new (only (placed s x)) r (refuted f s x n) (leaf (truth s) n) (at_true s x n f c.in-True.is) (subst (λ z. Refutes new (only (placed s z)) (leaf (truth s) n) r) (sym (true_like f x m c.in-True.is)) g))
    c.refute_truth.ensures.gives

pub returns-in-False-clause-kept : goal.returns-in-False-clause-kept
returns-in-False-clause-kept t c =
    c.refute_falsehood.ensures.kept

pub returns-in-False-clause-facts : goal.returns-in-False-clause-facts
returns-in-False-clause-facts t c =
    c.refute_falsehood.ensures.facts

pub returns-in-False-clause-gives : goal.returns-in-False-clause-gives
returns-in-False-clause-gives t c =
    let log = c.args.log.now in
    let f = c.args.f.now in
    let s = c.args.positive in
    let x = c.args.t.now in
    let n = c.args.next in
    let m = c.requires.matches in
    let h = c.requires.formula in
    let sig = log.env.sig in
    let new = c.refute_falsehood.new.log in
    IfOk-weaker c.refute_falsehood.result _ _
    (λ r g. refutes_as new (only (placed s x)) r (refuted f s x n) (leaf (truth (not s)) n) (at_false s x n f c.in-False.is) (subst (λ z. Refutes new (only (placed s z)) (leaf (truth (not s)) n) r) (sym (false_like f x m c.in-False.is)) g))
    c.refute_falsehood.ensures.gives

pub refute_atom-requires : goal.refute_atom-requires
refute_atom-requires t c =
    c.requires.formula

pub returns-in-Atom-clause-kept : goal.returns-in-Atom-clause-kept
returns-in-Atom-clause-kept t c =
    c.refute_atom.ensures.kept

pub returns-in-Atom-clause-facts : goal.returns-in-Atom-clause-facts
returns-in-Atom-clause-facts t c =
    c.refute_atom.ensures.facts

pub returns-in-Atom-clause-gives : goal.returns-in-Atom-clause-gives
returns-in-Atom-clause-gives t c =
    let log = c.args.log.now in
    let f = c.args.f.now in
    let s = c.args.positive in
    let x = c.args.t.now in
    let n = c.args.next in
    let m = c.requires.matches in
    let h = c.requires.formula in
    let sig = log.env.sig in
    let new = c.refute_atom.new.log in
    IfOk-weaker c.refute_atom.result _ _ (λ r g. refutes_as new (only (placed s x)) r (refuted f s x n) (leaf (literal s x) n) (at_atom s x n f _ c.in-Atom.is) g) c.refute_atom.ensures.gives

pub refute-requires : goal.refute-requires
refute-requires t c =
    let log = c.args.log.now in
    let f = c.args.f.now in
    let s = c.args.positive in
    let x = c.args.t.now in
    let n = c.args.next in
    let m = c.requires.matches in
    let h = c.requires.formula in
    let sig = log.env.sig in
    let a = c.in-Not.a in
    let w = under_not sig f x m h a c.get.result.now c.right.result.now c.in-Not.is c.get.ensures c.right.ensures in
    (search (rules, the_lemmas), (w.0, w.1))

pub returns-in_err-inner-in-Not-clause-kept : goal.returns-in_err-inner-in-Not-clause-kept
returns-in_err-inner-in-Not-clause-kept t c =
    c.refute.ensures.kept

pub returns-in_err-inner-in-Not-clause-facts : goal.returns-in_err-inner-in-Not-clause-facts
returns-in_err-inner-in-Not-clause-facts t c =
    c.refute.ensures.facts

pub returns-in_err-inner-in-Not-clause-gives : goal.returns-in_err-inner-in-Not-clause-gives
returns-in_err-inner-in-Not-clause-gives t c =
    err_free c.from_residual.result _ c.from_residual.ensures.0

pub refute_negation-requires-clause-a : goal.refute_negation-requires-clause-a
refute_negation-requires-clause-a t c =
    let log = c.args.log.now in
    let f = c.args.f.now in
    let s = c.args.positive in
    let x = c.args.t.now in
    let n = c.args.next in
    let m = c.requires.matches in
    let h = c.requires.formula in
    let sig = log.env.sig in
    let a = c.in-Not.a in
    (under_not c.refute.new.log.env.sig f x m (formula_stays log c.refute.new.log x c.refute.ensures.kept h) a a c.right-in-Not.result.now c.in-Not.is refl c.right-in-Not.ensures).0

pub refute_negation-requires-clause-refuted : goal.refute_negation-requires-clause-refuted
refute_negation-requires-clause-refuted t c =
    let log = c.args.log.now in
    let f = c.args.f.now in
    let s = c.args.positive in
    let x = c.args.t.now in
    let n = c.args.next in
    let m = c.requires.matches in
    let h = c.requires.formula in
    let sig = log.env.sig in
    let a = c.in-Not.a in
    all_false c.refute.new.log (only (placed (not s) c.right.result.now)) (refuted c.get.result.now (not s) c.right.result.now n).clauses c.in_ok-inner-in-Not.inner.thms c.in_ok-inner-in-Not.ensures.gives.refuted

pub returns-in_ok-inner-in-Not-clause-kept : goal.returns-in_ok-inner-in-Not-clause-kept
returns-in_ok-inner-in-Not-clause-kept t c =
    extends_trans _ _ _ c.refute.ensures.kept c.refute_negation.ensures.kept

pub returns-in_ok-inner-in-Not-clause-facts : goal.returns-in_ok-inner-in-Not-clause-facts
returns-in_ok-inner-in-Not-clause-facts t c =
    c.refute_negation.ensures.facts ∙ c.refute.ensures.facts

pub returns-in_ok-inner-in-Not-clause-gives : goal.returns-in_ok-inner-in-Not-clause-gives
returns-in_ok-inner-in-Not-clause-gives t c =
    let log = c.args.log.now in
    let f = c.args.f.now in
    let s = c.args.positive in
    let x = c.args.t.now in
    let n = c.args.next in
    let m = c.requires.matches in
    let h = c.requires.formula in
    let sig = log.env.sig in
    let a = c.in-Not.a in
    both_ok c.refute_negation.result _ _ _ c.refute_negation.ensures.next c.refute_negation.ensures.gives
    (λ r next gives.
    not_refutes f x m s n c.refute.new.log c.refute_negation.new.log a c.get.result.now c.right.result.now c.right-in-Not.result.now c.in_ok-inner-in-Not.inner r c.in-Not.is c.get.ensures c.right.ensures c.right-in-Not.ensures
    c.in_ok-inner-in-Not.ensures.gives next gives)

pub refute-requires-in-Two : goal.refute-requires-in-Two
refute-requires-in-Two t c =
    let log = c.args.log.now in
    let f = c.args.f.now in
    let s = c.args.positive in
    let x = c.args.t.now in
    let n = c.args.next in
    let m = c.requires.matches in
    let h = c.requires.formula in
    let sig = log.env.sig in
    let j = c.in-Two.junction in
    let a = c.in-Two.a in
    let b = c.in-Two.b in
    let is = c.in-Two.is in
    let w = under_left sig f x m h j a b c.get-in-Two.result.now c.left.result.now is c.get-in-Two.ensures c.left.ensures in
    (search (rules, the_lemmas), (w.0, w.1))

pub returns-in_err-one-in-Two-clause-kept : goal.returns-in_err-one-in-Two-clause-kept
returns-in_err-one-in-Two-clause-kept t c =
    c.refute-in-Two.ensures.kept

pub returns-in_err-one-in-Two-clause-facts : goal.returns-in_err-one-in-Two-clause-facts
returns-in_err-one-in-Two-clause-facts t c =
    c.refute-in-Two.ensures.facts

pub returns-in_err-one-in-Two-clause-gives : goal.returns-in_err-one-in-Two-clause-gives
returns-in_err-one-in-Two-clause-gives t c =
    err_free c.from_residual-in_err-one-in-Two.result _ c.from_residual-in_err-one-in-Two.ensures.0

pub refute-requires-then-not-is_iff : goal.refute-requires-then-not-is_iff
refute-requires-then-not-is_iff t c =
    let log = c.args.log.now in
    let f = c.args.f.now in
    let s = c.args.positive in
    let x = c.args.t.now in
    let n = c.args.next in
    let m = c.requires.matches in
    let h = c.requires.formula in
    let sig = log.env.sig in
    let j = c.in-Two.junction in
    let a = c.in-Two.a in
    let b = c.in-Two.b in
    let is = c.in-Two.is in
    let now = c.refute-in-Two.new.log in
    let w = under_right now.env.sig f x m (formula_stays log now x c.refute-in-Two.ensures.kept h) j a b c.get-then-not-is_iff.result.now c.right-then-not-is_iff.result.now is c.get-then-not-is_iff.ensures c.right-then-not-is_iff.ensures in
    (search (rules, the_lemmas), (w.0, w.1))

pub returns-in_err-two-in-Two-clause-kept : goal.returns-in_err-two-in-Two-clause-kept
returns-in_err-two-in-Two-clause-kept t c =
    extends_trans _ _ _ c.refute-in-Two.ensures.kept c.refute-then-not-is_iff.ensures.kept

pub returns-in_err-two-in-Two-clause-facts : goal.returns-in_err-two-in-Two-clause-facts
returns-in_err-two-in-Two-clause-facts t c =
    c.refute-then-not-is_iff.ensures.facts ∙ c.refute-in-Two.ensures.facts

pub returns-in_err-two-in-Two-clause-gives : goal.returns-in_err-two-in-Two-clause-gives
returns-in_err-two-in-Two-clause-gives t c =
    err_free c.from_residual-in_err-two-in-Two.result _ c.from_residual-in_err-two-in-Two.ensures.0

pub refute_junction-requires-clause-other : goal.refute_junction-requires-clause-other
refute_junction-requires-clause-other t c =
    sym c.if-not-is_iff.ensures

pub refute_junction-requires-clause-whole : goal.refute_junction-requires-clause-whole
refute_junction-requires-clause-whole t c =
    let log = c.args.log.now in
    let f = c.args.f.now in
    let s = c.args.positive in
    let x = c.args.t.now in
    let n = c.args.next in
    let m = c.requires.matches in
    let h = c.requires.formula in
    let sig = log.env.sig in
    let j = c.in-Two.junction in
    let a = c.in-Two.a in
    let b = c.in-Two.b in
    let is = c.in-Two.is in
    let l1 = c.refute-in-Two.new.log in
    let l2 = c.refute-then-not-is_iff.new.log in
    let one = c.in_ok-one-in-Two.one in
    let two = c.in_ok-two-in-Two.two in
    let k1 = c.refute-in-Two.ensures.kept in
    let k2 = c.refute-then-not-is_iff.ensures.kept in
    let t1 = c.left.result.now in
    let t2 = c.right-then-not-is_iff.result.now in
    let t3 = c.left-then-not-is_iff.result.now in
    let t4 = c.right-then-not-is_iff-2.result.now in
    junction_whole l2.env.sig f x m (formula_stays log l2 x (extends_trans _ _ _ k1 k2) h) j a b t3 t4 is c.left-then-not-is_iff.ensures c.right-then-not-is_iff-2.ensures

pub refute_junction-requires-clause-one : goal.refute_junction-requires-clause-one
refute_junction-requires-clause-one t c =
    let log = c.args.log.now in
    let f = c.args.f.now in
    let s = c.args.positive in
    let x = c.args.t.now in
    let n = c.args.next in
    let m = c.requires.matches in
    let h = c.requires.formula in
    let sig = log.env.sig in
    let j = c.in-Two.junction in
    let a = c.in-Two.a in
    let b = c.in-Two.b in
    let is = c.in-Two.is in
    let l1 = c.refute-in-Two.new.log in
    let l2 = c.refute-then-not-is_iff.new.log in
    let one = c.in_ok-one-in-Two.one in
    let two = c.in_ok-two-in-Two.two in
    let k1 = c.refute-in-Two.ensures.kept in
    let k2 = c.refute-then-not-is_iff.ensures.kept in
    let t1 = c.left.result.now in
    let t2 = c.right-then-not-is_iff.result.now in
    let t3 = c.left-then-not-is_iff.result.now in
    let t4 = c.right-then-not-is_iff-2.result.now in
    all_false_stay l1 l2 one.thms k2 (all_false l1 _ _ one.thms c.in_ok-one-in-Two.ensures.gives.refuted)

pub refute_junction-requires-clause-two : goal.refute_junction-requires-clause-two
refute_junction-requires-clause-two t c =
    let log = c.args.log.now in
    let f = c.args.f.now in
    let s = c.args.positive in
    let x = c.args.t.now in
    let n = c.args.next in
    let m = c.requires.matches in
    let h = c.requires.formula in
    let sig = log.env.sig in
    let j = c.in-Two.junction in
    let a = c.in-Two.a in
    let b = c.in-Two.b in
    let is = c.in-Two.is in
    let l1 = c.refute-in-Two.new.log in
    let l2 = c.refute-then-not-is_iff.new.log in
    let one = c.in_ok-one-in-Two.one in
    let two = c.in_ok-two-in-Two.two in
    let k1 = c.refute-in-Two.ensures.kept in
    let k2 = c.refute-then-not-is_iff.ensures.kept in
    let t1 = c.left.result.now in
    let t2 = c.right-then-not-is_iff.result.now in
    let t3 = c.left-then-not-is_iff.result.now in
    let t4 = c.right-then-not-is_iff-2.result.now in
    all_false l2 _ _ two.thms c.in_ok-two-in-Two.ensures.gives.refuted

pub returns-then-not-is_iff-clause-kept : goal.returns-then-not-is_iff-clause-kept
returns-then-not-is_iff-clause-kept t c =
    extends_trans _ _ _ c.refute-in-Two.ensures.kept (extends_trans _ _ _ c.refute-then-not-is_iff.ensures.kept c.refute_junction.ensures.kept)

pub returns-then-not-is_iff-clause-facts : goal.returns-then-not-is_iff-clause-facts
returns-then-not-is_iff-clause-facts t c =
    c.refute_junction.ensures.facts ∙ c.refute-then-not-is_iff.ensures.facts ∙ c.refute-in-Two.ensures.facts

pub returns-then-not-is_iff-clause-gives : goal.returns-then-not-is_iff-clause-gives
returns-then-not-is_iff-clause-gives t c =
    let log = c.args.log.now in
    let f = c.args.f.now in
    let s = c.args.positive in
    let x = c.args.t.now in
    let n = c.args.next in
    let m = c.requires.matches in
    let h = c.requires.formula in
    let sig = log.env.sig in
    let j = c.in-Two.junction in
    let a = c.in-Two.a in
    let b = c.in-Two.b in
    let is = c.in-Two.is in
    let l1 = c.refute-in-Two.new.log in
    let l2 = c.refute-then-not-is_iff.new.log in
    let one = c.in_ok-one-in-Two.one in
    let two = c.in_ok-two-in-Two.two in
    let k1 = c.refute-in-Two.ensures.kept in
    let k2 = c.refute-then-not-is_iff.ensures.kept in
    let t1 = c.left.result.now in
    let t2 = c.right-then-not-is_iff.result.now in
    let t3 = c.left-then-not-is_iff.result.now in
    let t4 = c.right-then-not-is_iff-2.result.now in
    both_ok c.refute_junction.result _ _ _ c.refute_junction.ensures.next c.refute_junction.ensures.gives
    (λ r next gives.
    two_refutes f x m s n l1 l2 c.refute_junction.new.log j a b c.get-in-Two.result.now c.get-then-not-is_iff.result.now c.first_sign-first.result t1 t2 t3 t4 one two r is (sym c.if-not-is_iff.ensures) c.get-in-Two.ensures
    c.get-then-not-is_iff.ensures c.first_sign-first.ensures c.left.ensures c.right-then-not-is_iff.ensures c.left-then-not-is_iff.ensures c.right-then-not-is_iff-2.ensures k2 c.in_ok-one-in-Two.ensures.gives
    c.in_ok-two-in-Two.ensures.gives next gives)

pub refute-requires-in-Two-2 : goal.refute-requires-in-Two-2
refute-requires-in-Two-2 t c =
    let log = c.args.log.now in
    let f = c.args.f.now in
    let s = c.args.positive in
    let x = c.args.t.now in
    let n = c.args.next in
    let m = c.requires.matches in
    let h = c.requires.formula in
    let sig = log.env.sig in
    let j = c.in-Two.junction in
    let a = c.in-Two.a in
    let b = c.in-Two.b in
    let is = c.in-Two.is in
    let now = c.refute-in-Two.new.log in
    let w = under_right now.env.sig f x m (formula_stays log now x c.refute-in-Two.ensures.kept h) j a b c.get-in-Two-2.result.now c.right-in-Two.result.now is c.get-in-Two-2.ensures c.right-in-Two.ensures in
    (search (rules, the_lemmas), (w.0, w.1))

pub returns-in_err-two-in-Two-2-clause-kept : goal.returns-in_err-two-in-Two-2-clause-kept
returns-in_err-two-in-Two-2-clause-kept t c =
    extends_trans _ _ _ c.refute-in-Two.ensures.kept c.refute-in-Two-2.ensures.kept

pub returns-in_err-two-in-Two-2-clause-facts : goal.returns-in_err-two-in-Two-2-clause-facts
returns-in_err-two-in-Two-2-clause-facts t c =
    c.refute-in-Two-2.ensures.facts ∙ c.refute-in-Two.ensures.facts

pub returns-in_err-two-in-Two-2-clause-gives : goal.returns-in_err-two-in-Two-2-clause-gives
returns-in_err-two-in-Two-2-clause-gives t c =
    err_free c.from_residual-in_err-two-in-Two-2.result _ c.from_residual-in_err-two-in-Two-2.ensures.0

pub refute-requires-in-Two-3 : goal.refute-requires-in-Two-3
refute-requires-in-Two-3 t c =
    let log = c.args.log.now in
    let f = c.args.f.now in
    let s = c.args.positive in
    let x = c.args.t.now in
    let n = c.args.next in
    let m = c.requires.matches in
    let h = c.requires.formula in
    let sig = log.env.sig in
    let j = c.in-Two.junction in
    let a = c.in-Two.a in
    let b = c.in-Two.b in
    let is = c.in-Two.is in
    let now = c.refute-in-Two-2.new.log in
    let w = under_left now.env.sig f x m (formula_stays log now x (extends_trans _ _ _ c.refute-in-Two.ensures.kept c.refute-in-Two-2.ensures.kept) h) j a b c.get-in-Two-3.result.now c.left-in-Two.result.now is c.get-in-Two-3.ensures c.left-in-Two.ensures in
    (search (rules, the_lemmas), (w.0, w.1))

pub returns-in_err-three-in-Two-clause-kept : goal.returns-in_err-three-in-Two-clause-kept
returns-in_err-three-in-Two-clause-kept t c =
    extends_trans _ _ _ c.refute-in-Two.ensures.kept (extends_trans _ _ _ c.refute-in-Two-2.ensures.kept c.refute-in-Two-3.ensures.kept)

pub returns-in_err-three-in-Two-clause-facts : goal.returns-in_err-three-in-Two-clause-facts
returns-in_err-three-in-Two-clause-facts t c =
    c.refute-in-Two-3.ensures.facts ∙ c.refute-in-Two-2.ensures.facts ∙ c.refute-in-Two.ensures.facts

pub returns-in_err-three-in-Two-clause-gives : goal.returns-in_err-three-in-Two-clause-gives
returns-in_err-three-in-Two-clause-gives t c =
    err_free c.from_residual-in_err-three-in-Two.result _ c.from_residual-in_err-three-in-Two.ensures.0

pub refute-requires-in-Two-4 : goal.refute-requires-in-Two-4
refute-requires-in-Two-4 t c =
    let log = c.args.log.now in
    let f = c.args.f.now in
    let s = c.args.positive in
    let x = c.args.t.now in
    let n = c.args.next in
    let m = c.requires.matches in
    let h = c.requires.formula in
    let sig = log.env.sig in
    let j = c.in-Two.junction in
    let a = c.in-Two.a in
    let b = c.in-Two.b in
    let is = c.in-Two.is in
    let now = c.refute-in-Two-3.new.log in
    let w = under_right now.env.sig f x m (formula_stays log now x (extends_trans _ _ _ c.refute-in-Two.ensures.kept (extends_trans _ _ _ c.refute-in-Two-2.ensures.kept c.refute-in-Two-3.ensures.kept)) h) j a b c.get-in-Two-4.result.now c.right-in-Two-2.result.now is c.get-in-Two-4.ensures c.right-in-Two-2.ensures in
    (search (rules, the_lemmas), (w.0, w.1))

pub returns-in_err-four-in-Two-clause-kept : goal.returns-in_err-four-in-Two-clause-kept
returns-in_err-four-in-Two-clause-kept t c =
    extends_trans _ _ _ c.refute-in-Two.ensures.kept (extends_trans _ _ _ c.refute-in-Two-2.ensures.kept (extends_trans _ _ _ c.refute-in-Two-3.ensures.kept c.refute-in-Two-4.ensures.kept))

pub returns-in_err-four-in-Two-clause-facts : goal.returns-in_err-four-in-Two-clause-facts
returns-in_err-four-in-Two-clause-facts t c =
    c.refute-in-Two-4.ensures.facts ∙ c.refute-in-Two-3.ensures.facts ∙ c.refute-in-Two-2.ensures.facts ∙ c.refute-in-Two.ensures.facts

pub returns-in_err-four-in-Two-clause-gives : goal.returns-in_err-four-in-Two-clause-gives
returns-in_err-four-in-Two-clause-gives t c =
    err_free c.from_residual-in_err-four-in-Two.result _ c.from_residual-in_err-four-in-Two.ensures.0

pub refute_equation-requires-clause-whole : goal.refute_equation-requires-clause-whole
refute_equation-requires-clause-whole t c =
    let log = c.args.log.now in
    let f = c.args.f.now in
    let s = c.args.positive in
    let x = c.args.t.now in
    let n = c.args.next in
    let m = c.requires.matches in
    let h = c.requires.formula in
    let sig = log.env.sig in
    let j = c.in-Two.junction in
    let a = c.in-Two.a in
    let b = c.in-Two.b in
    let is = c.in-Two.is in
    let iff = iff_is j (sym c.if-not-is_iff.ensures) in
    let l1 = c.refute-in-Two.new.log in
    let l2 = c.refute-in-Two-2.new.log in
    let l3 = c.refute-in-Two-3.new.log in
    let l4 = c.refute-in-Two-4.new.log in
    let k1 = c.refute-in-Two.ensures.kept in
    let k2 = c.refute-in-Two-2.ensures.kept in
    let k3 = c.refute-in-Two-3.ensures.kept in
    let k4 = c.refute-in-Two-4.ensures.kept in
    let one = c.in_ok-one-in-Two.one in
    let two = c.in_ok-two-in-Two-2.two in
    let three = c.in_ok-three-in-Two.three in
    let four = c.in_ok-four-in-Two.four in
    let t5 = c.left-in-Two-2.result.now in
    let t6 = c.right-in-Two-3.result.now in
    subst (λ i. IsFormula l4.env.sig (junction i t5 t6)) iff (junction_whole l4.env.sig f x m (formula_stays log l4 x (extends_trans _ _ _ k1 (extends_trans _ _ _ k2 (extends_trans _ _ _ k3 k4))) h) j a b t5 t6 is c.left-in-Two-2.ensures c.right-in-Two-3.ensures)

pub refute_equation-requires-clause-one : goal.refute_equation-requires-clause-one
refute_equation-requires-clause-one t c =
    let log = c.args.log.now in
    let f = c.args.f.now in
    let s = c.args.positive in
    let x = c.args.t.now in
    let n = c.args.next in
    let m = c.requires.matches in
    let h = c.requires.formula in
    let sig = log.env.sig in
    let j = c.in-Two.junction in
    let a = c.in-Two.a in
    let b = c.in-Two.b in
    let is = c.in-Two.is in
    let iff = iff_is j (sym c.if-not-is_iff.ensures) in
    let l1 = c.refute-in-Two.new.log in
    let l2 = c.refute-in-Two-2.new.log in
    let l3 = c.refute-in-Two-3.new.log in
    let l4 = c.refute-in-Two-4.new.log in
    let k1 = c.refute-in-Two.ensures.kept in
    let k2 = c.refute-in-Two-2.ensures.kept in
    let k3 = c.refute-in-Two-3.ensures.kept in
    let k4 = c.refute-in-Two-4.ensures.kept in
    let one = c.in_ok-one-in-Two.one in
    let two = c.in_ok-two-in-Two-2.two in
    let three = c.in_ok-three-in-Two.three in
    let four = c.in_ok-four-in-Two.four in
    let t5 = c.left-in-Two-2.result.now in
    let t6 = c.right-in-Two-3.result.now in
    all_false_stay l1 l4 one.thms (extends_trans _ _ _ k2 (extends_trans _ _ _ k3 k4)) (all_false l1 _ _ one.thms c.in_ok-one-in-Two.ensures.gives.refuted)

pub refute_equation-requires-clause-two : goal.refute_equation-requires-clause-two
refute_equation-requires-clause-two t c =
    let log = c.args.log.now in
    let f = c.args.f.now in
    let s = c.args.positive in
    let x = c.args.t.now in
    let n = c.args.next in
    let m = c.requires.matches in
    let h = c.requires.formula in
    let sig = log.env.sig in
    let j = c.in-Two.junction in
    let a = c.in-Two.a in
    let b = c.in-Two.b in
    let is = c.in-Two.is in
    let iff = iff_is j (sym c.if-not-is_iff.ensures) in
    let l1 = c.refute-in-Two.new.log in
    let l2 = c.refute-in-Two-2.new.log in
    let l3 = c.refute-in-Two-3.new.log in
    let l4 = c.refute-in-Two-4.new.log in
    let k1 = c.refute-in-Two.ensures.kept in
    let k2 = c.refute-in-Two-2.ensures.kept in
    let k3 = c.refute-in-Two-3.ensures.kept in
    let k4 = c.refute-in-Two-4.ensures.kept in
    let one = c.in_ok-one-in-Two.one in
    let two = c.in_ok-two-in-Two-2.two in
    let three = c.in_ok-three-in-Two.three in
    let four = c.in_ok-four-in-Two.four in
    let t5 = c.left-in-Two-2.result.now in
    let t6 = c.right-in-Two-3.result.now in
    all_false_stay l2 l4 two.thms (extends_trans _ _ _ k3 k4) (all_false l2 _ _ two.thms c.in_ok-two-in-Two-2.ensures.gives.refuted)

pub refute_equation-requires-clause-three : goal.refute_equation-requires-clause-three
refute_equation-requires-clause-three t c =
    let log = c.args.log.now in
    let f = c.args.f.now in
    let s = c.args.positive in
    let x = c.args.t.now in
    let n = c.args.next in
    let m = c.requires.matches in
    let h = c.requires.formula in
    let sig = log.env.sig in
    let j = c.in-Two.junction in
    let a = c.in-Two.a in
    let b = c.in-Two.b in
    let is = c.in-Two.is in
    let iff = iff_is j (sym c.if-not-is_iff.ensures) in
    let l1 = c.refute-in-Two.new.log in
    let l2 = c.refute-in-Two-2.new.log in
    let l3 = c.refute-in-Two-3.new.log in
    let l4 = c.refute-in-Two-4.new.log in
    let k1 = c.refute-in-Two.ensures.kept in
    let k2 = c.refute-in-Two-2.ensures.kept in
    let k3 = c.refute-in-Two-3.ensures.kept in
    let k4 = c.refute-in-Two-4.ensures.kept in
    let one = c.in_ok-one-in-Two.one in
    let two = c.in_ok-two-in-Two-2.two in
    let three = c.in_ok-three-in-Two.three in
    let four = c.in_ok-four-in-Two.four in
    let t5 = c.left-in-Two-2.result.now in
    let t6 = c.right-in-Two-3.result.now in
    all_false_stay l3 l4 three.thms k4 (all_false l3 _ _ three.thms c.in_ok-three-in-Two.ensures.gives.refuted)

pub refute_equation-requires-clause-four : goal.refute_equation-requires-clause-four
refute_equation-requires-clause-four t c =
    let log = c.args.log.now in
    let f = c.args.f.now in
    let s = c.args.positive in
    let x = c.args.t.now in
    let n = c.args.next in
    let m = c.requires.matches in
    let h = c.requires.formula in
    let sig = log.env.sig in
    let j = c.in-Two.junction in
    let a = c.in-Two.a in
    let b = c.in-Two.b in
    let is = c.in-Two.is in
    let iff = iff_is j (sym c.if-not-is_iff.ensures) in
    let l1 = c.refute-in-Two.new.log in
    let l2 = c.refute-in-Two-2.new.log in
    let l3 = c.refute-in-Two-3.new.log in
    let l4 = c.refute-in-Two-4.new.log in
    let k1 = c.refute-in-Two.ensures.kept in
    let k2 = c.refute-in-Two-2.ensures.kept in
    let k3 = c.refute-in-Two-3.ensures.kept in
    let k4 = c.refute-in-Two-4.ensures.kept in
    let one = c.in_ok-one-in-Two.one in
    let two = c.in_ok-two-in-Two-2.two in
    let three = c.in_ok-three-in-Two.three in
    let four = c.in_ok-four-in-Two.four in
    let t5 = c.left-in-Two-2.result.now in
    let t6 = c.right-in-Two-3.result.now in
    all_false l4 _ _ four.thms c.in_ok-four-in-Two.ensures.gives.refuted

pub returns-in_ok-four-in-Two-clause-kept : goal.returns-in_ok-four-in-Two-clause-kept
returns-in_ok-four-in-Two-clause-kept t c =
    extends_trans _ _ _ c.refute-in-Two.ensures.kept (extends_trans _ _ _ c.refute-in-Two-2.ensures.kept (extends_trans _ _ _ c.refute-in-Two-3.ensures.kept (extends_trans _ _ _ c.refute-in-Two-4.ensures.kept c.refute_equation.ensures.kept)))

pub returns-in_ok-four-in-Two-clause-facts : goal.returns-in_ok-four-in-Two-clause-facts
returns-in_ok-four-in-Two-clause-facts t c =
    c.refute_equation.ensures.facts ∙ c.refute-in-Two-4.ensures.facts ∙ c.refute-in-Two-3.ensures.facts ∙ c.refute-in-Two-2.ensures.facts ∙ c.refute-in-Two.ensures.facts

pub returns-in_ok-four-in-Two-clause-gives : goal.returns-in_ok-four-in-Two-clause-gives
returns-in_ok-four-in-Two-clause-gives t c =
    let log = c.args.log.now in
    let f = c.args.f.now in
    let s = c.args.positive in
    let x = c.args.t.now in
    let n = c.args.next in
    let m = c.requires.matches in
    let h = c.requires.formula in
    let sig = log.env.sig in
    let j = c.in-Two.junction in
    let a = c.in-Two.a in
    let b = c.in-Two.b in
    let is = c.in-Two.is in
    let iff = iff_is j (sym c.if-not-is_iff.ensures) in
    let l1 = c.refute-in-Two.new.log in
    let l2 = c.refute-in-Two-2.new.log in
    let l3 = c.refute-in-Two-3.new.log in
    let l4 = c.refute-in-Two-4.new.log in
    let k1 = c.refute-in-Two.ensures.kept in
    let k2 = c.refute-in-Two-2.ensures.kept in
    let k3 = c.refute-in-Two-3.ensures.kept in
    let k4 = c.refute-in-Two-4.ensures.kept in
    let one = c.in_ok-one-in-Two.one in
    let two = c.in_ok-two-in-Two-2.two in
    let three = c.in_ok-three-in-Two.three in
    let four = c.in_ok-four-in-Two.four in
    let t5 = c.left-in-Two-2.result.now in
    let t6 = c.right-in-Two-3.result.now in
    both_ok c.refute_equation.result _ _ _ c.refute_equation.ensures.next c.refute_equation.ensures.gives
    (λ r next gives.
    equal_refutes f x m s n l1 l2 l3 l4 c.refute_equation.new.log j a b c.get-in-Two.result.now c.get-in-Two-2.result.now c.get-in-Two-3.result.now c.get-in-Two-4.result.now c.first_sign-first.result c.left.result.now
    c.right-in-Two.result.now c.left-in-Two.result.now c.right-in-Two-2.result.now t5 t6 one two three four r is iff c.get-in-Two.ensures c.get-in-Two-2.ensures c.get-in-Two-3.ensures c.get-in-Two-4.ensures c.first_sign-first.ensures
    c.left.ensures c.right-in-Two.ensures c.left-in-Two.ensures c.right-in-Two-2.ensures c.left-in-Two-2.ensures c.right-in-Two-3.ensures (extends_trans _ _ _ k2 (extends_trans _ _ _ k3 k4)) (extends_trans _ _ _ k3 k4) k4
    c.in_ok-one-in-Two.ensures.gives c.in_ok-two-in-Two-2.ensures.gives c.in_ok-three-in-Two.ensures.gives c.in_ok-four-in-Two.ensures.gives next gives)

pub returns-in_err-opened-in-Quantified-clause-kept : goal.returns-in_err-opened-in-Quantified-clause-kept
returns-in_err-opened-in-Quantified-clause-kept t c =
    extends_refl c.args.log.now

pub returns-in_err-opened-in-Quantified-clause-facts : goal.returns-in_err-opened-in-Quantified-clause-facts
returns-in_err-opened-in-Quantified-clause-facts t c =
    refl

pub returns-in_err-opened-in-Quantified-clause-gives : goal.returns-in_err-opened-in-Quantified-clause-gives
returns-in_err-opened-in-Quantified-clause-gives t c =
    err_free c.from_residual-in_err-opened-in-Quantified.result _ c.from_residual-in_err-opened-in-Quantified.ensures.0

pub refute-requires-then-is_universal : goal.refute-requires-then-is_universal
refute-requires-then-is_universal t c =
    let log = c.args.log.now in
    let f = c.args.f.now in
    let s = c.args.positive in
    let x = c.args.t.now in
    let n = c.args.next in
    let m = c.requires.matches in
    let h = c.requires.formula in
    let sig = log.env.sig in
    let q = c.in-Quantified.quantifier in
    let a = c.in-Quantified.ty in
    let b = c.in-Quantified.b in
    let is = c.in-Quantified.is in
    let p = c.right-property.result.now in
    let body = c.body-under.result.now in
    let eb = c.body-under.ensures ∙ ap body_of c.right-property.ensures in
    let whole = quantified_whole sig f x m h q a _ b body is eb in
    let o = c.in_ok-opened-in-Quantified.opened in
    let io = c.in_ok-opened-in-Quantified.ensures in
    let v = c.get-value.result.now in
    let part = c.get-part.result.now in
    let g = c.get-then-is_universal.result.now in
    let ev = c.get-value.ensures ∙ io.value in
    let ep = c.get-part.ensures ∙ io.part ∙ ap (instantiated body) (sym c.get-value.ensures) in
    let given = subst (λ z. IsGiven sig z a) (sym ev) (given_variable sig q a body n whole) in
    let w = under_value sig f x m h q a _ b g body part v is c.get-then-is_universal.ensures eb ep given in
    (search (rules, the_lemmas), (w.0, w.1))

pub returns-in_err-inner-in-Quantified-clause-kept : goal.returns-in_err-inner-in-Quantified-clause-kept
returns-in_err-inner-in-Quantified-clause-kept t c =
    c.refute-then-is_universal.ensures.kept

pub returns-in_err-inner-in-Quantified-clause-facts : goal.returns-in_err-inner-in-Quantified-clause-facts
returns-in_err-inner-in-Quantified-clause-facts t c =
    c.refute-then-is_universal.ensures.facts

pub returns-in_err-inner-in-Quantified-clause-gives : goal.returns-in_err-inner-in-Quantified-clause-gives
returns-in_err-inner-in-Quantified-clause-gives t c =
    err_free c.from_residual-in_err-inner-in-Quantified.result _ c.from_residual-in_err-inner-in-Quantified.ensures.0

pub refute_with_variable-requires-clause-x : goal.refute_with_variable-requires-clause-x
refute_with_variable-requires-clause-x t c =
    let log = c.args.log.now in
    let f = c.args.f.now in
    let s = c.args.positive in
    let x = c.args.t.now in
    let n = c.args.next in
    let m = c.requires.matches in
    let h = c.requires.formula in
    let sig = log.env.sig in
    let q = c.in-Quantified.quantifier in
    let a = c.in-Quantified.ty in
    let b = c.in-Quantified.b in
    let is = c.in-Quantified.is in
    let p = c.right-property.result.now in
    let body = c.body-under.result.now in
    let eb = c.body-under.ensures ∙ ap body_of c.right-property.ensures in
    let whole = quantified_whole sig f x m h q a _ b body is eb in
    let o = c.in_ok-opened-in-Quantified.opened in
    let io = c.in_ok-opened-in-Quantified.ensures in
    let v = c.get-value.result.now in
    let part = c.get-part.result.now in
    let g = c.get-then-is_universal.result.now in
    let ev = c.get-value.ensures ∙ io.value in
    let ep = c.get-part.ensures ∙ io.part ∙ ap (instantiated body) (sym c.get-value.ensures) in
    let given = subst (λ z. IsGiven sig z a) (sym ev) (given_variable sig q a body n whole) in
    record { property = property_is sig f x m h q a _ b p body is c.right-property.ensures eb; part = ep }

pub refute_with_variable-requires-clause-whole : goal.refute_with_variable-requires-clause-whole
refute_with_variable-requires-clause-whole t c =
    let log = c.args.log.now in
    let f = c.args.f.now in
    let s = c.args.positive in
    let x = c.args.t.now in
    let n = c.args.next in
    let m = c.requires.matches in
    let h = c.requires.formula in
    let sig = log.env.sig in
    let q = c.in-Quantified.quantifier in
    let a = c.in-Quantified.ty in
    let b = c.in-Quantified.b in
    let is = c.in-Quantified.is in
    let p = c.right-property.result.now in
    let body = c.body-under.result.now in
    let eb = c.body-under.ensures ∙ ap body_of c.right-property.ensures in
    let whole = quantified_whole sig f x m h q a _ b body is eb in
    let o = c.in_ok-opened-in-Quantified.opened in
    let io = c.in_ok-opened-in-Quantified.ensures in
    let v = c.get-value.result.now in
    let part = c.get-part.result.now in
    let g = c.get-then-is_universal.result.now in
    let ev = c.get-value.ensures ∙ io.value in
    let ep = c.get-part.ensures ∙ io.part ∙ ap (instantiated body) (sym c.get-value.ensures) in
    let given = subst (λ z. IsGiven sig z a) (sym ev) (given_variable sig q a body n whole) in
    formula_stays log c.refute-then-is_universal.new.log _ c.refute-then-is_universal.ensures.kept whole

pub refute_with_variable-requires-clause-value : goal.refute_with_variable-requires-clause-value
refute_with_variable-requires-clause-value t c =
    let log = c.args.log.now in
    let f = c.args.f.now in
    let s = c.args.positive in
    let x = c.args.t.now in
    let n = c.args.next in
    let m = c.requires.matches in
    let h = c.requires.formula in
    let sig = log.env.sig in
    let q = c.in-Quantified.quantifier in
    let a = c.in-Quantified.ty in
    let b = c.in-Quantified.b in
    let is = c.in-Quantified.is in
    let p = c.right-property.result.now in
    let body = c.body-under.result.now in
    let eb = c.body-under.ensures ∙ ap body_of c.right-property.ensures in
    let whole = quantified_whole sig f x m h q a _ b body is eb in
    let o = c.in_ok-opened-in-Quantified.opened in
    let io = c.in_ok-opened-in-Quantified.ensures in
    let v = c.get-value.result.now in
    let part = c.get-part.result.now in
    let g = c.get-then-is_universal.result.now in
    let ev = c.get-value.ensures ∙ io.value in
    let ep = c.get-part.ensures ∙ io.part ∙ ap (instantiated body) (sym c.get-value.ensures) in
    let given = subst (λ z. IsGiven sig z a) (sym ev) (given_variable sig q a body n whole) in
    subst (λ e. IsGiven e.sig v a) (sym c.refute-then-is_universal.ensures.kept.env) given

pub refute_with_variable-requires-clause-refuted : goal.refute_with_variable-requires-clause-refuted
refute_with_variable-requires-clause-refuted t c =
    let log = c.args.log.now in
    let f = c.args.f.now in
    let s = c.args.positive in
    let x = c.args.t.now in
    let n = c.args.next in
    let m = c.requires.matches in
    let h = c.requires.formula in
    let sig = log.env.sig in
    let q = c.in-Quantified.quantifier in
    let a = c.in-Quantified.ty in
    let b = c.in-Quantified.b in
    let is = c.in-Quantified.is in
    let p = c.right-property.result.now in
    let body = c.body-under.result.now in
    let eb = c.body-under.ensures ∙ ap body_of c.right-property.ensures in
    let whole = quantified_whole sig f x m h q a _ b body is eb in
    let o = c.in_ok-opened-in-Quantified.opened in
    let io = c.in_ok-opened-in-Quantified.ensures in
    let v = c.get-value.result.now in
    let part = c.get-part.result.now in
    let g = c.get-then-is_universal.result.now in
    let ev = c.get-value.ensures ∙ io.value in
    let ep = c.get-part.ensures ∙ io.part ∙ ap (instantiated body) (sym c.get-value.ensures) in
    let given = subst (λ z. IsGiven sig z a) (sym ev) (given_variable sig q a body n whole) in
    all_false c.refute-then-is_universal.new.log _ _ c.in_ok-inner-in-Quantified.inner.thms c.in_ok-inner-in-Quantified.ensures.gives.refuted

pub returns-then-is_universal-clause-kept : goal.returns-then-is_universal-clause-kept
returns-then-is_universal-clause-kept t c =
    extends_trans _ _ _ c.refute-then-is_universal.ensures.kept c.refute_with_variable.ensures.kept

pub returns-then-is_universal-clause-facts : goal.returns-then-is_universal-clause-facts
returns-then-is_universal-clause-facts t c =
    c.refute_with_variable.ensures.facts ∙ c.refute-then-is_universal.ensures.facts

pub returns-then-is_universal-clause-gives : goal.returns-then-is_universal-clause-gives
returns-then-is_universal-clause-gives t c =
    let log = c.args.log.now in
    let f = c.args.f.now in
    let s = c.args.positive in
    let x = c.args.t.now in
    let n = c.args.next in
    let m = c.requires.matches in
    let h = c.requires.formula in
    let sig = log.env.sig in
    let q = c.in-Quantified.quantifier in
    let a = c.in-Quantified.ty in
    let b = c.in-Quantified.b in
    let is = c.in-Quantified.is in
    let p = c.right-property.result.now in
    let body = c.body-under.result.now in
    let eb = c.body-under.ensures ∙ ap body_of c.right-property.ensures in
    let whole = quantified_whole sig f x m h q a _ b body is eb in
    let o = c.in_ok-opened-in-Quantified.opened in
    let io = c.in_ok-opened-in-Quantified.ensures in
    let v = c.get-value.result.now in
    let part = c.get-part.result.now in
    let g = c.get-then-is_universal.result.now in
    let ev = c.get-value.ensures ∙ io.value in
    let ep = c.get-part.ensures ∙ io.part ∙ ap (instantiated body) (sym c.get-value.ensures) in
    let given = subst (λ z. IsGiven sig z a) (sym ev) (given_variable sig q a body n whole) in
    let e = sym c.if-is_universal.ensures in
    both_ok c.refute_with_variable.result _ _ _ c.refute_with_variable.ensures.next c.refute_with_variable.ensures.gives
    (λ r next gives.
    quantified_refutes f x m s n c.refute-then-is_universal.new.log c.refute_with_variable.new.log q a _ b g body part v o.next c.in_ok-inner-in-Quantified.inner r is c.get-then-is_universal.ensures eb ep
    (value_universal q a s body n e ∙ sym ev) (next_universal q s n e ∙ sym io.next) c.in_ok-inner-in-Quantified.ensures.gives next (λ cs k. gives s cs e k))

pub open_chosen-requires-clause-whole : goal.open_chosen-requires-clause-whole
open_chosen-requires-clause-whole t c =
    let log = c.args.log.now in
    let f = c.args.f.now in
    let s = c.args.positive in
    let x = c.args.t.now in
    let n = c.args.next in
    let m = c.requires.matches in
    let h = c.requires.formula in
    let sig = log.env.sig in
    let q = c.in-Quantified.quantifier in
    let a = c.in-Quantified.ty in
    let b = c.in-Quantified.b in
    let is = c.in-Quantified.is in
    let p = c.right-property.result.now in
    let body = c.body-under.result.now in
    let eb = c.body-under.ensures ∙ ap body_of c.right-property.ensures in
    let whole = quantified_whole sig f x m h q a _ b body is eb in
    whole

pub open_chosen-requires-clause-property : goal.open_chosen-requires-clause-property
open_chosen-requires-clause-property t c =
    let log = c.args.log.now in
    let f = c.args.f.now in
    let s = c.args.positive in
    let x = c.args.t.now in
    let n = c.args.next in
    let m = c.requires.matches in
    let h = c.requires.formula in
    let sig = log.env.sig in
    let q = c.in-Quantified.quantifier in
    let a = c.in-Quantified.ty in
    let b = c.in-Quantified.b in
    let is = c.in-Quantified.is in
    let p = c.right-property.result.now in
    let body = c.body-under.result.now in
    let eb = c.body-under.ensures ∙ ap body_of c.right-property.ensures in
    let whole = quantified_whole sig f x m h q a _ b body is eb in
    property_is sig f x m h q a _ b p body is c.right-property.ensures eb

pub returns-in_err-opened-in-Quantified-2-clause-kept : goal.returns-in_err-opened-in-Quantified-2-clause-kept
returns-in_err-opened-in-Quantified-2-clause-kept t c =
    c.open_chosen.ensures.kept

pub returns-in_err-opened-in-Quantified-2-clause-facts : goal.returns-in_err-opened-in-Quantified-2-clause-facts
returns-in_err-opened-in-Quantified-2-clause-facts t c =
    c.open_chosen.ensures.facts

pub returns-in_err-opened-in-Quantified-2-clause-gives : goal.returns-in_err-opened-in-Quantified-2-clause-gives
returns-in_err-opened-in-Quantified-2-clause-gives t c =
    err_free c.from_residual-in_err-opened-in-Quantified-2.result _ c.from_residual-in_err-opened-in-Quantified-2.ensures.0

pub refute-requires-in-Quantified : goal.refute-requires-in-Quantified
refute-requires-in-Quantified t c =
    let log = c.args.log.now in
    let f = c.args.f.now in
    let s = c.args.positive in
    let x = c.args.t.now in
    let n = c.args.next in
    let m = c.requires.matches in
    let h = c.requires.formula in
    let sig = log.env.sig in
    let q = c.in-Quantified.quantifier in
    let a = c.in-Quantified.ty in
    let b = c.in-Quantified.b in
    let is = c.in-Quantified.is in
    let p = c.right-property.result.now in
    let body = c.body-under.result.now in
    let eb = c.body-under.ensures ∙ ap body_of c.right-property.ensures in
    let whole = quantified_whole sig f x m h q a _ b body is eb in
    let l1 = c.open_chosen.new.log in
    let k1 = c.open_chosen.ensures.kept in
    let o = c.in_ok-opened-in-Quantified-2.opened in
    let io = c.in_ok-opened-in-Quantified-2.ensures.gives in
    let v = c.get-value-in-Quantified.result.now in
    let part = c.get-part-in-Quantified.result.now in
    let g = c.get-in-Quantified.result.now in
    let ev = c.get-value-in-Quantified.ensures ∙ io.value in
    let ep = c.get-part-in-Quantified.ensures ∙ io.part ∙ ap (instantiated body) (sym c.get-value-in-Quantified.ensures) in
    let given = subst (λ z. IsGiven l1.env.sig z a) (sym ev) (subst (λ i. IsGiven i.sig (chosen_value a (property q a body)) a) (sym k1.env) (given_chosen sig q a body whole)) in
    let w = under_value l1.env.sig f x m (formula_stays log l1 x k1 h) q a _ b g body part v is c.get-in-Quantified.ensures eb ep given in
    (search (rules, the_lemmas), (w.0, w.1))

pub returns-in_err-inner-in-Quantified-2-clause-kept : goal.returns-in_err-inner-in-Quantified-2-clause-kept
returns-in_err-inner-in-Quantified-2-clause-kept t c =
    extends_trans _ _ _ c.open_chosen.ensures.kept c.refute-in-Quantified.ensures.kept

pub returns-in_err-inner-in-Quantified-2-clause-facts : goal.returns-in_err-inner-in-Quantified-2-clause-facts
returns-in_err-inner-in-Quantified-2-clause-facts t c =
    c.refute-in-Quantified.ensures.facts ∙ c.open_chosen.ensures.facts

pub returns-in_err-inner-in-Quantified-2-clause-gives : goal.returns-in_err-inner-in-Quantified-2-clause-gives
returns-in_err-inner-in-Quantified-2-clause-gives t c =
    err_free c.from_residual-in_err-inner-in-Quantified-2.result _ c.from_residual-in_err-inner-in-Quantified-2.ensures.0

pub refute_with_chosen-requires-clause-x : goal.refute_with_chosen-requires-clause-x
refute_with_chosen-requires-clause-x t c =
    let log = c.args.log.now in
    let f = c.args.f.now in
    let s = c.args.positive in
    let x = c.args.t.now in
    let n = c.args.next in
    let m = c.requires.matches in
    let h = c.requires.formula in
    let sig = log.env.sig in
    let q = c.in-Quantified.quantifier in
    let a = c.in-Quantified.ty in
    let b = c.in-Quantified.b in
    let is = c.in-Quantified.is in
    let p = c.right-property.result.now in
    let body = c.body-under.result.now in
    let eb = c.body-under.ensures ∙ ap body_of c.right-property.ensures in
    let whole = quantified_whole sig f x m h q a _ b body is eb in
    let l1 = c.open_chosen.new.log in
    let k1 = c.open_chosen.ensures.kept in
    let o = c.in_ok-opened-in-Quantified-2.opened in
    let io = c.in_ok-opened-in-Quantified-2.ensures.gives in
    let v = c.get-value-in-Quantified.result.now in
    let part = c.get-part-in-Quantified.result.now in
    let g = c.get-in-Quantified.result.now in
    let ev = c.get-value-in-Quantified.ensures ∙ io.value in
    let ep = c.get-part-in-Quantified.ensures ∙ io.part ∙ ap (instantiated body) (sym c.get-value-in-Quantified.ensures) in
    let given = subst (λ z. IsGiven l1.env.sig z a) (sym ev) (subst (λ i. IsGiven i.sig (chosen_value a (property q a body)) a) (sym k1.env) (given_chosen sig q a body whole)) in
    record { property = property_is sig f x m h q a _ b p body is c.right-property.ensures eb; part = ep }

pub refute_with_chosen-requires-clause-whole : goal.refute_with_chosen-requires-clause-whole
refute_with_chosen-requires-clause-whole t c =
    let log = c.args.log.now in
    let f = c.args.f.now in
    let s = c.args.positive in
    let x = c.args.t.now in
    let n = c.args.next in
    let m = c.requires.matches in
    let h = c.requires.formula in
    let sig = log.env.sig in
    let q = c.in-Quantified.quantifier in
    let a = c.in-Quantified.ty in
    let b = c.in-Quantified.b in
    let is = c.in-Quantified.is in
    let p = c.right-property.result.now in
    let body = c.body-under.result.now in
    let eb = c.body-under.ensures ∙ ap body_of c.right-property.ensures in
    let whole = quantified_whole sig f x m h q a _ b body is eb in
    let l1 = c.open_chosen.new.log in
    let k1 = c.open_chosen.ensures.kept in
    let o = c.in_ok-opened-in-Quantified-2.opened in
    let io = c.in_ok-opened-in-Quantified-2.ensures.gives in
    let v = c.get-value-in-Quantified.result.now in
    let part = c.get-part-in-Quantified.result.now in
    let g = c.get-in-Quantified.result.now in
    let ev = c.get-value-in-Quantified.ensures ∙ io.value in
    let ep = c.get-part-in-Quantified.ensures ∙ io.part ∙ ap (instantiated body) (sym c.get-value-in-Quantified.ensures) in
    let given = subst (λ z. IsGiven l1.env.sig z a) (sym ev) (subst (λ i. IsGiven i.sig (chosen_value a (property q a body)) a) (sym k1.env) (given_chosen sig q a body whole)) in
    let l2 = c.refute-in-Quantified.new.log in
    let k2 = c.refute-in-Quantified.ensures.kept in
    formula_stays log l2 _ (extends_trans _ _ _ k1 k2) whole

pub refute_with_chosen-requires-clause-name : goal.refute_with_chosen-requires-clause-name
refute_with_chosen-requires-clause-name t c =
    let log = c.args.log.now in
    let f = c.args.f.now in
    let s = c.args.positive in
    let x = c.args.t.now in
    let n = c.args.next in
    let m = c.requires.matches in
    let h = c.requires.formula in
    let sig = log.env.sig in
    let q = c.in-Quantified.quantifier in
    let a = c.in-Quantified.ty in
    let b = c.in-Quantified.b in
    let is = c.in-Quantified.is in
    let p = c.right-property.result.now in
    let body = c.body-under.result.now in
    let eb = c.body-under.ensures ∙ ap body_of c.right-property.ensures in
    let whole = quantified_whole sig f x m h q a _ b body is eb in
    let l1 = c.open_chosen.new.log in
    let k1 = c.open_chosen.ensures.kept in
    let o = c.in_ok-opened-in-Quantified-2.opened in
    let io = c.in_ok-opened-in-Quantified-2.ensures.gives in
    let v = c.get-value-in-Quantified.result.now in
    let part = c.get-part-in-Quantified.result.now in
    let g = c.get-in-Quantified.result.now in
    let ev = c.get-value-in-Quantified.ensures ∙ io.value in
    let ep = c.get-part-in-Quantified.ensures ∙ io.part ∙ ap (instantiated body) (sym c.get-value-in-Quantified.ensures) in
    let given = subst (λ z. IsGiven l1.env.sig z a) (sym ev) (subst (λ i. IsGiven i.sig (chosen_value a (property q a body)) a) (sym k1.env) (given_chosen sig q a body whole)) in
    let l2 = c.refute-in-Quantified.new.log in
    let k2 = c.refute-in-Quantified.ensures.kept in
    record {
      is_thm = thm_stays l1 l2 o.name.0 k2 io.is_thm;
      is = k2.earlier o.name.0 io.is_thm ∙ io.named ∙ ap (λ z. seq set.empty (equal a (chosen a (property q a body)) z)) (sym c.get-value-in-Quantified.ensures);
    }

pub refute_with_chosen-requires-clause-refuted : goal.refute_with_chosen-requires-clause-refuted
refute_with_chosen-requires-clause-refuted t c =
    let log = c.args.log.now in
    let f = c.args.f.now in
    let s = c.args.positive in
    let x = c.args.t.now in
    let n = c.args.next in
    let m = c.requires.matches in
    let h = c.requires.formula in
    let sig = log.env.sig in
    let q = c.in-Quantified.quantifier in
    let a = c.in-Quantified.ty in
    let b = c.in-Quantified.b in
    let is = c.in-Quantified.is in
    let p = c.right-property.result.now in
    let body = c.body-under.result.now in
    let eb = c.body-under.ensures ∙ ap body_of c.right-property.ensures in
    let whole = quantified_whole sig f x m h q a _ b body is eb in
    let l1 = c.open_chosen.new.log in
    let k1 = c.open_chosen.ensures.kept in
    let o = c.in_ok-opened-in-Quantified-2.opened in
    let io = c.in_ok-opened-in-Quantified-2.ensures.gives in
    let v = c.get-value-in-Quantified.result.now in
    let part = c.get-part-in-Quantified.result.now in
    let g = c.get-in-Quantified.result.now in
    let ev = c.get-value-in-Quantified.ensures ∙ io.value in
    let ep = c.get-part-in-Quantified.ensures ∙ io.part ∙ ap (instantiated body) (sym c.get-value-in-Quantified.ensures) in
    let given = subst (λ z. IsGiven l1.env.sig z a) (sym ev) (subst (λ i. IsGiven i.sig (chosen_value a (property q a body)) a) (sym k1.env) (given_chosen sig q a body whole)) in
    let l2 = c.refute-in-Quantified.new.log in
    let k2 = c.refute-in-Quantified.ensures.kept in
    all_false l2 _ _ c.in_ok-inner-in-Quantified-2.inner.thms c.in_ok-inner-in-Quantified-2.ensures.gives.refuted

pub returns-in_ok-inner-in-Quantified-2-clause-kept : goal.returns-in_ok-inner-in-Quantified-2-clause-kept
returns-in_ok-inner-in-Quantified-2-clause-kept t c =
    extends_trans _ _ _ c.open_chosen.ensures.kept (extends_trans _ _ _ c.refute-in-Quantified.ensures.kept c.refute_with_chosen.ensures.kept)

pub returns-in_ok-inner-in-Quantified-2-clause-facts : goal.returns-in_ok-inner-in-Quantified-2-clause-facts
returns-in_ok-inner-in-Quantified-2-clause-facts t c =
    c.refute_with_chosen.ensures.facts ∙ c.refute-in-Quantified.ensures.facts ∙ c.open_chosen.ensures.facts

pub returns-in_ok-inner-in-Quantified-2-clause-gives : goal.returns-in_ok-inner-in-Quantified-2-clause-gives
returns-in_ok-inner-in-Quantified-2-clause-gives t c =
    let log = c.args.log.now in
    let f = c.args.f.now in
    let s = c.args.positive in
    let x = c.args.t.now in
    let n = c.args.next in
    let m = c.requires.matches in
    let h = c.requires.formula in
    let sig = log.env.sig in
    let q = c.in-Quantified.quantifier in
    let a = c.in-Quantified.ty in
    let b = c.in-Quantified.b in
    let is = c.in-Quantified.is in
    let p = c.right-property.result.now in
    let body = c.body-under.result.now in
    let eb = c.body-under.ensures ∙ ap body_of c.right-property.ensures in
    let whole = quantified_whole sig f x m h q a _ b body is eb in
    let l1 = c.open_chosen.new.log in
    let k1 = c.open_chosen.ensures.kept in
    let o = c.in_ok-opened-in-Quantified-2.opened in
    let io = c.in_ok-opened-in-Quantified-2.ensures.gives in
    let v = c.get-value-in-Quantified.result.now in
    let part = c.get-part-in-Quantified.result.now in
    let g = c.get-in-Quantified.result.now in
    let ev = c.get-value-in-Quantified.ensures ∙ io.value in
    let ep = c.get-part-in-Quantified.ensures ∙ io.part ∙ ap (instantiated body) (sym c.get-value-in-Quantified.ensures) in
    let given = subst (λ z. IsGiven l1.env.sig z a) (sym ev) (subst (λ i. IsGiven i.sig (chosen_value a (property q a body)) a) (sym k1.env) (given_chosen sig q a body whole)) in
    let l2 = c.refute-in-Quantified.new.log in
    let k2 = c.refute-in-Quantified.ensures.kept in
    let e = sym c.if-is_universal.ensures in
    both_ok c.refute_with_chosen.result _ _ _ c.refute_with_chosen.ensures.next c.refute_with_chosen.ensures.gives
    (λ r next gives.
    quantified_refutes f x m s n l2 c.refute_with_chosen.new.log q a _ b g body part v n c.in_ok-inner-in-Quantified-2.inner r is c.get-in-Quantified.ensures eb ep
    (value_chosen q a s body n e ∙ sym ev) (next_chosen q s n e) c.in_ok-inner-in-Quantified-2.ensures.gives next (λ cs k. gives s cs e k))
