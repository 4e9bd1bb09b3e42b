use Rattle.std.proofs.Common.{refl, sym, ap, subst}
use Rattle.hol_terms.specs.Formulas.{IsFormula}
use Rattle.hyp_sets.specs.Sets.{only}
use Rattle.kernel_rules.specs.Rules.{seq}
use Rattle.kernel_rules.proofs.TypedTerms.{constant_formula}
use Rattle.hol_derived.proofs.Cuts.{gives_as}
use Rattle.hol_terms.specs.declared.konst.Konst.TheVariants as konst
use Rattle.hol_refutations.proofs.propositional.falsity.Goals as goal

pub assume_own-requires : goal.assume_own-requires
assume_own-requires c = subst (IsFormula c.args.log.now.env.sig) (sym c.falsehood.ensures) (constant_formula c.args.log.now.env.sig konst.False refl refl)

pub returns-clause-kept : goal.returns-clause-kept
returns-clause-kept c = c.assume_own.ensures.kept

pub returns-clause-facts : goal.returns-clause-facts
returns-clause-facts c = c.assume_own.ensures.facts

pub returns-clause-gives : goal.returns-clause-gives
returns-clause-gives c = gives_as c.assume_own.result c.assume_own.new.self _ _ (ap (λ z. seq (only z) z) c.falsehood.ensures) c.assume_own.ensures.gives
