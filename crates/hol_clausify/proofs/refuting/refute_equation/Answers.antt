use Rattle.hol_formulas.specs.declared.formula.Junction.TheVariants as junctions
use Rattle.hol_terms.specs.Types.{bool_ty}
use Rattle.kernel_rules.specs.Connectives.{equal}
use Rattle.kernel_rules.proofs.TypedTerms.{neg_formula}
use Rattle.hol_clausify.proofs.Formed.{sides_formulas}
use Rattle.hol_clausify.proofs.refuting.refute_equation.Goals as goal

pub refute_products-requires-clause-a : goal.refute_products-requires-clause-a
refute_products-requires-clause-a c = (sides_formulas c.args.log.now.env.sig junctions.Iff c.args.a.now c.args.b.now c.requires.whole).0

pub refute_products-requires-clause-b : goal.refute_products-requires-clause-b
refute_products-requires-clause-b c = (sides_formulas c.args.log.now.env.sig junctions.Iff c.args.a.now c.args.b.now c.requires.whole).1

pub refute_products-requires-else-positive-clause-a : goal.refute_products-requires-else-positive-clause-a
refute_products-requires-else-positive-clause-a c = (sides_formulas c.args.log.now.env.sig junctions.Iff c.args.a.now c.args.b.now c.requires.whole).0

pub refute_products-requires-else-positive-clause-b : goal.refute_products-requires-else-positive-clause-b
refute_products-requires-else-positive-clause-b c = (sides_formulas c.args.log.now.env.sig junctions.Iff c.args.a.now c.args.b.now c.requires.whole).1

pub refute_products-requires-else-positive-clause-whole : goal.refute_products-requires-else-positive-clause-whole
refute_products-requires-else-positive-clause-whole c = neg_formula c.args.log.now.env.sig (equal bool_ty c.args.a.now c.args.b.now) c.requires.whole
