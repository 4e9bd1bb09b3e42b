use Rattle.std.proofs.Common.{subst}
use Rattle.hol_terms.specs.Formulas.{IsFormula}
use Rattle.kernel_rules.specs.Connectives.{conj}
use Rattle.kernel_rules.proofs.TypedTerms.{neg_formula}
use Rattle.hol_clausify.specs.Places.{junction}
use Rattle.hol_clausify.proofs.Formed.{sides_formulas}
use Rattle.hol_clausify.proofs.refuting.refute_junction.Goals as goal

pub refute_sum-requires-clause-first : goal.refute_sum-requires-clause-first
refute_sum-requires-clause-first c = sides_formulas c.args.log.now.env.sig c.args.junction c.args.a.now c.args.b.now c.requires.whole

pub refute_sum-requires-clause-second : goal.refute_sum-requires-clause-second
refute_sum-requires-clause-second c = sides_formulas c.args.log.now.env.sig c.args.junction c.args.a.now c.args.b.now c.requires.whole

pub refute_product-requires-clause-a : goal.refute_product-requires-clause-a
refute_product-requires-clause-a c = (sides_formulas c.args.log.now.env.sig c.args.junction c.args.a.now c.args.b.now c.requires.whole).0

pub refute_product-requires-clause-b : goal.refute_product-requires-clause-b
refute_product-requires-clause-b c = (sides_formulas c.args.log.now.env.sig c.args.junction c.args.a.now c.args.b.now c.requires.whole).1

pub refute_product-requires-in-Or-true-clause-a : goal.refute_product-requires-in-Or-true-clause-a
refute_product-requires-in-Or-true-clause-a c = (sides_formulas c.args.log.now.env.sig c.args.junction c.args.a.now c.args.b.now c.requires.whole).0

pub refute_product-requires-in-Or-true-clause-b : goal.refute_product-requires-in-Or-true-clause-b
refute_product-requires-in-Or-true-clause-b c = (sides_formulas c.args.log.now.env.sig c.args.junction c.args.a.now c.args.b.now c.requires.whole).1

pub refute_sum-requires-in-Or-false-clause-first : goal.refute_sum-requires-in-Or-false-clause-first
refute_sum-requires-in-Or-false-clause-first c = sides_formulas c.args.log.now.env.sig c.args.junction c.args.a.now c.args.b.now c.requires.whole

pub refute_sum-requires-in-Or-false-clause-second : goal.refute_sum-requires-in-Or-false-clause-second
refute_sum-requires-in-Or-false-clause-second c = sides_formulas c.args.log.now.env.sig c.args.junction c.args.a.now c.args.b.now c.requires.whole

pub refute_product-requires-in-Imp-true-clause-a : goal.refute_product-requires-in-Imp-true-clause-a
refute_product-requires-in-Imp-true-clause-a c = (sides_formulas c.args.log.now.env.sig c.args.junction c.args.a.now c.args.b.now c.requires.whole).0

pub refute_product-requires-in-Imp-true-clause-b : goal.refute_product-requires-in-Imp-true-clause-b
refute_product-requires-in-Imp-true-clause-b c = (sides_formulas c.args.log.now.env.sig c.args.junction c.args.a.now c.args.b.now c.requires.whole).1

pub refute_sum-requires-in-Imp-false-clause-first : goal.refute_sum-requires-in-Imp-false-clause-first
refute_sum-requires-in-Imp-false-clause-first c = sides_formulas c.args.log.now.env.sig c.args.junction c.args.a.now c.args.b.now c.requires.whole

pub refute_sum-requires-in-Imp-false-clause-second : goal.refute_sum-requires-in-Imp-false-clause-second
refute_sum-requires-in-Imp-false-clause-second c = sides_formulas c.args.log.now.env.sig c.args.junction c.args.a.now c.args.b.now c.requires.whole

pub refute_product-requires-clause-whole : goal.refute_product-requires-clause-whole
refute_product-requires-clause-whole c =
    let sig = c.args.log.now.env.sig in
    let a = c.args.a.now in
    let b = c.args.b.now in
    neg_formula sig (conj a b) (subst (λ j. IsFormula sig (junction j a b)) c.in-And-false.is-0 c.requires.whole)
