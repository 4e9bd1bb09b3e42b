use Rattle.std.proofs.Common.{◌≡◌, Some, None, map, ◌∙◌, sym, ap, subst}
use Rattle.theory_terms.specs.Numbers.{AreNoted}
use Rattle.theory_terms.specs.Words.{place}
use Rattle.theory_terms.specs.Signature.{found}
use Rattle.theory_terms.proofs.Kept.{noted_at, number_held}
use Rattle.theory_terms.proofs.Places.{found_at, found_none, place_held}
use Rattle.theory_terms.proofs.decls.Decls.const_of.Goals as goal

pub returns-in-None-clause-found : goal.returns-in-None-clause-found
returns-in-None-clause-found c =
    sym (found_none c.args.name.now c.self.inside.consts (ap (place c.args.name.now) (sym c.self.invariant.0) ∙ sym c.in-None.ensures.place)) ∙
    ap (λ k. found c.args.name.now k.declared.consts) c.self.view_is

pub returns-in-None-get-clause-found : goal.returns-in-None-get-clause-found
returns-in-None-get-clause-found c =
    absurd
    (place_held c.args.name.now c.self.inside.consts c.in-Some.i (ap (place c.args.name.now) (sym c.self.invariant.0) ∙ sym c.in-Some.ensures.place)
    (sym c.in-None-get.ensures.value))

pub returns-in-Some-get-2-clause-found : goal.returns-in-Some-get-2-clause-found
returns-in-Some-get-2-clause-found c =
    sym
    (found_at c.args.name.now c.self.inside.consts c.in-Some.i c.in-Some-get.decl.now (ap (place c.args.name.now) (sym c.self.invariant.0) ∙ sym c.in-Some.ensures.place)
    (sym c.in-Some-get.ensures.value)) ∙
    ap (λ k. found c.args.name.now k.declared.consts) c.self.view_is

pub returns-in-None-get-2-clause-found : goal.returns-in-None-get-2-clause-found
returns-in-None-get-2-clause-found c =
    absurd (number_held c.self.inside.consts c.self.inside.numbers c.in-Some.i c.in-Some-get.decl.now c.self.invariant.1 (sym c.in-Some-get.ensures.value) (sym c.in-None-get-2.ensures.value))

pub returns-in-Some-get-2-clause-numbered : goal.returns-in-Some-get-2-clause-numbered
returns-in-Some-get-2-clause-numbered c = λ table h.
    let noted : AreNoted table (record { declared = record { types = c.self.inside.types; consts = c.self.inside.consts }; numbers = c.self.inside.numbers }) = subst (AreNoted table) (sym c.self.view_is) h in
    noted_at table c.self.inside.consts c.self.inside.numbers c.in-Some.i c.in-Some-get.decl.now c.in-Some-get-2.number.now noted (sym c.in-Some-get.ensures.value) (sym c.in-Some-get-2.ensures.value)
