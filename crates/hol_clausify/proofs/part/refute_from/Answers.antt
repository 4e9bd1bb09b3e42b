use Rattle.std.proofs.Common.{refl, sym, subst, inl, inr}
use Rattle.std.specs.Prelude.{IfOk}
use Rattle.hyp_sets.specs.Sets.{only}
use Rattle.kernel_rules.specs.Connectives.{neg, conj, disj, imp, lambda}
use Rattle.hol_clausify.specs.inner.Parts.{part_of, whole_of, IsReady}
use Rattle.hol_clausify.specs.inner.Refuting.{Lands}
use Rattle.hol_clausify.proofs.Landings.{lands_one, lands_either}
use Rattle.hol_clausify.proofs.Instances.{all_lands, not_some_lands, some_lands, not_all_lands, names, own_type, value_given, property_given, part_formula, part_applied}
use Rattle.hol_clausify.proofs.part.refute_from.Goals as goal

pub returns-in-NotNot-clause-gives : goal.returns-in-NotNot-clause-gives
returns-in-NotNot-clause-gives c =
    let old = c.args.log.now in
    let th = c.args.th.0 in
    let ready = subst (IsReady old) c.in-NotNot.is c.requires.ready in
    subst (λ p. IfOk c.not_not.result (λ r. Lands old c.not_not.new.log (part_of p) th (only (whole_of p)) r.0)) (sym c.in-NotNot.is)
    (lands_one old c.not_not.new.log th c.not_not.result c.in-NotNot.a.now (neg (neg c.in-NotNot.a.now)) c.not_not.ensures.gives)

pub returns-in-AndLeft-clause-gives : goal.returns-in-AndLeft-clause-gives
returns-in-AndLeft-clause-gives c =
    let old = c.args.log.now in
    let th = c.args.th.0 in
    let ready = subst (IsReady old) c.in-AndLeft.is c.requires.ready in
    subst (λ p. IfOk c.and_left.result (λ r. Lands old c.and_left.new.log (part_of p) th (only (whole_of p)) r.0)) (sym c.in-AndLeft.is)
    (lands_one old c.and_left.new.log th c.and_left.result c.in-AndLeft.a.now (conj c.in-AndLeft.a.now c.in-AndLeft.b.now) c.and_left.ensures.gives)

pub returns-in-AndRight-clause-gives : goal.returns-in-AndRight-clause-gives
returns-in-AndRight-clause-gives c =
    let old = c.args.log.now in
    let th = c.args.th.0 in
    let ready = subst (IsReady old) c.in-AndRight.is c.requires.ready in
    subst (λ p. IfOk c.and_right.result (λ r. Lands old c.and_right.new.log (part_of p) th (only (whole_of p)) r.0)) (sym c.in-AndRight.is)
    (lands_one old c.and_right.new.log th c.and_right.result c.in-AndRight.b.now (conj c.in-AndRight.a.now c.in-AndRight.b.now) c.and_right.ensures.gives)

pub returns-in-NotOrLeft-clause-gives : goal.returns-in-NotOrLeft-clause-gives
returns-in-NotOrLeft-clause-gives c =
    let old = c.args.log.now in
    let th = c.args.th.0 in
    let ready = subst (IsReady old) c.in-NotOrLeft.is c.requires.ready in
    subst (λ p. IfOk c.not_or_left.result (λ r. Lands old c.not_or_left.new.log (part_of p) th (only (whole_of p)) r.0)) (sym c.in-NotOrLeft.is)
    (lands_one old c.not_or_left.new.log th c.not_or_left.result (neg c.in-NotOrLeft.a.now) (neg (disj c.in-NotOrLeft.a.now c.in-NotOrLeft.b.now)) c.not_or_left.ensures.gives)

pub returns-in-NotOrRight-clause-gives : goal.returns-in-NotOrRight-clause-gives
returns-in-NotOrRight-clause-gives c =
    let old = c.args.log.now in
    let th = c.args.th.0 in
    let ready = subst (IsReady old) c.in-NotOrRight.is c.requires.ready in
    subst (λ p. IfOk c.not_or_right.result (λ r. Lands old c.not_or_right.new.log (part_of p) th (only (whole_of p)) r.0)) (sym c.in-NotOrRight.is)
    (lands_one old c.not_or_right.new.log th c.not_or_right.result (neg c.in-NotOrRight.b.now) (neg (disj c.in-NotOrRight.a.now c.in-NotOrRight.b.now)) c.not_or_right.ensures.gives)

pub returns-in-NotImpliesLeft-clause-gives : goal.returns-in-NotImpliesLeft-clause-gives
returns-in-NotImpliesLeft-clause-gives c =
    let old = c.args.log.now in
    let th = c.args.th.0 in
    let ready = subst (IsReady old) c.in-NotImpliesLeft.is c.requires.ready in
    subst (λ p. IfOk c.not_implies.result (λ r. Lands old c.not_implies.new.log (part_of p) th (only (whole_of p)) r.0)) (sym c.in-NotImpliesLeft.is)
    (lands_either old c.not_implies.new.log th c.not_implies.result c.in-NotImpliesLeft.a.now (neg c.in-NotImpliesLeft.b.now) (neg (imp c.in-NotImpliesLeft.a.now c.in-NotImpliesLeft.b.now)) c.in-NotImpliesLeft.a.now (inl refl) c.not_implies.ensures.gives)

pub returns-in-NotImpliesRight-clause-gives : goal.returns-in-NotImpliesRight-clause-gives
returns-in-NotImpliesRight-clause-gives c =
    let old = c.args.log.now in
    let th = c.args.th.0 in
    let ready = subst (IsReady old) c.in-NotImpliesRight.is c.requires.ready in
    subst (λ p. IfOk c.not_implies-in-NotImpliesRight.result (λ r. Lands old c.not_implies-in-NotImpliesRight.new.log (part_of p) th (only (whole_of p)) r.0)) (sym c.in-NotImpliesRight.is)
    (lands_either old c.not_implies-in-NotImpliesRight.new.log th c.not_implies-in-NotImpliesRight.result c.in-NotImpliesRight.a.now (neg c.in-NotImpliesRight.b.now) (neg (imp c.in-NotImpliesRight.a.now c.in-NotImpliesRight.b.now)) (neg c.in-NotImpliesRight.b.now) (inr refl) c.not_implies-in-NotImpliesRight.ensures.gives)

pub returns-in-AllAt-clause-gives : goal.returns-in-AllAt-clause-gives
returns-in-AllAt-clause-gives c =
    let old = c.args.log.now in
    let th = c.args.th.0 in
    let ready = subst (IsReady old) c.in-AllAt.is c.requires.ready in
    subst (λ p. IfOk c.all_at.result (λ r. Lands old c.all_at.new.log (part_of p) th (only (whole_of p)) r.0)) (sym c.in-AllAt.is)
    (all_lands c.in-AllAt.x ready.0 old c.all_at.new.log th c.all_at.result c.all_at.ensures.gives)

pub returns-in-NotSomeAt-clause-gives : goal.returns-in-NotSomeAt-clause-gives
returns-in-NotSomeAt-clause-gives c =
    let old = c.args.log.now in
    let th = c.args.th.0 in
    let ready = subst (IsReady old) c.in-NotSomeAt.is c.requires.ready in
    subst (λ p. IfOk c.not_some_at.result (λ r. Lands old c.not_some_at.new.log (part_of p) th (only (whole_of p)) r.0)) (sym c.in-NotSomeAt.is)
    (not_some_lands c.in-NotSomeAt.x ready.0 old c.not_some_at.new.log th c.not_some_at.result (own_type c.in-NotSomeAt.x ready.0 old.env.sig ready.1 ready.2) c.not_some_at.ensures.gives)

pub returns-in-SomeNamed-clause-gives : goal.returns-in-SomeNamed-clause-gives
returns-in-SomeNamed-clause-gives c =
    let old = c.args.log.now in
    let th = c.args.th.0 in
    let ready = subst (IsReady old) c.in-SomeNamed.is c.requires.ready in
    subst (λ p. IfOk c.some_named.result (λ r. Lands old c.some_named.new.log (part_of p) th (only (whole_of p)) r.0)) (sym c.in-SomeNamed.is)
    (some_lands c.in-SomeNamed.x ready.0 old c.in-SomeNamed.name (lambda c.in-SomeNamed.x.ty.now c.in-SomeNamed.x.body.now) ready.2 c.some_named.new.log th c.some_named.result c.some_named.ensures.gives)

pub returns-in-NotAllNamed-clause-gives : goal.returns-in-NotAllNamed-clause-gives
returns-in-NotAllNamed-clause-gives c =
    let old = c.args.log.now in
    let th = c.args.th.0 in
    let ready = subst (IsReady old) c.in-NotAllNamed.is c.requires.ready in
    subst (λ p. IfOk c.not_all_named.result (λ r. Lands old c.not_all_named.new.log (part_of p) th (only (whole_of p)) r.0)) (sym c.in-NotAllNamed.is)
    (not_all_lands c.in-NotAllNamed.x ready.0 old c.in-NotAllNamed.name (lambda c.in-NotAllNamed.x.ty.now (neg c.in-NotAllNamed.x.body.now)) ready.2 c.not_all_named.new.log th c.not_all_named.result c.not_all_named.ensures.gives)

pub not_some_at-requires-clause-part : goal.not_some_at-requires-clause-part
not_some_at-requires-clause-part c = let ready = subst (IsReady c.args.log.now) c.in-NotSomeAt.is c.requires.ready in part_formula c.in-NotSomeAt.x ready.0 c.args.log.now.env.sig ready.1 ready.2

pub not_some_at-requires-clause-value : goal.not_some_at-requires-clause-value
not_some_at-requires-clause-value c = let ready = subst (IsReady c.args.log.now) c.in-NotSomeAt.is c.requires.ready in value_given c.in-NotSomeAt.x ready.0 c.args.log.now.env.sig ready.1 ready.2

pub not_some_at-requires-clause-property : goal.not_some_at-requires-clause-property
not_some_at-requires-clause-property c = let ready = subst (IsReady c.args.log.now) c.in-NotSomeAt.is c.requires.ready in property_given c.in-NotSomeAt.x ready.0 c.args.log.now.env.sig ready.1 ready.2

pub not_some_at-requires-clause-is : goal.not_some_at-requires-clause-is
not_some_at-requires-clause-is c = let ready = subst (IsReady c.args.log.now) c.in-NotSomeAt.is c.requires.ready in part_applied c.in-NotSomeAt.x ready.0

pub some_named-requires-clause-names : goal.some_named-requires-clause-names
some_named-requires-clause-names c =
    let ready = subst (IsReady c.args.log.now) c.in-SomeNamed.is c.requires.ready in
    names c.in-SomeNamed.x ready.0 c.args.log.now c.in-SomeNamed.name (lambda c.in-SomeNamed.x.ty.now c.in-SomeNamed.x.body.now) ready.2 c.in-SomeNamed.x.property.now ready.0.property

pub not_all_named-requires-clause-names : goal.not_all_named-requires-clause-names
not_all_named-requires-clause-names c =
    let ready = subst (IsReady c.args.log.now) c.in-NotAllNamed.is c.requires.ready in
    names c.in-NotAllNamed.x ready.0 c.args.log.now c.in-NotAllNamed.name (lambda c.in-NotAllNamed.x.ty.now (neg c.in-NotAllNamed.x.body.now)) ready.2 (lambda c.in-NotAllNamed.x.ty.now (neg c.in-NotAllNamed.x.body.now)) refl
