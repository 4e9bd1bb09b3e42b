use Rattle.std.proofs.Common.{◌≡◌, true, false, [], ◌∷◌, IsTrue, sym, subst, ◌∙◌}
use Rattle.fo_unify.specs.Unified.{MetBy}
use Rattle.fo_infer.specs.inner.Places.{position_of, NotBelow}
use Rattle.fo_infer.proofs.Paramodulants.{no_unifier, is_below, gives_clause, left_para, when_not, when_so}
use Rattle.fo_infer.proofs.paramodulating.para_at.Goals as goal

pub returns-then-not-may_meet : goal.returns-then-not-may_meet
returns-then-not-may_meet c = λ d made.
    let from = c.args.from.now in
    no_unifier (position_of from.plain) from c.requires.source c.args.j c.args.into.now c.args.path.now c.args.u.now c.requires.literal c.requires.subterm d made
    (λ v u. let met = c.may_meet.ensures (v, v, u.0) in let clash : false ≡ true = sym c.if-not-may_meet.true ∙ met in cc)

pub returns-then-not-branch : goal.returns-then-not-branch
returns-then-not-branch c = λ d made.
    let from = c.args.from.now in
    let binds = c.in-Some.unifier in
    let general = subst (MetBy ((from.sought.now, c.args.u.now) ∷ [])) c.in-Some.is c.in_ok-meet.ensures in
    let below = when_not c.in_ok-not_below-in-Some.field-0 (NotBelow binds from.sought.now from.put_in.now) (NotBelow binds from.sought.now from.put_in.now → ⊥) c.if-not-branch.true c.in_ok-not_below-in-Some.ensures in
    is_below (position_of from.plain) from c.requires.source c.args.j c.args.into.now c.args.path.now c.args.u.now c.requires.literal c.requires.subterm d made binds general.0 below

pub returns-in-None : goal.returns-in-None
returns-in-None c = λ d made.
    let from = c.args.from.now in
    no_unifier (position_of from.plain) from c.requires.source c.args.j c.args.into.now c.args.path.now c.args.u.now c.requires.literal c.requires.subterm d made
    (subst (MetBy ((from.sought.now, c.args.u.now) ∷ [])) c.in-None.is c.in_ok-meet.ensures)

pub returns-else-not-branch : goal.returns-else-not-branch
returns-else-not-branch c =
    let from = c.args.from.now in
    let binds = c.in-Some.unifier in
    let general = subst (MetBy ((from.sought.now, c.args.u.now) ∷ [])) c.in-Some.is c.in_ok-meet.ensures in
    let over = when_so c.in_ok-not_below-in-Some.field-0 (NotBelow binds from.sought.now from.put_in.now) (NotBelow binds from.sought.now from.put_in.now → ⊥) c.if-not-branch.false c.in_ok-not_below-in-Some.ensures in
    let fits : IsTrue ((position_of from.plain) c.args.into.now.atom c.args.path.now c.args.u.now) = sym c.fits.ensures ∙ c.if-not-fits.false in
    gives_clause (position_of from.plain) from c.requires.source c.args.j c.args.into.now c.args.path.now c.args.u.now c.requires.literal c.requires.subterm fits c.requires.eligible binds general.0 over
    _ (left_para from c.requires.source c.args.j c.args.into.now c.args.path.now c.requires.literal binds)
