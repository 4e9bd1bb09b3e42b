use Rattle.std.proofs.Common.{◌≡◌, true, false, subst}
use Rattle.fo_terms.specs.Substitution.{put}
use Rattle.fo_unify.specs.Shown.{as_binds}
use Rattle.fo_infer.specs.inner.Covering.{Narrows}
use Rattle.fo_infer.proofs.Narrowing.{atom_holds, atom_sides, narrows_then, narrows_not}
use Rattle.fo_infer.proofs.covering.match_atom.Goals as goal

pub returns-then-not-branch-clause-narrows : goal.returns-then-not-branch-clause-narrows
returns-then-not-branch-clause-narrows c =
    let old = as_binds c.args.binds.now in
    let mid = as_binds c.match_term-in-Eq-Eq.new.binds in
    let not : Narrows (λ v. put v c.in-Eq-Eq.s ≡ c.in-Eq-Eq.x) old mid false = subst (Narrows (λ v. put v c.in-Eq-Eq.s ≡ c.in-Eq-Eq.x) old mid) c.if-not-branch.true c.in_ok-match_term-in-Eq-Eq.ensures.narrows in
    atom_sides old mid false c.args.a.now c.args.b.now c.in-Eq-Eq.s c.in-Eq-Eq.t c.in-Eq-Eq.x c.in-Eq-Eq.y c.in-Eq-Eq.is-0 c.in-Eq-Eq.is-1
    (narrows_not (λ v. put v c.in-Eq-Eq.s ≡ c.in-Eq-Eq.x) (λ v. put v c.in-Eq-Eq.t ≡ c.in-Eq-Eq.y) old mid not)

pub returns-in_ok-made-in-Holds-Holds-clause-narrows : goal.returns-in_ok-made-in-Holds-Holds-clause-narrows
returns-in_ok-made-in-Holds-Holds-clause-narrows c =
    atom_holds (as_binds c.args.binds.now) (as_binds c.match_term.new.binds) c.in_ok-made-in-Holds-Holds.made c.args.a.now c.args.b.now c.in-Holds-Holds.s c.in-Holds-Holds.t c.in-Holds-Holds.is-0 c.in-Holds-Holds.is-1
    c.in_ok-made-in-Holds-Holds.ensures.narrows

pub returns-in_ok-made-in-Eq-Eq-clause-narrows : goal.returns-in_ok-made-in-Eq-Eq-clause-narrows
returns-in_ok-made-in-Eq-Eq-clause-narrows c =
    let old = as_binds c.args.binds.now in
    let mid = as_binds c.match_term-in-Eq-Eq.new.binds in
    let new = as_binds c.match_term-in-Eq-Eq-2.new.binds in
    let first : Narrows (λ v. put v c.in-Eq-Eq.s ≡ c.in-Eq-Eq.x) old mid true = subst (Narrows (λ v. put v c.in-Eq-Eq.s ≡ c.in-Eq-Eq.x) old mid) c.if-not-branch.false c.in_ok-match_term-in-Eq-Eq.ensures.narrows in
    atom_sides old new c.in_ok-made-in-Eq-Eq.made c.args.a.now c.args.b.now c.in-Eq-Eq.s c.in-Eq-Eq.t c.in-Eq-Eq.x c.in-Eq-Eq.y c.in-Eq-Eq.is-0 c.in-Eq-Eq.is-1
    (narrows_then (λ v. put v c.in-Eq-Eq.s ≡ c.in-Eq-Eq.x) (λ v. put v c.in-Eq-Eq.t ≡ c.in-Eq-Eq.y) old mid new c.in_ok-made-in-Eq-Eq.made first c.in_ok-made-in-Eq-Eq.ensures.narrows)
