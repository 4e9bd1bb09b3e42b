use Rattle.std.proofs.Common.{◌≡◌, ◌++◌, ◌∷◌, [], ◌+◌, take, drop, sym, ap, subst, ◌∙◌, add-one}
use Rattle.std.specs.Prelude.{slice_set}
use Rattle.fo_terms.specs.Substitution.{put_literal, put_literals}
use Rattle.fo_unify.specs.Lookup.{term_of}
use Rattle.fo_infer.proofs.Changes.{set_parts}
use Rattle.fo_light.specs.Grown.{Grown}
use Rattle.fo_light.proofs.Growing.{both_stop, changed_stop, changed_then, rest_all}
use Rattle.fo_light.proofs.literals.add_changed.Goals as goal

pub returns-then-not-branch : goal.returns-then-not-branch
returns-then-not-branch c =
    let v = term_of c.args.unifier.now in
    let ls = c.args.literals.now in
    let whole : slice_set ls c.args.at c.args.by.now ≡ take c.args.at ls ++ c.args.by.now ∷ drop (c.args.at + 1) ls =
    set_parts ls c.args.at c.args.by.now c.requires.place ∙ ap (λ n. take c.args.at ls ++ c.args.by.now ∷ drop n ls) (sym (add-one c.args.at)) in
    both_stop v c.args.out.now c.add_all.new.out (take c.args.at ls) (c.args.by.now ∷ drop (c.args.at + 1) ls) (slice_set ls c.args.at c.args.by.now) whole c.add_all.new.out
    (subst (λ b. Grown c.args.out.now (put_literals v (take c.args.at ls)) b c.add_all.new.out) c.if-not-branch.true c.in_ok-add_all.ensures)

pub returns-then-not-branch-2 : goal.returns-then-not-branch-2
returns-then-not-branch-2 c =
    let v = term_of c.args.unifier.now in
    let ls = c.args.literals.now in
    let whole : slice_set ls c.args.at c.args.by.now ≡ take c.args.at ls ++ c.args.by.now ∷ drop (c.args.at + 1) ls =
    set_parts ls c.args.at c.args.by.now c.requires.place ∙ ap (λ n. take c.args.at ls ++ c.args.by.now ∷ drop n ls) (sym (add-one c.args.at)) in
    changed_stop v c.args.out.now c.add_all.new.out c.add_literal.new.out (take c.args.at ls) (drop (c.args.at + 1) ls) (slice_set ls c.args.at c.args.by.now) c.args.by.now whole
    (subst (λ b. Grown c.args.out.now (put_literals v (take c.args.at ls)) b c.add_all.new.out) c.if-not-branch.false c.in_ok-add_all.ensures)
    (subst (λ b. Grown c.add_all.new.out (put_literal v c.args.by.now ∷ []) b c.add_literal.new.out) c.if-not-branch-2.true c.in_ok-add_literal.ensures)

pub returns : goal.returns
returns c =
    let v = term_of c.args.unifier.now in
    let ls = c.args.literals.now in
    let whole : slice_set ls c.args.at c.args.by.now ≡ take c.args.at ls ++ c.args.by.now ∷ drop (c.args.at + 1) ls =
    set_parts ls c.args.at c.args.by.now c.requires.place ∙ ap (λ n. take c.args.at ls ++ c.args.by.now ∷ drop n ls) (sym (add-one c.args.at)) in
    changed_then v c.args.out.now c.add_all.new.out c.add_literal.new.out (take c.args.at ls) (drop (c.args.at + 1) ls) (slice_set ls c.args.at c.args.by.now) c.args.by.now whole
    (subst (λ b. Grown c.args.out.now (put_literals v (take c.args.at ls)) b c.add_all.new.out) c.if-not-branch.false c.in_ok-add_all.ensures)
    (subst (λ b. Grown c.add_all.new.out (put_literal v c.args.by.now ∷ []) b c.add_literal.new.out) c.if-not-branch-2.false c.in_ok-add_literal.ensures)
    c.add_all-2.new.out c.in_ok-made.made
    (subst (λ r. Grown c.add_literal.new.out (put_literals v r) c.in_ok-made.made c.add_all-2.new.out) (rest_all (c.args.at + 1) ls) c.in_ok-made.ensures)
