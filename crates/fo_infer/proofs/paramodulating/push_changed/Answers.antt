use Rattle.std.proofs.Common.{[], ◌∷◌, ◌++◌, ◌+◌, take, drop, sym, ap, ◌∙◌, add-one}
use Rattle.std.specs.Prelude.{slice_set}
use Rattle.fo_unify.specs.Lookup.{term_of}
use Rattle.fo_infer.proofs.Changes.{set_parts}
use Rattle.fo_infer.proofs.Paramodulants.{pushed_parts}
use Rattle.fo_infer.proofs.paramodulating.push_changed.Goals as goal

pub returns : goal.returns
returns c =
    let ls = c.args.literals.now in
    pushed_parts (term_of c.args.binds.now) c.args.out.now c.push_before.new.out c.push_put.new.out c.push_after.new.out (take c.args.at ls) c.as_slice.result.now (drop (c.args.at + 1) ls) (slice_set ls c.args.at c.args.by) c.args.by
    c.in_ok-push_before.ensures c.in_ok-push_put.ensures c.in_ok-push_after.ensures (c.as_slice.ensures ∙ c.in_ok-push.ensures.ok ∙ ap (λ l. l ++ c.args.by ∷ []) c.begin-one.ensures)
    (set_parts ls c.args.at c.args.by c.requires ∙ ap (λ n. take c.args.at ls ++ c.args.by ∷ drop n ls) (sym (add-one c.args.at)))
