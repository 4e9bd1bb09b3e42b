use Rattle.std.proofs.Common.{ap, sym, subst, ◌∙◌, All}
use Rattle.fo_infer.specs.inner.Findings.{IsPlaced, all_made}
use Rattle.fo_infer.proofs.writing.write_alone.Goals as goal

pub write_all-requires : goal.write_all-requires
write_all-requires c = subst (λ ls. All (λ f. IsPlaced c.args.p.now ls f.rule) c.args.found) (sym c.begin-none.ensures) c.requires

pub returns : goal.returns
returns c = c.in_ok-made.ensures ∙ ap (λ ls. all_made c.args.p.now ls c.args.found) c.begin-none.ensures
