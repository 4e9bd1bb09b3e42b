use Rattle.std.proofs.Common.{◌≡◌, ℕ, List, length, sym, subst}
use Rattle.std.specs.Prelude.{Some, slice_get}
use Rattle.fo_infer.specs.declared.refutation.Line.{Line}
use Rattle.tstp_print.specs.Used.{AreDrawn}
use Rattle.tstp_print.specs.Lines.{IsProofText}
use Rattle.tstp_print.specs.inner.Marking.{HasSource}
use Rattle.fol_prover.proofs.Found.{drawn, sources_are, answered}
use Rattle.fol_prover.proofs.proving.print_found.Goals as goal

pub print_proof-requires-clause-drawn : goal.print_proof-requires-clause-drawn
print_proof-requires-clause-drawn c =
    let r = c.into_refutation-refutation in
    subst AreDrawn (sym c.as_slice.ensures) (drawn c.args.problem.now c.args.search r.result.lines c.requires.given r.ensures.refutes)

pub print_proof-requires-clause-sources : goal.print_proof-requires-clause-sources
print_proof-requires-clause-sources c =
    let r = c.into_refutation-refutation in
    let p = c.args.problem.now in
    subst (λ (lines : List Line). (n : ℕ) (l : Line) → slice_get lines n ≡ Some l → HasSource c.args.sources.now (length p.statements) l.origin) (sym c.as_slice.ensures)
    (sources_are p c.args.search r.result.lines c.requires.given r.ensures.refutes c.args.sources.now c.requires.sources)

pub returns : goal.returns
returns c =
    let r = c.into_refutation-refutation in
    let p = c.args.problem.now in
    answered p c.args.search r.result.lines c.requires.given r.ensures.refutes c.args.sources.now c.in_ok-text.text c.requires.sources
    (subst (λ (lines : List Line). IsProofText p c.args.sources.now lines c.in_ok-text.text) c.as_slice.ensures c.in_ok-text.ensures) c.requires.fits r.ensures.found r.ensures.lines
