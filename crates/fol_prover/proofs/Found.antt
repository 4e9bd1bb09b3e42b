-- The answer to a problem whose search found the empty clause.
use Rattle.std.proofs.Common.{◌≡◌, ℕ, List, length, true, sym, ap, subst, ◌∙◌}
use Rattle.std.specs.Prelude.{Some, slice_get}
use Rattle.std.specs.List.{filter}
use Rattle.fo_infer.specs.declared.refutation.Line.{Line}
use Rattle.fo_infer.specs.Inferences.{plain_position}
use Rattle.fo_infer.specs.Lines.{Refutes, FollowFrom}
use Rattle.metis_core.specs.declared.given.Given.{Given}
use Rattle.metis_core.specs.Offer.{found}
use Rattle.metis_core.specs.Search.{position_of, Search}
use Rattle.metis_core.specs.Searched.{Searched, IsFound}
use Rattle.metis_core.specs.Stock.{clauses}
use Rattle.tptp_syntax.specs.declared.problem.Problem.{Problem}
use Rattle.fol_cnf.specs.Clausified.{all_fit, clauses_of}
use Rattle.tstp_print.specs.Used.{AreDrawn, AreThose, IsCited}
use Rattle.tstp_print.specs.Lines.{proof_text, IsProofText}
use Rattle.tstp_print.specs.Names.{below}
use Rattle.tstp_print.specs.inner.Marking.{HasSource}
use Rattle.fol_prover.specs.Derivations.{numbered, IsDerivation}
use Rattle.fol_prover.specs.Proving.{given_of, inputs_of, sources_of, IsAnswer, is_found}
use Rattle.fol_prover.proofs.Following.{are_drawn}
use Rattle.fol_prover.proofs.Statements.{has_source}
use Rattle.fol_prover.proofs.Pruning.{derivation}

module _ (p : Problem) (s : Searched) (lines : List Line) (given : s.given ≡ given_of p s.given.budget s.given.age) (refutes : Refutes (position_of s.given.positions) s.given.inputs lines) where
  pub refuted : Refutes plain_position (inputs_of (clauses_of p)) lines
  refuted = subst (λ (g : Given). Refutes (position_of g.positions) g.inputs lines) given refutes

  pub drawn : AreDrawn lines
  drawn = are_drawn (inputs_of (clauses_of p)) lines refuted.follow

  pub sources_are : (sources : List ℕ) → sources ≡ sources_of (clauses_of p) → (n : ℕ) (l : Line) → slice_get lines n ≡ Some l → HasSource sources (length p.statements) l.origin
  sources_are sources e n l is = subst (λ z. HasSource z (length p.statements) l.origin) (sym e) (has_source p lines refuted.follow n l is)

  module _ (sources : List ℕ) (text : List ℕ) (e : sources ≡ sources_of (clauses_of p)) (t : IsProofText p sources lines text) where
    cites : AreThose (IsCited (sources_of (clauses_of p)) lines) (length p.statements) t.cited
    cites = subst (λ z. AreThose (IsCited z lines) (length p.statements) t.cited) e t.cited_are

    derived : IsDerivation (clauses_of p) (length p.statements) t.cited (numbered lines t.used)
    derived =
        subst (λ z. IsDerivation (clauses_of p) (length p.statements) z (numbered lines t.used)) (sym cites.are)
        (subst (λ z. IsDerivation (clauses_of p) (length p.statements) (filter cites.test (below (length p.statements))) (numbered lines z)) (sym t.used_are.are)
        (derivation (clauses_of p) lines refuted.follow t.used_are.test cites.test (length p.statements) t.used_are.passes cites.passes
        (λ n l is k o. (has_source p lines refuted.follow n l is).small k o) refuted.before refuted.last refuted.ends refuted.empty))

    pub answered : all_fit p ≡ true → IsFound s → lines ≡ s.lines → IsAnswer p s.given.budget s.given.age 0 text
    answered fits f is = is_found fits (record {
      picks = s.picks;
      state = f.last;
      ended = subst (λ (g : Given). Search g found s.picks f.last) given f.ended;
      lines = lines;
      kept = ap clauses is ∙ f.lines;
      printed = record {
        cited = t.cited;
        used = t.used;
        cited_are = cites;
        used_are = t.used_are;
        text_is = t.text_is ∙ ap (λ z. proof_text p z lines t.cited t.used) e;
      };
      derivation = derived;
    })
