use Rattle.std.proofs.Common.{refl, ap, ◌∙◌}
use Rattle.std.proofs.lemmas.Result.{IfOk-weaker}
use Rattle.fo_terms.specs.declared.formula.FoFormula.TheOpen.{FoFormula-F}
use Rattle.fo_terms.specs.Substitution.{fun}
use Rattle.fol_cnf.specs.Scopes.{all_inserted, atom_variables, put_for}
use Rattle.fol_cnf.specs.Walks.{meaning, meaning_step, occurring}
use Rattle.fol_cnf.specs.inner.Chains.{chained}
use Rattle.fol_cnf.proofs.Meanings.{means_true, means_false, means_atom, means_not, means_and, means_or, means_imp, means_iff, means_each, means_one}
use Rattle.fol_cnf.proofs.Chained.{chained_under}
use Rattle.fol_cnf.proofs.Inserting.{inserted_means, inserted_part, inserted_both}
use Rattle.fol_cnf.proofs.variables.+note_formula.Goals as goal

pub returns-in-True : goal.returns-in-True
returns-in-True t c = inserted_means c.args.f.now (meaning_step FoFormula-F.True) (chained c.args.scope.now) _ _ (means_true c.args.f.now c.in-True.is) refl

pub returns-in-False : goal.returns-in-False
returns-in-False t c = inserted_means c.args.f.now (meaning_step FoFormula-F.False) (chained c.args.scope.now) _ _ (means_false c.args.f.now c.in-False.is) refl

pub returns-in_ok-atom-in-Atom : goal.returns-in_ok-atom-in-Atom
returns-in_ok-atom-in-Atom t c =
    IfOk-weaker c.note_atom.result _ _
    (λ u h. inserted_means c.args.f.now (meaning_step (FoFormula-F.Atom c.in-Atom.a)) (chained c.args.scope.now) _ _ (means_atom c.args.f.now c.in-Atom.a c.in-Atom.is)
    (h ∙ ap (λ a. all_inserted c.args.found.now.keys (atom_variables a)) c.in_ok-atom-in-Atom.ensures))
    c.note_atom.ensures

pub returns-in-Not : goal.returns-in-Not
returns-in-Not t c =
    IfOk-weaker c.note_formula.result _ _
    (λ u h. inserted_means c.args.f.now (meaning_step (FoFormula-F.Not (meaning c.in-Not.a))) (chained c.args.scope.now) _ _ (means_not c.args.f.now c.in-Not.a c.in-Not.is)
    (inserted_part c.get.result.now c.in-Not.a (chained c.args.scope.now) _ _ c.get.ensures h))
    c.note_formula.ensures

pub returns-in_ok-note_formula-in-And : goal.returns-in_ok-note_formula-in-And
returns-in_ok-note_formula-in-And t c =
    let v = chained c.args.scope.now in
    IfOk-weaker c.note_formula-in-And-2.result _ _
    (λ u h. inserted_means c.args.f.now (meaning_step (FoFormula-F.And (meaning c.in-And.a) (meaning c.in-And.b))) v _ _ (means_and c.args.f.now c.in-And.a c.in-And.b c.in-And.is)
    (inserted_both _ _ _ (occurring c.in-And.a v) (occurring c.in-And.b v)
    (inserted_part c.get-in-And.result.now c.in-And.a v _ _ c.get-in-And.ensures c.in_ok-note_formula-in-And.ensures)
    (inserted_part c.get-in-And-2.result.now c.in-And.b v _ _ c.get-in-And-2.ensures h)))
    c.note_formula-in-And-2.ensures

pub returns-in_ok-note_formula-in-Or : goal.returns-in_ok-note_formula-in-Or
returns-in_ok-note_formula-in-Or t c =
    let v = chained c.args.scope.now in
    IfOk-weaker c.note_formula-in-Or-2.result _ _
    (λ u h. inserted_means c.args.f.now (meaning_step (FoFormula-F.Or (meaning c.in-Or.a) (meaning c.in-Or.b))) v _ _ (means_or c.args.f.now c.in-Or.a c.in-Or.b c.in-Or.is)
    (inserted_both _ _ _ (occurring c.in-Or.a v) (occurring c.in-Or.b v)
    (inserted_part c.get-in-Or.result.now c.in-Or.a v _ _ c.get-in-Or.ensures c.in_ok-note_formula-in-Or.ensures)
    (inserted_part c.get-in-Or-2.result.now c.in-Or.b v _ _ c.get-in-Or-2.ensures h)))
    c.note_formula-in-Or-2.ensures

pub returns-in_ok-note_formula-in-Imp : goal.returns-in_ok-note_formula-in-Imp
returns-in_ok-note_formula-in-Imp t c =
    let v = chained c.args.scope.now in
    IfOk-weaker c.note_formula-in-Imp-2.result _ _
    (λ u h. inserted_means c.args.f.now (meaning_step (FoFormula-F.Imp (meaning c.in-Imp.a) (meaning c.in-Imp.b))) v _ _ (means_imp c.args.f.now c.in-Imp.a c.in-Imp.b c.in-Imp.is)
    (inserted_both _ _ _ (occurring c.in-Imp.a v) (occurring c.in-Imp.b v)
    (inserted_part c.get-in-Imp.result.now c.in-Imp.a v _ _ c.get-in-Imp.ensures c.in_ok-note_formula-in-Imp.ensures)
    (inserted_part c.get-in-Imp-2.result.now c.in-Imp.b v _ _ c.get-in-Imp-2.ensures h)))
    c.note_formula-in-Imp-2.ensures

pub returns-in_ok-note_formula-in-Iff : goal.returns-in_ok-note_formula-in-Iff
returns-in_ok-note_formula-in-Iff t c =
    let v = chained c.args.scope.now in
    IfOk-weaker c.note_formula-in-Iff-2.result _ _
    (λ u h. inserted_means c.args.f.now (meaning_step (FoFormula-F.Iff (meaning c.in-Iff.a) (meaning c.in-Iff.b))) v _ _ (means_iff c.args.f.now c.in-Iff.a c.in-Iff.b c.in-Iff.is)
    (inserted_both _ _ _ (occurring c.in-Iff.a v) (occurring c.in-Iff.b v)
    (inserted_part c.get-in-Iff.result.now c.in-Iff.a v _ _ c.get-in-Iff.ensures c.in_ok-note_formula-in-Iff.ensures)
    (inserted_part c.get-in-Iff-2.result.now c.in-Iff.b v _ _ c.get-in-Iff-2.ensures h)))
    c.note_formula-in-Iff-2.ensures

pub returns-in-Each : goal.returns-in-Each
returns-in-Each t c =
    let v = chained c.args.scope.now in
    let x = c.in-Each.x in
    let b = c.in-Each.b in
    IfOk-weaker c.note_formula-in-Each.result _ _
    (λ u h. inserted_means c.args.f.now (meaning_step (FoFormula-F.Each x (meaning b))) v _ _ (means_each c.args.f.now x b c.in-Each.is)
    (inserted_part c.get-in-Each.result.now b (put_for v x (fun 0 c.begin.result)) _ _ c.get-in-Each.ensures (simp chained_under at h)
    ∙ ap (λ ts. all_inserted c.args.found.now.keys (occurring b (put_for v x (fun 0 ts)))) c.begin.ensures))
    c.note_formula-in-Each.ensures

pub returns-in-One : goal.returns-in-One
returns-in-One t c =
    let v = chained c.args.scope.now in
    let x = c.in-One.x in
    let b = c.in-One.b in
    IfOk-weaker c.note_formula-in-One.result _ _
    (λ u h. inserted_means c.args.f.now (meaning_step (FoFormula-F.One x (meaning b))) v _ _ (means_one c.args.f.now x b c.in-One.is)
    (inserted_part c.get-in-One.result.now b (put_for v x (fun 0 c.begin-in-One.result)) _ _ c.get-in-One.ensures (simp chained_under at h)
    ∙ ap (λ ts. all_inserted c.args.found.now.keys (occurring b (put_for v x (fun 0 ts)))) c.begin-in-One.ensures))
    c.note_formula-in-One.ensures
