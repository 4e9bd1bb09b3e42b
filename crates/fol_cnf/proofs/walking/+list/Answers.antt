use Rattle.std.proofs.Common.{not, true, false, subst}
use Rattle.std.proofs.lemmas.Result.{IfOk-weaker}
use Rattle.fo_terms.specs.declared.formula.FoFormula.TheOpen.{FoFormula-F}
use Rattle.fo_terms.specs.Substitution.{put_atom}
use Rattle.fol_cnf.specs.Scopes.{put_for}
use Rattle.fol_cnf.specs.Walks.{truth, literal, meaning, meaning_step, walked, opened}
use Rattle.fol_cnf.specs.inner.Chains.{chained}
use Rattle.fol_cnf.specs.inner.Listings.{Opens}
use Rattle.fol_cnf.proofs.Meanings.{means_true, means_false, means_atom, means_not, means_and, means_or, means_imp, means_iff, means_each, means_one}
use Rattle.fol_cnf.proofs.Chained.{chained_under}
use Rattle.fol_cnf.proofs.Listings.{means_lists, leaf_lists, list_part, and_lists, or_lists, iff_lists, inside_lists}
use Rattle.fol_cnf.proofs.walking.+list.Goals as goal

pub returns-in-True : goal.returns-in-True
returns-in-True t c =
    IfOk-weaker c.truth_listed.result _ _
    (λ r h. means_lists c.args.f.now (meaning_step FoFormula-F.True) c.args.positive (chained c.args.scope.now) c.args.at r (means_true c.args.f.now c.in-True.is)
    (leaf_lists (truth c.args.positive) c.args.at r h))
    c.truth_listed.ensures

pub returns-in-False : goal.returns-in-False
returns-in-False t c =
    IfOk-weaker c.truth_listed-in-False.result _ _
    (λ r h. means_lists c.args.f.now (meaning_step FoFormula-F.False) c.args.positive (chained c.args.scope.now) c.args.at r (means_false c.args.f.now c.in-False.is)
    (leaf_lists (truth (not c.args.positive)) c.args.at r h))
    c.truth_listed-in-False.ensures

pub returns-in-Atom : goal.returns-in-Atom
returns-in-Atom t c =
    let v = chained c.args.scope.now in
    IfOk-weaker c.unit_listed.result _ _
    (λ r h. means_lists c.args.f.now (meaning_step (FoFormula-F.Atom c.in-Atom.a)) c.args.positive v c.args.at r (means_atom c.args.f.now c.in-Atom.a c.in-Atom.is)
    (leaf_lists (literal c.args.positive (put_atom v c.in-Atom.a)) c.args.at r h))
    c.unit_listed.ensures

pub returns-in-Not : goal.returns-in-Not
returns-in-Not t c =
    let v = chained c.args.scope.now in
    IfOk-weaker c.list.result _ _
    (λ r h. means_lists c.args.f.now (meaning_step (FoFormula-F.Not (meaning c.in-Not.a))) c.args.positive v c.args.at r (means_not c.args.f.now c.in-Not.a c.in-Not.is)
    (list_part c.get.result.now c.in-Not.a (not c.args.positive) v c.args.at r c.get.ensures h))
    c.list.ensures

pub returns-in_ok-right-in-And : goal.returns-in_ok-right-in-And
returns-in_ok-right-in-And t c =
    let s = c.args.positive in
    let v = chained c.args.scope.now in
    let p = c.args.at in
    let a = c.in-And.a in
    let b = c.in-And.b in
    let one = c.in_ok-left-in-And.left in
    let two = c.in_ok-right-in-And.right in
    IfOk-weaker c.both.result _ _
    (λ r is. means_lists c.args.f.now (meaning_step (FoFormula-F.And (meaning a) (meaning b))) s v p r (means_and c.args.f.now a b c.in-And.is)
    (and_lists s (walked a s v) (walked b s v) p one two r
    (list_part c.get-in-And.result.now a s v p one c.get-in-And.ensures c.in_ok-left-in-And.ensures)
    (list_part c.get-in-And-2.result.now b s v one.after two c.get-in-And-2.ensures c.in_ok-right-in-And.ensures) is))
    c.both.ensures

pub returns-in_ok-right-in-Or : goal.returns-in_ok-right-in-Or
returns-in_ok-right-in-Or t c =
    let s = c.args.positive in
    let v = chained c.args.scope.now in
    let p = c.args.at in
    let a = c.in-Or.a in
    let b = c.in-Or.b in
    let one = c.in_ok-left-in-Or.left in
    let two = c.in_ok-right-in-Or.right in
    IfOk-weaker c.both-in-Or.result _ _
    (λ r is. means_lists c.args.f.now (meaning_step (FoFormula-F.Or (meaning a) (meaning b))) s v p r (means_or c.args.f.now a b c.in-Or.is)
    (or_lists s (walked a s v) (walked b s v) p one two r
    (list_part c.get-in-Or.result.now a s v p one c.get-in-Or.ensures c.in_ok-left-in-Or.ensures)
    (list_part c.get-in-Or-2.result.now b s v one.after two c.get-in-Or-2.ensures c.in_ok-right-in-Or.ensures) is))
    c.both-in-Or.ensures

pub returns-in_ok-right-in-Imp : goal.returns-in_ok-right-in-Imp
returns-in_ok-right-in-Imp t c =
    let s = c.args.positive in
    let v = chained c.args.scope.now in
    let p = c.args.at in
    let a = c.in-Imp.a in
    let b = c.in-Imp.b in
    let one = c.in_ok-left-in-Imp.left in
    let two = c.in_ok-right-in-Imp.right in
    IfOk-weaker c.both-in-Imp.result _ _
    (λ r is. means_lists c.args.f.now (meaning_step (FoFormula-F.Imp (meaning a) (meaning b))) s v p r (means_imp c.args.f.now a b c.in-Imp.is)
    (or_lists s (walked a (not s) v) (walked b s v) p one two r
    (list_part c.get-in-Imp.result.now a (not s) v p one c.get-in-Imp.ensures c.in_ok-left-in-Imp.ensures)
    (list_part c.get-in-Imp-2.result.now b s v one.after two c.get-in-Imp-2.ensures c.in_ok-right-in-Imp.ensures) is))
    c.both-in-Imp.ensures

pub returns-in_ok-other-in-Iff : goal.returns-in_ok-other-in-Iff
returns-in_ok-other-in-Iff t c =
    let s = c.args.positive in
    let v = chained c.args.scope.now in
    let p = c.args.at in
    let a = c.in-Iff.a in
    let b = c.in-Iff.b in
    let one = c.in_ok-first-in-Iff.first in
    let two = c.in_ok-second-in-Iff.second in
    let half = c.in_ok-half-in-Iff.half in
    let three = c.in_ok-third-in-Iff.third in
    let four = c.in_ok-fourth-in-Iff.fourth in
    let other = c.in_ok-other-in-Iff.other in
    IfOk-weaker c.both-in-Iff-3.result _ _
    (λ r is. means_lists c.args.f.now (meaning_step (FoFormula-F.Iff (meaning a) (meaning b))) s v p r (means_iff c.args.f.now a b c.in-Iff.is)
    (iff_lists (walked a) (walked b) s v p one two half three four other r
    (list_part c.get-in-Iff.result.now a (not s) v p one c.get-in-Iff.ensures c.in_ok-first-in-Iff.ensures)
    (list_part c.get-in-Iff-2.result.now b true v one.after two c.get-in-Iff-2.ensures c.in_ok-second-in-Iff.ensures)
    c.in_ok-half-in-Iff.ensures
    (list_part c.get-in-Iff-3.result.now a s v half.after three c.get-in-Iff-3.ensures c.in_ok-third-in-Iff.ensures)
    (list_part c.get-in-Iff-4.result.now b false v three.after four c.get-in-Iff-4.ensures c.in_ok-fourth-in-Iff.ensures)
    c.in_ok-other-in-Iff.ensures is))
    c.both-in-Iff-3.ensures

pub returns-in_ok-opened-in-Each : goal.returns-in_ok-opened-in-Each
returns-in_ok-opened-in-Each t c =
    let s = c.args.positive in
    let v = chained c.args.scope.now in
    let p = c.args.at in
    let x = c.in-Each.x in
    let b = c.in-Each.b in
    let o = c.in_ok-opened-in-Each.opened in
    IfOk-weaker c.list-in-Each.result _ _
    (λ r h. means_lists c.args.f.now (meaning_step (FoFormula-F.Each x (meaning b))) s v p r (means_each c.args.f.now x b c.in-Each.is)
    (inside_lists s x b s v p o r
    (subst (λ g. Opens (opened s x (meaning g) v p) o) c.get-in-Each.ensures c.in_ok-opened-in-Each.ensures)
    (list_part c.get-in-Each-2.result.now b s (put_for v x o.value) o.after r c.get-in-Each-2.ensures (simp chained_under at h))))
    c.list-in-Each.ensures

pub returns-in_ok-opened-in-One : goal.returns-in_ok-opened-in-One
returns-in_ok-opened-in-One t c =
    let s = c.args.positive in
    let v = chained c.args.scope.now in
    let p = c.args.at in
    let x = c.in-One.x in
    let b = c.in-One.b in
    let o = c.in_ok-opened-in-One.opened in
    IfOk-weaker c.list-in-One.result _ _
    (λ r h. means_lists c.args.f.now (meaning_step (FoFormula-F.One x (meaning b))) s v p r (means_one c.args.f.now x b c.in-One.is)
    (inside_lists (not s) x b s v p o r
    (subst (λ g. Opens (opened (not s) x (meaning g) v p) o) c.get-in-One.ensures c.in_ok-opened-in-One.ensures)
    (list_part c.get-in-One-2.result.now b s (put_for v x o.value) o.after r c.get-in-One-2.ensures (simp chained_under at h))))
    c.list-in-One.ensures
