use Rattle.std.proofs.Common.{ℕ, List, refl, ◌∙◌, subst}
use Rattle.fo_index.specs.declared.filed.Filed.{Filed}
use Rattle.fo_index.specs.Fronts.{front}
use Rattle.fo_index.specs.Candidates.{AreMet}
use Rattle.fo_index.proofs.Collecting.{are-met}
use Rattle.fo_index.proofs.Instances.{instances-meet}
use Rattle.fo_index.proofs.index.Index.candidates.Goals as goal

pub returns-clause-met : goal.returns-clause-met
returns-clause-met c =
    let P : List ℕ → Type 0 = λ f. AreMet c.self.inside.filed f c.ascending.result in
    let Q : List Filed → Type 0 = λ l. AreMet l (front c.args.t.now) c.ascending.result in
    subst Q c.self.view_is
    (subst P (c.as_slice.ensures ∙ c.in_ok-front.ensures)
    (are-met c.self.inside.filed c.as_slice.result.now c.in_ok-ids.ids.items c.ascending.result c.in_ok-ids.ensures.all c.in_ok-ids.ensures.only c.ascending.ensures.all c.ascending.ensures.only c.ascending.ensures.ascending))

pub returns-clause-unifiable : goal.returns-clause-unifiable
returns-clause-unifiable c =
    let P : List ℕ → Type 0 = λ f. AreMet c.self.inside.filed f c.ascending.result in
    let Q : List Filed → Type 0 = λ l. AreMet l (front c.args.t.now) c.ascending.result in
    let met =
    subst Q c.self.view_is
    (subst P (c.as_slice.ensures ∙ c.in_ok-front.ensures)
    (are-met c.self.inside.filed c.as_slice.result.now c.in_ok-ids.ids.items c.ascending.result c.in_ok-ids.ensures.all c.in_ok-ids.ensures.only c.ascending.ensures.all c.ascending.ensures.only c.ascending.ensures.ascending))
    in
    λ key id stands one. met.all id (record { entry = record { front = front key; id = id }; stands = stands; id_is = refl; meets = instances-meet key c.args.t.now one })
