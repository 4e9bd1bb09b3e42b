use Rattle.std.proofs.Common.{ℕ, List, sym, subst}
use Rattle.fo_index.specs.declared.filed.Filed.{Filed}
use Rattle.fo_index.specs.inner.Shelved.{AreShelved, IsShelved}
use Rattle.fo_index.proofs.Shelved.{all-grown, one-more}
use Rattle.fo_index.proofs.index.Index.insert.Goals as goal

pub invariant_of-self : goal.invariant_of-self
invariant_of-self c = all-grown c.self.inside.whole c.self.inside.begun c.file.new.whole c.file.new.begun c.self.inside.filed c.file.ensures.whole c.file.ensures.begun c.self.invariant

pub invariant_of-self-in_err-push : goal.invariant_of-self-in_err-push
invariant_of-self-in_err-push c =
    let grown = all-grown c.self.inside.whole c.self.inside.begun c.file.new.whole c.file.new.begun c.self.inside.filed c.file.ensures.whole c.file.ensures.begun c.self.invariant in
    let P : List Filed → Type 0 = λ l. AreShelved c.file.new.whole c.file.new.begun l in
    subst P (sym c.in_err-push.ensures.err) grown

pub invariant_of-self-2 : goal.invariant_of-self-2
invariant_of-self-2 c =
    let grown = all-grown c.self.inside.whole c.self.inside.begun c.file.new.whole c.file.new.begun c.self.inside.filed c.file.ensures.whole c.file.ensures.begun c.self.invariant in
    let P : List Filed → Type 0 = λ l. AreShelved c.file.new.whole c.file.new.begun l in
    let Q : List ℕ → Type 0 = λ f. IsShelved c.file.new.whole c.file.new.begun f c.len-place.result in
    let R : ℕ → Type 0 = λ k. IsShelved c.file.new.whole c.file.new.begun c.in_ok-front.front k in
    let entry : Filed = record { front = c.in_ok-front.front; id = c.args.id } in
    subst P (sym c.in_ok-push.ensures.ok) (one-more c.file.new.whole c.file.new.begun c.self.inside.filed entry grown (subst R c.len-place.ensures (subst Q c.as_slice.ensures c.in_ok-file.ensures.filed)))
