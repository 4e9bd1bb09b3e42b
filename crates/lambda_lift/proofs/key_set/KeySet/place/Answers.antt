use Rattle.std.proofs.Common.{◌∙◌, sym, ap, nat_eq}
use Rattle.std.specs.Prelude.{position}
use Rattle.std.specs.Cmp.Lexicographic.{pointwise}
use Rattle.lambda_lift.proofs.KeySets.{position_map}
use Rattle.lambda_lift.proofs.key_set.KeySet.place.Goals as goal

pub returns-in-Some : goal.returns-in-Some
returns-in-Some c =
    sym c.in-Some.is ∙ c.get_index_of.ensures.index ∙ sym (position_map (λ v. v.items) (pointwise nat_eq c.args.key.now.items) c.self.inside.set.keys)
    ∙ ap (position (pointwise nat_eq c.args.key.now.items)) c.self.view_is

pub returns-in-None : goal.returns-in-None
returns-in-None c =
    sym c.in-None.is ∙ c.get_index_of.ensures.index ∙ sym (position_map (λ v. v.items) (pointwise nat_eq c.args.key.now.items) c.self.inside.set.keys)
    ∙ ap (position (pointwise nat_eq c.args.key.now.items)) c.self.view_is
