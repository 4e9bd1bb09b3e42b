use Rattle.std.proofs.Common.{◌≤◌, take, length, sym, subst, arith}
use Rattle.std.proofs.lemmas.List.{take_all}
use Rattle.fo_unify.proofs.Closing.{map_more}
use Rattle.fo_infer.specs.inner.Components.{literals, Splits}
use Rattle.fo_infer.proofs.Parting.{splits_more, fewer_more, apart_more}
use Rattle.fo_infer.proofs.components.pass.Goals as goal

pub loop-s-preserved : goal.loop-s-preserved
loop-s-preserved c =
    let p = literals c.loop-s.part in
    let q = literals c.loop-s.others in
    let l = c.s-item.result.literal.now in
    let more = literals c.sort_out.new.part in
    let rest = literals c.sort_out.new.others in
    let inv = c.loop-s.invariant in
    record {
      splits = subst (λ b. Splits (literals c.args.part.now) b more rest) (sym (map_more (λ s. s.literal.now) c.args.rest.now c.loop-s.s-index c.s-item.result c.loop-s-test.true c.s-item.is))
          (splits_more (literals c.args.part.now) (literals (take c.loop-s.s-index c.args.rest.now)) p q l more rest inv.splits c.in_ok-sort_out.ensures);
      fewer = fewer_more p q l more rest c.loop-s.s-index inv.fewer c.in_ok-sort_out.ensures;
      apart = apart_more p q l more rest c.loop-s.s-index inv.fewer inv.apart c.in_ok-sort_out.ensures;
    }

pub returns-clause-splits : goal.returns-clause-splits
returns-clause-splits c =
    let over : length c.args.rest.now ≤ c.loop-s.s-index = omega arith in
    subst (λ b. Splits (literals c.args.part.now) (literals b) (literals c.loop-s.part) (literals c.loop-s.others)) (take_all c.loop-s.s-index c.args.rest.now over) c.loop-s.invariant.splits
