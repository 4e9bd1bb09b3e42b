use Rattle.std.proofs.Common.{◌≡◌, ℕ, ◌+◌, ◌++◌, ◌∷◌, [], Bool, false, ap, ◌∙◌, sym, append-nil, append_assoc, get_or, take, arith}
use Rattle.std.specs.Prelude.{if◌then◌else◌}
use mathlib.Core.Path.{fun_ext}
use Rattle.mepo_filter.specs.Constants.{with_constant, each_once, occurs_in}
use Rattle.mepo_filter.specs.inner.Tables.{is_in, count_in, met_again, all_met}
use Rattle.mepo_filter.proofs.Distinct.{each_once-old, each_once-new, occurs_in-push, all_met-push}
use Rattle.mepo_filter.proofs.gathering.put_distinct.Goals as goal
use Rattle.mepo_filter.proofs.gathering.put_distinct.Goals.{then-not-has+in_ok-put_new, else-not-has}

pub loop-constant-init : goal.loop-constant-init
loop-constant-init c = record {
  flat = sym (append-nil c.args.flat.now);
  met = c.requires.none;
  counts = fun_ext (λ (d : ℕ). omega arith);
}

pub put_new-requires : goal.put_new-requires
put_new-requires c =
    let here = get_or c.args.names.now c.loop-constant.constant-index 0 in
    let own = each_once (take c.loop-constant.constant-index c.args.names.now) in
    let new : occurs_in own here ≡ false = sym (ap (λ s. s here) c.loop-constant.invariant.met) ∙ sym c.has.ensures ∙ c.if-not-has.true in
    let same : count_in c.loop-constant.counts here ≡ count_in c.args.counts.now here + 0 =
    ap (λ f. f here) c.loop-constant.invariant.counts ∙ ap (λ (b : Bool). count_in c.args.counts.now here + (if b then 1 else 0)) new in
    omega (arith, same, c.requires.fits here)

pub loop-constant-preserved : goal.loop-constant-preserved
loop-constant-preserved c =
    let here = get_or c.args.names.now c.loop-constant.constant-index 0 in
    let own = each_once (take c.loop-constant.constant-index c.args.names.now) in
    let met : occurs_in own here ≡ c.has.result = sym (ap (λ s. s here) c.loop-constant.invariant.met) ∙ sym c.has.ensures in
    let flat = c.args.flat.now in
    let count = count_in c.args.counts.now in
    elim c.if-not-has.branch [
      | then-not-has+in_ok-put_new w ↦
          (let new : occurs_in own here ≡ false = met ∙ w.if-not-has.true in
          let more = each_once-new c.args.names.now c.loop-constant.constant-index c.loop-constant-test.true new in
          record {
            flat = w.flat-is ∙ w.in_ok-put_new.ensures.flat ∙ ap (λ l. l ++ here ∷ []) c.loop-constant.invariant.flat
                ∙ append_assoc flat own (here ∷ []) ∙ ap (λ l. flat ++ l) (sym more);
            met = ap is_in w.met-is ∙ w.in_ok-put_new.ensures.met ∙ ap (λ s. with_constant s here) c.loop-constant.invariant.met
                ∙ occurs_in-push own here ∙ ap occurs_in (sym more);
            counts = ap count_in w.counts-is ∙ w.in_ok-put_new.ensures.counts ∙ ap (λ f. met_again f here) c.loop-constant.invariant.counts
                ∙ all_met-push count own here new ∙ ap (λ l. all_met count (occurs_in l)) (sym more);
          })
      | else-not-has w ↦
          (let same = each_once-old c.args.names.now c.loop-constant.constant-index c.loop-constant-test.true (met ∙ w.if-not-has.false) in
          record {
            flat = w.flat-is ∙ c.loop-constant.invariant.flat ∙ ap (λ l. flat ++ l) (sym same);
            met = ap is_in w.met-is ∙ c.loop-constant.invariant.met ∙ ap occurs_in (sym same);
            counts = ap count_in w.counts-is ∙ c.loop-constant.invariant.counts ∙ ap (λ l. all_met count (occurs_in l)) (sym same);
          })
    ]
