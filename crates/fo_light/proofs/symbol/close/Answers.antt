use Rattle.std.proofs.Common.{◌≡◌, ◌+◌, ◌-◌, ◌++◌, ◌∷◌, [], length, sym, ap, ◌∙◌, arith}
use Rattle.std.specs.Prelude.{slice_set}
use Rattle.std.proofs.lemmas.List.{length-append}
use Rattle.fo_cells.specs.declared.cell.Cell.TheVariants.{Fun}
use Rattle.fo_light.proofs.Instances.{set_behind}
use Rattle.fo_light.proofs.symbol.close.Goals as goal

pub returns : goal.returns
returns c = λ before args long is.
    let begun = Fun c.args.count 0 c.args.symbol in
    let whole : length c.args.out.now ≡ length before + 1 + length args =
    ap length is ∙ length-append (before ++ begun ∷ []) args ∙ ap (λ n. n + length args) (length-append before (begun ∷ [])) in
    let size : c.len.result - c.args.at ≡ length args + 1 = omega arith in
    c.set.ensures ∙ (λ k. slice_set (is k) (sym long k) (Fun c.args.count (size k) c.args.symbol)) ∙ set_behind before args begun (Fun c.args.count (length args + 1) c.args.symbol)
