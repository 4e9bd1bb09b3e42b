use Rattle.std.proofs.Common.{◌≡◌, ◌<◌, ◌∙◌, ◌+◌, ◌++◌, List, ℕ, ap, drop, get_or, length, subst, sym, arith}
use Rattle.std.specs.Prelude.{Some, slice_get}
use Rattle.std.proofs.lemmas.List.{length-map}
use Rattle.std.proofs.lemmas.Option.{get_or_from_slice_get, slice_get-map}
use Rattle.std.specs.Option.{option_map}
use Rattle.theory_reader.specs.Seen.{seen}
use Rattle.theory_reader.specs.Sound.{fact_names}
use Rattle.slot_work.specs.Visible.{places_from}
use Rattle.slot_work.specs.Answers.{is_used}
use Rattle.slot_work.proofs.Few.{few_seen}
use Rattle.slot_work.proofs.Places.{there, places_more}
use Rattle.slot_work.proofs.Turning.{used_at}
use Rattle.slot_work.proofs.using.used_among.Goals as goal

pub overflow_cast-i : goal.overflow_cast-i
overflow_cast-i c =
    let t = c.args.theory.now in
    let few = few_seen t c.args.goal in
    let same : length c.args.names.now ≡ length (seen t c.args.goal) = ap length c.requires.names ∙ length-map (seen t c.args.goal) (λ f. f.name) in
    omega (arith, few, same, c.loop-i-test.true)

pub loop-i-preserved : goal.loop-i-preserved
loop-i-preserved c =
    let t = c.args.theory.now in
    let g = c.args.goal in
    let e = c.args.env.now in
    let i = c.loop-i.i in
    let leaves = c.args.leaves.now in
    let same : length c.args.names.now ≡ length (seen t g) = ap length c.requires.names ∙ length-map (seen t g) (λ f. f.name) in
    let lt : i < length (seen t g) = subst (λ n. i < n) same c.loop-i-test.true in
    let item = there (seen t g) i lt in
    let named : slice_get c.args.names.now i ≡ Some item.0.name =
    ap (λ l. slice_get l i) c.requires.names ∙ slice_get-map (λ f. f.name) (seen t g) i ∙ ap (option_map (λ f. f.name)) item.1 in
    let name = c.as_slice.ensures ∙ c.index-names-i.is ∙ get_or_from_slice_get c.args.names.now i item.0.name _ named in
    ap (λ out. out ++ places_from (i + 1) (is_used t leaves) (drop (i + 1) (seen t g))) c.in_ok-push_if.ensures
    ∙ places_more (is_used t leaves) (seen t g) i item.0 c.loop-i.out c.in_ok-used.used lt item.1 (used_at t g e leaves i item.0 _ c.in_ok-used.used c.requires.env item.1 name c.in_ok-used.ensures)
    ∙ c.loop-i.invariant
