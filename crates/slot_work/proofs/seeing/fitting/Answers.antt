use Rattle.std.proofs.Common.{◌≡◌, ◌<◌, ◌∙◌, ◌+◌, ◌++◌, false, ap, drop, length, subst, arith}
use Rattle.std.specs.Option.{option_map_or}
use Rattle.theory_reader.specs.Seen.{seen}
use Rattle.slot_work.specs.Visible.{places_from, fact_fits}
use Rattle.slot_work.proofs.Few.{few_seen}
use Rattle.slot_work.proofs.Places.{there, places_more}
use Rattle.slot_work.proofs.Turning.{env_length, fits_by}
use Rattle.slot_work.proofs.seeing.fitting.Goals as goal

pub overflow_cast-i : goal.overflow_cast-i
overflow_cast-i c =
    let few = few_seen c.args.theory.now c.args.goal in
    let same = env_length c.args.theory.now c.args.goal c.args.env.now c.requires in
    omega (arith, few, same, c.loop-i-test.true, c.len-i-end.ensures)

pub loop-i-preserved : goal.loop-i-preserved
loop-i-preserved c =
    let t = c.args.theory.now in
    let g = c.args.goal in
    let e = c.args.env.now in
    let i = c.loop-i.i in
    let lt : i < length (seen t g) = subst (λ n. i < n) (c.len-i-end.ensures ∙ env_length t g e c.requires) c.loop-i-test.true in
    let item = there (seen t g) i lt in
    ap (λ out. out ++ places_from (i + 1) (fact_fits t) (drop (i + 1) (seen t g))) c.in_ok-push_if.ensures
    ∙ places_more (fact_fits t) (seen t g) i item.0 c.loop-i.out c.in_ok-fits.fits lt item.1 (c.in_ok-fits.ensures ∙ fits_by t g e c.requires i ∙ ap (λ o. option_map_or (fact_fits t) o false) item.1)
    ∙ c.loop-i.invariant
