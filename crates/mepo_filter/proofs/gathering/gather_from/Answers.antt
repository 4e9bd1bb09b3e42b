use Rattle.std.proofs.Common.{◌≡◌, ℕ, ◌++◌, ◌∷◌, List, [], Option, Some, None, refl, ap, ◌∙◌, sym, take, get_or, length, arith, length-take}
use Rattle.std.specs.Prelude.{slice_get}
use Rattle.std.specs.Option.{option_map, option_map_or}
use Rattle.std.proofs.lemmas.List.{map_more, length-map}
use Rattle.theory_reader.specs.declared.statement.Fact.{Fact}
use Rattle.theory_reader.specs.Sound.{seen_from}
use Rattle.mepo_filter.specs.Constants.{names, each_once, constants}
use Rattle.mepo_filter.specs.Mepo.{candidate}
use Rattle.mepo_filter.specs.inner.Gathers.{gathered_of}
use Rattle.mepo_filter.proofs.gathering.gather_from.Goals as goal

pub add-requires-clause-few : goal.add-requires-clause-few
add-requires-clause-few c =
    let seen = seen_from c.args.facts.now c.args.goal.now in
    omega (
      arith,
      ap length c.loop-number.invariant.so_far,
      length-map (take c.loop-number.number-index c.args.visible.now) (candidate seen),
      length-take c.loop-number.number-index c.args.visible.now,
    )

distinct_of : (f : Option Fact) → each_once (option_map_or names (option_map (λ (g : Fact). g.formula) f) []) ≡ option_map_or (λ (g : Fact). constants g.formula) f []
distinct_of None = refl
distinct_of (Some f) = refl

pub loop-number-preserved : goal.loop-number-preserved
loop-number-preserved c =
    let seen = seen_from c.args.facts.now c.args.goal.now in
    let here = get_or c.args.visible.now c.loop-number.number-index 0 in
    let own : each_once c.deref.result.now ≡ option_map_or (λ (g : Fact). constants g.formula) (slice_get seen here) [] =
    ap each_once (c.deref.ensures.value ∙ c.in_ok-put_formula.ensures ∙ ap (λ o. option_map_or names o []) c.formula_of.ensures)
    ∙ distinct_of (slice_get seen here) in
    record {
      so_far = c.in_ok-add.ensures.more
          ∙ ap (λ (cs : List ℕ). gathered_of c.loop-number.gathered ++ record { fact = here; constants = cs } ∷ []) own
          ∙ ap (λ l. l ++ candidate seen here ∷ []) c.loop-number.invariant.so_far
          ∙ sym (map_more (candidate seen) c.args.visible.now c.loop-number.number-index 0 c.loop-number-test.true);
      sound = c.in_ok-add.ensures.sound;
    }
