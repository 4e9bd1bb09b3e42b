use Rattle.std.proofs.Common.{◌≡◌, ◌∙◌, sym, ap, ℕ, length, arith}
use Rattle.std.proofs.lemmas.List.Elements.{All-same}
use Rattle.std.proofs.lemmas.List.Sums.{count_by-le-length}
use Rattle.mepo_filter.specs.declared.placing.Place.{Place}
use Rattle.mepo_filter.specs.Constants.{occurs_in, each_once}
use Rattle.mepo_filter.specs.Scores.{frequency}
use Rattle.mepo_filter.specs.inner.Tables.{all_met}
use Rattle.mepo_filter.specs.inner.Places.{IsWithin, candidates_at}
use Rattle.mepo_filter.specs.inner.Gathers.{gathered_of}
use Rattle.mepo_filter.proofs.Added.{added-candidates, added-within, frequency-push}
use Rattle.mepo_filter.proofs.gathering.Gathered.add.Goals as goal

pub put_distinct-requires-clause-fits : goal.put_distinct-requires-clause-fits
put_distinct-requires-clause-fits c =
    λ (d : ℕ). omega (arith, ap (λ f. f d) c.requires.sound.counted, count_by-le-length (λ f. occurs_in f.constants d) (gathered_of c.args.self.now), c.requires.few)

pub returns-clause-more : goal.returns-clause-more
returns-clause-more c =
    let place : Place = record { fact = c.args.fact; start = c.in_ok-start.start; end = c.in_ok-end.end } in
    ap (candidates_at c.put_distinct.new.flat) c.in_ok-push.ensures.ok
    ∙ added-candidates c.args.self.now.flat (each_once c.args.names.now) c.put_distinct.new.flat c.args.self.now.places place
    c.in_ok-put_distinct.ensures.flat c.requires.sound.within (c.in_ok-start.ensures ∙ c.len.ensures) (c.in_ok-end.ensures ∙ c.len-2.ensures)

pub returns-clause-sound : goal.returns-clause-sound
returns-clause-sound c =
    let place : Place = record { fact = c.args.fact; start = c.in_ok-start.start; end = c.in_ok-end.end } in
    let start : place.start ≡ length c.args.self.now.flat = c.in_ok-start.ensures ∙ c.len.ensures in
    let end : place.end ≡ length c.put_distinct.new.flat = c.in_ok-end.ensures ∙ c.len-2.ensures in
    let more = ap (candidates_at c.put_distinct.new.flat) c.in_ok-push.ensures.ok
    ∙ added-candidates c.args.self.now.flat (each_once c.args.names.now) c.put_distinct.new.flat c.args.self.now.places place
    c.in_ok-put_distinct.ensures.flat c.requires.sound.within start end in
    record {
      within = All-same (IsWithin (length c.put_distinct.new.flat)) _ _ c.in_ok-push.ensures.ok
          (added-within c.args.self.now.flat (each_once c.args.names.now) c.put_distinct.new.flat c.args.self.now.places place
          c.in_ok-put_distinct.ensures.flat c.requires.sound.within start end);
      counted = c.in_ok-put_distinct.ensures.counts ∙ ap (λ f. all_met f (occurs_in (each_once c.args.names.now))) c.requires.sound.counted
          ∙ frequency-push (gathered_of c.args.self.now) (record { fact = c.args.fact; constants = each_once c.args.names.now })
          ∙ ap frequency (sym more);
    }
