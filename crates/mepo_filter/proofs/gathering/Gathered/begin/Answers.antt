use Rattle.std.proofs.Common.{◌∙◌, sym, ap, length}
use Rattle.std.proofs.lemmas.List.Elements.{All-same, All-nil}
use Rattle.mepo_filter.specs.Scores.{frequency}
use Rattle.mepo_filter.specs.inner.Places.{IsWithin, candidates_at}
use Rattle.mepo_filter.proofs.gathering.Gathered.begin.Goals as goal

pub returns-clause-sound : goal.returns-clause-sound
returns-clause-sound c = record {
  within = All-same (IsWithin (length c.begin.result)) _ _ c.begin-2.ensures (All-nil (IsWithin (length c.begin.result)));
  counted = c.begin-3.ensures ∙ sym (ap (λ l. frequency (candidates_at c.begin.result l)) c.begin-2.ensures);
}
