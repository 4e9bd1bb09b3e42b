use Rattle.std.proofs.Common.{ℕ, sym, subst}
use Rattle.sledge_engine.specs.declared.fetching.Fetch.TheVariants.{Failed}
use Rattle.sledge_engine.specs.inner.Fetches.{IsFetch}
use Rattle.sledge_engine.specs.Files.{FileRefusal, Outside, no_file}
use Rattle.sledge_engine.specs.Texts.{file_text}
use Rattle.sledge_engine.proofs.Replying.{reply_with}
use Rattle.sledge_engine.proofs.opening.put_missing.Goals as goal

pub returns : goal.returns
returns c =
    let name = c.args.name.now in
    reply_with (λ status text. (o : Outside) (limit : ℕ) → IsFetch o name limit Failed → FileRefusal o name limit status text) c.put_refusal.result 3
    (file_text c.as_bytes.result.now) c.put_refusal.new.text
    (λ o limit none. subst (λ n. FileRefusal o name limit 3 (file_text n)) (sym c.as_bytes.ensures.value) (no_file none))
    c.put_refusal.ensures
