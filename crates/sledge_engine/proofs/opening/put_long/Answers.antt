use Rattle.std.proofs.Common.{ℕ, sym, subst}
use Rattle.sledge_engine.specs.declared.fetching.Fetch.TheVariants.{TooLong}
use Rattle.sledge_engine.specs.inner.Fetches.{IsFetch}
use Rattle.sledge_engine.specs.Files.{FileRefusal, Outside, long_file}
use Rattle.sledge_engine.specs.Texts.{long_file_text}
use Rattle.sledge_engine.proofs.Replying.{reply_with}
use Rattle.sledge_engine.proofs.opening.put_long.Goals as goal

pub returns : goal.returns
returns c =
    let name = c.args.name.now in
    reply_with (λ status text. (o : Outside) (limit : ℕ) → IsFetch o name limit TooLong → FileRefusal o name limit status text) c.put_refusal.result 3
    (long_file_text c.as_bytes.result.now) c.put_refusal.new.text
    (λ o limit long. subst (λ n. FileRefusal o name limit 3 (long_file_text n)) (sym c.as_bytes.ensures.value) (long_file long.0 long.1 long.2))
    c.put_refusal.ensures
