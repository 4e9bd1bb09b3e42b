use Rattle.std.proofs.Common.{subst}
use Rattle.sledge_engine.specs.inner.Fetches.{IsFetch, IsOpened, IsTheoryOf}
use Rattle.sledge_engine.specs.Files.{Outside, most_theory_bytes, no_bytes}
use Rattle.sledge_engine.proofs.Fetched.{opened_by}
use Rattle.sledge_engine.proofs.Replying.{if_ok_map}
use Rattle.sledge_engine.proofs.opening.open_fetched.Goals as goal

pub returns-in-Whole : goal.returns-in-Whole
returns-in-Whole c =
    let name = c.args.name.now in
    let text = c.read_theory.new.text in
    if_ok_map c.read_theory.result (IsTheoryOf c.as_slice.result.now text)
    (λ opened. (o : Outside) → IsFetch o name most_theory_bytes c.args.fetched → IsOpened o name text opened)
    (λ opened h o f. opened_by c.in-Whole.bytes o name text opened (subst (IsFetch o name most_theory_bytes) c.in-Whole.is f)
    (subst (λ bytes. IsTheoryOf bytes text opened) c.as_slice.ensures h))
    c.read_theory.ensures

pub returns-in_ok-put_long-in-TooLong : goal.returns-in_ok-put_long-in-TooLong
returns-in_ok-put_long-in-TooLong c =
    λ o f. no_bytes c.in_ok-put_long-in-TooLong.field-0 c.put_long.new.text
    (c.in_ok-put_long-in-TooLong.ensures o most_theory_bytes (subst (IsFetch o c.args.name.now most_theory_bytes) c.in-TooLong.is f))

pub returns-in_ok-put_missing-in-Failed : goal.returns-in_ok-put_missing-in-Failed
returns-in_ok-put_missing-in-Failed c =
    λ o f. no_bytes c.in_ok-put_missing-in-Failed.field-0 c.put_missing.new.text
    (c.in_ok-put_missing-in-Failed.ensures o most_theory_bytes (subst (IsFetch o c.args.name.now most_theory_bytes) c.in-Failed.is f))
