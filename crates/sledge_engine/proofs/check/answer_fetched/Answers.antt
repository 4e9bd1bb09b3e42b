use Rattle.std.proofs.Common.{ℕ, subst}
use Rattle.sledge_engine.specs.declared.fetching.Fetch.TheVariants.{TooLong, Failed}
use Rattle.sledge_engine.specs.inner.Fetches.{IsFetch}
use Rattle.sledge_engine.specs.Files.{FileRefusal, Outside, most_proof_bytes}
use Rattle.sledge_engine.specs.Check.{ProofFileReply, BytesReply, no_proof, proof}
use Rattle.sledge_engine.proofs.Replying.{if_ok_map}
use Rattle.sledge_engine.proofs.check.answer_fetched.Goals as goal

pub returns-in-Whole : goal.returns-in-Whole
returns-in-Whole c =
    let t = c.args.theory.now in
    let name = c.args.name.now in
    let text = c.answer_bytes.new.text in
    if_ok_map c.answer_bytes.result (λ status. BytesReply t c.as_slice.result.now status text)
    (λ status. (o : Outside) → IsFetch o name most_proof_bytes c.args.fetched → ProofFileReply o t name status text)
    (λ status h o f. proof c.in-Whole.bytes status text (subst (IsFetch o name most_proof_bytes) c.in-Whole.is f)
    (subst (λ bytes. BytesReply t bytes status text) c.as_slice.ensures h))
    c.answer_bytes.ensures

pub returns-in-TooLong : goal.returns-in-TooLong
returns-in-TooLong c =
    let t = c.args.theory.now in
    let name = c.args.name.now in
    let text = c.put_long.new.text in
    if_ok_map c.put_long.result (λ status. (o : Outside) (limit : ℕ) → IsFetch o name limit TooLong → FileRefusal o name limit status text)
    (λ status. (o : Outside) → IsFetch o name most_proof_bytes c.args.fetched → ProofFileReply o t name status text)
    (λ status h o f. no_proof status text (h o most_proof_bytes (subst (IsFetch o name most_proof_bytes) c.in-TooLong.is f)))
    c.put_long.ensures

pub returns-in-Failed : goal.returns-in-Failed
returns-in-Failed c =
    let t = c.args.theory.now in
    let name = c.args.name.now in
    let text = c.put_missing.new.text in
    if_ok_map c.put_missing.result (λ status. (o : Outside) (limit : ℕ) → IsFetch o name limit Failed → FileRefusal o name limit status text)
    (λ status. (o : Outside) → IsFetch o name most_proof_bytes c.args.fetched → ProofFileReply o t name status text)
    (λ status h o f. no_proof status text (h o most_proof_bytes (subst (IsFetch o name most_proof_bytes) c.in-Failed.is f)))
    c.put_missing.ensures
