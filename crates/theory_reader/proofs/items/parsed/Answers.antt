use Rattle.theory_reader.proofs.Faults.{refused}
use Rattle.theory_reader.proofs.items.parsed.Goals as goal

pub returns-in-Err : goal.returns-in-Err
returns-in-Err c =
    refused c.args.text.now c.args.cut.now c.args.toks.now c.requires.cut c.requires.toks c.in-Err.fault c.in-Err.ensures.found c.located.result c.located.ensures
