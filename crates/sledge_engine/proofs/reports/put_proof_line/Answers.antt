use Rattle.std.proofs.Common.{◌≡◌, ◌++◌, map, subst}
use Rattle.std.specs.Prelude.{OnOk}
use Rattle.theory_reader.specs.Sound.{fact_names}
use Rattle.sledge_engine.specs.Choice.{names_at}
use Rattle.sledge_engine.specs.Texts.{metis_text}
use Rattle.sledge_engine.proofs.reports.put_proof_line.Goals as goal

pub returns : goal.returns
returns c =
    subst (λ ns. OnOk c.put_listed.result (c.put_listed.new.text ≡ c.args.text.now ++ metis_text (names_at (fact_names (map (λ f. f.now) c.args.facts.now)) ns)))
    c.as_slice.ensures c.put_listed.ensures
