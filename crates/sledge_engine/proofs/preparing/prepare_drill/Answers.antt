use Rattle.std.proofs.Common.{◌≡◌, ◌<◌, ◌≤◌, ◌∙◌, ◌^◌, length, map, string_bytes, subst, sym}
use Rattle.theory_gen.specs.Generated.{generated}
use Rattle.theory_reader.specs.Reading.{Reads}
use Rattle.theory_reader.specs.Seen.{declarations}
use Rattle.sledge_engine.specs.declared.opening.Opened.TheVariants.{Refused}
use Rattle.sledge_engine.specs.Files.{Outside}
use Rattle.sledge_engine.specs.inner.Fetches.{IsTheoryOf}
use Rattle.sledge_engine.specs.inner.Preparing.{IsGenerated}
use Rattle.sledge_engine.specs.inner.Trials.{IsPrepared}
use Rattle.sledge_engine.proofs.Asking.{no_theory_to_drill}
use Rattle.sledge_engine.proofs.Contests.{drills_within}
use Rattle.sledge_engine.proofs.Counts.{drilled}
use Rattle.sledge_engine.proofs.Generating.{generated_short}
use Rattle.sledge_engine.proofs.Replying.{if_ok_map}
use Rattle.sledge_engine.proofs.preparing.prepare_drill.Goals as goal

pub make-requires-clause-some : goal.make-requires-clause-some
make-requires-clause-some g c = (drilled (map string_bytes c.args.words.now) c.args.line.now c.requires.line c.requires.command).0

pub make-requires-clause-few : goal.make-requires-clause-few
make-requires-clause-few g c = (drilled (map string_bytes c.args.words.now) c.args.line.now c.requires.line c.requires.command).1

pub read_theory-requires-clause-few : goal.read_theory-requires-clause-few
read_theory-requires-clause-few g c =
    let line = c.args.line.now in
    let is : c.as_slice.result.now ≡ generated line.number = c.as_slice.ensures ∙ c.in_ok-made.ensures in
    subst (λ bytes. length bytes < 2 ^ 32) (sym is) (generated_short line.number (drilled (map string_bytes c.args.words.now) line c.requires.line c.requires.command).1)

pub prepare_generated-requires-clause-contest : goal.prepare_generated-requires-clause-contest
prepare_generated-requires-clause-contest g c κs within = drills_within (map string_bytes c.args.words.now) c.args.line.now c.requires.line

pub prepare_generated-requires-clause-text : goal.prepare_generated-requires-clause-text
prepare_generated-requires-clause-text g c κs within = (subst (IsTheoryOf c.as_slice.result.now c.read_theory.new.text) c.in-Read.is c.in_ok-theory.ensures).1

pub returns-in-Read : goal.returns-in-Read
returns-in-Read g c =
    let words = map string_bytes c.args.words.now in
    let line = c.args.line.now in
    let t = c.in-Read.theory in
    let text = c.prepare_generated.new.text in
    let read = subst (IsTheoryOf c.as_slice.result.now c.read_theory.new.text) c.in-Read.is c.in_ok-theory.ensures in
    let reads : Reads (generated line.number) (declarations t) = subst (λ bytes. Reads bytes (declarations t)) (c.as_slice.ensures ∙ c.in_ok-made.ensures) read.0 in
    if_ok_map c.prepare_generated.result (IsGenerated line t text) (λ p. (o : Outside) → IsPrepared words o text p)
    (λ p h o. h words o c.requires.line c.requires.command reads) c.prepare_generated.ensures

pub returns : goal.returns
returns g c =
    let words = map string_bytes c.args.words.now in
    let line = c.args.line.now in
    let text = c.read_theory.new.text in
    let fault = subst (IsTheoryOf c.as_slice.result.now text) c.in-Refused.is c.in_ok-theory.ensures in
    λ o. no_theory_to_drill words o text line c.in-Refused.status c.requires.line c.requires.command
    (subst (λ bytes. IsTheoryOf bytes text (Refused c.in-Refused.status)) (c.as_slice.ensures ∙ c.in_ok-made.ensures) fault)
