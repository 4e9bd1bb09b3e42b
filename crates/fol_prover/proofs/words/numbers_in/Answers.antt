use Rattle.std.proofs.Common.{◌≡◌, ◌∙◌, List, ℕ, [], ◌∷◌, map, sym, ap, string_bytes}
use Rattle.std.specs.Prelude.{codes}
use Rattle.std.proofs.lemmas.Slice.Eq.{bytes_eq-Decides}
use Rattle.fol_prover.proofs.FourWords.{four_words}
use Rattle.fol_prover.proofs.words.numbers_in.Goals as goal

pub returns-then-eq-2 : goal.returns-then-eq-2
returns-then-eq-2 c =
    let first : c.as_str.result.now ≡ codes "--budget" = (bytes_eq-Decides c.as_str.result.now (codes "--budget")).0 (sym c.if-eq.ensures) in
    let third : c.as_str-then-eq.result.now ≡ codes "--age" = (bytes_eq-Decides c.as_str-then-eq.result.now (codes "--age")).0 (sym c.if-eq-2.ensures) in
    four_words c.args.words.now c.first-item.result c.budget-item.result c.third-item.result c.age-item.result
    (codes "--budget") c.as_str-then-eq-2.result.now (codes "--age") c.as_str-then-eq-2-2.result.now
    c.in-len4.len_at_least c.in-len4.len_below c.first-item.is c.budget-item.is c.third-item.is c.age-item.is
    (sym first ∙ c.as_str.ensures.value) c.as_str-then-eq-2.ensures.value (sym third ∙ c.as_str-then-eq.ensures.value) c.as_str-then-eq-2-2.ensures.value
