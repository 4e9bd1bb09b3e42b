use Rattle.std.proofs.Common.{◌∙◌, ◌++◌, ap, List, ℕ}
use Rattle.std.specs.List.{list_any}
use Rattle.std.specs.Str.{bytes_eq}
use Rattle.tstp_print.specs.Names.{new_name}
use Rattle.tstp_print.proofs.vocabulary.is_taken.Goals as goal

pub returns : goal.returns
returns c = λ names h.
    c.has.ensures names h ∙ ap (λ (w : List ℕ). list_any (λ n. bytes_eq n w) names)
    (c.as_slice.ensures ∙ c.in_ok-put_new_name.ensures ∙ ap (λ (l : List ℕ). l ++ new_name c.args.number) c.begin-name.ensures)
