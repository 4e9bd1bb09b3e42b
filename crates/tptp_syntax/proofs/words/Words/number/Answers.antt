use Rattle.std.proofs.Common.{◌∙◌, sym, ap, nat_eq, map}
use Rattle.std.specs.Cmp.Lexicographic.{pointwise}
use Rattle.tptp_syntax.specs.Tokens.{number_of, with_word}
use Rattle.tptp_syntax.proofs.WordLists.{place_map, key_added}
use Rattle.tptp_syntax.proofs.words.Words.number.Goals as goal
use Rattle.tptp_syntax.proofs.words.Words.number.Goals.{in-Ok, in-Err}

pub returns-clause-value : goal.returns-clause-value
returns-clause-value c =
    elim c.match-insert_full.branch [
      | in-Ok w ↦
          rw w.result-is
          (w.in-Ok.ensures.index ∙ sym (place_map (λ v. v.items) (pointwise nat_eq c.args.word.items) c.self.inside.set.keys) ∙ ap (number_of c.args.word.items) c.self.view_is)
      | in-Err w ↦ rw w.result-is tt
    ]

pub returns-clause-noted : goal.returns-clause-noted
returns-clause-noted c =
    elim c.match-insert_full.branch [
      | in-Ok w ↦
          rw w.result-is
          (ap (map (λ v. v.items)) w.in-Ok.ensures.keys ∙ key_added (λ v. v.items) c.self.inside.set.keys c.args.word ∙ ap (λ ws. with_word ws c.args.word.items) c.self.view_is)
      | in-Err w ↦ rw w.result-is tt
    ]
