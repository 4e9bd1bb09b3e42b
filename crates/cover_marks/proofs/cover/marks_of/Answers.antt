use Rattle.std.proofs.Common.{◌≡◌, ◌<◌, ◌++◌, ◌∷◌, [], map, take, length, get_or, sym, ap, subst, ◌∙◌}
use Rattle.std.proofs.lemmas.List.{map-append, take_more}
use Rattle.cover_marks.specs.Marks.{literal_marks}
use Rattle.std.specs.Prelude.{bit_or}
use Rattle.cover_marks.specs.inner.Union.{IsUnion}
use Rattle.cover_marks.proofs.Unions.{union_more}
use Rattle.cover_marks.proofs.cover.marks_of.Goals as goal

pub loop-l-preserved : goal.loop-l-preserved
loop-l-preserved c =
    let ls = c.args.c.now.literals in
    let i = c.loop-l.l-index in
    let word = c.of_literal-word.result in
    let within : i < length ls = subst (λ l. i < length l) c.as_slice-l-items.ensures c.loop-l-test.true in
    let item : c.l-item.result ≡ get_or ls i c.l-item.result = subst (λ l. c.l-item.result ≡ get_or l i c.l-item.result) c.as_slice-l-items.ensures c.l-item.is in
    record {
      words = c.in_ok-push.ensures.ok ∙ ap (λ w. w ++ word ∷ []) c.loop-l.invariant.words ∙ ap (λ w. map literal_marks (take i ls) ++ w ∷ []) (c.of_literal-word.ensures ∙ ap literal_marks item)
          ∙ sym (ap (map literal_marks) (take_more ls i c.l-item.result within) ∙ map-append literal_marks (take i ls) (get_or ls i c.l-item.result ∷ []));
      union = subst (λ w. IsUnion w (bit_or c.loop-l.all word)) (sym c.in_ok-push.ensures.ok) (union_more c.loop-l.words word c.loop-l.all c.loop-l.invariant.union);
    }
