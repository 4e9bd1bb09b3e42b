-- The laws of printing.
use Rattle.std.proofs.Common.{◌≡◌, ℕ, ◌≤◌, Bool, true, false, if◌then◌else◌, [], sym, ap, subst, ◌∙◌, arith}
use Rattle.hol_terms.specs.declared.term.Term.{Term}
use Rattle.hol_terms.specs.Types.{is_ty, bool_ty}
use Rattle.theory_syntax.specs.Grammar.{Whole}
use Rattle.theory_terms.specs.declared.fault.TheoryKind.TheVariants as kind
use Rattle.theory_terms.specs.Answers.{Good, Bad, and_then}
use Rattle.theory_terms.specs.Meanings.{depth, meaning, stated}
use Rattle.theory_print.specs.declared.sort.Sort.TheVariants as sort
use Rattle.theory_print.specs.Shapes.{part_of}
use Rattle.theory_print.specs.Written.{lexemes, written as written_part}
use Rattle.theory_print.specs.Laws.{TypesAreReadAgain, SentencesAreReadAgain}
use Rattle.theory_print.proofs.Moves.{both}
use Rattle.theory_print.proofs.TypesAgain.{written_ty}
use Rattle.theory_print.proofs.TermsAgain.{written}

pub types_are_read_again : TypesAreReadAgain
types_are_read_again limit text known ts a r later ext =
    let w = written_ty limit later text known ext r.derived a r.means r.within in (
      w.named Whole,
      λ out us sp.
          let x = w.again out 0 Whole us sp w.low in
          record { placed = x.placed; tree = x.tree; derived = x.derived; within = x.within; tokens = x.tokens; means = x.means },
    )

stated_at : (b : Bool) (i j : ℕ) (s t : Term) → (if b then Good s else Bad i kind.NotBool) ≡ Good t → ((if b then Good s else Bad j kind.NotBool) ≡ Good t) × (s ≡ t)
stated_at true i j s t h = (h, cc)
stated_at false i j s t h = cc

pub sentences_are_read_again : SentencesAreReadAgain
sentences_are_read_again limit text known ts t small r later ext k fresh =
    let b = both (meaning text known r.tree []) stated t r.means in
    let w = written limit k later text known ext fresh.1 small r.derived [] b.mid (omega arith) b.first r.within in
    let same = (stated_at (is_ty bool_ty b.mid.ty) b.mid.at 0 b.mid.term t b.second).1 in
    record {
      lexemes = lexemes k later w.shape 0 sort.Formula;
      written = sym (ap (λ z. written_part k later (part_of z)) same) ∙ ap (written_part k later) w.is;
      shallow = subst (λ z. depth z ≤ 1024) same w.shallow;
      names = w.named sort.Formula;
      again = λ out us sp.
          let x = w.again out 0 sort.Formula us sp w.low in
          record {
            placed = x.placed;
            tree = x.tree;
            derived = x.derived;
            within = x.within;
            tokens = x.tokens;
            means = ap (λ z. and_then z stated) x.means ∙ (stated_at (is_ty bool_ty b.mid.ty) b.mid.at x.start b.mid.term t b.second).0;
          };
    }
