-- Marks let each clause through that subsumes.
use Rattle.std.proofs.Common.{◌≡◌, ℕ, List, sym, ap, subst, ◌∙◌, arith}
use Rattle.std.specs.Prelude.{Any, Contains}
use Rattle.std.proofs.lemmas.List.{get_or-map, length-map}
use Rattle.std.proofs.lemmas.List.Elements.{All-map, All-weaker}
use Rattle.fo_terms.specs.declared.term.FoTerm.{FoTerm}
use Rattle.fo_terms.specs.declared.literal.Literal.{Literal}
use Rattle.fo_terms.specs.declared.clause.Clause.{Clause}
use Rattle.fo_terms.specs.Substitution.{put_literal}
use Rattle.fo_infer.specs.Subsumption.{Subsumes}
use Rattle.cover_marks.specs.Marks.{literal_marks, clause_marks}
use Rattle.cover_marks.specs.Cover.{IsWithin, MayCover}
use Rattle.cover_marks.proofs.Insides.{literal_stays}

sent_within : (v : ℕ → FoTerm) (d : Clause) (l : Literal) → Contains d.literals (put_literal v l) → Any (IsWithin (literal_marks l)) (clause_marks d)
sent_within v d l at =
    let image = put_literal v l in
    let many = length-map d.literals literal_marks in
    let inside = at.1 in
    (at.0, literal_marks image, omega arith, get_or-map literal_marks d.literals at.0 image (literal_marks image) at.1 ∙ ap literal_marks at.2, literal_stays v l)

subsumer_covers : (c d : Clause) → Subsumes c d → MayCover (clause_marks c) (clause_marks d)
subsumer_covers c d h = (
  (let fewer = h.0 in let left = length-map c.literals literal_marks in let right = length-map d.literals literal_marks in omega arith),
  All-map (λ m. Any (IsWithin m) (clause_marks d)) literal_marks c.literals
      (All-weaker (λ l. Contains d.literals (put_literal h.1.0 l)) (λ l. Any (IsWithin (literal_marks l)) (clause_marks d)) (sent_within h.1.0 d) c.literals h.1.1),
)

pub marks_tell : (p q : List ℕ) (c d : Clause) → p ≡ clause_marks c → q ≡ clause_marks d → Subsumes c d → MayCover p q
marks_tell p q c d is it h = subst (λ m. MayCover m q) (sym is) (subst (MayCover (clause_marks c)) (sym it) (subsumer_covers c d h))
