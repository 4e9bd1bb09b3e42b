-- One step of the loop over a goal's assumptions.
use Rattle.std.proofs.Common.{◌≡◌, ℕ, ◌+◌, ◌<◌, ◌∙◌, ap, sym, List, [], ◌∷◌, drop, length, get_or}
use Rattle.std.proofs.lemmas.List.{at_drop_more}
use Rattle.theory_syntax.specs.declared.tree.Hyp.{Hyp}
use Rattle.theory_terms.specs.declared.fault.TheoryFault.{TheoryFault}
use Rattle.theory_terms.specs.declared.fault.TheoryFault.TheVariants as fault
use Rattle.theory_terms.specs.Answers.{Good, and_then, Refused}
use Rattle.theory_reader.specs.declared.statement.Fact.{Fact}
use Rattle.theory_reader.specs.Declarations.{Declarations}
use Rattle.theory_reader.specs.Declaring.{assumption, assumptions}

module _ (text : List ℕ) (so : Declarations) (goal : List ℕ) (hyps : List Hyp) (i : ℕ) (h : Hyp) (before : List Fact)
    (within : i < length hyps) (is : h ≡ get_or hyps i h)
    (so_far : assumptions text so goal before (drop i hyps) ≡ assumptions text so goal [] hyps) where
  opened : assumptions text so goal [] hyps ≡ and_then (assumption text so goal before h) (λ more. assumptions text so goal more (drop (i + 1) hyps))
  opened =
      sym so_far ∙ at_drop_more (assumptions text so goal before) hyps i h within ∙
      ap (λ x. assumptions text so goal before (x ∷ drop (i + 1) hyps)) (sym is)

  pub one_more : (more : List Fact) → assumption text so goal before h ≡ Good more →
      assumptions text so goal more (drop (i + 1) hyps) ≡ assumptions text so goal [] hyps
  one_more more e = sym (opened ∙ ap (λ a. and_then a (λ more. assumptions text so goal more (drop (i + 1) hyps))) e)

  pub refused : (e : TheoryFault) → Refused (assumption text so goal before h) e → Refused (assumptions text so goal [] hyps) e
  refused (fault.At at k) r = opened ∙ ap (λ a. and_then a (λ more. assumptions text so goal more (drop (i + 1) hyps))) r
  refused fault.NoMemory r = tt
