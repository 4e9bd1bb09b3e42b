use Rattle.std.proofs.Common.{◌≡◌, ℕ, ◌∙◌, sym, ap, subst, rules}
use Rattle.hol_terms.specs.declared.ty.Ty.{Ty}
use Rattle.hol_terms.specs.declared.term.Term.{Term, roll-Term}
use Rattle.hol_terms.specs.declared.term.Term.TheOpen.{Term-F}
use Rattle.hol_terms.specs.declared.term.Term.TheVariants as terms
use Rattle.hol_terms.specs.declared.term.Term.TheFolds.{the_lemmas}
use Rattle.std.specs.Prelude.{Some, IfSome}
use Rattle.theory_terms.specs.Answers.{Good}
use Rattle.theory_terms.specs.Words.{word_at}
use Rattle.theory_terms.specs.Signature.{found}
use Rattle.theory_terms.specs.Meanings.{Meaning, named_as}
use Rattle.theory_terms.specs.Numbers.{IsNumbered}
use Rattle.theory_terms.specs.inner.Scopes.{variables, lent}
use Rattle.theory_terms.proofs.making.named.Goals as goal

abbrev part : ℕ → Term → Ty → Meaning
part at t a = record { at = at; term = t; ty = a }

pub returns-in_ok-copy_numbered-in-Some-clause-read : goal.returns-in_ok-copy_numbered-in-Some-clause-read
returns-in_ok-copy_numbered-in-Some-clause-read c = λ table noted scope.
    let name = word_at c.args.text.now c.args.word in
    let copied = c.in_ok-copy_numbered-in-Some.ensures in
    let numbered : IsNumbered table c.in-Some.ty.now = subst (λ o. IfSome o (λ v. IsNumbered table v.1.now)) c.in-Some.is (c.in_ok-find.ensures.numbered table scope) in
    let place : found name (variables c.args.scope.now) ≡ Some (c.in-Some.index, c.in-Some.ty.now.ty) =
    sym (ap (λ n. found n (variables c.args.scope.now)) c.word_at-name.ensures) ∙ sym c.in_ok-find.ensures.found ∙ ap lent c.in-Some.is in
    let variable : roll-Term (Term-F.Bound c.in-Some.index) ≡ terms.Bound c.in-Some.index = search (rules, the_lemmas) in
    let term : roll-Term (Term-F.Bound c.in-Some.index) ≡ c.in_ok-term-in-Some.term = variable ∙ sym c.in_ok-term-in-Some.ensures.is in
    let ty : c.in-Some.ty.now.ty ≡ c.in_ok-copy_numbered-in-Some.field-0.ty = sym (ap (λ t. t.ty) copied) in
    let whole : part c.args.word.start (roll-Term (Term-F.Bound c.in-Some.index)) c.in-Some.ty.now.ty ≡
    part c.args.word.start c.in_ok-term-in-Some.term c.in_ok-copy_numbered-in-Some.field-0.ty = λ i. part c.args.word.start (term i) (ty i) in (
      ap (λ o. named_as c.args.word.start o (found name c.args.decls.now.declared.consts)) place ∙
          ap Good (whole ∙ sym c.leaf.ensures.meaning),
      subst (IsNumbered table) (sym (c.leaf.ensures.ty ∙ copied)) numbered,
    )
