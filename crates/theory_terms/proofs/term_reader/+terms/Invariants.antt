use Rattle.std.proofs.Common.{◌≡◌, map, drop}
use Rattle.theory_terms.specs.Answers.{Good}
use Rattle.theory_terms.specs.Meanings.{meaning, applied_all}
use Rattle.theory_terms.specs.Numbers.{IsNumbered, AreNumbered, AreNoted, Keeps}
use Rattle.theory_terms.specs.inner.Scopes.{variables, numbered_types}
use Rattle.theory_terms.specs.inner.Parts.{meaning_of}
use Rattle.theory_terms.proofs.term_reader.+terms.Given as goal

abbrev pub invariant-arguments-loop-x : goal.invariant-arguments-loop-x
invariant-arguments-loop-x l =
    record {
      rest :
          applied_all (Good (meaning_of l.whole)) (map (meaning l.text l.decls.declared) (drop l.x-index l.xs)) (variables l.scope) ≡
          applied_all (Good (meaning_of l.fn.head)) (map (meaning l.text l.decls.declared) l.xs) (variables l.scope);
      whole : IsNumbered l.types l.whole.ty;
      keeps : Keeps l.fn.types l.types;
      decls : AreNoted l.types l.decls;
      scope : AreNumbered l.types (numbered_types l.scope);
    }
