-- Two parents: literals over both types, and their instances.
use Rattle.std.proofs.Common.{◌≡◌, ℕ, List}
use Rattle.fo_terms.specs.declared.term.FoTerm.{FoTerm}
use Rattle.fo_terms.specs.declared.literal.Literal.{Literal}
use Rattle.fo_terms.specs.declared.clause.Clause.{Clause}
use Rattle.fo_terms.specs.Substitution.{put_literals}
use Rattle.fo_terms.specs.Normal.{clause_variables}
use Rattle.fo_unify.specs.declared.subst.Bind.{Bind}
use Rattle.fo_infer.specs.Inferences.{above_all, renamed_apart}
use Rattle.tagged_terms.specs.Readings.{Signs, Types}
use Rattle.tagged_terms.specs.Clauses.{IsClause}
use Rattle.tagged_terms.specs.Fits.{AreClosed, Fits}
use Rattle.tagged_lines.specs.Variables.{beside, apart_from, finished, finished_apart}
use Rattle.tagged_lines.specs.Lifted.{IsInstance}
use Rattle.tagged_lines.proofs.Apart.{own_given, own_left, apart_fits}
use Rattle.tagged_lines.proofs.Instances.{clause_kept, fits_after, literals_after}
use Rattle.tagged_lines.proofs.Concluding.{instance_of}

-- both parents' types
abbrev pub both_types : Clause → Types → Types → Types
both_types p left right = beside (above_all (clause_variables p.literals)) left right

pub right_clause : (signs : Signs) (p q : Clause) (left right : Types) → AreClosed signs → IsClause signs right q.literals → IsClause signs (both_types p left right) (renamed_apart p q)
right_clause signs p q left right closed h = clause_kept signs right (both_types p left right) (apart_from p) closed (apart_fits signs p left right) q.literals h

pub left_instance : (signs : Signs) (p : Clause) (left right new : Types) (u : ℕ → FoTerm) → AreClosed signs → IsClause signs left p.literals → Fits signs (both_types p left right) new u → IsInstance signs left new u p.literals
left_instance signs p left right new u closed h fits = instance_of signs left (both_types p left right) new u p.literals closed h (own_left p left right) fits

pub right_instance : (signs : Signs) (p q : Clause) (left right new : Types) (binds : List Bind) (ls : List Literal) → AreClosed signs → IsClause signs right q.literals → Fits signs (both_types p left right) new (finished binds ls)
    → IsInstance signs right new (finished_apart p binds ls) q.literals
right_instance signs p q left right new binds ls closed h fits =
    instance_of signs right right new (finished_apart p binds ls) q.literals closed h (own_given q.literals right)
    (fits_after signs right (both_types p left right) new (apart_from p) (finished binds ls) closed (apart_fits signs p left right) fits)

-- the right parent's instance, made at once
pub right_at_once : (p q : Clause) (binds : List Bind) (ls : List Literal) → put_literals (finished binds ls) (renamed_apart p q) ≡ put_literals (finished_apart p binds ls) q.literals
right_at_once p q binds ls = literals_after (apart_from p) (finished binds ls) q.literals
