-- The statements of a problem's clauses are its own.
use Rattle.std.proofs.Common.{◌≡◌, ℕ, ◌+◌, ◌<◌, List, [], ◌∷◌, ◌++◌, map, length, get_or, Option, Some, slice_get, refl, sym, ap, subst, ◌∙◌, arith, All}
use Rattle.std.proofs.lemmas.List.{length-map}
use Rattle.std.specs.Option.{option_map}
use Rattle.std.proofs.lemmas.List.Elements.{All-nil, All-cons, All-append, All-map}
use Rattle.std.proofs.lemmas.Option.{slice_get_within, get_or_from_slice_get, slice_get-get_or, slice_get-map}
use Rattle.fo_infer.specs.declared.refutation.Line.{Line}
use Rattle.fo_infer.specs.declared.refutation.Origin.TheVariants.{Input}
use Rattle.fo_infer.specs.Inferences.{plain_position}
use Rattle.fo_infer.specs.Lines.{FollowFrom}
use Rattle.tptp_syntax.specs.declared.problem.Statement.{Statement}
use Rattle.tptp_syntax.specs.declared.problem.Problem.{Problem}
use Rattle.fol_cnf.specs.declared.named_clause.NamedClause.{NamedClause}
use Rattle.fol_cnf.specs.Walks.{Clauses}
use Rattle.fol_cnf.specs.Clausified.{clausified, named, all_clauses, clauses_of}
use Rattle.tstp_print.specs.inner.Marking.{HasSource}
use Rattle.fol_prover.specs.Proving.{inputs_of, sources_of}
use Rattle.fol_prover.proofs.Following.{follows_input}

named_small : (n m : ℕ) (cs : Clauses) → n < m → All (λ c. c.statement < m) (named n cs)
named_small n m [] lt = All-nil (λ (c : NamedClause). c.statement < m)
named_small n m (c ∷ cs) lt = All-cons (λ (d : NamedClause). d.statement < m) (record { clause = record { literals = c }; statement = n }) (named n cs) lt (named_small n m cs lt)

all_small : (n k m : ℕ) (ss : List Statement) → m ≡ n + length ss → All (λ c. c.statement < m) (all_clauses n k ss)
all_small n k m [] e = All-nil (λ (c : NamedClause). c.statement < m)
all_small n k m (s ∷ ss) e =
    let w = clausified s.formula s.conjecture k in
    All-append (λ (c : NamedClause). c.statement < m) (named n w.clauses) (all_clauses (n + 1) w.after.symbol ss)
    (named_small n m w.clauses (omega arith)) (all_small (n + 1) w.after.symbol m ss (omega arith))

-- the statement of each clause is one of the problem's
pub source_small : (p : Problem) (k : ℕ) → k < length (sources_of (clauses_of p)) → get_or (sources_of (clauses_of p)) k 0 < length p.statements
source_small p k within =
    All-map (λ s. s < length p.statements) (λ (c : NamedClause). c.statement) (clauses_of p) (all_small 0 (length p.names) (length p.statements) p.statements (omega arith)) k 0 within

pub has_source : (p : Problem) (ls : List Line) → FollowFrom plain_position (inputs_of (clauses_of p)) [] ls → (n : ℕ) (l : Line) → slice_get ls n ≡ Some l →
    HasSource (sources_of (clauses_of p)) (length p.statements) l.origin
has_source p ls f n l is = record {
  within = λ k e. within k e;
  small = λ k e. source_small p k (within k e);
}
  where
    within : (k : ℕ) → l.origin ≡ Input k → k < length (sources_of (clauses_of p))
    within k e =
        let i = follows_input (inputs_of (clauses_of p)) ls f n l is k e in
        let w = slice_get_within (inputs_of (clauses_of p)) k i.input i.input_is in
        let a = length-map (clauses_of p) (λ (c : NamedClause). c.clause) in
        let b = length-map (clauses_of p) (λ (c : NamedClause). c.statement) in
        omega arith
