-- Clauses as first-order ones: encoded over the signs that occur in them.
use Rattle.std.specs.Prelude.{ℕ, List, [], map}
use Rattle.std.specs.List.{flat_map}
use Rattle.hol_terms.specs.declared.env.Env.{Env}
use Rattle.hol_terms.specs.declared.sig.Sig.{Sig}
use Rattle.hol_terms.specs.declared.term.Term.{Term}
use Rattle.hol_terms.specs.declared.literal.TypedLiteral.{TypedLiteral}
use Rattle.lambda_lift.specs.declared.table.Aux.{Aux}
use Rattle.formula_clauses.specs.Walks.{Clauses}
use Rattle.fol_encode.specs.declared.sign.Sign.{Sign}
use Rattle.fol_encode.specs.Occurring.{signs_for}
use Rattle.fol_encode.specs.Encoding.{atom_encoded}
use Rattle.fo_terms.specs.declared.literal.Literal.{Literal}
use Rattle.fo_terms.specs.declared.clause.Clause.{Clause}
use Rattle.goal_search.specs.declared.listing.Listing.{Listing}
use Rattle.goal_search.specs.Inputs.{listed}

abbrev pub atoms_in : List TypedLiteral → List Term
atoms_in ls = map (λ l. l.atom) ls

abbrev pub atoms : Clauses → List Term
atoms cs = flat_map atoms_in cs

-- the signs that occur, in their order
unfoldable pub signs_in : Sig → Listing → List Sign
signs_in sig l = signs_for sig l.table (atoms l.clauses)

abbrev pub encoded_literal : List Sign → TypedLiteral → Literal
encoded_literal signs l = record { positive = l.positive; atom = atom_encoded signs l.atom [] }

abbrev pub encoded_clause : List Sign → List TypedLiteral → Clause
encoded_clause signs ls = record { literals = map (encoded_literal signs) ls }

abbrev pub encoded : List Sign → Clauses → List Clause
encoded signs cs = map (encoded_clause signs) cs

-- what a search for the goal is given with these facts
unfoldable pub inputs : Env → List ℕ → List Clause
inputs env facts = let l = listed env facts in encoded (signs_in env.sig l) l.clauses
